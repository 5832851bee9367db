-- `listing::writing::put_decimal` calls itself with a tenth of the number, which is less. Assumes nothing.
use Rattle.listing.proofs.writing.+put_decimal.Given as goal

abbrev pub decreases-put_decimal : goal.decreases-put_decimal
decreases-put_decimal l = l.n
