-- `verdicts::list_pass` meets its contract: what it writes is the line. Assumes nothing.
use Rattle.std.proofs.Common.{arith, rules}
use Rattle.listing.proofs.WriteLaws.{wrote-is}
use Rattle.verdicts.proofs.CheckLaws.{pass-is, pass-count}
use Rattle.verdicts.proofs.list_pass.Goals as goal

pub list_by-requires : goal.list_by-requires
list_by-requires c = let few = pass-count c.args.n (omega arith) in record { at = λ a. search rules }

pub returns : goal.returns
returns c =
    c.list_by.ensures _ (record { writes = λ p q n e. wrote-is (pass-is _) (search rules) }) (λ t. absurd cc)
