-- The starred cases hold: `starred-hold`, one proof for all rows of the table in specs/Starred.antt; and `starred-unequal`, the
-- last two rows, of the relation `Variant`.
-- Assumes nothing.
use mathlib.Core.Path.{◌≡◌, refl}
use mathlib.Core.List.{map}
use Rattle.semantics.specs.Terms.{var}
use Rattle.semantics.specs.Variants.{Variant}
use Rattle.semantics.proofs.Options.{true-false}
use Rattle.semantics.proofs.Comparison.{same_state-complete}
use Rattle.text.proofs.Opened.{opened as textOpened}
use Rattle.semantics.proofs.Opened.{opened as semanticsOpened}
use Rattle.syntax.proofs.Opened.{opened as syntaxOpened}
use Rattle.listing.proofs.Opened.{opened as listingOpened}
use Rattle.verdicts.proofs.Opened.{opened as verdictsOpened}
use Rattle.replies.proofs.Opened.{opened}
use Rattle.replies.specs.Starred.{shown, holding, starred}

-- each row of the table shows what it must
pub starred-hold : map (λ r. shown r.case) starred ≡ map (λ r. r.expected) starred
unfolding textOpened semanticsOpened syntaxOpened listingOpened verdictsOpened opened
starred-hold = refl

-- p(U1,U2) and p(U1,U1) are not equal, either way round
pub starred-unequal :
    (Variant (holding (var 0) (var 1)) (holding (var 0) (var 0)) → ⊥)
    × (Variant (holding (var 0) (var 0)) (holding (var 0) (var 1)) → ⊥)
unfolding semanticsOpened opened
starred-unequal = (
  λ v. true-false (same_state-complete (holding (var 0) (var 1)) (holding (var 0) (var 0)) v) refl,
  λ v. true-false (same_state-complete (holding (var 0) (var 0)) (holding (var 0) (var 1)) v) refl,
)
