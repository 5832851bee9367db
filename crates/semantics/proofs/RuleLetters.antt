-- All variables of the rules of a well-formed program are letters (document 01), in heads, bodies and equations.
--   AllLetters, program-letters      such a rule; those of a well-formed program
-- Assumes nothing.
use Prim.Native.Nat.{ℕ}
use mathlib.Core.Bool.{true}
use mathlib.Core.Option.{some}
use mathlib.Core.Path.{◌≡◌}
use lib.ListN.{get_elem?}
use Rattle.semantics.specs.Terms.{Rule, Program, alphabet, is_well_formed}
use Rattle.semantics.proofs.Configurations.{All}
use Rattle.semantics.proofs.Multisets.{all-member}
use Rattle.semantics.proofs.MatchedTerms.{ConstraintBelow}
use Rattle.semantics.proofs.FireLaws.{Lettered}
use Rattle.semantics.proofs.Letters.{program-lettered}
use Rattle.semantics.proofs.Listings.{at-member}
use Rattle.semantics.proofs.OverlapGoals.{well_formed-heads}

-- all variables of a rule are letters
pub record AllLetters (r : Rule) : Type 0 where
  pub heads : All (ConstraintBelow alphabet) r.heads
  pub others : Lettered r

-- so it is for the rules of a well-formed program
pub program-letters :
    (p : Program) (n : ℕ) {r : Rule} → is_well_formed p ≡ true → get_elem? p.rules n ≡ some r → AllLetters r
program-letters p n w i = record {
  heads = (well_formed-heads p n w i).1;
  others = all-member (program-lettered p w) (at-member p.rules n i);
}
