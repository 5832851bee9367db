-- Laws of a fault that is given its line.
--   at-err, at-ok     what is known of a result whose fault is given its line
-- Assumes nothing.
use Rattle.std.proofs.Common.{◌≡◌, refl, sym, ◌∙◌}
use Rattle.std.specs.Prelude.{Result, Ok, Err, MatchResult, IsErrAnd}
use Rattle.faults.specs.declared.Fault.{Fault}
use Rattle.faults.specs.declared.FaultAt.{FaultAt}

pub at-err :
    {T : Type 0} (P : Fault → FaultAt → Type 0) (r : Result T Fault) (m : Result T FaultAt) (z : FaultAt) → m ≡ Err z
    → MatchResult r (λ x. m ≡ Ok x) (λ e. IsErrAnd m (P e)) → (e : Fault) × (r ≡ Err e) × P e z
at-err P (Ok x) m z q h = absurd (let y : Ok x ≡ Err z = sym h ∙ q in cc)
at-err P (Err e) m z q h = (e, refl, rw q at h)

pub at-ok :
    {T : Type 0} (P : Fault → FaultAt → Type 0) (r : Result T Fault) (m : Result T FaultAt) (x : T) → m ≡ Ok x
    → MatchResult r (λ y. m ≡ Ok y) (λ e. IsErrAnd m (P e)) → r ≡ Ok x
at-ok P (Ok y) m x q h = let z : Ok y ≡ Ok x = sym h ∙ q in cc
at-ok P (Err e) m x q h = absurd (let z : ⊥ = rw q at h in z)
