-- The strategy ends where firings of the program's rules lead.
--   Reach                a state reached by a number of firings
--   firing-fires         an event that fires a rule where it fits
--   normalise-reach      the strategy's end is reached by as many firings as are counted
-- That no rule fits there is proofs/Runs.antt. Assumes nothing.
use Prim.Native.Nat.{ℕ, zero, suc, ◌+◌}
use native.Mathlib.Nat.{add-zero}
use native.Mathlib.Omega.{arith}
use mathlib.Core.List.{List}
use mathlib.Core.Option.{Option, none, some}
use mathlib.Core.Path.{◌≡◌, refl, sym}
use lib.ListN.{get_elem?}
use Rattle.text.specs.Lists.{onward}
use Rattle.semantics.specs.Terms.{Rule, Program, State}
use Rattle.semantics.specs.Firing.{fire_at}
use Rattle.semantics.specs.Derivations.{Progress, firing}
use Rattle.semantics.specs.Strategy.{advance, normalise}
use Rattle.semantics.proofs.Choosing.{advance-fires}

-- a state reached from another by a number of firings of the rules of a list
pub data Reach (rs : List Rule) : ℕ → State → State → Type 0 where
  arrived : {s : State} → Reach rs 0 s s
  fires :
      {n : ℕ} {s t u : State} (k : ℕ) (r : Rule) (ps : List ℕ) → get_elem? rs k ≡ some r → fire_at r ps s ≡ some t → Reach rs n t u
      → Reach rs (suc n) s u

-- an event that fires a rule where it fits
pub firing-fires :
    (p : Program) (k : ℕ) (r : Rule) (ps : List ℕ) (d : Progress) (s t : State) → d.state ≡ s → get_elem? p.rules k ≡ some r
    → fire_at r ps s ≡ some t → firing p k ps d ≡ record { state = t; entered = d.entered; firings = suc d.firings }
unfolding firing
firing-fires p k r ps d s t e a f = rw (a, e, f)

-- the end is reached by as many firings as are counted
pub normalise-reach :
    (rs : List Rule) (fuel : ℕ) (s : State) (f : ℕ)
    → (n : ℕ) × Reach rs n s (normalise fuel rs s f).state × ((normalise fuel rs s f).firings ≡ f + n)
unfolding normalise
normalise-reach rs zero s f = (0, arrived, sym (add-zero f))
normalise-reach rs (suc fuel) s f = go (normalise-reach rs fuel) (advance rs s) refl
  where
    go :
        ((t : State) (f : ℕ)
        → (n : ℕ) × Reach rs n t (normalise fuel rs t f).state × ((normalise fuel rs t f).firings ≡ f + n))
        → (o : Option State) → advance rs s ≡ o
        → (n : ℕ) × Reach rs n s (onward o (record { state = s; firings = f }) (λ t. normalise fuel rs t (suc f))).state
        × ((onward o (record { state = s; firings = f }) (λ t. normalise fuel rs t (suc f))).firings ≡ f + n)
    go more none e = (0, arrived, sym (add-zero f))
    go more (some t) e =
        let a = advance-fires rs s t e in
        let h = more t (suc f) in
        (suc h.0, fires a.0 a.1 a.2 a.3 a.4 h.1, omega (arith, h.2))
