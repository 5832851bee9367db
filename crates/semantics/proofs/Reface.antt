-- Change of face: a configuration with a face whose terms are made of the terms of its own. The rules never look at the face, so
-- what holds of a configuration holds with any such face.
--   entry, reface              the term at a place of a face; the configuration with the new face
--   reface-iso, -same          equal configurations remain equal
--   reface-step, -steps        steps remain steps
-- Assumes nothing.
use Prim.Native.Nat.{ℕ, zero, suc}
use mathlib.Core.List.{List, [], ◌∷◌, map}
use mathlib.Core.Path.{◌≡◌, refl, sym, ap, ap₂, subst}
use Rattle.semantics.specs.Terms.{Rule}
use Rattle.semantics.specs.Variants.{Pointwise, empty, each}
use Rattle.semantics.proofs.Configurations.{Tm, con, var, Atom, sub, old, Config, Inconsistent, Iso, Same, iso, both_fail}
use Rattle.semantics.proofs.Configurations.{fire_c, Step, step, Steps, stay, go}

-- the term at a place of a face
abbrev pub entry : {X : Type 0} → List (Tm X) → ℕ → Tm X
entry [] x = con 0
entry (t ∷ face) zero = t
entry (t ∷ face) (suc x) = entry face x

-- the configuration whose face is made of the terms of its face, which the terms ts number
abbrev pub reface : List (Tm ℕ) → Config → Config
reface ts C = record { Var = C.Var; face = map (sub (entry C.face)) ts; eqs = C.eqs; store = C.store }

-- related faces have related terms at each place
entry-related :
    {X Y : Type 0} {R : Tm X → Tm Y → Type 0} {l : List (Tm X)} {m : List (Tm Y)} → R (con 0) (con 0) → Pointwise R l m
    → (x : ℕ) → R (entry l x) (entry m x)
entry-related z empty x = z
entry-related z (each r p) zero = r
entry-related z (each r p) (suc x) = entry-related z p x

face-related :
    {X Y : Type 0} {R : Tm X → Tm Y → Type 0} {l : List (Tm X)} {m : List (Tm Y)} → ((c : ℕ) → R (con c) (con c))
    → Pointwise R l m → (ts : List (Tm ℕ)) → Pointwise R (map (sub (entry l)) ts) (map (sub (entry m)) ts)
face-related fixes p [] = empty
face-related fixes p (con c ∷ ts) = each (fixes c) (face-related fixes p ts)
face-related fixes p (var x ∷ ts) = each (entry-related (fixes 0) p x) (face-related fixes p ts)

-- equal configurations remain equal
pub reface-iso : {C D : Config} (ts : List (Tm ℕ)) → Iso C D → Iso (reface ts C) (reface ts D)
reface-iso ts I = record {
  R = I.R;
  core = I.core;
  faces = face-related I.core.fixes I.faces ts;
  stores = I.stores;
}

-- a failed configuration remains failed
pub reface-inconsistent : {C : Config} (ts : List (Tm ℕ)) → Inconsistent C → Inconsistent (reface ts C)
reface-inconsistent ts n = record { one = n.one; two = n.two; apart = n.apart; clash = n.clash }

pub reface-same : {C D : Config} (ts : List (Tm ℕ)) → Same C D → Same (reface ts C) (reface ts D)
reface-same ts (iso I) = iso (reface-iso ts I)
reface-same ts (both_fail n m) = both_fail (reface-inconsistent ts n) (reface-inconsistent ts m)

-- the terms of a face as old terms
entry_old : {X : Type 0} (Z : Type 0) (l : List (Tm X)) (x : ℕ) → entry (map (sub (old {Z = Z})) l) x ≡ sub old (entry l x)
entry_old Z [] x = refl
entry_old Z (t ∷ l) zero = refl
entry_old Z (t ∷ l) (suc x) = entry_old Z l x

face-old :
    {X : Type 0} (Z : Type 0) (l : List (Tm X)) (ts : List (Tm ℕ))
    → map (sub (entry (map (sub (old {Z = Z})) l))) ts ≡ map (sub old) (map (sub (entry l)) ts)
face-old Z l [] = refl
face-old Z l (con c ∷ ts) = ap (con c ∷◌) (face-old Z l ts)
face-old Z l (var x ∷ ts) = ap₂ ◌∷◌ (entry_old Z l x) (face-old Z l ts)

-- firing with the new face
pub reface-fire :
    (ts : List (Tm ℕ)) (r : Rule) (C : Config) (M L : List (Atom C.Var))
    → fire_c r (reface ts C) M L ≡ reface ts (fire_c r C M L)
reface-fire ts r C M L = λ i. record {
  Var = (fire_c r C M L).Var;
  face = sym (face-old ℕ C.face ts) i;
  eqs = (fire_c r C M L).eqs;
  store = (fire_c r C M L).store;
}

-- steps remain steps
pub reface-step : {rs : List Rule} {C D : Config} (ts : List (Tm ℕ)) → Step rs C D → Step rs (reface ts C) (reface ts D)
reface-step {rs} {C} ts (step r M L i s f) = subst (Step rs (reface ts C)) (reface-fire ts r C M L) (step r M L i s f)

pub reface-steps : {rs : List Rule} {C D : Config} (ts : List (Tm ℕ)) → Steps rs C D → Steps rs (reface ts C) (reface ts D)
reface-steps ts stay = stay
reface-steps ts (go s t) = go (reface-step ts s) (reface-steps ts t)
