-- The definitions' terms, constraints and equations, and the same over ℕ: lifting loses nothing.
--   down, down_atom            back from what is over ℕ
--   down-lift, lift-down      the two are inverse on terms, and likewise on atoms and on lists of atoms
-- Assumes nothing.
use Prim.Native.Nat.{ℕ}
use mathlib.Core.List.{List, [], ◌∷◌, map}
use mathlib.Core.Path.{◌≡◌, refl, ap₂}
use Rattle.semantics.specs.Terms.{Term, Constraint}
use Rattle.semantics.specs.Terms as T
use Rattle.semantics.proofs.Configurations.{Tm, con, var, Atom, lift, lift_atom}

-- the term of the definitions
abbrev pub down : Tm ℕ → Term
down (con c) = T.con c
down (var x) = T.var x

abbrev pub down_atom : Atom ℕ → Constraint
down_atom a = record { symbol = a.symbol; terms = map down a.args }

pub down-lift : (t : Term) → down (lift t) ≡ t
down-lift (T.con c) = refl
down-lift (T.var x) = refl

pub lift-down : (t : Tm ℕ) → lift (down t) ≡ t
lift-down (con c) = refl
lift-down (var x) = refl

-- maps that undo one another on elements do so on lists
pub map-inverse : {A B : Type 0} (f : A → B) (g : B → A) → ((a : A) → g (f a) ≡ a) → (l : List A) → map g (map f l) ≡ l
map-inverse f g h [] = refl
map-inverse f g h (a ∷ l) = ap₂ ◌∷◌ (h a) (map-inverse f g h l)

pub down_atom-lift_atom : (c : Constraint) → down_atom (lift_atom c) ≡ c
down_atom-lift_atom c = λ i. record { symbol = c.symbol; terms = map-inverse lift down down-lift c.terms i }

pub lift_atom-down_atom : (a : Atom ℕ) → lift_atom (down_atom a) ≡ a
lift_atom-down_atom a = λ i. record { symbol = a.symbol; args = map-inverse down lift lift-down a.args i }
