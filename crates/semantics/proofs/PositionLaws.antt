-- Positions in a list of constraints: what stands at chosen positions, and what `without` leaves, are the list.
--   Stands, Fresh            a constraint stands at a position; positions that are distinct and not chosen yet
--   without-taken            the constraints at fresh positions, and what is left, are what was there
--   without-positions        conversely: a part of what was there stands at fresh positions, and the rest is left
-- Assumes nothing.
use Prim.Native.Nat.{ℕ}
use mathlib.Core.Bool.{false}
use mathlib.Core.List.{List, [], ◌∷◌, ◌++◌, append_assoc, append-nil}
use mathlib.Core.Option.{some}
use mathlib.Core.Path.{◌≡◌, refl, sym, ap, ap₂, ◌∙◌}
use native.Mathlib.Omega.{arith}
use lib.ListN.{get_elem?}
use Rattle.text.specs.Lists.{has}
use Rattle.semantics.specs.Terms.{Constraint}
use Rattle.semantics.specs.Firing.{without}
use Rattle.semantics.specs.Variants.{Pointwise, empty, each, SameMultiset, put}
use Rattle.semantics.proofs.Multisets.{multiset-refl, multiset-back}
use Rattle.semantics.proofs.Removal.{without-none, without-one, without-found}

-- a constraint stands at a position, counted from 0
abbrev pub Stands : List Constraint → ℕ → Constraint → Type 0
Stands cs p c = get_elem? cs p ≡ some c

-- one constraint stands at a position
pub stands_same :
    (cs : List Constraint) {ps : List ℕ} {M N : List Constraint} → Pointwise (Stands cs) ps M → Pointwise (Stands cs) ps N → M ≡ N
stands_same cs empty empty = refl
stands_same cs (each {b = c} s ss) (each {b = d} t ts) = ap₂ ◌∷◌ (let e : c ≡ d = cc in e) (stands_same cs ss ts)

-- positions none of which is chosen, each of them chosen before the next
abbrev pub Fresh : List ℕ → List ℕ → Type 0
Fresh chosen [] = Unit {0}
Fresh chosen (p ∷ ps) = (has p chosen ≡ false) × Fresh (chosen ++ (p ∷ [])) ps

-- the constraints at fresh positions, with what is left, are what was left before
taken-from :
    (cs : List Constraint) (chosen ps : List ℕ) {M : List Constraint} → Fresh chosen ps → Pointwise (Stands cs) ps M
    → SameMultiset ◌≡◌ (M ++ without 0 (chosen ++ ps) cs) (without 0 chosen cs)
taken-from cs chosen [] f empty = rw (append-nil chosen) (multiset-refl (λ c. refl) (without 0 chosen cs))
taken-from cs chosen (p ∷ ps) f (each s h) =
    put refl (without-one 0 chosen cs p p _ (omega arith) s f.0)
    (rw append_assoc at (taken-from cs (chosen ++ (p ∷ [])) ps f.1 h))

-- the constraints at distinct positions, and what is left, are the list
pub without-taken :
    (cs : List Constraint) (ps : List ℕ) {M : List Constraint} → Fresh [] ps → Pointwise (Stands cs) ps M
    → SameMultiset ◌≡◌ cs (M ++ without 0 ps cs)
without-taken cs ps f h = rw (without-none 0 cs) at (multiset-back (taken-from cs [] ps f h))

-- of what is left, a part stands at fresh positions
positions-from :
    (cs : List Constraint) (chosen : List ℕ) (M L : List Constraint) → SameMultiset ◌≡◌ (M ++ L) (without 0 chosen cs)
    → (ps : List ℕ) × Fresh chosen ps × Pointwise (Stands cs) ps M × SameMultiset ◌≡◌ (without 0 (chosen ++ ps) cs) L
positions-from cs chosen [] L s = ([], tt, empty, rw (append-nil chosen) (multiset-back s))
positions-from cs chosen (c ∷ M) L (put r i s) =
    let f = without-found 0 chosen cs _ _ _ refl i in
    let (ps, fresh, stand, rest) = positions-from cs (chosen ++ (f.position ∷ [])) M L (rw f.rest at s) in
    let e : f.position ≡ f.at = omega (arith, f.counted) in
    (f.position ∷ ps, (f.free, fresh), each (ap (get_elem? cs) e ∙ f.stands ∙ ap some (sym r)) stand, rw append_assoc at rest)

-- a part of a list stands at distinct positions, and the rest is left
pub without-positions :
    (cs M L : List Constraint) → SameMultiset ◌≡◌ cs (M ++ L)
    → (ps : List ℕ) × Fresh [] ps × Pointwise (Stands cs) ps M × SameMultiset ◌≡◌ (without 0 ps cs) L
without-positions cs M L s = positions-from cs [] M L (rw (without-none 0 cs) (multiset-back s))
