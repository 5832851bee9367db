-- The comparison of states, by placing constraints and trying partners, is exact: it says that two states are equal exactly
-- where they are variants of each other.
--   place-sound, place-complete      placing the constraints that are left at positions that are not used
--   same_state-sound                  states that it finds equal are variants
--   same_state-complete               it finds variants equal
-- Assumes nothing.
use Prim.Native.Nat.{ℕ, zero, suc, ◌+◌}
use native.Mathlib.Nat.{zero-add, suc-add, add-suc, add-zero}
use native.Mathlib.Omega.{arith}
use mathlib.Core.Bool.{Bool, true, false, cond}
use mathlib.Core.List.{List, [], ◌∷◌, ◌++◌}
use mathlib.Core.Option.{Option, none, some}
use mathlib.Core.Path.{◌≡◌, refl, sym}
use lib.Dec.{eqb}
use lib.ListN.{length, get_elem?}
use Rattle.text.specs.Lists.{onward, has}
use Rattle.semantics.specs.Terms.{Constraint, State, failed, live}
use Rattle.semantics.specs.Firing.{without}
use Rattle.semantics.specs.Variants.{OneToOne, ConstraintVariant, Inserted}
use Rattle.semantics.specs.Variants.{SameMultiset, done, put, Variant, Pair, pair_terms, pair_constraint}
use Rattle.semantics.specs.Variants.{try_partners, place, same_state, are_partners}
use Rattle.semantics.proofs.Configurations.{Or, inl, inr}
use Rattle.semantics.proofs.Multisets.{inserted-length, multiset-length}
use Rattle.semantics.proofs.Options.{true-false, none-some, eqb-equal}
use Rattle.text.proofs.Bools.{and-true}
use Rattle.semantics.proofs.Bools.{eqb_same, or_cases, or_right}
use Rattle.semantics.proofs.Removal.{without-none, without-one, without-found}
use Rattle.semantics.proofs.Pairs.{Paired, Inside, Grown, grown-same, grown-chain, unpaired-one-to-one}
use Rattle.semantics.proofs.Pairs.{terms-inside, constraint-inside}
use Rattle.semantics.proofs.Pairs.{pair_terms-sound, pair_constraint-sound, pair_terms-complete, pair_constraint-complete}

-- a list of length 0 is empty
length-empty {ℓ} : {A : Type ℓ} (l : List A) → length l ≡ 0 → l ≡ []
length-empty [] e = refl
length-empty (a ∷ l) e = absurd (omega arith)

-- what a test of partners that passes has found
tried :
    (k : ℕ) (ds : List Constraint) (placed : ℕ → Constraint → Bool) → try_partners k ds placed ≡ true
    → (i : ℕ) × (d : Constraint) × (get_elem? ds i ≡ some d) × (placed (k + i) d ≡ true)
unfolding try_partners
tried k [] placed e = true-false e refl
tried k (d ∷ ds) placed e = go (or_cases (placed k d) (try_partners (suc k) ds placed) e) (tried (suc k) ds placed)
  where
    go :
        Or (placed k d ≡ true) (try_partners (suc k) ds placed ≡ true)
        → (try_partners (suc k) ds placed ≡ true
        → (i : ℕ) × (c : Constraint) × (get_elem? ds i ≡ some c) × (placed (suc k + i) c ≡ true))
        → (i : ℕ) × (c : Constraint) × (get_elem? (d ∷ ds) i ≡ some c) × (placed (k + i) c ≡ true)
    go (inl t) more = (0, d, refl, rw add-zero t)
    go (inr t) more = let m = more t in (suc m.0, m.1, m.2, rw (add-suc, ← suc-add) m.3)

-- one partner that will do is enough
trying :
    (k : ℕ) (ds : List Constraint) (placed : ℕ → Constraint → Bool) (i : ℕ) (d : Constraint) → get_elem? ds i ≡ some d
    → placed (k + i) d ≡ true → try_partners k ds placed ≡ true
unfolding try_partners
trying k [] placed i d s t = none-some refl s
trying k (c ∷ ds) placed zero d s t =
    let e : c ≡ d = cc in
    let u : placed k c ≡ true = rw e (rw add-zero at t) in
    rw u
trying k (c ∷ ds) placed (suc i) d s t =
    or_right (placed k c) (try_partners (suc k) ds placed)
    (trying (suc k) ds placed i d s (rw (add-suc, ← suc-add) at t))

-- a test that the attempt of a partner passes: the position is not used, and the constraints pair
attempted :
    (b : Bool) (o : Option (List Pair)) (on : List Pair → Bool) → cond b false (onward o false on) ≡ true
    → (b ≡ false) × (ps : List Pair) × (o ≡ some ps) × (on ps ≡ true)
attempted true o on e = true-false e refl
attempted false none on e = true-false e refl
attempted false (some ps) on e = (refl, ps, refl, e)

-- whether a partner at a position will do for a constraint, the others being placed behind it
abbrev attempt : Constraint → List Constraint → List Constraint → List ℕ → List Pair → ℕ → Constraint → Bool
attempt c cs ds used ps =
    λ p d. cond (has p used) false (onward (pair_constraint c d ps) false (place cs ds (used ++ (p ∷ []))))

-- constraints placed, under more pairs than there are yet
abbrev Placed : List Constraint → List Constraint → List Pair → Type 0
Placed cs m ps = (qs : List Pair) × Grown ps qs × SameMultiset (ConstraintVariant (Paired qs)) cs m

-- the first constraint with its partner, and the others
placed-join :
    (c d : Constraint) (cs m n : List Constraint) (ps qs : List Pair) → Grown ps qs → ConstraintVariant (Paired qs) c d
    → Inserted d m n → Placed cs m qs → Placed (c ∷ cs) n ps
placed-join c d cs m n ps qs g v i (rs, h, s) = (rs, grown-chain g h, put (constraint-inside h.holds v) i s)

-- constraints that are placed at the positions not used are equal to those there, if there are as many
place-sound :
    (cs ds : List Constraint) (used : List ℕ) (ps : List Pair) → length cs ≡ length (without 0 used ds)
    → place cs ds used ps ≡ true → Placed cs (without 0 used ds) ps
unfolding place
place-sound [] ds used ps l e = (ps, grown-same ps, rw (length-empty (without 0 used ds) (sym l)) done)
place-sound (c ∷ cs) ds used ps l e =
    let t = tried 0 ds (attempt c cs ds used ps) e in
    let on = place cs ds (used ++ (t.0 ∷ [])) in
    let u = attempted (has t.0 used) (pair_constraint c t.1 ps) on (rw zero-add at t.3) in
    let i = without-one 0 used ds t.0 t.0 t.1 (omega arith) t.2 u.0 in
    let f = pair_constraint-sound c t.1 ps u.1 u.2 in
    let r = place-sound cs ds (used ++ (t.0 ∷ [])) u.1 (omega (arith, inserted-length i)) u.3 in
    placed-join c t.1 cs (without 0 (used ++ (t.0 ∷ [])) ds) (without 0 used ds) ps u.1 f.0 f.1 i r

-- constraints that a renaming makes equal to those at the positions not used can be placed
place-complete :
    (ρ : ℕ → ℕ → Type 0) → OneToOne ρ → (cs ds : List Constraint) (used : List ℕ) (ps : List Pair) (rest : List Constraint)
    → Inside (Paired ps) ρ → rest ≡ without 0 used ds → SameMultiset (ConstraintVariant ρ) cs rest → place cs ds used ps ≡ true
unfolding place
place-complete ρ o cs ds used ps rest i e done = refl
place-complete ρ o cs ds used ps rest i e (put {a = c} {b = d} {l = l} {m = m} r j s) =
    let a = without-found 0 used ds d m rest e j in
    let f = pair_constraint-complete ρ o c d ps i r in
    let at : a.position ≡ a.at = omega (arith, a.counted) in
    let free : has a.at used ≡ false = rw at at a.free in
    let on = place-complete ρ o l ds (used ++ (a.at ∷ [])) f.0 m f.2 (rw at at a.rest) s in
    trying 0 ds (attempt c l ds used ps) a.at d a.stands (rw (zero-add, free, f.1) on)

-- states that the comparison finds equal are variants
pub same_state-sound : (s t : State) → same_state s t ≡ true → Variant s t
unfolding same_state
same_state-sound failed failed e = tt
same_state-sound failed (live n c ds) e = true-false e refl
same_state-sound (live m b cs) failed e = true-false e refl
same_state-sound (live m b cs) (live n c ds) e =
    let u = and-true (eqb (length cs) (length ds)) (onward (pair_terms b c []) false (place cs ds [])) e in
    let v = attempted false (pair_terms b c []) (place cs ds []) u.1 in
    let f = pair_terms-sound b c [] v.1 v.2 in
    let long : length cs ≡ length (without 0 [] ds) = rw (without-none 0 ds) (eqb-equal u.0) in
    let r = place-sound cs ds [] v.1 long v.3 in
    let one = r.1.one_to_one (f.0.one_to_one unpaired-one-to-one) in
    (Paired r.0, one, terms-inside r.1.holds f.1, rw without-none at r.2)

-- and it finds variants equal
pub same_state-complete : (s t : State) → Variant s t → same_state s t ≡ true
unfolding same_state are_partners
same_state-complete failed failed v = refl
same_state-complete failed (live n c ds) v = absurd v.lower
same_state-complete (live m b cs) failed v = absurd v.lower
same_state-complete (live m b cs) (live n c ds) v =
    let f = pair_terms-complete v.0 v.1 b c [] (λ x y h. true-false h refl) v.2 in
    let p = place-complete v.0 v.1 cs ds [] f.0 ds f.2 (sym (without-none 0 ds)) v.3 in
    rw (multiset-length v.3, eqb_same (length ds), f.1) p
