-- The renaming that the comparison of states builds, as a list of pairs: it is one to one, it only grows, and it stays inside
-- every renaming that makes the compared terms equal.
--   Paired                   the renaming of a list of pairs, as a relation
--   Grown                    a list of pairs that is one to one if another is, and holds it
--   pair_constraint-sound     what is paired is made equal by the renaming
--   pair_constraint-complete  what a renaming makes equal is paired, inside that renaming
-- Assumes nothing.
use Prim.Native.Nat.{ℕ}
use mathlib.Core.Bool.{Bool, true, false, cond, ◌&&◌, ◌||◌}
use mathlib.Core.List.{List, [], ◌∷◌}
use mathlib.Core.Option.{none, some}
use mathlib.Core.Path.{◌≡◌, refl, sym}
use lib.Dec.{eqb}
use Rattle.semantics.specs.Terms.{Term, con, var, Constraint}
use Rattle.semantics.specs.Variants.{OneToOne, TermVariant, same_con, partners, Pointwise, empty, each, ConstraintVariant}
use Rattle.semantics.specs.Variants.{Pair, are_partners, are_paired, pair_term, pair_terms, pair_constraint}
use Rattle.semantics.proofs.Configurations.{Or, inl, inr}
use Rattle.semantics.proofs.Multisets.{pointwise-mono}
use Rattle.semantics.proofs.Options.{true-false, none-some, eqb-equal, bind-some, cond-some}
use Rattle.text.proofs.Bools.{and-true, or-false}
use Rattle.semantics.proofs.Bools.{eqb_same, or_cases, or_right}

-- the renaming of a list of pairs
abbrev pub Paired : List Pair → ℕ → ℕ → Type 0
Paired ps x y = are_partners x y ps ≡ true

-- a renaming inside another
abbrev pub Inside : (ℕ → ℕ → Type 0) → (ℕ → ℕ → Type 0) → Type 0
Inside ρ σ = (x y : ℕ) → ρ x y → σ x y

-- a pair of a list with one more: the new one or an old one
paired-cases : (a b : ℕ) (p : Pair) (ps : List Pair) → Paired (p ∷ ps) a b → Or ((a ≡ p.left) × (b ≡ p.right)) (Paired ps a b)
unfolding are_partners
paired-cases a b p ps e = go (or_cases (eqb a p.left && eqb b p.right) (are_partners a b ps) e)
  where
    go :
        Or ((eqb a p.left && eqb b p.right) ≡ true) (Paired ps a b) → Or ((a ≡ p.left) × (b ≡ p.right)) (Paired ps a b)
    go (inl t) =
        let u = and-true (eqb a p.left) (eqb b p.right) t in
        inl (eqb-equal u.0, eqb-equal u.1)
    go (inr t) = inr t

-- the new pair, and the old ones
paired-new : (x y : ℕ) (ps : List Pair) → Paired (record { left = x; right = y } ∷ ps) x y
unfolding are_partners
paired-new x y ps = rw (eqb_same x, eqb_same y)

-- the pairs of a list are in it with one more
paired-old : (p : Pair) (ps : List Pair) → Inside (Paired ps) (Paired (p ∷ ps))
unfolding are_partners
paired-old p ps a b e = or_right (eqb a p.left && eqb b p.right) (are_partners a b ps) e

-- a variable without a partner is in no pair
unpaired :
    (x y : ℕ) (ps : List Pair) → are_paired x y ps ≡ false → (a b : ℕ) → Paired ps a b → Or (a ≡ x) (b ≡ y) → ⊥
unfolding are_paired are_partners
unpaired x y [] e a b h o = true-false h refl
unpaired x y (p ∷ ps) e a b h o =
    let u = or-false (eqb x p.left || eqb y p.right) (are_paired x y ps) e in
    let v = or-false (eqb x p.left) (eqb y p.right) u.0 in
    go v.0 v.1 (paired-cases a b p ps h) o (unpaired x y ps u.1 a b)
  where
    go :
        eqb x p.left ≡ false → eqb y p.right ≡ false → Or ((a ≡ p.left) × (b ≡ p.right)) (Paired ps a b)
        → Or (a ≡ x) (b ≡ y) → (Paired ps a b → Or (a ≡ x) (b ≡ y) → ⊥) → ⊥
    go f g (inl c) (inl q) more = true-false (rw (sym q, c.0) (eqb_same p.left)) f
    go f g (inl c) (inr q) more = true-false (rw (sym q, c.1) (eqb_same p.right)) g
    go f g (inr c) o more = more c o

-- a variable with a partner is in some pair
has-pair :
    (x y : ℕ) (ps : List Pair) → are_paired x y ps ≡ true → (a : ℕ) × (b : ℕ) × (Paired ps a b) × (Or (a ≡ x) (b ≡ y))
unfolding are_paired are_partners
has-pair x y [] e = true-false e refl
has-pair x y (p ∷ ps) e = go (or_cases (eqb x p.left || eqb y p.right) (are_paired x y ps) e) (has-pair x y ps)
  where
    first : Or (eqb x p.left ≡ true) (eqb y p.right ≡ true) → Or (p.left ≡ x) (p.right ≡ y)
    first (inl t) = inl (sym (eqb-equal t))
    first (inr t) = inr (sym (eqb-equal t))

    go :
        Or ((eqb x p.left || eqb y p.right) ≡ true) (are_paired x y ps ≡ true)
        → (are_paired x y ps ≡ true → (a : ℕ) × (b : ℕ) × (Paired ps a b) × (Or (a ≡ x) (b ≡ y)))
        → (a : ℕ) × (b : ℕ) × (Paired (p ∷ ps) a b) × (Or (a ≡ x) (b ≡ y))
    go (inl t) more =
        (p.left, p.right, paired-new p.left p.right ps, first (or_cases (eqb x p.left) (eqb y p.right) t))
    go (inr t) more = let m = more t in (m.0, m.1, paired-old p ps m.0 m.1 m.2, m.3)

-- a list of pairs that holds another, and is one to one if the other is
pub record Grown (ps qs : List Pair) : Type 0 where
  pub holds : Inside (Paired ps) (Paired qs)
  pub one_to_one : OneToOne (Paired ps) → OneToOne (Paired qs)

-- a list of pairs holds itself
pub grown-same : (ps : List Pair) → Grown ps ps
grown-same ps = record { holds = λ x y h. h; one_to_one = λ o. o }

-- one grown list after another
pub grown-chain : {ps qs rs : List Pair} → Grown ps qs → Grown qs rs → Grown ps rs
grown-chain g h = record { holds = λ x y p. h.holds x y (g.holds x y p); one_to_one = λ o. h.one_to_one (g.one_to_one o) }

-- no pairs at all are one to one
pub unpaired-one-to-one : OneToOne (Paired [])
unfolding are_partners
unpaired-one-to-one = (λ x y z p q. true-false p refl, λ x y z p q. true-false p refl)

-- one more pair of variables without partners
grown-pair : (x y : ℕ) (ps : List Pair) → are_paired x y ps ≡ false → Grown ps (record { left = x; right = y } ∷ ps)
grown-pair x y ps f = record { holds = paired-old (record { left = x; right = y }) ps; one_to_one = grown }
  where
    more : List Pair
    more = record { left = x; right = y } ∷ ps

    here : (a b : ℕ) → Paired more a b → Or ((a ≡ x) × (b ≡ y)) (Paired ps a b)
    here a b = paired-cases a b (record { left = x; right = y }) ps

    right :
        (a b c : ℕ) → OneToOne (Paired ps) → Or ((a ≡ x) × (b ≡ y)) (Paired ps a b) → Or ((a ≡ x) × (c ≡ y)) (Paired ps a c)
        → b ≡ c
    right a b c o (inl u) (inl v) = cc
    right a b c o (inl u) (inr v) = absurd (unpaired x y ps f a c v (inl u.0))
    right a b c o (inr u) (inl v) = absurd (unpaired x y ps f a b u (inl v.0))
    right a b c o (inr u) (inr v) = o.0 a b c u v

    left :
        (a b c : ℕ) → OneToOne (Paired ps) → Or ((a ≡ x) × (c ≡ y)) (Paired ps a c) → Or ((b ≡ x) × (c ≡ y)) (Paired ps b c)
        → a ≡ b
    left a b c o (inl u) (inl v) = cc
    left a b c o (inl u) (inr v) = absurd (unpaired x y ps f b c v (inr u.1))
    left a b c o (inr u) (inl v) = absurd (unpaired x y ps f a c u (inr v.1))
    left a b c o (inr u) (inr v) = o.1 a b c u v

    grown : OneToOne (Paired ps) → OneToOne (Paired more)
    grown o = (λ a b c p q. right a b c o (here a b p) (here a c q), λ a b c p q. left a b c o (here a c p) (here b c q))

-- a larger renaming makes equal what a smaller one does
term-inside : {ρ σ : ℕ → ℕ → Type 0} → Inside ρ σ → {s t : Term} → TermVariant ρ s t → TermVariant σ s t
term-inside i same_con = same_con
term-inside i (partners {x = x} {y = y} r) = partners (i x y r)

-- the same for lists of terms
pub terms-inside :
    {ρ σ : ℕ → ℕ → Type 0} → Inside ρ σ → {ss ts : List Term} → Pointwise (TermVariant ρ) ss ts → Pointwise (TermVariant σ) ss ts
terms-inside i h = pointwise-mono (λ s t r. term-inside i r) h

-- the same for constraints
pub constraint-inside :
    {ρ σ : ℕ → ℕ → Type 0} → Inside ρ σ → {c d : Constraint} → ConstraintVariant ρ c d → ConstraintVariant σ c d
constraint-inside i v = record { symbols = v.symbols; terms = terms-inside i v.terms }

-- two terms that are paired are made equal
pair_term-sound :
    (s t : Term) (ps qs : List Pair) → pair_term s t ps ≡ some qs → Grown ps qs × TermVariant (Paired qs) s t
unfolding pair_term
pair_term-sound (con a) (con b) ps qs e =
    let u = cond-some (eqb a b) e in
    let v : a ≡ b = eqb-equal u.0 in
    let w : ps ≡ qs = cc in
    (rw (← w) (grown-same ps), rw (← v) same_con)
pair_term-sound (con a) (var y) ps qs e = none-some refl e
pair_term-sound (var x) (con b) ps qs e = none-some refl e
pair_term-sound (var x) (var y) ps qs e = go (are_partners x y ps) refl (are_paired x y ps) refl e
  where
    go :
        (s : Bool) → are_partners x y ps ≡ s → (t : Bool) → are_paired x y ps ≡ t
        → cond s (some ps) (cond t none (some (record { left = x; right = y } ∷ ps))) ≡ some qs
        → Grown ps qs × TermVariant (Paired qs) (var x) (var y)
    go true p t q e = let w : ps ≡ qs = cc in (rw (← w) (grown-same ps), rw (← w) (partners p))
    go false p true q e = none-some refl e
    go false p false q e =
        let w : record { left = x; right = y } ∷ ps ≡ qs = cc in
        (rw (← w) (grown-pair x y ps q), rw (← w) (partners (paired-new x y ps)))

-- the same for lists of terms
pub pair_terms-sound :
    (ss ts : List Term) (ps qs : List Pair) → pair_terms ss ts ps ≡ some qs
    → Grown ps qs × Pointwise (TermVariant (Paired qs)) ss ts
unfolding pair_terms
pair_terms-sound [] [] ps qs e = let w : ps ≡ qs = cc in (rw (← w) (grown-same ps), empty)
pair_terms-sound [] (t ∷ ts) ps qs e = none-some refl e
pair_terms-sound (s ∷ ss) [] ps qs e = none-some refl e
pair_terms-sound (s ∷ ss) (t ∷ ts) ps qs e =
    let u = bind-some (pair_term s t ps) (pair_terms ss ts) e in
    let f = pair_term-sound s t ps u.0 u.1 in
    let r = pair_terms-sound ss ts u.0 qs u.2 in
    (grown-chain f.0 r.0, each (term-inside r.0.holds f.1) r.1)

-- the same for constraints
pub pair_constraint-sound :
    (c d : Constraint) (ps qs : List Pair) → pair_constraint c d ps ≡ some qs → Grown ps qs × ConstraintVariant (Paired qs) c d
unfolding pair_constraint
pair_constraint-sound c d ps qs e =
    let u = cond-some (eqb c.symbol d.symbol) e in
    let f = pair_terms-sound c.terms d.terms ps qs u.1 in
    (f.0, record { symbols = eqb-equal u.0; terms = f.1 })

-- pairs of a list with one more are inside a renaming that has them all
inside-pair :
    (ρ : ℕ → ℕ → Type 0) (x y : ℕ) (ps : List Pair) → ρ x y → Inside (Paired ps) ρ
    → Inside (Paired (record { left = x; right = y } ∷ ps)) ρ
inside-pair ρ x y ps r i a b h = go (paired-cases a b (record { left = x; right = y }) ps h)
  where
    go : Or ((a ≡ x) × (b ≡ y)) (Paired ps a b) → ρ a b
    go (inl u) = rw (u.0, u.1) r
    go (inr u) = i a b u

-- terms that a renaming makes equal are paired, inside that renaming
pair_term-complete :
    (ρ : ℕ → ℕ → Type 0) → OneToOne ρ → (s t : Term) (ps : List Pair) → Inside (Paired ps) ρ → TermVariant ρ s t
    → (qs : List Pair) × (pair_term s t ps ≡ some qs) × Inside (Paired qs) ρ
unfolding pair_term
pair_term-complete ρ o s t ps i (same_con {c = c}) = (ps, rw (eqb_same c), i)
pair_term-complete ρ o s t ps i (partners {x = x} {y = y} r) = go (are_partners x y ps) refl (are_paired x y ps) refl
  where
    both : (a b : ℕ) → ρ a b → Or (a ≡ x) (b ≡ y) → (a ≡ x) × (b ≡ y)
    both a b h (inl e) = (e, o.0 x b y (rw e at h) r)
    both a b h (inr e) = (o.1 a x y (rw e at h) r, e)

    go :
        (u : Bool) → are_partners x y ps ≡ u → (v : Bool) → are_paired x y ps ≡ v
        → (qs : List Pair) × (cond u (some ps) (cond v none (some (record { left = x; right = y } ∷ ps))) ≡ some qs)
        × Inside (Paired qs) ρ
    go true p v q = (ps, refl, i)
    go false p false q = (record { left = x; right = y } ∷ ps, refl, inside-pair ρ x y ps r i)
    go false p true q =
        let m = has-pair x y ps q in
        let n = both m.0 m.1 (i m.0 m.1 m.2) m.3 in
        true-false (rw (n.0, n.1) at m.2) p

-- the same for lists of terms
pub pair_terms-complete :
    (ρ : ℕ → ℕ → Type 0) → OneToOne ρ → (ss ts : List Term) (ps : List Pair) → Inside (Paired ps) ρ
    → Pointwise (TermVariant ρ) ss ts → (qs : List Pair) × (pair_terms ss ts ps ≡ some qs) × Inside (Paired qs) ρ
unfolding pair_terms
pair_terms-complete ρ o ss ts ps i empty = (ps, refl, i)
pair_terms-complete ρ o ss ts ps i (each {a = s} {b = t} {l = l} {m = m} r rs) =
    let f = pair_term-complete ρ o s t ps i r in
    let g = pair_terms-complete ρ o l m f.0 f.2 rs in
    (g.0, rw f.1 g.1, g.2)

-- the same for constraints
pub pair_constraint-complete :
    (ρ : ℕ → ℕ → Type 0) → OneToOne ρ → (c d : Constraint) (ps : List Pair) → Inside (Paired ps) ρ → ConstraintVariant ρ c d
    → (qs : List Pair) × (pair_constraint c d ps ≡ some qs) × Inside (Paired qs) ρ
unfolding pair_constraint
pair_constraint-complete ρ o c d ps i v =
    let f = pair_terms-complete ρ o c.terms d.terms ps i v.terms in
    (f.0, rw (v.symbols, eqb_same d.symbol) f.1, f.2)
