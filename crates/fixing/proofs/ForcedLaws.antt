-- A variable whose weight no other has is paired with the one of that weight by every renaming.
--   weight-agree       the weight of a term is that of its partner
--   weight-partner     a term with a weight has a partner
--   forced             so such variables may be added to what is paired already
-- Assumes nothing.
use Rattle.std.proofs.Common.{◌≡◌, ℕ, ◌+◌, ◌-◌, ◌^◌, ◌<◌, ◌≤◌, Bool, true, false, cond, ◌||◌, List, [], ◌∷◌, ◌++◌, map, length, sym, refl, ap, ◌∙◌, subst, ap₂, arith}
use mathlib.Core.List.{map-append}
use lib.ListN.{length-map}
use Rattle.text.specs.Lists.{has}
use Rattle.semantics.specs.Terms.{Term, con, var, Constraint, same_term}
use Rattle.semantics.specs.Variants.{OneToOne, TermVariant, partners, Pointwise, empty, each, ConstraintVariant}
use Rattle.semantics.specs.Variants.{Inserted, here, there, SameMultiset, done, put, same_state}
use Rattle.semantics.proofs.Configurations.{Or, inl, inr}
use Rattle.semantics.proofs.Multisets.{pointwise-append, pointwise-parts}
use Rattle.semantics.proofs.Options.{decide, same-equal}
use Rattle.tables.specs.Cells.{cell_term, cell_constraints}
use Rattle.tables.proofs.CellLaws.{same-cell, cell-high}
use Rattle.colours.specs.Ends.{end_of}
use Rattle.colours.proofs.RowLaws.{pointwise-at}
use Rattle.colours.proofs.AgreeLaws.{mod-swap, same-agree}
use Rattle.colours.proofs.ClassLaws.{same-iff}
use Rattle.fixing.specs.Weights.{plus, tripled, weighed, weight_in, free_weight}

-- sums may be made in any order
plus-swap : (t a b : ℕ) → plus (plus t a) b ≡ plus (plus t b) a
unfolding plus
plus-swap t a b = mod-swap (2 ^ 16) t a b

-- so may the weight in terms and another number
weighed-plus : (t : Term) (f : ℕ) (us : List Term) (w a : ℕ) → weighed t f us (plus w a) ≡ plus (weighed t f us w) a
unfolding weighed
weighed-plus t f [] w a = refl
weighed-plus t f (u ∷ us) w a = go (same_term t u) (weighed-plus t (tripled f) us)
  where
    go :
        (b : Bool) → ((v c : ℕ) → weighed t (tripled f) us (plus v c) ≡ plus (weighed t (tripled f) us v) c)
        → weighed t (tripled f) us (cond b (plus (plus w a) f) (plus w a))
        ≡ plus (weighed t (tripled f) us (cond b (plus w f) w)) a
    go true more = ap (weighed t (tripled f) us) (plus-swap w a f) ∙ more (plus w f) a
    go false more = more w a

-- and the weights in two lists of terms
weighed-swap :
    (t : Term) (f : ℕ) (us : List Term) (g : ℕ) (vs : List Term) (w : ℕ)
    → weighed t f us (weighed t g vs w) ≡ weighed t g vs (weighed t f us w)
unfolding weighed
weighed-swap t f [] g vs w = refl
weighed-swap t f (u ∷ us) g vs w = go (same_term t u) (weighed-swap t (tripled f) us g vs)
  where
    go :
        (b : Bool) → ((v : ℕ) → weighed t (tripled f) us (weighed t g vs v) ≡ weighed t g vs (weighed t (tripled f) us v))
        → weighed t (tripled f) us (cond b (plus (weighed t g vs w) f) (weighed t g vs w))
        ≡ weighed t g vs (weighed t (tripled f) us (cond b (plus w f) w))
    go true more = ap (weighed t (tripled f) us) (sym (weighed-plus t g vs w f)) ∙ more (plus w f)
    go false more = more w

-- a constraint may be weighed first
weight-inserted :
    (t : Term) {c : Constraint} {m n : List Constraint} → Inserted c m n → (w : ℕ)
    → weight_in t m (weighed t 1 c.terms w) ≡ weight_in t n w
unfolding weight_in
weight-inserted t here w = refl
weight-inserted t {c} (there {b = d} {l = l} i) w =
    ap (weight_in t l) (weighed-swap t 1 d.terms 1 c.terms w) ∙ weight-inserted t i (weighed t 1 d.terms w)

module _ (ρ : ℕ → ℕ → Type 0) (o : OneToOne ρ) where
  -- the weight in terms
  weighed-agree :
      {s t : Term} → TermVariant ρ s t → {us vs : List Term} → Pointwise (TermVariant ρ) us vs → (f w : ℕ)
      → weighed s f us w ≡ weighed t f vs w
  unfolding weighed
  weighed-agree r empty f w = refl
  weighed-agree {s} {t} r (each {a = u} {b = v} {m = vs} q p) f w =
      weighed-agree r p (tripled f) (cond (same_term s u) (plus w f) w)
      ∙ ap (λ b. weighed t (tripled f) vs (cond b (plus w f) w)) (same-agree ρ o r q)

  -- a term that a list of terms gives a weight to has a partner
  weighed-partner :
      (t : Term) {us vs : List Term} → Pointwise (TermVariant ρ) us vs
      → Or ((u : Term) × TermVariant ρ t u) ((f w : ℕ) → weighed t f us w ≡ w)
  unfolding weighed
  weighed-partner t empty = inr (λ f w. refl)
  weighed-partner t (each {a = u} {b = v} {l = us} q p) = go (decide (same_term t u)) (weighed-partner t p)
    where
      go :
          Or (same_term t u ≡ true) (same_term t u ≡ false)
          → Or ((u : Term) × TermVariant ρ t u) ((f w : ℕ) → weighed t f us w ≡ w)
          → Or ((u : Term) × TermVariant ρ t u)
          ((f w : ℕ) → weighed t (tripled f) us (cond (same_term t u) (plus w f) w) ≡ w)
      go (inl e) h = inl (v, rw (same-equal t u e) q)
      go (inr e) (inl h) = inl h
      go (inr e) (inr h) = inr (λ f w. rw e (h (tripled f) w))

  -- the weight of a term is that of its partner
  pub weight-agree :
      (t u : Term) → TermVariant ρ t u → {cs ds : List Constraint} → SameMultiset (ConstraintVariant ρ) cs ds → (w : ℕ)
      → weight_in t cs w ≡ weight_in u ds w
  unfolding weight_in
  weight-agree t u r done w = refl
  weight-agree t u r (put {a = c} {b = d} {l = cs} v i s) w =
      ap (weight_in t cs) (weighed-agree r v.terms 1 w)
      ∙ (weight-agree t u r s (weighed u 1 d.terms w) ∙ weight-inserted u i w)

  -- a term with a weight has a partner
  pub weight-partner :
      (t : Term) {cs ds : List Constraint} → SameMultiset (ConstraintVariant ρ) cs ds
      → Or ((u : Term) × TermVariant ρ t u) ((w : ℕ) → weight_in t cs w ≡ w)
  unfolding weight_in
  weight-partner t done = inr (λ w. refl)
  weight-partner t (put {a = c} {l = cs} v i s) = go (weighed-partner t v.terms) (weight-partner t s)
    where
      go :
          Or ((u : Term) × TermVariant ρ t u) ((f w : ℕ) → weighed t f c.terms w ≡ w)
          → Or ((u : Term) × TermVariant ρ t u) ((w : ℕ) → weight_in t cs w ≡ w)
          → Or ((u : Term) × TermVariant ρ t u) ((w : ℕ) → weight_in t cs (weighed t 1 c.terms w) ≡ w)
      go (inl h) k = inl h
      go (inr h) (inl k) = inl k
      go (inr h) (inr k) = inr (λ w. k (weighed t 1 c.terms w) ∙ h 1 w)

  -- a cell stands in a list where its partner stands in the other
  has-agree :
      (x z : ℕ) → TermVariant ρ (cell_term x) (cell_term z) → (f g : List ℕ)
      → Pointwise (TermVariant ρ) (map cell_term f) (map cell_term g) → has x f ≡ has z g
  has-agree x z r [] [] p = refl
  has-agree x z r [] (y ∷ g) p = elim p [ ]
  has-agree x z r (y ∷ f) [] p = elim p [ ]
  has-agree x z r (y ∷ f) (w ∷ g) (each q p) =
      ap₂ ◌||◌ (sym (same-cell x y) ∙ (same-agree ρ o r q ∙ same-cell z w)) (has-agree x z r f g p)

  module _ (f g a b : List ℕ) (p : Pointwise (TermVariant ρ) (map cell_term f) (map cell_term g))
      (s : SameMultiset (ConstraintVariant ρ) (cell_constraints a) (cell_constraints b)) where
    -- the weight of a cell that is not paired yet is that of its partner
    free-agree :
        (x z : ℕ) → TermVariant ρ (cell_term x) (cell_term z)
        → free_weight f (cell_constraints a) x ≡ free_weight g (cell_constraints b) z
    unfolding free_weight
    free-agree x z r =
        ap₂ (λ t w. cond t 0 w) (has-agree x z r f g p) (weight-agree (cell_term x) (cell_term z) r s 0)

    -- a variable with a weight of its own has the one of that weight for its partner
    free-forced :
        (x y : ℕ) → 256 ≤ x → 0 < free_weight f (cell_constraints a) x
        → free_weight f (cell_constraints a) x ≡ free_weight g (cell_constraints b) y
        → ((z : ℕ) → 256 ≤ z → free_weight g (cell_constraints b) z ≡ free_weight g (cell_constraints b) y → z ≡ y)
        → TermVariant ρ (cell_term x) (cell_term y)
    unfolding free_weight
    free-forced x y v h e alone = go (weight-partner (cell_term x) s)
      where
        found : (u : Term) → TermVariant ρ (var (x - 256)) u → TermVariant ρ (cell_term x) (cell_term y)
        found u (partners {y = z} q) =
            let back : z + 256 - 256 ≡ z = omega arith in
            let cell : cell_term (z + 256) ≡ var z = cell-high (z + 256) (omega arith) ∙ ap var back in
            let r : TermVariant ρ (cell_term x) (cell_term (z + 256)) = rw (cell-high x v, cell) (partners q) in
            subst (λ k. TermVariant ρ (cell_term x) (cell_term k))
            (alone (z + 256) (omega arith) (sym (free-agree x (z + 256) r) ∙ e)) r

        none : (b : Bool) → 0 < cond b 0 0 → TermVariant ρ (cell_term x) (cell_term y)
        none true k = absurd (omega arith)
        none false k = absurd (omega arith)

        go :
            Or ((u : Term) × TermVariant ρ (cell_term x) u) ((w : ℕ) → weight_in (cell_term x) (cell_constraints a) w ≡ w)
            → TermVariant ρ (cell_term x) (cell_term y)
        go (inl (u, r)) = found u (rw (cell-high x v) at r)
        go (inr k) = none (has x f) (rw (k 0) at h)

-- lists as long as each other with one more cell on both sides
pointwise-last :
    {R : Term → Term → Type 0} (f g : List ℕ) (x y : ℕ) → length f ≡ length g
    → Pointwise R (map cell_term (f ++ (x ∷ []))) (map cell_term (g ++ (y ∷ []))) → Pointwise R (map cell_term f) (map cell_term g)
pointwise-last f g x y l p =
    (pointwise-parts (cell_term x ∷ []) (cell_term y ∷ [])
    (pointwise-at {R = λ s t. Unit {0}} (con 0) (con 0) (map cell_term f) (map cell_term g)
    (length-map f cell_term ∙ (l ∙ sym (length-map g cell_term))) (λ i h. tt))
    (rw (map-append, map-append) at p)).0

-- such variables may be added to what is paired already
pub forced :
    (f g a b : List ℕ) (x y : ℕ) → length f ≡ length g → 256 ≤ x → 0 < free_weight f (cell_constraints a) x
    → free_weight f (cell_constraints a) x ≡ free_weight g (cell_constraints b) y
    → ((z : ℕ) → 256 ≤ z → free_weight g (cell_constraints b) z ≡ free_weight g (cell_constraints b) y → z ≡ y)
    → same_state (end_of (f ++ (x ∷ [])) a) (end_of (g ++ (y ∷ [])) b) ≡ same_state (end_of f a) (end_of g b)
forced f g a b x y l v h e alone =
    same-iff (end_of f a) (end_of g b) (end_of (f ++ (x ∷ [])) a) (end_of (g ++ (y ∷ [])) b)
    (λ (ρ, o, p, s). (ρ, o, longer ρ o p s, s)) (λ (ρ, o, p, s). (ρ, o, pointwise-last f g x y l p, s))
  where
    longer :
        (ρ : ℕ → ℕ → Type 0) → OneToOne ρ → Pointwise (TermVariant ρ) (map cell_term f) (map cell_term g)
        → SameMultiset (ConstraintVariant ρ) (cell_constraints a) (cell_constraints b)
        → Pointwise (TermVariant ρ) (map cell_term (f ++ (x ∷ []))) (map cell_term (g ++ (y ∷ [])))
    longer ρ o p s =
        rw (map-append, map-append) (pointwise-append p (each (free-forced ρ o f g a b p s x y v h e alone) empty))
