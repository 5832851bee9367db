-- What a renaming cannot change: colours, signatures, digests and keys of two states that it makes equal are the same.
--   Agree               colours that a renaming keeps
--   folded-multiset     steps in any order
--   mod-swap, same-agree    sums with a remainder, and equal terms
--   refined-agree       a round keeps that
--   key-agree           the keys of constraints that a renaming makes equal are the same
-- Assumes nothing.
use Rattle.std.proofs.Common.{◌≡◌, ℕ, zero, suc, ◌+◌, ◌%◌, ◌^◌, Bool, true, false, cond, eqb, List, [], ◌∷◌, map, sym, refl, ap, ◌∙◌, arith}
use native.Mathlib.Nat.{mod-add-mod}
use Rattle.semantics.specs.Terms.{Term, con, Constraint, same_term}
use Rattle.semantics.specs.Variants.{OneToOne, TermVariant, same_con, partners, Pointwise, empty, each, ConstraintVariant}
use Rattle.semantics.specs.Variants.{Inserted, here, there, SameMultiset, done, put}
use Rattle.semantics.proofs.Multisets.{multiset-map, multiset-mono}
use Rattle.tables.specs.Cells.{cell_term, cell_terms}
use Rattle.tables.proofs.CellLaws.{eqb-iff, same-cell}
use Rattle.colours.specs.Colours.{mixed, plus, added, signed, signature, gains, gathered, refined, rounds, digest, base}
use Rattle.colours.specs.Keys.{plain_of, deep_of, coded, key_of, summed}

-- colours that a renaming keeps
abbrev pub Agree : (ℕ → ℕ → Type 0) → (Term → ℕ) → (Term → ℕ) → Type 0
Agree ρ κ ν = (s t : Term) → TermVariant ρ s t → κ s ≡ ν t

-- steps one after the other
pub folded : {A : Type 0} → (A → ℕ → ℕ) → List A → ℕ → ℕ
folded f [] n = n
folded f (a ∷ l) n = folded f l (f a n)

-- a step that commutes with all others may be made first
inserted-folded :
    {B : Type 0} (g : B → ℕ → ℕ) → ((a b : B) (n : ℕ) → g a (g b n) ≡ g b (g a n)) → {b : B} {m l : List B}
    → Inserted b m l → (n : ℕ) → folded g m (g b n) ≡ folded g l n
unfolding folded
inserted-folded g comm here n = refl
inserted-folded g comm {b} (there {b = c} {l = l} i) n =
    ap (folded g l) (comm c b n) ∙ inserted-folded g comm i (g c n)

-- steps that commute, over two lists that are the same multiset up to a relation under which the steps are the same
pub folded-multiset :
    {A B : Type 0} {R : A → B → Type 0} (f : A → ℕ → ℕ) (g : B → ℕ → ℕ) → ((a : A) (b : B) (n : ℕ) → R a b → f a n ≡ g b n)
    → ((a b : B) (n : ℕ) → g a (g b n) ≡ g b (g a n)) → {l : List A} {m : List B} → SameMultiset R l m
    → (n : ℕ) → folded f l n ≡ folded g m n
unfolding folded
folded-multiset f g same comm done n = refl
folded-multiset f g same comm (put {a = a} {b = b} {l = l} r i s) n =
    ap (folded f l) (same a b n r) ∙ (folded-multiset f g same comm s (g b n) ∙ inserted-folded g comm i n)

-- sums with a remainder may be made in any order
pub mod-swap : (m t a b : ℕ) → ((t + a) % m + b) % m ≡ ((t + b) % m + a) % m
mod-swap m t a b =
    let e : t + a + b ≡ t + b + a = omega arith in
    mod-add-mod (t + a) m b ∙ (ap (λ n. n % m) e ∙ sym (mod-add-mod (t + b) m a))

plus-swap : (t a b : ℕ) → plus (plus t a) b ≡ plus (plus t b) a
unfolding plus
plus-swap t a b = mod-swap (2 ^ 32) t a b

added-plus : (t x : ℕ) (ys : List ℕ) → added (plus t x) ys ≡ plus (added t ys) x
unfolding added
added-plus t x [] = refl
added-plus t x (y ∷ ys) = ap (λ n. added n ys) (plus-swap t x y) ∙ added-plus (plus t y) x ys

added-swap : (t : ℕ) (xs ys : List ℕ) → added (added t xs) ys ≡ added (added t ys) xs
unfolding added
added-swap t [] ys = refl
added-swap t (x ∷ xs) ys = added-swap (plus t x) xs ys ∙ ap (λ n. added n xs) (added-plus t x ys)

-- the sum of equal multisets
pub added-multiset : {l m : List ℕ} → SameMultiset ◌≡◌ l m → (n : ℕ) → added n l ≡ added n m
unfolding added folded
added-multiset {l} {m} s n =
    fold-added l n
    ∙ (folded-multiset step step (λ a b t e. ap (plus t) e) (λ a b t. plus-swap t b a) s n ∙ sym (fold-added m n))
  where
    step : ℕ → ℕ → ℕ
    step a t = plus t a

    fold-added : (l : List ℕ) (n : ℕ) → added n l ≡ folded step l n
    fold-added [] n = refl
    fold-added (x ∷ l) n = fold-added l (plus n x)

pub summed-multiset : {l m : List ℕ} → SameMultiset ◌≡◌ l m → (n : ℕ) → summed l n ≡ summed m n
unfolding summed folded
summed-multiset {l} {m} s n =
    fold-summed l n
    ∙ (folded-multiset step step (λ a b t e. ap (λ k. (t + k) % 2 ^ 64) e) (λ a b t. mod-swap (2 ^ 64) t b a) s n
    ∙ sym (fold-summed m n))
  where
    step : ℕ → ℕ → ℕ
    step a t = (t + a) % 2 ^ 64

    fold-summed : (l : List ℕ) (n : ℕ) → summed l n ≡ folded step l n
    fold-summed [] n = refl
    fold-summed (x ∷ l) n = fold-summed l ((n + x) % 2 ^ 64)

module _ (ρ : ℕ → ℕ → Type 0) (o : OneToOne ρ) where
  -- the colours of terms in their order
  signed-agree :
      (κ ν : Term → ℕ) → Agree ρ κ ν → {ss ts : List Term} → Pointwise (TermVariant ρ) ss ts → (n : ℕ)
      → signed κ n ss ≡ signed ν n ts
  unfolding signed
  signed-agree κ ν a empty n = refl
  signed-agree κ ν a (each {a = s} {b = t} {m = ts} r p) n =
      signed-agree κ ν a p (mixed n (κ s)) ∙ ap (λ k. signed ν (mixed n k) ts) (a s t r)

  pub signature-agree :
      (κ ν : Term → ℕ) → Agree ρ κ ν → (c d : Constraint) → ConstraintVariant ρ c d → signature κ c ≡ signature ν d
  unfolding signature
  signature-agree κ ν a c d v =
      signed-agree κ ν a v.terms c.symbol ∙ ap (λ k. signed ν k d.terms) v.symbols

  -- terms are the same where their partners are
  pub same-agree : {s t u w : Term} → TermVariant ρ s t → TermVariant ρ u w → same_term s u ≡ same_term t w
  unfolding same_term
  same-agree same_con same_con = refl
  same-agree same_con (partners q) = refl
  same-agree (partners r) same_con = refl
  same-agree (partners {x = x} {y = y} r) (partners {x = z} {y = w} q) =
      eqb-iff x z y w (λ e. o.0 x y w r (rw (sym e) at q)) (λ e. o.1 x z y r (rw (sym e) at q))

  -- what a term receives from terms
  gains-agree :
      {s t : Term} → TermVariant ρ s t → {us vs : List Term} → Pointwise (TermVariant ρ) us vs → (n : ℕ)
      → gains s n us ≡ gains t n vs
  unfolding gains
  gains-agree r empty n = refl
  gains-agree r (each q p) n = rw (same-agree r q, gains-agree r p (mixed n 1))

  module _ (κ ν : Term → ℕ) (a : Agree ρ κ ν) {cs ds : List Constraint} (s : SameMultiset (ConstraintVariant ρ) cs ds) where
    -- what a term receives from constraints
    gathered-agree : (t u : Term) → TermVariant ρ t u → (n : ℕ) → gathered κ t cs n ≡ gathered ν u ds n
    unfolding gathered folded
    gathered-agree t u r n =
        fold-gathered κ t cs n ∙ (folded-multiset (step κ t) (step ν u) same comm s n ∙ sym (fold-gathered ν u ds n))
      where
        step : (Term → ℕ) → Term → Constraint → ℕ → ℕ
        step κ t c n = added n (gains t (signature κ c) c.terms)

        same : (c d : Constraint) (n : ℕ) → ConstraintVariant ρ c d → step κ t c n ≡ step ν u d n
        same c d n v =
            ap (added n) (ap (λ k. gains t k c.terms) (signature-agree κ ν a c d v)
            ∙ gains-agree r v.terms (signature ν d))

        comm : (c d : Constraint) (n : ℕ) → step ν u c (step ν u d n) ≡ step ν u d (step ν u c n)
        comm c d n = added-swap n (gains u (signature ν d) d.terms) (gains u (signature ν c) c.terms)

        fold-gathered : (κ : Term → ℕ) (t : Term) (cs : List Constraint) (n : ℕ) → gathered κ t cs n ≡ folded (step κ t) cs n
        fold-gathered κ t [] n = refl
        fold-gathered κ t (c ∷ cs) n = fold-gathered κ t cs (step κ t c n)

    -- a round keeps what a renaming keeps
    pub refined-agree : Agree ρ (refined κ cs) (refined ν ds)
    unfolding refined
    refined-agree t u r = rw (a t u r, gathered-agree t u r 0)

    pub digest-agree : digest κ cs ≡ digest ν ds
    unfolding digest
    digest-agree =
        added-multiset (multiset-map (λ c. mixed (signature κ c) 2) (λ d. mixed (signature ν d) 2)
        (multiset-mono (λ c d v. ap (λ k. mixed k 2) (signature-agree κ ν a c d v)) s)) 0

  module _ {cs ds : List Constraint} (s : SameMultiset (ConstraintVariant ρ) cs ds) where
    pub rounds-agree : (n : ℕ) (κ ν : Term → ℕ) → Agree ρ κ ν → Agree ρ (rounds n cs κ) (rounds n ds ν)
    unfolding rounds
    rounds-agree zero κ ν a = a
    rounds-agree (suc n) κ ν a = rounds-agree n (refined κ cs) (refined ν ds) (refined-agree κ ν a s)

    base-agree : Agree ρ base base
    unfolding base
    base-agree s t same_con = refl
    base-agree s t (partners r) = refl

    -- one constraint alone
    alone : {c d : Constraint} → ConstraintVariant ρ c d → SameMultiset (ConstraintVariant ρ) (c ∷ []) (d ∷ [])
    alone v = put v here done

    pub plain-agree :
        (t : ℕ) {b b' : List Term} → Pointwise (TermVariant ρ) b b' → Agree ρ (plain_of t b cs) (plain_of t b' ds)
    unfolding plain_of
    plain-agree t p =
        rounds-agree t _ _ (refined-agree base base base-agree (alone (record { symbols = refl; terms = p })))

    deep-agree :
        (t : ℕ) (κ ν : Term → ℕ) → Agree ρ κ ν → (c d : Constraint) → ConstraintVariant ρ c d
        → deep_of t κ cs c ≡ deep_of t ν ds d
    unfolding deep_of
    deep-agree t κ ν a c d v =
        digest-agree _ _ (rounds-agree t _ _ (refined-agree κ ν a (alone v))) s

    -- the keys of constraints that a renaming makes equal
    pub key-agree :
        (t : ℕ) (deep : Bool) (κ ν : Term → ℕ) → Agree ρ κ ν → (c d : Constraint) → ConstraintVariant ρ c d
        → key_of t deep κ cs c ≡ key_of t deep ν ds d
    unfolding key_of coded
    key-agree t true κ ν a c d v = rw (deep-agree t κ ν a c d v, v.symbols)
    key-agree t false κ ν a c d v = rw (signature-agree κ ν a c d v, v.symbols)

    pub sum-agree :
        (t : ℕ) (deep : Bool) (κ ν : Term → ℕ) → Agree ρ κ ν
        → summed (map (key_of t deep κ cs) cs) 0 ≡ summed (map (key_of t deep ν ds) ds) 0
    sum-agree t deep κ ν a =
        summed-multiset (multiset-map (key_of t deep κ cs) (key_of t deep ν ds) (multiset-mono (key-agree t deep κ ν a) s)) 0

-- a constant is the same on both sides
zero-agree : {ρ : ℕ → ℕ → Type 0} {s t : Term} → TermVariant ρ s t → same_term s (con 0) ≡ same_term t (con 0)
unfolding same_term
zero-agree same_con = refl
zero-agree (partners r) = refl

-- so is whether a cell is 0
cell-zero : {ρ : ℕ → ℕ → Type 0} (x y : ℕ) → TermVariant ρ (cell_term x) (cell_term y) → eqb x 0 ≡ eqb y 0
unfolding cell_term
cell-zero x y r = sym (same-cell x 0) ∙ (zero-agree r ∙ same-cell y 0)

cond-agree :
    {A B : Type 0} {R : A → B → Type 0} (t : Bool) {l : List A} {m : List B} → Pointwise R l m
    → Pointwise R (cond t [] l) (cond t [] m)
cond-agree true p = empty
cond-agree false p = p

-- the terms of cells up to the first 0 are made equal where all cells are
pub prefix-agree :
    {ρ : ℕ → ℕ → Type 0} (f g : List ℕ) → Pointwise (TermVariant ρ) (map cell_term f) (map cell_term g)
    → Pointwise (TermVariant ρ) (cell_terms f) (cell_terms g)
unfolding cell_terms
prefix-agree [] [] p = empty
prefix-agree [] (y ∷ g) p = elim p [ ]
prefix-agree (x ∷ f) [] p = elim p [ ]
prefix-agree (x ∷ f) (y ∷ g) (each r p) = rw (cell-zero x y r) (cond-agree (eqb y 0) (each r (prefix-agree f g p)))
