-- What goal variables became, numbered by first appearance, is the same in states that are equal; so is the digest in which it
-- stands for itself.
--   ascending-own           a renaming leaves it as it is
--   bound-differs           states where it differs are not equal
--   first-differs           nor are states whose digests differ
--   clip-cell, first-told      one law for each way that the code goes
-- Assumes nothing.
use Rattle.std.proofs.Common.{◌≡◌, ℕ, suc, ◌+◌, ◌-◌, ◌*◌, ◌<◌, ◌≤◌, min, true, false, eqb, ◌⊎◌, List, [], ◌∷◌, map, get_or, sym, refl, ap, ◌∙◌, inl, inr, ⊎_elim, arith, eq-eqb, eqb-true}
use borrow.Author.Tests.{eqb-false}
use Rattle.semantics.specs.Terms.{Term, var, same_term}
use Rattle.semantics.specs.Variants.{OneToOne, TermVariant, same_con, partners, Pointwise, each, same_state}
use Rattle.tables.specs.Cells.{cell_term, cell_constraints}
use Rattle.tables.proofs.CellLaws.{either, le-or-lt, cell-low, cell-high, same-cell}
use Rattle.colours.specs.Ends.{end_of}
use Rattle.colours.specs.Numbering.{Ascending, none, known, new}
use Rattle.colours.specs.Colours.{digest, clipped, DigestBy}
use Rattle.colours.proofs.AgreeLaws.{Agree, digest-agree}
use Rattle.colours.proofs.ClassLaws.{not-variant}

-- cells that are the same term are the same
one_cell : (x y : ℕ) → cell_term x ≡ cell_term y → x ≡ y
one_cell x y e =
    eqb-true x y (sym (same-cell x y) ∙ (ap (same_term (cell_term x)) (sym e) ∙ (same-cell x x ∙ eq-eqb x x refl)))

-- a term that a renaming makes equal to two others makes these the same
module _ (ρ : ℕ → ℕ → Type 0) (o : OneToOne ρ) where
  same-right : {s t u : Term} → TermVariant ρ s t → TermVariant ρ s u → t ≡ u
  same-right same_con same_con = refl
  same-right (partners {x = x} {y = y} p) (partners {y = z} q) = ap var (o.0 x y z p q)

  same_left : {s t u : Term} → TermVariant ρ s u → TermVariant ρ t u → s ≡ t
  same_left same_con same_con = refl
  same_left (partners {x = x} {y = z} p) (partners {x = y} q) = ap var (o.1 x y z p q)

  -- the variables below a number are their own partners
  abbrev pub OwnBelow : ℕ → Type 0
  OwnBelow n = (x : ℕ) → x < n → TermVariant ρ (cell_term x) (cell_term x)

  constants-own : OwnBelow 256
  constants-own x h = rw (cell-low x h) same_con

  own-next : (n : ℕ) → OwnBelow n → TermVariant ρ (cell_term n) (cell_term n) → OwnBelow (suc n)
  own-next n own v x h = go (either (eqb x n))
    where
      go : (eqb x n ≡ true) ⊎ (eqb x n ≡ false) → TermVariant ρ (cell_term x) (cell_term x)
      go (inl e) = rw (eqb-true x n e) v
      go (inr e) =
          let d : x ≡ n → ⊥ = eqb-false x n e in
          own x (omega (arith, d))

  -- numbers by first appearance that a renaming makes equal are the same, and it leaves them as they are
  ascending-own :
      {n end end' : ℕ} (l m : List ℕ) → OwnBelow n → Ascending n l end → Ascending n m end'
      → Pointwise (TermVariant ρ) (map cell_term l) (map cell_term m) → (l ≡ m) × OwnBelow end
  ascending-own [] [] own none b p = (refl, own)
  ascending-own [] (y ∷ m) own a b p = elim p [ ]
  ascending-own (x ∷ l) [] own a b p = elim p [ ]
  ascending-own (x ∷ l) (y ∷ m) own (known h a) (known k b) (each v p) =
      let e : x ≡ y = one_cell x y (same-right (own x h) v) in
      let (t, w) = ascending-own l m own a b p in
      (rw (e, t), w)
  ascending-own (x ∷ l) (y ∷ m) own (known h a) (new e b) (each v p) =
      let d : x ≡ y = one_cell x y (same-right (own x h) v) in
      absurd (omega arith)
  ascending-own (x ∷ l) (y ∷ m) own (new e a) (known k b) (each v p) =
      let d : x ≡ y = one_cell x y (same_left v (own y k)) in
      absurd (omega arith)
  ascending-own {n} (x ∷ l) (y ∷ m) own (new e a) (new d b) (each v p) =
      let u : TermVariant ρ (cell_term n) (cell_term n) = rw (e, d) at v in
      let (t, w) = ascending-own l m (own-next n own u) a b p in
      (rw (e, d, t), w)

  -- the digest in which cells below a number stand for themselves
  clipped-agree : (n : ℕ) → OwnBelow n → Agree ρ (clipped n) (clipped n)
  unfolding clipped
  clipped-agree n own s t same_con = refl
  clipped-agree n own s t (partners {x = x} {y = y} r) = go (le-or-lt n (x + 256)) (le-or-lt n (y + 256))
    where
      term : (z : ℕ) → cell_term (z + 256) ≡ var z
      term z =
          let e : z + 256 - 256 ≡ z = omega arith in
          cell-high (z + 256) (omega arith) ∙ ap var e

      itself : (z : ℕ) → z + 256 < n → TermVariant ρ (var z) (var z)
      itself z h = rw (term z) at (own (z + 256) h)

      go :
          (n ≤ x + 256) ⊎ (x + 256 < n) → (n ≤ y + 256) ⊎ (y + 256 < n)
          → clipped n (var x) ≡ clipped n (var y)
      go (inl h) (inl k) = omega arith
      go (inl h) (inr k) = ap (clipped n) (same_left (partners r) (itself y k))
      go (inr h) k = ap (clipped n) (same-right (itself x h) (partners r))

-- states where what the goal variables became differs are not equal
pub bound-differs :
    (f a g b : List ℕ) (limit limit' : ℕ) → Ascending 256 f limit → Ascending 256 g limit' → (f ≡ g → ⊥)
    → same_state (end_of f a) (end_of g b) ≡ false
bound-differs f a g b limit limit' u w d =
    not-variant (end_of f a) (end_of g b)
    (λ v. d (ascending-own v.0 v.1 f g (constants-own v.0 v.1) u w v.2).0)

-- nor are states whose digests differ
pub first-differs :
    (f a b : List ℕ) (limit x y : ℕ) → Ascending 256 f limit → x ≡ digest (clipped limit) (cell_constraints a)
    → y ≡ digest (clipped limit) (cell_constraints b) → (x ≡ y → ⊥) → same_state (end_of f a) (end_of f b) ≡ false
first-differs f a b limit x y u ex ey d =
    not-variant (end_of f a) (end_of f b)
    (λ v. d (ex ∙ (digest-agree v.0 v.1 (clipped limit) (clipped limit)
    (clipped-agree v.0 v.1 limit (ascending-own v.0 v.1 f f (constants-own v.0 v.1) u u v.2).1) v.3
    ∙ sym ey)))

-- a cell, clipped
pub clip-cell : (x limit : ℕ) → clipped limit (cell_term x) ≡ min x limit
unfolding clipped
clip-cell x limit =
    ⊎_elim (λ h. rw (cell-high x h) (omega arith)) (λ h. rw (cell-low x h)) (le-or-lt 256 x)

-- the digest by clipped cells
pub first-told :
    (answer : ℕ → ℕ → Type 0) (limit r : ℕ) (cells : List ℕ)
    → ((x c : ℕ) → answer x c → c ≡ clipped limit (cell_term x)) → DigestBy answer r cells
    → r ≡ digest (clipped limit) (cell_constraints cells)
first-told answer limit r cells f d = d.same (clipped limit) (λ i j c h a. f (get_or cells (5 * i + (1 + j)) 0) c a)
