-- Variables that every renaming must pair, found in tables of weights: one law for each way that the code goes.
--   top-…           the heaviest variable
--   tops-…          those of two states
--   fix-…           they are added to what is paired
--   forced-done, zeros-…    of two states, and with tables of zeros
--   copied-…, lengthened    from what the goal variables became
-- Assumes nothing.
use Rattle.std.proofs.Common.{Option, None, Some, IfSome, ◌≡◌, ℕ, zero, suc, ◌+◌, ◌<◌, ◌≤◌, true, false, eqb, ◌⊎◌, List, [], ◌∷◌, ◌++◌, length, get_or, take, set, replicate, sym, refl, ◌∙◌, inl, inr, add-one, arith, length-set, length-take-le, get_or-set_other, get_or-set_same, take-suc-set, eqb-true}
use lib.ListN.{get_or-eq_default}
use borrow.Author.Tests.{eqb-false}
use Rattle.semantics.specs.Variants.{same_state}
use Rattle.semantics.proofs.Removal.{has_last, has_other}
use Rattle.tables.specs.Cells.{cell_constraints}
use Rattle.tables.proofs.CellLaws.{either, le-or-lt}
use Rattle.colours.specs.Bounds.{Below}
use Rattle.colours.specs.Ends.{end_of}
use Rattle.colours.specs.Classes.{Colourable}
use Rattle.colours.proofs.ClassLaws.{zeros-length}
use Rattle.std.proofs.lemmas.Option.{IfSome_then}
use Rattle.fixing.specs.declared.hubs.Top.{Top}
use Rattle.fixing.specs.Weights.{free_weight, Free}
use Rattle.fixing.specs.Hubs.{Topped, Paired, Fixable, Fixed, Forced, Lengthened}
use Rattle.fixing.proofs.ForcedLaws.{forced}

-- a variable that is heavier than all others before i
pub record Leading (weights : List ℕ) (x weight best i : ℕ) : Type 0 where
  pub variable : 256 ≤ x
  pub within : x < length weights
  pub best-weight : weight ≡ best
  pub weighs : best ≡ get_or weights x 0
  pub positive : 0 < best
  pub alone : (z : ℕ) → 256 ≤ z → z < i → get_or weights z 0 ≡ best → z ≡ x

-- the greatest weight of the variables before i, and the variable that has it alone
pub record Topping (weights : List ℕ) (top : Option Top) (best i : ℕ) : Type 0 where
  pub least : 256 ≤ i
  pub heaviest : (z : ℕ) → 256 ≤ z → z < i → get_or weights z 0 ≤ best
  pub single : IfSome top (λ t. Leading weights t.cell t.weight best i)

pub top_start : (weights : List ℕ) → Topping weights None 0 256
top_start weights = record { least = omega arith; heaviest = λ z h l. absurd (omega arith); single = tt }

module _ (weights : List ℕ) (top : Option Top) (best i : ℕ) (t : Topping weights top best i) where
  -- one more, not heavier
  heaviest-next : get_or weights i 0 ≤ best → (z : ℕ) → 256 ≤ z → z < i + 1 → get_or weights z 0 ≤ best
  heaviest-next h z v k = go (le-or-lt i z)
    where
      go : (i ≤ z) ⊎ (z < i) → get_or weights z 0 ≤ best
      go (inl j) =
          let q : z ≡ i = omega arith in
          rw q h
      go (inr j) = t.heaviest z v j

  -- a heavier one
  pub top-heavier :
      i < length weights → best < get_or weights i 0 → (x : ℕ) → x ≡ i → (y : Top) → y.cell ≡ x → y.weight ≡ get_or weights i 0
      → Topping weights (Some y) (get_or weights i 0) (i + 1)
  top-heavier h l x e y c d =
      record {
        least = omega (arith, t.least);
        heaviest = λ z v k. heaviest z v k (le-or-lt i z);
        single = record {
          variable = omega (arith, t.least);
          within = omega arith;
          best-weight = d;
          weighs = rw (c, e);
          positive = omega arith;
          alone = λ z v k q. alone z v k q (le-or-lt i z);
        };
      }
    where
      heaviest : (z : ℕ) → 256 ≤ z → z < i + 1 → (i ≤ z) ⊎ (z < i) → get_or weights z 0 ≤ get_or weights i 0
      heaviest z v k (inl j) =
          let q : z ≡ i = omega arith in
          rw q (omega arith)
      heaviest z v k (inr j) = omega (arith, t.heaviest z v j)

      alone : (z : ℕ) → 256 ≤ z → z < i + 1 → get_or weights z 0 ≡ get_or weights i 0 → (i ≤ z) ⊎ (z < i) → z ≡ y.cell
      alone z v k q (inl j) = omega arith
      alone z v k q (inr j) = absurd (omega (arith, t.heaviest z v j))

  -- another as heavy
  pub top-equal : get_or weights i 0 ≡ best → Topping weights None best (i + 1)
  top-equal e =
      record { least = omega (arith, t.least); heaviest = heaviest-next (omega arith); single = tt }

  -- a lighter one
  pub top-lighter : get_or weights i 0 < best → Topping weights top best (i + 1)
  top-lighter l =
      record {
        least = omega (arith, t.least);
        heaviest = heaviest-next (omega arith);
        single = IfSome_then top t.single (λ y s. record {
          variable = s.variable;
          within = s.within;
          best-weight = s.best-weight;
          weighs = s.weighs;
          positive = s.positive;
          alone = λ z v k q. alone y s z v k q (le-or-lt i z);
        });
      }
    where
      alone :
          (y : Top) → Leading weights y.cell y.weight best i → (z : ℕ) → 256 ≤ z → z < i + 1 → get_or weights z 0 ≡ best
          → (i ≤ z) ⊎ (z < i) → z ≡ y.cell
      alone y s z v k q (inl j) =
          let e : z ≡ i = omega arith in
          let d : get_or weights i 0 ≡ best = rw e at q in
          absurd (omega arith)
      alone y s z v k q (inr j) = s.alone z v j q

  pub top-done : length weights ≤ i → IfSome top (λ y. Topped y.cell y.weight weights)
  top-done h =
      IfSome_then top t.single (λ y s. record {
        alone = record {
          variable = s.variable;
          within = s.within;
          positive = omega (arith, s.positive, s.weighs);
          alone = λ z v q. alone y s z v q (le-or-lt i z);
        };
        weighs = s.best-weight ∙ s.weighs;
      })
    where
      alone :
          (y : Top) → Leading weights y.cell y.weight best i → (z : ℕ) → 256 ≤ z → get_or weights z 0 ≡ get_or weights y.cell 0
          → (i ≤ z) ⊎ (z < i) → z ≡ y.cell
      alone y s z v q (inr j) = s.alone z v j (q ∙ sym s.weighs)
      alone y s z v q (inl j) =
          let o : get_or weights z 0 ≡ 0 = get_or-eq_default weights 0 (omega arith) in
          absurd (omega (arith, s.positive, s.weighs))

-- two that are single, of one weight
pub tops-found :
    (left right : List ℕ) (x v y w : ℕ) → Topped x v left → Topped y w right → v ≡ w → Paired x y left right
tops-found left right x v y w l r e =
    record { first = l.alone; second = r.alone; same = sym l.weighs ∙ (e ∙ r.weighs) }

-- one more cell below a number
below_last : (n : ℕ) (l : List ℕ) (x : ℕ) → Below n l → x < n → Below n (l ++ (x ∷ []))
below_last n l x b h = record { below = go l b.below }
  where
    go : (l : List ℕ) → ((i : ℕ) → get_or l i 0 < n) → (i : ℕ) → get_or (l ++ (x ∷ [])) i 0 < n
    go [] b zero = h
    go [] b (suc i) = b 0
    go (y ∷ l) b zero = b 0
    go (y ∷ l) b (suc i) = go l (λ j. b (suc j)) i

-- one more cell is paired, and weighs nothing
free-last :
    (paired cells weights : List ℕ) (x p : ℕ) → x < length weights → p ≡ x → Free paired cells weights
    → Free (paired ++ (x ∷ [])) cells (set weights p 0)
unfolding free_weight
free-last paired cells weights x p h e w = record { at = λ z. go z (either (eqb z x)) }
  where
    go :
        (z : ℕ) → (eqb z x ≡ true) ⊎ (eqb z x ≡ false)
        → get_or (set weights p 0) z 0 ≡ free_weight (paired ++ (x ∷ [])) (cell_constraints cells) z
    go z (inl y) =
        let q : z ≡ x = eqb-true z x y in
        rw (q, e, has_last x paired) (get_or-set_same weights x 0 0 h)
    go z (inr y) =
        let d : z ≡ x → ⊥ = eqb-false z x y in
        rw (e, has_other z x paired d) (get_or-set_other weights x z 0 0 d ∙ w.at z)

-- used cells are paired by now
pub record Fixing (k : ℕ) (f₀ g₀ left₀ right₀ f g left right : List ℕ) (used : ℕ) : Type 0 where
  pub grown : k ≤ used
  pub within : used ≤ length f
  pub same_size : length g ≡ length f
  pub f-size : length f ≡ length f₀
  pub g-size : length g ≡ length g₀
  pub left-size : length left ≡ length left₀
  pub right-size : length right ≡ length right₀
  pub same :
      (a b : List ℕ) → Free (take k f₀) a left₀ → Free (take k g₀) b right₀
      → same_state (end_of (take used f) a) (end_of (take used g) b) ≡ same_state (end_of (take k f₀) a) (end_of (take k g₀) b)
  pub left-free : (a : List ℕ) → Free (take k f₀) a left₀ → Free (take used f) a left
  pub right-free : (b : List ℕ) → Free (take k g₀) b right₀ → Free (take used g) b right
  pub left_below : Below (length left₀) (take k f₀) → Below (length left₀) (take used f)
  pub right-below : Below (length right₀) (take k g₀) → Below (length right₀) (take used g)

pub fix-start :
    (k : ℕ) (f g left right : List ℕ) → Fixable k f g left right → Fixing k f g left right f g left right k
fix-start k f g left right p =
    record {
      grown = omega arith;
      within = p.within;
      same_size = p.same_size;
      f-size = refl;
      g-size = refl;
      left-size = refl;
      right-size = refl;
      same = λ a b l r. refl;
      left-free = λ a l. l;
      right-free = λ b r. r;
      left_below = λ l. l;
      right-below = λ r. r;
    }

module _ (k : ℕ) (f₀ g₀ left₀ right₀ f g left right : List ℕ) (used : ℕ)
    (w : Fixing k f₀ g₀ left₀ right₀ f g left right used) where
  pub fix-done : Fixed k used f₀ g₀ f g left₀ right₀
  fix-done =
      record {
        grown = w.grown;
        within = omega (arith, w.within, w.f-size);
        same = w.same;
        left_below = w.left_below;
        right-below = w.right-below;
      }

  module _ (h : used < length f) (x y : ℕ) (t : Paired x y left right) where
    f-used : take (suc used) (set f used x) ≡ take used f ++ (x ∷ [])
    f-used = take-suc-set f used x h

    g-used : take (suc used) (set g used y) ≡ take used g ++ (y ∷ [])
    g-used = take-suc-set g used y (rw w.same_size h)

    -- the two are paired by every renaming
    pair :
        (a b : List ℕ) → Free (take k f₀) a left₀ → Free (take k g₀) b right₀
        → same_state (end_of (take used f ++ (x ∷ [])) a) (end_of (take used g ++ (y ∷ [])) b)
        ≡ same_state (end_of (take used f) a) (end_of (take used g) b)
    pair a b l r =
        let u = w.left-free a l in
        let v = w.right-free b r in
        forced (take used f) (take used g) a b x y
        (length-take-le used f w.within ∙ sym (length-take-le used g (rw w.same_size w.within)))
        t.first.variable (rw (u.at x) at t.first.positive) (sym (u.at x) ∙ (t.same ∙ v.at y))
        (λ z k e. t.second.alone z k (v.at z ∙ (e ∙ sym (v.at y))))

    pub fix-next :
        (p q : ℕ) → p ≡ x → q ≡ y
        → Fixing k f₀ g₀ left₀ right₀ (set f used x) (set g used y) (set left p 0) (set right q 0) (used + 1)
    fix-next p q e d =
        rw (add-one used)
        (record {
          grown = omega (arith, w.grown);
          within = rw (length-set f used x) h;
          same_size = length-set g used y ∙ (w.same_size ∙ sym (length-set f used x));
          f-size = length-set f used x ∙ w.f-size;
          g-size = length-set g used y ∙ w.g-size;
          left-size = length-set left p 0 ∙ w.left-size;
          right-size = length-set right q 0 ∙ w.right-size;
          same = λ a b l r. rw (f-used, g-used) (pair a b l r ∙ w.same a b l r);
          left-free = λ a l. rw f-used (free-last (take used f) a left x p t.first.within e (w.left-free a l));
          right-free = λ b r. rw g-used (free-last (take used g) b right y q t.second.within d (w.right-free b r));
          left_below = λ l.
              rw f-used (below_last (length left₀) (take used f) x (w.left_below l) (rw w.left-size at t.first.within));
          right-below = λ r.
              rw g-used (below_last (length right₀) (take used g) y (w.right-below r) (rw w.right-size at t.second.within));
        })

-- of two states with such weights
pub forced-done :
    (k k' m n : ℕ) (a b f g f' g' left right : List ℕ) → length left ≡ m → length right ≡ n → Below m (take k f)
    → Below n (take k g) → Free (take k f) a left → Free (take k g) b right → Fixed k k' f g f' g' left right
    → Forced k k' m n a b f g f' g'
forced-done k k' m n a b f g f' g' left right e d l r u v p =
    record {
      grown = p.grown;
      within = p.within;
      same = p.same a b u v;
      left_below = rw e at (p.left_below (rw e l));
      right-below = rw d at (p.right-below (rw d r));
    }

-- with a part of a table of zeros for each state
pub zeros-colourable :
    (cells bound : List ℕ) (size n : ℕ) → Colourable cells bound size n
    → Colourable cells bound (length {A = ℕ} (take size (replicate 2844 0))) n
zeros-colourable cells bound size n c = rw (zeros-length size 2844 c.room) c

pub zeros-forced :
    (k k' size : ℕ) (a b f g f' g' : List ℕ) → size ≤ 2844
    → Forced k k' (length {A = ℕ} (take size (replicate 2844 0))) (length {A = ℕ} (take size (replicate 2844 0))) a b f g f' g'
    → Forced k k' size size a b f g f' g'
zeros-forced k k' size a b f g f' g' h p = rw (zeros-length size 2844 h) at p

-- from what the goal variables became, copied to the front of two lists
module _ (size n : ℕ) (a f b g f₁ g₁ : List ℕ) (left : take (length f) f₁ ≡ f) (right : take (length g) g₁ ≡ g)
    (bounds : length g ≡ length f) where
  right' : take (length f) g₁ ≡ g
  right' = rw (← bounds) right

  -- both states can be coloured with the first cells of the lists
  pub copied-left : Colourable a f size n → Colourable a (take (length f) f₁) size n
  copied-left h = rw left h

  pub copied-right : Colourable b g size n → Colourable b (take (length f) g₁) size n
  copied-right h = rw right' h

  -- and with the longer ones
  pub lengthened :
      (k : ℕ) (f' g' : List ℕ) → Forced (length f) k size size a b f₁ g₁ f' g' → length g₁ ≡ length f₁ → length f' ≡ length f₁
      → length g' ≡ length g₁ → Colourable a f size n → Colourable b g size n → Lengthened k size n a f b g f' g'
  lengthened k f' g' p e u v ca cb =
      record {
        within = omega (arith, p.within);
        lengths = length-take-le k f' (omega (arith, p.within)) ∙ sym (length-take-le k g' (omega (arith, p.within)));
        left = record { count = ca.count; room = ca.room; terms = ca.terms; bound-below = p.left_below };
        right = record { count = cb.count; room = cb.room; terms = cb.terms; bound-below = p.right-below };
        same = rw (left, right') at p.same;
      }
