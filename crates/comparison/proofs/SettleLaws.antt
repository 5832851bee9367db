-- Placing constraints without going back: one law for each way that the code goes.
--   tries-at              one partner that will do is enough
--   paired-settled, settle-…   one constraint, at one position and at the first that will do
--   terms-later           the terms of later constraints
--   all-…                 all constraints
-- Assumes nothing.
use Rattle.std.proofs.Common.{◌≡◌, ℕ, zero, suc, ◌+◌, ◌-◌, ◌*◌, ◌≤◌, ◌<◌, Bool, true, false, ◌||◌, List, [], ◌∷◌, ◌++◌, map}
use Rattle.std.proofs.Common.{length, take, drop, replicate, refl, ◌∙◌, arith, add-one, length-drop}
use Rattle.std.specs.Prelude.{Option, Some, None, is_some}
use lib.ListN.{drop_of_length-le}
use lib.Seq.{take_all, drop-drop, get_or-drop}
use borrow.Author.Tests.{eq-eqb}
use Rattle.semantics.specs.Terms.{Constraint}
use Rattle.semantics.specs.Variants.{Pair, pair_terms, try_partners, place, same_state}
use Rattle.semantics.proofs.Options.{true-false}
use Rattle.semantics.proofs.Bools.{or_right}
use Rattle.tables.specs.Cells.{cell_term, cell_constraints}
use Rattle.tables.specs.Cells.{row_constraint}
use Rattle.tables.proofs.CellLaws.{constraints-length}
use Rattle.tables.proofs.CellLaws.{constraints-at}
use Rattle.pairing.specs.Renamings.{Graph, Marks, Joined}
use Rattle.colours.specs.Bounds.{TermsBelow}
use Rattle.comparison.specs.Placements.{attempted, placed, Placing, Paired, PairedAt}
use Rattle.comparison.specs.Settlements.{Settled, SettledAll, Found}
use Rattle.pairing.proofs.PairLaws.{graph-empty}
use Rattle.comparison.proofs.PlaceLaws.{marks-more, marks-none}

-- one partner that will do is enough
tries-at :
    (m k j : ℕ) (b : List ℕ) (P : ℕ → Constraint → Bool) → j ≡ k + m → 5 * j + 5 ≤ length b
    → P j (row_constraint (take 5 (drop (5 * j) b))) ≡ true → try_partners k (cell_constraints (drop (5 * k) b)) P ≡ true
unfolding try_partners
tries-at zero k j b P e h t =
    let i : j ≡ k = omega arith in
    rw (constraints-at b k (omega arith)) (or_left _ (rw i at t))
  where
    or_left : {x : Bool} (y : Bool) → x ≡ true → (x || y) ≡ true
    or_left y p = rw p
tries-at (suc m) k j b P e h t =
    rw (constraints-at b k (omega arith))
    (or_right (P k (row_constraint (take 5 (drop (5 * k) b)))) (try_partners (suc k) (cell_constraints (drop (5 * suc k) b)) P)
    (tries-at m (suc k) j b P (omega arith) h t))

module _ (a b : List ℕ) (j : ℕ) (used : List Bool) (f g : List ℕ) (s : Placing a b used f g) (l : j < length used)
    (h : 5 ≤ length a) where
  -- a partner that will do
  placed_by : (us : List ℕ) (ps : List Pair) → attempted a b j us ps ≡ true → placed a b us ps ≡ true
  unfolding placed place attempted
  placed_by us ps t =
      rw (constraints-at a 0 h)
      (tries-at j 0 j b _ (omega arith) (omega (arith, s.partners)) t)

  -- it is placed there
  pub paired-settled :
      (fresh : List Bool) (used' : List Bool) (f' g' : List ℕ)
      → Paired fresh a b j used f g used' f' g' → Settled true a b used f g used' f' g'
  paired-settled fresh used' f' g' w =
      record {
        on = λ z us ps m k.
            let (qs, q, e) = w.on us ps m k in (
              us ++ (j ∷ []),
              qs,
              rw w.marked (marks-more used us j l m),
              q,
              λ y. placed_by us ps (e ∙ y),
            );
      }

-- all is as it was
pub record Trying (used₀ : List Bool) (f₀ g₀ : List ℕ) (used : List Bool) (f g : List ℕ) : Type 0 where
  pub used-same : used ≡ used₀
  pub forth-same : f ≡ f₀
  pub back-same : g ≡ g₀

module _ (a b : List ℕ) (used₀ : List Bool) (f₀ g₀ : List ℕ) (used : List Bool) (f g : List ℕ) (j : ℕ)
    (w : Trying used₀ f₀ g₀ used f g) where
  pub settle-asks : Placing a b used₀ f₀ g₀ → Placing a b used f g
  settle-asks s = rw (w.used-same, w.forth-same, w.back-same) s

  -- the position will do
  pub settle-found :
      Placing a b used₀ f₀ g₀ → j < length used₀ → 5 ≤ length a → (o : Option (List Bool)) (used' : List Bool) (f' g' : List ℕ)
      → PairedAt o a b j used f g used' f' g' → is_some o ≡ true → Settled true a b used₀ f₀ g₀ used' f' g'
  settle-found s h n None used' f' g' k e = true-false e refl
  settle-found s h n (Some fresh) used' f' g' k e =
      rw (w.used-same, w.forth-same, w.back-same) at
      (paired-settled a b j used f g (settle-asks s) (rw w.used-same h) n fresh used' f' g' k)

  -- it will not
  pub settle-next :
      (o : Option (List Bool)) (used' : List Bool) (f' g' : List ℕ) → PairedAt o a b j used f g used' f' g' → is_some o ≡ false
      → Trying used₀ f₀ g₀ used' f' g'
  settle-next None used' f' g' k e =
      record {
        used-same = k.kept.0 ∙ w.used-same;
        forth-same = k.kept.1 ∙ w.forth-same;
        back-same = k.kept.2 ∙ w.back-same;
      }
  settle-next (Some fresh) used' f' g' k e = true-false refl e

-- the terms of the constraints from number i on have their places
pub terms-later : (m : ℕ) (a : List ℕ) (d i : ℕ) → d ≡ 5 * i → TermsBelow m a → TermsBelow m (drop d a)
terms-later m a d i e t =
    record {
      below = λ k c l.
          let q : d + (5 * k + (1 + c)) ≡ 5 * (i + k) + (1 + c) = omega arith in
          rw (get_or-drop d a (5 * k + (1 + c)) 0, q) (t.below (i + k) c l);
    }

-- the constraints before i are placed: those from i on answer for all
pub record SettlingAll (a : List ℕ) (n : ℕ) (b : List ℕ) (used₀ : List Bool) (f₀ g₀ : List ℕ) (used : List Bool) (f g : List ℕ)
    (i : ℕ) : Type 0 where
  pub used-size : length used ≡ length used₀
  pub forth-size : length f ≡ length f₀
  pub back-size : length g ≡ length g₀
  pub on :
      (us : List ℕ) (ps : List Pair) → Marks used₀ us → Graph f₀ g₀ ps
      → (vs : List ℕ) × (qs : List Pair) × Marks used vs × Graph f g qs
      × (placed (drop (5 * i) a) b vs qs ≡ true → placed a b us ps ≡ true)

module _ (a : List ℕ) (n : ℕ) (b : List ℕ) (used₀ : List Bool) (f₀ g₀ : List ℕ) (p : Placing a b used₀ f₀ g₀)
    (s : length a ≡ 5 * n) where
  pub all_start : SettlingAll a n b used₀ f₀ g₀ used₀ f₀ g₀ 0
  all_start =
      record {
        used-size = refl;
        forth-size = refl;
        back-size = refl;
        on = λ us ps m k. (us, ps, m, k, λ t. t);
      }

  module _ (used : List Bool) (f g : List ℕ) (i : ℕ) (w : SettlingAll a n b used₀ f₀ g₀ used f g i) where
    pub all_done : n ≤ i → SettledAll true a b used₀ f₀ g₀
    unfolding placed place cell_constraints
    all_done h =
        record {
          all = λ z us ps m k.
              let (vs, qs, mv, kq, t) = w.on us ps m k in
              t (rw (drop_of_length-le a {i = 5 * i} (omega arith)));
        }

    module _ (h : i < n) where
      -- what is lent of the constraints
      abbrev left : List ℕ
      left = take (length a - 5 * i) (drop (5 * i) a)

      left-drop : left ≡ drop (5 * i) a
      left-drop = take_all (length a - 5 * i) (drop (5 * i) a) (omega (arith, length-drop (5 * i) a))

      pub all-asks : Placing left b used f g × (5 ≤ length left)
      all-asks =
          rw left-drop (
            record {
              partners = rw w.used-size p.partners;
              left = rw w.forth-size (terms-later (length f₀) a (5 * i) i refl p.left);
              right = rw w.back-size p.right;
            },
            omega (arith, length-drop (5 * i) a),
          )

      pub all-next :
          (r : Bool) (used' : List Bool) (f' g' : List ℕ) → Settled r left b used f g used' f' g' → r ≡ true
          → length used' ≡ length used → length f' ≡ length f → length g' ≡ length g
          → SettlingAll a n b used₀ f₀ g₀ used' f' g' (i + 1)
      all-next r used' f' g' t e lu lf lg =
          rw (add-one i)
          (record {
            used-size = lu ∙ w.used-size;
            forth-size = lf ∙ w.forth-size;
            back-size = lg ∙ w.back-size;
            on = λ us ps m k.
                let (vs, qs, mv, kq, y) = w.on us ps m k in
                let (xs, os, mx, ko, z) = (rw left-drop at t).on e vs qs mv kq in
                let q : 5 * i + 5 ≡ 5 * suc i = omega arith in
                (xs, os, mx, ko, λ d. y (z (rw (drop-drop 5 (5 * i) a, q) d)));
          })

-- two states found to be equal
module _ (f a g b : List ℕ) (n : ℕ) (s : length a ≡ 5 * n) (t : length b ≡ 5 * n) (h : ℕ) (r : Bool) (f' g' : List ℕ)
    (j : Joined r (pair_terms (map cell_term f) (map cell_term g)) (replicate h 0) (replicate h 0) f' g') where
  pub found_none : Found false f a g b
  found_none = record { same = λ z. true-false z refl }

  pub found_all :
      r ≡ true → (q : Bool) → SettledAll q a b (take n (replicate 512 false)) f' g' → Found q f a g b
  unfolding same_state placed
  found_all y q w =
      record {
        same = λ z.
            let (qs, x, i) = j.joined [] (graph-empty h h) y in
            rw (constraints-length n a s, constraints-length n b t, eq-eqb n n refl, x) (w.all z [] qs (marks-none n 512) i);
      }
