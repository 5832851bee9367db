-- Placing constraints and trying partners on cells: one law for each way that the code goes.
--   marks-none, marks-more     no position is used; one more is
--   pair-…, try-…              one partner
--   placing-…                  one partner after the other
-- Assumes nothing.
use Rattle.std.proofs.Common.{◌≡◌, ℕ, zero, suc, ◌+◌, ◌-◌, ◌*◌, ◌≤◌, ◌<◌, Bool, true, false, cond, ◌||◌, List, [], ◌∷◌, ◌++◌}
use Rattle.std.proofs.Common.{length, get_or, set, take, drop, replicate, refl, sym, ap, ◌∙◌, arith, add-one, ◌⊎◌, inl, inr, eqb}
use Rattle.std.proofs.Common.{length-set, length-drop}
use Rattle.std.specs.Prelude.{Ok, Err}
use lib.ListN.{drop_of_length-le}
use lib.Seq.{get_or-set_same, get_or-set_other, set-set, set-get_or, get_or-drop, get_or-take, length-take-le, take_all}
use borrow.Author.Tests.{eq-eqb, ne_eqb, eqb-true, eqb-false}
use Rattle.text.specs.Lists.{onward, has}
use Rattle.semantics.specs.Terms.{Constraint}
use Rattle.semantics.specs.Variants.{Pair, pair_constraint, pair_terms, try_partners, place}
use Rattle.semantics.proofs.Options.{true-false}
use Rattle.tables.specs.Cells.{cell_constraints, cell_terms}
use Rattle.tables.specs.Cells.{row_constraint}
use Rattle.tables.proofs.CellLaws.{either, constraints-at}
use Rattle.pairing.specs.Renamings.{Graph, Marks, Rows, RowsLinked, cleared}
use Rattle.comparison.specs.Placements.{attempted, placed, Placing, Unpaired, Paired, Tried}
use Rattle.colours.proofs.RowLaws.{terms-row, terms-drop}

-- no mark is set
pub marks-none : (m n : ℕ) → Marks (take m (replicate n false)) []
marks-none m n = record { marked = go m n }
  where
    go : (m n j : ℕ) → get_or (take m (replicate n false)) j false ≡ false
    go zero n j = refl
    go (suc m) zero j = refl
    go (suc m) (suc n) zero = refl
    go (suc m) (suc n) (suc j) = go m n j

-- a number stands in a list with another behind it
has-behind : (j : ℕ) (us : List ℕ) (k : ℕ) → has j (us ++ (k ∷ [])) ≡ (has j us || eqb j k)
has-behind j [] k = or-none (eqb j k)
  where
    or-none : (t : Bool) → (t || false) ≡ t
    or-none true = refl
    or-none false = refl
has-behind j (u ∷ us) k = rw (has-behind j us k) (or_assoc (eqb j u) (has j us) (eqb j k))
  where
    or_assoc : (a b c : Bool) → (a || (b || c)) ≡ ((a || b) || c)
    or_assoc true b c = refl
    or_assoc false b c = refl

-- one more mark
pub marks-more : (used : List Bool) (us : List ℕ) (j : ℕ) → j < length used → Marks used us → Marks (set used j true) (us ++
    (j ∷ []))
marks-more used us j l m = record { marked = λ k. rw (has-behind k us j) (go k (either (eqb k j))) }
  where
    right : (t : Bool) → true ≡ (t || true)
    right true = refl
    right false = refl

    left : (t : Bool) → t ≡ (t || false)
    left true = refl
    left false = refl

    go : (k : ℕ) → (eqb k j ≡ true) ⊎ (eqb k j ≡ false) → get_or (set used j true) k false ≡ (has k us || eqb k j)
    go k (inl e) = rw (e, eqb-true k j e, get_or-set_same used j true false l) (right (has j us))
    go k (inr e) =
        rw (e, get_or-set_other used j k true false (λ z. eqb-false k j e z), m.marked k) (left (has k us))

-- a row as the code lends it
abbrev pub lent : List ℕ → ℕ → List ℕ
lent l j = take (5 * j + 5 - 5 * j) (drop (5 * j) l)

five : (j : ℕ) → 5 * j + 5 - 5 * j ≡ 5
five j = omega arith

-- what the code lends as the rest
abbrev pub behind : List ℕ → List ℕ
behind a = take (length a - 5) (drop 5 a)

behind-drop : (a : List ℕ) → behind a ≡ drop 5 a
behind-drop a = take_all (length a - 5) (drop 5 a) (omega (arith, length-drop 5 a))

-- it is shorter by a constraint
pub behind-length : (a : List ℕ) → 5 ≤ length a → length (behind a) + 5 ≡ length a
behind-length a h = rw (behind-drop a) (omega (arith, length-drop 5 a))

module _ (a b : List ℕ) (j : ℕ) (used : List Bool) (f g : List ℕ) (s : Placing a b used f g) (l : j < length used)
    (h : 5 ≤ length a) where
  -- it is used
  pub pair-used : get_or used j false ≡ true → Unpaired a b j used f g used f g
  unfolding attempted
  pair-used e = record { apart = λ us ps m k. rw (← m.marked j, e); kept = (refl, refl, refl) }

  row : 5 * j + 5 ≤ length b
  row = omega (arith, s.partners)

  -- the two rows have their places
  pub try-rows : Rows (take 5 a) (lent b j) f g
  try-rows =
      record {
        left-size = length-take-le 5 a h;
        right-size = rw (five j) (length-take-le 5 (drop (5 * j) b) (omega (arith, length-drop (5 * j) b, row)));
        left = terms-row (length f) a 0 s.left;
        right = rw (five j) (terms-row (length g) b j s.right);
      }

  -- in tables of the same size too
  pub try-rows-in :
      (f' g' : List ℕ) → length f' ≡ length f → length g' ≡ length g → Rows (take 5 a) (lent b j) f' g'
  try-rows-in f' g' lf lg =
      record {
        left-size = try-rows.left-size;
        right-size = try-rows.right-size;
        left = rw lf try-rows.left;
        right = rw lg try-rows.right;
      }

  module _ (free : get_or used j false ≡ false) where
    -- the answer where the position is free
    at-free : (us : List ℕ) (ps : List Pair) → Marks used us
        → attempted a b j us ps
        ≡ onward (pair_constraint (row_constraint (take 5 a)) (row_constraint (take 5 (drop (5 * j) b))) ps) false
        (place (cell_constraints (drop 5 a)) (cell_constraints b) (us ++ (j ∷ [])))
    unfolding attempted
    at-free us ps m = rw (← m.marked j, free)

    first-left : get_or (take 5 a) 0 0 ≡ get_or a 0 0
    first-left = get_or-take 5 a 0 0 (omega arith)

    first-right : get_or (take 5 (drop (5 * j) b)) 0 0 ≡ get_or b (5 * j) 0
    first-right =
        let e : 5 * j + 0 ≡ 5 * j = omega arith in
        get_or-take 5 (drop (5 * j) b) 0 0 (omega arith) ∙ get_or-drop (5 * j) b 0 0 ∙ ap (λ n. get_or b n 0) e

    -- it has another symbol
    pub pair-symbol : (get_or a 0 0 ≡ get_or b (5 * j) 0 → ⊥) → Unpaired a b j used f g used f g
    unfolding pair_constraint row_constraint
    pair-symbol d =
        record {
          apart = λ us ps m k. at-free us ps m ∙ rw (first-left, first-right, ne_eqb (get_or a 0 0) (get_or b (5 * j) 0) d);
          kept = (refl, refl, refl);
        }

    module _ (e : get_or a 0 0 ≡ get_or b (5 * j) 0) where
      at-terms : (us : List ℕ) (ps : List Pair) → Marks used us
          → attempted a b j us ps
          ≡ onward (pair_terms (cell_terms (drop 1 (take 5 a))) (cell_terms (drop 1 (lent b j))) ps) false
          (place (cell_constraints (drop 5 a)) (cell_constraints b) (us ++ (j ∷ [])))
      unfolding pair_constraint row_constraint
      at-terms us ps m =
          at-free us ps m ∙ rw (five j, first-left, first-right, eq-eqb (get_or a 0 0) (get_or b (5 * j) 0) e)

      -- its terms cannot be made equal
      pub pair-apart :
          (fresh : List Bool) (f' g' : List ℕ) → RowsLinked (take 5 a) (lent b j) (Err fresh) f g f' g' → (f'' g'' : List ℕ)
          → f'' ≡ cleared fresh (drop 1 (take 5 a)) f' → g'' ≡ cleared fresh (drop 1 (lent b j)) g'
          → Unpaired a b j used f g used f'' g''
      pair-apart fresh f' g' w f'' g'' cf cg =
          record {
            apart = λ us ps m k. at-terms us ps m ∙ rw (w.same.apart ps k refl);
            kept = (refl, cf ∙ w.forth-back, cg ∙ w.back-back);
          }

      -- they can
      pub pair-done :
          (fresh : List Bool) (f' g' : List ℕ) → RowsLinked (take 5 a) (lent b j) (Ok fresh) f g f' g'
          → Paired fresh a b j used f g (set used j true) f' g'
      unfolding placed
      pair-done fresh f' g' w =
          record {
            free = free;
            marked = refl;
            on = λ us ps m k.
                let (qs, x, q) = w.same.joined ps k refl in
                (qs, q, at-terms us ps m ∙ rw x);
            size = w.size;
            forth-back = w.forth-back;
            back-back = rw (five j) at w.back-back;
          }

  module _ (fresh : List Bool) (used' : List Bool) (f' g' : List ℕ) (w : Paired fresh a b j used f g used' f' g') where
    -- what placing the others asks
    pub try-others : length f' ≡ length f → length g' ≡ length g → Placing (behind a) b used' f' g'
    try-others lf lg =
        rw (behind-drop a, w.marked)
        (record {
          partners = rw (length-set used j true) s.partners;
          left = rw lf (terms-drop (length f) a s.left);
          right = rw lg s.right;
        })

    module _ (r : Bool) (used'' : List Bool) (f₁ g₁ : List ℕ) (p₀ : Tried r (placed (behind a) b) used' f' g' used'' f₁ g₁) where
      p : Tried r (placed (drop 5 a) b) (set used j true) f' g' used'' f₁ g₁
      p = rw (behind-drop a, w.marked) at p₀

      at_others : (us : List ℕ) (ps : List Pair) → Marks used us → Graph f g ps → r ≡ attempted a b j us ps
      at_others us ps m k =
          let (qs, q, e) = w.on us ps m k in
          p.same (us ++ (j ∷ [])) qs (marks-more used us j l m) q ∙ sym e

      -- the others are placed
      pub try-found : r ≡ true → Tried true (attempted a b j) used f g used'' f₁ g₁
      try-found y =
          record { same = λ us ps m k. sym y ∙ at_others us ps m k; kept = λ z. true-false refl z }

      module _ (y : r ≡ false) where
        used-again : set used'' j false ≡ used
        used-again =
            rw (p.kept y).0 (set-set used j true false ∙ ap (set used j) (sym (w.free)) ∙ set-get_or used j false)

        -- they are not
        pub try-dead :
            (f'' g'' : List ℕ) → f'' ≡ cleared fresh (drop 1 (take 5 a)) f₁ → g'' ≡ cleared fresh (drop 1 (lent b j)) g₁
            → Tried false (attempted a b j) used f g (set used'' j false) f'' g''
        try-dead f'' g'' cf cg =
            record {
              same = λ us ps m k. sym y ∙ at_others us ps m k;
              kept = λ z. (
                used-again,
                cf ∙ rw (p.kept y).1 w.forth-back,
                (rw (five j) at cg) ∙ rw (p.kept y).2 w.back-back,
              );
            }

-- what trying partners tries at each position
abbrev attempts : List ℕ → List ℕ → List ℕ → List Pair → ℕ → Constraint → Bool
attempts a b us ps =
    λ p d. cond (has p us) false
    (onward (pair_constraint (row_constraint (take 5 a)) d ps) false
    (place (cell_constraints (drop 5 a)) (cell_constraints b) (us ++ (p ∷ []))))

-- the positions from j on give the answer for all, and all is as it was
pub record Seeking (a b : List ℕ) (used₀ : List Bool) (f₀ g₀ : List ℕ) (used : List Bool) (f g : List ℕ) (j : ℕ) : Type 0 where
  pub used-same : used ≡ used₀
  pub forth-same : f ≡ f₀
  pub back-same : g ≡ g₀
  pub rest :
      (us : List ℕ) (ps : List Pair) → Marks used₀ us → Graph f₀ g₀ ps
      → try_partners j (cell_constraints (drop (5 * j) b)) (attempts a b us ps) ≡ placed a b us ps

module _ (a b : List ℕ) (used : List Bool) (f g : List ℕ) (s : Placing a b used f g) where
  -- no constraint is left
  pub placing-none : length a < 5 → Tried true (placed a b) used f g used f g
  unfolding placed place cell_constraints
  placing-none h = record { same = λ us ps m k. rw (short a h); kept = λ z. true-false refl z }
    where
      short : (a : List ℕ) → length a < 5 → cell_constraints a ≡ []
      short [] h = refl
      short (k ∷ []) h = refl
      short (k ∷ x ∷ []) h = refl
      short (k ∷ x ∷ y ∷ []) h = refl
      short (k ∷ x ∷ y ∷ z ∷ []) h = refl
      short (k ∷ x ∷ y ∷ z ∷ w ∷ a) h = absurd (omega arith)

  module _ (h : 5 ≤ length a) where
    pub placing-start : Seeking a b used f g used f g 0
    unfolding placed place
    placing-start =
        record {
          used-same = refl;
          forth-same = refl;
          back-same = refl;
          rest = λ us ps m k. sym (rw (constraints-at a 0 h));
        }

    module _ (used' : List Bool) (f' g' : List ℕ) (j : ℕ) (w : Seeking a b used f g used' f' g' j) where
      -- no partner is left
      pub placing-end : length used ≤ j → Tried false (placed a b) used f g used' f' g'
      unfolding try_partners cell_constraints
      placing-end k =
          let z : length b ≤ 5 * j = omega (arith, s.partners) in
          record {
            same = λ us ps m q. rw (drop_of_length-le b {i = 5 * j} z) at (w.rest us ps m q);
            kept = λ y. (w.used-same, w.forth-same, w.back-same);
          }

      module _ (k : j < length used) (r : Bool) (used'' : List Bool) (f'' g'' : List ℕ)
          (t : Tried r (attempted a b j) used' f' g' used'' f'' g'') where
        near : Tried r (attempted a b j) used f g used'' f'' g''
        near = rw (w.used-same, w.forth-same, w.back-same) at t

        split : (us : List ℕ) (ps : List Pair) → Marks used us → Graph f g ps
            → (attempted a b j us ps || try_partners (suc j) (cell_constraints (drop (5 * suc j) b)) (attempts a b us ps))
            ≡ placed a b us ps
        unfolding try_partners attempted
        split us ps m q =
            rw (constraints-at b j (omega (arith, s.partners))) at (w.rest us ps m q)

        -- the partner will do
        pub placing-found : r ≡ true → Tried true (placed a b) used f g used'' f'' g''
        placing-found y =
            record {
              same = λ us ps m q. rw (← (near.same us ps m q), y) at (split us ps m q);
              kept = λ z. true-false refl z;
            }

        -- it will not
        pub placing-next : r ≡ false → Seeking a b used f g used'' f'' g'' (j + 1)
        placing-next y =
            rw (add-one j)
            (record {
              used-same = (near.kept y).0;
              forth-same = (near.kept y).1;
              back-same = (near.kept y).2;
              rest = λ us ps m q. rw (← (near.same us ps m q), y) at (split us ps m q);
            })
