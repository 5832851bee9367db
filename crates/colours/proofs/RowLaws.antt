-- Constraints of cells, by their numbers.
--   row_at             constraint i of the list
--   row_same           the same, of the five cells
--   rows-map           a list of constraints that is another's image, by its rows
--   rows-pointwise     two lists of constraints, row by row
--   terms-all          what holds of all terms holds of the terms of a row
--   terms-row          they have their places
-- Assumes nothing.
use Rattle.std.proofs.Common.{◌≡◌, ℕ, zero, suc, ◌+◌, ◌*◌, ◌<◌, ◌≤◌, ◌⊎◌, List, [], ◌∷◌, map, length, get_or, take, drop, sym, refl, ap, ◌∙◌, inl, inr, arith, length-drop, length-take, get_or-drop, get_or-take, ext_get_or}
use lib.ListN.{length-map, get_or-eq_default}
use Rattle.semantics.specs.Terms.{Constraint}
use Rattle.semantics.specs.Variants.{Pointwise, empty, each}
use Rattle.semantics.proofs.Configurations.{Member, first, later}
use Rattle.tables.specs.Cells.{cell_constraints}
use Rattle.tables.specs.Cells.{row_constraint}
use Rattle.tables.proofs.CellLaws.{constraints-length}
use Rattle.tables.proofs.CellLaws.{le-or-lt, constraints-at}
use Rattle.colours.specs.Rows.{row_of}
use Rattle.colours.specs.Bounds.{Below, TermsBelow}

-- the cells of a row, behind another row
row-behind : (k a b c d : ℕ) (l : List ℕ) (i : ℕ) → row_of (k ∷ a ∷ b ∷ c ∷ d ∷ l) (suc i) ≡ row_of l i
unfolding row_of
row-behind k a b c d l i =
    let e₀ : 5 * suc i ≡ suc (suc (suc (suc (suc (5 * i))))) = omega arith in
    let e₁ : 5 * suc i + 1 ≡ suc (suc (suc (suc (suc (5 * i + 1))))) = omega arith in
    let e₂ : 5 * suc i + 2 ≡ suc (suc (suc (suc (suc (5 * i + 2))))) = omega arith in
    let e₃ : 5 * suc i + 3 ≡ suc (suc (suc (suc (suc (5 * i + 3))))) = omega arith in
    let e₄ : 5 * suc i + 4 ≡ suc (suc (suc (suc (suc (5 * i + 4))))) = omega arith in
    rw (e₁, e₂, e₃, e₄, e₀)

-- constraint i of the list
pub row_at : (i : ℕ) (l : List ℕ) (z : Constraint) → 5 * i + 5 ≤ length l → get_or (cell_constraints l) i z ≡ row_of l i
unfolding cell_constraints row_of
row_at i [] z h = absurd (omega arith)
row_at i (k ∷ []) z h = absurd (omega arith)
row_at i (k ∷ a ∷ []) z h = absurd (omega arith)
row_at i (k ∷ a ∷ b ∷ []) z h = absurd (omega arith)
row_at i (k ∷ a ∷ b ∷ c ∷ []) z h = absurd (omega arith)
row_at zero (k ∷ a ∷ b ∷ c ∷ d ∷ l) z h = refl
row_at (suc i) (k ∷ a ∷ b ∷ c ∷ d ∷ l) z h = row_at i l z (omega arith) ∙ sym (row-behind k a b c d l i)

-- a constraint with nothing in it
nothing : Constraint
nothing = record { symbol = 0; terms = [] }

-- the same, of the row's five cells
pub row_same : (l : List ℕ) (i : ℕ) → 5 * i + 5 ≤ length l → row_constraint (take 5 (drop (5 * i) l)) ≡ row_of l i
unfolding row_of
row_same l i h =
    let e : 5 * i + 0 ≡ 5 * i = omega arith in
    rw (constraints-at l i h) at (row_at 0 (drop (5 * i) l) nothing (omega (arith, length-drop (5 * i) l)))
    ∙ rw (
      get_or-drop (5 * i) l 0 0,
      get_or-drop (5 * i) l 1 0,
      get_or-drop (5 * i) l 2 0,
      get_or-drop (5 * i) l 3 0,
      get_or-drop (5 * i) l 4 0,
      e,
    )

-- an element of an image
get_d_map : {A B : Type 0} (f : A → B) (l : List A) (i : ℕ) (d : B) (z : A) → i < length l → get_or (map f l) i d ≡ f (get_or l i z)
get_d_map f [] i d z h = absurd (omega arith)
get_d_map f (x ∷ l) zero d z h = refl
get_d_map f (x ∷ l) (suc i) d z h = get_d_map f l i d z (omega arith)

module _ (n : ℕ) (l : List ℕ) (s : length l ≡ 5 * n) where
  room : (i : ℕ) → i < n → 5 * i + 5 ≤ length l
  room i h = omega arith

  count : length (cell_constraints l) ≡ n
  count = constraints-length n l s

  -- an element of an image of the constraints
  pub image-at : (g : Constraint → ℕ) (i : ℕ) → i < n → get_or (map g (cell_constraints l)) i 0 ≡ g (row_of l i)
  image-at g i h = get_d_map g (cell_constraints l) i 0 nothing (rw count h) ∙ ap g (row_at i l nothing (room i h))

  -- a list that is the image of the constraints, by its elements
  pub rows-image :
      (g : Constraint → ℕ) (keys : List ℕ) → length keys ≡ n → ((i : ℕ) → i < n → get_or keys i 0 ≡ g (row_of l i))
      → keys ≡ map g (cell_constraints l)
  rows-image g keys e f =
      ext_get_or 0 keys (map g (cell_constraints l)) (e ∙ (sym count ∙ sym (length-map (cell_constraints l) g)))
      (λ i h. f i (rw e at h) ∙ sym (image-at g i (rw e at h)))

  module _ (l' : List ℕ) (s' : length l' ≡ 5 * n) where
    -- constraints that are the image of others, row by row
    pub rows-map :
        (f : Constraint → Constraint) → ((i : ℕ) → i < n → row_of l' i ≡ f (row_of l i))
        → cell_constraints l' ≡ map f (cell_constraints l)
    rows-map f e =
        ext_get_or nothing (cell_constraints l') (map f (cell_constraints l))
        (constraints-length n l' s' ∙ (sym count ∙ sym (length-map (cell_constraints l) f)))
        (λ i h.
        let k : i < n = rw (constraints-length n l' s') at h in
        row_at i l' nothing (omega arith)
        ∙ (e i k ∙ sym (get_d_map f (cell_constraints l) i nothing nothing (rw count k) ∙ ap f (row_at i l nothing (room i k)))))

-- two lists, element by element
pub pointwise-at :
    {A B : Type 0} {R : A → B → Type 0} (y : A) (z : B) (l : List A) (m : List B) → length l ≡ length m
    → ((i : ℕ) → i < length l → R (get_or l i y) (get_or m i z)) → Pointwise R l m
pointwise-at y z [] [] e f = empty
pointwise-at y z [] (b ∷ m) e f = absurd (omega arith)
pointwise-at y z (a ∷ l) [] e f = absurd (omega arith)
pointwise-at y z (a ∷ l) (b ∷ m) e f =
    each (f 0 (omega arith)) (pointwise-at y z l m (omega arith) (λ i h. f (suc i) (omega arith)))

-- two lists of constraints, row by row
pub rows-pointwise :
    {R : Constraint → Constraint → Type 0} (n : ℕ) (l l' : List ℕ) → length l ≡ 5 * n → length l' ≡ 5 * n
    → ((i : ℕ) → i < n → R (row_of l i) (row_of l' i)) → Pointwise R (cell_constraints l) (cell_constraints l')
rows-pointwise {R} n l l' s s' f =
    pointwise-at nothing nothing (cell_constraints l) (cell_constraints l') (constraints-length n l s ∙ sym
    (constraints-length n l' s'))
    (λ i h.
    let k : i < n = rw (constraints-length n l s) at h in
    rw (row_at i l nothing (omega arith), row_at i l' nothing (omega arith)) (f i k))

-- what holds of all terms holds of the terms of a row
pub terms-all :
    (P : ℕ → Type 0) (l : List ℕ) (i : ℕ) → ((k j : ℕ) → j < 4 → P (get_or l (5 * k + (1 + j)) 0))
    → (j : ℕ) → P (get_or (drop 1 (take 5 (drop (5 * i) l))) j 0)
terms-all P l i f j = rw (get_or-drop 1 (take 5 (drop (5 * i) l)) j 0) (go (le-or-lt 4 j))
  where
    go : (4 ≤ j) ⊎ (j < 4) → P (get_or (take 5 (drop (5 * i) l)) (1 + j) 0)
    go (inr h) =
        rw (get_or-take 5 (drop (5 * i) l) (1 + j) 0 (omega arith), get_or-drop (5 * i) l (1 + j) 0) (f i j h)
    go (inl h) =
        let e : length (take 5 (drop (5 * i) l)) ≤ 1 + j = omega (arith, length-take 5 (drop (5 * i) l)) in
        let z : get_or l (5 * length l + (1 + 0)) 0 ≡ 0 = get_or-eq_default l 0 (omega arith) in
        rw (get_or-eq_default (take 5 (drop (5 * i) l)) 0 e) (rw z at (f (length l) 0 (omega arith)))

-- they have their places
pub terms-row : (n : ℕ) (l : List ℕ) (i : ℕ) → TermsBelow n l → Below n (drop 1 (take 5 (drop (5 * i) l)))
terms-row n l i b = record { below = terms-all (λ x. x < n) l i b.below }

-- so have those of the other constraints
pub terms-drop : (n : ℕ) (l : List ℕ) → TermsBelow n l → TermsBelow n (drop 5 l)
terms-drop n l b =
    record {
      below = λ i j h.
          let e : 5 + (5 * i + (1 + j)) ≡ 5 * suc i + (1 + j) = omega arith in
          rw (get_or-drop 5 l (5 * i + (1 + j)) 0, e) (b.below (suc i) j h);
    }

-- the symbols are small where their cells are
pub symbols-small :
    (n : ℕ) (l : List ℕ) → ((i : ℕ) → get_or l i 0 < n) → (c : Constraint) → Member c (cell_constraints l) → c.symbol < n
unfolding cell_constraints
symbols-small n [] h c m = elim m [ ]
symbols-small n (k ∷ []) h c m = elim m [ ]
symbols-small n (k ∷ x ∷ []) h c m = elim m [ ]
symbols-small n (k ∷ x ∷ y ∷ []) h c m = elim m [ ]
symbols-small n (k ∷ x ∷ y ∷ z ∷ []) h c m = elim m [ ]
symbols-small n (k ∷ x ∷ y ∷ z ∷ w ∷ l) h c first = h 0
symbols-small n (k ∷ x ∷ y ∷ z ∷ w ∷ l) h c (later m) =
    symbols-small n l (λ i. h (suc (suc (suc (suc (suc i)))))) c m
