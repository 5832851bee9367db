-- Colours in tables: one law for each way that the code goes.
--   square-small      a product that fits
--   sign-…, spread-…  the terms of a constraint
--   give-…            constraints
--   Absorbing         one round ends
-- Assumes nothing.
use Rattle.std.proofs.Common.{◌≡◌, ℕ, suc, ◌+◌, ◌-◌, ◌*◌, ◌%◌, ◌<◌, ◌≤◌, true, false, eqb, ◌⊎◌, List, [], ◌∷◌, length, get_or, take, drop, set, ap, ◌∙◌, inl, inr, mul-le-mul, add-one, arith, length-drop, length-set, drop_of_length-le, length-take-le, take_all, get_or-set_other, get_or-set_same, eqb-true}
use borrow.Author.Tests.{eqb-false}
use Rattle.semantics.specs.Terms.{Term, same_term}
use Rattle.tables.specs.Cells.{cell_term, cell_terms, cell_constraints}
use Rattle.tables.specs.Cells.{row_constraint}
use Rattle.tables.proofs.CellLaws.{either, same-cell, terms-none, terms-more, constraints-at}
use Rattle.colours.specs.Bounds.{Below, TermsBelow}
use Rattle.colours.specs.Colours.{mixed, plus, added, signed, signature, gains, gathered, with_terms, Colours, Tells, SignedBy, Signed}
use Rattle.colours.specs.Colours.{Spread, Given}
use Rattle.colours.proofs.RowLaws.{terms-all}

-- the square of 32 bits fits 64
pub square-small : (t : ℕ) → (t % 4294967296) * (t % 4294967296) ≤ 18446744065119617025
square-small t =
    let h : t % 4294967296 ≤ 4294967295 = omega arith in
    mul-le-mul h h

-- at a 0, and behind the last cell, the terms end
pub terms-end : (l : List ℕ) (i : ℕ) → length l ≤ i → cell_terms (drop i l) ≡ []
unfolding cell_terms
terms-end l i h = rw (drop_of_length-le l {i = i} h)

-- the terms from i on, from the number by now, give the answer for all
pub record Signing (answer : ℕ → ℕ → Type 0) (start : ℕ) (terms : List ℕ) (s i : ℕ) : Type 0 where
  pub same :
      (κ : Term → ℕ) → Tells answer terms κ → signed κ s (cell_terms (drop i terms)) ≡ signed κ start (cell_terms terms)

module _ (answer : ℕ → ℕ → Type 0) (start : ℕ) (terms : List ℕ) (s i : ℕ) (w : Signing answer start terms s i) where
  pub sign-done : length terms ≤ i → SignedBy answer s start terms
  unfolding signed
  sign-done h = record { same = λ κ k. rw (terms-end terms i h) at (w.same κ k) }

  module _ (h : i < length terms) where
    pub sign-end : get_or terms i 0 ≡ 0 → SignedBy answer s start terms
    unfolding signed
    sign-end z = record { same = λ κ k. rw (terms-none terms i h z) at (w.same κ k) }

    pub sign-next :
        (get_or terms i 0 ≡ 0 → ⊥) → (c s' : ℕ) → answer (get_or terms i 0) c → s' ≡ mixed s c
        → Signing answer start terms s' (i + 1)
    unfolding signed
    sign-next z c s' a f =
        rw (add-one i)
        (record { same = λ κ k. rw (f, k i c a) (rw (terms-more terms i h z) at (w.same κ k)) })

-- answers by a table are what the table stands for
pub sign-table :
    (answer : ℕ → ℕ → Type 0) (r start : ℕ) (terms colours : List ℕ) → Below (length colours) terms
    → ((x c : ℕ) → answer x c → c ≡ get_or colours x 0) → SignedBy answer r start terms
    → Signed r start (cell_terms terms) colours
sign-table answer r start terms colours b f s =
    record { same = λ κ k. s.same κ (λ i c a. f (get_or terms i 0) c a ∙ k.at (get_or terms i 0) (b.below i)) }

-- the terms from i on, from the number and the table by now, give the answer for all
pub record Spreading (start : ℕ) (terms received₀ received : List ℕ) (s i : ℕ) : Type 0 where
  pub size : length received ≡ length received₀
  pub same :
      (x : ℕ) → x < length received₀
      → added (get_or received x 0) (gains (cell_term x) s (cell_terms (drop i terms)))
      ≡ added (get_or received₀ x 0) (gains (cell_term x) start (cell_terms terms))

-- what a term gains where it stands first, and where another does
gains-here : (t u : Term) (s : ℕ) (us : List Term) → same_term t u ≡ true → gains t s (u ∷ us) ≡ mixed s 1 ∷ gains t (mixed s 1) us
unfolding gains
gains-here t u s us h = rw h

gains-other : (t u : Term) (s : ℕ) (us : List Term) → same_term t u ≡ false → gains t s (u ∷ us) ≡ gains t (mixed s 1) us
unfolding gains
gains-other t u s us h = rw h

module _ (start : ℕ) (terms received₀ received : List ℕ) (s i : ℕ) (w : Spreading start terms received₀ received s i) where
  pub spread-done : length terms ≤ i → Spread start (cell_terms terms) received₀ received
  unfolding gains added
  spread-done h = record { at = λ x l. rw (terms-end terms i h) at (w.same x l) }

  module _ (h : i < length terms) where
    pub spread_end : get_or terms i 0 ≡ 0 → Spread start (cell_terms terms) received₀ received
    unfolding gains added
    spread_end z = record { at = λ x l. rw (terms-none terms i h z) at (w.same x l) }

    pub spread-room : Below (length received₀) terms → (p : ℕ) → p ≡ get_or terms i 0 → p < length received
    spread-room b p e = rw (e, w.size) (b.below i)

    module _ (z : get_or terms i 0 ≡ 0 → ⊥) (b : Below (length received₀) terms) (p : ℕ) (e : p ≡ get_or terms i 0)
        (s' v : ℕ) (f : s' ≡ mixed s 1) (g : v ≡ plus (get_or received p 0) s') where
      -- what each term has then
      one_more :
          (x : ℕ) (us : List Term) → (eqb x p ≡ true) ⊎ (eqb x p ≡ false)
          → added (get_or (set received p v) x 0) (gains (cell_term x) s' us)
          ≡ added (get_or received x 0) (gains (cell_term x) s (cell_term p ∷ us))
      unfolding added
      one_more x us (inl y) =
          let q : x ≡ p = eqb-true x p y in
          rw (
            gains-here (cell_term x) (cell_term p) s us (same-cell x p ∙ y),
            q,
            get_or-set_same received p v 0 (spread-room b p e),
            g,
            f,
          )
      one_more x us (inr y) =
          rw (
            gains-other (cell_term x) (cell_term p) s us (same-cell x p ∙ y),
            get_or-set_other received p x v 0 (λ q. eqb-false x p y q),
            f,
          )

      pub spread-next : Spreading start terms received₀ (set received p v) s' (i + 1)
      spread-next =
          rw (add-one i)
          (record {
            size = length-set received p v ∙ w.size;
            same = λ x l.
                one_more x (cell_terms (drop (suc i) terms)) (either (eqb x p))
                ∙ rw e (rw (terms-more terms i h z) at (w.same x l));
          })

-- one constraint gives to its terms
pub give-one :
    (symbol s : ℕ) (terms colours received received' : List ℕ) → Signed s symbol (cell_terms terms) colours
    → Spread s (cell_terms terms) received received' → Given (with_terms symbol terms ∷ []) colours received received'
unfolding gathered signature with_terms
give-one symbol s terms colours received received' m p = record { at = λ κ k x h. p.at x h ∙ rw (m.same κ k) }

-- the constraints from i on, from the table by now, give the answer for all
pub record Giving (cells : List ℕ) (n : ℕ) (colours received₀ received : List ℕ) (i : ℕ) : Type 0 where
  pub size : length received ≡ length received₀
  pub same :
      (κ : Term → ℕ) → Colours colours κ → (x : ℕ) → x < length received₀
      → gathered κ (cell_term x) (cell_constraints (drop (5 * i) cells)) (get_or received x 0)
      ≡ gathered κ (cell_term x) (cell_constraints cells) (get_or received₀ x 0)

-- a row as the code lends it, and its terms
abbrev pub lent : List ℕ → ℕ → List ℕ
lent l i = take (5 * i + 5 - 5 * i) (drop (5 * i) l)

abbrev pub lent_terms : List ℕ → ℕ → List ℕ
lent_terms l i = take (length (lent l i) - 1) (drop 1 (lent l i))

lent_row : (l : List ℕ) (i : ℕ) → lent l i ≡ take 5 (drop (5 * i) l)
lent_row l i = let e : 5 * i + 5 - 5 * i ≡ 5 = omega arith in rw e

lent-terms : (l : List ℕ) (i : ℕ) → lent_terms l i ≡ drop 1 (take 5 (drop (5 * i) l))
lent-terms l i =
    take_all (length (lent l i) - 1) (drop 1 (lent l i)) (omega (arith, length-drop 1 (lent l i)))
    ∙ ap (drop 1) (lent_row l i)

-- what holds of all terms holds of them
pub lent-all :
    (P : ℕ → Type 0) (l : List ℕ) (i : ℕ) → ((k j : ℕ) → j < 4 → P (get_or l (5 * k + (1 + j)) 0))
    → (j : ℕ) → P (get_or (lent_terms l i) j 0)
lent-all P l i f j = rw (lent-terms l i) (terms-all P l i f j)

-- they have their places
pub lent_below : (m : ℕ) (l : List ℕ) (i : ℕ) → TermsBelow m l → Below m (lent_terms l i)
lent_below m l i b = record { below = lent-all (λ x. x < m) l i b.below }

-- the row's length
pub lent_length : (l : List ℕ) (i n : ℕ) → length l ≡ 5 * n → i < n → length (lent l i) ≡ 5
lent_length l i n s h =
    rw (lent_row l i) (length-take-le 5 (drop (5 * i) l) (omega (arith, length-drop (5 * i) l)))

-- the row as a constraint
pub lent-constraint :
    (l : List ℕ) (i : ℕ) → with_terms (get_or (lent l i) 0 0) (lent_terms l i) ≡ row_constraint (take 5 (drop (5 * i) l))
unfolding with_terms row_constraint
lent-constraint l i = rw (lent-terms l i, lent_row l i)

module _ (cells : List ℕ) (n : ℕ) (colours received₀ received : List ℕ) (i : ℕ) (s : length cells ≡ 5 * n)
    (w : Giving cells n colours received₀ received i) where
  pub give-done : n ≤ i → Given (cell_constraints cells) colours received₀ received
  unfolding gathered cell_constraints
  give-done h =
      record {
        at = λ κ k x l. rw (drop_of_length-le cells {i = 5 * i} (omega arith)) at (w.same κ k x l);
      }

  pub give-next :
      i < n → (received' : List ℕ) → length received' ≡ length received
      → Given (with_terms (get_or (lent cells i) 0 0) (lent_terms cells i) ∷ []) colours received received'
      → Giving cells n colours received₀ received' (i + 1)
  unfolding gathered
  give-next h received' l g =
      rw (add-one i)
      (record {
        size = l ∙ w.size;
        same = λ κ k x y.
            let one = rw (lent-constraint cells i) at (g.at κ k x (rw w.size y)) in
            rw one (rw (constraints-at cells i (omega arith)) at (w.same κ k x y));
      })

-- the colours below x are done, the others are as they were
pub record Absorbing (colours₀ received₀ colours received : List ℕ) (x : ℕ) : Type 0 where
  pub done : (k : ℕ) → k < x → get_or colours k 0 ≡ mixed (get_or colours₀ k 0) (get_or received₀ k 0)
  pub gone : (k : ℕ) → k < x → get_or received k 0 ≡ 0
  pub left : (k : ℕ) → x ≤ k → get_or colours k 0 ≡ get_or colours₀ k 0
  pub received-left : (k : ℕ) → x ≤ k → get_or received k 0 ≡ get_or received₀ k 0
