-- Keys in tables: one law for each way that the code goes.
--   colour-done         the colours of a state
--   deep-…              one constraint made to stand out
--   keys-…              the keys of all constraints
--   sum-…               their sum
--   relabel-…           classes in the place of symbols
-- Assumes nothing.
use Rattle.std.proofs.Common.{◌≡◌, ℕ, suc, ◌+◌, ◌*◌, ◌%◌, ◌^◌, ◌<◌, ◌≤◌, Bool, true, false, eqb, ◌⊎◌, List, [], ◌∷◌, map, length, get_or, drop, set, sym, ap, ◌∙◌, subst, inl, inr, add-one, arith, length-set, drop_of_length-le, drop-cons, get_or-set_other, get_or-set_same, eqb-true}
use borrow.Author.Tests.{eqb-false}
use Rattle.semantics.specs.Terms.{Term, Constraint}
use Rattle.tables.specs.Cells.{cell_terms, cell_constraints}
use Rattle.tables.proofs.CellLaws.{either}
use Rattle.colours.specs.Rows.{row_of}
use Rattle.colours.specs.Bounds.{Below, TermsBelow}
use Rattle.colours.specs.Colours.{signature, refined, rounds, digest, base, with_terms}
use Rattle.colours.specs.Colours.{Colours, Signed, Empty, Ready, Recoloured, Summed}
use Rattle.colours.specs.Keys.{plain_of, deep_of, coded, key_of, summed, class_of, relabel, Keyed, Relabelled}
use Rattle.colours.proofs.RowLaws.{row_same, rows-image, rows-map, image-at}
use Rattle.colours.proofs.ColourLaws.{lent, lent_terms, lent-constraint, lent_below}
use Rattle.colours.proofs.RoundLaws.{row-signed}

-- the colours of a state
pub colour-done :
    (t : ℕ) (bound : List ℕ) (cs : List Constraint) (colours₁ colours₂ colours₃ : List ℕ) → Colours colours₁ base
    → Recoloured (λ κ. refined κ (with_terms 0 bound ∷ [])) colours₁ colours₂ → Recoloured (rounds t cs) colours₂ colours₃
    → Colours colours₃ (plain_of t (cell_terms bound) cs)
unfolding plain_of with_terms
colour-done t bound cs colours₁ colours₂ colours₃ s l r = r.same _ (l.same base s)

-- tables of the same size are ready too
pub ready_with :
    (cells : List ℕ) (n : ℕ) (colours received colours' received' : List ℕ) → Ready cells n colours received
    → length colours' ≡ length colours → length received' ≡ length received → Empty received' → Ready cells n colours' received'
ready_with cells n colours received colours' received' r lc lr z =
    record {
      size = r.size;
      below = rw lc r.below;
      same_size = lr ∙ (r.same_size ∙ sym lc);
      empty = z;
    }

-- the terms of a row have their places in a table of the same size
pub lent-in :
    (cells : List ℕ) (i m m' : ℕ) → TermsBelow m cells → m' ≡ m → Below m' (lent_terms cells i)
lent-in cells i m m' b l = rw l (lent_below m cells i b)

-- one constraint made to stand out
pub deep-done :
    (t : ℕ) (cells : List ℕ) (n i : ℕ) (colours scratch₁ scratch₂ scratch₃ : List ℕ) (r : ℕ) → length cells ≡ 5 * n → i < n
    → scratch₁ ≡ colours
    → Recoloured (λ κ. refined κ (with_terms (get_or (lent cells i) 0 0) (lent_terms cells i) ∷ [])) scratch₁ scratch₂
    → Recoloured (rounds t (cell_constraints cells)) scratch₂ scratch₃
    → Summed r (λ κ. digest κ (cell_constraints cells)) scratch₃
    → Summed r (λ κ. deep_of t κ (cell_constraints cells) (row_of cells i)) colours
unfolding deep_of
deep-done t cells n i colours scratch₁ scratch₂ scratch₃ r s h e l m d =
    let row : with_terms (get_or (lent cells i) 0 0) (lent_terms cells i) ≡ row_of cells i =
    lent-constraint cells i ∙ row_same cells i (omega arith) in
    record {
      same = λ κ k. rw (← row) (d.same _ (m.same _ (l.same κ (subst (λ l. Colours l κ) (sym e) k))));
    }

-- the keys below i are made
pub record Keying (t : ℕ) (deep : Bool) (cells : List ℕ) (n : ℕ) (colours keys₀ keys : List ℕ) (i : ℕ) : Type 0 where
  pub size : length keys ≡ length keys₀
  pub made :
      (κ : Term → ℕ) → Colours colours κ → (k : ℕ) → k < i
      → get_or keys k 0 ≡ key_of t deep κ (cell_constraints cells) (row_of cells k)

module _ (t : ℕ) (deep : Bool) (cells : List ℕ) (n : ℕ) (colours keys₀ keys : List ℕ) (i : ℕ) (s : length cells ≡ 5 * n)
    (q : length keys₀ ≡ n) (w : Keying t deep cells n colours keys₀ keys i) where
  pub keys-done : n ≤ i → Keyed t deep (cell_constraints cells) colours keys
  keys-done h =
      record {
        same = λ κ c.
            rows-image n cells s (key_of t deep κ (cell_constraints cells)) keys (w.size ∙ q)
            (λ k l. w.made κ c k (omega arith));
      }

  module _ (h : i < n) where
    -- one key more
    pub keys-next :
        (v : ℕ) → ((κ : Term → ℕ) → Colours colours κ → v ≡ key_of t deep κ (cell_constraints cells) (row_of cells i))
        → Keying t deep cells n colours keys₀ (set keys i v) (i + 1)
    keys-next v f =
        rw (add-one i)
        (record {
          size = length-set keys i v ∙ w.size;
          made = λ κ c k l. go κ c k l (either (eqb k i));
        })
      where
        go :
            (κ : Term → ℕ) → Colours colours κ → (k : ℕ) → k < suc i → (eqb k i ≡ true) ⊎ (eqb k i ≡ false)
            → get_or (set keys i v) k 0 ≡ key_of t deep κ (cell_constraints cells) (row_of cells k)
        go κ c k l (inl y) =
            rw (eqb-true k i y, get_or-set_same keys i v 0 (omega (arith, w.size))) (f κ c)
        go κ c k l (inr y) =
            let d : k ≡ i → ⊥ = eqb-false k i y in
            get_or-set_other keys i k v 0 d ∙ w.made κ c k (omega (arith, d))

-- a key by a signature
pub key-plain :
    (cells : List ℕ) (n i : ℕ) (colours : List ℕ) (s v : ℕ) → length cells ≡ 5 * n → i < n
    → Signed s (get_or (lent cells i) 0 0) (cell_terms (lent_terms cells i)) colours
    → v ≡ s * 65536 + get_or (lent cells i) 0 0
    → (κ : Term → ℕ) → Colours colours κ → v ≡ key_of 0 false κ (cell_constraints cells) (row_of cells i)
unfolding key_of coded row_of with_terms
key-plain cells n i colours s v e h g ev κ c =
    let one : s ≡ signature κ (row_of cells i) =
    g.same κ c ∙ (row-signed cells i κ ∙ ap (signature κ) (row_same cells i (omega arith))) in
    ev ∙ rw (one, symbol-of cells n i e h)
  where
    symbol-of : (cells : List ℕ) (n i : ℕ) → length cells ≡ 5 * n → i < n → get_or (lent cells i) 0 0 ≡ get_or cells (5 * i) 0
    symbol-of cells n i e h = ap (λ c. c.symbol) (lent-constraint cells i ∙ row_same cells i (omega arith))

-- keys by signatures are the same for any rounds behind them
pub plain-same :
    (t : ℕ) (κ : Term → ℕ) (cs : List Constraint) (colours keys : List ℕ) → Keyed 0 false cs colours keys → Colours colours κ
    → keys ≡ map (key_of t false κ cs) cs
unfolding key_of
plain-same t κ cs colours keys w c = w.same κ c

-- a key where the constraint stands out
pub key-deep :
    (t : ℕ) (cells : List ℕ) (i : ℕ) (colours : List ℕ) (s v : ℕ)
    → Summed s (λ κ. deep_of t κ (cell_constraints cells) (row_of cells i)) colours → v ≡ s * 65536 + get_or cells (5 * i) 0
    → (κ : Term → ℕ) → Colours colours κ → v ≡ key_of t true κ (cell_constraints cells) (row_of cells i)
unfolding key_of coded row_of
key-deep t cells i colours s v g ev κ c = ev ∙ rw (g.same κ c)

-- the keys from i on, from the sum by now, give the sum of all
pub record Totalling (keys : List ℕ) (total i : ℕ) : Type 0 where
  pub same : summed (drop i keys) total ≡ summed keys 0

module _ (keys : List ℕ) (total i : ℕ) (w : Totalling keys total i) where
  pub sum_done : length keys ≤ i → total ≡ summed keys 0
  unfolding summed
  sum_done h = rw (drop_of_length-le keys {i = i} h) at w.same

  pub sum-next :
      i < length keys → (t : ℕ) → t ≡ (total + get_or keys i 0) % 2 ^ 64 → Totalling keys t (i + 1)
  unfolding summed
  sum-next h t e = rw (add-one i) (record { same = rw e (rw (drop-cons keys i 0 h) at w.same) })

-- the constraints below i are relabelled
pub record Relabelling (own keys cells₀ cells : List ℕ) (i : ℕ) : Type 0 where
  pub size : length cells ≡ length cells₀
  pub made : (k : ℕ) → k < i → get_or cells (5 * k) 0 ≡ class_of keys (get_or own k 0)
  pub terms : (k j : ℕ) → j < 4 → get_or cells (5 * k + (1 + j)) 0 ≡ get_or cells₀ (5 * k + (1 + j)) 0

module _ (own keys cells₀ cells : List ℕ) (i : ℕ) (s : length cells₀ ≡ 5 * length own)
    (w : Relabelling own keys cells₀ cells i) where
  relabelled-row :
      (key : Constraint → ℕ) → own ≡ map key (cell_constraints cells₀) → length own ≤ i → (k : ℕ) → k < length own
      → row_of cells k ≡ relabel keys key (row_of cells₀ k)
  unfolding row_of relabel
  relabelled-row key e h k l =
      let own_key : get_or own k 0 ≡ key (row_of cells₀ k) = rw e (image-at (length own) cells₀ s key k l) in
      rw (
        w.made k (omega arith),
        own_key,
        w.terms k 0 (omega arith),
        w.terms k 1 (omega arith),
        w.terms k 2 (omega arith),
        w.terms k 3 (omega arith),
      )

  pub relabel-done : length own ≤ i → Relabelled own keys cells₀ cells
  relabel-done h =
      record {
        same = λ key e.
            rows-map (length own) cells₀ s cells (w.size ∙ s) (relabel keys key) (relabelled-row key e h);
        below = λ m b. record { below = λ k j l. rw (w.terms k j l) (b.below k j l) };
      }

  pub relabel-next :
      i < length own → (v : ℕ) → v ≡ class_of keys (get_or own i 0)
      → Relabelling own keys cells₀ (set cells (5 * i) v) (i + 1)
  relabel-next h v e =
      rw (add-one i)
      (record {
        size = length-set cells (5 * i) v ∙ w.size;
        made = λ k l. go k l (either (eqb k i));
        terms = λ k j l. get_or-set_other cells (5 * i) (5 * k + (1 + j)) v 0 (λ z. omega arith) ∙ w.terms k j l;
      })
    where
      go :
          (k : ℕ) → k < suc i → (eqb k i ≡ true) ⊎ (eqb k i ≡ false)
          → get_or (set cells (5 * i) v) (5 * k) 0 ≡ class_of keys (get_or own k 0)
      go k l (inl y) =
          rw (eqb-true k i y, get_or-set_same cells (5 * i) v 0 (omega (arith, w.size))) e
      go k l (inr y) =
          let d : k ≡ i → ⊥ = eqb-false k i y in
          get_or-set_other cells (5 * i) (5 * k) v 0 (λ z. d (omega arith)) ∙ w.made k (omega (arith, d))
