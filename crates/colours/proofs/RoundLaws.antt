-- Rounds of colours in tables, and numbers made of them: one law for each way that the code goes.
--   round-…         one round, and several
--   start-…         the colours at the start
--   digest-…        one number for all constraints
-- Assumes nothing.
use Rattle.std.proofs.Common.{◌≡◌, ℕ, suc, ◌+◌, ◌-◌, ◌*◌, ◌<◌, ◌≤◌, min, List, map, length, get_or, take, drop, refl, ap, ◌∙◌, subst, ⊎_elim, add-one, arith, drop_of_length-le}
use Rattle.semantics.specs.Terms.{Term, Constraint}
use Rattle.tables.specs.Cells.{cell_term, cell_terms, cell_constraints}
use Rattle.tables.specs.Cells.{row_constraint}
use Rattle.tables.proofs.CellLaws.{le-or-lt, cell-low, cell-high, constraints-at}
use Rattle.colours.specs.Bounds.{TermsBelow}
use Rattle.colours.specs.Colours.{mixed, plus, added, signed, signature, refined, rounds, digest, base, with_terms}
use Rattle.colours.specs.Colours.{Colours, TermsTell, SignedBy, DigestBy, Given, Absorbed, Empty, Ready, Recoloured, Summed}
use Rattle.colours.proofs.ColourLaws.{lent, lent_terms, lent-all, lent-constraint}

-- what was received, mixed in, is one round
pub round-one :
    (cs : List Constraint) (colours received colours' received' received'' : List ℕ) → length received ≡ length colours
    → Empty received → Given cs colours received received' → length colours' ≡ length colours
    → Absorbed colours received' colours' received'' → Recoloured (λ κ. refined κ cs) colours colours'
unfolding refined
round-one cs colours received colours' received' received'' s z g l a =
    record {
      same = λ κ k. record {
        at = λ x h.
            let i : x < length colours = rw l at h in
            a.at x i ∙ rw (k.at x i, g.at κ k x (rw s i), z.none x);
      };
    }

-- the rounds that are left after i, from the table by now, give the answer for all
pub record Rounding (k : ℕ) (cs : List Constraint) (colours₀ received₀ colours received : List ℕ) (i : ℕ) : Type 0 where
  pub size : length colours ≡ length colours₀
  pub received-size : length received ≡ length received₀
  pub empty : Empty received
  pub same :
      (κ : Term → ℕ) → Colours colours₀ κ → (ν : Term → ℕ) × Colours colours ν × (rounds (k - i) cs ν ≡ rounds k cs κ)

module _ (k : ℕ) (cells : List ℕ) (n : ℕ) (colours₀ received₀ : List ℕ) (r : Ready cells n colours₀ received₀) where
  module _ (colours received : List ℕ) (i : ℕ)
      (w : Rounding k (cell_constraints cells) colours₀ received₀ colours received i) where
    pub rounds-next :
        i < k → (colours' received' : List ℕ) → length colours' ≡ length colours → length received' ≡ length received
        → Recoloured (λ κ. refined κ (cell_constraints cells)) colours colours' → Empty received'
        → Rounding k (cell_constraints cells) colours₀ received₀ colours' received' (i + 1)
    unfolding rounds
    rounds-next h colours' received' lc lr f z =
        record {
          size = lc ∙ w.size;
          received-size = lr ∙ w.received-size;
          empty = z;
          same = λ κ q.
              let (ν, u, e) = w.same κ q in
              let one : k - i ≡ suc (k - (i + 1)) = omega arith in
              (refined ν (cell_constraints cells), f.same ν u, rw one at e);
        }

    pub rounds-done :
        k ≤ i → Recoloured (rounds k (cell_constraints cells)) colours₀ colours × Empty received
    unfolding rounds
    rounds-done h = (
      record {
        same = λ κ q.
            let (ν, u, e) = w.same κ q in
            let z : k - i ≡ 0 = omega arith in
            subst (Colours colours) (rw z at e) u;
      },
      w.empty,
    )

-- the colour of a cell at the start
pub start-cell : (x : ℕ) → base (cell_term x) ≡ min x 256
unfolding base
start-cell x = ⊎_elim (λ h. rw (cell-high x h) (omega arith)) (λ h. rw (cell-low x h) (omega arith)) (le-or-lt 256 x)

-- the signature of a row, of its symbol and its terms
pub row-signed :
    (cells : List ℕ) (i : ℕ) (κ : Term → ℕ)
    → signed κ (get_or (lent cells i) 0 0) (cell_terms (lent_terms cells i)) ≡ signature κ (row_constraint (take 5 (drop
    (5 * i) cells)))
unfolding signature with_terms
row-signed cells i κ = ap (signature κ) (lent-constraint cells i)

-- the constraints from i on, from the sum by now, give the answer for all
pub record Summing (answer : ℕ → ℕ → Type 0) (cells : List ℕ) (sum i : ℕ) : Type 0 where
  pub same :
      (κ : Term → ℕ) → TermsTell answer cells κ
      → added sum (map (λ c. mixed (signature κ c) 2) (cell_constraints (drop (5 * i) cells))) ≡ digest κ (cell_constraints cells)

pub digest-start : (answer : ℕ → ℕ → Type 0) (cells : List ℕ) → Summing answer cells 0 0
unfolding digest
digest-start answer cells = record { same = λ κ k. refl }

module _ (answer : ℕ → ℕ → Type 0) (cells : List ℕ) (n sum i : ℕ) (s : length cells ≡ 5 * n)
    (w : Summing answer cells sum i) where
  pub digest-done : n ≤ i → DigestBy answer sum cells
  unfolding added cell_constraints
  digest-done h = record { same = λ κ k. rw (drop_of_length-le cells {i = 5 * i} (omega arith)) at (w.same κ k) }

  pub digest-next :
      i < n → (r m sum' : ℕ) → (lent-answer : ℕ → ℕ → Type 0) → ((x c : ℕ) → lent-answer x c → answer x c)
      → SignedBy lent-answer r (get_or (lent cells i) 0 0) (lent_terms cells i) → m ≡ mixed r 2 → sum' ≡ plus sum m
      → Summing answer cells sum' (i + 1)
  unfolding added
  digest-next h r m sum' lent-answer f g em es =
      rw (add-one i)
      (record {
        same = λ κ k.
            let told = lent-all (λ x. (c : ℕ) → answer x c → c ≡ κ (cell_term x)) cells i (λ i j l c. k i j c l) in
            let one : r ≡ signature κ (row_constraint (take 5 (drop (5 * i) cells))) =
            g.same κ (λ j c a. told j c (f _ c a)) ∙ row-signed cells i κ in
            rw (es, em, one) (rw (constraints-at cells i (omega arith)) at (w.same κ k));
      })

-- answers by a table are what the table stands for
pub digest-table :
    (answer : ℕ → ℕ → Type 0) (r : ℕ) (cells colours : List ℕ) → TermsBelow (length colours) cells
    → ((x c : ℕ) → answer x c → c ≡ get_or colours x 0) → DigestBy answer r cells
    → Summed r (λ κ. digest κ (cell_constraints cells)) colours
digest-table answer r cells colours b f d =
    record {
      same = λ κ k. d.same κ (λ i j c h a.
          f (get_or cells (5 * i + (1 + j)) 0) c a ∙ k.at (get_or cells (5 * i + (1 + j)) 0) (b.below i j h));
    }
