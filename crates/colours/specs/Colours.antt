-- Colours of terms, and the numbers that are made of them: what a renaming of the variables cannot change.
--   carry, mixed, plus       two numbers as one; the last for sums in any order
--   signed, signature        the colours of a constraint's terms, in their order, as one number
--   gains, gathered          what a term receives from the constraints that it stands in
--   refined, rounds          colours made finer by that, once and several times
--   digest                   one number for all constraints
--   clipped                  cells below a number as colours of their own
--   Colours                  a table of colours
--   Tells, TermsTell         what gives cells their colours
--   SignedBy, DigestBy, Signed, Spread, Given, Absorbed, Recoloured, Summed      what the functions promise
--   Empty, Ready             what they ask
-- Assumes nothing.
use Rattle.std.specs.Prelude.{◌≡◌, ℕ, zero, suc, ◌+◌, ◌*◌, ◌%◌, ◌^◌, ◌<◌, min, cond, List, [], ◌∷◌, map, length, nat_lt, slice_index}
use Rattle.semantics.specs.Terms.{Term, con, var, Constraint, same_term}
use Rattle.tables.specs.Cells.{cell_term, cell_terms, cell_constraints}
use Rattle.colours.specs.Bounds.{TermsBelow}

-- the lowest 32 bits of a number
unfoldable pub lowest : ℕ → ℕ
lowest t = t % 4294967296

-- what is added to a number by its highest bit: sums and products alone would never tell lower bits of upper ones
unfoldable pub carry : ℕ → ℕ
carry t = cond (nat_lt t 2147483648) 0 2246822507

-- one number of two, in 32 bits: one added to the other multiplied, to that twice its square, and the carry. No law looks inside
unfoldable pub mixed : ℕ → ℕ → ℕ
unfolding lowest carry
mixed s c =
    let t = lowest (s + c * 4097) in
    lowest (t + 2 * lowest (t * t) + carry t)

-- a sum in 32 bits
unfoldable pub plus : ℕ → ℕ → ℕ
plus a b = (a + b) % 2 ^ 32

-- the sum of a list, from a number on
unfoldable pub added : ℕ → List ℕ → ℕ
added total [] = total
added total (x ∷ xs) = added (plus total x) xs

-- the colours of terms in their order, from a number on
unfoldable pub signed : (Term → ℕ) → ℕ → List Term → ℕ
signed κ s [] = s
signed κ s (t ∷ ts) = signed κ (mixed s (κ t)) ts

-- the signature of a constraint
unfoldable pub signature : (Term → ℕ) → Constraint → ℕ
signature κ c = signed κ c.symbol c.terms

-- what a term receives from terms in their order, by the columns where it stands
unfoldable pub gains : Term → ℕ → List Term → List ℕ
gains t s [] = []
gains t s (u ∷ us) = cond (same_term t u) (mixed s 1 ∷ gains t (mixed s 1) us) (gains t (mixed s 1) us)

-- what it receives from constraints, from a number on
unfoldable pub gathered : (Term → ℕ) → Term → List Constraint → ℕ → ℕ
gathered κ t [] total = total
gathered κ t (c ∷ cs) total = gathered κ t cs (added total (gains t (signature κ c) c.terms))

-- colours made finer by what terms receive
unfoldable pub refined : (Term → ℕ) → List Constraint → Term → ℕ
refined κ cs t = mixed (κ t) (gathered κ t cs 0)

-- the same n times
unfoldable pub rounds : ℕ → List Constraint → (Term → ℕ) → Term → ℕ
rounds zero cs κ = κ
rounds (suc n) cs κ = rounds n cs (refined κ cs)

-- one number for all constraints, in any order
unfoldable pub digest : (Term → ℕ) → List Constraint → ℕ
digest κ cs = added 0 (map (λ c. mixed (signature κ c) 2) cs)

-- the colours at the start: constants are known by their numbers, variables are not
unfoldable pub base : Term → ℕ
base (con c) = c
base (var x) = 256

-- a cell for its colour where it lies below a number, and that number where it does not
unfoldable pub clipped : ℕ → Term → ℕ
clipped limit (con c) = min c limit
clipped limit (var x) = min (x + 256) limit

-- a symbol with the terms of cells
unfoldable pub with_terms : ℕ → List ℕ → Constraint
with_terms symbol terms = record { symbol = symbol; terms = cell_terms terms }

-- a table of colours, by cells
pub record Colours (table : List ℕ) (κ : Term → ℕ) : Type 0 where
  pub at : (x : ℕ) → x < length table → slice_index table x ≡ κ (cell_term x)

-- answers for the cells of a list are the colours of their terms
abbrev pub Tells : (ℕ → ℕ → Type 0) → List ℕ → (Term → ℕ) → Type 0
Tells answer cells κ = (i r : ℕ) → answer (slice_index cells i) r → r ≡ κ (cell_term (slice_index cells i))

-- a number made of terms, by the colours that such answers are
pub record SignedBy (answer : ℕ → ℕ → Type 0) (r start : ℕ) (terms : List ℕ) : Type 0 where
  pub same : (κ : Term → ℕ) → Tells answer terms κ → r ≡ signed κ start (cell_terms terms)

-- answers for the terms of constraints, five cells to each, are their colours
abbrev pub TermsTell : (ℕ → ℕ → Type 0) → List ℕ → (Term → ℕ) → Type 0
TermsTell answer cells κ =
    (i j r : ℕ) → j < 4 → answer (slice_index cells (5 * i + (1 + j))) r → r ≡ κ (cell_term (slice_index cells (5 * i + (1 + j))))

-- one number for all constraints, by the colours that such answers are
pub record DigestBy (answer : ℕ → ℕ → Type 0) (r : ℕ) (cells : List ℕ) : Type 0 where
  pub same : (κ : Term → ℕ) → TermsTell answer cells κ → r ≡ digest κ (cell_constraints cells)

-- a number made of terms, by the colours that a table stands for
pub record Signed (r start : ℕ) (terms : List Term) (colours : List ℕ) : Type 0 where
  pub same : (κ : Term → ℕ) → Colours colours κ → r ≡ signed κ start terms

-- a table of what terms receive, after they received from terms
pub record Spread (start : ℕ) (terms : List Term) (received received' : List ℕ) : Type 0 where
  pub at : (x : ℕ) → x < length received → slice_index received' x ≡ added (slice_index received x) (gains (cell_term x) start terms)

-- and after they received from constraints
pub record Given (cs : List Constraint) (colours received received' : List ℕ) : Type 0 where
  pub at :
      (κ : Term → ℕ) → Colours colours κ → (x : ℕ) → x < length received
      → slice_index received' x ≡ gathered κ (cell_term x) cs (slice_index received x)

-- nothing is received
pub record Empty (received : List ℕ) : Type 0 where
  pub none : (x : ℕ) → slice_index received x ≡ 0

-- what was received is mixed into the colours
pub record Absorbed (colours received colours' received' : List ℕ) : Type 0 where
  pub at : (x : ℕ) → x < length colours → slice_index colours' x ≡ mixed (slice_index colours x) (slice_index received x)
  pub none : Empty received'

-- what a round asks: n constraints whose terms lie below the length of the table, and nothing received
pub record Ready (cells : List ℕ) (n : ℕ) (colours received : List ℕ) : Type 0 where
  pub size : length cells ≡ 5 * n
  pub below : TermsBelow (length colours) cells
  pub same_size : length received ≡ length colours
  pub empty : Empty received

-- a table of colours that is recoloured
pub record Recoloured (f : (Term → ℕ) → Term → ℕ) (colours colours' : List ℕ) : Type 0 where
  pub same : (κ : Term → ℕ) → Colours colours κ → Colours colours' (f κ)

-- a number made of a table of colours
pub record Summed (r : ℕ) (f : (Term → ℕ) → ℕ) (colours : List ℕ) : Type 0 where
  pub same : (κ : Term → ℕ) → Colours colours κ → r ≡ f κ
