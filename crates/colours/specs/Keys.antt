-- Keys of constraints: numbers that a renaming cannot change, with the symbol in them.
--   plain_of          colours after some rounds, those of goal variables known by their number
--   deep_of           one number for all constraints, where the terms of one stand out
--   key_of            a constraint's key
--   summed           the sum of keys, in any order
--   class_of, relabel constraints with their classes for symbols
--   Keyed, Relabelled    what the functions promise
-- Assumes nothing.
use Rattle.std.specs.Prelude.{◌≡◌, ℕ, ◌+◌, ◌*◌, ◌%◌, ◌^◌, Bool, cond, List, [], ◌∷◌, map, nat_eq}
use Rattle.text.specs.Lists.{index_from}
use Rattle.semantics.specs.Terms.{Term, Constraint}
use Rattle.tables.specs.Cells.{cell_constraints}
use Rattle.colours.specs.Bounds.{TermsBelow}
use Rattle.colours.specs.Colours.{Colours, signature, refined, rounds, digest, base}

-- colours after t rounds; what the goal variables became stands out before, each by its number
unfoldable pub plain_of : ℕ → List Term → List Constraint → Term → ℕ
plain_of t bound cs = rounds t cs (refined base (record { symbol = 0; terms = bound } ∷ []))

-- the digest of all constraints t rounds after one of them was made to stand out
unfoldable pub deep_of : ℕ → (Term → ℕ) → List Constraint → Constraint → ℕ
deep_of t κ cs c = digest (rounds t cs (refined κ (c ∷ []))) cs

-- a number with a symbol in it
unfoldable pub coded : ℕ → Constraint → ℕ
coded s c = s * 65536 + c.symbol

-- a constraint's key: its signature, or the digest of all t rounds after it was made to stand out
unfoldable pub key_of : ℕ → Bool → (Term → ℕ) → List Constraint → Constraint → ℕ
key_of t deep κ cs c = coded (cond deep (deep_of t κ cs c) (signature κ c)) c

-- the sum of keys, from a number on
unfoldable pub summed : List ℕ → ℕ → ℕ
summed [] sum = sum
summed (k ∷ ks) sum = summed ks ((sum + k) % 2 ^ 64)

-- the class of a key among keys: the index of the first that is the same
unfoldable pub class_of : List ℕ → ℕ → ℕ
class_of keys k = index_from (nat_eq k) 0 keys

-- a constraint with the class of its key for its symbol
unfoldable pub relabel : List ℕ → (Constraint → ℕ) → Constraint → Constraint
relabel keys key c = record { symbol = class_of keys (key c); terms = c.terms }

-- the keys of constraints, by the colours that a table stands for
pub record Keyed (t : ℕ) (deep : Bool) (cs : List Constraint) (colours keys : List ℕ) : Type 0 where
  pub same : (κ : Term → ℕ) → Colours colours κ → keys ≡ map (key_of t deep κ cs) cs

-- constraints relabelled by their own keys, whatever made these
pub record Relabelled (own keys cells cells' : List ℕ) : Type 0 where
  pub same :
      (key : Constraint → ℕ) → own ≡ map key (cell_constraints cells)
      → cell_constraints cells' ≡ map (relabel keys key) (cell_constraints cells)
  pub below : (m : ℕ) → TermsBelow m cells → TermsBelow m cells'
