-- The order of overlaps (document 02: W1), said without the enumeration.
--   IsOverlapOf           an overlap of a program
--   Earlier               one overlap is earlier than another
--   StrictTotalOrder      a strict total order on elements with a property
-- Assumes nothing.
use Rattle.std.specs.Prelude.{ℕ, ◌<◌, ◌⊎◌, ◌≡◌}
use Rattle.std.proofs.Math.Option.{some}
use Rattle.std.proofs.Math.ListN.{get_elem?}
use Rattle.semantics.specs.Terms.{Program}
use Rattle.semantics.specs.Runs.{Before}
use Rattle.semantics.specs.Overlaps.{Overlap, overlaps}

-- an overlap is one of the program's
abbrev pub IsOverlapOf : Program → Overlap → Type 0
IsOverlapOf p o = (n : ℕ) × (get_elem? (overlaps p) n ≡ some o)

-- one overlap is earlier than another: its first rule has the smaller number; or they have the same first rule, and its second
-- has the smaller number; or they have the same rules, and where their lists of partners, 0 for none, first differ from the left,
-- its partner is the smaller
pub data Earlier (o u : Overlap) : Type 0 where
  by_first : o.first.number < u.first.number → Earlier o u
  by_second : o.first.number ≡ u.first.number → o.second.number < u.second.number → Earlier o u
  by_partners :
      o.first.number ≡ u.first.number → o.second.number ≡ u.second.number → Before o.partners u.partners
      → Earlier o u

-- a relation is a strict total order on the elements with a property: none stands before itself, what stands before one that
-- stands before a third stands before the third, and of two different elements with the property one stands before the other
pub record StrictTotalOrder {A : Type 0} (P : A → Type 0) (R : A → A → Type 0) : Type 0 where
  pub irreflexive : (a : A) → R a a → ⊥
  pub transitive : (a b c : A) → R a b → R b c → R a c
  pub total : (a b : A) → P a → P b → (a ≡ b) ⊎ (R a b ⊎ R b a)
