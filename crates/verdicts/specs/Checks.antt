-- The listing of a check, from tables: what its functions show, ask and promise.
--   rules_line, front_bytes       the line of an overlap's rules, and all lines in front of its ends
--   numbered_ends, shown_bytes    both ends, and the whole listing, the ends' variables being numbered
--   final_of                     a final state from its tables
--   ShownBy                     the overlap that the tables hold
--   OverlapListable, OverlapListed     what listing an overlap asks and promises
-- The names are in the program's text alone. What the goal's variables became is in `bounds`: for the first end, then for the
-- second. Assumes nothing.
use Rattle.std.specs.Prelude.{is_some, unwrap_or, ℕ, ◌+◌, ◌≤◌, ◌<◌, true, List, [], ◌∷◌, ◌++◌, ◌≡◌, Option, length, take, drop}
use Rattle.text.specs.Bytes.{ascii}
use Rattle.text.specs.Lists.{every}
use Rattle.semantics.specs.Terms.{is_below}
use Rattle.semantics.specs.Strategy.{Final}
use Rattle.semantics.specs.Overlaps.{Overlap}
use Rattle.semantics.specs.Verdict.{unjoined}
use Rattle.tables.specs.Layout.{first_rule}
use Rattle.tables.specs.Cells.{cell_constraints, state_of}
use Rattle.tables.specs.Names.{name_in}
use Rattle.listing.specs.Listing.{Naming, line_of, constraint_lines}
use Rattle.verdicts.specs.Verdicts.{pair_lines, verdict_listing}
use Rattle.listing.specs.Writing.{Countable, ListedAs}
use Rattle.listing.specs.Ends.{placed, numbered_end, Listable, Writable}
use Rattle.listing.specs.declared.End.{End}
use Rattle.verdicts.specs.declared.Shown.{Shown}

-- the line of an overlap's rules
unfoldable pub rules_line : Naming → ℕ → ℕ → List ℕ
rules_line naming first second =
    line_of (ascii "UNJOINED") (naming (first_rule + first) ∷ naming (first_rule + second) ∷ [])

-- all lines in front of the ends: the rules, the joined pairs of heads, and the goal, whose variables are named as in the ends
unfoldable pub front_bytes : Naming → List ℕ → List ℕ → Shown → List ℕ
front_bytes naming letters goal s =
    rules_line naming s.first s.second
    ++ (pair_lines 1 (take s.heads s.partners)
    ++ constraint_lines (ascii "G") naming (placed letters s.variables) (cell_constraints goal))

-- the lines of both ends, whose variables are numbered
unfoldable pub numbered_ends : Naming → List ℕ → List ℕ → List ℕ → List ℕ → Shown → List ℕ
numbered_ends naming letters bounds one two s =
    numbered_end naming letters (take s.variables bounds) one s.one
    ++ numbered_end naming letters (drop s.variables bounds) two s.two

-- the whole listing, the ends' variables being numbered
unfoldable pub shown_bytes : Naming → List ℕ → List ℕ → List ℕ → List ℕ → List ℕ → Shown → List ℕ
shown_bytes naming letters goal bounds one two s =
    front_bytes naming letters goal s ++ numbered_ends naming letters bounds one two s

-- a final state from its tables
unfoldable pub final_of : List ℕ → List ℕ → End → Final
final_of bound cells e = record { state = state_of (is_some e.next) (unwrap_or e.next 0) bound cells; firings = e.firings }

-- numbers that the names and the partners can be found by
pub record Shaped (s : Shown) : Type 0 where
  pub first-few : s.first < 65536
  pub second-few : s.second < 65536
  pub heads-few : s.heads ≤ 4

-- what writing both ends from a place on asks
pub record EndsWritable (naming : Naming) (letters : List ℕ) (at : ℕ) (bounds one two : List ℕ) (s : Shown) : Type 0 where
  pub counted : Countable at (numbered_ends naming letters bounds one two s)
  pub within : s.variables ≤ length bounds
  pub first-end : Writable naming letters (take s.variables bounds) one s.one
  pub second-end : Writable naming letters (drop s.variables bounds) two s.two

-- what writing an overlap asks
pub record OverlapWritable (naming : Naming) (letters goal bounds one two : List ℕ) (s : Shown) : Type 0 where
  pub shaped : Shaped s
  pub counted : Countable 0 (shown_bytes naming letters goal bounds one two s)
  pub within : s.variables ≤ length bounds
  pub first-end : Writable naming letters (take s.variables bounds) one s.one
  pub second-end : Writable naming letters (drop s.variables bounds) two s.two

-- what listing an overlap asks
pub record OverlapListable (goal bounds one two : List ℕ) (s : Shown) : Type 0 where
  pub shaped : Shaped s
  pub goal-few : length goal ≤ 65000
  pub within : s.variables ≤ length bounds
  pub first-end : Listable (is_some s.one.next) (unwrap_or s.one.next 0) (take s.variables bounds) one
  pub second-end : Listable (is_some s.two.next) (unwrap_or s.two.next 0) (drop s.variables bounds) two

-- the overlap that the tables hold: its rules' names, its partners and its goal, all of whose variables are the goal's
pub record ShownBy (naming : Naming) (goal : List ℕ) (s : Shown) (o : Overlap) : Type 0 where
  pub first-name : o.first.rule.name ≡ naming (first_rule + s.first)
  pub second-name : o.second.rule.name ≡ naming (first_rule + s.second)
  pub partners-same : o.partners ≡ take s.heads s.partners
  pub goal-same : o.goal.constraints ≡ cell_constraints goal
  pub goal-own : every (λ c. every (is_below s.variables) c.terms) o.goal.constraints ≡ true

-- what it promises: the listing of the verdict on the overlap that the tables hold, with the ends that they hold
pub record OverlapListed (program places goal bounds one two : List ℕ) (s : Shown) (before after : List ℕ) (reply : Option ℕ)
    : Type 0 where
  pub listed : (o : Overlap) → ShownBy (name_in program [] places) goal s o
      → ListedAs
      (verdict_listing (name_in program [] places)
      (unjoined o (final_of (take s.variables bounds) one s.one) (final_of (drop s.variables bounds) two s.two)))
      before after reply
