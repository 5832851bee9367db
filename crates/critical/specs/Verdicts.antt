-- The verdict on a program, from its table.
--   Deciding                 what deciding asks
--   Stopped, Shows, Remade   an overlap that was met and does not join, and its goal made again
--   Runs, BothRun            both sides run to their ends
--   final_in, EndIn           an end, and what is known of it
--   ShownIn, UnjoinedIn      the overlap that is shown
--   VerdictIn                what deciding promises
-- What the goal's variables became is in `bounds`: for the first end, then for the second. Assumes nothing.
use Rattle.std.specs.Prelude.{ℕ, ◌*◌, ◌≤◌, ◌<◌, true, List, ◌≡◌, length, take, drop, get_or}
use Rattle.std.specs.Prelude.{is_some, unwrap_or, Result, Ok, Err}
use Rattle.std.proofs.Math.Option.{some}
use Rattle.semantics.specs.Terms.{Program}
use Rattle.semantics.specs.Strategy.{Final as End}
use Rattle.semantics.specs.Overlaps.{Overlap, first_end, second_end}
use Rattle.semantics.specs.Verdict.{confluent, unjoined, verdict}
use Rattle.tables.specs.Layout.{constraint_size, heads_cell}
use Rattle.tables.specs.Rows.{row_of}
use Rattle.tables.specs.Numbers.{Renumberable}
use Rattle.engine.specs.declared.derivation.Final.{Final}
use Rattle.sides.specs.Sides.{cell_goal}
use Rattle.judging.specs.declared.Peak.{Peak}
use Rattle.judging.specs.declared.Ends.{Ends}
use Rattle.judging.specs.Judging.{Stands, Overlapping, end_in, most_variables, LiveEnd, EndOf}
use Rattle.critical.specs.declared.walking.Met.{Met}
use Rattle.critical.specs.declared.deciding.Shown.{Shown}
use Rattle.overlaps.specs.Overlapped.{Partners}
use Rattle.critical.specs.Walks.{Holds, rule_at, Checkable, Room, met_in}

-- what deciding asks: a table of at most 64 rules that can be checked, and cells for an overlap's goal, for what its variables
-- become on both sides, and for the two sides
pub record Deciding (rules : List ℕ) (n : ℕ) (goal bounds one two : List ℕ) : Type 0 where
  pub check : Checkable rules n
  pub few : n ≤ 64
  pub room : Room one two
  pub goal-size : length goal ≡ 40
  pub bounds-size : length bounds ≡ 56

-- the walk over all rules has met an overlap that does not join, and there are cells for its goal
pub record Stopped (rules : List ℕ) (n : ℕ) (goal : List ℕ) (met : Met) : Type 0 where
  pub check : Checkable rules n
  pub first : met.first < n
  pub second : met.second < n
  pub partners-size : length met.partners ≡ 4
  pub below : Partners met.partners 4 (get_or (row_of rules met.second) heads_cell 0)
  pub decided :
      (p : Program) (h : Holds p rules n)
      → (o : Overlap)
      × (met_in rules h.names met ≡ some o)
      × (verdict p ≡ unjoined o (first_end p o) (second_end p o))
  pub goal-size : length goal ≡ 40

-- an overlap of rules i and j that decides the verdict, by the cells of its goal and the positions of its second rule
pub record Shows (p : Program) (names rules : List ℕ) (n i j : ℕ) (partners positions : List ℕ) (v : ℕ) (goal : List ℕ)
    (o : Overlap) : Type 0 where
  pub decided : verdict p ≡ unjoined o (first_end p o) (second_end p o)
  pub first : o.first ≡ rule_at names rules i
  pub second : o.second ≡ rule_at names rules j
  pub partners-same : o.partners ≡ take (get_or (row_of rules i) heads_cell 0) partners
  pub stands : Stands p names rules n i j positions v goal o

-- the goal of the overlap that was met, in front of the cells: its sides can be run
pub record Remade (rules : List ℕ) (n : ℕ) (met : Met) (goal : List ℕ) (peak : Peak) : Type 0 where
  pub first : peak.first < n
  pub second : peak.second < n
  pub few : peak.count ≤ 8
  pub overlapping :
      Overlapping rules peak.rules peak.first peak.second peak.positions peak.count peak.variables
      (take (constraint_size * peak.count) goal)
  pub shows :
      (p : Program) (h : Holds p rules n)
      → (o : Overlap)
      × Shows p h.names rules peak.rules peak.first peak.second met.partners peak.positions peak.variables
      (take (constraint_size * peak.count) goal) o

-- what running both sides asks
pub record Runs (rules : List ℕ) (peak : Peak) (goal bounds one two : List ℕ) : Type 0 where
  pub overlapping :
      Overlapping rules peak.rules peak.first peak.second peak.positions peak.count peak.variables goal
  pub bounds-size : length bounds ≡ 56
  pub room : Room one two

-- what it promises
pub record BothRun (rules : List ℕ) (peak : Peak) (goal bounds one two : List ℕ) (r : Ends) : Type 0 where
  pub first :
      EndOf first_end rules peak.rules peak.first peak.second peak.positions peak.variables goal (is_some r.first.count)
      (unwrap_or r.first.count 0) r.first.next r.first.firings (take peak.variables bounds) one
  pub second :
      EndOf second_end rules peak.rules peak.first peak.second peak.positions peak.variables goal (is_some r.second.count)
      (unwrap_or r.second.count 0) r.second.next r.second.firings (take peak.variables (drop peak.variables bounds)) two

-- an end and its firings, in cells
abbrev pub final_in : Final → List ℕ → List ℕ → End
final_in e bound cells = end_in (is_some e.count) (unwrap_or e.count 0) e.next e.firings bound cells

-- what is known of an end where it lives: its constraints are within the cells, and its variables can be numbered anew
pub record EndIn (e : Final) (bound cells : List ℕ) : Type 0 where
  pub within : is_some e.count ≡ true → constraint_size * unwrap_or e.count 0 ≤ length cells
  pub live : is_some e.count ≡ true → LiveEnd (take (constraint_size * unwrap_or e.count 0) cells) (unwrap_or e.count 0) bound
  pub next-few : is_some e.count ≡ true → e.next ≤ most_variables
  pub numbered : is_some e.count ≡ true → Renumberable e.next bound (take (constraint_size * unwrap_or e.count 0) cells)
  pub counted : e.firings ≤ 512

-- an overlap that decides the verdict: its rules, its partners, its goal and both ends are those that are shown
pub record ShownIn (p : Program) (names rules goal bounds one two : List ℕ) (s : Shown) (o : Overlap) : Type 0 where
  pub decided :
      verdict p
      ≡ unjoined o (final_in s.one (take s.variables bounds) one)
      (final_in s.two (take s.variables (drop s.variables bounds)) two)
  pub first : o.first ≡ rule_at names rules s.first
  pub second : o.second ≡ rule_at names rules s.second
  pub partners-same : o.partners ≡ take s.heads s.partners
  pub goal-same : o.goal ≡ cell_goal s.variables (take (constraint_size * s.count) goal)

-- in every program of the table the overlap that is shown does not join
pub record UnjoinedIn (rules : List ℕ) (n : ℕ) (goal bounds one two : List ℕ) (s : Shown) : Type 0 where
  pub first : s.first < n
  pub second : s.second < n
  pub heads : s.heads ≡ get_or (row_of rules s.first) heads_cell 0
  pub heads-few : s.heads ≤ 4
  pub partners-size : length s.partners ≡ 4
  pub count-few : s.count ≤ 8
  pub variables-few : s.variables ≤ 28
  pub first-end : EndIn s.one (take s.variables bounds) one
  pub second-end : EndIn s.two (take s.variables (drop s.variables bounds)) two
  pub shown : (p : Program) (h : Holds p rules n) → (o : Overlap) × ShownIn p h.names rules goal bounds one two s o

-- what deciding promises: the verdict on every program of the table
abbrev pub VerdictIn : (rules : List ℕ) (n : ℕ) (goal bounds one two : List ℕ) → Result ℕ Shown → Type 0
VerdictIn rules n goal bounds one two (Ok k) = (p : Program) → Holds p rules n → verdict p ≡ confluent k
VerdictIn rules n goal bounds one two (Err shown) = UnjoinedIn rules n goal bounds one two shown
