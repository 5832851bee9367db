-- The walk over all pairings of two rules, and over all rule pairs.
--   Holds, rule_at          a program that a table holds, and its rules
--   Checkable              what the check asks of the table
--   PairAt                 two rules of it
--   Room                   room for the two sides of an overlap
--   met_in, AllJoin, OneParts   what the walk over some overlaps promises where all join, and where one does not
--   Walkable, Walked       what the walk over the pairings of two rules asks and promises
--   PairWalked, RowWalked, AllWalked      the same for two rules, for a rule and those behind it, and for all
-- Assumes nothing.
use Rattle.std.specs.Prelude.{ℕ, zero, suc, ◌+◌, ◌-◌, ◌*◌, ◌≤◌, ◌<◌, true, List, [], map, ◌≡◌, length, take, drop, get_or}
use Rattle.std.specs.Prelude.{Result, Ok, Err}
use Rattle.std.proofs.Math.Option.{Option}
use Rattle.text.specs.Lists.{gather}
use Rattle.semantics.specs.Terms.{Constraint, Program, map_terms, is_well_formed}
use Rattle.semantics.specs.Overlaps.{apart, Numbered, Overlap, overlap_of, numbered_from, overlaps_of, overlaps}
use Rattle.tables.specs.Layout.{constraint_size, row_size, heads_cell}
use Rattle.tables.specs.Rows.{rule_of_row, rule_of, rules_of, row_of}
use Rattle.engine.specs.Runs.{Lowers}
use Rattle.overlaps.specs.Cells.{RuleRow}
use Rattle.overlaps.specs.Overlapped.{Node, Partners}
use Rattle.overlaps.specs.Rests.{rest, GoesOn, StopsAt}
use Rattle.critical.specs.declared.walking.Met.{Met}

-- a program whose rules are the n of a table
pub record Holds (p : Program) (rules : List ℕ) (n : ℕ) : Type 0 where
  pub names : List ℕ
  pub same : p.rules ≡ rules_of names rules n
  pub well-formed : is_well_formed p ≡ true

-- its rule i, with its number
unfoldable pub rule_at : List ℕ → List ℕ → ℕ → Numbered
rule_at names rules i = record { number = i; rule = rule_of names rules i }

-- what the check asks of a table of n rules: heads that can be joined, a weighing that every rule lowers, and that it holds a
-- program
pub record Checkable (rules : List ℕ) (n : ℕ) : Type 0 where
  pub size : row_size * n ≤ length rules
  pub rows : (i : ℕ) → i < n → RuleRow (row_of rules i)
  pub weigh : ℕ → ℕ
  pub positive : (k : ℕ) → 1 ≤ weigh k
  pub light : (k : ℕ) → weigh k ≤ 64
  pub lowers : Lowers weigh rules n
  pub program : Program
  pub names : List ℕ
  pub whole : program.rules ≡ rules_of names rules n
  pub well-formed : is_well_formed program ≡ true
  pub few-symbols : length program.symbols ≤ 64

-- rules i and j of a table of n, which have a and b heads
pub record PairAt (rules : List ℕ) (n i j a b : ℕ) : Type 0 where
  pub check : Checkable rules n
  pub first : i < n
  pub second : j < n
  pub first_count : a ≡ get_or (row_of rules i) heads_cell 0
  pub second-count : b ≡ get_or (row_of rules j) heads_cell 0

-- the heads of rule i, and those of rule j renamed apart
unfoldable pub first_heads : List ℕ → ℕ → List Constraint
first_heads rules i = (rule_of_row [] (row_of rules i)).heads

unfoldable pub second_heads : List ℕ → ℕ → List Constraint
second_heads rules j = map (map_terms apart) (rule_of_row [] (row_of rules j)).heads

-- how many pairings there are at most where k heads are left
unfoldable pub leaves : ℕ → ℕ
leaves zero = 1
leaves (suc k) = 5 * leaves k

-- what the walk asks: the first a - left heads of rule i have their partners, and all heads stand under the unifier of these
pub record Walkable (rules : List ℕ) (n i j a b left : ℕ) (partners cells : List ℕ) (count : ℕ) : Type 0 where
  pub pair : PairAt rules n i j a b
  pub there : left ≤ a
  pub node :
      Node (first_heads rules i) (second_heads rules j) (take (a - left) partners) (take (constraint_size * (a + b)) cells)
  pub partners-size : length partners ≡ 4
  pub below : Partners partners 4 b
  pub cells-size : length cells ≡ 40
  pub room : count + leaves left ≤ 1000000000

-- the overlap that was met, in a program of the table whose rules have these names
abbrev pub met_in : List ℕ → List ℕ → Met → Option Overlap
met_in rules names met =
    overlap_of (rule_at names rules met.first) (rule_at names rules met.second)
    (take (get_or (row_of rules met.first) heads_cell 0) met.partners)

-- of some overlaps of each program of the table, at most `most`, judged from a count of `before` on, all join, and the count is
-- `after` then
pub record AllJoin (rules : List ℕ) (n : ℕ) (os : (p : Program) → Holds p rules n → List Overlap) (most before after : ℕ) : Type 0
  where
    pub judged : (p : Program) (h : Holds p rules n) → GoesOn p before (os p h) after
    pub few : after ≤ before + most

-- one of them does not join: it is the one that was met, of two rules of the table, and its partners are heads of the second
pub record OneParts (rules : List ℕ) (n : ℕ) (os : (p : Program) → Holds p rules n → List Overlap) (most before : ℕ) (met : Met)
    : Type 0 where
  pub judged : (p : Program) (h : Holds p rules n) → StopsAt p before (os p h) (met_in rules h.names met)
  pub few : met.count ≤ before + most
  pub first : met.first < n
  pub second : met.second < n
  pub partners-size : length met.partners ≡ 4
  pub below : Partners met.partners 4 (get_or (row_of rules met.second) heads_cell 0)

-- the overlaps of rules i and j whose partners begin with ds, where `left` heads of rule i are left
abbrev pub of_partners : (rules : List ℕ) (n i j left : ℕ) → List ℕ → (p : Program) → Holds p rules n → List Overlap
of_partners rules n i j left ds p h = rest (rule_at h.names rules i) (rule_at h.names rules j) ds left

-- what the walk promises: the overlaps whose partners begin so are judged
abbrev pub Walked : (rules : List ℕ) (n i j left : ℕ) (ds : List ℕ) (before : ℕ) → Result ℕ Met → Type 0
Walked rules n i j left ds before (Ok after) =
    AllJoin rules n (of_partners rules n i j left ds) (leaves left) before after
Walked rules n i j left ds before (Err met) =
    OneParts rules n (of_partners rules n i j left ds) (leaves left) before met × (met.first ≡ i) × (met.second ≡ j)

-- room for the two sides: 518 constraints each
pub record Room (one two : List ℕ) : Type 0 where
  pub first : 2590 ≤ length one
  pub second : 2590 ≤ length two

-- all rules of a program, with their numbers
abbrev pub all_rules : Program → List Numbered
all_rules p = numbered_from 0 p.rules

-- all overlaps of rules i and j
abbrev pub of_pair : (rules : List ℕ) (n i j : ℕ) (p : Program) → Holds p rules n → List Overlap
of_pair rules n i j p h = overlaps_of (rule_at h.names rules i) (rule_at h.names rules j)

-- what the walk over all pairings of rules i and j promises
abbrev pub PairWalked : (rules : List ℕ) (n i j before : ℕ) → Result ℕ Met → Type 0
PairWalked rules n i j before (Ok after) = AllJoin rules n (of_pair rules n i j) 625 before after
PairWalked rules n i j before (Err met) =
    OneParts rules n (of_pair rules n i j) 625 before met × (met.first ≡ i) × (met.second ≡ j)

-- the overlaps of rule i with itself and those behind it
abbrev pub of_row : (rules : List ℕ) (n i : ℕ) (p : Program) → Holds p rules n → List Overlap
of_row rules n i p h = gather (overlaps_of (rule_at h.names rules i)) (drop i (all_rules p))

-- what the walk over rule i and those behind it promises
abbrev pub RowWalked : (rules : List ℕ) (n i before : ℕ) → Result ℕ Met → Type 0
RowWalked rules n i before (Ok after) = AllJoin rules n (of_row rules n i) 40000 before after
RowWalked rules n i before (Err met) =
    OneParts rules n (of_row rules n i) 40000 before met × (met.first ≡ i) × (i ≤ met.second)

-- what the walk over all rules promises: all overlaps of the program are judged
abbrev pub AllWalked : (rules : List ℕ) (n : ℕ) → Result ℕ Met → Type 0
AllWalked rules n (Ok after) = AllJoin rules n (λ p h. overlaps p) 2560000 0 after
AllWalked rules n (Err met) = OneParts rules n (λ p h. overlaps p) 2560000 0 met × (met.first ≤ met.second)
