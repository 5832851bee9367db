-- An overlap of two rules of a table, as what judging asks.
--   first_count, second-count, pair-few     how many heads the rules have
--   first-heads, second-heads               and those of a program
--   overlap-judged                          what judging an overlap asks, where its goal stands in cells
--   overlap-stands                          the overlap that the cells stand for
-- Assumes nothing.
use Prim.Native.Nat.{ℕ, ◌+◌, ◌*◌, ◌≤◌, ◌<◌}
use native.Mathlib.Omega.{arith}
use mathlib.Core.Bool.{true}
use mathlib.Core.List.{List, [], ◌∷◌}
use mathlib.Core.Option.{some}
use mathlib.Core.Path.{◌≡◌, sym, ap, ◌∙◌}
use lib.ListN.{length, take, get_elem?, length-map}
use Rattle.text.specs.Lists.{every}
use Rattle.semantics.specs.Terms.{Constraint, Program, map_terms, weight_by}
use Rattle.semantics.specs.Overlaps.{apart, Overlap, overlap_of, second_positions}
use Rattle.semantics.proofs.Enumeration.{overlap-parts}
use Rattle.semantics.proofs.OverlapGoals.{overlap-goal, well_formed-heads}
use Rattle.tables.specs.Cells.{cell_constraints, is_low}
use Rattle.tables.specs.Rows.{rule_of_row, rule_of, rules_of, row_of}
use Rattle.tables.proofs.CellLaws.{constraints-length}
use Rattle.sides.specs.Sides.{cell_goal}
use Rattle.judging.specs.Judging.{Stands, Overlapping}
use Rattle.critical.specs.Walks.{Holds, rule_at, PairAt, first_heads, second_heads}
use Rattle.critical.proofs.JudgeLaws.{tabled-element}
use Rattle.overlaps.proofs.NodeLaws.{heads-count}

-- a rule of a program that a table holds
rule-at :
    (names rules : List ℕ) (n : ℕ) (p : Program) → p.rules ≡ rules_of names rules n → (k : ℕ) → k < n
    → get_elem? p.rules k ≡ some (rule_of names rules k)
unfolding rules_of
rule-at names rules n p e k l = ap (λ rs. get_elem? rs k) e ∙ tabled-element (rule_of names rules) n k l

-- constraints of at most 64 each
weight-most : (w : ℕ → ℕ) → ((k : ℕ) → w k ≤ 64) → (cs : List Constraint) → weight_by w cs ≤ 64 * length cs
unfolding weight_by
weight-most w l [] = omega arith
weight-most w l (c ∷ cs) =
    let more = weight-most w l cs in
    omega (arith, l c.symbol, more)

module _ (rules : List ℕ) (n i j a b : ℕ) (q : PairAt rules n i j a b) where
  -- how many heads the rules have
  pub first_count : length (first_heads rules i) ≡ a
  unfolding first_heads
  first_count = heads-count (row_of rules i) (q.check.rows i q.first) ∙ sym q.first_count

  pub second-count : length (second_heads rules j) ≡ b
  unfolding second_heads
  second-count =
      length-map (rule_of_row [] (row_of rules j)).heads (map_terms apart)
      ∙ heads-count (row_of rules j) (q.check.rows j q.second) ∙ sym q.second-count

  pub pair-few : (a ≤ 4) × (b ≤ 4)
  pair-few = (
    omega (arith, q.first_count, (q.check.rows i q.first).given.heads-few),
    omega (arith, q.second-count, (q.check.rows j q.second).given.heads-few),
  )

  -- and so do the program's
  pub first-heads : (names : List ℕ) → length (rule_at names rules i).rule.heads ≡ a
  unfolding rule_at rule_of rule_of_row first_heads
  first-heads names = first_count

  pub second-heads : (names : List ℕ) → length (rule_at names rules j).rule.heads ≡ b
  unfolding rule_at rule_of rule_of_row second_heads
  second-heads names = sym (length-map (rule_of_row [] (row_of rules j)).heads (map_terms apart)) ∙ second-count

  module _ (ds goal : List ℕ) (v : ℕ) (positions : List ℕ) where
    -- what judging an overlap asks, where its goal stands in cells
    pub overlap-judged :
        (k : ℕ) → length positions ≡ 4
        → overlap_of (rule_at q.check.names rules i) (rule_at q.check.names rules j) ds
        ≡ some (record {
          first = rule_at q.check.names rules i;
          second = rule_at q.check.names rules j;
          partners = ds;
          goal = record { variables = v; constraints = cell_constraints goal };
        })
        → every is_low (cell_constraints goal) ≡ true → length goal ≡ 5 * k → k < a + b → v ≤ 4 * k
        → Overlapping rules n i j positions k v goal
    unfolding cell_goal rule_at
    overlap-judged k four is low size fewer few =
        let check = q.check in
        let p = check.program in
        record {
          program = p;
          names = check.names;
          whole = check.whole;
          well-formed = check.well-formed;
          few-symbols = check.few-symbols;
          is-goal =
              overlap-goal (overlap-parts (rule_at check.names rules i) (rule_at check.names rules j) ds is) p
              (well_formed-heads p i check.well-formed (rule-at check.names rules n p check.whole i q.first)).0
              (well_formed-heads p j check.well-formed (rule-at check.names rules n p check.whole j q.second)).0;
          runs = record {
            table = record { size = check.size; rows = λ x l. (check.rows x l).given };
            low = low;
            weigh = check.weigh;
            positive = check.positive;
            lowers = check.lowers;
            light =
                let most = weight-most check.weigh check.light (cell_constraints goal) in
                omega (arith, most, constraints-length k goal size, fewer, pair-few.0, pair-few.1);
          };
          first = q.first;
          second = q.second;
          positions-size = four;
          goal-size = size;
          variables = omega (arith, few, fewer, pair-few.0, pair-few.1);
        }

    -- the overlap that the cells stand for
    pub overlap-stands :
        take b positions ≡ second_positions 1 a b ds → (p : Program) (h : Holds p rules n) (o : Overlap)
        → o.first ≡ rule_at h.names rules i → o.second ≡ rule_at h.names rules j → o.partners ≡ ds
        → o.goal ≡ cell_goal v goal → Stands p h.names rules n i j positions v goal o
    unfolding rule_at
    overlap-stands places p h o e f g s =
        let one : length o.first.rule.heads ≡ a = ap (λ x. length x.rule.heads) e ∙ first-heads h.names in
        let two : length o.second.rule.heads ≡ b = ap (λ x. length x.rule.heads) f ∙ second-heads h.names in
        record {
          whole = h.same;
          well-formed = h.well-formed;
          same-goal = s;
          first = ap (λ x. x.rule) e;
          second = ap (λ x. x.rule) f;
          places =
              ap (λ x. take x positions) (sym q.second-count) ∙ places
              ∙ λ t. second_positions 1 (sym one t) (sym two t) (sym g t);
        }
