-- A goal over a program as it is read can be run, and its end is that of the definition.
--   AsRead          what the reading of a program promises of the tables
--   read_table      such a table holds rules that the engine runs
--   rule-stands     a rule of a table, by its number
--   well-formed-lowers   every rule of a well-formed program lowers the weight
--   goal-runnable, goal-starts   a goal of weight at most 512 can be run
--   goal-runs       the end of its derivation is `run`'s (the main law)
-- Assumes nothing.
use Prim.Native.Nat.{ℕ, ◌+◌, ◌*◌, ◌≤◌, ◌<◌, max}
use native.Mathlib.Omega.{arith}
use mathlib.Core.Bool.{Bool, true, ◌&&◌}
use mathlib.Core.List.{List, [], ◌∷◌, map}
use mathlib.Core.Option.{some}
use mathlib.Core.Path.{◌≡◌, refl, ap, sym, ◌∙◌}
use lib.Dec.{eqb, ltb, leb}
use lib.ListN.{length, get_or, get_elem?, take, drop, length-drop}
use lib.Seq.{length-take-le}
use borrow.Author.Tests.{lt-ltb, ltb-true}
use Rattle.text.specs.Lists.{every, tabled}
use Rattle.semantics.specs.Terms.{Term, con, var, Constraint, Equation, Symbol, Program, Goal, no_symbol, symbol_at}
use Rattle.semantics.specs.Terms.{weight, weight_by, removed_heads}
use Rattle.semantics.specs.Terms.{is_declared, is_below, is_goal_of, alphabet, is_of_rule, is_rule_of, is_well_formed}
use Rattle.semantics.specs.Strategy.{goal_state, run}
use Rattle.tables.specs.Layout.{first_rule}
use Rattle.tables.specs.Cells.{cell_term, is_low, state_of}
use Rattle.tables.specs.Rows.{symbol_of, symbols_of, rule_of_row, rule_of, rules_of, row_of, name_of}
use Rattle.fitting.specs.Positions.{is_lettered, is_side, Row, Table}
use Rattle.engine.specs.Runs.{Lowers, store_of, Runnable, Startable, Ended}
use Rattle.text.proofs.Bools.{and-true}
use Rattle.text.proofs.ListLaws.{every-at, every-weaker, every_drop, every-together}
use Rattle.fitting.proofs.ChooseLaws.{length-tabled, get_d-tabled}
use Rattle.semantics.proofs.Indices.{get_elem-at, get_d_at}
use Rattle.semantics.proofs.Weights.{rule-lowers}

-- whether a term is no constant 0, which stands for no term
unfoldable pub is_used : Term → Bool
is_used (con c) = leb 1 c
is_used (var x) = true

-- the program of two tables and the table of their names
unfoldable pub program_of : List ℕ → List ℕ → ℕ → List ℕ → ℕ → Program
program_of names symbols s rules n = record { symbols = symbols_of names symbols s; rules = rules_of names rules n }

-- what the reading of a program promises: it is well formed, its heads and bodies are within a row's room, it keeps no more
-- heads than there are, its weights are positive, and its constants not 0
pub record AsRead (names symbols : List ℕ) (s : ℕ) (rules : List ℕ) (n : ℕ) : Type 0 where
  pub well-formed : is_well_formed (program_of names symbols s rules n) ≡ true
  pub few-symbols : s ≤ 32
  pub heavy : (k : ℕ) → k < s → 1 ≤ get_or symbols (2 * k + 1) 0
  pub size : 64 * n ≤ length rules
  pub heads-few : (i : ℕ) → i < n → get_or (row_of rules i) 3 0 ≤ 4
  pub kept-few : (i : ℕ) → i < n → get_or (row_of rules i) 1 0 ≤ get_or (row_of rules i) 3 0
  pub body-few : (i : ℕ) → i < n → get_or (row_of rules i) 4 0 ≤ 6
  pub used :
      (i : ℕ) → i < n
      → every (λ (e : Equation). is_used e.left && is_used e.right) (rule_of_row [] (row_of rules i)).equations ≡ true

-- a letter or a constant other than 0
side-of : (t : Term) → is_below alphabet t ≡ true → is_used t ≡ true → is_side t ≡ true
unfolding is_used is_side is_below
side-of (con c) h k = k
side-of (var x) h k = h

-- a rule of a table, by its number
pub rule-stands :
    (names rules : List ℕ) (n i : ℕ) → i < n → get_elem? (rules_of names rules n) i ≡ some (rule_of names rules i)
unfolding rules_of
rule-stands names rules n i l =
    let rs = tabled (rule_of names rules) n in
    let (a, e) = get_elem-at rs i (omega (arith, length-tabled (rule_of names rules) n)) in
    e ∙ ap some (sym (get_d_at rs i a e) ∙ get_d-tabled (rule_of names rules) n i a l)

-- every rule of a well-formed program lowers the weight
pub well-formed-lowers :
    (p : Program) (names rules : List ℕ) (n : ℕ) → p.rules ≡ rules_of names rules n → is_well_formed p ≡ true
    → Lowers (λ k. (symbol_at p.symbols k).weight) rules n
unfolding weight weight_by rule_of rule_of_row removed_heads
well-formed-lowers p names rules n e w =
    record { falls = λ i l. rule-lowers p i (rule_of names rules i) w (rw e (rule-stands names rules n i l)) }

module _ (names symbols : List ℕ) (s : ℕ) (rules : List ℕ) (n : ℕ) (r : AsRead names symbols s rules n) where
  -- the program's symbols
  abbrev declared_table : List Symbol
  declared_table = symbols_of names symbols s

  -- a weighing of every number: a symbol's weight, and 1 for a number that no symbol has
  unfoldable pub weigh : ℕ → ℕ
  weigh k = max 1 (symbol_at declared_table k).weight

  length-table : length declared_table ≡ s
  unfolding symbols_of
  length-table = length-tabled (symbol_of names symbols) s

  weigh-same : (k : ℕ) → k < s → weigh k ≡ (symbol_at declared_table k).weight
  unfolding weigh symbol_at symbols_of symbol_of
  weigh-same k l =
      rw (get_d-tabled (symbol_of names symbols) s k no_symbol l)
      (let one : 1 ≤ get_or symbols (2 * k + 1) 0 = r.heavy k l in omega arith)

  -- a declared constraint's symbol
  declared-below : (c : Constraint) → is_declared declared_table c ≡ true → c.symbol < s
  unfolding is_declared
  declared-below c h =
      let l : c.symbol < length declared_table =
      ltb-true c.symbol (length declared_table)
      (and-true (ltb c.symbol (length declared_table))
      (eqb (length c.terms) (symbol_at declared_table c.symbol).arity) h).0 in
      omega (arith, length-table)

  declared-low : (c : Constraint) → is_declared declared_table c ≡ true → is_low c ≡ true
  unfolding is_low
  declared-low c h = lt-ltb c.symbol 64 (omega (arith, declared-below c h, r.few-symbols))

  -- declared constraints weigh what their symbols do
  weight-same : (cs : List Constraint) → every (is_declared declared_table) cs ≡ true → weight_by weigh cs ≡ weight declared_table cs
  unfolding weight_by weight
  weight-same [] h = refl
  weight-same (c ∷ cs) h =
      let both = and-true (is_declared declared_table c) (every (is_declared declared_table) cs) h in
      rw (weigh-same c.symbol (declared-below c both.0), weight-same cs both.1)

  -- a rule of the program
  module _ (i : ℕ) (l : i < n) where
    abbrev row : List ℕ
    row = row_of rules i

    rule-of : is_rule_of declared_table (rule_of_row (name_of names (first_rule + i)) row) ≡ true
    unfolding is_well_formed program_of rules_of rule_of
    rule-of =
        rw (get_d-tabled (rule_of names rules) n i (rule_of names rules i) l) at
        (every-at (is_rule_of declared_table) (tabled (rule_of names rules) n) i (rule_of names rules i) r.well-formed
        (omega (arith, length-tabled (rule_of names rules) n)))

    -- its heads, its body, its equations, and the tests of them
    abbrev hs : List Constraint
    hs = (rule_of_row [] row).heads

    -- those that are removed
    abbrev rs : List Constraint
    rs = removed_heads (rule_of_row [] row)

    abbrev bs : List Constraint
    bs = (rule_of_row [] row).body

    abbrev es : List Equation
    es = (rule_of_row [] row).equations

    abbrev below : Equation → Bool
    below = λ e. is_below alphabet e.left && is_below alphabet e.right

    abbrev of_rule : Constraint → Bool
    of_rule = is_of_rule declared_table

    -- what its being well formed says, part by part
    parts :
        (every of_rule hs ≡ true) × (every of_rule bs ≡ true) × (every below es ≡ true)
        × (weight declared_table bs < weight declared_table rs)
    unfolding is_rule_of rule_of_row removed_heads
    parts =
        let light = ltb (weight declared_table bs) (weight declared_table rs) in
        let three = and-true (every of_rule hs && every of_rule bs && every below es) light rule-of in
        let two = and-true (every of_rule hs && every of_rule bs) (every below es) three.0 in
        let one = and-true (every of_rule hs) (every of_rule bs) two.0 in
        (one.0, one.1, two.1, ltb-true (weight declared_table bs) (weight declared_table rs) three.1)

    of-rule : (c : Constraint) → is_of_rule declared_table c ≡ true → (is_declared declared_table c ≡ true) × (is_lettered c ≡ true)
    unfolding is_of_rule is_lettered
    of-rule c h = and-true (is_declared declared_table c) (every (is_below alphabet) c.terms) h

    of-body : (c : Constraint) → is_of_rule declared_table c ≡ true → (is_low c && is_lettered c) ≡ true
    of-body c h = rw (declared-low c (of-rule c h).0, (of-rule c h).1)

    of-equations :
        (e : Equation) → below e ≡ true → (is_used e.left && is_used e.right) ≡ true
        → (is_side e.left && is_side e.right) ≡ true
    of-equations e h k =
        let low = and-true (is_below alphabet e.left) (is_below alphabet e.right) h in
        let used = and-true (is_used e.left) (is_used e.right) k in
        rw (side-of e.left low.0 used.0, side-of e.right low.1 used.1)

    read-row : Row row
    read-row =
        record {
          size = length-take-le 64 (drop (64 * i) rules) (omega (arith, r.size, length-drop (64 * i) rules));
          heads-few = r.heads-few i l;
          kept-few = r.kept-few i l;
          body-few = r.body-few i l;
          heads = every-weaker of_rule is_lettered hs (λ c h. (of-rule c h).1) parts.0;
          body = every-weaker of_rule (λ (c : Constraint). is_low c && is_lettered c) bs of-body parts.1;
          equations = every-together below (λ (e : Equation). is_used e.left && is_used e.right)
              (λ (e : Equation). is_side e.left && is_side e.right) es of-equations parts.2 (r.used i l);
        }

    falls : weight_by weigh bs < weight_by weigh rs
    unfolding removed_heads rule_of_row
    falls =
        let body = weight-same bs (every-weaker of_rule (is_declared declared_table) bs (λ c h. (of-rule c h).0) parts.1) in
        let heads = weight-same rs (every_drop (is_declared declared_table) (get_or row 1 0) hs
        (every-weaker of_rule (is_declared declared_table) hs (λ c h. (of-rule c h).0) parts.0)) in
        omega (arith, parts.3, body, heads)

  -- the engine runs the rules of such a table
  pub read_table : Table rules n
  read_table = record { size = r.size; rows = read-row }

  -- every rule lowers the weight
  pub read-lowers : Lowers weigh rules n
  read-lowers = record { falls = falls }

  module _ (g : Goal) (is-goal : is_goal_of (program_of names symbols s rules n) g ≡ true) where
    declared : every (is_declared declared_table) g.constraints ≡ true
    unfolding is_goal_of program_of
    declared =
        every-weaker (λ (c : Constraint). is_declared declared_table c && every (is_below g.variables) c.terms)
        (is_declared declared_table) g.constraints
        (λ c h. (and-true (is_declared declared_table c) (every (is_below g.variables) c.terms) h).0) is-goal

    goal-weighs : weight_by weigh g.constraints ≡ weight declared_table g.constraints
    goal-weighs = weight-same g.constraints declared

    -- a goal of weight at most 512 can be run
    pub goal-runnable : weight declared_table g.constraints ≤ 512 → Runnable rules n g.constraints
    unfolding weigh
    goal-runnable light =
        record {
          table = read_table;
          low = every-weaker (is_declared declared_table) is_low g.constraints declared-low declared;
          weigh = weigh;
          positive = λ k. omega arith;
          lowers = read-lowers;
          light = omega (arith, goal-weighs);
        }

    module _ (cells : List ℕ) (m : ℕ) (holds : store_of cells m ≡ g.constraints) where
      weighs : weight_by weigh (store_of cells m) ≡ weight declared_table g.constraints
      weighs = rw holds goal-weighs

      pub goal-starts :
          weight declared_table g.constraints ≤ 512 → g.variables ≤ 51000 → 2590 ≤ length cells → m ≤ 518
          → Startable rules n cells m g.variables
      goal-starts light few space there =
          record { runs = rw holds (goal-runnable light); space = space; there = there; room = few }

      -- the end of its derivation is that of the definition
      pub goal-runs :
          (bound bound' cells' : List ℕ) (alive : Bool) (count number firings : ℕ)
          → map cell_term bound ≡ tabled var g.variables
          → Ended rules n bound cells m g.variables bound' cells' alive count number firings
          → record { state = state_of alive number bound' (take (5 * count) cells'); firings = firings }
          ≡ run (program_of names symbols s rules n) g
      unfolding run goal_state program_of
      goal-runs bound bound' cells' alive count number firings b e =
          e.same names (weight declared_table g.constraints) (omega (arith, weighs, e.bounded weigh read-lowers))
          ∙ rw (b, holds)
