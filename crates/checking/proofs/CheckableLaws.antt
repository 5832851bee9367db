-- A program as read can be checked: what the check asks of its tables.
--   checkable      its table of rules can be checked
--   held           this table holds it
--   few-rules      it has at most 32 rules
-- Assumes nothing.
use Prim.Native.Nat.{ℕ, zero, suc, ◌≤◌, ◌<◌}
use native.Mathlib.Omega.{arith}
use mathlib.Core.Bool.{true, ◌&&◌}
use mathlib.Core.List.{List}
use mathlib.Core.Path.{◌≡◌, ap, subst, ◌∙◌}
use lib.Dec.{ltb, eqb}
use lib.ListN.{length}
use borrow.Author.Tests.{lt-ltb, ltb-true}
use Rattle.text.specs.Lists.{every}
use Rattle.text.proofs.Bools.{and-true}
use Rattle.text.proofs.ListLaws.{every-weaker}
use Rattle.text.proofs.Laws.{tabled-length}
use Rattle.semantics.specs.Terms.{Constraint, Equation, Symbol, Rule, Program, no_symbol, symbol_at, weight, alphabet}
use Rattle.semantics.specs.Terms.{removed_heads, is_below, is_declared, is_of_rule, is_rule_of, is_well_formed}
use Rattle.semantics.proofs.Configurations.{All, none, also}
use Rattle.semantics.proofs.Weights.{every-at}
use Rattle.syntax.specs.Programs.{Reading}
use Rattle.syntax.proofs.Vocabulary.{SymbolSmall, read_small}
use Rattle.syntax.proofs.WellFormed.{read-well_formed}
use Rattle.tables.specs.Cells.{is_low}
use Rattle.tables.specs.Rows.{symbols_of, rule_of_row, row_of, rule_of, rules_of}
use Rattle.engine.proofs.GoalLaws.{weigh, rule-stands, read_table, read-lowers}
use Rattle.overlaps.specs.Cells.{RuleRow}
use Rattle.critical.specs.Walks.{Checkable, Holds}
use Rattle.inputs.specs.Inputs.{program_table, ProgramReady}
use Rattle.inputs.proofs.ProgramLaws.{as_read}

-- a constraint of a rule has a low symbol, where there are few
of-rule-low : (symbols : List Symbol) → length symbols ≤ 32 → (c : Constraint) → is_of_rule symbols c ≡ true → is_low c ≡ true
unfolding is_of_rule is_declared is_low
of-rule-low symbols few c h =
    let counted = eqb (length c.terms) (symbol_at symbols c.symbol).arity in
    let known = ltb c.symbol (length symbols) in
    let declared = (and-true (known && counted) (every (is_below alphabet) c.terms) h).0 in
    let below : c.symbol < length symbols = ltb-true c.symbol (length symbols) (and-true known counted declared).0 in
    lt-ltb c.symbol 64 (omega (arith, below))

-- the heads of a rule
heads-low : (symbols : List Symbol) → length symbols ≤ 32 → (r : Rule) → is_rule_of symbols r ≡ true → every is_low r.heads ≡ true
unfolding is_rule_of
heads-low symbols few r h =
    let heads = every (is_of_rule symbols) r.heads in
    let body = every (is_of_rule symbols) r.body in
    let equations = every (λ (e : Equation). is_below alphabet e.left && is_below alphabet e.right) r.equations in
    let light = ltb (weight symbols r.body) (weight symbols (removed_heads r)) in
    let three = (and-true (heads && body && equations) light h).0 in
    every-weaker (is_of_rule symbols) is_low r.heads (of-rule-low symbols few)
    (and-true heads body (and-true (heads && body) equations three).0).0

-- a symbol's weight, or that of a number that no symbol has
symbol-light : {symbols : List Symbol} → All SymbolSmall symbols → (k : ℕ) → (symbol_at symbols k).weight ≤ 31
unfolding symbol_at no_symbol
symbol-light none k = omega arith
symbol-light (also h more) zero = h.light
symbol-light (also h more) (suc k) = symbol-light more k

module _ {program names symbols rules : List ℕ} {k n : ℕ} {p : Reading} (r : ProgramReady program names symbols rules k n p) where
  pub same-rules : p.program.rules ≡ rules_of names rules n
  unfolding program_table
  same-rules = ap (λ (q : Program). q.rules) r.holds

  same-symbols : p.program.symbols ≡ symbols_of names symbols k
  unfolding program_table
  same-symbols = ap (λ (q : Program). q.symbols) r.holds

  pub few-rules : n ≤ 32
  unfolding rules_of
  few-rules =
      let e : length p.program.rules ≡ n = ap length same-rules ∙ tabled-length (rule_of names rules) n in
      omega (arith, (read_small program r.read).few-rules)

  rule-formed : (i : ℕ) → i < n → is_rule_of p.program.symbols (rule_of names rules i) ≡ true
  unfolding is_well_formed
  rule-formed i l =
      every-at (is_rule_of p.program.symbols) p.program.rules i (rule_of names rules i) (read-well_formed program r.read)
      (rw same-rules (rule-stands names rules n i l))

  -- its rows are rules whose heads can be joined
  rule-row : (i : ℕ) → i < n → RuleRow (row_of rules i)
  unfolding rule_of rule_of_row
  rule-row i l =
      record {
        given = (read_table names symbols k rules n (as_read r)).rows i l;
        low =
            heads-low p.program.symbols (read_small program r.read).few-symbols (rule_of names rules i) (rule-formed i l);
      }

  weigh-light : (j : ℕ) → weigh names symbols k rules n (as_read r) j ≤ 64
  unfolding weigh
  weigh-light j =
      let all : All SymbolSmall (symbols_of names symbols k) =
      subst (All SymbolSmall) same-symbols (read_small program r.read).symbols in
      omega (arith, symbol-light all j)

  weigh-positive : (j : ℕ) → 1 ≤ weigh names symbols k rules n (as_read r) j
  unfolding weigh
  weigh-positive j = omega arith

  -- its table of rules can be checked
  pub checkable : Checkable rules n
  checkable =
      record {
        size = (as_read r).size;
        rows = rule-row;
        weigh = weigh names symbols k rules n (as_read r);
        positive = weigh-positive;
        light = weigh-light;
        lowers = read-lowers names symbols k rules n (as_read r);
        program = p.program;
        names = names;
        whole = same-rules;
        well-formed = read-well_formed program r.read;
        few-symbols = omega (arith, (read_small program r.read).few-symbols);
      }

  -- this table holds it
  abbrev pub held : Holds p.program rules n
  held = record { names = names; same = same-rules; well-formed = read-well_formed program r.read }
