-- A program as read, in its tables.
--   symbols-count, few-symbols   how many symbols it has
--   as_read                      it is one that the engine runs
--   program-ready                what the reader leaves is such a program
--   below-test, rows-within      tests of terms and constraints below a number
-- Assumes nothing.
use Prim.Native.Nat.{ℕ, zero, suc, ◌+◌, ◌*◌, ◌≤◌, ◌<◌}
use native.Mathlib.Omega.{arith}
use mathlib.Core.Bool.{true, ◌&&◌}
use mathlib.Core.List.{List, [], ◌∷◌}
use mathlib.Core.Path.{◌≡◌, refl, sym, ap, subst, ◌∙◌}
use lib.Dec.{ltb, eqb}
use lib.ListN.{length, get_or}
use borrow.Author.Tests.{le-leb, lt-ltb, ltb-true, eqb-true}
use Rattle.text.specs.Lists.{every, tabled}
use Rattle.text.proofs.Laws.{tabled-length, tabled-at}
use Rattle.semantics.specs.Terms.{Term, con, var, Constraint, Equation, Symbol, Program, no_symbol}
use Rattle.semantics.specs.Terms.{is_declared, is_below, is_well_formed}
use Rattle.text.proofs.Bools.{and-true}
use Rattle.semantics.proofs.Configurations.{All, also, TermBelow}
use Rattle.semantics.proofs.Multisets.{all-mono}
use Rattle.semantics.proofs.Listings.{all-every}
use Rattle.semantics.proofs.Vocabulary.{TermOver}
use Rattle.syntax.specs.Programs.{Reading}
use Rattle.syntax.proofs.WellFormed.{read-well_formed}
use Rattle.syntax.proofs.Vocabulary.{ConstantOf, SymbolSmall, RuleSmall, ReadSmall, read_small}
use Rattle.tables.specs.Layout.{max_symbols}
use Rattle.tables.specs.Cells.{is_low}
use Rattle.tables.specs.Rows.{symbol_of, symbols_of, row_of, rule_of_row, rule_of, rules_of}
use Rattle.tables.specs.Numbers.{is_within}
use Rattle.engine.proofs.GoalLaws.{is_used, program_of, AsRead}
use Rattle.replies.proofs.Elements.{all-at}
use Rattle.inputs.specs.Inputs.{program_table, ProgramReady}
use Rattle.inputs.specs.Inputs.{GoalReady}
use Rattle.programs.specs.Read.{program_answer, reading_of, ProgramIn, ProgramFits}
use Rattle.programs.specs.declared.Counts.{Counts}
use Rattle.std.specs.Prelude.{Result, Ok}
use Rattle.faults.specs.declared.FaultAt.{FaultAt}

-- a constant with a number is not 0
over-used : (k : ℕ) (t : Term) → TermOver (ConstantOf k) t → is_used t ≡ true
unfolding is_used
over-used k (con c) o = le-leb 1 c (omega (arith, o.0))
over-used k (var x) o = refl

module _ {program names symbols rules : List ℕ} {k n : ℕ} {p : Reading} (r : ProgramReady program names symbols rules k n p) where
  -- what reading says of the tables
  abbrev small : ReadSmall p
  small = read_small program r.read

  pub symbols-count : length p.program.symbols ≡ k
  unfolding program_table symbols_of
  symbols-count = ap (λ (q : Program). length q.symbols) r.holds ∙ tabled-length (symbol_of names symbols) k

  pub few-symbols : k ≤ 32
  few-symbols = omega (arith, small.few-symbols, symbols-count)

  few-rules : n ≤ 32
  unfolding program_table rules_of
  few-rules =
      let e : length p.program.rules ≡ n = ap (λ (q : Program). length q.rules) r.holds
      ∙ tabled-length (rule_of names rules) n in
      omega (arith, small.few-rules)

  -- a symbol's weight
  heavy : (i : ℕ) → i < k → 1 ≤ get_or symbols (2 * i + 1) 0
  unfolding program_table symbols_of symbol_of
  heavy i h =
      let all : All SymbolSmall (tabled (symbol_of names symbols) k) =
      subst (λ (q : Program). All SymbolSmall q.symbols) r.holds small.symbols in
      let at = all-at no_symbol i all (omega (arith, tabled-length (symbol_of names symbols) k)) in
      let weighs : SymbolSmall (symbol_of names symbols i) = subst SymbolSmall
      (tabled-at (symbol_of names symbols) k i no_symbol h) at in
      weighs.heavy

  -- a rule is within the limits
  small-rule : (i : ℕ) → i < n → RuleSmall (length p.constants) (rule_of names rules i)
  unfolding program_table rules_of
  small-rule i h =
      let all : All (RuleSmall (length p.constants)) (tabled (rule_of names rules) n) =
      subst (λ (q : Program). All (RuleSmall (length p.constants)) q.rules) r.holds small.rules in
      let at = all-at (rule_of names rules i) i all (omega (arith, tabled-length (rule_of names rules) n)) in
      subst (RuleSmall (length p.constants)) (tabled-at (rule_of names rules) n i (rule_of names rules i) h) at

  -- a rule's equations
  used :
      (i : ℕ) → i < n
      → every (λ (e : Equation). is_used e.left && is_used e.right) (rule_of_row [] (row_of rules i)).equations ≡ true
  unfolding rule_of rule_of_row
  used i h =
      all-every (λ (e : Equation). is_used e.left && is_used e.right)
      (all-mono (λ e o. rw (
        over-used (length p.constants) e.left o.0,
        over-used (length p.constants) e.right o.1,
      ))
      (small-rule i h).over.equations)

  -- the engine runs such a program
  pub as_read : AsRead names symbols k rules n
  unfolding program_table program_of
  as_read =
      record {
        well-formed = subst (λ (q : Program). is_well_formed q ≡ true) r.holds (read-well_formed program r.read);
        few-symbols = few-symbols;
        heavy = heavy;
        size = omega (arith, few-rules, r.rules-size);
        heads-few = r.heads-few;
        kept-few = r.kept-few;
        body-few = r.body-few;
        used = used;
      }

-- tests of terms and constraints that are over a vocabulary, or below a number
pub below-test : (n : ℕ) (t : Term) → TermBelow n t → is_below n t ≡ true
unfolding is_below
below-test n (con c) h = refl
below-test n (var x) h = lt-ltb x n h

-- constraints of few symbols, below a number
pub rows-within : (n : ℕ) (symbols : List Symbol) (cs : List Constraint) → length symbols ≤ 32
    → All (λ d. is_declared symbols d ≡ true) cs → All (λ d. All (TermBelow n) d.terms) cs → every (is_within n) cs ≡ true
unfolding is_within is_low is_declared
rows-within n symbols [] few ds bs = refl
rows-within n symbols (d ∷ cs) few (also h ds) (also b bs) =
    let low : d.symbol < length symbols = ltb-true d.symbol (length symbols)
    (and-true (ltb d.symbol (length symbols)) _ h).0 in
    rw (
      lt-ltb d.symbol max_symbols (omega arith),
      all-every (is_below n) (all-mono (below-test n) b),
      rows-within n symbols cs few ds bs,
    )

-- a table of zeros
all-zero : (l : List ℕ) → every (eqb 0) l ≡ true → (n : ℕ) → get_or l n 0 ≡ 0
all-zero [] h n = refl
all-zero (x ∷ l) h zero = sym (eqb-true 0 x (and-true (eqb 0 x) (every (eqb 0) l) h).0)
all-zero (x ∷ l) h (suc n) = all-zero l (and-true (eqb 0 x) (every (eqb 0) l) h).1 n

module _ {program names places names' places' symbols' rules' : List ℕ} {reply : Result Counts FaultAt}
    (r : ProgramIn program names places names' places' symbols' rules' reply) where
  -- a program as read, where no name stood before
  pub program-ready :
      (counts : Counts) → reply ≡ Ok counts → every (eqb 0) names ≡ true
      → GoalReady program names' places' symbols' rules' counts
  unfolding program_answer reading_of program_table
  program-ready counts h blank =
      let fits : ProgramFits rules' counts = rw h at r.fits in
      record {
        p = reading_of names' symbols' rules' counts;
        first = record {
          read = sym (rw h at r.answers);
          holds = refl;
          rules-size = r.room.rules-size;
          heads-few = λ i l. (fits.rows i l).heads;
          kept-few = λ i l. (fits.rows i l).kept;
          body-few = λ i l. (fits.rows i l).body;
        };
        spelled = refl;
        placed = λ goal. r.placed goal (record { each = λ n l k. absurd (omega (arith, all-zero names blank n)) });
        names-size = r.room.names-size;
        places-size = r.room.places-size;
        symbols-size = r.room.symbols-size;
      }
