-- The tables of a program, for reading a goal over it.
--   program-tabled                     what the reader of a program leaves
--   tabled-used, tabled-room           the used part of the symbols; there is room to read a goal
--   goal-answers                       the goal reader's answer is that of the definition
--   few-own, goal-tabled               the same from a program as read
--   outside-symbols, outside-rules     a goal leaves the program's names
--   letters-front, front_length        the letters that are used; the length of a front
-- Assumes nothing.
use Prim.Native.Nat.{ℕ, ◌+◌, ◌*◌, ◌≤◌, zero, suc}
use native.Mathlib.Omega.{arith}
use mathlib.Core.List.{List, [], ◌∷◌}
use mathlib.Core.Path.{◌≡◌, refl, sym, ap, ◌∙◌}
use lib.ListN.{length, take, get_or}
use lib.Seq.{length-take-le, get_or-take}
use Rattle.semantics.specs.Terms.{Symbol}
use Rattle.syntax.specs.Goals.{read_goal}
use Rattle.tables.specs.Layout.{symbol_size, first_rule}
use Rattle.tables.specs.Rows.{symbols_of, constants_of, name_of, symbol_of, rule_of, rules_of, letters_of}
use Rattle.programs.specs.Read.{ProgramIn, ProgramFits}
use Rattle.programs.specs.declared.Counts.{Counts}
use Rattle.std.specs.Prelude.{Result, Ok}
use Rattle.faults.specs.declared.FaultAt.{FaultAt}
use Rattle.programs.proofs.AddLaws.{symbols-used}
use Rattle.goals.specs.ReadGoal.{Room, goal_answer, GoalIn}
use Rattle.goals.specs.declared.GoalCounts.{GoalCounts}
use Rattle.inputs.specs.Inputs.{Tabled}
use Rattle.text.specs.Keys.{spell}
use Rattle.text.proofs.Laws.{tabled-length}
use Rattle.syntax.specs.Forms.{first_constant}
use Rattle.syntax.proofs.Tabled.{tabled-same}
use Rattle.syntax.proofs.Vocabulary.{read_small}
use Rattle.lines.specs.Read.{Outside}
use Rattle.inputs.specs.Inputs.{GoalReady}
use Rattle.inputs.proofs.ProgramLaws.{few-symbols}

module _ {program names places names' places' symbols' rules' : List ℕ} {reply : Result Counts FaultAt}
    (r : ProgramIn program names places names' places' symbols' rules' reply) where
  -- the tables of a program that is read
  pub program-tabled : (counts : Counts) → reply ≡ Ok counts → Tabled symbols' names' places' counts
  program-tabled counts h =
      let fits : ProgramFits rules' counts = rw h at r.fits in
      record {
        names-size = r.room.names-size;
        places-size = r.room.places-size;
        symbols-size = r.room.symbols-size;
        few-symbols = fits.few-symbols;
        few-constants = fits.few-constants;
      }

module _ {symbols names places : List ℕ} {c : Counts} (t : Tabled symbols names places c) where
  -- the used part of the symbols
  pub tabled-used : symbol_size * c.symbols ≤ length symbols
  tabled-used = omega (arith, t.few-symbols, t.symbols-size)

  used-size : length (take (symbol_size * c.symbols) symbols) ≡ symbol_size * c.symbols
  used-size = length-take-le (symbol_size * c.symbols) symbols tabled-used

  -- there is room to read a goal
  pub tabled-room : {cells letters : List ℕ} → 320 ≤ length cells → length letters ≡ 26
      → Room (take (symbol_size * c.symbols) symbols) names places cells letters
  tabled-room h l =
      record {
        few-symbols = omega (arith, used-size, t.few-symbols);
        names-size = t.names-size;
        places-size = t.places-size;
        cells-size = h;
        letters-size = l;
      }

  module _ (goal : List ℕ) {names' places' cells letters : List ℕ} {reply : Result GoalCounts FaultAt}
      (g : GoalIn goal (take (symbol_size * c.symbols) symbols) names places c.constants names' places' cells letters
      reply) where
    -- the reader's answer is that of the definition
    pub goal-answers :
        goal_answer names' cells letters reply
        ≡ read_goal (symbols_of names symbols c.symbols) (constants_of names c.constants) goal
    goal-answers =
        g.answers c.symbols used-size
        ∙ ap (λ (ss : List Symbol). read_goal ss (constants_of names c.constants) goal) (symbols-used names symbols c.symbols)

-- tables whose symbols and rules have the same names hold the same program
pub outside-symbols : (names names' symbols : List ℕ) (k : ℕ) → Outside names names' → k ≤ 32
    → symbols_of names' symbols k ≡ symbols_of names symbols k
unfolding symbols_of symbol_of name_of
outside-symbols names names' symbols zero o h = refl
outside-symbols names names' symbols (suc k) o h =
    let same : spell (get_or names' k 0) ≡ spell (get_or names k 0) = ap spell (o.symbols k (omega arith)) in
    rw (outside-symbols names names' symbols k o (omega arith), same)

pub outside-rules : (names names' rules : List ℕ) (n : ℕ) → Outside names names' → rules_of names' rules n ≡ rules_of names rules n
unfolding rules_of rule_of name_of
outside-rules names names' rules zero o = refl
outside-rules names names' rules (suc n) o =
    let same : spell (get_or names' (first_rule + n) 0) ≡ spell (get_or names (first_rule + n) 0) =
    ap spell (o.rules (first_rule + n) (omega arith)) in
    rw (outside-rules names names' rules n o, same)

-- the letters that are used
pub letters-front : (letters : List ℕ) (v : ℕ) → v ≤ length letters
    → letters_of letters v ≡ letters_of (take v letters) (length (take v letters))
unfolding letters_of
letters-front letters v h =
    let size : length (take v letters) ≡ v = length-take-le v letters h in
    rw size
    (tabled-same (λ i. get_or letters i 0 ∷ []) (λ i. get_or (take v letters) i 0 ∷ []) v
    (λ i l. ap (λ (b : ℕ). b ∷ []) (sym (get_or-take v letters i 0 l))))

module _ {program names places symbols rules : List ℕ} {c : Counts} (r : GoalReady program names places symbols rules c) where
  -- the program has few constants
  pub few-own : c.constants ≤ 64
  unfolding constants_of
  few-own =
      omega (
        arith,
        (read_small program r.first.read).few-constants,
        ap length r.spelled,
        tabled-length (λ i. name_of names (first_constant + i)) c.constants,
      )

  -- its tables, for reading a goal
  pub goal-tabled : Tabled symbols names places c
  goal-tabled =
      record {
        names-size = r.names-size;
        places-size = r.places-size;
        symbols-size = r.symbols-size;
        few-symbols = few-symbols r.first;
        few-constants = few-own;
      }

-- the length of a front
pub front_length : (n : ℕ) (l : List ℕ) → n ≤ length l → n ≡ length (take n l)
front_length n l h = sym (length-take-le n l h)
