-- What the stages of a run ask: a program and a goal as read, in their tables.
--   Ready              a program and a goal as read, in their tables
--   Entered            a goal has entered, and its derivation has ended
--   final_bytes, FinalListable   the listing of a final state in cells, and what it asks
-- Assumes nothing.
use Rattle.std.specs.Prelude.{ℕ, ◌*◌, ◌≤◌, ◌<◌, Bool, true, is_some, unwrap_or, List, map, ◌≡◌, length, get_or, take}
use Rattle.text.specs.Lists.{tabled}
use Rattle.semantics.specs.Terms.{var}
use Rattle.syntax.specs.Answers.{accepted}
use Rattle.syntax.specs.Programs.{Reading}
use Rattle.syntax.specs.Goals.{GoalReading, read_goal}
use Rattle.tables.specs.Layout.{constraint_size}
use Rattle.tables.specs.Cells.{cell_term, cell_constraints, state_of}
use Rattle.tables.specs.Rows.{constants_of, letters_of}
use Rattle.tables.specs.Names.{name_in, Placed}
use Rattle.tables.specs.Numbers.{Renumberable}
use Rattle.engine.specs.Runs.{Ended}
use Rattle.engine.specs.declared.derivation.Final.{Final}
use Rattle.listing.specs.Listing.{variable_name, end_listing}
use Rattle.inputs.specs.Inputs.{is_known, ProgramReady}
use Rattle.running.specs.declared.Sizes.{Sizes}

-- a program and a goal as read, in their tables; each name stands where its place says
pub record Ready (program goal places rules letters cells : List ℕ) (z : Sizes) : Type 0 where
  pub names : List ℕ
  pub symbols : List ℕ
  pub k : ℕ
  pub c : ℕ
  pub p : Reading
  pub g : GoalReading
  pub first : ProgramReady program names symbols rules k z.rules p
  pub read : read_goal p.program.symbols p.constants goal ≡ accepted g
  pub held : g.goal.constraints ≡ cell_constraints (take (constraint_size * z.constraints) cells)
  pub lettered : g.letters ≡ letters_of letters (length letters)
  pub spelled : g.constants ≡ constants_of names c
  pub placed : Placed program goal names places
  pub named : (i : ℕ) → is_known k c i ≡ true → 0 < get_or names i 0
  pub cells-size : length cells ≡ 2590
  pub few : z.constraints ≤ 64

-- each goal variable was itself, and the derivation from there has ended
pub record Entered (rules : List ℕ) (z : Sizes) (v : ℕ) (cells bound' cells' : List ℕ) (alive : Bool) (count next firings : ℕ)
    : Type 0 where
  pub bound : List ℕ
  pub itself : map cell_term bound ≡ tabled var v
  pub ended : Ended rules z.rules bound cells z.constraints v bound' cells' alive count next firings

-- the listing of a final state in cells
unfoldable pub final_bytes : List ℕ → List ℕ → List ℕ → List ℕ → List ℕ → List ℕ → Final → List ℕ
final_bytes program goal places letters bound cells e =
    end_listing (name_in program goal places) (variable_name letters)
    (record {
      state = state_of (is_some e.count) e.next bound (take (constraint_size * unwrap_or e.count 0) cells);
      firings = e.firings;
    })

-- what it asks of a state that lives: each variable has an entry in a table of `next`
pub record FinalListable (bound cells : List ℕ) (e : Final) : Type 0 where
  pub count-few : is_some e.count ≡ true → constraint_size * unwrap_or e.count 0 ≤ length cells
  pub next-few : is_some e.count ≡ true → e.next ≤ 13340
  pub within : is_some e.count ≡ true → Renumberable e.next bound (take (constraint_size * unwrap_or e.count 0) cells)
