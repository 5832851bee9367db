-- One step of the strategy on cells is one step on states.
-- Assumes nothing.
use Prim.Native.Nat.{ℕ, ◌+◌, ◌-◌, ◌*◌, ◌≤◌}
use native.Mathlib.Omega.{arith}
use mathlib.Core.Bool.{Bool, true, false}
use mathlib.Core.List.{List, []}
use mathlib.Core.Option.{some}
use Rattle.std.specs.Prelude.{Some, None}
use mathlib.Core.Path.{◌≡◌, refl, ap, sym}
use lib.ListN.{length, get_or, take, drop, length-drop}
use lib.Seq.{length-take-le}
use Rattle.semantics.specs.Matching.{unassigned, match_at}
use Rattle.semantics.specs.Strategy.{advance}
use Rattle.semantics.proofs.Search.{find-sound}
use Rattle.semantics.proofs.SymbolWeights.{match-few}
use Rattle.tables.specs.Layout.{first_rule}
use Rattle.tables.specs.Cells.{cell_constraints}
use Rattle.tables.specs.Rows.{name_of, rule_of_row, row_of, rule_of}
use Rattle.fitting.specs.Cells.{assigned}
use Rattle.fitting.specs.Positions.{found_of, Row, Table, choice_of, Chosen}
use Rattle.engine.specs.States.{Fires, Fired, Skips}
use Rattle.engine.specs.Runs.{store_of, Live, Stepped}
use Rattle.tallies.specs.Symbols.{Tallied, Exchangeable}
use Rattle.fitting.specs.Known.{Knows, Remembered}
use Rattle.engine.specs.Runs.{Keeps}
use Rattle.fitting.proofs.ChooseLaws.{lent_row, row-cells}
use Rattle.engine.proofs.FiredLaws.{fired-lighter, fired-low}
use Rattle.engine.proofs.KeepsLaws.{row-exchangeable, tallied-fired, knows-fired}
use Rattle.tables.proofs.CellLaws.{constraints-length}

-- from nothing
pub no_way : {A : Type 0} → false ≡ true → A
no_way e = let z : ◌≡◌ {A = ℕ} 0 1 = cc in absurd (omega arith)

pub no_way_back : {A : Type 0} → true ≡ false → A
no_way_back e = let z : ◌≡◌ {A = ℕ} 0 1 = cc in absurd (omega arith)

module _ (rules : List ℕ) (n : ℕ) (cells : List ℕ) (m next : ℕ) (s : Live rules n cells m next) where
  -- the constraints that the choice is lent
  pub step-lent : 5 * m ≡ length (take (5 * m) cells)
  step-lent = sym (length-take-le (5 * m) cells (omega (arith, s.space)))

  -- the choice may be lent any first rules of the table
  pub step-chooses :
      (known last : List ℕ) (gone : ℕ) → Knows rules n known last gone (store_of cells m) → gone + m ≤ 6000 → (k : ℕ) → k ≤ n
      → (ps b : List ℕ) → length ps ≡ 4 → length b ≡ 26 → (table : List ℕ) → Tallied table (store_of cells m)
      → Table rules k × (length (take (5 * m) cells) ≡ 5 * m) × (gone + m ≤ 6000)
      × Knows rules k known last gone (cell_constraints (take (5 * m) cells)) × (length ps ≡ 4) × (length b ≡ 26)
      × Tallied table (cell_constraints (take (5 * m) cells))
  unfolding store_of
  step-chooses known last gone ks few k h ps b four letters table t = (
    record { size = omega (arith, s.table.size); rows = λ i l. s.table.rows i (omega arith) },
    sym step-lent,
    few,
    record { noted = λ i l. ks.noted i (omega arith); bounded = ks.bounded },
    four,
    letters,
    t,
  )

  -- the constraints after a firing lie within the cells
  pub step-there : (g : List ℕ) (skip count : ℕ) → length g ≡ length cells → Skips m skip count → 5 * count ≤ length
      (drop (5 * skip) g)
  step-there g skip count e k = omega (arith, k.within, s.space, length-drop (5 * skip) g)

  -- of a state that has failed nothing is kept
  pub step-keeps-failed :
      (known last table : List ℕ) (gone : ℕ) (cells' : List ℕ) (count : ℕ)
      → Keeps rules n known last table gone cells' true false count
  step-keeps-failed known last table gone cells' count = record { knows = λ _ y. no_way y; tallies = λ _ y. no_way y }

  module _ (ps b : List ℕ) where
    -- no rule fits
    pub step-rests :
        Chosen rules n (take (5 * m) cells) None ps b → (bound : List ℕ)
        → Stepped rules n bound cells m next bound cells false true m
    unfolding choice_of advance store_of
    step-rests chosen bound =
        record {
          rests = λ y. (refl, refl, λ names. rw (← chosen.same names));
          moves = λ y. no_way y;
          lighter = λ y. no_way y;
          low = λ y. no_way y;
          few = omega arith;
        }

    -- a rule fits
    module _ (i : ℕ) (chosen : Chosen rules n (take (5 * m) cells) (Some i) ps b) where
      pub step_row : 64 * i + 64 ≤ length rules
      step_row = omega (arith, chosen.within, s.table.size)

      abbrev row : List ℕ
      row = row_of rules i

      -- the rule matches where it fires
      fits : match_at (rule_of_row [] row).heads (take (get_or row 3 0) ps) (store_of cells m) [] unassigned ≡ some (assigned b)
      unfolding found_of store_of
      fits = find-sound (rule_of_row [] row).heads (cell_constraints (take (5 * m) cells)) _ (sym (chosen.fits))

      -- its heads are no more than the constraints
      heads-there : get_or row 3 0 ≤ m
      unfolding rule_of_row store_of
      heads-there =
          let given : Row row = s.table.rows i (chosen.within) in
          omega (
            arith,
            match-few (rule_of_row [] row).heads (take (get_or row 3 0) ps) (store_of cells m) (assigned b) fits,
            constraints-length (get_or row 3 0) (take (5 * get_or row 3 0) (drop 6 row)) (length-take-le (5 * get_or row 3 0)
                (drop 6 row) (omega (arith, given.size, given.heads-few, length-drop 6 row))),
            constraints-length m (take (5 * m) cells) (sym step-lent),
          )

      -- what firing asks
      pub step-fires : Fires (lent_row rules i) ps b next cells m × (get_or (lent_row rules i) 3 0 ≤ m)
      unfolding store_of
      step-fires = (
        record {
          given = rw (row-cells i) (s.table.rows i (chosen.within));
          positions-size = chosen.positions-size;
          bindings-size = chosen.bindings-size;
          room = s.room;
          space = s.space;
          low = s.low;
        },
        rw (row-cells i) heads-there,
      )

      module _ (bound bound' cells' : List ℕ) (alive : Bool) (count : ℕ)
          (given : Fired (lent_row rules i) ps b next bound cells m bound' cells' alive count) where
        done : Fired row ps b next bound cells m bound' cells' alive count
        done = rw (row-cells i) at given

        module _ (gone taken : ℕ) (few : gone + m ≤ 6000) (e : taken ≡ get_or (lent_row rules i) 3 0 - get_or (lent_row rules i) 1 0)
          where
            pub taken-few : taken ≤ 4
            taken-few =
                let o : taken ≡ get_or row 3 0 - get_or row 1 0 = rw (row-cells i) at e in
                omega (arith, (s.table.rows i (chosen.within)).heads-few)

            -- what remembering it asks
            pub step-remembers :
                (table : List ℕ) → Tallied table (store_of cells m)
                → Exchangeable (lent_row rules i) table × (gone + taken + count ≤ 65000)
            unfolding store_of
            step-remembers table t = (
              rw (row-cells i) (row-exchangeable row table (store_of cells m) (s.table.rows i (chosen.within)) t
                  (omega (arith, constraints-length m (take (5 * m) cells) (sym step-lent)))),
              omega (arith, done.few, taken-few),
            )

            -- not many more constraints have been there
            pub step-few : gone + taken + count ≤ gone + m + 10
            step-few = omega (arith, done.few, taken-few)

            -- what is known then
            pub step_keeps :
                (known known' last last' table table' : List ℕ)
                → Knows rules n known last gone (cell_constraints (take (5 * m) cells))
                → Remembered (lent_row rules i) (gone + taken + count) known last table known' last' table'
                → 5 * count ≤ length cells' → Tallied table (store_of cells m) → length table' ≡ length table
                → Keeps rules n known' last' table' (gone + taken) cells' true alive count
            unfolding store_of
            step_keeps known known' last last' table table' ks remembered there t size =
                let o : taken ≡ get_or row 3 0 - get_or row 1 0 = rw (row-cells i) at e in
                let r : Remembered row (gone + taken + count) known last table known' last' table' =
                rw (row-cells i) at remembered in
                record {
                  knows = λ x y. knows-fired row ps b next bound cells m bound' cells' count (rw y at done)
                      (s.table.rows i (chosen.within)) chosen.positions-size there gone taken o last last' r.marks
                      rules n known known' ks r.equated r.plain;
                  tallies = λ x y. tallied-fired row ps b next bound cells m bound' cells' count (rw y at done) fits
                      table table' t size r.exchanges;
                }

        -- a rule has fired
        pub step-moves : Stepped rules n bound cells m next bound' cells' true alive count
        unfolding choice_of found_of advance store_of rule_of
        step-moves =
            record {
              rests = λ y. no_way_back y;
              moves = λ y names. rw (← chosen.same names) (ap some (sym (done.same (name_of names (first_rule + i)))));
              lighter = λ y w lw.
                  fired-lighter row ps b next bound cells m bound' cells' alive count done w fits
                  (lw.falls i (chosen.within));
              low = λ y.
                  fired-low row ps b next bound cells m bound' cells' alive count done (s.table.rows i (chosen.within))
                  s.low;
              few = done.few;
            }
