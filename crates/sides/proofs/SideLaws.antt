-- A side on cells is a side on states: one law for each way that the code goes.
--   side-begins                           the rule has fired, or does not fit and the goal has entered
--   side-follows, side-ended              what follows can be asked for, and its end is the side's
--   side-rests, side-fails, side-ends     the rule does not fit, the state fails, the strategy follows
-- Assumes nothing.
use Prim.Native.Nat.{ℕ, ◌+◌, ◌*◌, ◌≤◌, ◌<◌}
use native.Mathlib.Omega.{arith}
use mathlib.Core.Bool.{Bool, true, false, cond}
use mathlib.Core.List.{List, map}
use mathlib.Core.Path.{◌≡◌, ap, sym, ◌∙◌}
use lib.ListN.{length, take}
use lib.Seq.{take_all}
use Rattle.text.specs.Lists.{tabled}
use Rattle.semantics.specs.Terms.{Program, failed, live, var, weight, weight_by}
use Rattle.semantics.specs.Firing.{fire_at}
use Rattle.semantics.specs.Strategy.{goal_state, normalise}
use Rattle.semantics.specs.Overlaps.{side_end}
use Rattle.tables.specs.Layout.{first_rule}
use Rattle.tables.specs.Cells.{cell_term, cell_constraints, state_of}
use Rattle.tables.specs.Rows.{name_of, rule_of, row_of}
use Rattle.engine.specs.Runs.{Lowers, store_of, Continued}
use Rattle.engine.specs.Stated.{stated_at, fire_row, Stated, FiredFrom}
use Rattle.engine.proofs.RunLaws.{count-weight, normalise-rests, failed-rests}
use Rattle.engine.proofs.StepLaws.{no_way}
use Rattle.engine.proofs.GoalLaws.{well-formed-lowers}
use Rattle.sides.specs.Sides.{cell_goal, Sidable, Begun, Followable, Followed, Sided}

module _ (rules : List ℕ) (n i : ℕ) (positions goal : List ℕ) (m v : ℕ) (cells : List ℕ)
    (s : Sidable rules n i positions goal m v cells) where
  -- no more constraints than the weight
  pub side-few : m ≤ 512
  unfolding store_of
  side-few =
      let all : take (5 * m) goal ≡ goal = take_all (5 * m) goal (omega (arith, s.goal-size)) in
      let k : m ≤ weight_by s.runs.weigh (cell_constraints goal) =
      rw all at (count-weight s.runs.weigh goal m s.runs.positive (omega (arith, s.goal-size))) in
      omega (arith, s.runs.light)

  -- what firing asks
  pub side-stated : (row : List ℕ) → row ≡ row_of rules i → Stated row positions v goal m cells
  side-stated row is =
      record {
        given = rw is (s.runs.table.rows i s.rule);
        positions-size = s.positions-size;
        room = omega (arith, s.variables);
        size = s.goal-size;
        space = omega (arith, side-few, s.space);
        low = s.runs.low;
      }

  module _ (row : List ℕ) (is : row ≡ row_of rules i) (bound₁ : List ℕ) (b : map cell_term bound₁ ≡ tabled var v)
      (bound₂ cells₂ : List ℕ) (fired alive : Bool) (count : ℕ)
      (given : FiredFrom row positions v bound₁ goal m bound₂ cells₂ fired alive count) where
    f : FiredFrom (row_of rules i) positions v bound₁ goal m bound₂ cells₂ fired alive count
    f = rw is at given

    -- the side's own firing
    own :
        (names : List ℕ)
        → fire_at (rule_of names rules i) (stated_at (row_of rules i) positions) (goal_state (cell_goal v goal))
        ≡ fire_row (name_of names (first_rule + i)) (row_of rules i) positions v bound₁ goal
    unfolding fire_row rule_of goal_state cell_goal
    own names = rw b

    -- the rule has fired, or does not fit
    pub side-begins : Begun rules i positions goal m v bound₂ cells₂ fired alive count
    side-begins =
        record {
          rests = λ z.
              rw (f.rests z).0 (b, (f.rests z).1, λ names. own names ∙ (f.rests z).2 (name_of names (first_rule + i)));
          moves = λ z names. own names ∙ f.moves z (name_of names (first_rule + i));
          lighter = f.lighter;
          low = f.low;
          few = f.few;
        }

  -- what follows can be asked for
  pub side-follows :
      (u : ℕ) (bound₂ cells₂ : List ℕ) (fired alive : Bool) (count : ℕ) → u ≡ v → length cells₂ ≡ length cells
      → Begun rules i positions goal m v bound₂ cells₂ fired alive count
      → Followable rules n i goal m u bound₂ cells₂ fired alive count
  side-follows u bound₂ cells₂ fired alive count same e f =
      rw same (record {
        rule = s.rule;
        positions = positions;
        begun = f;
        goal-size = s.goal-size;
        low = s.runs.low;
        starts = λ z y.
            let lighter : weight_by s.runs.weigh (store_of cells₂ count) < weight_by s.runs.weigh (cell_constraints goal) =
            rw y at (f.lighter z s.runs.weigh (s.runs.lowers.falls i s.rule)) in
            record {
              runs = record {
                table = s.runs.table;
                low = f.low z y;
                weigh = s.runs.weigh;
                positive = s.runs.positive;
                lowers = s.runs.lowers;
                light = omega (arith, lighter, s.runs.light);
              };
              space = omega (arith, e, s.space);
              there = omega (arith, f.few, side-few);
              room = omega (arith, s.variables);
            };
        few = side-few;
        variables = s.variables;
      })

  -- and its end is the side's
  pub side-ended :
      (u : ℕ) (bound₂ cells₂ : List ℕ) (fired alive : Bool) (count : ℕ) (bound' cells' : List ℕ) (lives : Bool)
      (k number firings : ℕ) → u ≡ v
      → Begun rules i positions goal m v bound₂ cells₂ fired alive count
      → Followed rules n m u bound₂ cells₂ fired alive count bound' cells' lives k number firings
      → Sided rules n i positions goal v bound' cells' lives k number firings
  side-ended u bound₂ cells₂ fired alive count bound' cells' lives k number firings same begun t =
      rw same at (t.ended i positions goal s.rule (rw same begun))

module _ (rules : List ℕ) (n j : ℕ) (entered : List ℕ) (m v : ℕ) (bound cells : List ℕ) (fired alive : Bool) (count : ℕ)
    (s : Followable rules n j entered m v bound cells fired alive count) where
  -- the rule did not fit
  pub side-rests : fired ≡ false → Followed rules n m v bound cells fired alive count bound cells true m v 0
  unfolding side_end state_of goal_state cell_goal store_of
  side-rests z =
      record {
        ended = λ i positions goal l f. record {
          same = λ p names e w.
              rw ((f.rests z).2 names) (λ j. record { state = live v ((f.rests z).0 j) ((f.rests z).1 j); firings = 0 });
          bounded = λ w lw. omega arith;
          few = λ y. s.few;
        };
      }

  module _ (z : fired ≡ true) where
    module _ (i : ℕ) (positions goal : List ℕ) (l : i < n)
        (f : Begun rules i positions goal m v bound cells fired alive count) where
      -- the side, from the state after its own firing
      follows :
          (p : Program) (names : List ℕ)
          → side_end p (cell_goal v goal) (rule_of names rules i) (stated_at (row_of rules i) positions)
          ≡ normalise (weight p.symbols (cell_constraints goal)) p.rules
          (state_of alive (v + 26) bound (take (5 * count) cells)) 1
      unfolding side_end cell_goal
      follows p names = rw (f.moves z names)

      -- it lowers every weighing that the rules lower
      lighter :
          (w : ℕ → ℕ) → Lowers w rules n → cond alive (weight_by w (store_of cells count)) 0 < weight_by w (cell_constraints goal)
      lighter w lw = f.lighter z w (lw.falls i l)

    -- the state has failed
    pub side-fails : alive ≡ false → Followed rules n m v bound cells fired alive count bound cells false 0 (v + 26) 1
    unfolding state_of
    side-fails y =
        record {
          ended = λ i positions goal l f. record {
            same = λ p names e w.
                sym (rw y at (follows i positions goal l f p names)
                ∙ normalise-rests (weight p.symbols (cell_constraints goal)) p.rules failed 1 (failed-rests p.rules));
            bounded = λ w lw. omega (arith, lighter i positions goal l f w lw);
            few = λ x. no_way x;
          };
        }

    -- it has come to its end
    pub side-ends :
        alive ≡ true → (bound' cells' : List ℕ) (lives : Bool) (k number firings : ℕ)
        → Continued rules n bound cells count (v + 26) 1 bound' cells' lives k number firings
        → Followed rules n m v bound cells fired alive count bound' cells' lives k number firings
    unfolding state_of weight weight_by store_of
    side-ends y bound' cells' lives k number firings t =
        record {
          ended = λ i positions goal l f.
              let lighter-now : (w : ℕ → ℕ) → Lowers w rules n
              → weight_by w (store_of cells count) < weight_by w (cell_constraints goal) =
              λ w lw. rw y at (lighter i positions goal l f w lw) in
              record {
                same = λ p names e w.
                    let lw = well-formed-lowers p names rules n e w in
                    t.same names (weight p.symbols (cell_constraints goal))
                    (omega (arith, t.bounded _ lw, lighter-now _ lw))
                    ∙ sym (rw y at (follows i positions goal l f p names)
                    ∙ ap (λ rs. normalise (weight p.symbols (cell_constraints goal)) rs
                    (live (v + 26) (map cell_term bound) (store_of cells count)) 1) e);
                bounded = λ w lw. omega (arith, t.bounded w lw, lighter-now w lw);
                few = t.few;
              };
        }
