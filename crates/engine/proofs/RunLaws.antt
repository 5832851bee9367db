-- The derivation on cells is the derivation on states; it ends by every weighing, and keeps within its arrays.
-- Assumes nothing.
use Prim.Native.Nat.{ℕ, zero, suc, ◌+◌, ◌-◌, ◌*◌, ◌≤◌, ◌<◌}
use native.Mathlib.Nat.{add-zero, add-suc}
use native.Mathlib.Omega.{arith}
use native.Mathlib.Numerals.{add-one}
use mathlib.Core.Bool.{Bool, true, false, cond}
use mathlib.Core.List.{List, map}
use mathlib.Core.Option.{Option, none, some}
use mathlib.Core.Path.{◌≡◌, refl, sym, ap, ◌∙◌}
use lib.ListN.{length, take}
use lib.Seq.{length-take-le}
use Rattle.text.specs.Lists.{onward, every}
use Rattle.semantics.specs.Terms.{Rule, State, failed, live, weight_by}
use Rattle.semantics.specs.Strategy.{Final, advance, normalise}
use Rattle.semantics.proofs.SymbolWeights.{weight-length}
use Rattle.tables.specs.Cells.{cell_term, cell_constraints, is_low, state_of}
use Rattle.tables.specs.Rows.{rules_of}
use Rattle.tables.proofs.CellLaws.{constraints-length}
use Rattle.engine.specs.Runs.{Lowers, store_of, Live, Stepped, Startable, Ended}
use Rattle.engine.specs.Runs.{Continued}
use Rattle.engine.proofs.StepLaws.{no_way}

-- no more constraints than weight
pub count-weight :
    (w : ℕ → ℕ) (cells : List ℕ) (m : ℕ) → ((k : ℕ) → 1 ≤ w k) → 5 * m ≤ length cells → m ≤ weight_by w (store_of cells m)
unfolding store_of
count-weight w cells m p l =
    omega (
      arith,
      weight-length w p (cell_constraints (take (5 * m) cells)),
      constraints-length m (take (5 * m) cells) (length-take-le (5 * m) cells l),
    )

-- a state in which no rule fits is the end
pub normalise-rests :
    (k : ℕ) (rs : List Rule) (s : State) (f : ℕ) → advance rs s ≡ none → normalise k rs s f ≡ record { state = s; firings = f }
unfolding normalise
normalise-rests zero rs s f e = refl
normalise-rests (suc k) rs s f e = rw e

-- a step, with fuel for it
normalise-moves :
    (k : ℕ) (rs : List Rule) (s t : State) (f : ℕ) → advance rs s ≡ some t → normalise (suc k) rs s f ≡ normalise k rs t (suc f)
unfolding normalise
normalise-moves k rs s t f e = rw e

-- a failed state fires nothing
pub failed-rests : (rs : List Rule) → advance rs failed ≡ none
unfolding advance
failed-rests rs = refl

module _ (rules : List ℕ) (n : ℕ) (bound cells : List ℕ) (m next : ℕ) where
  -- the state so far, after some firings, has the end of the state at the start
  pub record Running (bound' cells' : List ℕ) (alive : Bool) (count number firings : ℕ) : Type 0 where
    pub there : 5 * count ≤ length cells'
    pub numbered : number ≡ next + 26 * firings
    pub low : alive ≡ true → every is_low (store_of cells' count) ≡ true
    pub lighter :
        (w : ℕ → ℕ) → Lowers w rules n → cond alive (weight_by w (store_of cells' count)) 0 + firings ≤ weight_by w
        (store_of cells m)
    pub same :
        (names : List ℕ) (fuel : ℕ) → firings ≤ fuel
        → normalise (fuel - firings) (rules_of names rules n) (state_of alive number bound' (take (5 * count) cells')) firings
        ≡ normalise fuel (rules_of names rules n) (live next (map cell_term bound) (store_of cells m)) 0

  module _ (s : Startable rules n cells m next) where
    pub running-start : Running bound cells true m next 0
    unfolding state_of store_of
    running-start =
        record {
          there = omega (arith, s.there, s.space);
          numbered = omega arith;
          low = λ z. s.runs.low;
          lighter = λ w lw. omega arith;
          same = λ names fuel h. let e : fuel - 0 ≡ fuel = omega arith in rw e;
        }

    module _ (bound' cells' : List ℕ) (alive : Bool) (count number firings : ℕ)
        (r : Running bound' cells' alive count number firings) where
      -- the same constraints in other cells
      pub running-placed :
          (c : List ℕ) → take (5 * count) c ≡ take (5 * count) cells' → 5 * count ≤ length c
          → Running bound' c alive count number firings
      unfolding store_of
      running-placed c e l =
          record {
            there = l;
            numbered = r.numbered;
            low = λ z. rw e (r.low z);
            lighter = λ w lw. rw e (r.lighter w lw);
            same = λ names fuel h. rw e (r.same names fuel h);
          }

      -- the state has failed: no cell counts
      pub running-failed :
          (c : List ℕ) → alive ≡ false → Ended rules n bound cells m next bound' c false count number firings
      unfolding state_of
      running-failed c z =
          record {
            same = λ names fuel h.
                sym (normalise-rests (fuel - firings) (rules_of names rules n) failed firings (failed-rests
                (rules_of names rules n)))
                ∙ rw z at (r.same names fuel h);
            bounded = λ w lw. omega (arith, rw z at (r.lighter w lw));
            few = λ y. no_way y;
          }

      module _ (z : alive ≡ true) where
        -- the weight so far
        weight-left : weight_by s.runs.weigh (store_of cells' count) + firings ≤ 512
        weight-left =
            let k : weight_by s.runs.weigh (store_of cells' count) + firings ≤ weight_by s.runs.weigh (store_of cells m) =
            rw z at (r.lighter s.runs.weigh s.runs.lowers) in
            omega (arith, s.runs.light)

        pub few-now : count ≤ 512
        few-now =
            omega (
              arith,
              weight-left,
              count-weight s.runs.weigh cells' count s.runs.positive r.there,
            )

        pub fired-few : firings ≤ 512
        fired-few = omega (arith, weight-left)

        -- what a step asks
        pub running-live : 5 * count + 30 ≤ length cells' → Live rules n cells' count number
        running-live l =
            record {
              table = s.runs.table;
              space = l;
              room = omega (arith, r.numbered, s.room, weight-left);
              low = r.low z;
            }

        module _ (b c : List ℕ) (f a : Bool) (k : ℕ) (t : Stepped rules n bound' cells' count number b c f a k) where
          -- no rule fits
          pub running-rests : f ≡ false → Ended rules n bound cells m next b c true count number firings
          unfolding state_of store_of
          running-rests y =
              rw ((t.rests y).0, (t.rests y).1)
              (record {
                same = λ names fuel h.
                    sym (normalise-rests (fuel - firings) (rules_of names rules n)
                    (live number (map cell_term bound') (cell_constraints (take (5 * count) cells'))) firings
                    ((t.rests y).2 names))
                    ∙ rw z at (r.same names fuel h);
                bounded = λ w lw. omega (arith, rw z at (r.lighter w lw));
                few = λ x. few-now;
              })

          module _ (y : f ≡ true) where
            -- fewer firings than the weight
            pub running-less : 512 - (firings + 1) < 512 - firings
            running-less = omega (arith, weight-left, t.lighter y s.runs.weigh s.runs.lowers)

            before :
                (names : List ℕ) (fuel : ℕ) → suc firings ≤ fuel
                → normalise (suc (fuel - suc firings)) (rules_of names rules n) (live number (map cell_term bound')
                (store_of cells' count)) firings
                ≡ normalise fuel (rules_of names rules n) (live next (map cell_term bound) (store_of cells m)) 0
            unfolding state_of store_of
            before names fuel h =
                let e : suc (fuel - suc firings) ≡ fuel - firings = omega arith in
                rw e (rw z at (r.same names fuel (omega arith)))

            -- a rule has fired
            pub running-next : 5 * k ≤ length c → Running b c a k (number + 26) (firings + 1)
            running-next q =
                record {
                  there = q;
                  numbered = omega (arith, r.numbered);
                  low = t.low y;
                  lighter = λ w lw.
                      let x : weight_by w (store_of cells' count) + firings ≤ weight_by w (store_of cells m) = rw z at
                      (r.lighter w lw) in
                      omega (arith, t.lighter y w lw);
                  same = λ names fuel h.
                      rw (add-one firings)
                      (sym (normalise-moves (fuel - suc firings) (rules_of names rules n) (live number (map cell_term bound')
                      (store_of cells' count))
                      (state_of a (number + 26) b (take (5 * k) c)) firings (t.moves y names))
                      ∙ before names fuel (omega arith));
                }

-- more firings before
unfoldable later : ℕ → Final → Final
later f e = record { state = e.state; firings = f + e.firings }

-- firings before a derivation only count
normalise-later :
    (k : ℕ) (rs : List Rule) (s : State) (f g : ℕ) → normalise k rs s (f + g) ≡ later f (normalise k rs s g)
unfolding normalise later
normalise-later zero rs s f g = refl
normalise-later (suc k) rs s f g = go (λ t. rw (← add-suc) (normalise-later k rs t f (suc g))) (advance rs s)
  where
    go : ((t : State) → normalise k rs t (suc (f + g)) ≡ later f (normalise k rs t (suc g))) → (o : Option State)
        → onward o (record { state = s; firings = f + g }) (λ t. normalise k rs t (suc (f + g)))
        ≡ later f (onward o (record { state = s; firings = g }) (λ t. normalise k rs t (suc g)))
    go more none = refl
    go more (some t) = more t

module _ (rules : List ℕ) (n : ℕ) (bound cells : List ℕ) (m next : ℕ) (bound' cells' : List ℕ) (alive : Bool)
    (count number firings : ℕ) (e : Ended rules n bound cells m next bound' cells' alive count number firings) where
  -- a derivation has few firings
  pub ended-few : Startable rules n cells m next → firings ≤ 512
  ended-few s = omega (arith, e.bounded s.runs.weigh s.runs.lowers, s.runs.light)

  -- the same constraints in other cells
  pub ended-placed :
      (c : List ℕ) → take (5 * count) c ≡ take (5 * count) cells'
      → Ended rules n bound cells m next bound' c alive count number firings
  ended-placed c p = record { same = λ names fuel h. rw p (e.same names fuel h); bounded = e.bounded; few = e.few }

  -- the end counts the firings before
  pub ended-later :
      (before : ℕ) → Continued rules n bound cells m next before bound' cells' alive count number (before + firings)
  unfolding later
  ended-later before =
      record {
        same = λ names fuel h.
            ap (later before) (e.same names fuel (omega arith))
            ∙ sym (normalise-later fuel (rules_of names rules n) (live next (map cell_term bound) (store_of cells m)) before 0)
            ∙ rw add-zero;
        bounded = λ w lw. omega (arith, e.bounded w lw);
        few = e.few;
      }
