-- The loop of `normalise`: the state begins at a row of the cells, behind those that were removed at the front.
--   Holding                          the state at its row, and what is known of it
--   holding-start, holding-next      the first state, and the next
--   holding-rests, holding-failed    the end
-- Assumes nothing.
use Prim.Native.Nat.{ℕ, ◌+◌, ◌-◌, ◌*◌, ◌≤◌, ◌<◌}
use native.Mathlib.Omega.{arith}
use mathlib.Core.Bool.{true, false}
use mathlib.Core.List.{List}
use mathlib.Core.Path.{◌≡◌, refl, ap, sym, ◌∙◌}
use lib.ListN.{length, take, drop, replicate, length-drop}
use lib.Seq.{drop-drop}
use Rattle.engine.specs.States.{Skips, Placed}
use Rattle.engine.specs.Runs.{store_of, Live, Stepped, Startable, Ended}
use Rattle.tallies.specs.Symbols.{Tallied}
use Rattle.fitting.specs.Known.{Knows}
use Rattle.engine.specs.Runs.{Keeps}
use Rattle.fitting.proofs.PartLaws.{behind, behind-all}
use Rattle.engine.proofs.FrontLaws.{returned, returned-part, returned-size}
use Rattle.engine.proofs.KeepsLaws.{keeps-start, keeps_placed}
use Rattle.engine.proofs.RunLaws.{Running, running-start, running-failed, running-placed, running-live, running-rests}
use Rattle.engine.proofs.RunLaws.{running-less, running-next, few-now, fired-few, ended-placed}

module _ (rules : List ℕ) (n : ℕ) (bound cells : List ℕ) (m next : ℕ) where
  -- the state lives, begins at a row, and lies within the cells
  pub record Holding (bound' cells' : List ℕ) (count number firings : ℕ) (known last : List ℕ) (gone at : ℕ)
      (table : List ℕ) : Type 0 where
    pub running : Running rules n bound cells m next bound' (drop (5 * at) cells') true count number firings
    pub keeps : Keeps rules n known last table gone (drop (5 * at) cells') true true count
    pub grown : gone + count ≤ m + 10 * firings
    pub cells-size : length cells' ≡ length cells
    pub within : 5 * (at + count) ≤ length cells'

  module _ (s : Startable rules n cells m next) where
    pub holding-start :
        (table : List ℕ) → Tallied table (store_of cells m)
        → Holding bound cells m next 0 (replicate 32 8192) (replicate 64 0) 0 0 table
    holding-start table t =
        record {
          running = running-start rules n bound cells m next s;
          keeps = keeps-start rules n 32 64 table cells m t;
          grown = omega arith;
          cells-size = refl;
          within = omega (arith, s.there, s.space);
        }

    module _ (bound' cells' : List ℕ) (count number firings : ℕ) (known last : List ℕ) (gone at : ℕ)
        (table : List ℕ) (h : Holding bound' cells' count number firings known last gone at table) where
      few : count ≤ 512
      few = few-now rules n bound cells m next s bound' (drop (5 * at) cells') true count number firings h.running refl

      -- what making room asks
      pub holding-room : (5 * (at + count) ≤ length cells') × (5 * count + 30 ≤ length cells')
      holding-room = (h.within, omega (arith, few, h.cells-size, s.space))

      module _ (c : List ℕ) (a : ℕ) (size : length c ≡ length cells') (p : Placed cells' at count c a) where
        there : 5 * a + 5 * count + 30 ≤ length c
        there = omega (arith, p.space)

        -- the cells that the step is lent hold the same constraints
        lent : take (5 * count) (behind (5 * a) c) ≡ take (5 * count) (drop (5 * at) cells')
        lent = rw (behind-all (5 * a) c) p.same

        lent-room : 5 * count + 30 ≤ length (behind (5 * a) c)
        lent-room = rw (behind-all (5 * a) c) (omega (arith, there, length-drop (5 * a) c))

        here : Running rules n bound cells m next bound' (behind (5 * a) c) true count number firings
        here =
            running-placed rules n bound cells m next s bound' (drop (5 * at) cells') true count number firings h.running
            (behind (5 * a) c) lent (omega (arith, lent-room))

        holding-within : 5 * a ≤ length c
        holding-within = omega (arith, there)

        -- what is kept is that of these cells
        kept_here : Keeps rules n known last table gone (behind (5 * a) c) true true count
        kept_here =
            keeps_placed rules n known last table gone (drop (5 * at) cells') true true count h.keeps (behind (5 * a) c)
            lent

        -- what a step asks
        pub holding-live :
            Live rules n (behind (5 * a) c) count number × Knows rules n known last gone (store_of (behind (5 * a) c) count)
            × (gone + count ≤ 6000) × Tallied table (store_of (behind (5 * a) c) count)
        holding-live = (
          running-live rules n bound cells m next s bound' (behind (5 * a) c) true count number firings here refl lent-room,
          kept_here.knows refl refl,
          omega (
            arith,
            h.grown,
            s.there,
            fired-few rules n bound cells m next s bound' (drop (5 * at) cells') true count number firings h.running refl,
          ),
          kept_here.tallies refl refl,
        )

        module _ (b g : List ℕ) (same_size : length g ≡ length (behind (5 * a) c)) where
          size-now : length (returned (5 * a) c g) ≡ length c
          size-now = returned-size (5 * a) c g holding-within same_size

          -- no rule fits
          pub holding-rests :
              Stepped rules n bound' (behind (5 * a) c) count number b g false true count → (d : List ℕ)
              → take (5 * count) d ≡ take (5 * count) (drop (5 * a) (returned (5 * a) c g))
              → Ended rules n bound cells m next b d true count number firings
          holding-rests t d e =
              ended-placed rules n bound cells m next b g true count number firings
              (running-rests rules n bound cells m next s bound' (behind (5 * a) c) true count number firings here refl
              b g false true count t refl) d (e ∙ ap (take (5 * count)) (returned-part (5 * a) c g holding-within))

          -- a rule has fired, and the state has failed
          pub holding-failed :
              (skip : ℕ) → Stepped rules n bound' (behind (5 * a) c) count number b (drop (5 * skip) g) true false 0
              → (d : List ℕ) → Ended rules n bound cells m next b d false 0 (number + 26) (firings + 1)
          holding-failed skip t d =
              running-failed rules n bound cells m next s b (drop (5 * skip) g) false 0 (number + 26) (firings + 1)
              (running-next rules n bound cells m next s bound' (behind (5 * a) c) true count number firings here refl
              b (drop (5 * skip) g) true false 0 t refl (omega arith)) d refl

          -- a rule has fired, and the state lives
          module _ (known' last' table' : List ℕ) (k skip gone' : ℕ)
              (t : Stepped rules n bound' (behind (5 * a) c) count number b (drop (5 * skip) g) true true k
              × Keeps rules n known' last' table' gone' (drop (5 * skip) g) true true k × Skips count skip k
              × (gone' + k ≤ gone + count + 10)) where
            -- the state after the step
            state-now : drop (5 * (a + skip)) (returned (5 * a) c g) ≡ drop (5 * skip) g
            state-now =
                let e : 5 * (a + skip) ≡ 5 * a + 5 * skip = omega arith in
                rw e (sym (drop-drop (5 * skip) (5 * a) (returned (5 * a) c g))
                ∙ ap (drop (5 * skip)) (returned-part (5 * a) c g holding-within))

            pub holding-less : 512 - (firings + 1) < 512 - firings
            holding-less =
                running-less rules n bound cells m next s bound' (behind (5 * a) c) true count number firings here refl
                b (drop (5 * skip) g) true true k t.0 refl

            pub holding-next :
                Holding b (returned (5 * a) c g) k (number + 26) (firings + 1) known' last' gone' (a + skip) table'
            holding-next =
                let lent-size : length (behind (5 * a) c) ≡ length c - 5 * a =
                ap length (behind-all (5 * a) c) ∙ length-drop (5 * a) c in
                record {
                  running = rw state-now
                      (running-next rules n bound cells m next s bound' (behind (5 * a) c) true count number firings here refl
                      b (drop (5 * skip) g) true true k t.0 refl
                      (omega (arith, length-drop (5 * skip) g, same_size, there, t.2.within)));
                  keeps = rw state-now t.1;
                  grown = omega (arith, t.3, h.grown);
                  cells-size = size-now ∙ size ∙ h.cells-size;
                  within = omega (arith, size-now, there, t.2.within);
                }
