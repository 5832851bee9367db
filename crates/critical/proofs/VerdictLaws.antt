-- The verdict on a program, from its table: one law for each step of the code.
--   unjoined-member, walked-stopped, walked-confluent     what the walk over all rules says of the verdict
--   remake-…                  the goal of the overlap that was met, made again
--   run-…                     both sides run to their ends
--   show-…                    the overlap that is shown
--   verdict-kept              what deciding asks, after the walk
-- Assumes nothing.
use Prim.Native.Nat.{ℕ, suc, ◌+◌, ◌-◌, ◌*◌}
use native.Mathlib.Omega.{arith}
use mathlib.Core.Bool.{Bool, true, false, cond, not}
use mathlib.Core.List.{List, [], ◌∷◌, ◌++◌}
use mathlib.Core.Option.{some}
use mathlib.Core.Path.{◌≡◌, refl, sym, ap, subst, subst₂, ◌∙◌}
use lib.Dec.{eqb}
use lib.ListN.{length, take, drop, get_or, length-append, length-drop}
use lib.Seq.{length-take-le, take-append-le, take_at, drop_at}
use Rattle.std.specs.Prelude.{Option, Some, None, IsSome, is_some, unwrap_or, Ok, Err}
use Rattle.text.specs.Lists.{every}
use Rattle.text.proofs.Bools.{and-true}
use Rattle.semantics.specs.Terms.{Program}
use Rattle.semantics.specs.Strategy.{Final as End}
use Rattle.semantics.specs.Overlaps.{is_one_to_one, is_pairing, Overlap, second_positions, overlaps, first_end, second_end}
use Rattle.semantics.specs.Verdict.{Verdict, confluent, unjoined, is_joinable, judge, verdict}
use Rattle.semantics.proofs.Configurations.{Member, first, later}
use Rattle.semantics.proofs.Options.{true-false, none-some}
use Rattle.semantics.proofs.Indices.{some-equal}
use Rattle.semantics.proofs.Enumeration.{overlap-parts, pairings-member, overlaps-member}
use Rattle.tables.specs.Cells.{cell_constraints}
use Rattle.tables.specs.Rows.{rule_of_row, rule_of, row_of}
use Rattle.engine.specs.declared.derivation.Final.{Final}
use Rattle.sides.specs.Sides.{cell_goal, Sidable, Sided}
use Rattle.judging.proofs.EndLaws.{first-asks, second-asks, first-sided, second-sided}
use Rattle.judging.specs.declared.Peak.{Peak}
use Rattle.judging.specs.declared.Ends.{Ends}
use Rattle.judging.specs.Judging.{EndOf}
use Rattle.judging.proofs.JoinLaws.{live-room}
use Rattle.critical.specs.declared.walking.Met.{Met}
use Rattle.overlaps.specs.Overlapped.{Partners, OverlapMade, NoOverlap, OverlapOf}
use Rattle.overlaps.specs.declared.finishing.Goal.{Goal}
use Rattle.critical.specs.Walks.{Holds, rule_at, Checkable, PairAt, AllWalked, met_in}
use Rattle.critical.specs.Verdicts.{Deciding, Stopped, Remade, Runs, BothRun, EndIn, UnjoinedIn}
use Rattle.critical.proofs.JudgeLaws.{judged-confluent, judged-unjoined}
use Rattle.overlaps.proofs.ShareLaws.{pairing-joins}
use Rattle.critical.proofs.StandLaws.{pair-few, overlap-judged, overlap-stands}
use Rattle.critical.proofs.StepLaws.{room-kept}
use Rattle.critical.proofs.TableLaws.{heads-first, heads-second, pair-lent}

-- whether a verdict shows an overlap
unfoldable is_unjoined : Verdict → Bool
is_unjoined (confluent n) = false
is_unjoined (unjoined o a b) = true

-- the overlap that a verdict shows is one of those that were judged
unjoined-member :
    (p : Program) (n : ℕ) (os : List Overlap) {o : Overlap} {a b : End} → judge p n os ≡ unjoined o a b → Member o os
unfolding judge is_unjoined
unjoined-member p n [] e = true-false (ap is_unjoined e) refl
unjoined-member p n (x ∷ os) {o} {a} {b} e = go (is_joinable p x) e (unjoined-member p (suc n) os)
  where
    same : {y : Overlap} {c d : End} → unjoined y c d ≡ unjoined o a b → y ≡ o
    same e = cc

    go :
        (j : Bool) → cond j (judge p (suc n) os) (unjoined x (first_end p x) (second_end p x)) ≡ unjoined o a b
        → (judge p (suc n) os ≡ unjoined o a b → Member o os) → Member o (x ∷ os)
    go true h more = later (more h)
    go false h more = subst (λ y. Member y (x ∷ os)) (same h) first

-- the walk over all rules has met no overlap that does not join
pub walked-confluent :
    (rules : List ℕ) (n k : ℕ) → AllWalked rules n (Ok k) → (p : Program) → Holds p rules n → verdict p ≡ confluent k
walked-confluent rules n k w p h = judged-confluent p k (w.judged p h)

-- it has met one
pub walked-stopped :
    (rules : List ℕ) (n : ℕ) (met : Met) (goal : List ℕ) → Checkable rules n → AllWalked rules n (Err met)
    → length goal ≡ 40 → Stopped rules n goal met
walked-stopped rules n met goal check (w, e) size =
    record {
      check = check;
      first = w.first;
      second = w.second;
      partners-size = w.partners-size;
      below = w.below;
      decided = λ p h. judged-unjoined p _ (w.judged p h);
      goal-size = size;
    }

module _ (rules : List ℕ) (n : ℕ) (met : Met) (start : List ℕ) (s : Stopped rules n start met) where
  -- as many heads as the rules have
  abbrev a : ℕ
  a = get_or (row_of rules met.first) 3 0

  abbrev b : ℕ
  b = get_or (row_of rules met.second) 3 0

  abbrev ds : List ℕ
  ds = take a met.partners

  abbrev pair : PairAt rules n met.first met.second a b
  pair = record { check = s.check; first = s.first; second = s.second; first_count = refl; second-count = refl }

  -- a program that the table holds
  abbrev held : Holds s.check.program rules n
  held = record { names = s.check.names; same = s.check.whole; well-formed = s.check.well-formed }

  -- its partners are a pairing
  pairs : is_pairing ds ≡ true
  unfolding verdict
  pairs =
      let p = s.check.program in
      let one = rule_at s.check.names rules met.first in
      let two = rule_at s.check.names rules met.second in
      let (o, e, d) = s.decided p held in
      let listed = overlaps-member p (unjoined-member p 0 (overlaps p) d) in
      ap (λ l. is_pairing l) (sym (ap (λ x. x.partners) (overlap-parts one two ds e).made))
      ∙ (pairings-member _ _ o.partners listed.paired).pairs

  one-to-one : is_one_to_one ds ≡ true
  unfolding is_pairing
  one-to-one = (and-true (is_one_to_one ds) (not (every (eqb 0) ds)) pairs).0

  some-joined : every (eqb 0) ds ≡ false
  some-joined = pairing-joins ds pairs

  -- what making the overlap again asks
  pub remake-partners : (row other : List ℕ) → row ≡ row_of rules met.first → other ≡ row_of rules met.second
      → Partners met.partners (get_or row 3 0) (get_or other 3 0)
  remake-partners row other e f =
      rw (e, f) (record {
        each = λ h l. s.below.each h (omega (arith, l, (pair-few rules n met.first met.second a b pair).0));
      })

  -- its heads unify
  pub remake-some :
      (row other : List ℕ) → row ≡ row_of rules met.first → other ≡ row_of rules met.second → (made : List ℕ) (r : Option Goal)
      → OverlapOf row other met.partners made r → IsSome r
  unfolding rule_at rule_of rule_of_row
  remake-some row other ef es made (Some g) h = refl
  remake-some row other ef es made None h =
      let (o, e, d) = s.decided s.check.program held in
      let names = s.check.names in
      let none-made : NoOverlap (row_of rules met.first) (row_of rules met.second) met.partners =
      subst₂ (λ x y. NoOverlap x y met.partners) ef es h in
      none-some (none-made.same (rule_at names rules met.first) (rule_at names rules met.second) refl refl one-to-one) e

  module _ (made : List ℕ) (count variables : ℕ)
      (g : OverlapMade (row_of rules met.first) (row_of rules met.second) met.partners made count variables) (rest' : List ℕ)
      (size : length made ≡ 5 * (a + b)) where
    -- the goal's cells, in front of all
    abbrev goal : List ℕ
    goal = take (5 * count) (made ++ rest')

    -- the overlap in a program that the table holds
    abbrev overlap : List ℕ → Overlap
    overlap names =
        record {
          first = rule_at names rules met.first;
          second = rule_at names rules met.second;
          partners = ds;
          goal = record { variables = variables; constraints = cell_constraints goal };
        }

    front : goal ≡ take (5 * count) made
    front = take-append-le (5 * count) made rest' (omega (arith, size, g.within))

    -- it is what was made
    is_made : (names : List ℕ) → met_in rules names met ≡ some (overlap names)
    unfolding rule_at rule_of rule_of_row
    is_made names =
        g.same (rule_at names rules met.first) (rule_at names rules met.second) refl refl one-to-one
        ∙ ap (λ l. some (record {
          first = rule_at names rules met.first;
          second = rule_at names rules met.second;
          partners = ds;
          goal = record { variables = variables; constraints = cell_constraints l };
        })) (sym front)

    -- the goal made again, and the overlap that its cells stand for
    pub remake-made :
        (m c : ℕ) (positions : List ℕ) → m ≡ a → c ≡ b → take c positions ≡ second_positions 1 m c (take m met.partners)
        → length positions ≡ 4
        → Remade rules n met (made ++ rest') (record {
          rules = n;
          first = met.first;
          second = met.second;
          positions = positions;
          count = count;
          variables = variables;
        })
    unfolding cell_goal
    remake-made m c positions em ec places four =
        let stated : take b positions ≡ second_positions 1 a b ds =
        subst₂ (λ x y. take y positions ≡ second_positions 1 x y (take x met.partners)) em ec places in
        record {
          first = s.first;
          second = s.second;
          few = g.few;
          overlapping =
              overlap-judged rules n met.first met.second a b pair ds goal variables positions count four
              (is_made s.check.names) (rw front g.low)
              (length-take-le (5 * count) (made ++ rest') (omega (arith, length-append made rest', size, g.within)))
              (g.fewer some-joined) g.variables-few;
          shows = λ p h.
              let (o, e, d) = s.decided p h in
              let same : o ≡ overlap h.names = sym (some-equal (sym (is_made h.names) ∙ e)) in (
                o,
                record {
                  decided = d;
                  first = ap (λ x. x.first) same;
                  second = ap (λ x. x.second) same;
                  partners-same = ap (λ x. x.partners) same;
                  stands =
                      overlap-stands rules n met.first met.second a b pair ds goal variables positions stated p h o
                      (ap (λ x. x.first) same) (ap (λ x. x.second) same) (ap (λ x. x.partners) same)
                      (ap (λ x. x.goal) same);
                },
              );
        }

  -- the same, as the code has the rows and counts
  pub remake-counted :
      (row other : List ℕ) → row ≡ row_of rules met.first → other ≡ row_of rules met.second
      → (m c : ℕ) → m ≡ get_or row 3 0 → c ≡ get_or other 3 0 → (made : List ℕ) (r : Option Goal) (g : Goal)
      → OverlapOf row other met.partners made r → r ≡ Some g
      → (rest' : List ℕ) → length made ≡ length (take (5 * (m + c)) start) → (positions : List ℕ)
      → take c positions ≡ second_positions 1 m c (take m met.partners) → length positions ≡ 4
      → Remade rules n met (made ++ rest') (record {
        rules = n;
        first = met.first;
        second = met.second;
        positions = positions;
        count = g.count;
        variables = g.variables;
      })
  remake-counted row other ef es m c em ec made r g h is rest' size positions places four =
      let i = met.first in
      let j = met.second in
      let one : m ≡ a = heads-first rules n i j s.check s.first s.second row other ef es m c em ec in
      let two : c ≡ b = heads-second rules n i j s.check s.first s.second row other ef es m c em ec in
      remake-made made g.count g.variables
      (subst₂ (λ x y. OverlapMade x y met.partners made g.count g.variables) ef es
      (subst (OverlapOf row other met.partners made) is h)) rest'
      (size ∙ sym (pair-lent rules n i j s.check s.first s.second row other ef es m c em ec start s.goal-size)
      ∙ λ t. 5 * (one t + two t)) m c positions one two places four

module _ (rules : List ℕ) (peak : Peak) (goal bounds one two : List ℕ) (r : Runs rules peak goal bounds one two) where
  abbrev v : ℕ
  v = peak.variables

  -- cells are lent for what the goal's variables become: on the first side
  pub run-bound : v ≡ length (take v bounds)
  run-bound = sym (length-take-le v bounds (omega (arith, r.overlapping.variables, r.bounds-size)))

  -- what the first side asks
  pub run-first :
      Sidable rules peak.rules peak.first (0 ∷ 1 ∷ 2 ∷ 3 ∷ []) goal peak.count (length (take v bounds)) one
  run-first = first-asks _ _ _ _ _ _ _ _ r.overlapping (length (take v bounds)) one (sym run-bound) r.room.first

  module _ (f : List ℕ) (ef : length f ≡ length (take v bounds)) where
    -- the bounds after the first side, and the part of them that is lent to the second
    abbrev between : List ℕ
    between = f ++ drop v bounds

    abbrev part : List ℕ
    part = take (v + v - v) (drop v between)

    between-front : take v between ≡ f
    between-front = take_at f (drop v bounds) v (ef ∙ sym run-bound)

    part-size : length part ≡ v
    part-size =
        let k : v + v - v ≡ v = omega arith in
        length-take-le (v + v - v) (drop v between)
        (omega (
          arith,
          length-drop v between,
          length-append f (drop v bounds),
          length-drop v bounds,
          ef,
          run-bound,
          r.overlapping.variables,
          r.bounds-size,
        )) ∙ k

    -- what the second side asks
    pub run-second : Sidable rules peak.rules peak.second peak.positions goal peak.count (length part) two
    run-second = second-asks _ _ _ _ _ _ _ _ r.overlapping (length part) two part-size r.room.second

    -- both ends
    pub run_ends :
        (one' : List ℕ) (e : Final) → length one' ≡ length one
        → Sided rules peak.rules peak.first (0 ∷ 1 ∷ 2 ∷ 3 ∷ []) goal (length (take v bounds)) f one' (is_some e.count) (unwrap_or e.count 0)
        e.next e.firings
        → (g two' : List ℕ) (d : Final) → length g ≡ length part → length two' ≡ length two
        → Sided rules peak.rules peak.second peak.positions goal (length part) g two' (is_some d.count) (unwrap_or d.count 0) d.next
        d.firings
        → (rest' : List ℕ) → BothRun rules peak goal (take v between ++ (g ++ rest')) one' two' (record { first = e; second = d })
    run_ends one' e eo s g two' d eg et t rest' =
        let size : length (take v between) ≡ v = ap length between-front ∙ ef ∙ sym run-bound in
        let front : take v (take v between ++ (g ++ rest')) ≡ f =
        take_at (take v between) (g ++ rest') v size ∙ between-front in
        let behind : take v (drop v (take v between ++ (g ++ rest'))) ≡ g =
        ap (take v) (drop_at (take v between) (g ++ rest') v size) ∙ take_at g rest' v (eg ∙ part-size) in
        let s' : Sided rules peak.rules peak.first (0 ∷ 1 ∷ 2 ∷ 3 ∷ []) goal v f one' (is_some e.count) (unwrap_or e.count 0) e.next
        e.firings = rw (← run-bound) at s in
        let t' : Sided rules peak.rules peak.second peak.positions goal v g two' (is_some d.count) (unwrap_or d.count 0) d.next
        d.firings = rw part-size at t in
        record {
          first =
              rw front
              (first-sided _ _ _ _ _ _ _ _ r.overlapping f one' _ _ _ _ (omega (arith, r.room.first, eo)) s');
          second =
              rw behind
              (second-sided _ _ _ _ _ _ _ _ r.overlapping g two' _ _ _ _ (omega (arith, r.room.second, et)) t');
        }

-- what is known of an end of an overlap
end_known :
    {end : Program → Overlap → End} {rules : List ℕ} {n i j : ℕ} {positions : List ℕ} {v : ℕ} {goal : List ℕ} (e : Final)
    (bound cells : List ℕ) → EndOf end rules n i j positions v goal (is_some e.count) (unwrap_or e.count 0) e.next e.firings bound cells
    → EndIn e bound cells
end_known e bound cells t =
    record {
      within = λ y. live-room (unwrap_or e.count 0) bound cells (t.live y);
      live = t.live;
      next-few = t.next-few;
      numbered = t.numbered;
      counted = t.counted;
    }

-- the overlap that was met is shown
pub show-shown :
    (rules : List ℕ) (n : ℕ) (met : Met) (goal bounds one two : List ℕ) (peak : Peak) (ends : Ends)
    → Remade rules n met goal peak → BothRun rules peak (take (5 * peak.count) goal) bounds one two ends → Checkable rules n
    → length met.partners ≡ 4 → (row : List ℕ) → row ≡ row_of rules peak.first → (heads : ℕ) → heads ≡ get_or row 3 0
    → UnjoinedIn rules n goal bounds one two (record {
      first = peak.first;
      second = peak.second;
      heads = heads;
      partners = met.partners;
      count = peak.count;
      variables = peak.variables;
      one = ends.first;
      two = ends.second;
    })
show-shown rules n met goal bounds one two peak ends r t check four cells is heads e =
    let v = peak.variables in
    let row : heads ≡ get_or (row_of rules peak.first) 3 0 = e ∙ ap (λ l. get_or l 3 0) is in
    record {
      first = r.first;
      second = r.second;
      heads = row;
      heads-few = omega (arith, row, (check.rows peak.first r.first).given.heads-few);
      partners-size = four;
      count-few = r.few;
      variables-few = r.overlapping.variables;
      first-end = end_known ends.first (take v bounds) one t.first;
      second-end = end_known ends.second (take v (drop v bounds)) two t.second;
      shown = λ p h.
          let (o, w) = r.shows p h in (
            o,
            record {
              decided =
                  w.decided
                  ∙ λ k. unjoined o (sym (t.first.same p h.names o w.stands) k)
                  (sym (t.second.same p h.names o w.stands) k);
              first = w.first;
              second = w.second;
              partners-same = w.partners-same ∙ ap (λ x. take x met.partners) (sym row);
              goal-same = w.stands.same-goal;
            },
          );
    }

-- what deciding asks, after the walk
pub verdict-kept :
    (rules : List ℕ) (n : ℕ) (start bounds one two one' two' : List ℕ) → Deciding rules n start bounds one two
    → length one' ≡ length one → length two' ≡ length two → Deciding rules n start bounds one' two'
verdict-kept rules n start bounds one two one' two' d e f =
    record {
      check = d.check;
      few = d.few;
      room = room-kept d.room e f;
      goal-size = d.goal-size;
      bounds-size = d.bounds-size;
    }
