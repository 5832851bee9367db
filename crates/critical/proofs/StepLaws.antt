-- What the walk asks and promises, at each step.
--   leaf-…        all heads have their partner
--   step-…        the next head and its partners
-- Assumes nothing.
use Prim.Native.Nat.{ℕ, zero, suc, ◌+◌, ◌-◌, ◌*◌, ◌≤◌, ◌<◌}
use native.Mathlib.Omega.{arith}
use native.Mathlib.Numerals.{add-one}
use mathlib.Core.Bool.{Bool, true, false}
use mathlib.Core.List.{List, [], ◌∷◌, ◌++◌, map}
use mathlib.Core.Option.{none, some}
use mathlib.Core.Path.{◌≡◌, refl, sym, ap, subst, ◌∙◌}
use lib.Dec.{eqb}
use lib.ListN.{length, take, drop, get_or, set, length-append, length-drop, length-set}
use lib.Seq.{length-take-le, take-suc-set, take-append-le, take_at, get_or-set_same, get_or-set_other}
use Rattle.std.specs.Prelude.{Result, Ok, Err}
use Rattle.text.specs.Lists.{every}
use Rattle.semantics.specs.Terms.{Constraint, Program, map_terms}
use Rattle.semantics.specs.Overlaps.{apart, overlap_of, second_positions}
use Rattle.semantics.proofs.Configurations.{Or, inl, inr}
use Rattle.semantics.proofs.Options.{decide, true-false, eqb-equal, equal-eqb}
use Rattle.tables.specs.Cells.{cell_constraints, is_low}
use Rattle.tables.specs.Rows.{rule_of_row, rule_of, row_of}
use Rattle.sides.specs.Sides.{cell_goal}
use Rattle.judging.specs.Judging.{Stands, Overlapping, Joins}
use Rattle.overlaps.specs.Joins.{join_next, paired, goal_from}
use Rattle.overlaps.specs.Cells.{joined_of, Partner}
use Rattle.overlaps.specs.Overlapped.{Node, Whole, Finished, Partners}
use Rattle.overlaps.specs.Rests.{rest, GoesOn, StopsAt}
use Rattle.critical.specs.declared.walking.Met.{Met}
use Rattle.critical.specs.Walks.{Holds, rule_at, first_heads, second_heads, Walkable, leaves, Walked, met_in}
use Rattle.critical.specs.Walks.{Room}
use Rattle.overlaps.proofs.PairedLaws.{paired-overlap}
use Rattle.critical.proofs.JudgeLaws.{judged-none, judged-joins, judged-parts}
use Rattle.overlaps.proofs.WithinLaws.{finished-fewer}
use Rattle.overlaps.proofs.NodeLaws.{node-whole, node-partner, node-next, node-cut}
use Rattle.critical.proofs.StandLaws.{first_count, second-count, pair-few, first-heads, second-heads, overlap-judged}
use Rattle.critical.proofs.StandLaws.{overlap-stands}
use Rattle.critical.proofs.WalkLaws.{overlap_by, leaf-none, leaf-overlap}
use Rattle.critical.proofs.WalkLaws.{Walking, walking_start, walking-end, walking-cut, walking-next, walking-stop}

-- room stays room
pub room-kept :
    {one two one' two' : List ℕ} → Room one two → length one' ≡ length one → length two' ≡ length two → Room one' two'
room-kept r e f = record { first = omega (arith, r.first); second = omega (arith, r.second) }

module _ (rules : List ℕ) (n i j a b : ℕ) (partners cells : List ℕ) (count : ℕ)
    (w : Walkable rules n i j a b 0 partners cells count) where
  abbrev front : List ℕ
  front = take (5 * (a + b)) cells

  abbrev ds : List ℕ
  ds = take a partners

  all : Node (first_heads rules i) (second_heads rules j) ds front
  all = let z : a - 0 ≡ a = omega arith in rw z at w.node

  -- one more may be counted
  pub leaf-count : count + 1 ≤ 1000000000
  unfolding leaves
  leaf-count = w.room

  -- there is room for the heads
  pub leaf_room : 5 * (a + b) ≤ 40
  leaf_room = let few = pair-few rules n i j a b w.pair in omega (arith, few.0, few.1)

  pub leaf-lent : 5 * (a + b) ≡ length front
  leaf-lent = sym (length-take-le (5 * (a + b)) cells (omega (arith, leaf_room, w.cells-size)))

  -- the heads of the program's rules
  joint :
      (names : List ℕ)
      → paired (rule_at names rules i).rule.heads ds (map (map_terms apart) (rule_at names rules j).rule.heads)
      ≡ some (cell_constraints front)
  unfolding rule_at rule_of rule_of_row first_heads second_heads
  joint names = all.same

  -- no head has a partner
  pub leaf-nothing : (r : Bool) → r ≡ true → r ≡ every (eqb 0) ds → Walked rules n i j 0 ds count (Ok count)
  unfolding leaves
  leaf-nothing r t e =
      record {
        judged = λ p h.
            subst (λ l. GoesOn p count l count)
            (sym (leaf-none (rule_at h.names rules i) (rule_at h.names rules j) ds (cell_constraints front) (joint h.names)
            (sym e ∙ t))) (judged-none p count);
        few = omega arith;
      }

  -- what making the goal asks
  pub leaf-whole : Whole front a b partners
  leaf-whole =
      subst (λ k. Whole front k b partners) (first_count rules n i j a b w.pair)
      (subst (λ k. Whole front (length (first_heads rules i)) k partners) (second-count rules n i j a b w.pair)
      (node-whole (first_heads rules i) (second_heads rules j) ds front all partners w.partners-size))

  module _ (r : Bool) (t : r ≡ false) (e : r ≡ every (eqb 0) ds) (made : List ℕ) (k variables : ℕ)
      (size : length made ≡ length front) (f : Finished front a b partners made k variables) where
    some-joined : every (eqb 0) ds ≡ false
    some-joined = sym e ∙ t

    -- its goal
    goal-is :
        (names rest' : List ℕ)
        → goal_from (length (rule_at names rules i).rule.heads) ds (cell_constraints front)
        ≡ record { variables = variables; constraints = cell_constraints (take (5 * k) (made ++ rest')) }
    goal-is names rest' =
        ap (λ m. goal_from m ds (cell_constraints front)) (first-heads rules n i j a b w.pair names) ∙ f.goal
        ∙ ap (λ l. record { variables = variables; constraints = cell_constraints l })
        (sym (take-append-le (5 * k) made rest' (omega (arith, f.few, leaf-lent))))

    -- the overlap
    overlap-is :
        (names rest' : List ℕ)
        → overlap_of (rule_at names rules i) (rule_at names rules j) ds
        ≡ some (record {
          first = rule_at names rules i;
          second = rule_at names rules j;
          partners = ds;
          goal = record { variables = variables; constraints = cell_constraints (take (5 * k) (made ++ rest')) };
        })
    overlap-is names rest' =
        let one = rule_at names rules i in
        let two = rule_at names rules j in
        paired-overlap one two ds (cell_constraints front) (joint names)
        ∙ ap (λ x. some (record { first = one; second = two; partners = ds; goal = x })) (goal-is names rest')

    -- how much is lent of it
    pub leaf-used : 5 * k ≤ 40
    leaf-used = omega (arith, f.few, leaf_room)

    pub leaf-share : (rest' : List ℕ) → 5 * k ≤ length (made ++ rest')
    leaf-share rest' = omega (arith, length-append made rest', f.few, leaf-lent)

    pub leaf-goal : (rest' : List ℕ) → 5 * k ≡ length (take (5 * k) (made ++ rest'))
    leaf-goal rest' = sym (length-take-le (5 * k) (made ++ rest') (leaf-share rest'))

    -- at least one head of the second rule is joined
    fewer : k < a + b
    fewer =
        let few = pair-few rules n i j a b w.pair in
        finished-fewer front a b partners made k variables leaf-whole
        (record { each = λ h l. w.below.each h (omega (arith, few.0)) }) f some-joined

    module _ (positions : List ℕ) (four : length positions ≡ 4) (places : take b positions ≡ second_positions 1 a b ds)
        (rest' : List ℕ) where
      -- what judging it asks
      pub leaf-judged : Overlapping rules n i j positions k variables (take (5 * k) (made ++ rest'))
      leaf-judged =
          let same = take-append-le (5 * k) made rest' (omega (arith, f.few, leaf-lent)) in
          overlap-judged rules n i j a b w.pair ds (take (5 * k) (made ++ rest')) variables positions k four
          (overlap-is w.pair.check.names rest') (ap (λ l. every is_low (cell_constraints l)) same ∙ f.low)
          (length-take-le (5 * k) (made ++ rest') (leaf-share rest')) fewer f.variables-few

      -- the overlap that is judged
      stands :
          (p : Program) (h : Holds p rules n)
          → Stands p h.names rules n i j positions variables (take (5 * k) (made ++ rest'))
          (overlap_by (rule_at h.names rules i) (rule_at h.names rules j) ds (cell_constraints front))
      unfolding cell_goal
      stands p h =
          overlap-stands rules n i j a b w.pair ds (take (5 * k) (made ++ rest')) variables positions places p h
          (overlap_by (rule_at h.names rules i) (rule_at h.names rules j) ds (cell_constraints front)) refl refl refl
          (goal-is h.names rest')

      module _ (g : Bool) (o : Joins rules n i j positions variables (take (5 * k) (made ++ rest')) g) where
        -- it joins
        pub leaf-joins : g ≡ true → Walked rules n i j 0 ds count (Ok (count + 1))
        unfolding leaves
        leaf-joins u =
            record {
              judged = λ p h.
                  let one = rule_at h.names rules i in
                  let two = rule_at h.names rules j in
                  let cs = cell_constraints front in
                  let x = overlap_by one two ds cs in
                  rw (add-one count)
                  (subst (λ l. GoesOn p count l (suc count)) (sym (leaf-overlap one two ds cs (joint h.names) some-joined))
                  (judged-joins p count x (sym (o.same p h.names x (stands p h)) ∙ u)));
              few = omega arith;
            }

        -- it does not
        pub leaf-parts :
            g ≡ false
            → Walked rules n i j 0 ds count (Err (record { count = count; first = i; second = j; partners = partners }))
        unfolding leaves
        leaf-parts u = (
          record {
            judged = λ p h.
                let one = rule_at h.names rules i in
                let two = rule_at h.names rules j in
                let cs = cell_constraints front in
                let x = overlap_by one two ds cs in
                let shown = overlap_of one two (take (get_or (row_of rules i) 3 0) partners) in
                let is : shown ≡ some x =
                ap (λ k. overlap_of one two (take k partners)) (sym w.pair.first_count)
                ∙ paired-overlap one two ds cs (joint h.names) in
                subst (λ l. StopsAt p count l shown) (sym (leaf-overlap one two ds cs (joint h.names) some-joined))
                (judged-parts p count x shown (sym (o.same p h.names x (stands p h)) ∙ u) is);
            few = omega arith;
            first = w.pair.first;
            second = w.pair.second;
            partners-size = w.partners-size;
            below = subst (Partners partners 4) w.pair.second-count w.below;
          },
          refl,
          refl,
        )

-- no head is left
pub leaf-start :
    (rules : List ℕ) (n i j a b left : ℕ) (partners cells : List ℕ) (count : ℕ)
    → Walkable rules n i j a b left partners cells count → left ≡ 0 → Walkable rules n i j a b 0 partners cells count
leaf-start rules n i j a b left partners cells count w e =
    subst (λ k. Walkable rules n i j a b k partners cells count) e w

pub leaf_walked :
    (rules : List ℕ) (n i j a left : ℕ) (partners : List ℕ) (count : ℕ) (r : Result ℕ Met) → left ≡ 0
    → Walked rules n i j 0 (take a partners) count r → Walked rules n i j left (take (a - left) partners) count r
leaf_walked rules n i j a left partners count r e g =
    let z : a - 0 ≡ a = omega arith in
    subst (λ k. Walked rules n i j k (take (a - k) partners) count r) (sym e)
    (subst (λ m. Walked rules n i j 0 (take m partners) count r) (sym z) g)

-- d numbers of size l
unfoldable pub times : ℕ → ℕ → ℕ
times zero l = 0
times (suc d) l = l + times d l

times_more : (d e l : ℕ) → d ≤ e → times d l ≤ times e l
unfolding times
times_more zero e l h = omega arith
times_more (suc d) zero l h = absurd (omega arith)
times_more (suc d) (suc e) l h = let more = times_more d e l (omega arith) in omega (arith, more)

-- one more head has as many pairings for each of its partners
times-leaves : (d k : ℕ) → d ≤ 5 → times d (leaves k) ≤ leaves (suc k)
unfolding times leaves
times-leaves d k h = let most = times_more d 5 (leaves k) h in omega (arith, most)

-- the partners below d of the next head are done with, and the count is s
pub record Steps (rules : List ℕ) (n i j a b left : ℕ) (partners : List ℕ) (count s d : ℕ) : Type 0 where
  pub walking :
      (p : Program) (q : Holds p rules n)
      → Walking (rule_at q.names rules i) (rule_at q.names rules j) p count (take (a - left) partners) (left - 1) s d
  pub few : s ≤ count + times d (leaves (left - 1))
  pub within : d ≤ suc b

module _ (rules : List ℕ) (n i j a b left : ℕ) (partners cells : List ℕ) (count : ℕ)
    (w : Walkable rules n i j a b left partners cells count) (z : left ≡ 0 → ⊥) where
  abbrev hs : List Constraint
  hs = first_heads rules i

  abbrev gs : List Constraint
  gs = second_heads rules j

  -- the head whose partner is next, and the partners before it
  abbrev at : ℕ
  at = a - left

  abbrev chosen : List ℕ
  chosen = take (a - left) partners

  abbrev part : List ℕ
  part = take (5 * (a + b)) cells

  few : (a ≤ 4) × (b ≤ 4)
  few = pair-few rules n i j a b w.pair

  here : a - left < a
  here = omega (arith, w.there)

  chosen-count : length chosen ≡ a - left
  chosen-count = length-take-le (a - left) partners (omega (arith, w.partners-size, few.0))

  back : suc (left - 1) ≡ left
  back = omega arith

  first-is : length hs ≡ a
  first-is = first_count rules n i j a b w.pair

  second_is : length gs ≡ b
  second_is = second-count rules n i j a b w.pair

  -- there is room for the heads
  pub step_room : 5 * (a + b) ≤ 40
  step_room = omega (arith, few.0, few.1)

  pub step-lent : 5 * (a + b) ≡ length part
  step-lent = sym (length-take-le (5 * (a + b)) cells (omega (arith, step_room, w.cells-size)))

  -- what joining the head asks
  pub step-partner : (d : ℕ) → d ≤ b → Partner part a partners (a - left) d
  step-partner d k =
      subst (λ m. Partner part m partners (a - left) d) first-is
      (node-partner hs gs chosen part w.node partners (a - left) d w.partners-size (omega (arith, first-is, here))
      (omega (arith, second_is)))

  pub step_start : Steps rules n i j a b left partners count count 0
  unfolding times
  step_start =
      record {
        walking = λ p q. walking_start (rule_at q.names rules i) (rule_at q.names rules j) p count chosen (left - 1);
        few = omega arith;
        within = omega arith;
      }

  module _ (s d : ℕ) (v : Steps rules n i j a b left partners count s d) where
    -- no partner is left
    pub step_end : b < d → Walked rules n i j left chosen count (Ok s)
    step_end l =
        record {
          judged = λ p q.
              let one = rule_at q.names rules i in
              let two = rule_at q.names rules j in
              subst (λ k. GoesOn p count (rest one two chosen k) s) back
              (walking-end one two p count chosen (left - 1) s d (v.walking p q)
              (omega (arith, second-heads rules n i j a b w.pair q.names)));
          few =
              let most = times-leaves d (left - 1) (omega (arith, v.within, few.1)) in
              let all : leaves (suc (left - 1)) ≡ leaves left = ap leaves back in
              omega (arith, v.few, most, all);
        }

    module _ (l : d ≤ b) (r : Bool) (cells' : List ℕ)
        (e : joined_of r cells' ≡ join_next a chosen d (cell_constraints part)) (size : length cells' ≡ length part) where
      e' : joined_of r cells' ≡ join_next (length hs) chosen d (cell_constraints part)
      e' = subst (λ m. joined_of r cells' ≡ join_next m chosen d (cell_constraints part)) (sym first-is) e

      -- the program's rules have these heads
      program-cut :
          (names : List ℕ) → paired hs (chosen ++ (d ∷ [])) gs ≡ none
          → paired (rule_at names rules i).rule.heads (chosen ++ (d ∷ []))
          (map (map_terms apart) (rule_at names rules j).rule.heads) ≡ none
      unfolding rule_at rule_of rule_of_row first_heads second_heads
      program-cut names h = h

      partner-there : (names : List ℕ) → d ≤ length (rule_at names rules j).rule.heads
      partner-there names = omega (arith, second-heads rules n i j a b w.pair names)

      before_last : length chosen < length hs
      before_last = omega (arith, chosen-count, first-is, here)

      -- what has been counted is less than there may be
      counted : times (suc d) (leaves (left - 1)) ≤ leaves left
      counted =
          let most = times-leaves (suc d) (left - 1) (omega (arith, few.1)) in
          let all : leaves (suc (left - 1)) ≡ leaves left = ap leaves back in
          omega (arith, most, all)

      one_more : times (suc d) (leaves (left - 1)) ≡ leaves (left - 1) + times d (leaves (left - 1))
      unfolding times
      one_more = refl

      -- the partners with this one
      more : take (a - (left - 1)) (set partners (a - left) d) ≡ chosen ++ (d ∷ [])
      more =
          let k : a - (left - 1) ≡ suc (a - left) = omega (arith, w.there) in
          rw k (take-suc-set partners (a - left) d (omega (arith, w.partners-size, few.0, here)))

      -- the head cannot have this partner
      pub step_cut : r ≡ false → Steps rules n i j a b left partners count s (d + 1)
      step_cut t =
          rw (add-one d) (record {
            walking = λ p q.
                walking-cut (rule_at q.names rules i) (rule_at q.names rules j) p count chosen (left - 1) s d
                (v.walking p q) (partner-there q.names)
                (program-cut q.names
                (node-cut hs gs chosen part w.node d before_last (omega (arith, second_is)) r cells' e' t));
            few = omega (arith, v.few, one_more);
            within = omega arith;
          })

      module _ (t : r ≡ true) where
        -- what the walk over the heads behind it asks
        pub step-next :
            Walkable rules n i j a b (left - 1) (set partners (a - left) d) (cells' ++ drop (5 * (a + b)) cells) s
        step-next =
            record {
              pair = w.pair;
              there = omega (arith, w.there);
              node =
                  subst (λ l. Node hs gs l (take (5 * (a + b)) (cells' ++ drop (5 * (a + b)) cells))) (sym more)
                  (subst (Node hs gs (chosen ++ (d ∷ [])))
                  (sym (take_at cells' (drop (5 * (a + b)) cells) (5 * (a + b)) (size ∙ sym step-lent)))
                  (node-next hs gs chosen part w.node d before_last (omega (arith, second_is)) r cells' e' t size));
              partners-size = length-set partners (a - left) d ∙ w.partners-size;
              below = record { each = below };
              cells-size =
                  length-append cells' (drop (5 * (a + b)) cells)
                  ∙ omega (arith, length-drop (5 * (a + b)) cells, size, step-lent, w.cells-size, step_room);
              room = omega (arith, v.few, w.room, counted, one_more);
            }
          where
            below : (x : ℕ) → x < 4 → get_or (set partners (a - left) d) x 0 ≤ b
            below x k = go (decide (eqb x (a - left)))
              where
                go : Or (eqb x (a - left) ≡ true) (eqb x (a - left) ≡ false) → get_or (set partners (a - left) d) x 0 ≤ b
                go (inl g) =
                    let same : x ≡ a - left = eqb-equal g in
                    let is : get_or (set partners (a - left) d) (a - left) 0 ≡ d =
                    get_or-set_same partners (a - left) d 0 (omega (arith, w.partners-size, few.0, here)) in
                    rw same (omega (arith, is))
                go (inr g) =
                    let is : get_or (set partners (a - left) d) x 0 ≡ get_or partners x 0 =
                    get_or-set_other partners (a - left) x d 0 (λ same. true-false (equal-eqb same) g) in
                    omega (arith, is, w.below.each x k)

        -- an overlap that does not join was met
        pub step-stop :
            (met : Met) → Walked rules n i j (left - 1) (take (a - (left - 1)) (set partners (a - left) d)) s (Err met)
            → Walked rules n i j left chosen count (Err met)
        step-stop met (g, e, f) = (
          record {
            judged = λ p q.
                let one = rule_at q.names rules i in
                let two = rule_at q.names rules j in
                let shown = met_in rules q.names met in
                subst (λ k. StopsAt p count (rest one two chosen k) shown) back
                (walking-stop one two p count chosen (left - 1) s d (v.walking p q) (partner-there q.names) shown
                (subst (λ l. StopsAt p s (rest one two l (left - 1)) shown) more (g.judged p q)));
            few = omega (arith, g.few, v.few, counted, one_more);
            first = g.first;
            second = g.second;
            partners-size = g.partners-size;
            below = g.below;
          },
          e,
          f,
        )

        -- all joined
        pub step-on :
            (after : ℕ) → Walked rules n i j (left - 1) (take (a - (left - 1)) (set partners (a - left) d)) s (Ok after)
            → Steps rules n i j a b left partners count after (d + 1)
        step-on after g =
            rw (add-one d) (record {
              walking = λ p q.
                  let one = rule_at q.names rules i in
                  let two = rule_at q.names rules j in
                  walking-next one two p count chosen (left - 1) s d (v.walking p q) (partner-there q.names) after
                  (subst (λ l. GoesOn p s (rest one two l (left - 1)) after) more (g.judged p q));
              few = omega (arith, g.few, v.few, one_more);
              within = omega arith;
            })
