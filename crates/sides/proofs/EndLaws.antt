-- What a caller has of a side: its end is that of the definition.
--   first-side, second-side       the ends of an overlap's two sides (the main laws)
--   sides-meet                    sides in the same state after their own firings have the same end
--   side-lives                    an end that lives is over the vocabulary of its goal and its rules
-- Assumes nothing.
use Prim.Native.Nat.{ℕ, zero, suc, ◌+◌, ◌*◌, ◌≤◌, ◌<◌}
use native.Mathlib.Omega.{arith}
use mathlib.Core.Bool.{Bool, true}
use mathlib.Core.List.{List, [], ◌∷◌, map}
use mathlib.Core.Option.{some}
use mathlib.Core.Path.{◌≡◌, refl, ap, sym, subst, ◌∙◌}
use lib.ListN.{length, get_or, take, drop, length-drop}
use lib.Seq.{length-take-le}
use Rattle.text.specs.Lists.{onward, up_to}
use Rattle.semantics.specs.Terms.{Rule, Program, Goal, weight}
use Rattle.semantics.specs.Terms.{is_well_formed, is_goal_of, alphabet}
use Rattle.semantics.specs.Firing.{fire_at}
use Rattle.semantics.specs.Strategy.{Final, goal_state, normalise}
use Rattle.semantics.specs.Overlaps.{Overlap, second_positions, side_end, first_end, second_end}
use Rattle.semantics.proofs.Configurations.{All}
use Rattle.semantics.proofs.Vocabulary.{ConstraintOver, RuleOver, Spoken, SpokenState, side-spoken}
use Rattle.tables.specs.Cells.{cell_term, cell_constraints, state_of}
use Rattle.tables.specs.Layout.{first_rule}
use Rattle.tables.specs.Rows.{name_of, rule_of_row, rule_of, rules_of, row_of}
use Rattle.tables.proofs.CellLaws.{constraints-length}
use Rattle.fitting.specs.Positions.{Row}
use Rattle.engine.specs.Stated.{stated_at}
use Rattle.engine.proofs.GoalLaws.{rule-stands}
use Rattle.sides.specs.Sides.{cell_goal, Begun, Sided}

-- the first positions, as the code has them for the first rule
first-stated :
    (name row : List ℕ) → Row row → stated_at row (0 ∷ 1 ∷ 2 ∷ 3 ∷ []) ≡ up_to (length (rule_of_row name row).heads)
unfolding rule_of_row
first-stated name row r =
    few (get_or row 3 0) r.heads-few
    ∙ ap up_to (sym (constraints-length (get_or row 3 0) (take (5 * get_or row 3 0) (drop 6 row))
    (length-take-le (5 * get_or row 3 0) (drop 6 row) (omega (arith, r.heads-few, r.size, length-drop 6 row)))))
  where
    few : (k : ℕ) → k ≤ 4 → take k (0 ∷ 1 ∷ 2 ∷ 3 ∷ []) ≡ up_to k
    few zero l = refl
    few (suc zero) l = refl
    few (suc (suc zero)) l = refl
    few (suc (suc (suc zero))) l = refl
    few (suc (suc (suc (suc zero)))) l = refl
    few (suc (suc (suc (suc (suc k))))) l = absurd (omega arith)

-- a side's end goes by the state after its own firing
side-by :
    (p : Program) (g : Goal) (r : Rule) (ps : List ℕ) (q : Rule) (qs : List ℕ)
    → fire_at r ps (goal_state g) ≡ fire_at q qs (goal_state g) → side_end p g r ps ≡ side_end p g q qs
unfolding side_end
side-by p g r ps q qs e =
    ap (λ x. onward x (record { state = goal_state g; firings = 0 })
    (λ s. normalise (weight p.symbols g.constraints) p.rules s 1)) e

-- sides in the same state after their own firings have the same end
pub sides-meet :
    (p : Program) (names rules : List ℕ) (i j : ℕ) (positions goal : List ℕ) (m v : ℕ) (bound cells : List ℕ) (alive : Bool)
    (count : ℕ) (bound' cells' : List ℕ) (alive' : Bool) (count' : ℕ) (o : Overlap) → o.goal ≡ cell_goal v goal
    → o.first.rule ≡ rule_of names rules i → o.second.rule ≡ rule_of names rules j → Row (row_of rules i)
    → stated_at (row_of rules j) positions
    ≡ second_positions 1 (length o.first.rule.heads) (length o.second.rule.heads) o.partners
    → Begun rules i (0 ∷ 1 ∷ 2 ∷ 3 ∷ []) goal m v bound cells true alive count
    → Begun rules j positions goal m v bound' cells' true alive' count'
    → state_of alive (v + 26) bound (take (5 * count) cells) ≡ state_of alive' (v + 26) bound' (take (5 * count') cells')
    → first_end p o ≡ second_end p o
unfolding first_end second_end rule_of
sides-meet p names rules i j positions goal m v bound cells alive count bound' cells' alive' count' o g r q row e s t same =
    (λ k. side_end p (g k) (r k) (up_to (length (r k).heads)))
    ∙ ap (side_end p (cell_goal v goal) (rule_of names rules i))
    (sym (first-stated (name_of names (first_rule + i)) (row_of rules i) row))
    ∙ side-by p (cell_goal v goal) (rule_of names rules i) (stated_at (row_of rules i) (0 ∷ 1 ∷ 2 ∷ 3 ∷ [])) (rule_of names rules j)
    (stated_at (row_of rules j) positions) (s.moves refl names ∙ ap some same ∙ sym (t.moves refl names))
    ∙ ap (side_end p (cell_goal v goal) (rule_of names rules j)) e
    ∙ λ k. side_end p (sym g k) (sym q k)
    (second_positions 1 (length o.first.rule.heads) (length o.second.rule.heads) o.partners)

module _ (p : Program) (names rules : List ℕ) (n : ℕ) (whole : p.rules ≡ rules_of names rules n) (w : is_well_formed p ≡ true)
    (i : ℕ) (positions goal : List ℕ) (v : ℕ) (bound' cells' : List ℕ) (alive : Bool) (count number firings : ℕ)
    (t : Sided rules n i positions goal v bound' cells' alive count number firings) where
  -- the end in cells
  abbrev end : Final
  end = record { state = state_of alive number bound' (take (5 * count) cells'); firings = firings }

  -- the end of the first rule's side, at the first positions
  pub first-side :
      (o : Overlap) → o.goal ≡ cell_goal v goal → o.first.rule ≡ rule_of names rules i → Row (row_of rules i)
      → positions ≡ 0 ∷ 1 ∷ 2 ∷ 3 ∷ [] → end ≡ first_end p o
  unfolding first_end rule_of
  first-side o g r row e =
      t.same p names whole w
      ∙ ap (side_end p (cell_goal v goal) (rule_of names rules i))
      (ap (stated_at (row_of rules i)) e ∙ first-stated (name_of names (first_rule + i)) (row_of rules i) row)
      ∙ λ j. side_end p (sym g j) (sym r j) (up_to (length (sym r j).heads))

  -- the end of the second rule's side
  pub second-side :
      (o : Overlap) → o.goal ≡ cell_goal v goal → o.second.rule ≡ rule_of names rules i
      → stated_at (row_of rules i) positions
      ≡ second_positions 1 (length o.first.rule.heads) (length o.second.rule.heads) o.partners
      → end ≡ second_end p o
  unfolding second_end
  second-side o g r e =
      t.same p names whole w ∙ ap (side_end p (cell_goal v goal) (rule_of names rules i)) e
      ∙ λ j. side_end p (sym g j) (sym r j)
      (second_positions 1 (length o.first.rule.heads) (length o.second.rule.heads) o.partners)

  -- an end that lives is over the vocabulary, and each firing has numbered 26 variables
  pub side-lives :
      (P : ℕ → Type 0) → is_goal_of p (cell_goal v goal) ≡ true → All (RuleOver P) p.rules
      → All (ConstraintOver P) (cell_constraints goal) → i < n → alive ≡ true
      → Spoken p.symbols P v (v + alphabet * firings) number (map cell_term bound') (cell_constraints (take (5 * count) cells'))
  unfolding state_of cell_goal
  side-lives P is-goal over goal-over l y =
      let spoken : SpokenState p.symbols P v (v + alphabet * firings) end.state =
      subst (λ (f : Final). SpokenState p.symbols P v (v + alphabet * f.firings) f.state) (sym (t.same p names whole w))
      (side-spoken p P (cell_goal v goal) i (rule_of names rules i) (stated_at (row_of rules i) positions) w is-goal over goal-over
      (rw whole (rule-stands names rules n i l))) in
      rw y at spoken
