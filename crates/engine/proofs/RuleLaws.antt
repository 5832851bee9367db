-- A rule's body and equations, from cells; and the firing that they make up.
--   removed_at              the positions whose constraints a firing removes
--   left-equated, …        what is left there, and the rest of the firing
-- Assumes nothing.
use Prim.Native.Nat.{ℕ, suc, ◌+◌, ◌-◌, ◌*◌, ◌≤◌, min}
use native.Mathlib.Omega.{arith}
use mathlib.Core.Bool.{Bool, true, false, cond, ◌&&◌}
use mathlib.Core.List.{List, [], ◌∷◌, ◌++◌, map, append_assoc}
use mathlib.Core.Logic.{⊎_elim}
use mathlib.Core.Path.{◌≡◌, refl, ap, sym, ◌∙◌}
use lib.Dec.{leb}
use lib.ListN.{length, get_or, take, drop, replicate, length-append, length-drop, length-map, drop_of_length-le}
use lib.Seq.{take-append-le, length-take-le, take_at, take-nil}
use borrow.Author.Tests.{le-leb}
use Rattle.text.specs.Lists.{has, every}
use Rattle.semantics.specs.Terms.{Term, con, var, Constraint, Equation, map_terms, map_sides, is_below, alphabet}
use Rattle.semantics.specs.Firing.{without, instance, fired}
use Rattle.semantics.proofs.Removal.{without-none}
use Rattle.tables.specs.Cells.{cell_term, cell_constraints, cell_equations, is_low, state_of}
use Rattle.tables.specs.Rows.{rule_of_row}
use Rattle.fitting.specs.Cells.{assigned}
use Rattle.engine.specs.Cells.{instance_cell}
use Rattle.fitting.specs.Positions.{is_lettered, is_side, Row}
use Rattle.engine.specs.States.{Solvable, Solved, Removed, Appended, Equated, SolvedRule, Fires, Fired}
use Rattle.text.proofs.Bools.{and-true}
use Rattle.text.proofs.ListLaws.{every-both, every-weaker}
use Rattle.tables.proofs.CellLaws.{le-or-lt, cell-low}
use Rattle.tables.proofs.MapLaws.{low-kept, acts-constraints, acts-equations, acts-used}
use Rattle.fitting.proofs.PartLaws.{behind, behind-all}
use Rattle.engine.proofs.FireLaws.{instance-acts, constraints-append}

-- a side of an equation is no unused cell
side-used : (x : ℕ) → is_side (cell_term x) ≡ true → leb 1 x ≡ true
unfolding is_side
side-used x h = ⊎_elim (λ l. le-leb 1 x (omega arith)) (λ l. rw (cell-low x l) at h) (le-or-lt 256 x)

-- it is a constant or a letter
side-below : (t : Term) → is_side t ≡ true → is_below alphabet t ≡ true
unfolding is_side is_below
side-below (con c) h = refl
side-below (var x) h = h

-- what the sides of equations are
abbrev sided : Equation → Bool
sided e = is_side e.left && is_side e.right

sides-used : (n : ℕ) (l : List ℕ) → length l ≡ 2 * n → every sided (cell_equations l) ≡ true → every (leb 1) l ≡ true
unfolding cell_equations
sides-used n [] k h = refl
sides-used n (a ∷ []) k h = absurd (omega arith)
sides-used n (a ∷ b ∷ l) k h =
    let two : (is_side (cell_term a) && is_side (cell_term b)) ≡ true =
    (and-true (is_side (cell_term a) && is_side (cell_term b)) (every sided (cell_equations l)) h).0 in
    let both : (is_side (cell_term a) ≡ true) × (is_side (cell_term b) ≡ true) =
    and-true (is_side (cell_term a)) (is_side (cell_term b)) two in
    rw (
      side-used a both.0,
      side-used b both.1,
      sides-used (n - 1) l (omega arith) (and-true (is_side (cell_term a) && is_side (cell_term b)) (every sided
          (cell_equations l)) h).1,
    )

sides-below :
    (l : List Equation) → every sided l ≡ true → every (λ (e : Equation). is_below alphabet e.left && is_below alphabet
    e.right) l ≡ true
sides-below l h = every-weaker sided (λ (e : Equation). is_below alphabet e.left && is_below alphabet e.right) l low h
  where
    low : (e : Equation) → sided e ≡ true → (is_below alphabet e.left && is_below alphabet e.right) ≡ true
    low e two =
        let (left, right) = and-true (is_side e.left) (is_side e.right) two in
        rw (side-below e.left left, side-below e.right right)

-- a body stands behind the constraints; source are its cells
pub body-appended :
    (row source bindings : List ℕ) (next : ℕ) (cells out rest : List ℕ) (k w : ℕ) → Row row → 5 * k + 30 ≤ length cells
    → length source ≡ 5 * get_or row 4 0 → cell_constraints source ≡ (rule_of_row [] row).body → w ≡ get_or row 4 0
    → out ≡ map (instance_cell next bindings) source
    → Appended row bindings next cells (take (5 * k) cells ++ (out ++ rest)) k (k + w)
unfolding is_lettered
body-appended row source bindings next cells out rest k w r room source-size source-same e o =
    let size : length out ≡ 5 * w =
    ap length o ∙ length-map source (instance_cell next bindings) ∙ source-size ∙ omega arith in
    let front : length (take (5 * k) cells) ≡ 5 * k = length-take-le (5 * k) cells (omega arith) in
    let part : take (5 * (k + w)) (take (5 * k) cells ++ (out ++ rest)) ≡ take (5 * k) cells ++ out =
    rw (← append_assoc (take (5 * k) cells) out rest)
    (take_at (take (5 * k) cells ++ out) rest (5 * (k + w)) (omega (arith, length-append (take (5 * k) cells) out))) in
    record {
      count = omega arith;
      same =
          rw (
            part,
            constraints-append k (take (5 * k) cells) out front,
            o,
            acts-constraints (is_below alphabet) (instance_cell next bindings) (instance next (assigned bindings))
                (instance-acts next bindings) source (rw source-same r.body),
            source-same,
          );
    }

-- the room for a rule's equations
abbrev eight : List ℕ
eight = replicate 8 0

-- source are the cells of the rule's equations
module _ (row source bindings : List ℕ) (next : ℕ) (cells : List ℕ) (w : ℕ) (q : Equated row bindings next cells)
    (z : w ≡ min (get_or row 5 0) 4) (source-size : length source ≡ 2 * min (get_or row 5 0) 4)
    (source-same : cell_equations source ≡ (rule_of_row [] row).equations) where
  module _ (e rest : List ℕ) (o : e ≡ map (instance_cell next bindings) source) where
    size : length e ≡ 2 * w
    size = ap length o ∙ length-map source (instance_cell next bindings) ∙ source-size ∙ ap (2 *◌) (sym z)

    part : take (2 * w) (e ++ rest) ≡ e
    part = take_at e rest (2 * w) size

    pub equations-solvable : Solvable (take (2 * w) (e ++ rest)) w cells
    equations-solvable =
        rw part (record {
          size = size;
          used = rw o (acts-used (is_below alphabet) (instance_cell next bindings) (instance next (assigned bindings))
              (instance-acts next bindings) source
              (sides-used w source (source-size ∙ ap (2 *◌) (sym z)) (rw source-same q.given.equations)));
          low = q.low;
        })

    decoded : cell_equations e ≡ map (map_sides (instance next (assigned bindings))) (rule_of_row [] row).equations
    decoded =
        rw o
        (acts-equations (is_below alphabet) (instance_cell next bindings) (instance next (assigned bindings))
        (instance-acts next bindings) source (sides-below (cell_equations source) (rw source-same q.given.equations))
        ∙ ap (map (map_sides (instance next (assigned bindings)))) source-same)

    -- the rule's equations are solved
    pub rule-solved :
        (r : Bool) (bound b c : List ℕ) → Solved r (take (2 * w) (e ++ rest)) bound cells b c
        → SolvedRule r row bindings next bound cells b c
    rule-solved r bound b c s = record { same = λ after. rw (part, decoded) at (s.same after) }

-- constraints with low symbols: those that stay
pub low-without : (p : ℕ) (ps : List ℕ) (cs : List Constraint) → every is_low cs ≡ true → every is_low (without p ps cs) ≡ true
unfolding without
low-without p ps [] h = refl
low-without p ps (c ∷ cs) h =
    let more : every is_low (without (suc p) ps cs) ≡ true = low-without (suc p) ps cs (and-true (is_low c)
    (every is_low cs) h).1 in
    go (has p ps) more
  where
    go : (b : Bool) → every is_low (without (suc p) ps cs) ≡ true
        → every is_low (cond b (without (suc p) ps cs) (c ∷ without (suc p) ps cs)) ≡ true
    go true more = more
    go false more = rw (and-true (is_low c) (every is_low cs) h).0 more

-- a body's symbols
pub low-body : (cs : List Constraint) → every (λ (c : Constraint). is_low c && is_lettered c) cs ≡ true → every is_low cs ≡ true
low-body cs h =
    every-weaker (λ (c : Constraint). is_low c && is_lettered c) is_low cs (λ c both. (and-true (is_low c) (is_lettered c) both).0) h

-- the positions whose constraints a firing removes: those behind the kept heads'
abbrev pub removed_at : List ℕ → List ℕ → List ℕ
removed_at row positions = drop (get_or row 1 0) (take (get_or row 3 0) positions)

-- no positions
removed-none : (row : List ℕ) → removed_at row [] ≡ []
removed-none row = rw (take-nil (get_or row 3 0)) (drop_of_length-le {A = ℕ} [] {i = get_or row 1 0} (omega arith))

module _ (row positions : List ℕ) where
  -- how many they are
  pub removed-size : Row row → length positions ≡ 4 → length (removed_at row positions) ≡ get_or row 3 0 - get_or row 1 0
  removed-size given size =
      length-drop (get_or row 1 0) (take (get_or row 3 0) positions)
      ∙ ap (◌- get_or row 1 0) (length-take-le (get_or row 3 0) positions (omega (arith, given.heads-few)))

  -- as the code lends them
  pub removed-lent : (h k : ℕ) → h ≡ get_or row 3 0 → k ≡ get_or row 1 0 → behind k (take h positions) ≡ removed_at row positions
  removed-lent h k heads kept = rw (behind-all k (take h positions), heads, kept)

module _ (row bindings : List ℕ) (next : ℕ) (cells : List ℕ) (k : ℕ) (q : Equated row bindings next (take (5 * k) cells))
    (space : 5 * k + 30 ≤ length cells) where
  module _ (c : List ℕ) (n : ℕ) (same_size : length c ≡ length cells) (appended : Appended row bindings next cells c k n) where
    few-after : n ≤ k + 6
    few-after = omega (arith, appended.count, q.given.body-few)

    pub complete-within : 5 * n ≤ length c
    complete-within = omega (arith, few-after)

    pub complete-lends : 5 * n ≡ length (take (5 * n) c)
    complete-lends = sym (length-take-le (5 * n) c complete-within)

    -- what solving the equations asks
    pub complete-equated : Equated row bindings next (take (5 * n) c)
    complete-equated =
        record {
          given = q.given;
          bindings-size = q.bindings-size;
          room = q.room;
          low = rw appended.same (every-both is_low (cell_constraints (take (5 * k) cells))
              (map (map_terms (instance next (assigned bindings))) (rule_of_row [] row).body) q.low
              (low-kept (instance next (assigned bindings)) (rule_of_row [] row).body ∙ low-body (rule_of_row [] row).body
              q.given.body));
        }

    -- the state after all: nothing is removed
    pub complete-done :
        (alive : Bool) (bound b s : List ℕ) → length s ≡ length (take (5 * n) c)
        → SolvedRule alive row bindings next bound (take (5 * n) c) b s
        → Fired row [] bindings next bound cells k b (s ++ drop (5 * n) c) alive n
    unfolding fired alphabet rule_of_row
    complete-done alive bound b s l solved =
        record {
          same = λ names.
              rw (
                take_at s (drop (5 * n) c) (5 * n) (l ∙ sym complete-lends),
                removed-none row,
                without-none 0 (cell_constraints (take (5 * k) cells)),
              ) (solved.same (next + 26) ∙ rw appended.same);
          few = few-after;
        }

    -- the state that has failed
    pub complete-failed :
        (bound b s : List ℕ) → length s ≡ length (take (5 * n) c)
        → SolvedRule false row bindings next bound (take (5 * n) c) b s
        → Fired row [] bindings next bound cells k b (s ++ drop (5 * n) c) false 0
    unfolding state_of
    complete-failed bound b s l solved =
        record { same = (complete-done false bound b s l solved).same; few = omega arith }

module _ (row positions bindings : List ℕ) (next : ℕ) (cells : List ℕ) (m : ℕ) where
  -- what solving the equations asks, of all constraints
  pub fires-equated : Fires row positions bindings next cells m → Equated row bindings next (take (5 * m) cells)
  fires-equated f =
      record { given = f.given; bindings-size = f.bindings-size; room = f.room; low = f.low }

  -- the constraints that are left, wherever they stand
  module _ (left : List ℕ) (k : ℕ) (few-left : k ≤ m)
      (same : cell_constraints (take (5 * k) left) ≡ without 0 (removed_at row positions) (cell_constraints (take (5 * m) cells)))
    where
      pub left-equated : Equated row bindings next (take (5 * m) cells) → Equated row bindings next (take (5 * k) left)
      left-equated q =
          record {
            given = q.given;
            bindings-size = q.bindings-size;
            room = q.room;
            low = rw same (low-without 0 (removed_at row positions) (cell_constraints (take (5 * m) cells)) q.low);
          }

      pub left-fired :
          (bound b c : List ℕ) (alive : Bool) (n : ℕ) → Fired row [] bindings next bound left k b c alive n
          → Fired row positions bindings next bound cells m b c alive n
      unfolding fired rule_of_row
      left-fired bound b c alive n done =
          record {
            same = λ names.
                rw (removed-none row, without-none 0 (cell_constraints (take (5 * k) left)), same) at (done.same names);
            few = omega (arith, done.few);
          }

module _ (row positions bindings : List ℕ) (next : ℕ) (cells : List ℕ) (m : ℕ) (f : Fires row positions bindings next cells m)
  where
    -- the constraints that there are
    pub fire-lent : 5 * m ≡ length (take (5 * m) cells)
    fire-lent = sym (length-take-le (5 * m) cells (omega (arith, f.space)))

    module _ (h k : ℕ) (heads : h ≡ get_or row 3 0) (kept : k ≡ get_or row 1 0) where
      module _ (left : List ℕ) (n : ℕ) (size : length left ≡ length (take (5 * m) cells))
          (removed : Removed m (behind k (take h positions)) (take (5 * m) cells) left n) where
        size-left : length left ≡ 5 * m
        size-left = size ∙ sym fire-lent

        same_left : cell_constraints (take (5 * n) (left ++ drop (5 * m) cells))
            ≡ without 0 (removed_at row positions) (cell_constraints (take (5 * m) cells))
        same_left =
            rw (
              take-append-le (5 * n) left (drop (5 * m) cells) (omega (arith, removed.few, size-left)),
              ← removed-lent row positions h k heads kept,
            ) removed.same

        -- what the rest of the firing asks
        pub fire-completes : Equated row bindings next (take (5 * n) (left ++ drop (5 * m) cells))
            × (5 * n + 30 ≤ length (left ++ drop (5 * m) cells))
        fire-completes = (
          left-equated row positions bindings next cells m (left ++ drop (5 * m) cells) n removed.few same_left
              (fires-equated row positions bindings next cells m f),
          omega (arith, removed.few, f.space, length-append left (drop (5 * m) cells), length-drop (5 * m) cells, size-left),
        )

        -- the state after all
        pub fire-done :
            (bound b c : List ℕ) (alive : Bool) (count : ℕ)
            → Fired row [] bindings next bound (left ++ drop (5 * m) cells) n b c alive count
            → Fired row positions bindings next bound cells m b c alive count
        fire-done = left-fired row positions bindings next cells m (left ++ drop (5 * m) cells) n removed.few same_left
