-- The heads of two rules in cells.
--   laid_one       a rule's heads, with a number added to its variables
--   laid_both      the heads of both rules, the second renamed apart
-- Assumes nothing.
use Prim.Native.Nat.{ℕ, zero, suc, ◌+◌, ◌-◌, ◌*◌, ◌≤◌}
use native.Mathlib.Omega.{arith}
use mathlib.Core.Bool.{true, ◌&&◌}
use mathlib.Core.List.{List, [], ◌++◌, map, append-nil}
use mathlib.Core.Path.{◌≡◌, refl, ap, fun_ext, ◌∙◌}
use lib.ListN.{length, take, drop, get_or, replicate, length-append, drop_of_length-le}
use lib.Seq.{take_at, drop_at}
use Rattle.text.specs.Lists.{every}
use Rattle.semantics.specs.Terms.{Term, con, var, Constraint, map_terms, is_below, alphabet}
use Rattle.semantics.specs.Matching.{unassigned}
use Rattle.semantics.specs.Firing.{instance}
use Rattle.semantics.specs.Overlaps.{apart}
use Rattle.text.proofs.ListLaws.{every-together}
use Rattle.tables.specs.Cells.{cell_constraints, is_low}
use Rattle.tables.specs.Rows.{rule_of_row}
use Rattle.tables.proofs.MapLaws.{acts-constraints}
use Rattle.fitting.specs.Cells.{assigned}
use Rattle.engine.specs.Cells.{instance_cell}
use Rattle.fitting.specs.Positions.{is_lettered}
use Rattle.engine.proofs.FireLaws.{instance-acts, constraints-append}
use Rattle.overlaps.specs.Cells.{RuleRow, heads_of}
use Rattle.overlaps.proofs.TermLaws.{replaced-none}

-- a table of zeros binds nothing
pub zeros : (n x : ℕ) → ◌≡◌ {A = ℕ} (get_or (replicate n 0) x 0) 0
zeros zero x = refl
zeros (suc n) zero = refl
zeros (suc n) (suc x) = zeros n x

none-bound : (n : ℕ) → assigned (replicate n 0) ≡ unassigned
unfolding assigned unassigned
none-bound n = fun_ext (λ x. rw (zeros n x))

-- constraints of low symbols and letters
both-tests :
    (cs : List Constraint) → every is_low cs ≡ true → every is_lettered cs ≡ true
    → every (λ c. is_low c && every (is_below alphabet) c.terms) cs ≡ true
unfolding is_lettered
both-tests cs l h =
    every-together is_low is_lettered (λ c. is_low c && every (is_below alphabet) c.terms) cs
    (λ c low letters. rw (low, letters)) l h

-- a rule's heads, with a number added to its variables; hs are their cells
pub laid_one :
    (row hs : List ℕ) (next : ℕ) (out : List ℕ) → RuleRow row → cell_constraints hs ≡ (rule_of_row [] row).heads
    → out ≡ map (instance_cell next (replicate 26 0)) hs
    → cell_constraints out ≡ map (map_terms (instance next unassigned)) (rule_of_row [] row).heads
laid_one row hs next out r same e =
    rw (e, ← none-bound 26, ← same)
    (acts-constraints (is_below alphabet) (instance_cell next (replicate 26 0)) (instance next (assigned (replicate 26 0)))
    (instance-acts next (replicate 26 0)) hs (rw same (both-tests (rule_of_row [] row).heads r.low r.given.heads)))

-- nothing is added to the first rule's variables, and 26 to the second's
first-kept : (t : Term) → instance 0 unassigned t ≡ t
unfolding instance unassigned
first-kept (con c) = refl
first-kept (var x) = ap var (let z : 0 + x ≡ x = omega arith in z)

second-apart : (t : Term) → instance 26 unassigned t ≡ apart t
unfolding instance unassigned apart alphabet
second-apart (con c) = refl
second-apart (var x) = refl

-- the heads of both rules, the second's put behind those of the first; w is how many the first has, as read
pub laid_both :
    (first second front rest behind : List ℕ) (w : ℕ) → w ≡ get_or first 3 0 → length front ≡ 5 * w
    → cell_constraints front ≡ map (map_terms (instance 0 unassigned)) (rule_of_row [] first).heads
    → cell_constraints behind ≡ map (map_terms (instance 26 unassigned)) (rule_of_row [] second).heads
    → cell_constraints
    (take (5 * w) (front ++ rest) ++ (behind ++ drop (length (front ++ rest) - 5 * w) (drop (5 * w) (front ++ rest))))
    ≡ heads_of first second
unfolding heads_of
laid_both first second front rest behind w r s e f =
    let left : length rest ≤ length (front ++ rest) - 5 * w = omega (arith, length-append front rest) in
    rw (
      take_at front rest (5 * w) s,
      drop_at front rest (5 * w) s,
      drop_of_length-le rest {i = length (front ++ rest) - 5 * w} left,
      append-nil behind,
    )
    (constraints-append w front behind s
    ∙ ap (◌++ cell_constraints behind)
    (e ∙ ap (λ f. map (map_terms f) (rule_of_row [] first).heads) (fun_ext first-kept)
    ∙ replaced-none (rule_of_row [] first).heads)
    ∙ ap ((rule_of_row [] first).heads ++◌)
    (f ∙ ap (λ f. map (map_terms f) (rule_of_row [] second).heads) (fun_ext second-apart)))
