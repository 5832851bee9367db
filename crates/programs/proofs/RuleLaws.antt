-- Laws of the rules' numbers 8 and 9.
--   fault-..       numbers 8 and 9 of a row
--   Checked, check-..    the rules from one on
-- Assumes nothing.
use mathlib.Core.Path.{◌≡◌, refl, sym, ap, ap₂, ◌∙◌}
use mathlib.Core.Bool.{Bool, true, false, cond}
use mathlib.Core.List.{List, [], ◌∷◌}
use Prim.Native.Nat.{ℕ, suc, ◌+◌, ◌-◌, ◌*◌, ◌≤◌, ◌<◌}
use native.Mathlib.Omega.{arith}
use borrow.Author.Tests.{le-leb, lt-leb, ne_eqb}
use lib.Dec.{leb, eqb}
use lib.ListN.{length, take, drop, get_or, length-drop, length-take, drop_of_length-le}
use lib.Seq.{drop-cons, drop-drop}
use Rattle.std.specs.Prelude.{Result, Ok, Err}
use Rattle.std.proofs.Common.{◌++◌, length-append}
use Rattle.std.proofs.Math.Seq.{take-append_seam, drop-append_seam}
use Rattle.faults.specs.Faults.{number_of, fault_at}
use Rattle.faults.specs.declared.Fault.{Fault}
use Rattle.faults.specs.declared.Fault.TheVariants.{NothingRemoved, WeightKept}
use Rattle.faults.proofs.Numbers.{number-some}
use Rattle.text.specs.Lists.{tabled}
use Rattle.text.proofs.Laws.{drop-take, tabled-length, tabled-at}
use Rattle.semantics.specs.Terms.{Symbol, removed_heads, weight}
use Rattle.syntax.specs.Answers.{Answer, refused, refuse_if}
use Rattle.syntax.specs.Programs.{Reading, RuleRead, check_rules}
use Rattle.tables.specs.Cells.{cell_constraints}
use Rattle.tables.specs.Rows.{symbols_of, name_of, rule_of_row, row_of, rule_of}
use Rattle.tables.specs.Layout.{first_rule}
use Rattle.tables.proofs.CellLaws.{constraints-drop}
use Rattle.programs.specs.Read.{RowFits, RowsFit, rule_read, rules_read, rule_fault, number_met, FaultIn, rules_answer, RulesIn}
use Rattle.programs.proofs.Drafts.{rules-length}

-- the cells of a row from one to another, as they are weighed
pub part-short : (row : List ℕ) (n b : ℕ) → length row ≡ 64 → length (take n (drop b row)) ≤ 4096
part-short row n b sized = omega (arith, length-take n (drop b row), length-drop b row)

some-constraints : (l : List ℕ) → 5 ≤ length l → 0 < length (cell_constraints l)
unfolding cell_constraints
some-constraints [] z = absurd (omega arith)
some-constraints (a ∷ []) z = absurd (omega arith)
some-constraints (a ∷ b ∷ []) z = absurd (omega arith)
some-constraints (a ∷ b ∷ c ∷ []) z = absurd (omega arith)
some-constraints (a ∷ b ∷ c ∷ d ∷ []) z = absurd (omega arith)
some-constraints (a ∷ b ∷ c ∷ d ∷ e ∷ l) z = omega arith

-- numbers 8 and 9 of a row
module _ (symbols row : List ℕ) (k h b : ℕ) (o : k ≡ get_or row 1 0) (p : h ≡ get_or row 3 0) (q : b ≡ get_or row 4 0)
    (sized : length row ≡ 64) (fits : RowFits row) where
  -- the cells of the heads that are removed, and those of the body
  abbrev removed : List ℕ
  removed = take (6 + 5 * h - (6 + 5 * k)) (drop (6 + 5 * k) row)

  abbrev placed : List ℕ
  placed = take (26 + 5 * b - 26) (drop 26 row)

  removed-is : (name : List ℕ) → removed_heads (rule_of_row name row) ≡ cell_constraints removed
  unfolding removed_heads rule_of_row
  removed-is name =
      let less : k ≤ h = omega (arith, o, p, fits.kept) in
      let wide : 5 * h - 5 * k ≡ 6 + 5 * h - (6 + 5 * k) = omega arith in
      rw (← o, ← p) (constraints-drop k (take (5 * h) (drop 6 row))
      ∙ ap cell_constraints (drop-take (5 * k) (5 * h) (drop 6 row) (omega arith)
      ∙ ap₂ (λ (n : ℕ) (l : List ℕ). take n l) wide (drop-drop (5 * k) 6 row)))

  placed-is : (name : List ℕ) → (rule_of_row name row).body ≡ cell_constraints placed
  unfolding rule_of_row
  placed-is name =
      let wide : 5 * get_or row 4 0 ≡ 26 + 5 * b - 26 = omega (arith, q) in
      ap (λ (n : ℕ). cell_constraints (take n (drop 26 row))) wide

  pub fault-eight : h ≤ k → FaultIn symbols row (Err NothingRemoved)
  unfolding rule_fault cell_constraints
  fault-eight e =
      let none : 6 + 5 * h - (6 + 5 * k) ≡ 0 = omega arith in
      record { fault = λ names name m size. rw (removed-is name, none) refl }

  module _ (w v : ℕ)
      (x : (names : List ℕ) (m : ℕ) → length symbols ≡ 2 * m → w ≡ weight (symbols_of names symbols m) (cell_constraints removed))
      (y : (names : List ℕ) (m : ℕ) → length symbols ≡ 2 * m → v ≡ weight (symbols_of names symbols m) (cell_constraints placed))
      (e : k < h) where
    some-heads : 0 < length (cell_constraints removed)
    some-heads =
        some-constraints removed
        (omega (
          arith,
          length-take (6 + 5 * h - (6 + 5 * k)) (drop (6 + 5 * k) row),
          length-drop (6 + 5 * k) row,
          p,
          fits.heads,
        ))

    tests : (names name : List ℕ) (m : ℕ) → length symbols ≡ 2 * m
        → rule_fault (symbols_of names symbols m) (rule_of_row name row) ≡ cond (leb w v) 9 0
    unfolding rule_fault
    tests names name m size =
        rw (
          removed-is name,
          placed-is name,
          ne_eqb (length (cell_constraints removed)) 0 (λ z. omega (arith, z, some-heads)),
          ← x names m size,
          ← y names m size,
        )

    pub fault-nine : w ≤ v → FaultIn symbols row (Err WeightKept)
    fault-nine z = record { fault = λ names name m size. rw (tests names name m size, le-leb w v z) }

    pub fault-none : v < w → FaultIn symbols row (Ok tt)
    fault-none z = record { fault = λ names name m size. rw (tests names name m size, lt-leb w v z) }

-- the rules from one on
check-one : (symbols : List Symbol) (r : RuleRead) (rs : List RuleRead) (otherwise : Answer Reading)
    → check_rules symbols (r ∷ rs) otherwise
    ≡ cond (eqb (rule_fault symbols r.rule) 0) (check_rules symbols rs otherwise) (refused (rule_fault symbols r.rule)
    r.line)
unfolding check_rules rule_fault
check-one symbols r rs otherwise =
    go (eqb (length (removed_heads r.rule)) 0)
    (leb (weight symbols (removed_heads r.rule)) (weight symbols r.rule.body))
    (check_rules symbols rs otherwise)
  where
    go : (s t : Bool) (more : Answer Reading)
        → refuse_if s 8 r.line (refuse_if t 9 r.line more)
        ≡ cond (eqb (cond s 8 (cond t 9 0)) 0) more (refused (cond s 8 (cond t 9 0)) r.line)
    go true t more = refl
    go false true more = refl
    go false false more = refl

-- the rules before those left meet neither number
pub record Checked (symbols rules rest : List ℕ) : Type 0 where
  pub row : ℕ
  pub within : 64 * row ≤ length rules
  pub placed : rest ≡ drop (64 * row) rules
  pub left :
      (names : List ℕ) (k m : ℕ) (otherwise : Answer Reading) → length symbols ≡ 2 * k → length rules ≡ 64 * m
      → check_rules (symbols_of names symbols k) (drop row (rules_read names rules m)) otherwise
      ≡ check_rules (symbols_of names symbols k) (rules_read names rules m) otherwise

pub check-start : (symbols rules : List ℕ) → Checked symbols rules rules
check-start symbols rules = record { row = 0; within = omega arith; placed = refl; left = λ names k m otherwise a b. refl }

module _ (symbols rules rest : List ℕ) (c : Checked symbols rules rest) where
  size-left : length rest + 64 * c.row ≡ length rules
  size-left = omega (arith, ap length c.placed, length-drop (64 * c.row) rules, c.within)

  pub check-end : length rest < 64 → RulesIn symbols rules (Ok tt)
  unfolding rules_answer check_rules
  check-end h = record {
    answers = λ names k m otherwise a b.
        (let out : length (rules_read names rules m) ≤ c.row = omega (arith, rules-length names rules m, size-left) in
        let z : otherwise ≡ check_rules (symbols_of names symbols k) (drop c.row (rules_read names rules m)) otherwise =
        rw (drop_of_length-le (rules_read names rules m) out) in
        z ∙ c.left names k m otherwise a b);
  }

  -- the first row of those left is one of the table
  module _ (cells behind : List ℕ) (parts : rest ≡ cells ++ behind) (sized : length cells ≡ 64) where
    inside-rules : 64 * c.row + 64 ≤ length rules
    inside-rules = omega (arith, size-left, ap length parts, length-append cells behind, sized)

    row_is : cells ≡ row_of rules c.row
    row_is =
        sym (ap (λ (n : ℕ). take n (cells ++ behind)) (sym sized) ∙ take-append_seam cells behind)
        ∙ ap (take 64) (sym parts ∙ c.placed)

    -- so that its counts are within its room
    pub check-row : RowsFit rules → RowFits cells
    check-row fit = rw row_is (fit c.row inside-rules)

    onward-is : behind ≡ drop (64 * suc c.row) rules
    onward-is =
        sym (ap (λ (n : ℕ). drop n (cells ++ behind)) (sym sized) ∙ drop-append_seam cells behind)
        ∙ ap (drop 64) (sym parts ∙ c.placed) ∙ drop-drop 64 (64 * c.row) rules
        ∙ ap (λ (n : ℕ). drop n rules) (let z : 64 * c.row + 64 ≡ 64 * suc c.row = omega arith in z)

    module _ (r : Result (Unit {0}) Fault) (e : FaultIn symbols cells r) where
      module _ (names : List ℕ) (k m : ℕ) (otherwise : Answer Reading) (a : length symbols ≡ 2 * k) (b : length rules ≡ 64 * m)
        where
          abbrev S : List Symbol
          S = symbols_of names symbols k

          inside : c.row < m
          inside = omega (arith, inside-rules)

          fault : number_met r ≡ rule_fault S (rule_read names rules c.row).rule
          unfolding rule_read rule_of
          fault =
              e.fault names (name_of names (first_rule + c.row)) k a
              ∙ ap (λ (l : List ℕ). rule_fault S (rule_of_row (name_of names (first_rule + c.row)) l)) row_is

          onward : check_rules S (drop c.row (rules_read names rules m)) otherwise
              ≡ cond (eqb (number_met r) 0) (check_rules S (drop (suc c.row) (rules_read names rules m)) otherwise)
              (refused (number_met r) (get_or (row_of rules c.row) 2 0))
          unfolding rules_read rule_read
          onward =
              let none : RuleRead = rule_read names rules m in
              let split : drop c.row (tabled (rule_read names rules) m)
              ≡ rule_read names rules c.row ∷ drop (suc c.row) (tabled (rule_read names rules) m) =
              drop-cons (tabled (rule_read names rules) m) c.row none
              (omega (arith, tabled-length (rule_read names rules) m, inside))
              ∙ ap (λ (l : RuleRead). l ∷ drop (suc c.row) (tabled (rule_read names rules) m))
              (tabled-at (rule_read names rules) m c.row none inside) in
              ap (λ (l : List RuleRead). check_rules S l otherwise) split
              ∙ check-one S (rule_read names rules c.row) (drop (suc c.row) (tabled (rule_read names rules) m)) otherwise
              ∙ ap (λ (y : ℕ). cond (eqb y 0) (check_rules S (drop (suc c.row) (tabled (rule_read names rules) m)) otherwise)
              (refused y (get_or (row_of rules c.row) 2 0))) (sym fault)

      pub check-refused : (x : Fault) → r ≡ Err x → RulesIn symbols rules (Err (fault_at x (get_or cells 2 0)))
      unfolding rules_answer
      check-refused x z = record {
        answers = λ names k m otherwise a b.
            ap (λ (l : List ℕ). refused (number_of x) (get_or l 2 0)) row_is
            ∙ sym (rw (ne_eqb (number_of x) 0 (λ y. omega (arith, y, number-some x)))
            at (rw z at (onward names k m otherwise a b)))
            ∙ c.left names k m otherwise a b;
      }

      pub check-next : (u : Unit {0}) → r ≡ Ok u → Checked symbols rules behind
      check-next u z =
          record {
            row = suc c.row;
            within = omega (arith, inside-rules);
            placed = onward-is;
            left = λ names k m otherwise a b. sym (rw z at (onward names k m otherwise a b)) ∙ c.left names k m otherwise a b;
          }
