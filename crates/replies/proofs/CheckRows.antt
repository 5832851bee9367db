-- The listing of a check is made of plain lines, and takes at most 986 rows on pages: `check-lined`. Its first field has at most
-- 9 bytes: `check-first`.
--   pairs-lined, goal-lined       the rows of the P lines and of the G lines
--   final-lined, side-lined       the rows of an end, by its goal variables and its weight; of a side of an overlap
--   unjoined-lined                the rows of an overlap that does not join: at most 945
-- Assumes nothing.
use Prim.Native.Nat.{ℕ, zero, suc, ◌+◌, ◌*◌, ◌≤◌, ◌<◌}
use native.Mathlib.Omega.{arith}
use mathlib.Core.Bool.{true}
use mathlib.Core.List.{List, [], ◌∷◌, map}
use mathlib.Core.Path.{◌≡◌, refl}
use lib.ListN.{length, length-map}
use borrow.Author.Tests.{le-ltb}
use Rattle.text.specs.Bytes.{ascii}
use Rattle.text.specs.Lists.{up_to}
use Rattle.text.specs.Fields.{decimal}
use Rattle.text.specs.Keys.{word_length, word}
use Rattle.semantics.specs.Terms.{Term, con, var, Constraint, Symbol, Program, Goal, State, failed, live}
use Rattle.semantics.specs.Strategy.{Final}
use Rattle.semantics.specs.Overlaps.{appearing_in, appearing, Overlap, first_end, second_end}
use Rattle.semantics.specs.Verdict.{Verdict, confluent, unjoined, verdict}
use Rattle.semantics.proofs.Configurations.{TermBelow, All, also}
use Rattle.semantics.proofs.Configurations as C
use Rattle.semantics.proofs.Multisets.{all-member, all-mono, all_map, all-of-members}
use Rattle.semantics.proofs.Weights.{state_weight}
use Rattle.semantics.proofs.Vocabulary.{SpokenState}
use Rattle.syntax.specs.Answers.{accepted}
use Rattle.syntax.specs.Programs.{Reading, read_program}
use Rattle.syntax.proofs.Vocabulary.{SymbolSmall, ReadSmall, read_small}
use Rattle.listing.specs.Listing.{fields_behind, line_of, Naming, naming_of, term_shown, constraint_shown, constraint_lines}
use Rattle.listing.specs.Listing.{variable_name, unbound, bound_lines, state_listing, end_listing}
use Rattle.listing.proofs.SizeLaws.{number_short}
use Rattle.verdicts.specs.Verdicts.{pair_lines, verdict_listing}
use Rattle.pages.proofs.Lined.{is_mark, is_plain_line, Lined, lined-none, lined_then}
use Rattle.replies.specs.Replies.{check_listing}
use Rattle.replies.proofs.ShortNames.{TermedProgram, program-termed, reads-accepted}
use Rattle.replies.proofs.Room.{end-order-few, unbound-all, naming-all, shown-all, declared-few, constraints-few}
use Rattle.replies.proofs.CheckRoom.{GoalFew, SideFew, OverlapFew, goal-variable-short, check-holds}
use Rattle.replies.proofs.PlainLines.{Field, term-field, decimal-field, numbered-marked, lined-more, line-lined}

-- the name of a variable of an overlap's goal
variable-field : (x : ℕ) → x < 9999999 → Field (variable_name [] x)
unfolding variable_name ascii
variable-field x h =
    (goal-variable-short x h, rw (le-ltb x 0 (omega arith)) (numbered-marked 86 x (omega arith)))

-- the P lines
pairs-lined :
    (n : ℕ) (ds : List ℕ) → n + length ds ≤ 100 → All (λ d. d ≤ 4) ds → Lined (pair_lines n ds) (length ds)
unfolding pair_lines ascii is_plain_line is_mark
pairs-lined n [] h C.none = lined-none
pairs-lined n (zero ∷ ds) h (also low all) = lined-more (omega arith) (pairs-lined (suc n) ds (omega arith) all)
pairs-lined n (suc d ∷ ds) h (also low all) =
    let fields = decimal n ∷ decimal (suc d) ∷ [] in
    let good : All Field fields =
    also (decimal-field n (omega arith)) (also (decimal-field (suc d) (omega arith)) C.none) in
    lined-more (omega arith)
    (lined_then (line-lined 0 (ascii "P") fields refl good (omega arith)) (pairs-lined (suc n) ds (omega arith) all))

-- lines, where all names are fields
module _ (naming : Naming) (names : (n : ℕ) → Field (naming n)) where
  -- constraints of at most 4 terms take at most 2 rows each
  constraints-lined :
      (shown : ℕ → List ℕ) (first : List ℕ) (cs : List Constraint) → is_plain_line first ≡ true → length first ≤ 1
      → All (λ c. (length c.terms ≤ 4) × All (λ t. Field (term_shown naming shown t)) c.terms) cs
      → Lined (constraint_lines first naming shown cs) (2 * length cs)
  unfolding constraint_lines constraint_shown
  constraints-lined shown first [] plain one C.none = lined-none
  constraints-lined shown first (c ∷ cs) plain one (also (few, good) all) =
      let terms = map (term_shown naming shown) c.terms in
      let fields : All Field (naming c.symbol ∷ terms) = also (names c.symbol) (all_map _ good) in
      let low : length first + 9 * suc (length terms) ≤ 78 = omega (arith, few, length-map c.terms (term_shown naming shown)) in
      lined-more (omega arith)
      (lined_then (line-lined 1 first (naming c.symbol ∷ terms) plain fields low)
      (constraints-lined shown first cs plain one all))

  -- a line for each goal variable
  bounds-lined :
      (shown variable : ℕ → List ℕ) (x : ℕ) (ts : List Term) → ((y : ℕ) → y < x + length ts → Field (variable y))
      → ((t : Term) → Field (term_shown naming shown t)) → Lined (bound_lines naming shown variable x ts) (length ts)
  unfolding bound_lines ascii is_plain_line is_mark
  bounds-lined shown variable x [] own terms = lined-none
  bounds-lined shown variable x (t ∷ ts) own terms =
      let fields = variable x ∷ term_shown naming shown t ∷ [] in
      let good : All Field fields = also (own x (omega arith)) (also (terms t) C.none) in
      lined-more (omega arith)
      (lined_then (line-lined 0 (ascii "A") fields refl good (omega arith))
      (bounds-lined shown variable (suc x) ts (λ y h. own y (omega arith)) terms))

  -- the rows of an end, by the counts of its lines
  end-lined :
      (variable : ℕ → List ℕ) (f next : ℕ) (bound : List Term) (cs : List Constraint)
      → ((x : ℕ) → x < length bound → Field (variable x)) → All (λ c. length c.terms ≤ 4) cs → f < 10000
      → 2 * length bound + 4 * length cs < 9999
      → Lined (state_listing naming variable f (live next bound cs)) (1 + (length bound + 2 * length cs))
  unfolding state_listing ascii is_plain_line is_mark
  end-lined variable f next bound cs own few low room =
      let n = length bound in
      let order = appearing (appearing_in (up_to n) bound) cs in
      let shown = unbound variable n order in
      let variables : (x : ℕ) → Field (shown x) = λ x.
      unbound-all Field variable n order x own (λ i h.
      (number_short 85 i (omega (arith, end-order-few bound cs few)), numbered-marked 85 i (omega arith))) in
      let terms : (t : Term) → Field (term_shown naming shown t) = shown-all Field naming shown names variables in
      lined_then
      (line-lined 0 (ascii "END") (decimal f ∷ []) refl (also (decimal-field f (omega arith)) C.none) (omega arith))
      (lined_then (bounds-lined shown variable 0 bound (λ x h. own x (omega arith)) terms)
      (constraints-lined shown (ascii "S") cs refl (omega arith)
      (all-mono (λ c h. (h, all-of-members c.terms (λ t _. terms t))) few)))

  -- of an end of v goal variables that weighs at most w with its firings
  final-lined :
      (symbols : List Symbol) (variable : ℕ → List ℕ) (f : ℕ) (P : ℕ → Type 0) (v w number : ℕ) (s : State)
      → ((x : ℕ) → x < v → Field (variable x)) → All SymbolSmall symbols → SpokenState symbols P v number s
      → state_weight symbols s + f ≤ w → 2 * v + 4 * w < 9999 → Lined (state_listing naming variable f s) (1 + (v + 2 * w))
  unfolding state_weight state_listing ascii is_plain_line is_mark
  final-lined symbols variable f P v w number failed own small spoken light room =
      lined-more (omega arith)
      (line-lined 0 (ascii "FAILED") (decimal f ∷ []) refl (also (decimal-field f (omega arith)) C.none) (omega arith))
  final-lined symbols variable f P v w number (live next bound cs) own small spoken light room =
      let size : length bound ≡ v = spoken.size in
      let count = constraints-few symbols cs small spoken.declared in
      let terms : All (λ c. length c.terms ≤ 4) cs = all-mono (declared-few symbols small) spoken.declared in
      lined-more (omega (arith, size, count, light))
      (end-lined variable f next bound cs (λ x h. own x (omega arith)) terms (omega arith) (omega arith))

  -- the end of a side of an overlap
  side-lined :
      (p : Program) (g : Goal) (end : Final) → All SymbolSmall p.symbols → GoalFew p.symbols g → SideFew p g end
      → Lined (end_listing naming (variable_name []) end) 463
  unfolding end_listing
  side-lined p g end symbols small side =
      let low = small.few-variables in
      lined-more (omega (arith, low))
      (final-lined p.symbols (variable_name []) end.firings _ g.variables 217 _ end.state
      (λ x h. variable-field x (omega (arith, low))) symbols side.spoken side.light (omega (arith, low)))

  -- the G lines
  term-good : (v : ℕ) → v ≤ 28 → (t : Term) → TermBelow v t → Field (term_shown naming (variable_name []) t)
  unfolding term_shown
  term-good v low (con c) h = names c
  term-good v low (var x) h = variable-field x (omega arith)

  goal-lined :
      (symbols : List Symbol) (g : Goal) → All SymbolSmall symbols → GoalFew symbols g
      → Lined (constraint_lines (ascii "G") naming (variable_name []) g.constraints) 14
  unfolding ascii is_plain_line is_mark
  goal-lined symbols g small few =
      lined-more (omega (arith, few.few))
      (constraints-lined (variable_name []) (ascii "G") g.constraints refl (omega arith)
      (all-of-members g.constraints (λ c m. (
        declared-few symbols small c (all-member few.declared m),
        all-mono (term-good g.variables few.few-variables) (all-member few.below m),
      ))))

  -- the listing of an overlap that does not join takes at most 1 + 4 + 2 · 7 + 2 · (1 + 28 + 2 · 217) rows
  unjoined-lined :
      (p : Program) (o : Overlap) → All SymbolSmall p.symbols → All (λ r. Field r.name) p.rules → OverlapFew p o
      → Lined (verdict_listing naming (unjoined o (first_end p o) (second_end p o))) 945
  unfolding verdict_listing ascii is_plain_line is_mark
  unjoined-lined p o symbols named few =
      let first = o.first.rule.name ∷ o.second.rule.name ∷ [] in
      let fields : All Field first =
      also (all-member named few.first_rule) (also (all-member named few.second_rule) C.none) in
      lined-more (omega (arith, few.few-partners))
      (lined_then (line-lined 0 (ascii "UNJOINED") first refl fields (omega arith))
      (lined_then (pairs-lined 1 o.partners (omega (arith, few.few-partners)) few.low-partners)
      (lined_then (goal-lined p.symbols o.goal symbols few.goal)
      (lined_then (side-lined p o.goal (first_end p o) symbols few.goal few.one)
      (side-lined p o.goal (second_end p o) symbols few.goal few.two)))))

  -- the listing of a pass
  pass-lined : (n : ℕ) → n ≤ 640000 → Lined (verdict_listing naming (confluent n)) 1
  unfolding verdict_listing ascii is_plain_line is_mark
  pass-lined n h =
      line-lined 0 (ascii "CONFLUENT") (decimal n ∷ []) refl (also (decimal-field n (omega arith)) C.none) (omega arith)

-- the listing of a check is made of plain lines that take at most 986 rows, which is 17 pages
pub check-lined : (program : List ℕ) (p : Reading) → read_program program ≡ accepted p → Lined (check_listing p) 986
check-lined program p reads =
    let small : ReadSmall p = read_small program reads in
    let termed : TermedProgram p = reads-accepted 9 TermedProgram (read_program program) (program-termed program) reads in
    let naming = naming_of p.program.symbols p.constants in
    let names : (n : ℕ) → Field (naming n) =
    naming-all Field p.program.symbols p.constants (omega arith, refl)
    (all-mono (λ s. term-field s.name) termed.symbols) (all-mono term-field termed.constants) in
    let named : All (λ r. Field r.name) p.program.rules = all-mono (λ r. term-field r.name) termed.rules in
    check-holds (λ bytes. Lined bytes 986) program p reads
    (λ n h. lined-more (omega arith) (pass-lined naming names n h))
    (λ o few. lined-more (omega arith) (unjoined-lined naming names p.program o small.symbols named few))

-- the first field is CONFLUENT or UNJOINED
verdict-first : (naming : Naming) (v : Verdict) → length (word (verdict_listing naming v) 0) ≤ 9
unfolding verdict_listing line_of fields_behind ascii word word_length
verdict-first naming (confluent n) = omega arith
verdict-first naming (unjoined o one two) = omega arith

pub check-first : (p : Reading) → length (word (check_listing p) 0) ≤ 9
unfolding check_listing
check-first p = verdict-first (naming_of p.program.symbols p.constants) (verdict p.program)
