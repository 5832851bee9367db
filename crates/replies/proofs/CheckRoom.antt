-- Every listing of a check fits the room that the programs lend: `check-fits`. So `sheetcheck` never prints number 11:
-- `check-never-eleven`.
--   overlaps-few                  a program as read has at most 640,000 overlaps
--   GoalFew, overlap-few          the goal of an overlap: at most 7 constraints, 28 variables and a weight of 217
--   OverlapFew, listed-few        all that is counted of an overlap
--   side-few, pairs-few           the bytes of the end of a side, and of the P lines
--   check-holds                   what holds of the listing of a pass and of an overlap holds of that of a check
--   check-few, check-fits         the listing of a check has at most 21,980 bytes, and fits
--   check-answered                texts that read get their listing; any other reply has a number of at most 10
-- Assumes nothing.
use Prim.Native.Nat.{ℕ, zero, suc, ◌+◌, ◌*◌, ◌≤◌, ◌<◌}
use native.Mathlib.Nat.{mul-suc, mul-le-mul}
use native.Mathlib.Omega.{arith}
use mathlib.Core.Bool.{Bool, true, false, cond, not}
use mathlib.Core.List.{List, [], ◌∷◌, ◌++◌, map}
use mathlib.Core.Option.{Option, none, some}
use mathlib.Core.Path.{◌≡◌, refl, sym, ap, subst, ◌∙◌}
use lib.Dec.{eqb}
use lib.ListN.{length, length-append, length-map, get_or, get_elem?}
use borrow.Author.Tests.{le-ltb}
use Rattle.text.specs.Bytes.{ascii}
use Rattle.text.specs.Lists.{onward, every, has, gather, answers, up_to}
use Rattle.text.specs.Fields.{decimal}
use Rattle.text.proofs.Bools.{and-true, or-true}
use Rattle.text.proofs.Laws.{tabled-length}
use Rattle.semantics.specs.Terms.{Term, con, var, Constraint, Symbol, Rule, Program, Goal, weight, map_terms, is_declared}
use Rattle.semantics.specs.Terms.{is_goal_of, is_well_formed}
use Rattle.semantics.specs.Strategy.{Final, goal_state}
use Rattle.semantics.specs.Overlaps.{partner_lists, is_one_to_one, is_pairing, pairings, apart, Numbered, Overlap, overlap_of}
use Rattle.semantics.specs.Overlaps.{numbered_from, overlaps_of, overlaps_among, overlaps, side_end, first_end, second_end}
use Rattle.semantics.specs.Verdict.{Verdict, confluent, unjoined, verdict}
use Rattle.semantics.proofs.Configurations.{Member, TermBelow, All, also}
use Rattle.semantics.proofs.Configurations as C
use Rattle.semantics.proofs.Multisets.{all-member, all-mono, all-of-members}
use Rattle.semantics.proofs.MatchedTerms.{ConstraintBelow}
use Rattle.semantics.proofs.Options.{true-false}
use Rattle.semantics.proofs.Bools.{eqb_same}
use Rattle.semantics.proofs.Indices.{not-true}
use Rattle.semantics.proofs.Normal.{arrived}
use Rattle.semantics.proofs.Weights.{weight-cons, weight-nil, state_weight}
use Rattle.semantics.proofs.Listings.{at-member}
use Rattle.semantics.proofs.Pairings.{leftover}
use Rattle.semantics.proofs.Enumeration.{Listed, overlap-parts, overlaps-member, pairings-member}
use Rattle.semantics.proofs.OverlapGoals.{second_heads, goal_term, goal_first, goal_second, goal-constraints, listed-goal}
use Rattle.semantics.proofs.OverlapGoals.{listed-appearance}
use Rattle.semantics.proofs.Vocabulary.{SpokenState, reached-spoken, side-reach, side-spoken}
use Rattle.semantics.proofs.Verdicts.{verdict-confluent, verdict-unjoined}
use Rattle.syntax.specs.Answers.{Answer, refused, accepted}
use Rattle.syntax.specs.Programs.{Reading, read_program}
use Rattle.syntax.proofs.WellFormed.{read-well_formed}
use Rattle.syntax.proofs.Vocabulary.{SymbolSmall, ReadSmall, read_small}
use Rattle.listing.specs.Listing.{line_of, Naming, naming_of, term_shown, constraint_lines, variable_name, end_listing}
use Rattle.verdicts.specs.Verdicts.{pair_lines, verdict_listing}
use Rattle.listing.proofs.SizeLaws.{Short, decimal-short, number_short, line-few, ShortRow, rows_few}
use Rattle.replies.specs.Replies.{Text, program_text, refusal, reply_of, fitted, check_listing, check_reply}
use Rattle.replies.specs.Replies.{printed, ample, sheetcheck}
use Rattle.replies.proofs.Demand3.{fitted-listed}
use Rattle.replies.proofs.ShortNames.{ShortProgram, program-short, reads-accepted, reads-refused}
use Rattle.replies.proofs.Room.{order-few, naming-short, declared-small, declared-few, AnyConstant, constraints-any}
use Rattle.replies.proofs.Room.{rules-any, reach-weighs, final-few, Answered, refused_by, listed, eleven}

-- how many answers there are, and elements of lists one behind the other
answers-few : {A B : Type 0} (f : A → Option B) (l : List A) → length (answers f l) ≤ length l
answers-few f [] = omega arith
answers-few f (x ∷ l) = go (f x) (answers-few f l)
  where
    go :
        (o : Option _) → length (answers f l) ≤ length l
        → length (onward o (answers f l) (λ y. y ∷ answers f l)) ≤ suc (length l)
    go none h = omega arith
    go (some y) h = omega arith

gather-few :
    {A B : Type 0} (f : A → List B) (k : ℕ) {l : List A} → All (λ a. length (f a) ≤ k) l → length (gather f l) ≤ k * length l
gather-few f k C.none = omega arith
gather-few f k (also {a = x} {l} h all) =
    omega (arith, length-append (f x) (gather f l), gather-few f k all, mul-suc k (length l))

-- lists of at most 4 numbers from 0 to at most 4: each number is one of five
next-few : (k m n : ℕ) → n ≤ 4 → length (partner_lists m n) ≤ k → length (partner_lists (suc m) n) ≤ k * 5
unfolding partner_lists
next-few k m n low h =
    let counted = gather-few (λ d. map (d ∷◌) (partner_lists m n)) k
    (all-of-members (up_to (suc n)) (λ d _. rw (length-map (partner_lists m n) (d ∷◌)) h)) in
    let five : k * length (up_to (suc n)) ≤ k * 5 =
    mul-le-mul (omega arith) (omega (arith, tabled-length (λ i. i) (suc n))) in
    omega (arith, counted, five)

lists-few : (m n : ℕ) → m ≤ 4 → n ≤ 4 → length (partner_lists m n) ≤ 625
unfolding partner_lists
lists-few m n few low = go m few
  where
    none-few : length (partner_lists 0 n) ≤ 1
    none-few = omega arith

    one : length (partner_lists 1 n) ≤ 5
    one = next-few 1 0 n low none-few

    two : length (partner_lists 2 n) ≤ 25
    two = next-few 5 1 n low one

    three : length (partner_lists 3 n) ≤ 125
    three = next-few 25 2 n low two

    go : (m : ℕ) → m ≤ 4 → length (partner_lists m n) ≤ 625
    go zero h = omega (arith, none-few)
    go (suc zero) h = omega (arith, one)
    go (suc (suc zero)) h = omega (arith, two)
    go (suc (suc (suc zero))) h = omega (arith, three)
    go (suc (suc (suc (suc zero)))) h = next-few 125 3 n low three
    go (suc (suc (suc (suc (suc m))))) h = absurd (omega arith)

-- a rule of at most 4 heads
abbrev FewHeads : Numbered → Type 0
FewHeads i = length i.rule.heads ≤ 4

-- the overlaps of two such rules, and of at most 32 of them
pair-overlaps : (i j : Numbered) → FewHeads i → FewHeads j → length (overlaps_of i j) ≤ 625
unfolding overlaps_of pairings
pair-overlaps i j a b =
    let lists = partner_lists (length i.rule.heads) (length j.rule.heads) in
    let pairs = pairings (length i.rule.heads) (length j.rule.heads) in
    omega (
      arith,
      answers-few (overlap_of i j) pairs,
      answers-few (λ ds. cond (is_pairing ds) (some ds) none) lists,
      lists-few (length i.rule.heads) (length j.rule.heads) a b,
    )

among-few : {l : List Numbered} → length l ≤ 32 → All FewHeads l → length (overlaps_among l) ≤ 20000 * length l
unfolding overlaps_among
among-few h C.none = omega arith
among-few h (also {a = i} {l} few all) =
    let first = gather-few (overlaps_of i) 625 {l = i ∷ l} (all-mono (λ j k. pair-overlaps i j few k) (also few all)) in
    omega (arith, length-append (gather (overlaps_of i) (i ∷ l)) (overlaps_among l), first, among-few (omega arith) all)

numbered-heads : (n : ℕ) {rs : List Rule} → All (λ r. length r.heads ≤ 4) rs → All FewHeads (numbered_from n rs)
unfolding numbered_from
numbered-heads n C.none = C.none
numbered-heads n (also h all) = also h (numbered-heads (suc n) all)

numbered-length : (n : ℕ) (rs : List Rule) → length (numbered_from n rs) ≡ length rs
unfolding numbered_from
numbered-length n [] = refl
numbered-length n (r ∷ rs) = ap suc (numbered-length (suc n) rs)

pub overlaps-few :
    (p : Program) → length p.rules ≤ 32 → All (λ r. length r.heads ≤ 4) p.rules → length (overlaps p) ≤ 640000
unfolding overlaps
overlaps-few p few heads =
    let n = numbered-length 0 p.rules in
    omega (arith, n, among-few (omega (arith, n)) (numbered-heads 0 heads))

-- at most as many are left as there were
leftover-few : {A : Type 0} (n : ℕ) (l : List A) (ds : List ℕ) → length (leftover n l ds) ≤ length l
leftover-few n [] ds = omega arith
leftover-few n (x ∷ l) ds = go (has n ds) (leftover-few (suc n) l ds)
  where
    go :
        (b : Bool) → length (leftover (suc n) l ds) ≤ length l
        → length (cond b (leftover (suc n) l ds) (x ∷ leftover (suc n) l ds)) ≤ suc (length l)
    go true h = omega arith
    go false h = omega arith

-- and fewer where one of their numbers joins them
leftover-fewer :
    {A : Type 0} (n m : ℕ) (l : List A) (ds : List ℕ) → has m ds ≡ true → n ≤ m → m < n + length l
    → length (leftover n l ds) < length l
leftover-fewer n m [] ds h low high = absurd (omega arith)
leftover-fewer n m (x ∷ l) ds h low high =
    go (has n ds) refl (leftover-few (suc n) l ds) (λ k. leftover-fewer (suc n) m l ds h k (omega arith))
  where
    go :
        (b : Bool) → has n ds ≡ b → length (leftover (suc n) l ds) ≤ length l
        → (suc n ≤ m → length (leftover (suc n) l ds) < length l)
        → length (cond b (leftover (suc n) l ds) (x ∷ leftover (suc n) l ds)) < suc (length l)
    go true e few again = omega arith
    go false e few again =
        let other : m ≡ n → ⊥ = λ q. true-false (subst (λ i. has i ds ≡ true) q h) e in
        omega (arith, again (omega (arith, other)))

-- partners that are not all 0 have one within the second rule's heads
partner-found :
    (n : ℕ) (ds : List ℕ) → every (eqb 0) ds ≡ false → All (λ d. d ≤ n) ds
    → (m : ℕ) × (has m ds ≡ true) × (1 ≤ m) × (m ≤ n)
partner-found n [] h all = true-false refl h
partner-found n (zero ∷ ds) h (also low all) =
    let (m, found, least, most) = partner-found n ds h all in
    (m, rw found (or-true (eqb m 0)), least, most)
partner-found n (suc d ∷ ds) h (also low all) = (suc d, rw (eqb_same (suc d)) refl, omega arith, low)

-- declared constraints weigh at most 31 each
constraints-light :
    (symbols : List Symbol) (cs : List Constraint) → All SymbolSmall symbols → All (λ c. is_declared symbols c ≡ true) cs
    → weight symbols cs ≤ 31 * length cs
constraints-light symbols [] small declared = omega (arith, weight-nil symbols)
constraints-light symbols (c ∷ cs) small (also h declared) =
    omega (arith, weight-cons symbols c cs, (declared-small symbols small c h).light, constraints-light symbols cs small declared)

-- a goal of at most 7 constraints
pub record GoalFew (symbols : List Symbol) (g : Goal) : Type 0 where
  pub few : length g.constraints ≤ 7
  pub few-variables : g.variables ≤ 28
  pub light : weight symbols g.constraints ≤ 217
  pub declared : All (λ c. is_declared symbols c ≡ true) g.constraints
  pub below : All (ConstraintBelow g.variables) g.constraints

-- a program as read, over values
pub record Few (p : Program) : Type 0 where
  pub formed : is_well_formed p ≡ true
  pub symbols : All SymbolSmall p.symbols
  pub heads : All (λ r. length r.heads ≤ 4) p.rules

-- the constraints of an overlap's goal: at least one head of the second rule is joined with one of the first
constraints-seven : (p : Program) {o : Overlap} → Few p → Listed p o → length o.goal.constraints ≤ 7
unfolding is_pairing
constraints-seven p {o} few l =
    let paired = pairings-member _ _ o.partners l.paired in
    let some-joined = (and-true (is_one_to_one o.partners) (not (every (eqb 0) o.partners)) paired.pairs).1 in
    let (m, found, least, most) =
    partner-found _ o.partners (not-true (every (eqb 0) o.partners) some-joined) paired.within in
    let parts = overlap-parts o.first o.second o.partners l.made in
    let first = all-member few.heads (at-member p.rules o.first.number l.first_rule) in
    let second = all-member few.heads (at-member p.rules o.second.number l.second_rule) in
    let count : length (goal_second parts) ≡ length o.second.rule.heads =
    length-map (second_heads o.second) (map_terms (goal_term parts)) ∙ length-map o.second.rule.heads (map_terms apart) in
    omega (
      arith,
      first,
      second,
      ap length (goal-constraints parts),
      length-append (goal_first parts) (leftover 1 (goal_second parts) o.partners),
      length-map o.first.rule.heads (map_terms (goal_term parts)),
      leftover-fewer 1 m (goal_second parts) o.partners found least (omega (arith, most, count)),
      count,
    )

pub overlap-few : (p : Program) {o : Overlap} → Few p → Listed p o → GoalFew p.symbols o.goal
unfolding goal_state
overlap-few p {o} few l =
    let goal = listed-goal p few.formed l in
    let spoken = reached-spoken p AnyConstant o.goal few.formed goal (rules-any p.rules)
    (constraints-any o.goal.constraints) arrived in
    let declared : All (λ c. is_declared p.symbols c ≡ true) o.goal.constraints = spoken.declared in
    let seven = constraints-seven p few l in
    let appear = order-few [] o.goal.constraints (all-mono (declared-few p.symbols few.symbols) declared) in
    record {
      few = seven;
      few-variables = omega (
        arith,
        seven,
        appear,
        ap length (listed-appearance p l),
        tabled-length (λ i. i) o.goal.variables,
      );
      light = omega (arith, seven, constraints-light p.symbols o.goal.constraints few.symbols declared);
      declared = declared;
      below = spoken.scoped.constraints;
    }

-- the name of a goal variable without a letter
pub goal-variable-short : (x : ℕ) → x < 9999999 → Short (variable_name [] x)
unfolding variable_name ascii
goal-variable-short x h = rw (le-ltb x 0 (omega arith)) (number_short 86 x h)

-- the end of a side of such a goal: over its symbols and variables, and within its weight
pub record SideFew (p : Program) (g : Goal) (e : Final) : Type 0 where
  pub number : ℕ
  pub spoken : SpokenState p.symbols AnyConstant g.variables number e.state
  pub light : state_weight p.symbols e.state + e.firings ≤ 217

side-light :
    (p : Program) (g : Goal) (k : ℕ) (r : Rule) (ps : List ℕ) → Few p → is_goal_of p g ≡ true → GoalFew p.symbols g
    → get_elem? p.rules k ≡ some r → SideFew p g (side_end p g r ps)
unfolding goal_state state_weight
side-light p g k r ps few goal small e =
    let end = side_end p g r ps in
    let weighs : state_weight p.symbols end.state + end.firings ≤ weight p.symbols g.constraints =
    reach-weighs p few.formed (side-reach p g k r ps e) in
    record {
      number = _;
      spoken = side-spoken p AnyConstant g k r ps few.formed goal (rules-any p.rules) (constraints-any g.constraints) e;
      light = omega (arith, weighs, small.light);
    }

-- an overlap of two rules of such a program
pub record OverlapFew (p : Program) (o : Overlap) : Type 0 where
  pub first_rule : Member o.first.rule p.rules
  pub second_rule : Member o.second.rule p.rules
  pub few-partners : length o.partners ≤ 4
  pub low-partners : All (λ d. d ≤ 4) o.partners
  pub goal : GoalFew p.symbols o.goal
  pub one : SideFew p o.goal (first_end p o)
  pub two : SideFew p o.goal (second_end p o)

listed-few : (p : Program) {o : Overlap} → Few p → Listed p o → OverlapFew p o
unfolding first_end second_end
listed-few p {o} few l =
    let i = at-member p.rules o.first.number l.first_rule in
    let j = at-member p.rules o.second.number l.second_rule in
    let paired = pairings-member _ _ o.partners l.paired in
    let small = overlap-few p few l in
    let goal = listed-goal p few.formed l in
    let most = all-member few.heads j in
    record {
      first_rule = i;
      second_rule = j;
      few-partners = omega (arith, paired.long, all-member few.heads i);
      low-partners = all-mono (λ d h. omega (arith, h, most)) paired.within;
      goal = small;
      one = side-light p o.goal o.first.number o.first.rule _ few goal small l.first_rule;
      two = side-light p o.goal o.second.number o.second.rule _ few goal small l.second_rule;
    }

-- the bytes of the end of a side of an overlap
side-few :
    (p : Program) (naming : Naming) (g : Goal) (end : Final) → All SymbolSmall p.symbols → ((n : ℕ) → Short (naming n))
    → GoalFew p.symbols g → SideFew p g end → length (end_listing naming (variable_name []) end) ≤ 10772
unfolding end_listing
side-few p naming g end symbols names small side =
    let low = small.few-variables in
    omega (
      arith,
      low,
      final-few p.symbols naming (variable_name []) end.firings AnyConstant g.variables 217 _ end.state names
          (λ x h. goal-variable-short x (omega (arith, low))) symbols side.spoken side.light (omega arith)
          (omega (arith, low)),
    )

-- the bytes of the P lines
pairs-few : (n : ℕ) (ds : List ℕ) → n + length ds ≤ 100 → All (λ d. d ≤ 4) ds → length (pair_lines n ds) ≤ 20 * length ds
unfolding pair_lines ascii
pairs-few n [] h C.none = omega arith
pairs-few n (zero ∷ ds) h (also low all) = omega (arith, pairs-few (suc n) ds (omega arith) all)
pairs-few n (suc d ∷ ds) h (also low all) =
    let fields = decimal n ∷ decimal (suc d) ∷ [] in
    omega (
      arith,
      length-append (line_of (ascii "P") fields) (pair_lines (suc n) ds),
      line-few (ascii "P") fields (also (decimal-short n (omega arith)) (also (decimal-short (suc d) (omega arith)) C.none)),
      pairs-few (suc n) ds (omega arith) all,
    )

-- the G lines
module _ (naming : Naming) (names : (n : ℕ) → Short (naming n)) where
  term-short : (v : ℕ) → v ≤ 28 → (t : Term) → TermBelow v t → Short (term_shown naming (variable_name []) t)
  unfolding term_shown
  term-short v low (con c) h = names c
  term-short v low (var x) h = goal-variable-short x (omega arith)

  goal-few :
      (symbols : List Symbol) (g : Goal) → All SymbolSmall symbols → GoalFew symbols g
      → length (constraint_lines (ascii "G") naming (variable_name []) g.constraints) ≤ 329
  unfolding ascii
  goal-few symbols g small few =
      let short : All (ShortRow naming (variable_name []) names) g.constraints =
      all-of-members g.constraints (λ c m. (
        declared-few symbols small c (all-member few.declared m),
        all-mono (term-short g.variables few.few-variables) (all-member few.below m),
      )) in
      omega (arith, few.few, rows_few naming (variable_name []) names (ascii "G") g.constraints (omega arith) short)

  -- the listing of an overlap that does not join
  unjoined-few :
      (p : Program) (o : Overlap) → All SymbolSmall p.symbols → All (λ r. Short r.name) p.rules → OverlapFew p o
      → length (verdict_listing naming (unjoined o (first_end p o) (second_end p o))) ≤ 21980
  unfolding verdict_listing ascii
  unjoined-few p o symbols short few =
      let first = o.first.rule.name ∷ o.second.rule.name ∷ [] in
      let head = line_of (ascii "UNJOINED") first in
      let pairs = pair_lines 1 o.partners in
      let rows = constraint_lines (ascii "G") naming (variable_name []) o.goal.constraints in
      let one = end_listing naming (variable_name []) (first_end p o) in
      let two = end_listing naming (variable_name []) (second_end p o) in
      let named : All Short first =
      also (all-member short few.first_rule) (also (all-member short few.second_rule) C.none) in
      omega (
        arith,
        few.few-partners,
        length-append head (pairs ++ (rows ++ (one ++ two))),
        length-append pairs (rows ++ (one ++ two)),
        length-append rows (one ++ two),
        length-append one two,
        line-few (ascii "UNJOINED") first named,
        pairs-few 1 o.partners (omega (arith, few.few-partners)) few.low-partners,
        goal-few p.symbols o.goal symbols few.goal,
        side-few p naming o.goal (first_end p o) symbols names few.goal few.one,
        side-few p naming o.goal (second_end p o) symbols names few.goal few.two,
      )

  -- the listing of a pass
  pass-few : (n : ℕ) → n ≤ 640000 → length (verdict_listing naming (confluent n)) ≤ 21980
  unfolding verdict_listing ascii
  pass-few n h =
      omega (arith, line-few (ascii "CONFLUENT") (decimal n ∷ []) (also (decimal-short n (omega arith)) C.none))

-- what holds of the listing of a pass, and of every overlap that does not join, holds of the listing of a check
pub check-holds :
    (P : List ℕ → Type 0) (program : List ℕ) (p : Reading) → read_program program ≡ accepted p
    → ((n : ℕ) → n ≤ 640000 → P (verdict_listing (naming_of p.program.symbols p.constants) (confluent n)))
    → ((o : Overlap) → OverlapFew p.program o
    → P (verdict_listing (naming_of p.program.symbols p.constants)
    (unjoined o (first_end p.program o) (second_end p.program o)))) → P (check_listing p)
unfolding check_listing
check-holds P program p reads pass fail = go (verdict p.program) refl
  where
    small : ReadSmall p
    small = read_small program reads

    heads : All (λ r. length r.heads ≤ 4) p.program.rules
    heads = all-mono (λ r h. h.heads-few) small.rules

    few : Few p.program
    few = record { formed = read-well_formed program reads; symbols = small.symbols; heads = heads }

    go : (v : Verdict) → verdict p.program ≡ v → P (verdict_listing (naming_of p.program.symbols p.constants) v)
    go (confluent n) e =
        let counted : n ≡ length (overlaps p.program) = (verdict-confluent p.program e).1 in
        pass n (omega (arith, counted, overlaps-few p.program small.few-rules heads))
    go (unjoined o one two) e =
        let (first, a, b) = verdict-unjoined p.program e in
        let l = overlaps-member p.program (at-member (overlaps p.program) first.number first.listed) in
        rw (a, b) (fail o (listed-few p.program few l))

-- the listing of a check has at most 27 + 80 + 329 + 2 · (13 + 28 · 20 + 217 · 47) bytes
pub check-few : (program : List ℕ) (p : Reading) → read_program program ≡ accepted p → length (check_listing p) ≤ 21980
check-few program p reads =
    let small : ReadSmall p = read_small program reads in
    let short : ShortProgram p = reads-accepted 9 ShortProgram (read_program program) (program-short program) reads in
    let naming = naming_of p.program.symbols p.constants in
    let names = naming-short p.program.symbols p.constants short.symbols short.constants in
    check-holds (λ bytes. length bytes ≤ 21980) program p reads (λ n h. pass-few naming names n h)
    (λ o few. unjoined-few naming names p.program o small.symbols short.rules few)

-- so it fits the room that the programs lend
pub check-fits : (program : List ℕ) (p : Reading) → read_program program ≡ accepted p → length (check_listing p) ≤ ample
unfolding ample
check-fits program p e = omega (arith, check-few program p e)

-- a listing of a verdict does not begin as a refusal does
verdict-begins : (naming : Naming) (v : Verdict) → get_or (verdict_listing naming v) 0 0 ≡ 82 → ⊥
unfolding verdict_listing line_of ascii
verdict-begins naming (confluent n) e = omega arith
verdict-begins naming (unjoined o one two) e = omega arith

check-begins : (p : Reading) → get_or (check_listing p) 0 0 ≡ 82 → ⊥
unfolding check_listing
check-begins p = verdict-begins (naming_of p.program.symbols p.constants) (verdict p.program)

-- every reply of a check is a refusal that reading may answer, or the listing of a program
pub check-answered : (program : List ℕ) → Answered (check_reply program ample)
unfolding check_reply reply_of
check-answered program = go (read_program program) refl
  where
    go :
        (a : Answer Reading) → read_program program ≡ a
        → Answered (reply_of program_text a (λ p. fitted program_text ample (check_listing p)))
    go (refused n l) k =
        refused_by n program_text l
        (omega (arith, (reads-refused 9 ShortProgram (read_program program) (program-short program) k).most))
    go (accepted p) k =
        subst Answered (sym (fitted-listed program_text ample (check_listing p) (check-fits program p k)))
        (listed (check_listing p) (check-begins p))

-- `sheetcheck` never prints number 11
pub check-never-eleven : (input : List ℕ) (text : Text) (line : ℕ) → sheetcheck input ≡ printed (refusal 11 text line) → ⊥
unfolding sheetcheck
check-never-eleven input text line e = eleven (check_reply input ample) text line (check-answered input) e
