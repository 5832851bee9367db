-- Every listing of a run fits the room that the programs lend: `run_fits`. So `sheetrun` never prints number 11: `never-eleven`.
--   order-few, end-order-few      how many variables appear; in an end
--   unbound-all, shown-all        what holds of the name of a variable of an end, and of a term as shown
--   naming-all, naming-short      what holds of every name of a reading; it has at most 8 bytes
--   end-few, final-few            the bytes of an end, by the counts of its lines; by its goal variables and its weight
--   run-weighs                    firings and the weight of the end are within the goal's weight
--   run-few, run_fits             the listing of a run has at most 24,597 bytes, and fits
--   run-listed                    so texts that read get their listing
--   Answered, run-answered        any other reply has a number of at most 10
-- Assumes nothing.
use Prim.Native.Nat.{ℕ, zero, suc, ◌+◌, ◌-◌, ◌*◌, ◌≤◌, ◌<◌}
use native.Mathlib.Decide.{dec_lt}
use native.Mathlib.Omega.{arith}
use mathlib.Core.Bool.{Bool, true, false, cond}
use mathlib.Core.List.{List, [], ◌∷◌, ◌++◌}
use mathlib.Core.Path.{◌≡◌, refl, sym, ap, subst, ◌∙◌}
use lib.Dec.{ltb, eqb}
use lib.ListN.{length, length-append, get_or}
use borrow.Author.Tests.{ltb-true, eqb-true}
use Rattle.text.specs.Bytes.{ascii}
use Rattle.text.specs.Lists.{has, index_from, up_to}
use Rattle.text.specs.Lines.{parted}
use Rattle.text.specs.Fields.{decimal_from, decimal}
use Rattle.semantics.specs.Terms.{Term, con, var, Constraint, Symbol, Rule, Program, Goal, State, failed, live}
use Rattle.semantics.specs.Terms.{no_symbol, symbol_at, weight, is_declared, is_well_formed}
use Rattle.semantics.specs.Strategy.{goal_state, run}
use Rattle.semantics.specs.Overlaps.{appearing_in, appearing}
use Rattle.semantics.proofs.Configurations.{All, also}
use Rattle.semantics.proofs.Configurations as C
use Rattle.text.proofs.Bools.{and-true}
use Rattle.text.proofs.Laws.{tabled-length}
use Rattle.semantics.proofs.Multisets.{all-mono, all-of-members}
use Rattle.semantics.proofs.Normal.{Reach, arrived, fires, normalise-reach}
use Rattle.semantics.proofs.Weights.{weight-cons, state_weight, fire_at-lighter}
use Rattle.semantics.proofs.Vocabulary.{TermOver, ConstraintOver, RuleOver, SpokenState, run-spoken}
use Rattle.syntax.specs.Forms.{first_constant}
use Rattle.syntax.specs.Answers.{Answer, refused, accepted}
use Rattle.syntax.specs.Programs.{Reading, read_program}
use Rattle.syntax.specs.Goals.{GoalReading, read_goal}
use Rattle.syntax.proofs.WellFormed.{read-well_formed}
use Rattle.syntax.proofs.Vocabulary.{SymbolSmall, ReadSmall, read_small}
use Rattle.syntax.proofs.GoalVocabulary.{ReadGoal, goal-small}
use Rattle.listing.specs.Listing.{fields_behind, line_of, Naming, naming_of, term_shown}
use Rattle.listing.specs.Listing.{constraint_lines, numbered_as, unbound, bound_lines, state_listing, end_listing}
use Rattle.text.proofs.Decimals.{decimal-low, decimal-high}
use Rattle.listing.proofs.SizeLaws.{Short, decimal-short, number_short, place-all, line-few, rows_few, bounds-few}
use Rattle.replies.specs.Replies.{Text, program_text, goal_text, Reply, refusal, listing, reply_of, fitted}
use Rattle.replies.specs.Replies.{run_listing, run_reply, printed, ample, sheetrun}
use Rattle.replies.proofs.Elements.{all-at}
use Rattle.replies.proofs.Demand3.{fitted-listed}
use Rattle.replies.proofs.ShortNames.{ShortProgram, ShortGoal, program-short, goal-short, reads-accepted}
use Rattle.replies.proofs.ShortNames.{TermedProgram, program-termed, reads-refused}

-- a place is at most behind the last
index-few : (t : ℕ → Bool) (i : ℕ) (xs : List ℕ) → index_from t i xs ≤ i + length xs
index-few t i [] = omega arith
index-few t i (x ∷ xs) = go (t x) (index-few t (suc i) xs)
  where
    go : (b : Bool) → index_from t (suc i) xs ≤ suc i + length xs → cond b i (index_from t (suc i) xs) ≤ i + suc (length xs)
    go true h = omega arith
    go false h = omega arith

-- how many variables appear: no more than there are terms
terms-few : (seen : List ℕ) (ts : List Term) → length (appearing_in seen ts) ≤ length seen + length ts
unfolding appearing_in
terms-few seen [] = omega arith
terms-few seen (con c ∷ ts) = omega (arith, terms-few seen ts)
terms-few seen (var x ∷ ts) =
    omega (arith, terms-few (cond (has x seen) seen (seen ++ (x ∷ []))) ts, go (has x seen))
  where
    go : (b : Bool) → length (cond b seen (seen ++ (x ∷ []))) ≤ suc (length seen)
    go true = omega arith
    go false = omega (arith, length-append seen (x ∷ []))

pub order-few :
    (seen : List ℕ) (cs : List Constraint) → All (λ c. length c.terms ≤ 4) cs
    → length (appearing seen cs) ≤ length seen + 4 * length cs
unfolding appearing
order-few seen [] few = omega arith
order-few seen (c ∷ cs) (also h few) =
    omega (arith, order-few (appearing_in seen c.terms) cs few, terms-few seen c.terms)

-- the variables that appear in an end
pub end-order-few :
    (bound : List Term) (cs : List Constraint) → All (λ c. length c.terms ≤ 4) cs
    → length (appearing (appearing_in (up_to (length bound)) bound) cs) ≤ 2 * length bound + 4 * length cs
end-order-few bound cs few =
    let goal = up_to (length bound) in
    omega (arith, order-few (appearing_in goal bound) cs few, terms-few goal bound, tabled-length (λ i. i) (length bound))

-- what holds of all names, by their numbers
module _ (P : List ℕ → Type 0) where
  -- of the name of a variable of an end: a goal variable's own, or a U number
  pub unbound-all :
      (variable : ℕ → List ℕ) (n : ℕ) (order : List ℕ) (x : ℕ) → ((i : ℕ) → i < n → P (variable i))
      → ((i : ℕ) → i ≤ length order → P (numbered_as (85 ∷ []) i)) → P (unbound variable n order x)
  unfolding unbound
  unbound-all variable n order x own other =
      let i = index_from (eqb x) 0 order in
      let few = index-few (eqb x) 0 order in
      place-all P variable n i (own i) (λ j h. other j (omega (arith, h, few)))

  -- of a name by its number, where all have it, and the empty name
  name-at : {l : List (List ℕ)} (i : ℕ) → P [] → All P l → P (get_or l i [])
  name-at i h C.none = h
  name-at zero h (also k all) = k
  name-at (suc i) h (also k all) = name-at i h all

  symbol-at : {l : List Symbol} (i : ℕ) → P [] → All (λ s. P s.name) l → P (symbol_at l i).name
  unfolding symbol_at no_symbol
  symbol-at i h C.none = h
  symbol-at zero h (also k all) = k
  symbol-at (suc i) h (also k all) = symbol-at i h all

  -- of every name that a naming has of such symbols and constants
  pub naming-all :
      (symbols : List Symbol) (constants : List (List ℕ)) → P [] → All (λ s. P s.name) symbols → All P constants → (n : ℕ)
      → P (naming_of symbols constants n)
  unfolding naming_of
  naming-all symbols constants h named all n = go (ltb n first_constant)
    where
      go : (b : Bool) → P (cond b (symbol_at symbols n).name (get_or constants (n - first_constant) []))
      go true = symbol-at n h named
      go false = name-at (n - first_constant) h all

  -- of a term, where all names and variables as shown have it
  pub shown-all : (naming : Naming) (shown : ℕ → List ℕ) → ((n : ℕ) → P (naming n)) → ((x : ℕ) → P (shown x)) → (t : Term)
      → P (term_shown naming shown t)
  unfolding term_shown
  shown-all naming shown names variables (con c) = names c
  shown-all naming shown names variables (var x) = variables x

-- every name that a naming has of short symbols and constants
pub naming-short :
    (symbols : List Symbol) (constants : List (List ℕ)) → All (λ s. Short s.name) symbols → All Short constants → (n : ℕ)
    → Short (naming_of symbols constants n)
naming-short symbols constants short all n = naming-all Short symbols constants (omega arith) short all n

-- the bytes of an end, by the counts of its lines
end-few :
    (naming : Naming) (variable : ℕ → List ℕ) (f next : ℕ) (bound : List Term) (cs : List Constraint)
    → ((n : ℕ) → Short (naming n)) → ((x : ℕ) → x < length bound → Short (variable x))
    → All (λ c. length c.terms ≤ 4) cs → f < 10000 → 2 * length bound + 4 * length cs < 9999
    → length (state_listing naming variable f (live next bound cs)) ≤ 13 + (20 * length bound + 47 * length cs)
unfolding state_listing ascii
end-few naming variable f next bound cs names short few low room =
    let n = length bound in
    let goal = up_to n in
    let order = appearing (appearing_in goal bound) cs in
    let shown = unbound variable n order in
    let variables : (x : ℕ) → Short (shown x) = λ x.
    unbound-all Short variable n order x short (λ i h. number_short 85 i (omega (arith, end-order-few bound cs few))) in
    let head = line_of (ascii "END") (decimal f ∷ []) in
    let bounds = bound_lines naming shown variable 0 bound in
    let rows = constraint_lines (ascii "S") naming shown cs in
    let terms : (ts : List Term) → All (λ t. Short (term_shown naming shown t)) ts = λ ts.
    all-of-members ts (λ t _. shown-all Short naming shown names variables t) in
    omega (
      arith,
      length-append head (bounds ++ rows),
      length-append bounds rows,
      line-few (ascii "END") (decimal f ∷ []) (also (decimal-short f (omega arith)) C.none),
      bounds-few naming shown names variable 0 bound (λ x h. short x (omega arith)) (terms bound),
      rows_few naming shown names (ascii "S") cs (omega arith) (all-mono (λ c h. (h, terms c.terms)) few),
    )

failed-few :
    (naming : Naming) (variable : ℕ → List ℕ) (f : ℕ) → f < 10000 → length (state_listing naming variable f failed) ≤ 16
unfolding state_listing ascii
failed-few naming variable f low =
    line-few (ascii "FAILED") (decimal f ∷ []) (also (decimal-short f (omega arith)) C.none)

-- the symbol of a declared constraint is one of the declared, and it has at most 4 terms
pub declared-small :
    (symbols : List Symbol) → All SymbolSmall symbols → (c : Constraint) → is_declared symbols c ≡ true
    → SymbolSmall (symbol_at symbols c.symbol)
unfolding is_declared symbol_at
declared-small symbols small c h =
    let known = (and-true (ltb c.symbol (length symbols)) _ h).0 in
    all-at no_symbol c.symbol small (ltb-true c.symbol (length symbols) known)

pub declared-few :
    (symbols : List Symbol) → All SymbolSmall symbols → (c : Constraint) → is_declared symbols c ≡ true → length c.terms ≤ 4
unfolding is_declared
declared-few symbols small c h =
    let arity = (symbol_at symbols c.symbol).arity in
    let counted = (and-true (ltb c.symbol (length symbols)) (eqb (length c.terms) arity) h).1 in
    omega (
      arith,
      eqb-true (length c.terms) arity counted,
      (declared-small symbols small c h).few,
    )

-- each weighs at least 1
pub constraints-few :
    (symbols : List Symbol) (cs : List Constraint) → All SymbolSmall symbols → All (λ c. is_declared symbols c ≡ true) cs
    → length cs ≤ weight symbols cs
constraints-few symbols [] small declared = omega arith
constraints-few symbols (c ∷ cs) small (also h declared) =
    omega (arith, weight-cons symbols c cs, (declared-small symbols small c h).heavy, constraints-few symbols cs small declared)

-- every constant is one, so that terms, constraints and rules are over them
abbrev pub AnyConstant : ℕ → Type 0
AnyConstant c = Unit {0}

term-any : (t : Term) → TermOver AnyConstant t
term-any (con c) = tt
term-any (var x) = tt

pub constraints-any : (cs : List Constraint) → All (ConstraintOver AnyConstant) cs
constraints-any cs = all-of-members cs (λ c _. all-of-members c.terms (λ t _. term-any t))

pub rules-any : (rs : List Rule) → All (RuleOver AnyConstant) rs
rules-any rs =
    all-of-members rs (λ r _. record {
      body = constraints-any r.body;
      equations = all-of-members r.equations (λ e _. (term-any e.left, term-any e.right));
    })

-- firings and the weight of what they reach are within the weight at their start
pub reach-weighs :
    (p : Program) → is_well_formed p ≡ true → {n : ℕ} {s u : State} → Reach p.rules n s u
    → state_weight p.symbols u + n ≤ state_weight p.symbols s
reach-weighs p w arrived = omega arith
reach-weighs p w (fires {s = s} {t = t} k r ps e f more) =
    omega (arith, reach-weighs p w more, fire_at-lighter p k r ps s t w e f)

run-weighs :
    (p : Program) (g : Goal) → is_well_formed p ≡ true
    → state_weight p.symbols (run p g).state + (run p g).firings ≤ weight p.symbols g.constraints
unfolding run goal_state state_weight
run-weighs p g w =
    let (n, reach, count) = normalise-reach p.rules (weight p.symbols g.constraints) (goal_state g) 0 in
    omega (arith, count, reach-weighs p w reach)

-- the bytes of an end of at most v goal variables that weighs at most w with its firings
pub final-few :
    (symbols : List Symbol) (naming : Naming) (variable : ℕ → List ℕ) (f : ℕ) (P : ℕ → Type 0) (v w number : ℕ) (s : State)
    → ((n : ℕ) → Short (naming n)) → ((x : ℕ) → x < v → Short (variable x)) → All SymbolSmall symbols
    → SpokenState symbols P v number s → state_weight symbols s + f ≤ w → 1 ≤ w → 2 * v + 4 * w < 9999
    → length (state_listing naming variable f s) ≤ 13 + (20 * v + 47 * w)
unfolding state_weight
final-few symbols naming variable f P v w number failed names short small spoken light some room =
    omega (arith, failed-few naming variable f (omega arith))
final-few symbols naming variable f P v w number (live next bound cs) names short small spoken light some room =
    let size : length bound ≡ v = spoken.size in
    let count = constraints-few symbols cs small spoken.declared in
    let terms : All (λ c. length c.terms ≤ 4) cs = all-mono (declared-few symbols small) spoken.declared in
    omega (
      arith,
      end-few naming variable f next bound cs names (λ x h. short x (omega arith)) terms (omega arith) (omega arith),
    )

-- the listing of a run has at most 13 + 26 · 20 + 512 · 47 bytes
pub run-few :
    (program goal : List ℕ) (p : Reading) (g : GoalReading) → read_program program ≡ accepted p
    → read_goal p.program.symbols p.constants goal ≡ accepted g → length (run_listing p g) ≤ 24597
unfolding run_listing end_listing
run-few program goal p g reads reads-goal =
    let symbols = p.program.symbols in
    let small : ReadSmall p = read_small program reads in
    let of-goal : ReadGoal p g = goal-small p goal small.few-constants reads-goal in
    let short : ShortProgram p = reads-accepted 9 ShortProgram (read_program program) (program-short program) reads in
    let termed : TermedProgram p = reads-accepted 9 TermedProgram (read_program program) (program-termed program) reads in
    let short-goal : ShortGoal p.constants g =
    reads-accepted 10 (ShortGoal p.constants) (read_goal symbols p.constants goal) (goal-short symbols p.constants goal)
    reads-goal in
    let formed = read-well_formed program reads in
    let spoken =
    run-spoken p.program AnyConstant g.goal formed of-goal.is-goal (rules-any p.program.rules)
    (constraints-any g.goal.constraints) in
    let names = naming-short symbols g.constants short.symbols (short-goal.constants termed.constants) in
    let letters : g.goal.variables ≤ 26 = omega (arith, of-goal.lettered, of-goal.few-letters) in
    omega (
      arith,
      final-few symbols (naming_of symbols g.constants) (λ x. get_or g.letters x []) (run p.program g.goal).firings
          AnyConstant g.goal.variables 512 _ (run p.program g.goal).state names
          (λ x _. name-at Short x (omega arith) short-goal.letters) small.symbols spoken
          (omega (arith, run-weighs p.program g.goal formed, of-goal.light)) (omega arith) (omega arith),
    )

-- so it fits the room that the programs lend
pub run_fits :
    (program goal : List ℕ) (p : Reading) (g : GoalReading) → read_program program ≡ accepted p
    → read_goal p.program.symbols p.constants goal ≡ accepted g → length (run_listing p g) ≤ ample
unfolding ample
run_fits program goal p g e f = omega (arith, run-few program goal p g e f)

-- so a program and a goal that read get their listing
pub run-listed :
    (program goal : List ℕ) (p : Reading) (g : GoalReading) → read_program program ≡ accepted p
    → read_goal p.program.symbols p.constants goal ≡ accepted g → run_reply program goal ample ≡ listing (run_listing p g)
unfolding run_reply reply_of
run-listed program goal p g e f = rw (e, f) (fitted-listed goal_text ample (run_listing p g) (run_fits program goal p g e f))

-- a reply that is not number 11: a refusal by at most number 10, or a listing that does not begin as a refusal does
pub data Answered : Reply → Type 0 where
  refused_by : (number : ℕ) (text : Text) (line : ℕ) → number ≤ 10 → Answered (refusal number text line)
  listed : (bytes : List ℕ) → (get_or bytes 0 0 ≡ 82 → ⊥) → Answered (listing bytes)

-- the first byte of the listing of an end
first_byte : (naming : Naming) (variable : ℕ → List ℕ) (f : ℕ) (s : State) → get_or (state_listing naming variable f s) 0 0 ≤ 70
unfolding state_listing line_of ascii
first_byte naming variable f failed = omega arith
first_byte naming variable f (live next bound cs) = omega arith

run-begins : (p : Reading) (g : GoalReading) → get_or (run_listing p g) 0 0 ≡ 82 → ⊥
unfolding run_listing end_listing
run-begins p g e =
    let f = run p.program g.goal in
    let naming = naming_of p.program.symbols g.constants in
    omega (arith, first_byte naming (λ x. get_or g.letters x []) f.firings f.state)

-- so is every reply of a run
pub run-answered : (program goal : List ℕ) → Answered (run_reply program goal ample)
unfolding run_reply reply_of
run-answered program goal = go (read_program program) refl
  where
    goals :
        (p : Reading) → read_program program ≡ accepted p → (a : Answer GoalReading)
        → read_goal p.program.symbols p.constants goal ≡ a
        → Answered (reply_of goal_text a (λ g. fitted goal_text ample (run_listing p g)))
    goals p k (refused n l) h =
        refused_by n goal_text l
        (reads-refused 10 (ShortGoal p.constants) (read_goal p.program.symbols p.constants goal)
        (goal-short p.program.symbols p.constants goal) h).most
    goals p k (accepted g) h =
        subst Answered (sym (fitted-listed goal_text ample (run_listing p g) (run_fits program goal p g k h)))
        (listed (run_listing p g) (run-begins p g))

    go :
        (a : Answer Reading) → read_program program ≡ a
        → Answered (reply_of program_text a (λ p. reply_of goal_text (read_goal p.program.symbols p.constants goal)
        (λ g. fitted goal_text ample (run_listing p g))))
    go (refused n l) k =
        refused_by n program_text l
        (omega (arith, (reads-refused 9 ShortProgram (read_program program) (program-short program) k).most))
    go (accepted p) k = goals p k (read_goal p.program.symbols p.constants goal) refl

-- the tenth byte of a printed refusal, by its number
tenth-byte : (number : ℕ) (text : Text) (line : ℕ) → number ≤ 10 → get_or (printed (refusal number text line)) 9 0 ≤ 48
unfolding printed line_of fields_behind ascii
tenth-byte number text line h = elim (dec_lt number 10) [
  | yes k ↦ rw (decimal-low number k) (omega arith)
  | no k ↦
      let ten : number ≡ 10 = omega (arith, k) in
      rw (ten, decimal-ten) (omega arith)
]
  where
    decimal-ten : decimal 10 ≡ 49 ∷ 48 ∷ []
    decimal-ten = decimal-high 10 (omega arith) ∙ ap (λ (s : List ℕ). s ++ (48 ∷ [])) (decimal-low 1 (omega arith))

-- what is printed of such a reply is not number 11
pub eleven : (r : Reply) (text : Text) (line : ℕ) → Answered r → printed r ≡ printed (refusal 11 text line) → ⊥
unfolding printed line_of fields_behind ascii decimal decimal_from
eleven r text line (refused_by number t l h) e =
    let z : get_or (printed (refusal number t l)) 9 0 ≡ 49 = ap (λ (s : List ℕ). get_or s 9 0) e in
    omega (arith, tenth-byte number t l h)
eleven r text line (listed bytes h) e = h (ap (λ (s : List ℕ). get_or s 0 0) e)

-- so `sheetrun` never prints it
pub never-eleven : (input : List ℕ) (text : Text) (line : ℕ) → sheetrun input ≡ printed (refusal 11 text line) → ⊥
unfolding sheetrun
never-eleven input text line e =
    let parts = parted input in
    eleven (run_reply parts.program parts.goal ample) text line (run-answered parts.program parts.goal) e
