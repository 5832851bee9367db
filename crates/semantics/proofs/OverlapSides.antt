-- The sides of an overlap of a program are the two states of its critical pair (document 000, definitions 3.4 and 3.5).
--   overlap-critical       an overlap is a critical pair, by the joints of its partners
--   overlap-sides          and its two sides are the pair's states, under the unifier
-- Assumes nothing.
use Prim.Native.Nat.{ℕ, ◌+◌, ◌<◌}
use mathlib.Core.Bool.{true}
use mathlib.Core.List.{List, [], ◌++◌, map, map-append, map-map}
use mathlib.Core.Option.{some}
use mathlib.Core.Path.{◌≡◌, refl, sym, ap, subst, subst₃, ◌∙◌}
use native.Mathlib.Omega.{arith}
use lib.Dec.{eqb}
use lib.ListN.{length, get_elem?}
use Rattle.text.specs.Lists.{has, index_from, tabled}
use Rattle.semantics.specs.Terms.{Term, Constraint, Equation, Rule, Program, State, map_terms, alphabet, is_well_formed}
use Rattle.semantics.specs.Terms as T
use Rattle.semantics.specs.Firing.{without}
use Rattle.semantics.specs.Overlaps.{unjoined_heads, appearing, numbered, goal_of, Numbered, Overlap}
use Rattle.semantics.specs.Published.{EquatedAll, renamed, Cleared, Published, Represents}
use Rattle.semantics.specs.CriticalPairs.{lefts, rights, joints_of, picked, shifted, shifted_heads, pair_of, Critical}
use Rattle.semantics.specs.CriticalPairs.{critical, left_state, right_state, joined, goal_terms, with_terms}
use Rattle.semantics.specs.Correspondence.{Sides}
use Rattle.semantics.specs.Rewriting.{rewritten}
use Rattle.semantics.proofs.Configurations.{Or, inl, inr, Member, TermBelow, All, Rep, lift_atom, fire_c, conf_of}
use Rattle.semantics.proofs.Options.{true-false}
use Rattle.semantics.proofs.Multisets.{member-map, member-unmap, member-append, member-append-left, member-append-right}
use Rattle.semantics.proofs.Multisets.{all-member, all_map, all-mono, all-of-members}
use Rattle.semantics.proofs.SolveLaws.{solve-solution, solve-keeps}
use Rattle.semantics.proofs.MatchedTerms.{without_all}
use Rattle.semantics.proofs.Renamings.{Separates, Avoids, ConstraintAvoids}
use Rattle.semantics.proofs.Pairings.{leftover, alone, leftover-map, alone-map, unjoined-leftover}
use Rattle.semantics.proofs.Listings.{member-at}
use Rattle.semantics.proofs.Indices.{get_elem_map, get_elem-at, index-stands, has-at}
use Rattle.semantics.proofs.Appearing.{appearing-known, appearing-has, appearing-from}
use Rattle.semantics.proofs.Enumeration.{IsPairing, OverlapParts, overlap-parts, Listed, pairings-member}
use Rattle.semantics.proofs.JoinLaws.{join-agreed}
use Rattle.semantics.proofs.OverlapGoals.{second_heads, goal-variables, first-end, second-end}
use Rattle.semantics.proofs.Sides.{first-side, second-side}
use Rattle.semantics.proofs.Valuations.{solved-satisfiable}
use Rattle.semantics.proofs.RuleLetters.{AllLetters, program-letters}
use Rattle.semantics.proofs.Joinings.{pairing-joining}
use Rattle.semantics.proofs.ChosenHeads.{join-equated, without-rights, without-lefts, shifted-heads}
use Rattle.semantics.proofs.GoalTerms.{goal_order, goal_number, number-variable, InGoal}
use Rattle.semantics.proofs.PairSides.{Within, own_heads, OfHeads}
use Rattle.semantics.proofs.JoinedHeads.{heads-same, agreed-member, leftover-member, equated-sides, picked-member}
use Rattle.semantics.proofs.PairStates.{side-represents}

-- what is left of a list is of the list
without-member : {c : Constraint} (k : ℕ) (ps : List ℕ) (cs : List Constraint) → Member c (without k ps cs) → Member c cs
without-member k ps cs i = all-member (without_all k ps (all-of-members cs (λ c j. j))) i

-- a variable of the second rule is no letter, and a letter is none of these
shifted-avoids : (t : Term) → Avoids (λ x. x) (renamed shifted t)
unfolding renamed shifted
shifted-avoids (T.con c) = tt
shifted-avoids (T.var x) = λ y h e. omega arith

letter-avoids : (t : Term) → TermBelow alphabet t → Avoids shifted t
unfolding shifted
letter-avoids (T.con c) h = tt
letter-avoids (T.var x) h = λ y k e. omega arith

shifted-separates : Separates shifted
unfolding shifted
shifted-separates x y h k e = omega arith

-- the equations that are solved are those between the chosen heads
parts-equated :
    {i j : Numbered} {ds : List ℕ} {o : Overlap} → IsPairing (length i.rule.heads) (length j.rule.heads) ds
    → (parts : OverlapParts i j ds o)
    → EquatedAll (picked i.rule.heads (lefts (joints_of ds))) (picked (shifted_heads j.rule) (rights (joints_of ds)))
    parts.equations
unfolding joints_of
parts-equated {i} {j} {ds} paired parts =
    subst (λ g. EquatedAll (picked i.rule.heads (lefts (joints_of ds))) (picked g (rights (joints_of ds))) parts.equations)
    (shifted-heads j.rule)
    (join-equated i.rule.heads 0 i.rule.heads ds (second_heads j)
    (λ k. ap (get_elem? i.rule.heads) (let z : 0 + k ≡ k = omega arith in z)) paired.long parts.joined)

-- an overlap is a critical pair
pub overlap-critical :
    {i j : Numbered} {ds : List ℕ} {o : Overlap} → IsPairing (length i.rule.heads) (length j.rule.heads) ds
    → (parts : OverlapParts i j ds o)
    → Critical (rewritten i.rule) (rewritten j.rule) (joints_of ds)
    (pair_of (rewritten i.rule) (rewritten j.rule) (joints_of ds) parts.equations)
unfolding shifted_heads
overlap-critical {i} {j} {ds} paired parts =
    critical (pairing-joining (length i.rule.heads) (length j.rule.heads) ds paired) (parts-equated paired parts)
    (solved-satisfiable parts.equations parts.solved)

module _ (p : Program) (w : is_well_formed p ≡ true) (o : Overlap) (listed : Listed p o) where
  -- its two rules, their heads, and its partners
  abbrev one : Rule
  one = o.first.rule

  abbrev two : Rule
  two = o.second.rule

  abbrev firsts : List Constraint
  firsts = one.heads

  abbrev seconds : List Constraint
  seconds = shifted_heads two

  abbrev ds : List ℕ
  ds = o.partners

  -- what it was made from
  abbrev parts : OverlapParts o.first o.second ds o
  parts = overlap-parts o.first o.second ds listed.made

  abbrev es : List Equation
  es = parts.equations

  abbrev σ : Term → Term
  σ = parts.solution

  paired : IsPairing (length firsts) (length two.heads) ds
  paired = pairings-member (length firsts) (length two.heads) ds listed.paired

  -- the equations are those between the chosen heads
  equated : EquatedAll (picked firsts (lefts (joints_of ds))) (picked seconds (rights (joints_of ds))) es
  equated = parts-equated paired parts

  -- the second rule's heads that are not joined, and the constraints of the goal before the unifier
  second-rest : without 0 (rights (joints_of ds)) seconds ≡ leftover 1 (second_heads o.second) ds
  unfolding joints_of
  second-rest =
      ap (without 0 (rights (joints_of ds))) (sym (shifted-heads two)) ∙ without-rights 0 0 ds (second_heads o.second)
      ∙ unjoined-leftover 1 (second_heads o.second) ds

  first_rest : without 0 (lefts (joints_of ds)) firsts ≡ alone firsts ds
  unfolding joints_of
  first_rest = without-lefts 0 ds firsts paired.long

  abbrev beforehand : List Constraint
  beforehand = firsts ++ unjoined_heads 1 (second_heads o.second) ds

  joined-heads : joined one two (joints_of ds) ≡ beforehand
  unfolding joined
  joined-heads = ap (firsts ++◌) (second-rest ∙ sym (unjoined-leftover 1 (second_heads o.second) ds))

  -- every term of the heads is in the goal, under the unifier
  abbrev InIt : Term → Type 0
  InIt t = InGoal es σ parts.solved beforehand t

  listed-terms :
      (c : Constraint) {t : Term} → Member (map_terms σ c) (map (map_terms σ) beforehand) → Member t c.terms → InIt t
  unfolding map_terms
  listed-terms c i j = all-member (appearing-known i) (member-map σ j)

  first-in : {t : Term} → Within firsts t → InIt t
  first-in (c, i, j) =
      listed-terms c (member-map (map_terms σ) (member-append-left (unjoined_heads 1 (second_heads o.second) ds) i)) j

  second-in : {t : Term} → Within seconds t → InIt t
  second-in (c, i, j) =
      let k : Member c (second_heads o.second) = subst (Member c) (sym (shifted-heads two)) i in
      let agreed = join-agreed firsts ds (second_heads o.second) parts.joined paired.long σ
      (λ e m. (solve-solution es parts.solved).joins m) in
      listed-terms c (go (agreed-member 1 (map (map_terms σ) firsts) (map (map_terms σ) (second_heads o.second)) ds agreed
      (member-map (map_terms σ) k))) j
    where
      go :
          {d : Constraint}
          → Or (Member d (map (map_terms σ) firsts)) (Member d (leftover 1 (map (map_terms σ) (second_heads o.second)) ds))
          → Member d (map (map_terms σ) beforehand)
      go (inl m) =
          rw map-append (member-append-left (map (map_terms σ) (unjoined_heads 1 (second_heads o.second) ds)) m)
      go {d} (inr m) =
          let gs = second_heads o.second in
          rw (map-append (map_terms σ) firsts (unjoined_heads 1 gs ds), unjoined-leftover 1 gs ds)
          (member-append-right (map (map_terms σ) firsts) (subst (Member d) (leftover-map (map_terms σ) 1 gs ds) m))

  -- the variables of all heads are terms of the heads
  variables-of : (x : ℕ) → Member x (appearing [] (firsts ++ seconds)) → Or (Within firsts (T.var x)) (Within seconds (T.var x))
  variables-of x i =
      let (k, at) = member-at i in
      go (appearing-from x [] (firsts ++ seconds) (has-at x (appearing [] (firsts ++ seconds)) k at))
    where
      go :
          Or (has x [] ≡ true) ((c : Constraint) × Member c (firsts ++ seconds) × Member (T.var x) c.terms)
          → Or (Within firsts (T.var x)) (Within seconds (T.var x))
      go (inl h) = true-false h refl
      go (inr (c, m, j)) = part (member-append firsts m)
        where
          part : Or (Member c firsts) (Member c seconds) → Or (Within firsts (T.var x)) (Within seconds (T.var x))
          part (inl k) = inl (c, k, j)
          part (inr k) = inr (c, k, j)

  -- the sides of the condition are
  condition-of : (e : Equation) → Member e es → Within firsts e.left × Within seconds e.right
  condition-of e i =
      let ((c, k, a), (d, l, b)) = equated-sides equated i in
      ((c, picked-member firsts (lefts (joints_of ds)) k, a), (d, picked-member seconds (rights (joints_of ds)) l, b))

  -- all variables of both rules are letters
  letters-one : AllLetters one
  letters-one = program-letters p o.first.number w listed.first_rule

  letters-two : AllLetters two
  letters-two = program-letters p o.second.number w listed.second_rule

  -- the second rule's heads have no letter of the first rule, and conversely
  seconds-avoid : All (ConstraintAvoids (λ x. x)) seconds
  unfolding shifted_heads map_terms
  seconds-avoid =
      all_map (map_terms (renamed shifted)) (all-of-members two.heads (λ c i. all_map (renamed shifted)
      (all-of-members c.terms (λ t j. shifted-avoids t))))

  firsts-avoid : All (ConstraintAvoids shifted) firsts
  firsts-avoid = all-mono (λ c h. all-mono letter-avoids h) letters-one.heads

  -- the variables of the two rules, in the goal
  abbrev variables : List ℕ
  variables = appearing [] (firsts ++ seconds)

  abbrev in_goal : Term → Term
  in_goal = goal_number es σ parts.solved beforehand

  goal_terms-are : goal_terms σ (joined one two (joints_of ds)) variables ≡ map in_goal (map T.var variables)
  unfolding goal_terms
  goal_terms-are =
      ap (λ cs. map (λ x. numbered (appearing [] (map (map_terms σ) cs)) (σ (T.var x))) variables) joined-heads
      ∙ sym (map-map in_goal T.var variables)

  -- every variable of the goal is one of these terms
  abbrev HeadTerm : Term → Type 0
  HeadTerm t = Or (Within firsts t) (Within seconds t)

  head-variable : (x : ℕ) → HeadTerm (T.var x) → has x variables ≡ true
  head-variable x (inl (c, i, j)) = appearing-has x [] (member-append-left seconds i) j
  head-variable x (inr (c, i, j)) = appearing-has x [] (member-append-right firsts i) j

  beforehand-terms : {c : Constraint} {t : Term} → Member c beforehand → Member t c.terms → HeadTerm t
  beforehand-terms {c} {t} i j = go (member-append firsts i)
    where
      go : Or (Member c firsts) (Member c (unjoined_heads 1 (second_heads o.second) ds)) → HeadTerm t
      go (inl k) = inl (c, k, j)
      go (inr k) =
          inr (
            c,
            subst (Member c) (shifted-heads two) (leftover-member 1 (second_heads o.second) ds
                (subst (Member c) (unjoined-leftover 1 (second_heads o.second) ds) k)),
            j,
          )

  goal-variable : (x : ℕ) → has x (goal_order es σ parts.solved beforehand) ≡ true → has x variables ≡ true
  unfolding map_terms
  goal-variable x h = go (appearing-from x [] (map (map_terms σ) beforehand) h)
    where
      go :
          Or (has x [] ≡ true) ((c : Constraint) × Member c (map (map_terms σ) beforehand) × Member (T.var x) c.terms)
          → has x variables ≡ true
      go (inl k) = true-false k refl
      go (inr (c, i, j)) =
          let (d, k, e) = member-unmap (map_terms σ) beforehand i in
          let (t, l, q) = member-unmap σ d.terms (subst (λ (a : Constraint). Member (T.var x) a.terms) e j) in
          head-variable x (subst HeadTerm (sym q) (solve-keeps HeadTerm es parts.solved
          (λ e m. let (a, b) = condition-of e m in (inl a, inr b)) t (beforehand-terms k l)))

  covered :
      (v : ℕ) → v < o.goal.variables
      → (n : ℕ) × (get_elem? (goal_terms σ (joined one two (joints_of ds)) variables) n ≡ some (T.var v))
  covered v h =
      let order = goal_order es σ parts.solved beforehand in
      let (x, at) = get_elem-at order v (subst (λ k. v < k) (goal-variables parts) h) in
      let n = index_from (eqb x) 0 variables in
      let stands : get_elem? variables n ≡ some x =
      index-stands x variables (goal-variable x (has-at x order v at)) in (
        n,
        ap (λ l. get_elem? l n) goal_terms-are ∙ get_elem_map in_goal (map T.var variables) n (get_elem_map T.var variables n stands)
            ∙ ap some (number-variable es σ parts.solved beforehand v at),
      )

  -- the configuration after a rule has fired in the goal
  abbrev Fired : State → Rule → ℕ → List Constraint → List Constraint → Type 1
  Fired s r k M L = Rep s (fire_c r (conf_of (tabled T.var k) o.goal.constraints) (map lift_atom M) (map lift_atom L))

  -- the first rule's side
  first-represents :
      (b : Published) → Cleared [] (left_state (pair_of (rewritten one) (rewritten two) (joints_of ds) es)) b
      → Represents b (with_terms (goal_terms σ (joined one two (joints_of ds)) variables) (first-end p listed).0)
  unfolding left_state pair_of shifted_heads
  first-represents b e =
      subst (λ ts. Represents b (with_terms ts (first-end p listed).0)) (sym goal_terms-are)
      (side-represents es σ parts.solved beforehand one (λ x. x) variables o.goal.constraints
      (without 0 (rights (joints_of ds)) seconds) seconds (λ x y h k z. z) letters-one seconds-avoid
      (λ d i. without-member 0 (rights (joints_of ds)) seconds i)
      (λ e i. let (x, y) = condition-of e i in (inl (itself x), inr y))
      (all_map T.var (all-of-members variables (λ x i. own-or-other (variables-of x i)))) known
      (subst₃ (Fired (first-end p listed).0 one) (goal-variables parts)
      (ap (map (map_terms in_goal)) (sym (heads-same firsts)))
      (leftover-map (map_terms in_goal) 1 (second_heads o.second) ds ∙ ap (map (map_terms in_goal)) (sym second-rest))
      (first-side p w o listed parts)) e)
    where
      itself : {t : Term} → Within firsts t → Within (own_heads one (λ x. x)) t
      itself {t} x = subst (λ cs. Within cs t) (sym (heads-same firsts)) x

      own-or-other : {t : Term} → Or (Within firsts t) (Within seconds t) → OfHeads (own_heads one (λ x. x)) seconds t
      own-or-other (inl x) = inl (itself x)
      own-or-other (inr x) = inr x

      known : (t : Term) → OfHeads (own_heads one (λ x. x)) seconds t → InIt t
      known t (inl x) = first-in (subst (λ cs. Within cs t) (heads-same firsts) x)
      known t (inr x) = second-in x

  -- the second rule's side
  second-represents :
      (b : Published) → Cleared [] (right_state (pair_of (rewritten one) (rewritten two) (joints_of ds) es)) b
      → Represents b (with_terms (goal_terms σ (joined one two (joints_of ds)) variables) (second-end p listed).0)
  unfolding right_state pair_of shifted_heads
  second-represents b e =
      subst (λ ts. Represents b (with_terms ts (second-end p listed).0)) (sym goal_terms-are)
      (side-represents es σ parts.solved beforehand two shifted variables o.goal.constraints
      (without 0 (lefts (joints_of ds)) firsts) firsts shifted-separates letters-two firsts-avoid
      (λ d i. without-member 0 (lefts (joints_of ds)) firsts i)
      (λ e i. let (x, y) = condition-of e i in (inr x, inl y))
      (all_map T.var (all-of-members variables (λ x i. own-or-other (variables-of x i)))) known
      (subst₃ (Fired (second-end p listed).0 two) (goal-variables parts)
      (ap (map (map_terms in_goal)) (shifted-heads two))
      (alone-map (map_terms in_goal) firsts ds ∙ ap (map (map_terms in_goal)) (sym first_rest))
      (second-side p w o listed parts)) e)
    where
      own-or-other : {t : Term} → Or (Within firsts t) (Within seconds t) → OfHeads seconds firsts t
      own-or-other (inl x) = inr x
      own-or-other (inr x) = inl x

      known : (t : Term) → OfHeads seconds firsts t → InIt t
      known t (inl x) = second-in x
      known t (inr x) = first-in x

  -- both sides
  pub overlap-sides : Sides o (joints_of ds) (pair_of (rewritten one) (rewritten two) (joints_of ds) es)
  unfolding pair_of shifted_heads
  overlap-sides = record {
    unifier = σ;
    solved = parts.solved;
    goal = ap (λ (x : Overlap). x.goal) parts.made ∙ ap (λ cs. goal_of (map (map_terms σ) cs)) (sym joined-heads);
    terms = goal_terms σ (joined one two (joints_of ds)) variables;
    given = refl;
    covered = covered;
    first = record { state = (first-end p listed).0; fires = (first-end p listed).1; represents = first-represents };
    second = record { state = (second-end p listed).0; fires = (second-end p listed).1; represents = second-represents };
  }
