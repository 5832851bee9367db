-- The goal of an overlap and both of its ends are over the constants of its rules.
--   goal-over         the goal's constraints
--   Shows             what is shown of an unjoined overlap is over declared symbols and such constants
--   overlap-shows     so it is for the verdict on a program over them
-- Assumes nothing.
use Prim.Native.Nat.{ℕ, zero, suc, ◌+◌, ◌*◌}
use mathlib.Core.List.{List, [], ◌∷◌, ◌++◌, map}
use mathlib.Core.Bool.{true}
use mathlib.Core.Option.{some}
use mathlib.Core.Path.{◌≡◌, refl, sym, subst}
use lib.Dec.{eqb}
use lib.ListN.{get_elem?}
use Rattle.text.specs.Lists.{bind}
use Rattle.semantics.specs.Terms.{Term, con, var, Constraint, Equation, Symbol, Rule, Program, map_terms, alphabet}
use Rattle.semantics.specs.Terms.{is_declared, is_well_formed}
use Rattle.semantics.specs.Strategy.{Final, goal_state}
use Rattle.semantics.specs.Overlaps.{equate_terms, equate, join_equations, apart, numbered, Numbered, Overlap, overlaps}
use Rattle.semantics.specs.Overlaps.{first_end, second_end}
use Rattle.semantics.specs.Verdict.{unjoined, verdict}
use Rattle.semantics.proofs.Configurations.{All, none, also}
use Rattle.semantics.proofs.Options.{none-some, bind-some, cond-some}
use Rattle.semantics.proofs.Indices.{some-equal}
use Rattle.semantics.proofs.Multisets.{all-member, all-of-members, all-mono, all_append, all_map}
use Rattle.semantics.proofs.Listings.{at-member}
use Rattle.semantics.proofs.Normal.{arrived}
use Rattle.semantics.proofs.SolveLaws.{solve-keeps}
use Rattle.semantics.proofs.Pairings.{leftover}
use Rattle.semantics.proofs.JoinedHeads.{leftover-member}
use Rattle.semantics.proofs.Enumeration.{OverlapParts, overlap-parts, overlaps-member}
use Rattle.semantics.proofs.OverlapGoals.{overlap_order, goal_term, goal_second, goal-constraints, listed-goal}
use Rattle.semantics.proofs.Vocabulary.{TermOver, ConstraintOver, RuleOver, SpokenState, reached-spoken, side-spoken}
use Rattle.semantics.proofs.Verdicts.{verdict-unjoined}

module _ (P : ℕ → Type 0) where
  abbrev SidesOver : Equation → Type 0
  SidesOver e = TermOver P e.left × TermOver P e.right

  -- the equations of joined heads over such constants
  terms-over : (ss ts : List Term) {es : List Equation} → equate_terms ss ts ≡ some es → All (TermOver P) ss → All (TermOver P) ts
      → All SidesOver es
  unfolding equate_terms
  terms-over [] [] p a b = subst (All SidesOver) (some-equal p) none
  terms-over [] (t ∷ ts) p a b = none-some refl p
  terms-over (s ∷ ss) [] p a b = none-some refl p
  terms-over (s ∷ ss) (t ∷ ts) p (also x a) (also y b) =
      let (more, q, e) = bind-some (equate_terms ss ts) (λ es. some (record { left = s; right = t } ∷ es)) p in
      subst (All SidesOver) (some-equal e) (also (x, y) (terms-over ss ts q a b))

  equate-over : (c d : Constraint) {es : List Equation} → equate c d ≡ some es → ConstraintOver P c → ConstraintOver P d
      → All SidesOver es
  unfolding equate
  equate-over c d p a b = terms-over c.terms d.terms (cond-some (eqb c.symbol d.symbol) p).1 a b

  joined-over : (hs : List Constraint) (ds : List ℕ) (gs : List Constraint) {es : List Equation}
      → join_equations hs ds gs ≡ some es → All (ConstraintOver P) hs → All (ConstraintOver P) gs → All SidesOver es
  unfolding join_equations
  joined-over [] ds gs p a b = subst (All SidesOver) (some-equal p) none
  joined-over (h ∷ hs) [] gs p a b = subst (All SidesOver) (some-equal p) none
  joined-over (h ∷ hs) (zero ∷ ds) gs p (also x a) b = joined-over hs ds gs p a b
  joined-over (h ∷ hs) (suc d ∷ ds) gs p (also x a) b =
      let (g, at, q) = bind-some (get_elem? gs d)
      (λ g. bind (equate h g) (λ es. bind (join_equations hs ds gs) (λ more. some (es ++ more)))) p in
      let (es, e, r) = bind-some (equate h g) (λ es. bind (join_equations hs ds gs) (λ more. some (es ++ more))) q in
      let (more, m, s) = bind-some (join_equations hs ds gs) (λ more. some (es ++ more)) r in
      subst (All SidesOver) (some-equal s)
      (all_append (equate-over h g e x (all-member b (at-member gs d at))) (joined-over hs ds gs m a b))

  -- renaming and numbering keep constants
  apart-over : (t : Term) → TermOver P t → TermOver P (apart t)
  unfolding apart
  apart-over (con c) h = h
  apart-over (var x) h = tt

  numbered-over : (order : List ℕ) (t : Term) → TermOver P t → TermOver P (numbered order t)
  unfolding numbered
  numbered-over order (con c) h = h
  numbered-over order (var x) h = tt

  -- constraints with their terms replaced
  mapped-over : (f : Term → Term) → ((t : Term) → TermOver P t → TermOver P (f t)) → {cs : List Constraint}
      → All (ConstraintOver P) cs → All (ConstraintOver P) (map (map_terms f) cs)
  unfolding map_terms
  mapped-over f keeps all = all_map (map_terms f) (all-mono (λ c h. all_map f (all-mono keeps h)) all)

  -- the goal of an overlap of rules whose heads are over such constants
  pub goal-over : {i j : Numbered} {ds : List ℕ} {o : Overlap} → OverlapParts i j ds o
      → All (ConstraintOver P) i.rule.heads → All (ConstraintOver P) j.rule.heads
      → All (ConstraintOver P) o.goal.constraints
  goal-over {i} {j} {ds} {o} parts a b =
      let second = mapped-over apart apart-over b in
      let joined = joined-over i.rule.heads ds (map (map_terms apart) j.rule.heads) parts.joined a second in
      let solved = solve-keeps (TermOver P) parts.equations parts.solved (λ e m. all-member joined m) in
      let keeps : (t : Term) → TermOver P t → TermOver P (goal_term parts t) =
      λ t h. numbered-over (overlap_order parts) (parts.solution t) (solved t h) in
      subst (All (ConstraintOver P)) (sym (goal-constraints parts))
      (all_append (mapped-over (goal_term parts) keeps a)
      (all-of-members (leftover 1 (goal_second parts) ds) (λ c m.
      all-member (mapped-over (goal_term parts) keeps second) (leftover-member 1 (goal_second parts) ds m))))

-- what is shown of an unjoined overlap: its goal and its ends are over declared symbols, and constants with a property
pub record Shows (symbols : List Symbol) (P : ℕ → Type 0) (o : Overlap) (one two : Final) : Type 0 where
  pub declared : All (λ c. is_declared symbols c ≡ true) o.goal.constraints
  pub goal : All (ConstraintOver P) o.goal.constraints
  pub first : SpokenState symbols P o.goal.variables (o.goal.variables + alphabet * one.firings) one.state
  pub second : SpokenState symbols P o.goal.variables (o.goal.variables + alphabet * two.firings) two.state

-- so it is where the program's rules are over such constants
pub overlap-shows : (p : Program) (P : ℕ → Type 0) {o : Overlap} {one two : Final} → is_well_formed p ≡ true
    → All (RuleOver P) p.rules → All (λ (r : Rule). All (ConstraintOver P) r.heads) p.rules
    → verdict p ≡ unjoined o one two → Shows p.symbols P o one two
unfolding first_end second_end goal_state
overlap-shows p P {o} formed rules heads e =
    let (first, a, b) = verdict-unjoined p e in
    let l = overlaps-member p (at-member (overlaps p) first.number first.listed) in
    let is-goal = listed-goal p formed l in
    let over = goal-over P (overlap-parts o.first o.second o.partners l.made)
    (all-member heads (at-member p.rules o.first.number l.first_rule))
    (all-member heads (at-member p.rules o.second.number l.second_rule)) in
    let start = reached-spoken p P o.goal formed is-goal rules over arrived in
    rw (a, b) (record {
      declared = start.declared;
      goal = over;
      first = side-spoken p P o.goal o.first.number o.first.rule _ formed is-goal rules over l.first_rule;
      second = side-spoken p P o.goal o.second.number o.second.rule _ formed is-goal rules over l.second_rule;
    })
