-- A derivation keeps its vocabulary: constants, declared symbols and numbers of terms, and how far variables are numbered.
--   TermOver, ConstraintOver, RuleOver     over constants that have a property
--   Spoken                                 a live state over declared symbols, such constants and variables below its number
--   fire_at-spoken                          a firing keeps that, and numbers 26 variables more
--   reach-spoken                           so do firings one after the other
--   run-spoken, side-spoken                the end of a run, and of a side, is over the vocabulary of its goal and its rules
-- Assumes nothing.
use Prim.Native.Nat.{ℕ, zero, suc, ◌+◌, ◌*◌, ◌≤◌}
use native.Mathlib.Omega.{arith}
use mathlib.Core.Bool.{true, ◌&&◌}
use mathlib.Core.List.{List, [], ◌++◌, map}
use mathlib.Core.Option.{Option, none, some}
use mathlib.Core.Path.{◌≡◌, refl, sym, ap, subst}
use lib.ListN.{length, drop, length-map, length-append, get_elem?}
use Rattle.text.specs.Lists.{onward, every, tabled}
use Rattle.semantics.specs.Terms.{Term, con, var, Constraint, Equation, Symbol, Rule, Program, Goal, State, failed, live}
use Rattle.semantics.specs.Terms.{weight, map_terms, map_sides, alphabet}
use Rattle.semantics.specs.Terms.{is_declared, is_below, is_goal_of, is_of_rule, is_rule_of, is_well_formed}
use Rattle.semantics.specs.Matching.{Assignment, unassigned, match_at}
use Rattle.semantics.specs.Solving.{solve}
use Rattle.semantics.specs.Firing.{without, instance, settle, fired, fire_at}
use Rattle.semantics.specs.Strategy.{Final, goal_state, normalise, run}
use Rattle.semantics.specs.Overlaps.{side_end}
use Rattle.semantics.proofs.Configurations.{Member, TermBelow, All, also, Scoped}
use Rattle.semantics.proofs.Configurations as C
use Rattle.text.proofs.Bools.{and-true}
use Rattle.semantics.proofs.Options.{none-some, bind-some, is_below-below}
use Rattle.semantics.proofs.Multisets.{all-member, all-mono, all_append, all_map, member-unmap}
use Rattle.semantics.proofs.MatchedTerms.{without_all, instance-all}
use Rattle.semantics.proofs.SolveLaws.{solve-keeps}
use Rattle.semantics.proofs.Letters.{every-all, rule-lettered}
use Rattle.semantics.proofs.Represent.{ScopedState, fire_at-scoped}
use Rattle.semantics.proofs.Remaining.{solve-lowers, lowered-below}
use Rattle.semantics.proofs.Normal.{Reach, arrived, fires, normalise-reach}

-- a term whose constant, if it is one, has a property
abbrev pub TermOver : (ℕ → Type 0) → Term → Type 0
TermOver P (con c) = P c
TermOver P (var x) = Unit {0}

-- a constraint over such terms, and a rule whose body and equations are
abbrev pub ConstraintOver : (ℕ → Type 0) → Constraint → Type 0
ConstraintOver P c = All (TermOver P) c.terms

pub record RuleOver (P : ℕ → Type 0) (r : Rule) : Type 0 where
  pub body : All (ConstraintOver P) r.body
  pub equations : All (λ e. TermOver P e.left × TermOver P e.right) r.equations

-- a live state of v goal variables over declared symbols, constants that have a property, and variables below its number; what
-- each goal variable has become is a constant or a goal variable
pub record Spoken (symbols : List Symbol) (P : ℕ → Type 0) (v number next : ℕ) (b : List Term) (cs : List Constraint) : Type 0
  where
    pub numbered : next ≡ number
    pub size : length b ≡ v
    pub scoped : Scoped next b cs
    pub bound : All (TermOver P) b
    pub own : All (TermBelow v) b
    pub constraints : All (ConstraintOver P) cs
    pub declared : All (λ c. is_declared symbols c ≡ true) cs

-- a state that has failed, or is so
abbrev pub SpokenState : List Symbol → (ℕ → Type 0) → ℕ → ℕ → State → Type 0
SpokenState symbols P v number failed = Unit {0}
SpokenState symbols P v number (live next b cs) = Spoken symbols P v number next b cs

-- replacing terms keeps a constraint declared
declared-map :
    (symbols : List Symbol) (f : Term → Term) (c : Constraint) → is_declared symbols c ≡ true
    → is_declared symbols (map_terms f c) ≡ true
unfolding is_declared map_terms
declared-map symbols f c h = rw length-map h

module _ (symbols : List Symbol) (P : ℕ → Type 0) (r : Rule) (ps : List ℕ) (θ : Assignment) (next : ℕ) (b : List Term)
    (cs : List Constraint) (over : RuleOver P r) (body : All (λ c. is_declared symbols c ≡ true) r.body)
    (fits : match_at r.heads ps cs [] unassigned ≡ some θ) (constraints : All (ConstraintOver P) cs) where
  -- a term of the rule, in the state
  instance-over : (t : Term) → TermOver P t → TermOver P (instance next θ t)
  instance-over t h =
      instance-all r.heads ps next fits constraints (λ y. tt) t (λ c e. subst (TermOver P) e h)

  -- the equations of the rule, as they are solved
  abbrev solved_for : List Equation
  solved_for = map (map_sides (instance next θ)) r.equations

  sides-over : (e : Equation) → Member e solved_for → TermOver P e.left × TermOver P e.right
  unfolding map_sides
  sides-over e i =
      let (c, k, q) = member-unmap (map_sides (instance next θ)) r.equations i in
      let h = all-member over.equations k in
      rw q (instance-over c.left h.0, instance-over c.right h.1)

  -- the constraints before the equations are solved
  abbrev remaining : List Constraint
  remaining = without 0 (drop r.kept ps) cs ++ map (map_terms (instance next θ)) r.body

  remaining-over : All (ConstraintOver P) remaining
  unfolding map_terms
  remaining-over =
      all_append (without_all 0 (drop r.kept ps) constraints)
      (all_map (map_terms (instance next θ)) (all-mono (λ c h. all_map (instance next θ) (all-mono instance-over h)) over.body))

  remaining-declared : All (λ c. is_declared symbols c ≡ true) cs → All (λ c. is_declared symbols c ≡ true) remaining
  remaining-declared d =
      all_append (without_all 0 (drop r.kept ps) d)
      (all_map (map_terms (instance next θ)) (all-mono (declared-map symbols (instance next θ)) body))

  -- a firing keeps the vocabulary
  fired-spoken :
      (v number : ℕ) → Spoken symbols P v number next b cs → ScopedState (fired r ps θ next b cs)
      → SpokenState symbols P v (number + alphabet) (fired r ps θ next b cs)
  unfolding fired settle map_terms
  fired-spoken v number s scoped = go (solve solved_for (λ t. t)) refl scoped
    where
      go :
          (o : Option (Term → Term)) → solve solved_for (λ t. t) ≡ o → ScopedState (settle o (next + alphabet) b remaining)
          → SpokenState symbols P v (number + alphabet) (settle o (next + alphabet) b remaining)
      go none e k = tt
      go (some σ) e k =
          let keeps = solve-keeps (TermOver P) solved_for e sides-over in
          record {
            numbered = ap (λ n. n + alphabet) s.numbered;
            size = rw length-map s.size;
            scoped = k;
            bound = all_map σ (all-mono keeps s.bound);
            own = all_map σ (all-mono (λ t. lowered-below v (solve-lowers solved_for e t)) s.own);
            constraints = all_map (map_terms σ) (all-mono (λ c h. all_map σ (all-mono keeps h)) remaining-over);
            declared = all_map (map_terms σ) (all-mono (declared-map symbols σ) (remaining-declared s.declared));
          }

-- a rule over the symbols has a declared body
body-declared : (symbols : List Symbol) (r : Rule) → is_rule_of symbols r ≡ true → All (λ c. is_declared symbols c ≡ true) r.body
unfolding is_rule_of is_of_rule
body-declared symbols r h =
    let three = (and-true _ _ h).0 in
    let two = (and-true _ _ three).0 in
    let one = (and-true (every (is_of_rule symbols) r.heads) (every (is_of_rule symbols) r.body) two).1 in
    all-mono (λ c k. (and-true (is_declared symbols c) (every (is_below alphabet) c.terms) k).0)
    (every-all (is_of_rule symbols) r.body one)

-- a firing keeps the vocabulary, and numbers 26 variables more
pub fire_at-spoken :
    (symbols : List Symbol) (P : ℕ → Type 0) (v number : ℕ) (r : Rule) (ps : List ℕ) (s : State) {t : State}
    → is_rule_of symbols r ≡ true → RuleOver P r → SpokenState symbols P v number s → fire_at r ps s ≡ some t
    → SpokenState symbols P v (number + alphabet) t
unfolding fire_at
fire_at-spoken symbols P v number r ps failed w o h p = none-some refl p
fire_at-spoken symbols P v number r ps (live next b cs) {t} w o h p =
    let (θ, m, e) = bind-some (match_at r.heads ps cs [] unassigned) (λ θ. some (fired r ps θ next b cs)) p in
    let final : fired r ps θ next b cs ≡ t = cc in
    let scoped = fire_at-scoped r ps (live next b cs) (rule-lettered symbols r w) h.scoped p in
    subst (SpokenState symbols P v (number + alphabet)) final
    (fired-spoken symbols P r ps θ next b cs o (body-declared symbols r w) m h.constraints v number h
    (subst ScopedState (sym final) scoped))

-- an element at a number has what all have
all-at : {A : Type 0} {Q : A → Type 0} {l : List A} (i : ℕ) {a : A} → All Q l → get_elem? l i ≡ some a → Q a
all-at i C.none e = none-some refl e
all-at {Q} zero (also h more) e = subst Q (cc) h
all-at (suc i) (also h more) e = all-at i more e

-- so do firings one after the other
pub reach-spoken :
    (symbols : List Symbol) (P : ℕ → Type 0) (v : ℕ) {rs : List Rule} → All (λ r. is_rule_of symbols r ≡ true) rs
    → All (RuleOver P) rs
    → (number : ℕ) {n : ℕ} {s t : State} → SpokenState symbols P v number s → Reach rs n s t
    → SpokenState symbols P v (number + alphabet * n) t
unfolding alphabet
reach-spoken symbols P v w o number {s} h arrived = subst (λ k. SpokenState symbols P v k s) (omega arith) h
reach-spoken symbols P v w o number h (fires {n = n} {s = s} {u = u} k r ps e f more) =
    let after = fire_at-spoken symbols P v number r ps s (all-at k w e) (all-at k o e) h f in
    subst (λ k. SpokenState symbols P v k u) (omega arith) (reach-spoken symbols P v w o (number + alphabet) after more)

-- what a goal's variables start as
tabled-over : (P : ℕ → Type 0) (n : ℕ) → All (TermOver P) (tabled var n)
tabled-over P zero = C.none
tabled-over P (suc n) = all_append (tabled-over P n) (also tt C.none)

tabled-below : (n m : ℕ) → n ≤ m → All (TermBelow m) (tabled var n)
tabled-below zero m h = C.none
tabled-below (suc n) m h = all_append (tabled-below n m (omega arith)) (also (omega arith) C.none)

tabled-size : (n : ℕ) → length (tabled var n) ≡ n
tabled-size zero = refl
tabled-size (suc n) = simp length-append (omega (arith, tabled-size n))

-- a goal over a program's symbols, all of whose constraints have entered
entered-spoken :
    (p : Program) (P : ℕ → Type 0) (g : Goal) → is_goal_of p g ≡ true → All (ConstraintOver P) g.constraints
    → SpokenState p.symbols P g.variables g.variables (goal_state g)
unfolding goal_state is_goal_of
entered-spoken p P g w o =
    let all = every-all (λ c. is_declared p.symbols c && every (is_below g.variables) c.terms) g.constraints w in
    let parts : (c : Constraint) → (is_declared p.symbols c && every (is_below g.variables) c.terms) ≡ true
    → (is_declared p.symbols c ≡ true) × (every (is_below g.variables) c.terms ≡ true) =
    λ c h. and-true (is_declared p.symbols c) (every (is_below g.variables) c.terms) h in
    record {
      numbered = refl;
      size = tabled-size g.variables;
      scoped = record {
        bound = tabled-below g.variables g.variables (omega arith);
        constraints = all-mono (λ c h.
            all-mono (is_below-below g.variables) (every-all (is_below g.variables) c.terms (parts c h).1)) all;
      };
      bound = tabled-over P g.variables;
      own = tabled-below g.variables g.variables (omega arith);
      constraints = o;
      declared = all-mono (λ c h. (parts c h).0) all;
    }

-- what is reached from a goal is over the vocabulary of the goal and the rules, and each firing numbers 26 variables
pub reached-spoken :
    (p : Program) (P : ℕ → Type 0) (g : Goal) → is_well_formed p ≡ true → is_goal_of p g ≡ true → All (RuleOver P) p.rules
    → All (ConstraintOver P) g.constraints
    → {n : ℕ} {u : State} → Reach p.rules n (goal_state g) u
    → SpokenState p.symbols P g.variables (g.variables + alphabet * n) u
unfolding is_well_formed
reached-spoken p P g w goal rules constraints reach =
    reach-spoken p.symbols P g.variables (every-all (is_rule_of p.symbols) p.rules w) rules g.variables
    (entered-spoken p P g goal constraints) reach

-- so is the end of a run
pub run-spoken :
    (p : Program) (P : ℕ → Type 0) (g : Goal) → is_well_formed p ≡ true → is_goal_of p g ≡ true → All (RuleOver P) p.rules
    → All (ConstraintOver P) g.constraints
    → SpokenState p.symbols P g.variables (g.variables + alphabet * (run p g).firings) (run p g).state
unfolding run
run-spoken p P g w goal rules constraints =
    let (n, reach, count) = normalise-reach p.rules (weight p.symbols g.constraints) (goal_state g) 0 in
    subst (λ k. SpokenState p.symbols P g.variables (g.variables + alphabet * k) (run p g).state) (omega arith)
    (reached-spoken p P g w goal rules constraints reach)

-- the end of a side, by what its own firing answers
abbrev end_from : Program → Goal → Option State → Final
end_from p g o =
    onward o (record { state = goal_state g; firings = 0 })
    (λ s. normalise (weight p.symbols g.constraints) p.rules s 1)

-- the end of a side of an overlap is reached from its goal
pub side-reach :
    (p : Program) (g : Goal) (k : ℕ) (r : Rule) (ps : List ℕ) → get_elem? p.rules k ≡ some r
    → Reach p.rules (side_end p g r ps).firings (goal_state g) (side_end p g r ps).state
unfolding side_end
side-reach p g k r ps e = go (fire_at r ps (goal_state g)) refl
  where
    go :
        (o : Option State) → fire_at r ps (goal_state g) ≡ o
        → Reach p.rules (end_from p g o).firings (goal_state g) (end_from p g o).state
    go none f = arrived
    go (some t) f =
        let (n, reach, count) = normalise-reach p.rules (weight p.symbols g.constraints) t 1 in
        subst (λ m. Reach p.rules m (goal_state g) (end_from p g (some t)).state) (omega arith) (fires k r ps e f reach)

-- so it is over the vocabulary too
pub side-spoken :
    (p : Program) (P : ℕ → Type 0) (g : Goal) (k : ℕ) (r : Rule) (ps : List ℕ) → is_well_formed p ≡ true → is_goal_of p g ≡ true
    → All (RuleOver P) p.rules → All (ConstraintOver P) g.constraints → get_elem? p.rules k ≡ some r
    → SpokenState p.symbols P g.variables (g.variables + alphabet * (side_end p g r ps).firings) (side_end p g r ps).state
side-spoken p P g k r ps w goal rules constraints e =
    reached-spoken p P g w goal rules constraints (side-reach p g k r ps e)
