-- The goal of an overlap, and the variables of its rules in it (document 000, definition 3.4: under the unifier).
--   rep-with_terms       a state with terms of its goal for a face represents the configuration with that face
--   goal_number          a term under the unifier, in the goal
--   numbered-fire       firing on heads in the goal is firing on the heads themselves, with the equations of the unifier
-- Assumes nothing.
use Prim.Native.Nat.{ℕ, zero, suc, ◌<◌}
use mathlib.Core.List.{List, [], ◌∷◌, map}
use mathlib.Core.Bool.{true}
use mathlib.Core.Option.{some}
use mathlib.Core.Path.{◌≡◌, refl, sym, ap, ap₂, subst, ◌∙◌}
use native.Mathlib.Omega.{arith}
use lib.Dec.{eqb}
use lib.ListN.{length, get_or, get_elem?, length-map}
use Rattle.text.specs.Lists.{has, index_from}
use Rattle.semantics.specs.Terms.{Term, Constraint, Equation, Rule, State, map_terms}
use Rattle.semantics.specs.Terms as T
use Rattle.semantics.specs.Solving.{solve}
use Rattle.semantics.specs.Derivations.{become}
use Rattle.semantics.specs.Variants.{Pointwise, done}
use Rattle.semantics.specs.Overlaps.{appearing, numbered}
use Rattle.semantics.specs.CriticalPairs.{with_terms}
use Rattle.semantics.proofs.Configurations.{Or, inl, inr, Member, Tm, con, var, Eqn, sub, Eqv, same, flip, chain, Config}
use Rattle.semantics.proofs.Configurations.{AtomRel, Core, Iso, lift, lift_atom, lift_eqn, fire_c, conf_of, TermBelow, All}
use Rattle.semantics.proofs.Configurations.{none, also, Rep, has_failed, is_live}
use Rattle.semantics.proofs.Multisets.{pointwise-length, pointwise-sym, pointwise-map, pointwise-map-right}
use Rattle.semantics.proofs.Multisets.{multiset-of-pointwise, member-unmap, all-mono, all_map}
use Rattle.semantics.proofs.Closure.{eqv-path}
use Rattle.semantics.proofs.Isos.{core-of-maps}
use Rattle.semantics.proofs.Stepping.{fire-iso}
use Rattle.semantics.proofs.Options.{true-false}
use Rattle.semantics.proofs.SolveLaws.{solve-solution, solution-again}
use Rattle.semantics.proofs.MatchedTerms.{pointwise-all}
use Rattle.semantics.proofs.Indices.{get_d_at, get_elem-at, has-at, index-stands, index_below, index-unique}
use Rattle.semantics.proofs.Appearing.{Known, appearing-from, appearing-distinct}
use Rattle.semantics.proofs.Reface.{entry, reface, reface-iso, reface-inconsistent}
use Rattle.semantics.proofs.PublishedStates.{conf_with}

-- a term over the variables that a face lists, by that face
pub entry-become :
    (b : List Term) (t : Term) → TermBelow (length b) t → sub (entry (map lift b)) (lift t) ≡ lift (become b t)
unfolding become
entry-become b (T.con c) h = refl
entry-become b (T.var x) h = go (T.var x) b x h
  where
    go : (d : Term) (b : List Term) (x : ℕ) → x < length b → entry (map lift b) x ≡ lift (get_or b x d)
    go d [] x h = absurd (omega arith)
    go d (t ∷ b) zero h = refl
    go d (t ∷ b) (suc x) h = go d b x (omega arith)

pub entries-become :
    (b : List Term) {ts : List Term} → All (TermBelow (length b)) ts
    → map (sub (entry (map lift b))) (map lift ts) ≡ map lift (map (become b) ts)
entries-become b none = refl
entries-become b (also {a = t} h more) = ap₂ ◌∷◌ (entry-become b t h) (entries-become b more)

-- what terms have become is in scope where the face is
pub become-below : {n : ℕ} {b : List Term} → All (TermBelow n) b → (t : Term) → TermBelow (length b) t → TermBelow n (become b t)
unfolding become
become-below a (T.con c) h = tt
become-below {n} a (T.var x) h = go (T.var x) x a h
  where
    go : (d : Term) {b : List Term} (x : ℕ) → All (TermBelow n) b → x < length b → TermBelow n (get_or b x d)
    go d x none h = absurd (omega arith)
    go d zero (also a more) h = a
    go d (suc x) (also a more) h = go d x more (omega arith)

-- a state with terms of its goal represents the configuration with these for a face
pub rep-with_terms :
    {ts : List Term} {s : State} {C : Config} → All (TermBelow (length C.face)) ts → Rep s C
    → Rep (with_terms ts s) (reface (map lift ts) C)
unfolding with_terms
rep-with_terms {ts} h (has_failed n) = has_failed (reface-inconsistent (map lift ts) n)
rep-with_terms {ts} {C} h (is_live {n} {b} {cs} scoped I) =
    let l : length b ≡ length C.face = sym (length-map b lift) ∙ pointwise-length I.faces in
    let k : All (TermBelow (length b)) ts = subst (λ m. All (TermBelow m) ts) (sym l) h in
    is_live (record { bound = all_map (become b) (all-mono (become-below scoped.bound) k); constraints = scoped.constraints })
    (subst (λ face. Iso (record { Var = ℕ; face = face; eqs = []; store = map lift_atom cs }) (reface (map lift ts) C))
    (entries-become b k) (reface-iso (map lift ts) I))

module _ (es : List Equation) (σ : Term → Term) (p : solve es (λ t. t) ≡ some σ) (cs : List Constraint) where
  -- the variables of the goal of constraints under the unifier, in order, and a term in it
  abbrev pub goal_order : List ℕ
  goal_order = appearing [] (map (map_terms σ) cs)

  abbrev pub goal_number : Term → Term
  goal_number t = numbered goal_order (σ t)

  -- a goal variable as the variable that it numbers, and a variable as a term of the goal
  abbrev denote : ℕ → Tm ℕ
  denote v = var (get_or goal_order v 0)

  abbrev number : ℕ → Tm ℕ
  number x = lift (goal_number (T.var x))

  abbrev used : Tm ℕ → Type 0
  used (con c) = Unit {0}
  used (var v) = v < length goal_order

  -- a term of the goal and the term that it stands for
  abbrev Denotes : Tm ℕ → Tm ℕ → Type 0
  Denotes u v = used u × Eqv (map lift_eqn es) (sub denote u) v

  number-term : (t : Term) → sub number (lift t) ≡ lift (goal_number t)
  unfolding numbered
  number-term (T.con c) = sym (ap (λ u. lift (numbered goal_order u)) ((solve-solution es p).fixes c))
  number-term (T.var x) = refl

  -- the equations hold in the goal
  number-held : (e : Eqn ℕ) → Member e (map lift_eqn es) → Eqv [] (sub number e.left) (sub number e.right)
  number-held e i =
      let (d, j, q) = member-unmap lift_eqn es i in
      rw q (eqv-path (number-term d.left ∙ ap (λ t. lift (numbered goal_order t)) ((solve-solution es p).joins j)
      ∙ sym (number-term d.right)))

  -- the unifier leaves a variable of the goal as it is
  order-fixed : (x : ℕ) → has x goal_order ≡ true → σ (T.var x) ≡ T.var x
  unfolding map_terms
  order-fixed x h = go (appearing-from x [] (map (map_terms σ) cs) h)
    where
      go :
          Or (has x [] ≡ true) ((c : Constraint) × Member c (map (map_terms σ) cs) × Member (T.var x) c.terms)
          → σ (T.var x) ≡ T.var x
      go (inl q) = true-false q refl
      go (inr (c, i, j)) =
          let (d, k, e) = member-unmap (map_terms σ) cs i in
          let (t, l, q) = member-unmap σ d.terms (subst (λ (a : Constraint). Member (T.var x) a.terms) e j) in
          ap σ q ∙ solution-again (solve-solution es p) t ∙ sym q

  -- the variable at a place of the order is the goal's variable of that number
  pub number-variable : (v : ℕ) {x : ℕ} → get_elem? goal_order v ≡ some x → goal_number (T.var x) ≡ T.var v
  unfolding numbered
  number-variable v {x} at =
      ap (numbered goal_order) (order-fixed x (has-at x goal_order v at))
      ∙ ap T.var (index-unique goal_order v x (appearing-distinct [] (map (map_terms σ) cs) tt) at)

  -- numbering undoes denoting
  undo : (u : Tm ℕ) → used u → Eqv [] (sub number (sub denote u)) u
  undo (con c) h = same
  undo (var v) h =
      let (x, at) = get_elem-at goal_order v h in
      eqv-path (ap (λ y. lift (goal_number (T.var y))) (get_d_at goal_order v 0 at) ∙ ap lift (number-variable v at))

  number-core : Core [] (map lift_eqn es) Denotes
  number-core = core-of-maps denote number used (λ c. tt) (λ e i. elim i [ ]) number-held undo

  -- a term whose variable under the unifier is one of the goal's
  abbrev pub InGoal : Term → Type 0
  InGoal t = Known goal_order (σ t)

  -- in the goal it stands for itself
  denotes : (t : Term) → InGoal t → Denotes (lift (goal_number t)) (lift t)
  unfolding numbered
  denotes t h = (goal_used (σ t) h, chain (eqv-path (back (σ t) h)) (flip ((solve-solution es p).follows t)))
    where
      goal_used : (t : Term) → Known goal_order t → used (lift (numbered goal_order t))
      goal_used (T.con c) h = tt
      goal_used (T.var x) h = index_below x goal_order h

      back : (t : Term) → Known goal_order t → sub denote (lift (numbered goal_order t)) ≡ lift t
      back (T.con c) h = refl
      back (T.var x) h = ap var (get_d_at goal_order (index_from (eqb x) 0 goal_order) 0 (index-stands x goal_order h))

  -- so do terms, and the constraints of such terms
  denotes-terms : {ts : List Term} → All InGoal ts → Pointwise Denotes (map lift (map goal_number ts)) (map lift ts)
  denotes-terms h =
      pointwise-map lift lift (pointwise-sym (pointwise-map-right goal_number
      (pointwise-all {R = λ s t. Denotes (lift (goal_number t)) (lift s)} denotes h)))

  denotes-atoms :
      {ds : List Constraint} → All (λ c. All InGoal c.terms) ds
      → Pointwise (AtomRel Denotes) (map lift_atom (map (map_terms goal_number) ds)) (map lift_atom ds)
  unfolding map_terms
  denotes-atoms h =
      pointwise-map lift_atom lift_atom (pointwise-sym (pointwise-map-right (map_terms goal_number)
      (pointwise-all {R = λ c d. AtomRel Denotes (lift_atom (map_terms goal_number d)) (lift_atom c)} (λ c k. record {
        symbols = refl;
        args = denotes-terms k;
      }) h)))

  -- firing on constraints in the goal is firing on the constraints themselves, with the equations
  pub numbered-fire :
      (r : Rule) {ts : List Term} {M L : List Constraint} → All InGoal ts → All (λ c. All InGoal c.terms) M
      → All (λ c. All InGoal c.terms) L
      → Iso
      (fire_c r (conf_of (map goal_number ts) []) (map lift_atom (map (map_terms goal_number) M))
      (map lift_atom (map (map_terms goal_number) L)))
      (fire_c r (conf_with ts es []) (map lift_atom M) (map lift_atom L))
  numbered-fire r {ts} a b c =
      fire-iso {C = conf_of (map goal_number ts) []} {D = conf_with ts es []} r
      (record { R = Denotes; core = number-core; faces = denotes-terms a; stores = done }) (denotes-atoms b)
      (multiset-of-pointwise (denotes-atoms c))
