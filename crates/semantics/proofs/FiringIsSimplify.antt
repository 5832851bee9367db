-- Firing is Simplify (document 000, section 2.2.3 and figure 1; document 01: a rule fires).
--   simplify-iso                      a Simplify step leaves what firing the rule leaves
--   simplify-exists                   where a rule fits constraints, a Simplify step on them is possible
--   live-published, live-fires        a firing is one, on the partners of the constraints at its positions; and conversely
--   firing-is-simplify                the claim, of every state and what it represents
-- Assumes nothing.
use Prim.Native.Nat.{ℕ, ◌+◌}
use mathlib.Core.Bool.{true}
use mathlib.Core.List.{List, [], ◌++◌, map}
use mathlib.Core.Option.{Option, none, some}
use mathlib.Core.Path.{◌≡◌, refl, sym, ap, subst}
use native.Mathlib.Omega.{arith}
use lib.ListN.{length, get_elem?}
use Rattle.semantics.specs.Terms.{Term, Constraint, Equation, Rule, Program, State, failed, live, map_terms, is_well_formed}
use Rattle.semantics.specs.Terms as T
use Rattle.semantics.specs.Solving.{solve}
use Rattle.semantics.specs.Firing.{settle, without, fire_at}
use Rattle.semantics.specs.Derivations.{NoRuleFits}
use Rattle.semantics.specs.Variants.{OneToOne, TermVariant, Pointwise, ConstraintVariant, SameMultiset, Variant}
use Rattle.semantics.specs.Published.{Published, Satisfiable, EquatedAll, renamed, FreshFor, terms_of, body_items, Solve}
use Rattle.semantics.specs.Published.{solves, Introduce, introduces, Simplify, simplifies, Cleared, solved_form, Represents}
use Rattle.semantics.specs.Published.{Goes, solving, introducing, simplifying}
use Rattle.semantics.specs.Correspondence.{StandAt, stand, FiringIsSimplify}
use Rattle.semantics.specs.Rewriting.{rewritten, rewritten_all}
use Rattle.semantics.proofs.Configurations.{AtomRel, Iso, Fits, lift_atom, lift_eqn, heads_of, fire_c, conf_of, Scoped}
use Rattle.semantics.proofs.Multisets.{pointwise-sym, pointwise-trans, pointwise-mono, pointwise-map, multiset-map}
use Rattle.semantics.proofs.Multisets.{multiset-mono, multiset-sym, multiset-length, multiset-pick, multiset-unmap-left}
use Rattle.semantics.proofs.Options.{none-some}
use Rattle.semantics.proofs.Atoms.{atom-sym}
use Rattle.semantics.proofs.Cores.{core-sym}
use Rattle.semantics.proofs.Stepping.{fits-core, fire-iso}
use Rattle.semantics.proofs.PositionLaws.{Stands}
use Rattle.semantics.proofs.RuleLetters.{AllLetters, program-letters}
use Rattle.semantics.proofs.Represent.{ScopedState, rep-iso, fire_at-matched, matched-fires}
use Rattle.semantics.proofs.Indices.{get_elem-unmap}
use Rattle.semantics.proofs.Renamings.{beyond}
use Rattle.semantics.proofs.SolveLaws.{solve-solution}
use Rattle.semantics.proofs.Valuations.{satisfiable-solved, solved-satisfiable}
use Rattle.semantics.proofs.Equating.{equated-exists}
use Rattle.semantics.proofs.Entailment.{fits-back, pairs-renamed, implies-fits, fits-implies}
use Rattle.semantics.proofs.FreshVariants.{fresh-beyond, matched-avoids}
use Rattle.semantics.proofs.PublishedStates.{conf_with, conf_p, Renamed, renamed-core, renamed-atoms, renaming-iso}
use Rattle.semantics.proofs.PublishedStates.{rep-represents}
use Rattle.semantics.proofs.Clearing.{cleared-into, rest-users, rest-built_ins, cleared-exists}
use Rattle.semantics.proofs.SimplifyLaws.{body-users, body-built_ins, simplified-iso}

-- a published state whose built-in store is not false is not represented by the failed state
satisfiable-live {ℓ} : {A : Type ℓ} (a : Published) → Satisfiable a.built_in_store → Represents a failed → A
unfolding solved_form settle
satisfiable-live a s v =
    let (σ, q) = satisfiable-solved a.built_in_store s in
    absurd (subst (λ o. Variant (settle o 0 (map T.var a.variables) a.user_store) failed) q v).lower

-- a built-in store from which Simplify is possible is not false
simplify-satisfiable : {r : Rule} {cs : List Constraint} {a b : Published} → Simplify r cs a b → Satisfiable a.built_in_store
simplify-satisfiable (simplifies ρ sat f split equated implied) = sat

-- a Simplify step and the clearing of the body leave what firing the rule leaves
simplify-iso :
    (r : Rule) (a c : Published) (ρ : ℕ → ℕ) (M L : List Constraint) (es : List Equation) → AllLetters r → FreshFor a ρ
    → SameMultiset ◌≡◌ a.user_store (M ++ L) → EquatedAll (map (map_terms (renamed ρ)) r.heads) M es
    → Cleared a.goals (record {
      goals = a.goals ++ body_items ρ (rewritten r);
      user_store = L;
      built_in_store = es ++ a.built_in_store;
      variables = a.variables;
    }) c
    → Iso (fire_c r (conf_p a) (map lift_atom M) (map lift_atom L)) (conf_p c)
simplify-iso r a c ρ M L es letters f split equated e =
    let h = cleared-into e in
    subst (λ vs.
    Iso (fire_c r (conf_p a) (map lift_atom M) (map lift_atom L)) (conf_with (map T.var vs) c.built_in_store c.user_store))
    (sym h.variables)
    (simplified-iso r a c ρ M L es f letters.others letters.heads split equated
    (subst (λ l. SameMultiset ◌≡◌ c.built_in_store (l ++ (es ++ a.built_in_store))) (body-built_ins ρ (rewritten r))
    (rest-built_ins a.goals (body_items ρ (rewritten r)) (es ++ a.built_in_store) h.solved))
    (subst (λ l. SameMultiset ◌≡◌ c.user_store (l ++ L)) (body-users ρ (rewritten r))
    (rest-users a.goals (body_items ρ (rewritten r)) L h.taken)))

-- where a rule fits constraints of the store, a Simplify step on them is possible, and its body can be cleared
simplify-exists :
    {r : Rule} (a : Published) (M L : List Constraint) → AllLetters r → Satisfiable a.built_in_store
    → SameMultiset ◌≡◌ a.user_store (M ++ L) → Fits (map lift_eqn a.built_in_store) (heads_of r) (map lift_atom M)
    → (b : Published) × (c : Published) × Simplify (rewritten r) M a b × Cleared a.goals b c
    × Iso (fire_c r (conf_p a) (map lift_atom M) (map lift_atom L)) (conf_p c)
simplify-exists {r} a M L letters sat split fit =
    let ρ : ℕ → ℕ = λ x. beyond (terms_of a) + x in
    let f : FreshFor a ρ = fresh-beyond a in
    let (es, equated) = equated-exists {R = λ s t. Unit {0}} (pairs-renamed ρ (pointwise-mono (λ h c k. record {
      symbols = k.symbols;
      terms = pointwise-mono (λ s t e. tt) k.terms;
    }) (fits-back r.heads M fit.fits))) in
    let (c, e) = cleared-exists a.goals (body_items ρ (rewritten r)) L (es ++ a.built_in_store) a.variables in (
      record {
        goals = a.goals ++ body_items ρ (rewritten r);
        user_store = L;
        built_in_store = es ++ a.built_in_store;
        variables = a.variables;
      },
      c,
      simplifies ρ sat f split equated
          (fits-implies r ρ f.apart letters.heads (matched-avoids a ρ f L split) equated fit),
      e,
      simplify-iso r a c ρ M L es letters f split equated e,
    )

-- with an empty goal store there is nothing to solve or to introduce
empty-solve : {a b : Published} → Solve a b → a.goals ≡ [] → ⊥
empty-solve (solves s) e = let l = multiset-length s in let k = ap length e in omega arith

empty-introduce : {a b : Published} → Introduce a b → a.goals ≡ [] → ⊥
empty-introduce (introduces s) e = let l = multiset-length s in let k = ap length e in omega arith

-- a published state and a live state that a renaming of its solved form makes equal
module _
    (a : Published) (ρ : ℕ → ℕ → Type 0) (σ : Term → Term) (n : ℕ) (b : List Term) (cs : List Constraint)
    (solved : solve a.built_in_store (λ t. t) ≡ some σ) (o : OneToOne ρ)
    (face : Pointwise (TermVariant ρ) (map σ (map T.var a.variables)) b)
    (store : SameMultiset (ConstraintVariant ρ) (map (map_terms σ) a.user_store) cs) (scoped : Scoped n b cs) where
  abbrev Pairs : Constraint → Constraint → Type 0
  Pairs c d = ConstraintVariant ρ (map_terms σ c) d

  pairs : SameMultiset Pairs a.user_store cs
  pairs = multiset-unmap-left (map_terms σ) a.user_store store

  -- pairs, as pairs of atoms
  paired : {M P : List Constraint} → Pointwise Pairs M P
      → Pointwise (AtomRel (Renamed ρ σ)) (map lift_atom P) (map lift_atom M)
  paired q = pointwise-map lift_atom lift_atom (pointwise-mono (λ d c k. renamed-atoms ρ σ c d k) (pointwise-sym q))

  -- the rule fires alike on constraints and their partners
  fired-iso :
      (r : Rule) {M K P Q : List Constraint} → Pointwise Pairs M P → SameMultiset Pairs K Q
      → Iso (fire_c r (conf_of b cs) (map lift_atom P) (map lift_atom Q)) (fire_c r (conf_p a) (map lift_atom M) (map lift_atom K))
  fired-iso r p q =
      fire-iso r (renaming-iso a ρ σ b cs solved o face store) (paired p)
      (multiset-map lift_atom lift_atom (multiset-mono (λ d c k. renamed-atoms ρ σ c d k) (multiset-sym q)))

  -- constraints whose partners stand at positions
  standing :
      {M P : List Constraint} {ps : List ℕ} → Pointwise Pairs M P → Pointwise (Stands cs) ps P → StandAt a M ps (live n b cs)
  standing p q = stand ρ solved o face store (pointwise-trans p (pointwise-sym q))

  -- a firing is a Simplify step on the partners of the constraints at its positions
  live-published :
      (r : Rule) (ps : List ℕ) {t : State} → AllLetters r → fire_at r ps (live n b cs) ≡ some t
      → (M : List Constraint) × (d : Published) × (c : Published) × StandAt a M ps (live n b cs) × Simplify (rewritten r) M a d
      × Cleared a.goals d c × Represents c t
  live-published r ps {t} letters h =
      let (P, stands, split, fits, rep) = fire_at-matched r ps n b cs letters.others scoped h in
      let (M, K, parts, p, q) = multiset-pick P (without 0 ps cs) (multiset-sym pairs) split in
      let fit = fits-core (renamed-core (solve-solution a.built_in_store solved) o) fits (paired (pointwise-sym p)) in
      let (d, c, k, e, I) = simplify-exists a M K letters (solved-satisfiable a.built_in_store solved) parts fit in (
        M,
        d,
        c,
        standing (pointwise-sym p) stands,
        k,
        e,
        rep-represents c t (rep-iso (rep-iso rep (fired-iso r (pointwise-sym p) (multiset-sym q))) I),
      )

  -- a Simplify step is a firing at the positions of the partners of the constraints that it matches
  live-fires :
      {r : Rule} {M : List Constraint} {d c : Published} → AllLetters r → Simplify (rewritten r) M a d → Cleared a.goals d c
      → (ps : List ℕ) × (t : State) × StandAt a M ps (live n b cs) × (fire_at r ps (live n b cs) ≡ some t) × Represents c t
  live-fires {r} {M} {c} letters (simplifies {rest} {es} κ sat f split equated implied) e =
      let (P, Q, parts, p, q) = multiset-pick M rest pairs split in
      let core = core-sym (renamed-core (solve-solution a.built_in_store solved) o) in
      let fit = fits-core core (implies-fits r κ (matched-avoids a κ f rest split) sat equated implied)
      (pointwise-mono (λ x y k. atom-sym k) (pointwise-sym (paired p))) in
      let (ps, t, stands, h, rep) = matched-fires r n b cs P Q letters.others scoped parts fit in (
        ps,
        t,
        standing p stands,
        h,
        rep-represents c t (rep-iso (rep-iso rep (fired-iso r p q)) (simplify-iso r a c κ M rest es letters f split equated e)),
      )

module _ (p : Program) (w : is_well_formed p ≡ true) (a : Published) where
  fires-in :
      (s : State) → ScopedState s → Represents a s → (n : ℕ) (r : Rule) (cs : List Constraint) (b c : Published)
      → get_elem? p.rules n ≡ some r → Simplify (rewritten r) cs a b → Cleared a.goals b c
      → (ps : List ℕ) × (t : State) × StandAt a cs ps s × (fire_at r ps s ≡ some t) × Represents c t
  unfolding solved_form settle
  fires-in failed scoped v n r cs b c i k e = satisfiable-live a (simplify-satisfiable k) v
  fires-in (live m l ds) scoped v n r cs b c i k e = go (solve a.built_in_store (λ t. t)) refl v
    where
      go :
          (o : Option (Term → Term)) → solve a.built_in_store (λ t. t) ≡ o
          → Variant (settle o 0 (map T.var a.variables) a.user_store) (live m l ds)
          → (ps : List ℕ) × (t : State) × StandAt a cs ps (live m l ds) × (fire_at r ps (live m l ds) ≡ some t) × Represents c t
      go none q v = absurd v.lower
      go (some σ) q (ρ, o, f, s) = live-fires a ρ σ m l ds q o f s scoped (program-letters p n w i) k e

  published-in :
      (s : State) → ScopedState s → Represents a s → (n : ℕ) (r : Rule) (ps : List ℕ) (t : State) → get_elem? p.rules n ≡ some r
      → fire_at r ps s ≡ some t
      → (cs : List Constraint) × (b : Published) × (c : Published) × StandAt a cs ps s × Simplify (rewritten r) cs a b
      × Cleared a.goals b c × Represents c t
  unfolding fire_at solved_form settle
  published-in failed scoped v n r ps t i h = none-some refl h
  published-in (live m l ds) scoped v n r ps t i h = go (solve a.built_in_store (λ t. t)) refl v
    where
      go :
          (o : Option (Term → Term)) → solve a.built_in_store (λ t. t) ≡ o
          → Variant (settle o 0 (map T.var a.variables) a.user_store) (live m l ds)
          → (cs : List Constraint) × (b : Published) × (c : Published) × StandAt a cs ps (live m l ds)
          × Simplify (rewritten r) cs a b × Cleared a.goals b c × Represents c t
      go none q v = absurd v.lower
      go (some σ) q (ρ, o, f, s) = live-published a ρ σ m l ds q o f s scoped r ps (program-letters p n w i) h

  -- a Simplify step is none where no rule fits
  rests-in :
      (s : State) → ScopedState s → Represents a s → NoRuleFits p s → (n : ℕ) (r : Rule) {cs : List Constraint} {b : Published}
      → get_elem? p.rules n ≡ some r → Simplify (rewritten r) cs a b → ⊥
  rests-in s scoped v rest n r {cs} i (simplifies {rest = L} {es} ρ sat f split equated implied) =
      let (c, e) = cleared-exists a.goals (body_items ρ (rewritten r)) L (es ++ a.built_in_store) a.variables in
      let (ps, t, at, h, q) = fires-in s scoped v n r cs (record {
        goals = a.goals ++ body_items ρ (rewritten r);
        user_store = L;
        built_in_store = es ++ a.built_in_store;
        variables = a.variables;
      }) c i (simplifies ρ sat f split equated implied) e in
      none-some (rest n r ps i) h

  -- no step is possible where no rule fits and the goal store is empty
  final-in :
      (s : State) → ScopedState s → Represents a s → NoRuleFits p s → a.goals ≡ [] → (b : Published)
      → Goes (rewritten_all p) a b → ⊥
  final-in s scoped v rest goals b (solving k) = empty-solve k goals
  final-in s scoped v rest goals b (introducing k) = empty-introduce k goals
  final-in s scoped v rest goals b (simplifying {matched} n r i k) =
      let (q, e, same) = get_elem-unmap rewritten p.rules n i in
      rests-in s scoped v rest n q e (subst (λ x. Simplify x matched a b) (sym same) k)

-- firing is Simplify, in every state that represents the stores of a published one
pub firing-is-simplify :
    (p : Program) (a : Published) (s : State) → is_well_formed p ≡ true → ScopedState s → Represents a s → FiringIsSimplify p a s
firing-is-simplify p a s w scoped v = record {
  published = published-in p w a s scoped v;
  fires = fires-in p w a s scoped v;
  final = final-in p w a s scoped v;
}
