-- Published states (document 000, section 2.2.2) as configurations: a state represents a published one whose goal store is empty
-- when it equals what is left of it once its built-in store is solved.
--   conf_p                          a published state as a configuration; its goal store is left out
--   solved-iso                     solved equations leave an equal configuration without equations
--   Renamed, renamed-core          a renaming of the solved terms respects and reflects equivalence
--   renaming-iso                   a published state and one that a renaming of its solved form makes equal, as configurations
--   represents-rep, rep-represents a state represents a published one exactly when it represents its configuration
-- Assumes nothing.
use Prim.Native.Nat.{ℕ}
use mathlib.Core.List.{List, [], ◌∷◌, map}
use mathlib.Core.Option.{Option, none, some}
use mathlib.Core.Path.{◌≡◌, refl, sym, ap, subst, subst₂, ◌∙◌}
use Rattle.semantics.specs.Terms.{Term, Constraint, Equation, State, failed, live, map_terms}
use Rattle.semantics.specs.Terms as T
use Rattle.semantics.specs.Solving.{solve}
use Rattle.semantics.specs.Firing.{settle}
use Rattle.semantics.specs.Variants.{OneToOne, TermVariant, same_con, Pointwise, empty, each, ConstraintVariant}
use Rattle.semantics.specs.Variants.{SameMultiset, Variant}
use Rattle.semantics.specs.Published.{Published, solved_form, Represents}
use Rattle.semantics.proofs.Configurations.{Tm, con, var, Eqn, sub, Eqv, same, flip, Config, Iso, Member, lift, lift_atom}
use Rattle.semantics.proofs.Configurations.{lift_eqn, conf_of, Rep, has_failed, is_live, AtomRel, Core}
use Rattle.semantics.proofs.Multisets.{pointwise-map, member-unmap, multiset-of-pointwise, pointwise-image}
use Rattle.semantics.proofs.Multisets.{multiset-map, multiset-mono, multiset-sym, multiset-unmap-left}
use Rattle.semantics.proofs.Lifting.{down, down-lift, lift-down}
use Rattle.semantics.proofs.Atoms.{sub-var}
use Rattle.semantics.proofs.Closure.{eqv-path, eqv-nil}
use Rattle.semantics.proofs.Isos.{iso-sym, iso-trans, iso-of-maps, same_refl}
use Rattle.semantics.proofs.SolveLaws.{Solution, solve-solution, solve-clash, solution-down, solution-eqv}
use Rattle.semantics.proofs.VariantLaws.{variant-right, variant-left, down-same, iso-variant}
use Rattle.semantics.proofs.Represent.{ScopedState, rep-same}

-- a list of terms, equations and constraints as a configuration
abbrev pub conf_with : List Term → List Equation → List Constraint → Config
conf_with b es cs = record { Var = ℕ; face = map lift b; eqs = map lift_eqn es; store = map lift_atom cs }

-- a published state, without its goal store
abbrev pub conf_p : Published → Config
conf_p p = conf_with (map T.var p.variables) p.built_in_store p.user_store

-- solving the equations and putting the solution in throughout leaves an equal configuration
pub solved-iso :
    (b : List Term) (es : List Equation) (cs : List Constraint) {σ : Term → Term} → solve es (λ t. t) ≡ some σ
    → Iso (conf_of (map σ b) (map (map_terms σ) cs)) (conf_with b es cs)
unfolding map_terms
solved-iso b es cs {σ} p =
    iso-sym (iso-of-maps (conf_with b es cs) (conf_of (map σ b) (map (map_terms σ) cs)) become var (λ t. Unit {0}) (λ c. tt) held
    (λ e i. elim i [ ]) (λ t u. undo t)
    (pointwise-map lift lift (pointwise-image σ becomes b))
    (multiset-of-pointwise (pointwise-map lift_atom lift_atom (pointwise-image (map_terms σ) (λ c. record {
      symbols = refl;
      args = pointwise-map lift lift (pointwise-image σ becomes c.terms);
    }) cs))))
  where
    become : ℕ → Tm ℕ
    become x = lift (σ (T.var x))

    at : (t : Term) → sub become (lift t) ≡ lift (σ t)
    at (T.con c) = sym (ap lift ((solve-solution es p).fixes c))
    at (T.var x) = refl

    becomes : (t : Term) → Unit {0} × Eqv [] (sub become (lift t)) (lift (σ t))
    becomes t = (tt, eqv-path (at t))

    held : (e : Eqn ℕ) → Member e (map lift_eqn es) → Eqv [] (sub become e.left) (sub become e.right)
    held e i =
        let (d, j, q) = member-unmap lift_eqn es i in
        rw q (eqv-path (at d.left ∙ ap lift ((solve-solution es p).joins j) ∙ sym (at d.right)))

    undo : (t : Tm ℕ) → Eqv (map lift_eqn es) (sub var (sub become t)) t
    undo (con c) = same
    undo (var x) = rw sub-var (flip ((solve-solution es p).follows (T.var x)))

-- a term of a state and a term whose solution a renaming makes equal to it
abbrev pub Renamed : (ℕ → ℕ → Type 0) → (Term → Term) → Tm ℕ → Tm ℕ → Type 0
Renamed ρ σ s t = TermVariant ρ (σ (down t)) (down s)

-- a one-to-one renaming respects and reflects equivalence under the solved equations
pub renamed-core :
    {es : List Equation} {σ : Term → Term} {ρ : ℕ → ℕ → Type 0} → Solution es σ → OneToOne ρ
    → Core [] (map lift_eqn es) (Renamed ρ σ)
renamed-core {es} {σ} {ρ} q o = record {
  fixes = λ c. subst (λ t. TermVariant ρ t (T.con c)) (sym (q.fixes c)) same_con;
  respects = λ {s} {t} {u} {v} r k h.
      let e : σ (down u) ≡ σ (down v) =
      variant-left o r (subst (λ x. TermVariant ρ (σ (down v)) (down x)) (sym (eqv-nil h)) k) in
      subst₂ (Eqv (map lift_eqn es)) (lift-down u) (lift-down v) (solution-eqv q (down u) (down v) e);
  reflects = λ {s} {t} {u} {v} r k h.
      eqv-path (down-same s t (variant-right o r
      (subst (λ x. TermVariant ρ x (down t)) (sym (solution-down q h)) k)));
}

-- pairs of terms and of constraints, as those of configurations
pub renamed-terms :
    (ρ : ℕ → ℕ → Type 0) (σ : Term → Term) (ts : List Term) {us : List Term} → Pointwise (TermVariant ρ) (map σ ts) us
    → Pointwise (Renamed ρ σ) (map lift us) (map lift ts)
renamed-terms ρ σ [] empty = empty
renamed-terms ρ σ (t ∷ ts) (each {b = u} r p) =
    each (subst₂ (λ x y. TermVariant ρ (σ x) y) (sym (down-lift t)) (sym (down-lift u)) r) (renamed-terms ρ σ ts p)

pub renamed-atoms :
    (ρ : ℕ → ℕ → Type 0) (σ : Term → Term) (c d : Constraint) → ConstraintVariant ρ (map_terms σ c) d
    → AtomRel (Renamed ρ σ) (lift_atom d) (lift_atom c)
unfolding map_terms
renamed-atoms ρ σ c d q = record { symbols = sym q.symbols; args = renamed-terms ρ σ c.terms q.terms }

-- a published state and a state that a renaming of its solved form makes equal, as configurations
abbrev pub renaming-iso :
    (a : Published) (ρ : ℕ → ℕ → Type 0) (σ : Term → Term) (b : List Term) (cs : List Constraint)
    → solve a.built_in_store (λ t. t) ≡ some σ → OneToOne ρ → Pointwise (TermVariant ρ) (map σ (map T.var a.variables)) b
    → SameMultiset (ConstraintVariant ρ) (map (map_terms σ) a.user_store) cs → Iso (conf_of b cs) (conf_p a)
renaming-iso a ρ σ b cs p o f s = record {
  R = Renamed ρ σ;
  core = renamed-core (solve-solution a.built_in_store p) o;
  faces = renamed-terms ρ σ (map T.var a.variables) f;
  stores = multiset-map lift_atom lift_atom (multiset-mono (λ d c q. renamed-atoms ρ σ c d q)
      (multiset-sym (multiset-unmap-left (map_terms σ) a.user_store s)));
}

-- a state represents a published one exactly when it represents it as a configuration
pub represents-rep : (p : Published) (s : State) → ScopedState s → Represents p s → Rep s (conf_p p)
unfolding solved_form settle
represents-rep p s scoped = go (solve p.built_in_store (λ t. t)) refl s scoped
  where
    go :
        (o : Option (Term → Term)) → solve p.built_in_store (λ t. t) ≡ o → (s : State) → ScopedState s
        → Variant (settle o 0 (map T.var p.variables) p.user_store) s → Rep s (conf_p p)
    go none q failed h v =
        let (one, two, d, e) = solve-clash p.built_in_store q in
        has_failed (record { one = one; two = two; apart = d; clash = e })
    go none q (live n b cs) h v = absurd v.lower
    go (some σ) q failed h v = absurd v.lower
    go (some σ) q (live n b cs) h (ρ, o, f, m) = is_live h (renaming-iso p ρ σ b cs q o f m)

-- and conversely
pub rep-represents : (p : Published) (s : State) → Rep s (conf_p p) → Represents p s
unfolding solved_form settle
rep-represents p s r = go (solve p.built_in_store (λ t. t)) refl r
  where
    same-con : {x y : ℕ} → ◌≡◌ {A = Term} (T.con x) (T.con y) → x ≡ y
    same-con p = cc

    go :
        (o : Option (Term → Term)) → solve p.built_in_store (λ t. t) ≡ o → {s : State} → Rep s (conf_p p)
        → Variant (settle o 0 (map T.var p.variables) p.user_store) s
    go none q r =
        let (one, two, d, e) = solve-clash p.built_in_store q in
        rep-same (has_failed (record { one = one; two = two; apart = d; clash = e })) r (same_refl (conf_p p))
    go (some σ) q (has_failed n) =
        let k = solve-solution p.built_in_store q in
        absurd (n.apart (same-con (sym (k.fixes n.one) ∙ solution-down k n.clash ∙ k.fixes n.two)))
    go (some σ) q (is_live {n} h I) =
        iso-variant 0 n (iso-trans (solved-iso (map T.var p.variables) p.built_in_store p.user_store q) (iso-sym I))
