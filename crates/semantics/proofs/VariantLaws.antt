-- Equal states are equal configurations, so being equal is an equivalence of states.
--   variant-right, variant-left               a term has one partner under a renaming
--   variant-iso, iso-variant                  equal live states, as configurations, and back
--   variant-refl, variant-sym, variant-trans  an equivalence
-- Assumes nothing.
use Prim.Native.Nat.{ℕ}
use mathlib.Core.List.{List}
use mathlib.Core.Path.{◌≡◌, refl, sym, ap, subst, subst₂, ◌∙◌}
use native.Mathlib.Omega.{arith}
use Rattle.semantics.specs.Terms.{Term, Constraint, State, failed, live}
use Rattle.semantics.specs.Terms as T
use Rattle.semantics.specs.Variants.{OneToOne, TermVariant, same_con, partners, Variant}
use Rattle.semantics.proofs.Configurations.{Tm, con, var, same, Iso, lift, lift_atom, conf_of}
use Rattle.semantics.proofs.Multisets.{pointwise-mono, pointwise-map, pointwise-unmap}
use Rattle.semantics.proofs.Multisets.{multiset-mono, multiset-map, multiset-unmap}
use Rattle.semantics.proofs.Closure.{eqv-nil, eqv-path}
use Rattle.semantics.proofs.Isos.{iso-refl, iso-sym, iso-trans}
use Rattle.semantics.proofs.Lifting.{down, down-lift, lift-down}

-- under a one-to-one renaming a term has one partner, on either side
pub variant-right : {ρ : ℕ → ℕ → Type 0} {s t u : Term} → OneToOne ρ → TermVariant ρ s t → TermVariant ρ s u → t ≡ u
variant-right o same_con same_con = refl
variant-right o (partners {x} {y} r) (partners {y = z} q) = ap T.var (o.0 x y z r q)

pub variant-left : {ρ : ℕ → ℕ → Type 0} {s t u : Term} → OneToOne ρ → TermVariant ρ s u → TermVariant ρ t u → s ≡ t
variant-left o same_con same_con = refl
variant-left o (partners {x} {y} r) (partners {x = z} q) = ap T.var (o.1 x z y r q)

-- a term of a configuration is what it is down below
pub down-same : (s t : Tm ℕ) → down s ≡ down t → s ≡ t
down-same s t p = sym (lift-down s) ∙ ap lift p ∙ lift-down t

-- equal states are equal configurations
pub variant-iso :
    (m n : ℕ) {b c : List Term} {cs ds : List Constraint} → Variant (live m b cs) (live n c ds) → Iso (conf_of b cs) (conf_of c ds)
variant-iso m n (ρ, o, f, s) = record {
  R = λ s t. TermVariant ρ (down s) (down t);
  core = record {
    fixes = λ c. same_con;
    respects = λ {s} {t} {u} {v} r q h.
        eqv-path (down-same u v (variant-right o r (subst (λ x. TermVariant ρ (down x) (down v)) (sym (eqv-nil h)) q)));
    reflects = λ {s} {t} {u} {v} r q h.
        eqv-path (down-same s t (variant-left o r (subst (λ x. TermVariant ρ (down t) (down x)) (sym (eqv-nil h)) q)));
  };
  faces = pointwise-map lift lift (pointwise-mono raise f);
  stores = multiset-map lift_atom lift_atom (multiset-mono (λ c d q. record {
    symbols = q.symbols;
    args = pointwise-map lift lift (pointwise-mono raise q.terms);
  }) s);
}
  where
    raise : (s t : Term) → TermVariant ρ s t → TermVariant ρ (down (lift s)) (down (lift t))
    raise s t r = subst₂ (TermVariant ρ) (sym (down-lift s)) (sym (down-lift t)) r

-- a constant is no variable
con-var {ℓ} : {A : Type ℓ} {X : Type 0} {c : ℕ} {x : X} → ◌≡◌ {A = Tm X} (con c) (var x) → A
con-var p = absurd (let z : ◌≡◌ {A = ℕ} 0 1 = cc in omega arith)

-- equal configurations of states are equal states
pub iso-variant :
    (m n : ℕ) {b c : List Term} {cs ds : List Constraint} → Iso (conf_of b cs) (conf_of c ds) → Variant (live m b cs) (live n c ds)
iso-variant m n {b} {c} {cs} {ds} I = (
  (λ x y. I.R (var x) (var y)),
  (
    (λ x y z r q. same-var (eqv-nil (I.core.respects r q same))),
    λ x y z r q. same-var (eqv-nil (I.core.reflects r q same)),
  ),
  pointwise-mono lower (pointwise-unmap lift lift b c I.faces),
  multiset-mono (λ a d q. record {
    symbols = q.symbols;
    terms = pointwise-mono lower (pointwise-unmap lift lift a.terms d.terms q.args);
  }) (multiset-unmap lift_atom lift_atom cs ds I.stores),
)
  where
    same-var : {x y : ℕ} → ◌≡◌ {A = Tm ℕ} (var x) (var y) → x ≡ y
    same-var p = cc

    same-con : {x y : ℕ} → ◌≡◌ {A = Tm ℕ} (con x) (con y) → x ≡ y
    same-con p = cc

    lower : (s t : Term) → I.R (lift s) (lift t) → TermVariant (λ x y. I.R (var x) (var y)) s t
    lower (T.con c) (T.con d) r =
        let e = same-con (eqv-nil (I.core.respects (I.core.fixes c) r same)) in
        subst (λ k. TermVariant (λ x y. I.R (var x) (var y)) (T.con c) (T.con k)) e same_con
    lower (T.con c) (T.var y) r = con-var (eqv-nil (I.core.respects (I.core.fixes c) r same))
    lower (T.var x) (T.con d) r = con-var (eqv-nil (I.core.reflects (I.core.fixes d) r same))
    lower (T.var x) (T.var y) r = partners r

-- every state equals itself
pub variant-refl : (s : State) → Variant s s
variant-refl failed = tt
variant-refl (live n b cs) = iso-variant n n (iso-refl (conf_of b cs))

-- the other way round
pub variant-sym : (s t : State) → Variant s t → Variant t s
variant-sym failed failed h = tt
variant-sym failed (live n c ds) h = absurd h.lower
variant-sym (live m b cs) failed h = absurd h.lower
variant-sym (live m b cs) (live n c ds) h = iso-variant n m (iso-sym (variant-iso m n h))

-- one after another
pub variant-trans : (s t u : State) → Variant s t → Variant t u → Variant s u
variant-trans failed failed u h k = k
variant-trans failed (live n c ds) u h k = absurd h.lower
variant-trans (live m b cs) failed u h k = absurd h.lower
variant-trans (live m b cs) (live n c ds) failed h k = k
variant-trans (live m b cs) (live n c ds) (live l d es) h k = iso-variant m l (iso-trans (variant-iso m n h) (variant-iso n l k))
