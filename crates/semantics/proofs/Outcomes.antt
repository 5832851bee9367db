-- Equal states fix what the goal variables became: at each of them the same constant, or variables that are equal in the one state
-- where they are in the other.
--   outcome-constant      a goal variable that became a constant in the one became it in the other
--   outcome-equal         two goal variables that became one term in the one did so in the other
-- Assumes nothing.
use Prim.Native.Nat.{ℕ, zero, suc}
use native.Mathlib.Omega.{arith}
use mathlib.Core.List.{List}
use mathlib.Core.Option.{some}
use mathlib.Core.Path.{◌≡◌, refl, sym, ap, subst, ◌∙◌}
use lib.ListN.{get_elem?}
use Rattle.semantics.specs.Terms.{Term, con, var, Constraint, live}
use Rattle.semantics.specs.Variants.{OneToOne, TermVariant, same_con, partners, Pointwise, empty, each, Variant}
use Rattle.semantics.proofs.Options.{none-some}

-- the partner at a place of related lists
related-at :
    {A B : Type 0} {R : A → B → Type 0} {l : List A} {m : List B} → Pointwise R l m → (i : ℕ) (a : A) → get_elem? l i ≡ some a
    → (b : B) × (get_elem? m i ≡ some b) × R a b
related-at empty i a e = none-some refl e
related-at {R} (each {a = x} {b = y} r p) zero a e = (y, refl, subst (λ z. R z y) (let q : x ≡ a = cc in q) r)
related-at (each r p) (suc i) a e = related-at p i a e

-- a constant is only itself
constant-partner : {ρ : ℕ → ℕ → Type 0} {s t : Term} {k : ℕ} → TermVariant ρ s t → s ≡ con k → t ≡ con k
constant-partner same_con e = e
constant-partner {k} (partners {x} r) e = absurd (let z : ◌≡◌ {A = ℕ} 0 1 = cc in omega arith)

-- one term has one partner
one-partner : {ρ : ℕ → ℕ → Type 0} {s t u v : Term} → OneToOne ρ → TermVariant ρ s t → TermVariant ρ u v → s ≡ u → t ≡ v
one-partner o same_con same_con e = e
one-partner o same_con (partners r) e = absurd (let z : ◌≡◌ {A = ℕ} 0 1 = cc in omega arith)
one-partner o (partners r) same_con e = absurd (let z : ◌≡◌ {A = ℕ} 0 1 = cc in omega arith)
one-partner {ρ} o (partners {x} {y} r) (partners {x = w} {y = z} q) e =
    let k : x ≡ w = cc in
    ap var (o.0 w y z (subst (λ a. ρ a y) k r) q)

-- a goal variable that became a constant in the one state became it in the other
pub outcome-constant :
    (m n : ℕ) {b c : List Term} {cs ds : List Constraint} → Variant (live m b cs) (live n c ds) → (i k : ℕ)
    → get_elem? b i ≡ some (con k) → get_elem? c i ≡ some (con k)
outcome-constant m n v i k e =
    let (t, f, r) = related-at v.2 i (con k) e in
    f ∙ ap some (constant-partner r refl)

-- two goal variables that became one term in the one state became one in the other
pub outcome-equal :
    (m n : ℕ) {b c : List Term} {cs ds : List Constraint} → Variant (live m b cs) (live n c ds) → (i j : ℕ) (s : Term)
    → get_elem? b i ≡ some s → get_elem? b j ≡ some s → (t : Term) × (get_elem? c i ≡ some t) × (get_elem? c j ≡ some t)
outcome-equal m n v i j s e f =
    let (t, g, r) = related-at v.2 i s e in
    let (u, h, q) = related-at v.2 j s f in
    (t, g, h ∙ ap some (sym (one-partner v.1 r q refl)))
