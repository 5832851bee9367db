-- Stepping: equal configurations take equal steps.
--   fits-of-pairs             heads fit atoms whose terms agree wherever the heads have the same variable
--   fits-iso, fire-iso        in an equal configuration the same rule fits, and firing it gives equal configurations
--   step-iso, steps-iso       a step, and steps, from equal configurations
-- Assumes nothing.
use Prim.Native.Nat.{ℕ}
use mathlib.Core.Bool.{Bool, true, false, cond}
use mathlib.Core.List.{List, [], ◌∷◌, map}
use mathlib.Core.Path.{◌≡◌, sym, subst}
use lib.Dec.{T, eqb, eqb→eq, eqb_refl}
use Rattle.semantics.specs.Terms.{Rule}
use Rattle.semantics.specs.Variants.{Pointwise, empty, each, SameMultiset}
use Rattle.semantics.proofs.Configurations.{Or, inl, inr, Member, later, Tm, con, var, Atom, Eqn, sub, sub_atom, flat}
use Rattle.semantics.proofs.Configurations.{Eqv, same, flip, chain, Config, AtomRel, Core, Iso, heads_of, body_of, eqs_of}
use Rattle.semantics.proofs.Configurations.{Fits}
use Rattle.semantics.proofs.Configurations.{fire_c, Step, step, Steps, stay, go}
use Rattle.semantics.proofs.Multisets.{pointwise-trans, pointwise-mono, pointwise-member, pointwise-map-right}
use Rattle.semantics.proofs.Multisets.{pointwise-refl, multiset-append, multiset-mono, multiset-pick, member-cons}
use Rattle.semantics.proofs.Atoms.{sub-sub, atom-refl, atom-trans, flat-pointwise, unflat-pointwise}
use Rattle.semantics.proofs.Closure.{eqv-sub}
use Rattle.semantics.proofs.Cores.{Ext, ext-old, ext-old-atoms, ext-new-atoms}
use Rattle.semantics.proofs.Links.{core-linked}
use Rattle.semantics.proofs.Isos.{iso-refl}

-- what stands where x first stands
lookup : {Y : Type 0} → ℕ → List (Tm ℕ) → List (Tm Y) → Tm Y
lookup x [] ms = con 0
lookup x (h ∷ hs) [] = con 0
lookup x (con c ∷ hs) (m ∷ ms) = lookup x hs ms
lookup x (var y ∷ hs) (m ∷ ms) = cond (eqb x y) m (lookup x hs ms)

-- that is related to x where x stands in the list
lookup-found :
    {Y : Type 0} {P : Tm ℕ → Tm Y → Type 0} {hs : List (Tm ℕ)} {ms : List (Tm Y)} (x : ℕ)
    → Pointwise P hs ms → Member (var x) hs → P (var x) (lookup x hs ms)
unfolding lookup
lookup-found x empty i = elim i [ ]
lookup-found x (each {a = con c} p ps) (later i) = lookup-found x ps i
lookup-found {P} x (each {a = var y} {b = m} {l = hs} {m = ms} p ps) i =
    found (eqb x y) (eqb→eq x y) (λ e. subst (λ z. T (eqb x z)) e (eqb_refl x)) (member-cons i) (λ j. lookup-found x ps j)
  where
    found :
        (b : Bool) → (T b → x ≡ y) → (x ≡ y → T b) → Or (◌≡◌ {A = Tm ℕ} (var x) (var y)) (Member (var x) hs)
        → (Member (var x) hs → P (var x) (lookup x hs ms)) → P (var x) (cond b m (lookup x hs ms))
    found true h k i rest = subst (λ z. P (var z) m) (sym (h tt)) p
    found false h k (inl e) rest = absurd (k (cc))
    found false h k (inr j) rest = rest j

-- heads fit atoms whose terms agree: with a constant where the heads have it, and with each other where they have one variable
pub fits-of-pairs :
    {Y : Type 0} {E : List (Eqn Y)} {P : Tm ℕ → Tm Y → Type 0} {hs : List (Atom ℕ)} {M : List (Atom Y)}
    → ((c : ℕ) (m : Tm Y) → P (con c) m → Eqv E (con c) m)
    → ((x : ℕ) (m n : Tm Y) → P (var x) m → P (var x) n → Eqv E m n)
    → Pointwise (AtomRel P) hs M → Fits E hs M
fits-of-pairs {Y} {E} {P} {hs} {M} cons vars p = record {
  θ = λ x. lookup x (flat hs) (flat M);
  fits = unflat-pointwise p (pointwise-mono fit (pointwise-member (flat-pointwise p)));
}
  where
    fit : (h : Tm ℕ) (m : Tm Y) → Member h (flat hs) × P h m → Eqv E (sub (λ x. lookup x (flat hs) (flat M)) h) m
    fit (con c) m k = cons c m k.1
    fit (var x) m k = vars x (lookup x (flat hs) (flat M)) m (lookup-found x (flat-pointwise p) k.0) k.1

-- heads that fit atoms fit their partners in an equal configuration
pub fits-core :
    {X Y : Type 0} {E : List (Eqn X)} {D : List (Eqn Y)} {R : Tm X → Tm Y → Type 0} {hs : List (Atom ℕ)} {M : List (Atom X)}
    {N : List (Atom Y)} → Core E D R → Fits E hs M → Pointwise (AtomRel R) M N → Fits D hs N
fits-core {X} {D} {R} k f p =
    fits-of-pairs {P = λ h n. (m : Tm X) × Eqv _ (sub f.θ h) m × R m n}
    (λ c n q. k.respects (k.fixes c) q.2 q.1)
    (λ x m n q r. k.respects q.2 r.2 (chain (flip q.1) r.1))
    (pointwise-mono (λ a b h. atom-trans h.1 h.2) (pointwise-trans f.fits p))

pub fits-iso :
    {C D : Config} {hs : List (Atom ℕ)} {M : List (Atom C.Var)} {N : List (Atom D.Var)}
    (I : Iso C D) → Fits C.eqs hs M → Pointwise (AtomRel I.R) M N → Fits D.eqs hs N
fits-iso I f p = fits-core I.core f p

-- heads that fit atoms fit them under a substitution under which the equations follow
pub fits_sub :
    {X Y : Type 0} {E : List (Eqn X)} {D : List (Eqn Y)} {hs : List (Atom ℕ)} {M : List (Atom X)} (f : X → Tm Y)
    → ((e : Eqn X) → Member e E → Eqv D (sub f e.left) (sub f e.right)) → Fits E hs M → Fits D hs (map (sub_atom f) M)
fits_sub {X} {E} {D} f d k = record {
  θ = λ x. sub f (k.θ x);
  fits = pointwise-map-right (sub_atom f) (pointwise-mono moved k.fits);
}
  where
    moved :
        (h : Atom ℕ) (m : Atom X) → AtomRel (λ s t. Eqv E (sub k.θ s) t) h m
        → AtomRel (λ s t. Eqv D (sub (λ x. sub f (k.θ x)) s) t) h (sub_atom f m)
    moved h m r = record {
      symbols = r.symbols;
      args = pointwise-map-right (sub f)
          (pointwise-mono (λ s t q. subst (λ u. Eqv D u (sub f t)) (sub-sub f k.θ s) (eqv-sub f d q)) r.args);
    }

-- firing on partners gives equal configurations
pub fire-iso :
    {C D : Config} (r : Rule) {M L : List (Atom C.Var)} {N K : List (Atom D.Var)} (I : Iso C D)
    → Pointwise (AtomRel I.R) M N → SameMultiset (AtomRel I.R) L K → Iso (fire_c r C M L) (fire_c r D N K)
fire-iso r I p s = record {
  R = Ext ℕ I.R;
  core = core-linked (flat (heads_of r)) (eqs_of r) (flat-pointwise p) I.core;
  faces = ext-old ℕ I.faces;
  stores = multiset-append (ext-old-atoms ℕ s) (ext-new-atoms I.core.fixes (body_of r));
}

-- a step from one of two equal configurations is a step from the other, to an equal one
pub step-iso :
    {rs : List Rule} {C C' D : Config} → Iso C D → Step rs C C' → (D' : Config) × Step rs D D' × Iso C' D'
step-iso {D} I (step r M L i p f) =
    let h = multiset-pick M L I.stores p in
    (fire_c r D h.0 h.1, step r h.0 h.1 i h.2 (fits-iso I f h.3), fire-iso r I h.3 h.4)

-- likewise steps
pub steps-iso :
    {rs : List Rule} {C C' D : Config} → Iso C D → Steps rs C C' → (D' : Config) × Steps rs D D' × Iso C' D'
steps-iso {D} I stay = (D, stay, I)
steps-iso I (go s t) =
    let h = step-iso I s in
    let k = steps-iso h.2 t in
    (k.0, go h.1 k.1, k.2)

-- one step; steps after steps
pub steps-one : {rs : List Rule} {C D : Config} → Step rs C D → Steps rs C D
steps-one s = go s stay

-- firing leaves the rest in any order
pub fire-rest :
    (r : Rule) (C : Config) (M : List (Atom C.Var)) {L K : List (Atom C.Var)} → SameMultiset ◌≡◌ L K
    → Iso (fire_c r C M L) (fire_c r C M K)
unfolding iso-refl
fire-rest r C M s =
    fire-iso r (iso-refl C) (pointwise-refl (atom-refl (λ t. same)) M)
    (multiset-mono (λ a b e. subst (AtomRel (Eqv C.eqs) a) e (atom-refl (λ t. same) a)) s)
