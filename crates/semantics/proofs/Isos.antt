-- Isos: equal configurations.
--   iso-refl, -sym, -trans     an equivalence
--   inconsistent-iso           equal configurations have failed alike
--   same_refl, -sym, -trans    the same, or both failed
--   iso-of-maps                equality by substitutions both ways
-- Assumes nothing.
use Prim.Native.Nat.{ℕ}
use mathlib.Core.List.{List, map}
use mathlib.Core.Path.{◌≡◌, subst}
use Rattle.semantics.specs.Variants.{Pointwise, SameMultiset}
use Rattle.semantics.proofs.Configurations.{Member, Tm, con, Eqn, sub, sub_atom, Eqv, same, flip, chain, Config}
use Rattle.semantics.proofs.Configurations.{Inconsistent, AtomRel, Core, Iso, Same, iso, both_fail}
use Rattle.semantics.proofs.Multisets.{pointwise-refl, pointwise-sym, pointwise-trans, pointwise-image, multiset-refl}
use Rattle.semantics.proofs.Multisets.{multiset-sym, multiset-trans, multiset-mono, multiset-right}
use Rattle.semantics.proofs.Multisets.{multiset-of-pointwise}
use Rattle.semantics.proofs.Atoms.{atom-refl, atom-sym, atom-trans, atom-image}
use Rattle.semantics.proofs.Closure.{eqv-sub, eqv-path}
use Rattle.semantics.proofs.Cores.{core-refl, core-sym, core-trans}

-- a configuration equals itself
unfoldable pub iso-refl : (C : Config) → Iso C C
iso-refl C = record {
  R = Eqv C.eqs;
  core = core-refl C.eqs;
  faces = pointwise-refl (λ t. same) C.face;
  stores = multiset-refl (λ a. atom-refl (λ t. same) a) C.store;
}

-- the other way round
unfoldable pub iso-sym : {C D : Config} → Iso C D → Iso D C
iso-sym I = record {
  R = λ u s. I.R s u;
  core = core-sym I.core;
  faces = pointwise-sym I.faces;
  stores = multiset-mono (λ b a r. atom-sym r) (multiset-sym I.stores);
}

-- one after another
unfoldable pub iso-trans : {C D B : Config} → Iso C D → Iso D B → Iso C B
iso-trans {D} I J = record {
  R = λ s u. (t : Tm D.Var) × I.R s t × J.R t u;
  core = core-trans I.core J.core;
  faces = pointwise-trans I.faces J.faces;
  stores = multiset-mono (λ a c h. atom-trans h.1 h.2) (multiset-trans I.stores J.stores);
}

-- equal configurations have failed alike
pub inconsistent-iso : {C D : Config} → Iso C D → Inconsistent C → Inconsistent D
inconsistent-iso I n = record {
  one = n.one;
  two = n.two;
  apart = n.apart;
  clash = I.core.respects (I.core.fixes n.one) (I.core.fixes n.two) n.clash;
}

-- equal or both failed: an equivalence
pub same_refl : (C : Config) → Same C C
same_refl C = iso (iso-refl C)

pub same-sym : {C D : Config} → Same C D → Same D C
same-sym (iso I) = iso (iso-sym I)
same-sym (both_fail n m) = both_fail m n

pub same-trans : {C D B : Config} → Same C D → Same D B → Same C B
same-trans (iso I) (iso J) = iso (iso-trans I J)
same-trans (iso I) (both_fail n m) = both_fail (inconsistent-iso (iso-sym I) n) m
same-trans (both_fail n m) (iso J) = both_fail n (inconsistent-iso J m)
same-trans (both_fail n m) (both_fail n' m') = both_fail n m'

-- where one has failed, so has the other
pub same-inconsistent : {C D : Config} → Same C D → Inconsistent C → Inconsistent D
same-inconsistent (iso I) n = inconsistent-iso I n
same-inconsistent (both_fail n m) k = m

-- substitutions both ways under which the equations follow, and of which the second undoes the first on the terms in use
pub core-of-maps :
    {X Y : Type 0} {E : List (Eqn X)} {D : List (Eqn Y)} (f : X → Tm Y) (g : Y → Tm X) (used : Tm X → Type 0)
    → ((c : ℕ) → used (con c))
    → ((e : Eqn X) → Member e E → Eqv D (sub f e.left) (sub f e.right))
    → ((e : Eqn Y) → Member e D → Eqv E (sub g e.left) (sub g e.right))
    → ((t : Tm X) → used t → Eqv E (sub g (sub f t)) t)
    → Core E D (λ u v. used u × Eqv D (sub f u) v)
core-of-maps f g used h d k undo = record {
  fixes = λ c. (h c, same);
  respects = λ r q p. chain (flip r.1) (chain (eqv-sub f d p) q.1);
  reflects = λ {s} {t} {u} {v} r q p.
      chain (flip (undo s r.0))
      (chain (eqv-sub g k (chain r.1 (chain p (flip q.1)))) (undo t q.0));
}

-- equality by substitutions
unfoldable pub iso-of-maps :
    (C D : Config) (f : C.Var → Tm D.Var) (g : D.Var → Tm C.Var) (used : Tm C.Var → Type 0)
    → ((c : ℕ) → used (con c))
    → ((e : Eqn C.Var) → Member e C.eqs → Eqv D.eqs (sub f e.left) (sub f e.right))
    → ((e : Eqn D.Var) → Member e D.eqs → Eqv C.eqs (sub g e.left) (sub g e.right))
    → ((t : Tm C.Var) → used t → Eqv C.eqs (sub g (sub f t)) t)
    → Pointwise (λ u v. used u × Eqv D.eqs (sub f u) v) C.face D.face
    → SameMultiset (AtomRel (λ u v. used u × Eqv D.eqs (sub f u) v)) C.store D.store
    → Iso C D
iso-of-maps C D f g used h d k undo faces stores = record {
  R = λ u v. used u × Eqv D.eqs (sub f u) v;
  core = core-of-maps f g used h d k undo;
  faces = faces;
  stores = stores;
}

-- equality by substitutions that undo each other and make the faces equal and the stores equal multisets
pub iso-of-images :
    (C D : Config) (f : C.Var → Tm D.Var) (g : D.Var → Tm C.Var)
    → ((e : Eqn C.Var) → Member e C.eqs → Eqv D.eqs (sub f e.left) (sub f e.right))
    → ((e : Eqn D.Var) → Member e D.eqs → Eqv C.eqs (sub g e.left) (sub g e.right))
    → ((t : Tm C.Var) → sub g (sub f t) ≡ t)
    → map (sub f) C.face ≡ D.face → SameMultiset ◌≡◌ (map (sub_atom f) C.store) D.store → Iso C D
iso-of-images C D f g d k undo faces stores =
    iso-of-maps C D f g (λ t. Unit {0}) (λ c. tt) d k (λ t u. eqv-path (undo t))
    (subst (Pointwise (λ u v. Unit {0} × Eqv D.eqs (sub f u) v) C.face) faces
    (pointwise-image (sub f) (λ t. (tt, same)) C.face))
    (multiset-right (multiset-of-pointwise (pointwise-image (sub_atom f) (atom-image f (λ t. (tt, same))) C.store)) stores)
