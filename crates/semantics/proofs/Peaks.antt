-- Peaks: a configuration in which heads fit atoms is the configuration of these heads alone, in a context.
--   peak_of, around      the heads as a configuration, over variables of their own; the rest as its context
--   peak-iso            the configuration equals the heads in that context, atom by atom
-- Assumes nothing.
use mathlib.Core.List.{List, ◌++◌, map}
use mathlib.Core.Path.{◌≡◌, refl, sym, subst}
use Rattle.semantics.specs.Variants.{Pointwise, SameMultiset}
use Rattle.semantics.proofs.Configurations.{Or, inl, inr, Member, Tm, con, var, Atom, Eqn, sub, sub_atom, old, new, flat}
use Rattle.semantics.proofs.Configurations.{Eqv, same, flip, Config, AtomRel, Iso, Context, plug}
use Rattle.semantics.proofs.Multisets.{pointwise-sym, pointwise-mono, pointwise-map, pointwise-map-right}
use Rattle.semantics.proofs.Multisets.{pointwise-unmap, pointwise-image, multiset-append, multiset-of-pointwise}
use Rattle.semantics.proofs.Multisets.{multiset-left}
use Rattle.semantics.proofs.Atoms.{eqn, equal-pairs, sub-var, atom-sym, atom-mono, atom-image, atom-sub-right}
use Rattle.semantics.proofs.Atoms.{flat-pointwise, unflat-pointwise}
use Rattle.semantics.proofs.Closure.{eqv-path, derives-var}
use Rattle.semantics.proofs.Links.{linked, linked-new, linked-equates, derives-linked, equates-pointwise}
use Rattle.semantics.proofs.Isos.{core-of-maps}

-- atoms and equations, all of whose terms are their face
abbrev pub peak_of : {W : Type 0} → List (Atom W) → List (Eqn W) → Config
peak_of {W} Hs Es = record { Var = W; face = flat Hs; eqs = Es; store = Hs }

-- a configuration without the atoms Ms, L being the rest, as the context of what stands for them
abbrev pub around : (C : Config) → List (Atom C.Var) → List (Atom C.Var) → Context
around C Ms L = record { Var = C.Var; face = C.face; eqs = C.eqs; store = L; links = flat Ms }

-- the variables of the heads as what they stand for, the others as they are
abbrev standing : {W X : Type 0} → (W → Tm X) → Or W X → Tm X
standing δ (inl w) = δ w
standing δ (inr x) = var x

-- that undoes the renaming of the others
standing-new : {W X : Type 0} (δ : W → Tm X) (t : Tm X) → sub (standing δ) (sub new t) ≡ t
standing-new δ (con c) = refl
standing-new δ (var x) = refl

-- linked atoms are related by the equations that link them
linked-atoms :
    {W X : Type 0} {P : Tm X → Tm W → Type 0} (Ms : List (Atom X)) (Hs : List (Atom W)) (F : List (Eqn X)) (E : List (Eqn W))
    → Pointwise (AtomRel P) Ms Hs
    → Pointwise (AtomRel (λ m h. Unit {0} × Eqv (linked (flat Ms) (flat Hs) F E) (sub new m) (sub old h))) Ms Hs
linked-atoms Ms Hs F E p =
    unflat-pointwise p
    (pointwise-mono (λ m h i. (tt, linked-equates (flat Ms) (flat Hs) F E (eqn (sub new m) (sub old h)) i))
    (pointwise-unmap (sub new) (sub old) (flat Ms) (flat Hs)
    (equal-pairs {P = λ s t. Unit {0}} (pointwise-map (sub new) (sub old) (pointwise-mono (λ m h q. tt) (flat-pointwise p))))))

-- a configuration whose atoms Ms the heads Hs fit, and whose equations make the equations Es hold, equals the heads and these
-- equations in the context around Ms; its atoms Ms are the heads, and the rest is itself
pub peak-iso :
    {W : Type 0} (C : Config) (Hs : List (Atom W)) (Es : List (Eqn W)) (Ms L : List (Atom C.Var)) (δ : W → Tm C.Var)
    → Pointwise (AtomRel (λ h m. Eqv C.eqs (sub δ h) m)) Hs Ms
    → ((e : Eqn W) → Member e Es → Eqv C.eqs (sub δ e.left) (sub δ e.right))
    → SameMultiset ◌≡◌ C.store (Ms ++ L)
    → (I : Iso C (plug (around C Ms L) (peak_of Hs Es)))
    × Pointwise (AtomRel I.R) Ms (map (sub_atom old) Hs) × Pointwise (AtomRel I.R) L (map (sub_atom new) L)
peak-iso {W} C Hs Es Ms L δ p d s = (
  record {
    R = λ u v. Unit {0} × Eqv all (sub new u) v;
    core = core-of-maps new (standing δ) (λ t. Unit {0}) (λ c. tt) (linked-new (flat Ms) (flat Hs) C.eqs Es)
        (derives-linked (standing δ) (flat Ms) (flat Hs) C.eqs Es
        (equates-pointwise var δ (pointwise-mono (λ m h q. subst (λ t. Eqv C.eqs t (sub δ h)) (sym (sub-var m)) q)
        (flat-pointwise fitted)))
        (derives-var C.eqs) d)
        (λ t u. eqv-path (standing-new δ t));
    faces = pointwise-image (sub new) (λ t. (tt, same)) C.face;
    stores = multiset-left s (multiset-append (multiset-of-pointwise matched) (multiset-of-pointwise rest));
  },
  matched,
  rest,
)
  where
    all : List (Eqn (Or W C.Var))
    all = linked (flat Ms) (flat Hs) C.eqs Es

    fitted : Pointwise (AtomRel (λ m h. Eqv C.eqs m (sub δ h))) Ms Hs
    fitted = pointwise-mono (λ m h r. atom-mono (λ t u q. flip q) (atom-sym r)) (pointwise-sym p)

    matched : Pointwise (AtomRel (λ u v. Unit {0} × Eqv all (sub new u) v)) Ms (map (sub_atom old) Hs)
    matched =
        pointwise-map-right (sub_atom old)
        (pointwise-mono (λ m h r. atom-sub-right old r) (linked-atoms Ms Hs C.eqs Es fitted))

    rest : Pointwise (AtomRel (λ u v. Unit {0} × Eqv all (sub new u) v)) L (map (sub_atom new) L)
    rest = pointwise-image (sub_atom new) (λ a. atom-image new (λ t. (tt, same)) a) L
