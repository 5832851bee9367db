-- Cores: relations of terms that respect and reflect equivalence.
--   core-refl, -sym, -trans     they compose
--   core-add, -adds, -equal     equations added on both sides
--   Ext, core-extend, ext-…     new variables on both sides
-- Assumes nothing.
use Prim.Native.Nat.{ℕ}
use mathlib.Core.List.{List, ◌∷◌, ◌++◌, map}
use mathlib.Core.Path.{◌≡◌, refl, sym, ap, ◌∙◌, subst₂}
use native.Mathlib.Omega.{arith}
use Rattle.semantics.specs.Variants.{Pointwise, empty, each, SameMultiset}
use Rattle.semantics.proofs.Configurations.{Or, inl, inr, first, later, Tm, con, var, Eqn, sub, sub_eqn, old, new, equal}
use Rattle.semantics.proofs.Configurations.{Atom, sub_atom, Eqv, given, same, flip, chain, AtomRel, Core}
use Rattle.semantics.proofs.Multisets.{pointwise-refl, pointwise-mono, pointwise-map, multiset-refl, multiset-mono}
use Rattle.semantics.proofs.Multisets.{multiset-map, member-map, member-unmap}
use Rattle.semantics.proofs.Atoms.{atom-refl, atom-mono, atom-sub}
use Rattle.semantics.proofs.Closure.{eqv-mono, eqv-sub, eqv-path, one_more, derives-map, derives-var}

-- equivalence itself
pub core-refl : {X : Type 0} (E : List (Eqn X)) → Core E E (Eqv E)
core-refl E = record {
  fixes = λ c. same;
  respects = λ r q h. chain (flip r) (chain h q);
  reflects = λ r q h. chain r (chain h (flip q));
}

-- the other way round
pub core-sym :
    {X Y : Type 0} {E : List (Eqn X)} {D : List (Eqn Y)} {R : Tm X → Tm Y → Type 0} → Core E D R → Core D E (λ u s. R s u)
core-sym k = record {
  fixes = λ c. k.fixes c;
  respects = λ r q h. k.reflects r q h;
  reflects = λ r q h. k.respects r q h;
}

-- one after another
pub core-trans :
    {X Y Z : Type 0} {E : List (Eqn X)} {D : List (Eqn Y)} {F : List (Eqn Z)} {R : Tm X → Tm Y → Type 0}
    {S : Tm Y → Tm Z → Type 0} → Core E D R → Core D F S → Core E F (λ s u. (t : Tm Y) × R s t × S t u)
core-trans k l = record {
  fixes = λ c. (con c, k.fixes c, l.fixes c);
  respects = λ r q h. l.respects r.2 q.2 (k.respects r.1 q.1 h);
  reflects = λ r q h. k.reflects r.1 q.1 (l.reflects r.2 q.2 h);
}

-- two equations whose sides are related
abbrev pub Sides : {X Y : Type 0} → (Tm X → Tm Y → Type 0) → Eqn X → Eqn Y → Type 0
Sides R e d = R e.left d.left × R e.right d.right

-- related terms that are equivalent by one more equation have partners equivalent by its partner
add-respects :
    {X Y : Type 0} {E : List (Eqn X)} {D : List (Eqn Y)} {R : Tm X → Tm Y → Type 0} {e : Eqn X} {d : Eqn Y}
    {s t : Tm X} {u v : Tm Y} → Core E D R → Sides R e d → R s u → R t v
    → Or (Eqv E s t) (Or (Eqv E s e.left × Eqv E e.right t) (Eqv E s e.right × Eqv E e.left t)) → Eqv (d ∷ D) u v
add-respects k p r q (inl h) = eqv-mono (λ e i. later i) (k.respects r q h)
add-respects k p r q (inr (inl h)) =
    chain (eqv-mono (λ e i. later i) (k.respects r p.0 h.0))
    (chain (given first) (eqv-mono (λ e i. later i) (k.respects p.1 q h.1)))
add-respects k p r q (inr (inr h)) =
    chain (eqv-mono (λ e i. later i) (k.respects r p.1 h.0))
    (chain (flip (given first)) (eqv-mono (λ e i. later i) (k.respects p.0 q h.1)))

-- one more equation on each side, between related terms
pub core-add :
    {X Y : Type 0} {E : List (Eqn X)} {D : List (Eqn Y)} {R : Tm X → Tm Y → Type 0} {e : Eqn X} {d : Eqn Y}
    → R e.left d.left → R e.right d.right → Core E D R → Core (e ∷ E) (d ∷ D) R
core-add p q k = record {
  fixes = k.fixes;
  respects = λ a b h. add-respects k (p, q) a b (one_more h);
  reflects = λ a b h. add-respects (core-sym k) (p, q) a b (one_more h);
}

-- lists of such equations
pub core-adds :
    {X Y : Type 0} {E : List (Eqn X)} {D : List (Eqn Y)} {R : Tm X → Tm Y → Type 0} {F : List (Eqn X)} {G : List (Eqn Y)}
    → Pointwise (λ e d. R e.left d.left × R e.right d.right) F G → Core E D R → Core (F ++ E) (G ++ D) R
core-adds empty k = k
core-adds (each p ps) k = core-add p.0 p.1 (core-adds ps k)

-- the equations between related lists are between related terms
pub equal-sides :
    {X Y : Type 0} {R : Tm X → Tm Y → Type 0} {ss ts : List (Tm X)} {us vs : List (Tm Y)}
    → Pointwise R ss us → Pointwise R ts vs → Pointwise (Sides R) (equal ss ts) (equal us vs)
equal-sides empty q = empty
equal-sides (each r p) empty = empty
equal-sides (each r p) (each s q) = each (r, s) (equal-sides p q)

-- the equations between related lists, added on each side
pub core-equal :
    {X Y : Type 0} {E : List (Eqn X)} {D : List (Eqn Y)} {R : Tm X → Tm Y → Type 0} {ss ts : List (Tm X)} {us vs : List (Tm Y)}
    → Pointwise R ss us → Pointwise R ts vs → Core E D R → Core (equal ss ts ++ E) (equal us vs ++ D) R
core-equal p q k = core-adds (equal-sides p q) k

-- a relation, with new variables on both sides: an old term to an old term, a new variable to itself
pub data Ext {X Y : Type 0} (Z : Type 0) (R : Tm X → Tm Y → Type 0) : Tm (Or X Z) → Tm (Or Y Z) → Type 0 where
  olds : {s : Tm X} {u : Tm Y} → R s u → Ext Z R (sub old s) (sub old u)
  news : {z : Z} → Ext Z R (var (inr z)) (var (inr z))

-- the old variables again, a constant for the new ones
abbrev back : {X Z : Type 0} → Or X Z → Tm X
back (inl x) = var x
back (inr z) = con 0

back-old : {X : Type 0} (Z : Type 0) (t : Tm X) → sub (back {Z = Z}) (sub old t) ≡ t
back-old Z (con c) = refl
back-old Z (var x) = refl

-- equivalent terms are equivalent as old terms, and conversely
pub eqv-old :
    {X : Type 0} (Z : Type 0) {E : List (Eqn X)} {s t : Tm X}
    → Eqv E s t → Eqv (map (sub_eqn (old {Z = Z})) E) (sub old s) (sub old t)
eqv-old Z h = eqv-sub old (λ e i. given (member-map (sub_eqn old) i)) h

pub eqv-unold :
    {X : Type 0} (Z : Type 0) {E : List (Eqn X)} (s t : Tm X)
    → Eqv (map (sub_eqn (old {Z = Z})) E) (sub old s) (sub old t) → Eqv E s t
eqv-unold Z {E} s t h =
    subst₂ (Eqv E) (back-old Z s) (back-old Z t)
    (eqv-sub back (derives-map back old E (derives-var E)) h)

-- no old term is a new variable
old-new : {X Z : Type 0} (s : Tm X) (z : Z) → sub old s ≡ new z → ⊥
old-new (con c) z p = let n : ◌≡◌ {A = ℕ} 0 1 = cc in omega arith
old-new (var x) z p = let n : ◌≡◌ {A = ℕ} 0 1 = cc in omega arith

-- equal new variables are the same
new-same : {X Z : Type 0} (z w : Z) → ◌≡◌ {A = Tm (Or X Z)} (new z) (new w) → z ≡ w
new-same z w p = cc

-- by equations of old terms a new variable is equivalent to itself alone
new-alone :
    {X Z : Type 0} (E : List (Eqn X)) {a b : Tm (Or X Z)} (z : Z) → Eqv (map (sub_eqn old) E) a b
    → (a ≡ new z → b ≡ new z) × (b ≡ new z → a ≡ new z)
new-alone E z (given i) =
    let h = member-unmap (sub_eqn old) E i in (
      λ p. absurd (old-new h.0.left z (sym (ap (λ x. x.left) h.2) ∙ p)),
      λ p. absurd (old-new h.0.right z (sym (ap (λ x. x.right) h.2) ∙ p)),
    )
new-alone E z same = (λ p. p, λ p. p)
new-alone E z (flip h) = let k = new-alone E z h in (k.1, k.0)
new-alone E z (chain h k) =
    let l = new-alone E z h in
    let m = new-alone E z k in
    (λ p. m.0 (l.0 p), λ p. l.1 (m.1 p))

-- the extended relation respects equivalence by equations of old terms
ext-respects :
    {X Y Z : Type 0} {E : List (Eqn X)} {D : List (Eqn Y)} {R : Tm X → Tm Y → Type 0} {s t : Tm (Or X Z)} {u v : Tm (Or Y Z)}
    → Core E D R → Ext Z R s u → Ext Z R t v → Eqv (map (sub_eqn old) E) s t → Eqv (map (sub_eqn old) D) u v
ext-respects {Z} k (olds {s} r) (olds {s = t} q) h = eqv-old Z (k.respects r q (eqv-unold Z s t h))
ext-respects {E} k (olds {s} r) (news {z}) h = absurd (old-new s z ((new-alone E z h).1 refl))
ext-respects {E} k (news {z}) (olds {s = t} q) h = absurd (old-new t z ((new-alone E z h).0 refl))
ext-respects {E} k (news {z}) (news {z = w}) h = eqv-path (ap new (new-same z w (sym ((new-alone E z h).0 refl))))

-- the other way round
pub ext-sym :
    {X Y Z : Type 0} {R : Tm X → Tm Y → Type 0} {s : Tm (Or X Z)} {u : Tm (Or Y Z)} → Ext Z R s u → Ext Z (λ u s. R s u) u s
ext-sym (olds r) = olds r
ext-sym news = news

-- new variables on both sides
pub core-extend :
    {X Y : Type 0} (Z : Type 0) {E : List (Eqn X)} {D : List (Eqn Y)} {R : Tm X → Tm Y → Type 0}
    → Core E D R → Core (map (sub_eqn old) E) (map (sub_eqn old) D) (Ext Z R)
core-extend Z k = record {
  fixes = λ c. olds (k.fixes c);
  respects = λ r q h. ext-respects k r q h;
  reflects = λ r q h. ext-respects (core-sym k) (ext-sym r) (ext-sym q) h;
}

-- old terms and old atoms that are related remain so
pub ext-old :
    {X Y : Type 0} (Z : Type 0) {R : Tm X → Tm Y → Type 0} {l : List (Tm X)} {m : List (Tm Y)}
    → Pointwise R l m → Pointwise (Ext Z R) (map (sub old) l) (map (sub old) m)
ext-old Z p = pointwise-map (sub old) (sub old) (pointwise-mono (λ s u r. olds r) p)

pub ext-old-atom :
    {X Y : Type 0} (Z : Type 0) {R : Tm X → Tm Y → Type 0} (a : Atom X) (b : Atom Y)
    → AtomRel R a b → AtomRel (Ext Z R) (sub_atom old a) (sub_atom old b)
ext-old-atom Z a b r = atom-sub old old (atom-mono (λ s u q. olds q) r)

pub ext-old-atoms :
    {X Y : Type 0} (Z : Type 0) {R : Tm X → Tm Y → Type 0} {l : List (Atom X)} {m : List (Atom Y)}
    → SameMultiset (AtomRel R) l m → SameMultiset (AtomRel (Ext Z R)) (map (sub_atom old) l) (map (sub_atom old) m)
ext-old-atoms Z s = multiset-map (sub_atom old) (sub_atom old) (multiset-mono (ext-old-atom Z) s)

-- a term of new variables is related to itself; so are lists of them, of atoms and of equations
pub ext-new :
    {X Y Z : Type 0} {R : Tm X → Tm Y → Type 0} → ((c : ℕ) → R (con c) (con c)) → (t : Tm Z) → Ext Z R (sub new t) (sub new t)
ext-new h (con c) = olds (h c)
ext-new h (var z) = news

pub ext-news :
    {X Y Z : Type 0} {R : Tm X → Tm Y → Type 0} → ((c : ℕ) → R (con c) (con c)) → (l : List (Tm Z))
    → Pointwise (Ext Z R) (map (sub new) l) (map (sub new) l)
ext-news h l = pointwise-map (sub new) (sub new) (pointwise-refl (ext-new h) l)

pub ext-new-atoms :
    {X Y Z : Type 0} {R : Tm X → Tm Y → Type 0} → ((c : ℕ) → R (con c) (con c)) → (l : List (Atom Z))
    → SameMultiset (AtomRel (Ext Z R)) (map (sub_atom new) l) (map (sub_atom new) l)
ext-new-atoms h l = multiset-map (sub_atom new) (sub_atom new) (multiset-refl (λ a. atom-sub new new (atom-refl (ext-new h) a)) l)

pub ext-new-eqns :
    {X Y Z : Type 0} {R : Tm X → Tm Y → Type 0} → ((c : ℕ) → R (con c) (con c)) → (l : List (Eqn Z))
    → Pointwise (Sides (Ext Z R)) (map (sub_eqn new) l) (map (sub_eqn new) l)
ext-new-eqns h l =
    pointwise-map (sub_eqn new) (sub_eqn new) (pointwise-refl (λ e. (ext-new h e.left, ext-new h e.right)) l)
