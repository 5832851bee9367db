-- Atoms: the laws of substitutions, and of atoms related term by term.
--   sub-sub, sub-var, …     substitutions compose
--   flat-…, equal-…         the terms of atoms, the equations between two lists of terms
--   atom-…                  atoms related term by term
-- Assumes nothing.
use mathlib.Core.List.{List, [], ◌∷◌, ◌++◌, map, map-append}
use mathlib.Core.Path.{◌≡◌, refl, sym, ap, ◌∙◌}
use Rattle.semantics.specs.Variants.{Pointwise, empty, each}
use Rattle.semantics.proofs.Configurations.{Member, first, later, Tm, con, var, Atom, Eqn, sub, sub_atom, sub_eqn, equal}
use Rattle.semantics.proofs.Configurations.{flat, AtomRel}
use Rattle.semantics.proofs.Multisets.{pointwise-refl, pointwise-sym, pointwise-trans, pointwise-mono, pointwise-map}
use Rattle.semantics.proofs.Multisets.{pointwise-image, pointwise-map-right, pointwise-append, pointwise-parts}

-- one substitution after another is one
pub sub-sub : {X Y Z : Type 0} (f : Y → Tm Z) (g : X → Tm Y) (t : Tm X) → sub f (sub g t) ≡ sub (λ x. sub f (g x)) t
sub-sub f g (con c) = refl
sub-sub f g (var x) = refl

-- the substitution that changes nothing
pub sub-var : {X : Type 0} (t : Tm X) → sub var t ≡ t
sub-var (con c) = refl
sub-var (var x) = refl

-- the same on lists of terms, atoms and equations
pub map-sub-sub :
    {X Y Z : Type 0} (f : Y → Tm Z) (g : X → Tm Y) (l : List (Tm X))
    → map (sub f) (map (sub g) l) ≡ map (sub (λ x. sub f (g x))) l
map-sub-sub f g [] = refl
map-sub-sub f g (t ∷ l) = λ i. sub-sub f g t i ∷ map-sub-sub f g l i

pub sub_atom-sub :
    {X Y Z : Type 0} (f : Y → Tm Z) (g : X → Tm Y) (a : Atom X) → sub_atom f (sub_atom g a) ≡ sub_atom (λ x. sub f (g x)) a
sub_atom-sub f g a = λ i. record { symbol = a.symbol; args = map-sub-sub f g a.args i }

pub map-sub_atom-sub :
    {X Y Z : Type 0} (f : Y → Tm Z) (g : X → Tm Y) (l : List (Atom X))
    → map (sub_atom f) (map (sub_atom g) l) ≡ map (sub_atom (λ x. sub f (g x))) l
map-sub_atom-sub f g [] = refl
map-sub_atom-sub f g (a ∷ l) = λ i. sub_atom-sub f g a i ∷ map-sub_atom-sub f g l i

-- the terms of atoms under a substitution
pub flat-sub : {X Y : Type 0} (f : X → Tm Y) (l : List (Atom X)) → flat (map (sub_atom f) l) ≡ map (sub f) (flat l)
flat-sub f [] = refl
flat-sub f (a ∷ l) = ap (λ k. map (sub f) a.args ++ k) (flat-sub f l) ∙ sym (map-append (sub f) a.args (flat l))

-- the equations between terms under a substitution
pub equal-sub :
    {X Y : Type 0} (f : X → Tm Y) (ss ts : List (Tm X)) → map (sub_eqn f) (equal ss ts) ≡ equal (map (sub f) ss) (map (sub f) ts)
equal-sub f [] ts = refl
equal-sub f (s ∷ ss) [] = refl
equal-sub f (s ∷ ss) (t ∷ ts) =
    ap (λ k. record { left = sub f s; right = sub f t } ∷ k) (equal-sub f ss ts)

-- the equation between two terms
abbrev pub eqn : {X : Type 0} → Tm X → Tm X → Eqn X
eqn s t = record { left = s; right = t }

-- an equation between two related lists is between related terms
pub equal-holds :
    {X : Type 0} {P : Tm X → Tm X → Type 0} {ss ts : List (Tm X)} {e : Eqn X}
    → Pointwise P ss ts → Member e (equal ss ts) → P e.left e.right
equal-holds empty i = elim i [ ]
equal-holds (each p ps) first = p
equal-holds (each p ps) (later i) = equal-holds ps i

-- two lists that are as long are related by the equations between them
pub equal-pairs :
    {X : Type 0} {P : Tm X → Tm X → Type 0} {ss ts : List (Tm X)}
    → Pointwise P ss ts → Pointwise (λ s t. Member (eqn s t) (equal ss ts)) ss ts
equal-pairs empty = empty
equal-pairs (each p ps) = each first (pointwise-mono (λ s t i. later i) (equal-pairs ps))

-- an atom is related to itself where every term is
pub atom-refl : {X : Type 0} {R : Tm X → Tm X → Type 0} → ((t : Tm X) → R t t) → (a : Atom X) → AtomRel R a a
atom-refl h a = record { symbols = refl; args = pointwise-refl h a.args }

-- the other way round
pub atom-sym :
    {X Y : Type 0} {R : Tm X → Tm Y → Type 0} {a : Atom X} {b : Atom Y} → AtomRel R a b → AtomRel (λ u t. R t u) b a
atom-sym r = record { symbols = sym r.symbols; args = pointwise-sym r.args }

-- one relation after another
pub atom-trans :
    {X Y Z : Type 0} {R : Tm X → Tm Y → Type 0} {S : Tm Y → Tm Z → Type 0} {a : Atom X} {b : Atom Y} {c : Atom Z}
    → AtomRel R a b → AtomRel S b c → AtomRel (λ s u. (t : Tm Y) × R s t × S t u) a c
atom-trans r s = record { symbols = r.symbols ∙ s.symbols; args = pointwise-trans r.args s.args }

-- a weaker relation
pub atom-mono :
    {X Y : Type 0} {R S : Tm X → Tm Y → Type 0} {a : Atom X} {b : Atom Y}
    → ((s : Tm X) (t : Tm Y) → R s t → S s t) → AtomRel R a b → AtomRel S a b
atom-mono h r = record { symbols = r.symbols; args = pointwise-mono h r.args }

-- under substitutions
pub atom-sub :
    {X Y Z W : Type 0} {R : Tm Z → Tm W → Type 0} (f : X → Tm Z) (g : Y → Tm W) {a : Atom X} {b : Atom Y}
    → AtomRel (λ s t. R (sub f s) (sub g t)) a b → AtomRel R (sub_atom f a) (sub_atom g b)
atom-sub f g r = record { symbols = r.symbols; args = pointwise-map (sub f) (sub g) r.args }

pub atom-sub-right :
    {X Y W : Type 0} {R : Tm X → Tm W → Type 0} (g : Y → Tm W) {a : Atom X} {b : Atom Y}
    → AtomRel (λ s t. R s (sub g t)) a b → AtomRel R a (sub_atom g b)
atom-sub-right g r = record { symbols = r.symbols; args = pointwise-map-right (sub g) r.args }

-- an atom is related to what a substitution makes of it where every term is
pub atom-image :
    {X Y : Type 0} {R : Tm X → Tm Y → Type 0} (f : X → Tm Y)
    → ((t : Tm X) → R t (sub f t)) → (a : Atom X) → AtomRel R a (sub_atom f a)
atom-image f h a = record { symbols = refl; args = pointwise-image (sub f) h a.args }

-- the terms of related atoms are related
pub flat-pointwise :
    {X Y : Type 0} {R : Tm X → Tm Y → Type 0} {l : List (Atom X)} {m : List (Atom Y)}
    → Pointwise (AtomRel R) l m → Pointwise R (flat l) (flat m)
flat-pointwise empty = empty
flat-pointwise (each r p) = pointwise-append r.args (flat-pointwise p)

-- atoms of the same symbols and arities are related as their terms are
pub unflat-pointwise :
    {X Y : Type 0} {R S : Tm X → Tm Y → Type 0} {l : List (Atom X)} {m : List (Atom Y)}
    → Pointwise (AtomRel S) l m → Pointwise R (flat l) (flat m) → Pointwise (AtomRel R) l m
unflat-pointwise empty q = empty
unflat-pointwise (each {l} {m} s p) q =
    let h = pointwise-parts (flat l) (flat m) s.args q in
    each (record { symbols = s.symbols; args = h.0 }) (unflat-pointwise p h.1)
