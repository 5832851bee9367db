-- Links: a configuration extended by new variables, with equations of theirs and equations between new and old terms. A firing
-- extends so, and so does a context.
--   linked, core-linked                  the equations of an extension; of two, on both sides
--   linked-old, -new, -equates           what follows from them
--   Equates, derives-linked              what they follow from
--   exchange, exchange-iso               two extensions can be made in either order
-- Assumes nothing.
use mathlib.Core.List.{List, ◌++◌, map, map-append, append_assoc}
use mathlib.Core.Path.{◌≡◌, refl, sym, ap, ap₂, ◌∙◌, subst, subst₂}
use Rattle.semantics.specs.Variants.{Pointwise, SameMultiset}
use Rattle.semantics.proofs.Configurations.{Or, inl, inr, Member, Tm, con, var, Atom, Eqn, sub, sub_atom, sub_eqn, old}
use Rattle.semantics.proofs.Configurations.{new, equal, Eqv, given, Core, Iso}
use Rattle.semantics.proofs.Multisets.{pointwise-map, multiset-append, multiset-swap, multiset-refl, member-append-left}
use Rattle.semantics.proofs.Multisets.{member-append-right, member-map, member-unmap}
use Rattle.semantics.proofs.Atoms.{map-sub-sub, map-sub_atom-sub, equal-sub, equal-holds}
use Rattle.semantics.proofs.Closure.{Derives, eqv-sub, derives-append, derives-map, derives-comp}
use Rattle.semantics.proofs.Cores.{Ext, core-equal, core-adds, core-extend, ext-old, ext-news, ext-new-eqns}
use Rattle.semantics.proofs.Isos.{iso-of-images}

-- the equations of a configuration that is extended by new variables, as a firing and a context do it: new terms are equated
-- with old ones, and there are equations of new terms
abbrev pub linked : {X Z : Type 0} → List (Tm Z) → List (Tm X) → List (Eqn Z) → List (Eqn X) → List (Eqn (Or X Z))
linked ns os F E = equal (map (sub new) ns) (map (sub old) os) ++ (map (sub_eqn new) F ++ map (sub_eqn old) E)

-- such an extension on both sides
pub core-linked :
    {X Y Z : Type 0} {E : List (Eqn X)} {D : List (Eqn Y)} {R : Tm X → Tm Y → Type 0} {l : List (Tm X)} {m : List (Tm Y)}
    (ns : List (Tm Z)) (F : List (Eqn Z)) → Pointwise R l m → Core E D R → Core (linked ns l F E) (linked ns m F D) (Ext Z R)
core-linked {Z} ns F p k =
    core-equal (ext-news k.fixes ns) (ext-old Z p) (core-adds (ext-new-eqns k.fixes F) (core-extend Z k))

-- the old equations, the new equations and those between new and old terms hold there
pub linked-old :
    {X Z : Type 0} (ns : List (Tm Z)) (os : List (Tm X)) (F : List (Eqn Z)) (E : List (Eqn X)) → Derives (linked ns os F E) old E
linked-old ns os F E e i =
    given (member-append-right (equal (map (sub new) ns) (map (sub old) os))
    (member-append-right (map (sub_eqn new) F) (member-map (sub_eqn old) i)))

pub linked-new :
    {X Z : Type 0} (ns : List (Tm Z)) (os : List (Tm X)) (F : List (Eqn Z)) (E : List (Eqn X)) → Derives (linked ns os F E) new F
linked-new ns os F E e i =
    given (member-append-right (equal (map (sub new) ns) (map (sub old) os))
    (member-append-left (map (sub_eqn old) E) (member-map (sub_eqn new) i)))

-- the equations between two lists, under a substitution each, follow
abbrev pub Equates : {X Y W : Type 0} → List (Eqn W) → (X → Tm W) → (Y → Tm W) → List (Tm X) → List (Tm Y) → Type 0
Equates {W} D f g ns os = (e : Eqn W) → Member e (equal (map (sub f) ns) (map (sub g) os)) → Eqv D e.left e.right

pub linked-equates :
    {X Z : Type 0} (ns : List (Tm Z)) (os : List (Tm X)) (F : List (Eqn Z)) (E : List (Eqn X))
    → Equates (linked ns os F E) new old ns os
linked-equates ns os F E e i = given (member-append-left (map (sub_eqn new) F ++ map (sub_eqn old) E) i)

-- the equations between two lists, under one more substitution
equal-map-sub :
    {X Y W U : Type 0} (h : W → Tm U) (f : X → Tm W) (g : Y → Tm W) (ns : List (Tm X)) (os : List (Tm Y))
    → map (sub_eqn h) (equal (map (sub f) ns) (map (sub g) os))
    ≡ equal (map (sub (λ x. sub h (f x))) ns) (map (sub (λ y. sub h (g y))) os)
equal-map-sub h f g ns os =
    equal-sub h (map (sub f) ns) (map (sub g) os) ∙ (λ i. equal (map-sub-sub h f ns i) (map-sub-sub h g os i))

-- they follow under one more substitution
pub equates-comp :
    {X Y W U : Type 0} {D : List (Eqn W)} {G : List (Eqn U)} (h : W → Tm U) (f : X → Tm W) (g : Y → Tm W)
    (ns : List (Tm X)) (os : List (Tm Y))
    → Equates D f g ns os → Derives G h D → Equates G (λ x. sub h (f x)) (λ y. sub h (g y)) ns os
equates-comp {G} h f g ns os d k e i =
    let j = subst (Member e) (sym (equal-map-sub h f g ns os)) i in
    let m = member-unmap (sub_eqn h) (equal (map (sub f) ns) (map (sub g) os)) j in
    subst (λ x. Eqv G x.left x.right) (sym m.2) (eqv-sub h k (d m.0 m.1))

-- they follow where the terms are equivalent, one by one
pub equates-pointwise :
    {X Y W : Type 0} {D : List (Eqn W)} (f : X → Tm W) (g : Y → Tm W) {ns : List (Tm X)} {os : List (Tm Y)}
    → Pointwise (λ n o. Eqv D (sub f n) (sub g o)) ns os → Equates D f g ns os
equates-pointwise {D} f g p e i = equal-holds {P = Eqv D} (pointwise-map (sub f) (sub g) p) i

-- a substitution of the second list joins the others
pub equates-under :
    {X Y V' W : Type 0} {D : List (Eqn W)} (f : X → Tm W) (g : Y → Tm W) (k : V' → Tm Y) (ns : List (Tm X)) (os : List (Tm V'))
    → Equates D f (λ x. sub g (k x)) ns os → Equates D f g ns (map (sub k) os)
equates-under {D} f g k ns os d e i = d e (subst (λ l. Member e (equal (map (sub f) ns) l)) (map-sub-sub g k os) i)

pub equates-over :
    {X Y V' W : Type 0} {D : List (Eqn W)} (f : X → Tm W) (g : Y → Tm W) (k : V' → Tm Y) (ns : List (Tm X)) (os : List (Tm V'))
    → Equates D f g ns (map (sub k) os) → Equates D f (λ x. sub g (k x)) ns os
equates-over {D} f g k ns os d e i = d e (subst (λ l. Member e (equal (map (sub f) ns) l)) (sym (map-sub-sub g k os)) i)

-- the equations of an extension follow from those of its parts
pub derives-linked :
    {X Z W : Type 0} {D : List (Eqn W)} (h : Or X Z → Tm W) (ns : List (Tm Z)) (os : List (Tm X))
    (F : List (Eqn Z)) (E : List (Eqn X))
    → Equates D (λ z. h (inr z)) (λ x. h (inl x)) ns os → Derives D (λ z. h (inr z)) F → Derives D (λ x. h (inl x)) E
    → Derives D h (linked ns os F E)
derives-linked {D} h ns os F E p q r =
    derives-append (equal (map (sub new) ns) (map (sub old) os)) (map (sub_eqn new) F ++ map (sub_eqn old) E)
    (λ e i. p (sub_eqn h e) (subst (Member (sub_eqn h e)) (equal-map-sub h new old ns os) (member-map (sub_eqn h) i)))
    (derives-append (map (sub_eqn new) F) (map (sub_eqn old) E) (derives-map h new F q) (derives-map h old E r))

-- two extensions made in the other order: their variables change places
abbrev pub exchange : {X Y Z : Type 0} → Or (Or X Y) Z → Tm (Or (Or X Z) Y)
exchange (inl (inl x)) = var (inl (inl x))
exchange (inl (inr y)) = var (inr y)
exchange (inr z) = var (inl (inr z))

exchange-twice : {X Y Z : Type 0} (t : Tm (Or (Or X Y) Z)) → sub exchange (sub exchange t) ≡ t
exchange-twice (con c) = refl
exchange-twice (var (inl (inl x))) = refl
exchange-twice (var (inl (inr y))) = refl
exchange-twice (var (inr z)) = refl

-- the equations of the one order follow from those of the other
exchange-derives :
    {X Y Z : Type 0} (E : List (Eqn X)) (ns : List (Tm Y)) (os : List (Tm X)) (F : List (Eqn Y))
    (ns' : List (Tm Z)) (os' : List (Tm X)) (F' : List (Eqn Z))
    → Derives (linked ns (map (sub old) os) F (linked ns' os' F' E)) exchange
    (linked ns' (map (sub old) os') F' (linked ns os F E))
exchange-derives E ns os F ns' os' F' =
    let outer = linked-old ns (map (sub old) os) F (linked ns' os' F' E) in
    derives-linked exchange ns' (map (sub old) os') F' (linked ns os F E)
    (equates-under (λ z. exchange (inr z)) (λ x. exchange (inl x)) old ns' os'
    (equates-comp old new old ns' os' (linked-equates ns' os' F' E) outer))
    (derives-comp new old F' (linked-new ns' os' F' E) outer)
    (derives-linked (λ w. exchange (inl w)) ns os F E
    (equates-over new old old ns os (linked-equates ns (map (sub old) os) F (linked ns' os' F' E)))
    (linked-new ns (map (sub old) os) F (linked ns' os' F' E))
    (derives-comp old old E (linked-old ns' os' F' E) outer))

-- the atoms of the one order are those of the other
exchange-stores :
    {X Y Z : Type 0} (L : List (Atom X)) (P : List (Atom Y)) (Q : List (Atom Z))
    → SameMultiset ◌≡◌
    (map (sub_atom exchange) (map (sub_atom old) (map (sub_atom old) L ++ map (sub_atom new) P) ++ map (sub_atom new) Q))
    (map (sub_atom old) (map (sub_atom old) L ++ map (sub_atom new) Q) ++ map (sub_atom new) P)
exchange-stores {X} {Y} {Z} L P Q =
    subst₂ (SameMultiset ◌≡◌) (sym start) (sym end) (multiset-append (multiset-refl (λ a. refl) l) (multiset-swap p q))
  where
    l : List (Atom (Or (Or X Z) Y))
    l = map (sub_atom (λ x. var (inl (inl x)))) L

    p : List (Atom (Or (Or X Z) Y))
    p = map (sub_atom new) P

    q : List (Atom (Or (Or X Z) Y))
    q = map (sub_atom (λ z. var (inl (inr z)))) Q

    start :
        map (sub_atom exchange) (map (sub_atom old) (map (sub_atom old) L ++ map (sub_atom new) P) ++ map (sub_atom new) Q)
        ≡ l ++ (p ++ q)
    start =
        map-append (sub_atom exchange) (map (sub_atom old) (map (sub_atom old) L ++ map (sub_atom new) P)) (map (sub_atom new) Q)
        ∙ ap₂ ◌++◌ (map-sub_atom-sub exchange old (map (sub_atom old) L ++ map (sub_atom new) P)
        ∙ (map-append (sub_atom (λ x. exchange (inl x))) (map (sub_atom old) L) (map (sub_atom new) P)
        ∙ ap₂ ◌++◌ (map-sub_atom-sub (λ x. exchange (inl x)) old L) (map-sub_atom-sub (λ x. exchange (inl x)) new P)))
        (map-sub_atom-sub exchange new Q)
        ∙ append_assoc l p q

    end : map (sub_atom old) (map (sub_atom old) L ++ map (sub_atom new) Q) ++ map (sub_atom new) P ≡ l ++ (q ++ p)
    end =
        ap (λ k. k ++ p) (map-append (sub_atom old) (map (sub_atom old) L) (map (sub_atom new) Q)
        ∙ ap₂ ◌++◌ (map-sub_atom-sub old old L) (map-sub_atom-sub old new Q))
        ∙ append_assoc l q p

-- two extensions of one configuration, made in either order, are equal
pub exchange-iso :
    {X Y Z : Type 0} (E : List (Eqn X)) (L : List (Atom X))
    (ns : List (Tm Y)) (os : List (Tm X)) (F : List (Eqn Y)) (P : List (Atom Y))
    (ns' : List (Tm Z)) (os' : List (Tm X)) (F' : List (Eqn Z)) (Q : List (Atom Z))
    (face : List (Tm (Or (Or X Y) Z))) (face' : List (Tm (Or (Or X Z) Y))) → map (sub exchange) face ≡ face'
    → Iso
    (record {
      Var = Or (Or X Y) Z;
      face = face;
      eqs = linked ns' (map (sub old) os') F' (linked ns os F E);
      store = map (sub_atom old) (map (sub_atom old) L ++ map (sub_atom new) P) ++ map (sub_atom new) Q;
    })
    (record {
      Var = Or (Or X Z) Y;
      face = face';
      eqs = linked ns (map (sub old) os) F (linked ns' os' F' E);
      store = map (sub_atom old) (map (sub_atom old) L ++ map (sub_atom new) Q) ++ map (sub_atom new) P;
    })
exchange-iso E L ns os F P ns' os' F' Q face face' p =
    iso-of-images _ _ exchange exchange (exchange-derives E ns os F ns' os' F') (exchange-derives E ns' os' F' ns os F)
    exchange-twice p (exchange-stores L P Q)
