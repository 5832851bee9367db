-- Closure: the laws of the equivalence that equations generate.
--   eqv-mono, -cut, -sub    more equations, derivable equations, under a substitution
--   eqv-nil, one_more       no equations; one more equation
--   Derives, derives-…      every equation of a list follows, under a substitution
-- Assumes nothing.
use mathlib.Core.List.{List, [], ◌∷◌, ◌++◌, map}
use mathlib.Core.Path.{◌≡◌, refl, sym, ◌∙◌, subst, subst₂}
use Rattle.semantics.proofs.Configurations.{Or, inl, inr, Member, first, later, Tm, var, Eqn, sub, sub_eqn, Eqv, given}
use Rattle.semantics.proofs.Configurations.{same, flip, chain}
use Rattle.semantics.proofs.Multisets.{member-append, member-append-left, member-append-right, member-unmap}
use Rattle.semantics.proofs.Atoms.{sub-sub, sub-var}

-- equal terms are equivalent
pub eqv-path : {X : Type 0} {E : List (Eqn X)} {s t : Tm X} → s ≡ t → Eqv E s t
eqv-path {E} {s} e = subst (Eqv E s) e same

-- no equations, no equivalences but equalities
pub eqv-nil : {X : Type 0} {s t : Tm X} → Eqv [] s t → s ≡ t
eqv-nil (given i) = elim i [ ]
eqv-nil same = refl
eqv-nil (flip h) = sym (eqv-nil h)
eqv-nil (chain h k) = eqv-nil h ∙ eqv-nil k

-- every equation of E under f follows from D
abbrev pub Derives : {X Y : Type 0} → List (Eqn Y) → (X → Tm Y) → List (Eqn X) → Type 0
Derives {X} D f E = (e : Eqn X) → Member e E → Eqv D (sub f e.left) (sub f e.right)

-- an equivalence under a substitution
pub eqv-sub :
    {X Y : Type 0} {E : List (Eqn X)} {D : List (Eqn Y)} {s t : Tm X} (f : X → Tm Y)
    → ((e : Eqn X) → Member e E → Eqv D (sub f e.left) (sub f e.right)) → Eqv E s t → Eqv D (sub f s) (sub f t)
eqv-sub f d (given {e} i) = d e i
eqv-sub f d same = same
eqv-sub f d (flip h) = flip (eqv-sub f d h)
eqv-sub f d (chain h k) = chain (eqv-sub f d h) (eqv-sub f d k)

-- equations that follow can be left out
pub eqv-cut :
    {X : Type 0} {E D : List (Eqn X)} {s t : Tm X}
    → ((e : Eqn X) → Member e E → Eqv D e.left e.right) → Eqv E s t → Eqv D s t
eqv-cut d (given {e} i) = d e i
eqv-cut d same = same
eqv-cut d (flip h) = flip (eqv-cut d h)
eqv-cut d (chain h k) = chain (eqv-cut d h) (eqv-cut d k)

-- more equations
pub eqv-mono :
    {X : Type 0} {E D : List (Eqn X)} {s t : Tm X} → ((e : Eqn X) → Member e E → Member e D) → Eqv E s t → Eqv D s t
eqv-mono d h = eqv-cut (λ e i. given (d e i)) h

-- more equations in front or behind
pub eqv-behind : {X : Type 0} (E : List (Eqn X)) {D : List (Eqn X)} {s t : Tm X} → Eqv D s t → Eqv (E ++ D) s t
eqv-behind E h = eqv-mono (λ e i. member-append-right E i) h

pub eqv-front : {X : Type 0} {E : List (Eqn X)} (D : List (Eqn X)) {s t : Tm X} → Eqv E s t → Eqv (E ++ D) s t
eqv-front D h = eqv-mono (λ e i. member-append-left D i) h

-- an equivalence by one equation or without it: not used, used from left to right, or from right to left
abbrev pub ByOne : {X : Type 0} → Eqn X → List (Eqn X) → Tm X → Tm X → Type 0
ByOne e E u v = Or (Eqv E u v) (Or (Eqv E u e.left × Eqv E e.right v) (Eqv E u e.right × Eqv E e.left v))

by_one-flip : {X : Type 0} {e : Eqn X} {E : List (Eqn X)} {u v : Tm X} → ByOne e E u v → ByOne e E v u
by_one-flip (inl h) = inl (flip h)
by_one-flip (inr (inl h)) = inr (inr (flip h.1, flip h.0))
by_one-flip (inr (inr h)) = inr (inl (flip h.1, flip h.0))

by_one-chain : {X : Type 0} {e : Eqn X} {E : List (Eqn X)} {u v w : Tm X} → ByOne e E u v → ByOne e E v w → ByOne e E u w
by_one-chain (inl h) (inl k) = inl (chain h k)
by_one-chain (inl h) (inr (inl k)) = inr (inl (chain h k.0, k.1))
by_one-chain (inl h) (inr (inr k)) = inr (inr (chain h k.0, k.1))
by_one-chain (inr (inl h)) (inl k) = inr (inl (h.0, chain h.1 k))
by_one-chain (inr (inl h)) (inr (inl k)) = inr (inl (h.0, k.1))
by_one-chain (inr (inl h)) (inr (inr k)) = inl (chain h.0 k.1)
by_one-chain (inr (inr h)) (inl k) = inr (inr (h.0, chain h.1 k))
by_one-chain (inr (inr h)) (inr (inl k)) = inl (chain h.0 k.1)
by_one-chain (inr (inr h)) (inr (inr k)) = inr (inr (h.0, k.1))

-- an equivalence that one more equation gives uses that equation at most once
pub one_more :
    {X : Type 0} {e : Eqn X} {E : List (Eqn X)} {u v : Tm X} → Eqv (e ∷ E) u v
    → Or (Eqv E u v) (Or (Eqv E u e.left × Eqv E e.right v) (Eqv E u e.right × Eqv E e.left v))
one_more (given first) = inr (inl (same, same))
one_more (given (later i)) = inl (given i)
one_more same = inl same
one_more {e} (flip h) = by_one-flip {e = e} (one_more h)
one_more {e} (chain h k) = by_one-chain {e = e} (one_more h) (one_more k)

-- equations follow from themselves
pub derives-var : {X : Type 0} (E : List (Eqn X)) → Derives E var E
derives-var E e i = subst₂ (Eqv E) (sym (sub-var e.left)) (sym (sub-var e.right)) (given i)

-- the equations of two lists follow
pub derives-append :
    {X Y : Type 0} {D : List (Eqn Y)} {f : X → Tm Y} (E F : List (Eqn X)) → Derives D f E → Derives D f F → Derives D f (E ++ F)
derives-append {D} {f} E F d k e i = cases (member-append E i)
  where
    cases : Or (Member e E) (Member e F) → Eqv D (sub f e.left) (sub f e.right)
    cases (inl j) = d e j
    cases (inr j) = k e j

-- the equations of a substituted list follow
pub derives-map :
    {X Y Z : Type 0} {D : List (Eqn Z)} (f : Y → Tm Z) (g : X → Tm Y) (E : List (Eqn X))
    → Derives D (λ x. sub f (g x)) E → Derives D f (map (sub_eqn g) E)
derives-map {D} f g E d e i =
    let h = member-unmap (sub_eqn g) E i in
    let k = subst₂ (Eqv D) (sym (sub-sub f g h.0.left)) (sym (sub-sub f g h.0.right)) (d h.0 h.1) in
    subst (λ x. Eqv D (sub f x.left) (sub f x.right)) (sym h.2) k

-- one substitution after another
pub derives-comp :
    {X Y Z : Type 0} {D : List (Eqn Y)} {G : List (Eqn Z)} (f : X → Tm Y) (g : Y → Tm Z) (E : List (Eqn X))
    → Derives D f E → Derives G g D → Derives G (λ x. sub g (f x)) E
derives-comp {G} f g E d k e i = subst₂ (Eqv G) (sub-sub g f e.left) (sub-sub g f e.right) (eqv-sub g k (d e i))
