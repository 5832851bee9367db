-- The equations of joined heads: they say that joined heads are equal, and they are there wherever something makes them so.
--   Holds                    a function on terms makes all equations hold
--   join-sound, join-agreed  what makes the equations hold makes joined heads equal
--   join-complete            heads that something makes equal where they are joined have equations, which it makes hold
--   agreed-joined            the same from equal elements of two lists, which are the heads under a replacement
-- Assumes nothing.
use Prim.Native.Nat.{ℕ, zero, suc, ◌+◌, ◌≤◌}
use native.Mathlib.Omega.{arith}
use mathlib.Core.Bool.{true}
use mathlib.Core.List.{List, [], ◌∷◌, ◌++◌, map}
use mathlib.Core.Option.{some}
use mathlib.Core.Path.{◌≡◌, refl, sym, ap, subst, ◌∙◌}
use lib.Dec.{eqb}
use lib.ListN.{length, get_elem?}
use Rattle.text.specs.Lists.{bind, has, index_from}
use Rattle.semantics.specs.Terms.{Term, Constraint, Equation, map_terms}
use Rattle.semantics.specs.Overlaps.{is_one_to_one, equate_terms, equate, join_equations}
use Rattle.semantics.specs.Variants.{Pointwise, empty, each}
use Rattle.semantics.proofs.Configurations.{Or, inl, inr, Member, first, later, All}
use Rattle.semantics.proofs.Options.{none-some, bind-some, cond-some, eqb-equal, equal-eqb}
use Rattle.semantics.proofs.Multisets.{member-nil, member-cons, member-append, member-append-left, member-append-right}
use Rattle.semantics.proofs.Multisets.{pointwise-mono, all-member}
use Rattle.semantics.proofs.MatchLaws.{ConstraintRel}
use Rattle.semantics.proofs.Indices.{some-equal, get_elem_map, get_elem-at}
use Rattle.semantics.proofs.Indices.{get_elem-below, index-stands, has-at, pointwise-get}
use Rattle.semantics.proofs.Listings.{at-member}
use Rattle.semantics.proofs.Pairings.{Agreed, agreed-of, agreed-at, once-index}

-- a function on terms makes all equations hold
abbrev pub Holds : (Term → Term) → List Equation → Type 0
Holds f es = (e : Equation) → Member e es → f e.left ≡ f e.right

-- two terms are equated
abbrev Equated : List Equation → Term → Term → Type 0
Equated es s t = Member (record { left = s; right = t }) es

-- two constraints become equal
abbrev pub Equalised : (Term → Term) → Constraint → Constraint → Type 0
Equalised f c d = ConstraintRel (λ s t. f s ≡ f t) c d

-- the equations between lists of terms equate them one by one
terms-sound : (ss ts : List Term) {es : List Equation} → equate_terms ss ts ≡ some es → Pointwise (Equated es) ss ts
unfolding equate_terms
terms-sound [] [] p = empty
terms-sound [] (t ∷ ts) p = none-some refl p
terms-sound (s ∷ ss) [] p = none-some refl p
terms-sound (s ∷ ss) (t ∷ ts) {es} p =
    let (more, a, b) = bind-some (equate_terms ss ts) (λ es. some (record { left = s; right = t } ∷ es)) p in
    subst (λ l. Pointwise (Equated l) (s ∷ ss) (t ∷ ts)) (some-equal b)
    (each first (pointwise-mono (λ x y i. later i) (terms-sound ss ts a)))

equate-sound : (c d : Constraint) {es : List Equation} → equate c d ≡ some es → ConstraintRel (Equated es) c d
unfolding equate
equate-sound c d p =
    let (a, b) = cond-some (eqb c.symbol d.symbol) p in
    record { symbols = eqb-equal a; terms = terms-sound c.terms d.terms b }

-- more equations
equated-more : {es fs : List Equation} {c d : Constraint} → ((e : Equation) → Member e es → Member e fs)
    → ConstraintRel (Equated es) c d → ConstraintRel (Equated fs) c d
equated-more h r =
    record { symbols = r.symbols; terms = pointwise-mono (λ s t i. h (record { left = s; right = t }) i) r.terms }

-- a head that has a partner is equated with it
pub join-sound :
    (hs : List Constraint) (ds : List ℕ) (gs : List Constraint) {es : List Equation} → join_equations hs ds gs ≡ some es
    → (k d : ℕ) (h : Constraint) → get_elem? hs k ≡ some h → get_elem? ds k ≡ some (suc d)
    → (g : Constraint) × (get_elem? gs d ≡ some g)
    × ConstraintRel (λ s t. Member (record { left = s; right = t }) es) h g
unfolding join_equations
join-sound [] ds gs p k d h a b = none-some refl a
join-sound (x ∷ hs) [] gs p k d h a b = none-some refl b
join-sound (x ∷ hs) (zero ∷ ds) gs p zero d h a b = absurd (let z : 0 ≡ suc d = some-equal b in omega arith)
join-sound (x ∷ hs) (zero ∷ ds) gs p (suc k) d h a b = join-sound hs ds gs p k d h a b
join-sound (x ∷ hs) (suc n ∷ ds) gs {es} p k d h a b =
    let (g, at, q) = bind-some (get_elem? gs n)
    (λ g. bind (equate x g) (λ es. bind (join_equations hs ds gs) (λ more. some (es ++ more)))) p in
    let (fs, eq, r) = bind-some (equate x g) (λ es. bind (join_equations hs ds gs) (λ more. some (es ++ more))) q in
    let (more, rest, s) = bind-some (join_equations hs ds gs) (λ more. some (fs ++ more)) r in
    go k a b g at fs (equate-sound x g eq) more (join-sound hs ds gs rest) (some-equal s)
  where
    Answer : List Equation → Type 0
    Answer l = (g : Constraint) × (get_elem? gs d ≡ some g) × ConstraintRel (Equated l) h g

    go :
        (k : ℕ) → get_elem? (x ∷ hs) k ≡ some h → get_elem? (suc n ∷ ds) k ≡ some (suc d)
        → (g : Constraint) → get_elem? gs n ≡ some g → (fs : List Equation) → ConstraintRel (Equated fs) x g
        → (more : List Equation)
        → ((k d : ℕ) (h : Constraint) → get_elem? hs k ≡ some h → get_elem? ds k ≡ some (suc d)
        → (g : Constraint) × (get_elem? gs d ≡ some g) × ConstraintRel (Equated more) h g)
        → fs ++ more ≡ es → Answer es
    go zero a b g at fs eq more ih e =
        let z : suc n ≡ suc d = some-equal b in
        subst Answer e (
          g,
          ap (get_elem? gs) (let w : d ≡ n = omega arith in w) ∙ at,
          equated-more (λ e i. member-append-left more i) (subst (λ y. ConstraintRel (Equated fs) y g) (some-equal a) eq),
        )
    go (suc k) a b g at fs eq more ih e =
        let (y, aty, r) = ih k d h a b in
        subst Answer e (y, aty, equated-more (λ e i. member-append-right fs i) r)

-- constraints whose terms become equal become equal
mapped-equal : (f : Term → Term) {c d : Constraint} → Equalised f c d → map_terms f c ≡ map_terms f d
unfolding map_terms
mapped-equal f r = λ i. record { symbol = r.symbols i; terms = images r.terms i }
  where
    images : {ss ts : List Term} → Pointwise (λ s t. f s ≡ f t) ss ts → map f ss ≡ map f ts
    images empty = refl
    images (each e es) = λ i. e i ∷ images es i

-- what makes the equations hold makes joined heads equal
pub join-agreed :
    (hs : List Constraint) (ds : List ℕ) (gs : List Constraint) {es : List Equation} → join_equations hs ds gs ≡ some es
    → length ds ≡ length hs → (f : Term → Term) → Holds f es → Agreed 1 (map (map_terms f) hs) (map (map_terms f) gs) ds
join-agreed hs ds gs {es} p l f holds = agreed-of 1 (map (map_terms f) hs) (map (map_terms f) gs) ds joined
  where
    meet :
        (i k : ℕ) (x y : Constraint) → get_elem? hs i ≡ some x → get_elem? (map (map_terms f) gs) k ≡ some y
        → (g : Constraint) × (get_elem? gs k ≡ some g) × ConstraintRel (Equated es) x g
        → get_elem? (map (map_terms f) hs) i ≡ some y
    meet i k x y atx aty (g, atg, r) =
        let same : Equalised f x g =
        record { symbols = r.symbols; terms = pointwise-mono (λ s t. holds (record { left = s; right = t })) r.terms } in
        get_elem_map (map_terms f) hs i atx ∙ ap some (mapped-equal f same) ∙ sym (get_elem_map (map_terms f) gs k atg) ∙ aty

    joined :
        (m k : ℕ) (y : Constraint) → m ≡ 1 + k → get_elem? (map (map_terms f) gs) k ≡ some y → has m ds ≡ true
        → get_elem? (map (map_terms f) hs) (index_from (eqb m) 0 ds) ≡ some y
    joined m k y e at h =
        let i = index_from (eqb m) 0 ds in
        let here : get_elem? ds i ≡ some (suc k) = index-stands m ds h ∙ ap some (let z : m ≡ suc k = omega arith in z) in
        let below = get_elem-below ds i here in
        let (x, atx) = get_elem-at hs i (omega arith) in
        meet i k x y atx at (join-sound hs ds gs p i k x atx here)

-- terms that become equal one by one have equations, which hold
terms-complete :
    (f : Term → Term) {ss ts : List Term} → Pointwise (λ s t. f s ≡ f t) ss ts
    → (es : List Equation) × (equate_terms ss ts ≡ some es) × Holds f es
unfolding equate_terms
terms-complete f empty = ([], refl, λ e i. absurd (member-nil i))
terms-complete f (each {a = s} {b = t} q qs) =
    let (es, a, h) = terms-complete f qs in
    (record { left = s; right = t } ∷ es, rw a, λ e i. go es h e (member-cons i))
  where
    go :
        (es : List Equation) → Holds f es → (e : Equation) → Or (e ≡ record { left = s; right = t }) (Member e es)
        → f e.left ≡ f e.right
    go es h e (inl z) = ap (λ x. f x.left) z ∙ q ∙ sym (ap (λ x. f x.right) z)
    go es h e (inr i) = h e i

equate-complete :
    (f : Term → Term) {c d : Constraint} → Equalised f c d → (es : List Equation) × (equate c d ≡ some es) × Holds f es
unfolding equate
equate-complete f r =
    let (es, a, h) = terms-complete f r.terms in
    (es, rw (equal-eqb r.symbols) a, h)

-- heads that become equal where they are joined have equations, which hold
pub join-complete :
    (f : Term → Term) (hs : List Constraint) (ds : List ℕ) (gs : List Constraint)
    → ((k d : ℕ) (h : Constraint) → get_elem? hs k ≡ some h → get_elem? ds k ≡ some (suc d)
    → (g : Constraint) × (get_elem? gs d ≡ some g) × Equalised f h g)
    → (es : List Equation) × (join_equations hs ds gs ≡ some es) × Holds f es
unfolding join_equations
join-complete f [] ds gs j = ([], refl, λ e i. absurd (member-nil i))
join-complete f (h ∷ hs) [] gs j = ([], refl, λ e i. absurd (member-nil i))
join-complete f (h ∷ hs) (zero ∷ ds) gs j = join-complete f hs ds gs (λ k. j (suc k))
join-complete f (h ∷ hs) (suc d ∷ ds) gs j =
    let (g, at, r) = j 0 d h refl refl in
    let (es, a, one) = equate-complete f r in
    let (more, b, two) = join-complete f hs ds gs (λ k. j (suc k)) in
    (es ++ more, rw (at, a, b), λ e i. go es more one two e (member-append es i))
  where
    go :
        (es more : List Equation) → Holds f es → Holds f more → (e : Equation) → Or (Member e es) (Member e more)
        → f e.left ≡ f e.right
    go es more one two e (inl i) = one e i
    go es more one two e (inr i) = two e i

-- heads that f makes the elements of two lists, which are equal where they are joined, become equal where they are joined
pub agreed-joined :
    (f : Term → Term) {hs gs M N : List Constraint} (ds : List ℕ) → is_one_to_one ds ≡ true → All (λ d. d ≤ length gs) ds
    → Pointwise (ConstraintRel (λ s t. f s ≡ t)) hs M → Pointwise (ConstraintRel (λ s t. f s ≡ t)) gs N → Agreed 1 M N ds
    → (k d : ℕ) (h : Constraint) → get_elem? hs k ≡ some h → get_elem? ds k ≡ some (suc d)
    → (g : Constraint) × (get_elem? gs d ≡ some g) × Equalised f h g
agreed-joined f {hs} {gs} {M} {N} ds u b p q a k d h at e =
    let below : suc d ≤ length gs = all-member b (at-member ds k e) in
    let (g, atg) = get_elem-at gs d (omega arith) in
    let (y, aty, ry) = pointwise-get d q atg in
    let (x, atx, rx) = pointwise-get k p at in
    let found = agreed-at 1 M N ds a (suc d) d (omega arith) aty (has-at (suc d) ds k e) in
    let same : x ≡ y = some-equal (sym atx ∙ ap (get_elem? M) (sym (once-index ds k d u e)) ∙ found) in (
      g,
      atg,
      record {
        symbols = rx.symbols ∙ ap (λ c. c.symbol) same ∙ sym ry.symbols;
        terms = both rx.terms (subst (λ c. Pointwise (λ s t. f s ≡ t) g.terms c.terms) (sym same) ry.terms);
      },
    )
  where
    both : {ss ts us : List Term} → Pointwise (λ s u. f s ≡ u) ss us → Pointwise (λ t u. f t ≡ u) ts us
        → Pointwise (λ s t. f s ≡ f t) ss ts
    both empty empty = empty
    both (each r rs) (each s ss) = each (r ∙ sym s) (both rs ss)
