-- The heads that a pairing joins (document 000, definition 3.4): the equations that are solved are those between the chosen
-- heads, and what is left of either rule are the heads that are not chosen.
--   join-equated, equated-join       the equations between joined heads
--   without-rights, without-lefts    the heads that are joined to none
--   shifted-heads                    the second rule's heads, renamed apart
-- Assumes nothing.
use Prim.Native.Nat.{ℕ, zero, suc, ◌+◌, ◌<◌, ◌≤◌}
use mathlib.Core.Bool.{false}
use mathlib.Core.List.{List, [], ◌∷◌, ◌++◌, map}
use mathlib.Core.Option.{some}
use mathlib.Core.Path.{◌≡◌, refl, ap, fun_ext, subst, ◌∙◌}
use native.Mathlib.Omega.{arith}
use lib.Dec.{eqb}
use lib.ListN.{length, get_elem?}
use Rattle.text.specs.Lists.{bind, has}
use Rattle.semantics.specs.Terms.{Term, con, var, Constraint, Equation, Rule, map_terms}
use Rattle.semantics.specs.Firing.{without}
use Rattle.semantics.specs.Overlaps.{apart, equate_terms, equate, join_equations, unjoined_heads}
use Rattle.semantics.specs.Published.{Equated, no_terms, EquatedAll, no_constraints, renamed}
use Rattle.semantics.specs.Published as P
use Rattle.semantics.specs.CriticalPairs.{lefts, rights, joints_from, picked, shifted, shifted_heads}
use Rattle.semantics.proofs.Configurations.{All, none, also}
use Rattle.semantics.proofs.Options.{none-some, bind-some, cond-some, eqb-equal, equal-eqb, apart_eqb}
use Rattle.semantics.proofs.Indices.{some-equal, get_elem-at}
use Rattle.semantics.proofs.Pairings.{alone}
use Rattle.semantics.proofs.Joinings.{has-rights}

-- the equations between lists of terms, as computed and as related
terms-equated : (ss ts : List Term) {es : List Equation} → equate_terms ss ts ≡ some es → Equated ss ts es
unfolding equate_terms
terms-equated [] [] p = subst (Equated [] []) (some-equal p) no_terms
terms-equated [] (t ∷ ts) p = none-some refl p
terms-equated (s ∷ ss) [] p = none-some refl p
terms-equated (s ∷ ss) (t ∷ ts) p =
    let (es, q, e) = bind-some (equate_terms ss ts) (λ es. some (record { left = s; right = t } ∷ es)) p in
    subst (Equated (s ∷ ss) (t ∷ ts)) (some-equal e) (P.Equated.one_more (terms-equated ss ts q))

equated-terms : {ss ts : List Term} {es : List Equation} → Equated ss ts es → equate_terms ss ts ≡ some es
unfolding equate_terms
equated-terms no_terms = refl
equated-terms (P.Equated.one_more q) = rw (equated-terms q)

-- the equations between joined heads are those between the chosen heads; cs are all heads of the first rule, hs those from k on
pub join-equated :
    (cs : List Constraint) (k : ℕ) (hs : List Constraint) (ds : List ℕ) (gs : List Constraint) {es : List Equation}
    → ((i : ℕ) → get_elem? cs (k + i) ≡ get_elem? hs i) → length ds ≡ length hs → join_equations hs ds gs ≡ some es
    → EquatedAll (picked cs (lefts (joints_from k ds))) (picked gs (rights (joints_from k ds))) es
unfolding join_equations joints_from picked equate
join-equated cs k [] [] gs at l p = subst (EquatedAll [] []) (some-equal p) no_constraints
join-equated cs k [] (d ∷ ds) gs at l p = absurd (omega arith)
join-equated cs k (h ∷ hs) [] gs at l p = absurd (omega arith)
join-equated cs k (h ∷ hs) (zero ∷ ds) gs at l p =
    join-equated cs (suc k) hs ds gs
    (λ i. ap (get_elem? cs) (let z : suc k + i ≡ k + suc i = omega arith in z) ∙ at (suc i)) (omega arith) p
join-equated cs k (h ∷ hs) (suc d ∷ ds) gs {es} at l p =
    let (g, atg, q) = bind-some (get_elem? gs d)
    (λ g. bind (equate h g) (λ es. bind (join_equations hs ds gs) (λ more. some (es ++ more)))) p in
    let (fs, eq, r) = bind-some (equate h g) (λ es. bind (join_equations hs ds gs) (λ more. some (es ++ more))) q in
    let (more, rest, e) = bind-some (join_equations hs ds gs) (λ more. some (fs ++ more)) r in
    let (sy, te) = cond-some (eqb h.symbol g.symbol) eq in
    let ih = join-equated cs (suc k) hs ds gs
    (λ i. ap (get_elem? cs) (let z : suc k + i ≡ k + suc i = omega arith in z) ∙ at (suc i)) (omega arith) rest in
    let atk : get_elem? cs k ≡ some h = ap (get_elem? cs) (let z : k ≡ k + 0 = omega arith in z) ∙ at 0 in
    rw (atk, atg) (subst (EquatedAll _ _) (some-equal e)
    (P.EquatedAll.one_more (eqb-equal sy) (terms-equated h.terms g.terms te) ih))

-- the equations between two lists begin with those between their first constraints
equated-cons :
    {c d : Constraint} {cs ds : List Constraint} {es : List Equation} → EquatedAll (c ∷ cs) (d ∷ ds) es
    → (fs : List Equation) × (more : List Equation) × (c.symbol ≡ d.symbol) × Equated c.terms d.terms fs
    × EquatedAll cs ds more × (fs ++ more ≡ es)
equated-cons (P.EquatedAll.one_more {es} {fs} p q r) = (es, fs, p, q, r, refl)

equated-nil : {es : List Equation} → EquatedAll [] [] es → [] ≡ es
equated-nil no_constraints = refl

-- and conversely
pub equated-join :
    (cs : List Constraint) (k : ℕ) (hs : List Constraint) {ds : List ℕ} (gs : List Constraint) {es : List Equation}
    → ((i : ℕ) → get_elem? cs (k + i) ≡ get_elem? hs i) → length ds ≡ length hs → All (λ d. d ≤ length gs) ds
    → EquatedAll (picked cs (lefts (joints_from k ds))) (picked gs (rights (joints_from k ds))) es
    → join_equations hs ds gs ≡ some es
unfolding join_equations joints_from picked equate
equated-join cs k [] gs at l none q = ap some (equated-nil q)
equated-join cs k (h ∷ hs) gs at l none q = absurd (omega arith)
equated-join cs k [] gs at l (also b bs) q = absurd (omega arith)
equated-join cs k (h ∷ hs) gs at l (also {a = zero} b bs) q =
    equated-join cs (suc k) hs gs
    (λ i. ap (get_elem? cs) (let z : suc k + i ≡ k + suc i = omega arith in z) ∙ at (suc i)) (omega arith) bs q
equated-join cs k (h ∷ hs) gs {es} at l (also {a = suc d} {l = ds} b bs) q =
    let (g, atg) = get_elem-at gs d (omega arith) in
    let atk : get_elem? cs k ≡ some h = ap (get_elem? cs) (let z : k ≡ k + 0 = omega arith in z) ∙ at 0 in
    let (fs, more, sy, te, rest, e) = equated-cons (rw (atk, atg) at q) in
    let ih = equated-join cs (suc k) hs gs
    (λ i. ap (get_elem? cs) (let z : suc k + i ≡ k + suc i = omega arith in z) ∙ at (suc i)) (omega arith) bs rest in
    rw (atg, equal-eqb sy, equated-terms te, ih) (ap some e)

-- the second rule's heads that are joined to none
pub without-rights :
    (k p : ℕ) (ds : List ℕ) (gs : List Constraint) → without p (rights (joints_from k ds)) gs ≡ unjoined_heads (suc p) gs ds
unfolding without unjoined_heads
without-rights k p ds [] = refl
without-rights k p ds (g ∷ gs) = rw (has-rights p k ds, without-rights k (suc p) ds gs)

-- a position in front takes nothing away
without-past : (p k : ℕ) (ps : List ℕ) (cs : List Constraint) → k < p → without p (k ∷ ps) cs ≡ without p ps cs
unfolding without
without-past p k ps [] h = refl
without-past p k ps (c ∷ cs) h =
    rw (apart_eqb {m = p} {n = k} (λ e. omega arith), without-past (suc p) k ps cs (omega arith))

-- joints of later heads
lefts-later : (i k : ℕ) (ds : List ℕ) → i < k → has i (lefts (joints_from k ds)) ≡ false
unfolding joints_from
lefts-later i k [] h = refl
lefts-later i k (zero ∷ ds) h = lefts-later i (suc k) ds (omega arith)
lefts-later i k (suc d ∷ ds) h =
    rw (apart_eqb {m = i} {n = k} (λ e. omega arith)) (lefts-later i (suc k) ds (omega arith))

-- the first rule's heads that are joined to none
pub without-lefts :
    (k : ℕ) (ds : List ℕ) (hs : List Constraint) → length ds ≡ length hs → without k (lefts (joints_from k ds)) hs ≡ alone hs ds
unfolding without joints_from
without-lefts k ds [] l = refl
without-lefts k [] (h ∷ hs) l = absurd (omega arith)
without-lefts k (zero ∷ ds) (h ∷ hs) l =
    rw (lefts-later k (suc k) ds (omega arith)) (ap (h ∷◌) (without-lefts (suc k) ds hs (omega arith)))
without-lefts k (suc d ∷ ds) (h ∷ hs) l =
    rw (equal-eqb {m = k} refl)
    (without-past (suc k) k (lefts (joints_from (suc k) ds)) hs (omega arith) ∙ without-lefts (suc k) ds hs (omega arith))

-- the second rule's heads, renamed apart
pub apart-renamed : (t : Term) → apart t ≡ renamed shifted t
unfolding apart renamed shifted
apart-renamed (con c) = refl
apart-renamed (var x) = refl

pub shifted-heads : (q : Rule) → map (map_terms apart) q.heads ≡ shifted_heads q
unfolding shifted_heads
shifted-heads q = ap (λ f. map (map_terms f) q.heads) (fun_ext apart-renamed)
