-- The goal of constraints: its variables are theirs, numbered by first appearance.
--   appearing-has, -from, -distinct      the variables are those of the constraints, without repetition
--   Known, appearing-known               a term over listed variables; the constraints' terms are
--   numbered_below, numbered-instance    a numbered term is below the number of variables, and numbering can be undone
--   goal-scoped, goal-instance           the same for the goal
--   goal-appearance                      the goal's variables count by first appearance
-- Assumes nothing.
use Prim.Native.Nat.{ℕ, zero, suc, ◌<◌, ◌≤◌}
use native.Mathlib.Omega.{arith}
use native.Mathlib.Decide.{dec_lt}
use mathlib.Core.Bool.{true, false, cond, ◌||◌}
use mathlib.Core.List.{List, [], ◌∷◌, ◌++◌, map, append_assoc, append-nil}
use mathlib.Core.Path.{◌≡◌, refl, sym, ap, subst, ◌∙◌}
use lib.Dec.{eqb}
use lib.ListN.{length, get_or, length-append}
use Rattle.text.specs.Lists.{has, index_from, up_to}
use Rattle.semantics.specs.Terms.{Term, con, var, Constraint, map_terms}
use Rattle.semantics.specs.Overlaps.{appearing_in, appearing, numbered, goal_of}
use Rattle.semantics.specs.Claims.{ByAppearance}
use Rattle.semantics.proofs.Configurations.{Or, inl, inr, Member, first, later, All, none, also, TermBelow}
use Rattle.semantics.proofs.Options.{decide, true-false, eqb-equal, apart_eqb}
use Rattle.text.proofs.Bools.{or-false}
use Rattle.semantics.proofs.Bools.{eqb_same, or_cases, or_right}
use Rattle.semantics.proofs.Removal.{has_last}
use Rattle.semantics.proofs.Multisets.{all-member, all-of-members, all_map}
use Rattle.semantics.proofs.MatchLaws.{instantiate}
use Rattle.semantics.proofs.Indices.{get_d_at, has-append, index-stands, index_below, index_from-hit, index_from-miss}
use Rattle.semantics.proofs.Indices.{Distinct, distinct_append}

-- the seen variables with one more, if it is new
abbrev seen_with : ℕ → List ℕ → List ℕ
seen_with x seen = cond (has x seen) seen (seen ++ (x ∷ []))

seen-has : (x : ℕ) (seen : List ℕ) → has x (seen_with x seen) ≡ true
seen-has x seen = go (decide (has x seen))
  where
    go : Or (has x seen ≡ true) (has x seen ≡ false) → has x (seen_with x seen) ≡ true
    go (inl h) = rw h h
    go (inr h) = rw h (has_last x seen)

seen-keeps : (y x : ℕ) (seen : List ℕ) → has y seen ≡ true → has y (seen_with x seen) ≡ true
seen-keeps y x seen k = go (decide (has x seen))
  where
    go : Or (has x seen ≡ true) (has x seen ≡ false) → has y (seen_with x seen) ≡ true
    go (inl h) = rw h k
    go (inr h) = rw h (has-append y seen (x ∷ []) ∙ rw k)

seen-from : (y x : ℕ) (seen : List ℕ) → has y (seen_with x seen) ≡ true → Or (has y seen ≡ true) (y ≡ x)
seen-from y x seen k = go (decide (has x seen))
  where
    last : Or (eqb y x ≡ true) (false ≡ true) → y ≡ x
    last (inl e) = eqb-equal e
    last (inr e) = true-false e refl

    cases : Or (has y seen ≡ true) (has y (x ∷ []) ≡ true) → Or (has y seen ≡ true) (y ≡ x)
    cases (inl h) = inl h
    cases (inr h) = inr (last (or_cases (eqb y x) false h))

    go : Or (has x seen ≡ true) (has x seen ≡ false) → Or (has y seen ≡ true) (y ≡ x)
    go (inl h) = inl (rw h at k)
    go (inr h) = cases (or_cases (has y seen) (has y (x ∷ [])) (sym (has-append y seen (x ∷ [])) ∙ (rw h at k)))

seen-distinct : (x : ℕ) (seen : List ℕ) → Distinct seen → Distinct (seen_with x seen)
seen-distinct x seen d = go (decide (has x seen))
  where
    other : has x seen ≡ false → (q : ℕ) → has q seen ≡ true → has q (x ∷ []) ≡ false
    other h q k = rw (apart_eqb {m = q} {n = x} (λ e. true-false k (ap (λ n. has n seen) e ∙ h)))

    go : Or (has x seen ≡ true) (has x seen ≡ false) → Distinct (seen_with x seen)
    go (inl h) = rw h d
    go (inr h) = rw h (distinct_append seen (x ∷ []) d (refl, tt) (other h))

-- the variables of terms: those seen remain, those of the terms are added, nothing else is, and none stands twice
terms-keep : (y : ℕ) (seen : List ℕ) (ts : List Term) → has y seen ≡ true → has y (appearing_in seen ts) ≡ true
unfolding appearing_in
terms-keep y seen [] h = h
terms-keep y seen (con c ∷ ts) h = terms-keep y seen ts h
terms-keep y seen (var x ∷ ts) h = terms-keep y (seen_with x seen) ts (seen-keeps y x seen h)

terms-has : (x : ℕ) (seen : List ℕ) {ts : List Term} → Member (var x) ts → has x (appearing_in seen ts) ≡ true
unfolding appearing_in
terms-has x seen (first {l}) = terms-keep x (seen_with x seen) l (seen-has x seen)
terms-has x seen (later {b = con c} i) = terms-has x seen i
terms-has x seen (later {b = var y} i) = terms-has x (seen_with y seen) i

terms-from :
    (y : ℕ) (seen : List ℕ) (ts : List Term) → has y (appearing_in seen ts) ≡ true → Or (has y seen ≡ true) (Member (var y) ts)
unfolding appearing_in
terms-from y seen [] h = inl h
terms-from y seen (con c ∷ ts) h = on (terms-from y seen ts h)
  where
    on : Or (has y seen ≡ true) (Member (var y) ts) → Or (has y seen ≡ true) (Member (var y) (con c ∷ ts))
    on (inl k) = inl k
    on (inr k) = inr (later k)
terms-from y seen (var x ∷ ts) h = on (terms-from y (seen_with x seen) ts h)
  where
    front : Or (has y seen ≡ true) (y ≡ x) → Or (has y seen ≡ true) (Member (var y) (var x ∷ ts))
    front (inl k) = inl k
    front (inr e) = inr (subst (λ z. Member (var y) (var z ∷ ts)) e first)

    on : Or (has y (seen_with x seen) ≡ true) (Member (var y) ts) → Or (has y seen ≡ true) (Member (var y) (var x ∷ ts))
    on (inl k) = front (seen-from y x seen k)
    on (inr k) = inr (later k)

terms-distinct : (seen : List ℕ) (ts : List Term) → Distinct seen → Distinct (appearing_in seen ts)
unfolding appearing_in
terms-distinct seen [] d = d
terms-distinct seen (con c ∷ ts) d = terms-distinct seen ts d
terms-distinct seen (var x ∷ ts) d = terms-distinct (seen_with x seen) ts (seen-distinct x seen d)

-- the same of constraints
appearing-keeps : (y : ℕ) (seen : List ℕ) (cs : List Constraint) → has y seen ≡ true → has y (appearing seen cs) ≡ true
unfolding appearing
appearing-keeps y seen [] h = h
appearing-keeps y seen (c ∷ cs) h = appearing-keeps y (appearing_in seen c.terms) cs (terms-keep y seen c.terms h)

pub appearing-has :
    (x : ℕ) {c : Constraint} (seen : List ℕ) {cs : List Constraint} → Member c cs → Member (var x) c.terms
    → has x (appearing seen cs) ≡ true
unfolding appearing
appearing-has x {c} seen (first {l}) k = appearing-keeps x (appearing_in seen c.terms) l (terms-has x seen k)
appearing-has x seen (later {b = d} i) k = appearing-has x (appearing_in seen d.terms) i k

pub appearing-from :
    (y : ℕ) (seen : List ℕ) (cs : List Constraint) → has y (appearing seen cs) ≡ true
    → Or (has y seen ≡ true) ((c : Constraint) × Member c cs × Member (var y) c.terms)
unfolding appearing
appearing-from y seen [] h = inl h
appearing-from y seen (c ∷ cs) h = on (appearing-from y (appearing_in seen c.terms) cs h)
  where
    front :
        Or (has y seen ≡ true) (Member (var y) c.terms)
        → Or (has y seen ≡ true) ((d : Constraint) × Member d (c ∷ cs) × Member (var y) d.terms)
    front (inl k) = inl k
    front (inr k) = inr (c, first, k)

    on :
        Or (has y (appearing_in seen c.terms) ≡ true) ((d : Constraint) × Member d cs × Member (var y) d.terms)
        → Or (has y seen ≡ true) ((d : Constraint) × Member d (c ∷ cs) × Member (var y) d.terms)
    on (inl k) = front (terms-from y seen c.terms k)
    on (inr (d, i, k)) = inr (d, later i, k)

pub appearing-distinct : (seen : List ℕ) (cs : List Constraint) → Distinct seen → Distinct (appearing seen cs)
unfolding appearing
appearing-distinct seen [] d = d
appearing-distinct seen (c ∷ cs) d = appearing-distinct (appearing_in seen c.terms) cs (terms-distinct seen c.terms d)

-- a term that is a constant or a listed variable
abbrev pub Known : List ℕ → Term → Type 0
Known order (con c) = Unit {0}
Known order (var x) = has x order ≡ true

-- the constraints' terms are over the variables that appear
pub appearing-known : {c : Constraint} {cs : List Constraint} → Member c cs → All (Known (appearing [] cs)) c.terms
appearing-known {c} {cs} i = all-of-members c.terms known
  where
    known : (t : Term) → Member t c.terms → Known (appearing [] cs) t
    known (con d) k = tt
    known (var x) k = appearing-has x [] i k

-- a numbered term is below the number of the variables
pub numbered_below : (order : List ℕ) (t : Term) → Known order t → TermBelow (length order) (numbered order t)
unfolding numbered
numbered_below order (con c) k = tt
numbered_below order (var x) k = index_below x order k

-- numbering can be undone
pub numbered-instance :
    (order : List ℕ) (θ : ℕ → Term) (t : Term) → Known order t
    → instantiate (λ v. θ (get_or order v 0)) (numbered order t) ≡ instantiate θ t
unfolding numbered
numbered-instance order θ (con c) k = refl
numbered-instance order θ (var x) k = ap θ (get_d_at order (index_from (eqb x) 0 order) 0 (index-stands x order k))

-- functions that agree on the elements give one image
pub map-equal :
    {A B C : Type 0} (f : B → C) (g : A → B) (h : A → C) {l : List A} → All (λ a. f (g a) ≡ h a) l → map f (map g l) ≡ map h l
map-equal f g h none = refl
map-equal f g h (also e es) = λ i. e i ∷ map-equal f g h es i

-- the goal's constraints are over its variables
pub goal-scoped : (cs : List Constraint) → All (λ c. All (TermBelow (goal_of cs).variables) c.terms) (goal_of cs).constraints
unfolding goal_of map_terms
goal-scoped cs =
    let order = appearing [] cs in
    all_map (map_terms (numbered order)) (all-of-members cs (λ c i.
    all_map (numbered order) (all-of-members c.terms (λ t j.
    numbered_below order t (all-member (appearing-known i) j)))))

-- a replacement of the constraints' variables, as one of the goal's
pub goal-instance :
    (θ : ℕ → Term) (cs : List Constraint)
    → map (map_terms (instantiate (λ v. θ (get_or (appearing [] cs) v 0)))) (goal_of cs).constraints
    ≡ map (map_terms (instantiate θ)) cs
unfolding goal_of map_terms
goal-instance θ cs =
    let order = appearing [] cs in
    let back = instantiate (λ v. θ (get_or order v 0)) in
    map-equal (map_terms back) (map_terms (numbered order)) (map_terms (instantiate θ)) (all-of-members cs (λ c i.
    ap (λ ts. record { symbol = c.symbol; terms = ts })
    (map-equal back (numbered order) (instantiate θ) (all-of-members c.terms (λ t j.
    numbered-instance order θ t (all-member (appearing-known i) j))))))

-- what has been seen stays in front
terms-extend : (seen : List ℕ) (ts : List Term) → (more : List ℕ) × (appearing_in seen ts ≡ seen ++ more)
unfolding appearing_in
terms-extend seen [] = ([], sym (append-nil seen))
terms-extend seen (con c ∷ ts) = terms-extend seen ts
terms-extend seen (var x ∷ ts) = go (decide (has x seen)) (terms-extend (seen_with x seen) ts)
  where
    go :
        Or (has x seen ≡ true) (has x seen ≡ false)
        → (more : List ℕ) × (appearing_in (seen_with x seen) ts ≡ seen_with x seen ++ more)
        → (more : List ℕ) × (appearing_in (seen_with x seen) ts ≡ seen ++ more)
    go (inl h) (more, e) = (more, e ∙ rw h)
    go (inr h) (more, e) = (x ∷ more, e ∙ rw h (append_assoc seen (x ∷ []) more))

appearing-extends : (seen : List ℕ) (cs : List Constraint) → (more : List ℕ) × (appearing seen cs ≡ seen ++ more)
unfolding appearing
appearing-extends seen [] = ([], sym (append-nil seen))
appearing-extends seen (c ∷ cs) =
    let (more, e) = terms-extend seen c.terms in
    let (rest, f) = appearing-extends (appearing_in seen c.terms) cs in
    (more ++ rest, f ∙ ap (◌++ rest) e ∙ append_assoc seen more rest)

-- the place of a number that the first of two lists has, and of the first number of the second that the first lacks
index-left : (x : ℕ) (l m : List ℕ) → has x l ≡ true → index_from (eqb x) 0 (l ++ m) < length l
index-left x [] m h = true-false h refl
index-left x (y ∷ l) m h = go (decide (eqb x y)) (index-left x l m)
  where
    go :
        Or (eqb x y ≡ true) (eqb x y ≡ false) → (has x l ≡ true → index_from (eqb x) 0 (l ++ m) < length l)
        → index_from (eqb x) 0 (y ∷ (l ++ m)) < suc (length l)
    go (inl e) ih = rw (index_from-hit (eqb x) 0 (l ++ m) e) (omega arith)
    go (inr e) ih = rw (index_from-miss (eqb x) 0 (l ++ m) e) (let k = ih (rw e at h) in omega arith)

index-next : (x : ℕ) (l m : List ℕ) → has x l ≡ false → index_from (eqb x) 0 (l ++ (x ∷ m)) ≡ length l
index-next x [] m h = index_from-hit (eqb x) 0 m (eqb_same x)
index-next x (y ∷ l) m h =
    let (e, f) = or-false (eqb x y) (has x l) h in
    index_from-miss (eqb x) 0 (l ++ (x ∷ m)) e ∙ ap suc (index-next x l m f)

-- the numbers below n
pub up_to-has : (n i : ℕ) → i < n → has i (up_to n) ≡ true
up_to-has zero i l = absurd (omega arith)
up_to-has (suc n) i l = has-append i (up_to n) (n ∷ []) ∙ go (dec_lt i n) (up_to-has n i)
  where
    go : Dec (i < n) → (i < n → has i (up_to n) ≡ true) → (has i (up_to n) || has i (n ∷ [])) ≡ true
    go (yes h) ih = rw (ih h)
    go (no h) ih = or_right (has i (up_to n)) (has i (n ∷ [])) (let e : i ≡ n = omega arith in rw (e, eqb_same n))

pub up_to-lacks : (n i : ℕ) → n ≤ i → has i (up_to n) ≡ false
up_to-lacks zero i l = refl
up_to-lacks (suc n) i l =
    has-append i (up_to n) (n ∷ [])
    ∙ rw (up_to-lacks n i (omega arith), apart_eqb {m = i} {n = n} (λ e. omega arith))

-- the variables of numbered terms are the numbers in order, as far as the variables of the terms go
terms-count :
    (order seen : List ℕ) (ts : List Term) (rest : List ℕ) → order ≡ appearing_in seen ts ++ rest
    → appearing_in (up_to (length seen)) (map (numbered order) ts) ≡ up_to (length (appearing_in seen ts))
unfolding appearing_in numbered
terms-count order seen [] rest e = refl
terms-count order seen (con c ∷ ts) rest e = terms-count order seen ts rest e
terms-count order seen (var x ∷ ts) rest e =
    ap (λ l. appearing_in l (map (numbered order) ts)) (go (decide (has x seen)) (terms-extend (seen_with x seen) ts))
    ∙ terms-count order (seen_with x seen) ts rest e
  where
    go :
        Or (has x seen ≡ true) (has x seen ≡ false)
        → (more : List ℕ) × (appearing_in (seen_with x seen) ts ≡ seen_with x seen ++ more)
        → seen_with (index_from (eqb x) 0 order) (up_to (length seen)) ≡ up_to (length (seen_with x seen))
    go (inl h) (more, f) =
        let split : order ≡ seen_with x seen ++ (more ++ rest) =
        e ∙ ap (◌++ rest) f ∙ append_assoc (seen_with x seen) more rest in
        let known : order ≡ seen ++ (more ++ rest) = rw h at split in
        let place : index_from (eqb x) 0 order < length seen = rw known (index-left x seen (more ++ rest) h) in
        rw (h, up_to-has (length seen) (index_from (eqb x) 0 order) place)
    go (inr h) (more, f) =
        let split : order ≡ seen_with x seen ++ (more ++ rest) =
        e ∙ ap (◌++ rest) f ∙ append_assoc (seen_with x seen) more rest in
        let new : order ≡ (seen ++ (x ∷ [])) ++ (more ++ rest) = rw h at split in
        let place : index_from (eqb x) 0 order ≡ length seen =
        ap (index_from (eqb x) 0) (new ∙ append_assoc seen (x ∷ []) (more ++ rest)) ∙ index-next x seen (more ++ rest) h in
        let longer : length (seen ++ (x ∷ [])) ≡ suc (length seen) = length-append seen (x ∷ []) ∙ omega arith in
        rw (place, up_to-lacks (length seen) (length seen) (omega arith), h, longer)

appearing-counts :
    (order seen : List ℕ) (cs : List Constraint) → order ≡ appearing seen cs
    → appearing (up_to (length seen)) (map (map_terms (numbered order)) cs) ≡ up_to (length order)
unfolding appearing map_terms
appearing-counts order seen [] e = ap (λ l. up_to (length l)) (sym e)
appearing-counts order seen (c ∷ cs) e =
    let next = appearing_in seen c.terms in
    let (rest, f) = appearing-extends next cs in
    ap (λ l. appearing l (map (map_terms (numbered order)) cs)) (terms-count order seen c.terms rest (e ∙ f))
    ∙ appearing-counts order next cs e

-- the variables of the goal of constraints count by first appearance
pub goal-appearance : (cs : List Constraint) → ByAppearance (goal_of cs)
unfolding goal_of
goal-appearance cs = appearing-counts (appearing [] cs) [] cs refl
