-- The variables of joined heads stay below those of the heads, and how many heads and variables are left.
--   next-within        with one more head joined
--   unjoined-within    those heads of which the goal is made
--   rows_few           how many there are at most
--   unjoined-fewer     fewer heads are left where one is joined
--   finished-fewer     and so the goal has fewer constraints
-- Assumes nothing.
use Prim.Native.Nat.{ℕ, zero, suc, ◌+◌, ◌-◌, ◌*◌, ◌≤◌, ◌<◌}
use native.Mathlib.Omega.{arith}
use mathlib.Core.Bool.{Bool, true, false, cond}
use mathlib.Core.List.{List, [], ◌∷◌, ◌++◌, map}
use mathlib.Core.Option.{some}
use mathlib.Core.Path.{◌≡◌, refl, sym, ap, subst, ◌∙◌}
use lib.Dec.{eqb}
use lib.ListN.{length, take, drop, get_or, get_elem?, length-append, length-drop}
use lib.Seq.{length-take-le, get_or-take}
use Rattle.text.specs.Lists.{bind, every, has}
use Rattle.semantics.specs.Terms.{Term, con, var, Constraint, Equation, map_terms, is_below}
use Rattle.semantics.specs.Solving.{solve}
use Rattle.semantics.specs.Overlaps.{equate_terms, equate, unjoined_heads, appearing_in, appearing}
use Rattle.semantics.proofs.Configurations.{Or, inl, inr, Member}
use Rattle.semantics.proofs.Options.{decide, true-false, none-some, bind-some, cond-some, cond-some-not, eqb-equal, equal-eqb}
use Rattle.text.proofs.Bools.{and-true}
use Rattle.text.proofs.ListLaws.{every-both, every_take, every_drop, every-weaker, every_map}
use Rattle.semantics.proofs.Bools.{or_cases, or_right}
use Rattle.semantics.proofs.Multisets.{member-cons, member-nil}
use Rattle.semantics.proofs.Indices.{some-equal}
use Rattle.semantics.proofs.SolveLaws.{solve-keeps}
use Rattle.semantics.proofs.Weights.{every-at}
use Rattle.tables.specs.Cells.{cell_term, cell_terms, cell_constraints, is_low}
use Rattle.tables.specs.Numbers.{is_within}
use Rattle.tables.proofs.CellLaws.{constraints-length}
use Rattle.overlaps.specs.Joins.{joined, join_next}
use Rattle.overlaps.specs.Overlapped.{Whole, Finished, Partners}

-- symbols that lie below the variables
pub within_low : (v : ℕ) (cs : List Constraint) → every (is_within v) cs ≡ true → every is_low cs ≡ true
unfolding is_within
within_low v cs h =
    every-weaker (is_within v) is_low cs (λ c both. (and-true (is_low c) (every (is_below v) c.terms) both).0) h

-- the sides of equations between terms that pass a test pass it
sides-pass :
    (p : Term → Bool) (ss ts : List Term) {es : List Equation} → equate_terms ss ts ≡ some es → every p ss ≡ true
    → every p ts ≡ true → (e : Equation) → Member e es → (p e.left ≡ true) × (p e.right ≡ true)
unfolding equate_terms
sides-pass p [] [] f g h e m = absurd (member-nil (subst (Member e) (sym (some-equal f)) m))
sides-pass p [] (t ∷ ts) f g h e m = none-some refl f
sides-pass p (s ∷ ss) [] f g h e m = none-some refl f
sides-pass p (s ∷ ss) (t ∷ ts) {es} f g h e m =
    let (more, a, b) = bind-some (equate_terms ss ts) (λ es. some (record { left = s; right = t } ∷ es)) f in
    let (ps, pss) = and-true (p s) (every p ss) g in
    let (pt, pts) = and-true (p t) (every p ts) h in
    go more ps pt (member-cons (subst (Member e) (sym (some-equal b)) m)) (sides-pass p ss ts a pss pts e)
  where
    go : (more : List Equation) → p s ≡ true → p t ≡ true → Or (e ≡ record { left = s; right = t }) (Member e more)
        → (Member e more → (p e.left ≡ true) × (p e.right ≡ true)) → (p e.left ≡ true) × (p e.right ≡ true)
    go more ps pt (inl q) next = (ap (λ x. p x.left) q ∙ ps, ap (λ x. p x.right) q ∙ pt)
    go more ps pt (inr i) next = next i

-- constraints under a substitution that keeps terms below v
map-within :
    (v : ℕ) (σ : Term → Term) → ((t : Term) → is_below v t ≡ true → is_below v (σ t) ≡ true) → (cs : List Constraint)
    → every (is_within v) cs ≡ true → every (is_within v) (map (map_terms σ) cs) ≡ true
unfolding is_within is_low map_terms
map-within v σ f cs h = every_map (is_within v) (is_within v) (map_terms σ) cs one h
  where
    one : (c : Constraint) → is_within v c ≡ true → is_within v (map_terms σ c) ≡ true
    one c both =
        let (low, terms) = and-true (is_low c) (every (is_below v) c.terms) both in
        rw (low, every_map (is_below v) (is_below v) σ c.terms f terms)

-- two of the constraints joined
joined-within :
    (v : ℕ) (c d : Constraint) (cs cs' : List Constraint) → is_within v c ≡ true → is_within v d ≡ true
    → every (is_within v) cs ≡ true → joined c d cs ≡ some cs' → every (is_within v) cs' ≡ true
unfolding joined equate is_within
joined-within v c d cs cs' wc wd w e =
    let (es, a, b) = bind-some (equate c d) (λ es. bind (solve es (λ t. t)) (λ σ. some (map (map_terms σ) cs))) e in
    let (σ, s, q) = bind-some (solve es (λ t. t)) (λ σ. some (map (map_terms σ) cs)) b in
    let terms = (cond-some (eqb c.symbol d.symbol) a).1 in
    let sides = sides-pass (is_below v) c.terms d.terms terms (and-true (is_low c) (every (is_below v) c.terms) wc).1
    (and-true (is_low d) (every (is_below v) d.terms) wd).1 in
    subst (λ l. every (is_within v) l ≡ true) (some-equal q)
    (map-within v σ (solve-keeps (λ t. is_below v t ≡ true) es s sides) cs w)

-- one more head joined
pub next-within :
    (v m : ℕ) (ds : List ℕ) (d : ℕ) (cs cs' : List Constraint) → every (is_within v) cs ≡ true
    → join_next m ds d cs ≡ some cs' → every (is_within v) cs' ≡ true
unfolding join_next
next-within v m ds zero cs cs' w e = subst (λ l. every (is_within v) l ≡ true) (some-equal e) w
next-within v m ds (suc d) cs cs' w e =
    let f = (cond-some-not (has (suc d) ds) e).1 in
    let (h, a, b) = bind-some (get_elem? cs (length ds)) (λ h. bind (get_elem? cs (m + d)) (λ g. joined h g cs)) f in
    let (g, k, j) = bind-some (get_elem? cs (m + d)) (λ g. joined h g cs) b in
    joined-within v h g cs cs' (every-at (is_within v) cs (length ds) h w a) (every-at (is_within v) cs (m + d) g w k) w j

-- the goal's heads
unjoined-passes :
    (p : Constraint → Bool) (n : ℕ) (gs : List Constraint) (ds : List ℕ) → every p gs ≡ true
    → every p (unjoined_heads n gs ds) ≡ true
unfolding unjoined_heads
unjoined-passes p n [] ds h = refl
unjoined-passes p n (g ∷ gs) ds h =
    let (a, b) = and-true (p g) (every p gs) h in
    go (has n ds) a (unjoined-passes p (suc n) gs ds b)
  where
    go : (b : Bool) → p g ≡ true → every p (unjoined_heads (suc n) gs ds) ≡ true
        → every p (cond b (unjoined_heads (suc n) gs ds) (g ∷ unjoined_heads (suc n) gs ds)) ≡ true
    go true e f = f
    go false e f = rw e f

pub unjoined-within :
    (p : Constraint → Bool) (m : ℕ) (cs : List Constraint) (ds : List ℕ) → every p cs ≡ true
    → every p (take m cs ++ unjoined_heads 1 (drop m cs) ds) ≡ true
unjoined-within p m cs ds h =
    every-both p (take m cs) (unjoined_heads 1 (drop m cs) ds) (every_take p m cs h)
    (unjoined-passes p 1 (drop m cs) ds (every_drop p m cs h))

-- terms bring at most one variable each
terms-few : (seen : List ℕ) (ts : List Term) → length (appearing_in seen ts) ≤ length seen + length ts
unfolding appearing_in
terms-few seen [] = omega arith
terms-few seen (con c ∷ ts) = let more = terms-few seen ts in omega (arith, more)
terms-few seen (var x ∷ ts) = go (has x seen) (λ s. terms-few s ts)
  where
    go : (b : Bool) → ((s : List ℕ) → length (appearing_in s ts) ≤ length s + length ts)
        → length (appearing_in (cond b seen (seen ++ (x ∷ []))) ts) ≤ length seen + suc (length ts)
    go true f = let more = f seen in omega (arith, more)
    go false f = let more = f (seen ++ (x ∷ [])) in omega (arith, more, length-append seen (x ∷ []))

cells-few : (l : List ℕ) → length (cell_terms l) ≤ length l
unfolding cell_terms
cells-few [] = omega arith
cells-few (x ∷ l) = go (eqb x 0) (cells-few l)
  where
    go : (b : Bool) → length (cell_terms l) ≤ length l → length (cond b [] (cell_term x ∷ cell_terms l)) ≤ suc (length l)
    go true h = omega arith
    go false h = omega arith

-- and k constraints at most four each
pub rows_few :
    (seen : List ℕ) (k : ℕ) (l : List ℕ) → length l ≡ 5 * k
    → length (appearing seen (cell_constraints l)) ≤ length seen + 4 * k
unfolding appearing cell_constraints
rows_few seen k [] e = omega arith
rows_few seen k (a ∷ []) e = absurd (omega arith)
rows_few seen k (a ∷ b ∷ []) e = absurd (omega arith)
rows_few seen k (a ∷ b ∷ c ∷ []) e = absurd (omega arith)
rows_few seen k (a ∷ b ∷ c ∷ d ∷ []) e = absurd (omega arith)
rows_few seen k (a ∷ b ∷ c ∷ d ∷ f ∷ l) e =
    let ts = cell_terms (b ∷ c ∷ d ∷ f ∷ []) in
    let four = cells-few (b ∷ c ∷ d ∷ f ∷ []) in
    let first = terms-few seen ts in
    let more = rows_few (appearing_in seen ts) (k - 1) l (omega arith) in
    omega (arith, four, first, more)

-- a head that is joined is not left
unjoined-most : (n : ℕ) (gs : List Constraint) (ds : List ℕ) → length (unjoined_heads n gs ds) ≤ length gs
unfolding unjoined_heads
unjoined-most n [] ds = omega arith
unjoined-most n (g ∷ gs) ds = go (has n ds) (unjoined-most (suc n) gs ds)
  where
    go : (b : Bool) → length (unjoined_heads (suc n) gs ds) ≤ length gs
        → length (cond b (unjoined_heads (suc n) gs ds) (g ∷ unjoined_heads (suc n) gs ds)) ≤ suc (length gs)
    go true h = omega arith
    go false h = omega arith

unjoined-less :
    (n x : ℕ) (gs : List Constraint) (ds : List ℕ) → has x ds ≡ true → n ≤ x → x < n + length gs
    → length (unjoined_heads n gs ds) < length gs
unfolding unjoined_heads
unjoined-less n x [] ds h l k = absurd (omega arith)
unjoined-less n x (g ∷ gs) ds h l k = go (decide (has n ds)) (unjoined-most (suc n) gs ds) (unjoined-less (suc n) x gs ds h)
  where
    here : has n ds ≡ false → n ≡ x → ⊥
    here f e = true-false (subst (λ y. has y ds ≡ true) (sym e) h) f

    go : Or (has n ds ≡ true) (has n ds ≡ false) → length (unjoined_heads (suc n) gs ds) ≤ length gs
        → (suc n ≤ x → x < suc n + length gs → length (unjoined_heads (suc n) gs ds) < length gs)
        → length (cond (has n ds) (unjoined_heads (suc n) gs ds) (g ∷ unjoined_heads (suc n) gs ds)) < suc (length gs)
    go (inl t) most more = rw t (omega arith)
    go (inr t) most more =
        let apart : n ≡ x → ⊥ = here t in
        let less = more (omega arith) (omega arith) in
        rw t (omega (arith, less))

-- where one of the partners is a head, fewer than all are left
some-partner : (ds : List ℕ) → every (eqb 0) ds ≡ false → (x : ℕ) × (has x ds ≡ true) × (x ≡ 0 → ⊥)
some-partner [] h = true-false refl h
some-partner (d ∷ ds) h = go (decide (eqb 0 d)) (some-partner ds)
  where
    go : Or (eqb 0 d ≡ true) (eqb 0 d ≡ false)
        → (every (eqb 0) ds ≡ false → (x : ℕ) × (has x ds ≡ true) × (x ≡ 0 → ⊥))
        → (x : ℕ) × (has x (d ∷ ds) ≡ true) × (x ≡ 0 → ⊥)
    go (inl t) more =
        let (x, a, b) = more (rw t at h) in
        (x, or_right (eqb x d) (has x ds) a, b)
    go (inr t) more = (d, rw (equal-eqb {m = d} {n = d} refl), λ e. true-false (equal-eqb (sym e)) t)

has-below : (x b : ℕ) (ds : List ℕ) → ((h : ℕ) → h < length ds → get_or ds h 0 ≤ b) → has x ds ≡ true → x ≤ b
has-below x b [] f h = true-false h refl
has-below x b (d ∷ ds) f h = go (or_cases (eqb x d) (has x ds) h) (has-below x b ds (λ k l. f (suc k) (omega arith)))
  where
    go : Or (eqb x d ≡ true) (has x ds ≡ true) → (has x ds ≡ true → x ≤ b) → x ≤ b
    go (inl e) more = let same : x ≡ d = eqb-equal e in let first = f 0 (omega arith) in omega (arith, same, first)
    go (inr e) more = more e

pub unjoined-fewer :
    (gs : List Constraint) (ds : List ℕ) → ((h : ℕ) → h < length ds → get_or ds h 0 ≤ length gs) → every (eqb 0) ds ≡ false
    → length (unjoined_heads 1 gs ds) < length gs
unjoined-fewer gs ds f h =
    let (x, a, b) = some-partner ds h in
    let most = has-below x (length gs) ds f a in
    unjoined-less 1 x gs ds a (omega arith) (omega (arith, most))

-- a goal has fewer constraints than the rules have heads where a head has a partner
pub finished-fewer :
    (cells : List ℕ) (m n : ℕ) (partners made : List ℕ) (k v : ℕ) → Whole cells m n partners → Partners partners m n
    → Finished cells m n partners made k v → every (eqb 0) (take m partners) ≡ false → k < m + n
finished-fewer cells m n partners made k v w b f h =
    let cs = cell_constraints cells in
    let all : length (drop m cs) ≡ n = length-drop m cs ∙ omega (arith, constraints-length (m + n) cells w.size) in
    let count : length (take m partners) ≡ m = length-take-le m partners (omega (arith, w.first-few, w.partners-size)) in
    let less = unjoined-fewer (drop m cs) (take m partners) (λ x l.
    let is = get_or-take m partners x 0 (omega (arith, count)) in
    let low = b.each x (omega (arith, count)) in
    omega (arith, is, low, all)) h in
    omega (arith, f.left, less, all)
