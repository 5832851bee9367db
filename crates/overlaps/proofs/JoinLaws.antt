-- Heads are joined one after the other: each joining unifies two of the constraints as they stand under the unifier so far.
--   join-append      the equations of a longer list of partners
--   joined-none      a head that is joined to none changes nothing
--   joined-next      one more joined head
--   joined-cut       what does not unify does not with more heads joined
--   overlap-joined   an overlap, from all heads joined
-- Assumes nothing.
use Prim.Native.Nat.{ℕ, zero, suc, ◌+◌, ◌<◌}
use native.Mathlib.Omega.{arith}
use mathlib.Core.Bool.{Bool, true, false, cond}
use mathlib.Core.List.{List, [], ◌∷◌, ◌++◌, map, map-map, map-append, append_assoc, append-nil}
use mathlib.Core.Option
use mathlib.Core.Option.{Option, none, some}
use mathlib.Core.Path.{◌≡◌, refl, sym, ap, ◌∙◌}
use lib.Dec.{eqb}
use lib.ListN.{length, take, drop, get_elem?, length-map}
use lib.Seq.{take_at, drop_at, drop-nil}
use Rattle.text.specs.Lists.{bind}
use Rattle.semantics.specs.Terms.{Term, Constraint, Equation, map_terms, map_sides}
use Rattle.semantics.specs.Solving.{unify, solve}
use Rattle.semantics.specs.Overlaps.{equate_terms, equate, join_equations, unjoined_heads, goal_of, apart}
use Rattle.semantics.specs.Overlaps.{Numbered, Overlap, overlap_of}
use Rattle.semantics.proofs.Options.{bind-some, none-some}
use Rattle.semantics.proofs.Indices.{some-equal}
use Rattle.semantics.proofs.Pairings.{leftover-map, unjoined-leftover}
use Rattle.engine.proofs.SolveLaws.{solve-through}
use Rattle.overlaps.specs.Joins.{joined, all_joined, goal_from}

-- an answer that is handed on
bind-same : {A : Type 0} (o : Option A) → bind o (λ a. some a) ≡ o
bind-same none = refl
bind-same (some a) = refl

-- no more partners, no more equations
pub join-no-more : (hs gs : List Constraint) → join_equations hs [] gs ≡ some []
unfolding join_equations
join-no-more [] gs = refl
join-no-more (h ∷ hs) gs = refl

-- the equations of a longer list of partners
pub join-append :
    (hs : List Constraint) (ds es : List ℕ) (gs : List Constraint)
    → join_equations hs (ds ++ es) gs
    ≡ bind (join_equations hs ds gs) (λ a. bind (join_equations (drop (length ds) hs) es gs) (λ b. some (a ++ b)))
unfolding join_equations
join-append [] ds es gs = rw (drop-nil {A = Constraint} (length ds))
join-append (h ∷ hs) [] es gs = sym (bind-same (join_equations (h ∷ hs) es gs))
join-append (h ∷ hs) (zero ∷ ds) es gs = join-append hs ds es gs
join-append (h ∷ hs) (suc d ∷ ds) es gs =
    rw (join-append hs ds es gs)
    (go (get_elem? gs d) (join_equations hs ds gs) (join_equations (drop (length ds) hs) es gs))
  where
    last : (f : List Equation) (u v : Option (List Equation))
        → bind (bind u (λ a. bind v (λ b. some (a ++ b)))) (λ more. some (f ++ more))
        ≡ bind (bind u (λ more. some (f ++ more))) (λ a. bind v (λ b. some (a ++ b)))
    last f none v = refl
    last f (some a) none = refl
    last f (some a) (some b) = ap some (sym (append_assoc f a b))

    next : (e u v : Option (List Equation))
        → bind e (λ f. bind (bind u (λ a. bind v (λ b. some (a ++ b)))) (λ more. some (f ++ more)))
        ≡ bind (bind e (λ f. bind u (λ more. some (f ++ more)))) (λ a. bind v (λ b. some (a ++ b)))
    next none u v = refl
    next (some f) u v = last f u v

    go : (o : Option Constraint) (u v : Option (List Equation))
        → bind o (λ g. bind (equate h g) (λ f. bind (bind u (λ a. bind v (λ b. some (a ++ b)))) (λ more. some (f ++ more))))
        ≡ bind (bind o (λ g. bind (equate h g) (λ f. bind u (λ more. some (f ++ more))))) (λ a. bind v (λ b. some (a ++ b)))
    go none u v = refl
    go (some g) u v = next (equate h g) u v

-- equations one after the other
solve-append :
    (es fs : List Equation) (σ : Term → Term) → solve (es ++ fs) σ ≡ bind (solve es σ) (λ τ. solve fs τ)
unfolding solve
solve-append [] fs σ = refl
solve-append (e ∷ es) fs σ = go (unify (σ e.left) (σ e.right)) (λ τ. solve-append es fs (λ t. τ (σ t)))
  where
    go : (u : Option (Term → Term))
        → ((τ : Term → Term) → solve (es ++ fs) (λ t. τ (σ t)) ≡ bind (solve es (λ t. τ (σ t))) (λ ρ. solve fs ρ))
        → bind u (λ τ. solve (es ++ fs) (λ t. τ (σ t))) ≡ bind (bind u (λ τ. solve es (λ t. τ (σ t)))) (λ ρ. solve fs ρ)
    go none more = refl
    go (some τ) more = more τ

-- the equations between terms, and between constraints, that are replaced throughout
pub equate-terms-map :
    (σ : Term → Term) (ss ts : List Term)
    → equate_terms (map σ ss) (map σ ts) ≡ bind (equate_terms ss ts) (λ es. some (map (map_sides σ) es))
unfolding equate_terms map_sides
equate-terms-map σ [] [] = refl
equate-terms-map σ [] (t ∷ ts) = refl
equate-terms-map σ (s ∷ ss) [] = refl
equate-terms-map σ (s ∷ ss) (t ∷ ts) = rw (equate-terms-map σ ss ts) (go (equate_terms ss ts))
  where
    go : (o : Option (List Equation))
        → bind (bind o (λ es. some (map (map_sides σ) es))) (λ es. some (record { left = σ s; right = σ t } ∷ es))
        ≡ bind (bind o (λ es. some (record { left = s; right = t } ∷ es))) (λ es. some (map (map_sides σ) es))
    go none = refl
    go (some es) = refl

equate-map :
    (σ : Term → Term) (c d : Constraint)
    → equate (map_terms σ c) (map_terms σ d) ≡ bind (equate c d) (λ es. some (map (map_sides σ) es))
unfolding equate map_terms
equate-map σ c d = go (eqb c.symbol d.symbol)
  where
    go : (b : Bool)
        → cond b (equate_terms (map σ c.terms) (map σ d.terms)) none
        ≡ bind (cond b (equate_terms c.terms d.terms) none) (λ es. some (map (map_sides σ) es))
    go true = equate-terms-map σ c.terms d.terms
    go false = refl

-- a head that is joined to none changes nothing
pub joined-none :
    (hs gs : List Constraint) (ds : List ℕ) → all_joined hs (ds ++ (0 ∷ [])) gs ≡ all_joined hs ds gs
unfolding all_joined join_equations
joined-none hs gs ds =
    rw (join-append hs ds (0 ∷ []) gs, alone (drop (length ds) hs)) (go (join_equations hs ds gs))
  where
    alone : (l : List Constraint) → join_equations l (0 ∷ []) gs ≡ some []
    alone [] = refl
    alone (h ∷ l) = join-no-more l gs

    go : (o : Option (List Equation))
        → bind (bind o (λ a. some (a ++ []))) (λ es. bind (solve es (λ t. t)) (λ σ. some (map (map_terms σ) (hs ++ gs))))
        ≡ bind o (λ es. bind (solve es (λ t. t)) (λ σ. some (map (map_terms σ) (hs ++ gs))))
    go none = refl
    go (some a) = rw (append-nil a)

-- what does not unify does not with more heads joined
pub joined-cut :
    (hs gs : List Constraint) (ds es : List ℕ) → all_joined hs ds gs ≡ none → all_joined hs (ds ++ es) gs ≡ none
unfolding all_joined
joined-cut hs gs ds es h =
    rw (join-append hs ds es gs) (go (join_equations hs ds gs) (join_equations (drop (length ds) hs) es gs) h)
  where
    clash : (a b : List Equation) (u : Option (Term → Term)) → bind u (λ σ. some (map (map_terms σ) (hs ++ gs))) ≡ none
        → bind (bind u (λ τ. solve b τ)) (λ σ. some (map (map_terms σ) (hs ++ gs))) ≡ none
    clash a b none k = refl
    clash a b (some σ) k = none-some k refl

    go : (u v : Option (List Equation))
        → bind u (λ e. bind (solve e (λ t. t)) (λ σ. some (map (map_terms σ) (hs ++ gs)))) ≡ none
        → bind (bind u (λ a. bind v (λ b. some (a ++ b))))
        (λ e. bind (solve e (λ t. t)) (λ σ. some (map (map_terms σ) (hs ++ gs)))) ≡ none
    go none v k = refl
    go (some a) none k = refl
    go (some a) (some b) k = rw (solve-append a b (λ t. t)) (clash a b (solve a (λ t. t)) k)

-- what joined heads were made from
pub record JoinedParts (hs : List Constraint) (ds : List ℕ) (gs cs : List Constraint) : Type 0 where
  pub equations : List Equation
  pub solution : Term → Term
  pub made : join_equations hs ds gs ≡ some equations
  pub solved : solve equations (λ t. t) ≡ some solution
  pub same : map (map_terms solution) (hs ++ gs) ≡ cs

pub joined-parts :
    (hs : List Constraint) (ds : List ℕ) (gs cs : List Constraint) → all_joined hs ds gs ≡ some cs → JoinedParts hs ds gs cs
unfolding all_joined
joined-parts hs ds gs cs h =
    let (es, a, b) = bind-some (join_equations hs ds gs)
    (λ es. bind (solve es (λ t. t)) (λ σ. some (map (map_terms σ) (hs ++ gs)))) h in
    let (σ, c, d) = bind-some (solve es (λ t. t)) (λ σ. some (map (map_terms σ) (hs ++ gs))) b in
    record { equations = es; solution = σ; made = a; solved = c; same = some-equal d }

-- an element of a list's image is the image of an element
at-unmap :
    {A B : Type 0} (f : A → B) (l : List A) (k : ℕ) {b : B} → get_elem? (map f l) k ≡ some b
    → (a : A) × (get_elem? l k ≡ some a) × (f a ≡ b)
at-unmap f [] k h = none-some refl h
at-unmap f (a ∷ l) zero h = (a, refl, some-equal h)
at-unmap f (a ∷ l) (suc k) h = at-unmap f l k h

-- an element of two lists, in the first or in the second
pub at_left : {A : Type 0} (l m : List A) (k : ℕ) → k < length l → get_elem? (l ++ m) k ≡ get_elem? l k
at_left [] m k h = absurd (omega arith)
at_left (a ∷ l) m zero h = refl
at_left (a ∷ l) m (suc k) h = at_left l m k (omega arith)

pub at_right : {A : Type 0} (l m : List A) (k : ℕ) → get_elem? (l ++ m) (length l + k) ≡ get_elem? m k
at_right [] m k = ap (get_elem? m) (let z : 0 + k ≡ k = omega arith in z)
at_right (a ∷ l) m k = ap (get_elem? (a ∷ (l ++ m))) (let z : suc (length l) + k ≡ suc (length l + k) = omega arith in z)
    ∙ at_right l m k

-- the list from an element on
pub drop-at-element : {A : Type 0} (l : List A) (k : ℕ) {a : A} → get_elem? l k ≡ some a → drop k l ≡ a ∷ drop (suc k) l
drop-at-element [] k h = none-some refl h
drop-at-element (b ∷ l) zero h = ap (◌∷ l) (some-equal h)
drop-at-element (b ∷ l) (suc k) h = drop-at-element l k h

-- replacing twice
pub replaced-twice :
    (ρ σ : Term → Term) (cs : List Constraint) → map (map_terms ρ) (map (map_terms σ) cs) ≡ map (map_terms (λ t. ρ (σ t))) cs
unfolding map_terms
replaced-twice ρ σ [] = refl
replaced-twice ρ σ (c ∷ cs) = rw (map-map ρ σ c.terms, replaced-twice ρ σ cs)

-- the equations with one more joined head
join-next :
    (hs gs : List Constraint) (ds : List ℕ) (d : ℕ) (es : List Equation) (h g : Constraint)
    → join_equations hs ds gs ≡ some es → get_elem? hs (length ds) ≡ some h → get_elem? gs d ≡ some g
    → join_equations hs (ds ++ (suc d ∷ [])) gs ≡ bind (equate h g) (λ f. some (es ++ f))
unfolding join_equations
join-next hs gs ds d es h g m a b =
    rw (join-append hs ds (suc d ∷ []) gs, m, drop-at-element hs (length ds) a, b, join-no-more (drop (suc (length ds)) hs) gs)
    (go (equate h g))
  where
    go : (o : Option (List Equation))
        → bind (bind o (λ f. some (f ++ []))) (λ f. some (es ++ f)) ≡ bind o (λ f. some (es ++ f))
    go none = refl
    go (some f) = rw (append-nil f)

-- solving more equations is solving them under the solution so far
solve-next :
    (es : List Equation) (σ : Term → Term) (cs : List Constraint) (o : Option (List Equation)) → solve es (λ t. t) ≡ some σ
    → bind (bind o (λ f. some (es ++ f))) (λ e. bind (solve e (λ t. t)) (λ τ. some (map (map_terms τ) cs)))
    ≡ bind (bind o (λ f. some (map (map_sides σ) f)))
    (λ f. bind (solve f (λ t. t)) (λ ρ. some (map (map_terms ρ) (map (map_terms σ) cs))))
solve-next es σ cs none s = refl
solve-next es σ cs (some f) s =
    rw (solve-append es f (λ t. t), s, solve-through f σ (λ t. t)) (go (solve (map (map_sides σ) f) (λ t. t)))
  where
    go : (u : Option (Term → Term))
        → bind (Option.map (λ ρ t. ρ (σ t)) u) (λ τ. some (map (map_terms τ) cs))
        ≡ bind u (λ ρ. some (map (map_terms ρ) (map (map_terms σ) cs)))
    go none = refl
    go (some ρ) = ap some (sym (replaced-twice ρ σ cs))

-- one more joined head: the next of the first rule, h as it stands now, and number d of the second, g as it stands now
pub joined-next :
    (hs gs : List Constraint) (ds : List ℕ) (d : ℕ) (cs : List Constraint) (h g : Constraint)
    → all_joined hs ds gs ≡ some cs → length ds < length hs → get_elem? cs (length ds) ≡ some h
    → get_elem? cs (length hs + d) ≡ some g → all_joined hs (ds ++ (suc d ∷ [])) gs ≡ joined h g cs
unfolding all_joined joined
joined-next hs gs ds d cs h g j l eh eg =
    let p = joined-parts hs ds gs cs j in
    let σ = p.solution in
    let (h₀, ah, bh) = at-unmap (map_terms σ) (hs ++ gs) (length ds) (ap (λ l. get_elem? l (length ds)) p.same ∙ eh) in
    let (g₀, ag, bg) = at-unmap (map_terms σ) (hs ++ gs) (length hs + d) (ap (λ l. get_elem? l (length hs + d)) p.same ∙ eg) in
    let e : join_equations hs (ds ++ (suc d ∷ [])) gs ≡ bind (equate h₀ g₀) (λ f. some (p.equations ++ f)) =
    join-next hs gs ds d p.equations h₀ g₀ p.made (sym (at_left hs gs (length ds) l) ∙ ah) (sym (at_right hs gs d) ∙ ag) in
    ap (λ o. bind o (λ es. bind (solve es (λ t. t)) (λ σ. some (map (map_terms σ) (hs ++ gs))))) e
    ∙ solve-next p.equations σ (hs ++ gs) (equate h₀ g₀) p.solved
    ∙ ap (λ o. bind o (λ f. bind (solve f (λ t. t)) (λ ρ. some (map (map_terms ρ) (map (map_terms σ) (hs ++ gs))))))
    (sym (equate-map σ h₀ g₀))
    ∙ ap (λ c. joined c (map_terms σ g₀) (map (map_terms σ) (hs ++ gs))) bh
    ∙ ap (λ c. joined h c (map (map_terms σ) (hs ++ gs))) bg
    ∙ ap (joined h g) p.same

-- what is left of the second rule's heads, replaced throughout
unjoined-map :
    (f : Constraint → Constraint) (n : ℕ) (gs : List Constraint) (ds : List ℕ)
    → unjoined_heads n (map f gs) ds ≡ map f (unjoined_heads n gs ds)
unjoined-map f n gs ds =
    unjoined-leftover n (map f gs) ds ∙ leftover-map f n gs ds ∙ ap (map f) (sym (unjoined-leftover n gs ds))

-- an overlap, from all heads joined
pub overlap-joined :
    (i j : Numbered) (ds : List ℕ)
    → overlap_of i j ds
    ≡ bind (all_joined i.rule.heads ds (map (map_terms apart) j.rule.heads))
    (λ cs. some (record { first = i; second = j; partners = ds; goal = goal_from (length i.rule.heads) ds cs }))
unfolding overlap_of all_joined goal_from
overlap-joined i j ds = go (join_equations hs ds gs)
  where
    hs : List Constraint
    hs = i.rule.heads

    gs : List Constraint
    gs = map (map_terms apart) j.rule.heads

    whole : (cs : List Constraint) → Overlap
    whole cs = record { first = i; second = j; partners = ds; goal = goal_of cs }

    goal : (σ : Term → Term)
        → map (map_terms σ) (hs ++ unjoined_heads 1 gs ds)
        ≡ take (length hs) (map (map_terms σ) (hs ++ gs)) ++ unjoined_heads 1 (drop (length hs) (map (map_terms σ) (hs ++ gs))) ds
    goal σ =
        rw (
          map-append (map_terms σ) hs gs,
          map-append (map_terms σ) hs (unjoined_heads 1 gs ds),
          take_at (map (map_terms σ) hs) (map (map_terms σ) gs) (length hs) (length-map hs (map_terms σ)),
          drop_at (map (map_terms σ) hs) (map (map_terms σ) gs) (length hs) (length-map hs (map_terms σ)),
          unjoined-map (map_terms σ) 1 gs ds,
        )

    next : (u : Option (Term → Term))
        → bind u (λ σ. some (whole (map (map_terms σ) (hs ++ unjoined_heads 1 gs ds))))
        ≡ bind (bind u (λ σ. some (map (map_terms σ) (hs ++ gs))))
        (λ cs. some (whole (take (length hs) cs ++ unjoined_heads 1 (drop (length hs) cs) ds)))
    next none = refl
    next (some σ) = ap (λ cs. some (whole cs)) (goal σ)

    go : (o : Option (List Equation))
        → bind o (λ es. bind (solve es (λ t. t)) (λ σ. some (whole (map (map_terms σ) (hs ++ unjoined_heads 1 gs ds)))))
        ≡ bind (bind o (λ es. bind (solve es (λ t. t)) (λ σ. some (map (map_terms σ) (hs ++ gs)))))
        (λ cs. some (whole (take (length hs) cs ++ unjoined_heads 1 (drop (length hs) cs) ds)))
    go none = refl
    go (some es) = next (solve es (λ t. t))
