-- The strategy's search for positions: what it finds fits, it finds something where anything fits, and it finds the smallest.
--   match_at-cons, match_at-join          the first head and the rest
--   first_in-some, first_in-none          where the first answer over a list comes from
--   find-sound, find-complete, find-smallest
-- Assumes nothing.
use Prim.Native.Nat.{ℕ, zero, suc, ◌+◌, ◌<◌}
use native.Mathlib.Nat.{zero-add, suc-add, add-suc, add-zero}
use native.Mathlib.Omega.{arith}
use native.Mathlib.Decide.{dec_lt}
use mathlib.Core.Bool.{false, cond}
use mathlib.Core.List.{List, [], ◌∷◌, ◌++◌, append_assoc, append-nil}
use mathlib.Core.Option.{Option, none, some}
use mathlib.Core.Path.{◌≡◌, refl, sym, ◌∙◌, ap}
use lib.ListN.{get_elem?}
use Rattle.text.specs.Lists.{bind, or_else, has}
use Rattle.semantics.specs.Terms.{Constraint}
use Rattle.semantics.specs.Matching.{Assignment, unassigned, match_constraint, match_at}
use Rattle.semantics.specs.Strategy.{Match, first_in, find}
use Rattle.semantics.specs.Runs.{Before, at_first, at_later}
use Rattle.semantics.proofs.Configurations.{Or, inl, inr}
use Rattle.semantics.proofs.Options.{none-some, bind-some, cond-some-not}
use Rattle.semantics.proofs.Bools.{none-unless}

-- what a first head at a position needs: the position is not chosen yet, the head fits there, and the rest fits behind it
pub record FirstFits
    (h : Constraint) (hs : List Constraint) (p : ℕ) (ps : List ℕ) (cs : List Constraint) (chosen : List ℕ) (θ : Assignment)
    (end : Assignment) : Type 0 where
  pub free : has p chosen ≡ false
  pub constraint : Constraint
  pub stands : get_elem? cs p ≡ some constraint
  pub next : Assignment
  pub fits : match_constraint h constraint θ ≡ some next
  pub rest : match_at hs ps cs (chosen ++ (p ∷ [])) next ≡ some end

-- a match of one or more heads, taken apart
pub match_at-cons :
    (h : Constraint) (hs : List Constraint) (p : ℕ) (ps : List ℕ) (cs : List Constraint) (chosen : List ℕ) (θ end : Assignment)
    → match_at (h ∷ hs) (p ∷ ps) cs chosen θ ≡ some end → FirstFits h hs p ps cs chosen θ end
unfolding match_at
match_at-cons h hs p ps cs chosen θ end e =
    let u = cond-some-not (has p chosen) e in
    let v = bind-some (get_elem? cs p) (λ c. bind (match_constraint h c θ) (match_at hs ps cs (chosen ++ (p ∷ [])))) u.1 in
    let w = bind-some (match_constraint h v.0 θ) (match_at hs ps cs (chosen ++ (p ∷ []))) v.2 in
    record { free = u.0; constraint = v.0; stands = v.1; next = w.0; fits = w.1; rest = w.2 }

-- and put together
pub match_at-join :
    {h : Constraint} {hs : List Constraint} {p : ℕ} {ps : List ℕ} {cs : List Constraint} {chosen : List ℕ} {θ end : Assignment}
    → FirstFits h hs p ps cs chosen θ end → match_at (h ∷ hs) (p ∷ ps) cs chosen θ ≡ some end
unfolding match_at
match_at-join f = rw (f.free, f.stands, f.fits) f.rest

-- heads match at no fewer positions
match_at-few :
    (h : Constraint) (hs cs : List Constraint) (chosen : List ℕ) (θ : Assignment) → match_at (h ∷ hs) [] cs chosen θ ≡ none
unfolding match_at
match_at-few h hs cs chosen θ = refl

-- where the first answer over a list comes from: every earlier element has none
pub record FirstAt {A : Type 0} (p : ℕ) (cs : List Constraint) (try : ℕ → Constraint → Option A) (a : A) : Type 0 where
  pub at : ℕ
  pub constraint : Constraint
  pub stands : get_elem? cs at ≡ some constraint
  pub answers : try (p + at) constraint ≡ some a
  pub earlier : (i : ℕ) (c : Constraint) → i < at → get_elem? cs i ≡ some c → try (p + i) c ≡ none

-- the first answer over a list comes from some element of it
pub first_in-some :
    {A : Type 0} (p : ℕ) (cs : List Constraint) (try : ℕ → Constraint → Option A) (a : A)
    → first_in p cs try ≡ some a → FirstAt p cs try a
unfolding first_in
first_in-some p [] try a e = none-some refl e
first_in-some {A} p (c ∷ cs) try a e = go (first_in-some (suc p) cs try a) (try p c) refl e
  where
    late : try p c ≡ none → FirstAt (suc p) cs try a → FirstAt p (c ∷ cs) try a
    late t f = record {
      at = suc f.at;
      constraint = f.constraint;
      stands = f.stands;
      answers = rw (add-suc, ← suc-add) f.answers;
      earlier = earlier;
    }
      where
        earlier : (i : ℕ) (d : Constraint) → i < suc f.at → get_elem? (c ∷ cs) i ≡ some d → try (p + i) d ≡ none
        earlier zero d l s = let q : c ≡ d = cc in rw (add-zero, ← q) t
        earlier (suc i) d l s = rw (add-suc, ← suc-add) (f.earlier i d (omega arith) s)

    go :
        (first_in (suc p) cs try ≡ some a → FirstAt (suc p) cs try a) → (o : Option A) → try p c ≡ o
        → or_else o (first_in (suc p) cs try) ≡ some a → FirstAt p (c ∷ cs) try a
    go more none t e = late t (more e)
    go more (some b) t e = record {
      at = 0;
      constraint = c;
      stands = refl;
      answers = rw add-zero (t ∙ e);
      earlier = λ i d l s. absurd (omega arith);
    }

-- where there is no answer, no element has one
pub first_in-none :
    {A : Type 0} (p : ℕ) (cs : List Constraint) (try : ℕ → Constraint → Option A) → first_in p cs try ≡ none
    → (i : ℕ) (c : Constraint) → get_elem? cs i ≡ some c → try (p + i) c ≡ none
unfolding first_in
first_in-none p [] try e i c s = none-some refl s
first_in-none {A} p (c ∷ cs) try e zero d s =
    let q : c ≡ d = cc in rw (add-zero, ← q) (go (try p c) refl e)
  where
    go : (o : Option A) → try p c ≡ o → or_else o (first_in (suc p) cs try) ≡ none → try p c ≡ none
    go none t e = t
    go (some b) t e = none-some e refl
first_in-none {A} p (c ∷ cs) try e (suc i) d s =
    rw (add-suc, ← suc-add) (first_in-none (suc p) cs try (go (try p c) e) i d s)
  where
    go : (o : Option A) → or_else o (first_in (suc p) cs try) ≡ none → first_in (suc p) cs try ≡ none
    go none e = e
    go (some b) e = none-some e refl

-- what the search tries for a head at a position
abbrev attempt : Constraint → List Constraint → List Constraint → List ℕ → Assignment → ℕ → Constraint → Option Match
attempt h hs cs chosen θ =
    λ p c. cond (has p chosen) none (bind (match_constraint h c θ) (find hs cs (chosen ++ (p ∷ []))))

-- an attempt at a position where a head fits goes on with the other heads
attempt-goes-on :
    (h : Constraint) (hs : List Constraint) (p : ℕ) (ps : List ℕ) (cs : List Constraint) (chosen : List ℕ) (θ end : Assignment)
    (f : FirstFits h hs p ps cs chosen θ end)
    → attempt h hs cs chosen θ p f.constraint ≡ find hs cs (chosen ++ (p ∷ [])) f.next
attempt-goes-on h hs p ps cs chosen θ end f = rw (f.free, f.fits)

-- where the search finds nothing, the heads fit nowhere
find-refutes :
    (hs : List Constraint) (cs : List Constraint) (chosen : List ℕ) (θ : Assignment) → find hs cs chosen θ ≡ none
    → (ps : List ℕ) (end : Assignment) → match_at hs ps cs chosen θ ≡ some end → ⊥
unfolding find match_at
find-refutes [] cs chosen θ e ps end m = none-some e refl
find-refutes (h ∷ hs) cs chosen θ e [] end m = none-some refl m
find-refutes (h ∷ hs) cs chosen θ e (p ∷ ps) end m =
    let f = match_at-cons h hs p ps cs chosen θ end m in
    let n = first_in-none 0 cs (attempt h hs cs chosen θ) e p f.constraint f.stands in
    let nothing : find hs cs (chosen ++ (p ∷ [])) f.next ≡ none =
    sym (attempt-goes-on h hs p ps cs chosen θ end f) ∙ (rw zero-add at n) in
    find-refutes hs cs (chosen ++ (p ∷ [])) f.next nothing ps end f.rest

-- so the heads match at no positions
pub find-complete :
    (hs : List Constraint) (cs : List Constraint) (chosen : List ℕ) (θ : Assignment) → find hs cs chosen θ ≡ none
    → (ps : List ℕ) → match_at hs ps cs chosen θ ≡ none
find-complete hs cs chosen θ e ps = none-unless (match_at hs ps cs chosen θ) (find-refutes hs cs chosen θ e ps)

-- of two numbers
compared : (p q : ℕ) → Or (p < q) (Or (p ≡ q) (q < p))
compared p q = go (dec_lt p q) (dec_lt q p)
  where
    go : Dec (p < q) → Dec (q < p) → Or (p < q) (Or (p ≡ q) (q < p))
    go (yes l) d = inl l
    go (no n) (yes l) = inr (inr l)
    go (no n) (no m) = inr (inl (omega arith))

-- what a search has found: it goes on from the positions chosen before, it fits, and it is the smallest that does
pub record Found (hs cs : List Constraint) (chosen : List ℕ) (θ : Assignment) (m : Match) : Type 0 where
  pub positions : List ℕ
  pub split : m.positions ≡ chosen ++ positions
  pub fits : match_at hs positions cs chosen θ ≡ some m.assignment
  pub smallest :
      (qs : List ℕ) (end : Assignment) → match_at hs qs cs chosen θ ≡ some end → Or (qs ≡ positions) (Before positions qs)

-- what the search finds for one or more heads, from what it finds for the others
found-join :
    (h : Constraint) (hs cs : List Constraint) (chosen : List ℕ) (θ : Assignment) (m : Match)
    (f : FirstAt 0 cs (attempt h hs cs chosen θ) m) (next : Assignment) → has f.at chosen ≡ false
    → match_constraint h f.constraint θ ≡ some next → Found hs cs (chosen ++ (f.at ∷ [])) next m → Found (h ∷ hs) cs chosen θ m
found-join h hs cs chosen θ m f next free fits g = record {
  positions = f.at ∷ g.positions;
  split = g.split ∙ append_assoc chosen (f.at ∷ []) g.positions;
  fits = first;
  smallest = smallest;
}
  where
    first : match_at (h ∷ hs) (f.at ∷ g.positions) cs chosen θ ≡ some m.assignment
    first = match_at-join (record {
      free = free;
      constraint = f.constraint;
      stands = f.stands;
      next = next;
      fits = fits;
      rest = g.fits;
    })

    kept :
        (qs : List ℕ) → Or (qs ≡ g.positions) (Before g.positions qs)
        → Or (f.at ∷ qs ≡ f.at ∷ g.positions) (Before (f.at ∷ g.positions) (f.at ∷ qs))
    kept qs (inl e) = inl (ap (f.at ∷◌) e)
    kept qs (inr b) = inr (at_later b)

    at_same :
        (qs : List ℕ) (end : Assignment) → FirstFits h hs f.at qs cs chosen θ end
        → Or (f.at ∷ qs ≡ f.at ∷ g.positions) (Before (f.at ∷ g.positions) (f.at ∷ qs))
    at_same qs end k =
        let c : k.constraint ≡ f.constraint = cc (k.stands, f.stands) in
        let n : k.next ≡ next = cc (k.fits, fits, c) in
        kept qs (g.smallest qs end (rw n at k.rest))

    by_order :
        (q : ℕ) (qs : List ℕ) (end : Assignment) → FirstFits h hs q qs cs chosen θ end
        → Or (f.at < q) (Or (f.at ≡ q) (q < f.at))
        → Or (q ∷ qs ≡ f.at ∷ g.positions) (Before (f.at ∷ g.positions) (q ∷ qs))
    by_order q qs end k (inl l) = inr (at_first l)
    by_order q qs end k (inr (inl e)) = rw (← e) (at_same qs end (rw (← e) at k))
    by_order q qs end k (inr (inr l)) =
        let n = f.earlier q k.constraint l k.stands in
        absurd (find-refutes hs cs (chosen ++ (q ∷ [])) k.next
        (sym (attempt-goes-on h hs q qs cs chosen θ end k) ∙ (rw zero-add at n)) qs end k.rest)

    smallest :
        (qs : List ℕ) (end : Assignment) → match_at (h ∷ hs) qs cs chosen θ ≡ some end
        → Or (qs ≡ f.at ∷ g.positions) (Before (f.at ∷ g.positions) qs)
    smallest [] end e = none-some (match_at-few h hs cs chosen θ) e
    smallest (q ∷ qs) end e = by_order q qs end (match_at-cons h hs q qs cs chosen θ end e) (compared f.at q)

-- what the search finds
pub find-found :
    (hs : List Constraint) (cs : List Constraint) (chosen : List ℕ) (θ : Assignment) (m : Match) → find hs cs chosen θ ≡ some m
    → Found hs cs chosen θ m
unfolding find match_at
find-found [] cs chosen θ m e = record {
  positions = [];
  split = cc (append-nil chosen);
  fits = cc;
  smallest = smallest;
}
  where
    smallest : (qs : List ℕ) (end : Assignment) → match_at [] qs cs chosen θ ≡ some end → Or (qs ≡ []) (Before [] qs)
    smallest [] end e = inl refl
    smallest (q ∷ qs) end e = none-some refl e
find-found (h ∷ hs) cs chosen θ m e =
    let f = first_in-some 0 cs (attempt h hs cs chosen θ) m e in
    let a = rw zero-add at f.answers in
    let on = find hs cs (chosen ++ (f.at ∷ [])) in
    let u = cond-some-not (has f.at chosen) a in
    let w = bind-some (match_constraint h f.constraint θ) on u.1 in
    found-join h hs cs chosen θ m f w.0 u.0 w.1 (find-found hs cs (chosen ++ (f.at ∷ [])) w.0 m w.2)

-- what is found from nothing fits
pub find-sound :
    (hs cs : List Constraint) (m : Match) → find hs cs [] unassigned ≡ some m
    → match_at hs m.positions cs [] unassigned ≡ some m.assignment
find-sound hs cs m e = let f = find-found hs cs [] unassigned m e in rw f.split f.fits

-- what is found from nothing is the smallest that fits
pub find-smallest :
    (hs cs : List Constraint) (m : Match) → find hs cs [] unassigned ≡ some m
    → (qs : List ℕ) (end : Assignment) → match_at hs qs cs [] unassigned ≡ some end
    → Or (qs ≡ m.positions) (Before m.positions qs)
find-smallest hs cs m e qs end q = let f = find-found hs cs [] unassigned m e in rw f.split (f.smallest qs end q)
