-- The tally by symbol equals a fresh count at every moment of a derivation, and a rule that is passed over for it fits nowhere.
--   tally-append, tally-map, tally-length    a fresh count of lists of constraints
--   match-tally, find-tally                  heads that fit outnumber the constraints of no symbol
--   short-outnumbered                        which rules are passed over
--   outnumbered-over, enough-tried           the same of the choice
--   short-nowhere                            a rule that is passed over fits nowhere
--   tally-chooses, tally-normalises          the choice, and the derivation, with a tally are those of the full search
--   entry-tally, fired-tally, fire-tally     the tally after an entry, and after a firing
--   derived-tally                            the tally at every moment of every derivation
--   tally-exact                              what specs/Tally.antt claims
-- Assumes nothing.
use Prim.Native.Nat.{ℕ, zero, suc, ◌+◌, ◌<◌, ◌≤◌}
use native.Mathlib.Nat.{zero-add}
use native.Mathlib.Omega.{arith}
use mathlib.Core.Bool.{Bool, true, false, cond, ◌||◌}
use mathlib.Core.List.{List, [], ◌∷◌, ◌++◌, map}
use mathlib.Core.Logic.{◌↔◌}
use mathlib.Core.Option
use mathlib.Core.Option.{Option, none, some}
use mathlib.Core.Path.{◌≡◌, refl, ap, sym, subst, ◌∙◌}
use lib.Dec.{eqb, ltb, ltb→lt, lt→ltb}
use lib.ListN.{length, drop, get_elem?}
use Rattle.text.specs.Lists.{onward, bind, or_else, has}
use Rattle.semantics.specs.Terms.{Term, Constraint, Rule, Program, Goal, State, failed, live, map_terms}
use Rattle.semantics.specs.Terms.{removed_heads, weight_by}
use Rattle.semantics.specs.Matching.{Assignment, unassigned, match_at}
use Rattle.semantics.specs.Firing.{without, instance, settle, fired, fire_at}
use Rattle.semantics.specs.Derivations.{Event, enter, fire, Progress, become, taken, entering, firing, follow, follow_all}
use Rattle.semantics.specs.Derivations.{start, derive}
use Rattle.semantics.specs.Strategy.{Match, find, Choice, choose_from, choose, advance, normalise}
use Rattle.semantics.specs.Tally.{Tally, tally_of, outnumbers, is_short, choose_from_by, choose_by, raised, exchanged}
use Rattle.semantics.specs.Tally.{normalise_by, tally_after, tally_all, tally, Counts, ExactTally}
use Rattle.semantics.proofs.Configurations.{Or, inl, inr}
use Rattle.semantics.proofs.Options.{decide, true-false, true-T, T_true, eqb-equal, none-some, bind-some}
use Rattle.semantics.proofs.Bools.{or_cases, or_right, none-unless}
use Rattle.semantics.proofs.Search.{find-sound}
use Rattle.semantics.proofs.Choosing.{choose-sound}
use Rattle.semantics.proofs.SymbolWeights.{weight-append, weight-map, match-removed}

-- what a constraint counts for a symbol
abbrev one : ℕ → ℕ → ℕ
one s = λ k. cond (eqb k s) 1 0

-- the count of two lists, one behind the other
pub tally-append : (cs ds : List Constraint) (s : ℕ) → tally_of (cs ++ ds) s ≡ tally_of cs s + tally_of ds s
unfolding tally_of
tally-append cs ds s = weight-append (one s) cs ds

-- replacing terms keeps the count
pub tally-map : (σ : Term → Term) (cs : List Constraint) (s : ℕ) → tally_of (map (map_terms σ) cs) s ≡ tally_of cs s
unfolding tally_of
tally-map σ cs s = weight-map (one s) σ cs

-- a constraint counts at most once
one-most : (b : Bool) → cond b 1 0 ≤ 1
one-most true = omega arith
one-most false = omega arith

-- there are no more of a symbol than there are in all
pub tally-length : (cs : List Constraint) (s : ℕ) → tally_of cs s ≤ length cs
unfolding tally_of weight_by
tally-length [] s = omega arith
tally-length (c ∷ cs) s = omega (arith, one-most (eqb c.symbol s), tally-length cs s)

-- heads that match at positions outnumber the constraints of no symbol
pub match-tally :
    (hs : List Constraint) (ps : List ℕ) (cs : List Constraint) (end : Assignment) → match_at hs ps cs [] unassigned ≡ some end
    → (s : ℕ) → tally_of hs s ≤ tally_of cs s
unfolding tally_of
match-tally hs ps cs end e s = omega (arith, match-removed (one s) 0 hs ps cs end e)

-- so it is with heads for which the search finds positions
pub find-tally :
    (hs cs : List Constraint) (m : Match) → find hs cs [] unassigned ≡ some m → (s : ℕ) → tally_of hs s ≤ tally_of cs s
find-tally hs cs m e = match-tally hs m.positions cs m.assignment (find-sound hs cs m e)

-- a passed test of the symbols of gs comes from one of them
outnumbers-some :
    (t : Tally) (hs gs : List Constraint) → outnumbers t hs gs ≡ true → (s : ℕ) × (t s < tally_of hs s)
unfolding outnumbers
outnumbers-some t hs [] e = true-false e refl
outnumbers-some t hs (g ∷ gs) e =
    go (or_cases (ltb (t g.symbol) (tally_of hs g.symbol)) (outnumbers t hs gs) e) (outnumbers-some t hs gs)
  where
    go :
        Or (ltb (t g.symbol) (tally_of hs g.symbol) ≡ true) (outnumbers t hs gs ≡ true)
        → (outnumbers t hs gs ≡ true → (s : ℕ) × (t s < tally_of hs s)) → (s : ℕ) × (t s < tally_of hs s)
    go (inl l) more = (g.symbol, ltb→lt (t g.symbol) (tally_of hs g.symbol) (true-T l))
    go (inr f) more = more f

-- where the heads outnumber the tally of a symbol that gs has, the test passes
outnumbers-at :
    (t : Tally) (hs gs : List Constraint) (s : ℕ) → t s < tally_of hs s → 1 ≤ tally_of gs s → outnumbers t hs gs ≡ true
unfolding outnumbers tally_of weight_by
outnumbers-at t hs [] s l k = absurd (omega arith)
outnumbers-at t hs (g ∷ gs) s l k = go (decide (eqb g.symbol s)) (outnumbers-at t hs gs s l)
  where
    first : Bool
    first = ltb (t g.symbol) (tally_of hs g.symbol)

    go :
        Or (eqb g.symbol s ≡ true) (eqb g.symbol s ≡ false) → (1 ≤ tally_of gs s → outnumbers t hs gs ≡ true)
        → (first || outnumbers t hs gs) ≡ true
    go (inl e) more =
        let q : g.symbol ≡ s = eqb-equal e in
        let p : first ≡ true = T_true first (lt→ltb (t g.symbol) (tally_of hs g.symbol) (rw q l)) in
        rw p
    go (inr e) more = or_right first (outnumbers t hs gs) (more (rw (e, zero-add) at k))

-- a rule is passed over exactly when its heads of some symbol outnumber the tally
pub short-outnumbered : (t : Tally) (hs : List Constraint) → (is_short t hs ≡ true) ↔ ((s : ℕ) × (t s < tally_of hs s))
unfolding is_short
short-outnumbered t hs = (outnumbers-some t hs hs, λ (s, l). outnumbers-at t hs hs s l (omega arith))

-- where the tally equals a fresh count, a rule that is passed over fits nowhere
pub short-nowhere :
    (t : Tally) (hs cs : List Constraint) → ((s : ℕ) → t s ≡ tally_of cs s) → is_short t hs ≡ true
    → find hs cs [] unassigned ≡ none
short-nowhere t hs cs counts e =
    let (s, l) = (short-outnumbered t hs).0 e in
    none-unless (find hs cs [] unassigned) (λ m f. omega (arith, find-tally hs cs m f s, counts s, l))

-- a rule whose heads of some symbol outnumber the tally is passed over
pub outnumbered-over :
    (t : Tally) (n : ℕ) (r : Rule) (rs : List Rule) (cs : List Constraint) (s : ℕ) → t s < tally_of r.heads s
    → choose_from_by t n (r ∷ rs) cs ≡ choose_from_by t (suc n) rs cs
unfolding choose_from_by
outnumbered-over t n r rs cs s l =
    let more = choose_from_by t (suc n) rs cs in
    let here : Option Choice =
    Option.map (λ m. record { number = n; rule = r; found = m }) (find r.heads cs [] unassigned) in
    ap (λ b. cond b more (or_else here more)) ((short-outnumbered t r.heads).1 (s, l))

-- and only then: any other is tried
pub enough-tried :
    (t : Tally) (n : ℕ) (r : Rule) (rs : List Rule) (cs : List Constraint) → ((s : ℕ) → tally_of r.heads s ≤ t s)
    → choose_from_by t n (r ∷ rs) cs
    ≡ or_else (Option.map (λ m. record { number = n; rule = r; found = m }) (find r.heads cs [] unassigned))
    (choose_from_by t (suc n) rs cs)
unfolding choose_from_by
enough-tried t n r rs cs enough = go (decide (is_short t r.heads))
  where
    here : Option Choice
    here = Option.map (λ m. record { number = n; rule = r; found = m }) (find r.heads cs [] unassigned)

    go :
        Or (is_short t r.heads ≡ true) (is_short t r.heads ≡ false)
        → cond (is_short t r.heads) (choose_from_by t (suc n) rs cs) (or_else here (choose_from_by t (suc n) rs cs))
        ≡ or_else here (choose_from_by t (suc n) rs cs)
    go (inl e) = let (s, l) = (short-outnumbered t r.heads).0 e in absurd (omega (arith, enough s, l))
    go (inr e) = rw e

-- the choice among rules with a tally that equals a fresh count is that of the full search
choose_from-tally :
    (t : Tally) (n : ℕ) (rs : List Rule) (cs : List Constraint) → ((s : ℕ) → t s ≡ tally_of cs s)
    → choose_from_by t n rs cs ≡ choose_from n rs cs
unfolding choose_from_by choose_from
choose_from-tally t n [] cs counts = refl
choose_from-tally t n (r ∷ rs) cs counts = rw (choose_from-tally t (suc n) rs cs counts) (go (decide (is_short t r.heads)))
  where
    more : Option Choice
    more = choose_from (suc n) rs cs

    full : Option Choice
    full = or_else (Option.map (λ m. record { number = n; rule = r; found = m }) (find r.heads cs [] unassigned)) more

    go : Or (is_short t r.heads ≡ true) (is_short t r.heads ≡ false) → cond (is_short t r.heads) more full ≡ full
    go (inl e) = rw (e, short-nowhere t r.heads cs counts e)
    go (inr e) = rw e

-- so is what the strategy fires
pub tally-chooses :
    (t : Tally) (rs : List Rule) (cs : List Constraint) → ((s : ℕ) → t s ≡ tally_of cs s) → choose_by t rs cs ≡ choose rs cs
unfolding choose_by choose
tally-chooses t rs cs = choose_from-tally t 0 rs cs

-- the tally after an entry
pub entry-tally : (t : Tally) (c : Constraint) (s : State) → Counts t s → Counts (raised c t) (taken c s)
unfolding raised taken
entry-tally t c failed counts = tt
entry-tally t c (live next bound cs) counts =
    λ s. omega (
      arith,
      counts s,
      tally-append cs (map (map_terms (become bound)) (c ∷ [])) s,
      tally-map (become bound) (c ∷ []) s,
    )

-- solving equations keeps the count
settle-tally :
    (t : Tally) (o : Option (Term → Term)) (next : ℕ) (bound : List Term) (cs : List Constraint)
    → ((s : ℕ) → t s ≡ tally_of cs s) → Counts t (settle o next bound cs)
unfolding settle
settle-tally t none next bound cs counts = tt
settle-tally t (some σ) next bound cs counts = λ s. counts s ∙ sym (tally-map σ cs s)

-- the count of what a firing leaves
left-tally :
    (r : Rule) (ps : List ℕ) (θ : Assignment) (cs : List Constraint) → match_at r.heads ps cs [] unassigned ≡ some θ
    → (s : ℕ) → tally_of (without 0 (drop r.kept ps) cs) s + tally_of (removed_heads r) s ≡ tally_of cs s
unfolding tally_of removed_heads
left-tally r ps θ cs m s = match-removed (one s) r.kept r.heads ps cs θ m

-- the tally after a firing at positions where the rule's heads match
pub fired-tally :
    (t : Tally) (r : Rule) (ps : List ℕ) (θ : Assignment) (next : ℕ) (bound : List Term) (cs : List Constraint)
    → match_at r.heads ps cs [] unassigned ≡ some θ → ((s : ℕ) → t s ≡ tally_of cs s)
    → Counts (exchanged r t) (fired r ps θ next bound cs)
unfolding fired exchanged
fired-tally t r ps θ next bound cs m counts =
    let rest = without 0 (drop r.kept ps) cs in
    let body = map (map_terms (instance next θ)) r.body in
    settle-tally (exchanged r t) _ _ bound (rest ++ body)
    (λ s. omega (
      arith,
      counts s,
      left-tally r ps θ cs m s,
      tally-append rest body s,
      tally-map (instance next θ) r.body s,
    ))

-- the tally after a firing at stated positions
pub fire-tally :
    (t : Tally) (r : Rule) (ps : List ℕ) (s u : State) → fire_at r ps s ≡ some u → Counts t s → Counts (exchanged r t) u
unfolding fire_at
fire-tally t r ps failed u e counts = none-some refl e
fire-tally t r ps (live next bound cs) u e counts =
    let (θ, m, f) = bind-some (match_at r.heads ps cs [] unassigned) (λ θ. some (fired r ps θ next bound cs)) e in
    let q : fired r ps θ next bound cs ≡ u = cc f in
    subst (Counts (exchanged r t)) q (fired-tally t r ps θ next bound cs m counts)

-- the strategy's derivation with a tally that equals a fresh count is that of the full search
pub tally-normalises :
    (t : Tally) (rs : List Rule) (s : State) (fuel f : ℕ) → Counts t s → normalise_by t fuel rs s f ≡ normalise fuel rs s f
unfolding normalise_by normalise advance
tally-normalises t rs s zero f counts = refl
tally-normalises t rs failed (suc fuel) f counts = refl
tally-normalises t rs (live next bound cs) (suc fuel) f counts =
    rw (tally-chooses t rs cs counts) (go (choose rs cs) refl (λ t s. tally-normalises t rs s fuel (suc f)))
  where
    after : Choice → State
    after c = fired c.rule c.found.positions c.found.assignment next bound cs

    go :
        (o : Option Choice) → choose rs cs ≡ o
        → ((t : Tally) (s : State) → Counts t s → normalise_by t fuel rs s (suc f) ≡ normalise fuel rs s (suc f))
        → onward o (record { state = live next bound cs; firings = f })
        (λ c. normalise_by (exchanged c.rule t) fuel rs (after c) (suc f))
        ≡ onward (bind o (λ c. some (after c))) (record { state = live next bound cs; firings = f })
        (λ s. normalise fuel rs s (suc f))
    go none e more = refl
    go (some c) e more =
        more (exchanged c.rule t) (after c)
        (fired-tally t c.rule c.found.positions c.found.assignment next bound cs (choose-sound rs cs c e).1 counts)

-- the tally after an event
event-tally :
    (p : Program) (g : Goal) (e : Event) (d : Progress) (t : Tally) → Counts t d.state
    → Counts (tally_after p g e d t) (follow p g e d).state
unfolding tally_after follow entering firing
event-tally p g (enter n) d t counts = go (has n d.entered) (get_elem? g.constraints n)
  where
    after : Constraint → Progress
    after c = record { state = taken c d.state; entered = n ∷ d.entered; firings = d.firings }

    go :
        (b : Bool) (o : Option Constraint)
        → Counts (cond b t (onward o t (λ c. raised c t))) (cond b d (onward o d after)).state
    go true o = counts
    go false none = counts
    go false (some c) = entry-tally t c d.state counts
event-tally p g (fire n ps) d t counts = go (get_elem? p.rules n)
  where
    after : State → Progress
    after s = record { state = s; entered = d.entered; firings = suc d.firings }

    fires :
        (r : Rule) (o : Option State) → fire_at r ps d.state ≡ o
        → Counts (onward o t (λ s. exchanged r t)) (onward o d after).state
    fires r none e = counts
    fires r (some u) e = fire-tally t r ps d.state u e counts

    go :
        (o : Option Rule)
        → Counts (onward o t (λ r. onward (fire_at r ps d.state) t (λ s. exchanged r t)))
        (onward o d (λ r. onward (fire_at r ps d.state) d after)).state
    go none = counts
    go (some r) = fires r (fire_at r ps d.state) refl

-- the tally after events
events-tally :
    (p : Program) (g : Goal) (es : List Event) (d : Progress) (t : Tally) → Counts t d.state
    → Counts (tally_all p g es d t) (follow_all p g es d).state
unfolding tally_all follow_all
events-tally p g [] d t counts = counts
events-tally p g (e ∷ es) d t counts =
    events-tally p g es (follow p g e d) (tally_after p g e d t) (event-tally p g e d t counts)

-- the tally of every derivation, which starts from an empty store
pub derived-tally : (p : Program) (g : Goal) (es : List Event) → Counts (tally p g es) (derive p g es).state
unfolding tally derive start tally_of weight_by
derived-tally p g es = events-tally p g es (start g) (λ s. 0) (λ s. refl)

-- the tally is exact, whatever the program
pub tally-exact : (p : Program) → ExactTally p
tally-exact p = record {
  passed = short-outnumbered;
  over = outnumbered-over;
  tried = enough-tried;
  chosen = λ t next bound cs. tally-chooses t p.rules cs;
  followed = λ t. tally-normalises t p.rules;
  entry = entry-tally;
  firing = fire-tally;
  derived = derived-tally p;
}
