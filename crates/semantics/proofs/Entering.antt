-- All constraints of a goal enter in order, before any rule fires.
--   follow_all-append           events one behind the other
--   tabled-entry               an entry of a table
--   constraint-itself          before any firing each constraint would enter as it is
--   every-below, every-up_to    a test of all numbers below n
--   enters                     the events by which the first constraints of a goal enter, in order
--   arrived_at                  how far they lead
--   enters-all                 all of them lead to the state that the strategy starts from, with no firing
-- Assumes nothing.
use Prim.Native.Nat.{ℕ, zero, suc, ◌<◌, ◌≤◌}
use native.Mathlib.Omega.{arith}
use native.Mathlib.Decide.{dec_lt}
use mathlib.Core.Bool.{Bool, true, false}
use mathlib.Core.List.{List, [], ◌∷◌, ◌++◌, map, map-append}
use mathlib.Core.Option.{some}
use mathlib.Core.Path.{◌≡◌, refl, sym, ◌∙◌, ap}
use lib.Dec.{eqb}
use lib.ListN.{length, get_or, get_elem?, take, length-append}
use lib.Seq.{take-length}
use Rattle.text.specs.Lists.{every, has, tabled, up_to}
use Rattle.semantics.specs.Terms.{Term, con, var, Constraint, Program, Goal, live, map_terms}
use Rattle.semantics.specs.Derivations.{Event, enter, Progress, become, taken, entering, follow, follow_all, start}
use Rattle.semantics.specs.Derivations.{all_entered}
use Rattle.semantics.specs.Strategy.{goal_state}
use Rattle.semantics.proofs.Options.{apart_eqb}
use Rattle.text.proofs.Bools.{and-true}
use Rattle.text.proofs.ListLaws.{every-both}
use Rattle.semantics.proofs.Bools.{eqb_same, or_right}

-- events one behind the other
pub follow_all-append :
    (p : Program) (g : Goal) (es fs : List Event) (d : Progress)
    → follow_all p g (es ++ fs) d ≡ follow_all p g fs (follow_all p g es d)
unfolding follow_all
follow_all-append p g [] fs d = refl
follow_all-append p g (e ∷ es) fs d = follow_all-append p g es fs (follow p g e d)

-- a table is as long as it says
pub tabled-length {ℓ} : {A : Type ℓ} (f : ℕ → A) (n : ℕ) → length (tabled f n) ≡ n
tabled-length f zero = refl
tabled-length f (suc n) = rw (length-append, tabled-length f n) (omega arith)

-- an entry of a list that is its own default, with one more behind the list
own_default {ℓ} :
    {A : Type ℓ} (l : List A) (a d : A) (i : ℕ) → get_or l i d ≡ d → (i ≡ length l → a ≡ d) → get_or (l ++ (a ∷ [])) i d ≡ d
own_default [] a d zero e f = f refl
own_default [] a d (suc i) e f = refl
own_default (b ∷ l) a d zero e f = e
own_default (b ∷ l) a d (suc i) e f = own_default l a d i e (λ q. f (ap suc q))

-- an entry of a table, or behind it what the table would have there
pub tabled-entry {ℓ} : {A : Type ℓ} (f : ℕ → A) (n i : ℕ) → get_or (tabled f n) i (f i) ≡ f i
tabled-entry f zero i = refl
tabled-entry f (suc n) i =
    own_default (tabled f n) (f n) (f i) i (tabled-entry f n i) (λ e. ap f (sym (tabled-length f n) ∙ sym e))

-- before any firing each term has become itself
become-itself : (n : ℕ) (t : Term) → become (tabled var n) t ≡ t
unfolding become
become-itself n (con c) = refl
become-itself n (var x) = tabled-entry var n x

-- the same for lists of terms
terms-themselves : (n : ℕ) (ts : List Term) → map (become (tabled var n)) ts ≡ ts
terms-themselves n [] = refl
terms-themselves n (t ∷ ts) = rw (become-itself n t, terms-themselves n ts)

-- the same for constraints
pub constraint-itself : (n : ℕ) (c : Constraint) → map_terms (become (tabled var n)) c ≡ c
unfolding map_terms
constraint-itself n c = rw (terms-themselves n c.terms)

-- the numbers below n, the last first
abbrev down_from : ℕ → List ℕ
down_from zero = []
down_from (suc n) = n ∷ down_from n

-- they are in the list
down_from-has : (n i : ℕ) → i < n → has i (down_from n) ≡ true
down_from-has zero i l = absurd (omega arith)
down_from-has (suc n) i l = go (dec_lt i n) (down_from-has n i)
  where
    go : Dec (i < n) → (i < n → has i (down_from n) ≡ true) → has i (n ∷ down_from n) ≡ true
    go (yes h) more = or_right (eqb i n) (has i (down_from n)) (more h)
    go (no h) more = let e : i ≡ n = omega arith in rw (e, eqb_same n)

-- and no others are
down_from-lacks : (n i : ℕ) → n ≤ i → has i (down_from n) ≡ false
down_from-lacks zero i l = refl
down_from-lacks (suc n) i l = rw (apart_eqb {m = i} {n = n} (λ e. omega arith)) (down_from-lacks n i (omega arith))

-- the constraint of a number, and those before it
taking {ℓ} :
    {A : Type ℓ} (l : List A) (n : ℕ) → n < length l → (a : A) × (get_elem? l n ≡ some a) × (take (suc n) l ≡ take n l ++ (a ∷ []))
taking [] n h = absurd (omega arith)
taking (a ∷ l) zero h = (a, refl, refl)
taking (a ∷ l) (suc n) h = let t = taking l n (omega arith) in (t.0, t.1, ap (a ∷◌) t.2)

-- the first constraints of a goal enter, in order
abbrev pub enters : ℕ → List Event
enters n = map enter (up_to n)

-- how far a derivation is when the first n constraints of a goal have entered
abbrev pub arrived_at : Goal → ℕ → Progress
arrived_at g n = record {
  state = live g.variables (tabled var g.variables) (take n g.constraints);
  entered = down_from n;
  firings = 0;
}

-- the next constraint enters
entering-next : (g : Goal) (n : ℕ) → n < length g.constraints → entering g n (arrived_at g n) ≡ arrived_at g (suc n)
unfolding entering taken
entering-next g n l =
    let t = taking g.constraints n l in
    rw (down_from-lacks n n (omega arith), t.1, constraint-itself g.variables t.0, t.2)

-- the first n constraints enter
enters-first :
    (p : Program) (g : Goal) (n : ℕ) → n ≤ length g.constraints → follow_all p g (enters n) (start g) ≡ arrived_at g n
unfolding follow_all start follow
enters-first p g zero l = refl
enters-first p g (suc n) l =
    rw (map-append enter (up_to n) (n ∷ []), follow_all-append p g (enters n) (enter n ∷ []) (start g))
    (rw (enters-first p g n (omega arith)) (entering-next g n l))

-- a test that all numbers below n pass
every-below : (test : ℕ → Bool) (n : ℕ) → ((i : ℕ) → i < n → test i ≡ true) → every test (up_to n) ≡ true
every-below test zero h = refl
every-below test (suc n) h =
    every-both test (up_to n) (n ∷ []) (every-below test n (λ i l. h i (omega arith))) (rw (h n (omega arith)))

-- and taken apart
every-parts : (test : ℕ → Bool) (l : List ℕ) (n : ℕ) → every test (l ++ (n ∷ [])) ≡ true → (every test l ≡ true) × (test n ≡ true)
every-parts test [] n e = (refl, (and-true (test n) true e).0)
every-parts test (m ∷ l) n e =
    let u = and-true (test m) (every test (l ++ (n ∷ []))) e in
    let v = every-parts test l n u.1 in
    (rw u.0 v.0, v.1)

-- a number below n, where all numbers below n pass a test
pub every-up_to : (test : ℕ → Bool) (n i : ℕ) → every test (up_to n) ≡ true → i < n → test i ≡ true
every-up_to test zero i e l = absurd (omega arith)
every-up_to test (suc n) i e l = go (dec_lt i n) (every-parts test (up_to n) n e) (every-up_to test n i)
  where
    go :
        Dec (i < n) → (every test (up_to n) ≡ true) × (test n ≡ true) → (every test (up_to n) ≡ true → i < n → test i ≡ true)
        → test i ≡ true
    go (yes h) u more = more u.0 h
    go (no h) u more = let q : i ≡ n = omega arith in rw q u.1

-- all constraints of a goal enter
pub enters-all :
    (p : Program) (g : Goal)
    → follow_all p g (enters (length g.constraints)) (start g) ≡ arrived_at g (length g.constraints)
enters-all p g = enters-first p g (length g.constraints) (omega arith)

-- then the state is the one that the strategy starts from
pub arrived_at-state : (g : Goal) → (arrived_at g (length g.constraints)).state ≡ goal_state g
unfolding goal_state
arrived_at-state g = rw take-length

-- and all have entered
pub arrived_at-entered :
    (g : Goal) (d : Progress) → d.entered ≡ (arrived_at g (length g.constraints)).entered → all_entered g d ≡ true
unfolding all_entered
arrived_at-entered g d e =
    every-below (λ n. has n d.entered) (length g.constraints)
    (λ i l. rw e (down_from-has (length g.constraints) i l))
