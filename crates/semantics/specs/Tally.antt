-- The tally by symbol (document 02, W7: beside the list of facts, how many there are of each kind).
--   Tally, tally_of          a number for each symbol; a fresh count of some constraints
--   is_short                 whether a rule is passed over: its heads of some symbol outnumber the tally
--   choose_by, normalise_by   the strategy's choice, and its derivation, with a tally
--   raised, exchanged       the tally after an entry, and after a firing
--   tally                   the tally of a derivation, kept up event by event
--   Counts                  a tally that equals a fresh count
--   ExactTally              what is claimed of the tally
-- Assumes nothing.
use Rattle.std.specs.Prelude.{ℕ, zero, suc, ◌+◌, ◌-◌, ◌≤◌, ◌<◌, Bool, true, false, cond, ◌||◌, List, [], ◌∷◌, ◌↔◌, ◌≡◌, eqb, ltb}
use Rattle.std.proofs.Math.Option.{Option, none, some, map}
use Rattle.std.proofs.Math.ListN.{get_elem?}
use Rattle.text.specs.Lists.{onward, or_else, has}
use Rattle.semantics.specs.Terms.{Term, Constraint, Rule, Program, Goal, State, failed, live, removed_heads, weight_by}
use Rattle.semantics.specs.Matching.{unassigned}
use Rattle.semantics.specs.Firing.{fired, fire_at}
use Rattle.semantics.specs.Derivations.{Event, enter, fire, Progress, taken, follow, start, derive}
use Rattle.semantics.specs.Strategy.{Choice, Final, find, choose, normalise}

-- a number for each symbol: how many constraints of it there are
abbrev pub Tally : Type 0
Tally = ℕ → ℕ

-- a fresh count: how many of the constraints have the symbol
unfoldable pub tally_of : List Constraint → Tally
tally_of cs s = weight_by (λ k. cond (eqb k s) 1 0) cs

-- whether of the symbol of one of gs the heads hs outnumber the tally
unfoldable pub outnumbers : Tally → List Constraint → List Constraint → Bool
outnumbers t hs [] = false
outnumbers t hs (g ∷ gs) = ltb (t g.symbol) (tally_of hs g.symbol) || outnumbers t hs gs

-- whether a rule with these heads, kept ones included, is passed over: its heads of some symbol outnumber the tally
unfoldable pub is_short : Tally → List Constraint → Bool
is_short t hs = outnumbers t hs hs

-- the first rule, the first of them numbered n, that is not passed over and fits
unfoldable pub choose_from_by : Tally → ℕ → List Rule → List Constraint → Option Choice
choose_from_by t n [] cs = none
choose_from_by t n (r ∷ rs) cs =
    let more = choose_from_by t (suc n) rs cs in
    cond (is_short t r.heads) more
    (or_else (map (λ m. record { number = n; rule = r; found = m }) (find r.heads cs [] unassigned)) more)

-- what the strategy fires among these constraints, with the tally
unfoldable pub choose_by : Tally → List Rule → List Constraint → Option Choice
choose_by t rs cs = choose_from_by t 0 rs cs

-- the tally after a constraint has entered: one more of its symbol
unfoldable pub raised : Constraint → Tally → Tally
raised c t s = t s + tally_of (c ∷ []) s

-- the tally after a rule has fired: less the heads that it removes, and more by its body; equations change no symbol
unfoldable pub exchanged : Rule → Tally → Tally
exchanged r t s = (t s - tally_of (removed_heads r) s) + tally_of r.body s

-- the strategy with the tally, from a state that took f firings, for at most `fuel` firings more
unfoldable pub normalise_by : Tally → ℕ → List Rule → State → ℕ → Final
normalise_by t zero rs s f = record { state = s; firings = f }
normalise_by t (suc fuel) rs failed f = record { state = failed; firings = f }
normalise_by t (suc fuel) rs (live next bound cs) f =
    onward (choose_by t rs cs) (record { state = live next bound cs; firings = f })
    (λ c. normalise_by (exchanged c.rule t) fuel rs
    (fired c.rule c.found.positions c.found.assignment next bound cs) (suc f))

-- the tally after an event; one that is turned away leaves it as it was
unfoldable pub tally_after : Program → Goal → Event → Progress → Tally → Tally
tally_after p g (enter n) d t = cond (has n d.entered) t (onward (get_elem? g.constraints n) t (λ c. raised c t))
tally_after p g (fire n ps) d t =
    onward (get_elem? p.rules n) t (λ r. onward (fire_at r ps d.state) t (λ s. exchanged r t))

-- the same after events, in order
unfoldable pub tally_all : Program → Goal → List Event → Progress → Tally → Tally
tally_all p g [] d t = t
tally_all p g (e ∷ es) d t = tally_all p g es (follow p g e d) (tally_after p g e d t)

-- the tally of a derivation: nothing in the empty store, then kept up by each event
unfoldable pub tally : Program → Goal → List Event → Tally
tally p g es = tally_all p g es (start g) (λ s. 0)

-- a tally equals a fresh count of a state's constraints; of a failed state it says nothing
abbrev pub Counts : Tally → State → Type 0
Counts t failed = Unit {0}
Counts t (live next bound cs) = (s : ℕ) → t s ≡ tally_of cs s

-- what is claimed of the tally, whatever the program. With any tally a rule is passed over exactly when its heads of some symbol,
-- kept ones included, outnumber it (`over`, `tried`; `passed` says it of the test). Where the tally equals a fresh count of a live
-- state, the rule and positions chosen with it are those of the full search, and so is the whole derivation of the strategy from
-- there. An entry, and a firing that does not fail, leave it equal to one; so it is at every moment of every derivation, which
-- starts from an empty store
pub record ExactTally (p : Program) : Type 0 where
  pub passed : (t : Tally) (hs : List Constraint) → (is_short t hs ≡ true) ↔ ((s : ℕ) × (t s < tally_of hs s))
  pub over :
      (t : Tally) (n : ℕ) (r : Rule) (rs : List Rule) (cs : List Constraint) (s : ℕ) → t s < tally_of r.heads s
      → choose_from_by t n (r ∷ rs) cs ≡ choose_from_by t (suc n) rs cs
  pub tried :
      (t : Tally) (n : ℕ) (r : Rule) (rs : List Rule) (cs : List Constraint) → ((s : ℕ) → tally_of r.heads s ≤ t s)
      → choose_from_by t n (r ∷ rs) cs
      ≡ or_else (map (λ m. record { number = n; rule = r; found = m }) (find r.heads cs [] unassigned))
      (choose_from_by t (suc n) rs cs)
  pub chosen :
      (t : Tally) (next : ℕ) (bound : List Term) (cs : List Constraint) → Counts t (live next bound cs)
      → choose_by t p.rules cs ≡ choose p.rules cs
  pub followed :
      (t : Tally) (s : State) (fuel f : ℕ) → Counts t s → normalise_by t fuel p.rules s f ≡ normalise fuel p.rules s f
  pub entry : (t : Tally) (c : Constraint) (s : State) → Counts t s → Counts (raised c t) (taken c s)
  pub firing :
      (t : Tally) (r : Rule) (ps : List ℕ) (s u : State) → fire_at r ps s ≡ some u → Counts t s → Counts (exchanged r t) u
  pub derived : (g : Goal) (es : List Event) → Counts (tally p g es) (derive p g es).state
