-- The two sides of an overlap, in cells: their own firings, and their ends.
--   lent-kept                          cells remain lent
--   first-asks, second-asks            what a side asks
--   side-begins                        what a side's own firing asks
--   both-begun                         what both promise
--   begun-follows                      what following asks
--   first-sided, second-sided          the end of a whole side
--   first_ends, second-ends            what following promises
-- Assumes nothing.
use Prim.Native.Nat.{ℕ, ◌+◌, ◌*◌, ◌≤◌, ◌<◌}
use native.Mathlib.Omega.{arith}
use mathlib.Core.Bool.{Bool, true}
use mathlib.Core.List.{List, [], ◌∷◌, map}
use mathlib.Core.Path.{◌≡◌, refl, ◌∙◌}
use lib.ListN.{length, take, length-map}
use lib.Seq.{length-take-le}
use borrow.Author.Tests.{lt-ltb, ltb-true}
use Rattle.text.specs.Lists.{every}
use Rattle.semantics.specs.Terms.{Term, con, var, Constraint, Equation, Symbol, Rule, Program, is_declared, is_below, alphabet}
use Rattle.semantics.specs.Strategy.{Final}
use Rattle.semantics.specs.Overlaps.{Overlap, first_end, second_end}
use Rattle.text.proofs.Bools.{and-true}
use Rattle.semantics.proofs.Configurations.{All, none, also, TermBelow}
use Rattle.semantics.proofs.Listings.{all-every}
use Rattle.semantics.proofs.Multisets.{all-mono}
use Rattle.semantics.proofs.Options.{below-is_below}
use Rattle.semantics.proofs.Vocabulary.{TermOver, ConstraintOver, RuleOver, Spoken}
use Rattle.tables.specs.Cells.{cell_term, cell_constraints, is_low}
use Rattle.tables.specs.Numbers.{is_within, Renumberable}
use Rattle.engine.specs.Stated.{has_fired, lives, count_in}
use Rattle.sides.specs.Sides.{Sidable, Beginnable, Begun, Followable, Followed, Sided}
use Rattle.sides.proofs.SideLaws.{side-few, side-follows}
use Rattle.sides.proofs.EndLaws.{first-side, second-side, side-lives}
use Rattle.judging.specs.declared.Peak.{Peak}
use Rattle.judging.specs.declared.Steps.{Steps}
use Rattle.judging.specs.Judging.{Stands, Overlapping, Lent, BothBegun, end_in, LiveEnd, EndOf}

-- any constant will do
abbrev Any : ℕ → Type 0
Any c = Unit {0}

terms-any : (ts : List Term) → All (TermOver Any) ts
terms-any [] = none
terms-any (con c ∷ ts) = also tt (terms-any ts)
terms-any (var x ∷ ts) = also tt (terms-any ts)

constraints-any : (cs : List Constraint) → All (ConstraintOver Any) cs
constraints-any [] = none
constraints-any (c ∷ cs) = also (terms-any c.terms) (constraints-any cs)

term-any : (t : Term) → TermOver Any t
term-any (con c) = tt
term-any (var x) = tt

equations-any : (es : List Equation) → All (λ e. TermOver Any e.left × TermOver Any e.right) es
equations-any [] = none
equations-any (e ∷ es) = also (term-any e.left, term-any e.right) (equations-any es)

rules-any : (rs : List Rule) → All (RuleOver Any) rs
rules-any [] = none
rules-any (r ∷ rs) =
    also (record { body = constraints-any r.body; equations = equations-any r.equations }) (rules-any rs)

-- a variable below a number lies below a larger one
below-mono : (m n : ℕ) → m ≤ n → (t : Term) → TermBelow m t → TermBelow n t
below-mono m n h (con c) b = tt
below-mono m n h (var x) b = omega arith

-- a declared symbol, of at most 64, is one that there can be
declared-low : (symbols : List Symbol) (c : Constraint) → length symbols ≤ 64 → is_declared symbols c ≡ true → is_low c ≡ true
unfolding is_declared is_low
declared-low symbols c few d =
    let k : c.symbol < length symbols = ltb-true c.symbol (length symbols) (and-true _ _ d).0 in
    lt-ltb c.symbol 64 (omega arith)

-- constraints with such symbols, and variables below a number
within_all :
    (symbols : List Symbol) (n : ℕ) {cs : List Constraint} → length symbols ≤ 64 → All (λ c. is_declared symbols c ≡ true) cs
    → All (λ c. All (TermBelow n) c.terms) cs → All (λ c. is_within n c ≡ true) cs
unfolding is_within
within_all symbols n few none none = none
within_all symbols n few (also {a = c} d ds) (also b bs) =
    also {a = c} (rw (declared-low symbols c few d) (all-every (is_below n) (all-mono (below-is_below n) b)))
    (within_all symbols n few ds bs)

-- cells of the same sizes remain lent
pub lent-kept :
    {rules : List ℕ} {peak : Peak} {goal bound₁ cells₁ bound₂ cells₂ b₁ c₁ b₂ c₂ : List ℕ}
    → Lent rules peak goal bound₁ cells₁ bound₂ cells₂ → length b₁ ≡ length bound₁ → length c₁ ≡ length cells₁
    → length b₂ ≡ length bound₂ → length c₂ ≡ length cells₂ → Lent rules peak goal b₁ c₁ b₂ c₂
lent-kept l p q r s =
    record {
      overlapping = l.overlapping;
      first-bound = p ∙ l.first-bound;
      first-room = omega (arith, l.first-room, q);
      second-bound = r ∙ l.second-bound;
      second-room = omega (arith, l.second-room, s);
    }

-- what both sides' own firings promise
pub both-begun :
    {rules : List ℕ} {peak : Peak} {goal : List ℕ} {steps : Steps} {w u : ℕ} {bound₁ cells₁ bound₂ cells₂ : List ℕ}
    → w ≡ peak.variables → u ≡ peak.variables
    → Begun rules peak.first (0 ∷ 1 ∷ 2 ∷ 3 ∷ []) goal peak.count w bound₁ cells₁ (has_fired steps.first)
    (lives steps.first) (count_in steps.first)
    → Begun rules peak.second peak.positions goal peak.count u bound₂ cells₂ (has_fired steps.second)
    (lives steps.second) (count_in steps.second)
    → BothBegun rules peak goal steps bound₁ cells₁ bound₂ cells₂
both-begun d e s t = record { first = rw d at s; second = rw e at t }

module _ (rules : List ℕ) (n i j : ℕ) (positions : List ℕ) (m v : ℕ) (goal : List ℕ)
    (o : Overlapping rules n i j positions m v goal) where
  -- what a side asks
  side-asks :
      (k : ℕ) (ps : List ℕ) → k < n → length ps ≡ 4 → (w : ℕ) (cells : List ℕ) → w ≡ v → 2590 ≤ length cells
      → Sidable rules n k ps goal m w cells
  side-asks k ps h l w cells e s =
      record {
        rule = h;
        positions-size = l;
        goal-size = o.goal-size;
        runs = o.runs;
        variables = omega (arith, o.variables);
        space = s;
      }

  pub first-asks :
      (w : ℕ) (one : List ℕ) → w ≡ v → 2590 ≤ length one → Sidable rules n i (0 ∷ 1 ∷ 2 ∷ 3 ∷ []) goal m w one
  first-asks = side-asks i (0 ∷ 1 ∷ 2 ∷ 3 ∷ []) o.first refl

  pub second-asks : (w : ℕ) (two : List ℕ) → w ≡ v → 2590 ≤ length two → Sidable rules n j positions goal m w two
  second-asks = side-asks j positions o.second o.positions-size

  -- no more constraints than the weight
  pub goal-few : (one : List ℕ) → 2590 ≤ length one → m ≤ 512
  goal-few one room = side-few rules n i (0 ∷ 1 ∷ 2 ∷ 3 ∷ []) goal m v one (first-asks v one refl room)

  -- what a side's own firing asks
  pub side-begins :
      (k : ℕ) (ps : List ℕ) → k < n → length ps ≡ 4 → (w : ℕ) (cells : List ℕ) → w ≡ v → 2590 ≤ length cells
      → Beginnable rules k ps goal m w cells
  side-begins k ps h l w cells e room = record { count = n; side = side-asks k ps h l w cells e room }

  -- what following it asks
  pub begun-follows :
      (k : ℕ) (ps : List ℕ) → k < n → length ps ≡ 4 → (w : ℕ) (bound cells : List ℕ) (fired alive : Bool) (count : ℕ) → w ≡ v
      → 2590 ≤ length cells → Begun rules k ps goal m v bound cells fired alive count
      → Followable rules n k goal m w bound cells fired alive count
  begun-follows k ps h l w bound cells fired alive count e room =
      side-follows rules n k ps goal m v cells (side-asks k ps h l v cells refl room) w bound cells fired alive count e refl

  module _ (k : ℕ) (ps b c : List ℕ) (alive : Bool) (count next firings : ℕ) (l : k < n) (room : 2590 ≤ length c)
      (t : Sided rules n k ps goal v b c alive count next firings) where
    -- no more firings than the weight
    fired-few : firings ≤ 512
    fired-few = omega (arith, t.bounded o.runs.weigh o.runs.lowers, o.runs.light)

    -- where the end lives, what its constraints and variables are
    live-spoken :
        alive ≡ true
        → Spoken o.program.symbols Any v (v + alphabet * firings) next (map cell_term b) (cell_constraints (take (5 * count) c))
    live-spoken y =
        side-lives o.program o.names rules n o.whole o.well-formed k ps goal v b c alive count next firings t Any
        o.is-goal (rules-any o.program.rules) (constraints-any (cell_constraints goal)) l y

    live-next : alive ≡ true → next ≤ 13340
    unfolding alphabet
    live-next y = omega (arith, (live-spoken y).numbered, fired-few, o.variables)

    live-size : alive ≡ true → length (take (5 * count) c) ≡ 5 * count
    live-size y = length-take-le (5 * count) c (omega (arith, t.few y))

    live-bound : alive ≡ true → length b ≤ 28
    live-bound y = omega (arith, length-map b cell_term, (live-spoken y).size, o.variables)

    -- its variables lie below every number from the next on
    live-within : (u : ℕ) → next ≤ u → alive ≡ true → every (is_within u) (cell_constraints (take (5 * count) c)) ≡ true
    live-within u h y =
        let s = live-spoken y in
        all-every (is_within u) (within_all o.program.symbols u o.few-symbols s.declared
        (all-mono (λ d g. all-mono (below-mono next u h) g) s.scoped.constraints))

    live_below : (u : ℕ) → next ≤ u → alive ≡ true → every (is_below u) (map cell_term b) ≡ true
    live_below u h y =
        all-every (is_below u) (all-mono (λ x g. below-is_below u x (below-mono next u h x g)) (live-spoken y).scoped.bound)

    -- it can be compared
    live_end : alive ≡ true → LiveEnd (take (5 * count) c) count b
    live_end y =
        record {
          size = live-size y;
          few = t.few y;
          bound-few = live-bound y;
          within = live-within 13340 (live-next y) y;
          bound-within = live_below 13340 (live-next y) y;
        }

    -- its variables can be numbered anew, and what each goal variable became is a constant or a goal variable
    live-numbered : alive ≡ true → Renumberable next b (take (5 * count) c)
    unfolding alphabet
    live-numbered y =
        let s = live-spoken y in
        let size : length b ≡ v = omega (arith, length-map b cell_term, s.size) in
        record {
          own = rw size (all-every (is_below v) (all-mono (below-is_below v) s.own));
          rows = record {
            known = omega (arith, size, s.numbered);
            within = live-within next (omega arith) y;
            few = omega (arith, live-size y, t.few y, live-bound y);
          };
        }

    -- an end in cells that is one of the overlap's
    end_of :
        (end : Program → Overlap → Final)
        → ((p : Program) (names : List ℕ) (x : Overlap) → Stands p names rules n i j positions v goal x
        → end_in alive count next firings b c ≡ end p x)
        → EndOf end rules n i j positions v goal alive count next firings b c
    end_of end e =
        record { same = e; live = live_end; next-few = live-next; numbered = live-numbered; counted = fired-few }

  module _ (b c : List ℕ) (alive : Bool) (count next firings : ℕ) (room : 2590 ≤ length c) where
    -- the end of the first rule's side, and of the second's
    pub first-sided :
        Sided rules n i (0 ∷ 1 ∷ 2 ∷ 3 ∷ []) goal v b c alive count next firings
        → EndOf first_end rules n i j positions v goal alive count next firings b c
    unfolding end_in
    first-sided s =
        end_of i (0 ∷ 1 ∷ 2 ∷ 3 ∷ []) b c alive count next firings o.first room s first_end (λ p names x h.
        first-side p names rules n h.whole h.well-formed i (0 ∷ 1 ∷ 2 ∷ 3 ∷ []) goal v b c alive count next firings
        s x h.same-goal h.first (o.runs.table.rows i o.first) refl)

    pub second-sided :
        Sided rules n j positions goal v b c alive count next firings
        → EndOf second_end rules n i j positions v goal alive count next firings b c
    unfolding end_in
    second-sided s =
        end_of j positions b c alive count next firings o.second room s second_end (λ p names x h.
        second-side p names rules n h.whole h.well-formed j positions goal v b c alive count next firings s x
        h.same-goal h.second h.places)

  -- and promises
  module _ (w : ℕ) (bound cells : List ℕ) (fired lives : Bool) (held : ℕ) (b c : List ℕ) (alive : Bool) (count next firings : ℕ)
      (e : w ≡ v) (room : 2590 ≤ length c)
      (t : Followed rules n m w bound cells fired lives held b c alive count next firings) where
    pub first_ends :
        Begun rules i (0 ∷ 1 ∷ 2 ∷ 3 ∷ []) goal m v bound cells fired lives held
        → EndOf first_end rules n i j positions v goal alive count next firings b c
    first_ends begun =
        first-sided b c alive count next firings room
        (rw e at (t.ended i (0 ∷ 1 ∷ 2 ∷ 3 ∷ []) goal o.first (rw e begun)))

    pub second-ends :
        Begun rules j positions goal m v bound cells fired lives held
        → EndOf second_end rules n i j positions v goal alive count next firings b c
    second-ends begun =
        second-sided b c alive count next firings room (rw e at (t.ended j positions goal o.second (rw e begun)))
