-- The strategy's run is a run as specs/Runs.antt says what one is, and the only one.
--   advance-chosen          a step of the strategy is the firing that comes first in the order of choice
--   normalise-runs          with fuel enough the strategy runs to where no rule fits
--   run-rests               no rule fits at a run's end
--   run-follows             a derivation that follows a run's events comes to the run's end
--   run-runs, side-runs     the run of a goal, and a side of an overlap, as finished derivations
--   run_only, ends-only     no state has two runs, and no derivation that ends with one has two ends
-- Assumes nothing.
use Prim.Native.Nat.{ℕ, zero, suc, ◌+◌, ◌<◌, ◌≤◌}
use native.Mathlib.Nat.{add-zero, add-suc, suc-add}
use native.Mathlib.Omega.{arith}
use native.Mathlib.Decide.{dec_lt}
use mathlib.Core.Bool.{true, false}
use mathlib.Core.List.{List, [], ◌∷◌, ◌++◌, append_assoc, append-nil}
use mathlib.Core.Option.{Option, none, some}
use mathlib.Core.Path.{◌≡◌, refl, sym, ap, subst, ◌∙◌}
use lib.Dec.{eqb}
use lib.ListN.{length, get_elem?}
use Rattle.text.specs.Lists.{onward}
use Rattle.semantics.specs.Terms.{Rule, Program, Goal, State, failed, live, weight, is_well_formed}
use Rattle.semantics.specs.Matching.{unassigned, match_at}
use Rattle.semantics.specs.Firing.{fired, fire_at}
use Rattle.semantics.specs.Derivations.{Event, fire, Progress, follow, follow_all, firing, start, derive}
use Rattle.semantics.specs.Derivations.{by_rest, NoRuleFits}
use Rattle.semantics.specs.Strategy.{choose, advance, Final, normalise, goal_state, run}
use Rattle.semantics.specs.Runs.{Before, ChosenFiring, Run, rests, fires, arrivals, RunsTo}
use Rattle.semantics.specs.Overlaps.{side_end}
use Rattle.semantics.proofs.Configurations.{Or, inl, inr}
use Rattle.semantics.proofs.Options.{decide, true-false, none-some, bind-some, eqb-equal, equal-eqb}
use Rattle.semantics.proofs.Bools.{none-unless}
use Rattle.semantics.proofs.Choosing.{choose-sound, choose-smallest, choose-lowest, advance-rests}
use Rattle.semantics.proofs.Precedence.{before-irreflexive, before-transitive}
use Rattle.semantics.proofs.Weights.{state_weight, fire_at-lighter}
use Rattle.semantics.proofs.Entering.{follow_all-append, arrived_at, enters-all, arrived_at-state, arrived_at-entered}
use Rattle.semantics.proofs.Normal.{firing-fires}

-- a step of the strategy is the firing that comes first in the order of choice
pub advance-chosen :
    (p : Program) (s t : State) → advance p.rules s ≡ some t → (n : ℕ) × (ps : List ℕ) × ChosenFiring p n ps s t
unfolding advance fire_at
advance-chosen p failed t e = none-some refl e
advance-chosen p (live next bound cs) t e =
    let u = bind-some (choose p.rules cs)
    (λ c. some (fired c.rule c.found.positions c.found.assignment next bound cs)) e in
    let c = u.0 in
    let h = choose-sound p.rules cs c u.1 in (
      c.number,
      c.found.positions,
      record {
        rule = c.rule;
        numbered = h.0;
        fires = rw h.1 u.2;
        lowest = λ m r qs l q. rw (choose-lowest p.rules cs c u.1 m r l q qs);
        smallest =
            λ qs v f differ.
            (let k = bind-some (match_at c.rule.heads qs cs [] unassigned)
            (λ θ. some (fired c.rule qs θ next bound cs)) f in
            later (choose-smallest p.rules cs c u.1 qs k.0 k.1) differ);
      },
    )
  where
    later : {ps qs : List ℕ} → Or (qs ≡ ps) (Before ps qs) → (qs ≡ ps → ⊥) → Before ps qs
    later (inl q) differ = absurd (differ q)
    later (inr b) differ = b

-- with fuel enough the strategy runs to where no rule fits, and counts its firings
pub normalise-runs :
    (p : Program) (fuel : ℕ) (s : State) (f : ℕ) → is_well_formed p ≡ true → state_weight p.symbols s ≤ fuel
    → (es : List Event) × Run p s es (normalise fuel p.rules s f).state
    × ((normalise fuel p.rules s f).firings ≡ f + length es)
unfolding normalise
normalise-runs p zero s f w l = (
  [],
  rests (λ k r ps e. none-unless (fire_at r ps s) (λ t h. omega (arith, fire_at-lighter p k r ps s t w e h))),
  sym (add-zero f),
)
normalise-runs p (suc fuel) s f w l = go (normalise-runs p fuel) (advance p.rules s) refl
  where
    go :
        ((t : State) (f : ℕ) → is_well_formed p ≡ true → state_weight p.symbols t ≤ fuel
        → (es : List Event) × Run p t es (normalise fuel p.rules t f).state
        × ((normalise fuel p.rules t f).firings ≡ f + length es))
        → (o : Option State) → advance p.rules s ≡ o
        → (es : List Event)
        × Run p s es (onward o (record { state = s; firings = f }) (λ t. normalise fuel p.rules t (suc f))).state
        × ((onward o (record { state = s; firings = f }) (λ t. normalise fuel p.rules t (suc f))).firings ≡ f + length es)
    go more none e = ([], rests (advance-rests p s e), sym (add-zero f))
    go more (some t) e =
        let (n, ps, c) = advance-chosen p s t e in
        let lighter = fire_at-lighter p n c.rule ps s t w c.numbered c.fires in
        let (es, r, k) = more t (suc f) w (omega arith) in
        (fire n ps ∷ es, fires n ps c r, omega (arith, k))

-- no rule fits at a run's end
pub run-rests : {p : Program} {s u : State} {es : List Event} → Run p s es u → NoRuleFits p u
run-rests (rests h) = h
run-rests (fires n ps c r) = run-rests r

-- a derivation that follows a run's events comes to the run's end, with so many firings more and nothing entered
pub run-follows :
    (p : Program) (g : Goal) {s u : State} {es : List Event} → Run p s es u → (d : Progress) → d.state ≡ s
    → follow_all p g es d ≡ record { state = u; entered = d.entered; firings = d.firings + length es }
unfolding follow_all follow
run-follows p g (rests h) d e = rw (add-zero, ← e)
run-follows p g (fires {s = s} {t = t} {es = es} n ps c r) d e =
    let more = run-follows p g r (record { state = t; entered = d.entered; firings = suc d.firings }) refl in
    ap (follow_all p g es) (firing-fires p n c.rule ps d s t e c.numbered c.fires) ∙ (rw (suc-add, ← add-suc) at more)

-- where all constraints have entered and the events es have fired, a run from there makes a finished derivation
runs_to :
    (p : Program) (g : Goal) (es : List Event) (s : State) (end : Final)
    → derive p g (arrivals g ++ es)
    ≡ record { state = s; entered = (arrived_at g (length g.constraints)).entered; firings = length es }
    → (fs : List Event) → Run p s fs end.state → end.firings ≡ length es + length fs → RunsTo p g es end
unfolding derive
runs_to p g es s end d fs r k =
    let before = follow_all p g (arrivals g ++ es) (start g) in
    let whole : follow_all p g (arrivals g ++ (es ++ fs)) (start g)
    ≡ record { state = end.state; entered = before.entered; firings = before.firings + length fs } =
    ap (λ l. follow_all p g l (start g)) (sym (append_assoc (arrivals g) es fs))
    ∙ follow_all-append p g (arrivals g ++ es) fs (start g) ∙ run-follows p g r before (ap (λ q. q.state) d) in
    record {
      events = fs;
      runs = rw d r;
      finished =
          by_rest (arrived_at-entered g _ (ap (λ q. q.entered) whole ∙ ap (λ q. q.entered) d)) (rw whole (run-rests r));
      state = ap (λ q. q.state) whole;
      firings = ap (λ q. q.firings) whole ∙ ap (λ q. q.firings + length fs) d ∙ sym k;
      counted = k;
    }

-- the run of a goal
pub run-runs : (p : Program) (g : Goal) → is_well_formed p ≡ true → RunsTo p g [] (run p g)
unfolding run state_weight goal_state derive arrivals
run-runs p g w =
    let (es, r, k) = normalise-runs p (weight p.symbols g.constraints) (goal_state g) 0 w (omega arith) in
    runs_to p g [] (goal_state g) (run p g)
    (rw (append-nil, enters-all p g, arrived_at-state g))
    es r k

-- a side of an overlap whose own firing fits
pub side-runs :
    (p : Program) (g : Goal) (n : ℕ) (r : Rule) (ps : List ℕ) (s : State) → is_well_formed p ≡ true → get_elem? p.rules n ≡ some r
    → fire_at r ps (goal_state g) ≡ some s → RunsTo p g (fire n ps ∷ []) (side_end p g r ps)
unfolding side_end state_weight goal_state derive arrivals follow_all follow
side-runs p g n r ps s w e h =
    let fuel = weight p.symbols g.constraints in
    let k = length g.constraints in
    let lighter = fire_at-lighter p n r ps (goal_state g) s w e h in
    let (es, t, count) = normalise-runs p fuel s 1 w (omega arith) in
    rw h
    (runs_to p g (fire n ps ∷ []) s (normalise fuel p.rules s 1)
    (follow_all-append p g (arrivals g) (fire n ps ∷ []) (start g) ∙ ap (firing p n ps) (enters-all p g)
    ∙ firing-fires p n r ps (arrived_at g k) (goal_state g) s (arrived_at-state g) e h)
    es t count)

-- two lists are the same or not
same_list : (ps qs : List ℕ) → Or (ps ≡ qs) (ps ≡ qs → ⊥)
same_list [] [] = inl refl
same_list [] (q ∷ qs) = inr (λ e. absurd (let z : ◌≡◌ {A = ℕ} 0 1 = cc in omega arith))
same_list (p ∷ ps) [] = inr (λ e. absurd (let z : ◌≡◌ {A = ℕ} 0 1 = cc in omega arith))
same_list (p ∷ ps) (q ∷ qs) = go (decide (eqb p q)) (same_list ps qs)
  where
    go : Or (eqb p q ≡ true) (eqb p q ≡ false) → Or (ps ≡ qs) (ps ≡ qs → ⊥) → Or (p ∷ ps ≡ q ∷ qs) (p ∷ ps ≡ q ∷ qs → ⊥)
    go (inl e) (inl h) = inl (cc (eqb-equal {m = p} {n = q} e, h))
    go (inl e) (inr h) = inr (λ k. h (cc k))
    go (inr e) h = inr (λ k. true-false (equal-eqb {m = p} {n = q} (cc k)) e)

-- the order of choice has one first
chosen-only :
    {p : Program} {n m : ℕ} {ps qs : List ℕ} {s t u : State} → ChosenFiring p n ps s t → ChosenFiring p m qs s u
    → (n ≡ m) × (ps ≡ qs) × (t ≡ u)
chosen-only {p} {n} {m} {ps} {qs} {s} {t} {u} c d = let (e, f) = same in (e, f, cc (c.fires, d.fires, rule e, f))
  where
    number : Dec (n < m) → Dec (m < n) → n ≡ m
    number (yes l) k = none-some (d.lowest n c.rule ps l c.numbered) c.fires
    number (no l) (yes k) = none-some (c.lowest m d.rule qs k d.numbered) d.fires
    number (no l) (no k) = omega arith

    rule : n ≡ m → c.rule ≡ d.rule
    rule e = cc (c.numbered, d.numbered, e)

    positions : c.rule ≡ d.rule → Or (ps ≡ qs) (ps ≡ qs → ⊥) → ps ≡ qs
    positions e (inl f) = f
    positions e (inr f) =
        before-irreflexive
        (before-transitive (c.smallest qs u (rw e d.fires) (λ g. f (sym g))) (d.smallest ps t (rw (← e) c.fires) f))

    same : (n ≡ m) × (ps ≡ qs)
    same = let e = number (dec_lt n m) (dec_lt m n) in (e, positions (rule e) (same_list ps qs))

-- no state has two runs
pub run_only : (p : Program) (s t u : State) (es fs : List Event) → Run p s es t → Run p s fs u → (es ≡ fs) × (t ≡ u)
run_only p s t u es fs (rests h) (rests k) = (refl, refl)
run_only p s t u es fs (rests h) (fires n ps c r) = none-some (h n c.rule ps c.numbered) c.fires
run_only p s t u es fs (fires n ps c r) (rests k) = none-some (k n c.rule ps c.numbered) c.fires
run_only p s t u es fs (fires {t = v} {es = gs} n ps c r) (fires {t = w} {es = hs} m qs d q) =
    let (e, f, g) = chosen-only c d in
    let h = run_only p v t u gs hs r (subst (λ x. Run p x hs u) (sym g) q) in
    (cc (e, f, h.0), h.1)

-- a finished derivation that ends with a run has one end
pub ends-only : {p : Program} {g : Goal} {es : List Event} {e f : Final} → RunsTo p g es e → RunsTo p g es f → e ≡ f
ends-only {p} {g} {es} {e} {f} a b =
    let (fs, state) = run_only p (derive p g (arrivals g ++ es)).state e.state f.state a.events b.events
    a.runs b.runs in
    let firings : e.firings ≡ f.firings = a.counted ∙ ap (λ l. length es + length l) fs ∙ sym b.counted in
    λ i. record { state = state i; firings = firings i }
