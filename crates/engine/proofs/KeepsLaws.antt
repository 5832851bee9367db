-- What is known of rules that fit nowhere, and the tally, at the start and after a firing.
--   keeps-…            nothing is known at the start; other cells
--   row-exchangeable   what a firing asks of the tally
--   tallied-fired      the tally after a firing
--   knows-fired        what is known after a firing
-- Assumes nothing.
use Prim.Native.Nat.{ℕ, zero, suc, ◌+◌, ◌-◌, ◌*◌, ◌≤◌, ◌<◌}
use native.Mathlib.Omega.{arith}
use mathlib.Core.Bool.{Bool, true, ◌||◌}
use mathlib.Core.List.{List, [], ◌∷◌, ◌++◌, map}
use mathlib.Core.Logic.{⊎_elim}
use mathlib.Core.Option.{some}
use mathlib.Core.Path.{◌≡◌, refl, ap, sym, subst, ◌∙◌}
use lib.Dec.{eqb}
use lib.ListN.{length, get_or, take, replicate, length-map}
use lib.Seq.{length-take-le}
use Rattle.semantics.specs.Terms.{Term, Constraint, live, map_terms}
use Rattle.semantics.specs.Matching.{unassigned, match_at}
use Rattle.semantics.specs.Firing.{without, instance}
use Rattle.semantics.specs.Tally.{exchanged, Counts}
use Rattle.semantics.proofs.Tallies.{tally-length, fired-tally}
use Rattle.tables.specs.Cells.{cell_term, cell_constraints, cell_equations, state_of}
use Rattle.tables.specs.Rows.{rule_of_row}
use Rattle.tables.proofs.CellLaws.{constraints-length}
use Rattle.tables.proofs.CellLaws.{le-or-lt}
use Rattle.fitting.specs.Cells.{assigned}
use Rattle.fitting.specs.Positions.{Row}
use Rattle.engine.specs.States.{Fired}
use Rattle.engine.specs.Runs.{store_of}
use Rattle.tallies.specs.Symbols.{tallied, Tallied, has_symbol, Marked, Exchangeable, Exchanged}
use Rattle.fitting.specs.Known.{concerns, Noted, Knows, Forgotten}
use Rattle.engine.specs.Runs.{Keeps}
use Rattle.fitting.proofs.BarrenLaws.{without-few}
use Rattle.fitting.proofs.NotedLaws.{noted_nothing, noted-fired, marked-bounded}
use Rattle.engine.proofs.RuleLaws.{removed_at, removed-size, low-body}
use Rattle.engine.proofs.FiredLaws.{fired-plain, fired-length}

-- nothing is known at the start
knows_start : (rules : List ℕ) (n k l : ℕ) (cs : List Constraint) → Knows rules n (replicate k 8192) (replicate l 0) 0 cs
knows_start rules n k l cs =
    record { noted = λ i h. rw (same k i) (noted_nothing _ cs (replicate l 0) 0); bounded = λ s. none_came l s (0 + length cs) }
  where
    same : (k i : ℕ) → ◌≡◌ {A = ℕ} (get_or (replicate k 8192) i 8192) 8192
    same zero i = refl
    same (suc k) zero = refl
    same (suc k) (suc i) = same k i

    none_came : (l s w : ℕ) → get_or (replicate l 0) s w ≤ w
    none_came zero s w = omega arith
    none_came (suc l) zero w = omega arith
    none_came (suc l) (suc s) w = none_came l s w

pub keeps-start :
    (rules : List ℕ) (n k l : ℕ) (table cells : List ℕ) (m : ℕ) → Tallied table (store_of cells m)
    → Keeps rules n (replicate k 8192) (replicate l 0) table 0 cells true true m
keeps-start rules n k l table cells m t =
    record { knows = λ y z. knows_start rules n k l (store_of cells m); tallies = λ y z. t }

module _ (rules : List ℕ) (n : ℕ) (known last table : List ℕ) (gone : ℕ) (cells : List ℕ) (f alive : Bool) (count : ℕ)
    (k : Keeps rules n known last table gone cells f alive count) where
  -- and after a firing
  pub keeps_on : f ≡ true → Keeps rules n known last table gone cells true alive count
  keeps_on e = rw e at k

  -- the same constraints in other cells
  pub keeps_placed :
      (cells' : List ℕ) → take (5 * count) cells' ≡ take (5 * count) cells
      → Keeps rules n known last table gone cells' f alive count
  unfolding store_of
  keeps_placed cells' e = record { knows = λ y z. rw e (k.knows y z); tallies = λ y z. rw e (k.tallies y z) }

-- what a firing asks of a tally that equals a fresh count
pub row-exchangeable :
    (row table : List ℕ) (cs : List Constraint) → Row row → Tallied table cs → length cs ≤ 60000 → Exchangeable row table
row-exchangeable row table cs r t few =
    record {
      size = r.size;
      heads-few = r.heads-few;
      kept-few = r.kept-few;
      body-few = r.body-few;
      body-low = low-body (rule_of_row [] row).body r.body;
      table-size = t.size;
      room = λ s. omega (arith, t.counts s, tally-length cs s);
    }

-- the tally after a firing equals a fresh count
pub tallied-fired :
    (row ps b : List ℕ) (next : ℕ) (bound cells : List ℕ) (m : ℕ) (bound' cells' : List ℕ) (count : ℕ)
    → Fired row ps b next bound cells m bound' cells' true count
    → match_at (rule_of_row [] row).heads (take (get_or row 3 0) ps) (store_of cells m) [] unassigned ≡ some (assigned b)
    → (table table' : List ℕ) → Tallied table (store_of cells m) → length table' ≡ length table → Exchanged row table table'
    → Tallied table' (store_of cells' count)
unfolding store_of state_of
tallied-fired row ps b next bound cells m bound' cells' count done fits table table' t size x =
    let after : Counts (exchanged (rule_of_row [] row) (tallied table)) (live (next + 26) (map cell_term bound')
    (cell_constraints (take (5 * count) cells'))) =
    subst (Counts (exchanged (rule_of_row [] row) (tallied table))) (sym (done.same []))
    (fired-tally (tallied table) (rule_of_row [] row) (take (get_or row 3 0) ps) (assigned b) next (map cell_term bound)
    (cell_constraints (take (5 * m) cells)) fits t.counts) in
    record { size = size ∙ t.size; counts = λ s. x.same s ∙ after s }

-- terms do not concern
symbol-mapped : (s : ℕ) (σ : Term → Term) (cs : List Constraint) → has_symbol s (map (map_terms σ) cs) ≡ has_symbol s cs
unfolding has_symbol map_terms
symbol-mapped s σ [] = refl
symbol-mapped s σ (c ∷ cs) = ap (eqb c.symbol s ||◌) (symbol-mapped s σ cs)

concerns-mapped : (hs : List Constraint) (σ : Term → Term) (cs : List Constraint)
    → concerns hs (map (map_terms σ) cs) ≡ concerns hs cs
unfolding concerns
concerns-mapped [] σ cs = refl
concerns-mapped (h ∷ hs) σ cs = rw (symbol-mapped h.symbol σ cs, concerns-mapped hs σ cs)

module _ (row ps b : List ℕ) (next : ℕ) (bound cells : List ℕ) (m : ℕ) (bound' cells' : List ℕ) (count : ℕ)
    (done : Fired row ps b next bound cells m bound' cells' true count) (given : Row row) (size : length ps ≡ 4)
    (there : 5 * count ≤ length cells') (gone taken : ℕ) (removed : taken ≡ get_or row 3 0 - get_or row 1 0) (last last' : List ℕ)
    (marks : Marked last (rule_of_row [] row).body (gone + taken + count) last') where
  abbrev placed : List ℕ
  placed = removed_at row ps

  placed-size : length (removed_at row ps) ≡ taken
  placed-size = removed-size row ps given size ∙ omega arith

  store-size : length (store_of cells' count) ≡ count
  unfolding store_of
  store-size = constraints-length count (take (5 * count) cells') (length-take-le (5 * count) cells' there)

  marked-now : Marked last (rule_of_row [] row).body (gone + taken + length (store_of cells' count)) last'
  marked-now = rw store-size marks

  -- no symbol came later than now
  bounded-now :
      ((s : ℕ) → get_or last s (gone + length (store_of cells m)) ≤ gone + length (store_of cells m)) → (s : ℕ)
      → get_or last' s (gone + taken + length (store_of cells' count)) ≤ gone + taken + length (store_of cells' count)
  bounded-now =
      marked-bounded last (rule_of_row [] row).body (gone + length (store_of cells m)) _ last' marked-now
      (omega (
        arith,
        without-few placed (store_of cells m),
        placed-size,
        fired-length row ps b next bound cells m bound' cells' true count done refl,
      ))

  -- what is known of a rule after a firing without equations
  plain-noted :
      get_or row 5 0 ≤ 0 → (hs : List Constraint) (v : ℕ) → Noted hs (store_of cells m) last gone v
      → Noted hs (store_of cells' count) last' (gone + taken) v
  unfolding rule_of_row cell_equations
  plain-noted plain hs v known =
      let no-equations : (rule_of_row [] row).equations ≡ [] = let z : 2 * get_or row 5 0 ≡ 0 = omega arith in rw z in
      let after = fired-plain row ps b next bound cells m bound' cells' true count done refl no-equations in
      let body' = map (map_terms (instance next (assigned b))) (rule_of_row [] row).body in
      let came : Marked last (rule_of_row [] row).body
      (gone + length placed + length (without 0 placed (store_of cells m) ++ body')) last' =
      rw (placed-size, ← after) marked-now in
      let new = noted-fired hs (store_of cells m) placed (rule_of_row [] row).body body' last last' gone v known
      (length-map (rule_of_row [] row).body _) (concerns-mapped hs _ (rule_of_row [] row).body) came in
      rw after (rw placed-size at new)

  -- what is known of the rules after the firing
  pub knows-fired :
      (rules : List ℕ) (n : ℕ) (known known' : List ℕ) → Knows rules n known last gone (store_of cells m)
      → (0 < get_or row 5 0 → Forgotten known') → (get_or row 5 0 ≤ 0 → known' ≡ known)
      → Knows rules n known' last' (gone + taken) (store_of cells' count)
  knows-fired rules n known known' ks equated plain =
      record {
        noted = λ i l. ⊎_elim
            (λ h. rw (plain h) (plain-noted h _ (get_or known i 8192) (ks.noted i l)))
            (λ h. rw ((equated h).forgotten i) (noted_nothing _ (store_of cells' count) last' (gone + taken)))
            (le-or-lt (get_or row 5 0) 0);
        bounded = bounded-now ks.bounded;
      }
