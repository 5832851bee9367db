-- Demand 2 for every well-formed program: `derivation-published`. Firing is the published Simplify step of the rule rewritten,
-- the overlaps are the published critical pairs, and the run is the one by the order of choice. What it says whatever the
-- program is stands alone too: `groundwork`.
-- Assumes nothing.
use mathlib.Core.Bool.{true}
use mathlib.Core.Path.{◌≡◌}
use Rattle.semantics.specs.Terms.{Program, is_well_formed}
use Rattle.semantics.specs.Derivations.{derive}
use Rattle.semantics.specs.Correspondence.{Groundwork, Demand2}
use Rattle.semantics.proofs.Valuations.{solving-is-exact}
use Rattle.semantics.proofs.Runs.{run-runs, run_only}
use Rattle.semantics.proofs.KeptHeads.{keeps-places, fires-as-rewritten}
use Rattle.semantics.proofs.FiringIsSimplify.{firing-is-simplify}
use Rattle.semantics.proofs.Reached.{derive-reached}
use Rattle.semantics.proofs.Derived.{derive-scoped}
use Rattle.semantics.proofs.CriticalOverlaps.{joinings-are-pairings, overlaps-are-critical-pairs}

-- of no program
pub groundwork : Groundwork
groundwork = record { solving = solving-is-exact; joinings = joinings-are-pairings; places = keeps-places; rewriting = fires-as-rewritten }

-- demand 2
pub derivation-published : (p : Program) → is_well_formed p ≡ true → Demand2 p
derivation-published p w = record {
  groundwork = groundwork;
  represented = λ g es over. (let h = derive-reached p g es w over in (h.at, h.reaches, h.goals, h.represents));
  firing = λ g es a over v. firing-is-simplify p a (derive p g es).state w (derive-scoped p g es w over) v;
  overlaps = overlaps-are-critical-pairs p w;
  runs = record { goals = λ g. run-runs p g w; only = run_only p };
}
