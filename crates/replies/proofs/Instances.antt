-- Instances of demand 3, which show that it is not empty.
--   leq-confluent        LEQ is confluent: any two finished derivations of any goal over it agree
--   two_ways-not          the sheet of document 01's section 'Printed answers' is not, and its goal is shown
--   no_refl-earliest      LEQ without refl is not, and its earliest unjoined overlap is not its first
-- Assumes nothing.
use Prim.Native.String.{String}
use mathlib.Core.List.{[], ◌∷◌}
use mathlib.Core.Path.{◌≡◌, refl}
use Rattle.text.specs.Bytes.{ascii}
use Rattle.text.proofs.Opened.{opened as textOpened}
use Rattle.semantics.specs.Terms.{Goal}
use Rattle.semantics.specs.Strategy.{Final}
use Rattle.semantics.specs.Overlaps.{Overlap}
use Rattle.semantics.specs.Verdict.{verdict, confluent, unjoined}
use Rattle.semantics.specs.Claims.{OneOutcome, Counterexample}
use Rattle.semantics.proofs.Opened.{opened as semanticsOpened}
use Rattle.semantics.proofs.Demand3.{verdict-exact}
use Rattle.syntax.specs.Answers.{Answer, refused, accepted}
use Rattle.syntax.specs.Programs.{Reading, read_program}
use Rattle.syntax.proofs.Opened.{opened as syntaxOpened}
use Rattle.syntax.proofs.WellFormed.{read-well_formed}
use Rattle.replies.specs.Starred.{leq, two_ways}
use Rattle.replies.proofs.Opened.{opened as libraryOpened}

-- what an answer reads, or the empty program
abbrev reading_of : Answer Reading → Reading
reading_of (refused number line) = record { program = record { symbols = []; rules = [] }; constants = [] }
reading_of (accepted r) = r

-- LEQ and the sheet with two ways, as read from their texts
pub leq_reading : Reading
leq_reading = reading_of (read_program (ascii leq))

pub two_ways_reading : Reading
two_ways_reading = reading_of (read_program (ascii two_ways))

pub leq-reads : read_program (ascii leq) ≡ accepted leq_reading
unfolding leq_reading textOpened semanticsOpened syntaxOpened libraryOpened
leq-reads = refl

pub two_ways-reads : read_program (ascii two_ways) ≡ accepted two_ways_reading
unfolding two_ways_reading textOpened semanticsOpened syntaxOpened libraryOpened
two_ways-reads = refl

-- the verdict on LEQ
leq-verdict : verdict leq_reading.program ≡ confluent 23
unfolding leq_reading textOpened semanticsOpened syntaxOpened libraryOpened
leq-verdict = refl

-- LEQ is confluent: any two finished derivations of any goal over it end in equal states
pub leq-confluent : OneOutcome leq_reading.program
leq-confluent = (verdict-exact leq_reading.program (read-well_formed (ascii leq) leq-reads)).exact.0 (23, leq-verdict)

-- the goal a, of the first symbol
pub goal_a : Goal
goal_a = record { variables = 0; constraints = record { symbol = 0; terms = [] } ∷ [] }

-- the verdict on the sheet with two ways shows the goal a
two_ways-verdict :
    (o : Overlap) × (one : Final) × (two : Final) × (verdict two_ways_reading.program ≡ unjoined o one two) × (o.goal ≡ goal_a)
unfolding two_ways_reading goal_a textOpened semanticsOpened syntaxOpened libraryOpened
two_ways-verdict = (_, _, _, refl, refl)

-- the sheet with two ways is not confluent: its goal a has two finished derivations whose ends are not equal
pub two_ways-not :
    (o : Overlap) × (one : Final) × (two : Final) × Counterexample two_ways_reading.program o one two × (o.goal ≡ goal_a)
two_ways-not =
    let (o, one, two, v, g) = two_ways-verdict in
    let shown = (verdict-exact two_ways_reading.program (read-well_formed (ascii two_ways) two_ways-reads)).shown o one two in
    (o, one, two, shown.0 v, g)

-- LEQ without refl
no_refl : String
no_refl = "K,leq,2,1\nR,anti\nH,leq,X,Y\nH,leq,Y,X\nE,X,Y\nR,idem\nH,leq,X,Y\nH,leq,X,Y\nB,leq,X,Y\n"

pub no_refl_reading : Reading
no_refl_reading = reading_of (read_program (ascii no_refl))

no_refl-reads : read_program (ascii no_refl) ≡ accepted no_refl_reading
unfolding no_refl no_refl_reading textOpened semanticsOpened syntaxOpened libraryOpened
no_refl-reads = refl

-- what the verdict on it shows: anti and idem, joined in head 2 of anti and head 1 of idem
no_refl-verdict :
    (o : Overlap) × (one : Final) × (two : Final) × (verdict no_refl_reading.program ≡ unjoined o one two)
    × (o.first.number ≡ 0) × (o.second.number ≡ 1) × (o.partners ≡ 0 ∷ 1 ∷ [])
unfolding no_refl no_refl_reading textOpened semanticsOpened syntaxOpened libraryOpened
no_refl-verdict = (_, _, _, refl, refl, refl, refl)

-- this is its earliest unjoined overlap, so every overlap of anti with itself joins
pub no_refl-earliest :
    (o : Overlap) × (one : Final) × (two : Final) × Counterexample no_refl_reading.program o one two
    × (o.first.number ≡ 0) × (o.second.number ≡ 1) × (o.partners ≡ 0 ∷ 1 ∷ [])
no_refl-earliest =
    let (o, one, two, v, i, j, ds) = no_refl-verdict in
    let shown = (verdict-exact no_refl_reading.program (read-well_formed (ascii no_refl) no_refl-reads)).shown o one two in
    (o, one, two, shown.0 v, i, j, ds)
