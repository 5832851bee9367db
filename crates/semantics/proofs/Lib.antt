-- The theory of this crate's definitions, in the order in which it is built, by chapters. Assumes nothing.
pub mod Opened
-- Configurations: states whose equations nobody has solved, and their steps
pub mod Configurations
pub mod Multisets
pub mod Atoms
pub mod Closure
pub mod Cores
pub mod Isos
pub mod Links
pub mod Stepping
pub mod Options
pub mod Contexts
pub mod Commute
pub mod Peaks
-- States represent configurations: solving, matching, firing, equal states
pub mod Lifting
pub mod SolveLaws
pub mod PositionLaws
pub mod MatchLaws
pub mod MatchedTerms
pub mod KeptHeads
pub mod FireLaws
pub mod Letters
pub mod VariantLaws
pub mod Outcomes
pub mod Represent
pub mod Bools
-- The strategy, and the comparison of states
pub mod Search
pub mod Choosing
pub mod Precedence
pub mod Removal
pub mod Indices
pub mod Listings
pub mod Pairs
pub mod Comparison
-- Weights, derivations and runs
pub mod SymbolWeights
pub mod Weights
pub mod Tallies
pub mod Bound
pub mod Entering
pub mod Normal
pub mod Runs
pub mod Remaining
pub mod Vocabulary
pub mod Reordering
pub mod LateEntry
-- Overlaps: pairings, positions, goals, and the verdict
pub mod Pairings
pub mod OverlapPositions
pub mod Partners
pub mod Enumeration
pub mod EnumerationOrder
pub mod OverlapOrder
pub mod Verdicts
pub mod Appearing
pub mod JoinLaws
pub mod OverlapGoals
pub mod PeakOverlaps
-- Confluence: demand 3
pub mod Newman
pub mod Firings
pub mod Reface
pub mod Critical
pub mod FireOn
pub mod Sides
pub mod Forks
pub mod Peak
pub mod Exactness
pub mod Demand3
pub mod Rewritten
-- Document 000: stores, entailment and Simplify
pub mod Renamings
pub mod Valuations
pub mod Equating
pub mod Entailment
pub mod PublishedStates
pub mod Clearing
pub mod RenamedRules
pub mod FreshVariants
pub mod SimplifyLaws
pub mod RuleLetters
pub mod FiringIsSimplify
-- Document 000: critical pairs
pub mod Joinings
pub mod ChosenHeads
pub mod GoalTerms
pub mod PairSides
pub mod PairStates
pub mod JoinedHeads
pub mod OverlapSides
pub mod CriticalOverlaps
-- Demand 2
pub mod Derived
pub mod Reached
pub mod Demand2
