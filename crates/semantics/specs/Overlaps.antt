-- Overlaps (document 000: critical pairs) of the rules i ≤ j of a program, in the order in which they are examined.
--   pairings                 for each head of i its partner among the heads of j
--   overlap_of                a pairing whose joined heads unify, with its goal
--   overlaps                 all of a program's: rule pairs by i, then by j; then pairings, smaller partners first
--   first_end, second_end      the final states of its two sides
-- Assumes nothing.
use Rattle.std.specs.Prelude.{ℕ, zero, suc, ◌+◌, Bool, true, cond, not, ◌&&◌, ◌||◌, List, [], ◌∷◌, ◌++◌, map, eqb, length}
use Rattle.std.proofs.Math.Option.{Option, none, some}
use Rattle.std.proofs.Math.ListN.{get_elem?}
use Rattle.text.specs.Lists.{onward, bind, every, has, index_from, gather, answers, up_to}
use Rattle.semantics.specs.Terms.{Term, con, var, Constraint, Equation, Rule, Program, Goal, map_terms}
use Rattle.semantics.specs.Terms.{weight, alphabet}
use Rattle.semantics.specs.Solving.{solve}
use Rattle.semantics.specs.Firing.{fire_at}
use Rattle.semantics.specs.Strategy.{Final, normalise, goal_state}

-- all lists of m numbers from 0 to n, smaller first, compared from the left
unfoldable pub partner_lists : ℕ → ℕ → List (List ℕ)
partner_lists zero n = [] ∷ []
partner_lists (suc m) n = gather (λ d. map (d ∷◌) (partner_lists m n)) (up_to (suc n))

-- whether no number but 0 stands twice
unfoldable pub is_one_to_one : List ℕ → Bool
is_one_to_one [] = true
is_one_to_one (d ∷ ds) = (eqb d 0 || not (has d ds)) && is_one_to_one ds

-- whether a list of partners joins heads one to one, and one or more of them
unfoldable pub is_pairing : List ℕ → Bool
is_pairing ds = is_one_to_one ds && not (every (eqb 0) ds)

-- the pairings of m heads with n heads: for each of the m its partner, counted from 1, or 0
unfoldable pub pairings : ℕ → ℕ → List (List ℕ)
pairings m n = answers (λ ds. cond (is_pairing ds) (some ds) none) (partner_lists m n)

-- a term of the second rule, renamed apart from the first rule's
unfoldable pub apart : Term → Term
apart (con c) = con c
apart (var x) = var (alphabet + x)

-- the equations between two lists of terms; none if their lengths differ
unfoldable pub equate_terms : List Term → List Term → Option (List Equation)
equate_terms [] [] = some []
equate_terms [] (t ∷ ts) = none
equate_terms (s ∷ ss) [] = none
equate_terms (s ∷ ss) (t ∷ ts) = bind (equate_terms ss ts) (λ es. some (record { left = s; right = t } ∷ es))

-- the equations that make two constraints equal; none if their symbols differ
unfoldable pub equate : Constraint → Constraint → Option (List Equation)
equate c d = cond (eqb c.symbol d.symbol) (equate_terms c.terms d.terms) none

-- the equations of all joined heads, hs those of the first rule and gs those of the second
unfoldable pub join_equations : List Constraint → List ℕ → List Constraint → Option (List Equation)
join_equations [] ds gs = some []
join_equations (h ∷ hs) [] gs = some []
join_equations (h ∷ hs) (zero ∷ ds) gs = join_equations hs ds gs
join_equations (h ∷ hs) (suc d ∷ ds) gs =
    bind (get_elem? gs d) (λ g. bind (equate h g) (λ es. bind (join_equations hs ds gs) (λ more. some (es ++ more))))

-- the heads of the second rule, the first of them numbered n, that are joined to none
unfoldable pub unjoined_heads : ℕ → List Constraint → List ℕ → List Constraint
unjoined_heads n [] ds = []
unjoined_heads n (g ∷ gs) ds = cond (has n ds) (unjoined_heads (suc n) gs ds) (g ∷ unjoined_heads (suc n) gs ds)

-- where the k heads of the second rule from number n on stand in the goal: a joined one at its partner's position, the others
-- behind, from position free on
unfoldable pub second_positions : ℕ → ℕ → ℕ → List ℕ → List ℕ
second_positions n free zero ds = []
second_positions n free (suc k) ds =
    cond (has n ds) (index_from (eqb n) 0 ds ∷ second_positions (suc n) free k ds)
    (free ∷ second_positions (suc n) (suc free) k ds)

-- the variables of terms, in order of first appearance, behind those already seen
unfoldable pub appearing_in : List ℕ → List Term → List ℕ
appearing_in seen [] = seen
appearing_in seen (con c ∷ ts) = appearing_in seen ts
appearing_in seen (var x ∷ ts) = appearing_in (cond (has x seen) seen (seen ++ (x ∷ []))) ts

-- the same for constraints
unfoldable pub appearing : List ℕ → List Constraint → List ℕ
appearing seen [] = seen
appearing seen (c ∷ cs) = appearing (appearing_in seen c.terms) cs

-- a term with its variable numbered by its index in a list
unfoldable pub numbered : List ℕ → Term → Term
numbered order (con c) = con c
numbered order (var x) = var (index_from (eqb x) 0 order)

-- the goal of constraints, all of whose variables are goal variables, counted by first appearance
unfoldable pub goal_of : List Constraint → Goal
goal_of cs =
    let order = appearing [] cs in
    record { variables = length order; constraints = map (map_terms (numbered order)) cs }

-- a rule with its number, from 0
pub record Numbered : Type 0 where
  pub number : ℕ
  pub rule : Rule

-- an overlap: its two rules, for each head of the first its partner or 0, and its goal
pub record Overlap : Type 0 where
  pub first : Numbered
  pub second : Numbered
  pub partners : List ℕ
  pub goal : Goal

-- the overlap of a pairing, if all joined heads unify. Its goal is the heads of the first rule, then the unjoined heads of
-- the second, under the most general unifier
unfoldable pub overlap_of : Numbered → Numbered → List ℕ → Option Overlap
overlap_of i j ds =
    let hs = i.rule.heads in
    let gs = map (map_terms apart) j.rule.heads in
    bind (join_equations hs ds gs)
    (λ es. bind (solve es (λ t. t))
    (λ σ. some
    (record { first = i; second = j; partners = ds; goal = goal_of (map (map_terms σ) (hs ++ unjoined_heads 1 gs ds)) })))

-- the rules with their numbers, the first numbered n
unfoldable pub numbered_from : ℕ → List Rule → List Numbered
numbered_from n [] = []
numbered_from n (r ∷ rs) = record { number = n; rule = r } ∷ numbered_from (suc n) rs

-- the overlaps of two rules
unfoldable pub overlaps_of : Numbered → Numbered → List Overlap
overlaps_of i j = answers (overlap_of i j) (pairings (length i.rule.heads) (length j.rule.heads))

-- the overlaps of each rule with itself and with the later ones
unfoldable pub overlaps_among : List Numbered → List Overlap
overlaps_among [] = []
overlaps_among (i ∷ js) = gather (overlaps_of i) (i ∷ js) ++ overlaps_among js

-- the overlaps of a program
unfoldable pub overlaps : Program → List Overlap
overlaps p = overlaps_among (numbered_from 0 p.rules)

-- the final state of a side of an overlap: all constraints of its goal enter, the side's own rule fires at its positions, and
-- the strategy follows
unfoldable pub side_end : Program → Goal → Rule → List ℕ → Final
side_end p g r ps =
    onward (fire_at r ps (goal_state g)) (record { state = goal_state g; firings = 0 })
    (λ s. normalise (weight p.symbols g.constraints) p.rules s 1)

-- the side that fires the first rule, on its heads
unfoldable pub first_end : Program → Overlap → Final
first_end p o = side_end p o.goal o.first.rule (up_to (length o.first.rule.heads))

-- the side that fires the second rule, on its own
unfoldable pub second_end : Program → Overlap → Final
second_end p o =
    side_end p o.goal o.second.rule
    (second_positions 1 (length o.first.rule.heads) (length o.second.rule.heads) o.partners)
