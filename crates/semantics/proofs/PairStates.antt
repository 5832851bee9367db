-- The sides of an overlap represent the states of its critical pair (document 000, definitions 3.4 and 3.5).
--   side-represents      from a firing in the goal to the state of the pair, for either side
-- Assumes nothing.
use Prim.Native.Nat.{ℕ}
use mathlib.Core.List.{List, [], ◌++◌, map}
use mathlib.Core.Option.{some}
use mathlib.Core.Path.{◌≡◌, sym, ap, subst, ◌∙◌}
use lib.ListN.{length, length-map}
use Rattle.text.specs.Lists.{tabled}
use Rattle.semantics.specs.Terms.{Term, Constraint, Equation, Rule, State, map_terms}
use Rattle.semantics.specs.Terms as T
use Rattle.semantics.specs.Solving.{solve}
use Rattle.semantics.specs.Derivations.{become}
use Rattle.semantics.specs.Published.{user, Published, body_items, Cleared, Represents}
use Rattle.semantics.specs.CriticalPairs.{with_terms}
use Rattle.semantics.specs.Rewriting.{rewritten}
use Rattle.semantics.proofs.Configurations.{inl, inr, Member, sub, old, lift, lift_atom, fire_c, conf_of, TermBelow, All}
use Rattle.semantics.proofs.Configurations.{Rep}
use Rattle.semantics.proofs.Multisets.{all-mono, all_map, all-of-members}
use Rattle.semantics.proofs.Isos.{iso-trans}
use Rattle.semantics.proofs.Appearing.{numbered_below}
use Rattle.semantics.proofs.Entering.{tabled-length, constraint-itself}
use Rattle.semantics.proofs.Represent.{rep-iso}
use Rattle.semantics.proofs.Reface.{entry, reface-fire}
use Rattle.semantics.proofs.Renamings.{Separates, ConstraintAvoids}
use Rattle.semantics.proofs.RuleLetters.{AllLetters}
use Rattle.semantics.proofs.PublishedStates.{conf_with, rep-represents}
use Rattle.semantics.proofs.GoalTerms.{entries-become, rep-with_terms, goal_order, goal_number, InGoal, numbered-fire}
use Rattle.semantics.proofs.PairSides.{own_heads, OfHeads, side-iso, pair-cleared}

-- terms over a goal's variables have become themselves when nothing has happened
terms-themselves : (k : ℕ) (ts : List Term) → map (become (tabled T.var k)) ts ≡ ts
unfolding map_terms
terms-themselves k ts = ap (λ (c : Constraint). c.terms) (constraint-itself k (record { symbol = 0; terms = ts }))

-- firing in a goal, with terms of the goal
terms-fire :
    (r : Rule) (k : ℕ) {ts : List Term} (cs M L : List Constraint) {s : State} → All (TermBelow k) ts
    → Rep s (fire_c r (conf_of (tabled T.var k) cs) (map lift_atom M) (map lift_atom L))
    → Rep (with_terms ts s) (fire_c r (conf_of ts []) (map lift_atom M) (map lift_atom L))
terms-fire r k {ts} cs M L {s} h p =
    let C = conf_of (tabled T.var k) cs in
    let l : length (map (sub old) (map lift (tabled T.var k))) ≡ k =
    length-map (map lift (tabled T.var k)) (sub old) ∙ length-map (tabled T.var k) lift ∙ tabled-length T.var k in
    let face : map (sub (entry (map lift (tabled T.var k)))) (map lift ts) ≡ map lift ts =
    entries-become (tabled T.var k) (subst (λ n. All (TermBelow n) ts) (sym (tabled-length T.var k)) h)
    ∙ ap (map lift) (terms-themselves k ts) in
    subst (λ f.
    Rep (with_terms ts s) (fire_c r (record { Var = ℕ; face = f; eqs = []; store = [] }) (map lift_atom M) (map lift_atom L))) face
    (subst (Rep (with_terms ts s)) (sym (reface-fire (map lift ts) r C (map lift_atom M) (map lift_atom L)))
    (rep-with_terms (subst (λ n. All (TermBelow n) ts) (sym l) h) p))

-- a rule that fires on its own heads in the goal, and leaves others, leaves the state of the pair
pub side-represents :
    (es : List Equation) (σ : Term → Term) (p : solve es (λ t. t) ≡ some σ) (cs : List Constraint) (r : Rule) (κ : ℕ → ℕ)
    (vs : List ℕ) (G L others : List Constraint) {s : State} {c : Published}
    → Separates κ → AllLetters r → All (ConstraintAvoids κ) others → ((d : Constraint) → Member d L → Member d others)
    → ((e : Equation) → Member e es → OfHeads (own_heads r κ) others e.left × OfHeads (own_heads r κ) others e.right)
    → All (OfHeads (own_heads r κ) others) (map T.var vs)
    → ((t : Term) → OfHeads (own_heads r κ) others t → InGoal es σ p cs t)
    → Rep s (fire_c r (conf_of (tabled T.var (length (goal_order es σ p cs))) G)
    (map lift_atom (map (map_terms (goal_number es σ p cs)) (own_heads r κ)))
    (map lift_atom (map (map_terms (goal_number es σ p cs)) L)))
    → Cleared [] (record { goals = body_items κ (rewritten r) ++ map user L; user_store = []; built_in_store = es; variables = vs }) c
    → Represents c (with_terms (map (goal_number es σ p cs) (map T.var vs)) s)
side-represents es σ p cs r κ vs G L others {s} {c} apart letters away rest sides face known rep e =
    let (solved, taken, variables) = pair-cleared r κ L e in
    let ν = goal_number es σ p cs in
    let in_goal : All (InGoal es σ p cs) (map T.var vs) = all-mono known face in
    let below : All (TermBelow (length (goal_order es σ p cs))) (map ν (map T.var vs)) =
    all_map ν (all-mono (λ t. numbered_below (goal_order es σ p cs) (σ t)) in_goal) in
    let fired = terms-fire r (length (goal_order es σ p cs)) G (map (map_terms ν) (own_heads r κ)) (map (map_terms ν) L) below rep in
    let one = numbered-fire es σ p cs r in_goal
    (all-of-members (own_heads r κ) (λ d i. all-of-members d.terms (λ t j. known t (inl (d, i, j)))))
    (all-of-members L (λ d i. all-of-members d.terms (λ t j. known t (inr (d, rest d i, j))))) in
    let two = side-iso r κ (map T.var vs) es L others apart letters away rest c.built_in_store c.user_store sides face solved
    taken in
    rep-represents c (with_terms (map ν (map T.var vs)) s)
    (subst (λ l. Rep (with_terms (map ν (map T.var vs)) s) (conf_with (map T.var l) c.built_in_store c.user_store))
    (sym variables)
    (rep-iso fired (iso-trans one two)))
