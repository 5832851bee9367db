-- The strategy's choice among rules: the lowest-numbered rule that fits anywhere, and a step of the strategy is its firing.
--   choose-sound, choose-smallest, choose-lowest, choose-complete
--   advance-fires                       a step of the strategy is a firing
--   advance-rests, rests-advance        it rests exactly where no rule fits
-- Assumes nothing.
use Prim.Native.Nat.{ℕ, zero, suc, ◌+◌, ◌<◌}
use native.Mathlib.Nat.{zero-add, add-zero}
use native.Mathlib.Omega.{arith}
use mathlib.Core.List.{List, [], ◌∷◌}
use mathlib.Core.Option.{Option, none, some, map}
use mathlib.Core.Path.{◌≡◌, refl}
use lib.ListN.{get_elem?}
use Rattle.text.specs.Lists.{bind, or_else}
use Rattle.semantics.specs.Terms.{Constraint, Rule, Program, State, failed, live}
use Rattle.semantics.specs.Matching.{Assignment, unassigned, match_at}
use Rattle.semantics.specs.Firing.{fired, fire_at}
use Rattle.semantics.specs.Derivations.{NoRuleFits}
use Rattle.semantics.specs.Strategy.{Match, find, Choice, choose_from, choose, advance}
use Rattle.semantics.specs.Runs.{Before}
use Rattle.semantics.proofs.Configurations.{Or}
use Rattle.semantics.proofs.Options.{none-some, bind-some}
use Rattle.semantics.proofs.Bools.{none-unless}
use Rattle.semantics.proofs.Search.{find-sound, find-complete, find-smallest}

-- what a choice among rules, the first of them numbered n, has to be: a rule of the list, where it fits, and no earlier one fits
pub record Chosen (n : ℕ) (rs : List Rule) (cs : List Constraint) (c : Choice) : Type 0 where
  pub at : ℕ
  pub number : c.number ≡ n + at
  pub stands : get_elem? rs at ≡ some c.rule
  pub found : find c.rule.heads cs [] unassigned ≡ some c.found
  pub earlier :
      (i : ℕ) (r : Rule) → i < at → get_elem? rs i ≡ some r → find r.heads cs [] unassigned ≡ none

-- what is chosen among rules
choose_from-chosen :
    (n : ℕ) (rs : List Rule) (cs : List Constraint) (c : Choice) → choose_from n rs cs ≡ some c → Chosen n rs cs c
unfolding choose_from
choose_from-chosen n [] cs c e = none-some refl e
choose_from-chosen n (r ∷ rs) cs c e = go (choose_from-chosen (suc n) rs cs c) (find r.heads cs [] unassigned) refl e
  where
    late : find r.heads cs [] unassigned ≡ none → Chosen (suc n) rs cs c → Chosen n (r ∷ rs) cs c
    late t f = record {
      at = suc f.at;
      number = omega (arith, f.number);
      stands = f.stands;
      found = f.found;
      earlier = earlier;
    }
      where
        earlier : (i : ℕ) (q : Rule) → i < suc f.at → get_elem? (r ∷ rs) i ≡ some q → find q.heads cs [] unassigned ≡ none
        earlier zero q l s = let p : r ≡ q = cc in rw (← p) t
        earlier (suc i) q l s = f.earlier i q (omega arith) s

    go :
        (choose_from (suc n) rs cs ≡ some c → Chosen (suc n) rs cs c) → (o : Option Match) → find r.heads cs [] unassigned ≡ o
        → or_else (map (λ m. record { number = n; rule = r; found = m }) o) (choose_from (suc n) rs cs) ≡ some c
        → Chosen n (r ∷ rs) cs c
    go more none t e = late t (more e)
    go more (some m) t e = record {
      at = 0;
      number = rw add-zero (cc);
      stands = cc;
      found = cc;
      earlier = λ i d l s. absurd (omega arith);
    }

-- where nothing is chosen, no rule is found to fit
choose_from-none :
    (n : ℕ) (rs : List Rule) (cs : List Constraint) → choose_from n rs cs ≡ none
    → (i : ℕ) (r : Rule) → get_elem? rs i ≡ some r → find r.heads cs [] unassigned ≡ none
unfolding choose_from
choose_from-none n [] cs e i r s = none-some refl s
choose_from-none n (q ∷ rs) cs e zero r s =
    let p : q ≡ r = cc in rw (← p) (go (find q.heads cs [] unassigned) refl e)
  where
    go :
        (o : Option Match) → find q.heads cs [] unassigned ≡ o
        → or_else (map (λ m. record { number = n; rule = q; found = m }) o) (choose_from (suc n) rs cs) ≡ none
        → find q.heads cs [] unassigned ≡ none
    go none t e = t
    go (some m) t e = none-some e refl
choose_from-none n (q ∷ rs) cs e (suc i) r s = choose_from-none (suc n) rs cs (go (find q.heads cs [] unassigned) e) i r s
  where
    go :
        (o : Option Match)
        → or_else (map (λ m. record { number = n; rule = q; found = m }) o) (choose_from (suc n) rs cs) ≡ none
        → choose_from (suc n) rs cs ≡ none
    go none e = e
    go (some m) e = none-some e refl

-- what is chosen is a rule of the list by its number, and it fits where it is chosen
pub choose-sound :
    (rs : List Rule) (cs : List Constraint) (c : Choice) → choose rs cs ≡ some c
    → (get_elem? rs c.number ≡ some c.rule)
    × (match_at c.rule.heads c.found.positions cs [] unassigned ≡ some c.found.assignment)
unfolding choose
choose-sound rs cs c e =
    let h = choose_from-chosen 0 rs cs c e in
    (rw (h.number, zero-add) h.stands, find-sound c.rule.heads cs c.found h.found)

-- it is chosen at the smallest positions at which it fits
pub choose-smallest :
    (rs : List Rule) (cs : List Constraint) (c : Choice) → choose rs cs ≡ some c
    → (qs : List ℕ) (end : Assignment) → match_at c.rule.heads qs cs [] unassigned ≡ some end
    → Or (qs ≡ c.found.positions) (Before c.found.positions qs)
unfolding choose
choose-smallest rs cs c e = find-smallest c.rule.heads cs c.found (choose_from-chosen 0 rs cs c e).found

-- no rule of a smaller number fits at any positions
pub choose-lowest :
    (rs : List Rule) (cs : List Constraint) (c : Choice) → choose rs cs ≡ some c
    → (n : ℕ) (r : Rule) → n < c.number → get_elem? rs n ≡ some r → (ps : List ℕ) → match_at r.heads ps cs [] unassigned ≡ none
unfolding choose
choose-lowest rs cs c e n r l s =
    let h = choose_from-chosen 0 rs cs c e in
    find-complete r.heads cs [] unassigned (h.earlier n r (omega (arith, h.number)) s)

-- where nothing is chosen, no rule fits at any positions
pub choose-complete :
    (rs : List Rule) (cs : List Constraint) → choose rs cs ≡ none
    → (n : ℕ) (r : Rule) → get_elem? rs n ≡ some r → (ps : List ℕ) → match_at r.heads ps cs [] unassigned ≡ none
unfolding choose
choose-complete rs cs e n r s = find-complete r.heads cs [] unassigned (choose_from-none 0 rs cs e n r s)

-- the strategy's step is a firing of a rule of the list
pub advance-fires :
    (rs : List Rule) (s t : State) → advance rs s ≡ some t
    → (n : ℕ) × (r : Rule) × (ps : List ℕ) × (get_elem? rs n ≡ some r) × (fire_at r ps s ≡ some t)
unfolding advance fire_at
advance-fires rs failed t e = none-some refl e
advance-fires rs (live next bound cs) t e =
    let u = bind-some (choose rs cs) (λ c. some (fired c.rule c.found.positions c.found.assignment next bound cs)) e in
    let c = u.0 in
    let h = choose-sound rs cs c u.1 in
    (c.number, c.rule, c.found.positions, h.0, rw h.1 u.2)

-- the strategy rests in a state exactly where no rule fits
pub advance-rests : (p : Program) (s : State) → advance p.rules s ≡ none → NoRuleFits p s
unfolding advance fire_at
advance-rests p failed e n r ps q = refl
advance-rests p (live next bound cs) e n r ps q = rw (choose-complete p.rules cs (go (choose p.rules cs) refl e) n r q ps)
  where
    go :
        (o : Option Choice) → choose p.rules cs ≡ o
        → bind o (λ c. some (fired c.rule c.found.positions c.found.assignment next bound cs)) ≡ none
        → choose p.rules cs ≡ none
    go none t e = t
    go (some c) t e = none-some e refl

-- and where no rule fits it rests
pub rests-advance : (p : Program) (s : State) → NoRuleFits p s → advance p.rules s ≡ none
rests-advance p s f = none-unless (advance p.rules s) fires
  where
    fires : (t : State) → advance p.rules s ≡ some t → ⊥
    fires t e =
        let h = advance-fires p.rules s t e in
        none-some (f h.0 h.1 h.2 h.3) h.4
