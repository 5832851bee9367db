-- The rules of a well-formed program have letters for their variables.
--   rule-lettered, program-lettered      from the tests is_rule_of and is_well_formed
-- Assumes nothing.
use mathlib.Core.Bool.{Bool, true, false, ◌&&◌}
use mathlib.Core.List.{List, [], ◌∷◌}
use mathlib.Core.Path.{◌≡◌, refl}
use lib.Dec.{ltb}
use Rattle.text.specs.Lists.{every}
use Rattle.semantics.specs.Terms.{Constraint, Equation, Rule, Symbol, Program, kept_heads, removed_heads, weight}
use Rattle.semantics.specs.Terms.{is_declared, is_below, alphabet, is_of_rule, is_rule_of, is_well_formed}
use Rattle.semantics.proofs.Configurations.{All, none, also}
use Rattle.semantics.proofs.Multisets.{all-mono, all_append, all_take}
use Rattle.semantics.proofs.Options.{true-false, is_below-below}
use Rattle.semantics.proofs.MatchedTerms.{ConstraintBelow}
use Rattle.semantics.proofs.FireLaws.{Lettered}

-- both tests pass
both : (a b : Bool) → (a && b) ≡ true → (a ≡ true) × (b ≡ true)
both true b p = (refl, p)
both false b p = true-false p refl

-- a test that every element passes
pub every-all : {A : Type 0} (test : A → Bool) (l : List A) → every test l ≡ true → All (λ a. test a ≡ true) l
every-all test [] p = none
every-all test (a ∷ l) p = let (q, r) = both (test a) (every test l) p in also q (every-all test l r)

-- a constraint of a rule is over letters
of_rule-below : (symbols : List Symbol) (c : Constraint) → is_of_rule symbols c ≡ true → ConstraintBelow alphabet c
unfolding is_of_rule
of_rule-below symbols c p =
    all-mono (is_below-below alphabet)
    (every-all (is_below alphabet) c.terms (both (is_declared symbols c) (every (is_below alphabet) c.terms) p).1)

-- a rule over the symbols has letters for its variables
pub rule-lettered : (symbols : List Symbol) (r : Rule) → is_rule_of symbols r ≡ true → Lettered r
unfolding is_rule_of kept_heads
rule-lettered symbols r p =
    let heads = every (is_of_rule symbols) r.heads in
    let body = every (is_of_rule symbols) r.body in
    let sides = every letters_only r.equations in
    let (abc, d) = both (heads && body && sides) (ltb (weight symbols r.body) (weight symbols (removed_heads r))) p in
    let (ab, c) = both (heads && body) sides abc in
    let (a, b) = both heads body ab in
    record {
      body = all_append (all_take r.kept (all-mono (of_rule-below symbols) (every-all (is_of_rule symbols) r.heads a)))
          (all-mono (of_rule-below symbols) (every-all (is_of_rule symbols) r.body b));
      equations = all-mono (λ e q.
          let (l, m) = both (is_below alphabet e.left) (is_below alphabet e.right) q in
          (is_below-below alphabet e.left l, is_below-below alphabet e.right m)) (every-all letters_only r.equations c);
    }
  where
    letters_only : Equation → Bool
    letters_only e = is_below alphabet e.left && is_below alphabet e.right

-- so have all rules of a well-formed program
pub program-lettered : (p : Program) → is_well_formed p ≡ true → All Lettered p.rules
unfolding is_well_formed
program-lettered p w = all-mono (rule-lettered p.symbols) (every-all (is_rule_of p.symbols) p.rules w)
