-- Terms, constraints, rules, programs, goals and states, as values.
-- A term is flat, so no variable can occur inside what it is equated with.
--   Term, Constraint, Equation, Symbol, Rule, Program, Goal, State
--   same_term, map_terms      equal terms; a function on terms, throughout a constraint
--   kept_heads, removed_heads the heads of a rule whose constraints stay, and those whose are removed
--   weight, weight_by        the weight of a list of constraints, by a table of symbols and by the symbols' numbers
--   is_goal_of                document 01's goal over a sheet's kinds
--   is_well_formed            the programs that the theory is about
-- Assumes nothing.
use Rattle.std.specs.Prelude.{ℕ, Bool, true, false, ◌&&◌, List, [], map, ltb, eqb, length, get_or, take, drop}
use Rattle.text.specs.Lists.{every, total}

-- a term: a constant or a variable, by its number. Constants have one number exactly if they are one (`SameConstant` of text:
-- same spelling, or digits of the same value; `ByValue` of syntax says it of the numbers that reading gives a program's own);
-- every other number is a constant that the program lacks. A rule's variables are its letters, 0 to 25; a goal's count from 0 by
-- first appearance
pub data Term : Type 0 where
  con : ℕ → Term
  var : ℕ → Term

-- a constraint (document 01: a fact): the number of its symbol, from 0 in declared order, and its terms
pub record Constraint : Type 0 where
  pub symbol : ℕ
  pub terms : List Term

-- an equation of a rule's body
pub record Equation : Type 0 where
  pub left : Term
  pub right : Term

-- a symbol (document 01: a kind of fact): its name, number of terms and weight
pub record Symbol : Type 0 where
  pub name : List ℕ
  pub arity : ℕ
  pub weight : ℕ

-- a rule: where constraints match its heads, those of the first heads, as many as are kept (document 02: J lines), stay; those of
-- the others (H lines) are replaced by its body and its equations
pub record Rule : Type 0 where
  pub name : List ℕ
  pub kept : ℕ
  pub heads : List Constraint
  pub body : List Constraint
  pub equations : List Equation

-- a program (document 01: a sheet that can be read)
pub record Program : Type 0 where
  pub symbols : List Symbol
  pub rules : List Rule

-- a goal: how many variables it has, which are var 0 and on, and its constraints
pub record Goal : Type 0 where
  pub variables : ℕ
  pub constraints : List Constraint

-- a state: failed, or live with a number above every variable in use, what each goal variable has become, and the
-- constraints (document 01: the list of facts)
pub data State : Type 0 where
  failed : State
  live : ℕ → List Term → List Constraint → State

-- whether two terms are the same
unfoldable pub same_term : Term → Term → Bool
same_term (con a) (con b) = eqb a b
same_term (con a) (var y) = false
same_term (var x) (con b) = false
same_term (var x) (var y) = eqb x y

-- a constraint with each term t replaced by f t
unfoldable pub map_terms : (Term → Term) → Constraint → Constraint
map_terms f c = record { symbol = c.symbol; terms = map f c.terms }

-- an equation with each term t replaced by f t
unfoldable pub map_sides : (Term → Term) → Equation → Equation
map_sides f e = record { left = f e.left; right = f e.right }

-- the heads whose constraints stay, and those whose constraints are removed
unfoldable pub kept_heads : Rule → List Constraint
kept_heads r = take r.kept r.heads

unfoldable pub removed_heads : Rule → List Constraint
removed_heads r = drop r.kept r.heads

-- what a number that no symbol has stands for
unfoldable pub no_symbol : Symbol
no_symbol = record { name = []; arity = 0; weight = 0 }

-- the symbol of a number
unfoldable pub symbol_at : List Symbol → ℕ → Symbol
symbol_at symbols n = get_or symbols n no_symbol

-- the weight of a list of constraints: the sum of its symbols' weights
unfoldable pub weight : List Symbol → List Constraint → ℕ
weight symbols cs = total (λ c. (symbol_at symbols c.symbol).weight) cs

-- the weight of constraints, where w weighs the symbols by their numbers
unfoldable pub weight_by : (ℕ → ℕ) → List Constraint → ℕ
weight_by w cs = total (λ (c : Constraint). w c.symbol) cs

-- whether a constraint's symbol is declared and the number of terms is its own
unfoldable pub is_declared : List Symbol → Constraint → Bool
is_declared symbols c = ltb c.symbol (length symbols) && eqb (length c.terms) (symbol_at symbols c.symbol).arity

-- whether a term is a constant or one of the variables below n
unfoldable pub is_below : ℕ → Term → Bool
is_below n (con c) = true
is_below n (var x) = ltb x n

-- whether a goal is over a program's symbols: each constraint is of a declared symbol with its number of terms, over any
-- constants and the goal's own variables
unfoldable pub is_goal_of : Program → Goal → Bool
is_goal_of p g = every (λ c. is_declared p.symbols c && every (is_below g.variables) c.terms) g.constraints

-- how many letters there are for a rule's variables
unfoldable pub alphabet : ℕ
alphabet = 26

-- whether a constraint of a rule is of a declared symbol with its number of terms, over constants and letters
unfoldable pub is_of_rule : List Symbol → Constraint → Bool
is_of_rule symbols c = is_declared symbols c && every (is_below alphabet) c.terms

-- whether a rule is over the symbols, and what it removes weighs more than its body
unfoldable pub is_rule_of : List Symbol → Rule → Bool
is_rule_of symbols r =
    every (is_of_rule symbols) r.heads && every (is_of_rule symbols) r.body
    && every (λ e. is_below alphabet e.left && is_below alphabet e.right) r.equations
    && ltb (weight symbols r.body) (weight symbols (removed_heads r))

-- whether all rules of a program are over its symbols and lower the weight, as those of every text that can be read are
unfoldable pub is_well_formed : Program → Bool
is_well_formed p = every (is_rule_of p.symbols) p.rules
