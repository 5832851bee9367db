-- The published system, from document 000, section 2.2.3 and figure 1: states of four parts and the steps Solve, Introduce and
-- Simplify.
--   Published, initial       its states, and that from which the computations of a goal begin (definition 2.8)
--   Solve, Introduce         a built-in constraint, or a user-defined one, leaves the goal store
--   Simplify                 constraints that match the heads of a fresh variant of a rule are replaced by its body
--   Goes, Reaches            any step by a program; any number of them
--   Cleared                  Introduce and Solve steps until only certain items are left in the goal store
--   solved_form, Represents   what is left of the stores when the built-in one is solved; a state of ours that equals it
-- Where this departs from the paper:
--   rules have no guards, and the built-in theory is syntactic equality over constants and variables, said by values; constants
--   are equal if they are one (document 02, W3: 07 is 7), that is, if they have one number;
--   each step of figure 1 ends in the normal form N of its state. Here N stands where states are compared: it has no influence on
--   which steps are possible (lemma 2.3);
--   figure 1 does not say that the built-in store of a Simplify step is not false, as the text does; here the step asks it;
--   a conjunction is a list whose order does not matter, and `true` is the empty list of equations;
--   a false built-in store is not made one state at once: what is left of each such state is the failed one;
--   V of an initial state are all of a goal's variables, in the order of their numbers, also those that no constraint has.
-- Assumes nothing.
use Rattle.std.specs.Prelude.{ℕ, ◌<◌, List, [], ◌∷◌, ◌++◌, map, ◌≡◌}
use Rattle.std.proofs.Math.Option.{some}
use Rattle.std.proofs.Math.ListN.{get_elem?}
use Rattle.text.specs.Lists.{up_to}
use Rattle.semantics.specs.Terms.{Term, con, var, Constraint, Equation, Rule, Program, Goal, State, map_terms, map_sides}
use Rattle.semantics.specs.Terms.{alphabet}
use Rattle.semantics.specs.Solving.{solve}
use Rattle.semantics.specs.Firing.{settle}
use Rattle.semantics.specs.Variants.{SameMultiset, Variant}

-- what a goal store holds: user-defined constraints, and built-in ones, which are equations
pub data Item : Type 0 where
  user : Constraint → Item
  built_in : Equation → Item

-- a state ⟨Gs, CU, CB, V⟩: the goal store, the user-defined store, the built-in store and the variables of the initial goal.
-- Each store is a conjunction, so the order of its list does not matter
pub record Published : Type 0 where
  pub goals : List Item
  pub user_store : List Constraint
  pub built_in_store : List Equation
  pub variables : List ℕ

-- the initial state ⟨G, ⊤, true, V⟩ of a goal
unfoldable pub initial : Goal → Published
initial g = record { goals = map user g.constraints; user_store = []; built_in_store = []; variables = up_to g.variables }

-- the value of a term where each variable has a value. Values are the constants: the theory of equality over infinitely many
-- different constants is complete, so what holds of all values holds in all its models
unfoldable pub value : (ℕ → ℕ) → Term → ℕ
value α (con c) = c
value α (var x) = α x

-- equations that hold under a valuation
pub data Hold (α : ℕ → ℕ) : List Equation → Type 0 where
  all : Hold α []
  and : {e : Equation} {es : List Equation} → value α e.left ≡ value α e.right → Hold α es → Hold α (e ∷ es)

-- a built-in store that is not false
pub record Satisfiable (es : List Equation) : Type 0 where
  pub valuation : ℕ → ℕ
  pub holds : Hold valuation es

-- the equations between two lists of terms, and between two lists of constraints: c(t1, …) ≐ c(s1, …) is t1 ≐ s1 and so on
pub data Equated : List Term → List Term → List Equation → Type 0 where
  no_terms : Equated [] [] []
  one_more :
      {s t : Term} {ss ts : List Term} {es : List Equation} → Equated ss ts es
      → Equated (s ∷ ss) (t ∷ ts) (record { left = s; right = t } ∷ es)

pub data EquatedAll : List Constraint → List Constraint → List Equation → Type 0 where
  no_constraints : EquatedAll [] [] []
  one_more :
      {c d : Constraint} {cs ds : List Constraint} {es fs : List Equation} → c.symbol ≡ d.symbol
      → Equated c.terms d.terms es → EquatedAll cs ds fs → EquatedAll (c ∷ cs) (d ∷ ds) (es ++ fs)

-- a renaming of a rule's variables
unfoldable pub renamed : (ℕ → ℕ) → Term → Term
renamed ρ (con c) = con c
renamed ρ (var x) = var (ρ x)

-- a variable stands in a list of terms
pub data Occurs (x : ℕ) : List Term → Type 0 where
  here : {ts : List Term} → Occurs x (var x ∷ ts)
  there : {t : Term} {ts : List Term} → Occurs x ts → Occurs x (t ∷ ts)

-- all terms of a state
unfoldable pub terms_of_constraints : List Constraint → List Term
terms_of_constraints [] = []
terms_of_constraints (c ∷ cs) = c.terms ++ terms_of_constraints cs

unfoldable pub terms_of_equations : List Equation → List Term
terms_of_equations [] = []
terms_of_equations (e ∷ es) = e.left ∷ e.right ∷ terms_of_equations es

unfoldable pub terms_of_items : List Item → List Term
terms_of_items [] = []
terms_of_items (user c ∷ is) = c.terms ++ terms_of_items is
terms_of_items (built_in e ∷ is) = e.left ∷ e.right ∷ terms_of_items is

unfoldable pub terms_of : Published → List Term
terms_of p =
    terms_of_items p.goals
    ++ (terms_of_constraints p.user_store ++ (terms_of_equations p.built_in_store ++ map var p.variables))

-- a renaming makes a fresh variant of a rule: it keeps the rule's variables apart, and from those of the state
pub record FreshFor (p : Published) (ρ : ℕ → ℕ) : Type 0 where
  pub apart : (x y : ℕ) → x < alphabet → y < alphabet → ρ x ≡ ρ y → x ≡ y
  pub fresh : (x : ℕ) → x < alphabet → Occurs (ρ x) (terms_of p) → ⊥

-- CT ⊨ ∀ (CB → ∃ x̄ (H ≐ H')), x̄ being the variables of the variant: whatever makes the built-in store hold can be changed at
-- those variables alone so that the heads are equal to the matched constraints
pub record Implies (ρ : ℕ → ℕ) (store heads : List Equation) : Type 0 where
  pub change : (α : ℕ → ℕ) → Hold α store → ℕ → ℕ
  pub elsewhere :
      (α : ℕ → ℕ) (h : Hold α store) (y : ℕ) → ((x : ℕ) → x < alphabet → ρ x ≡ y → ⊥) → change α h y ≡ α y
  pub equal : (α : ℕ → ℕ) (h : Hold α store) → Hold (change α h) heads

-- a body, in the goal store: user-defined and built-in constraints
unfoldable pub body_items : (ℕ → ℕ) → Rule → List Item
body_items ρ r =
    map (λ c. user (map_terms (renamed ρ) c)) r.body ++ map (λ e. built_in (map_sides (renamed ρ) e)) r.equations

-- Solve: a built-in constraint moves from the goal store to the built-in store
pub data Solve : Published → Published → Type 0 where
  solves :
      {e : Equation} {gs rest : List Item} {us : List Constraint} {bs : List Equation} {vs : List ℕ}
      → SameMultiset ◌≡◌ gs (built_in e ∷ rest)
      → Solve (record { goals = gs; user_store = us; built_in_store = bs; variables = vs })
      (record { goals = rest; user_store = us; built_in_store = e ∷ bs; variables = vs })

-- Introduce: a user-defined constraint moves from the goal store to the user-defined store
pub data Introduce : Published → Published → Type 0 where
  introduces :
      {c : Constraint} {gs rest : List Item} {us : List Constraint} {bs : List Equation} {vs : List ℕ}
      → SameMultiset ◌≡◌ gs (user c ∷ rest)
      → Introduce (record { goals = gs; user_store = us; built_in_store = bs; variables = vs })
      (record { goals = rest; user_store = c ∷ us; built_in_store = bs; variables = vs })

-- Simplify by a rule: the constraints H' of the user-defined store match the heads H of a fresh variant; H' is replaced by the
-- body, and H ≐ H' joins the built-in store, which is not false
pub data Simplify (r : Rule) (matched : List Constraint) : Published → Published → Type 0 where
  simplifies :
      {rest us : List Constraint} {gs : List Item} {bs es : List Equation} {vs : List ℕ} (ρ : ℕ → ℕ)
      → Satisfiable bs
      → FreshFor (record { goals = gs; user_store = us; built_in_store = bs; variables = vs }) ρ
      → SameMultiset ◌≡◌ us (matched ++ rest)
      → EquatedAll (map (map_terms (renamed ρ)) r.heads) matched es
      → Implies ρ bs es
      → Simplify r matched (record { goals = gs; user_store = us; built_in_store = bs; variables = vs })
      (record { goals = gs ++ body_items ρ r; user_store = rest; built_in_store = es ++ bs; variables = vs })

-- the transition relation of a program: one of the three steps
pub data Goes (p : Program) : Published → Published → Type 0 where
  solving : {a b : Published} → Solve a b → Goes p a b
  introducing : {a b : Published} → Introduce a b → Goes p a b
  simplifying :
      {a b : Published} {matched : List Constraint} (n : ℕ) (r : Rule) → get_elem? p.rules n ≡ some r → Simplify r matched a b
      → Goes p a b

-- any number of steps
pub data Reaches (p : Program) : Published → Published → Type 0 where
  stays : {a : Published} → Reaches p a a
  goes : {a b c : Published} → Goes p a b → Reaches p b c → Reaches p a c

-- Introduce and Solve steps, until only these items are left in the goal store
pub data Cleared (left : List Item) : Published → Published → Type 0 where
  is_clear : {a : Published} → SameMultiset ◌≡◌ a.goals left → Cleared left a a
  by_solve : {a b c : Published} → Solve a b → Cleared left b c → Cleared left a c
  by_introduce : {a b c : Published} → Introduce a b → Cleared left b c → Cleared left a c

-- what is left of a state's stores when the built-in one is solved and the solution put in throughout (the paper's N): failed
-- where it is false, and otherwise what the variables have become and the constraints
unfoldable pub solved_form : Published → State
solved_form a = settle (solve a.built_in_store (λ t. t)) 0 (map var a.variables) a.user_store

-- a state of ours represents the stores of a published one: it equals what is left of them
abbrev pub Represents : Published → State → Type 1
Represents a s = Variant (solved_form a) s
