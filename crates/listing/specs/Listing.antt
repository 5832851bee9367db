-- Listings as bytes (document 01: printed answers).
--   line_of                  a line from its fields
--   Naming, naming_of        the name of each symbol and constant
--   variable_name            the name of each goal variable
--   place_name, unbound      the name of each variable of an end (document 02, W5)
--   end_listing              `END` with its A and S lines, or `FAILED`
-- Assumes nothing.
use Rattle.std.specs.Prelude.{ℕ, suc, ◌-◌, cond, List, [], ◌∷◌, ◌++◌, map, ltb, eqb, length, get_or}
use Rattle.text.specs.Bytes.{ascii}
use Rattle.text.specs.Lists.{index_from, gather, up_to}
use Rattle.text.specs.Fields.{decimal}
use Rattle.semantics.specs.Terms.{Term, con, var, Constraint, Symbol, State, failed, live, symbol_at}
use Rattle.semantics.specs.Strategy.{Final}
use Rattle.semantics.specs.Overlaps.{appearing_in, appearing}
use Rattle.syntax.specs.Forms.{first_constant}

-- the fields behind the first, each behind its comma, and the line feed
unfoldable pub fields_behind : List (List ℕ) → List ℕ
fields_behind [] = 10 ∷ []
fields_behind (f ∷ fs) = 44 ∷ (f ++ fields_behind fs)

-- a line of a listing: its fields, parted by commas, and a line feed
unfoldable pub line_of : List ℕ → List (List ℕ) → List ℕ
line_of first fs = first ++ fields_behind fs

-- what listings name things by: a name for each symbol's and each constant's number
abbrev pub Naming : Type 0
Naming = ℕ → List ℕ

-- the names of declared symbols, and those of constants
unfoldable pub naming_of : List Symbol → List (List ℕ) → Naming
naming_of symbols constants n =
    cond (ltb n first_constant) (symbol_at symbols n).name (get_or constants (n - first_constant) [])

-- a term: a constant by its name, a variable as it is to be shown
unfoldable pub term_shown : Naming → (ℕ → List ℕ) → Term → List ℕ
term_shown naming shown (con c) = naming c
term_shown naming shown (var x) = shown x

-- the fields of a constraint: its symbol's name and its terms
unfoldable pub constraint_shown : Naming → (ℕ → List ℕ) → Constraint → List (List ℕ)
constraint_shown naming shown c = naming c.symbol ∷ map (term_shown naming shown) c.terms

-- a line for each constraint
unfoldable pub constraint_lines : List ℕ → Naming → (ℕ → List ℕ) → List Constraint → List ℕ
constraint_lines first naming shown cs = gather (λ c. line_of first (constraint_shown naming shown c)) cs

-- a variable by a letter and its number, from 1
unfoldable pub numbered_as : List ℕ → ℕ → List ℕ
numbered_as letter x = letter ++ decimal (suc x)

-- a goal variable, from 0: its letter, or V and its number where no letter stands for it, as in an overlap's goal
unfoldable pub variable_name : List ℕ → ℕ → List ℕ
variable_name letters x = cond (ltb x (length letters)) (get_or letters x 0 ∷ []) (numbered_as (ascii "V") x)

-- the name of the variable at a place in the order of an end, whose first n are the goal's: these by their own names, the others
-- as U1, U2 and on
unfoldable pub place_name : (ℕ → List ℕ) → ℕ → ℕ → List ℕ
place_name variable n i = cond (ltb i n) (variable i) (numbered_as (ascii "U") (i - n))

-- an unbound variable of an end with n goal variables, by its place in the order
unfoldable pub unbound : (ℕ → List ℕ) → ℕ → List ℕ → ℕ → List ℕ
unbound variable n order x = place_name variable n (index_from (eqb x) 0 order)

-- a line for each goal variable, the first of these being x: its name and what it became
unfoldable pub bound_lines : Naming → (ℕ → List ℕ) → (ℕ → List ℕ) → ℕ → List Term → List ℕ
bound_lines naming shown variable x [] = []
bound_lines naming shown variable x (t ∷ ts) =
    line_of (ascii "A") (variable x ∷ term_shown naming shown t ∷ []) ++ bound_lines naming shown variable (suc x) ts

-- an end after f firings: goal variables are shown by their own names; the others are numbered by first appearance over its A and
-- S lines
unfoldable pub state_listing : Naming → (ℕ → List ℕ) → ℕ → State → List ℕ
state_listing naming variable f failed = line_of (ascii "FAILED") (decimal f ∷ [])
state_listing naming variable f (live next bound cs) =
    let n = length bound in
    let shown = unbound variable n (appearing (appearing_in (up_to n) bound) cs) in
    line_of (ascii "END") (decimal f ∷ [])
    ++ (bound_lines naming shown variable 0 bound ++ constraint_lines (ascii "S") naming shown cs)

-- an end, with the name of each goal variable
unfoldable pub end_listing : Naming → (ℕ → List ℕ) → Final → List ℕ
end_listing naming variable e = state_listing naming variable e.firings e.state
