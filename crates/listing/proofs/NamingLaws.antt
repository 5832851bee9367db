-- Two namings that agree on what a state uses list it alike; the naming of the tables is that of what they hold.
--   uses_only        whether a state uses only symbols and constants that pass a test
--   state-named     it is listed alike under namings that agree on these, and names that agree on its goal variables
--   symbol-named, constant-named     the naming of tables whose names stand where the places say
--   variable-named  the name of a goal variable that has a letter
-- Assumes nothing.
use mathlib.Core.Path.{◌≡◌, refl, sym, ap, ap₂, ◌∙◌, fun_ext}
use mathlib.Core.Bool.{Bool, true, false, cond, ◌&&◌}
use mathlib.Core.List.{List, [], ◌∷◌, ◌++◌, map}
use Prim.Native.Nat.{ℕ, suc, ◌+◌, ◌-◌, ◌≤◌, ◌<◌}
use native.Mathlib.Omega.{arith}
use borrow.Author.Tests.{lt-ltb, le-ltb, ltb-true}
use lib.Dec.{eqb, ltb}
use lib.ListN.{length, get_or}
use Rattle.text.specs.Bytes.{ascii}
use Rattle.text.specs.Lists.{every, index_from, up_to}
use Rattle.text.specs.Fields.{decimal}
use Rattle.semantics.specs.Terms.{Term, con, var, Constraint, Symbol, State, failed, live, no_symbol, symbol_at}
use Rattle.semantics.specs.Overlaps.{appearing_in, appearing}
use Rattle.text.proofs.Laws.{tabled-at}
use Rattle.text.proofs.Bools.{and-true}
use Rattle.syntax.specs.Forms.{first_constant}
use Rattle.tables.specs.Layout.{max_names}
use Rattle.tables.specs.Rows.{name_of, symbol_of, symbols_of, constants_of, letters_of}
use Rattle.tables.specs.Names.{name_in, Placed}
use Rattle.listing.specs.Listing.{Naming, line_of, term_shown, constraint_shown, constraint_lines, bound_lines}
use Rattle.listing.specs.Listing.{naming_of, numbered_as, variable_name, place_name, unbound, state_listing}

-- whether a term is a variable, or a constant that passes a test
unfoldable pub uses_in : (ℕ → Bool) → Term → Bool
uses_in known (con c) = known c
uses_in known (var x) = true

-- whether a constraint's symbol and constants pass a test
unfoldable pub uses_of : (ℕ → Bool) → Constraint → Bool
uses_of known c = known c.symbol && every (uses_in known) c.terms

-- whether all symbols and constants of a state pass a test
unfoldable pub uses_only : (ℕ → Bool) → State → Bool
uses_only known failed = true
uses_only known (live next bound cs) = every (uses_in known) bound && every (uses_of known) cs

-- how many goal variables a state shows
unfoldable pub bound_in : State → ℕ
bound_in failed = 0
bound_in (live next bound cs) = length bound

module _ (known : ℕ → Bool) (one two : Naming) (same : (n : ℕ) → known n ≡ true → one n ≡ two n) (shown : ℕ → List ℕ) where
  term-named : (t : Term) → uses_in known t ≡ true → term_shown one shown t ≡ term_shown two shown t
  unfolding term_shown uses_in
  term-named (con c) h = same c h
  term-named (var x) h = refl

  terms-named : (ts : List Term) → every (uses_in known) ts ≡ true → map (term_shown one shown) ts ≡ map (term_shown two shown) ts
  terms-named [] h = refl
  terms-named (t ∷ ts) h =
      let both = and-true (uses_in known t) (every (uses_in known) ts) h in
      ap₂ (λ (x : List ℕ) (l : List (List ℕ)). x ∷ l) (term-named t both.0) (terms-named ts both.1)

  pub rows_named : (first : List ℕ) (cs : List Constraint) → every (uses_of known) cs ≡ true
      → constraint_lines first one shown cs ≡ constraint_lines first two shown cs
  unfolding constraint_lines constraint_shown uses_of
  rows_named first [] h = refl
  rows_named first (c ∷ cs) h =
      let rest = and-true (known c.symbol && every (uses_in known) c.terms) (every (uses_of known) cs) h in
      let both = and-true (known c.symbol) (every (uses_in known) c.terms) rest.0 in
      ap₂ (λ (l : List (List ℕ)) (m : List ℕ). line_of first l ++ m)
      (ap₂ (λ (x : List ℕ) (l : List (List ℕ)). x ∷ l) (same c.symbol both.0) (terms-named c.terms both.1))
      (rows_named first cs rest.1)

  bounds-named : (u v : ℕ → List ℕ) (x : ℕ) (ts : List Term) → every (uses_in known) ts ≡ true
      → ((i : ℕ) → i < x + length ts → u i ≡ v i) → bound_lines one shown u x ts ≡ bound_lines two shown v x ts
  unfolding bound_lines
  bounds-named u v x [] h k = refl
  bounds-named u v x (t ∷ ts) h k =
      let both = and-true (uses_in known t) (every (uses_in known) ts) h in
      ap₂ (λ (f l : List ℕ). f ++ l)
      (ap₂ (λ (n f : List ℕ). line_of (ascii "A") (n ∷ f ∷ [])) (k x (omega arith)) (term-named t both.0))
      (bounds-named u v (suc x) ts both.1 (λ i l. k i (omega arith)))

-- names that agree on the goal variables name every variable of an end alike
place-named : (u v : ℕ → List ℕ) (n i : ℕ) → ((x : ℕ) → x < n → u x ≡ v x) → place_name u n i ≡ place_name v n i
unfolding place_name
place-named u v n i names = go (ltb i n) refl
  where
    go : (b : Bool) → ltb i n ≡ b
        → cond b (u i) (numbered_as (ascii "U") (i - n)) ≡ cond b (v i) (numbered_as (ascii "U") (i - n))
    go true e = names i (ltb-true i n e)
    go false e = refl

unbound-named : (u v : ℕ → List ℕ) (n : ℕ) (order : List ℕ) → ((x : ℕ) → x < n → u x ≡ v x)
    → unbound u n order ≡ unbound v n order
unfolding unbound
unbound-named u v n order names = fun_ext (λ x. place-named u v n (index_from (eqb x) 0 order) names)

-- a state is listed alike
pub state-named :
    (known : ℕ → Bool) (one two : Naming) (u v : ℕ → List ℕ) (f : ℕ) (s : State) → ((n : ℕ) → known n ≡ true → one n ≡ two n)
    → ((i : ℕ) → i < bound_in s → u i ≡ v i) → uses_only known s ≡ true → state_listing one u f s ≡ state_listing two v f s
unfolding state_listing uses_only bound_in
state-named known one two u v f failed same names h = refl
state-named known one two u v f (live next bound cs) same names h =
    let both = and-true (every (uses_in known) bound) (every (uses_of known) cs) h in
    let n = length bound in
    let order = appearing (appearing_in (up_to n) bound) cs in
    let shown = unbound v n order in
    let alike : unbound u n order ≡ shown = unbound-named u v n order names in
    rw alike
    (ap₂ (λ (b r : List ℕ). line_of (ascii "END") (decimal f ∷ []) ++ (b ++ r))
    (bounds-named known one two same shown u v 0 bound both.0 (λ i l. names i (omega arith)))
    (rows_named known one two same shown (ascii "S") cs both.1))

-- the naming of tables whose names stand where the places say is that of the symbols and constants that they hold
module _ (program goal names places symbols : List ℕ) (s k : ℕ) (placed : Placed program goal names places) where
  pub symbol-named : (n : ℕ) → n < s → n < first_constant → n < max_names → 0 < get_or names n 0
      → name_in program goal places n ≡ naming_of (symbols_of names symbols s) (constants_of names k) n
  unfolding naming_of symbol_at symbols_of symbol_of
  symbol-named n h l m p =
      placed.each n m p
      ∙ sym (rw (lt-ltb n first_constant l) (ap (λ (y : Symbol). y.name) (tabled-at (symbol_of names symbols) s n no_symbol h)
      ∙ name-of n))
    where
      name-of : (n : ℕ) → (symbol_of names symbols n).name ≡ name_of names n
      name-of n = refl

  pub constant-named : (i : ℕ) → i < k → first_constant + i < max_names → 0 < get_or names (first_constant + i) 0
      → name_in program goal places (first_constant + i)
      ≡ naming_of (symbols_of names symbols s) (constants_of names k) (first_constant + i)
  unfolding naming_of constants_of
  constant-named i h m p =
      let above : first_constant ≤ first_constant + i = omega arith in
      let back : first_constant + i - first_constant ≡ i = omega arith in
      placed.each (first_constant + i) m p
      ∙ sym (rw (le-ltb (first_constant + i) first_constant above, back) (tabled-at (λ (j : ℕ). name_of names
      (first_constant + j)) k i [] h))

-- the name of a goal variable that has a letter
pub variable-named : (letters : List ℕ) (n x : ℕ) → x < n → n ≤ length letters → variable_name letters x ≡ get_or
    (letters_of letters n) x []
unfolding variable_name letters_of
variable-named letters n x h l =
    rw (lt-ltb x (length letters) (omega arith)) (sym (tabled-at (λ (i : ℕ). get_or letters i 0 ∷ []) n x [] h))
