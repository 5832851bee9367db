-- Lists and optional values, as the later definitions use them; nothing here is about programs.
--   onward, bind, or_else    an optional value, taken apart
--   every, total, has       over all elements
--   same_bytes               equal lists of bytes
--   index_from, index_of      the index of the first element that passes a test, of a name
--   overlaid                a list with another laid over its beginning
--   gather, answers         the lists of all elements, the answers of those that have one
--   tabled, up_to            the list of f 0, f 1, … and of the numbers below n
-- Why not the kit's: its bind, or_else, Option·elim, flatMap and filterMap have the equations of bind, or_else, onward, gather and
-- answers, but are shut until a line opens them, so that no definition over them would compute by itself; its `all` cannot be
-- opened at all, and its `range'` is on another ℕ.
-- Assumes nothing.
use Rattle.std.specs.Prelude.{ℕ, zero, suc, ◌+◌, Bool, true, false, cond, ◌&&◌, ◌||◌, List, [], ◌∷◌, ◌++◌, eqb, ltb, length, drop}
use Rattle.std.proofs.Math.Option.{Option, none, some}

-- what follows from a value, or else `otherwise`
abbrev pub onward {ℓ κ} : {A : Type ℓ} {B : Type κ} → Option A → B → (A → B) → B
onward none otherwise next = otherwise
onward (some a) otherwise next = next a

-- the second answer, which takes the first; none where either is
abbrev pub bind {ℓ κ} : {A : Type ℓ} {B : Type κ} → Option A → (A → Option B) → Option B
bind none next = none
bind (some a) next = next a

-- the first answer, or else the second
abbrev pub or_else {ℓ} : {A : Type ℓ} → Option A → Option A → Option A
or_else none second = second
or_else (some a) second = some a

-- whether all elements pass the test
abbrev pub every {ℓ} : {A : Type ℓ} → (A → Bool) → List A → Bool
every test [] = true
every test (x ∷ xs) = test x && every test xs

-- the sum of what the elements count
abbrev pub total {ℓ} : {A : Type ℓ} → (A → ℕ) → List A → ℕ
total count [] = 0
total count (x ∷ xs) = count x + total count xs

-- whether a number stands in a list
abbrev pub has : ℕ → List ℕ → Bool
has n [] = false
has n (m ∷ ms) = eqb n m || has n ms

-- whether two lists hold the same bytes
abbrev pub same_bytes : List ℕ → List ℕ → Bool
same_bytes [] [] = true
same_bytes [] (b ∷ t) = false
same_bytes (a ∷ s) [] = false
same_bytes (a ∷ s) (b ∷ t) = eqb a b && same_bytes s t

-- the index, counted from i, of the first element that passes the test; behind the last where none does
abbrev pub index_from {ℓ} : {A : Type ℓ} → (A → Bool) → ℕ → List A → ℕ
index_from test i [] = i
index_from test i (x ∷ xs) =
    let more = index_from test (suc i) xs in
    cond (test x) i more

-- the index of a name in a list of names
unfoldable pub index_of : List ℕ → List (List ℕ) → ℕ
index_of name names = index_from (same_bytes name) 0 names

-- whether a name stands in a list of names
unfoldable pub is_known : List ℕ → List (List ℕ) → Bool
is_known name names = ltb (index_of name names) (length names)

-- the names with one more behind them, if it is new
unfoldable pub with_name : List ℕ → List (List ℕ) → List (List ℕ)
with_name name names = cond (is_known name names) names (names ++ (name ∷ []))

-- a list with another laid over its beginning
abbrev pub overlaid : List ℕ → List ℕ → List ℕ
overlaid new old = new ++ drop (length new) old

-- the lists that the elements give, one behind the other
abbrev pub gather {ℓ κ} : {A : Type ℓ} {B : Type κ} → (A → List B) → List A → List B
gather f [] = []
gather f (x ∷ xs) = f x ++ gather f xs

-- the answers of the elements that have one
abbrev pub answers {ℓ κ} : {A : Type ℓ} {B : Type κ} → (A → Option B) → List A → List B
answers f [] = []
answers f (x ∷ xs) = onward (f x) (answers f xs) (λ y. y ∷ answers f xs)

-- f 0, f 1 and on, n of them
abbrev pub tabled {ℓ} : {A : Type ℓ} → (ℕ → A) → ℕ → List A
tabled f zero = []
tabled f (suc n) = tabled f n ++ (f n ∷ [])

-- the numbers below n
abbrev pub up_to : ℕ → List ℕ
up_to n = tabled (λ i. i) n
