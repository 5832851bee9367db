-- Plain lines of fields, and how many rows they take on pages.
--   Field                                         at most 8 bytes, none of them a space or a line feed
--   term-field, decimal-field, numbered-marked    terms, numbers, and the names of variables
--   lined-more                                    more rows are as good a bound
--   line-lined                                    the rows of a line of fields: the first takes 40 bytes, the others 38 each
-- Assumes nothing.
use Prim.Native.Nat.{ℕ, suc, ◌+◌, ◌*◌, ◌≤◌, ◌<◌}
use native.Mathlib.Omega.{arith}
use mathlib.Core.Bool.{Bool, true, false, not, ◌||◌}
use mathlib.Core.List.{List, [], ◌∷◌, ◌++◌, append_assoc}
use mathlib.Core.Path.{◌≡◌, refl, sym, ap, subst, ◌∙◌}
use lib.Dec.{eqb}
use lib.ListN.{length, drop, length-append, length-map, length-drop}
use borrow.Author.Tests.{ne_eqb}
use Rattle.text.specs.declared.table.Class.TheVariants.{Capital, Digit}
use Rattle.text.specs.Bytes.{between, class_of, is_class, is_name_class}
use Rattle.text.specs.Lists.{every}
use Rattle.text.specs.Fields.{is_name, is_variable, is_term, is_number, decimal}
use Rattle.text.proofs.Bools.{never, and-true}
use Rattle.text.proofs.Laws.{every_append}
use Rattle.text.proofs.ListLaws.{every-weaker}
use Rattle.text.proofs.ClassLaws.{between-true, name-range, is-capital, is_digit}
use Rattle.text.proofs.Decimals.{decimal-exact}
use Rattle.semantics.proofs.Configurations.{All, also}
use Rattle.semantics.proofs.Configurations as C
use Rattle.semantics.proofs.Multisets.{all-mono}
use Rattle.listing.specs.Listing.{fields_behind, line_of, numbered_as}
use Rattle.listing.proofs.SizeLaws.{Short, decimal-short, line-few}
use Rattle.pages.specs.Pages.{pieces, indented, rows_of}
use Rattle.pages.proofs.PieceLaws.{pieces-few}
use Rattle.pages.proofs.Lined.{is_mark, is_plain_line, ended, Lined, lined-line}
use Rattle.replies.proofs.ShortNames.{term-short}

-- at most 8 bytes, none of them a space or a line feed
abbrev pub Field : List ℕ → Type 0
Field f = Short f × (every is_mark f ≡ true)

-- letters and digits are neither
mark-high : (b : ℕ) → 33 ≤ b → is_mark b ≡ true
unfolding is_mark
mark-high b h = rw (ne_eqb b 32 (λ e. omega arith), ne_eqb b 10 (λ e. omega arith)) refl

name-mark : (b : ℕ) → is_name_class (class_of b) ≡ true → is_mark b ≡ true
name-mark b h = mark-high b (omega (arith, name-range b h))

digit-mark : (b : ℕ) → is_class Digit b ≡ true → is_mark b ≡ true
digit-mark b h = mark-high b (omega (arith, between-true 48 57 b (sym (is_digit b) ∙ h)))

capital-mark : (b : ℕ) → is_class Capital b ≡ true → is_mark b ≡ true
capital-mark b h = mark-high b (omega (arith, between-true 65 90 b (sym (is-capital b) ∙ h)))

-- terms and numbers hold no space and no line feed
term-marked : (f : List ℕ) → is_term f ≡ true → every is_mark f ≡ true
unfolding is_term is_name is_variable
term-marked f h = go (is_name f) refl h
  where
    letter : (f : List ℕ) → is_variable f ≡ true → every is_mark f ≡ true
    letter [] k = refl
    letter (b ∷ []) k = rw (capital-mark b k) refl
    letter (b ∷ c ∷ s) k = absurd (never (sym k))

    go : (b : Bool) → is_name f ≡ b → (b || is_variable f) ≡ true → every is_mark f ≡ true
    go true e k =
        every-weaker (λ b. is_name_class (class_of b)) is_mark f name-mark
        (and-true (between 1 8 (length f)) (every (λ b. is_name_class (class_of b)) f) e).1
    go false e k = letter f k

number-marked : (f : List ℕ) → is_number f ≡ true → every is_mark f ≡ true
unfolding is_number
number-marked [] h = refl
number-marked (b ∷ []) h = rw (digit-mark b h) refl
number-marked (b ∷ c ∷ s) h =
    every-weaker (is_class Digit) is_mark (b ∷ c ∷ s) digit-mark
    (and-true (not (eqb b 48)) (every (is_class Digit) (b ∷ c ∷ s)) h).1

-- so they are fields; and a variable by its letter and number is plain
pub term-field : (f : List ℕ) → is_term f ≡ true → Field f
term-field f h = (term-short f h, term-marked f h)

pub decimal-field : (n : ℕ) → n < 100000000 → Field (decimal n)
decimal-field n h = (decimal-short n h, number-marked (decimal n) (decimal-exact n).0)

pub numbered-marked : (letter x : ℕ) → 33 ≤ letter → every is_mark (numbered_as (letter ∷ []) x) ≡ true
unfolding numbered_as
numbered-marked letter x h = rw (mark-high letter h) (number-marked (decimal (suc x)) (decimal-exact (suc x)).0)

-- more rows are as good a bound
pub lined-more : {l : List ℕ} {j k : ℕ} → j ≤ k → Lined l j → Lined l k
lined-more h x = record { parts = x.parts; cut = x.cut; plain = x.plain; few = omega (arith, h, x.few) }

-- the rows of a line
rows_few : (k : ℕ) (line : List ℕ) → length line ≤ 40 + 38 * k → length (rows_of line) ≤ suc k
unfolding rows_of
rows_few k line h =
    let left = drop 40 line in
    omega (
      arith,
      length-map (pieces 38 left) indented,
      pieces-few 38 k left (omega arith) (omega (arith, length-drop 40 line)),
    )

-- a line of fields without its line feed
behind : List (List ℕ) → List ℕ
behind [] = []
behind (f ∷ fs) = 44 ∷ (f ++ behind fs)

behind-ended : (fs : List (List ℕ)) → ended (behind fs) ≡ fields_behind fs
unfolding behind fields_behind ended
behind-ended [] = refl
behind-ended (f ∷ fs) =
    ap (44 ∷◌) (append_assoc f (behind fs) (10 ∷ []) ∙ ap (λ (l : List ℕ). f ++ l) (behind-ended fs))

behind-marked : (fs : List (List ℕ)) → All Field fs → every is_mark (behind fs) ≡ true
unfolding behind
behind-marked [] C.none = refl
behind-marked (f ∷ fs) (also (short, marked) all) =
    rw (mark-high 44 (omega arith), every_append is_mark f (behind fs), marked) (behind-marked fs all)

-- a plain line with such bytes behind it is plain
plain_then : (first more : List ℕ) → is_plain_line first ≡ true → every is_mark more ≡ true → is_plain_line (first ++ more) ≡ true
unfolding is_plain_line
plain_then [] more plain marked = absurd (never (sym plain))
plain_then (b ∷ s) more plain marked =
    let all = (and-true (not (eqb (suc (length s)) 0)) (every is_mark (b ∷ s)) plain).1 in
    rw (ne_eqb (suc (length (s ++ more))) 0 (λ e. omega arith)) (every_append is_mark (b ∷ s) more ∙ rw (all, marked) refl)

-- the rows of a line of fields
pub line-lined :
    (k : ℕ) (first : List ℕ) (fs : List (List ℕ)) → is_plain_line first ≡ true → All Field fs
    → length first + 9 * length fs ≤ 40 + 38 * k → Lined (line_of first fs) (suc k)
unfolding line_of ended
line-lined k first fs plain all low =
    let line = first ++ behind fs in
    let is : ended line ≡ line_of first fs =
    append_assoc first (behind fs) (10 ∷ []) ∙ ap (λ (l : List ℕ). first ++ l) (behind-ended fs) in
    let few = line-few first fs (all-mono (λ f h. h.0) all) in
    let fits : length line ≤ 40 + 38 * k = omega (arith, few, ap length is, length-append line (10 ∷ []), low) in
    subst (λ l. Lined l (suc k)) is
    (lined-line line (suc k) (plain_then first (behind fs) plain (behind-marked fs all)) (rows_few k line fits))
