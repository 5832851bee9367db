-- Listings made of plain lines, which are not empty and hold no space, and how many rows they take on pages.
--   is_plain_line                a line of bytes that are neither spaces nor line feeds, at least one
--   Lined                      such lines, each with its line feed, that take at most so many rows
--   lined-none, lined-line, lined_then      no line, one line, lines behind lines
-- Assumes nothing.
use Prim.Native.Nat.{ℕ, ◌+◌, ◌≤◌}
use native.Mathlib.Omega.{arith}
use mathlib.Core.Bool.{Bool, true, not, ◌&&◌}
use mathlib.Core.List.{List, [], ◌∷◌, ◌++◌, append-nil}
use mathlib.Core.Path.{◌≡◌, refl, ap, ◌∙◌}
use lib.Dec.{eqb}
use lib.ListN.{length, length-append}
use Rattle.text.specs.Lists.{every, gather}
use Rattle.text.proofs.Laws.{every_append}
use Rattle.text.proofs.ListLaws.{gather_append}
use Rattle.pages.specs.Pages.{rows_of}

-- a byte that is neither a space nor a line feed
unfoldable pub is_mark : ℕ → Bool
is_mark b = not (eqb b 32) && not (eqb b 10)

-- a line of such bytes, at least one
unfoldable pub is_plain_line : List ℕ → Bool
is_plain_line line = not (eqb (length line) 0) && every is_mark line

-- a line with its line feed
unfoldable pub ended : List ℕ → List ℕ
ended line = line ++ (10 ∷ [])

-- plain lines, each with its line feed, that take at most k rows
pub record Lined (listing : List ℕ) (k : ℕ) : Type 0 where
  pub parts : List (List ℕ)
  pub cut : gather ended parts ≡ listing
  pub plain : every is_plain_line parts ≡ true
  pub few : length (gather rows_of parts) ≤ k

pub lined-none : Lined [] 0
lined-none = record { parts = []; cut = refl; plain = refl; few = omega arith }

pub lined-line : (line : List ℕ) (k : ℕ) → is_plain_line line ≡ true → length (rows_of line) ≤ k → Lined (ended line) k
lined-line line k plain few =
    record {
      parts = line ∷ [];
      cut = append-nil (ended line);
      plain = rw plain refl;
      few = omega (arith, few, length-append (rows_of line) []);
    }

pub lined_then : {a b : List ℕ} {j k : ℕ} → Lined a j → Lined b k → Lined (a ++ b) (j + k)
lined_then {a} {b} {j} {k} x y =
    record {
      parts = x.parts ++ y.parts;
      cut = gather_append ended x.parts y.parts ∙ rw (x.cut, y.cut) refl;
      plain = every_append is_plain_line x.parts y.parts ∙ rw (x.plain, y.plain) refl;
      few = omega (
        arith,
        x.few,
        y.few,
        ap length (gather_append rows_of x.parts y.parts),
        length-append (gather rows_of x.parts) (gather rows_of y.parts),
      );
    }
