-- Laws of the lines of a text and the fields of a line, by their first bytes.
--   before-is, before-not        what stands before the first of a value, one byte in front
--   lines_from                   the lines of a text: the first, then those behind its line feed
--   fields-is, fields-not        the fields of a line, one byte in front; fields-some: there is at least one
-- Assumes nothing.
use mathlib.Core.Path.{◌≡◌, ap, ◌∙◌}
use mathlib.Core.Bool.{true}
use mathlib.Core.List.{List, [], ◌∷◌}
use Prim.Native.Nat.{ℕ, suc, ◌<◌}
use native.Mathlib.Nat.{not-suc-le-zero}
use native.Mathlib.Decide.{ℕ_discrete}
use native.Mathlib.Omega.{arith}
use borrow.Author.Tests.{eq-eqb, ne_eqb, lt-ltb}
use lib.Dec.{ltb, leb-suc-suc}
use lib.ListN.{length, take, drop}
use Rattle.text.specs.Lines.{Line, in_first_line, lines}
use Rattle.text.specs.Fields.{in_first_field, fields}
use Rattle.text.specs.Cursors.{before}

-- one element in front: what stands before the first x, the lines and the fields
pub before-is : (x b : ℕ) (s : List ℕ) → b ≡ x → before x (b ∷ s) ≡ 0
unfolding before
before-is x b s e = rw (eq-eqb b x e)

pub before-not : (x b : ℕ) (s : List ℕ) → (b ≡ x → ⊥) → before x (b ∷ s) ≡ suc (before x s)
unfolding before
before-not x b s e = rw (ne_eqb b x e)

lines-is : (b : ℕ) (s : List ℕ) → b ≡ 10 → lines (b ∷ s) ≡ record { bytes = []; ended = true } ∷ lines s
unfolding lines
lines-is b s e = rw (eq-eqb b 10 e)

lines-not : (b : ℕ) (s : List ℕ) → (b ≡ 10 → ⊥) → lines (b ∷ s) ≡ in_first_line b (lines s)
unfolding lines
lines-not b s e = rw (ne_eqb b 10 e)

pub fields-is : (b : ℕ) (s : List ℕ) → b ≡ 44 → fields (b ∷ s) ≡ [] ∷ fields s
unfolding fields
fields-is b s e = rw (eq-eqb b 44 e)

pub fields-not : (b : ℕ) (s : List ℕ) → (b ≡ 44 → ⊥) → fields (b ∷ s) ≡ in_first_field b (fields s)
unfolding fields
fields-not b s e = rw (ne_eqb b 44 e)

-- the first line of a text, up to its k-th byte, and the lines behind that
abbrev cut_lines : List ℕ → ℕ → List Line
cut_lines s k = record { bytes = take k s; ended = ltb k (length s) } ∷ lines (drop (suc k) s)

abbrev Cut : ℕ → List ℕ → Type 0
Cut b s = lines (b ∷ s) ≡ cut_lines (b ∷ s) (before 10 (b ∷ s))

cut-here : (b : ℕ) (s : List ℕ) → b ≡ 10 → Cut b s
unfolding lines
cut-here b s e =
    rw (before-is 10 b s e, lt-ltb 0 (suc (length s)) (omega arith)) (lines-is b s e)

cut-last : (b : ℕ) → (b ≡ 10 → ⊥) → Cut b []
unfolding lines in_first_line before
cut-last b e = rw (before-not 10 b [] e) (lines-not b [] e)

cut_on : (b c : ℕ) (s : List ℕ) → (b ≡ 10 → ⊥) → Cut c s → Cut b (c ∷ s)
unfolding in_first_line
cut_on b c s e h =
    rw (before-not 10 b (c ∷ s) e, leb-suc-suc (suc (before 10 (c ∷ s))) (suc (length s)))
    (lines-not b (c ∷ s) e ∙ ap (in_first_line b) h)

lines_split : (b : ℕ) (s : List ℕ) → Cut b s
lines_split b [] = elim (ℕ_discrete b 10) [ yes e ↦ cut-here b [] e | no e ↦ cut-last b e ]
lines_split b (c ∷ s) =
    let h : Cut c s = lines_split c s in
    elim (ℕ_discrete b 10) [ yes e ↦ cut-here b (c ∷ s) e | no e ↦ cut_on b c s e h ]

pub lines_from : (l : List ℕ) → 0 < length l → lines l ≡ cut_lines l (before 10 l)
lines_from [] h = absurd (not-suc-le-zero h)
lines_from (b ∷ s) h = lines_split b s

-- a line has at least one field
in-first-some : (b : ℕ) (fs : List (List ℕ)) → 0 < length fs → 0 < length (in_first_field b fs)
unfolding in_first_field
in-first-some b [] h = absurd (not-suc-le-zero h)
in-first-some b (f ∷ fs) h = h

pub fields-some : (l : List ℕ) → 0 < length (fields l)
unfolding fields
fields-some [] = omega arith
fields-some (b ∷ l) = elim (ℕ_discrete b 44) [
  | yes e ↦ rw (eq-eqb b 44 e) (omega arith)
  | no e ↦ rw (ne_eqb b 44 e) (in-first-some b (fields l) (fields-some l))
]
