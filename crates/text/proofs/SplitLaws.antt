-- Laws of a split line, as the readers' loop meets it.
--   lines_at, lines_split, lines-done     the lines of a text from a place on: the line there, then those behind it
--   line-fine                             a line that the split finds no fault with meets no number 2
--   key-at                                the key of one field
-- Assumes nothing.
use mathlib.Core.Path.{◌≡◌, sym, ap, ◌∙◌}
use mathlib.Core.Bool.{false}
use mathlib.Core.List.{List, [], ◌∷◌, map}
use Prim.Native.Nat.{ℕ, suc, ◌+◌, ◌≤◌, ◌<◌}
use native.Mathlib.Numerals.{add-one}
use native.Mathlib.Omega.{arith}
use lib.ListN.{length, drop, get_or, length-drop, drop_of_length-le, get_or-map}
use lib.Seq.{drop-drop, get_or-take}
use Rattle.text.specs.Bytes.{between}
use Rattle.text.specs.Lines.{lines, line_is_faulty}
use Rattle.text.specs.Fields.{is_name, is_variable}
use Rattle.text.specs.Keys.{key_of}
use Rattle.text.specs.Cursors.{before}
use Rattle.text.specs.Splits.{first_line, line_from, line_end, Holds, SplitAt}
use Rattle.text.specs.declared.fields.Fields.{Fields}
use Rattle.text.proofs.LineLaws.{lines_from}

module _ (s : List ℕ) (at : ℕ) where
  pub lines_at : at < length s → lines (drop at s) ≡ line_from s at ∷ lines (drop (suc (line_end s at)) s)
  unfolding line_from first_line line_end
  lines_at h =
      let k : ℕ = before 10 (drop at s) in
      let behind : drop (suc k) (drop at s) ≡ drop (suc (at + k)) s =
      drop-drop (suc k) at s ∙ ap (λ (n : ℕ). drop n s) (let z : at + suc k ≡ suc (at + k) = omega arith in z) in
      lines_from (drop at s) (omega (arith, length-drop at s)) ∙ ap (λ (r : List ℕ). first_line (drop at s) ∷ lines r) behind

  pub lines-done : length s ≤ at → lines (drop at s) ≡ []
  unfolding lines
  lines-done h = rw (drop_of_length-le s h)

  module _ (r : Fields) (split : SplitAt s at r) where
    pub lines_split : at < length s → r.faulty ≡ false → lines (drop at s) ≡ line_from s at ∷ lines (drop (r.end + 1) s)
    lines_split h e =
        lines_at h
        ∙ ap (λ (n : ℕ). line_from s at ∷ lines (drop n s)) (ap suc (sym (split.ends e)) ∙ sym (add-one r.end))

    pub line-fine : r.faulty ≡ false → line_is_faulty (line_from s at) ≡ false
    line-fine e = sym split.faulty ∙ e

-- one field's key
pub key-at : (fs : List (List ℕ)) (f : Fields) (i : ℕ) → Holds fs f → i < 8 → i < length fs
    → get_or f.keys i 0 ≡ key_of (get_or fs i [])
unfolding key_of is_name is_variable between
key-at fs f i h k l =
    sym (get_or-take (length fs) f.keys i 0 l) ∙ ap (λ (ks : List ℕ). get_or ks i 0) h.keyed
    ∙ get_or-take 8 (map key_of fs) i 0 k ∙ get_or-map key_of fs i []
