-- Laws of names where they stand: those of a line of the program's text, and of the goal's.
--   rest-word, word-rest, word-inside    what is left of a word behind some of its bytes, and where a word ends
--   spelled-program, spelled-goal        the names of a line, and what is left of them behind some of their bytes
-- Assumes nothing.
use mathlib.Core.Path.{◌≡◌, refl, sym, ap, ◌∙◌}
use mathlib.Core.Bool.{Bool, true, false, cond, ◌||◌}
use mathlib.Core.List.{List, [], ◌∷◌}
use Prim.Native.Nat.{ℕ, zero, suc, ◌+◌, ◌-◌, ◌≤◌, ◌<◌}
use native.Mathlib.Omega.{arith}
use borrow.Author.Tests.{lt-ltb, le-ltb}
use lib.Dec.{eqb}
use lib.ListN.{length, take, drop, get_or, length-take, length-drop}
use lib.Seq.{drop-drop}
use Rattle.text.specs.Fields.{is_name}
use Rattle.text.specs.Keys.{word_length, word}
use Rattle.text.specs.Splits.{Stands}
use Rattle.text.specs.declared.fields.Fields.{Fields}
use Rattle.text.proofs.Keys.{name-size}
use Rattle.tables.specs.Layout.{goal_place}
use Rattle.tables.specs.Names.{name_at, placed_at}
use Rattle.tables.proofs.NameLaws.{name-whole}
use Rattle.lines.specs.Read.{Spelled}

-- a name is what stands at its start
name-stands : (text : List ℕ) (fs : List (List ℕ)) (f : Fields) → Stands text fs f → (i : ℕ) → i < 8 → i < length fs
    → is_name (get_or fs i []) ≡ true → name_at text (get_or f.starts i 0) ≡ get_or fs i []
name-stands text fs f s i low inside named =
    let stood = s.stands i low inside in
    name-whole text (get_or f.starts i 0)
    (omega (arith, ap (λ (w : List ℕ). length w) stood, (name-size (get_or fs i []) named).1)) ∙ stood

-- what is left of a word behind some of its bytes is a word
rest-word : (j : ℕ) (s : List ℕ) → j ≤ word_length s → take (word_length (drop j s)) (drop j s) ≡ drop j (take (word_length s) s)
unfolding word_length
rest-word zero s h = refl
rest-word (suc j) [] h = absurd (omega arith)
rest-word (suc j) (b ∷ s) h = go (eqb b 44 || eqb b 10) (rest-word j s) h
  where
    go : (t : Bool) → (j ≤ word_length s → take (word_length (drop j s)) (drop j s) ≡ drop j (take (word_length s) s))
        → suc j ≤ cond t 0 (suc (word_length s))
        → take (word_length (drop j s)) (drop j s) ≡ drop (suc j) (take (cond t 0 (suc (word_length s))) (b ∷ s))
    go true more k = absurd (omega arith)
    go false more k = more (omega arith)

word-rest : (s : List ℕ) (at j : ℕ) → j < length (word s at) → word s (at + j) ≡ drop j (word s at)
unfolding word
word-rest s at j h =
    ap (λ (l : List ℕ). take (word_length l) l) (sym (drop-drop j at s))
    ∙ rest-word j (drop at s) (omega (arith, length-take (word_length (drop at s)) (drop at s)))

word-inside : (s : List ℕ) (at : ℕ) → length (word s at) ≤ length s - at
unfolding word
word-inside s at = omega (arith, length-take (word_length (drop at s)) (drop at s), length-drop at s)

-- what is left of a name behind some of its bytes stands there too, before the text's end
module _ (text : List ℕ) (fs : List (List ℕ)) (f : Fields) (s : Stands text fs f) (i j : ℕ) (low : i < 8) (inside : i < length fs)
    (named : is_name (get_or fs i []) ≡ true) (more : j < length (get_or fs i [])) where
  rest-stands : name_at text (get_or f.starts i 0 + j) ≡ drop j (get_or fs i [])
  rest-stands =
      let at : ℕ = get_or f.starts i 0 in
      let stood = s.stands i low inside in
      let sized : length (word text at) ≡ length (get_or fs i []) = ap (λ (w : List ℕ). length w) stood in
      let rest : word text (at + j) ≡ drop j (get_or fs i []) =
      word-rest text at j (omega (arith, sized)) ∙ ap (drop j) stood in
      name-whole text (at + j)
      (omega (arith, ap (λ (w : List ℕ). length w) rest, length-drop j (get_or fs i []), (name-size (get_or fs i []) named).1)) ∙ rest

  rest-inside : get_or f.starts i 0 + j < length text
  rest-inside =
      omega (arith, word-inside text (get_or f.starts i 0), ap (λ (w : List ℕ). length w) (s.stands i low inside))

module _ (fs : List (List ℕ)) (f : Fields) where
  -- a text that is not too long ends before the places of the goal's begin
  pub spelled-program : (text goal : List ℕ) → Stands text fs f → length text ≤ 16384 → Spelled text goal 0 fs f
  unfolding placed_at
  spelled-program text goal s short = record {
    each = λ i low inside named.
        (let at : ℕ = get_or f.starts i 0 in
        let start : 0 + at ≡ at = omega arith in
        let near = rest-inside text fs f s i 0 low inside named (name-size (get_or fs i []) named).0 in
        rw (start, lt-ltb at goal_place (omega (arith, near, short))) (name-stands text fs f s i low inside named));
    rests = λ i j low inside named more.
        (let at : ℕ = get_or f.starts i 0 in
        let start : 0 + at + j ≡ at + j = omega arith in
        let near = rest-inside text fs f s i j low inside named more in
        rw (start, lt-ltb (at + j) goal_place (omega (arith, near, short))) (rest-stands text fs f s i j low inside named more));
  }

  pub spelled-goal : (program text : List ℕ) → Stands text fs f → Spelled program text goal_place fs f
  unfolding placed_at
  spelled-goal program text s = record {
    each = λ i low inside named.
        (let start : goal_place + get_or f.starts i 0 - goal_place ≡ get_or f.starts i 0 = omega arith in
        rw (le-ltb (goal_place + get_or f.starts i 0) goal_place (omega arith), start)
        (name-stands text fs f s i low inside named));
    rests = λ i j low inside named more.
        (let start : goal_place + get_or f.starts i 0 + j - goal_place ≡ get_or f.starts i 0 + j = omega arith in
        rw (le-ltb (goal_place + get_or f.starts i 0 + j) goal_place (omega arith), start)
        (rest-stands text fs f s i j low inside named more));
  }
