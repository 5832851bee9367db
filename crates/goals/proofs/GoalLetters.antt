-- Laws of a goal's letters and of its variables' numbers.
--   pigeon                                   numbers below k that differ are at most k
--   letter-low, letter-known, letter-more    one cell, as the code goes by cases
--   row_read                                 the four terms of a constraint
--   letters-after, cells-numbered            the letters after a line, and the terms that its numbered cells stand for
-- Assumes nothing.
use mathlib.Core.Path.{◌≡◌, refl, sym, ap, ap₂, ◌∙◌}
use mathlib.Core.Bool.{Bool, true, false, cond, ◌&&◌}
use mathlib.Core.List.{List, [], ◌∷◌, ◌++◌, map, append-nil}
use Prim.Native.Nat.{ℕ, zero, suc, ◌+◌, ◌-◌, ◌≤◌, ◌<◌}
use native.Mathlib.Numerals.{add-one}
use native.Mathlib.Decide.{ℕ_discrete}
use native.Mathlib.Omega.{arith}
use borrow.Author.Tests.{lt-ltb, le-ltb, eq-eqb, ne_eqb, ltb-true}
use lib.Dec.{eqb, ltb}
use lib.ListN.{length, take, drop, get_or, set, length-set}
use lib.Seq.{take-suc, get_or-set_same, get_or-set_other}
use Rattle.text.specs.Lists.{every, index_from, index_of, is_known, with_name, same_bytes}
use Rattle.text.specs.Fields.{is_name, is_term}
use Rattle.text.specs.Constants.{constant_name}
use Rattle.text.specs.Keys.{key_of}
use Rattle.text.proofs.Laws.{tabled-length, tabled-at}
use Rattle.text.proofs.Keys.{letter-key, variable-range}
use Rattle.text.proofs.Bools.{and-true}
use Rattle.semantics.specs.Terms.{Term, con, var}
use Rattle.syntax.specs.Forms.{first_constant, term_of}
use Rattle.syntax.specs.Goals.{letters_after}
use Rattle.syntax.proofs.Known.{known-front, with-known, same_refl}
use Rattle.syntax.proofs.Tabled.{tabled-same, map-append, name-first, name-second}
use Rattle.tables.specs.Cells.{cell_term, cell_terms}
use Rattle.tables.specs.Rows.{letters_of}
use Rattle.tables.proofs.CellLaws.{cell-low, cell-high}
use Rattle.lines.specs.Read.{term_cell, padded}
use Rattle.lines.proofs.TermCells.{letter-is, letter-range}
use Rattle.goals.specs.declared.LetterRead.{LetterRead}
use Rattle.goals.specs.ReadGoal.{LettersFit, letter_of, with_letter, with_letters, numbered_cell, LetterIn, RowIn}

-- numbers below k of which no two are the same: there are at most k
module _ (n k : ℕ) (f : ℕ → ℕ) (low : (i : ℕ) → i < suc n → f i < suc k)
    (apart : (i j : ℕ) → i < j → j < suc n → f i ≡ f j → ⊥) where
  -- the number k exchanged for the last
  abbrev moved : ℕ → ℕ
  moved i = cond (eqb (f i) k) (f n) (f i)

  moved-is : (i : ℕ) → f i ≡ k → moved i ≡ f n
  moved-is i e = rw (eq-eqb (f i) k e)

  moved-not : (i : ℕ) → (f i ≡ k → ⊥) → moved i ≡ f i
  moved-not i e = rw (ne_eqb (f i) k e)

  moved-low : (i : ℕ) → i < n → moved i < k
  moved-low i h = elim (ℕ_discrete (f i) k) [
    | yes e ↦
        let other : f n ≡ k → ⊥ = λ q. apart i n h (omega arith) (e ∙ sym q) in
        omega (arith, moved-is i e, low n (omega arith), other)
    | no e ↦ omega (arith, moved-not i e, low i (omega arith), e)
  ]

  moved_apart : (i j : ℕ) → i < j → j < n → moved i ≡ moved j → ⊥
  moved_apart i j h l q = elim (ℕ_discrete (f i) k) [
    | yes e ↦ elim (ℕ_discrete (f j) k) [
      | yes d ↦ apart i j h (omega arith) (e ∙ sym d)
      | no d ↦ apart j n l (omega arith) (sym (moved-not j d) ∙ sym q ∙ moved-is i e)
    ]
    | no e ↦ elim (ℕ_discrete (f j) k) [
      | yes d ↦ apart i n (omega arith) (omega arith) (sym (moved-not i e) ∙ q ∙ moved-is j d)
      | no d ↦ apart i j h (omega arith) (sym (moved-not i e) ∙ q ∙ moved-not j d)
    ]
  ]

pub pigeon : (n k : ℕ) (f : ℕ → ℕ) → ((i : ℕ) → i < n → f i < k) → ((i j : ℕ) → i < j → j < n → f i ≡ f j → ⊥) → n ≤ k
pigeon zero k f low apart = omega arith
pigeon (suc n) zero f low apart = absurd (omega (arith, low 0 (omega arith)))
pigeon (suc n) (suc k) f low apart =
    let less : n ≤ k = pigeon n k (moved n k f low apart) (moved-low n k f low apart) (moved_apart n k f low apart) in
    omega arith

-- the place of the first that passes a test is not behind one that does
pub place-le {ℓ} : {A : Type ℓ} (test : A → Bool) (d : A) (j : ℕ) (xs : List A) (i : ℕ) → i < length xs
    → test (get_or xs i d) ≡ true
    → index_from test j xs ≤ j + i
place-le test d j [] i h e = absurd (omega arith)
place-le test d j (x ∷ xs) zero h e = rw e (omega arith)
place-le test d j (x ∷ xs) (suc i) h e =
    pick (test x) (index_from test (suc j) xs) (place-le test d (suc j) xs i (omega arith) e)
  where
    pick : (t : Bool) (p : ℕ) → p ≤ suc j + i → cond t j p ≤ j + suc i
    pick true p l = omega arith
    pick false p l = omega arith

module _ (letters : List ℕ) (v : ℕ) where
  pub letters-length : length (letters_of letters v) ≡ v
  unfolding letters_of
  letters-length = tabled-length (λ i. get_or letters i 0 ∷ []) v

  letters-at : (i : ℕ) → i < v → get_or (letters_of letters v) i [] ≡ get_or letters i 0 ∷ []
  unfolding letters_of
  letters-at i h = tabled-at (λ i. get_or letters i 0 ∷ []) v i [] h

  -- a letter that is not found is none of them
  module _ (b : ℕ) (far : v ≤ index_of (b ∷ []) (letters_of letters v)) where
    pub letter-new : (i : ℕ) → i < v → get_or letters i 0 ≡ b → ⊥
    unfolding index_of
    letter-new i h e =
        let passes : same_bytes (b ∷ []) (get_or (letters_of letters v) i []) ≡ true =
        ap (same_bytes (b ∷ [])) (letters-at i h) ∙ ap (λ (t : Bool). t && true) (eq-eqb b (get_or letters i 0) (sym e)) in
        omega (arith, place-le (same_bytes (b ∷ [])) [] 0 (letters_of letters v) i (omega (arith, letters-length)) passes)

    module _ (fit : LettersFit letters v) (low : 65 ≤ b) (high : b ≤ 90) where
      -- the letters so far and the new one, as numbers below 26
      abbrev numbers : ℕ → ℕ
      numbers i = cond (eqb i v) (b - 65) (get_or letters i 0 - 65)

      numbers-last : (i : ℕ) → i ≡ v → numbers i ≡ b - 65
      numbers-last i e = rw (eq-eqb i v e)

      numbers-old : (i : ℕ) → (i ≡ v → ⊥) → numbers i ≡ get_or letters i 0 - 65
      numbers-old i e = rw (ne_eqb i v e)

      numbers-low : (i : ℕ) → i < suc v → numbers i < 26
      numbers-low i h = elim (ℕ_discrete i v) [
        | yes e ↦ omega (arith, numbers-last i e)
        | no e ↦ omega (arith, numbers-old i e, e, (fit.capital i (omega (arith, e))).1)
      ]

      numbers_apart : (i j : ℕ) → i < j → j < suc v → numbers i ≡ numbers j → ⊥
      numbers_apart i j h l q =
          let first : numbers i ≡ get_or letters i 0 - 65 = numbers-old i (λ z. omega (arith, z)) in
          let at_least : 65 ≤ get_or letters i 0 = (fit.capital i (omega arith)).0 in
          elim (ℕ_discrete j v) [
            | yes e ↦ letter-new i (omega arith) (omega (arith, first, numbers-last j e))
            | no e ↦
                fit.distinct i j h (omega (arith, e))
                (omega (arith, first, numbers-old j e, (fit.capital j (omega (arith, e))).0))
          ]

      pub letter-room : v < 26
      letter-room = let most : suc v ≤ 26 = pigeon (suc v) 26 numbers numbers-low numbers_apart in omega arith

      module _ (sized : length letters ≡ 26) where
        new-at : get_or (set letters v b) v 0 ≡ b
        new-at = get_or-set_same letters v b 0 (omega (arith, letter-room))

        old-at : (i : ℕ) → i < v → get_or (set letters v b) i 0 ≡ get_or letters i 0
        old-at i h = get_or-set_other letters v i b 0 (λ z. omega (arith, z))

        pub letters-more : letters_of (set letters v b) (suc v) ≡ letters_of letters v ++ ((b ∷ []) ∷ [])
        unfolding letters_of
        letters-more =
            ap₂ (λ (xs : List (List ℕ)) (x : ℕ). xs ++ ((x ∷ []) ∷ []))
            (tabled-same (λ i. get_or (set letters v b) i 0 ∷ []) (λ i. get_or letters i 0 ∷ []) v
            (λ i h. ap (λ (x : ℕ). x ∷ []) (old-at i h)))
            new-at

        pub fit-more : LettersFit (set letters v b) (suc v)
        fit-more =
            record {
              few = omega (arith, letter-room);
              capital = λ i h. elim (ℕ_discrete i v) [
                | yes e ↦
                    let here : get_or (set letters v b) i 0 ≡ b = ap (λ (j : ℕ). get_or (set letters v b) j 0) e ∙ new-at in
                    (omega arith, omega arith)
                | no e ↦
                    let here : get_or (set letters v b) i 0 ≡ get_or letters i 0 = old-at i (omega (arith, e)) in
                    let old : (65 ≤ get_or letters i 0) × (get_or letters i 0 ≤ 90) = fit.capital i (omega (arith, e)) in
                    (omega (arith, old.0), omega (arith, old.1))
              ];
              distinct = λ i j h l q.
                  let here : get_or (set letters v b) i 0 ≡ get_or letters i 0 = old-at i (omega arith) in
                  elim (ℕ_discrete j v) [
                    | yes e ↦
                        letter-new i (omega arith)
                        (sym here ∙ q ∙ ap (λ (m : ℕ). get_or (set letters v b) m 0) e ∙ new-at)
                    | no e ↦ fit.distinct i j h (omega (arith, e)) (sym here ∙ q ∙ old-at j (omega (arith, e)))
                  ];
            }

-- the place of a letter among the first v
letters-named : (letters : List ℕ) (v : ℕ) → v ≤ length letters → map (λ x. x ∷ []) (take v letters) ≡ letters_of letters v
unfolding letters_of
letters-named letters zero h = refl
letters-named letters (suc v) h =
    ap (map (λ x. x ∷ [])) (take-suc letters v 0 h)
    ∙ map-append (λ x. x ∷ []) (take v letters) (get_or letters v 0 ∷ [])
    ∙ ap (λ (l : List (List ℕ)). l ++ ((get_or letters v 0 ∷ []) ∷ [])) (letters-named letters v (omega arith))

one_same : (b x : ℕ) → eqb b x ≡ same_bytes (b ∷ []) (x ∷ [])
one_same b x = go (eqb b x)
  where
    go : (t : Bool) → t ≡ (t && true)
    go true = refl
    go false = refl

index-letters : (b i : ℕ) (xs : List ℕ) → index_from (eqb b) i xs ≡ index_from (same_bytes (b ∷ [])) i (map (λ x. x ∷ []) xs)
index-letters b i [] = refl
index-letters b i (x ∷ xs) = ap₂ (λ (t : Bool) (p : ℕ). cond t i p) (one_same b x) (index-letters b (suc i) xs)

index-one : (g : List ℕ) → index_of g (g ∷ []) ≡ 0
unfolding index_of
index-one g = rw (same_refl g)

-- one cell, as the code goes by cases
module _ (cell v : ℕ) (letters : List ℕ) (low : cell < 282) (size : length letters ≡ 26) (fit : LettersFit letters v) where
  abbrev ls : List (List ℕ)
  ls = letters_of letters v

  pub letter-low : cell < 256 → LetterIn cell v letters letters (record { cell = cell; count = v })
  unfolding with_letter numbered_cell
  letter-low h =
      record { lettered = rw (lt-ltb cell 256 h); numbered = rw (lt-ltb cell 256 h); fits = fit; size = refl }

  module _ (h : 256 ≤ cell) (b k : ℕ) (e : b ≡ cell - 191) (q : k ≡ index_from (eqb b) 0 (take v letters)) where
    placed : k ≡ index_of (letter_of cell) ls
    unfolding index_of letter_of
    placed =
        q ∙ index-letters b 0 (take v letters)
        ∙ ap₂ (λ (g : List ℕ) (l : List (List ℕ)). index_from (same_bytes g) 0 l) (ap (λ (x : ℕ). x ∷ []) e)
        (letters-named letters v (omega (arith, fit.few)))

    letter-same : b ∷ [] ≡ letter_of cell
    unfolding letter_of
    letter-same = ap (λ (x : ℕ). x ∷ []) e

    pub letter-known : k < v → LetterIn cell v letters letters (record { cell = 256 + k; count = v })
    unfolding with_letter numbered_cell with_name is_known
    letter-known l =
        record {
          lettered = rw (le-ltb cell 256 h, ← placed, lt-ltb k (length ls) (omega (arith, letters-length letters v)));
          numbered = rw (le-ltb cell 256 h, ← placed);
          fits = fit;
          size = refl;
        }

    module _ (l : v ≤ k) where
      far : v ≤ index_of (b ∷ []) ls
      far = omega (arith, placed, ap (λ (g : List ℕ). index_of g ls) letter-same)

      pub letter-fits : v < 26
      letter-fits = letter-room letters v b far fit (omega arith) (omega arith)

      grown : letters_of (set letters v b) (v + 1) ≡ ls ++ (letter_of cell ∷ [])
      grown =
          ap (letters_of (set letters v b)) (add-one v) ∙ letters-more letters v b far fit (omega arith) (omega arith) size
          ∙ ap (λ (g : List ℕ). ls ++ (g ∷ [])) letter-same

      pub letter-more : LetterIn cell v letters (set letters v b) (record { cell = 256 + v; count = v + 1 })
      unfolding with_letter numbered_cell with_name is_known
      letter-more =
          record {
            lettered = grown
                ∙ sym (rw (le-ltb cell 256 h, ← placed, le-ltb k (length ls) (omega (arith, letters-length letters v))) refl);
            numbered =
                let last : index_of (letter_of cell) (ls ++ (letter_of cell ∷ [])) ≡ v =
                name-second (letter_of cell) ls (letter_of cell ∷ []) (omega (arith, placed, letters-length letters v))
                ∙ omega (arith, index-one (letter_of cell), letters-length letters v) in
                rw (le-ltb cell 256 h, grown, last);
            fits = rw (add-one v) (fit-more letters v b far fit (omega arith) (omega arith) size);
            size = length-set letters v b;
          }

-- a letter that is known stays so, and keeps its number
abbrev Seen : ℕ → List (List ℕ) → Type 0
Seen c l = ltb c 256 ≡ false → is_known (letter_of c) l ≡ true

seen_self : (c : ℕ) (l : List (List ℕ)) → Seen c (with_letter c l)
unfolding with_letter
seen_self c l e = rw e (with-known (letter_of c) l)

with-grows : (d : ℕ) (l : List (List ℕ)) → (more : List (List ℕ)) × (with_letter d l ≡ l ++ more)
unfolding with_letter with_name
with-grows d l = go (ltb d 256) (is_known (letter_of d) l)
  where
    go : (a b : Bool) → (more : List (List ℕ)) × (cond a l (cond b l (l ++ (letter_of d ∷ []))) ≡ l ++ more)
    go true b = ([], sym (append-nil l))
    go false true = ([], sym (append-nil l))
    go false false = (letter_of d ∷ [], refl)

module _ (c d : ℕ) (l : List (List ℕ)) (s : Seen c l) where
  seen_more : Seen c (with_letter d l)
  seen_more e = let (more, q) = with-grows d l in rw q (known-front (letter_of c) l more (s e))

  numbered_more : numbered_cell (with_letter d l) c ≡ numbered_cell l c
  unfolding numbered_cell is_known
  numbered_more = let (more, q) = with-grows d l in rw q (go more (ltb c 256) s)
    where
      go : (more : List (List ℕ)) (b : Bool) → (b ≡ false → ltb (index_of (letter_of c) l) (length l) ≡ true)
          → cond b c (256 + index_of (letter_of c) (l ++ more)) ≡ cond b c (256 + index_of (letter_of c) l)
      go more true k = refl
      go more false k = ap (λ (p : ℕ). 256 + p) (name-first (letter_of c) l more (ltb-true _ _ (k refl)))

five-cells : (row : List ℕ) → length row ≡ 5
    → drop 1 row ≡ get_or row 1 0 ∷ get_or row 2 0 ∷ get_or row 3 0 ∷ get_or row 4 0 ∷ []
five-cells [] h = absurd (omega arith)
five-cells (s ∷ []) h = absurd (omega arith)
five-cells (s ∷ a ∷ []) h = absurd (omega arith)
five-cells (s ∷ a ∷ b ∷ []) h = absurd (omega arith)
five-cells (s ∷ a ∷ b ∷ c ∷ []) h = absurd (omega arith)
five-cells (s ∷ a ∷ b ∷ c ∷ d ∷ []) h = refl
five-cells (s ∷ a ∷ b ∷ c ∷ d ∷ e ∷ row) h = absurd (omega arith)

-- four letters, one behind the other
letters-four : (a b c d : ℕ) (l : List (List ℕ))
    → with_letters (a ∷ b ∷ c ∷ d ∷ []) l ≡ with_letter d (with_letter c (with_letter b (with_letter a l)))
unfolding with_letters
letters-four a b c d l = refl

-- the four terms of a constraint
module _ (row : List ℕ) (v : ℕ) (l₀ l₁ l₂ l₃ l₄ : List ℕ) (a b c d : LetterRead) (size : length row ≡ 5)
    (p : LetterIn (get_or row 1 0) v l₀ l₁ a) (q : LetterIn (get_or row 2 0) a.count l₁ l₂ b)
    (r : LetterIn (get_or row 3 0) b.count l₂ l₃ c) (s : LetterIn (get_or row 4 0) c.count l₃ l₄ d) where
  abbrev L₀ : List (List ℕ)
  L₀ = letters_of l₀ v

  abbrev x : ℕ → ℕ
  x i = get_or row i 0

  first : letters_of l₁ a.count ≡ with_letter (x 1) L₀
  first = p.lettered

  second : letters_of l₂ b.count ≡ with_letter (x 2) (with_letter (x 1) L₀)
  second = q.lettered ∙ ap (with_letter (x 2)) first

  third : letters_of l₃ c.count ≡ with_letter (x 3) (with_letter (x 2) (with_letter (x 1) L₀))
  third = r.lettered ∙ ap (with_letter (x 3)) second

  fourth : letters_of l₄ d.count ≡ with_letter (x 4) (with_letter (x 3) (with_letter (x 2) (with_letter (x 1) L₀)))
  fourth = s.lettered ∙ ap (with_letter (x 4)) third

  cell-one : a.cell ≡ numbered_cell (letters_of l₄ d.count) (x 1)
  cell-one =
      let m₁ = with_letter (x 1) L₀ in
      let m₂ = with_letter (x 2) m₁ in
      let s₁ : Seen (x 1) m₁ = seen_self (x 1) L₀ in
      let s₂ : Seen (x 1) m₂ = seen_more (x 1) (x 2) m₁ s₁ in
      p.numbered ∙ ap (λ (l : List (List ℕ)). numbered_cell l (x 1)) first
      ∙ sym (ap (λ (l : List (List ℕ)). numbered_cell l (x 1)) fourth
      ∙ numbered_more (x 1) (x 4) (with_letter (x 3) m₂) (seen_more (x 1) (x 3) m₂ s₂)
      ∙ numbered_more (x 1) (x 3) m₂ s₂ ∙ numbered_more (x 1) (x 2) m₁ s₁)

  cell-two : b.cell ≡ numbered_cell (letters_of l₄ d.count) (x 2)
  cell-two =
      let m₂ = with_letter (x 2) (with_letter (x 1) L₀) in
      let s₂ : Seen (x 2) m₂ = seen_self (x 2) (with_letter (x 1) L₀) in
      q.numbered ∙ ap (λ (l : List (List ℕ)). numbered_cell l (x 2)) second
      ∙ sym (ap (λ (l : List (List ℕ)). numbered_cell l (x 2)) fourth
      ∙ numbered_more (x 2) (x 4) (with_letter (x 3) m₂) (seen_more (x 2) (x 3) m₂ s₂)
      ∙ numbered_more (x 2) (x 3) m₂ s₂)

  cell-three : c.cell ≡ numbered_cell (letters_of l₄ d.count) (x 3)
  cell-three =
      let m₂ = with_letter (x 2) (with_letter (x 1) L₀) in
      r.numbered ∙ ap (λ (l : List (List ℕ)). numbered_cell l (x 3)) third
      ∙ sym (ap (λ (l : List (List ℕ)). numbered_cell l (x 3)) fourth
      ∙ numbered_more (x 3) (x 4) (with_letter (x 3) m₂) (seen_self (x 3) m₂))

  pub row_read : RowIn row v l₀ l₄
      (record { count = d.count; cells = get_or row 0 0 ∷ a.cell ∷ b.cell ∷ c.cell ∷ d.cell ∷ [] })
  row_read =
      record {
        lettered = fourth ∙ sym (ap (λ (l : List ℕ). with_letters l L₀) (five-cells row size)
            ∙ letters-four (x 1) (x 2) (x 3) (x 4) L₀);
        numbered = rw (five-cells row size, cell-one, cell-two, cell-three, s.numbered);
        fits = s.fits;
        size = s.size ∙ r.size ∙ q.size ∙ p.size;
      }

-- the letter of a term's cell is the term
module _ (cs : List (List ℕ)) (g : List ℕ) (t : is_term g ≡ true) (few : index_of (constant_name g) cs < 192) where
  letter-back : is_name g ≡ false → letter_of (254 + key_of g) ≡ g
  unfolding letter_of
  letter-back n =
      let v = letter-is g t n in
      let one = (variable-range g v).0 in
      ap (λ (x : ℕ). x ∷ []) (let z : 254 + key_of g - 191 ≡ get_or g 0 0 = omega (arith, letter-key g v) in z) ∙ sym one

  one-letter : (l : List (List ℕ)) → with_letter (term_cell cs g) l ≡ cond (is_name g) l (with_name g l)
  unfolding with_letter term_cell
  one-letter l = go (is_name g) refl
    where
      go : (b : Bool) → is_name g ≡ b
          → cond (ltb (cond b (first_constant + index_of (constant_name g) cs) (254 + key_of g)) 256) l
          (with_name (letter_of (cond b (first_constant + index_of (constant_name g) cs) (254 + key_of g))) l)
          ≡ cond b l (with_name g l)
      go true e = rw (lt-ltb (first_constant + index_of (constant_name g) cs) 256 (omega arith))
      go false e =
          rw (le-ltb (254 + key_of g) 256 (omega (arith, (letter-range g t e).0)), letter-back e)

  one_number : (l : List (List ℕ)) → cell_term (numbered_cell l (term_cell cs g)) ≡ term_of (λ f. index_of f l) cs g
  unfolding numbered_cell term_cell term_of
  one_number l = go (is_name g) refl
    where
      go : (b : Bool) → is_name g ≡ b
          → cell_term (cond (ltb (cond b (first_constant + index_of (constant_name g) cs) (254 + key_of g)) 256)
          (cond b (first_constant + index_of (constant_name g) cs) (254 + key_of g))
          (256 + index_of (letter_of (cond b (first_constant + index_of (constant_name g) cs) (254 + key_of g))) l))
          ≡ cond b (con (first_constant + index_of (constant_name g) cs)) (var (index_of g l))
      go true e =
          rw (lt-ltb (first_constant + index_of (constant_name g) cs) 256 (omega arith))
          (cell-low (first_constant + index_of (constant_name g) cs) (omega arith))
      go false e =
          rw (le-ltb (254 + key_of g) 256 (omega (arith, (letter-range g t e).0)), letter-back e)
          (cell-high (256 + index_of g l) (omega arith)
          ∙ ap var (let z : 256 + index_of g l - 256 ≡ index_of g l = omega arith in z))

  one-used : (l : List (List ℕ)) → numbered_cell l (term_cell cs g) ≡ 0 → ⊥
  unfolding numbered_cell term_cell
  one-used l = go (is_name g) refl
    where
      go : (b : Bool) → is_name g ≡ b
          → cond (ltb (cond b (first_constant + index_of (constant_name g) cs) (254 + key_of g)) 256)
          (cond b (first_constant + index_of (constant_name g) cs) (254 + key_of g))
          (256 + index_of (letter_of (cond b (first_constant + index_of (constant_name g) cs) (254 + key_of g))) l) ≡ 0 → ⊥
      go true e z = let y = rw (lt-ltb (first_constant + index_of (constant_name g) cs) 256 (omega arith)) at z in omega (arith, y)
      go false e z =
          let y = rw (le-ltb (254 + key_of g) 256 (omega (arith, (letter-range g t e).0))) at z in omega (arith, y)

zeros-letters : (n : ℕ) (l : List (List ℕ)) → with_letters (padded n []) l ≡ l
unfolding with_letters with_letter padded
zeros-letters zero l = refl
zeros-letters (suc n) l = zeros-letters n l

zeros-terms : (n : ℕ) (l : List (List ℕ)) → cell_terms (map (numbered_cell l) (padded n [])) ≡ []
unfolding padded cell_terms numbered_cell
zeros-terms zero l = refl
zeros-terms (suc n) l = refl

-- the letters after a line
pub letters-after :
    (n : ℕ) (cs gs l : List (List ℕ)) → length gs ≤ n → ((g : List ℕ) → index_of g cs < 192) → every is_term gs ≡ true
    → with_letters (padded n (map (term_cell cs) gs)) l ≡ letters_after gs l
unfolding padded with_letters letters_after
letters-after n cs [] l h few t = zeros-letters n l
letters-after zero cs (g ∷ gs) l h few t = absurd (omega arith)
letters-after (suc n) cs (g ∷ gs) l h few t =
    let (a, b) = and-true (is_term g) (every is_term gs) t in
    ap (with_letters (padded n (map (term_cell cs) gs))) (one-letter cs g a (few (constant_name g)) l)
    ∙ letters-after n cs gs (cond (is_name g) l (with_name g l)) (omega arith) few b

-- the terms that the numbered cells of a line stand for
pub cells-numbered :
    (n : ℕ) (cs gs l : List (List ℕ)) → length gs ≤ n → ((g : List ℕ) → index_of g cs < 192) → every is_term gs ≡ true
    → cell_terms (map (numbered_cell l) (padded n (map (term_cell cs) gs))) ≡ map (term_of (λ f. index_of f l) cs) gs
unfolding padded cell_terms
cells-numbered n cs [] l h few t = zeros-terms n l
cells-numbered zero cs (g ∷ gs) l h few t = absurd (omega arith)
cells-numbered (suc n) cs (g ∷ gs) l h few t =
    let (a, b) = and-true (is_term g) (every is_term gs) t in
    rw (ne_eqb (numbered_cell l (term_cell cs g)) 0 (one-used cs g a (few (constant_name g)) l))
    (ap₂ (λ (y : Term) (ys : List Term). y ∷ ys) (one_number cs g a (few (constant_name g)) l)
    (cells-numbered n cs gs l (omega arith) few b))
