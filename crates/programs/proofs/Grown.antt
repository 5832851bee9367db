-- Laws of the last rule of a table as a line adds to it.
--   rules-grown, sound-grown          the table, where one more is stored in its last row
--   last-constraints, last-sides      the counts of the last rule
--   constraint-grown, sides-grown     the last rule with one constraint more in a part, or one equation more
--   with_one_kept, kept-grown           one more of its heads counted as kept
-- Assumes nothing.
use mathlib.Core.Path.{◌≡◌, refl, sym, ap, ap₂, ◌∙◌}
use mathlib.Core.List.{List, [], ◌∷◌, ◌++◌}
use Prim.Native.Nat.{ℕ, zero, suc, ◌+◌, ◌-◌, ◌*◌, ◌≤◌, ◌<◌}
use native.Mathlib.Nat.{mul-suc}
use native.Mathlib.Numerals.{add-one}
use native.Mathlib.Decide.{ℕ_discrete, dec_lt}
use native.Mathlib.Omega.{arith}
use lib.ListN.{length, take, drop, get_or, set, length-set, length-drop}
use lib.Seq.{paste, get_or-set_same, get_or-set_other, drop-set-lt, drop-set-add, take-set-le, take-take, drop-drop, length-take-le}
use Rattle.text.specs.Lists.{tabled}
use Rattle.text.proofs.Laws.{drop-take}
use Rattle.semantics.specs.Terms.{Constraint, Equation, Rule}
use Rattle.syntax.specs.Programs.{RuleRead, on_last, last_rule, with_head, with_body, with_equation}
use Rattle.syntax.proofs.Tabled.{tabled-same}
use Rattle.tables.specs.Layout.{first_rule}
use Rattle.tables.specs.Cells.{cell_term, row_constraint, cell_constraints, cell_equations}
use Rattle.tables.specs.Rows.{name_of, rule_of_row, row_of, rule_of}
use Rattle.tables.proofs.CellLaws.{constraints-length}
use Rattle.lines.proofs.Weighing.{constraints-append, five-is}
use Rattle.programs.specs.declared.Stage.{Stage}
use Rattle.programs.specs.Read.{rule_read, rules_read, RowFits, Sound}
use Rattle.programs.proofs.Pasted.{cut-pasted, cut-before, drop-behind, at_before, new-length}
use Rattle.programs.proofs.Drafts.{row-cell}

-- whole equations in front of more cells
equations-append : (h : ℕ) (xs ys : List ℕ) → length xs ≡ 2 * h → cell_equations (xs ++ ys) ≡ cell_equations xs ++ cell_equations ys
unfolding cell_equations
equations-append zero [] ys e = refl
equations-append zero (x ∷ xs) ys e = absurd (omega arith)
equations-append (suc h) [] ys e = absurd (omega arith)
equations-append (suc h) (a ∷ []) ys e = absurd (omega arith)
equations-append (suc h) (a ∷ b ∷ xs) ys e =
    ap (λ (l : List Equation). record { left = cell_term a; right = cell_term b } ∷ l) (equations-append h xs ys (omega arith))

equations-length : (h : ℕ) (xs : List ℕ) → length xs ≡ 2 * h → length (cell_equations xs) ≡ h
unfolding cell_equations
equations-length zero [] e = refl
equations-length zero (x ∷ xs) e = absurd (omega arith)
equations-length (suc h) [] e = absurd (omega arith)
equations-length (suc h) (a ∷ []) e = absurd (omega arith)
equations-length (suc h) (a ∷ b ∷ xs) e = ap suc (equations-length h xs (omega arith))

-- the rule that lines add to
last_snoc : (xs : List RuleRead) (x : RuleRead) → last_rule (xs ++ (x ∷ [])) ≡ x.rule
unfolding last_rule
last_snoc [] x = refl
last_snoc (y ∷ []) x = refl
last_snoc (y ∷ z ∷ xs) x = last_snoc (z ∷ xs) x

on-snoc : (f : Rule → Rule) (xs : List RuleRead) (x : RuleRead)
    → on_last f (xs ++ (x ∷ [])) ≡ xs ++ (record { rule = f x.rule; line = x.line } ∷ [])
unfolding on_last
on-snoc f [] x = refl
on-snoc f (y ∷ []) x = refl
on-snoc f (y ∷ z ∷ xs) x = ap (λ (l : List RuleRead). y ∷ l) (on-snoc f (z ∷ xs) x)

-- a row behind a place
row_drop : (cells : List ℕ) (i b : ℕ) → b ≤ 64 → drop b (row_of cells i) ≡ take (64 - b) (drop (64 * i + b) cells)
row_drop cells i b h =
    drop-take b 64 (drop (64 * i) cells) h ∙ ap (λ (l : List ℕ). take (64 - b) l) (drop-drop b (64 * i) cells)

row_cut : (cells : List ℕ) (i b m : ℕ) → b + m ≤ 64 → take m (drop b (row_of cells i)) ≡ take m (drop (64 * i + b) cells)
row_cut cells i b m h =
    ap (λ (l : List ℕ). take m l) (row_drop cells i b (omega arith))
    ∙ take-take m (64 - b) (drop (64 * i + b) cells) (omega arith)

-- the cells of a row from b on, w to each of the count in cell t
abbrev part_of : List ℕ → ℕ → ℕ → ℕ → List ℕ
part_of row t b w = take (w * get_or row t 0) (drop b row)

-- values stored in row i from `at` on, and one more counted in its cell s
module _ (cells : List ℕ) (i s at h : ℕ) (vs : List ℕ) (room : 64 * i + 64 ≤ length cells) (fits : at + length vs ≤ 64)
    (low : s < 6) (high : 6 ≤ at) where
  abbrev pub grown : List ℕ
  grown = set (paste cells (64 * i + at) vs (length vs)) (64 * i + s) (suc h)

  abbrev stored : List ℕ
  stored = paste cells (64 * i + at) vs (length vs)

  inner : 64 * i + at + length vs ≤ length cells
  inner = omega arith

  stored-length : length stored ≡ length cells
  stored-length = new-length cells (64 * i + at) vs inner

  pub grown-length : length grown ≡ length cells
  grown-length = length-set stored (64 * i + s) (suc h) ∙ stored-length

  pub cell-counted : get_or grown (64 * i + s) 0 ≡ suc h
  cell-counted = get_or-set_same stored (64 * i + s) (suc h) 0 (omega (arith, stored-length))

  cell-kept : (j : ℕ) → j < 64 * i + 6 → (j ≡ 64 * i + s → ⊥) → get_or grown j 0 ≡ get_or cells j 0
  cell-kept j p q = get_or-set_other stored (64 * i + s) j (suc h) 0 q ∙ at_before cells (64 * i + at) vs inner j (omega arith)

  pub other-count : (j : ℕ) → j < 6 → (j ≡ s → ⊥) → get_or grown (64 * i + j) 0 ≡ get_or cells (64 * i + j) 0
  other-count j p q = cell-kept (64 * i + j) (omega arith) (λ e. q (omega (arith, e)))

  count-grown : (t m : ℕ) → t < 6 → get_or cells (64 * i + t) 0 ≤ m → (t ≡ s → suc h ≤ m) → get_or grown (64 * i + t) 0 ≤ m
  count-grown t m p q r = elim (ℕ_discrete t s) [
    | yes e ↦ omega (arith, ap (λ (k : ℕ). get_or grown (64 * i + k) 0) e ∙ cell-counted, r e)
    | no e ↦ omega (arith, other-count t p e, q)
  ]

  row-cell-kept : (j : ℕ) → j < 6 → (j ≡ s → ⊥) → get_or (row_of grown i) j 0 ≡ get_or (row_of cells i) j 0
  row-cell-kept j p q = row-cell grown i j (omega (arith, p)) ∙ other-count j p q ∙ sym (row-cell cells i j (omega (arith, p)))

  row-cell-counted : get_or (row_of grown i) s 0 ≡ suc h
  row-cell-counted = row-cell grown i s (omega arith) ∙ cell-counted

  cut-kept : (b m : ℕ) → 6 ≤ b → b + m ≤ at → take m (drop b (row_of grown i)) ≡ take m (drop b (row_of cells i))
  cut-kept b m p q =
      row_cut grown i b m (omega arith)
      ∙ ap (λ (l : List ℕ). take m l) (drop-set-lt (64 * i + b) stored (64 * i + s) (suc h) (omega arith))
      ∙ cut-before cells (64 * i + at) vs inner (64 * i + b) m (omega arith)
      ∙ sym (row_cut cells i b m (omega arith))

  drop-kept : (b : ℕ) → b ≤ 64 → at + length vs ≤ b → drop b (row_of grown i) ≡ drop b (row_of cells i)
  drop-kept b p q =
      row_drop grown i b p
      ∙ ap (λ (l : List ℕ). take (64 - b) l)
      (drop-set-lt (64 * i + b) stored (64 * i + s) (suc h) (omega arith)
      ∙ drop-behind cells (64 * i + at) vs inner (64 * i + b) (omega arith))
      ∙ sym (row_drop cells i b p)

  cut-grown : (b m : ℕ) → 6 ≤ b → b + m ≡ at → take (m + length vs) (drop b (row_of grown i))
      ≡ take m (drop b (row_of cells i)) ++ vs
  cut-grown b m p q =
      row_cut grown i b (m + length vs) (omega arith)
      ∙ ap (λ (l : List ℕ). take (m + length vs) l) (drop-set-lt (64 * i + b) stored (64 * i + s) (suc h) (omega arith))
      ∙ cut-pasted cells (64 * i + at) vs inner (64 * i + b) m (omega arith)
      ∙ ap (λ (l : List ℕ). l ++ vs) (sym (row_cut cells i b m (omega arith)))

  -- what a row holds in parts: those before and behind what is stored, and the part that it is stored in
  part-before : (t b w : ℕ) → t < 6 → (t ≡ s → ⊥) → 6 ≤ b → b + w * get_or (row_of cells i) t 0 ≤ at
      → part_of (row_of grown i) t b w ≡ part_of (row_of cells i) t b w
  part-before t b w p q r z =
      ap (λ (n : ℕ). take (w * n) (drop b (row_of grown i))) (row-cell-kept t p q) ∙ cut-kept b (w * get_or (row_of cells i) t 0) r z

  part-behind : (t b w : ℕ) → t < 6 → (t ≡ s → ⊥) → b ≤ 64 → at + length vs ≤ b
      → part_of (row_of grown i) t b w ≡ part_of (row_of cells i) t b w
  part-behind t b w p q r z = ap₂ (λ (n : ℕ) (l : List ℕ). take (w * n) l) (row-cell-kept t p q) (drop-kept b r z)

  part-more : (b w : ℕ) → 6 ≤ b → w ≡ length vs → b + w * h ≡ at → h ≡ get_or cells (64 * i + s) 0
      → part_of (row_of grown i) s b w ≡ part_of (row_of cells i) s b w ++ vs
  part-more b w p l q e =
      ap (λ (n : ℕ). take (w * n) (drop b (row_of grown i))) row-cell-counted
      ∙ ap (λ (n : ℕ). take n (drop b (row_of grown i))) (mul-suc w h ∙ ap (λ (n : ℕ). w * h + n) l)
      ∙ cut-grown b (w * h) p q
      ∙ ap (λ (n : ℕ). take (w * n) (drop b (row_of cells i)) ++ vs) (e ∙ sym (row-cell cells i s (omega arith)))

  row_before : (j : ℕ) → j < i → row_of grown j ≡ row_of cells j
  row_before j p =
      let x : ℕ = 64 * i + s - 64 * j in
      ap (λ (k : ℕ). take 64 (drop (64 * j) (set stored k (suc h)))) (let z : 64 * i + s ≡ 64 * j + x = omega arith in z)
      ∙ ap (λ (l : List ℕ). take 64 l) (drop-set-add (64 * j) stored x (suc h))
      ∙ take-set-le 64 (drop (64 * j) stored) x (suc h) (omega arith)
      ∙ cut-before cells (64 * i + at) vs inner (64 * j) 64 (omega arith)

  -- no more heads are kept than there are, still
  kept-few : h ≡ get_or cells (64 * i + s) 0 → get_or cells (64 * i + 1) 0 ≤ get_or cells (64 * i + 3) 0
      → (1 ≡ s → h < get_or cells (64 * i + 3) 0) → get_or grown (64 * i + 1) 0 ≤ get_or grown (64 * i + 3) 0
  kept-few e few v = elim (ℕ_discrete 1 s) [
    | yes p ↦
        let one : get_or grown (64 * i + 1) 0 ≡ suc h = ap (λ (k : ℕ). get_or grown (64 * i + k) 0) p ∙ cell-counted in
        omega (arith, one, other-count 3 (omega arith) (λ q. omega (arith, p, q)), v p)
    | no p ↦ elim (ℕ_discrete 3 s) [
      | yes q ↦
          let three : get_or grown (64 * i + 3) 0 ≡ suc h = ap (λ (k : ℕ). get_or grown (64 * i + k) 0) q ∙ cell-counted in
          let before : h ≡ get_or cells (64 * i + 3) 0 = e ∙ ap (λ (k : ℕ). get_or cells (64 * i + k) 0) (sym q) in
          omega (arith, three, before, few, other-count 1 (omega arith) p)
      | no q ↦ omega (arith, few, other-count 1 (omega arith) p, other-count 3 (omega arith) q)
    ]
  ]

  row-grown : RowFits (row_of cells i) → h ≡ get_or cells (64 * i + s) 0 → (1 ≡ s → h < get_or cells (64 * i + 3) 0)
      → (3 ≡ s → h < 4) → (4 ≡ s → h < 6) → (5 ≡ s → h < 4) → RowFits (row_of grown i)
  row-grown g e v x y z =
      let few : (t m : ℕ) → t < 6 → get_or (row_of cells i) t 0 ≤ m → (t ≡ s → suc h ≤ m) → get_or (row_of grown i) t 0 ≤ m =
      λ t m p q r. (let a = row-cell cells i t (omega (arith, p)) in
      let b = row-cell grown i t (omega (arith, p)) in
      let c = count-grown t m p (omega (arith, a, q)) r in
      omega (arith, b, c)) in
      let before : (t : ℕ) → t < 6 → get_or (row_of cells i) t 0 ≡ get_or cells (64 * i + t) 0 =
      λ t p. row-cell cells i t (omega (arith, p)) in
      let after : (t : ℕ) → t < 6 → get_or (row_of grown i) t 0 ≡ get_or grown (64 * i + t) 0 =
      λ t p. row-cell grown i t (omega (arith, p)) in
      let kept = kept-few e (omega (arith, g.kept, before 1 (omega arith), before 3 (omega arith))) v in
      record {
        kept = omega (arith, kept, after 1 (omega arith), after 3 (omega arith));
        heads = few 3 4 (omega arith) g.heads (λ e. omega (arith, x e));
        body = few 4 6 (omega arith) g.body (λ e. omega (arith, y e));
        equations = few 5 4 (omega arith) g.equations (λ e. omega (arith, z e));
      }

  pub sound-grown : (st : Stage) (count : ℕ) → st.rules ≡ suc i → Sound cells st → count ≤ 64
      → h ≡ get_or cells (64 * i + s) 0 → (1 ≡ s → h < get_or cells (64 * i + 3) 0)
      → (3 ≡ s → h < 4) → (4 ≡ s → h < 6) → (5 ≡ s → h < 4)
      → Sound grown (record { section = st.section; symbols = st.symbols; rules = st.rules; constants = count })
  sound-grown st count q g fit e v x y z =
      record {
        few-symbols = g.few-symbols;
        few-rules = g.few-rules;
        few-constants = fit;
        rows = λ j p. elim (dec_lt j i) [
          | yes k ↦ rw (row_before j k) (g.rows j p)
          | no k ↦
              let same : j ≡ i = omega (arith, k, p) in
              rw same (row-grown (g.rows i (omega arith)) e v x y z)
        ];
      }

  -- the table, where the change of the row is a change of its rule, and the rules' names are the same
  pub rules-grown :
      (names names' : List ℕ) (f : Rule → Rule) → ((j : ℕ) → j < suc i
      → get_or names' (first_rule + j) 0 ≡ get_or names (first_rule + j) 0)
      → (s ≡ 2 → ⊥)
      → rule_of_row (name_of names (first_rule + i)) (row_of grown i) ≡ f (rule_of_row (name_of names (first_rule + i)) (row_of cells i))
      → rules_read names' grown (suc i) ≡ on_last f (rules_read names cells (suc i))
  unfolding rules_read rule_read rule_of name_of
  rules-grown names names' f same q e =
      ap₂ (λ (xs : List RuleRead) (x : RuleRead). xs ++ (x ∷ []))
      (tabled-same (rule_read names' grown) (rule_read names cells) i (λ j p. rw (row_before j p, same j (omega (arith, p)))))
      (rw (same i (omega arith), e, row-cell-kept 2 (omega arith) (λ z. q (sym z))))
      ∙ sym (on-snoc f (tabled (rule_read names cells) i) (rule_read names cells i))

abbrev rule_with : List ℕ → ℕ → List Constraint → List Constraint → List Equation → Rule
rule_with name kept heads body equations =
    record { name = name; kept = kept; heads = heads; body = body; equations = equations }

rule-path : {n : List ℕ} {k k' : ℕ} {h h' b b' : List Constraint} {e e' : List Equation} → k ≡ k' → h ≡ h' → b ≡ b' → e ≡ e'
    → rule_with n k h b e ≡ rule_with n k' h' b' e'
rule-path p q r s = cc

two-are : (a b : ℕ) → cell_equations (a ∷ b ∷ []) ≡ record { left = cell_term a; right = cell_term b } ∷ []
unfolding cell_equations
two-are a b = refl

-- part 0 of a rule, its heads, and part 1, its body
abbrev pub constraints_in : ℕ → Rule → List Constraint
constraints_in zero r = r.heads
constraints_in (suc w) r = r.body

abbrev pub with_constraint : ℕ → Constraint → Rule → Rule
with_constraint zero = with_head
with_constraint (suc w) = with_body

-- one more head counted as kept
unfoldable pub with_one_kept : Rule → Rule
with_one_kept r =
    record { name = r.name; kept = r.kept + 1; heads = r.heads; body = r.body; equations = r.equations }

row-constraints : (name row : List ℕ) (w : ℕ) → w ≤ 1
    → constraints_in w (rule_of_row name row) ≡ cell_constraints (part_of row (3 + w) (6 + 20 * w) 5)
unfolding rule_of_row
row-constraints name row zero p = refl
row-constraints name row (suc zero) p = refl
row-constraints name row (suc (suc w)) p = absurd (omega arith)

module _ (names cells : List ℕ) (i : ℕ) (room : 64 * i + 64 ≤ length cells) where
  abbrev name : List ℕ
  name = name_of names (first_rule + i)

  last-is : last_rule (rules_read names cells (suc i)) ≡ rule_of_row name (row_of cells i)
  unfolding rules_read rule_read rule_of
  last-is = last_snoc (tabled (rule_read names cells) i) (rule_read names cells i)

  part_length : (t b w m : ℕ) → t < 6 → m ≡ get_or cells (64 * i + t) 0 → b + w * m ≤ 64
      → length (part_of (row_of cells i) t b w) ≡ w * m
  part_length t b w m p e q =
      let n : get_or (row_of cells i) t 0 ≡ m = row-cell cells i t (omega arith) ∙ sym e in
      ap (λ (k : ℕ). length (take (w * k) (drop b (row_of cells i)))) n
      ∙ ap (λ (l : List ℕ). length l) (row_cut cells i b (w * m) q)
      ∙ length-take-le (w * m) (drop (64 * i + b) cells) (omega (arith, length-drop (64 * i + b) cells))

  -- the counts of the last rule
  pub last-constraints : (w h : ℕ) → w ≤ 1 → h ≡ get_or cells (64 * i + (3 + w)) 0 → h ≤ 4 + 2 * w
      → length (constraints_in w (last_rule (rules_read names cells (suc i)))) ≡ h
  last-constraints w h p e few =
      ap (λ (r : Rule). length (constraints_in w r)) last-is
      ∙ ap (λ (l : List Constraint). length l) (row-constraints name (row_of cells i) w p)
      ∙ constraints-length h (part_of (row_of cells i) (3 + w) (6 + 20 * w) 5)
      (part_length (3 + w) (6 + 20 * w) 5 h (omega arith) e (omega arith))

  pub last-sides : (h : ℕ) → h ≡ get_or cells (64 * i + 5) 0 → h ≤ 4
      → length (last_rule (rules_read names cells (suc i))).equations ≡ h
  unfolding rule_of_row
  last-sides h e few =
      ap (λ (r : Rule). length r.equations) last-is
      ∙ equations-length h (part_of (row_of cells i) 5 56 2) (part_length 5 56 2 h (omega arith) e (omega arith))

  -- the heads, where they stand before what is stored
  module _ (s at h : ℕ) (vs : List ℕ) (fits : at + length vs ≤ 64) (low : s < 6) (high : 6 ≤ at) where
    abbrev new : List ℕ
    new = row_of (grown cells i s at h vs room fits low high) i

    heads-kept : (3 ≡ s → ⊥) → get_or cells (64 * i + 3) 0 ≤ 4 → 26 ≤ at
        → cell_constraints (part_of new 3 6 5) ≡ cell_constraints (part_of (row_of cells i) 3 6 5)
    heads-kept x few p =
        let n : get_or (row_of cells i) 3 0 ≡ get_or cells (64 * i + 3) 0 = row-cell cells i 3 (omega arith) in
        ap cell_constraints (part-before cells i s at h vs room fits low high 3 6 5 (omega arith) x (omega arith) (omega arith))

  -- one constraint more
  module _ (h : ℕ) (five : List ℕ) (size : length five ≡ 5) (few-heads : get_or cells (64 * i + 3) 0 ≤ 4) where
    constraints-more : (w : ℕ) (p : w ≤ 1) (e : h ≡ get_or cells (64 * i + (3 + w)) 0) (few : h < 4 + 2 * w)
        → cell_constraints (part_of (new (3 + w) (6 + 20 * w + 5 * h) h five (omega arith) (omega arith) (omega arith)) (3 + w)
        (6 + 20 * w) 5)
        ≡ cell_constraints (part_of (row_of cells i) (3 + w) (6 + 20 * w) 5) ++ (row_constraint five ∷ [])
    constraints-more w p e few =
        ap cell_constraints (part-more cells i (3 + w) (6 + 20 * w + 5 * h) h five room (omega arith) (omega arith) (omega arith)
        (6 + 20 * w) 5 (omega arith) (sym size) refl e)
        ∙ constraints-append h (part_of (row_of cells i) (3 + w) (6 + 20 * w) 5) five
        (part_length (3 + w) (6 + 20 * w) 5 h (omega arith) e (omega arith))
        ∙ ap (λ (l : List Constraint). cell_constraints (part_of (row_of cells i) (3 + w) (6 + 20 * w) 5) ++ l) (five-is five size)

    pub constraint-grown : (w : ℕ) (p : w ≤ 1) (e : h ≡ get_or cells (64 * i + (3 + w)) 0) (few : h < 4 + 2 * w)
        → rule_of_row name (new (3 + w) (6 + 20 * w + 5 * h) h five (omega arith) (omega arith) (omega arith))
        ≡ with_constraint w (row_constraint five) (rule_of_row name (row_of cells i))
    unfolding rule_of_row with_head with_body
    constraint-grown zero p e few =
        rule-path
        (row-cell-kept cells i 3 (6 + 5 * h) h five room (omega arith) (omega arith) (omega arith) 1 (omega arith)
        (λ z. omega (arith, z)))
        (constraints-more 0 p e few)
        (ap cell_constraints (part-behind cells i 3 (6 + 5 * h) h five room (omega arith) (omega arith) (omega arith)
        4 26 5 (omega arith) (λ z. omega (arith, z)) (omega arith) (omega arith)))
        (ap cell_equations (part-behind cells i 3 (6 + 5 * h) h five room (omega arith) (omega arith) (omega arith)
        5 56 2 (omega arith) (λ z. omega (arith, z)) (omega arith) (omega arith)))
    constraint-grown (suc zero) p e few =
        rule-path
        (row-cell-kept cells i 4 (26 + 5 * h) h five room (omega arith) (omega arith) (omega arith) 1 (omega arith)
        (λ z. omega (arith, z)))
        (heads-kept 4 (26 + 5 * h) h five (omega arith) (omega arith) (omega arith) (λ z. omega (arith, z)) few-heads
        (omega arith))
        (constraints-more 1 p e few)
        (ap cell_equations (part-behind cells i 4 (26 + 5 * h) h five room (omega arith) (omega arith) (omega arith)
        5 56 2 (omega arith) (λ z. omega (arith, z)) (omega arith) (omega arith)))
    constraint-grown (suc (suc w)) p e few = absurd (omega arith)

  -- one equation more
  module _ (h a b : ℕ) (e : h ≡ get_or cells (64 * i + 5) 0) (few : h < 4) (heads : get_or cells (64 * i + 3) 0 ≤ 4)
      (body : get_or cells (64 * i + 4) 0 ≤ 6) where
    abbrev two-more : List ℕ
    two-more = a ∷ b ∷ []

    pub sides-grown : rule_of_row name (new 5 (56 + 2 * h) h two-more (omega arith) (omega arith) (omega arith))
        ≡ with_equation (record { left = cell_term a; right = cell_term b }) (rule_of_row name (row_of cells i))
    unfolding rule_of_row with_equation
    sides-grown =
        let n : get_or (row_of cells i) 4 0 ≡ get_or cells (64 * i + 4) 0 = row-cell cells i 4 (omega arith) in
        rule-path
        (row-cell-kept cells i 5 (56 + 2 * h) h two-more room (omega arith) (omega arith) (omega arith) 1 (omega arith)
        (λ z. omega (arith, z)))
        (heads-kept 5 (56 + 2 * h) h two-more (omega arith) (omega arith) (omega arith) (λ z. omega (
          arith,
          z,
        )) heads
        (omega arith))
        (ap cell_constraints (part-before cells i 5 (56 + 2 * h) h two-more room (omega arith) (omega arith) (omega arith)
        4 26 5 (omega arith) (λ z. omega (arith, z)) (omega arith) (omega arith)))
        (ap cell_equations (part-more cells i 5 (56 + 2 * h) h two-more room (omega arith) (omega arith) (omega arith) 56 2
        (omega arith) refl refl e)
        ∙ equations-append h (part_of (row_of cells i) 5 56 2) two-more (part_length 5 56 2 h (omega arith) e (omega arith))
        ∙ ap (λ (l : List Equation). cell_equations (part_of (row_of cells i) 5 56 2) ++ l) (two-are a b))

  -- one more head counted as kept, and nothing stored behind the counts
  module _ (k : ℕ) (e : k ≡ get_or cells (64 * i + 1) 0) where
    abbrev pub kept_row : List ℕ
    kept_row = row_of (grown cells i 1 6 k [] room (omega arith) (omega arith) (omega arith)) i

    part_stays : (t b w : ℕ) → t < 6 → (t ≡ 1 → ⊥) → 6 ≤ b → b ≤ 64 → part_of kept_row t b w ≡ part_of (row_of cells i) t b w
    part_stays t b w p x low high =
        part-behind cells i 1 6 k [] room (omega arith) (omega arith) (omega arith) t b w p x high low

    pub kept-grown : rule_of_row name kept_row ≡ with_one_kept (rule_of_row name (row_of cells i))
    unfolding rule_of_row with_one_kept
    kept-grown =
        rule-path
        (row-cell-counted cells i 1 6 k [] room (omega arith) (omega arith) (omega arith)
        ∙ sym (add-one k) ∙ ap (λ (n : ℕ). n + 1) (e ∙ sym (row-cell cells i 1 (omega arith))))
        (ap cell_constraints (part_stays 3 6 5 (omega arith) (λ z. omega (arith, z)) (omega arith) (omega arith)))
        (ap cell_constraints (part_stays 4 26 5 (omega arith) (λ z. omega (arith, z)) (omega arith) (omega arith)))
        (ap cell_equations (part_stays 5 56 2 (omega arith) (λ z. omega (arith, z)) (omega arith) (omega arith)))
