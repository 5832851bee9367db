-- Rules without a common head symbol have no overlap.
--   pairing-joins          a pairing joins a head
--   unshared-overlaps      rules without a common head symbol
--   symbols-next, -end     the symbols of a rule's heads from one head on
-- Assumes nothing.
use Prim.Native.Nat.{ℕ, zero, suc, ◌+◌, ◌*◌, ◌≤◌, ◌<◌}
use native.Mathlib.Omega.{arith}
use mathlib.Core.Bool.{Bool, true, false, not}
use mathlib.Core.List.{List, [], ◌∷◌, ◌++◌, map}
use mathlib.Core.Option.{Option, none, some}
use mathlib.Core.Path.{◌≡◌, refl, sym, ap, subst, ◌∙◌}
use lib.Dec.{eqb}
use lib.ListN.{length, take, drop, get_or, get_elem?, length-map, drop_of_length-le}
use lib.Seq.{get_or-take, get_or-drop}
use Rattle.text.specs.Lists.{bind, every, has}
use Rattle.text.proofs.Bools.{and-true, or-false}
use Rattle.semantics.specs.Terms.{Constraint, map_terms}
use Rattle.semantics.specs.Overlaps.{apart, equate, join_equations, is_one_to_one, is_pairing, pairings, Numbered, Overlap, overlap_of}
use Rattle.semantics.specs.Overlaps.{overlaps_of}
use Rattle.semantics.proofs.Configurations.{Member, first}
use Rattle.semantics.proofs.Options.{true-false, none-some}
use Rattle.semantics.proofs.Indices.{some-equal}
use Rattle.semantics.proofs.Listings.{answers-member}
use Rattle.semantics.proofs.Enumeration.{overlap-parts, pairings-member}
use Rattle.tables.specs.Cells.{row_constraint, cell_constraints}
use Rattle.tables.specs.Rows.{rule_of_row}
use Rattle.tables.proofs.CellLaws.{element-row}
use Rattle.overlaps.specs.Cells.{RuleRow}
use Rattle.overlaps.specs.Shares.{symbols_of, head_symbols, is_shared}
use Rattle.overlaps.proofs.JoinLaws.{drop-at-element}
use Rattle.overlaps.proofs.NodeLaws.{heads-count}

-- a pairing joins a head
pub pairing-joins : (ds : List ℕ) → is_pairing ds ≡ true → every (eqb 0) ds ≡ false
unfolding is_pairing
pairing-joins ds h = opposite (every (eqb 0) ds) (and-true (is_one_to_one ds) (not (every (eqb 0) ds)) h).1
  where
    opposite : (x : Bool) → not x ≡ true → x ≡ false
    opposite true h = true-false h refl
    opposite false h = refl

-- a symbol that no constraint has, one of them has not
symbol-differs :
    (x : ℕ) (gs : List Constraint) (d : ℕ) {g : Constraint} → has x (symbols_of gs) ≡ false → get_elem? gs d ≡ some g
    → eqb x g.symbol ≡ false
unfolding symbols_of
symbol-differs x [] d h e = none-some refl e
symbol-differs x (c ∷ gs) zero h e =
    subst (λ y. eqb x y.symbol ≡ false) (some-equal e) (or-false (eqb x c.symbol) (has x (symbols_of gs)) h).0
symbol-differs x (c ∷ gs) (suc d) h e =
    symbol-differs x gs d (or-false (eqb x c.symbol) (has x (symbols_of gs)) h).1 e

-- joined heads without a common symbol have no equations
unshared-joins :
    (hs : List Constraint) (ds : List ℕ) (gs : List Constraint) → length ds ≡ length hs → every (eqb 0) ds ≡ false
    → is_shared (symbols_of hs) (symbols_of gs) ≡ false → join_equations hs ds gs ≡ none
unfolding join_equations is_shared symbols_of equate
unshared-joins [] [] gs l e s = true-false refl e
unshared-joins [] (d ∷ ds) gs l e s = absurd (omega arith)
unshared-joins (h ∷ hs) [] gs l e s = absurd (omega arith)
unshared-joins (h ∷ hs) (zero ∷ ds) gs l e s =
    unshared-joins hs ds gs (omega arith) e
    (or-false (has h.symbol (symbols_of gs)) (is_shared (symbols_of hs) (symbols_of gs)) s).1
unshared-joins (h ∷ hs) (suc d ∷ ds) gs l e s =
    go (get_elem? gs d) refl
  where
    go : (x : Option Constraint) → get_elem? gs d ≡ x
        → bind x (λ g. bind (equate h g) (λ es. bind (join_equations hs ds gs) (λ more. some (es ++ more)))) ≡ none
    go none q = refl
    go (some g) q =
        rw (symbol-differs h.symbol gs d
        (or-false (has h.symbol (symbols_of gs)) (is_shared (symbols_of hs) (symbols_of gs)) s).0 q)

-- symbols remain under a renaming
symbols-apart : (cs : List Constraint) → symbols_of (map (map_terms apart) cs) ≡ symbols_of cs
unfolding symbols_of map_terms
symbols-apart [] = refl
symbols-apart (c ∷ cs) = ap (c.symbol ∷◌) (symbols-apart cs)

-- a list that has no element is empty
no_member : {A : Type 0} (l : List A) → ((a : A) → Member a l → ⊥) → l ≡ []
no_member [] h = refl
no_member (a ∷ l) h = absurd (h a first)

-- rules without a common head symbol have no overlap
pub unshared-overlaps :
    (i j : Numbered) → is_shared (symbols_of i.rule.heads) (symbols_of j.rule.heads) ≡ false → overlaps_of i j ≡ []
unfolding overlaps_of
unshared-overlaps i j s = no_member (overlaps_of i j) never
  where
    never : (o : Overlap) → Member o (overlaps_of i j) → ⊥
    never o m =
        let a = length i.rule.heads in
        let b = length j.rule.heads in
        let (ds, n, e) = answers-member (overlap_of i j) (pairings a b) m in
        let is = pairings-member a b ds n in
        none-some
        (unshared-joins i.rule.heads ds (map (map_terms apart) j.rule.heads) is.long (pairing-joins ds is.pairs)
        (ap (is_shared (symbols_of i.rule.heads)) (symbols-apart j.rule.heads) ∙ s))
        (overlap-parts i j ds e).joined

-- the symbols of a rule's heads from number h on
module _ (row : List ℕ) (r : RuleRow row) (h : ℕ) where
  symbols-count : length (head_symbols row) ≡ get_or row 3 0
  unfolding head_symbols symbols_of
  symbols-count = length-map (rule_of_row [] row).heads (λ c. c.symbol) ∙ heads-count row r

  pub symbols-end : get_or row 3 0 ≤ h → drop h (head_symbols row) ≡ []
  symbols-end l = drop_of_length-le (head_symbols row) {i = h} (omega (arith, symbols-count))

  -- hs are the cells of its heads
  pub symbols-next :
      (hs : List ℕ) → length hs ≡ 5 * get_or row 3 0 → cell_constraints hs ≡ (rule_of_row [] row).heads → h < get_or row 3 0
      → drop h (head_symbols row) ≡ get_or hs (5 * h) 0 ∷ drop (suc h) (head_symbols row)
  unfolding head_symbols symbols_of row_constraint
  symbols-next hs size same l =
      let there = element-row hs h (omega (arith, size)) in
      let is : get_or (take 5 (drop (5 * h) hs)) 0 0 ≡ get_or hs (5 * h) 0 =
      get_or-take 5 (drop (5 * h) hs) 0 0 (omega arith) ∙ get_or-drop (5 * h) hs 0 0
      ∙ ap (λ k. get_or hs k 0) (let z : 5 * h + 0 ≡ 5 * h = omega arith in z) in
      rw (← same)
      (map-drop (λ (c : Constraint). c.symbol) h (cell_constraints hs)
      ∙ ap (map (λ c. c.symbol)) (drop-at-element (cell_constraints hs) h there)
      ∙ ap (◌∷ map (λ c. c.symbol) (drop (suc h) (cell_constraints hs))) is
      ∙ ap (get_or hs (5 * h) 0 ∷◌) (sym (map-drop (λ (c : Constraint). c.symbol) (suc h) (cell_constraints hs))))
    where
      map-drop : {A B : Type 0} (f : A → B) (k : ℕ) (l : List A) → drop k (map f l) ≡ map f (drop k l)
      map-drop f zero l = refl
      map-drop f (suc k) [] = refl
      map-drop f (suc k) (a ∷ l) = map-drop f k l
