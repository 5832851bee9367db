-- Laws of values stored in a list from a place on, as its parts are read back.
--   cut-pasted       a part that ends with what was stored
--   cut-before, drop-behind, at_before, at_in    what stands before, behind and in it
--   row-..           the rows of a table of 64 cells each
-- Assumes nothing.
use mathlib.Core.Path.{◌≡◌, sym, ap, ap₂, ◌∙◌}
use mathlib.Core.List.{List, ◌++◌, append_assoc}
use Prim.Native.Nat.{ℕ, ◌+◌, ◌-◌, ◌≤◌, ◌<◌}
use native.Mathlib.Omega.{arith}
use lib.ListN.{length, take, drop, get_or, length-append, length-drop, get_or-append}
use lib.Seq.{take-length, drop-append-le, take_at, take-append-le, take-take, drop-drop, paste, length-take-le}
use lib.Seq.{get_or-take}
use lib.Seq.{get_or-append-add, drop-append-add}
use lib.Seq.{length-paste}
use Rattle.text.proofs.Laws.{drop-take}

module _ (l : List ℕ) (a : ℕ) (vs : List ℕ) (fits : a + length vs ≤ length l) where
  abbrev k : ℕ
  k = length vs

  abbrev new : List ℕ
  new = paste l a vs k

  whole : new ≡ (take a l ++ vs) ++ drop (a + k) l
  whole = ap (λ (x : List ℕ). (take a l ++ x) ++ drop (a + k) l) (take-length vs)

  front : length (take a l ++ vs) ≡ a + k
  front = length-append (take a l) vs ∙ ap (λ (n : ℕ). n + k) (length-take-le a l (omega arith))

  front_cut : (b n : ℕ) → b + n ≡ a → drop b (take a l) ≡ take n (drop b l)
  front_cut b n e =
      drop-take b a l (omega arith) ∙ ap (λ (m : ℕ). take m (drop b l)) (let z : a - b ≡ n = omega arith in z)

  drop-front : (b : ℕ) → b ≤ a → drop b new ≡ (drop b (take a l) ++ vs) ++ drop (a + k) l
  drop-front b h =
      let sized : length (take a l) ≡ a = length-take-le a l (omega arith) in
      ap (λ (x : List ℕ). drop b x) whole
      ∙ drop-append-le b (take a l ++ vs) (drop (a + k) l) (omega (arith, front))
      ∙ ap (λ (x : List ℕ). x ++ drop (a + k) l) (drop-append-le b (take a l) vs (omega arith))

  pub cut-pasted : (b n : ℕ) → b + n ≡ a → take (n + k) (drop b new) ≡ take n (drop b l) ++ vs
  cut-pasted b n e =
      let sized : length (take n (drop b l)) ≡ n = length-take-le n (drop b l) (omega (arith, length-drop b l)) in
      ap (λ (x : List ℕ). take (n + k) x)
      (drop-front b (omega arith) ∙ ap (λ (x : List ℕ). (x ++ vs) ++ drop (a + k) l) (front_cut b n e))
      ∙ take_at (take n (drop b l) ++ vs) (drop (a + k) l) (n + k)
      (length-append (take n (drop b l)) vs ∙ ap (λ (m : ℕ). m + k) sized)

  pub cut-before : (b n : ℕ) → b + n ≤ a → take n (drop b new) ≡ take n (drop b l)
  cut-before b n h =
      let m : ℕ = a - b in
      let e : b + m ≡ a = omega arith in
      let sized : length (take m (drop b l)) ≡ m = length-take-le m (drop b l) (omega (arith, length-drop b l)) in
      ap (λ (x : List ℕ). take n x)
      (drop-front b (omega arith) ∙ ap (λ (x : List ℕ). (x ++ vs) ++ drop (a + k) l) (front_cut b m e)
      ∙ append_assoc (take m (drop b l)) vs (drop (a + k) l))
      ∙ take-append-le n (take m (drop b l)) (vs ++ drop (a + k) l) (omega (arith, sized))
      ∙ take-take n m (drop b l) (omega arith)

  pub drop-behind : (b : ℕ) → a + k ≤ b → drop b new ≡ drop b l
  drop-behind b h =
      let p : List ℕ = take a l ++ vs in
      let e : b ≡ length p + (b - (a + k)) = omega (arith, front) in
      ap₂ (λ (n : ℕ) (x : List ℕ). drop n x) e whole
      ∙ drop-append-add p (drop (a + k) l) (b - (a + k))
      ∙ drop-drop (b - (a + k)) (a + k) l
      ∙ ap (λ (n : ℕ). drop n l) (let z : a + k + (b - (a + k)) ≡ b = omega arith in z)

  pub at_before : (j : ℕ) → j < a → get_or new j 0 ≡ get_or l j 0
  at_before j h =
      let sized : length (take a l) ≡ a = length-take-le a l (omega arith) in
      ap (λ (x : List ℕ). get_or x j 0) (whole ∙ append_assoc (take a l) vs (drop (a + k) l))
      ∙ get_or-append (take a l) (vs ++ drop (a + k) l) 0 j (omega arith)
      ∙ get_or-take a l j 0 h

  pub at_in : (j : ℕ) → j < k → get_or new (a + j) 0 ≡ get_or vs j 0
  at_in j h =
      let sized : length (take a l) ≡ a = length-take-le a l (omega arith) in
      ap₂ (λ (x : List ℕ) (n : ℕ). get_or x n 0) (whole ∙ append_assoc (take a l) vs (drop (a + k) l))
      (ap (λ (n : ℕ). n + j) (sym sized))
      ∙ get_or-append-add (take a l) (vs ++ drop (a + k) l) j 0
      ∙ get_or-append vs (drop (a + k) l) 0 j h

  pub new-length : length new ≡ length l
  new-length = length-paste l a vs k fits (omega arith)
