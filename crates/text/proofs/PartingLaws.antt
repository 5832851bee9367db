-- Laws of the parting of an input at its first line `GOAL`.
--   parted-step, parted-found, parted-end    the parting, one byte on, at the line `GOAL`, at the input's end
--   goal-room, goal-length                   the line `GOAL` is 5 bytes
-- Assumes nothing.
use mathlib.Core.Path.{◌≡◌, refl, sym, ap, ap₂, ◌∙◌}
use mathlib.Core.Bool.{Bool, true, false, ◌&&◌}
use mathlib.Core.List.{List, [], ◌∷◌, ◌++◌, append-nil}
use Prim.Native.Nat.{ℕ, suc, ◌+◌, ◌≤◌, ◌<◌}
use native.Mathlib.Omega.{arith}
use lib.Dec.{eqb}
use lib.ListN.{length, take, drop, get_or, length-drop, length-take, drop_of_length-le}
use lib.Seq.{drop-drop, drop-cons, take-suc, append_snoc}
use Rattle.text.specs.Bytes.{ascii}
use Rattle.text.specs.Lists.{same_bytes}
use Rattle.text.specs.Lines.{goal_line, Parts, in_program, parted_from}
use Rattle.text.specs.Cursors.{behind, parts_at}
use Rattle.text.proofs.Laws.{same_length}

-- the line `GOAL` is 5 bytes
pub goal-length : length goal_line ≡ 5
unfolding goal_line ascii
goal-length = refl

abbrev parts : List ℕ → List ℕ → Parts
parts p g = record { program = p; goal = g }

from_cons : (f : Bool) (b : ℕ) (t : List ℕ) → (f && same_bytes (take 5 (b ∷ t)) goal_line) ≡ false
    → parted_from f (b ∷ t) ≡ in_program b (parted_from (eqb b 10) t)
unfolding parted_from
from_cons f b t e = rw e

from-goal : (f : Bool) (b : ℕ) (t : List ℕ) → (f && same_bytes (take 5 (b ∷ t)) goal_line) ≡ true
    → parted_from f (b ∷ t) ≡ parts [] (drop 5 (b ∷ t))
unfolding parted_from
from-goal f b t e = rw e

behind-in : (p : List ℕ) (b : ℕ) (q : Parts) → behind p (in_program b q) ≡ behind (p ++ (b ∷ [])) q
unfolding behind in_program
behind-in p b q = ap (λ (l : List ℕ). parts l q.goal) (sym (append_snoc p b q.program))

module _ (s : List ℕ) (i : ℕ) (fresh : Bool) where
  abbrev test : Bool
  test = fresh && same_bytes (take 5 (drop i s)) goal_line

  pub parted-step : i < length s → test ≡ false
      → behind (take i s) (parted_from fresh (drop i s)) ≡ behind (take (suc i) s)
      (parted_from (eqb (get_or s i 0) 10) (drop (suc i) s))
  parted-step h e =
      let b : ℕ = get_or s i 0 in
      let t : List ℕ = drop (suc i) s in
      let d : drop i s ≡ b ∷ t = drop-cons s i 0 h in
      let e' : (fresh && same_bytes (take 5 (b ∷ t)) goal_line) ≡ false =
      sym (ap (λ (l : List ℕ). fresh && same_bytes (take 5 l) goal_line) d) ∙ e in
      ap (λ (l : List ℕ). behind (take i s) (parted_from fresh l)) d
      ∙ ap (λ (q : Parts). behind (take i s) q) (from_cons fresh b t e')
      ∙ behind-in (take i s) b (parted_from (eqb b 10) t)
      ∙ ap (λ (l : List ℕ). behind l (parted_from (eqb b 10) t)) (sym (take-suc s i 0 h))

  pub parted-found : i < length s → test ≡ true → behind (take i s) (parted_from fresh (drop i s)) ≡ parts_at s i (i + 5)
  unfolding behind parts_at
  parted-found h e =
      let b : ℕ = get_or s i 0 in
      let t : List ℕ = drop (suc i) s in
      let d : drop i s ≡ b ∷ t = drop-cons s i 0 h in
      let e' : (fresh && same_bytes (take 5 (b ∷ t)) goal_line) ≡ true =
      sym (ap (λ (l : List ℕ). fresh && same_bytes (take 5 l) goal_line) d) ∙ e in
      let g : drop 5 (b ∷ t) ≡ drop (i + 5) s = sym (ap (λ (l : List ℕ). drop 5 l) d) ∙ drop-drop 5 i s in
      ap (λ (l : List ℕ). behind (take i s) (parted_from fresh l)) d
      ∙ ap (λ (q : Parts). behind (take i s) q) (from-goal fresh b t e')
      ∙ ap₂ parts (append-nil (take i s)) g

  pub parted-end : length s ≤ i → behind (take i s) (parted_from fresh (drop i s)) ≡ parts_at s i i
  unfolding parted_from behind parts_at
  parted-end h = rw (drop_of_length-le s h) (ap (λ (l : List ℕ). parts l []) (append-nil (take i s)))

-- where the line `GOAL` stands, there is room for it
pub goal-room : (s : List ℕ) (i : ℕ) → same_bytes (take 5 (drop i s)) goal_line ≡ true → i + 5 ≤ length s
goal-room s i e =
    omega
    (arith, same_length (take 5 (drop i s)) goal_line e, goal-length, length-take 5 (drop i s), length-drop i s)
