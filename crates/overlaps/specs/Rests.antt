-- The overlaps that are left while partners are chosen head by head, and what judging some of them answers.
--   rest          the overlaps of two rules whose partners begin with a list
--   rest_from      the same, where the next head's partner is d or more
--   GoesOn, StopsAt      what judging the overlaps in front of a list does, whatever follows
-- Assumes nothing.
use Rattle.std.specs.Prelude.{ℕ, suc, cond, List, [], ◌∷◌, ◌++◌, ◌≡◌, length, drop}
use Rattle.std.proofs.Math.Option.{Option, none, some}
use Rattle.text.specs.Lists.{answers, gather, up_to}
use Rattle.semantics.specs.Terms.{Program}
use Rattle.semantics.specs.Overlaps.{partner_lists, is_pairing, Numbered, Overlap, overlap_of, first_end, second_end}
use Rattle.semantics.specs.Verdict.{unjoined, judge}

-- the overlaps of rules i and j whose partners begin with ds, where k heads of i are left
unfoldable pub rest : Numbered → Numbered → List ℕ → ℕ → List Overlap
rest i j ds k =
    answers (λ es. cond (is_pairing (ds ++ es)) (overlap_of i j (ds ++ es)) none) (partner_lists k (length j.rule.heads))

-- the same, where the next head has partner d or a later one, and k heads are left behind it
unfoldable pub rest_from : Numbered → Numbered → List ℕ → ℕ → ℕ → List Overlap
rest_from i j ds k d = gather (λ e. rest i j (ds ++ (e ∷ [])) k) (drop d (up_to (suc (length j.rule.heads))))

-- the overlaps os, judged from a count of n on, all join, and the count is k then. This and the next say what becomes of every
-- list that begins with them
pub record GoesOn (p : Program) (n : ℕ) (os : List Overlap) (k : ℕ) : Type 0 where
  pub goes : (more : List Overlap) → judge p n (os ++ more) ≡ judge p k more

-- one of them does not join, and it is shown
pub record StopsAt (p : Program) (n : ℕ) (os : List Overlap) (shown : Option Overlap) : Type 0 where
  pub stops :
      (o : Overlap) × (shown ≡ some o)
      × ((more : List Overlap) → judge p n (os ++ more) ≡ unjoined o (first_end p o) (second_end p o))
