-- The walk over the partners of two rules' heads, as what is left of a list of overlaps.
--   leaf-none, leaf-overlap              all heads have their partner, or none
--   Walking                              the overlaps of the partners from d on are left
--   walking_start … walking-end          the loop over the partners of one head
-- Assumes nothing.
use Prim.Native.Nat.{ℕ, suc, ◌≤◌, ◌<◌}
use mathlib.Core.Bool.{true, false}
use mathlib.Core.List.{List, [], ◌∷◌, ◌++◌, map, append_assoc}
use mathlib.Core.Option.{Option, none, some}
use mathlib.Core.Path.{◌≡◌, ap, ◌∙◌}
use lib.Dec.{eqb}
use lib.ListN.{length}
use Rattle.text.specs.Lists.{every}
use Rattle.semantics.specs.Terms.{Constraint, Program, map_terms}
use Rattle.semantics.specs.Overlaps.{apart, Numbered, Overlap}
use Rattle.semantics.specs.Verdict.{judge}
use Rattle.overlaps.specs.Joins.{paired, goal_from}
use Rattle.overlaps.specs.Rests.{rest, rest_from, GoesOn, StopsAt}
use Rattle.overlaps.proofs.RestLaws.{rest_more, rest-next, rest-past, rest-done}
use Rattle.overlaps.proofs.PairedLaws.{paired_none, paired-overlap, paired-pairing}

module _ (i j : Numbered) where
  abbrev hs : List Constraint
  hs = i.rule.heads

  abbrev gs : List Constraint
  gs = map (map_terms apart) j.rule.heads

  -- the overlap of partners that join all heads
  abbrev pub overlap_by : List ℕ → List Constraint → Overlap
  overlap_by ds cs = record { first = i; second = j; partners = ds; goal = goal_from (length hs) ds cs }

  -- no head has a partner: this is no pairing
  pub leaf-none :
      (ds : List ℕ) (cs : List Constraint) → paired hs ds gs ≡ some cs → every (eqb 0) ds ≡ true → rest i j ds 0 ≡ []
  leaf-none ds cs e h =
      rest-done i j ds ∙ rw (paired-pairing i j ds cs e, h)

  -- one or more have: this is an overlap
  pub leaf-overlap :
      (ds : List ℕ) (cs : List Constraint) → paired hs ds gs ≡ some cs → every (eqb 0) ds ≡ false
      → rest i j ds 0 ≡ overlap_by ds cs ∷ []
  leaf-overlap ds cs e h =
      rest-done i j ds ∙ rw (paired-pairing i j ds cs e, h, paired-overlap i j ds cs e)

  module _ (p : Program) where
    -- of the overlaps whose partners begin with ds, judged from a count of n on, those with partner d or a later one are left,
    -- and the count is s
    pub record Walking (n : ℕ) (ds : List ℕ) (k s d : ℕ) : Type 0 where
      pub left :
          (more : List Overlap) → judge p n (rest i j ds (suc k) ++ more) ≡ judge p s (rest_from i j ds k d ++ more)

    pub walking_start : (n : ℕ) (ds : List ℕ) (k : ℕ) → Walking n ds k n 0
    walking_start n ds k = record { left = λ more. ap (λ l. judge p n (l ++ more)) (rest_more i j ds k) }

    module _ (n : ℕ) (ds : List ℕ) (k s d : ℕ) (w : Walking n ds k s d) where
      -- no partner is left
      pub walking-end : length j.rule.heads < d → GoesOn p n (rest i j ds (suc k)) s
      walking-end h =
          record { goes = λ more. w.left more ∙ ap (λ l. judge p s (l ++ more)) (rest-past i j ds k d h) }

      module _ (h : d ≤ length j.rule.heads) where
        split :
            (more : List Overlap)
            → judge p n (rest i j ds (suc k) ++ more)
            ≡ judge p s (rest i j (ds ++ (d ∷ [])) k ++ (rest_from i j ds k (suc d) ++ more))
        split more =
            w.left more
            ∙ ap (λ l. judge p s (l ++ more)) (rest-next i j ds k d h)
            ∙ ap (judge p s) (append_assoc (rest i j (ds ++ (d ∷ [])) k) (rest_from i j ds k (suc d)) more)

        -- partner d cannot be
        pub walking-cut : paired hs (ds ++ (d ∷ [])) gs ≡ none → Walking n ds k s (suc d)
        walking-cut e =
            record {
              left = λ more.
                  split more
                  ∙ ap (λ l. judge p s (l ++ (rest_from i j ds k (suc d) ++ more))) (paired_none i j (ds ++ (d ∷ [])) k e);
            }

        -- all overlaps with partner d join
        pub walking-next : (t : ℕ) → GoesOn p s (rest i j (ds ++ (d ∷ [])) k) t → Walking n ds k t (suc d)
        walking-next t g = record { left = λ more. split more ∙ g.goes (rest_from i j ds k (suc d) ++ more) }

        -- one does not
        pub walking-stop :
            (shown : Option Overlap) → StopsAt p s (rest i j (ds ++ (d ∷ [])) k) shown → StopsAt p n (rest i j ds (suc k)) shown
        walking-stop shown g =
            record {
              stops =
                  let (o, a, b) = g.stops in
                  (o, a, λ more. split more ∙ b (rest_from i j ds k (suc d) ++ more));
            }
