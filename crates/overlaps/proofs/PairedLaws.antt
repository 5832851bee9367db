-- The heads of two rules, joined partner by partner.
--   paired-start      no head has a partner yet
--   paired-next       one more head, with its partner
--   paired-cut        what cannot be joined cannot with more partners
--   paired_none       where the heads so far cannot be joined, no overlap begins so
--   paired-overlap    where all heads have theirs, the overlap
-- Assumes nothing.
use Prim.Native.Nat.{ℕ, zero, suc, ◌+◌, ◌≤◌, ◌<◌}
use native.Mathlib.Omega.{arith}
use mathlib.Core.Bool.{Bool, true, false, cond, not}
use mathlib.Core.List.{List, [], ◌∷◌, ◌++◌, map}
use mathlib.Core.Option.{Option, none, some}
use mathlib.Core.Path.{◌≡◌, refl, sym, ap, ◌∙◌}
use lib.Dec.{eqb}
use lib.ListN.{length, get_elem?, length-append, length-map}
use Rattle.text.specs.Lists.{bind, every, has}
use Rattle.semantics.specs.Terms.{Constraint, map_terms}
use Rattle.semantics.specs.Solving.{solve}
use Rattle.semantics.specs.Overlaps.{is_one_to_one, is_pairing, apart, Numbered, overlap_of}
use Rattle.semantics.proofs.Configurations.{Or, inl, inr}
use Rattle.semantics.proofs.Options.{decide, cond-some}
use Rattle.overlaps.specs.Joins.{joined, join_next, all_joined, paired, goal_from}
use Rattle.overlaps.specs.Rests.{rest}
use Rattle.overlaps.proofs.JoinLaws.{join-no-more, joined-none, joined-next, joined-cut, joined-parts, overlap-joined}
use Rattle.overlaps.proofs.RestLaws.{rest_clash, rest-repeat, one-not, one_none, one-new, one-lost}
use Rattle.overlaps.proofs.TermLaws.{replaced-none}

-- an element that is there
element-there : {A : Type 0} (l : List A) (k : ℕ) → k < length l → (a : A) × (get_elem? l k ≡ some a)
element-there [] k h = absurd (omega arith)
element-there (a ∷ l) zero h = (a, refl)
element-there (a ∷ l) (suc k) h = element-there l k (omega arith)

module _ (hs gs : List Constraint) where
  -- no head has a partner yet
  pub paired-start : paired hs [] gs ≡ some (hs ++ gs)
  unfolding paired is_one_to_one all_joined solve
  paired-start = rw (join-no-more hs gs) (ap some (replaced-none (hs ++ gs)))

  -- as many constraints as heads
  joined_length : (ds : List ℕ) (cs : List Constraint) → all_joined hs ds gs ≡ some cs → length cs ≡ length hs + length gs
  joined_length ds cs e =
      let p = joined-parts hs ds gs cs e in
      ap length (sym p.same) ∙ length-map (hs ++ gs) (map_terms p.solution) ∙ length-append hs gs

  -- one more head, with its partner or none
  pub paired-next :
      (ds : List ℕ) (d : ℕ) (cs : List Constraint) → paired hs ds gs ≡ some cs → length ds < length hs → d ≤ length gs
      → paired hs (ds ++ (d ∷ [])) gs ≡ join_next (length hs) ds d cs
  unfolding paired join_next
  paired-next ds zero cs e l k =
      let (a, b) = cond-some (is_one_to_one ds) e in
      rw (one_none ds a) (joined-none hs gs ds ∙ b)
  paired-next ds (suc d) cs e l k =
      let (a, b) = cond-some (is_one_to_one ds) e in
      let size = joined_length ds cs b in
      let (h, p) = element-there cs (length ds) (omega arith) in
      let (g, q) = element-there cs (length hs + d) (omega arith) in
      go (decide (has (suc d) ds)) a (rw (p, q) (joined-next hs gs ds d cs h g b l p q))
    where
      go : Or (has (suc d) ds ≡ true) (has (suc d) ds ≡ false) → is_one_to_one ds ≡ true
          → all_joined hs (ds ++ (suc d ∷ [])) gs
          ≡ bind (get_elem? cs (length ds)) (λ h. bind (get_elem? cs (length hs + d)) (λ g. joined h g cs))
          → cond (is_one_to_one (ds ++ (suc d ∷ []))) (all_joined hs (ds ++ (suc d ∷ [])) gs) none
          ≡ cond (has (suc d) ds) none
          (bind (get_elem? cs (length ds)) (λ h. bind (get_elem? cs (length hs + d)) (λ g. joined h g cs)))
      go (inl t) a f = rw (t, one-lost ds (suc d) (λ z. omega arith) t)
      go (inr t) a f = rw (t, one-new ds (suc d) a t) f

  -- what cannot be joined cannot with more partners
  pub paired-cut : (ds es : List ℕ) → paired hs ds gs ≡ none → paired hs (ds ++ es) gs ≡ none
  unfolding paired
  paired-cut ds es e = go (decide (is_one_to_one ds))
    where
      none-either : (b : Bool) {o : Option (List Constraint)} → o ≡ none → cond b o none ≡ none
      none-either true f = f
      none-either false f = refl

      go : Or (is_one_to_one ds ≡ true) (is_one_to_one ds ≡ false)
          → cond (is_one_to_one (ds ++ es)) (all_joined hs (ds ++ es) gs) none ≡ none
      go (inl t) = none-either (is_one_to_one (ds ++ es)) (joined-cut hs gs ds es (rw t at e))
      go (inr t) = rw (one-not ds es t)

module _ (i j : Numbered) where
  abbrev hs : List Constraint
  hs = i.rule.heads

  abbrev gs : List Constraint
  gs = map (map_terms apart) j.rule.heads

  -- where the heads so far cannot be joined, no overlap begins so
  pub paired_none : (ds : List ℕ) (k : ℕ) → paired hs ds gs ≡ none → rest i j ds k ≡ []
  unfolding paired
  paired_none ds k e = go (decide (is_one_to_one ds))
    where
      go : Or (is_one_to_one ds ≡ true) (is_one_to_one ds ≡ false) → rest i j ds k ≡ []
      go (inl t) = rest_clash i j ds k (rw t at e)
      go (inr t) = rest-repeat i j ds k t

  -- where all heads have theirs, the overlap
  pub paired-overlap :
      (ds : List ℕ) (cs : List Constraint) → paired hs ds gs ≡ some cs
      → overlap_of i j ds ≡ some (record { first = i; second = j; partners = ds; goal = goal_from (length hs) ds cs })
  unfolding paired
  paired-overlap ds cs e = overlap-joined i j ds ∙ rw (cond-some (is_one_to_one ds) e).1

  -- which is one of a pairing where some head is joined
  pub paired-pairing : (ds : List ℕ) (cs : List Constraint) → paired hs ds gs ≡ some cs → is_pairing ds ≡ not (every (eqb 0) ds)
  unfolding paired is_pairing
  paired-pairing ds cs e = rw (cond-some (is_one_to_one ds) e).0

  -- and where heads joined one to one do not unify there is none
  pub paired-clash : (ds : List ℕ) → is_one_to_one ds ≡ true → paired hs ds gs ≡ none → overlap_of i j ds ≡ none
  unfolding paired
  paired-clash ds o e = overlap-joined i j ds ∙ rw (rw o at e)
