-- The overlaps that are left, as partners are chosen head by head.
--   rest_all, rest_more, rest-done       from no partner chosen to all
--   rest-next, rest-past                 over the partners of one head
--   rest-repeat, rest_clash              a partner chosen twice, and heads that do not unify, leave none
--   one_none, one-new, one-lost          partners one to one, with one more
-- Assumes nothing.
use Prim.Native.Nat.{ℕ, suc, ◌≤◌, ◌<◌}
use native.Mathlib.Omega.{arith}
use mathlib.Core.Bool.{Bool, true, false, cond, not, ◌&&◌, ◌||◌}
use mathlib.Core.List.{List, [], ◌∷◌, ◌++◌, map, append_assoc, append-nil}
use mathlib.Core.Option.{Option, none, some}
use mathlib.Core.Path.{◌≡◌, refl, sym, ap, fun_ext, ◌∙◌}
use lib.Dec.{eqb}
use lib.ListN.{length, drop, drop_of_length-le}
use lib.Seq.{drop-cons}
use Rattle.text.specs.Lists.{onward, bind, has, answers, gather, up_to}
use Rattle.text.proofs.Laws.{tabled-length, tabled-at}
use Rattle.text.proofs.ListLaws.{answers-append, answers-map}
use Rattle.semantics.specs.Terms.{map_terms}
use Rattle.semantics.specs.Overlaps.{partner_lists, is_one_to_one, is_pairing, pairings, apart}
use Rattle.semantics.specs.Overlaps.{Numbered, Overlap, overlap_of, overlaps_of}
use Rattle.semantics.proofs.Configurations.{Or, inl, inr}
use Rattle.semantics.proofs.Options.{decide, true-false, apart_eqb, equal-eqb, eqb-equal}
use Rattle.text.proofs.Bools.{and-true, or-false}
use Rattle.tables.proofs.NumberLaws.{has_more}
use Rattle.overlaps.specs.Joins.{all_joined, goal_from}
use Rattle.overlaps.specs.Rests.{rest, rest_from}
use Rattle.overlaps.proofs.JoinLaws.{joined-cut, overlap-joined}

-- the answers over gathered lists and over answers
answers-gather :
    {A B C : Type 0} (f : B → Option C) (g : A → List B) (l : List A)
    → answers f (gather g l) ≡ gather (λ a. answers f (g a)) l
answers-gather f g [] = refl
answers-gather f g (a ∷ l) = answers-append f (g a) (gather g l) ∙ ap (answers f (g a) ++◌) (answers-gather f g l)

answers-chosen :
    {A B : Type 0} (f : A → Option B) (t : A → Bool) (l : List A)
    → answers f (answers (λ a. cond (t a) (some a) none) l) ≡ answers (λ a. cond (t a) (f a) none) l
answers-chosen f t [] = refl
answers-chosen {A} {B} f t (a ∷ l) = go (t a) (answers-chosen f t l)
  where
    go : (b : Bool)
        → answers f (answers (λ a. cond (t a) (some a) none) l) ≡ answers (λ a. cond (t a) (f a) none) l
        → answers f (onward (cond b (some a) none) (answers (λ a. cond (t a) (some a) none) l)
        (λ y. y ∷ answers (λ a. cond (t a) (some a) none) l))
        ≡ onward (cond b (f a) none) (answers (λ a. cond (t a) (f a) none) l) (λ y. y ∷ answers (λ a. cond (t a) (f a) none) l)
    go true e = ap (λ r. onward (f a) r (λ y. y ∷ r)) e
    go false e = e

-- where none has an answer there is none
answers-none : {A B : Type 0} (f : A → Option B) (l : List A) → ((a : A) → f a ≡ none) → answers f l ≡ []
answers-none f [] h = refl
answers-none f (a ∷ l) h = rw (h a) (answers-none f l h)

-- partners one to one: the first ones of more are
has-front : (d : ℕ) (ds es : List ℕ) → has d (ds ++ es) ≡ false → has d ds ≡ false
has-front d [] es h = refl
has-front d (c ∷ ds) es h =
    let (a, b) = or-false (eqb d c) (has d (ds ++ es)) h in
    rw a (has-front d ds es b)

one-front : (ds es : List ℕ) → is_one_to_one (ds ++ es) ≡ true → is_one_to_one ds ≡ true
unfolding is_one_to_one
one-front [] es h = refl
one-front (d ∷ ds) es h =
    let (a, b) = and-true (eqb d 0 || not (has d (ds ++ es))) (is_one_to_one (ds ++ es)) h in
    rw (first (eqb d 0) (has d (ds ++ es)) (has-front d ds es) a) (one-front ds es b)
  where
    first : (b c : Bool) → (c ≡ false → has d ds ≡ false) → (b || not c) ≡ true → (b || not (has d ds)) ≡ true
    first true c f e = refl
    first false true f e = true-false e refl
    first false false f e = rw (f refl)

pub one-not : (ds es : List ℕ) → is_one_to_one ds ≡ false → is_one_to_one (ds ++ es) ≡ false
one-not ds es h = go (decide (is_one_to_one (ds ++ es)))
  where
    go : Or (is_one_to_one (ds ++ es) ≡ true) (is_one_to_one (ds ++ es) ≡ false) → is_one_to_one (ds ++ es) ≡ false
    go (inl e) = true-false (one-front ds es e) h
    go (inr e) = e

-- with one more that is none
pub one_none : (ds : List ℕ) → is_one_to_one ds ≡ true → is_one_to_one (ds ++ (0 ∷ [])) ≡ true
unfolding is_one_to_one
one_none [] h = refl
one_none (c ∷ ds) h =
    let (a, b) = and-true (eqb c 0 || not (has c ds)) (is_one_to_one ds) h in
    rw (has_more c 0 ds, first (eqb c 0) (has c ds) a) (one_none ds b)
  where
    first : (b c : Bool) → (b || not c) ≡ true → (b || not (c || b)) ≡ true
    first true c e = refl
    first false true e = e
    first false false e = refl

-- with one more that is new
pub one-new : (ds : List ℕ) (d : ℕ) → is_one_to_one ds ≡ true → has d ds ≡ false → is_one_to_one (ds ++ (d ∷ [])) ≡ true
unfolding is_one_to_one
one-new [] d h n = go (eqb d 0)
  where
    go : (b : Bool) → ((b || true) && true) ≡ true
    go true = refl
    go false = refl
one-new (c ∷ ds) d h n =
    let (a, b) = and-true (eqb c 0 || not (has c ds)) (is_one_to_one ds) h in
    let (e, f) = or-false (eqb d c) (has d ds) n in
    let g : eqb c d ≡ false = apart_eqb {m = c} {n = d} (λ z. true-false (equal-eqb {m = d} {n = c} (sym z)) e) in
    rw (has_more c d ds, g, first (eqb c 0) (has c ds) a) (one-new ds d b f)
  where
    first : (b c : Bool) → (b || not c) ≡ true → (b || not (c || false)) ≡ true
    first b true e = e
    first b false e = e

-- with one more that is not
pub one-lost : (ds : List ℕ) (d : ℕ) → (d ≡ 0 → ⊥) → has d ds ≡ true → is_one_to_one (ds ++ (d ∷ [])) ≡ false
unfolding is_one_to_one
one-lost [] d z h = true-false h refl
one-lost (c ∷ ds) d z h = go (decide (eqb d c)) (one-lost ds d z)
  where
    late : (b : Bool) → (b && false) ≡ false
    late true = refl
    late false = refl

    twice : (b : Bool) → (b || true) ≡ true
    twice true = refl
    twice false = refl

    go : Or (eqb d c ≡ true) (eqb d c ≡ false) → (has d ds ≡ true → is_one_to_one (ds ++ (d ∷ [])) ≡ false)
        → ((eqb c 0 || not (has c (ds ++ (d ∷ [])))) && is_one_to_one (ds ++ (d ∷ []))) ≡ false
    go (inl e) more =
        let q : d ≡ c = eqb-equal e in
        rw (
          has_more c d ds,
          equal-eqb {m = c} {n = d} (sym q),
          twice (has c ds),
          apart_eqb {m = c} {n = 0} (λ y. z (q ∙ y)),
        )
    go (inr e) more = rw (more (rw e at h)) (late (eqb c 0 || not (has c (ds ++ (d ∷ [])))))

-- no partner is chosen yet
pub rest_all : (i j : Numbered) → overlaps_of i j ≡ rest i j [] (length i.rule.heads)
unfolding overlaps_of pairings rest
rest_all i j = answers-chosen (overlap_of i j) is_pairing (partner_lists (length i.rule.heads) (length j.rule.heads))

module _ (i j : Numbered) where
  abbrev made : List ℕ → Option Overlap
  made ds = cond (is_pairing ds) (overlap_of i j ds) none

  -- one more head, any partner
  pub rest_more : (ds : List ℕ) (k : ℕ) → rest i j ds (suc k) ≡ rest_from i j ds k 0
  unfolding rest rest_from partner_lists
  rest_more ds k =
      let n = length j.rule.heads in
      answers-gather (λ es. made (ds ++ es)) (λ d. map (d ∷◌) (partner_lists k n)) (up_to (suc n))
      ∙ ap (λ f. gather f (up_to (suc n))) (fun_ext (λ d. one d))
    where
      one : (d : ℕ)
          → answers (λ es. made (ds ++ es)) (map (d ∷◌) (partner_lists k (length j.rule.heads)))
          ≡ answers (λ es. made ((ds ++ (d ∷ [])) ++ es)) (partner_lists k (length j.rule.heads))
      one d =
          answers-map (λ es. made (ds ++ es)) (d ∷◌) (partner_lists k (length j.rule.heads))
          ∙ ap (λ f. answers f (partner_lists k (length j.rule.heads)))
          (fun_ext (λ es. ap made (sym (append_assoc ds (d ∷ []) es))))

  -- the numbers from d on
  from_next : (n d : ℕ) → d < n → drop d (up_to n) ≡ d ∷ drop (suc d) (up_to n)
  from_next n d h =
      drop-cons (up_to n) d 0 (omega (arith, tabled-length (λ e. e) n))
      ∙ ap (◌∷ drop (suc d) (up_to n)) (tabled-at (λ e. e) n d 0 h)

  -- partner d, and the later ones
  pub rest-next :
      (ds : List ℕ) (k d : ℕ) → d ≤ length j.rule.heads
      → rest_from i j ds k d ≡ rest i j (ds ++ (d ∷ [])) k ++ rest_from i j ds k (suc d)
  unfolding rest_from
  rest-next ds k d h =
      ap (gather (λ e. rest i j (ds ++ (e ∷ [])) k)) (from_next (suc (length j.rule.heads)) d (omega arith))

  -- no partner is left
  pub rest-past : (ds : List ℕ) (k d : ℕ) → length j.rule.heads < d → rest_from i j ds k d ≡ []
  unfolding rest_from
  rest-past ds k d h =
      ap (gather (λ e. rest i j (ds ++ (e ∷ [])) k))
      (drop_of_length-le (up_to (suc (length j.rule.heads))) {i = d}
      (omega (arith, tabled-length (λ e. e) (suc (length j.rule.heads)))))

  -- all partners are chosen
  pub rest-done :
      (ds : List ℕ) → rest i j ds 0 ≡ onward (cond (is_pairing ds) (overlap_of i j ds) none) [] (λ o. o ∷ [])
  unfolding rest partner_lists
  rest-done ds = ap (λ l. onward (made l) [] (λ o. o ∷ [])) (append-nil ds)

  -- heads that do not unify leave none
  pub rest_clash :
      (ds : List ℕ) (k : ℕ) → all_joined i.rule.heads ds (map (map_terms apart) j.rule.heads) ≡ none → rest i j ds k ≡ []
  unfolding rest
  rest_clash ds k h =
      answers-none (λ es. made (ds ++ es)) (partner_lists k (length j.rule.heads)) (λ es.
      let z : overlap_of i j (ds ++ es) ≡ none =
      overlap-joined i j (ds ++ es)
      ∙ ap (λ o. bind o (λ cs. some (record {
        first = i;
        second = j;
        partners = ds ++ es;
        goal = goal_from (length i.rule.heads) (ds ++ es) cs;
      }))) (joined-cut i.rule.heads (map (map_terms apart) j.rule.heads) ds es h) in
      none-either (is_pairing (ds ++ es)) z)
    where
      none-either : (b : Bool) {o : Option Overlap} → o ≡ none → cond b o none ≡ none
      none-either true e = e
      none-either false e = refl

  -- a partner chosen twice leaves none
  pub rest-repeat : (ds : List ℕ) (k : ℕ) → is_one_to_one ds ≡ false → rest i j ds k ≡ []
  unfolding rest is_pairing
  rest-repeat ds k h =
      answers-none (λ es. made (ds ++ es)) (partner_lists k (length j.rule.heads)) (λ es. rw (one-not ds es h))
