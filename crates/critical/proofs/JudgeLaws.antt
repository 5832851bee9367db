-- Judging overlaps from the front of a list, whatever follows them.
--   judged-none, judged-joins, judged-parts     no overlap, one that joins, one that does not
--   judged-more, judged-stopped                 more overlaps behind those judged
--   judged-confluent, judged-unjoined           all overlaps of a program
--   second-next, first_next, …-end              the rule pairs that are left
--   numbered-rule                               a rule of a table, with its number
-- Assumes nothing.
use Prim.Native.Nat.{ℕ, zero, suc, ◌+◌, ◌≤◌, ◌<◌}
use native.Mathlib.Omega.{arith}
use mathlib.Core.Bool.{true, false}
use mathlib.Core.List.{List, [], ◌∷◌, ◌++◌, append_assoc, append-nil}
use mathlib.Core.Option.{Option, some}
use mathlib.Core.Path.{◌≡◌, refl, sym, ap, ◌∙◌}
use lib.ListN.{length, drop, get_elem?, drop_of_length-le}
use Rattle.text.specs.Lists.{gather, tabled}
use Rattle.text.proofs.Laws.{tabled-length}
use Rattle.semantics.specs.Terms.{Rule, Program}
use Rattle.semantics.specs.Overlaps.{Numbered, Overlap, numbered_from, overlaps_of, overlaps_among, overlaps, first_end, second_end}
use Rattle.semantics.specs.Verdict.{confluent, unjoined, is_joinable, judge, verdict}
use Rattle.semantics.proofs.Configurations.{Or, inl, inr}
use Rattle.semantics.proofs.Enumeration.{numbered-at}
use Rattle.semantics.proofs.Indices.{le-or-lt}
use Rattle.overlaps.specs.Rests.{GoesOn, StopsAt}
use Rattle.overlaps.proofs.JoinLaws.{drop-at-element, at_left, at_right}

module _ (p : Program) where
  -- nothing to judge
  pub judged-none : (n : ℕ) → GoesOn p n [] n
  judged-none n = record { goes = λ more. refl }

  -- an overlap that joins
  pub judged-joins : (n : ℕ) (o : Overlap) → is_joinable p o ≡ true → GoesOn p n (o ∷ []) (suc n)
  unfolding judge
  judged-joins n o e = record { goes = λ more. rw e }

  -- an overlap that does not
  pub judged-parts :
      (n : ℕ) (o : Overlap) (shown : Option Overlap) → is_joinable p o ≡ false → shown ≡ some o → StopsAt p n (o ∷ []) shown
  unfolding judge
  judged-parts n o shown e s = record { stops = (o, s, λ more. rw e) }

  -- more behind those that joined: these join too, or one of them does not
  pub judged-more :
      (n k : ℕ) (os us : List Overlap) → GoesOn p n os k
      → ((a : ℕ) → GoesOn p k us a → GoesOn p n (os ++ us) a)
      × ((shown : Option Overlap) → StopsAt p k us shown → StopsAt p n (os ++ us) shown)
  judged-more n k os us j = (
    λ a l. record { goes = λ more. ap (judge p n) (append_assoc os us more) ∙ j.goes (us ++ more) ∙ l.goes more },
    λ shown l. record {
      stops =
          let (o, e, f) = l.stops in
          (o, e, λ more. ap (judge p n) (append_assoc os us more) ∙ j.goes (us ++ more) ∙ f more);
    },
  )

  -- more behind one that did not
  pub judged-stopped :
      (n : ℕ) (os us : List Overlap) (shown : Option Overlap) → StopsAt p n os shown → StopsAt p n (os ++ us) shown
  judged-stopped n os us shown j =
      record {
        stops =
            let (o, e, f) = j.stops in
            (o, e, λ more. ap (judge p n) (append_assoc os us more) ∙ f (us ++ more));
      }

  -- all overlaps of a program
  pub judged-confluent : (k : ℕ) → GoesOn p 0 (overlaps p) k → verdict p ≡ confluent k
  unfolding verdict judge
  judged-confluent k j = ap (judge p 0) (sym (append-nil (overlaps p))) ∙ j.goes []

  pub judged-unjoined :
      (shown : Option Overlap) → StopsAt p 0 (overlaps p) shown
      → (o : Overlap) × (shown ≡ some o) × (verdict p ≡ unjoined o (first_end p o) (second_end p o))
  unfolding verdict
  judged-unjoined shown j =
      let (o, e, f) = j.stops in
      (o, e, ap (judge p 0) (sym (append-nil (overlaps p))) ∙ f [])

module _ (l : List Numbered) (k : ℕ) where
  -- one more second rule, and none
  pub second-next :
      (i j : Numbered) → get_elem? l k ≡ some j
      → gather (overlaps_of i) (drop k l) ≡ overlaps_of i j ++ gather (overlaps_of i) (drop (suc k) l)
  second-next i j e = ap (gather (overlaps_of i)) (drop-at-element l k e)

  pub second-end : (i : Numbered) → length l ≤ k → gather (overlaps_of i) (drop k l) ≡ []
  second-end i h = ap (gather (overlaps_of i)) (drop_of_length-le l {i = k} h)

  -- one more first rule, and none
  pub first_next :
      (i : Numbered) → get_elem? l k ≡ some i
      → overlaps_among (drop k l) ≡ gather (overlaps_of i) (drop k l) ++ overlaps_among (drop (suc k) l)
  unfolding overlaps_among
  first_next i e = rw (drop-at-element l k e)

  pub first-end : length l ≤ k → overlaps_among (drop k l) ≡ []
  unfolding overlaps_among
  first-end h = ap overlaps_among (drop_of_length-le l {i = k} h)

-- an entry of a table
pub tabled-element : {A : Type 0} (f : ℕ → A) (n k : ℕ) → k < n → get_elem? (tabled f n) k ≡ some (f k)
tabled-element f zero k h = absurd (omega arith)
tabled-element {A} f (suc n) k h = go (tabled-element f n k) (le-or-lt n k)
  where
    go : (k < n → get_elem? (tabled f n) k ≡ some (f k)) → Or (n ≤ k) (k < n) → get_elem? (tabled f n ++ (f n ∷ [])) k ≡ some (f k)
    go more (inl g) =
        let e : k ≡ length (tabled f n) + 0 = omega (arith, tabled-length f n) in
        let q : n ≡ k = omega arith in
        rw e (at_right (tabled f n) (f n ∷ []) 0) ∙ ap (λ a. some (f a)) q
    go more (inr g) = at_left (tabled f n) (f n ∷ []) k (omega (arith, tabled-length f n)) ∙ more g

-- as many as there are rules
pub numbered-length : (n : ℕ) (rs : List Rule) → length (numbered_from n rs) ≡ length rs
unfolding numbered_from
numbered-length n [] = refl
numbered-length n (r ∷ rs) = ap suc (numbered-length (suc n) rs)

-- a rule of a table, with its number
pub numbered-rule :
    (f : ℕ → Rule) (n k : ℕ) → k < n → get_elem? (numbered_from 0 (tabled f n)) k ≡ some (record { number = k; rule = f k })
numbered-rule f n k h =
    numbered-at 0 k (tabled f n) (tabled-element f n k h)
    ∙ ap (λ m. some (record { number = m; rule = f k })) (let z : 0 + k ≡ k = omega arith in z)
