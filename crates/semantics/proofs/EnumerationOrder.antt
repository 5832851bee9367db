-- The overlaps of a program are listed in order (document 02: W1).
--   overlaps-ascend     the earlier first
-- Assumes nothing.
use Prim.Native.Nat.{ℕ, suc, ◌<◌}
use native.Mathlib.Omega.{arith}
use mathlib.Core.List.{List, [], ◌∷◌}
use mathlib.Core.Path.{◌≡◌, refl, sym, ap, subst₂, ◌∙◌}
use lib.ListN.{length}
use Rattle.semantics.specs.Terms.{Rule, Program}
use Rattle.semantics.specs.Overlaps.{pairings, Numbered, Overlap}
use Rattle.semantics.specs.Overlaps.{overlap_of, numbered_from, overlaps_of, overlaps_among, overlaps}
use Rattle.semantics.specs.Order.{Earlier, by_first, by_second, by_partners}
use Rattle.semantics.proofs.Configurations.{Member}
use Rattle.semantics.proofs.Listings.{gather-member, answers-member}
use Rattle.semantics.proofs.Listings.{at-member, member-at, Ascending, nothing, below, ascending-append}
use Rattle.semantics.proofs.Listings.{ascending-gather, ascending-answers}
use Rattle.semantics.proofs.Enumeration.{pairings-ascend, overlap-parts, at-numbered, among-member}

-- the rules' numbers go up
abbrev Below : Numbered → Numbered → Type 0
Below i j = i.number < j.number

numbered-ascend : (n : ℕ) (rs : List Rule) → Ascending Below (numbered_from n rs)
unfolding numbered_from
numbered-ascend n [] = nothing
numbered-ascend n (r ∷ rs) = below above (numbered-ascend (suc n) rs)
  where
    above : (a : Numbered) → Member a (numbered_from (suc n) rs) → n < a.number
    above a m =
        let (k, e) = member-at m in
        let (h, f) = at-numbered (suc n) k rs e in
        omega arith

-- an overlap of two rules is of these rules
of-rules :
    {o : Overlap} (i j : Numbered) → Member o (overlaps_of i j) → (o.first ≡ i) × (o.second ≡ j)
unfolding overlaps_of
of-rules i j m =
    let (ds, n, e) = answers-member (overlap_of i j) (pairings (length i.rule.heads) (length j.rule.heads)) m in
    let made = (overlap-parts i j ds e).made in
    (ap (λ x. x.first) made, ap (λ x. x.second) made)

-- of two rules, the overlap with the smaller partners first
of-ascend : (i j : Numbered) → Ascending Earlier (overlaps_of i j)
unfolding overlaps_of
of-ascend i j =
    ascending-answers (overlap_of i j) (λ a b o u l e f.
    let one = (overlap-parts i j a e).made in
    let two = (overlap-parts i j b f).made in
    subst₂ Earlier (sym one) (sym two) (by_partners refl refl l))
    (pairings-ascend (length i.rule.heads) (length j.rule.heads))

-- of one rule with others, those with the smaller of these first; then those of the others
among-ascend : {l : List Numbered} → Ascending Below l → Ascending Earlier (overlaps_among l)
unfolding overlaps_among
among-ascend nothing = nothing
among-ascend (below {a = x} {l} f p) =
    ascending-append
    (ascending-gather (overlaps_of x) (of-ascend x) (λ a b o u h m n. secondly a b o u h (of-rules x a m) (of-rules x b n))
    (below f p))
    (among-ascend p) (λ o u m n.
    let (y, i, h) = gather-member (overlaps_of x) (x ∷ l) m in
    let (j, k, a, b, q, r, le, g) = among-member l n in
    firstly a o u (f a (at-member l j q)) (of-rules x y h).0 (of-rules a b g).0)
  where
    firstly : (a : Numbered) (o u : Overlap) → Below x a → o.first ≡ x → u.first ≡ a → Earlier o u
    firstly a o u h c d = by_first (subst₂ Below (sym c) (sym d) h)

    secondly :
        (a b : Numbered) (o u : Overlap) → Below a b → (o.first ≡ x) × (o.second ≡ a) → (u.first ≡ x) × (u.second ≡ b)
        → Earlier o u
    secondly a b o u h (c, d) (e, f) = by_second (ap (λ (v : Numbered). v.number) (c ∙ sym e)) (subst₂ Below (sym d) (sym f) h)

-- the overlaps of a program, the earlier first
pub overlaps-ascend : (p : Program) → Ascending Earlier (overlaps p)
unfolding overlaps
overlaps-ascend p = among-ascend (numbered-ascend 0 p.rules)
