-- The order of overlaps (document 02: W1) is strict, and total on the overlaps of a program, which are enumerated in it.
--   same-overlap          overlaps of the same rules and partners are the same
--   overlaps-ordered      the order is strict and total
--   earlier-below         an earlier overlap has the smaller number in the enumeration
-- Assumes nothing.
use Prim.Native.Nat.{ℕ, ◌<◌}
use native.Mathlib.Omega.{arith}
use native.Mathlib.Decide.{dec_lt}
use mathlib.Core.Logic.{◌⊎◌, inl, inr}
use mathlib.Core.Option.{some}
use mathlib.Core.Path.{◌≡◌, sym, ap, ◌∙◌}
use lib.ListN.{length, get_elem?}
use Rattle.semantics.specs.Terms.{Program}
use Rattle.semantics.specs.Runs.{Before}
use Rattle.semantics.specs.Overlaps.{Numbered, Overlap, overlap_of, overlaps}
use Rattle.semantics.specs.Order.{IsOverlapOf, Earlier, by_first, by_second, by_partners, StrictTotalOrder}
use Rattle.semantics.proofs.Precedence.{before-irreflexive, before-transitive, before-compare}
use Rattle.semantics.proofs.Indices.{some-equal}
use Rattle.semantics.proofs.Listings.{at-member, ascending-before}
use Rattle.semantics.proofs.Enumeration.{pairings-member, Listed, overlaps-member}
use Rattle.semantics.proofs.EnumerationOrder.{overlaps-ascend}

-- rules of the same number are the same
pub same-rule :
    (p : Program) (i j : Numbered) → get_elem? p.rules i.number ≡ some i.rule
    → get_elem? p.rules j.number ≡ some j.rule → i.number ≡ j.number → i ≡ j
same-rule p i j e f h = λ k. record {
  number = h k;
  rule = some-equal (sym e ∙ ap (get_elem? p.rules) h ∙ f) k;
}

-- overlaps of the same rules and partners are the same
pub same-overlap :
    (p : Program) (o u : Overlap) → Listed p o → Listed p u → o.first.number ≡ u.first.number
    → o.second.number ≡ u.second.number → o.partners ≡ u.partners → o ≡ u
same-overlap p o u l k a b c =
    let one = same-rule p o.first u.first l.first_rule k.first_rule a in
    let two = same-rule p o.second u.second l.second_rule k.second_rule b in
    some-equal (sym l.made ∙ (λ i. overlap_of (one i) (two i) (c i)) ∙ k.made)

-- overlaps of the same first rule have lists of partners of one length
partners-long :
    (p : Program) (o u : Overlap) → Listed p o → Listed p u → o.first.number ≡ u.first.number
    → length o.partners ≡ length u.partners
partners-long p o u l k a =
    let one = same-rule p o.first u.first l.first_rule k.first_rule a in
    (pairings-member (length o.first.rule.heads) (length o.second.rule.heads) o.partners l.paired).long
    ∙ ap (λ (i : Numbered). length i.rule.heads) one
    ∙ sym (pairings-member (length u.first.rule.heads) (length u.second.rule.heads) u.partners k.paired).long

-- no overlap is earlier than itself
pub earlier-irreflexive : (o : Overlap) → Earlier o o → ⊥
earlier-irreflexive o (by_first l) = omega arith
earlier-irreflexive o (by_second e l) = omega arith
earlier-irreflexive o (by_partners e f b) = before-irreflexive b

pub earlier-transitive : (o u v : Overlap) → Earlier o u → Earlier u v → Earlier o v
earlier-transitive o u v (by_first l) (by_first k) = by_first (omega arith)
earlier-transitive o u v (by_first l) (by_second e k) = by_first (omega arith)
earlier-transitive o u v (by_first l) (by_partners e f b) = by_first (omega arith)
earlier-transitive o u v (by_second e l) (by_first k) = by_first (omega arith)
earlier-transitive o u v (by_second e l) (by_second f k) = by_second (e ∙ f) (omega arith)
earlier-transitive o u v (by_second e l) (by_partners f g b) = by_second (e ∙ f) (omega arith)
earlier-transitive o u v (by_partners e f b) (by_first k) = by_first (omega arith)
earlier-transitive o u v (by_partners e f b) (by_second g k) = by_second (e ∙ g) (omega arith)
earlier-transitive o u v (by_partners e f b) (by_partners g h c) = by_partners (e ∙ g) (f ∙ h) (before-transitive b c)

-- of two overlaps of a program one is earlier, or they are the same
earlier-total : (p : Program) (o u : Overlap) → Listed p o → Listed p u → (o ≡ u) ⊎ (Earlier o u ⊎ Earlier u o)
earlier-total p o u l k =
    firsts (dec_lt o.first.number u.first.number) (dec_lt u.first.number o.first.number)
  where
    partners :
        o.first.number ≡ u.first.number → o.second.number ≡ u.second.number
        → (o.partners ≡ u.partners) ⊎ (Before o.partners u.partners ⊎ Before u.partners o.partners)
        → (o ≡ u) ⊎ (Earlier o u ⊎ Earlier u o)
    partners a b (inl e) = inl (same-overlap p o u l k a b e)
    partners a b (inr (inl e)) = inr (inl (by_partners a b e))
    partners a b (inr (inr e)) = inr (inr (by_partners (sym a) (sym b) e))

    seconds :
        o.first.number ≡ u.first.number → Dec (o.second.number < u.second.number)
        → Dec (u.second.number < o.second.number) → (o ≡ u) ⊎ (Earlier o u ⊎ Earlier u o)
    seconds a (yes x) y = inr (inl (by_second a x))
    seconds a (no x) (yes y) = inr (inr (by_second (sym a) y))
    seconds a (no x) (no y) =
        partners a (omega arith) (before-compare o.partners u.partners (partners-long p o u l k a))

    firsts :
        Dec (o.first.number < u.first.number) → Dec (u.first.number < o.first.number)
        → (o ≡ u) ⊎ (Earlier o u ⊎ Earlier u o)
    firsts (yes x) y = inr (inl (by_first x))
    firsts (no x) (yes y) = inr (inr (by_first y))
    firsts (no x) (no y) =
        let a : o.first.number ≡ u.first.number = omega arith in
        seconds a (dec_lt o.second.number u.second.number) (dec_lt u.second.number o.second.number)

-- the order is strict, and total on the overlaps of a program
pub overlaps-ordered : (p : Program) → StrictTotalOrder (IsOverlapOf p) Earlier
overlaps-ordered p = record {
  irreflexive = earlier-irreflexive;
  transitive = earlier-transitive;
  total = λ o u (m, e) (n, f).
      earlier-total p o u (overlaps-member p (at-member (overlaps p) m e)) (overlaps-member p (at-member (overlaps p) n f));
}

-- an earlier overlap has the smaller number in the enumeration
pub earlier-below :
    (p : Program) (k n : ℕ) (o u : Overlap) → get_elem? (overlaps p) k ≡ some u → get_elem? (overlaps p) n ≡ some o → Earlier u o
    → k < n
earlier-below p k n o u e f h = ascending-before earlier-irreflexive earlier-transitive (overlaps-ascend p) k n e f h
