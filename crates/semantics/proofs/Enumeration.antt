-- The overlaps of a program (document 000) are all of them: every pairing is listed, and so is every overlap of two rules, in order
-- (document 02: W1).
--   IsPairing, member-pairings, pairings-member     the pairings of m heads with n heads
--   pairings-ascend                                 smaller partners first, compared from the left
--   overlap-parts                                   what an overlap was made from
--   member-overlaps                                 each overlap of rules i ≤ j is listed
--   Listed, overlaps-member                         and nothing else
-- Assumes nothing.
use Prim.Native.Nat.{ℕ, zero, suc, ◌+◌, ◌≤◌}
use native.Mathlib.Omega.{arith}
use mathlib.Core.Bool.{true, cond}
use mathlib.Core.List.{List, [], ◌∷◌, ◌++◌, map}
use mathlib.Core.Option.{none, some}
use mathlib.Core.Path.{◌≡◌, refl, sym, ap, subst, subst₂, ◌∙◌}
use lib.ListN.{length, get_elem?}
use Rattle.text.specs.Lists.{bind, gather, up_to}
use Rattle.semantics.specs.Terms.{Term, Equation, Rule, Program, map_terms}
use Rattle.semantics.specs.Solving.{solve}
use Rattle.semantics.specs.Runs.{Before, at_first, at_later}
use Rattle.semantics.specs.Overlaps.{partner_lists, is_pairing, pairings, Numbered, Overlap, apart, join_equations}
use Rattle.semantics.specs.Overlaps.{unjoined_heads, goal_of, overlap_of, numbered_from, overlaps_of, overlaps_among, overlaps}
use Rattle.semantics.proofs.Configurations.{Or, inl, inr, Member, first, All, also}
use Rattle.semantics.proofs.Configurations as C
use Rattle.semantics.proofs.Options.{none-some, bind-some, cond-some}
use Rattle.semantics.proofs.Multisets.{member-cons, member-nil, member-append, member-append-left, member-append-right}
use Rattle.semantics.proofs.Multisets.{member-map, member-unmap}
use Rattle.semantics.proofs.Indices.{some-equal}
use Rattle.semantics.proofs.Listings.{member-gather, gather-member, member-answers, answers-member, member-up_to}
use Rattle.semantics.proofs.Listings.{up_to-member, at-member, member-at, Ascending, nothing, below}
use Rattle.semantics.proofs.Listings.{ascending-map, ascending-gather, ascending-answers, ascending-up_to}

-- a pairing of m heads with n heads
pub record IsPairing (m n : ℕ) (ds : List ℕ) : Type 0 where
  pub long : length ds ≡ m
  pub within : All (λ d. d ≤ n) ds
  pub pairs : is_pairing ds ≡ true

-- all lists of m numbers from 0 to n are listed
member-lists : (n : ℕ) (m : ℕ) (ds : List ℕ) → length ds ≡ m → All (λ d. d ≤ n) ds → Member ds (partner_lists m n)
unfolding partner_lists
member-lists n zero [] e h = first
member-lists n zero (d ∷ ds) e h = absurd (omega arith)
member-lists n (suc m) [] e h = absurd (omega arith)
member-lists n (suc m) (d ∷ ds) e (also a h) =
    member-gather (λ x. map (x ∷◌) (partner_lists m n)) (member-up_to d (suc n) (omega arith))
    (member-map (d ∷◌) (member-lists n m ds (omega arith) h))

-- and nothing else
lists-member : (n m : ℕ) (ds : List ℕ) → Member ds (partner_lists m n) → (length ds ≡ m) × All (λ d. d ≤ n) ds
unfolding partner_lists
lists-member n zero ds i = go (member-cons i)
  where
    go : Or (ds ≡ []) (Member ds []) → (length ds ≡ 0) × All (λ d. d ≤ n) ds
    go (inl e) = rw e (refl, C.none)
    go (inr j) = absurd (member-nil j)
lists-member n (suc m) ds i =
    let (d, a, b) = gather-member (λ x. map (x ∷◌) (partner_lists m n)) (up_to (suc n)) i in
    let (es, c, e) = member-unmap (d ∷◌) (partner_lists m n) b in
    let (l, h) = lists-member n m es c in
    let k = up_to-member d (suc n) a in
    let b : d ≤ n = omega arith in
    rw e (ap suc l, also b h)

-- the smaller first
lists-ascend : (n m : ℕ) → Ascending Before (partner_lists m n)
unfolding partner_lists
lists-ascend n zero = below (λ b i. absurd (member-nil i)) nothing
lists-ascend n (suc m) =
    ascending-gather (λ x. map (x ∷◌) (partner_lists m n)) (λ d.
    ascending-map (d ∷◌) (λ a b h. at_later h) (lists-ascend n m)) (λ a b ds es l i j.
    let (k, ik, ek) = member-unmap (a ∷◌) (partner_lists m n) i in
    let (h, ih, eh) = member-unmap (b ∷◌) (partner_lists m n) j in
    subst₂ Before (sym ek) (sym eh) (at_first l)) (ascending-up_to (suc n))

-- every pairing is listed, nothing else is, and the smaller come first
pub member-pairings : {m n : ℕ} {ds : List ℕ} → IsPairing m n ds → Member ds (pairings m n)
unfolding pairings
member-pairings {m} {n} {ds} p =
    member-answers (λ ds. cond (is_pairing ds) (some ds) none) (member-lists n m ds p.long p.within) (rw p.pairs)

pub pairings-member : (m n : ℕ) (ds : List ℕ) → Member ds (pairings m n) → IsPairing m n ds
unfolding pairings
pairings-member m n ds i =
    let (es, j, e) = answers-member (λ ds. cond (is_pairing ds) (some ds) none) (partner_lists m n) i in
    let (a, b) = cond-some (is_pairing es) e in
    let (l, h) = lists-member n m es j in
    subst (IsPairing m n) (some-equal b) (record { long = l; within = h; pairs = a })

pub pairings-ascend : (m n : ℕ) → Ascending Before (pairings m n)
unfolding pairings
pairings-ascend m n =
    ascending-answers (λ ds. cond (is_pairing ds) (some ds) none) (λ a b ds es l e f.
    subst₂ Before (some-equal (cond-some (is_pairing a) e).1) (some-equal (cond-some (is_pairing b) f).1) l)
    (lists-ascend n m)

-- what an overlap was made from: its rules and partners, and the solved equations of its joined heads
pub record OverlapParts (i j : Numbered) (ds : List ℕ) (o : Overlap) : Type 0 where
  pub equations : List Equation
  pub solution : Term → Term
  pub joined : join_equations i.rule.heads ds (map (map_terms apart) j.rule.heads) ≡ some equations
  pub solved : solve equations (λ t. t) ≡ some solution
  pub made :
      o ≡ record {
        first = i;
        second = j;
        partners = ds;
        goal =
            goal_of (map (map_terms solution) (i.rule.heads ++ unjoined_heads 1 (map (map_terms apart) j.rule.heads) ds));
      }

pub overlap-parts : (i j : Numbered) (ds : List ℕ) {o : Overlap} → overlap_of i j ds ≡ some o → OverlapParts i j ds o
unfolding overlap_of
overlap-parts i j ds e =
    let hs = i.rule.heads in
    let gs = map (map_terms apart) j.rule.heads in
    let (es, a, b) = bind-some (join_equations hs ds gs)
    (λ es. bind (solve es (λ t. t)) (λ σ. some (record {
      first = i;
      second = j;
      partners = ds;
      goal = goal_of (map (map_terms σ) (hs ++ unjoined_heads 1 gs ds));
    }))) e in
    let (σ, c, d) = bind-some (solve es (λ t. t)) (λ σ. some (record {
      first = i;
      second = j;
      partners = ds;
      goal = goal_of (map (map_terms σ) (hs ++ unjoined_heads 1 gs ds));
    })) b in
    record { equations = es; solution = σ; joined = a; solved = c; made = sym (some-equal d) }

-- the rules with their numbers
pub numbered-at : (n k : ℕ) (rs : List Rule) {r : Rule} → get_elem? rs k ≡ some r
    → get_elem? (numbered_from n rs) k ≡ some (record { number = n + k; rule = r })
unfolding numbered_from
numbered-at n k [] e = none-some refl e
numbered-at n zero (q ∷ rs) e =
    let z : n ≡ n + 0 = omega arith in
    λ i. some (record { number = z i; rule = some-equal e i })
numbered-at n (suc k) (q ∷ rs) {r} e =
    numbered-at (suc n) k rs e
    ∙ ap (λ m. some (record { number = m; rule = r })) (let z : suc n + k ≡ n + suc k = omega arith in z)

pub at-numbered : (n k : ℕ) (rs : List Rule) {a : Numbered} → get_elem? (numbered_from n rs) k ≡ some a
    → (a.number ≡ n + k) × (get_elem? rs k ≡ some a.rule)
unfolding numbered_from
at-numbered n k [] e = none-some refl e
at-numbered n zero (q ∷ rs) e =
    subst (λ a. (a.number ≡ n + 0) × (some q ≡ some a.rule)) (some-equal e) (omega arith, refl)
at-numbered n (suc k) (q ∷ rs) e = let (a, b) = at-numbered (suc n) k rs e in (omega arith, b)

-- the overlaps of two of the rules, the first of them not behind the second, are among all
member-among :
    {o : Overlap} (l : List Numbered) (i j : ℕ) {a b : Numbered} → get_elem? l i ≡ some a → get_elem? l j ≡ some b → i ≤ j
    → Member o (overlaps_of a b) → Member o (overlaps_among l)
unfolding overlaps_among
member-among [] i j p q h m = none-some refl p
member-among {o} (x ∷ l) zero j {a} {b} p q h m =
    member-append-left (overlaps_among l)
    (member-gather (overlaps_of x) (at-member (x ∷ l) j q)
    (subst (λ y. Member o (overlaps_of y b)) (sym (some-equal p)) m))
member-among (x ∷ l) (suc i) zero p q h m = absurd (omega arith)
member-among (x ∷ l) (suc i) (suc j) p q h m =
    member-append-right (gather (overlaps_of x) (x ∷ l)) (member-among l i j p q (omega arith) m)

-- and all come so
pub among-member :
    {o : Overlap} (l : List Numbered) → Member o (overlaps_among l)
    → (i : ℕ) × (j : ℕ) × (a : Numbered) × (b : Numbered) × (get_elem? l i ≡ some a) × (get_elem? l j ≡ some b) × (i ≤ j)
    × Member o (overlaps_of a b)
unfolding overlaps_among
among-member [] m = elim m [ ]
among-member {o} (x ∷ l) m = go (member-append (gather (overlaps_of x) (x ∷ l)) m) (among-member l)
  where
    Pair : List Numbered → Type 0
    Pair k =
        (i : ℕ) × (j : ℕ) × (a : Numbered) × (b : Numbered) × (get_elem? k i ≡ some a) × (get_elem? k j ≡ some b) × (i ≤ j)
        × Member o (overlaps_of a b)

    go :
        Or (Member o (gather (overlaps_of x) (x ∷ l))) (Member o (overlaps_among l)) → (Member o (overlaps_among l) → Pair l)
        → Pair (x ∷ l)
    go (inl n) ih =
        let (y, p, q) = gather-member (overlaps_of x) (x ∷ l) n in
        let (j, e) = member-at p in
        (0, j, x, y, refl, e, omega arith, q)
    go (inr n) ih =
        let (i, j, a, b, p, q, h, k) = ih n in
        (suc i, suc j, a, b, p, q, omega arith, k)

-- each overlap of two rules of a program is listed
pub member-overlaps :
    (p : Program) (i j : ℕ) {r q : Rule} {ds : List ℕ} {o : Overlap} → get_elem? p.rules i ≡ some r
    → get_elem? p.rules j ≡ some q → i ≤ j → Member ds (pairings (length r.heads) (length q.heads))
    → overlap_of (record { number = i; rule = r }) (record { number = j; rule = q }) ds ≡ some o → Member o (overlaps p)
unfolding overlaps overlaps_of
member-overlaps p i j {r} {q} {ds} {o} f g h m e =
    let z : 0 + i ≡ i = omega arith in
    let w : 0 + j ≡ j = omega arith in
    member-among (numbered_from 0 p.rules) i j
    (numbered-at 0 i p.rules f ∙ ap (λ k. some (record { number = k; rule = r })) z)
    (numbered-at 0 j p.rules g ∙ ap (λ k. some (record { number = k; rule = q })) w) h
    (member-answers (overlap_of (record { number = i; rule = r }) (record { number = j; rule = q })) m e)

-- an overlap of two rules of a program, by one of their pairings
pub record Listed (p : Program) (o : Overlap) : Type 0 where
  pub first_rule : get_elem? p.rules o.first.number ≡ some o.first.rule
  pub second_rule : get_elem? p.rules o.second.number ≡ some o.second.rule
  pub ordered : o.first.number ≤ o.second.number
  pub paired : Member o.partners (pairings (length o.first.rule.heads) (length o.second.rule.heads))
  pub made : overlap_of o.first o.second o.partners ≡ some o

-- and every overlap that is listed is one
pub overlaps-member : (p : Program) {o : Overlap} → Member o (overlaps p) → Listed p o
unfolding overlaps overlaps_of
overlaps-member p {o} m =
    let (i, j, a, b, f, g, h, k) = among-member (numbered_from 0 p.rules) m in
    let (ds, n, e) = answers-member (overlap_of a b) (pairings (length a.rule.heads) (length b.rule.heads)) k in
    let (numa, rulea) = at-numbered 0 i p.rules f in
    let (numb, ruleb) = at-numbered 0 j p.rules g in
    let made = (overlap-parts a b ds e).made in
    let one : a ≡ o.first = sym (ap (λ x. x.first) made) in
    let two : b ≡ o.second = sym (ap (λ x. x.second) made) in
    let three : ds ≡ o.partners = sym (ap (λ x. x.partners) made) in
    record {
      first_rule =
          subst (λ x. get_elem? p.rules x.number ≡ some x.rule) one
          (ap (get_elem? p.rules) (let z : a.number ≡ i = omega arith in z) ∙ rulea);
      second_rule =
          subst (λ x. get_elem? p.rules x.number ≡ some x.rule) two
          (ap (get_elem? p.rules) (let z : b.number ≡ j = omega arith in z) ∙ ruleb);
      ordered = subst₂ (λ x y. x.number ≤ y.number) one two (omega arith);
      paired =
          subst (λ l. Member l (pairings (length o.first.rule.heads) (length o.second.rule.heads))) three
          (subst₂ (λ x y. Member ds (pairings (length x.rule.heads) (length y.rule.heads))) one two n);
      made = subst (λ l. overlap_of o.first o.second l ≡ some o) three (subst₂ (λ x y. overlap_of x y ds ≡ some o) one two e);
    }
