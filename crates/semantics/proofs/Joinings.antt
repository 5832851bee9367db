-- Joinings of heads (document 000, definition 3.4) are the pairings that are enumerated, one to one.
--   joints-partners, partners-joints      from joints to partners and back, and the other way round, nothing changes
--   joining-pairing, pairing-joining      a joining gives a pairing, and a pairing a joining
--   has-rights                            which heads of the second rule are joined
-- Assumes nothing.
use Prim.Native.Nat.{ℕ, zero, suc, ◌+◌, ◌<◌, ◌≤◌}
use mathlib.Core.Bool.{Bool, true, false, cond, not, ◌&&◌, ◌||◌}
use mathlib.Core.List.{List, [], ◌∷◌}
use mathlib.Core.Path.{◌≡◌, refl, sym, ap, ap₂, subst, ◌∙◌}
use native.Mathlib.Omega.{arith}
use lib.Dec.{eqb, eqb-suc-zero, eqb-suc-suc, eqb-zero-suc}
use lib.ListN.{length}
use Rattle.text.specs.Lists.{every, has}
use Rattle.semantics.specs.Overlaps.{is_one_to_one, is_pairing}
use Rattle.semantics.specs.CriticalPairs.{Joint, rights, Joints, no_more, one_more, Joining, joints_from, joints_of, partner_of}
use Rattle.semantics.specs.CriticalPairs.{partners_from, partners_of}
use Rattle.semantics.proofs.Configurations.{Or, inl, inr, All, none, also}
use Rattle.semantics.proofs.Options.{decide, true-false, eqb-equal, equal-eqb, apart_eqb}
use Rattle.text.proofs.Bools.{and-true}
use Rattle.semantics.proofs.Bools.{or_cases}
use Rattle.semantics.proofs.Indices.{not-true}
use Rattle.semantics.proofs.Enumeration.{IsPairing}

-- a head in front of all joints has no partner
partner-before : {m n k : ℕ} {js : List Joint} (i : ℕ) → Joints m n k js → i < k → partner_of i js ≡ 0
unfolding partner_of
partner-before i no_more h = refl
partner-before i (one_more {j} a b c d more) h =
    rw (apart_eqb {m = i} {n = j.left} (λ e. omega arith)) (partner-before i more (omega arith))

-- a joint in front of all heads gives none of them a partner
partners-past :
    (k m : ℕ) (j : Joint) (js : List Joint) → j.left < k → partners_from k m (j ∷ js) ≡ partners_from k m js
unfolding partners_from partner_of
partners-past k zero j js h = refl
partners-past k (suc m) j js h =
    rw (apart_eqb {m = k} {n = j.left} (λ e. omega arith)) (ap (partner_of k js ∷◌) (partners-past (suc k) m j js (omega arith)))

-- from joints to partners and back
pub joints-partners :
    (m n k l : ℕ) {js : List Joint} → l ≡ k + m → Joints l n k js → joints_from k (partners_from k m js) ≡ js
unfolding joints_from partners_from partner_of
joints-partners zero n k l e no_more = refl
joints-partners zero n k l e (one_more a b c d more) = absurd (omega arith)
joints-partners (suc m) n k l e no_more = joints-partners m n (suc k) l (omega arith) no_more
joints-partners (suc m) n k l e (one_more {j} {js} a b c d more) =
    go (decide (eqb k j.left)) (λ i h. joints-partners m n (suc k) l (omega arith) h)
  where
    go :
        Or (eqb k j.left ≡ true) (eqb k j.left ≡ false)
        → ((is : List Joint) → Joints l n (suc k) is → joints_from (suc k) (partners_from (suc k) m is) ≡ is)
        → joints_from k (cond (eqb k j.left) (suc j.right) (partner_of k js) ∷ partners_from (suc k) m (j ∷ js)) ≡ j ∷ js
    go (inl p) ih =
        let q : k ≡ j.left = eqb-equal p in
        rw (p, partners-past (suc k) m j js (omega arith))
        (λ i. record { left = q i; right = j.right } ∷ ih js (subst (λ x. Joints l n (suc x) js) (sym q) more) i)
    go (inr p) ih =
        let q : (k ≡ j.left → ⊥) = λ z. true-false (equal-eqb z) p in
        rw (p, partner-before k more (omega arith)) (ih (j ∷ js) (one_more (omega arith) b c d more))

-- joints of later heads give a head no partner
partner-later : (i k : ℕ) (ds : List ℕ) → i < k → partner_of i (joints_from k ds) ≡ 0
unfolding joints_from partner_of
partner-later i k [] h = refl
partner-later i k (zero ∷ ds) h = partner-later i (suc k) ds (omega arith)
partner-later i k (suc d ∷ ds) h =
    rw (apart_eqb {m = i} {n = k} (λ e. omega arith)) (partner-later i (suc k) ds (omega arith))

-- from partners to joints and back
pub partners-joints : (k : ℕ) (ds : List ℕ) → partners_from k (length ds) (joints_from k ds) ≡ ds
unfolding joints_from partners_from partner_of
partners-joints k [] = refl
partners-joints k (zero ∷ ds) = ap₂ ◌∷◌ (partner-later k (suc k) ds (omega arith)) (partners-joints (suc k) ds)
partners-joints k (suc d ∷ ds) =
    rw (equal-eqb {m = k} refl)
    (ap (suc d ∷◌)
    (partners-past (suc k) (length ds) (record { left = k; right = d }) (joints_from (suc k) ds) (omega arith)
    ∙ partners-joints (suc k) ds))

-- which heads of the second rule are joined
pub has-rights : (j k : ℕ) (ds : List ℕ) → has j (rights (joints_from k ds)) ≡ has (suc j) ds
unfolding joints_from
has-rights j k [] = refl
has-rights j k (zero ∷ ds) = rw (eqb-suc-zero j) (has-rights j (suc k) ds)
has-rights j k (suc d ∷ ds) = rw (eqb-suc-suc j d) (ap (eqb j d ||◌) (has-rights j (suc k) ds))

-- the joints of partners that are one to one and within bounds
joints-of :
    (m n k : ℕ) {ds : List ℕ} → k + length ds ≡ m → All (λ d. d ≤ n) ds → is_one_to_one ds ≡ true → Joints m n k (joints_from k ds)
unfolding joints_from is_one_to_one
joints-of m n k e none u = no_more
joints-of m n k e (also {a = zero} {l = ds} b h) u =
    later (joints-of m n (suc k) (omega arith) h (and-true (eqb 0 0 || not (has 0 ds)) (is_one_to_one ds) u).1)
  where
    later : {js : List Joint} → Joints m n (suc k) js → Joints m n k js
    later no_more = no_more
    later (one_more {j} a b c d more) = one_more {k = k} {j = j} (omega arith) b c d more
joints-of m n k e (also {a = suc d} {l = ds} b h) u =
    let (v, w) = and-true (eqb (suc d) 0 || not (has (suc d) ds)) (is_one_to_one ds) u in
    one_more {k = k} {j = record { left = k; right = d }} (omega arith) (omega arith) (omega arith)
    (has-rights d (suc k) ds ∙ once (or_cases (eqb (suc d) 0) (not (has (suc d) ds)) v))
    (joints-of m n (suc k) (omega arith) h w)
  where
    once : Or (eqb (suc d) 0 ≡ true) (not (has (suc d) ds) ≡ true) → has (suc d) ds ≡ false
    once (inl p) = let z : suc d ≡ 0 = eqb-equal p in absurd (omega arith)
    once (inr p) = not-true (has (suc d) ds) p

-- and conversely
one-to-one : (m n k l : ℕ) (ds : List ℕ) → Joints m n l (joints_from k ds) → is_one_to_one ds ≡ true
unfolding joints_from is_one_to_one
one-to-one m n k l [] h = refl
one-to-one m n k l (zero ∷ ds) h = rw (equal-eqb {m = 0} refl) (one-to-one m n (suc k) l ds h)
one-to-one m n k l (suc d ∷ ds) (one_more a b c e more) =
    rw (eqb-suc-zero d, sym (has-rights d (suc k) ds) ∙ e) (one-to-one m n (suc k) (suc k) ds more)

-- no joints: all partners are 0
joints-none : (k : ℕ) (ds : List ℕ) → joints_from k ds ≡ [] → every (eqb 0) ds ≡ true
unfolding joints_from
joints-none k [] e = refl
joints-none k (zero ∷ ds) e = rw (equal-eqb {m = 0} refl) (joints-none (suc k) ds e)
joints-none k (suc d ∷ ds) e = absurd (let z : ◌≡◌ {A = ℕ} 0 1 = cc in omega arith)

none-joints : (k : ℕ) (ds : List ℕ) → every (eqb 0) ds ≡ true → joints_from k ds ≡ []
unfolding joints_from
none-joints k [] e = refl
none-joints k (zero ∷ ds) e = none-joints (suc k) ds (rw (equal-eqb {m = 0} refl) at e)
none-joints k (suc d ∷ ds) e = true-false (rw (eqb-zero-suc d) at e) refl

-- the partners are as many as the heads, and within bounds
partners-long : (k m : ℕ) (js : List Joint) → length (partners_from k m js) ≡ m
unfolding partners_from
partners-long k zero js = refl
partners-long k (suc m) js = ap suc (partners-long (suc k) m js)

partner-within : {m n l : ℕ} (k : ℕ) {js : List Joint} → Joints m n l js → partner_of k js ≤ n
unfolding partner_of
partner-within k no_more = omega arith
partner-within {n} k (one_more {j} {js} a b c d more) = go (eqb k j.left) (partner-within k more)
  where
    go : (b : Bool) → partner_of k js ≤ n → cond b (suc j.right) (partner_of k js) ≤ n
    go true h = omega arith
    go false h = h

partners-within : {l q n : ℕ} (k m : ℕ) {js : List Joint} → Joints q n l js → All (λ d. d ≤ n) (partners_from k m js)
unfolding partners_from
partners-within k zero h = none
partners-within k (suc m) h = also (partner-within k h) (partners-within (suc k) m h)

-- a joining gives a pairing
pub joining-pairing : (m n : ℕ) (js : List Joint) → Joining m n js → IsPairing m n (partners_of m js)
unfolding is_pairing partners_of
joining-pairing m n js c =
    let ds = partners_from 0 m js in
    let back : joints_from 0 ds ≡ js = joints-partners m n 0 m (omega arith) c.joints in
    record {
      long = partners-long 0 m js;
      within = partners-within 0 m c.joints;
      pairs = both (is_one_to_one ds) (every (eqb 0) ds)
          (one-to-one m n 0 0 ds (subst (Joints m n 0) (sym back) c.joints))
          (λ e. c.nonempty (sym back ∙ none-joints 0 ds e));
    }
  where
    both : (a b : Bool) → a ≡ true → (b ≡ true → ⊥) → (a && not b) ≡ true
    both a true p q = absurd (q refl)
    both a false p q = rw p

-- a pairing gives a joining
pub pairing-joining : (m n : ℕ) (ds : List ℕ) → IsPairing m n ds → Joining m n (joints_of ds)
unfolding is_pairing joints_of
pairing-joining m n ds p =
    let (u, v) = and-true (is_one_to_one ds) (not (every (eqb 0) ds)) p.pairs in
    record {
      joints = joints-of m n 0 (omega (arith, p.long)) p.within u;
      nonempty = λ e. true-false (joints-none 0 ds e) (not-true (every (eqb 0) ds) v);
    }
