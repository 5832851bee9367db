-- Lists that are made from others: what stands in them, and in which order.
--   member-gather, gather-member        the lists that the elements give, one behind the other
--   member-answers, answers-member      the answers of the elements that have one
--   member-up_to, up_to-member            the numbers below n
--   member-at, at-member                an element stands at a place
--   Ascending, ascending-…              each element is below those behind it, by a relation
--   all-every                           a test that each element passes
-- Assumes nothing.
use Prim.Native.Nat.{ℕ, zero, suc, ◌<◌}
use native.Mathlib.Omega.{arith}
use native.Mathlib.Decide.{dec_lt}
use mathlib.Core.Bool.{Bool, true}
use mathlib.Core.List.{List, [], ◌∷◌, ◌++◌, map}
use mathlib.Core.Option.{Option, none, some}
use mathlib.Core.Path.{◌≡◌, refl, sym, ap, subst, ◌∙◌}
use lib.ListN.{get_elem?}
use Rattle.text.specs.Lists.{onward, every, gather, answers, up_to}
use Rattle.semantics.proofs.Configurations.{Or, inl, inr, Member, first, later, All, also}
use Rattle.semantics.proofs.Configurations as C
use Rattle.semantics.proofs.Options.{none-some}
use Rattle.semantics.proofs.Multisets.{member-nil, member-cons, member-append, member-append-left, member-append-right}
use Rattle.semantics.proofs.Multisets.{member-unmap}
use Rattle.semantics.proofs.Indices.{some-equal}

-- an element of what an element gives
pub member-gather :
    {A B : Type 0} (f : A → List B) {a : A} {b : B} {l : List A} → Member a l → Member b (f a) → Member b (gather f l)
member-gather f (first {l}) j = member-append-left (gather f l) j
member-gather f (later {b = x} i) j = member-append-right (f x) (member-gather f i j)

pub gather-member :
    {A B : Type 0} (f : A → List B) {b : B} (l : List A) → Member b (gather f l) → (a : A) × Member a l × Member b (f a)
gather-member f [] i = elim i [ ]
gather-member {A} f {b} (x ∷ l) i = go (member-append (f x) i) (gather-member f l)
  where
    go :
        Or (Member b (f x)) (Member b (gather f l)) → (Member b (gather f l) → (a : A) × Member a l × Member b (f a))
        → (a : A) × Member a (x ∷ l) × Member b (f a)
    go (inl j) ih = (x, first, j)
    go (inr j) ih = let h = ih j in (h.0, later h.1, h.2)

-- the answer of an element
pub member-answers :
    {A B : Type 0} (f : A → Option B) {a : A} {b : B} {l : List A} → Member a l → f a ≡ some b → Member b (answers f l)
member-answers f first e = rw e first
member-answers {A} {B} f {b = y} (later {b = x} {l} i) e = go (f x) (member-answers f i e)
  where
    go : (o : Option B) → Member y (answers f l) → Member y (onward o (answers f l) (λ z. z ∷ answers f l))
    go none j = j
    go (some z) j = later j

pub answers-member :
    {A B : Type 0} (f : A → Option B) {b : B} (l : List A) → Member b (answers f l) → (a : A) × Member a l × (f a ≡ some b)
answers-member f [] i = elim i [ ]
answers-member {A} {B} f {b} (x ∷ l) i = go (f x) refl i (answers-member f l)
  where
    on : (a : A) × Member a l × (f a ≡ some b) → (a : A) × Member a (x ∷ l) × (f a ≡ some b)
    on (a, j, e) = (a, later j, e)

    front :
        (z : B) → f x ≡ some z → Or (b ≡ z) (Member b (answers f l))
        → (Member b (answers f l) → (a : A) × Member a l × (f a ≡ some b)) → (a : A) × Member a (x ∷ l) × (f a ≡ some b)
    front z e (inl p) ih = (x, first, e ∙ ap some (sym p))
    front z e (inr j) ih = on (ih j)

    go :
        (o : Option B) → f x ≡ o → Member b (onward o (answers f l) (λ z. z ∷ answers f l))
        → (Member b (answers f l) → (a : A) × Member a l × (f a ≡ some b)) → (a : A) × Member a (x ∷ l) × (f a ≡ some b)
    go none e j ih = on (ih j)
    go (some z) e j ih = front z e (member-cons j) ih

-- the numbers below n
pub member-up_to : (i n : ℕ) → i < n → Member i (up_to n)
member-up_to i zero h = absurd (omega arith)
member-up_to i (suc n) h = go (below-or-last i n h) (member-up_to i n)
  where
    below-or-last : (i n : ℕ) → i < suc n → Or (i < n) (i ≡ n)
    below-or-last zero zero h = inr refl
    below-or-last zero (suc n) h = inl (omega arith)
    below-or-last (suc i) zero h = absurd (omega arith)
    below-or-last (suc i) (suc n) h = on (below-or-last i n (omega arith))
      where
        on : Or (i < n) (i ≡ n) → Or (suc i < suc n) (suc i ≡ suc n)
        on (inl a) = inl (omega arith)
        on (inr a) = inr (ap suc a)

    go : Or (i < n) (i ≡ n) → (i < n → Member i (up_to n)) → Member i (up_to n ++ (n ∷ []))
    go (inl l) ih = member-append-left (n ∷ []) (ih l)
    go (inr e) ih = member-append-right (up_to n) (subst (λ k. Member i (k ∷ [])) e first)

pub up_to-member : (i n : ℕ) → Member i (up_to n) → i < n
up_to-member i zero j = elim j [ ]
up_to-member i (suc n) j = go (member-append (up_to n) j) (up_to-member i n)
  where
    last : Or (i ≡ n) (Member i []) → i < suc n
    last (inl e) = omega arith
    last (inr k) = absurd (member-nil k)

    go : Or (Member i (up_to n)) (Member i (n ∷ [])) → (Member i (up_to n) → i < n) → i < suc n
    go (inl k) ih = let h = ih k in omega arith
    go (inr k) ih = last (member-cons k)

-- what stands at a place is an element, and an element stands at a place
pub at-member : {A : Type 0} {a : A} (l : List A) (i : ℕ) → get_elem? l i ≡ some a → Member a l
at-member [] i e = none-some refl e
at-member (x ∷ l) zero e = subst (λ y. Member y (x ∷ l)) (some-equal e) first
at-member (x ∷ l) (suc i) e = later (at-member l i e)

pub member-at : {A : Type 0} {a : A} {l : List A} → Member a l → (i : ℕ) × (get_elem? l i ≡ some a)
member-at first = (0, refl)
member-at (later j) = let h = member-at j in (suc h.0, h.1)

-- each element is related to all behind it
pub data Ascending {A : Type 0} (R : A → A → Type 0) : List A → Type 0 where
  nothing : Ascending R []
  below : {a : A} {l : List A} → ((b : A) → Member b l → R a b) → Ascending R l → Ascending R (a ∷ l)

-- one list behind another, of which each element is related to each of its own
pub ascending-append :
    {A : Type 0} {R : A → A → Type 0} {l m : List A} → Ascending R l → Ascending R m
    → ((a b : A) → Member a l → Member b m → R a b) → Ascending R (l ++ m)
ascending-append nothing q h = q
ascending-append {A} {R} {m} (below {a = x} {l} f p) q h =
    below (λ b i. go b (member-append l i)) (ascending-append p q (λ a b i. h a b (later i)))
  where
    go : (b : A) → Or (Member b l) (Member b m) → R x b
    go b (inl i) = f b i
    go b (inr i) = h x b first i

-- an image under a function that keeps the order
pub ascending-map :
    {A B : Type 0} {R : A → A → Type 0} {S : B → B → Type 0} (f : A → B) {l : List A} → ((a b : A) → R a b → S (f a) (f b))
    → Ascending R l → Ascending S (map f l)
ascending-map f h nothing = nothing
ascending-map {S} f h (below {a = x} {l} g p) =
    below (λ b i. let (y, j, e) = member-unmap f l i in subst (S (f x)) (sym e) (h x y (g y j))) (ascending-map f h p)

-- lists that keep the order of what gives them
pub ascending-gather :
    {A B : Type 0} {R : A → A → Type 0} {S : B → B → Type 0} (f : A → List B) {l : List A} → ((a : A) → Ascending S (f a))
    → ((a a' : A) (b b' : B) → R a a' → Member b (f a) → Member b' (f a') → S b b') → Ascending R l → Ascending S (gather f l)
ascending-gather f h k nothing = nothing
ascending-gather f h k (below {a = x} {l} g p) =
    ascending-append (h x) (ascending-gather f h k p) (λ b b' i j.
    let (y, m, n) = gather-member f l j in
    k x y b b' (g y m) i n)

-- answers that keep the order of what has them
pub ascending-answers :
    {A B : Type 0} {R : A → A → Type 0} {S : B → B → Type 0} (f : A → Option B) {l : List A}
    → ((a a' : A) (b b' : B) → R a a' → f a ≡ some b → f a' ≡ some b' → S b b') → Ascending R l → Ascending S (answers f l)
ascending-answers f k nothing = nothing
ascending-answers {A} {B} {S} f k (below {a = x} {l} g p) = go (f x) refl (ascending-answers f k p)
  where
    go : (o : Option B) → f x ≡ o → Ascending S (answers f l) → Ascending S (onward o (answers f l) (λ z. z ∷ answers f l))
    go none e q = q
    go (some z) e q = below (λ b i. let (y, m, d) = answers-member f l i in k x y z b (g y m) e d) q

-- the numbers below n
pub ascending-up_to : (n : ℕ) → Ascending ◌<◌ (up_to n)
ascending-up_to zero = nothing
ascending-up_to (suc n) =
    ascending-append (ascending-up_to n) (below (λ b i. absurd (member-nil i)) nothing) (λ a b i j.
    let h = up_to-member a n i in
    last a b h (member-cons j))
  where
    last : (a b : ℕ) → a < n → Or (b ≡ n) (Member b []) → a < b
    last a b h (inl e) = omega arith
    last a b h (inr k) = absurd (member-nil k)

-- of two places the element at the smaller is related to that at the larger
pub ascending-at :
    {A : Type 0} {R : A → A → Type 0} {l : List A} → Ascending R l → (i k : ℕ) {a b : A} → i < k → get_elem? l i ≡ some a
    → get_elem? l k ≡ some b → R a b
ascending-at nothing i k h p q = none-some refl p
ascending-at (below {l} f p) zero zero h e q = absurd (omega arith)
ascending-at {R} (below {l} f p) zero (suc k) {b} h e q = subst (λ x. R x b) (some-equal e) (f b (at-member l k q))
ascending-at (below f p) (suc i) zero h e q = absurd (omega arith)
ascending-at (below f p) (suc i) (suc k) h e q = ascending-at p i k (omega arith) e q

-- where none is related to itself, each stands at one place
pub ascending-once :
    {A : Type 0} {R : A → A → Type 0} {l : List A} → ((a : A) → R a a → ⊥) → Ascending R l → (i k : ℕ) {a : A}
    → get_elem? l i ≡ some a → get_elem? l k ≡ some a → i ≡ k
ascending-once {R} {l} h p i k {a} e q = go (dec_lt i k) (dec_lt k i)
  where
    go : Dec (i < k) → Dec (k < i) → i ≡ k
    go (yes x) y = absurd (h a (ascending-at p i k x e q))
    go (no x) (yes y) = absurd (h a (ascending-at p k i y q e))
    go (no x) (no y) = omega arith

-- and one that is related to another stands before it
pub ascending-before :
    {A : Type 0} {R : A → A → Type 0} {l : List A} → ((a : A) → R a a → ⊥) → ((a b c : A) → R a b → R b c → R a c)
    → Ascending R l → (i k : ℕ) {a b : A} → get_elem? l i ≡ some a → get_elem? l k ≡ some b → R a b → i < k
ascending-before {R} {l} h t p i k {a} {b} e q r = go (dec_lt i k) (dec_lt k i)
  where
    go : Dec (i < k) → Dec (k < i) → i < k
    go (yes x) y = x
    go (no x) (yes y) = absurd (h a (t a b a r (ascending-at p k i y q e)))
    go (no x) (no y) =
        let z : i ≡ k = omega arith in
        absurd (h a (subst (R a) (some-equal (sym q ∙ ap (get_elem? l) (sym z) ∙ e)) r))

-- what each element passes all pass
pub all-every : {A : Type 0} (test : A → Bool) {l : List A} → All (λ a. test a ≡ true) l → every test l ≡ true
all-every test C.none = refl
all-every test (also e es) = rw e (all-every test es)
