-- Multisets: the laws of lists related element by element, and of lists that are equal as multisets up to a relation.
--   pointwise-…             lists related element by element
--   inserted-…              a list with an element put in
--   multiset-…              equal multisets, up to a relation
--   multiset-pick           the partners of a chosen list in its order
--   multiset-cancel         what both have in front can be left out
--   member-…, all-…         the elements of a list
-- Assumes nothing.
use Prim.Native.Nat.{ℕ, zero, suc}
use mathlib.Core.List.{List, [], ◌∷◌, ◌++◌, map, append-nil, append_assoc, map-append}
use mathlib.Core.Path.{◌≡◌, refl, sym, ap, ◌∙◌, subst}
use lib.ListN.{length, take, drop}
use Rattle.semantics.specs.Variants.{Pointwise, empty, each, Inserted, here, there, SameMultiset, done, put}
use Rattle.semantics.proofs.Configurations.{Or, inl, inr, Member, first, later, All, none, also}

-- a list is related to itself where every element is
pub pointwise-refl : {A : Type 0} {R : A → A → Type 0} → ((a : A) → R a a) → (l : List A) → Pointwise R l l
pointwise-refl h [] = empty
pointwise-refl h (x ∷ l) = each (h x) (pointwise-refl h l)

-- a list is related to its image where every element is related to its image
pub pointwise-image :
    {A B : Type 0} {R : A → B → Type 0} (f : A → B) → ((a : A) → R a (f a)) → (l : List A) → Pointwise R l (map f l)
pointwise-image f h [] = empty
pointwise-image f h (x ∷ l) = each (h x) (pointwise-image f h l)

-- the same lists the other way round
pub pointwise-sym : {A B : Type 0} {R : A → B → Type 0} {l : List A} {m : List B} → Pointwise R l m → Pointwise (λ b a. R a b) m l
pointwise-sym empty = empty
pointwise-sym (each r p) = each r (pointwise-sym p)

-- one relation after another
pub pointwise-trans :
    {A B C : Type 0} {R : A → B → Type 0} {S : B → C → Type 0} {l : List A} {m : List B} {n : List C}
    → Pointwise R l m → Pointwise S m n → Pointwise (λ a c. (b : B) × R a b × S b c) l n
pointwise-trans empty empty = empty
pointwise-trans (each {b = y} r p) (each s q) = each (y, r, s) (pointwise-trans p q)

-- a weaker relation
pub pointwise-mono :
    {A B : Type 0} {R S : A → B → Type 0} {l : List A} {m : List B}
    → ((a : A) (b : B) → R a b → S a b) → Pointwise R l m → Pointwise S l m
pointwise-mono h empty = empty
pointwise-mono h (each {a = x} {b = y} r p) = each (h x y r) (pointwise-mono h p)

-- the relation of the images is a relation of the image lists
pub pointwise-map :
    {A B C D : Type 0} {R : C → D → Type 0} (f : A → C) (g : B → D) {l : List A} {m : List B}
    → Pointwise (λ a b. R (f a) (g b)) l m → Pointwise R (map f l) (map g m)
pointwise-map f g empty = empty
pointwise-map f g (each r p) = each r (pointwise-map f g p)

pub pointwise-map-right :
    {A B D : Type 0} {R : A → D → Type 0} (g : B → D) {l : List A} {m : List B}
    → Pointwise (λ a b. R a (g b)) l m → Pointwise R l (map g m)
pointwise-map-right g empty = empty
pointwise-map-right g (each r p) = each r (pointwise-map-right g p)

-- and back
pub pointwise-unmap :
    {A B C D : Type 0} {R : C → D → Type 0} (f : A → C) (g : B → D) (l : List A) (m : List B)
    → Pointwise R (map f l) (map g m) → Pointwise (λ a b. R (f a) (g b)) l m
pointwise-unmap f g [] [] p = empty
pointwise-unmap f g [] (y ∷ m) p = elim p [ ]
pointwise-unmap f g (x ∷ l) [] p = elim p [ ]
pointwise-unmap f g (x ∷ l) (y ∷ m) (each r p) = each r (pointwise-unmap f g l m p)

-- one list behind the other
pub pointwise-append :
    {A B : Type 0} {R : A → B → Type 0} {a b : List A} {c d : List B}
    → Pointwise R a c → Pointwise R b d → Pointwise R (a ++ b) (c ++ d)
pointwise-append empty q = q
pointwise-append (each r p) q = each r (pointwise-append p q)

-- two lists in two parts each, where the first parts are as long
pub pointwise-parts :
    {A B : Type 0} {R S : A → B → Type 0} {a : List A} {c : List B} (b : List A) (d : List B)
    → Pointwise S a c → Pointwise R (a ++ b) (c ++ d) → Pointwise R a c × Pointwise R b d
pointwise-parts b d empty q = (empty, q)
pointwise-parts b d (each s p) (each r q) = let h = pointwise-parts b d p q in (each r h.0, h.1)

-- the later elements of related lists
pub pointwise-drop :
    {A B : Type 0} {R : A → B → Type 0} {l : List A} {m : List B} (k : ℕ) → Pointwise R l m → Pointwise R (drop k l) (drop k m)
pointwise-drop zero p = p
pointwise-drop (suc k) empty = empty
pointwise-drop (suc k) (each r p) = pointwise-drop k p

-- related lists are as long
pub pointwise-length : {A B : Type 0} {R : A → B → Type 0} {l : List A} {m : List B} → Pointwise R l m → length l ≡ length m
pointwise-length empty = refl
pointwise-length (each r p) = ap suc (pointwise-length p)

-- each pair, with its left side known to be of the list
pub pointwise-member :
    {A B : Type 0} {R : A → B → Type 0} {l : List A} {m : List B}
    → Pointwise R l m → Pointwise (λ a b. Member a l × R a b) l m
pointwise-member empty = empty
pointwise-member (each r p) = each (first, r) (pointwise-mono (λ a b h. (later h.0, h.1)) (pointwise-member p))

-- an element of a list with one in front is that one or of the rest
pub member-cons : {A : Type 0} {a b : A} {l : List A} → Member a (b ∷ l) → Or (a ≡ b) (Member a l)
member-cons first = inl refl
member-cons (later i) = inr i

-- nothing is an element of the empty list
pub member-nil : {A : Type 0} {a : A} → Member a [] → ⊥
member-nil i = elim i [ ]

-- an element of a part is one of the whole
pub member-append-left : {A : Type 0} {a : A} {l : List A} (m : List A) → Member a l → Member a (l ++ m)
member-append-left m first = first
member-append-left m (later i) = later (member-append-left m i)

pub member-append-right : {A : Type 0} {a : A} (l : List A) {m : List A} → Member a m → Member a (l ++ m)
member-append-right [] i = i
member-append-right (x ∷ l) i = later (member-append-right l i)

-- an element of the whole is one of a part
pub member-append : {A : Type 0} {a : A} (l : List A) {m : List A} → Member a (l ++ m) → Or (Member a l) (Member a m)
member-append [] i = inr i
member-append (x ∷ l) first = inl first
member-append {a} (x ∷ l) {m} (later i) = step (member-append l i)
  where
    step : Or (Member a l) (Member a m) → Or (Member a (x ∷ l)) (Member a m)
    step (inl j) = inl (later j)
    step (inr j) = inr j

-- the image of an element is one of the image
pub member-map : {A B : Type 0} (f : A → B) {a : A} {l : List A} → Member a l → Member (f a) (map f l)
member-map f first = first
member-map f (later i) = later (member-map f i)

-- an element of the image is the image of one
pub member-unmap : {A B : Type 0} (f : A → B) {b : B} (l : List A) → Member b (map f l) → (a : A) × Member a l × (b ≡ f a)
member-unmap f [] i = elim i [ ]
member-unmap f (x ∷ l) first = (x, first, refl)
member-unmap f (x ∷ l) (later i) = let h = member-unmap f l i in (h.0, later h.1, h.2)

-- what all elements have, each has; and conversely
pub all-member : {A : Type 0} {P : A → Type 0} {a : A} {l : List A} → All P l → Member a l → P a
all-member {A = A} {P = P} {a = a} none x3 = elim x3 [ ]
all-member (also p ps) first = p
all-member (also p ps) (later i) = all-member ps i

pub all-of-members : {A : Type 0} {P : A → Type 0} (l : List A) → ((a : A) → Member a l → P a) → All P l
all-of-members [] h = none
all-of-members (x ∷ l) h = also (h x first) (all-of-members l (λ a i. h a (later i)))

-- a weaker property
pub all-mono : {A : Type 0} {P Q : A → Type 0} {l : List A} → ((a : A) → P a → Q a) → All P l → All Q l
all-mono h none = none
all-mono h (also {a = x} p ps) = also (h x p) (all-mono h ps)

-- of both parts
pub all_append : {A : Type 0} {P : A → Type 0} {l m : List A} → All P l → All P m → All P (l ++ m)
all_append none qs = qs
all_append (also p ps) qs = also p (all_append ps qs)

-- of an image
pub all_map : {A B : Type 0} {P : B → Type 0} (f : A → B) {l : List A} → All (λ a. P (f a)) l → All P (map f l)
all_map f none = none
all_map f (also p ps) = also p (all_map f ps)

-- of the first ones
pub all_take : {A : Type 0} {P : A → Type 0} {l : List A} (k : ℕ) → All P l → All P (take k l)
all_take zero h = none
all_take (suc k) none = none
all_take (suc k) (also p ps) = also p (all_take k ps)

-- of an equal multiset
pub all-multiset : {A : Type 0} {P : A → Type 0} {l m : List A} → SameMultiset ◌≡◌ l m → All P l → All P m
all-multiset done none = none
all-multiset {A} {P} (put r i s) (also p ps) = inserted (subst P r p) (all-multiset s ps) i
  where
    inserted : {b : A} {m n : List A} → P b → All P m → Inserted b m n → All P n
    inserted q qs here = also q qs
    inserted q (also p qs) (there j) = also p (inserted q qs j)

-- two elements put in one after the other can be put in the other way round
pub inserted-swap :
    {A : Type 0} {a b : A} {k l m : List A} → Inserted a k l → Inserted b l m → (n : List A) × Inserted b k n × Inserted a n m
inserted-swap {b} {k} i here = (b ∷ k, here, there i)
inserted-swap here (there {m = n} j) = (n, j, here)
inserted-swap (there {b = x} i) (there j) = let h = inserted-swap i j in (x ∷ h.0, there h.1, there h.2)

-- what is put in is an element, and the others remain elements
pub inserted-member : {A : Type 0} {a : A} {l m : List A} → Inserted a l m → Member a m
inserted-member here = first
inserted-member (there i) = later (inserted-member i)

pub inserted-keeps : {A : Type 0} {a b : A} {l m : List A} → Inserted a l m → Member b l → Member b m
inserted-keeps here j = later j
inserted-keeps (there i) first = first
inserted-keeps (there i) (later j) = later (inserted-keeps i j)

-- one more element
pub inserted-length : {A : Type 0} {a : A} {l m : List A} → Inserted a l m → length m ≡ suc (length l)
inserted-length here = refl
inserted-length (there i) = ap suc (inserted-length i)

-- the image, and back
pub inserted-map : {A B : Type 0} (f : A → B) {a : A} {l m : List A} → Inserted a l m → Inserted (f a) (map f l) (map f m)
inserted-map f here = here
inserted-map f (there i) = there (inserted-map f i)

pub inserted-unmap :
    {A B : Type 0} (f : A → B) {b : B} {l : List B} (m : List A) → Inserted b l (map f m)
    → (a : A) × (k : List A) × (b ≡ f a) × (l ≡ map f k) × Inserted a k m
inserted-unmap f [] i = elim i [ ]
inserted-unmap f (x ∷ m) here = (x, m, refl, refl, here)
inserted-unmap f (x ∷ m) (there i) =
    let h = inserted-unmap f m i in
    (h.0, x ∷ h.1, h.2, ap (λ k. f x ∷ k) h.3, there h.4)

-- in the first or the second of two parts
pub inserted-left : {A : Type 0} {a : A} {l m : List A} (k : List A) → Inserted a l m → Inserted a (l ++ k) (m ++ k)
inserted-left k here = here
inserted-left k (there i) = there (inserted-left k i)

pub inserted-right : {A : Type 0} {a : A} (k : List A) {l m : List A} → Inserted a l m → Inserted a (k ++ l) (k ++ m)
inserted-right [] i = i
inserted-right (x ∷ k) i = there (inserted-right k i)

-- related elements put in anywhere on both sides
pub multiset-put :
    {A B : Type 0} {R : A → B → Type 0} {a : A} {b : B} {k l : List A} {m n : List B}
    → R a b → Inserted a k l → Inserted b m n → SameMultiset R k m → SameMultiset R l n
multiset-put r here j s = put r j s
multiset-put r (there i) j (put r' j' s) = let h = inserted-swap j' j in put r' h.2 (multiset-put r i h.1 s)

-- an element taken out on the left, with its partner
pub multiset-take :
    {A B : Type 0} {R : A → B → Type 0} {a : A} {k l : List A} {n : List B} → Inserted a k l → SameMultiset R l n
    → (b : B) × (m : List B) × R a b × Inserted b m n × SameMultiset R k m
multiset-take here (put {b = y} {m} r j s) = (y, m, r, j, s)
multiset-take (there i) (put r j s) =
    let h = multiset-take i s in
    let k = inserted-swap h.3 j in
    (h.0, k.0, h.2, k.2, put r k.1 h.4)

-- a multiset is equal to itself
pub multiset-refl : {A : Type 0} {R : A → A → Type 0} → ((a : A) → R a a) → (l : List A) → SameMultiset R l l
multiset-refl h [] = done
multiset-refl h (x ∷ l) = put (h x) here (multiset-refl h l)

-- the other way round
pub multiset-sym :
    {A B : Type 0} {R : A → B → Type 0} {l : List A} {m : List B} → SameMultiset R l m → SameMultiset (λ b a. R a b) m l
multiset-sym done = done
multiset-sym (put r i s) = multiset-put r i here (multiset-sym s)

-- one relation after another
pub multiset-trans :
    {A B C : Type 0} {R : A → B → Type 0} {S : B → C → Type 0} {l : List A} {m : List B} {n : List C}
    → SameMultiset R l m → SameMultiset S m n → SameMultiset (λ a c. (b : B) × R a b × S b c) l n
multiset-trans done done = done
multiset-trans (put {b = y} r i s) t =
    let h = multiset-take i t in
    put (y, r, h.2) h.3 (multiset-trans s h.4)

-- a weaker relation
pub multiset-mono :
    {A B : Type 0} {R S : A → B → Type 0} {l : List A} {m : List B}
    → ((a : A) (b : B) → R a b → S a b) → SameMultiset R l m → SameMultiset S l m
multiset-mono h done = done
multiset-mono h (put {a = x} {b = y} r i s) = put (h x y r) i (multiset-mono h s)

-- the images, and back
pub multiset-map :
    {A B C D : Type 0} {R : C → D → Type 0} (f : A → C) (g : B → D) {l : List A} {m : List B}
    → SameMultiset (λ a b. R (f a) (g b)) l m → SameMultiset R (map f l) (map g m)
multiset-map f g done = done
multiset-map f g (put r i s) = put r (inserted-map g i) (multiset-map f g s)

pub multiset-unmap :
    {A B C D : Type 0} {R : C → D → Type 0} (f : A → C) (g : B → D) (l : List A) (m : List B)
    → SameMultiset R (map f l) (map g m) → SameMultiset (λ a b. R (f a) (g b)) l m
multiset-unmap f g [] [] s = done
multiset-unmap f g [] (y ∷ m) s = elim s [ ]
multiset-unmap {R} f g (x ∷ l) m (put r i s) =
    let h = inserted-unmap g m i in
    put (subst (R (f x)) h.2 r) h.4 (multiset-unmap f g l h.1 (subst (SameMultiset R (map f l)) h.3 s))

pub multiset-unmap-left :
    {A B C : Type 0} {R : C → B → Type 0} (f : A → C) (l : List A) {m : List B}
    → SameMultiset R (map f l) m → SameMultiset (λ a b. R (f a) b) l m
multiset-unmap-left f [] done = done
multiset-unmap-left f (x ∷ l) (put r i s) = put r i (multiset-unmap-left f l s)

-- one list behind the other
pub multiset-append :
    {A B : Type 0} {R : A → B → Type 0} {a b : List A} {c d : List B}
    → SameMultiset R a c → SameMultiset R b d → SameMultiset R (a ++ b) (c ++ d)
multiset-append done t = t
multiset-append {d} (put r i s) t = put r (inserted-left d i) (multiset-append s t)

-- lists related element by element are equal multisets
pub multiset-of-pointwise : {A B : Type 0} {R : A → B → Type 0} {l : List A} {m : List B} → Pointwise R l m → SameMultiset R l m
multiset-of-pointwise empty = done
multiset-of-pointwise (each r p) = put r here (multiset-of-pointwise p)

-- equal lists are equal multisets
pub multiset-of-path : {A : Type 0} {l m : List A} → l ≡ m → SameMultiset ◌≡◌ l m
multiset-of-path {l} e = subst (SameMultiset ◌≡◌ l) e (multiset-refl (λ a. refl) l)

-- two parts change places
pub multiset-swap : {A : Type 0} (a b : List A) → SameMultiset ◌≡◌ (a ++ b) (b ++ a)
multiset-swap [] b = multiset-of-path (sym (append-nil b))
multiset-swap (x ∷ a) b = put refl (inserted-right b here) (multiset-swap a b)

-- equal multisets are as long
pub multiset-length : {A B : Type 0} {R : A → B → Type 0} {l : List A} {m : List B} → SameMultiset R l m → length l ≡ length m
multiset-length done = refl
multiset-length (put r i s) = ap suc (multiset-length s) ∙ sym (inserted-length i)

-- an element has its partner
pub multiset-partner :
    {A B : Type 0} {R : A → B → Type 0} {a : A} {l : List A} {m : List B}
    → Member a l → SameMultiset R l m → (b : B) × R a b × Member b m
multiset-partner first (put {b = y} r i s) = (y, r, inserted-member i)
multiset-partner (later j) (put r i s) = let h = multiset-partner j s in (h.0, h.1, inserted-keeps i h.2)

-- a reordered list on the left, on the right, and reordered lists among themselves
pub multiset-left :
    {A B : Type 0} {R : A → B → Type 0} {k l : List A} {m : List B}
    → SameMultiset ◌≡◌ k l → SameMultiset R l m → SameMultiset R k m
multiset-left {R} p s = multiset-mono (λ a b h. subst (λ x. R x b) (sym h.1) h.2) (multiset-trans p s)

pub multiset-right :
    {A B : Type 0} {R : A → B → Type 0} {l : List A} {m n : List B}
    → SameMultiset R l m → SameMultiset ◌≡◌ m n → SameMultiset R l n
multiset-right {R} s p = multiset-mono (λ a b h. subst (R a) h.2 h.1) (multiset-trans s p)

pub multiset-back : {A : Type 0} {l m : List A} → SameMultiset ◌≡◌ l m → SameMultiset ◌≡◌ m l
multiset-back p = multiset-mono (λ a b e. sym e) (multiset-sym p)

-- the partners of a chosen list, in its order, and those of the rest
pub multiset-pick :
    {A B : Type 0} {R : A → B → Type 0} {l : List A} {n : List B} (M L : List A)
    → SameMultiset R l n → SameMultiset ◌≡◌ l (M ++ L)
    → (M' : List B) × (L' : List B) × SameMultiset ◌≡◌ n (M' ++ L') × Pointwise R M M' × SameMultiset R L L'
multiset-pick {A} {B} {R} {l} {n} M L s p = chosen M (multiset-left (multiset-back p) s)
  where
    chosen : (M : List A) {n : List B} → SameMultiset R (M ++ L) n
        → (M' : List B) × (L' : List B) × SameMultiset ◌≡◌ n (M' ++ L') × Pointwise R M M' × SameMultiset R L L'
    chosen [] {n} t = ([], n, multiset-refl (λ x. refl) n, empty, t)
    chosen (x ∷ M) (put {b = y} r i t) =
        let h = chosen M t in
        (y ∷ h.0, h.1, multiset-put refl i here h.2, each r h.3, h.4)

-- an element taken out of one list in two ways leaves equal multisets
inserted_alike :
    {A : Type 0} {a b : A} {k l m : List A} → a ≡ b → Inserted a k m → Inserted b l m → SameMultiset ◌≡◌ k l
inserted_alike {k = k} e here here = multiset-refl (λ x. refl) k
inserted_alike e here (there {l} j) = multiset-back (put e j (multiset-refl (λ x. refl) l))
inserted_alike e (there {l} i) here = put (sym e) i (multiset-refl (λ x. refl) l)
inserted_alike e (there i) (there j) = put refl here (inserted_alike e i j)

pub inserted_same : {A : Type 0} {a : A} {k l m : List A} → Inserted a k m → Inserted a l m → SameMultiset ◌≡◌ k l
inserted_same i j = inserted_alike refl i j

-- what equal multisets have in front in common can be left out
pub multiset-cancel :
    {A : Type 0} (k : List A) {l m : List A} → SameMultiset ◌≡◌ (k ++ l) (k ++ m) → SameMultiset ◌≡◌ l m
multiset-cancel [] s = s
multiset-cancel {A} (x ∷ k) {l} {m} (put {m = n} r i s) =
    multiset-cancel k (multiset-right s (inserted_same (subst (λ y. Inserted y n (x ∷ (k ++ m))) (sym r) i) here))

-- the image of a list in two parts, and more behind it
pub multiset-parts :
    {A B : Type 0} (f : A → B) {l : List A} (M L : List A) (k : List B)
    → SameMultiset ◌≡◌ l (M ++ L) → SameMultiset ◌≡◌ (map f l ++ k) (map f M ++ (map f L ++ k))
multiset-parts f {l} M L k p =
    subst (SameMultiset ◌≡◌ (map f l ++ k)) (ap (λ n. n ++ k) (map-append f M L) ∙ append_assoc (map f M) (map f L) k)
    (multiset-append (multiset-map f f (multiset-mono (λ a b e. ap f e) p)) (multiset-refl (λ b. refl) k))
