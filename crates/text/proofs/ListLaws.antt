-- Laws of lists that are tested, gathered or answered, for all crates.
--   every-both, every_take, every_drop     a test of all elements: of two lists, of parts
--   every-at                               what all elements pass, each does
--   every-always, every-weaker, every-together     one that always holds, or that follows from another, or from two
--   every_map, every-gather                of images, of lists one behind the other
--   gather_append, gather-map              lists one behind the other: of two lists, of a list's image
--   answers-append, answers-map            answers: over two lists, over a list's image
-- Assumes nothing.
use mathlib.Core.Path.{◌≡◌, refl, sym, ap, ◌∙◌}
use mathlib.Core.Bool.{Bool, true}
use mathlib.Core.List.{List, [], ◌∷◌, ◌++◌, map, append_assoc}
use mathlib.Core.Option.{Option, none, some}
use Prim.Native.Nat.{ℕ, zero, suc, ◌<◌}
use native.Mathlib.Omega.{arith}
use lib.ListN.{length, take, drop, get_or}
use Rattle.text.specs.Lists.{onward, every, gather, answers}
use Rattle.text.proofs.Bools.{and-true}
use Rattle.text.proofs.Laws.{every_append}

-- a test of all elements of one list behind another
pub every-both : {A : Type 0} (t : A → Bool) (l m : List A) → every t l ≡ true → every t m ≡ true → every t (l ++ m) ≡ true
every-both t l m p q = rw (every_append t l m, p, q)

-- of the first n elements, and of those behind them
pub every_take : {A : Type 0} (t : A → Bool) (n : ℕ) (l : List A) → every t l ≡ true → every t (take n l) ≡ true
every_take t zero l h = refl
every_take t (suc n) [] h = refl
every_take t (suc n) (x ∷ l) h =
    let (first, rest) = and-true (t x) (every t l) h in
    rw (first, every_take t n l rest)

pub every_drop : {A : Type 0} (t : A → Bool) (n : ℕ) (l : List A) → every t l ≡ true → every t (drop n l) ≡ true
every_drop t zero l h = h
every_drop t (suc n) [] h = refl
every_drop t (suc n) (x ∷ l) h = every_drop t n l (and-true (t x) (every t l) h).1

-- what all elements pass, each does
pub every-at : {A : Type 0} (t : A → Bool) (l : List A) (i : ℕ) (d : A) → every t l ≡ true → i < length l → t (get_or l i d) ≡ true
every-at t [] i d h k = absurd (omega arith)
every-at t (x ∷ l) zero d h k = (and-true (t x) (every t l) h).0
every-at t (x ∷ l) (suc i) d h k = every-at t l i d (and-true (t x) (every t l) h).1 (omega arith)

-- a test that all elements pass, one that follows from another, and one that follows from two
pub every-always : {A : Type 0} (t : A → Bool) (l : List A) → ((a : A) → t a ≡ true) → every t l ≡ true
every-always t [] h = refl
every-always t (x ∷ l) h = rw (h x, every-always t l h)

pub every-weaker : {A : Type 0} (t u : A → Bool) (l : List A) → ((a : A) → t a ≡ true → u a ≡ true) → every t l ≡ true
    → every u l ≡ true
every-weaker t u [] k h = refl
every-weaker t u (x ∷ l) k h =
    let (first, rest) = and-true (t x) (every t l) h in
    rw (k x first, every-weaker t u l k rest)

pub every-together :
    {A : Type 0} (t u v : A → Bool) (l : List A) → ((a : A) → t a ≡ true → u a ≡ true → v a ≡ true)
    → every t l ≡ true → every u l ≡ true → every v l ≡ true
every-together t u v [] f h k = refl
every-together t u v (x ∷ l) f h k =
    let (first, rest) = and-true (t x) (every t l) h in
    let (second, others) = and-true (u x) (every u l) k in
    rw (f x first second, every-together t u v l f rest others)

-- a test of images, and of lists one behind the other, that follows from a test of the elements
module _ {A B : Type 0} (t : A → Bool) (u : B → Bool) where
  pub every_map : (f : A → B) (l : List A) → ((a : A) → t a ≡ true → u (f a) ≡ true) → every t l ≡ true
      → every u (map f l) ≡ true
  every_map f [] k h = refl
  every_map f (x ∷ l) k h =
      let (first, rest) = and-true (t x) (every t l) h in
      rw (k x first, every_map f l k rest)

  pub every-gather : (f : A → List B) (l : List A) → ((a : A) → t a ≡ true → every u (f a) ≡ true) → every t l ≡ true
      → every u (gather f l) ≡ true
  every-gather f [] k h = refl
  every-gather f (x ∷ l) k h =
      let (first, rest) = and-true (t x) (every t l) h in
      every-both u (f x) (gather f l) (k x first) (every-gather f l k rest)

-- lists one behind the other, of two lists and of a list's image
pub gather_append : {A B : Type 0} (f : A → List B) (a b : List A) → gather f (a ++ b) ≡ gather f a ++ gather f b
gather_append f [] b = refl
gather_append f (x ∷ a) b =
    ap (λ (l : List _). f x ++ l) (gather_append f a b) ∙ sym (append_assoc (f x) (gather f a) (gather f b))

pub gather-map : {A B C : Type 0} (f : B → List C) (g : A → B) (l : List A) → gather f (map g l) ≡ gather (λ a. f (g a)) l
gather-map f g [] = refl
gather-map f g (x ∷ l) = rw (gather-map f g l)

-- the answers over two lists, and over a list's image
pub answers-append :
    {A B : Type 0} (f : A → Option B) (k l : List A) → answers f (k ++ l) ≡ answers f k ++ answers f l
answers-append f [] l = refl
answers-append {A} {B} f (a ∷ k) l = rw (answers-append f k l) (go (f a))
  where
    go : (o : Option B)
        → onward o (answers f k ++ answers f l) (λ y. y ∷ (answers f k ++ answers f l))
        ≡ onward o (answers f k) (λ y. y ∷ answers f k) ++ answers f l
    go none = refl
    go (some b) = refl

pub answers-map : {A B C : Type 0} (f : B → Option C) (g : A → B) (l : List A) → answers f (map g l) ≡ answers (λ a. f (g a)) l
answers-map f g [] = refl
answers-map f g (x ∷ l) = rw (answers-map f g l)
