-- Classes made finer step by step: one law for each way that the code goes.
--   colourable-…          what colouring asks, with more room and after a step
--   order_same, order-right      another order of the constraints of one state
--   classes-apart         states whose classes differ
--   narrowing-…           one step after the other
-- Assumes nothing.
use Rattle.std.proofs.Common.{◌≡◌, ℕ, ◌≤◌, ◌*◌, Bool, true, false, List, length, refl, sym, ◌∙◌, arith}
use Rattle.semantics.specs.Variants.{same_state}
use Rattle.semantics.proofs.Multisets.{multiset-left, multiset-right, multiset-back}
use Rattle.colours.specs.Bounds.{TermsBelow}
use Rattle.colours.specs.Ends.{end_of}
use Rattle.colours.specs.Classes.{Colourable, Classified}
use Rattle.colours.specs.Order.{Reordered}
use Rattle.colours.proofs.ClassLaws.{same-iff}
use Rattle.comparison.specs.Settlements.{Found}

-- terms that have places in a table have them in a larger one
terms-more : (m k : ℕ) (cells : List ℕ) → m ≤ k → TermsBelow m cells → TermsBelow k cells
terms-more m k cells h b = record { below = λ i j l. omega (arith, b.below i j l) }

pub colourable-more : (cells bound : List ℕ) (size n : ℕ) → Colourable cells bound size n → Colourable cells bound 2844 n
colourable-more cells bound size n c =
    record {
      count = c.count;
      room = omega arith;
      terms = terms-more size 2844 cells c.room c.terms;
      bound-below = record { below = λ i. omega (arith, c.bound-below.below i, c.room) };
    }

pub colourable-after :
    (cells bound cells' : List ℕ) (size n : ℕ) → Colourable cells bound size n → length cells' ≡ length cells
    → ((m : ℕ) → TermsBelow m cells → TermsBelow m cells') → Colourable cells' bound size n
colourable-after cells bound cells' size n c l t =
    record { count = l ∙ c.count; room = c.room; terms = t size c.terms; bound-below = c.bound-below }

-- another order of the constraints of the first state
order_same :
    (f a a' g b : List ℕ) → Reordered a a'
    → same_state (end_of f a') (end_of g b) ≡ same_state (end_of f a) (end_of g b)
order_same f a a' g b r =
    same-iff (end_of f a) (end_of g b) (end_of f a') (end_of g b)
    (λ v. (v.0, v.1, v.2, multiset-left r.same v.3))
    (λ v. (v.0, v.1, v.2, multiset-left (multiset-back r.same) v.3))

-- and of the second
order-right :
    (f a g b b' : List ℕ) → Reordered b b'
    → same_state (end_of f a) (end_of g b') ≡ same_state (end_of f a) (end_of g b)
order-right f a g b b' r =
    same-iff (end_of f a) (end_of g b) (end_of f a) (end_of g b')
    (λ v. (v.0, v.1, v.2, multiset-right v.3 (multiset-back r.same)))
    (λ v. (v.0, v.1, v.2, multiset-right v.3 r.same))

-- the classes differ
pub classes-apart :
    (f a g b : List ℕ) (r : Bool) (a' b' : List ℕ) → Classified r f a g b a' b' → r ≡ false
    → false ≡ same_state (end_of f a) (end_of g b)
classes-apart f a g b r a' b' k e = sym (k.apart e)

-- two states that answer for two others
pub record Narrowing (f a₀ g b₀ a b : List ℕ) (size n : ℕ) : Type 0 where
  pub left : Colourable a f size n
  pub right : Colourable b g size n
  pub same : same_state (end_of f a) (end_of g b) ≡ same_state (end_of f a₀) (end_of g b₀)
  pub left-size : length a ≡ length a₀
  pub right-size : length b ≡ length b₀

pub narrowing-start :
    (f a g b : List ℕ) (size n : ℕ) → Colourable a f size n → Colourable b g size n → Narrowing f a g b a b size n
narrowing-start f a g b size n ca cb = record { left = ca; right = cb; same = refl; left-size = refl; right-size = refl }

-- with classes for symbols
pub narrowing-classes :
    (f a g b : List ℕ) (size n : ℕ) → Colourable a f size n → Colourable b g size n → (r : Bool) (a' b' : List ℕ)
    → Classified r f a g b a' b' → r ≡ true → length a' ≡ length a → length b' ≡ length b → Narrowing f a g b a' b' size n
narrowing-classes f a g b size n ca cb r a' b' k t la lb =
    record {
      left = colourable-after a f a' size n ca la (k.left t);
      right = colourable-after b g b' size n cb lb (k.right t);
      same = k.same t;
      left-size = la;
      right-size = lb;
    }

module _ (f a₀ g b₀ a b : List ℕ) (size n : ℕ) (w : Narrowing f a₀ g b₀ a b size n) where
  -- what the search asks
  pub narrowing-left : Colourable a f 2844 n
  narrowing-left = colourable-more a f size n w.left

  pub narrowing-right : Colourable b g 2844 n
  narrowing-right = colourable-more b g size n w.right

  -- what the order asks
  pub narrowing-arrange : (length a ≡ 5 * n) × TermsBelow 2844 a
  narrowing-arrange = (w.left.count, narrowing-left.terms)

  -- the first state in another order
  pub narrowing-order : (a' : List ℕ) → length a' ≡ length a → Reordered a a' → Narrowing f a₀ g b₀ a' b size n
  narrowing-order a' l o =
      record {
        left = colourable-after a f a' size n w.left l o.below;
        right = w.right;
        same = order_same f a a' g b o ∙ w.same;
        left-size = l ∙ w.left-size;
        right-size = w.right-size;
      }

  -- the second state in another order
  pub narrowing-order-right : (b' : List ℕ) → length b' ≡ length b → Reordered b b' → Narrowing f a₀ g b₀ a b' size n
  narrowing-order-right b' l o =
      record {
        left = w.left;
        right = colourable-after b g b' size n w.right l o.below;
        same = order-right f a g b b' o ∙ w.same;
        left-size = w.left-size;
        right-size = l ∙ w.right-size;
      }

  -- all constraints are placed
  pub narrowing-found : (r : Bool) → Found r f a g b → r ≡ true → true ≡ same_state (end_of f a₀) (end_of g b₀)
  narrowing-found r v e = sym (v.same e) ∙ w.same

  -- what a search finds
  pub narrowing-answer : (r : Bool) → r ≡ same_state (end_of f a) (end_of g b) → r ≡ same_state (end_of f a₀) (end_of g b₀)
  narrowing-answer r e = e ∙ w.same
