-- Classes of constraints: states with different classes are not equal, and classes may stand for symbols.
--   same-iff                 comparing two states answers the same as comparing two others
--   multiset-members         each pair of two equal multisets, with both sides known to be of them
--   class-one                keys in the same class are the same
--   classes-apart            sums of keys that differ
--   classes-same             classes in the place of symbols
-- Assumes nothing.
use Rattle.std.proofs.Common.{◌≡◌, ℕ, zero, suc, ◌<◌, ◌≤◌, Bool, true, false, cond, eqb, List, [], ◌∷◌, map, length, get_or, take, replicate, sym, refl, ap, ◌∙◌, arith, length-take-le}
use lib.ListN.{length-replicate}
use Rattle.text.specs.Lists.{index_from}
use Rattle.semantics.specs.Terms.{Constraint, State, live}
use Rattle.semantics.specs.Variants.{OneToOne, ConstraintVariant, Pointwise, TermVariant, SameMultiset, done, put}
use Rattle.semantics.specs.Variants.{Variant, same_state}
use Rattle.semantics.proofs.Configurations.{Or, inl, inr, Member, first, later}
use Rattle.semantics.proofs.Multisets.{multiset-map, multiset-unmap, multiset-mono}
use Rattle.semantics.proofs.Multisets.{member-map, member-cons, inserted-member, inserted-keeps}
use Rattle.semantics.proofs.Options.{decide, true-false, eqb-equal, equal-eqb}
use Rattle.semantics.proofs.Comparison.{same_state-sound, same_state-complete}
use Rattle.tables.specs.Cells.{cell_term, cell_terms, cell_constraints}
use Rattle.colours.specs.Ends.{end_of}
use Rattle.colours.specs.Bounds.{Below}
use Rattle.colours.specs.Colours.{Ready}
use Rattle.colours.specs.Keys.{plain_of, coded, key_of, summed, class_of, relabel, Relabelled}
use Rattle.colours.specs.Classes.{Colourable, Classified}
use Rattle.colours.proofs.RowLaws.{symbols-small}
use Rattle.colours.proofs.AgreeLaws.{key-agree, sum-agree, plain-agree, prefix-agree}

-- states that are no variants are not the same
pub not-variant : (s t : State) → (Variant s t → ⊥) → same_state s t ≡ false
not-variant s t f = go (decide (same_state s t))
  where
    go : Or (same_state s t ≡ true) (same_state s t ≡ false) → same_state s t ≡ false
    go (inl e) = absurd (f (same_state-sound s t e))
    go (inr e) = e

-- two comparisons answer the same where states are variants together
pub same-iff :
    (s t u v : State) → (Variant s t → Variant u v) → (Variant u v → Variant s t) → same_state u v ≡ same_state s t
same-iff s t u v f g = go (decide (same_state s t))
  where
    go : Or (same_state s t ≡ true) (same_state s t ≡ false) → same_state u v ≡ same_state s t
    go (inl e) = same_state-complete u v (f (same_state-sound s t e)) ∙ sym e
    go (inr e) = not-variant u v (λ w. true-false (same_state-complete s t (g w)) e) ∙ sym e

-- a place is not before the first
index-least : (t : ℕ → Bool) (i : ℕ) (ks : List ℕ) → i ≤ index_from t i ks
index-least t i [] = omega arith
index-least t i (x ∷ ks) = go (t x) (index-least t (suc i) ks)
  where
    go : (b : Bool) → suc i ≤ index_from t (suc i) ks → i ≤ cond b i (index_from t (suc i) ks)
    go true h = omega arith
    go false h = omega arith

-- keys in the same class are the same
index-one :
    (i : ℕ) (ks : List ℕ) (k j : ℕ) → Member k ks → index_from (eqb k) i ks ≡ index_from (eqb j) i ks → k ≡ j
index-one i [] k j m e = elim m [ ]
index-one i (x ∷ ks) k j m e =
    go (eqb k x) refl (eqb j x) refl (member-cons m) e (index-one (suc i) ks k j) (index-least (eqb k) (suc i) ks)
    (index-least (eqb j) (suc i) ks)
  where
    go :
        (a : Bool) → eqb k x ≡ a → (b : Bool) → eqb j x ≡ b → Or (k ≡ x) (Member k ks)
        → cond a i (index_from (eqb k) (suc i) ks) ≡ cond b i (index_from (eqb j) (suc i) ks)
        → (Member k ks → index_from (eqb k) (suc i) ks ≡ index_from (eqb j) (suc i) ks → k ≡ j)
        → suc i ≤ index_from (eqb k) (suc i) ks → suc i ≤ index_from (eqb j) (suc i) ks → k ≡ j
    go true p true q m e more l r = eqb-equal p ∙ sym (eqb-equal q)
    go true p false q m e more l r = absurd (omega arith)
    go false p true q m e more l r = absurd (omega arith)
    go false p false q (inl z) e more l r = true-false (equal-eqb z) p
    go false p false q (inr m) e more l r = more m e

pub class-one : (ks : List ℕ) (k j : ℕ) → Member k ks → class_of ks k ≡ class_of ks j → k ≡ j
unfolding class_of
class-one ks k j m e = index-one 0 ks k j m e

-- each pair, with both sides known to be of the lists
pub multiset-members :
    {A B : Type 0} {R : A → B → Type 0} {l : List A} {m : List B} → SameMultiset R l m
    → SameMultiset (λ a b. Member a l × Member b m × R a b) l m
multiset-members done = done
multiset-members (put r i s) =
    put (first, inserted-member i, r) i
    (multiset-mono (λ a b h. (later h.0, inserted-keeps i h.1, h.2)) (multiset-members s))

module _ (f a g b : List ℕ) (t : ℕ) (deep : Bool) where
  abbrev cs : List Constraint
  cs = cell_constraints a

  abbrev ds : List Constraint
  ds = cell_constraints b

  abbrev key_a : Constraint → ℕ
  key_a = key_of t deep (plain_of t (cell_terms f) cs) cs

  abbrev key_b : Constraint → ℕ
  key_b = key_of t deep (plain_of t (cell_terms g) ds) ds

  -- the keys of two states that are variants
  keys-variant :
      (ρ : ℕ → ℕ → Type 0) → OneToOne ρ → Pointwise (TermVariant ρ) (map cell_term f) (map cell_term g)
      → SameMultiset (ConstraintVariant ρ) cs ds → (c d : Constraint) → ConstraintVariant ρ c d → key_a c ≡ key_b d
  keys-variant ρ o p s =
      key-agree ρ o s t deep (plain_of t (cell_terms f) cs) (plain_of t (cell_terms g) ds) (plain-agree ρ o s t (prefix-agree f g p))

  module _ (own other : List ℕ) (ea : own ≡ map key_a cs) (eb : other ≡ map key_b ds) where
    -- sums of keys that differ
    pub classes-apart :
        (x y : ℕ) → x ≡ summed own 0 → y ≡ summed other 0 → (x ≡ y → ⊥) → same_state (end_of f a) (end_of g b) ≡ false
    classes-apart x y ex ey n =
        not-variant (end_of f a) (end_of g b)
        (λ v. n (ex ∙ (rw (ea, eb) (sum-agree v.0 v.1 v.3 t deep (plain_of t (cell_terms f) cs) (plain_of t (cell_terms g) ds)
        (plain-agree v.0 v.1 v.3 t (prefix-agree f g v.2))) ∙ sym ey)))

    module _ (sa : (i : ℕ) → get_or a i 0 < 65536) (sb : (i : ℕ) → get_or b i 0 < 65536) where
      -- constraints in the same class have the same symbol
      symbols-one :
          (c d : Constraint) → Member c cs → Member d ds → class_of own (key_a c) ≡ class_of own (key_b d) → c.symbol ≡ d.symbol
      unfolding key_of coded
      symbols-one c d m n e =
          let k : key_a c ≡ key_b d = class-one own (key_a c) (key_b d) (rw ea (member-map key_a m)) e in
          let p = symbols-small 65536 a sa c m in
          let q = symbols-small 65536 b sb d n in
          omega arith

      -- classes in the place of symbols
      pub classes-same :
          (a' b' : List ℕ) → Relabelled own own a a' → Relabelled other own b b'
          → same_state (end_of f a') (end_of g b') ≡ same_state (end_of f a) (end_of g b)
      unfolding relabel
      classes-same a' b' ra rb =
          rw (ra.same key_a ea, rb.same key_b eb)
          (same-iff (end_of f a) (end_of g b) (live 0 (map cell_term f) (map (relabel own key_a) cs))
          (live 0 (map cell_term g) (map (relabel own key_b) ds))
          (λ v. (
            v.0,
            v.1,
            v.2,
            multiset-map (relabel own key_a) (relabel own key_b)
                (multiset-mono (λ c d w. record {
                  symbols = ap (class_of own) (keys-variant v.0 v.1 v.2 v.3 c d w);
                  terms = w.terms;
                }) v.3),
          ))
          (λ v. (
            v.0,
            v.1,
            v.2,
            multiset-mono (λ c d w. record { symbols = symbols-one c d w.0 w.1 w.2.symbols; terms = w.2.terms })
                (multiset-members (multiset-unmap (relabel own key_a) (relabel own key_b) cs ds v.3)),
          )))

      -- what is promised of the classes
      pub classified-same :
          (a' b' : List ℕ) → Relabelled own own a a' → Relabelled other own b b' → Classified true f a g b a' b'
      classified-same a' b' ra rb =
          record {
            apart = λ z. true-false refl z;
            same = λ z. classes-same a' b' ra rb;
            left = λ z. ra.below;
            right = λ z. rb.below;
          }

    pub classified-apart :
        (x y : ℕ) → x ≡ summed own 0 → y ≡ summed other 0 → (x ≡ y → ⊥) → Classified false f a g b a b
    classified-apart x y ex ey n =
        record {
          apart = λ z. classes-apart x y ex ey n;
          same = λ z. true-false z refl;
          left = λ z. true-false z refl;
          right = λ z. true-false z refl;
        }

-- a part of a table of zeros
pub zeros-length : (m n : ℕ) → m ≤ n → length {A = ℕ} (take m (replicate n 0)) ≡ m
zeros-length m n h = length-take-le m (replicate n 0) (omega (arith, length-replicate {A = ℕ} n 0))

zeros-take : (m n x : ℕ) → ◌≡◌ {A = ℕ} (get_or (take m (replicate n 0)) x 0) 0
zeros-take zero n x = refl
zeros-take (suc m) zero x = refl
zeros-take (suc m) (suc n) zero = refl
zeros-take (suc m) (suc n) (suc x) = zeros-take m n x

module _ (cells bound : List ℕ) (size n : ℕ) (c : Colourable cells bound size n) where
  -- tables of zeros are ready
  pub make-ready : Ready cells n (take size (replicate 2844 0)) (take size (replicate 2844 0))
  make-ready =
      record {
        size = c.count;
        below = rw (zeros-length size 2844 c.room) c.terms;
        same_size = refl;
        empty = record { none = zeros-take size 2844 };
      }

  pub make-bound : Below (length {A = ℕ} (take size (replicate 2844 0))) bound
  make-bound = rw (zeros-length size 2844 c.room) c.bound-below

  pub make-few : length {A = ℕ} (take size (replicate 2844 0)) ≤ 65536
  make-few = rw (zeros-length size 2844 c.room) (omega (arith, c.room))
