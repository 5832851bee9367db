-- Equal parts of two states can be left out: where the first constraints of two states are equal, and share with the others only
-- what the goal variables became, the states are equal exactly where the others are.
--   inserted-compare, multiset-drop    equal multisets, left out of equal multisets
--   Occurs, Seen, Apart                where a variable stands; parts that share only what the goal variables became
--   Within, within-…                   a renaming, of the variables that stand in two states alone
--   agree                              two renamings that make the same lists of terms equal
--   Chain, chain-…                     from one state to the other, as often back by another renaming as needed
--   cancelled-rest, cancelled-all      both ways
--   cancelled                          the two comparisons answer the same
-- Assumes nothing.
use Prim.Native.Nat.{ℕ}
use mathlib.Core.Bool.{true}
use mathlib.Core.List.{List, ◌∷◌, ◌++◌}
use mathlib.Core.Path.{◌≡◌, refl, sym, ◌∙◌, subst}
use Rattle.semantics.specs.Terms.{Term, var, Constraint, live}
use Rattle.semantics.specs.Variants.{TermVariant, same_con, partners, Pointwise, empty, each, ConstraintVariant}
use Rattle.semantics.specs.Variants.{Inserted, here, there, SameMultiset, done, put, Variant, same_state}
use Rattle.semantics.proofs.Configurations.{Or, inl, inr, Member, first, later}
use Rattle.semantics.proofs.Multisets.{pointwise-mono, pointwise-sym, multiset-refl, multiset-mono, multiset-sym, multiset-put}
use Rattle.semantics.proofs.Multisets.{multiset-take, multiset-right, multiset-append, inserted-left}
use Rattle.semantics.proofs.Comparison.{same_state-sound}
use Rattle.colours.proofs.ClassLaws.{same-iff, multiset-members}

-- two elements taken out of one list are the same, or each is left in what the other leaves
inserted-compare :
    {A : Type 0} {a b : A} {k l m : List A} → Inserted a k m → Inserted b l m
    → Or ((a ≡ b) × SameMultiset ◌≡◌ k l) ((j : List A) × Inserted b j k × Inserted a j l)
inserted-compare {k} here here = inl (refl, multiset-refl (λ x. refl) k)
inserted-compare here (there {l = j} i) = inr (j, i, here)
inserted-compare (there {l = j} i) here = inr (j, here, i)
inserted-compare {A} {a} {b} (there {b = x} {l = k} i) (there {l = l} j) = go (inserted-compare i j)
  where
    go :
        Or ((a ≡ b) × SameMultiset ◌≡◌ k l) ((h : List A) × Inserted b h k × Inserted a h l)
        → Or ((a ≡ b) × SameMultiset ◌≡◌ (x ∷ k) (x ∷ l)) ((h : List A) × Inserted b h (x ∷ k) × Inserted a h (x ∷ l))
    go (inl (e, s)) = inl (e, put refl here s)
    go (inr (h, p, q)) = inr (x ∷ h, there p, there q)

-- an element taken out on the right, with its partner
multiset-take-right :
    {A B : Type 0} {R : A → B → Type 0} {b : B} {m n : List B} {l : List A} → Inserted b m n → SameMultiset R l n
    → (a : A) × (k : List A) × R a b × Inserted a k l × SameMultiset R k m
multiset-take-right i s =
    let h = multiset-take i (multiset-sym s) in
    (h.0, h.1, h.2, h.3, multiset-sym h.4)

module _ {A B : Type 0} (T Q : A → B → Type 0) (closed : (x a : A) (b y : B) → T x b → Q a b → T a y → T x y) where
  -- two elements that are related by one relation, left out of multisets that are equal by the other
  multiset-out :
      (a : A) (b : B) (l : List A) (m n : List B) → Q a b → Inserted b m n → SameMultiset T (a ∷ l) n → SameMultiset T l m
  multiset-out a b l m n q i (put {b = y} {m = k} t j s) = go (inserted-compare j i)
    where
      go : Or ((y ≡ b) × SameMultiset ◌≡◌ k m) ((h : List B) × Inserted b h k × Inserted y h m) → SameMultiset T l m
      go (inl (e, p)) = multiset-right s p
      go (inr (h, p, o)) =
          let (x, u, r, w, v) = multiset-take-right p s in
          multiset-put (closed x a b y r q t) w o v

  -- equal multisets, left out of equal multisets
  multiset-drop :
      {cs : List A} {ds : List B} (rs : List A) (ss : List B) → SameMultiset Q cs ds → SameMultiset T (cs ++ rs) (ds ++ ss)
      → SameMultiset T rs ss
  multiset-drop rs ss done s = s
  multiset-drop rs ss (put {a} {b} {l} {m} {n} q i p) s =
      multiset-drop rs ss p (multiset-out a b (l ++ rs) (m ++ ss) (n ++ ss) q (inserted-left ss i) s)

-- a variable stands in a list of constraints
abbrev pub Occurs : ℕ → List Constraint → Type 0
Occurs x cs = (c : Constraint) × Member c cs × Member (var x) c.terms

-- a variable stands in a state
abbrev Seen : List Term → List Constraint → ℕ → Type 0
Seen f cs x = Or (Member (var x) f) (Occurs x cs)

-- two lists of constraints share only what the goal variables became
pub record Apart (f : List Term) (cs rs : List Constraint) : Type 0 where
  pub shared : (x : ℕ) → Occurs x cs → Occurs x rs → Member (var x) f

-- a variable of both parts is one that a goal variable became
seen-both : (f : List Term) (cs rs : List Constraint) → Apart f cs rs → (x : ℕ) → Seen f cs x → Seen f rs x → Member (var x) f
seen-both f cs rs h x (inl i) q = i
seen-both f cs rs h x (inr o) (inl i) = i
seen-both f cs rs h x (inr o) (inr p) = h.shared x o p

-- a renaming, of the variables that stand in two states alone
abbrev Within : List Term → List Constraint → List Term → List Constraint → (ℕ → ℕ → Type 0) → ℕ → ℕ → Type 0
Within f cs g ds ρ x y = Seen f cs x × Seen g ds y × ρ x y

-- lists of terms that a renaming makes equal, with the variables known to be of the lists
terms-within :
    {ρ : ℕ → ℕ → Type 0} {l m : List Term} → Pointwise (TermVariant ρ) l m
    → Pointwise (TermVariant (λ x y. Member (var x) l × Member (var y) m × ρ x y)) l m
terms-within empty = empty
terms-within (each {a = s} {b = t} {l} {m} r p) = each (head r) (pointwise-mono tail (terms-within p))
  where
    head : {ρ : ℕ → ℕ → Type 0} {s t : Term} {l m : List Term} → TermVariant ρ s t
        → TermVariant (λ x y. Member (var x) (s ∷ l) × Member (var y) (t ∷ m) × ρ x y) s t
    head same_con = same_con
    head (partners r) = partners (first, first, r)

    tail : {ρ : ℕ → ℕ → Type 0} {s t : Term} {l m : List Term} (u v : Term)
        → TermVariant (λ x y. Member (var x) l × Member (var y) m × ρ x y) u v
        → TermVariant (λ x y. Member (var x) (s ∷ l) × Member (var y) (t ∷ m) × ρ x y) u v
    tail u v same_con = same_con
    tail u v (partners (i, j, r)) = partners (later i, later j, r)

-- a weaker renaming
term-mono :
    {ρ σ : ℕ → ℕ → Type 0} → ((x y : ℕ) → ρ x y → σ x y) → (s t : Term) → TermVariant ρ s t → TermVariant σ s t
term-mono h s t same_con = same_con
term-mono h s t (partners {x} {y} r) = partners (h x y r)

constraint-mono :
    {ρ σ : ℕ → ℕ → Type 0} → ((x y : ℕ) → ρ x y → σ x y) → (c d : Constraint) → ConstraintVariant ρ c d
    → ConstraintVariant σ c d
constraint-mono h c d v = record { symbols = v.symbols; terms = pointwise-mono (term-mono h) v.terms }

module _ (f : List Term) (cs : List Constraint) (g : List Term) (ds : List Constraint) (ρ : ℕ → ℕ → Type 0) where
  within-bound : Pointwise (TermVariant ρ) f g → Pointwise (TermVariant (Within f cs g ds ρ)) f g
  within-bound p = pointwise-mono (term-mono (λ x y r. (inl r.0, inl r.1, r.2))) (terms-within p)

  within-constraints : SameMultiset (ConstraintVariant ρ) cs ds → SameMultiset (ConstraintVariant (Within f cs g ds ρ)) cs ds
  within-constraints s =
      multiset-mono (λ c d h. record {
        symbols = h.2.symbols;
        terms = pointwise-mono (term-mono (λ x y r. (inr (c, h.0, r.0), inr (d, h.1, r.1), r.2)))
            (terms-within h.2.terms);
      }) (multiset-members s)

-- a renaming the other way round
abbrev Back : (ℕ → ℕ → Type 0) → ℕ → ℕ → Type 0
Back ρ y x = ρ x y

terms-back : {ρ : ℕ → ℕ → Type 0} {l m : List Term} → Pointwise (TermVariant ρ) l m → Pointwise (TermVariant (Back ρ)) m l
terms-back {ρ} p = pointwise-mono turn (pointwise-sym p)
  where
    turn : (t s : Term) → TermVariant ρ s t → TermVariant (Back ρ) t s
    turn t s same_con = same_con
    turn t s (partners r) = partners r

-- a variable of a list of terms has the same partner by every renaming that makes it equal to the other list
partner-both :
    {ρ σ : ℕ → ℕ → Type 0} {x : ℕ} {f g : List Term} → Member (var x) f → Pointwise (TermVariant ρ) f g
    → Pointwise (TermVariant σ) f g → (y : ℕ) × ρ x y × σ x y
partner-both first (each (partners {y} r) p) (each (partners s) q) = (y, r, s)
partner-both (later i) (each r p) (each s q) = partner-both i p q

-- a relation that gives each variable one partner
abbrev One : (ℕ → ℕ → Type 0) → Type 0
One ρ = (x y z : ℕ) → ρ x y → ρ x z → y ≡ z

agree :
    {ρ σ : ℕ → ℕ → Type 0} {f g : List Term} → One ρ → One σ → Pointwise (TermVariant ρ) f g → Pointwise (TermVariant σ) f g
    → (x y z : ℕ) → Member (var x) f → ρ x y → σ x z → y ≡ z
agree o u p q x y z i r s = let (w, rw', sw) = partner-both i p q in o x y w r rw' ∙ u x w z sw s

-- from the first state to the second, and as often back by another renaming as needed
data Chain (ρ σ : ℕ → ℕ → Type 0) : ℕ → ℕ → Type 0 where
  stop : {x z : ℕ} → ρ x z → Chain ρ σ x z
  step : {x b a z : ℕ} → ρ x b → σ a b → Chain ρ σ a z → Chain ρ σ x z

-- one chain after another
chain-through :
    {ρ σ : ℕ → ℕ → Type 0} {x b a y : ℕ} → Chain ρ σ x b → σ a b → Chain ρ σ a y → Chain ρ σ x y
chain-through (stop r) s d = step r s d
chain-through (step r t c) s d = step r t (chain-through c s d)

-- the other way round
chain_back : {ρ σ : ℕ → ℕ → Type 0} {x z : ℕ} → Chain ρ σ x z → Chain (Back ρ) (Back σ) z x
chain_back (stop r) = stop r
chain_back (step r s c) = chain-through (chain_back c) s (stop r)

-- a chain ends at one variable of those from which no other renaming leads elsewhere
module _ (ρ σ : ℕ → ℕ → Type 0) (one : One ρ) (only : One (Back σ)) (Z : ℕ → Type 0)
    (home : (x a z : ℕ) → Z z → ρ x z → σ a z → a ≡ x) where
  chain-stop : {x y z w : ℕ} → x ≡ y → Z z → ρ x z → Chain ρ σ y w → z ≡ w
  chain-stop {x} {y} {z} {w} e h r (stop q) = one y z w (subst (λ v. ρ v z) e r) q
  chain-stop {x} {y} {z} {w} e h r (step {b} {a} q s c) =
      let t : b ≡ z = one y b z q (subst (λ v. ρ v z) e r) in
      let back : a ≡ x = home x a z h r (subst (σ a) t s) in
      chain-stop (sym back) h r c

  chain-one : {x y z w : ℕ} → x ≡ y → Z z → Z w → Chain ρ σ x z → Chain ρ σ y w → z ≡ w
  chain-one e h k (stop r) d = chain-stop e h r d
  chain-one e h k (step r s c) (stop q) = sym (chain-stop (sym e) k q (step r s c))
  chain-one {x} {y} e h k (step {b} {a} r s c) (step {b = b'} {a = a'} q t d) =
      let u : b ≡ b' = one y b b' (subst (λ v. ρ v b) e r) q in
      let v : a ≡ a' = only b' a a' (subst (σ a) u s) t in
      chain-one v h k c d

-- a chain of terms and of constraints
chain-terms :
    {ρ σ : ℕ → ℕ → Type 0} {k l m n : List Term} → Pointwise (TermVariant (Chain ρ σ)) k m → Pointwise (TermVariant σ) l m
    → Pointwise (TermVariant (Chain ρ σ)) l n → Pointwise (TermVariant (Chain ρ σ)) k n
chain-terms empty empty empty = empty
chain-terms (each r p) (each s q) (each t u) = each (through r s t) (chain-terms p q u)
  where
    through :
        {ρ σ : ℕ → ℕ → Type 0} {u v w y : Term} → TermVariant (Chain ρ σ) u w → TermVariant σ v w → TermVariant (Chain ρ σ) v y
        → TermVariant (Chain ρ σ) u y
    through same_con same_con same_con = same_con
    through (partners r) (partners s) (partners t) = partners (chain-through r s t)

chain-constraints :
    {ρ σ : ℕ → ℕ → Type 0} (x a b y : Constraint) → ConstraintVariant (Chain ρ σ) x b → ConstraintVariant σ a b
    → ConstraintVariant (Chain ρ σ) a y → ConstraintVariant (Chain ρ σ) x y
chain-constraints x a b y r s t =
    record {
      symbols = r.symbols ∙ (sym s.symbols ∙ t.symbols);
      terms = chain-terms r.terms s.terms t.terms;
    }

module _ (f g : List Term) (cs rs ds ss : List Constraint) (h : Apart f cs rs) (k : Apart g ds ss) (m n : ℕ) where
  -- states whose first parts are equal: if the states are, so are the others
  cancelled-rest :
      Variant (live m f cs) (live n g ds) → Variant (live m f (cs ++ rs)) (live n g (ds ++ ss))
      → Variant (live m f rs) (live n g ss)
  cancelled-rest (σ, one-σ, bound-σ, same-σ) (ρ, one-ρ, bound-ρ, same-ρ) = (
    Within f rs g ss (Chain ρ (Within f cs g ds σ)),
    (
      (λ x y z r s.
          chain-one ρ (Within f cs g ds σ) one-ρ.0 (λ x y z r s. one-σ.1 y z x r.2 s.2) (Seen g ss) home refl r.1
          s.1
          r.2 s.2),
      λ x y z r s.
          chain-one (Back ρ) (Back (Within f cs g ds σ)) (λ x y z r s. one-ρ.1 y z x r s)
          (λ x y z r s. one-σ.0 x y z r.2 s.2) (Seen f rs) home-back refl r.0 s.0 (chain_back r.2)
          (chain_back s.2),
    ),
    within-bound f rs g ss (Chain ρ (Within f cs g ds σ)) (pointwise-mono (term-mono (λ x y r. stop r)) bound-ρ),
    within-constraints f rs g ss (Chain ρ (Within f cs g ds σ))
        (multiset-drop (ConstraintVariant (Chain ρ (Within f cs g ds σ))) (ConstraintVariant (Within f cs g ds σ))
        chain-constraints
        rs ss (within-constraints f cs g ds σ same-σ) (multiset-mono (constraint-mono (λ x y r. stop r)) same-ρ)),
  )
    where
      home : (x a z : ℕ) → Seen g ss z → ρ x z → Within f cs g ds σ a z → a ≡ x
      home x a z i r s =
          agree {ρ = Back σ} {σ = Back ρ} (λ x y z r s. one-σ.1 y z x r s) (λ x y z r s. one-ρ.1 y z x r s) (terms-back bound-σ)
          (terms-back bound-ρ) z a x (seen-both g ds ss k z s.1 i) s.2 r

      home-back : (x a z : ℕ) → Seen f rs z → Back ρ x z → Back (Within f cs g ds σ) a z → a ≡ x
      home-back x a z i r s =
          agree one-σ.0 one-ρ.0 bound-σ bound-ρ z a x (seen-both f cs rs h z s.0 i) s.2 r

  -- and if the others are, so are the states
  cancelled-all :
      Variant (live m f cs) (live n g ds) → Variant (live m f rs) (live n g ss)
      → Variant (live m f (cs ++ rs)) (live n g (ds ++ ss))
  cancelled-all (σ, one-σ, bound-σ, same-σ) (τ, one-τ, bound-τ, same-τ) = (
    Both,
    (forth, back),
    pointwise-mono (term-mono (λ x y r. inl r)) (within-bound f cs g ds σ bound-σ),
    multiset-append (multiset-mono (constraint-mono (λ x y r. inl r)) (within-constraints f cs g ds σ same-σ))
        (multiset-mono (constraint-mono (λ x y r. inr r)) (within-constraints f rs g ss τ same-τ)),
  )
    where
      Both : ℕ → ℕ → Type 0
      Both x y = Or (Within f cs g ds σ x y) (Within f rs g ss τ x y)

      meet : (x y z : ℕ) → Within f cs g ds σ x y → Within f rs g ss τ x z → y ≡ z
      meet x y z r s = agree one-σ.0 one-τ.0 bound-σ bound-τ x y z (seen-both f cs rs h x r.0 s.0) r.2 s.2

      meet-back : (x y z : ℕ) → Within f cs g ds σ x z → Within f rs g ss τ y z → x ≡ y
      meet-back x y z r s =
          agree {ρ = Back σ} {σ = Back τ} (λ x y z r s. one-σ.1 y z x r s) (λ x y z r s. one-τ.1 y z x r s) (terms-back bound-σ)
          (terms-back bound-τ) z x y (seen-both g ds ss k z r.1 s.1) r.2 s.2

      forth : (x y z : ℕ) → Both x y → Both x z → y ≡ z
      forth x y z (inl r) (inl s) = one-σ.0 x y z r.2 s.2
      forth x y z (inl r) (inr s) = meet x y z r s
      forth x y z (inr r) (inl s) = sym (meet x z y s r)
      forth x y z (inr r) (inr s) = one-τ.0 x y z r.2 s.2

      back : (x y z : ℕ) → Both x z → Both y z → x ≡ y
      back x y z (inl r) (inl s) = one-σ.1 x y z r.2 s.2
      back x y z (inl r) (inr s) = meet-back x y z r s
      back x y z (inr r) (inl s) = sym (meet-back y x z s r)
      back x y z (inr r) (inr s) = one-τ.1 x y z r.2 s.2

  -- the two comparisons answer the same
  pub cancelled :
      same_state (live m f cs) (live n g ds) ≡ true
      → same_state (live m f rs) (live n g ss) ≡ same_state (live m f (cs ++ rs)) (live n g (ds ++ ss))
  cancelled e =
      let v = same_state-sound (live m f cs) (live n g ds) e in
      same-iff (live m f (cs ++ rs)) (live n g (ds ++ ss)) (live m f rs) (live n g ss) (cancelled-rest v) (cancelled-all v)
