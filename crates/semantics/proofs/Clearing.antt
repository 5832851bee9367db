-- Clearing a goal store (document 000, figure 1): by Solve and Introduce what is in it goes to the stores, but for what is left.
--   users, built_ins        the user-defined and the built-in constraints of a goal store
--   Into, cleared-into     a state whose stores have taken in another's goal store, but for what is left; clearing ends there
--   rest-users, …          what the stores have taken in where all but the first items are cleared
--   cleared-exists         all but the first items can always be cleared
--   cleared-reaches        by the steps of any program
-- Assumes nothing.
use Prim.Native.Nat.{ℕ}
use mathlib.Core.List.{List, [], ◌∷◌, ◌++◌, append-nil, append_assoc}
use mathlib.Core.Path.{◌≡◌, refl, sym, ap, subst, ◌∙◌}
use Rattle.semantics.specs.Terms.{Constraint, Equation, Program}
use Rattle.semantics.specs.Variants.{Inserted, here, there, SameMultiset, done, put}
use Rattle.semantics.specs.Published.{Item, user, built_in, Published, solves, introduces, Reaches, stays, goes, solving}
use Rattle.semantics.specs.Published.{introducing, Cleared, is_clear, by_solve, by_introduce}
use Rattle.semantics.proofs.Multisets.{inserted-right, multiset-refl, multiset-put, multiset-append, multiset-right}
use Rattle.semantics.proofs.Multisets.{multiset-back, multiset-of-path, multiset-cancel}

-- the user-defined constraints of a goal store, and the built-in ones
abbrev pub users : List Item → List Constraint
users [] = []
users (user c ∷ is) = c ∷ users is
users (built_in e ∷ is) = users is

abbrev pub built_ins : List Item → List Equation
built_ins [] = []
built_ins (user c ∷ is) = built_ins is
built_ins (built_in e ∷ is) = e ∷ built_ins is

-- one more of either kind
users-user : {c : Constraint} {l m : List Item} → Inserted (user c) l m → Inserted c (users l) (users m)
users-user here = here
users-user (there {b = user d} i) = there (users-user i)
users-user (there {b = built_in e} i) = users-user i

users-built_in : {e : Equation} {l m : List Item} → Inserted (built_in e) l m → users l ≡ users m
users-built_in here = refl
users-built_in (there {b = user d} i) = ap (d ∷◌) (users-built_in i)
users-built_in (there {b = built_in e} i) = users-built_in i

built_ins-built_in : {e : Equation} {l m : List Item} → Inserted (built_in e) l m → Inserted e (built_ins l) (built_ins m)
built_ins-built_in here = here
built_ins-built_in (there {b = user d} i) = built_ins-built_in i
built_ins-built_in (there {b = built_in e} i) = there (built_ins-built_in i)

built_ins-user : {c : Constraint} {l m : List Item} → Inserted (user c) l m → built_ins l ≡ built_ins m
built_ins-user here = refl
built_ins-user (there {b = user d} i) = built_ins-user i
built_ins-user (there {b = built_in e} i) = ap (e ∷◌) (built_ins-user i)

-- a reordered goal store has the same of each kind
users-same : {l m : List Item} → SameMultiset ◌≡◌ l m → SameMultiset ◌≡◌ (users l) (users m)
users-same done = done
users-same (put {a} {l} {m} {n} r i s) = more a (subst (λ x. Inserted x m n) (sym r) i) (users-same s)
  where
    more : (a : Item) → Inserted a m n → SameMultiset ◌≡◌ (users l) (users m) → SameMultiset ◌≡◌ (users (a ∷ l)) (users n)
    more (user c) j h = put refl (users-user j) h
    more (built_in e) j h = subst (SameMultiset ◌≡◌ (users l)) (users-built_in j) h

built_ins-same : {l m : List Item} → SameMultiset ◌≡◌ l m → SameMultiset ◌≡◌ (built_ins l) (built_ins m)
built_ins-same done = done
built_ins-same (put {a} {l} {m} {n} r i s) = more a (subst (λ x. Inserted x m n) (sym r) i) (built_ins-same s)
  where
    more :
        (a : Item) → Inserted a m n → SameMultiset ◌≡◌ (built_ins l) (built_ins m)
        → SameMultiset ◌≡◌ (built_ins (a ∷ l)) (built_ins n)
    more (user c) j h = subst (SameMultiset ◌≡◌ (built_ins l)) (built_ins-user j) h
    more (built_in e) j h = put refl (built_ins-built_in j) h

-- the two kinds of a goal store in two parts
users-append : (l m : List Item) → users (l ++ m) ≡ users l ++ users m
users-append [] m = refl
users-append (user c ∷ l) m = ap (c ∷◌) (users-append l m)
users-append (built_in e ∷ l) m = users-append l m

built_ins-append : (l m : List Item) → built_ins (l ++ m) ≡ built_ins l ++ built_ins m
built_ins-append [] m = refl
built_ins-append (user c ∷ l) m = built_ins-append l m
built_ins-append (built_in e ∷ l) m = ap (e ∷◌) (built_ins-append l m)

-- a published state whose stores have taken in another's goal store, but for what is left
pub record Into (left : List Item) (p q : Published) : Type 0 where
  pub goals : SameMultiset ◌≡◌ q.goals left
  pub taken : SameMultiset ◌≡◌ (users left ++ q.user_store) (users p.goals ++ p.user_store)
  pub solved : SameMultiset ◌≡◌ (built_ins left ++ q.built_in_store) (built_ins p.goals ++ p.built_in_store)
  pub variables : q.variables ≡ p.variables

-- what is moved out of a reordered list, from in front of another
moved :
    {A : Type 0} {a : A} {k l n : List A} (m : List A) → SameMultiset ◌≡◌ k (a ∷ l) → SameMultiset ◌≡◌ n (l ++ (a ∷ m))
    → SameMultiset ◌≡◌ n (k ++ m)
moved {l} m t s =
    multiset-right s (multiset-right (multiset-put refl (inserted-right l here) here (multiset-refl (λ x. refl) (l ++ m)))
    (multiset-append (multiset-back t) (multiset-refl (λ x. refl) m)))

-- clearing a goal store ends so
pub cleared-into : {left : List Item} {p q : Published} → Cleared left p q → Into left p q
cleared-into (is_clear {a} s) = record {
  goals = s;
  taken = multiset-append (multiset-back (users-same s)) (multiset-refl (λ c. refl) a.user_store);
  solved = multiset-append (multiset-back (built_ins-same s)) (multiset-refl (λ e. refl) a.built_in_store);
  variables = refl;
}
cleared-into (by_solve (solves {us} {bs} s) more) =
    let h = cleared-into more in
    record {
      goals = h.goals;
      taken = multiset-right h.taken (multiset-append (multiset-back (users-same s)) (multiset-refl (λ c. refl) us));
      solved = moved bs (built_ins-same s) h.solved;
      variables = h.variables;
    }
cleared-into (by_introduce (introduces {us} {bs} s) more) =
    let h = cleared-into more in
    record {
      goals = h.goals;
      taken = moved us (users-same s) h.taken;
      solved = multiset-right h.solved (multiset-append (multiset-back (built_ins-same s)) (multiset-refl (λ e. refl) bs));
      variables = h.variables;
    }

-- where all but the first items of a goal store are cleared, the stores have taken in the others
pub rest-users :
    (left more : List Item) {cs : List Constraint} (ds : List Constraint)
    → SameMultiset ◌≡◌ (users left ++ cs) (users (left ++ more) ++ ds) → SameMultiset ◌≡◌ cs (users more ++ ds)
rest-users left more {cs} ds s =
    multiset-cancel (users left) (subst (SameMultiset ◌≡◌ (users left ++ cs))
    (ap (λ x. x ++ ds) (users-append left more) ∙ append_assoc (users left) (users more) ds) s)

pub rest-built_ins :
    (left more : List Item) {es : List Equation} (fs : List Equation)
    → SameMultiset ◌≡◌ (built_ins left ++ es) (built_ins (left ++ more) ++ fs) → SameMultiset ◌≡◌ es (built_ins more ++ fs)
rest-built_ins left more {es} fs s =
    multiset-cancel (built_ins left) (subst (SameMultiset ◌≡◌ (built_ins left ++ es))
    (ap (λ x. x ++ fs) (built_ins-append left more) ∙ append_assoc (built_ins left) (built_ins more) fs) s)

-- all but the first items of a goal store can be cleared
pub cleared-exists :
    (left more : List Item) (us : List Constraint) (bs : List Equation) (vs : List ℕ)
    → (q : Published) × Cleared left (record { goals = left ++ more; user_store = us; built_in_store = bs; variables = vs }) q
cleared-exists left [] us bs vs = (
  record { goals = left ++ []; user_store = us; built_in_store = bs; variables = vs },
  is_clear (multiset-of-path (append-nil left)),
)
cleared-exists left (user c ∷ more) us bs vs =
    let (q, e) = cleared-exists left more (c ∷ us) bs vs in
    let first = multiset-back (put refl (inserted-right left here) (multiset-refl (λ i. refl) (left ++ more))) in
    (q, by_introduce (introduces first) e)
cleared-exists left (built_in e ∷ more) us bs vs =
    let (q, h) = cleared-exists left more us (e ∷ bs) vs in
    let first = multiset-back (put refl (inserted-right left here) (multiset-refl (λ i. refl) (left ++ more))) in
    (q, by_solve (solves first) h)

-- steps after steps
pub reaches-trans : {p : Program} {a b c : Published} → Reaches p a b → Reaches p b c → Reaches p a c
reaches-trans stays k = k
reaches-trans (goes s h) k = goes s (reaches-trans h k)

-- clearing is by steps of every program
pub cleared-reaches : (p : Program) {left : List Item} {a b : Published} → Cleared left a b → Reaches p a b
cleared-reaches p (is_clear s) = stays
cleared-reaches p (by_solve s k) = goes (solving s) (cleared-reaches p k)
cleared-reaches p (by_introduce s k) = goes (introducing s) (cleared-reaches p k)
