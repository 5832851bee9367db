-- The terms that a match pairs: they have what all terms of a state have, and are equated when the rule fires.
--   matched-all, without_all        what all constraints have, those at positions and those at others have
--   zipped-all, paired-all          and their terms that are paired with a head's
--   assigned-all, instance-all      so what a match assigns has it, and a term of the rule as the state has it
--   paired-zipped, zipped-equal     a pair of a head and its constraint is one of the equations between them
-- Assumes nothing.
use Prim.Native.Nat.{ℕ, zero, suc, ◌+◌, ◌≤◌}
use mathlib.Core.Bool.{Bool, true, false, cond}
use mathlib.Core.List.{List, [], ◌∷◌, ◌++◌, map}
use mathlib.Core.Option.{Option, none, some}
use mathlib.Core.Path.{◌≡◌, refl, subst}
use native.Mathlib.Omega.{arith}
use Rattle.text.specs.Lists.{onward, has}
use Rattle.semantics.specs.Terms.{Term, Constraint}
use Rattle.semantics.specs.Terms as T
use Rattle.semantics.specs.Matching.{Assignment, unassigned, match_at}
use Rattle.semantics.specs.Firing.{without, instance}
use Rattle.semantics.specs.Variants.{Pointwise, empty, each}
use Rattle.semantics.proofs.Configurations.{Or, inl, inr, Member, first, later, Tm, equal, flat, lift, lift_atom, TermBelow, All, also}
use Rattle.semantics.proofs.Configurations as C
use Rattle.semantics.proofs.Multisets.{pointwise-mono, pointwise-map}
use Rattle.semantics.proofs.Atoms.{eqn}
use Rattle.semantics.proofs.Options.{none-some}
use Rattle.semantics.proofs.PositionLaws.{Stands}
use Rattle.semantics.proofs.MatchLaws.{ConstraintRel, Zipped, front, behind, zipped-left, Paired, in_first, in_rest}
use Rattle.semantics.proofs.MatchLaws.{match_at-sound}

-- all terms of a constraint are below n
abbrev pub ConstraintBelow : ℕ → Constraint → Type 0
ConstraintBelow n c = All (TermBelow n) c.terms

-- what all constraints of a list have, those at positions have, and those at other positions
stands-all : {P : Constraint → Type 0} {cs : List Constraint} (p : ℕ) {c : Constraint} → All P cs → Stands cs p c → P c
stands-all p C.none s = none-some refl s
stands-all {P} zero (also a more) s = subst P (cc) a
stands-all (suc p) (also a more) s = stands-all p more s

pub matched-all :
    {P : Constraint → Type 0} {cs M : List Constraint} {ps : List ℕ} → All P cs → Pointwise (Stands cs) ps M → All P M
matched-all a empty = C.none
matched-all a (each {a = p} s ss) = also (stands-all p a s) (matched-all a ss)

pub without_all : {P : Constraint → Type 0} (k : ℕ) (ps : List ℕ) {cs : List Constraint} → All P cs → All P (without k ps cs)
unfolding without
without_all k ps C.none = C.none
without_all {P} k ps (also {a = c} {l = cs} a more) = go (has k ps) (without_all (suc k) ps more)
  where
    go : (b : Bool) → All P (without (suc k) ps cs) → All P (cond b (without (suc k) ps cs) (c ∷ without (suc k) ps cs))
    go true h = h
    go false h = also a h

-- where all elements have a property, a relation that it gives relates the list to itself
pub pointwise-all :
    {A : Type 0} {P : A → Type 0} {R : A → A → Type 0} {l : List A} → ((a : A) → P a → R a a) → All P l → Pointwise R l l
pointwise-all h C.none = empty
pointwise-all h (also {a = x} a more) = each (h x a) (pointwise-all h more)

-- a list and its image, where each element is related to its own
pub pointwise-image :
    {A B : Type 0} {R : A → B → Type 0} (f : A → B) → ((a : A) → R a (f a)) → (l : List A) → Pointwise R l (map f l)
pointwise-image f h [] = empty
pointwise-image f h (x ∷ l) = each (h x) (pointwise-image f h l)

-- a term below a number is below a greater one
pub below-mono : {m n : ℕ} → m ≤ n → (t : Term) → TermBelow m t → TermBelow n t
below-mono h (T.con c) b = tt
below-mono h (T.var x) b = omega arith

-- what stands in a pair has what all terms of the right side have
pub zipped-all : {P : Term → Type 0} {s t : Term} {l m : List Term} → Zipped s t l m → All P m → P t
zipped-all front (also a more) = a
zipped-all (behind z) (also a more) = zipped-all z more

pub paired-all : {P : Term → Type 0} {s t : Term} {hs M : List Constraint} → Paired s t hs M → All (λ c. All P c.terms) M → P t
paired-all (in_first z) (also a more) = zipped-all z a
paired-all (in_rest z) (also a more) = paired-all z more

-- so what a match assigns has what all terms of the state have
pub assigned-all :
    {P : Term → Type 0} (hs : List Constraint) (ps : List ℕ) {cs : List Constraint} {θ : Assignment}
    → match_at hs ps cs [] unassigned ≡ some θ → All (λ c. All P c.terms) cs → (y : ℕ) (u : Term) → θ y ≡ some u → P u
unfolding unassigned
assigned-all {P} hs ps {cs} fits all y u f =
    let m = match_at-sound hs ps cs [] unassigned fits in
    go m.matched (matched-all all m.stand) (m.heads.from y u f)
  where
    go : (M : List Constraint) → All (λ c. All P c.terms) M → Or (none ≡ some u) (Paired (T.var y) u hs M) → P u
    go M a (inl p) = none-some refl p
    go M a (inr p) = paired-all p a

-- and so does a term of the rule as the state has it, where new variables and the term itself, if it is a constant, have it
pub instance-all :
    {P : Term → Type 0} (hs : List Constraint) (ps : List ℕ) {cs : List Constraint} {θ : Assignment} (next : ℕ)
    → match_at hs ps cs [] unassigned ≡ some θ → All (λ c. All P c.terms) cs → ((y : ℕ) → P (T.var (next + y))) → (t : Term)
    → ((c : ℕ) → t ≡ T.con c → P (T.con c)) → P (instance next θ t)
unfolding instance
instance-all hs ps next fits all new (T.con c) h = h c refl
instance-all {P} hs ps {θ = θ} next fits all new (T.var y) h = go (θ y) refl
  where
    go : (o : Option Term) → θ y ≡ o → P (onward o (T.var (next + y)) (λ t. t))
    go none f = new y
    go (some u) f = assigned-all hs ps fits all y u f

-- what stands in a pair stands so in the lists of all terms
pub zipped_map :
    {A B C D : Type 0} (f : A → C) (g : B → D) {a : A} {b : B} {l : List A} {m : List B}
    → Zipped a b l m → Zipped (f a) (g b) (map f l) (map g m)
zipped_map f g front = front
zipped_map f g (behind z) = behind (zipped_map f g z)

pub zipped-right :
    {A B : Type 0} {R : A → B → Type 0} {a : A} {b : B} {k l : List A} {n m : List B}
    → Pointwise R k n → Zipped a b l m → Zipped a b (k ++ l) (n ++ m)
zipped-right empty z = z
zipped-right (each r p) z = behind (zipped-right p z)

pub paired-zipped :
    {R : Term → Term → Type 0} {s t : Term} {hs M : List Constraint} → Pointwise (ConstraintRel R) hs M → Paired s t hs M
    → Zipped (lift s) (lift t) (flat (map lift_atom hs)) (flat (map lift_atom M))
paired-zipped {R = R} {s = s} {t = t} empty x4 = elim x4 [ ]
paired-zipped (each {l = hs} {m = M} r p) (in_first z) =
    zipped-left (flat (map lift_atom hs)) (flat (map lift_atom M)) (zipped_map lift lift z)
paired-zipped (each r p) (in_rest z) =
    zipped-right {R = λ s t. Unit {0}} (pointwise-map lift lift (pointwise-mono (λ a b h. tt) r.terms)) (paired-zipped p z)

-- and is among the equations between them
pub zipped-equal : {X : Type 0} {s t : Tm X} {l m : List (Tm X)} → Zipped s t l m → Member (eqn s t) (equal l m)
zipped-equal front = first
zipped-equal (behind z) = later (zipped-equal z)
