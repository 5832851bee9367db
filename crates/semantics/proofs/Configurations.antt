-- Configurations: states whose equations nobody has solved, over any type of variables. Firing only adds to them, so what holds
-- of a configuration holds in every context.
--   Tm, Atom, Eqn           terms, constraints and equations over a type of variables
--   Eqv                     the equivalence that equations generate
--   Config, Inconsistent    a configuration; it has failed where two different constants are equivalent
--   Iso, Same               equal configurations: a relation of terms that respects and reflects equivalence
--   fire_c, Step, Steps      firing a rule on matched atoms; steps by the rules of a list
--   Context, plug           a configuration put into a context that names its face
--   conf_of, Rep             a state as a configuration; a state that represents a configuration
-- Assumes nothing.
use Prim.Native.Nat.{ℕ, ◌<◌}
use mathlib.Core.List.{List, [], ◌∷◌, ◌++◌, map}
use mathlib.Core.Path.{◌≡◌}
use Rattle.semantics.specs.Terms.{Term, Constraint, Equation, Rule, State}
use Rattle.semantics.specs.Terms as T
use Rattle.semantics.specs.Variants.{Pointwise, SameMultiset}
use Rattle.semantics.specs.Rewriting.{whole_body}

-- either
pub data Or {ℓ κ} (A : Type ℓ) (B : Type κ) : Type (ℓ ⊔ κ) where
  inl : A → Or A B
  inr : B → Or A B

-- an element of a list
pub data Member {A : Type 0} (a : A) : List A → Type 0 where
  first : {l : List A} → Member a (a ∷ l)
  later : {b : A} {l : List A} → Member a l → Member a (b ∷ l)

-- a term over variables of type X
pub data Tm (X : Type 0) : Type 0 where
  con : ℕ → Tm X
  var : X → Tm X

-- a constraint over variables of type X
pub record Atom (X : Type 0) : Type 0 where
  pub symbol : ℕ
  pub args : List (Tm X)

-- an equation over variables of type X
pub record Eqn (X : Type 0) : Type 0 where
  pub left : Tm X
  pub right : Tm X

-- a substitution, on terms, atoms and equations
abbrev pub sub : {X Y : Type 0} → (X → Tm Y) → Tm X → Tm Y
sub f (con c) = con c
sub f (var x) = f x

abbrev pub sub_atom : {X Y : Type 0} → (X → Tm Y) → Atom X → Atom Y
sub_atom f a = record { symbol = a.symbol; args = map (sub f) a.args }

abbrev pub sub_eqn : {X Y : Type 0} → (X → Tm Y) → Eqn X → Eqn Y
sub_eqn f e = record { left = sub f e.left; right = sub f e.right }

-- the old and the new variables of a sum
abbrev pub old : {X Z : Type 0} → X → Tm (Or X Z)
old x = var (inl x)

abbrev pub new : {X Z : Type 0} → Z → Tm (Or X Z)
new z = var (inr z)

-- the equations between two lists of terms, as far as both go
abbrev pub equal : {X : Type 0} → List (Tm X) → List (Tm X) → List (Eqn X)
equal [] ts = []
equal (s ∷ ss) [] = []
equal (s ∷ ss) (t ∷ ts) = record { left = s; right = t } ∷ equal ss ts

-- all terms of a list of atoms, in order
abbrev pub flat : {X : Type 0} → List (Atom X) → List (Tm X)
flat [] = []
flat (a ∷ l) = a.args ++ flat l

-- the equivalence that equations generate
pub data Eqv {X : Type 0} (E : List (Eqn X)) : Tm X → Tm X → Type 0 where
  given : {e : Eqn X} → Member e E → Eqv E e.left e.right
  same : {t : Tm X} → Eqv E t t
  flip : {s : Tm X} {t : Tm X} → Eqv E s t → Eqv E t s
  chain : {s : Tm X} {t : Tm X} {u : Tm X} → Eqv E s t → Eqv E t u → Eqv E s u

-- a configuration: its variables, its face (what the goal variables are), its equations and its atoms
pub record Config : Type 1 where
  pub Var : Type 0
  pub face : List (Tm Var)
  pub eqs : List (Eqn Var)
  pub store : List (Atom Var)

-- two different constants are equivalent
pub record Inconsistent (C : Config) : Type 0 where
  pub one : ℕ
  pub two : ℕ
  pub apart : one ≡ two → ⊥
  pub clash : Eqv C.eqs (con one) (con two)

-- two atoms of one symbol, related term by term
pub record AtomRel {X Y : Type 0} (R : Tm X → Tm Y → Type 0) (a : Atom X) (b : Atom Y) : Type 0 where
  pub symbols : a.symbol ≡ b.symbol
  pub args : Pointwise R a.args b.args

-- a relation between the terms of two configurations that fixes constants, and respects and reflects equivalence
pub record Core {X Y : Type 0} (E : List (Eqn X)) (D : List (Eqn Y)) (R : Tm X → Tm Y → Type 0) : Type 0 where
  pub fixes : (c : ℕ) → R (con c) (con c)
  pub respects : {s : Tm X} {t : Tm X} {u : Tm Y} {v : Tm Y} → R s u → R t v → Eqv E s t → Eqv D u v
  pub reflects : {s : Tm X} {t : Tm X} {u : Tm Y} {v : Tm Y} → R s u → R t v → Eqv D u v → Eqv E s t

-- equal configurations
pub record Iso (C D : Config) : Type 1 where
  pub R : Tm C.Var → Tm D.Var → Type 0
  pub core : Core C.eqs D.eqs R
  pub faces : Pointwise R C.face D.face
  pub stores : SameMultiset (AtomRel R) C.store D.store

-- equal, or both inconsistent
pub data Same (C D : Config) : Type 1 where
  iso : Iso C D → Same C D
  both_fail : Inconsistent C → Inconsistent D → Same C D

-- a term, a constraint and an equation of the definitions, over ℕ
abbrev pub lift : Term → Tm ℕ
lift (T.con c) = con c
lift (T.var x) = var x

abbrev pub lift_atom : Constraint → Atom ℕ
lift_atom c = record { symbol = c.symbol; args = map lift c.terms }

abbrev pub lift_eqn : Equation → Eqn ℕ
lift_eqn e = record { left = lift e.left; right = lift e.right }

abbrev pub heads_of : Rule → List (Atom ℕ)
heads_of r = map lift_atom r.heads

abbrev pub body_of : Rule → List (Atom ℕ)
body_of r = map lift_atom (whole_body r)

abbrev pub eqs_of : Rule → List (Eqn ℕ)
eqs_of r = map lift_eqn r.equations

-- a rule's heads fit atoms: under some replacement of its variables they are the atoms, up to the equations
pub record Fits {X : Type 0} (E : List (Eqn X)) (hs : List (Atom ℕ)) (M : List (Atom X)) : Type 0 where
  pub θ : ℕ → Tm X
  pub fits : Pointwise (AtomRel (λ h m. Eqv E (sub θ h) m)) hs M

-- firing a rule on the matched atoms M, L being the rest: all of the rule's variables are new, its heads are equated with the
-- matched atoms, and its equations are added
abbrev pub fire_c : Rule → (C : Config) → List (Atom C.Var) → List (Atom C.Var) → Config
fire_c r C M L = record {
  Var = Or C.Var ℕ;
  face = map (sub old) C.face;
  eqs = equal (map (sub new) (flat (heads_of r))) (map (sub old) (flat M)) ++
      (map (sub_eqn new) (eqs_of r) ++ map (sub_eqn old) C.eqs);
  store = map (sub_atom old) L ++ map (sub_atom new) (body_of r);
}

-- a step by one of the rules: the store is matched atoms and the rest, in some order
pub data Step (rs : List Rule) (C : Config) : Config → Type 1 where
  step :
      (r : Rule) (M L : List (Atom C.Var)) → Member r rs → SameMultiset ◌≡◌ C.store (M ++ L)
      → Fits C.eqs (heads_of r) M → Step rs C (fire_c r C M L)

pub data Steps (rs : List Rule) : Config → Config → Type 1 where
  stay : {C : Config} → Steps rs C C
  go : {C D B : Config} → Step rs C D → Steps rs D B → Steps rs C B

-- a context: variables, a face, equations and atoms of its own, and a term for each term of the face of what is put into it
pub record Context : Type 1 where
  pub Var : Type 0
  pub face : List (Tm Var)
  pub eqs : List (Eqn Var)
  pub store : List (Atom Var)
  pub links : List (Tm Var)

-- a configuration in a context: its face is equated with the context's links
abbrev pub plug : Context → Config → Config
plug K C = record {
  Var = Or C.Var K.Var;
  face = map (sub new) K.face;
  eqs = equal (map (sub new) K.links) (map (sub old) C.face) ++ (map (sub_eqn new) K.eqs ++ map (sub_eqn old) C.eqs);
  store = map (sub_atom old) C.store ++ map (sub_atom new) K.store;
}

-- a live state as a configuration without equations
abbrev pub conf_of : List Term → List Constraint → Config
conf_of b cs = record { Var = ℕ; face = map lift b; eqs = []; store = map lift_atom cs }

-- a variable is below n
abbrev pub TermBelow : ℕ → Term → Type 0
TermBelow n (T.con c) = Unit {0}
TermBelow n (T.var x) = x < n

-- all elements
pub data All {A : Type 0} (P : A → Type 0) : List A → Type 0 where
  none : All P []
  also : {a : A} {l : List A} → P a → All P l → All P (a ∷ l)

-- every variable of a live state is below its number
pub record Scoped (n : ℕ) (b : List Term) (cs : List Constraint) : Type 0 where
  pub bound : All (TermBelow n) b
  pub constraints : All (λ c. All (TermBelow n) c.terms) cs

-- a state that represents a configuration: it has failed and the configuration is inconsistent, or they are equal
pub data Rep : State → Config → Type 1 where
  has_failed : {C : Config} → Inconsistent C → Rep T.failed C
  is_live : {n : ℕ} {b : List Term} {cs : List Constraint} {C : Config} → Scoped n b cs → Iso (conf_of b cs) C
      → Rep (T.live n b cs) C
