-- What is left of a rule that replaces its own heads (document 000, definition 3.4): its body, with the heads of the other rule
-- that are not equated, under the equations between those that are.
--   Within                 a term of a list of constraints
--   own-settled            a rule's own heads are what they are matched with
--   side-iso               firing on the heads leaves what emptying a state of the critical pair leaves
-- Assumes nothing.
use Prim.Native.Nat.{ℕ}
use mathlib.Core.List.{List, [], ◌∷◌, ◌++◌, map, append-nil}
use mathlib.Core.Path.{◌≡◌, refl, sym, ap, ap₂, subst, subst₂, ◌∙◌}
use Rattle.semantics.specs.Terms.{Term, Constraint, Equation, Rule, map_terms, map_sides, alphabet}
use Rattle.semantics.specs.Variants.{Pointwise, each, SameMultiset}
use Rattle.semantics.specs.Published.{Item, user, built_in, Published, renamed, body_items, Cleared}
use Rattle.semantics.specs.Rewriting.{whole_body, rewritten}
use Rattle.semantics.proofs.Configurations.{Or, inl, inr, Member, first, later, sub, old, new, Eqv, given, same, flip}
use Rattle.semantics.proofs.Configurations.{chain, Eqn, Iso, eqs_of, flat, heads_of, lift, lift_atom, lift_eqn, TermBelow}
use Rattle.semantics.proofs.Configurations.{All}
use Rattle.semantics.proofs.Multisets.{pointwise-image, member-append, member-append-left, member-append-right}
use Rattle.semantics.proofs.Multisets.{member-map, member-unmap, all-member, all-mono, all-of-members, multiset-back}
use Rattle.semantics.proofs.Closure.{eqv-path}
use Rattle.semantics.proofs.Links.{linked-old, linked-new}
use Rattle.semantics.proofs.Renamings.{Separates, ConstraintAvoids}
use Rattle.semantics.proofs.RuleLetters.{AllLetters}
use Rattle.semantics.proofs.FreshVariants.{member-same}
use Rattle.semantics.proofs.PublishedStates.{conf_with}
use Rattle.semantics.proofs.Clearing.{users, built_ins, cleared-into}
use Rattle.semantics.proofs.RenamedRules.{after_firing, back, back-renamed, back-other, Settled, fired-heads, renamed-iso}
use Rattle.semantics.proofs.SimplifyLaws.{body-users, body-built_ins}

-- a term of a list of constraints
abbrev pub Within : List Constraint → Term → Type 0
Within cs t = (c : Constraint) × Member c cs × Member t c.terms

-- the constraints of both kinds of two goal stores, and of user-defined ones alone
users-append : (a b : List Item) → users (a ++ b) ≡ users a ++ users b
users-append [] b = refl
users-append (user c ∷ a) b = ap (c ∷◌) (users-append a b)
users-append (built_in e ∷ a) b = users-append a b

built_ins-append : (a b : List Item) → built_ins (a ++ b) ≡ built_ins a ++ built_ins b
built_ins-append [] b = refl
built_ins-append (user c ∷ a) b = built_ins-append a b
built_ins-append (built_in e ∷ a) b = ap (e ∷◌) (built_ins-append a b)

users-user : (cs : List Constraint) → users (map user cs) ≡ cs
users-user [] = refl
users-user (c ∷ cs) = ap (c ∷◌) (users-user cs)

built_ins-user : (cs : List Constraint) → built_ins (map user cs) ≡ []
built_ins-user [] = refl
built_ins-user (c ∷ cs) = built_ins-user cs

-- an element and its image, of lists that are related element by element
image-member :
    {A B : Type 0} {R : A → B → Type 0} (f : A → B) {a : A} {l : List A} → Member a l → Pointwise R l (map f l) → R a (f a)
image-member f first (each r p) = r
image-member f (later i) (each r p) = image-member f i p

-- a rule's heads, renamed; a term of these or of others
abbrev pub own_heads : Rule → (ℕ → ℕ) → List Constraint
own_heads r κ = map (map_terms (renamed κ)) r.heads

abbrev pub OfHeads : List Constraint → List Constraint → Term → Type 0
OfHeads one two t = Or (Within one t) (Within two t)

module _ (r : Rule) (κ : ℕ → ℕ) (b : List Term) (es : List Equation) (L : List Constraint) where
  abbrev own : List Constraint
  own = own_heads r κ

  abbrev equations : List (Eqn (Or ℕ ℕ))
  equations = (after_firing r b es own L).eqs

  abbrev Fixed : Term → Type 0
  Fixed t = Settled r κ b es own L t

  -- after firing on them, they are the new ones
  own_held :
      {h : Constraint} {s : Term} → Member h r.heads → Member s h.terms
      → Eqv equations (sub new (lift s)) (sub old (lift (renamed κ s)))
  unfolding map_terms
  own_held i j =
      image-member (renamed κ) j (image-member (map_terms (renamed κ)) i (fired-heads r κ b es own L
      (pointwise-image (map_terms (renamed κ)) (λ h. record {
        symbols = refl;
        terms = pointwise-image {R = λ s t. Unit {0}} (renamed κ) (λ s. tt) h.terms;
      }) r.heads))).terms

  -- so their terms are settled
  own-settled : Separates κ → AllLetters r → (t : Term) → Within own t → Fixed t
  unfolding map_terms
  own-settled apart letters t (c, i, j) =
      let (h, k, e) = member-unmap (map_terms (renamed κ)) r.heads i in
      let (s, l, q) = member-unmap (renamed κ) h.terms (subst (λ (x : Constraint). Member t x.terms) e j) in
      let below : TermBelow alphabet s = all-member (all-member letters.heads k) l in
      subst Fixed (sym q) (chain (eqv-path (back-renamed κ apart s below)) (own_held k l))

  module _
      (others : List Constraint) (apart : Separates κ) (letters : AllLetters r) (away : All (ConstraintAvoids κ) others)
      (rest : (c : Constraint) → Member c L → Member c others) where
    -- all terms of the rule's heads and of the others are settled
    settled : (t : Term) → OfHeads own others t → Fixed t
    settled t (inl w) = own-settled apart letters t w
    settled t (inr (c, i, j)) = eqv-path (back-other κ t (all-member (all-member away i) j))

    -- an equation of the rule or of the pair's condition holds after the firing
    abbrev Held : Term → Term → Type 0
    Held s t = Eqv equations (sub (back κ) (lift s)) (sub (back κ) (lift t))

    rule-held : (e : Equation) → Member e (map (map_sides (renamed κ)) r.equations) → Held e.left e.right
    unfolding map_sides
    rule-held e i =
        let (d, j, k) = member-unmap (map_sides (renamed κ)) r.equations i in
        let (x, y) = all-member letters.others.equations j in
        rw k (subst₂ (Eqv equations) (sym (back-renamed κ apart d.left x)) (sym (back-renamed κ apart d.right y))
        (linked-new (flat (heads_of r)) (flat (map lift_atom own)) (eqs_of r) (map lift_eqn es) (lift_eqn d) (member-map lift_eqn j)))

    condition-held :
        (e : Equation) → Member e es → OfHeads own others e.left → OfHeads own others e.right → Held e.left e.right
    condition-held e i x y =
        chain (settled e.left x)
        (chain
        (linked-old (flat (heads_of r)) (flat (map lift_atom own)) (eqs_of r) (map lift_eqn es) (lift_eqn e) (member-map lift_eqn i))
        (flip (settled e.right y)))

    -- firing on the heads leaves the body and the rest, with the rule's equations and the condition
    pub side-iso :
        (bs : List Equation) (us : List Constraint)
        → ((e : Equation) → Member e es → OfHeads own others e.left × OfHeads own others e.right)
        → All (OfHeads own others) b → SameMultiset ◌≡◌ bs (map (map_sides (renamed κ)) r.equations ++ es)
        → SameMultiset ◌≡◌ us (map (map_terms (renamed κ)) (whole_body r) ++ L) → Iso (after_firing r b es own L) (conf_with b bs us)
    unfolding map_terms map_sides
    side-iso bs us sides face solved taken =
        renamed-iso r κ b es own L bs us apart letters.others
        (pointwise-image (map_terms (renamed κ)) (λ h. record {
          symbols = refl;
          terms = pointwise-image (renamed κ) (λ s. same) h.terms;
        }) r.heads)
        (λ e i. there (map_sides (renamed κ) e) (member-append-left es (member-map (map_sides (renamed κ)) i)))
        (λ e i. there e (member-append-right (map (map_sides (renamed κ)) r.equations) i))
        (λ e i. held e (member-append (map (map_sides (renamed κ)) r.equations) (member-same solved i)))
        (all-mono settled face)
        (all-of-members L (λ c i. all-of-members c.terms (λ t j. settled t (inr (c, rest c i, j)))))
        taken
      where
        there :
            (e : Equation) → Member e (map (map_sides (renamed κ)) r.equations ++ es)
            → Eqv (map lift_eqn bs) (lift e.left) (lift e.right)
        there e i = given (member-map lift_eqn (member-same (multiset-back solved) i))

        held :
            (e : Equation) → Or (Member e (map (map_sides (renamed κ)) r.equations)) (Member e es) → Held e.left e.right
        held e (inl i) = rule-held e i
        held e (inr i) = let (x, y) = sides e i in condition-held e i x y

-- emptying a state of a critical pair
pub pair-cleared :
    (r : Rule) (κ : ℕ → ℕ) (L : List Constraint) {es : List Equation} {vs : List ℕ} {c : Published}
    → Cleared [] (record { goals = body_items κ (rewritten r) ++ map user L; user_store = []; built_in_store = es; variables = vs }) c
    → SameMultiset ◌≡◌ c.built_in_store (map (map_sides (renamed κ)) r.equations ++ es)
    × SameMultiset ◌≡◌ c.user_store (map (map_terms (renamed κ)) (whole_body r) ++ L) × (c.variables ≡ vs)
pair-cleared r κ L {es} {c} e =
    let h = cleared-into e in
    let bs : built_ins (body_items κ (rewritten r) ++ map user L) ≡ map (map_sides (renamed κ)) r.equations =
    built_ins-append (body_items κ (rewritten r)) (map user L)
    ∙ ap₂ ◌++◌ (body-built_ins κ (rewritten r)) (built_ins-user L) ∙ append-nil (map (map_sides (renamed κ)) r.equations) in
    let us : users (body_items κ (rewritten r) ++ map user L) ++ [] ≡ map (map_terms (renamed κ)) (whole_body r) ++ L =
    append-nil (users (body_items κ (rewritten r) ++ map user L)) ∙ users-append (body_items κ (rewritten r)) (map user L)
    ∙ ap₂ ◌++◌ (body-users κ (rewritten r)) (users-user L) in (
      subst (λ l. SameMultiset ◌≡◌ c.built_in_store (l ++ es)) bs h.solved,
      subst (SameMultiset ◌≡◌ c.user_store) us h.taken,
      h.variables,
    )
