-- What a Simplify step (document 000, figure 1) leaves once its goal store is empty: the configuration after firing the rule.
--   body-users, body-built_ins      the two kinds of constraints of a body
--   simplified-iso                 the heads' equations, the rule's own and the store's are those of the firing
-- Assumes nothing.
use Prim.Native.Nat.{ℕ}
use mathlib.Core.List.{List, [], ◌∷◌, ◌++◌, map}
use mathlib.Core.Path.{◌≡◌, refl, sym, ap, subst₂}
use Rattle.semantics.specs.Terms.{Term, Constraint, Equation, Rule, map_terms, map_sides, alphabet}
use Rattle.semantics.specs.Terms as T
use Rattle.semantics.specs.Variants.{SameMultiset}
use Rattle.semantics.specs.Published.{user, built_in, Published, EquatedAll, renamed, FreshFor, body_items}
use Rattle.semantics.specs.Rewriting.{whole_body}
use Rattle.semantics.proofs.Configurations.{Or, inl, inr, Member, sub, Eqv, given, Eqn, Iso, eqs_of, flat, heads_of, lift}
use Rattle.semantics.proofs.Configurations.{lift_atom, lift_eqn, All}
use Rattle.semantics.proofs.Multisets.{pointwise-mono, member-append, member-append-left, member-append-right}
use Rattle.semantics.proofs.Multisets.{member-map, member-unmap, all-member, all-mono, multiset-back}
use Rattle.semantics.proofs.Closure.{eqv-path}
use Rattle.semantics.proofs.Links.{linked-old, linked-new}
use Rattle.semantics.proofs.MatchedTerms.{ConstraintBelow}
use Rattle.semantics.proofs.FireLaws.{Lettered}
use Rattle.semantics.proofs.Renamings.{Avoids}
use Rattle.semantics.proofs.Equating.{equated-related}
use Rattle.semantics.proofs.Entailment.{heads-pairs, pairs-renamed, with-left, with-right}
use Rattle.semantics.proofs.FreshVariants.{member-same, matched-avoids, rest-avoids, built_in-avoids, variables-avoid}
use Rattle.semantics.proofs.PublishedStates.{conf_with}
use Rattle.semantics.proofs.Clearing.{users, built_ins}
use Rattle.semantics.proofs.RenamedRules.{after_firing, back, back-renamed, back-other, Settled, fired-heads, renamed-iso}

-- the user-defined and the built-in constraints of a rule's body
pub body-users : (ρ : ℕ → ℕ) (r : Rule) → users (body_items ρ r) ≡ map (map_terms (renamed ρ)) r.body
unfolding body_items
body-users ρ r = go r.body
  where
    none_left : (es : List Equation) → users (map (λ e. built_in (map_sides (renamed ρ) e)) es) ≡ []
    none_left [] = refl
    none_left (e ∷ es) = none_left es

    go :
        (cs : List Constraint)
        → users (map (λ c. user (map_terms (renamed ρ) c)) cs ++ map (λ e. built_in (map_sides (renamed ρ) e)) r.equations)
        ≡ map (map_terms (renamed ρ)) cs
    go [] = none_left r.equations
    go (c ∷ cs) = ap (map_terms (renamed ρ) c ∷◌) (go cs)

pub body-built_ins : (ρ : ℕ → ℕ) (r : Rule) → built_ins (body_items ρ r) ≡ map (map_sides (renamed ρ)) r.equations
unfolding body_items
body-built_ins ρ r = go r.body
  where
    equations : (es : List Equation) → built_ins (map (λ e. built_in (map_sides (renamed ρ) e)) es) ≡ map (map_sides (renamed ρ)) es
    equations [] = refl
    equations (e ∷ es) = ap (map_sides (renamed ρ) e ∷◌) (equations es)

    go :
        (cs : List Constraint)
        → built_ins (map (λ c. user (map_terms (renamed ρ) c)) cs ++ map (λ e. built_in (map_sides (renamed ρ) e)) r.equations)
        ≡ map (map_sides (renamed ρ)) r.equations
    go [] = equations r.equations
    go (c ∷ cs) = go cs

module _
    (r : Rule) (p q : Published) (ρ : ℕ → ℕ) (M L : List Constraint) (es : List Equation) (f : FreshFor p ρ)
    (letters : Lettered r) (heads : All (ConstraintBelow alphabet) r.heads) (split : SameMultiset ◌≡◌ p.user_store (M ++ L))
    (equated : EquatedAll (map (map_terms (renamed ρ)) r.heads) M es)
    (solved : SameMultiset ◌≡◌ q.built_in_store (map (map_sides (renamed ρ)) r.equations ++ (es ++ p.built_in_store)))
    (taken : SameMultiset ◌≡◌ q.user_store (map (map_terms (renamed ρ)) (whole_body r) ++ L)) where
  -- the equations after the firing
  abbrev equations : List (Eqn (Or ℕ ℕ))
  equations = (after_firing r (map T.var p.variables) p.built_in_store M L).eqs

  -- a term that is none of the variant's variables is settled
  settled : (t : Term) → Avoids ρ t → Settled r ρ (map T.var p.variables) p.built_in_store M L t
  settled t h = eqv-path (back-other ρ t h)

  -- an equation of the new built-in store holds after the firing
  abbrev Held : Term → Term → Type 0
  Held s t = Eqv equations (sub (back ρ) (lift s)) (sub (back ρ) (lift t))

  rule-held : (e : Equation) → Member e (map (map_sides (renamed ρ)) r.equations) → Held e.left e.right
  unfolding map_sides
  rule-held e i =
      let (d, j, k) = member-unmap (map_sides (renamed ρ)) r.equations i in
      let (a, b) = all-member letters.equations j in
      rw k (subst₂ (Eqv equations) (sym (back-renamed ρ f.apart d.left a)) (sym (back-renamed ρ f.apart d.right b))
      (linked-new (flat (heads_of r)) (flat (map lift_atom M)) (eqs_of r) (map lift_eqn p.built_in_store) (lift_eqn d)
      (member-map lift_eqn j)))

  heads-held : (e : Equation) → Member e es → Held e.left e.right
  heads-held e i =
      equated-related {R = Held} equated (pairs-renamed ρ (pointwise-mono (λ h c k. record {
        symbols = k.symbols;
        terms = pointwise-mono (λ s t q.
            subst₂ (Eqv equations) (sym (back-renamed ρ f.apart s q.0.1)) (sym (back-other ρ t q.1)) q.0.0)
            k.terms;
      }) (with-right (with-left
      (fired-heads r ρ (map T.var p.variables) p.built_in_store M L (heads-pairs ρ r.heads equated)) heads)
      (matched-avoids p ρ f L split)))) i

  store-held : (e : Equation) → Member e p.built_in_store → Held e.left e.right
  store-held e i =
      let (a, b) = built_in-avoids p ρ f e i in
      subst₂ (Eqv equations) (sym (back-other ρ e.left a)) (sym (back-other ρ e.right b))
      (linked-old (flat (heads_of r)) (flat (map lift_atom M)) (eqs_of r) (map lift_eqn p.built_in_store) (lift_eqn e)
      (member-map lift_eqn i))

  held : (e : Equation) → Member e q.built_in_store → Held e.left e.right
  held e i = go (member-append (map (map_sides (renamed ρ)) r.equations) (member-same solved i))
    where
      stored : Or (Member e es) (Member e p.built_in_store) → Held e.left e.right
      stored (inl j) = heads-held e j
      stored (inr j) = store-held e j

      go :
          Or (Member e (map (map_sides (renamed ρ)) r.equations)) (Member e (es ++ p.built_in_store))
          → Held e.left e.right
      go (inl j) = rule-held e j
      go (inr j) = stored (member-append es j)

  -- an equation of the new built-in store holds there
  given-there :
      {s t : Term}
      → Member (record { left = s; right = t }) (map (map_sides (renamed ρ)) r.equations ++ (es ++ p.built_in_store))
      → Eqv (map lift_eqn q.built_in_store) (lift s) (lift t)
  given-there i = given (member-map lift_eqn (member-same (multiset-back solved) i))

  -- the configuration after the firing equals the one with the new stores
  pub simplified-iso :
      Iso (after_firing r (map T.var p.variables) p.built_in_store M L)
      (conf_with (map T.var p.variables) q.built_in_store q.user_store)
  unfolding map_sides
  simplified-iso =
      renamed-iso r ρ (map T.var p.variables) p.built_in_store M L q.built_in_store q.user_store f.apart letters
      (pointwise-mono (λ h c k. record {
        symbols = k.symbols;
        terms = pointwise-mono (λ s t i.
            given-there (member-append-right (map (map_sides (renamed ρ)) r.equations)
            (member-append-left p.built_in_store i)))
            k.terms;
      }) (heads-pairs ρ r.heads equated))
      (λ e i. given-there (member-append-left (es ++ p.built_in_store) (member-map (map_sides (renamed ρ)) i)))
      (λ e i. given-there (member-append-right (map (map_sides (renamed ρ)) r.equations) (member-append-right es i)))
      held (all-mono settled (variables-avoid p ρ f)) (all-mono (λ c h. all-mono settled h) (rest-avoids p ρ f M split)) taken
