-- Firing a rule, all of whose variables are new, leaves the same as adding the body of a renamed copy of it.
--   lift-renamed           a renamed term
--   after_firing            the configuration after a firing
--   back, back-renamed, …  from the copy's variables to the new ones
--   Settled                a term of the state that the copy's variables leave alone, or say the same of
--   fired-heads            after the firing, what the heads were matched with is what they are
--   renamed-iso            the two configurations are equal
-- Assumes nothing.
use Prim.Native.Nat.{ℕ, ◌<◌}
use mathlib.Core.List.{List, [], ◌++◌, map, map-append}
use mathlib.Core.Path.{◌≡◌, refl, sym, ap, subst, subst₂}
use Rattle.semantics.specs.Terms.{Term, Constraint, Equation, Rule, map_terms, alphabet}
use Rattle.semantics.specs.Terms as T
use Rattle.semantics.specs.Published.{renamed}
use Rattle.semantics.specs.Variants.{Pointwise, SameMultiset}
use Rattle.semantics.specs.Rewriting.{whole_body}
use Rattle.semantics.proofs.Configurations.{Or, inl, inr, Member, Tm, con, var, Eqn, sub, sub_atom, old, new, flat, Eqv}
use Rattle.semantics.proofs.Configurations.{same, Config, AtomRel, Iso, lift, lift_atom, lift_eqn, heads_of, eqs_of, fire_c}
use Rattle.semantics.proofs.Configurations.{TermBelow, All}
use Rattle.semantics.proofs.Multisets.{pointwise-mono, pointwise-map, pointwise-append, pointwise-sym}
use Rattle.semantics.proofs.Multisets.{pointwise-map-right, member-unmap, multiset-of-pointwise, multiset-right}
use Rattle.semantics.proofs.Multisets.{multiset-back, multiset-swap, pointwise-unmap, multiset-map, multiset-mono}
use Rattle.semantics.proofs.Atoms.{eqn, equal-pairs, sub-var, flat-pointwise, unflat-pointwise}
use Rattle.semantics.proofs.Closure.{Derives, eqv-path}
use Rattle.semantics.proofs.Links.{Equates, linked-equates, derives-linked, equates-pointwise}
use Rattle.semantics.proofs.Isos.{iso-of-maps}
use Rattle.semantics.proofs.MatchLaws.{ConstraintRel}
use Rattle.semantics.proofs.MatchedTerms.{ConstraintBelow, pointwise-all}
use Rattle.semantics.proofs.FireLaws.{Lettered}
use Rattle.semantics.proofs.Renamings.{Separates, Avoids, at_letters, at-letter, at_other}
use Rattle.semantics.proofs.PublishedStates.{conf_with}

-- a renamed term is that term with its variables replaced
pub lift-renamed : (ρ : ℕ → ℕ) (t : Term) → lift (renamed ρ t) ≡ sub (λ y. var (ρ y)) (lift t)
unfolding renamed
lift-renamed ρ (T.con c) = refl
lift-renamed ρ (T.var x) = refl

-- the configuration after firing a rule on M, L being the rest
abbrev pub after_firing : Rule → List Term → List Equation → List Constraint → List Constraint → Config
after_firing r b bs M L = fire_c r (conf_with b bs []) (map lift_atom M) (map lift_atom L)

-- a new variable as the copy's, an old one as itself; and back
abbrev forth : (ℕ → ℕ) → Or ℕ ℕ → Tm ℕ
forth ρ (inl x) = var x
forth ρ (inr y) = var (ρ y)

abbrev pub back : (ℕ → ℕ) → ℕ → Tm (Or ℕ ℕ)
back ρ = at_letters ρ new old

-- a term of the rule, renamed and back
pub back-renamed :
    (ρ : ℕ → ℕ) → Separates ρ → (t : Term) → TermBelow alphabet t → sub (back ρ) (lift (renamed ρ t)) ≡ sub new (lift t)
unfolding renamed
back-renamed ρ apart (T.con c) h = refl
back-renamed ρ apart (T.var y) h = at-letter ρ new old y apart h

-- a term that is none of the copy's variables, back
pub back-other : (ρ : ℕ → ℕ) (t : Term) → Avoids ρ t → sub (back ρ) (lift t) ≡ sub old (lift t)
back-other ρ (T.con c) h = refl
back-other ρ (T.var z) h = at_other ρ new old z h

module _ (r : Rule) (ρ : ℕ → ℕ) (b : List Term) (bs : List Equation) (M L : List Constraint) where
  -- the equations after the firing
  abbrev equations : List (Eqn (Or ℕ ℕ))
  equations = (after_firing r b bs M L).eqs

  -- a term of the state that stays what it is, back and forth
  abbrev pub Settled : Term → Type 0
  Settled t = Eqv equations (sub (back ρ) (lift t)) (sub old (lift t))

  -- an old variable in use is settled, a new one is a letter
  abbrev used : Tm (Or ℕ ℕ) → Type 0
  used (con c) = Unit {0}
  used (var (inl x)) = Settled (T.var x)
  used (var (inr y)) = y < alphabet

  module _ (bs' : List Equation) where
    abbrev Becomes : Tm (Or ℕ ℕ) → Tm ℕ → Type 0
    Becomes u v = used u × Eqv (map lift_eqn bs') (sub (forth ρ) u) v

    old-becomes : (t : Term) → Settled t → Becomes (sub old (lift t)) (lift t)
    old-becomes (T.con c) h = (tt, same)
    old-becomes (T.var x) h = (h, same)

    new-becomes : (t : Term) → TermBelow alphabet t → Becomes (sub new (lift t)) (lift (renamed ρ t))
    unfolding renamed
    new-becomes (T.con c) h = (tt, same)
    new-becomes (T.var x) h = (h, same)

    -- lists of terms, and of constraints
    old-terms : {l : List Term} → All Settled l → Pointwise Becomes (map (sub old) (map lift l)) (map lift l)
    old-terms h =
        pointwise-sym (pointwise-map-right (sub old) (pointwise-map lift lift
        (pointwise-all {R = λ s t. Becomes (sub old (lift t)) (lift s)} old-becomes h)))

    old-atoms :
        {l : List Constraint} → All (λ c. All Settled c.terms) l
        → Pointwise (AtomRel Becomes) (map (sub_atom old) (map lift_atom l)) (map lift_atom l)
    old-atoms h =
        pointwise-sym (pointwise-map-right (sub_atom old) (pointwise-map lift_atom lift_atom
        (pointwise-all {R = λ c d. AtomRel Becomes (sub_atom old (lift_atom d)) (lift_atom c)} (λ c k. record {
          symbols = refl;
          args = old-terms k;
        }) h)))

    new-atoms :
        {l : List Constraint} → All (ConstraintBelow alphabet) l
        → Pointwise (AtomRel Becomes) (map (sub_atom new) (map lift_atom l)) (map lift_atom (map (map_terms (renamed ρ)) l))
    unfolding map_terms
    new-atoms h =
        pointwise-map (sub_atom new) lift_atom (pointwise-map lift_atom (map_terms (renamed ρ)) (pointwise-all (λ c k. record {
          symbols = refl;
          args = pointwise-map (sub new) lift (pointwise-map lift (renamed ρ) (pointwise-all new-becomes k));
        }) h))

    -- what the equations of the firing follow from
    heads-follow :
        Pointwise (ConstraintRel (λ s t. Eqv (map lift_eqn bs') (lift (renamed ρ s)) (lift t))) r.heads M
        → Equates (map lift_eqn bs') (λ y. forth ρ (inr y)) (λ x. forth ρ (inl x)) (flat (heads_of r)) (flat (map lift_atom M))
    heads-follow p =
        equates-pointwise (λ y. forth ρ (inr y)) (λ x. forth ρ (inl x))
        (flat-pointwise (pointwise-map lift_atom lift_atom (pointwise-mono (λ h c q. record {
          symbols = q.symbols;
          args = pointwise-map lift lift (pointwise-mono (λ s t e.
              subst₂ (Eqv (map lift_eqn bs')) (lift-renamed ρ s) (sym (sub-var (lift t))) e) q.terms);
        }) p)))

    equations-follow :
        ((e : Equation) → Member e r.equations
        → Eqv (map lift_eqn bs') (lift (renamed ρ e.left)) (lift (renamed ρ e.right)))
        → Derives (map lift_eqn bs') (λ y. forth ρ (inr y)) (eqs_of r)
    equations-follow h e i =
        let (d, j, q) = member-unmap lift_eqn r.equations i in
        rw q (subst₂ (Eqv (map lift_eqn bs')) (lift-renamed ρ d.left) (lift-renamed ρ d.right) (h d j))

    store-follows :
        ((e : Equation) → Member e bs → Eqv (map lift_eqn bs') (lift e.left) (lift e.right))
        → Derives (map lift_eqn bs') (λ x. forth ρ (inl x)) (map lift_eqn bs)
    store-follows h e i =
        let (d, j, q) = member-unmap lift_eqn bs i in
        rw q (subst₂ (Eqv (map lift_eqn bs')) (sym (sub-var (lift d.left))) (sym (sub-var (lift d.right))) (h d j))

    -- what the equations of the copy follow from
    copy-follows :
        ((e : Equation) → Member e bs' → Eqv equations (sub (back ρ) (lift e.left)) (sub (back ρ) (lift e.right)))
        → Derives equations (back ρ) (map lift_eqn bs')
    copy-follows h e i =
        let (d, j, q) = member-unmap lift_eqn bs' i in
        rw q (h d j)

    -- back from the copy
    undo : Separates ρ → (t : Tm (Or ℕ ℕ)) → used t → Eqv equations (sub (back ρ) (sub (forth ρ) t)) t
    undo apart (con c) u = same
    undo apart (var (inl x)) u = u
    undo apart (var (inr y)) u = eqv-path (at-letter ρ new old y apart u)

  -- after the firing, what the heads were matched with is what they are
  pub fired-heads :
      {R : Term → Term → Type 0} → Pointwise (ConstraintRel R) r.heads M
      → Pointwise (ConstraintRel (λ s t. Eqv equations (sub new (lift s)) (sub old (lift t)))) r.heads M
  fired-heads p =
      pointwise-mono (λ h c q. record {
        symbols = q.symbols;
        terms = pointwise-unmap lift lift h.terms c.terms q.args;
      }) (pointwise-unmap lift_atom lift_atom r.heads M (unflat-pointwise atoms (pointwise-mono (λ h m i.
      linked-equates (flat (heads_of r)) (flat (map lift_atom M)) (eqs_of r) (map lift_eqn bs) (eqn (sub new h) (sub old m)) i)
      (pointwise-unmap (sub new) (sub old) (flat (heads_of r)) (flat (map lift_atom M))
      (equal-pairs {P = λ s t. Unit {0}} (pointwise-map (sub new) (sub old) (flat-pointwise atoms)))))))
    where
      atoms : Pointwise (AtomRel (λ h m. Unit {0})) (heads_of r) (map lift_atom M)
      atoms =
          pointwise-map lift_atom lift_atom (pointwise-mono (λ h c q. record {
            symbols = q.symbols;
            args = pointwise-map lift lift (pointwise-mono (λ s t k. tt) q.terms);
          }) p)

  -- the configuration after the firing equals the one with the copy's equations and body: the heads, the rule's equations and
  -- those of the state follow from the copy's equations, and the copy's from the firing's
  pub renamed-iso :
      (bs' : List Equation) (us' : List Constraint) → Separates ρ → Lettered r
      → Pointwise (ConstraintRel (λ s t. Eqv (map lift_eqn bs') (lift (renamed ρ s)) (lift t))) r.heads M
      → ((e : Equation) → Member e r.equations
      → Eqv (map lift_eqn bs') (lift (renamed ρ e.left)) (lift (renamed ρ e.right)))
      → ((e : Equation) → Member e bs → Eqv (map lift_eqn bs') (lift e.left) (lift e.right))
      → ((e : Equation) → Member e bs' → Eqv equations (sub (back ρ) (lift e.left)) (sub (back ρ) (lift e.right)))
      → All Settled b → All (λ c. All Settled c.terms) L
      → SameMultiset ◌≡◌ us' (map (map_terms (renamed ρ)) (whole_body r) ++ L) → Iso (after_firing r b bs M L) (conf_with b bs' us')
  renamed-iso bs' us' apart letters heads own kept backward hb hL split =
      iso-of-maps (after_firing r b bs M L) (conf_with b bs' us') (forth ρ) (back ρ) used (λ c. tt)
      (derives-linked (forth ρ) (flat (heads_of r)) (flat (map lift_atom M)) (eqs_of r) (map lift_eqn bs)
      (heads-follow bs' heads) (equations-follow bs' own) (store-follows bs' kept))
      (copy-follows bs' backward) (undo bs' apart) (old-terms bs' hb)
      (multiset-right (multiset-of-pointwise (pointwise-append (old-atoms bs' hL) (new-atoms bs' letters.body))) reordered)
    where
      body : List Constraint
      body = map (map_terms (renamed ρ)) (whole_body r)

      reordered : SameMultiset ◌≡◌ (map lift_atom L ++ map lift_atom body) (map lift_atom us')
      reordered =
          multiset-right (multiset-swap (map lift_atom L) (map lift_atom body))
          (subst (λ l. SameMultiset ◌≡◌ l (map lift_atom us')) (map-append lift_atom body L)
          (multiset-map lift_atom lift_atom (multiset-mono (λ c d e. ap lift_atom e) (multiset-back split))))
