-- What firing does (document 01): the state after a firing represents the configuration after it.
--   Lettered             the variables of a rule's kept heads, body and equations are letters
--   Firing               a rule that fits at positions of a state
--   fire-fits            there the rule fits what is matched
--   rewritten-represents the state after firing the rule rewritten represents the configuration after it
-- Assumes nothing.
use Prim.Native.Nat.{ℕ, ◌+◌, ◌-◌, ◌<◌}
use mathlib.Core.Bool.{true, false, cond}
use mathlib.Core.List.{List, [], ◌++◌, map, map-append}
use mathlib.Core.Option.{Option, none, some}
use mathlib.Core.Path.{◌≡◌, refl, sym, ap, ◌∙◌}
use native.Mathlib.Omega.{arith}
use lib.Dec.{ltb, ltb→lt, lt→ltb}
use Rattle.text.specs.Lists.{onward}
use Rattle.semantics.specs.Terms.{Term, Constraint, Equation, Rule, map_terms, map_sides, alphabet}
use Rattle.semantics.specs.Terms as T
use Rattle.semantics.specs.Matching.{Assignment, unassigned}
use Rattle.semantics.specs.Solving.{solve}
use Rattle.semantics.specs.Firing.{without, instance, settle, fired}
use Rattle.semantics.specs.Variants.{Pointwise}
use Rattle.semantics.specs.Rewriting.{whole_body, rewritten}
use Rattle.semantics.proofs.Configurations.{Or, inl, inr, Member, Tm, con, var, Eqn, sub, sub_atom, sub_eqn, old, new}
use Rattle.semantics.proofs.Configurations.{equal, flat, Eqv, given, same, flip, chain, Config, Inconsistent, AtomRel, Iso}
use Rattle.semantics.proofs.Configurations.{lift, lift_atom, lift_eqn, heads_of, body_of, eqs_of, Fits, fire_c, conf_of}
use Rattle.semantics.proofs.Configurations.{TermBelow, All, Scoped, Rep, has_failed, is_live}
use Rattle.semantics.proofs.Multisets.{pointwise-mono, pointwise-map, pointwise-append, all-member, all-mono, all_append}
use Rattle.semantics.proofs.Multisets.{all_map, member-map, member-unmap, multiset-of-pointwise}
use Rattle.semantics.proofs.Atoms.{equal-holds, flat-pointwise}
use Rattle.semantics.proofs.Closure.{eqv-path, eqv-sub, eqv-front, eqv-behind, derives-append, derives-map}
use Rattle.semantics.proofs.Isos.{iso-sym, iso-of-maps}
use Rattle.semantics.proofs.Options.{decide, none-some, true-T, T_true}
use Rattle.semantics.proofs.SolveLaws.{solve-solution, solve-clash, solve-keeps}
use Rattle.semantics.proofs.MatchLaws.{Paired, AtMatch}
use Rattle.semantics.proofs.KeptHeads.{instance-fits}
use Rattle.semantics.proofs.MatchedTerms.{ConstraintBelow, matched-all, without_all, pointwise-all, pointwise-image}
use Rattle.semantics.proofs.MatchedTerms.{below-mono, paired-all, zipped_map, paired-zipped, zipped-equal}

-- the variables of a rule's kept heads, body and equations are letters
pub record Lettered (r : Rule) : Type 0 where
  pub body : All (ConstraintBelow alphabet) (whole_body r)
  pub equations : All (λ e. TermBelow alphabet e.left × TermBelow alphabet e.right) r.equations

-- a variable of the state after a firing, as one of the configuration: below n an old one, else a new one
abbrev apart : ℕ → ℕ → Tm (Or ℕ ℕ)
apart n x = cond (ltb x n) (old x) (new (x - n))

apart-old : (n x : ℕ) → x < n → apart n x ≡ old x
apart-old n x h = rw (T_true (ltb x n) (lt→ltb x n h))

apart-new : (n y : ℕ) → apart n (n + y) ≡ new y
apart-new n y = go (decide (ltb (n + y) n))
  where
    go : Or (ltb (n + y) n ≡ true) (ltb (n + y) n ≡ false) → cond (ltb (n + y) n) (old (n + y)) (new (n + y - n)) ≡ new y
    go (inl p) = absurd (let h : n + y < n = ltb→lt (n + y) n (true-T p) in omega arith)
    go (inr p) = rw p (let e : n + y - n ≡ y = omega arith in ap new e)

apart_below : (n : ℕ) (t : Term) → TermBelow n t → sub (apart n) (lift t) ≡ sub old (lift t)
apart_below n (T.con c) h = refl
apart_below n (T.var x) h = apart-old n x h

-- a firing: a rule that fits at positions of a state
pub record Firing (r : Rule) (n : ℕ) (b : List Term) (cs : List Constraint) (ps : List ℕ) (θ : Assignment) : Type 0 where
  pub scoped : Scoped n b cs
  pub fitting : AtMatch r.heads ps cs [] unassigned θ

module _ (r : Rule) (n : ℕ) (b : List Term) (cs : List Constraint) (ps : List ℕ) (θ : Assignment) (F : Firing r n b cs ps θ) where
  -- the constraints at the positions
  abbrev matched : List Constraint
  matched = F.fitting.matched

  -- the equations of the rule, as they are solved
  abbrev solved_for : List Equation
  solved_for = map (map_sides (instance n θ)) r.equations

  -- the configuration after the firing
  abbrev after : Config
  after = fire_c r (conf_of b cs) (map lift_atom matched) (map lift_atom (without 0 ps cs))

  -- the equations between the heads and what is matched
  abbrev head_equations : List (Eqn (Or ℕ ℕ))
  head_equations = equal (map (sub new) (flat (heads_of r))) (map (sub old) (flat (map lift_atom matched)))

  -- what is assigned stands in the heads, and is below n
  assigned : (y : ℕ) (u : Term) → θ y ≡ some u → Paired (T.var y) u r.heads matched
  unfolding unassigned
  assigned y u f = go (F.fitting.heads.from y u f)
    where
      go : Or (none ≡ some u) (Paired (T.var y) u r.heads matched) → Paired (T.var y) u r.heads matched
      go (inl p) = none-some refl p
      go (inr p) = p

  assigned-below : (y : ℕ) (u : Term) → θ y ≡ some u → TermBelow n u
  assigned-below y u f = paired-all (assigned y u f) (matched-all F.scoped.constraints F.fitting.stand)

  -- a term of the rule as the state has it is its own new term, by the equations between the heads and what is matched
  letter-back : (t : Term) → Eqv after.eqs (sub (apart n) (lift (instance n θ t))) (sub new (lift t))
  unfolding instance
  letter-back (T.con c) = same
  letter-back (T.var y) = go (θ y) refl
    where
      go : (o : Option Term) → θ y ≡ o → Eqv after.eqs (sub (apart n) (lift (onward o (T.var (n + y)) (λ t. t)))) (new y)
      go none f = eqv-path (apart-new n y)
      go (some u) f =
          chain (eqv-path (apart_below n u (assigned-below y u f)))
          (flip (eqv-front (map (sub_eqn new) (eqs_of r) ++ [])
          (given (zipped-equal (zipped_map (sub new) (sub old) (paired-zipped F.fitting.heads.fits (assigned y u f)))))))

  -- the rule's equations, as they are solved, hold after the firing
  solved-back :
      (e : Eqn ℕ) → Member e (map lift_eqn solved_for) → Eqv after.eqs (sub (apart n) e.left) (sub (apart n) e.right)
  unfolding map_sides
  solved-back e i =
      let (d, j, p) = member-unmap lift_eqn solved_for i in
      let (c, k, q) = member-unmap (map_sides (instance n θ)) r.equations j in
      let held : Member (sub_eqn new (lift_eqn c)) (map (sub_eqn new) (eqs_of r)) = member-map (sub_eqn new) (member-map lift_eqn k) in
      let inBetween = eqv-behind head_equations (eqv-front [] (given held)) in
      rw p (rw q (chain (letter-back c.left) (chain inBetween (flip (letter-back c.right)))))

  -- where the equations have no solution, the configuration is inconsistent
  fire-fails : solve solved_for (λ t. t) ≡ none → Inconsistent after
  fire-fails p =
      let (one, two, d, e) = solve-clash solved_for p in
      record { one = one; two = two; apart = d; clash = eqv-sub (apart n) solved-back e }

  module _ (σ : Term → Term) (p : solve solved_for (λ t. t) ≡ some σ) where
    -- a variable of the configuration, as a term of the state after the firing
    abbrev value : Or ℕ ℕ → Tm ℕ
    value (inl x) = lift (σ (T.var x))
    value (inr y) = lift (σ (instance n θ (T.var y)))

    -- an old variable is in use if it is below n
    abbrev used : Tm (Or ℕ ℕ) → Type 0
    used (con c) = Unit {0}
    used (var (inl x)) = x < n
    used (var (inr y)) = Unit {0}

    value-old : (t : Term) → sub value (sub old (lift t)) ≡ lift (σ t)
    value-old (T.con c) = sym (ap lift ((solve-solution solved_for p).fixes c))
    value-old (T.var x) = refl

    value-new : (t : Term) → sub value (sub new (lift t)) ≡ lift (σ (instance n θ t))
    unfolding instance
    value-new (T.con c) = sym (ap lift ((solve-solution solved_for p).fixes c))
    value-new (T.var y) = refl

    value-letter : (t : Term) → sub (λ y. value (inr y)) (lift t) ≡ lift (σ (instance n θ t))
    unfolding instance
    value-letter (T.con c) = sym (ap lift ((solve-solution solved_for p).fixes c))
    value-letter (T.var y) = refl

    -- what the heads are equated with, they are
    heads-held :
        Pointwise (λ s t. Eqv [] (sub value s) (sub value t)) (map (sub new) (flat (heads_of r)))
        (map (sub old) (flat (map lift_atom matched)))
    heads-held =
        pointwise-map (sub new) (sub old) (flat-pointwise (pointwise-map lift_atom lift_atom (pointwise-mono (λ h c q. record {
          symbols = q.symbols;
          args = pointwise-map lift lift (pointwise-mono (λ s t f.
              eqv-path (value-new s ∙ ap (λ u. lift (σ u)) (instance-fits n θ s t f) ∙ sym (value-old t))) q.terms);
        }) F.fitting.heads.fits)))

    -- the rule's equations hold
    equations-held :
        (e : Eqn ℕ) → Member e (eqs_of r) → Eqv [] (sub (λ y. value (inr y)) e.left) (sub (λ y. value (inr y)) e.right)
    unfolding map_sides
    equations-held e i =
        let (c, k, q) = member-unmap lift_eqn r.equations i in
        let solved = (solve-solution solved_for p).joins (member-map (map_sides (instance n θ)) k) in
        rw q (eqv-path (value-letter c.left ∙ ap lift solved ∙ sym (value-letter c.right)))

    -- the equations of the configuration hold in the state
    all_held : (e : Eqn (Or ℕ ℕ)) → Member e after.eqs → Eqv [] (sub value e.left) (sub value e.right)
    all_held =
        derives-append head_equations (map (sub_eqn new) (eqs_of r) ++ []) (λ e i. equal-holds heads-held i)
        (derives-append (map (sub_eqn new) (eqs_of r)) [] (derives-map value new (eqs_of r) equations-held) (λ e i. elim i [ ]))

    -- a term in use is equivalent to its value
    solved-eqv : (t : Term) → Eqv after.eqs (sub (apart n) (lift (σ t))) (sub (apart n) (lift t))
    solved-eqv t = eqv-sub (apart n) solved-back (flip ((solve-solution solved_for p).follows t))

    value-back : (t : Tm (Or ℕ ℕ)) → used t → Eqv after.eqs (sub (apart n) (sub value t)) t
    value-back (con c) u = same
    value-back (var (inl x)) u = chain (solved-eqv (T.var x)) (eqv-path (apart-old n x u))
    value-back (var (inr y)) u = chain (solved-eqv (instance n θ (T.var y))) (letter-back (T.var y))

    -- a term below n is in use, and its value is what it becomes; so is a term of the rule
    abbrev Becomes : Tm (Or ℕ ℕ) → Tm ℕ → Type 0
    Becomes u v = used u × Eqv [] (sub value u) v

    old-becomes : (t : Term) → TermBelow n t → Becomes (sub old (lift t)) (lift (σ t))
    old-becomes (T.con c) h = (tt, eqv-path (value-old (T.con c)))
    old-becomes (T.var x) h = (h, same)

    new-becomes : (t : Term) → Becomes (sub new (lift t)) (lift (σ (instance n θ t)))
    new-becomes (T.con c) = (tt, eqv-path (value-new (T.con c)))
    new-becomes (T.var y) = (tt, same)

    -- the face and the store
    face-becomes : Pointwise Becomes after.face (map lift (map σ b))
    face-becomes = pointwise-map (sub old) lift (pointwise-map lift σ (pointwise-all old-becomes F.scoped.bound))

    old-store :
        Pointwise (AtomRel Becomes) (map (sub_atom old) (map lift_atom (without 0 ps cs)))
        (map lift_atom (map (map_terms σ) (without 0 ps cs)))
    unfolding map_terms
    old-store =
        pointwise-map (sub_atom old) lift_atom (pointwise-map lift_atom (map_terms σ) (pointwise-all (λ c h. record {
          symbols = refl;
          args = pointwise-map (sub old) lift (pointwise-map lift σ (pointwise-all old-becomes h));
        }) (without_all 0 ps F.scoped.constraints)))

    new-store :
        Pointwise (AtomRel Becomes) (map (sub_atom new) (body_of r))
        (map lift_atom (map (map_terms σ) (map (map_terms (instance n θ)) (whole_body r))))
    unfolding map_terms
    new-store =
        pointwise-map (sub_atom new) lift_atom (pointwise-map lift_atom (map_terms σ)
        (pointwise-image (map_terms (instance n θ)) (λ c. record {
          symbols = refl;
          args = pointwise-map (sub new) lift (pointwise-map lift σ (pointwise-image (instance n θ) new-becomes c.terms));
        }) (whole_body r)))

    -- the constraints after the firing
    abbrev remaining : List Constraint
    remaining = without 0 ps cs ++ map (map_terms (instance n θ)) (whole_body r)

    store-becomes : Pointwise (AtomRel Becomes) after.store (map lift_atom (map (map_terms σ) remaining))
    store-becomes =
        rw (
          map-append (map_terms σ) (without 0 ps cs) (map (map_terms (instance n θ)) (whole_body r)),
          map-append lift_atom (map (map_terms σ) (without 0 ps cs))
              (map (map_terms σ) (map (map_terms (instance n θ)) (whole_body r))),
        )
        (pointwise-append old-store new-store)

    -- the state after the firing equals the configuration after it
    fire-iso-after : Iso (conf_of (map σ b) (map (map_terms σ) remaining)) after
    fire-iso-after =
        iso-sym (iso-of-maps after (conf_of (map σ b) (map (map_terms σ) remaining)) value (apart n) used (λ c. tt) all_held
        (λ e i. elim i [ ]) value-back face-becomes (multiset-of-pointwise store-becomes))

    -- and its variables are below its number
    instance-below : (t : Term) → TermBelow alphabet t → TermBelow (n + alphabet) (instance n θ t)
    unfolding instance
    instance-below (T.con c) h = tt
    instance-below (T.var y) h = go (θ y) refl
      where
        go : (o : Option Term) → θ y ≡ o → TermBelow (n + alphabet) (onward o (T.var (n + y)) (λ t. t))
        go none f = omega arith
        go (some u) f = below-mono (omega arith) u (assigned-below y u f)

    sides-below :
        Lettered r → (e : Equation) → Member e solved_for
        → TermBelow (n + alphabet) e.left × TermBelow (n + alphabet) e.right
    unfolding map_sides
    sides-below letters e i =
        let (c, k, q) = member-unmap (map_sides (instance n θ)) r.equations i in
        let h = all-member letters.equations k in
        rw q (instance-below c.left h.0, instance-below c.right h.1)

    solution-below : Lettered r → (t : Term) → TermBelow (n + alphabet) t → TermBelow (n + alphabet) (σ t)
    solution-below letters t h = solve-keeps (TermBelow (n + alphabet)) solved_for p (sides-below letters) t h

    fire-scoped : Lettered r → Scoped (n + alphabet) (map σ b) (map (map_terms σ) remaining)
    unfolding map_terms
    fire-scoped letters = record {
      bound = all_map σ (all-mono old_term F.scoped.bound);
      constraints = all_map (map_terms σ) (all_append
          (all-mono (λ c h. all_map σ (all-mono old_term h)) (without_all 0 ps F.scoped.constraints))
          (all_map (map_terms (instance n θ))
          (all-mono (λ c h. all_map σ (all_map (instance n θ) (all-mono new_term h))) letters.body)));
    }
      where
        old_term : (t : Term) → TermBelow n t → TermBelow (n + alphabet) (σ t)
        old_term t h = solution-below letters t (below-mono (omega arith) t h)

        new_term : (t : Term) → TermBelow alphabet t → TermBelow (n + alphabet) (σ (instance n θ t))
        new_term t h = solution-below letters (instance n θ t) (instance-below t h)

  -- the state after firing the rule rewritten represents the configuration after it
  pub rewritten-represents : Lettered r → Rep (fired (rewritten r) ps θ n b cs) after
  unfolding fired settle
  rewritten-represents letters = go (solve solved_for (λ t. t)) refl
    where
      go :
          (o : Option (Term → Term)) → solve solved_for (λ t. t) ≡ o
          → Rep (settle o (n + alphabet) b (without 0 ps cs ++ map (map_terms (instance n θ)) (whole_body r))) after
      go none p = has_failed (fire-fails p)
      go (some σ) p = is_live (fire-scoped σ p letters) (fire-iso-after σ p)

  -- the rule fits what is matched
  pub fire-fits : Fits [] (heads_of r) (map lift_atom matched)
  unfolding instance
  fire-fits = record {
    θ = λ y. lift (instance n θ (T.var y));
    fits = pointwise-map lift_atom lift_atom (pointwise-mono (λ h c q. record {
      symbols = q.symbols;
      args = pointwise-map lift lift
          (pointwise-mono (λ s t f. eqv-path (letter s ∙ ap lift (instance-fits n θ s t f))) q.terms);
    }) F.fitting.heads.fits);
  }
    where
      letter : (t : Term) → sub (λ y. lift (instance n θ (T.var y))) (lift t) ≡ lift (instance n θ t)
      letter (T.con c) = refl
      letter (T.var y) = refl
