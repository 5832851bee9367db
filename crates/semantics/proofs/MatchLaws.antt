-- What matching does (document 01: a rule fits at places): the assignment it answers with makes the heads the constraints at the
-- positions and assigns nothing else, and it answers wherever some replacement of the variables does so.
--   TermFits, ConstraintRel, Extends      a head is a constraint under an assignment; an assignment goes on from another
--   Zipped, Paired                        two terms stand at one place of two lists, of a head and its constraint
--   HeadsMatch, AtMatch, match_at-sound    what an answer says
--   instantiate, Agrees, match_at-complete where there is an answer
-- Assumes nothing.
use Prim.Native.Nat.{ℕ}
use mathlib.Core.Bool.{true, false, cond}
use mathlib.Core.List.{List, [], ◌∷◌, ◌++◌}
use mathlib.Core.Option.{Option, none, some}
use mathlib.Core.Path.{◌≡◌, refl, sym, ap, subst, subst₂, ◌∙◌}
use lib.Dec.{eqb}
use lib.ListN.{get_elem?}
use Rattle.text.specs.Lists.{onward, bind, has}
use Rattle.semantics.specs.Terms.{Term, con, var, Constraint, same_term}
use Rattle.semantics.specs.Matching.{Assignment, extend, match_term, match_terms, match_constraint, match_at}
use Rattle.semantics.specs.Variants.{Pointwise, empty, each}
use Rattle.semantics.proofs.Configurations.{Or, inl, inr}
use Rattle.semantics.proofs.Options.{decide, none-some, bind-some, cond-some, cond-some-not, eqb-equal, equal-eqb}
use Rattle.semantics.proofs.Options.{same-equal, equal-same}
use Rattle.semantics.proofs.Multisets.{pointwise-mono}
use Rattle.semantics.proofs.PositionLaws.{Stands, Fresh}

-- a head's term is t: a constant is itself, and a variable is what it is assigned
abbrev pub TermFits : Assignment → Term → Term → Type 0
TermFits θ (con c) t = con c ≡ t
TermFits θ (var x) t = θ x ≡ some t

-- two constraints of one symbol, related term by term
pub record ConstraintRel (R : Term → Term → Type 0) (h c : Constraint) : Type 0 where
  pub symbols : h.symbol ≡ c.symbol
  pub terms : Pointwise R h.terms c.terms

-- whatever θ assigns, θ' assigns too
abbrev pub Extends : Assignment → Assignment → Type 0
Extends θ θ' = (x : ℕ) (t : Term) → θ x ≡ some t → θ' x ≡ some t

-- two elements stand at one place of two lists
pub data Zipped {A B : Type 0} (a : A) (b : B) : List A → List B → Type 0 where
  front : {l : List A} {m : List B} → Zipped a b (a ∷ l) (b ∷ m)
  behind : {c : A} {d : B} {l : List A} {m : List B} → Zipped a b l m → Zipped a b (c ∷ l) (d ∷ m)

-- they still do with more behind
pub zipped-left :
    {A B : Type 0} {a : A} {b : B} {l : List A} {m : List B} (k : List A) (n : List B)
    → Zipped a b l m → Zipped a b (l ++ k) (m ++ n)
zipped-left k n front = front
zipped-left k n (behind z) = behind (zipped-left k n z)

-- two terms stand at one place of a head and its constraint
pub data Paired (s t : Term) : List Constraint → List Constraint → Type 0 where
  in_first : {h c : Constraint} {hs M : List Constraint} → Zipped s t h.terms c.terms → Paired s t (h ∷ hs) (c ∷ M)
  in_rest : {h c : Constraint} {hs M : List Constraint} → Paired s t hs M → Paired s t (h ∷ hs) (c ∷ M)

-- θ' goes on from θ by matching lists of terms: it makes them equal, and assigns only what stands in them
pub record TermsMatch (hs ts : List Term) (θ θ' : Assignment) : Type 0 where
  pub fits : Pointwise (TermFits θ') hs ts
  pub extends : Extends θ θ'
  pub from : (x : ℕ) (t : Term) → θ' x ≡ some t → Or (θ x ≡ some t) (Zipped (var x) t hs ts)

-- the same for heads and constraints
pub record HeadsMatch (hs M : List Constraint) (θ θ' : Assignment) : Type 0 where
  pub fits : Pointwise (ConstraintRel (TermFits θ')) hs M
  pub extends : Extends θ θ'
  pub from : (x : ℕ) (t : Term) → θ' x ≡ some t → Or (θ x ≡ some t) (Paired (var x) t hs M)

-- what fits under an assignment fits under one that goes on from it
fits-extend : {θ θ' : Assignment} → Extends θ θ' → (s t : Term) → TermFits θ s t → TermFits θ' s t
fits-extend e (con c) t f = f
fits-extend e (var x) t f = e x t f

-- an extended assignment: x is t, all else is as before, and nothing else is new
extend-at : (x : ℕ) (t : Term) (θ : Assignment) → extend x t θ x ≡ some t
unfolding extend
extend-at x t θ = rw (equal-eqb {m = x} refl)

extend-cases :
    (x : ℕ) (t : Term) (θ : Assignment) (y : ℕ)
    → Or ((x ≡ y) × (extend x t θ y ≡ some t)) (extend x t θ y ≡ θ y)
unfolding extend
extend-cases x t θ y = go (decide (eqb x y))
  where
    go :
        Or (eqb x y ≡ true) (eqb x y ≡ false)
        → Or ((x ≡ y) × (cond (eqb x y) (some t) (θ y) ≡ some t)) (cond (eqb x y) (some t) (θ y) ≡ θ y)
    go (inl p) = inl (eqb-equal p, rw p)
    go (inr p) = inr (rw p)

-- matching one term
match_term-sound :
    (h t : Term) (θ : Assignment) {θ' : Assignment} → match_term h t θ ≡ some θ' → TermsMatch (h ∷ []) (t ∷ []) θ θ'
unfolding match_term
match_term-sound (con c) t θ {θ'} p = go (cond-some (same_term (con c) t) p)
  where
    go : (same_term (con c) t ≡ true) × (some θ ≡ some θ') → TermsMatch (con c ∷ []) (t ∷ []) θ θ'
    go (q, r) =
        let e : θ ≡ θ' = cc in
        subst (TermsMatch (con c ∷ []) (t ∷ []) θ) e
        (record { fits = each (same-equal (con c) t q) empty; extends = λ x u f. f; from = λ x u f. inl f })
match_term-sound (var x) t θ {θ'} p = go (θ x) refl p
  where
    settled : (u : Term) → θ x ≡ some u → (same_term u t ≡ true) × (some θ ≡ some θ') → TermsMatch (var x ∷ []) (t ∷ []) θ θ'
    settled u f (q, r) =
        let e : θ ≡ θ' = cc in
        subst (TermsMatch (var x ∷ []) (t ∷ []) θ) e
        (record { fits = each (f ∙ ap some (same-equal u t q)) empty; extends = λ y v g. g; from = λ y v g. inl g })

    keeps :
        θ x ≡ none → (y : ℕ) (u : Term) → Or ((x ≡ y) × (extend x t θ y ≡ some t)) (extend x t θ y ≡ θ y)
        → θ y ≡ some u → extend x t θ y ≡ some u
    keeps f y u (inl (e, q)) g = none-some (sym (ap θ e) ∙ f) g
    keeps f y u (inr q) g = q ∙ g

    comes :
        (y : ℕ) (u : Term) → Or ((x ≡ y) × (extend x t θ y ≡ some t)) (extend x t θ y ≡ θ y) → extend x t θ y ≡ some u
        → Or (θ y ≡ some u) (Zipped (var y) u (var x ∷ []) (t ∷ []))
    comes y u (inl (e, q)) g =
        let d : t ≡ u = cc in
        inr (subst₂ (λ z v. Zipped (var z) v (var x ∷ []) (t ∷ [])) e d front)
    comes y u (inr q) g = inl (sym q ∙ g)

    go :
        (o : Option Term) → θ x ≡ o → onward o (some (extend x t θ)) (λ u. cond (same_term u t) (some θ) none) ≡ some θ'
        → TermsMatch (var x ∷ []) (t ∷ []) θ θ'
    go none f q =
        let e : extend x t θ ≡ θ' = cc in
        subst (TermsMatch (var x ∷ []) (t ∷ []) θ) e (record {
          fits = each (extend-at x t θ) empty;
          extends = λ y u. keeps f y u (extend-cases x t θ y);
          from = λ y u. comes y u (extend-cases x t θ y);
        })
    go (some u) f q = settled u f (cond-some (same_term u t) q)

-- one term and then the others
terms-both :
    {h t : Term} {hs ts : List Term} {θ ν θ' : Assignment} → TermsMatch (h ∷ []) (t ∷ []) θ ν → TermsMatch hs ts ν θ'
    → TermsMatch (h ∷ hs) (t ∷ ts) θ θ'
terms-both {h} {t} {hs} {ts} {θ} {ν} {θ'} a b = record {
  fits = onto a.fits;
  extends = λ x u f. b.extends x u (a.extends x u f);
  from = λ x u f. back x u (b.from x u f);
}
  where
    onto : Pointwise (TermFits ν) (h ∷ []) (t ∷ []) → Pointwise (TermFits θ') (h ∷ hs) (t ∷ ts)
    onto (each f none') = each (fits-extend b.extends h t f) b.fits

    first :
        (x : ℕ) (u : Term) → Or (θ x ≡ some u) (Zipped (var x) u (h ∷ []) (t ∷ []))
        → Or (θ x ≡ some u) (Zipped (var x) u (h ∷ hs) (t ∷ ts))
    first x u (inl f) = inl f
    first x u (inr z) = inr (zipped-left hs ts z)

    back :
        (x : ℕ) (u : Term) → Or (ν x ≡ some u) (Zipped (var x) u hs ts)
        → Or (θ x ≡ some u) (Zipped (var x) u (h ∷ hs) (t ∷ ts))
    back x u (inl f) = first x u (a.from x u f)
    back x u (inr z) = inr (behind z)

-- matching lists of terms
match_terms-sound : (hs ts : List Term) (θ : Assignment) {θ' : Assignment} → match_terms hs ts θ ≡ some θ' → TermsMatch hs ts θ θ'
unfolding match_terms
match_terms-sound [] [] θ p =
    subst (TermsMatch [] [] θ) (cc) (record { fits = empty; extends = λ x u f. f; from = λ x u f. inl f })
match_terms-sound [] (t ∷ ts) θ p = none-some refl p
match_terms-sound (h ∷ hs) [] θ p = none-some refl p
match_terms-sound (h ∷ hs) (t ∷ ts) θ p =
    let (ν, q, r) = bind-some (match_term h t θ) (match_terms hs ts) p in
    terms-both (match_term-sound h t θ q) (match_terms-sound hs ts ν r)

-- matching a head
match_constraint-sound :
    (h c : Constraint) (θ : Assignment) {θ' : Assignment} → match_constraint h c θ ≡ some θ'
    → (h.symbol ≡ c.symbol) × TermsMatch h.terms c.terms θ θ'
unfolding match_constraint
match_constraint-sound h c θ p =
    let (q, r) = cond-some (eqb h.symbol c.symbol) p in
    (eqb-equal q, match_terms-sound h.terms c.terms θ r)

-- what an answer of matching at positions says: the positions are fresh, and the heads are the constraints there
pub record AtMatch
    (hs : List Constraint) (ps : List ℕ) (cs : List Constraint) (chosen : List ℕ) (θ θ' : Assignment) : Type 0 where
  pub matched : List Constraint
  pub stand : Pointwise (Stands cs) ps matched
  pub fresh : Fresh chosen ps
  pub heads : HeadsMatch hs matched θ θ'

-- one head and then the others
heads-both :
    {h c : Constraint} {hs M : List Constraint} {θ ν θ' : Assignment} → h.symbol ≡ c.symbol
    → TermsMatch h.terms c.terms θ ν → HeadsMatch hs M ν θ' → HeadsMatch (h ∷ hs) (c ∷ M) θ θ'
heads-both {h} {c} {hs} {M} {θ} {ν} s a b = record {
  fits = each (record { symbols = s; terms = pointwise-mono (fits-extend b.extends) a.fits }) b.fits;
  extends = λ x u f. b.extends x u (a.extends x u f);
  from = λ x u f. back x u (b.from x u f);
}
  where
    first :
        (x : ℕ) (u : Term) → Or (θ x ≡ some u) (Zipped (var x) u h.terms c.terms)
        → Or (θ x ≡ some u) (Paired (var x) u (h ∷ hs) (c ∷ M))
    first x u (inl f) = inl f
    first x u (inr z) = inr (in_first z)

    back :
        (x : ℕ) (u : Term) → Or (ν x ≡ some u) (Paired (var x) u hs M)
        → Or (θ x ≡ some u) (Paired (var x) u (h ∷ hs) (c ∷ M))
    back x u (inl f) = first x u (a.from x u f)
    back x u (inr z) = inr (in_rest z)

-- matching at positions
pub match_at-sound :
    (hs : List Constraint) (ps : List ℕ) (cs : List Constraint) (chosen : List ℕ) (θ : Assignment) {θ' : Assignment}
    → match_at hs ps cs chosen θ ≡ some θ' → AtMatch hs ps cs chosen θ θ'
unfolding match_at
match_at-sound [] [] cs chosen θ p =
    subst (AtMatch [] [] cs chosen θ) (cc) (record {
      matched = [];
      stand = empty;
      fresh = tt;
      heads = record { fits = empty; extends = λ x u f. f; from = λ x u f. inl f };
    })
match_at-sound [] (q ∷ ps) cs chosen θ p = none-some refl p
match_at-sound (h ∷ hs) [] cs chosen θ p = none-some refl p
match_at-sound (h ∷ hs) (q ∷ ps) cs chosen θ p =
    let (free, a) = cond-some-not (has q chosen) p in
    let (c, stands, b) =
    bind-some (get_elem? cs q) (λ c. bind (match_constraint h c θ) (match_at hs ps cs (chosen ++ (q ∷ [])))) a in
    let (ν, m, d) = bind-some (match_constraint h c θ) (match_at hs ps cs (chosen ++ (q ∷ []))) b in
    let head = match_constraint-sound h c θ m in
    let more = match_at-sound hs ps cs (chosen ++ (q ∷ [])) ν d in
    record {
      matched = c ∷ more.matched;
      stand = each stands more.stand;
      fresh = (free, more.fresh);
      heads = heads-both head.0 head.1 more.heads;
    }

-- a term with its variables replaced
abbrev pub instantiate : (ℕ → Term) → Term → Term
instantiate ϑ (con c) = con c
instantiate ϑ (var x) = ϑ x

-- an assignment that assigns only what the replacement puts
abbrev pub Agrees : Assignment → (ℕ → Term) → Type 0
Agrees θ ϑ = (x : ℕ) (t : Term) → θ x ≡ some t → t ≡ ϑ x

-- where the replacement makes a head's term t, matching answers, and the answer agrees with it again
match_term-complete :
    (ϑ : ℕ → Term) (h t : Term) (θ : Assignment) → Agrees θ ϑ → instantiate ϑ h ≡ t
    → (θ' : Assignment) × (match_term h t θ ≡ some θ') × Agrees θ' ϑ
unfolding match_term
match_term-complete ϑ (con c) t θ a p = (θ, rw (equal-same p), a)
match_term-complete ϑ (var x) t θ a p = go (θ x) refl
  where
    agrees :
        (y : ℕ) (u : Term) → Or ((x ≡ y) × (extend x t θ y ≡ some t)) (extend x t θ y ≡ θ y)
        → extend x t θ y ≡ some u → u ≡ ϑ y
    agrees y u (inl (e, q)) g =
        let d : t ≡ u = cc in
        sym d ∙ sym p ∙ ap ϑ e
    agrees y u (inr q) g = a y u (sym q ∙ g)

    go :
        (o : Option Term) → θ x ≡ o
        → (θ' : Assignment) × (onward (θ x) (some (extend x t θ)) (λ u. cond (same_term u t) (some θ) none) ≡ some θ')
        × Agrees θ' ϑ
    go none f = (extend x t θ, rw f, λ y u. agrees y u (extend-cases x t θ y))
    go (some u) f = (θ, rw (f, equal-same (a x u f ∙ p)), a)

-- the same for lists of terms
match_terms-complete :
    (ϑ : ℕ → Term) {hs ts : List Term} (θ : Assignment) → Agrees θ ϑ → Pointwise (λ h t. instantiate ϑ h ≡ t) hs ts
    → (θ' : Assignment) × (match_terms hs ts θ ≡ some θ') × Agrees θ' ϑ
unfolding match_terms
match_terms-complete ϑ θ a empty = (θ, refl, a)
match_terms-complete ϑ θ a (each {a = h} {b = t} p ps) =
    let (ν, q, b) = match_term-complete ϑ h t θ a p in
    let (θ', r, c) = match_terms-complete ϑ ν b ps in
    (θ', rw q r, c)

-- the same for a head
match_constraint-complete :
    (ϑ : ℕ → Term) (h c : Constraint) (θ : Assignment) → Agrees θ ϑ → ConstraintRel (λ s t. instantiate ϑ s ≡ t) h c
    → (θ' : Assignment) × (match_constraint h c θ ≡ some θ') × Agrees θ' ϑ
unfolding match_constraint
match_constraint-complete ϑ h c θ a r =
    let (θ', q, b) = match_terms-complete ϑ θ a r.terms in
    (θ', rw (equal-eqb r.symbols) q, b)

-- where a replacement makes the heads the constraints at fresh positions, matching answers there
pub match_at-complete :
    (ϑ : ℕ → Term) (cs : List Constraint) {hs : List Constraint} {ps : List ℕ} {M : List Constraint} (chosen : List ℕ)
    (θ : Assignment) → Agrees θ ϑ → Pointwise (Stands cs) ps M → Fresh chosen ps
    → Pointwise (ConstraintRel (λ s t. instantiate ϑ s ≡ t)) hs M
    → (θ' : Assignment) × (match_at hs ps cs chosen θ ≡ some θ') × Agrees θ' ϑ
unfolding match_at
match_at-complete ϑ cs chosen θ a empty f empty = (θ, refl, a)
match_at-complete ϑ cs chosen θ a (each {a = p} {b = c} s ss) f (each {a = h} r rs) =
    let (ν, q, b) = match_constraint-complete ϑ h c θ a r in
    let (θ', m, d) = match_at-complete ϑ cs (chosen ++ (p ∷ [])) ν b ss f.1 rs in
    (θ', rw (f.0, s, q) m, d)
