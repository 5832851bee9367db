-- What the tables name: symbols and constants that a state uses have names, and these are the texts' own.
--   rows-known, state-known     declared constraints over the constants, and states of these, use only what is named
--   known_some                  what is named has a key
--   known-named, rule-named     the name of a number by its place is the one that was read
-- Assumes nothing.
use Prim.Native.Nat.{ℕ, zero, suc, ◌+◌, ◌-◌, ◌≤◌, ◌<◌}
use native.Mathlib.Omega.{arith}
use mathlib.Core.Bool.{Bool, true, false, ◌&&◌, ◌||◌}
use mathlib.Core.List.{List, [], ◌∷◌}
use mathlib.Core.Path.{◌≡◌, refl, sym, subst}
use lib.Dec.{leb, ltb}
use lib.ListN.{length, get_or}
use borrow.Author.Tests.{le-leb, lt-ltb, ltb-true, leb-true}
use Rattle.text.specs.Lists.{every}
use Rattle.text.specs.Keys.{spell, spell_from}
use Rattle.text.proofs.Bools.{and-true}
use Rattle.text.proofs.Laws.{tabled-length, tabled-at}
use Rattle.semantics.specs.Terms.{Term, con, var, Constraint, Symbol, Rule, State, failed, live, no_symbol, is_declared}
use Rattle.semantics.proofs.Configurations.{All, also}
use Rattle.semantics.proofs.Multisets.{all-mono}
use Rattle.semantics.proofs.Listings.{all-every}
use Rattle.semantics.proofs.Vocabulary.{TermOver, ConstraintOver, SpokenState}
use Rattle.syntax.specs.Forms.{first_constant}
use Rattle.syntax.proofs.Vocabulary.{ConstantOf}
use Rattle.tables.specs.Layout.{first_rule}
use Rattle.tables.specs.Rows.{symbol_of, symbols_of, constants_of, name_of, rule_of_row, rule_of, rules_of}
use Rattle.tables.specs.Names.{name_in, Placed}
use Rattle.listing.specs.Listing.{naming_of}
use Rattle.listing.proofs.NamingLaws.{uses_in, uses_of, uses_only, symbol-named, constant-named}
use Rattle.replies.proofs.Elements.{all-at}
use Rattle.replies.proofs.ShortNames.{Termed, term-some}
use Rattle.inputs.specs.Inputs.{is_known}

module _ (k c : ℕ) where
  over-known : (t : Term) → TermOver (ConstantOf c) t → uses_in (is_known k c) t ≡ true
  unfolding uses_in is_known
  over-known (con a) (l, h) =
      go (ltb a k) (rw (le-leb first_constant a l, lt-ltb a (first_constant + c) h))
    where
      go : (b : Bool) → (leb first_constant a && ltb a (first_constant + c)) ≡ true
          → (b || (leb first_constant a && ltb a (first_constant + c))) ≡ true
      go true e = refl
      go false e = e
  over-known (var x) h = refl

  declared_known : (symbols : List Symbol) (d : Constraint) → length symbols ≡ k → is_declared symbols d ≡ true
      → is_known k c d.symbol ≡ true
  unfolding is_declared is_known
  declared_known symbols d size h =
      let low : ltb d.symbol k ≡ true = rw size at (and-true (ltb d.symbol (length symbols)) _ h).0 in
      rw low

  -- declared constraints over the constants use only what is named
  pub rows-known : (symbols : List Symbol) (cs : List Constraint) → length symbols ≡ k
      → All (λ d. is_declared symbols d ≡ true) cs → All (ConstraintOver (ConstantOf c)) cs
      → every (uses_of (is_known k c)) cs ≡ true
  unfolding uses_of
  rows-known symbols [] size ds os = refl
  rows-known symbols (d ∷ cs) size (also h ds) (also o os) =
      rw (
        declared_known symbols d size h,
        all-every (uses_in (is_known k c)) (all-mono over-known o),
        rows-known symbols cs size ds os,
      )

  -- so does a state of these
  pub state-known : (symbols : List Symbol) (v f : ℕ) (s : State) → length symbols ≡ k → SpokenState symbols (ConstantOf c) v f s
      → uses_only (is_known k c) s ≡ true
  unfolding uses_only
  state-known symbols v f failed size t = refl
  state-known symbols v f (live next b cs) size t =
      rw (
        all-every (uses_in (is_known k c)) (all-mono over-known t.bound),
        rows-known symbols cs size t.declared t.constraints,
      )

-- a name with some bytes has a key
key-some : (k : ℕ) → 0 < length (spell k) → 0 < k
unfolding spell spell_from
key-some zero h = absurd (omega arith)
key-some (suc k) h = omega arith

-- what is named has a key
module _ (names symbols : List ℕ) (k c : ℕ) (of-symbols : All (λ (s : Symbol). Termed s.name) (symbols_of names symbols k))
    (of-constants : All Termed (constants_of names c)) where
  symbol-some : (i : ℕ) → i < k → 0 < get_or names i 0
  unfolding symbols_of symbol_of name_of
  symbol-some i h =
      let at = all-at no_symbol i of-symbols (omega (arith, tabled-length (symbol_of names symbols) k)) in
      let termed : Termed (symbol_of names symbols i).name = subst (λ (s : Symbol). Termed s.name)
      (tabled-at (symbol_of names symbols) k i no_symbol h) at in
      key-some (get_or names i 0) (term-some (symbol_of names symbols i).name termed)

  constant-some : (j : ℕ) → j < c → 0 < get_or names (first_constant + j) 0
  unfolding constants_of name_of
  constant-some j h =
      let name : ℕ → List ℕ = λ i. name_of names (first_constant + i) in
      let at = all-at [] j of-constants (omega (arith, tabled-length name c)) in
      let termed : Termed (name j) = subst Termed (tabled-at name c j [] h) at in
      key-some (get_or names (first_constant + j) 0) (term-some (name j) termed)

  pub known_some : (i : ℕ) → is_known k c i ≡ true → 0 < get_or names i 0
  unfolding is_known
  known_some i h = go (ltb i k) refl h
    where
      go : (b : Bool) → ltb i k ≡ b → (b || (leb first_constant i && ltb i (first_constant + c))) ≡ true → 0 < get_or names i 0
      go true e t = symbol-some i (ltb-true i k e)
      go false e t =
          let (l, m) = and-true (leb first_constant i) (ltb i (first_constant + c)) t in
          let least : first_constant ≤ i = leb-true first_constant i l in
          let most : i < first_constant + c = ltb-true i (first_constant + c) m in
          let back : first_constant + (i - first_constant) ≡ i = omega arith in
          subst (λ (j : ℕ). 0 < get_or names j 0) back (constant-some (i - first_constant) (omega arith))

module _ (program goal names places : List ℕ) (placed : Placed program goal names places) where
  -- the names of symbols and constants by their places are those that were read
  module _ (symbols : List ℕ) (k c : ℕ) (few : k ≤ 32) (few-constants : c ≤ 64)
      (named : (i : ℕ) → is_known k c i ≡ true → 0 < get_or names i 0)
    where
      pub known-named : (i : ℕ) → is_known k c i ≡ true
          → name_in program goal places i ≡ naming_of (symbols_of names symbols k) (constants_of names c) i
      unfolding is_known
      known-named i h = go (ltb i k) refl h
        where
          go : (b : Bool) → ltb i k ≡ b → (b || (leb first_constant i && ltb i (first_constant + c))) ≡ true
              → name_in program goal places i ≡ naming_of (symbols_of names symbols k) (constants_of names c) i
          go true e t =
              let low : i < k = ltb-true i k e in
              symbol-named program goal names places symbols k c placed i low (omega (arith, few)) (omega (arith, few))
              (named i h)
          go false e t =
              let (l, m) = and-true (leb first_constant i) (ltb i (first_constant + c)) t in
              let least : first_constant ≤ i = leb-true first_constant i l in
              let most : i < first_constant + c = ltb-true i (first_constant + c) m in
              let back : first_constant + (i - first_constant) ≡ i = omega arith in
              subst (λ (j : ℕ). name_in program goal places j ≡ naming_of (symbols_of names symbols k) (constants_of names c) j) back
              (constant-named program goal names places symbols k c placed (i - first_constant)
              (omega arith) (omega (arith, few-constants)) (subst (λ (j : ℕ). 0 < get_or names j 0) (sym back) (named i h)))

  -- so are those of rules
  pub rule-named : (rules : List ℕ) (n i : ℕ) → n ≤ 32 → i < n → All (λ (r : Rule). Termed r.name) (rules_of names rules n)
      → (rule_of names rules i).name ≡ name_in program goal places (first_rule + i)
  unfolding rules_of rule_of rule_of_row name_of
  rule-named rules n i few l all =
      let at = all-at (rule_of names rules i) i all (omega (arith, tabled-length (rule_of names rules) n)) in
      let termed : Termed (rule_of names rules i).name = subst (λ (r : Rule). Termed r.name)
      (tabled-at (rule_of names rules) n i (rule_of names rules i) l) at in
      sym (placed.each (first_rule + i) (omega arith)
      (key-some (get_or names (first_rule + i) 0) (term-some (rule_of names rules i).name termed)))
