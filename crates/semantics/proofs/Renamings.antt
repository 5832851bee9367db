-- Renamed rules: which letter of a rule a variable stands for, and numbers beyond all those in use.
--   Separates, Avoids            a renaming keeps letters apart; a term is none of the renamed letters
--   at_letters, at-letter, …      a function that is one thing at the renamed letters and another elsewhere
--   beyond, beyond-member        a number above every number in a list of terms
-- Assumes nothing.
use Prim.Native.Nat.{ℕ, zero, suc, ◌+◌, ◌<◌, ◌≤◌}
use mathlib.Core.Bool.{true, false, cond}
use mathlib.Core.List.{List, [], ◌∷◌}
use mathlib.Core.Option.{Option, none, some}
use mathlib.Core.Path.{◌≡◌, refl, sym, ap, ◌∙◌}
use native.Mathlib.Omega.{arith}
use lib.Dec.{eqb}
use Rattle.text.specs.Lists.{onward}
use Rattle.semantics.specs.Terms.{Term, con, var, Constraint, alphabet}
use Rattle.semantics.proofs.Configurations.{Or, inl, inr, Member, first, later, All}
use Rattle.semantics.proofs.Options.{decide, true-false, none-some, eqb-equal, equal-eqb}

-- a renaming keeps a rule's letters apart
abbrev pub Separates : (ℕ → ℕ) → Type 0
Separates ρ = (x y : ℕ) → x < alphabet → y < alphabet → ρ x ≡ ρ y → x ≡ y

-- a variable, a term, a constraint that is or has none of the renamed letters
abbrev pub NoLetter : (ℕ → ℕ) → ℕ → Type 0
NoLetter ρ z = (x : ℕ) → x < alphabet → ρ x ≡ z → ⊥

abbrev pub Avoids : (ℕ → ℕ) → Term → Type 0
Avoids ρ (con c) = Unit {0}
Avoids ρ (var z) = NoLetter ρ z

abbrev pub ConstraintAvoids : (ℕ → ℕ) → Constraint → Type 0
ConstraintAvoids ρ c = All (Avoids ρ) c.terms

-- the letter below n that is renamed to z
letter_of : (ℕ → ℕ) → ℕ → ℕ → Option ℕ
letter_of ρ zero z = none
letter_of ρ (suc n) z = cond (eqb (ρ n) z) (some n) (letter_of ρ n z)

-- it is such a letter; and where there is none, no letter is
letter-found : (ρ : ℕ → ℕ) (n z : ℕ) {x : ℕ} → letter_of ρ n z ≡ some x → (x < n) × (ρ x ≡ z)
unfolding letter_of
letter-found ρ zero z p = none-some refl p
letter-found ρ (suc n) z {x} p = go (decide (eqb (ρ n) z)) (letter-found ρ n z)
  where
    go :
        Or (eqb (ρ n) z ≡ true) (eqb (ρ n) z ≡ false) → (letter_of ρ n z ≡ some x → (x < n) × (ρ x ≡ z))
        → (x < suc n) × (ρ x ≡ z)
    go (inl q) ih =
        let e : some n ≡ some x = rw q at p in
        let d : x ≡ n = cc in
        (omega arith, ap ρ d ∙ eqb-equal q)
    go (inr q) ih = let (h, e) = ih (rw q at p) in (omega arith, e)

letter-missing : (ρ : ℕ → ℕ) (n z : ℕ) → letter_of ρ n z ≡ none → (x : ℕ) → x < n → ρ x ≡ z → ⊥
unfolding letter_of
letter-missing ρ zero z p x h e = omega arith
letter-missing ρ (suc n) z p x h e = go (decide (eqb (ρ n) z)) (letter-missing ρ n z) (decide (eqb x n))
  where
    go :
        Or (eqb (ρ n) z ≡ true) (eqb (ρ n) z ≡ false)
        → (letter_of ρ n z ≡ none → (x : ℕ) → x < n → ρ x ≡ z → ⊥) → Or (eqb x n ≡ true) (eqb x n ≡ false) → ⊥
    go (inl q) ih d = none-some (rw q at p) refl
    go (inr q) ih (inl d) = let b : x ≡ n = eqb-equal d in true-false (equal-eqb (ap ρ (sym b) ∙ e)) q
    go (inr q) ih (inr d) = let b : (x ≡ n → ⊥) = λ w. true-false (equal-eqb w) d in ih (rw q at p) x (omega arith) e

-- f at the renamed letters, g elsewhere
pub at_letters : {A : Type 0} → (ℕ → ℕ) → (ℕ → A) → (ℕ → A) → ℕ → A
at_letters ρ f g z = onward (letter_of ρ alphabet z) (g z) f

pub at-letter :
    {A : Type 0} (ρ : ℕ → ℕ) (f g : ℕ → A) (x : ℕ) → Separates ρ → x < alphabet → at_letters ρ f g (ρ x) ≡ f x
unfolding at_letters
at-letter ρ f g x s h = go (letter_of ρ alphabet (ρ x)) refl
  where
    go : (o : Option ℕ) → letter_of ρ alphabet (ρ x) ≡ o → onward o (g (ρ x)) f ≡ f x
    go none p = absurd (letter-missing ρ alphabet (ρ x) p x h refl)
    go (some y) p = let (k, e) = letter-found ρ alphabet (ρ x) p in ap f (s y x k h e)

pub at_other : {A : Type 0} (ρ : ℕ → ℕ) (f g : ℕ → A) (z : ℕ) → NoLetter ρ z → at_letters ρ f g z ≡ g z
unfolding at_letters
at_other ρ f g z n = go (letter_of ρ alphabet z) refl
  where
    go : (o : Option ℕ) → letter_of ρ alphabet z ≡ o → onward o (g z) f ≡ g z
    go none p = refl
    go (some y) p = let (k, e) = letter-found ρ alphabet z p in absurd (n y k e)

-- a term's number is below n, be it a constant or a variable
abbrev pub NumberBelow : ℕ → Term → Type 0
NumberBelow n (con c) = c < n
NumberBelow n (var x) = x < n

-- a number above every number in a list of terms
abbrev pub beyond : List Term → ℕ
beyond [] = 0
beyond (con c ∷ ts) = suc c + beyond ts
beyond (var x ∷ ts) = suc x + beyond ts

pub beyond-member : {t : Term} {ts : List Term} → Member t ts → NumberBelow (beyond ts) t
beyond-member {t = con c} first = omega arith
beyond-member {t = var x} first = omega arith
beyond-member {t} (later {b} {l} i) = below_more t (beyond-member i) (beyond-more b l)
  where
    below_more : {m n : ℕ} (t : Term) → NumberBelow m t → m ≤ n → NumberBelow n t
    below_more (con c) h k = omega arith
    below_more (var x) h k = omega arith

    beyond-more : (b : Term) (l : List Term) → beyond l ≤ beyond (b ∷ l)
    beyond-more (con c) l = omega arith
    beyond-more (var x) l = omega arith
