-- Decimal digits: a number below ten is one digit, and any other is the digits of its tenth and one more.
--   decimal-low, decimal-high     the two cases
--   decimal-few                   a number has at most one digit more than its value
--   value-last                    the value of digits with one more behind them
--   decimal-exact                 the digits have no leading zero, and their value is the number
-- Assumes nothing.
use mathlib.Core.Path.{◌≡◌, refl, sym, ap, ◌∙◌}
use mathlib.Core.Bool.{Bool, true, false, cond}
use mathlib.Core.List.{List, [], ◌∷◌, ◌++◌, append_assoc}
use Prim.Native.Nat.{ℕ, zero, suc, ◌+◌, ◌-◌, ◌*◌, ◌/◌, ◌%◌, ◌≤◌, ◌<◌}
use native.Mathlib.Omega.{arith}
use lib.Dec.{ltb, leb}
use lib.ListN.{length}
use borrow.Author.Tests.{lt-ltb, le-ltb, le-leb, leb-true, ltb-true, ltb-false, ne_eqb}
use Rattle.text.specs.declared.table.Class.TheVariants.{Digit}
use Rattle.text.specs.Bytes.{between, is_class}
use Rattle.text.specs.Fields.{is_number, value_from, value_of, decimal_from, decimal}
use Rattle.text.specs.Lists.{every}
use Rattle.text.proofs.ClassLaws.{is_digit}
use Rattle.text.proofs.Bools.{and-true}
use Rattle.text.proofs.Laws.{every_append}
use Rattle.text.proofs.ListLaws.{every-weaker}

-- digits go in front of what stands behind
pub decimal_from-behind : (f n : ℕ) (b : List ℕ) → decimal_from f n b ≡ decimal_from f n [] ++ b
unfolding decimal_from
decimal_from-behind zero n b = refl
decimal_from-behind (suc f) n b = go (ltb n 10) (λ c. decimal_from-behind f (n / 10) c)
  where
    go : (t : Bool) → ((c : List ℕ) → decimal_from f (n / 10) c ≡ decimal_from f (n / 10) [] ++ c)
        → cond t ((48 + n) ∷ b) (decimal_from f (n / 10) ((48 + n % 10) ∷ b))
        ≡ cond t ((48 + n) ∷ []) (decimal_from f (n / 10) ((48 + n % 10) ∷ [])) ++ b
    go true h = refl
    go false h =
        h ((48 + n % 10) ∷ b)
        ∙ sym (ap (λ (l : List ℕ). l ++ b) (h ((48 + n % 10) ∷ []))
        ∙ append_assoc (decimal_from f (n / 10) []) ((48 + n % 10) ∷ []) b)

-- any fuel above the number is enough
pub decimal_from-fuel : (f g n : ℕ) (b : List ℕ) → n < f → n < g → decimal_from f n b ≡ decimal_from g n b
unfolding decimal_from
decimal_from-fuel zero g n b h k = absurd (omega arith)
decimal_from-fuel (suc f) zero n b h k = absurd (omega arith)
decimal_from-fuel (suc f) (suc g) n b h k = go (ltb n 10) refl (λ u v. decimal_from-fuel f g (n / 10) ((48 + n % 10) ∷ b) u v)
  where
    go : (t : Bool) → ltb n 10 ≡ t
        → (n / 10 < f → n / 10 < g → decimal_from f (n / 10) ((48 + n % 10) ∷ b) ≡ decimal_from g (n / 10) ((48 + n % 10) ∷ b))
        → cond t ((48 + n) ∷ b) (decimal_from f (n / 10) ((48 + n % 10) ∷ b))
        ≡ cond t ((48 + n) ∷ b) (decimal_from g (n / 10) ((48 + n % 10) ∷ b))
    go true e again = refl
    go false e again =
        let high : 10 ≤ n = ltb-false n 10 e in
        again (omega arith) (omega arith)

-- a number below ten is one digit
pub decimal-low : (n : ℕ) → n < 10 → decimal n ≡ (48 + n) ∷ []
unfolding decimal decimal_from
decimal-low n h = rw (lt-ltb n 10 h)

-- any other is the digits of its tenth and one more
pub decimal-high : (n : ℕ) → 10 ≤ n → decimal n ≡ decimal (n / 10) ++ ((48 + n % 10) ∷ [])
unfolding decimal decimal_from
decimal-high n h =
    rw (le-ltb n 10 h)
    (decimal_from-behind n (n / 10) ((48 + n % 10) ∷ [])
    ∙ ap (λ (l : List ℕ). l ++ ((48 + n % 10) ∷ [])) (decimal_from-fuel n (suc (n / 10)) (n / 10) [] (omega arith) (omega arith)))

decimal_from-few : (f n : ℕ) (b : List ℕ) → length (decimal_from f n b) ≤ f + length b
unfolding decimal_from
decimal_from-few zero n b = omega arith
decimal_from-few (suc f) n b = go (ltb n 10) (decimal_from-few f (n / 10) ((48 + n % 10) ∷ b))
  where
    go : (t : Bool) → length (decimal_from f (n / 10) ((48 + n % 10) ∷ b)) ≤ f + suc (length b)
        → length (cond t ((48 + n) ∷ b) (decimal_from f (n / 10) ((48 + n % 10) ∷ b))) ≤ suc f + length b
    go true h = omega arith
    go false h = omega arith

-- a number has at most one digit more than its value
pub decimal-few : (n : ℕ) → length (decimal n) ≤ suc n
unfolding decimal
decimal-few n = omega (arith, decimal_from-few (suc n) n [])

-- the value of digits with one more behind them
pub value-last : (v : ℕ) (s : List ℕ) (b : ℕ) → value_from v (s ++ (b ∷ [])) ≡ value_from v s * 10 + (b - 48)
unfolding value_from
value-last v [] b = refl
value-last v (c ∷ s) b = value-last (v * 10 + (c - 48)) s b

-- the value of one digit
value-digit : (d : ℕ) → value_from 0 ((48 + d) ∷ []) ≡ d
unfolding value_from
value-digit d = omega arith

-- a digit, by its value
digit-between : (lo d : ℕ) → lo ≤ 48 + d → d < 10 → between lo 57 (48 + d) ≡ true
unfolding between
digit-between lo d h k = rw (le-leb lo (48 + d) h, le-leb (48 + d) 57 (omega arith))

-- digits of which the first is not zero
pub record Led (s : List ℕ) : Type 0 where
  pub first : ℕ
  pub others : List ℕ
  pub are : s ≡ first ∷ others
  pub leads : between 49 57 first ≡ true
  pub digits : every (between 48 57) others ≡ true

-- every number but zero is so
decimal-led : (f n : ℕ) → n < f → 1 ≤ n → Led (decimal n)
decimal-led zero n h k = absurd (omega arith)
decimal-led (suc f) n h k = go (ltb n 10) refl (decimal-led f (n / 10))
  where
    go : (t : Bool) → ltb n 10 ≡ t → (n / 10 < f → 1 ≤ n / 10 → Led (decimal (n / 10))) → Led (decimal n)
    go true e again =
        let low : n < 10 = ltb-true n 10 e in
        record {
          first = 48 + n;
          others = [];
          are = decimal-low n low;
          leads = digit-between 49 n (omega arith) low;
          digits = refl;
        }
    go false e again =
        let high : 10 ≤ n = ltb-false n 10 e in
        let l = again (omega arith) (omega arith) in
        record {
          first = l.first;
          others = l.others ++ ((48 + n % 10) ∷ []);
          are = decimal-high n high ∙ ap (λ s. s ++ ((48 + n % 10) ∷ [])) l.are;
          leads = l.leads;
          digits = every_append (between 48 57) l.others ((48 + n % 10) ∷ [])
              ∙ rw (l.digits, digit-between 48 (n % 10) (omega arith) (omega arith));
        }

-- all of such digits are digits by class
digits-classed : (s : List ℕ) → every (between 48 57) s ≡ true → every (is_class Digit) s ≡ true
digits-classed s h = every-weaker (between 48 57) (is_class Digit) s (λ b e. is_digit b ∙ e) h

-- such digits have the form of a number
led-number : (b : ℕ) (s : List ℕ) → between 49 57 b ≡ true → every (between 48 57) s ≡ true → is_number (b ∷ s) ≡ true
unfolding is_number between
led-number b s h k =
    let (low, most) = and-true (leb 49 b) (leb b 57) h in
    let least : 49 ≤ b = leb-true 49 b low in
    let one : is_class Digit b ≡ true = is_digit b ∙ rw (le-leb 48 b (omega (arith, least)), most) in
    go s least one (digits-classed s k)
  where
    go : (s : List ℕ) → 49 ≤ b → is_class Digit b ≡ true → every (is_class Digit) s ≡ true → is_number (b ∷ s) ≡ true
    go [] least one k = one
    go (c ∷ s) least one k = rw (ne_eqb b 48 (λ e. omega (arith, least)), one, k)

-- the value of a number's digits
decimal-value : (f n : ℕ) → n < f → value_of (decimal n) ≡ n
unfolding value_of
decimal-value zero n h = absurd (omega arith)
decimal-value (suc f) n h = go (ltb n 10) refl (decimal-value f (n / 10))
  where
    go : (t : Bool) → ltb n 10 ≡ t → (n / 10 < f → value_from 0 (decimal (n / 10)) ≡ n / 10) → value_from 0 (decimal n) ≡ n
    go true e again = rw (decimal-low n (ltb-true n 10 e)) (value-digit n)
    go false e again =
        let high : 10 ≤ n = ltb-false n 10 e in
        let tenth = again (omega arith) in
        rw (decimal-high n high, value-last 0 (decimal (n / 10)) (48 + n % 10), tenth) (omega arith)

-- zero is one digit
zero_number : is_number (48 ∷ []) ≡ true
unfolding is_number between
zero_number = is_digit 48

-- the digits of a number have no leading zero, and their value is the number
pub decimal-exact : (n : ℕ) → (is_number (decimal n) ≡ true) × (value_of (decimal n) ≡ n)
decimal-exact n = (form n, decimal-value (suc n) n (omega arith))
  where
    form : (n : ℕ) → is_number (decimal n) ≡ true
    form zero = rw (decimal-low 0 (omega arith)) zero_number
    form (suc m) =
        let l = decimal-led (suc (suc m)) (suc m) (omega arith) (omega arith) in
        rw l.are (led-number l.first l.others l.leads l.digits)
