-- Newman's lemma, up to an equivalence that steps respect: steps that end, and whose forks can be joined up to the equivalence,
-- have one end up to it.
--   Star, Normal              steps one after another; a state that takes none
--   Reducing                  what the lemma asks of steps, their weight and the equivalence
--   Joins                     every fork is joined up to the equivalence
--   star-follow               equivalent states take equivalent steps, one after another
--   normal-exists             every state has an end
--   newman                    two ends of one state are equivalent
-- Assumes nothing.
use Prim.Native.Nat.{ℕ, zero, suc, ◌<◌, ◌≤◌}
use native.Mathlib.Omega.{arith}
use Rattle.semantics.proofs.Configurations.{Or, inl, inr}

-- steps one after another
pub data Star {S : Type 0} (R : S → S → Type 0) : S → S → Type 0 where
  here : {s : S} → Star R s s
  next : {s t u : S} → R s t → Star R t u → Star R s u

-- steps after steps
pub star-trans : {S : Type 0} {R : S → S → Type 0} {s t u : S} → Star R s t → Star R t u → Star R s u
star-trans here l = l
star-trans (next r k) l = next r (star-trans k l)

-- no step leads on
abbrev pub Normal : {S : Type 0} → (S → S → Type 0) → S → Type 0
Normal {S} R s = (t : S) → R s t → ⊥

-- a fork that is joined up to the equivalence
pub record Joined {S : Type 0} (R : S → S → Type 0) (E : S → S → Type 1) (t u : S) : Type 1 where
  pub left : S
  pub right : S
  pub left_steps : Star R t left
  pub right_steps : Star R u right
  pub equal : E left right

-- steps R between good states lower a weight, and whether one leads on is known; and an equivalence E that steps respect
pub record Reducing {S : Type 0} (Good : S → Type 0) (R : S → S → Type 0) (weight : S → ℕ) (E : S → S → Type 1) : Type 1 where
  pub keeps : (s t : S) → Good s → R s t → Good t
  pub falls : (s t : S) → R s t → weight t < weight s
  pub known : (s : S) → Or (Normal R s) ((t : S) × R s t)
  pub reflexive : (s : S) → E s s
  pub symmetric : (s t : S) → E s t → E t s
  pub transitive : (s t u : S) → E s t → E t u → E s u
  pub follows : (s t u : S) → Good s → Good t → E s t → R s u → (v : S) × R t v × E u v

-- every fork of a good state is joined
abbrev pub Joins : {S : Type 0} → (S → Type 0) → (S → S → Type 0) → (S → S → Type 1) → Type 1
Joins {S} Good R E = (s t u : S) → Good s → R s t → R s u → Joined R E t u

module _
    {S : Type 0} {Good : S → Type 0} {R : S → S → Type 0} {weight : S → ℕ} {E : S → S → Type 1} (H : Reducing Good R weight E)
  where
    -- steps from a good state lead to good states
    pub star-keeps : {s t : S} → Star R s t → Good s → Good t
    star-keeps here g = g
    star-keeps (next {s} {t} r k) g = star-keeps k (H.keeps s t g r)

    -- equivalent states take equivalent steps, one after another
    pub star-follow : {s u : S} (t : S) → Star R s u → Good s → Good t → E s t → (v : S) × Star R t v × E u v
    star-follow t here g k e = (t, here, e)
    star-follow t (next {s} {t = w} r rest) g k e =
        let (v, q, d) = H.follows s t w g k e r in
        let (x, p, f) = star-follow v rest (H.keeps s w g r) (H.keeps t v k q) d in
        (x, next q p, f)

    -- a state that is equivalent to a normal one is normal
    pub normal-follow : (s t : S) → Good s → Good t → E s t → Normal R s → Normal R t
    normal-follow s t g k e n u r =
        let (v, q, d) = H.follows t s u k g (H.symmetric s t e) r in
        n v q

    -- every state has an end: by the weight
    ends : (n : ℕ) (s : S) → weight s ≤ n → (t : S) × Star R s t × Normal R t
    ends zero s l = (s, here, λ t r. omega (arith, H.falls s t r))
    ends (suc n) s l = go (H.known s) (ends n)
      where
        go :
            Or (Normal R s) ((t : S) × R s t) → ((t : S) → weight t ≤ n → (u : S) × Star R t u × Normal R u)
            → (t : S) × Star R s t × Normal R t
        go (inl h) more = (s, here, h)
        go (inr (t, r)) more =
            let (u, k, m) = more t (omega (arith, H.falls s t r)) in
            (u, next r k, m)

    pub normal-exists : (s : S) → (t : S) × Star R s t × Normal R t
    normal-exists s = ends (weight s) s (omega arith)

    -- all ends of a state are equivalent
    abbrev OneEnd : S → Type 1
    OneEnd s = (t u : S) → Good s → Star R s t → Star R s u → Normal R t → Normal R u → E t u

    -- so it is for a state if it is for what is one step on
    one_end : Joins Good R E → (s : S) → ((t : S) → R s t → OneEnd t) → OneEnd s
    one_end joins s more t u g here here p q = H.reflexive s
    one_end joins s more t u g here (next {t = w} r k) p q = absurd (p w r)
    one_end joins s more t u g (next {t = v} r k) here p q = absurd (q v r)
    one_end joins s more t u g (next {t = v} r k) (next {t = w} r' k') p q =
        let j = joins s v w g r r' in
        let good = H.keeps s v g r in
        let good' = H.keeps s w g r' in
        let (x, m, f) = normal-exists j.left in
        let goodLeft = star-keeps j.left_steps good in
        let goodRight = star-keeps j.right_steps good' in
        let (y, m', d) = star-follow j.right m goodLeft goodRight j.equal in
        let f' = normal-follow x y (star-keeps m goodLeft) (star-keeps m' goodRight) d f in
        H.transitive t x u (more v r t x good k (star-trans j.left_steps m) p f)
        (H.transitive x y u d (more w r' y u good' (star-trans j.right_steps m') k' f' q))

    -- by the weight
    unique : Joins Good R E → (n : ℕ) (s : S) → weight s ≤ n → OneEnd s
    unique joins zero s l = one_end joins s (λ t r. absurd (omega (arith, H.falls s t r)))
    unique joins (suc n) s l = one_end joins s (λ t r. unique joins n t (omega (arith, H.falls s t r)))

    -- two ends of one state are equivalent
    pub newman : Joins Good R E → (s t u : S) → Good s → Star R s t → Star R s u → Normal R t → Normal R u → E t u
    newman joins s = unique joins (weight s) s (omega arith)
