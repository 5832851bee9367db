-- The weight of constraints by their symbols (`weight_by`), and what it says of a match: the constraints at matched positions
-- weigh what the heads do.
--   weight-append, weight-map           the weight of lists of constraints
--   weight-length, weight-one           beside the number of constraints
--   weight-inserted                     with one more constraint
--   match_constraint-symbol              a head fits only a constraint of its own symbol
--   match-few                           no more heads than constraints
--   match-lighter                       what is left beside the matched positions, and the heads, weigh as much as all
--   match-removed                       the same of the later positions and heads
-- Assumes nothing.
use Prim.Native.Nat.{ℕ, zero, suc, ◌+◌, ◌≤◌}
use native.Mathlib.Nat.{add-zero}
use native.Mathlib.Omega.{arith}
use mathlib.Core.Bool.{Bool, true, false, ◌||◌}
use mathlib.Core.List.{List, [], ◌∷◌, ◌++◌, map, append_assoc, append-nil}
use mathlib.Core.Option.{some}
use mathlib.Core.Path.{◌≡◌, refl, ap, ◌∙◌}
use lib.Dec.{eqb}
use lib.ListN.{length, drop}
use Rattle.text.specs.Lists.{has}
use Rattle.semantics.specs.Terms.{Term, Constraint, map_terms, weight_by}
use Rattle.semantics.specs.Matching.{Assignment, unassigned, match_constraint, match_at}
use Rattle.semantics.specs.Firing.{without}
use Rattle.semantics.specs.Variants.{Inserted, here, there}
use Rattle.semantics.proofs.Options.{none-some, cond-some, eqb-equal}
use Rattle.semantics.proofs.Removal.{without-one, without-none, has-front}
use Rattle.semantics.proofs.Search.{match_at-cons}

-- a head fits only a constraint of its own symbol
pub match_constraint-symbol :
    (h c : Constraint) (θ end : Assignment) → match_constraint h c θ ≡ some end → h.symbol ≡ c.symbol
unfolding match_constraint
match_constraint-symbol h c θ end e =
    eqb-equal (cond-some (eqb h.symbol c.symbol) e).0

module _ (w : ℕ → ℕ) where
  -- the weight of two lists, one behind the other
  pub weight-append : (l m : List Constraint) → weight_by w (l ++ m) ≡ weight_by w l + weight_by w m
  unfolding weight_by
  weight-append [] m = omega arith
  weight-append (c ∷ l) m = omega (arith, weight-append l m)

  -- replacing terms keeps the weight
  pub weight-map : (σ : Term → Term) (l : List Constraint) → weight_by w (map (map_terms σ) l) ≡ weight_by w l
  unfolding weight_by map_terms
  weight-map σ [] = refl
  weight-map σ (c ∷ l) = ap (w c.symbol +◌) (weight-map σ l)

  -- where every symbol weighs something, there are no more constraints than weight
  pub weight-length : ((k : ℕ) → 1 ≤ w k) → (l : List Constraint) → length l ≤ weight_by w l
  unfolding weight_by
  weight-length p [] = omega arith
  weight-length p (c ∷ l) = omega (arith, p c.symbol, weight-length p l)

  -- the weight with one more constraint
  pub weight-inserted :
      {c : Constraint} {cs ds : List Constraint} → Inserted c cs ds → weight_by w ds ≡ w c.symbol + weight_by w cs
  unfolding weight_by
  weight-inserted here = refl
  weight-inserted (there i) = omega (arith, weight-inserted i)

  -- what is left beside the matched positions, and the heads, weigh as much as what was left before
  pub match-lighter :
      (hs : List Constraint) (ps : List ℕ) (cs : List Constraint) (chosen : List ℕ) (θ end : Assignment)
      → match_at hs ps cs chosen θ ≡ some end
      → weight_by w (without 0 (chosen ++ ps) cs) + weight_by w hs ≡ weight_by w (without 0 chosen cs)
  unfolding match_at weight_by
  match-lighter [] [] cs chosen θ end e = rw (append-nil, add-zero)
  match-lighter [] (p ∷ ps) cs chosen θ end e = none-some refl e
  match-lighter (h ∷ hs) [] cs chosen θ end e = none-some refl e
  match-lighter (h ∷ hs) (p ∷ ps) cs chosen θ end e =
      let f = match_at-cons h hs p ps cs chosen θ end e in
      let one = weight-inserted (without-one 0 chosen cs p p f.constraint (omega arith) f.stands f.free) in
      let more = rw append_assoc at (match-lighter hs ps cs (chosen ++ (p ∷ [])) f.next end f.rest) in
      let same = ap w (match_constraint-symbol h f.constraint θ f.next f.fits) in
      omega (arith, one, more, same)

-- heads match where fewer positions are chosen before
match-fewer :
    (hs : List Constraint) (ps : List ℕ) (cs : List Constraint) (many few : List ℕ) (θ end : Assignment)
    → ((n : ℕ) → has n many ≡ false → has n few ≡ false) → match_at hs ps cs many θ ≡ some end
    → match_at hs ps cs few θ ≡ some end
unfolding match_at
match-fewer [] [] cs many few θ end h e = e
match-fewer [] (p ∷ ps) cs many few θ end h e = none-some refl e
match-fewer (g ∷ hs) [] cs many few θ end h e = none-some refl e
match-fewer (g ∷ hs) (p ∷ ps) cs many few θ end h e =
    let f = match_at-cons g hs p ps cs many θ end e in
    let rest = match-fewer hs ps cs (many ++ (p ∷ [])) (few ++ (p ∷ [])) f.next end more f.rest in
    rw (h p f.free, f.stands, f.fits) rest
  where
    more : (n : ℕ) → has n (many ++ (p ∷ [])) ≡ false → has n (few ++ (p ∷ [])) ≡ false
    more n z = rw (has-front n p few) (go (eqb n p) (rw (has-front n p many) at z))
      where
        go : (b : Bool) → (b || has n many) ≡ false → (b || has n few) ≡ false
        go true z = z
        go false z = h n z

-- the later heads match at their positions
match-later :
    (k : ℕ) (hs : List Constraint) (ps : List ℕ) (cs : List Constraint) (θ end : Assignment)
    → match_at hs ps cs [] θ ≡ some end → (η : Assignment) × (match_at (drop k hs) (drop k ps) cs [] η ≡ some end)
unfolding match_at
match-later zero hs ps cs θ end e = (θ, e)
match-later (suc k) [] [] cs θ end e = (θ, e)
match-later (suc k) [] (p ∷ ps) cs θ end e = none-some refl e
match-later (suc k) (h ∷ hs) [] cs θ end e = none-some refl e
match-later (suc k) (h ∷ hs) (p ∷ ps) cs θ end e =
    let f = match_at-cons h hs p ps cs [] θ end e in
    match-later k hs ps cs f.next end (match-fewer hs ps cs (p ∷ []) [] f.next end (λ n z. refl) f.rest)

-- what is left beside the positions of the later heads, and these heads, weigh as much as all
pub match-removed :
    (w : ℕ → ℕ) (k : ℕ) (hs : List Constraint) (ps : List ℕ) (cs : List Constraint) (end : Assignment)
    → match_at hs ps cs [] unassigned ≡ some end
    → weight_by w (without 0 (drop k ps) cs) + weight_by w (drop k hs) ≡ weight_by w cs
match-removed w k hs ps cs end e =
    let (η, later) = match-later k hs ps cs unassigned end e in
    match-lighter w (drop k hs) (drop k ps) cs [] η end later ∙ ap (weight_by w) (without-none 0 cs)

-- where every symbol weighs 1, the weight is the number of constraints
weight-one : (l : List Constraint) → weight_by (λ k. 1) l ≡ length l
unfolding weight_by
weight-one [] = refl
weight-one (c ∷ l) = omega (arith, weight-one l)

-- heads that match are no more than the constraints
pub match-few :
    (hs : List Constraint) (ps : List ℕ) (cs : List Constraint) (end : Assignment) → match_at hs ps cs [] unassigned ≡ some end
    → length hs ≤ length cs
match-few hs ps cs end e =
    omega (
      arith,
      match-lighter (λ k. 1) hs ps cs [] unassigned end e,
      weight-one hs,
      weight-one (without 0 [] cs),
      ap length (without-none 0 cs),
    )
