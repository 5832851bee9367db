-- Solving equations between cells is solving equations between terms.
--   settle_step      one equation, put in throughout
--   Unifier          the solution of an equation between cells
-- Assumes nothing.
use Prim.Native.Nat.{ℕ, zero, suc, ◌+◌, ◌-◌, ◌*◌, ◌≤◌, ◌<◌}
use native.Mathlib.Omega.{arith}
use native.Mathlib.Numerals.{add-one}
use mathlib.Core.Bool.{Bool, true, false, not, ◌&&◌}
use mathlib.Core.List.{List, [], ◌∷◌, map, map-map, map-id}
use mathlib.Core.Logic.{⊎_elim}
use mathlib.Core.Option
use mathlib.Core.Option.{Option, none, some}
use mathlib.Core.Path.{◌≡◌, refl, ap, sym, fun_ext, ◌∙◌}
use lib.Dec.{eqb, ltb, leb}
use lib.ListN.{length, get_or, drop, length-map, drop_of_length-le}
use lib.Seq.{drop-cons}
use borrow.Author.Tests.{eq-eqb, ne_eqb, eqb-true, eqb-false, lt-ltb, le-ltb, le-leb, lt-leb, ltb-true, leb-true}
use borrow.Author.Tests.{not-true, not-false}
use Rattle.text.specs.Lists.{bind, every}
use Rattle.semantics.specs.Terms.{Term, Constraint, Equation, failed, live, map_terms, map_sides}
use Rattle.semantics.specs.Solving.{replace, unify, solve}
use Rattle.semantics.specs.Firing.{settle}
use Rattle.tables.specs.Cells.{cell_term, cell_constraints, cell_equations, is_low, state_of}
use Rattle.engine.specs.Cells.{swap, clashes, merge}
use Rattle.engine.specs.States.{Merged, Solved}
use Rattle.text.proofs.Bools.{and-true}
use Rattle.tables.proofs.CellLaws.{either, le-or-lt, cell-low, cell-high}
use Rattle.tables.proofs.MapLaws.{Acts, anything, all-low, all-terms, all-equations, low-kept}
use Rattle.tables.proofs.MapLaws.{acts-constraints, acts-equations, acts-bound, acts-used}

-- a substitution that is put in first
pub solve-through :
    (es : List Equation) (σ τ : Term → Term)
    → solve es (λ t. τ (σ t)) ≡ Option.map (λ ρ t. ρ (σ t)) (solve (map (map_sides σ) es) τ)
unfolding solve map_sides
solve-through [] σ τ = refl
solve-through (e ∷ es) σ τ = go (unify (τ (σ e.left)) (τ (σ e.right))) (λ ρ. solve-through es σ (λ t. ρ (τ t)))
  where
    go : (u : Option (Term → Term))
        → ((ρ : Term → Term) → solve es (λ t. ρ (τ (σ t))) ≡ Option.map (λ φ t. φ (σ t)) (solve (map (map_sides σ) es) (λ t. ρ
        (τ t))))
        → bind u (λ ρ. solve es (λ t. ρ (τ (σ t))))
        ≡ Option.map (λ φ t. φ (σ t)) (bind u (λ ρ. solve (map (map_sides σ) es) (λ t. ρ (τ t))))
    go none more = refl
    go (some ρ) more = more ρ

-- the state, where the substitution is put in first
settle-through :
    (o : Option (Term → Term)) (τ : Term → Term) (next : ℕ) (bound : List Term) (cs : List Constraint)
    → settle (Option.map (λ ρ t. ρ (τ t)) o) next bound cs ≡ settle o next (map τ bound) (map (map_terms τ) cs)
unfolding settle map_terms
settle-through none τ next bound cs = refl
settle-through (some ρ) τ next bound cs =
    rw (map-map ρ τ bound, map-map (map_terms ρ) (map_terms τ) cs) (ap (live next (map (λ t. ρ (τ t)) bound)) (both cs))
  where
    both : (l : List Constraint)
        → map (map_terms (λ t. ρ (τ t))) l ≡ map (λ c. map_terms ρ (map_terms τ c)) l
    both [] = refl
    both (c ∷ l) = rw (map-map ρ τ c.terms) (ap (λ (r : List Constraint). map_terms (λ t. ρ (τ t)) c ∷ r) (both l))

-- one equation, put in throughout
pub settle_step :
    (e : Equation) (es : List Equation) (τ : Term → Term) (next : ℕ) (bound : List Term) (cs : List Constraint)
    → unify e.left e.right ≡ some τ
    → settle (solve (e ∷ es) (λ t. t)) next bound cs
    ≡ settle (solve (map (map_sides τ) es) (λ t. t)) next (map τ bound) (map (map_terms τ) cs)
unfolding solve
settle_step e es τ next bound cs u =
    rw (u, solve-through es τ (λ t. t)) (settle-through (solve (map (map_sides τ) es) (λ t. t)) τ next bound cs)

-- an equation that clashes
pub settle-clash :
    (e : Equation) (es : List Equation) (next : ℕ) (bound : List Term) (cs : List Constraint)
    → unify e.left e.right ≡ none → settle (solve (e ∷ es) (λ t. t)) next bound cs ≡ failed
unfolding solve settle
settle-clash e es next bound cs u = rw u

-- replacing a variable's cell is replacing the variable
pub swap-acts : (v t : ℕ) → 256 ≤ v → 0 < t → Acts anything (swap v t) (replace (v - 256) (cell_term t))
unfolding swap replace
swap-acts v t h k =
    record {
      low = λ x l. rw (ne_eqb x v (λ e. omega arith));
      used = λ x n. ⊎_elim (λ e. rw e (λ z. omega arith)) (λ e. rw e (λ z. n z)) (either (eqb x v));
      term = λ x g. ⊎_elim (same x) (other x) (either (eqb x v));
    }
  where
    same : (x : ℕ) → eqb x v ≡ true → cell_term (swap v t x) ≡ replace (v - 256) (cell_term t) (cell_term x)
    same x e =
        let z : x ≡ v = eqb-true x v e in
        rw (e, z, cell-high v h, eq-eqb (v - 256) (v - 256) refl)

    other : (x : ℕ) → eqb x v ≡ false → cell_term (swap v t x) ≡ replace (v - 256) (cell_term t) (cell_term x)
    other x e =
        ⊎_elim
        (λ l. rw (e, cell-high x l, ne_eqb (v - 256) (x - 256) (λ z. eqb-false x v e (omega arith))))
        (λ l. rw (e, cell-low x l))
        (le-or-lt 256 x)

-- replacing a cell by itself is nothing
pub same-acts : (a : ℕ) → Acts anything (swap a a) (λ t. t)
unfolding swap
same-acts a =
    record {
      low = λ x l. id x;
      used = λ x n z. n (sym (id x) ∙ z);
      term = λ x g. ap cell_term (id x);
    }
  where
    id : (x : ℕ) → swap a a x ≡ x
    id x = ⊎_elim (λ e. rw e (sym (eqb-true x a e))) (λ e. rw e) (either (eqb x a))

-- the solution of an equation between cells
pub record Unifier (a b : ℕ) : Type 0 where
  pub solution : Term → Term
  pub is : unify (cell_term a) (cell_term b) ≡ some solution
  pub acts : Acts anything (merge a b) solution

-- two different constants have none
pub clash-none : (a b : ℕ) → clashes a b ≡ true → unify (cell_term a) (cell_term b) ≡ none
unfolding clashes unify
clash-none a b h =
    ⊎_elim (λ e. let z : false ≡ true = rw e at h in let y : ◌≡◌ {A = ℕ} 0 1 = cc in absurd (omega arith)) other (either
    (eqb a b))
  where
    other : eqb a b ≡ false → unify (cell_term a) (cell_term b) ≡ none
    other e =
        let both : (ltb a 256 ≡ true) × (ltb b 256 ≡ true) = and-true (ltb a 256) (ltb b 256) (rw e at h) in
        rw (cell-low a (ltb-true a 256 both.0), cell-low b (ltb-true b 256 both.1), e)

-- where two cells do not clash, the larger becomes the smaller
pub merge-acts : (a b : ℕ) → 0 < a → 0 < b → clashes a b ≡ false → Unifier a b
unfolding clashes merge unify
merge-acts a b ha hb h = ⊎_elim (λ l. ⊎_elim (equal l) above (le-or-lt a b)) below (le-or-lt b a)
  where
    -- the variable v and a smaller cell t
    high : (v t : ℕ) → t < v → eqb v t ≡ false
    high v t l = ne_eqb v t (λ e. omega arith)

    above : b < a → Unifier a b
    above l =
        let k : 256 ≤ a = ⊎_elim (λ z. z)
        (λ z. let y : true ≡ false = rw (high a b l, lt-ltb a 256 z, lt-ltb b 256 (omega arith)) at h in
        let x : ◌≡◌ {A = ℕ} 0 1 = cc in absurd (omega arith))
        (le-or-lt 256 a) in
        record {
          solution = replace (a - 256) (cell_term b);
          is = ⊎_elim
              (λ z. rw (cell-high a k, cell-high b z, lt-leb (a - 256) (b - 256) (omega arith)))
              (λ z. rw (cell-high a k, cell-low b z))
              (le-or-lt 256 b);
          acts = rw (le-ltb a b (omega arith)) (swap-acts a b k hb);
        }

    below : a < b → Unifier a b
    below l =
        let k : 256 ≤ b = ⊎_elim (λ z. z)
        (λ z. let y : true ≡ false = rw (ne_eqb a b (λ e. omega arith), lt-ltb b 256 z, lt-ltb a 256 (omega arith)) at h in
        let x : ◌≡◌ {A = ℕ} 0 1 = cc in absurd (omega arith))
        (le-or-lt 256 b) in
        record {
          solution = replace (b - 256) (cell_term a);
          is = ⊎_elim
              (λ z. rw (cell-high a z, cell-high b k, le-leb (a - 256) (b - 256) (omega arith)))
              (λ z. rw (cell-low a z, cell-high b k))
              (le-or-lt 256 a);
          acts = rw (lt-ltb a b l) (swap-acts b a k ha);
        }

    equal : b ≤ a → a ≤ b → Unifier a b
    equal l m =
        let e : b ≡ a = omega arith in
        rw e (⊎_elim
        (λ z. record {
          solution = replace (a - 256) (cell_term a);
          is = rw (cell-high a z, le-leb (a - 256) (a - 256) (omega arith));
          acts = rw (le-ltb a a (omega arith)) (swap-acts a a z ha);
        })
        (λ z. record {
          solution = λ t. t;
          is = rw (cell-low a z, eq-eqb a a refl);
          acts = rw (le-ltb a a (omega arith)) (same-acts a);
        })
        (le-or-lt 256 a))

-- from nothing
no_way : {A : Type 0} → false ≡ true → A
no_way e = let z : ◌≡◌ {A = ℕ} 0 1 = cc in absurd (omega arith)

module _ (equations bound cells : List ℕ) where
  -- two different constants
  pub merged-clash : (v t : ℕ) → t < v → v < 256 → Merged false v t equations bound cells equations bound cells
  unfolding clashes
  merged-clash v t l h =
      record {
        answer = rw (ne_eqb v t (λ e. omega arith), lt-ltb v 256 h, lt-ltb t 256 (omega arith));
        in-equations = λ z. no_way z;
        in-bound = λ z. no_way z;
        in_cells = λ z. no_way z;
      }

  -- equal cells
  pub merged-same : (a b : ℕ) → a ≡ b → Merged true a b equations bound cells equations bound cells
  unfolding clashes merge swap
  merged-same a b e =
      record {
        answer = rw (eq-eqb a b e);
        in-equations = λ z. kept equations;
        in-bound = λ z. kept bound;
        in_cells = λ z. kept cells;
      }
    where
      self : (x : ℕ) → merge a b x ≡ x
      self x =
          rw (le-ltb a b (omega arith), ← e) (⊎_elim (λ y. rw y (sym (eqb-true x a y))) (λ y. rw y) (either (eqb x a)))

      kept : (l : List ℕ) → l ≡ map (merge a b) l
      kept l = sym (ap (λ (f : ℕ → ℕ). map f l) (fun_ext self) ∙ map-id l)

  module _ (equations' bound' cells' : List ℕ) where
    -- a variable and a smaller cell
    pub merged-done :
        (v t : ℕ) → t < v → 256 ≤ v → equations' ≡ map (swap v t) equations → bound' ≡ map (swap v t) bound
        → cells' ≡ map (swap v t) cells → Merged true v t equations bound cells equations' bound' cells'
    unfolding clashes merge
    merged-done v t l h e f g =
        record {
          answer = rw (ne_eqb v t (λ z. omega arith), le-ltb v 256 h);
          in-equations = λ z. rw (le-ltb v t (omega arith)) e;
          in-bound = λ z. rw (le-ltb v t (omega arith)) f;
          in_cells = λ z. rw (le-ltb v t (omega arith)) g;
        }

    -- an equation the other way round
    pub merged-turned :
        (r : Bool) (a b : ℕ) → a < b → Merged r b a equations bound cells equations' bound' cells'
        → Merged r a b equations bound cells equations' bound' cells'
    unfolding clashes merge
    merged-turned r a b l m =
        record {
          answer = m.answer ∙ rw (ne_eqb b a (λ e. omega arith), ne_eqb a b (λ e. omega arith)) (ap not (turn (ltb b 256)
              (ltb a 256)));
          in-equations = λ z. rw (lt-ltb a b l) (rw (le-ltb b a (omega arith)) at (m.in-equations z));
          in-bound = λ z. rw (lt-ltb a b l) (rw (le-ltb b a (omega arith)) at (m.in-bound z));
          in_cells = λ z. rw (lt-ltb a b l) (rw (le-ltb b a (omega arith)) at (m.in_cells z));
        }
      where
        turn : (x y : Bool) → (x && y) ≡ (y && x)
        turn true true = refl
        turn true false = refl
        turn false true = refl
        turn false false = refl

-- dropping from a map
drop-map : (f : ℕ → ℕ) (k : ℕ) (l : List ℕ) → drop k (map f l) ≡ map f (drop k l)
drop-map f zero l = refl
drop-map f (suc k) [] = refl
drop-map f (suc k) (x ∷ l) = drop-map f k l

-- the equations from number i on
drop-two :
    (l : List ℕ) (i : ℕ) → 2 * i + 2 ≤ length l → drop (2 * i) l ≡ get_or l (2 * i) 0 ∷ get_or l (2 * i + 1) 0 ∷ drop (2 * suc i) l
drop-two l i h =
    let e : suc (2 * i) ≡ 2 * i + 1 = omega arith in
    let f : suc (2 * i + 1) ≡ 2 * suc i = omega arith in
    drop-cons l (2 * i) 0 (omega arith)
    ∙ ap (λ (r : List ℕ). get_or l (2 * i) 0 ∷ r) (rw e (drop-cons l (2 * i + 1) 0 (omega arith) ∙ rw f))

-- the equations from number i on, in the state so far, give the answer for all of them
pub record Solving (equations bound cells : List ℕ) (n : ℕ) (equations' bound' cells' : List ℕ) (i : ℕ) : Type 0 where
  pub size : length equations' ≡ 2 * n
  pub used : every (leb 1) (drop (2 * i) equations') ≡ true
  pub low : every is_low (cell_constraints cells') ≡ true
  pub same :
      (next : ℕ)
      → settle (solve (cell_equations (drop (2 * i) equations')) (λ t. t)) next (map cell_term bound') (cell_constraints cells')
      ≡ settle (solve (cell_equations equations) (λ t. t)) next (map cell_term bound) (cell_constraints cells)

-- no term is replaced
pub map-none : (cs : List Constraint) → map (map_terms (λ t. t)) cs ≡ cs
unfolding map_terms
map-none [] = refl
map-none (c ∷ cs) = rw (map-id c.terms, map-none cs)

module _ (equations bound cells : List ℕ) (n : ℕ) (equations' bound' cells' : List ℕ) (i : ℕ)
    (w : Solving equations bound cells n equations' bound' cells' i) where
  -- no equation is left
  pub solving-end : n ≤ i → Solved true equations bound cells bound' cells'
  unfolding state_of settle solve cell_equations
  solving-end h =
      record {
        same = λ next.
            sym (rw (map-id (map cell_term bound'), map-none (cell_constraints cells')) refl)
            ∙ rw (drop_of_length-le equations' {i = 2 * i} (omega (arith, w.size))) at (w.same next);
      }

  module _ (l : i < n) (r : Bool) (e b c : List ℕ)
      (m : Merged r (get_or equations' (2 * i) 0) (get_or equations' (2 * i + 1) 0) equations' bound' cells' e b c) where
    abbrev x : ℕ
    x = get_or equations' (2 * i) 0

    abbrev y : ℕ
    y = get_or equations' (2 * i + 1) 0

    two : drop (2 * i) equations' ≡ x ∷ y ∷ drop (2 * suc i) equations'
    two = drop-two equations' i (omega (arith, w.size))

    -- the equation clashes
    pub solving-clash : r ≡ false → Solved false equations bound cells b c
    unfolding state_of cell_equations
    solving-clash z =
        let k : clashes x y ≡ true = not-false (clashes x y) (sym m.answer ∙ z) in
        record {
          same = λ next.
              sym (settle-clash (record { left = cell_term x; right = cell_term y }) (cell_equations (drop
              (2 * suc i) equations')) next
              (map cell_term bound') (cell_constraints cells') (clash-none x y k))
              ∙ rw two at (w.same next);
        }

    -- it is put in
    pub solving-next : r ≡ true → Solving equations bound cells n e b c (i + 1)
    unfolding cell_equations
    solving-next z = rw (add-one i) (put (merge-acts x y one.0 one.1 (not-true (clashes x y) (sym m.answer ∙ z))))
      where
        cells-used : (leb 1 x && (leb 1 y && every (leb 1) (drop (2 * suc i) equations'))) ≡ true
        cells-used = rw two at w.used

        later : (leb 1 y && every (leb 1) (drop (2 * suc i) equations')) ≡ true
        later = (and-true (leb 1 x) (leb 1 y && every (leb 1) (drop (2 * suc i) equations')) cells-used).1

        one : (0 < x) × (0 < y)
        one = (
          leb-true 1 x (and-true (leb 1 x) (leb 1 y && every (leb 1) (drop (2 * suc i) equations')) cells-used).0,
          leb-true 1 y (and-true (leb 1 y) (every (leb 1) (drop (2 * suc i) equations')) later).0,
        )

        put : Unifier x y → Solving equations bound cells n e b c (suc i)
        put u =
            let ee : e ≡ map (merge x y) equations' = m.in-equations z in
            let eb : b ≡ map (merge x y) bound' = m.in-bound z in
            let ec : c ≡ map (merge x y) cells' = m.in_cells z in
            let de : drop (2 * suc i) e ≡ map (merge x y) (drop (2 * suc i) equations') =
            rw ee (drop-map (merge x y) (2 * suc i) equations') in
            let cs : cell_constraints c ≡ map (map_terms u.solution) (cell_constraints cells') =
            rw ec (acts-constraints anything (merge x y) u.solution u.acts cells' (all-low (cell_constraints cells')
            w.low)) in
            record {
              size = rw (ee, length-map) w.size;
              used = rw de (acts-used anything (merge x y) u.solution u.acts (drop (2 * suc i) equations')
                  (and-true (leb 1 y) (every (leb 1) (drop (2 * suc i) equations')) later).1);
              low = rw (cs, low-kept u.solution (cell_constraints cells')) w.low;
              same = λ next.
                  rw (
                    de,
                    cs,
                    eb,
                    acts-equations anything (merge x y) u.solution u.acts (drop (2 * suc i) equations')
                        (all-equations (cell_equations (drop (2 * suc i) equations'))),
                    acts-bound anything (merge x y) u.solution u.acts bound' (all-terms (map cell_term bound')),
                  )
                  (sym (settle_step (record { left = cell_term x; right = cell_term y }) (cell_equations (drop
                  (2 * suc i) equations'))
                  u.solution next (map cell_term bound') (cell_constraints cells') u.is)
                  ∙ rw two at (w.same next));
            }
