-- All heads joined to their partners, and the overlap so made.
--   AllJoining, all-…        the loop over the first rule's heads
--   overlap-none, overlap-made     the answer
-- Assumes nothing.
use Prim.Native.Nat.{ℕ, suc, ◌+◌, ◌-◌, ◌*◌, ◌≤◌, ◌<◌}
use native.Mathlib.Omega.{arith}
use native.Mathlib.Numerals.{add-one}
use mathlib.Core.Bool.{Bool, true, false}
use mathlib.Core.List.{List, [], ◌∷◌, ◌++◌, map}
use mathlib.Core.Option.{some}
use mathlib.Core.Path.{◌≡◌, refl, sym, ap, subst, ◌∙◌}
use lib.Dec.{eqb}
use lib.ListN.{length, take, drop, get_or, length-map}
use lib.Seq.{length-take-le, take-suc, take-add}
use Rattle.text.specs.Lists.{every}
use Rattle.semantics.specs.Terms.{Constraint, map_terms}
use Rattle.semantics.specs.Overlaps.{apart, Numbered}
use Rattle.semantics.proofs.Options.{true-false}
use Rattle.tables.specs.Cells.{cell_constraints}
use Rattle.tables.specs.Rows.{rule_of_row}
use Rattle.overlaps.specs.Joins.{join_next, paired, goal_from}
use Rattle.overlaps.specs.Cells.{joined_of, Partner, RulePair, heads_of}
use Rattle.overlaps.specs.Overlapped.{Node, Whole, Finished, Partners, AllJoined, OverlapMade, NoOverlap}
use Rattle.overlaps.proofs.WithinLaws.{within_low, next-within, finished-fewer}
use Rattle.overlaps.proofs.PairedLaws.{paired-cut, paired-overlap, paired-clash}
use Rattle.overlaps.proofs.NodeLaws.{heads-count, node-start, node-whole, node-next, node-cut}

-- the first h heads are joined, whichever heads these are
pub record AllJoining (start : List ℕ) (m n : ℕ) (partners cells : List ℕ) (h : ℕ) : Type 0 where
  pub there : h ≤ m
  pub size : length cells ≡ length start
  pub whole : Whole cells m n partners
  pub below : Partners partners m n
  pub nodes :
      (hs gs : List Constraint) → length hs ≡ m → length gs ≡ n → Node hs gs [] start → Node hs gs (take h partners) cells

pub all_start :
    (start : List ℕ) (m n : ℕ) (partners : List ℕ) → Whole start m n partners → Partners partners m n
    → AllJoining start m n partners start 0
all_start start m n partners w b =
    record { there = omega arith; size = refl; whole = w; below = b; nodes = λ hs gs e f v. v }

module _ (start : List ℕ) (m n : ℕ) (partners cells : List ℕ) (h : ℕ) (w : AllJoining start m n partners cells h) where
  -- all are joined
  pub all_end : m ≤ h → AllJoined start m n partners true cells
  all_end l =
      let e : h ≡ m = omega (arith, w.there) in
      record {
        joins = λ t hs gs a b v. subst (λ k. Node hs gs (take k partners) cells) e (w.nodes hs gs a b v);
        clashes = λ t. true-false refl t;
        size = w.size;
      }

  module _ (l : h < m) where
    -- what joining the next head asks
    pub all-partner : Partner cells m partners h (get_or partners h 0)
    all-partner =
        record {
          low = within_low 52 (cell_constraints cells) w.whole.within;
          first = l;
          few = w.whole.first-few;
          second = omega (arith, w.whole.size, w.below.each h l);
          partners-size = w.whole.partners-size;
        }

    module _ (r : Bool) (cells' : List ℕ)
        (e : joined_of r cells' ≡ join_next m (take h partners) (get_or partners h 0) (cell_constraints cells))
        (s : length cells' ≡ length cells) where
      count : length (take h partners) ≡ h
      count = length-take-le h partners (omega (arith, w.whole.partners-size, w.whole.first-few))

      more : take (suc h) partners ≡ take h partners ++ (get_or partners h 0 ∷ [])
      more = take-suc partners h 0 (omega (arith, w.whole.partners-size, w.whole.first-few))

      -- it is joined
      pub all-next : r ≡ true → AllJoining start m n partners cells' (h + 1)
      unfolding joined_of
      all-next t =
          let f : some (cell_constraints cells') ≡ join_next m (take h partners) (get_or partners h 0) (cell_constraints cells) =
          rw t at e in
          rw (add-one h) (record {
            there = l;
            size = s ∙ w.size;
            whole = record {
              size = s ∙ w.whole.size;
              within =
                  next-within 52 m (take h partners) (get_or partners h 0) (cell_constraints cells) (cell_constraints cells')
                  w.whole.within (sym f);
              first-few = w.whole.first-few;
              second-few = w.whole.second-few;
              partners-size = w.whole.partners-size;
            };
            below = w.below;
            nodes = λ hs gs a b v.
                subst (λ l. Node hs gs l cells') (sym more)
                (node-next hs gs (take h partners) cells (w.nodes hs gs a b v) (get_or partners h 0) (omega (arith, count))
                (omega (arith, w.below.each h l)) r cells'
                (subst (λ k. joined_of r cells' ≡ join_next k (take h partners) (get_or partners h 0) (cell_constraints cells))
                (sym a) e) t s);
          })

      -- it cannot be
      pub all-cut : r ≡ false → AllJoined start m n partners false cells'
      all-cut t =
          record {
            joins = λ z. true-false z refl;
            clashes = λ z hs gs a b v.
                let q : take m partners
                ≡ (take h partners ++ (get_or partners h 0 ∷ [])) ++ take (m - suc h) (drop (suc h) partners) =
                let k : m ≡ suc h + (m - suc h) = omega arith in
                ap (λ k. take k partners) k ∙ take-add (suc h) (m - suc h) partners
                ∙ ap (◌++ take (m - suc h) (drop (suc h) partners)) more in
                ap (λ l. paired hs l gs) q
                ∙ paired-cut hs gs (take h partners ++ (get_or partners h 0 ∷ [])) (take (m - suc h) (drop (suc h) partners))
                (node-cut hs gs (take h partners) cells (w.nodes hs gs a b v) (get_or partners h 0) (omega (arith, count))
                (omega (arith, w.below.each h l)) r cells'
                (subst (λ k. joined_of r cells' ≡ join_next k (take h partners) (get_or partners h 0) (cell_constraints cells))
                (sym a) e) t);
            size = s ∙ w.size;
          }

-- two rules whose heads are laid in cells
module _ (first second start partners : List ℕ) (pair : RulePair first second start) (four : length partners ≡ 4)
    (cells : List ℕ) (size : length cells ≡ length start) (laid : cell_constraints cells ≡ heads_of first second) (m n : ℕ)
    (em : m ≡ get_or first 3 0) (en : n ≡ get_or second 3 0) where
  abbrev hs : List Constraint
  hs = (rule_of_row [] first).heads

  abbrev gs : List Constraint
  gs = map (map_terms apart) (rule_of_row [] second).heads

  node : Node hs gs [] cells
  node = node-start first second start cells pair size laid

  first_count : length hs ≡ m
  first_count = heads-count first pair.first-row ∙ sym em

  second-count : length gs ≡ n
  second-count = length-map (rule_of_row [] second).heads (map_terms apart) ∙ heads-count second pair.second-row ∙ sym en

  whole_of : (ds cells' : List ℕ) → Node hs gs ds cells' → Whole cells' m n partners
  whole_of ds cells' w =
      subst (λ k. Whole cells' k n partners) first_count
      (subst (λ k. Whole cells' (length hs) k partners) second-count (node-whole hs gs ds cells' w partners four))

  -- what joining all heads asks
  pub overlap-whole :
      Partners partners (get_or first 3 0) (get_or second 3 0) → Whole cells m n partners × Partners partners m n
  overlap-whole b = (
    whole_of [] cells node,
    subst (λ k. Partners partners k n) (sym em) (subst (λ k. Partners partners (get_or first 3 0) k) (sym en) b),
  )

  -- rules that have these heads
  of-rules :
      (i j : Numbered) → i.rule.heads ≡ hs → j.rule.heads ≡ (rule_of_row [] second).heads → (ds : List ℕ)
      → paired i.rule.heads ds (map (map_terms apart) j.rule.heads) ≡ paired hs ds gs
  of-rules i j a b ds =
      ap (λ l. paired l ds (map (map_terms apart) j.rule.heads)) a ∙ ap (λ l. paired hs ds (map (map_terms apart) l)) b

  module _ (r : Bool) (cells' : List ℕ) (all : AllJoined cells m n partners r cells') where
    -- the heads do not unify
    pub overlap-none : r ≡ false → NoOverlap first second partners
    overlap-none t =
        record {
          same = λ i j a b o.
              paired-clash i j (take (get_or first 3 0) partners) o
              (of-rules i j a b (take (get_or first 3 0) partners)
              ∙ ap (λ k. paired hs (take k partners) gs) (sym em)
              ∙ all.clashes t hs gs first_count second-count node);
        }

    module _ (t : r ≡ true) where
      joint : Node hs gs (take m partners) cells'
      joint = all.joins t hs gs first_count second-count node

      -- what making the goal asks
      pub overlap-finish : Whole cells' m n partners
      overlap-finish = whole_of (take m partners) cells' joint

      -- they do
      pub overlap-made :
          (made : List ℕ) (count variables : ℕ) → Finished cells' m n partners made count variables
          → Partners partners (get_or first 3 0) (get_or second 3 0) → OverlapMade first second partners made count variables
      overlap-made made count variables f b =
          record {
            same = λ i j a b o.
                let ds = take (get_or first 3 0) partners in
                let e : paired i.rule.heads ds (map (map_terms apart) j.rule.heads) ≡ some (cell_constraints cells') =
                of-rules i j a b ds ∙ ap (λ k. paired hs (take k partners) gs) (sym em) ∙ joint.same in
                let g : goal_from (length i.rule.heads) ds (cell_constraints cells')
                ≡ record { variables = variables; constraints = cell_constraints (take (5 * count) made) } =
                ap (λ k. goal_from k ds (cell_constraints cells')) (ap length a ∙ first_count)
                ∙ ap (λ k. goal_from m (take k partners) (cell_constraints cells')) (sym em) ∙ f.goal in
                paired-overlap i j ds (cell_constraints cells') e
                ∙ ap (λ k. some (record { first = i; second = j; partners = ds; goal = k })) g;
            few = omega (arith, f.few, overlap-finish.first-few, overlap-finish.second-few);
            within = omega (arith, f.few, em, en);
            fewer = λ z.
                let less = finished-fewer cells' m n partners made count variables overlap-finish (overlap-whole b).1 f
                (ap (λ k. every (eqb 0) (take k partners)) em ∙ z) in
                omega (arith, less, em, en);
            variables-few = f.variables-few;
            low = f.low;
          }
