-- All heads of two rules, on the way from no partner to all.
--   node-start               the heads as they are laid
--   node-partner             what joining the next head asks
--   node-next, node-cut      the next head joined, or not
--   node-whole               what making the goal asks
-- Assumes nothing.
use Prim.Native.Nat.{ℕ, ◌+◌, ◌*◌, ◌≤◌, ◌<◌}
use native.Mathlib.Omega.{arith}
use mathlib.Core.Bool.{Bool, true, false}
use mathlib.Core.List.{List, [], ◌∷◌, ◌++◌, map}
use mathlib.Core.Option.{none, some}
use mathlib.Core.Path.{◌≡◌, refl, sym, ap, ◌∙◌}
use lib.ListN.{length, take, drop, get_or, length-map, length-drop}
use lib.Seq.{length-take-le}
use borrow.Author.Tests.{lt-ltb, ltb-true}
use Rattle.text.specs.Lists.{every}
use Rattle.semantics.specs.Terms.{Term, con, var, Constraint, map_terms, is_below, alphabet}
use Rattle.semantics.specs.Overlaps.{apart}
use Rattle.text.proofs.Bools.{and-true}
use Rattle.text.proofs.ListLaws.{every-both, every_map}
use Rattle.tables.specs.Cells.{cell_constraints, is_low}
use Rattle.tables.specs.Rows.{rule_of_row}
use Rattle.tables.specs.Numbers.{is_within}
use Rattle.tables.proofs.CellLaws.{constraints-length}
use Rattle.fitting.specs.Positions.{is_lettered}
use Rattle.overlaps.specs.Joins.{join_next, paired}
use Rattle.overlaps.specs.Cells.{joined_of, Partner, RuleRow, RulePair, heads_of}
use Rattle.overlaps.specs.Overlapped.{Node, Whole}
use Rattle.overlaps.proofs.TermLaws.{replaced-none}
use Rattle.overlaps.proofs.PairedLaws.{paired-start, paired-next}
use Rattle.overlaps.proofs.WithinLaws.{within_low, next-within}

-- a rule's letters, and the second's behind them
low-letter : (t : Term) → is_below alphabet t ≡ true → is_below 52 t ≡ true
unfolding is_below alphabet
low-letter (con c) h = refl
low-letter (var x) h = lt-ltb x 52 (omega (arith, ltb-true x 26 h))

high-letter : (t : Term) → is_below alphabet t ≡ true → is_below 52 (apart t) ≡ true
unfolding is_below alphabet apart
high-letter (con c) h = refl
high-letter (var x) h = lt-ltb (26 + x) 52 (omega (arith, ltb-true x 26 h))

-- heads whose terms stay below 52
heads-within :
    (σ : Term → Term) → ((t : Term) → is_below alphabet t ≡ true → is_below 52 (σ t) ≡ true) → (cs : List Constraint)
    → every is_low cs ≡ true → every is_lettered cs ≡ true → every (is_within 52) (map (map_terms σ) cs) ≡ true
unfolding is_within is_low is_lettered map_terms
heads-within σ f [] l h = refl
heads-within σ f (c ∷ cs) l h =
    let (a, b) = and-true (is_low c) (every is_low cs) l in
    let (d, e) = and-true (every (is_below alphabet) c.terms) (every is_lettered cs) h in
    rw (a, every_map (is_below alphabet) (is_below 52) σ c.terms f d) (heads-within σ f cs b e)

first-within :
    (cs : List Constraint) → every is_low cs ≡ true → every is_lettered cs ≡ true → every (is_within 52) cs ≡ true
first-within cs l h = rw (replaced-none cs) at (heads-within (λ t. t) low-letter cs l h)

-- a rule has as many heads as its row says
pub heads-count : (row : List ℕ) → RuleRow row → length (rule_of_row [] row).heads ≡ get_or row 3 0
unfolding rule_of_row
heads-count row r =
    constraints-length (get_or row 3 0) (take (5 * get_or row 3 0) (drop 6 row))
    (length-take-le (5 * get_or row 3 0) (drop 6 row)
    (omega (arith, length-drop 6 row, r.given.size, r.given.heads-few)))

-- the heads as they are laid
pub node-start :
    (first second start cells : List ℕ) → RulePair first second start → length cells ≡ length start
    → cell_constraints cells ≡ heads_of first second
    → Node (rule_of_row [] first).heads (map (map_terms apart) (rule_of_row [] second).heads) [] cells
unfolding heads_of
node-start first second start cells r s e =
    let hs = (rule_of_row [] first).heads in
    let gs = map (map_terms apart) (rule_of_row [] second).heads in
    let m = heads-count first r.first-row in
    let n = length-map (rule_of_row [] second).heads (map_terms apart) ∙ heads-count second r.second-row in
    record {
      same = paired-start hs gs ∙ ap some (sym e);
      size = omega (arith, r.size);
      within =
          ap (every (is_within 52)) e
          ∙ every-both (is_within 52) hs gs (first-within hs r.first-row.low r.first-row.given.heads)
          (heads-within apart high-letter (rule_of_row [] second).heads r.second-row.low r.second-row.given.heads);
      first-few = omega (arith, r.first-row.given.heads-few);
      second-few = omega (arith, r.second-row.given.heads-few);
    }

module _ (hs gs : List Constraint) (ds cells : List ℕ) (w : Node hs gs ds cells) where
  -- what making the goal asks
  pub node-whole : (partners : List ℕ) → length partners ≡ 4 → Whole cells (length hs) (length gs) partners
  node-whole partners e =
      record {
        size = w.size;
        within = w.within;
        first-few = w.first-few;
        second-few = w.second-few;
        partners-size = e;
      }

  -- what joining the next head asks
  pub node-partner :
      (partners : List ℕ) (h d : ℕ) → length partners ≡ 4 → h < length hs → d ≤ length gs
      → Partner cells (length hs) partners h d
  node-partner partners h d e l k =
      record {
        low = within_low 52 (cell_constraints cells) w.within;
        first = l;
        few = w.first-few;
        second = omega (arith, w.size);
        partners-size = e;
      }

  module _ (d : ℕ) (l : length ds < length hs) (k : d ≤ length gs) (r : Bool) (cells' : List ℕ)
      (e : joined_of r cells' ≡ join_next (length hs) ds d (cell_constraints cells)) where
    -- it is joined
    pub node-next : r ≡ true → length cells' ≡ length cells → Node hs gs (ds ++ (d ∷ [])) cells'
    unfolding joined_of
    node-next t s =
        let f : some (cell_constraints cells') ≡ join_next (length hs) ds d (cell_constraints cells) = rw t at e in
        record {
          same = paired-next hs gs ds d (cell_constraints cells) w.same l k ∙ sym f;
          size = s ∙ w.size;
          within =
              next-within 52 (length hs) ds d (cell_constraints cells) (cell_constraints cells') w.within (sym f);
          first-few = w.first-few;
          second-few = w.second-few;
        }

    -- it cannot be
    pub node-cut : r ≡ false → paired hs (ds ++ (d ∷ [])) gs ≡ none
    unfolding joined_of
    node-cut t =
        let f : none ≡ join_next (length hs) ds d (cell_constraints cells) = rw t at e in
        paired-next hs gs ds d (cell_constraints cells) w.same l k ∙ sym f
