-- The choice among rows of cells is the choice among rules.
--   rule-…        the search for a rule's heads
--   Choosing      the rules from i on give the choice among all of them
--   Noting        the loop of `choose`: the same, and what is known is true
-- Assumes nothing.
use Prim.Native.Nat.{ℕ, zero, suc, ◌+◌, ◌-◌, ◌*◌, ◌≤◌, ◌<◌}
use native.Mathlib.Omega.{arith}
use native.Mathlib.Numerals.{add-one}
use mathlib.Core.Bool.{Bool, true, false, cond}
use mathlib.Core.List.{List, [], ◌∷◌}
use mathlib.Core.Logic.{⊎_elim}
use mathlib.Core.Option.{none, some}
use Rattle.std.specs.Prelude.{Some, None}
use mathlib.Core.Path.{◌≡◌, refl, sym, fun_ext, ◌∙◌}
use lib.Dec.{eqb}
use lib.ListN.{length, get_or, set, take, drop, replicate, length-set, length-append, drop_of_length-le}
use lib.ListN.{get_or-append, get_or-eq_default}
use lib.Seq.{drop-cons, get_or_at, get_or-set_same, get_or-set_other}
use borrow.Author.Tests.{eqb-true, eqb-false}
use Rattle.text.specs.Lists.{or_else, tabled}
use Rattle.semantics.specs.Terms.{Constraint}
use Rattle.semantics.specs.Matching.{unassigned}
use Rattle.semantics.specs.Strategy.{find, choose_from, choose}
use Rattle.tables.specs.Cells.{cell_constraints}
use Rattle.tables.specs.Rows.{rule_of_row, rule_of, rules_of, row_of}
use Rattle.fitting.specs.Cells.{assigned}
use Rattle.fitting.specs.Positions.{found_of, Seeking, Located, Row, Table, choice_of, Chosen}
use Rattle.tallies.specs.Symbols.{Tallied}
use Rattle.fitting.specs.Known.{Barren, prefix_of, Noted, Knows, may_fit}
use Rattle.tables.proofs.CellLaws.{constraints-length}
use Rattle.tables.proofs.CellLaws.{either, le-or-lt}
use Rattle.fitting.proofs.BarrenLaws.{barren-first}
use Rattle.fitting.proofs.NotedLaws.{noted_nothing, noted-nowhere, noted-first, noted-passed, noted-impossible}
use Rattle.fitting.proofs.NotedLaws.{prefix-above}
use Rattle.semantics.proofs.Options.{none-some}

-- no cell of zeros is settled
zeros-zero : (n x : ℕ) → ◌≡◌ {A = ℕ} (get_or (replicate n 0) x 0) 0
zeros-zero zero x = refl
zeros-zero (suc n) zero = refl
zeros-zero (suc n) (suc x) = zeros-zero n x

pub zeros-unassigned : assigned (replicate 26 0) ≡ unassigned
unfolding assigned unassigned
zeros-unassigned = fun_ext (λ x. rw (zeros-zero 26 x))

-- hs are the cells of a rule's heads, and w is how many it has
module _ (row cells hs : List ℕ) (m w : ℕ) (r : Row row) (k : length cells ≡ 5 * m) (e : w ≡ get_or row 3 0)
    (size : length hs ≡ 5 * get_or row 3 0) (same : cell_constraints hs ≡ (rule_of_row [] row).heads) where
  none-placed : w - w ≡ 0
  none-placed = omega arith

  module _ (positions : List ℕ) (four : length positions ≡ 4) where
    -- what the search for a rule's heads asks
    pub rule-seeking : Seeking hs w w cells m positions (replicate 26 0)
    rule-seeking =
        record {
          heads-size = size ∙ omega arith;
          few = omega (arith, r.heads-few);
          there = omega arith;
          cells-size = k;
          chosen-size = four;
          bindings-size = refl;
          letters = rw (none-placed, same) r.heads;
        }

    -- what is known of all heads
    pub rule-barren :
        (from : ℕ) → Barren (rule_of_row [] row).heads (cell_constraints cells) [] unassigned from
        → Barren (cell_constraints (drop (5 * (w - w)) hs)) (cell_constraints cells) (take (w - w) positions)
        (assigned (replicate 26 0)) from
    rule-barren from b = rw (none-placed, zeros-unassigned, same) b

    -- what it answers
    pub rule-located :
        (f : Bool) (ps b : List ℕ)
        → Located f w ps b (find (cell_constraints (drop (5 * (w - w)) hs)) (cell_constraints cells) (take (w - w) positions)
        (assigned (replicate 26 0)))
        → Located f (get_or row 3 0) ps b (find (rule_of_row [] row).heads (cell_constraints cells) [] unassigned)
    rule-located f ps b l = rw (← e) (rw (none-placed, zeros-unassigned, same) at l)

-- the entries of a table
pub length-tabled : {A : Type 0} (f : ℕ → A) (n : ℕ) → length (tabled f n) ≡ n
length-tabled f zero = refl
length-tabled f (suc n) = length-append (tabled f n) (f n ∷ []) ∙ rw (length-tabled f n) (omega arith)

pub get_d-tabled : {A : Type 0} (f : ℕ → A) (n i : ℕ) (d : A) → i < n → get_or (tabled f n) i d ≡ f i
get_d-tabled f zero i d h = absurd (omega arith)
get_d-tabled f (suc n) i d h =
    ⊎_elim
    (λ l. let e : i ≡ n = omega arith in rw e (get_or_at (tabled f n) (f n) [] d n (length-tabled f n)))
    (λ l. get_or-append (tabled f n) (f n ∷ []) d i (omega (arith, length-tabled f n)) ∙ get_d-tabled f n i d l)
    (le-or-lt n i)

drop-tabled : {A : Type 0} (f : ℕ → A) (n i : ℕ) → i < n → drop i (tabled f n) ≡ f i ∷ drop (suc i) (tabled f n)
drop-tabled f n i h =
    drop-cons (tabled f n) i (f i) (omega (arith, length-tabled f n)) ∙ rw (get_d-tabled f n i (f i) h)

-- an entry of a table with one entry set, which may lie behind its end
noted-at :
    (known : List ℕ) (d i v : ℕ) (P : ℕ → Type 0) (j : ℕ) → P (get_or known j d) → (i ≡ j → P v) → P d
    → P (get_or (set known i v) j d)
noted-at known d i v P j old new none-there =
    ⊎_elim
    (λ t. let e : i ≡ j = eqb-true i j t in rw (← e) (⊎_elim
    (λ h. rw (get_or-eq_default (set known i v) d {n = i} (omega (arith, length-set known i v))) none-there)
    (λ h. rw (get_or-set_same known i v d h) (new e))
    (le-or-lt (length known) i)))
    (λ t. rw (get_or-set_other known i j v d (λ e. eqb-false i j t (sym e))) old)
    (either (eqb i j))

-- a table with one entry set is as long
noted-size :
    (start known known' : List ℕ) (i v : ℕ) → known' ≡ set known i v → length known ≡ length start → length known' ≡ length start
noted-size start known known' i v e s = rw e (length-set known i v) ∙ s

-- the first of some positions
first_of : (n : ℕ) (ps : List ℕ) → 1 ≤ n → 1 ≤ length ps → (qs : List ℕ) × (take n ps ≡ get_or ps 0 0 ∷ qs)
first_of zero ps h k = absurd (omega arith)
first_of (suc n) [] h k = absurd (omega arith)
first_of (suc n) (p ∷ ps) h k = (take n ps, refl)

-- heads that fit at positions fit nowhere before the first
first-barren :
    (hs cs : List Constraint) (n : ℕ) (ps b : List ℕ) (first : ℕ) → length ps ≡ 4
    → some (record { positions = take n ps; assignment = assigned b }) ≡ find hs cs [] unassigned
    → first ≡ cond (eqb n 0) 0 (get_or ps 0 0) → Barren hs cs [] unassigned first
first-barren hs cs n ps b first size found e =
    ⊎_elim (λ t. let z : first ≡ 0 = rw t at e in record { nowhere = λ h. absurd (omega arith) })
    (λ t.
    let z : first ≡ get_or ps 0 0 = rw t at e in
    let some-heads : 1 ≤ n = positive n (eqb-false n 0 t) in
    let front = first_of n ps some-heads (omega arith) in
    record {
      nowhere = λ h. rw z (barren-first hs cs unassigned (record { positions = take n ps; assignment = assigned b })
          (get_or ps 0 0) front.0 (sym found) front.1);
    })
    (either (eqb n 0))
  where
    positive : (k : ℕ) → (k ≡ 0 → ⊥) → 1 ≤ k
    positive zero h = absurd (h refl)
    positive (suc k) h = omega arith

-- a rule's row as the code lends it
abbrev pub lent_row : List ℕ → ℕ → List ℕ
lent_row rules i = take (64 * i + 64 - 64 * i) (drop (64 * i) rules)

pub row-cells : (i : ℕ) → 64 * i + 64 - 64 * i ≡ 64
row-cells i = omega arith

-- the rules from i on give the choice among all of them
pub record Choosing (rules : List ℕ) (n : ℕ) (cells : List ℕ) (i : ℕ) : Type 0 where
  pub within : i ≤ n
  pub same :
      (names : List ℕ)
      → choose_from i (drop i (rules_of names rules n)) (cell_constraints cells) ≡ choose (rules_of names rules n)
      (cell_constraints cells)

choosing-start : (rules : List ℕ) (n : ℕ) (cells : List ℕ) → Choosing rules n cells 0
unfolding choose
choosing-start rules n cells = record { within = omega arith; same = λ names. refl }

module _ (rules : List ℕ) (n : ℕ) (cells : List ℕ) (i : ℕ) (given : Table rules n) (w : Choosing rules n cells i) where
  -- no rule is left
  pub choosing-none :
      n ≤ i → (ps b : List ℕ) → length ps ≡ 4 → length b ≡ 26 → Chosen rules n cells None ps b
  unfolding choice_of rules_of choose_from
  choosing-none l ps b four letters =
      record {
        same = λ names. rw (drop_of_length-le (tabled (rule_of names rules) n) {i = i}
            (omega (arith, length-tabled (rule_of names rules) n))) at (w.same names);
        within = tt;
        fits = tt;
        positions-size = four;
        bindings-size = letters;
      }

  module _ (l : i < n) where
    -- a rule that fits nowhere is passed over
    choosing-passed :
        find (rule_of_row [] (row_of rules i)).heads (cell_constraints cells) [] unassigned ≡ none → Choosing rules n cells (i + 1)
    unfolding rules_of choose_from rule_of rule_of_row
    choosing-passed nothing =
        rw (add-one i) (record {
          within = l;
          same = λ names. rw (drop-tabled (rule_of names rules) n i l, nothing) at (w.same names);
        })

    module _ (row : List ℕ) (is : row ≡ row_of rules i) (f : Bool) (ps b : List ℕ)
        (t : Located f (get_or row 3 0) ps b (find (rule_of_row [] row).heads (cell_constraints cells) [] unassigned)) where
      answered :
          (names : List ℕ) → f ≡ true
          → found_of true (get_or (row_of rules i) 3 0) ps b ≡ find (rule_of names rules i).heads
          (cell_constraints cells) [] unassigned
      unfolding rule_of rule_of_row
      answered names z = rw (is, z) at t.same

      -- the choice, by whether the rule of number i fits
      tried :
          (names : List ℕ) → f ≡ true
          → or_else (choice_of names rules (Some i) ps b) (choose_from (suc i) (drop (suc i) (rules_of names rules n))
          (cell_constraints cells))
          ≡ choose (rules_of names rules n) (cell_constraints cells)
      unfolding choice_of rules_of choose_from
      tried names z =
          rw (answered names z) (rw (drop-tabled (rule_of names rules) n i l) at (w.same names))

      -- what `leading` asks
      pub choosing-leads : Row row × (length ps ≡ 4)
      choosing-leads = (rw (is) (given.rows i l), t.positions-size)

      -- it fits nowhere before its first position
      choosing-first :
          f ≡ true → (first : ℕ) → first ≡ cond (eqb (get_or row 3 0) 0) 0 (get_or ps 0 0)
          → Barren (rule_of_row [] (row_of rules i)).heads (cell_constraints cells) [] unassigned first
          × (find (rule_of_row [] (row_of rules i)).heads (cell_constraints cells) [] unassigned ≡ none → ⊥)
      unfolding found_of
      choosing-first z first g =
          let found = rw (is, z) at t.same in (
            first-barren (rule_of_row [] (row_of rules i)).heads (cell_constraints cells) (get_or (row_of rules i) 3 0) ps b first
                t.positions-size found (rw (is) at g),
            λ e. none-some e (sym found),
          )

      -- it does
      choosing-found : f ≡ true → Chosen rules n cells (Some i) ps b
      unfolding choice_of found_of
      choosing-found z =
          record {
            same = λ names. tried names z;
            within = l;
            fits = rw (is, z) at t.same;
            positions-size = t.positions-size;
            bindings-size = t.bindings-size;
          }

-- the loop of `choose`: the choice is among the rules from i on, and what is known is true
pub record Noting (rules : List ℕ) (n : ℕ) (start last : List ℕ) (gone : ℕ) (cells known : List ℕ) (i : ℕ) : Type 0 where
  pub choosing : Choosing rules n cells i
  pub knows : Knows rules n known last gone (cell_constraints cells)
  pub size : length known ≡ length start

pub noting-start :
    (rules : List ℕ) (n : ℕ) (start last : List ℕ) (gone : ℕ) (cells : List ℕ)
    → Knows rules n start last gone (cell_constraints cells) → Noting rules n start last gone cells start 0
noting-start rules n start last gone cells ks = record { choosing = choosing-start rules n cells; knows = ks; size = refl }

module _ (rules : List ℕ) (n : ℕ) (start last : List ℕ) (gone : ℕ) (cells known : List ℕ) (m i : ℕ) (given : Table rules n)
    (e : length cells ≡ 5 * m) (few : gone + m ≤ 6000) (w : Noting rules n start last gone cells known i) (l : i < n) where
  abbrev heads : List Constraint
  heads = (rule_of_row [] (row_of rules i)).heads

  count : length (cell_constraints cells) ≡ m
  count = constraints-length m cells e

  -- a number noted
  noting-noted :
      (v : ℕ) (known' : List ℕ) → known' ≡ set known i v → Noted heads (cell_constraints cells) last gone v
      → Knows rules n known' last gone (cell_constraints cells)
  noting-noted v known' g new =
      rw g (record {
        noted = λ j k.
            noted-at known 8192 i v (Noted (rule_of_row [] (row_of rules j)).heads (cell_constraints cells) last gone)
            j (w.knows.noted j k) (λ s. rw (← s) new) (noted_nothing _ (cell_constraints cells) last gone);
        bounded = w.knows.bounded;
      })

  module _ (v : ℕ) (z : v ≡ get_or known i 8192) where
    here : Noted heads (cell_constraints cells) last gone v
    here = rw z (w.knows.noted i l)

    -- what a first look at the rule asks
    pub noting-look : (row : List ℕ) → row ≡ row_of rules i → Row row
    noting-look row is = rw is (given.rows i l)

    -- what the search for it asks
    pub noting-row :
        (row : List ℕ) → row ≡ row_of rules i → (from : ℕ) → from ≡ prefix_of v - gone
        → Row row × (length cells ≡ 5 * m)
        × Barren (rule_of_row [] row).heads (cell_constraints cells) [] unassigned from × (from ≤ m)
    noting-row row is from g = (
      rw (is) (given.rows i l),
      e,
      rw (is, g) here.barren,
      omega (arith, here.earlier, count),
    )

    -- it was found not to fit just now
    pub noting-passed : v ≡ gone + m → Noting rules n start last gone cells known (i + 1)
    noting-passed g =
        record {
          choosing = choosing-passed rules n cells i given w.choosing l
              (noted-passed heads (cell_constraints cells) last gone v here w.knows.bounded (omega (arith, count))
              (omega arith));
          knows = w.knows;
          size = w.size;
        }

  -- it fits nowhere, which is noted
  noting-nowhere :
      find heads (cell_constraints cells) [] unassigned ≡ none → (known' : List ℕ) → known' ≡ set known i (gone + m)
      → Noting rules n start last gone cells known' (i + 1)
  noting-nowhere nothing known' g =
      record {
        choosing = choosing-passed rules n cells i given w.choosing l nothing;
        knows = noting-noted (gone + m) known' g (noted-nowhere heads (cell_constraints cells) last gone (gone + m)
            (omega (arith, count)) (omega arith) nothing);
        size = noted-size start known known' i (gone + m) g w.size;
      }

  -- a first look finds that
  pub noting-impossible :
      (row : List ℕ) → row ≡ row_of rules i → (v : ℕ) → v ≡ get_or known i 8192 → (table : List ℕ) → Tallied table (cell_constraints cells) → (r : Bool)
      → r ≡ may_fit last table v (gone + m) (rule_of_row [] row).heads → r ≡ false
      → (known' : List ℕ) → known' ≡ set known i (gone + m) → Noting rules n start last gone cells known' (i + 1)
  noting-impossible row is v z table t r g y known' k =
      noting-nowhere (noted-impossible heads (cell_constraints cells) last table gone v (gone + m) (here v z) t
      (omega (arith, count)) (sym (rw (is) at g) ∙ y)) known' k

  module _ (row : List ℕ) (is : row ≡ row_of rules i) (f : Bool) (ps b : List ℕ)
      (t : Located f (get_or row 3 0) ps b (find (rule_of_row [] row).heads (cell_constraints cells) [] unassigned)) where
    -- the search finds that
    pub noting-next :
        f ≡ false → (known' : List ℕ) → known' ≡ set known i (gone + m) → Noting rules n start last gone cells known' (i + 1)
    unfolding found_of
    noting-next z known' g = noting-nowhere (sym (rw (is, z) at t.same)) known' g

    -- it fits, and where it does first is noted
    pub noting-found :
        f ≡ true → (first : ℕ) → first ≡ cond (eqb (get_or row 3 0) 0) 0 (get_or ps 0 0) → (known' : List ℕ)
        → known' ≡ set known i (8192 + gone + first)
        → Chosen rules n cells (Some i) ps b × Knows rules n known' last gone (cell_constraints cells)
    noting-found z first h known' g =
        let k = choosing-first rules n cells i given w.choosing l row is f ps b t z first h in (
          choosing-found rules n cells i given w.choosing l row is f ps b t z,
          noting-noted (8192 + gone + first) known' g (noted-first heads (cell_constraints cells) last gone first
              (8192 + gone + first) refl k.0 k.1),
        )

    -- the first position lies among the constraints
    pub noting-room :
        f ≡ true → (first : ℕ) → first ≡ cond (eqb (get_or row 3 0) 0) 0 (get_or ps 0 0) → 8192 + gone + first ≤ 65000
    noting-room z first h =
        let k = choosing-first rules n cells i given w.choosing l row is f ps b t z first h in
        let known = noted-first heads (cell_constraints cells) last gone first (8192 + gone + first) refl k.0 k.1 in
        omega (arith, known.earlier, prefix-above (8192 + gone + first) (omega arith), count)
