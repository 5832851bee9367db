-- The walk over the rule pairs of a table.
--   heads-…, pair-…      two rules: how many heads they have, and all pairings of these
--   Row, row-…           a rule with itself and those behind it
--   Table, table-…       all rules
--   pair-unshared        two rules without a common head symbol
-- Assumes nothing.
use Prim.Native.Nat.{ℕ, zero, suc, ◌+◌, ◌-◌, ◌*◌, ◌≤◌, ◌<◌}
use native.Mathlib.Omega.{arith}
use native.Mathlib.Numerals.{add-one}
use mathlib.Core.Bool.{Bool, false}
use mathlib.Core.List.{List, [], ◌++◌, append_assoc}
use mathlib.Core.Option.{some}
use mathlib.Core.Path.{◌≡◌, refl, sym, ap, subst, ◌∙◌}
use lib.ListN.{length, take, drop, get_or, get_elem?, replicate, length-append, length-drop}
use lib.Seq.{length-take-le, take_at}
use Rattle.std.specs.Prelude.{Result, Ok, Err}
use Rattle.text.specs.Lists.{gather}
use Rattle.text.proofs.Laws.{tabled-length}
use Rattle.semantics.specs.Terms.{Program}
use Rattle.semantics.specs.Overlaps.{Overlap, numbered_from, overlaps_of, overlaps_among, overlaps}
use Rattle.semantics.specs.Verdict.{judge}
use Rattle.tables.specs.Cells.{cell_constraints}
use Rattle.tables.specs.Rows.{rule_of_row, rule_of, rules_of, row_of}
use Rattle.overlaps.specs.Cells.{RulePair, heads_of}
use Rattle.overlaps.specs.Rests.{rest, GoesOn, StopsAt}
use Rattle.critical.specs.declared.walking.Met.{Met}
use Rattle.critical.specs.Walks.{Holds, rule_at, Checkable, PairAt, first_heads, second_heads, leaves, Walkable, Walked}
use Rattle.critical.specs.Walks.{all_rules, of_partners, of_pair, met_in, PairWalked, RowWalked, AllWalked}
use Rattle.overlaps.specs.Shares.{head_symbols, is_shared}
use Rattle.overlaps.proofs.ShareLaws.{unshared-overlaps}
use Rattle.overlaps.proofs.RestLaws.{rest_all}
use Rattle.critical.proofs.JudgeLaws.{second-next, second-end, first_next, first-end, numbered-length, numbered-rule}
use Rattle.critical.proofs.JudgeLaws.{judged-none}
use Rattle.overlaps.proofs.LayLaws.{zeros}
use Rattle.overlaps.proofs.NodeLaws.{node-start}
use Rattle.critical.proofs.StandLaws.{pair-few, first-heads}

-- at most 625 pairings of four heads
leaves-few : (m : ℕ) → m ≤ 4 → leaves m ≤ 625
unfolding leaves
leaves-few zero h = omega arith
leaves-few (suc zero) h = omega arith
leaves-few (suc (suc zero)) h = omega arith
leaves-few (suc (suc (suc zero))) h = omega arith
leaves-few (suc (suc (suc (suc zero)))) h = omega arith
leaves-few (suc (suc (suc (suc (suc m))))) h = absurd (omega arith)

-- the rows of two rules of a table, as the code has them, and how many heads these have
module _ (rules : List ℕ) (n i j : ℕ) (k : Checkable rules n) (hi : i < n) (hj : j < n) (first second : List ℕ)
    (ef : first ≡ row_of rules i) (es : second ≡ row_of rules j) (m b : ℕ) (em : m ≡ get_or first 3 0)
    (eb : b ≡ get_or second 3 0)
  where
    pub heads-first : m ≡ get_or (row_of rules i) 3 0
    heads-first = em ∙ ap (λ l. get_or l 3 0) ef

    pub heads-second : b ≡ get_or (row_of rules j) 3 0
    heads-second = eb ∙ ap (λ l. get_or l 3 0) es

    pair : PairAt rules n i j m b
    pair = record { check = k; first = hi; second = hj; first_count = heads-first; second-count = heads-second }

    pub heads-few : (m ≤ 4) × (b ≤ 4)
    heads-few = pair-few rules n i j m b pair

    pub pair-room : 5 * (m + b) ≤ 40
    pair-room = omega (arith, heads-few.0, heads-few.1)

    module _ (start : List ℕ) (forty : length start ≡ 40) where
      pub pair-lent : 5 * (m + b) ≡ length (take (5 * (m + b)) start)
      pair-lent = sym (length-take-le (5 * (m + b)) start (omega (arith, pair-room)))

      -- what laying their heads asks
      pub pair-lays : RulePair first second (take (5 * (m + b)) start)
      pair-lays =
          record {
            first-row = rw ef (k.rows i hi);
            second-row = rw es (k.rows j hj);
            size = sym pair-lent ∙ omega (arith, em, eb);
          }

      -- what the walk from no partner on asks
      pub pair-walkable :
          (laid : List ℕ) (count : ℕ) → length laid ≡ length (take (5 * (m + b)) start)
          → cell_constraints laid ≡ heads_of first second → count + 625 ≤ 1000000000
          → Walkable rules n i j m b m (replicate 4 0) (laid ++ drop (5 * (m + b)) start) count
      unfolding first_heads second_heads rule_of_row
      pair-walkable laid count s e room =
          let none : m - m ≡ 0 = omega arith in
          let node = node-start first second (take (5 * (m + b)) start) laid pair-lays s e in
          record {
            pair = pair;
            there = omega arith;
            node =
                rw (
                  none,
                  take_at laid (drop (5 * (m + b)) start) (5 * (m + b)) (s ∙ sym pair-lent),
                  ← ef,
                  ← es,
                )
                node;
            partners-size = refl;
            below = record { each = λ h l. omega (arith, zeros 4 h) };
            cells-size =
                length-append laid (drop (5 * (m + b)) start)
                ∙ omega (arith, length-drop (5 * (m + b)) start, s, pair-lent, pair-room);
            room = omega (arith, leaves-few m heads-few.0);
          }

    -- all pairings are judged
    pub pair-walked :
        (count : ℕ) (r : Result ℕ Met) → Walked rules n i j m (take (m - m) (replicate 4 0)) count r → PairWalked rules n i j count r
    pair-walked count r w = go r w
      where
        all : (p : Program) (h : Holds p rules n) → of_partners rules n i j m (take (m - m) (replicate 4 0)) p h ≡ of_pair rules n i j p h
        all p h =
            let one = rule_at h.names rules i in
            let two = rule_at h.names rules j in
            let none : m - m ≡ 0 = omega arith in
            ap (λ x. rest one two (take x (replicate 4 0)) m) none
            ∙ sym (rest_all one two ∙ ap (rest one two []) (first-heads rules n i j m b pair h.names))

        go : (r : Result ℕ Met) → Walked rules n i j m (take (m - m) (replicate 4 0)) count r → PairWalked rules n i j count r
        go (Ok after) w =
            record {
              judged = λ p h. subst (λ l. GoesOn p count l after) (all p h) (w.judged p h);
              few = omega (arith, w.few, leaves-few m heads-few.0);
            }
        go (Err met) (w, e, f) = (
          record {
            judged = λ p h. subst (λ l. StopsAt p count l (met_in rules h.names met)) (all p h) (w.judged p h);
            few = omega (arith, w.few, leaves-few m heads-few.0);
            first = w.first;
            second = w.second;
            partners-size = w.partners-size;
            below = w.below;
          },
          e,
          f,
        )

-- the rules of a program with their numbers: how many, and each
module _ (p : Program) (rules : List ℕ) (n : ℕ) (h : Holds p rules n) where
  pub all-length : length (all_rules p) ≡ n
  unfolding rules_of
  all-length =
      numbered-length 0 p.rules ∙ ap length h.same ∙ tabled-length (rule_of h.names rules) n

  pub all-at : (k : ℕ) → k < n → get_elem? (all_rules p) k ≡ some (rule_at h.names rules k)
  unfolding rules_of rule_at
  all-at k l =
      ap (λ rs. get_elem? (numbered_from 0 rs) k) h.same ∙ numbered-rule (rule_of h.names rules) n k l

-- of the overlaps of rule i with itself and those behind it, those with rule j and the later ones are left, and the count is s
pub record Row (rules : List ℕ) (n i before s j : ℕ) : Type 0 where
  pub left :
      (p : Program) (h : Holds p rules n) (more : List Overlap)
      → judge p before (gather (overlaps_of (rule_at h.names rules i)) (drop i (all_rules p)) ++ more)
      ≡ judge p s (gather (overlaps_of (rule_at h.names rules i)) (drop j (all_rules p)) ++ more)
  pub few : s + 625 * i ≤ before + 625 * j
  pub behind : i ≤ j
  pub within : j ≤ n
  pub most : n ≤ 64

pub row-start : (rules : List ℕ) (n i before : ℕ) → i < n → n ≤ 64 → Row rules n i before before i
row-start rules n i before l m =
    record { left = λ p h more. refl; few = omega arith; behind = omega arith; within = omega arith; most = m }

module _ (rules : List ℕ) (n i before s j : ℕ) (w : Row rules n i before s j) where
  -- no rule is left
  pub row-end : n ≤ j → RowWalked rules n i before (Ok s)
  row-end l =
      record {
        judged = λ p h.
            record {
              goes = λ more.
                  w.left p h more
                  ∙ ap (λ x. judge p s (x ++ more))
                  (second-end (all_rules p) j (rule_at h.names rules i) (omega (arith, all-length p rules n h)));
            };
        few = omega (arith, w.few, w.behind, w.within, w.most);
      }

  module _ (l : j < n) where
    split :
        (p : Program) (h : Holds p rules n) (more : List Overlap)
        → judge p before (gather (overlaps_of (rule_at h.names rules i)) (drop i (all_rules p)) ++ more)
        ≡ judge p s (overlaps_of (rule_at h.names rules i) (rule_at h.names rules j)
        ++ (gather (overlaps_of (rule_at h.names rules i)) (drop (suc j) (all_rules p)) ++ more))
    split p h more =
        let one = rule_at h.names rules i in
        let two = rule_at h.names rules j in
        w.left p h more
        ∙ ap (λ x. judge p s (x ++ more)) (second-next (all_rules p) j one two (all-at p rules n h j l))
        ∙ ap (judge p s) (append_assoc (overlaps_of one two) (gather (overlaps_of one) (drop (suc j) (all_rules p))) more)

    -- all overlaps with rule j join
    pub row_next : (after : ℕ) → PairWalked rules n i j s (Ok after) → Row rules n i before after (j + 1)
    row_next after g =
        rw (add-one j) (record {
          left = λ p h more.
              split p h more
              ∙ (g.judged p h).goes (gather (overlaps_of (rule_at h.names rules i)) (drop (suc j) (all_rules p)) ++ more);
          few = omega (arith, w.few, g.few);
          behind = omega (arith, w.behind);
          within = l;
          most = w.most;
        })

    -- one does not
    pub row-stop : (met : Met) → PairWalked rules n i j s (Err met) → RowWalked rules n i before (Err met)
    row-stop met (g, e, f) = (
      record {
        judged = λ p h.
            record {
              stops =
                  let (o, a, b) = (g.judged p h).stops in (
                    o,
                    a,
                    λ more.
                        split p h more
                        ∙ b (gather (overlaps_of (rule_at h.names rules i)) (drop (suc j) (all_rules p)) ++ more),
                  );
            };
        few = omega (arith, w.few, g.few, w.behind, w.within, w.most, l);
        first = g.first;
        second = g.second;
        partners-size = g.partners-size;
        below = g.below;
      },
      e,
      omega (arith, w.behind),
    )

-- the overlaps of rule i and the later first rules are left, and the count is s
pub record Table (rules : List ℕ) (n s i : ℕ) : Type 0 where
  pub left :
      (p : Program) (h : Holds p rules n) (more : List Overlap)
      → judge p 0 (overlaps p ++ more) ≡ judge p s (overlaps_among (drop i (all_rules p)) ++ more)
  pub few : s ≤ 40000 * i
  pub within : i ≤ n
  pub most : n ≤ 64

pub table-start : (rules : List ℕ) (n : ℕ) → n ≤ 64 → Table rules n 0 0
unfolding overlaps
table-start rules n m = record { left = λ p h more. refl; few = omega arith; within = omega arith; most = m }

module _ (rules : List ℕ) (n s i : ℕ) (w : Table rules n s i) where
  -- no rule is left
  pub table-end : n ≤ i → AllWalked rules n (Ok s)
  table-end l =
      record {
        judged = λ p h.
            record {
              goes = λ more.
                  w.left p h more
                  ∙ ap (λ x. judge p s (x ++ more)) (first-end (all_rules p) i (omega (arith, all-length p rules n h)));
            };
        few = omega (arith, w.few, w.within, w.most);
      }

  module _ (l : i < n) where
    parted :
        (p : Program) (h : Holds p rules n) (more : List Overlap)
        → judge p 0 (overlaps p ++ more)
        ≡ judge p s (gather (overlaps_of (rule_at h.names rules i)) (drop i (all_rules p))
        ++ (overlaps_among (drop (suc i) (all_rules p)) ++ more))
    parted p h more =
        let one = rule_at h.names rules i in
        w.left p h more
        ∙ ap (λ x. judge p s (x ++ more)) (first_next (all_rules p) i one (all-at p rules n h i l))
        ∙ ap (judge p s)
        (append_assoc (gather (overlaps_of one) (drop i (all_rules p))) (overlaps_among (drop (suc i) (all_rules p))) more)

    -- all overlaps of rule i join
    pub table-next : (after : ℕ) → RowWalked rules n i s (Ok after) → Table rules n after (i + 1)
    table-next after g =
        rw (add-one i) (record {
          left = λ p h more. parted p h more ∙ (g.judged p h).goes (overlaps_among (drop (suc i) (all_rules p)) ++ more);
          few = omega (arith, w.few, g.few);
          within = l;
          most = w.most;
        })

    -- one does not
    pub table-stop : (met : Met) → RowWalked rules n i s (Err met) → AllWalked rules n (Err met)
    table-stop met (g, e, f) = (
      record {
        judged = λ p h.
            record {
              stops =
                  let (o, a, b) = (g.judged p h).stops in
                  (o, a, λ more. parted p h more ∙ b (overlaps_among (drop (suc i) (all_rules p)) ++ more));
            };
        few = omega (arith, w.few, g.few, w.within, w.most, l);
        first = g.first;
        second = g.second;
        partners-size = g.partners-size;
        below = g.below;
      },
      omega arith,
    )

-- nothing is to be judged
pub pair-unshared :
    (rules : List ℕ) (n i j : ℕ) (first second : List ℕ) → first ≡ row_of rules i → second ≡ row_of rules j → (r : Bool)
    → r ≡ is_shared (head_symbols first) (head_symbols second) → r ≡ false → (count : ℕ)
    → PairWalked rules n i j count (Ok count)
unfolding head_symbols rule_at rule_of rule_of_row
pair-unshared rules n i j first second ef es r e t count =
    record {
      judged = λ p h.
          subst (λ l. GoesOn p count l count)
          (sym (unshared-overlaps (rule_at h.names rules i) (rule_at h.names rules j) (sym (rw (ef, es) at e) ∙ t))) (judged-none p count);
      few = omega arith;
    }
