-- The listing of a check: its pieces, how many bytes it has at most, and the verdict that it shows.
--   pass-is, pass-count      the line of a pass
--   rules-…, pair-…, pairs-… the line of an overlap's rules, and a line for each joined pair of heads
--   front-is, ends-…         the lines in front of the ends, and those of the ends
--   lent-…                   what numbering the second end asks and promises
--   own-…                    variables of the goal are shown by their own names
--   overlap-writable         the listing of an overlap can be counted
--   overlap-listed           it is that of the verdict on the overlap that the tables hold
--   overlap-named            and the same under namings that agree on what it holds
-- Assumes nothing.
use Rattle.std.specs.Prelude.{is_some, unwrap_or}
use Rattle.std.specs.Prelude.{Option}
use mathlib.Core.Path.{◌≡◌, refl, sym, ap, ap₂, ◌∙◌, subst}
use mathlib.Core.Bool.{Bool, true}
use mathlib.Core.List.{List, [], ◌∷◌, ◌++◌, map, append_assoc, append-nil}
use Prim.Native.Nat.{ℕ, zero, suc, ◌+◌, ◌*◌, ◌≤◌, ◌<◌, min}
use native.Mathlib.Omega.{arith}
use native.Mathlib.Numerals.{add-one}
use lib.ListN.{length, take, drop, get_or, length-append, length-take, drop_of_length-le}
use lib.Seq.{drop-cons, get_or-drop}
use Rattle.text.specs.Bytes.{ascii}
use Rattle.text.specs.Lists.{every}
use Rattle.text.specs.Fields.{decimal}
use Rattle.text.proofs.Bools.{and-true}
use Rattle.semantics.specs.Terms.{Term, con, var, Constraint, is_below}
use Rattle.semantics.specs.Strategy.{Final}
use Rattle.semantics.specs.Overlaps.{Overlap}
use Rattle.semantics.specs.Verdict.{confluent, unjoined}
use Rattle.semantics.proofs.Configurations.{also}
use Rattle.semantics.proofs.Configurations as C
use Rattle.tables.specs.Cells.{cell_constraints}
use Rattle.tables.specs.Names.{name_in}
use Rattle.tables.proofs.NameLaws.{lent-rest}
use Rattle.listing.specs.Listing.{Naming, fields_behind, line_of, term_shown, constraint_shown, constraint_lines, variable_name}
use Rattle.listing.specs.Listing.{place_name, state_listing, end_listing}
use Rattle.verdicts.specs.Verdicts.{pair_lines, verdict_listing}
use Rattle.listing.specs.Writing.{Countable, Writes, ListedAs}
use Rattle.listing.specs.Ends.{placed, numbered_end, end_bytes, Listable, EndNumbered, Writable}
use Rattle.verdicts.specs.Checks.{rules_line, front_bytes, numbered_ends, shown_bytes, final_of, Shaped, OverlapWritable}
use Rattle.verdicts.specs.Checks.{OverlapListable, ShownBy, OverlapListed}
use Rattle.verdicts.specs.declared.Shown.{Shown}
use Rattle.listing.proofs.WriteLaws.{wrote_none, wrote-is, wrote-both, count-is}
use Rattle.listing.proofs.WriteLaws.{part_from, part_back}
use Rattle.listing.proofs.NamingLaws.{uses_of, uses_only, rows_named, state-named}
use Rattle.listing.proofs.EndLaws.{end-numbered, listed-is}
use Rattle.listing.proofs.SizeLaws.{Short, Cells, machine-digits, line-few, cells-few, end-few, end-writable}

-- the line of a pass
abbrev pub pass_bytes : ℕ → List ℕ
pass_bytes n = (67 ∷ 79 ∷ 78 ∷ 70 ∷ 76 ∷ 85 ∷ 69 ∷ 78 ∷ 84 ∷ 44 ∷ []) ++ (decimal n ++ (10 ∷ []))

pub pass-is : (n : ℕ) → pass_bytes n ≡ line_of (ascii "CONFLUENT") (decimal n ∷ [])
unfolding line_of fields_behind ascii
pass-is n = refl

pub pass-count : (n : ℕ) → n < 18446744073709551616 → Countable 0 (pass_bytes n)
pass-count n h = record { few = omega (arith, machine-digits n h, length-append (decimal n) (10 ∷ [])) }

-- it is that of the verdict
pub pass-listed : (naming : Naming) (n : ℕ) → line_of (ascii "CONFLUENT") (decimal n ∷ []) ≡ verdict_listing naming (confluent n)
unfolding verdict_listing
pass-listed naming n = refl

-- the line of an overlap's rules, in pieces
pub rules-is : (naming : Naming) (first second : ℕ) {s t : List ℕ} → s ≡ naming (192 + first) → t ≡ naming (192 + second)
    → rules_line naming first second
    ≡ (85 ∷ 78 ∷ 74 ∷ 79 ∷ 73 ∷ 78 ∷ 69 ∷ 68 ∷ 44 ∷ []) ++ (s ++ ((44 ∷ []) ++ (t ++ (10 ∷ []))))
unfolding rules_line line_of fields_behind ascii
rules-is naming first second {s} {t} e f = rw (e, f)

-- the line of a head without a partner, and of one with a partner
pub pair-none : (n d : ℕ) (o : List ℕ) → d ≡ 0 → Writes (pair_lines n (d ∷ [])) 0 o o 0
unfolding pair_lines
pair-none n d o e = rw e (wrote_none o 0)

pub pair_is : (n d : ℕ) → (d ≡ 0 → ⊥)
    → pair_lines n (d ∷ []) ≡ (80 ∷ 44 ∷ []) ++ (decimal n ++ ((44 ∷ []) ++ (decimal d ++ (10 ∷ []))))
unfolding pair_lines line_of fields_behind ascii
pair_is n zero h = absurd (h refl)
pair_is n (suc d) h = append-nil (80 ∷ 44 ∷ (decimal n ++ (44 ∷ (decimal (suc d) ++ (10 ∷ [])))))

-- a line for each joined pair, one head on
pairs-step : (n d : ℕ) (ds : List ℕ) → pair_lines n (d ∷ ds) ≡ pair_lines n (d ∷ []) ++ pair_lines (suc n) ds
unfolding pair_lines
pairs-step n zero ds = refl
pairs-step n (suc d) ds = rw (append-nil (line_of (ascii "P") (decimal n ∷ decimal (suc d) ∷ [])))

abbrev pub pairs_from : List ℕ → ℕ → List ℕ
pairs_from ds i = pair_lines (suc i) (drop i ds)

pub pairs-here : (ds : List ℕ) (i : ℕ) → i < length ds
    → pairs_from ds i ≡ pair_lines (i + 1) (get_or ds i 0 ∷ []) ++ pairs_from ds (i + 1)
pairs-here ds i h = rw (drop-cons ds i 0 h, add-one i) (pairs-step (suc i) (get_or ds i 0) (drop (suc i) ds))

pub pairs-done : (ds : List ℕ) (i : ℕ) → length ds ≤ i → pairs_from ds i ≡ []
unfolding pair_lines
pairs-done ds i h = rw (drop_of_length-le ds h)

-- the lines in front of the ends, in pieces
pub front-is : (naming : Naming) (letters goal : List ℕ) (s : Shown)
    → front_bytes naming letters goal s
    ≡ rules_line naming s.first s.second
    ++ (pair_lines 1 (take s.heads s.partners)
    ++ constraint_lines (71 ∷ []) naming (placed letters s.variables) (cell_constraints goal))
unfolding front_bytes ascii
front-is naming letters goal s = refl

-- the lines of the ends; the second's part of `bounds` as it is lent
module _ (naming : Naming) (letters bounds one two : List ℕ) (s : Shown) where
  abbrev first_bytes : List ℕ
  first_bytes = numbered_end naming letters (take s.variables bounds) one s.one

  abbrev second_bytes : List ℕ
  second_bytes = numbered_end naming letters (drop s.variables bounds) two s.two

  abbrev lent_bytes : List ℕ
  lent_bytes = numbered_end naming letters (part_from s.variables bounds) two s.two

  lent_is : lent_bytes ≡ second_bytes
  lent_is = ap (λ (l : List ℕ). numbered_end naming letters l two s.two) (lent-rest bounds s.variables)

  ends_is : numbered_ends naming letters bounds one two s ≡ first_bytes ++ lent_bytes
  unfolding numbered_ends
  ends_is = ap (λ (l : List ℕ). first_bytes ++ l) (sym lent_is)

  pub lent_writable : Writable naming letters (drop s.variables bounds) two s.two
      → Writable naming letters (part_from s.variables bounds) two s.two
  lent_writable w = subst (λ (l : List ℕ). Writable naming letters l two s.two) (sym (lent-rest bounds s.variables)) w

  module _ {at : ℕ} (c : Countable at (numbered_ends naming letters bounds one two s)) {o p : List ℕ} {k : ℕ}
      (w : Writes first_bytes 0 o p k)
    where
      pub ends-room : at + k < 18446744073709551616
      ends-room = omega (arith, (count-is ends_is c).few, w.counted, length-append first_bytes lent_bytes)

      pub ends-all-room : {q r : List ℕ} {l : ℕ} → Writes lent_bytes 0 q r l → at + k + l < 18446744073709551616
      ends-all-room v = omega (arith, (count-is ends_is c).few, w.counted, v.counted, length-append first_bytes lent_bytes)

  pub ends-wrote : {o part part' : List ℕ} {at k l : ℕ} (from start : ℕ) → from ≡ min at (length o)
      → Writes first_bytes 0 (part_from from o) part k → length part ≡ length (part_from from o)
      → start ≡ min (at + k) (length (part_back from o part)) → Writes lent_bytes 0 (part_from start (part_back from o part)) part' l
      → Writes (numbered_ends naming letters bounds one two s) at o (part_back start (part_back from o part) part') (at + k + l)
  ends-wrote from start e w h f v = wrote-is (sym ends_is) (wrote-both from start e w h f v)

-- the whole listing
pub shown-is : (naming : Naming) (letters goal bounds one two : List ℕ) (s : Shown)
    → shown_bytes naming letters goal bounds one two s ≡ front_bytes naming letters goal s ++ numbered_ends naming letters bounds one two s
unfolding shown_bytes
shown-is naming letters goal bounds one two s = refl

-- numbers below m stay so in a part
few-take : (m n : ℕ) (l : List ℕ) → ((i : ℕ) → get_or l i 0 < m) → (i : ℕ) → get_or (take n l) i 0 < m
few-take m zero l h i = omega (arith, h 0)
few-take m (suc n) [] h i = omega (arith, h 0)
few-take m (suc n) (x ∷ l) h zero = h 0
few-take m (suc n) (x ∷ l) h (suc i) = few-take m n l (λ j. h (suc j)) i

few-drop : (m n : ℕ) (l : List ℕ) → ((i : ℕ) → get_or l i 0 < m) → (i : ℕ) → get_or (drop n l) i 0 < m
few-drop m n l h i = rw (get_or-drop n l i 0) (h (n + i))

-- the lines of joined pairs, and all in front of the ends
pairs-few : (n : ℕ) (ds : List ℕ) → ((i : ℕ) → get_or ds i 0 < 18446744073709551616) → n + length ds ≤ 100
    → length (pair_lines n ds) ≤ 44 * length ds
unfolding pair_lines line_of fields_behind ascii
pairs-few n [] h k = omega arith
pairs-few n (zero ∷ ds) h k = omega (arith, pairs-few (suc n) ds (λ i. h (suc i)) (omega arith))
pairs-few n (suc d ∷ ds) h k =
    let last = decimal (suc d) ++ (10 ∷ []) in
    omega (
      arith,
      length-append (decimal n ++ (44 ∷ last)) (pair_lines (suc n) ds),
      length-append (decimal n) (44 ∷ last),
      length-append (decimal (suc d)) (10 ∷ []),
      machine-digits n (omega arith),
      machine-digits (suc d) (h 0),
      pairs-few (suc n) ds (λ i. h (suc i)) (omega arith),
    )

module _ (naming : Naming) (short : (n : ℕ) → Short (naming n)) where
  rules-few : (first second : ℕ) → length (rules_line naming first second) ≤ 27
  unfolding rules_line ascii
  rules-few first second = line-few (ascii "UNJOINED") _ (also (short _) (also (short _) C.none))

  front-few : (letters goal : List ℕ) (s : Shown) → Shaped s → Cells goal
      → ((i : ℕ) → get_or s.partners i 0 < 18446744073709551616) → length (front_bytes naming letters goal s) ≤ 203 + 10 * length goal
  front-few letters goal s h c d =
      let ds = take s.heads s.partners in
      let size : length ds ≤ 4 = omega (arith, length-take s.heads s.partners, h.heads-few) in
      let pairs = pair_lines 1 ds in
      let rows = constraint_lines (71 ∷ []) naming (placed letters s.variables) (cell_constraints goal) in
      let rules = rules_line naming s.first s.second in
      rw (front-is naming letters goal s)
      (omega (
        arith,
        length-append rules (pairs ++ rows),
        length-append pairs rows,
        rules-few s.first s.second,
        pairs-few 1 ds (few-take 18446744073709551616 s.heads s.partners d) (omega arith),
        cells-few naming short letters s.variables 71 goal c,
        size,
      ))

  -- the listing of an overlap whose ends are numbered can be counted
  pub overlap-writable : (letters goal bounds one one' two two' : List ℕ) (s : Shown) → OverlapListable goal bounds one two s
      → length one' ≡ length one → length two' ≡ length two → ((i : ℕ) → get_or goal i 0 < 65536)
      → ((i : ℕ) → get_or bounds i 0 < 65536) → ((i : ℕ) → get_or one' i 0 < 65536) → ((i : ℕ) → get_or two' i 0 < 65536)
      → ((i : ℕ) → get_or s.partners i 0 < 18446744073709551616) → s.one.firings < 18446744073709551616
      → s.two.firings < 18446744073709551616 → OverlapWritable naming letters goal bounds one' two' s
  unfolding shown_bytes numbered_ends
  overlap-writable letters goal bounds one one' two two' s h e f cg cb co ct cp ko kt =
      let v = s.variables in
      let first = take v bounds in
      let second = drop v bounds in
      let firstCells : Cells first = λ i l. few-take 65536 v bounds cb i in
      let secondCells : Cells second = λ i l. few-drop 65536 v bounds cb i in
      let firstFew : is_some s.one.next ≡ true → length first + length one' ≤ 65000 =
      λ l. omega (arith, (h.first-end.live l).rows.few, e) in
      let secondFew : is_some s.two.next ≡ true → length second + length two' ≤ 65000 =
      λ l. omega (arith, (h.second-end.live l).rows.few, f) in
      let a = numbered_end naming letters first one' s.one in
      let z = numbered_end naming letters second two' s.two in
      record {
        shaped = h.shaped;
        counted =
            record {
              few =
                  omega (
                    arith,
                    length-append (front_bytes naming letters goal s) (a ++ z),
                    length-append a z,
                    front-few letters goal s h.shaped (λ i l. cg i) cp,
                    h.goal-few,
                    end-few naming short letters first one' firstCells (λ i l. co i) s.one 65000 65000 (omega arith)
                        (λ l. (omega (arith, firstFew l), omega (arith, firstFew l))) ko,
                    end-few naming short letters second two' secondCells (λ i l. ct i) s.two 65000 65000 (omega arith)
                        (λ l. (omega (arith, secondFew l), omega (arith, secondFew l))) kt,
                  );
            };
        within = h.within;
        first-end = end-writable naming short letters first one' firstCells (λ i l. co i) s.one firstFew ko;
        second-end = end-writable naming short letters second two' secondCells (λ i l. ct i) s.two secondFew kt;
      }

-- what numbering the second end asks and promises, of its part of `bounds` as it is lent
module _ (bounds : List ℕ) (v : ℕ) {alive : Bool} {cells : List ℕ} where
  pub lent-listable : {next : ℕ} → Listable alive next (drop v bounds) cells → Listable alive next (part_from v bounds) cells
  lent-listable {next} h = subst (λ (l : List ℕ). Listable alive next l cells) (sym (lent-rest bounds v)) h

  pub lent-numbered : {cells' : List ℕ} {m : ℕ} → EndNumbered alive (length (part_from v bounds)) cells cells' m
      → EndNumbered alive (length (drop v bounds)) cells cells' m
  lent-numbered {cells'} {m} h =
      subst (λ (l : List ℕ). EndNumbered alive (length l) cells cells' m) (lent-rest bounds v) h

-- variables of the goal are shown by their own names
module _ (naming : Naming) (letters : List ℕ) (n : ℕ) where
  own-term : (t : Term) → is_below n t ≡ true
      → term_shown naming (placed letters n) t ≡ term_shown naming (variable_name letters) t
  unfolding term_shown is_below placed place_name
  own-term (con c) h = refl
  own-term (var x) h = rw h

  own-terms : (ts : List Term) → every (is_below n) ts ≡ true
      → map (term_shown naming (placed letters n)) ts ≡ map (term_shown naming (variable_name letters)) ts
  own-terms [] h = refl
  own-terms (t ∷ ts) h =
      let both = and-true (is_below n t) (every (is_below n) ts) h in
      ap₂ (λ (x : List ℕ) (l : List (List ℕ)). x ∷ l) (own-term t both.0) (own-terms ts both.1)

  own-rows : (first : List ℕ) (cs : List Constraint) → every (λ c. every (is_below n) c.terms) cs ≡ true
      → constraint_lines first naming (placed letters n) cs ≡ constraint_lines first naming (variable_name letters) cs
  unfolding constraint_lines constraint_shown
  own-rows first [] h = refl
  own-rows first (c ∷ cs) h =
      let both = and-true (every (is_below n) c.terms) (every (λ d. every (is_below n) d.terms) cs) h in
      ap₂ (λ (l : List (List ℕ)) (m : List ℕ). line_of first (naming c.symbol ∷ l) ++ m) (own-terms c.terms both.0)
      (own-rows first cs both.1)

-- the listing of an overlap is that of the verdict on the overlap that the tables hold
verdict-is : (program places goal bounds one two : List ℕ) (s : Shown) (o : Overlap) → ShownBy (name_in program [] places) goal s o
    → front_bytes (name_in program [] places) [] goal s
    ++ (end_bytes program [] places [] (take s.variables bounds) one s.one
    ++ end_bytes program [] places [] (drop s.variables bounds) two s.two)
    ≡ verdict_listing (name_in program [] places)
    (unjoined o (final_of (take s.variables bounds) one s.one) (final_of (drop s.variables bounds) two s.two))
unfolding front_bytes rules_line end_bytes final_of verdict_listing
verdict-is program places goal bounds one two s o h =
    let naming = name_in program [] places in
    let rules = line_of (ascii "UNJOINED") (naming (192 + s.first) ∷ naming (192 + s.second) ∷ []) in
    let pairs = pair_lines 1 (take s.heads s.partners) in
    let cs = cell_constraints goal in
    let rows = constraint_lines (ascii "G") naming (variable_name []) cs in
    let own : every (λ c. every (is_below s.variables) c.terms) cs ≡ true =
    ap (every (λ (c : Constraint). every (is_below s.variables) c.terms)) (sym h.goal-same) ∙ h.goal-own in
    let ends =
    end_bytes program [] places [] (take s.variables bounds) one s.one
    ++ end_bytes program [] places [] (drop s.variables bounds) two s.two in
    rw (h.first-name, h.second-name, h.partners-same, h.goal-same, own-rows naming [] s.variables (ascii "G") cs own)
    (append_assoc rules (pairs ++ rows) ends ∙ ap (λ (l : List ℕ). rules ++ l) (append_assoc pairs rows ends))

pub overlap-listed : (program places goal bounds one one' two two' : List ℕ) (s : Shown) (m n : ℕ)
    {before after : List ℕ} {reply : Option ℕ} → OverlapListable goal bounds one two s
    → EndNumbered (is_some s.one.next) (length (take s.variables bounds)) one one' m
    → EndNumbered (is_some s.two.next) (length (drop s.variables bounds)) two two' n
    → ListedAs (shown_bytes (name_in program [] places) [] goal bounds one' two' s) before after reply
    → OverlapListed program places goal bounds one two s before after reply
unfolding shown_bytes numbered_ends
overlap-listed program places goal bounds one one' two two' s m n {before} {after} {reply} h a z l =
    let v = s.variables in
    let ends =
    ap₂ (λ (x y : List ℕ). front_bytes (name_in program [] places) [] goal s ++ (x ++ y))
    (end-numbered program [] places [] (take v bounds) one one' s.one m h.first-end a)
    (end-numbered program [] places [] (drop v bounds) two two' s.two n h.second-end z) in
    record { listed = λ o k. listed-is (ends ∙ verdict-is program places goal bounds one two s o k) l }

-- an unjoined overlap is listed alike
pub overlap-named :
    (known : ℕ → Bool) (one two : Naming) (o : Overlap) (e f : Final) → ((n : ℕ) → known n ≡ true → one n ≡ two n)
    → every (uses_of known) o.goal.constraints ≡ true → uses_only known e.state ≡ true → uses_only known f.state ≡ true
    → verdict_listing one (unjoined o e f) ≡ verdict_listing two (unjoined o e f)
unfolding verdict_listing end_listing
overlap-named known one two o e f same g h k =
    let variable = variable_name [] in
    let front = line_of (ascii "UNJOINED") (o.first.rule.name ∷ o.second.rule.name ∷ []) in
    let ends : (state_listing one variable e.firings e.state ++ state_listing one variable f.firings f.state)
    ≡ (state_listing two variable e.firings e.state ++ state_listing two variable f.firings f.state) =
    ap₂ (λ (a b : List ℕ). a ++ b)
    (state-named known one two variable variable e.firings e.state same (λ i l. refl) h)
    (state-named known one two variable variable f.firings f.state same (λ i l. refl) k) in
    ap₂ (λ (a b : List ℕ). front ++ (pair_lines 1 o.partners ++ (a ++ b)))
    (rows_named known one two same variable (ascii "G") o.goal.constraints g) ends
