-- The listing of a final state: its pieces, what renumbering leaves of it, and the reply.
--   live-…           the first line, the A lines and the S lines of a state whose variables are numbered
--   failed-is        the listing of a failed state
--   numbered-…       an end whose variables are numbered, live or failed
--   renumbered-is, end-numbered     numbering the variables leaves the listing as it was
--   listed-short, listed-written     the reply, and the output afterwards
-- Assumes nothing.
use Rattle.std.specs.Prelude.{is_some, unwrap_or}
use Rattle.std.specs.Prelude.{Option, None, Some}
use mathlib.Core.Path.{◌≡◌, refl, sym, ap, ap₂, ◌∙◌, subst}
use mathlib.Core.Bool.{Bool, true, false}
use mathlib.Core.List.{List, [], ◌∷◌, ◌++◌, map}
use Prim.Native.Nat.{ℕ, suc, ◌+◌, ◌≤◌, ◌<◌}
use native.Mathlib.Omega.{arith}
use borrow.Author.Tests.{lt-ltb, le-ltb}
use lib.Dec.{ltb}
use lib.ListN.{length, length-map}
use Rattle.text.specs.Bytes.{ascii}
use Rattle.text.specs.Lists.{every}
use Rattle.text.specs.Fields.{decimal}
use Rattle.semantics.specs.Terms.{Term, con, var, Constraint, map_terms, is_below}
use Rattle.semantics.specs.Overlaps.{appearing_in, numbered}
use Rattle.tables.specs.Cells.{cell_term, cell_constraints, state_of}
use Rattle.tables.specs.Names.{name_in}
use Rattle.tables.specs.Numbers.{order_of, Renumbered}
use Rattle.listing.specs.Listing.{Naming, fields_behind, line_of, term_shown, constraint_shown, constraint_lines}
use Rattle.listing.specs.Listing.{variable_name, place_name, unbound, bound_lines, state_listing, end_listing}
use Rattle.listing.specs.Writing.{laid, Countable, Writes, listed_in, listed_over, ListedAs}
use Rattle.listing.specs.Ends.{placed, live_bytes, numbered_end, end_bytes, Listable, EndNumbered}
use Rattle.listing.specs.declared.End.{End}
use Rattle.listing.proofs.WriteLaws.{wrote_then, wrote-is, count-is, count-first, count_next}
use Rattle.listing.proofs.LetterLaws.{own-place, own-order, own-numbers}

module _ (naming : Naming) (letters bound cells : List ℕ) (firings : ℕ) where
  abbrev head_bytes : List ℕ
  head_bytes = (69 ∷ 78 ∷ 68 ∷ 44 ∷ []) ++ (decimal firings ++ (10 ∷ []))

  abbrev bounds : List ℕ
  bounds = bound_lines naming (placed letters (length bound)) (variable_name letters) 0 (map cell_term bound)

  abbrev rows : List ℕ
  rows = constraint_lines (83 ∷ []) naming (placed letters (length bound)) (cell_constraints cells)

  live-is : live_bytes naming letters bound cells firings ≡ head_bytes ++ (bounds ++ rows)
  unfolding live_bytes line_of fields_behind ascii
  live-is = refl

  module _ (c : Countable 0 (live_bytes naming letters bound cells firings)) where
    pub live-head : Countable 0 head_bytes
    live-head = count-first (bounds ++ rows) (count-is live-is c)

    pub live-bounds : {o p : List ℕ} {m : ℕ} → Writes head_bytes 0 o p m → Countable m bounds
    live-bounds w = count-first rows (count_next (count-is live-is c) w)

    pub live-rows : {o p q : List ℕ} {m n : ℕ} → Writes head_bytes 0 o p m → Writes bounds m p q n → Countable n rows
    live-rows w v = count_next (count_next (count-is live-is c) w) v

  pub live-wrote : {o p q r : List ℕ} {m n end : ℕ} → Writes head_bytes 0 o p m → Writes bounds m p q n → Writes rows n q r end
      → length p ≡ length o → length q ≡ length p → Writes (live_bytes naming letters bound cells firings) 0 o r end
  live-wrote w v u k l = wrote-is (sym live-is) (wrote_then w (wrote_then v u l) k)

-- the line of a failed state
abbrev pub failed_bytes : ℕ → List ℕ
failed_bytes f = (70 ∷ 65 ∷ 73 ∷ 76 ∷ 69 ∷ 68 ∷ 44 ∷ []) ++ (decimal f ++ (10 ∷ []))

pub failed-is : (f : ℕ) → failed_bytes f ≡ line_of (ascii "FAILED") (decimal f ∷ [])
unfolding line_of fields_behind ascii
failed-is f = refl

pub failed-end : (program goal places letters bound cells : List ℕ) (e : End) → is_some e.next ≡ false
    → line_of (ascii "FAILED") (decimal e.firings ∷ []) ≡ end_bytes program goal places letters bound cells e
unfolding end_bytes end_listing state_listing state_of
failed-end program goal places letters bound cells e h = rw h

-- variables that are numbered by an order are shown as those of the order
module _ (naming : Naming) (variable : ℕ → List ℕ) (n : ℕ) (order : List ℕ) where
  abbrev here : Term → List ℕ
  here = term_shown naming (place_name variable n)

  abbrev there : Term → List ℕ
  there = term_shown naming (unbound variable n order)

  same-term : (t : Term) → here (numbered order t) ≡ there t
  unfolding term_shown numbered unbound
  same-term (con c) = refl
  same-term (var x) = refl

  same-terms : (ts : List Term) → map here (map (numbered order) ts) ≡ map there ts
  same-terms [] = refl
  same-terms (t ∷ ts) = ap₂ (λ (x : List ℕ) (l : List (List ℕ)). x ∷ l) (same-term t) (same-terms ts)

  same-bounds : (x : ℕ) (ts : List Term)
      → bound_lines naming (place_name variable n) variable x (map (numbered order) ts)
      ≡ bound_lines naming (unbound variable n order) variable x ts
  unfolding bound_lines
  same-bounds x [] = refl
  same-bounds x (t ∷ ts) =
      ap₂ (λ (f l : List ℕ). line_of (ascii "A") (variable x ∷ f ∷ []) ++ l) (same-term t) (same-bounds (suc x) ts)

  same_rows : (first : List ℕ) (cs : List Constraint)
      → constraint_lines first naming (place_name variable n) (map (map_terms (numbered order)) cs)
      ≡ constraint_lines first naming (unbound variable n order) cs
  unfolding constraint_lines constraint_shown map_terms
  same_rows first [] = refl
  same_rows first (c ∷ cs) =
      ap₂ (λ (l : List (List ℕ)) (m : List ℕ). line_of first (naming c.symbol ∷ l) ++ m) (same-terms c.terms)
      (same_rows first cs)

-- numbering the variables behind the goal's leaves the listing as it was, where each goal variable became a constant or a goal
-- variable
pub renumbered-is : (program goal places letters bound cells cells' : List ℕ) (e : End) (count : ℕ) → is_some e.next ≡ true
    → every (is_below (length bound)) (map cell_term bound) ≡ true → Renumbered (length bound) cells cells' count
    → live_bytes (name_in program goal places) letters bound cells' e.firings
    ≡ end_bytes program goal places letters bound cells e
unfolding end_bytes end_listing state_listing state_of live_bytes order_of placed appearing_in
renumbered-is program goal places letters bound cells cells' e count h own r =
    let naming = name_in program goal places in
    let variable = variable_name letters in
    let n = length bound in
    let order = order_of n cells in
    let terms = map cell_term bound in
    let same : map (numbered order) terms ≡ terms =
    own-numbers n order (λ x l. own-place n [] (cell_constraints cells) x l) terms own in
    rw (h, length-map bound cell_term, own-order n terms own, r.same)
    (ap₂ (λ (b s : List ℕ). line_of (ascii "END") (decimal e.firings ∷ []) ++ (b ++ s))
    (ap (bound_lines naming (place_name variable n) variable 0) (sym same) ∙ same-bounds naming variable n order 0 terms)
    (same_rows naming variable n order (ascii "S") (cell_constraints cells)))

-- an end whose variables are numbered: a live one, and a failed one
module _ (naming : Naming) (letters bound cells : List ℕ) (e : End) where
  pub numbered-live : is_some e.next ≡ true
      → live_bytes naming letters bound cells e.firings ≡ numbered_end naming letters bound cells e
  unfolding numbered_end
  numbered-live h = rw h

  pub numbered-failed : is_some e.next ≡ false → failed_bytes e.firings ≡ numbered_end naming letters bound cells e
  unfolding numbered_end
  numbered-failed h = rw h (failed-is e.firings)

-- nothing has to be numbered in a failed one
pub end-failed : {alive : Bool} {cells : List ℕ} {n count : ℕ} → alive ≡ false → EndNumbered alive n cells cells count
end-failed {alive} {cells} {n} {count} e =
    record { live = λ h. absurd (let w : ◌≡◌ {A = ℕ} 0 1 = cc in omega arith) }

-- an end whose variables were numbered is listed as it was before
pub end-numbered : (program goal places letters bound cells cells' : List ℕ) (e : End) (count : ℕ)
    → Listable (is_some e.next) (unwrap_or e.next 0) bound cells → EndNumbered (is_some e.next) (length bound) cells cells' count
    → numbered_end (name_in program goal places) letters bound cells' e ≡ end_bytes program goal places letters bound cells e
end-numbered program goal places letters bound cells cells' e count l n = go (is_some e.next) refl
  where
    go : (t : Bool) → is_some e.next ≡ t
        → numbered_end (name_in program goal places) letters bound cells' e
        ≡ end_bytes program goal places letters bound cells e
    go true h =
        sym (numbered-live (name_in program goal places) letters bound cells' e h)
        ∙ renumbered-is program goal places letters bound cells cells' e count h (l.live h).own (n.live h)
    go false h =
        sym (numbered-failed (name_in program goal places) letters bound cells' e h)
        ∙ (failed-is e.firings ∙ failed-end program goal places letters bound cells e h)

-- the reply where the listing does not fit, and where it does
module _ {bytes none none' o : List ℕ} {size : ℕ} (counted : Writes bytes 0 none none' size) where
  pub listed-short : length o < size → ListedAs bytes o o None
  unfolding listed_in listed_over
  listed-short h =
      let over : ltb (length o) (length bytes) ≡ true = lt-ltb (length o) (length bytes) (omega (arith, counted.counted)) in
      record { answer = rw over; output = rw over }

  pub listed-written : {p : List ℕ} {n : ℕ} → size ≤ length o → Writes bytes 0 o p n → ListedAs bytes o p (Some size)
  unfolding listed_in listed_over laid
  listed-written h w =
      let all : size ≡ length bytes = omega (arith, counted.counted) in
      let fits : ltb (length o) (length bytes) ≡ false = le-ltb (length o) (length bytes) (omega (arith, counted.counted)) in
      let zero : 0 + length bytes ≡ length bytes = omega arith in
      record {
        answer = rw (fits, all);
        output = rw fits (w.placed (omega (arith, all)) ∙ rw zero);
      }

-- the same bytes by another name
pub listed-is : {a b o p : List ℕ} {r : Option ℕ} → a ≡ b → ListedAs a o p r → ListedAs b o p r
listed-is {a} {b} {o} {p} {r} e l = subst (λ (s : List ℕ). ListedAs s o p r) e l
