-- Laws of bytes put into an output one piece behind the other.
--   wrote_none, wrote-byte, wrote-over      no bytes, one byte that fits, one that does not
--   wrote_then         a piece behind another
--   wrote-is           the same bytes by another name
--   wrote-behind       bytes at the front of the part of an output from a place on
--   count-first, count_next     the pieces of bytes that can be counted
--   Writing, writing-…  a loop that writes: what is written so far, and what is left
-- Assumes nothing.
use mathlib.Core.Path.{◌≡◌, refl, sym, ap, ◌∙◌, subst}
use mathlib.Core.List.{List, [], ◌∷◌, ◌++◌, append_assoc, append-nil}
use Prim.Native.Nat.{ℕ, suc, ◌+◌, ◌-◌, ◌≤◌, ◌<◌, min}
use native.Mathlib.Omega.{arith}
use native.Mathlib.Numerals.{add-one}
use lib.ListN.{length, take, drop, get_or, set, length-append, length-drop, length-take, take-append-drop, drop_of_length-le}
use lib.Seq.{take_at, drop_at, set_at, drop-cons, drop-drop, take_all, length-take-le}
use Rattle.listing.specs.Writing.{laid, Countable, Writes}

-- no bytes change nothing
laid_none : (at : ℕ) (o : List ℕ) → o ≡ laid at [] o
unfolding laid
laid_none at o = let e : at + 0 ≡ at = omega arith in rw e (sym (take-append-drop at o))

-- bytes laid behind bytes
laid_then : (a b o : List ℕ) (at : ℕ) → at + length a ≤ length o → laid (at + length a) b (laid at a o) ≡ laid at (a ++ b) o
unfolding laid
laid_then a b o at h =
    let front = take at o in
    let rest = drop (at + length a) o in
    let size : length front ≡ at = length-take-le at o (omega arith) in
    let both : length (front ++ a) ≡ at + length a = omega (arith, length-append front a, size) in
    let cut : front ++ (a ++ rest) ≡ (front ++ a) ++ rest = sym (append_assoc front a rest) in
    let first : take (at + length a) (front ++ (a ++ rest)) ≡ front ++ a =
    rw cut (take_at (front ++ a) rest (at + length a) both) in
    let last : drop (at + length a + length b) (front ++ (a ++ rest)) ≡ drop (at + length a + length b) o =
    sym (drop-drop (length b) (at + length a) (front ++ (a ++ rest)))
    ∙ rw (cut, drop_at (front ++ a) rest (at + length a) both) (drop-drop (length b) (at + length a) o) in
    let sum : at + length (a ++ b) ≡ at + length a + length b = omega (arith, length-append a b) in
    rw (first, last, sum)
    (append_assoc front a (b ++ drop (at + length a + length b) o)
    ∙ ap (λ (l : List ℕ). front ++ l) (sym (append_assoc a b (drop (at + length a + length b) o))))

-- no bytes
pub wrote_none : (o : List ℕ) (at : ℕ) → Writes [] at o o at
wrote_none o at = record { counted = omega arith; placed = λ h. laid_none at o }

-- one byte that fits
laid-byte : (o : List ℕ) (at b : ℕ) → at < length o → set o at b ≡ laid at (b ∷ []) o
unfolding laid
laid-byte o at b h =
    let size : length (take at o) ≡ at = length-take-le at o (omega arith) in
    let whole : o ≡ take at o ++ (get_or o at 0 ∷ drop (suc at) o) =
    sym (take-append-drop at o) ∙ ap (λ (l : List ℕ). take at o ++ l) (drop-cons o at 0 h) in
    rw (add-one at)
    (ap (λ (l : List ℕ). set l at b) whole ∙ set_at (take at o) (get_or o at 0) (drop (suc at) o) b at size)

pub wrote-byte : (o : List ℕ) (at b : ℕ) → at < length o → Writes (b ∷ []) at o (set o at b) (at + 1)
wrote-byte o at b h = record { counted = refl; placed = λ k. laid-byte o at b h }

-- one that does not
pub wrote-over : (o : List ℕ) (at b : ℕ) → length o ≤ at → Writes (b ∷ []) at o o (at + 1)
wrote-over o at b h = record { counted = refl; placed = λ k. absurd (omega arith) }

-- bytes that fit, and bytes that do not
pub wrote-part : {bytes o now : List ℕ} (at end : ℕ) → end ≡ at + length bytes → now ≡ bytes
    → Writes bytes at o (take at o ++ (now ++ drop (end - at) (drop at o))) end
unfolding laid
wrote-part {bytes} {o} {now} at end k e =
    let size : end - at ≡ length bytes = omega arith in
    record { counted = k; placed = λ h. rw (e, size, drop-drop (length bytes) at o) }

pub wrote-past : (bytes o : List ℕ) (at end : ℕ) → end ≡ at + length bytes → length o < end → Writes bytes at o o end
wrote-past bytes o at end k h = record { counted = k; placed = λ l. absurd (omega arith) }

-- a piece behind another
pub wrote_then : {a b o p q : List ℕ} {at m n : ℕ} → Writes a at o p m → Writes b m p q n → length p ≡ length o
    → Writes (a ++ b) at o q n
wrote_then {a} {b} {o} {p} {q} {at} {m} {n} w v e =
    record {
      counted = omega (arith, w.counted, v.counted, length-append a b);
      placed = λ h.
          let room : at + length a ≤ length o = omega (arith, length-append a b) in
          let next : m + length b ≤ length p = omega (arith, w.counted, length-append a b) in
          let here : m ≡ at + length a = w.counted in
          v.placed next ∙ rw (here, w.placed room) (laid_then a b o at room);
    }

-- the same bytes by another name
pub wrote-is : {a b o p : List ℕ} {at n : ℕ} → a ≡ b → Writes a at o p n → Writes b at o p n
wrote-is {a} {b} {o} {p} {at} {n} e w = subst (λ (l : List ℕ). Writes l at o p n) e w

-- the part of an output from a place on, and the output once the part is back
abbrev pub part_from : ℕ → List ℕ → List ℕ
part_from from o = take (length o - from) (drop from o)

abbrev pub part_back : ℕ → List ℕ → List ℕ → List ℕ
part_back from o part = take from o ++ (part ++ drop (length o - from) (drop from o))

laid-behind : (bytes o part : List ℕ) (end from : ℕ) → from ≡ min end (length o) → end + length bytes ≤ length o
    → part ≡ laid 0 bytes (part_from from o) → part_back from o part ≡ laid end bytes o
unfolding laid
laid-behind bytes o part end from e h p =
    let here : from ≡ end = omega arith in
    let short : length (drop from o) ≤ length o - from = omega (arith, length-drop from o) in
    let none : drop (length o - from) (drop from o) ≡ [] = drop_of_length-le (drop from o) short in
    let all : part_from from o ≡ drop from o =
    take_all (length o - from) (drop from o) (omega (arith, length-drop from o)) in
    let zero : 0 + length bytes ≡ length bytes = omega arith in
    let cut : part ≡ bytes ++ drop (length bytes) (drop from o) = p ∙ rw (all, zero) in
    rw (none, append-nil part, cut, drop-drop (length bytes) from o, here)

-- bytes at the front of the part of an output from a place on; where the output does not reach there the part is empty
pub wrote-behind : {bytes o part : List ℕ} {end k : ℕ} (from : ℕ) → from ≡ min end (length o)
    → Writes bytes 0 (part_from from o) part k → Writes bytes end o (part_back from o part) (end + k)
wrote-behind {bytes} {o} {part} {end} {k} from e w =
    record {
      counted = omega (arith, w.counted);
      placed = λ h.
          laid-behind bytes o part end from e h
          (w.placed (omega (arith, length-take (length o - from) (drop from o), length-drop from o)));
    }

-- a part that is as long as it was leaves the output as long as it was
pub size-behind : (from : ℕ) (o part : List ℕ) → length part ≡ length (part_from from o)
    → length (part_back from o part) ≡ length o
size-behind from o part h =
    omega (
      arith,
      h,
      length-take (length o - from) (drop from o),
      length-drop from o,
      length-append (take from o) (part ++ drop (length o - from) (drop from o)),
      length-append part (drop (length o - from) (drop from o)),
      length-drop (length o - from) (drop from o),
      length-take from o,
    )

-- lines behind a place, and lines behind those
pub wrote-both : {a b o part part' : List ℕ} {at k l : ℕ} (from start : ℕ) → from ≡ min at (length o)
    → Writes a 0 (part_from from o) part k → length part ≡ length (part_from from o)
    → start ≡ min (at + k) (length (part_back from o part)) → Writes b 0 (part_from start (part_back from o part)) part' l
    → Writes (a ++ b) at o (part_back start (part_back from o part) part') (at + k + l)
wrote-both {a} {b} {o} {part} {part'} {at} {k} {l} from start e w h f v =
    wrote_then (wrote-behind from e w) (wrote-behind start f v) (size-behind from o part h)

-- the pieces of bytes that can be counted
pub count-front : {bytes : List ℕ} {end : ℕ} → Countable end bytes → Countable 0 bytes
count-front {bytes} {end} c = record { few = omega (arith, c.few) }

pub count-is : {a b : List ℕ} {at : ℕ} → a ≡ b → Countable at a → Countable at b
count-is {a} {b} {at} e c = subst (λ (l : List ℕ). Countable at l) e c

pub count-first : {a : List ℕ} {at : ℕ} (b : List ℕ) → Countable at (a ++ b) → Countable at a
count-first {a} {at} b c = record { few = omega (arith, c.few, length-append a b) }

pub count_next : {a b o p : List ℕ} {at m : ℕ} → Countable at (a ++ b) → Writes a at o p m → Countable m b
count_next {a} {b} {o} {p} {at} {m} c w = record { few = omega (arith, c.few, w.counted, length-append a b) }

-- of the bytes of a whole some are written from a place on, and the rest is left
pub record Writing (whole : List ℕ) (at : ℕ) (before now : List ℕ) (end : ℕ) (left : List ℕ) : Type 0 where
  pub done : List ℕ
  pub split : done ++ left ≡ whole
  pub wrote : Writes done at before now end
  pub size : length now ≡ length before

pub writing_start : (whole : List ℕ) (at : ℕ) (o : List ℕ) → Writing whole at o o at whole
writing_start whole at o = record { done = []; split = refl; wrote = wrote_none o at; size = refl }

-- what is left can be counted
pub writing-count : {whole o p left : List ℕ} {at end : ℕ} → Countable at whole → Writing whole at o p end left
    → Countable end left
writing-count {whole} {o} {p} {left} {at} {end} c w = count_next (count-is (sym w.split) c) w.wrote

-- and so can its first piece; the place behind it is one of the machine's numbers
pub writing-first : {whole o p left s : List ℕ} {at end : ℕ} (rest : List ℕ) → left ≡ s ++ rest → Countable at whole
    → Writing whole at o p end left → Countable end s
writing-first rest e c w = count-first rest (count-is e (writing-count c w))

pub writing-room : {whole o p left s x y : List ℕ} {at end k : ℕ} (rest : List ℕ) → left ≡ s ++ rest → Countable at whole
    → Writing whole at o p end left → Writes s 0 x y k → end + k < 18446744073709551616
writing-room {s = s} rest e c w v = omega (arith, (writing-first {s = s} rest e c w).few, v.counted)

-- one piece more
pub writing-next : {whole o p q left s : List ℕ} {at end more : ℕ} (rest : List ℕ) → left ≡ s ++ rest
    → Writing whole at o p end left → Writes s end p q more → length q ≡ length p → Writing whole at o q more rest
writing-next {whole} {o} {p} {q} {left} {s} {at} {end} {more} rest e w v k =
    record {
      done = w.done ++ s;
      split = append_assoc w.done s rest ∙ ap (λ (l : List ℕ). w.done ++ l) (sym e) ∙ w.split;
      wrote = wrote_then w.wrote v w.size;
      size = k ∙ w.size;
    }

-- one line more, written at the front of the part behind those before it
pub writing-line : {whole o p part left s : List ℕ} {at end k : ℕ} (from : ℕ) (rest : List ℕ) → left ≡ s ++ rest
    → Writing whole at o p end left → from ≡ min end (length p) → Writes s 0 (part_from from p) part k
    → length part ≡ length (part_from from p) → Writing whole at o (part_back from p part) (end + k) rest
writing-line {whole} {o} {p} {part} {left} {s} {at} {end} {k} from rest e w b v l =
    writing-next rest e w (wrote-behind from b v) (size-behind from p part l)

-- nothing is left
pub writing-end : {whole o p left : List ℕ} {at end : ℕ} → Writing whole at o p end left → left ≡ [] → Writes whole at o p end
writing-end {whole} {o} {p} {left} {at} {end} w e =
    wrote-is (sym (append-nil w.done) ∙ ap (λ (l : List ℕ). w.done ++ l) (sym e) ∙ w.split) w.wrote

-- the last piece
pub writing-last : {whole o p q left : List ℕ} {at end more : ℕ} → Writing whole at o p end left → Writes left end p q more
    → Writes whole at o q more
writing-last {whole} {o} {p} {q} {left} {at} {end} {more} w v = wrote-is w.split (wrote_then w.wrote v w.size)
