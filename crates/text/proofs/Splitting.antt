-- Laws of a line that is split field by field: what is known of it before each field, and what its end or a fault says.
--   before-append, line-append        bytes in front of a text, no line feed among them
--   fields-comma, fields-last         the fields of a line, from a field without a comma on
--   faulty-..                         number 2, by where the split stops
--   Walk, walk-..                     the fields so far, one field on, the line's end, a fault
-- Assumes nothing.
use mathlib.Core.Path.{◌≡◌, refl, sym, ap, ◌∙◌}
use mathlib.Core.Bool.{Bool, true, false, not, ◌||◌}
use mathlib.Core.List.{List, [], ◌∷◌, ◌++◌, map, append-nil}
use Prim.Native.Nat.{ℕ, zero, suc, ◌+◌, ◌-◌, ◌≤◌, ◌<◌, min}
use native.Mathlib.Nat.{not-suc-le-zero, sub_self}
use native.Mathlib.Decide.{dec_lt, ℕ_discrete}
use native.Mathlib.Numerals.{add-one}
use native.Mathlib.Omega.{arith}
use borrow.Author.Tests.{eq-eqb, ne_eqb, eqb-false, lt-ltb, le-ltb}
use lib.Dec.{ltb, eqb}
use lib.ListN.{length, take, drop, get_or, set, length-append, length-take, length-drop, length-set, get_or-map}
use lib.ListN.{replicate, take-append-drop, length-map}
use lib.Seq.{split_at, get_or-drop, get_or-take, drop-drop, take-add, take-append-add, take-append_seam, ext_get_or}
use lib.Seq.{get_or-set_same, get_or-set_other}
use Rattle.text.specs.declared.table.Class.{Class}
use Rattle.text.specs.declared.table.Class.TheVariants.{Small, Capital, Digit, Comma, LineFeed, Other}
use Rattle.text.specs.Bytes.{between, class_of, class_number}
use Rattle.text.specs.Lists.{every}
use Rattle.text.specs.Lines.{Line, line_is_faulty, is_other}
use Rattle.text.specs.Fields.{in_first_field, fields, is_name, is_variable}
use Rattle.text.specs.Keys.{key_of, word_length, word}
use Rattle.text.specs.Cursors.{before}
use Rattle.text.specs.Splits.{first_line, line_from, line_end, is_plain, part, Stopped, SplitAt}
use Rattle.text.specs.declared.fields.Field.{Field}
use Rattle.text.proofs.ClassLaws.{is_inner, plain-inner, inner-comma, inner-not-feed, inner-not-other, plain-not}
use Rattle.text.proofs.ClassLaws.{class-comma, class-feed, class-other}
use Rattle.text.proofs.Bools.{never, and-true, or-true}
use Rattle.text.proofs.Passing.{part-suc}
use Rattle.text.proofs.Laws.{every_append}
use Rattle.text.proofs.ListLaws.{every-weaker}
use Rattle.text.proofs.LineLaws.{before-is, before-not, fields-is, fields-not}

-- bytes in front of a text, no line feed among them
pub before-append : (p r : List ℕ) → every is_inner p ≡ true → before 10 (p ++ r) ≡ length p + before 10 r
before-append [] r h = omega arith
before-append (b ∷ p) r h =
    let both = and-true (is_inner b) (every is_inner p) h in
    omega (arith, before-not 10 b (p ++ r) (inner-not-feed b both.0), before-append p r both.1)

abbrev bytes : List ℕ → List ℕ
bytes t = (first_line t).bytes

pub line-append : (p r : List ℕ) → every is_inner p ≡ true → bytes (p ++ r) ≡ p ++ bytes r
unfolding first_line
line-append p r h = rw (before-append p r h) (take-append-add p r (before 10 r))

pub line-feed : (b : ℕ) (r : List ℕ) → b ≡ 10 → bytes (b ∷ r) ≡ []
unfolding first_line
line-feed b r e = rw (before-is 10 b r e)

pub line_on : (b : ℕ) (r : List ℕ) → (b ≡ 10 → ⊥) → bytes (b ∷ r) ≡ b ∷ bytes r
unfolding first_line
line_on b r e = rw (before-not 10 b r e)

-- the fields of a line, from a field without a comma on
plain-no-comma : (b : ℕ) → is_plain b ≡ true → b ≡ 44 → ⊥
unfolding is_plain class_of class_number between
plain-no-comma b h = plain-not b 44 refl h

pub fields-last : (f : List ℕ) → every is_plain f ≡ true → fields f ≡ f ∷ []
unfolding fields in_first_field
fields-last [] h = refl
fields-last (b ∷ f) h =
    let both = and-true (is_plain b) (every is_plain f) h in
    fields-not b f (plain-no-comma b both.0) ∙ ap (in_first_field b) (fields-last f both.1)

pub fields-comma : (f r : List ℕ) → every is_plain f ≡ true → fields (f ++ (44 ∷ r)) ≡ f ∷ fields r
unfolding fields in_first_field
fields-comma [] r h = fields-is 44 r refl
fields-comma (b ∷ f) r h =
    let both = and-true (is_plain b) (every is_plain f) h in
    fields-not b (f ++ (44 ∷ r)) (plain-no-comma b both.0) ∙ ap (in_first_field b) (fields-comma f r both.1)

abbrev inner : (f : List ℕ) → every is_plain f ≡ true → every is_inner f ≡ true
inner f h = every-weaker is_plain is_inner f plain-inner h

pub line-fields-comma : (f : List ℕ) (b : ℕ) (r : List ℕ) → every is_plain f ≡ true → b ≡ 44
    → fields (bytes (f ++ (b ∷ r))) ≡ f ∷ fields (bytes r)
line-fields-comma f b r h e =
    ap fields (line-append f (b ∷ r) (inner f h) ∙ ap (λ (l : List ℕ). f ++ l) (line_on b r (λ k. omega arith) ∙ rw e))
    ∙ fields-comma f (bytes r) h

pub line-fields-last : (f : List ℕ) (b : ℕ) (r : List ℕ) → every is_plain f ≡ true → b ≡ 10
    → fields (bytes (f ++ (b ∷ r))) ≡ f ∷ []
line-fields-last f b r h e =
    ap fields (line-append f (b ∷ r) (inner f h) ∙ ap (λ (l : List ℕ). f ++ l) (line-feed b r e) ∙ append-nil f)
    ∙ fields-last f h

-- the word at a place, from a field on
plain-no-feed : (b : ℕ) → is_plain b ≡ true → b ≡ 10 → ⊥
plain-no-feed b h = inner-not-feed b (plain-inner b h)

word-length : (f : List ℕ) (b : ℕ) (r : List ℕ) → every is_plain f ≡ true → (eqb b 44 || eqb b 10) ≡ true
    → word_length (f ++ (b ∷ r)) ≡ length f
unfolding word_length
word-length [] b r h e = rw e
word-length (c ∷ f) b r h e =
    let both = and-true (is_plain c) (every is_plain f) h in
    rw (ne_eqb c 44 (plain-no-comma c both.0), ne_eqb c 10 (plain-no-feed c both.0))
    (ap suc (word-length f b r both.1 e))

-- a text from one place on, cut at another
pub cut_at : (s : List ℕ) (start e : ℕ) → start ≤ e → e < length s
    → drop start s ≡ part s start e ++ (get_or s e 0 ∷ drop (suc e) s)
cut_at s start e h k =
    let place : start + (e - start) ≡ e = omega arith in
    let next : start + suc (e - start) ≡ suc e = omega arith in
    split_at (drop start s) (e - start) 0 (omega (arith, length-drop start s))
    ∙ rw (get_or-drop start s (e - start) 0, place, drop-drop (suc (e - start)) start s, next)

pub cut-behind : (s : List ℕ) (start e : ℕ) → start ≤ e → drop start s ≡ part s start e ++ drop e s
cut-behind s start e h =
    let place : start + (e - start) ≡ e = omega arith in
    sym (take-append-drop (e - start) (drop start s)) ∙ rw (drop-drop (e - start) start s, place)

pub part_join : (s : List ℕ) (at start e : ℕ) → at ≤ start → start ≤ e → part s at e ≡ part s at start ++ part s start e
part_join s at start e h k =
    let whole : e - at ≡ (start - at) + (e - start) = omega arith in
    let place : at + (start - at) ≡ start = omega arith in
    rw (whole, take-add (start - at) (e - start) (drop at s), drop-drop (start - at) at s, place)

pub part_length : (s : List ℕ) (at e : ℕ) → e ≤ length s → length (part s at e) ≡ e - at
part_length s at e h = omega (arith, length-take (e - at) (drop at s), length-drop at s)

-- a class by its number: what no letter or digit has, the comma's where it is neither of the others
class-feed-number : (k : Class) → k ≡ LineFeed → class_number k ≡ 4
unfolding class_number
class-feed-number k e = rw e

class-other-number : (k : Class) → k ≡ Other → 4 < class_number k
unfolding class_number
class-other-number k e = rw e (omega arith)

comma-left : (k : Class) → 2 < class_number k → (k ≡ Other → ⊥) → (k ≡ LineFeed → ⊥) → class_number k ≡ 3
unfolding class_number
comma-left Small h e f = omega arith
comma-left Capital h e f = omega arith
comma-left Digit h e f = omega arith
comma-left Comma h e f = refl
comma-left LineFeed h e f = absurd (f refl)
comma-left Other h e f = absurd (e refl)

-- number 2, by where the split stops
abbrev fine : ℕ → Bool
fine b = not (is_other b)

any-true : (a b c : Bool) → (a || b || c || true) ≡ true
any-true true b c = refl
any-true false true c = refl
any-true false false true = refl
any-true false false false = refl

faulty-byte : (l : Line) → every fine l.bytes ≡ false → line_is_faulty l ≡ true
unfolding line_is_faulty
faulty-byte l e = rw e (any-true (eqb (length l.bytes) 0) (ltb 80 (length l.bytes)) (not l.ended))

inner-fine : (b : ℕ) → is_inner b ≡ true → fine b ≡ true
inner-fine b h = rw (inner-not-other b h)

faulty-sized : (l : Line) → 80 < length l.bytes → line_is_faulty l ≡ true
unfolding line_is_faulty
faulty-sized l h = rw (ne_eqb (length l.bytes) 0 (λ e. omega arith), lt-ltb 80 (length l.bytes) h)

faulty-last : (l : Line) → l.ended ≡ false → line_is_faulty l ≡ true
unfolding line_is_faulty
faulty-last l e = rw e (go (eqb (length l.bytes) 0) (ltb 80 (length l.bytes)))
  where
    go : (a b : Bool) → (a || b || true || not (every fine l.bytes)) ≡ true
    go true b = refl
    go false true = refl
    go false false = refl

faulty-none : (l : Line) → l.ended ≡ true → length l.bytes ≤ 80 → every fine l.bytes ≡ true
    → line_is_faulty l ≡ eqb (length l.bytes) 0
unfolding line_is_faulty
faulty-none l e h f = rw (e, le-ltb 80 (length l.bytes) h, f) (go (eqb (length l.bytes) 0))
  where
    go : (a : Bool) → (a || false || false || false) ≡ a
    go true = refl
    go false = refl

module _ (p : List ℕ) (h : every is_inner p ≡ true) where
  pub faulty-at : (b : ℕ) (r : List ℕ) → is_other b ≡ true → (b ≡ 10 → ⊥) → line_is_faulty (first_line (p ++ (b ∷ r))) ≡ true
  faulty-at b r e k =
      faulty-byte (first_line (p ++ (b ∷ r)))
      (ap (every fine) (line-append p (b ∷ r) h ∙ ap (λ (l : List ℕ). p ++ l) (line_on b r k))
      ∙ every_append fine p (b ∷ bytes r) ∙ rw (every-weaker is_inner fine p inner-fine h, e))

  pub faulty-long : (r : List ℕ) → 80 < length p → line_is_faulty (first_line (p ++ r)) ≡ true
  faulty-long r k =
      faulty-sized (first_line (p ++ r)) (omega (arith, ap length (line-append p r h), length-append p (bytes r)))

  pub faulty-open : (r : List ℕ) → length r ≡ 0 → line_is_faulty (first_line (p ++ r)) ≡ true
  unfolding first_line before
  faulty-open [] k =
      faulty-last (first_line (p ++ [])) (le-ltb (before 10 (p ++ [])) (length (p ++ []))
      (omega (arith, before-append p [] h, length-append p [])))
  faulty-open (b ∷ r) k = absurd (omega arith)

  pub line-is : (b : ℕ) (r : List ℕ) → b ≡ 10 → bytes (p ++ (b ∷ r)) ≡ p
  line-is b r e = line-append p (b ∷ r) h ∙ ap (λ (l : List ℕ). p ++ l) (line-feed b r e) ∙ append-nil p

  pub before-is-here : (b : ℕ) (r : List ℕ) → b ≡ 10 → before 10 (p ++ (b ∷ r)) ≡ length p
  before-is-here b r e = omega (arith, before-append p (b ∷ r) h, before-is 10 b r e)

  pub faulty-feed : (b : ℕ) (r : List ℕ) → b ≡ 10 → length p ≤ 80
      → line_is_faulty (first_line (p ++ (b ∷ r))) ≡ eqb (length p) 0
  unfolding first_line
  faulty-feed b r e k =
      faulty-none (first_line (p ++ (b ∷ r)))
      (lt-ltb (before 10 (p ++ (b ∷ r))) (length (p ++ (b ∷ r))) (omega (arith, before-is-here b r e, length-append p (b ∷ r))))
      (omega (arith, ap length (line-is b r e)))
      (ap (every fine) (line-is b r e) ∙ every-weaker is_inner fine p inner-fine h)
      ∙ ap (λ (l : List ℕ). eqb (length l) 0) (line-is b r e)

-- numbers noted in a table: what holds of each, one more on
noted : (Φ : ℕ → ℕ → Type 0) (l : List ℕ) (n v : ℕ) → length l ≡ 8 → ((i : ℕ) → i < n → i < 8 → Φ i (get_or l i 0)) → Φ n v
    → (i : ℕ) → i < suc n → i < 8 → Φ i (get_or (set l n v) i 0)
noted Φ l n v s h p i k m = elim (ℕ_discrete i n) [
  | yes e ↦
      let here : get_or (set l n v) i 0 ≡ v = rw e (get_or-set_same l n v 0 (omega arith)) in
      rw (here, e) p
  | no e ↦ rw (get_or-set_other l n i v 0 e) (h i (omega arith) m)
]

noted-near : (l : List ℕ) (n v m : ℕ) → ((i : ℕ) → get_or l i 0 < m) → v < m → (i : ℕ) → get_or (set l n v) i 0 < m
noted-near [] n v m h k i = h i
noted-near (x ∷ l) zero v m h k zero = k
noted-near (x ∷ l) zero v m h k (suc i) = h (suc i)
noted-near (x ∷ l) (suc n) v m h k zero = h 0
noted-near (x ∷ l) (suc n) v m h k (suc i) = noted-near l n v m (λ j. h (suc j)) k i

-- the keys of all fields, one by one, are the first 8 of the list of keys
held : (fs : List (List ℕ)) (keys : List ℕ) → length keys ≡ 8
    → ((i : ℕ) → i < length fs → i < 8 → get_or keys i 0 ≡ key_of (get_or fs i [])) → take (length fs) keys ≡ take 8 (map key_of fs)
unfolding key_of is_name is_variable between
held fs keys e h =
    let few : length (take (length fs) keys) ≡ min (length fs) 8 = length-take (length fs) keys ∙ rw e in
    ext_get_or 0 (take (length fs) keys) (take 8 (map key_of fs))
    (omega (arith, few, length-take 8 (map key_of fs), length-map fs key_of))
    (λ i k.
    let below : i < length fs = omega (arith, few) in
    let short : i < 8 = omega (arith, few) in
    get_or-take (length fs) keys i 0 below ∙ h i below short
    ∙ sym (get_or-take 8 (map key_of fs) i 0 short ∙ get_or-map key_of fs i []))

eqb-shift : (e at : ℕ) → at ≤ e → eqb e at ≡ eqb (e - at) 0
eqb-shift e at h = elim (ℕ_discrete e at) [
  | yes k ↦ eq-eqb e at k ∙ sym (eq-eqb (e - at) 0 (omega arith))
  | no k ↦ ne_eqb e at k ∙ sym (ne_eqb (e - at) 0 (λ m. k (omega arith)))
]

other-not-feed : (b : ℕ) → 4 < class_number (class_of b) → b ≡ 10 → ⊥
unfolding class_of class_number between
other-not-feed b h e = let z : 4 < class_number (class_of 10) = rw e at h in omega arith

-- the fields of the line of a text that starts at a place
abbrev fields_at : List ℕ → ℕ → List (List ℕ)
fields_at s at = fields (line_from s at).bytes

-- what is known of a line when some of its fields have passed
pub record Walk (s : List ℕ) (at limit : ℕ) (keys starts : List ℕ) (count start : ℕ) : Type 0 where
  pub begun : at ≤ start
  pub within : start ≤ limit
  pub passed : every is_inner (part s at start) ≡ true
  pub few : count ≤ start - at
  pub left : drop count (fields_at s at) ≡ fields_at s start
  pub room : length keys ≡ 8
  pub place : length starts ≡ 8
  pub keyed : (i : ℕ) → i < count → i < 8 → get_or keys i 0 ≡ key_of (get_or (fields_at s at) i [])
  pub stood : (i : ℕ) → i < count → i < 8 → word s (get_or starts i 0) ≡ get_or (fields_at s at) i []
  pub near : (i : ℕ) → get_or starts i 0 < 16384

-- no field has passed
zeros-near : (n i : ℕ) → get_or (replicate n 0) i 0 < 16384
zeros-near zero i = omega arith
zeros-near (suc n) zero = omega arith
zeros-near (suc n) (suc i) = zeros-near n i

pub walk_start : (s : List ℕ) (at limit : ℕ) → at < length s → limit ≡ min (length s) (at + 81)
    → Walk s at limit (replicate 8 0) (replicate 8 0) 0 at
walk_start s at limit h e = record {
  begun = omega arith;
  within = omega arith;
  passed = rw (sub_self at);
  few = omega arith;
  left = refl;
  room = refl;
  place = refl;
  keyed = λ i m. absurd (not-suc-le-zero m);
  stood = λ i m. absurd (not-suc-le-zero m);
  near = zeros-near 8;
}

-- the field that was found: the text from its start on, its bytes as a field of the line, and the word there
module _ (s : List ℕ) (at limit : ℕ) (keys starts : List ℕ) (count start : ℕ) (r : Field)
    (w : Walk s at limit keys starts count start) (q : Stopped s start limit r) (small : length s ≤ 16384)
    (bound : limit ≡ min (length s) (at + 81)) where
  abbrev f : List ℕ
  f = part s start r.end

  abbrev b : ℕ
  b = get_or s r.end 0

  abbrev more : List ℕ
  more = drop (suc r.end) s

  abbrev p : List ℕ
  p = part s at r.end

  pub passed-all : every is_inner p ≡ true
  passed-all =
      ap (every is_inner) (part_join s at start r.end w.begun q.begun)
      ∙ every_append is_inner (part s at start) f ∙ rw (w.passed, inner f q.plain)

  -- the next field of the line, once it is known to end there
  module _ (stop : r.end < limit) (rest : List (List ℕ)) (found : fields_at s start ≡ f ∷ rest)
      (ended : (eqb b 44 || eqb b 10) ≡ true) where
    next_field : get_or (fields_at s at) count [] ≡ f
    next_field =
        let place : count + 0 ≡ count = omega arith in
        let here : get_or (drop count (fields_at s at)) 0 [] ≡ get_or (fields_at s at) (count + 0) [] =
        get_or-drop count (fields_at s at) 0 [] in
        sym (here ∙ rw place) ∙ ap (λ (l : List (List ℕ)). get_or l 0 []) (w.left ∙ found)

    next-key : (i : ℕ) → i < suc count → i < 8 → get_or (set keys count r.key) i 0 ≡ key_of (get_or (fields_at s at) i [])
    next-key =
        noted (λ i x. x ≡ key_of (get_or (fields_at s at) i [])) keys count r.key w.room w.keyed
        (q.keyed stop ∙ ap key_of (sym next_field))

    next_word : word s start ≡ f
    unfolding word
    next_word =
        let cut : drop start s ≡ f ++ (b ∷ more) = cut_at s start r.end q.begun (omega arith) in
        ap (λ (t : List ℕ). take (word_length t) t) cut
        ∙ rw (word-length f b more q.plain ended) (take-append_seam f (b ∷ more))

    next-stood : (i : ℕ) → i < suc count → i < 8 → word s (get_or (set starts count start) i 0) ≡ get_or (fields_at s at) i []
    next-stood =
        noted (λ i x. word s x ≡ get_or (fields_at s at) i []) starts count start w.place w.stood
        (next_word ∙ sym next_field)

    next-near : (i : ℕ) → get_or (set starts count start) i 0 < 16384
    next-near = noted-near starts count start 16384 w.near (omega (arith, q.begun))

  -- a comma: one field on
  one_on : class_number r.stop ≡ 3 → Walk s at limit (set keys count r.key) (set starts count start) (suc count) (suc r.end)
  unfolding line_from
  one_on e =
      let stop : r.end < limit = q.limited (omega arith) in
      let comma : b ≡ 44 = class-comma b (sym (ap class_number (q.classed stop)) ∙ e) in
      let cut : drop start s ≡ f ++ (b ∷ more) = cut_at s start r.end q.begun (omega arith) in
      let found : fields_at s start ≡ f ∷ fields_at s (suc r.end) =
      ap (λ (t : List ℕ). fields (bytes t)) cut ∙ line-fields-comma f b more q.plain comma in
      let ended : (eqb b 44 || eqb b 10) ≡ true = rw (eq-eqb b 44 comma) in
      record {
        begun = omega (arith, q.begun, w.begun);
        within = omega arith;
        passed =
            ap (every is_inner) (part-suc s at r.end (omega (arith, q.begun, w.begun)) (omega arith))
            ∙ every_append is_inner p (b ∷ []) ∙ rw (passed-all, inner-comma b comma);
        few = omega (arith, q.begun, w.few, w.begun);
        left =
            sym (drop-drop 1 count (fields_at s at) ∙ rw (add-one count))
            ∙ ap (λ (l : List (List ℕ)). drop 1 l) (w.left ∙ found);
        room = length-set keys count r.key ∙ w.room;
        place = length-set starts count start ∙ w.place;
        keyed = next-key stop (fields_at s (suc r.end)) found ended;
        stood = next-stood stop (fields_at s (suc r.end)) found ended;
        near = next-near stop (fields_at s (suc r.end)) found ended;
      }

  pub walk-comma : (ks ss : List ℕ) → ks ≡ set keys count r.key → ss ≡ set starts count start → (r.stop ≡ Other → ⊥) → (r.stop ≡ LineFeed → ⊥)
      → Walk s at limit ks ss (count + 1) (r.end + 1)
  walk-comma ks ss k l e n = rw (add-one count, add-one r.end, k, l) (one_on (comma-left r.stop q.low e n))

  -- a line feed: the whole line
  all_of : class_number r.stop ≡ 4 → SplitAt s at (record {
    faulty = eqb r.end at;
    end = r.end;
    count = suc count;
    keys = set keys count r.key;
    starts = set starts count start;
  })
  unfolding line_from line_end
  all_of e =
      let stop : r.end < limit = q.limited (omega arith) in
      let feed : b ≡ 10 = class-feed b (sym (ap class_number (q.classed stop)) ∙ e) in
      let cut : drop start s ≡ f ++ (b ∷ more) = cut_at s start r.end q.begun (omega arith) in
      let found : fields_at s start ≡ f ∷ [] =
      ap (λ (t : List ℕ). fields (bytes t)) cut ∙ line-fields-last f b more q.plain feed in
      let ended : (eqb b 44 || eqb b 10) ≡ true = rw (eq-eqb b 10 feed) (or-true (eqb b 44)) in
      let begun : at ≤ r.end = omega (arith, q.begun, w.begun) in
      let whole : drop at s ≡ p ++ (b ∷ more) = cut_at s at r.end begun (omega arith) in
      let sized : length p ≡ r.end - at = part_length s at r.end (omega arith) in
      let counted : suc count ≡ length (fields_at s at) =
      omega (arith, ap length (w.left ∙ found), length-drop count (fields_at s at)) in
      let keyed = next-key stop [] found ended in
      let stood = next-stood stop [] found ended in
      record {
        faulty =
            eqb-shift r.end at begun ∙ rw (sym sized)
            (sym (ap (λ (t : List ℕ). line_is_faulty (first_line t)) whole ∙ faulty-feed p passed-all b more feed (omega arith)));
        ends = λ h. omega (arith, ap (before 10) whole, before-is-here p passed-all b more feed);
        begun = λ h. omega (arith, eqb-false r.end at h);
        inside = λ h. omega arith;
        holds = λ h. record {
          counted = counted;
          keyed =
              held (fields_at s at) (set keys count r.key) (omega (arith, length-set keys count r.key, w.room))
              (λ i k m. keyed i (omega arith) m);
        };
        stands = λ h. record { stands = λ i k m. stood i (omega arith) k };
        few = omega (arith, w.few, q.begun);
        near = next-near stop [] found ended;
      }

  pub walk-feed : (ks ss : List ℕ) → ks ≡ set keys count r.key → ss ≡ set starts count start → r.stop ≡ LineFeed
      → SplitAt s at (record { faulty = eqb r.end at; end = r.end; count = count + 1; keys = ks; starts = ss })
  walk-feed ks ss k l e = rw (add-one count, k, l) (all_of (class-feed-number r.stop e))

  -- a byte of class other, or the end of the bytes to look at: a fault
  pub walk-fault : r.stop ≡ Other
      → SplitAt s at (record { faulty = true; end = r.end; count = count; keys = keys; starts = starts })
  unfolding line_from
  walk-fault e = record {
    faulty = sym (elim (dec_lt r.end limit) [
      | yes k ↦
          let whole : drop at s ≡ p ++ (b ∷ more) = cut_at s at r.end (omega (arith, q.begun, w.begun)) (omega arith) in
          let class : 4 < class_number (class_of b) = class-other-number (class_of b) (sym (q.classed k) ∙ e) in
          ap (λ (t : List ℕ). line_is_faulty (first_line t)) whole
          ∙ faulty-at p passed-all b more (class-other b class) (other-not-feed b class)
      | no k ↦
          let whole : drop at s ≡ p ++ drop r.end s = cut-behind s at r.end (omega (arith, q.begun, w.begun)) in
          let sized : length p ≡ r.end - at = part_length s at r.end (omega (arith, q.within)) in
          ap (λ (t : List ℕ). line_is_faulty (first_line t)) whole
          ∙ elim (dec_lt (length s) (at + 81)) [
            | yes m ↦ faulty-open p passed-all (drop r.end s) (omega (arith, length-drop r.end s))
            | no m ↦ faulty-long p passed-all (drop r.end s) (omega (arith, q.within))
          ]
    ]);
    ends = λ h. absurd (never h);
    begun = λ h. absurd (never h);
    inside = λ h. absurd (never h);
    holds = λ h. absurd (never h);
    stands = λ h. absurd (never h);
    few = omega (arith, w.few, w.within);
    near = w.near;
  }
