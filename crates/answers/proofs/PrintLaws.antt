-- What is printed, as bytes in the front of an output.
--   decimal-tenth                       a number has at most two digits more than its tenth
--   word-counted, number-counted, rest-within, rest-counted, line-printed      the line of a refusal, written part by part
--   refusal-program, refusal-goal       it is what is printed of the refusal
--   reply-refused, reply-listed         what is printed of a reply, by its answer
--   listing-printed, refusal-printed    the same of a run's reply
--   check-listed, check-turned          the same of a check's reply
--   printed-within, printed-front       what is printed lies inside the output
--   parts-printed                       the parts of an input
-- Assumes nothing.
use mathlib.Core.Path.{◌≡◌, refl, sym, ap, subst, ◌∙◌}
use mathlib.Core.Logic.{◌⊎◌, inl, inr}
use mathlib.Core.Bool.{Bool, true, false}
use mathlib.Core.List.{List, [], ◌∷◌, ◌++◌, append_assoc}
use Prim.Native.Nat.{ℕ, ◌+◌, ◌-◌, ◌/◌, ◌%◌, ◌≤◌, ◌<◌}
use native.Mathlib.Omega.{arith}
use lib.Dec.{ltb}
use lib.ListN.{length, take, drop, length-append, length-drop}
use lib.Seq.{take_all, length-take-le}
use borrow.Author.Tests.{ltb-true, ltb-false}
use Rattle.text.specs.Bytes.{ascii}
use Rattle.text.specs.Lines.{Parts, parted}
use Rattle.text.specs.Lists.{overlaid}
use Rattle.text.specs.Cursors.{parts_at}
use Rattle.text.specs.Fields.{decimal}
use Rattle.listing.specs.Listing.{fields_behind, line_of}
use Rattle.listing.specs.Writing.{laid, Countable, Writes}
use Rattle.text.proofs.Decimals.{decimal-low, decimal-high, decimal-few}
use Rattle.listing.proofs.WriteLaws.{part_from, part_back, wrote_then, wrote-behind}
use Rattle.replies.specs.Replies.{program_text, goal_text, Reply, refusal, listing, run_reply, check_reply, output_after}
use Rattle.replies.specs.Replies.{text_letter, printed, ample, sheetrun, sheetcheck}
use Rattle.answers.specs.Answers.{text_meant, reply_meant, answer_of, Replied, refusal_bytes, Printed}
use Rattle.answers.specs.declared.TextName.{TextName}
use Rattle.answers.specs.declared.TextName.TheVariants.{S, G}
use Rattle.answers.specs.declared.Refusal.{Refusal}
use Rattle.answers.specs.Results.{RunReply}
use Rattle.std.specs.Prelude.{Ok, Err}
use Rattle.answers.specs.Results.{CheckReply}
use Rattle.answers.specs.declared.Verdict.{Verdict}
use Rattle.answers.specs.declared.Verdict.TheVariants.{Confluent, Unjoined}
use Rattle.answers.specs.Promises.{check_meant, listed_bytes, CheckReplied}

-- a number has at most two digits more than its tenth
pub decimal-tenth : (n : ℕ) → length (decimal n) ≤ n / 10 + 2
decimal-tenth n = go (ltb n 10) refl
  where
    go : (t : Bool) → ltb n 10 ≡ t → length (decimal n) ≤ n / 10 + 2
    go true e = rw (decimal-low n (ltb-true n 10 e)) (omega arith)
    go false e =
        rw (decimal-high n (ltb-false n 10 e))
        (omega (arith, length-append (decimal (n / 10)) ((48 + n % 10) ∷ []), decimal-few (n / 10)))

-- the number behind the word, and the rest behind both, fit every output that is lent
abbrev word : List ℕ
word = 82 ∷ 69 ∷ 70 ∷ 85 ∷ 83 ∷ 69 ∷ 68 ∷ 44 ∷ []

abbrev rest : List ℕ → ℕ → List ℕ
rest named line = named ++ (decimal line ++ (10 ∷ []))

module _ (number line : ℕ) (named o : List ℕ)
    (lent : (length o ≡ 32768) × (length named ≤ 3) × (number < 65536) × (line < 65536))
  where
    few : length word + length (decimal number) + length (rest named line) ≤ 20000
    few =
        omega (
          arith,
          lent.1,
          lent.2,
          lent.3,
          decimal-tenth number,
          decimal-tenth line,
          length-append named (decimal line ++ (10 ∷ [])),
          length-append (decimal line) (10 ∷ []),
        )

    pub word-counted : Countable 0 word
    word-counted = record { few = omega arith }

    pub number-counted : {p : List ℕ} {e : ℕ} → Writes word 0 o p e → Countable e (decimal number)
    number-counted w = record { few = omega (arith, w.counted, few) }

    -- the two first pieces
    both : {p q : List ℕ} {e n : ℕ} → length p ≡ length o → Writes word 0 o p e → Writes (decimal number) e p q n
        → Writes (word ++ decimal number) 0 o q n
    both k w v = wrote_then w v k

    pub rest-within : {p q : List ℕ} {e n : ℕ} → length p ≡ length o → length q ≡ length p → Writes word 0 o p e
        → Writes (decimal number) e p q n → n ≤ length q
    rest-within k l w v = omega (arith, w.counted, v.counted, few, lent.0)

    pub line-few : length (refusal_bytes number named line) ≤ 20000
    unfolding refusal_bytes ascii
    line-few =
        omega (
          arith,
          few,
          length-append (word ++ decimal number) (rest named line),
          length-append word (decimal number),
        )

    pub rest-counted : Countable 0 (rest named line)
    rest-counted = record { few = omega (arith, few) }

    -- the whole line, the rest being written at the front of the part behind the number
    pub line-printed : {p q part : List ℕ} {e n m : ℕ} → length p ≡ length o → length q ≡ length p → Writes word 0 o p e
        → Writes (decimal number) e p q n → Writes (rest named line) 0 (part_from n q) part m
        → Printed (refusal_bytes number named line) o (part_back n q part) (n + m)
    unfolding refusal_bytes ascii laid
    line-printed {p} {q} {part} {e} {n} {m} k l w v u =
        let within : n ≤ length q = rest-within k l w v in
        let all : Writes ((word ++ decimal number) ++ rest named line) 0 o (part_back n q part) (n + m) =
        wrote_then (both k w v) (wrote-behind n (omega (arith, within)) u) (l ∙ k) in
        let zero : 0 + length ((word ++ decimal number) ++ rest named line)
        ≡ length ((word ++ decimal number) ++ rest named line) = omega arith in
        record {
          output = all.placed (omega (
            arith,
            few,
            lent.0,
            length-append (word ++ decimal number) (rest named line),
            length-append word (decimal number),
          )) ∙ rw zero;
          counted = omega (arith, all.counted);
        }

-- what is printed lies inside the output
pub printed-within : {s o a : List ℕ} {n : ℕ} → Printed s o a n → n ≤ length a
printed-within {s} {o} w = omega (arith, w.counted, ap length w.output, length-append s (drop (length s) o))

-- its front has its length
pub printed-front : {s o a : List ℕ} (n : ℕ) → Printed s o a n → n ≡ length (take n a)
printed-front {a = a} n w = sym (length-take-le n a (printed-within w))

-- a refusal's line is what is printed of it
program-line : (number line : ℕ) → refusal_bytes number (44 ∷ 83 ∷ 44 ∷ []) line ≡ printed (refusal number program_text line)
unfolding refusal_bytes ascii printed line_of fields_behind text_letter
program-line number line = append_assoc word (decimal number) (rest (44 ∷ 83 ∷ 44 ∷ []) line)

goal-line : (number line : ℕ) → refusal_bytes number (44 ∷ 71 ∷ 44 ∷ []) line ≡ printed (refusal number goal_text line)
unfolding refusal_bytes ascii printed line_of fields_behind text_letter
goal-line number line = append_assoc word (decimal number) (rest (44 ∷ 71 ∷ 44 ∷ []) line)

pub refusal-program : (number line : ℕ) {r : ℕ} {o a : List ℕ} {text : TextName} → text ≡ S
    → Printed (refusal_bytes number (44 ∷ 83 ∷ 44 ∷ []) line) o a r
    → Printed (printed (refusal number (text_meant text) line)) o a r
unfolding text_meant
refusal-program number line {r} {o} {a} e w =
    rw e (subst (λ (s : List ℕ). Printed s o a r) (program-line number line) w)

pub refusal-goal : (number line : ℕ) {r : ℕ} {o a : List ℕ} {text : TextName} → text ≡ G
    → Printed (refusal_bytes number (44 ∷ 71 ∷ 44 ∷ []) line) o a r
    → Printed (printed (refusal number (text_meant text) line)) o a r
unfolding text_meant
refusal-goal number line {r} {o} {a} e w =
    rw e (subst (λ (s : List ℕ). Printed s o a r) (goal-line number line) w)

-- a refusal's line is printed into an output that it left as it was, and a listing is printed where it stands
module _ {o a : List ℕ} where
  pub reply-refused : (x : Refusal) {d : List ℕ} {n : ℕ} (reply : Reply) → Replied reply o a (Err x)
      → Printed (printed (refusal x.number (text_meant x.text) x.line)) a d n → Printed (printed reply) o d n
  unfolding reply_meant output_after
  reply-refused x {d} {n} reply p w =
      let same : a ≡ o = p.output ∙ ap (λ (q : Reply). output_after q o) (sym p.meant) in
      subst (λ (q : Reply). Printed (printed q) o d n) p.meant
      (subst (λ (l : List ℕ). Printed (printed (refusal x.number (text_meant x.text) x.line)) l d n) same w)

  pub reply-listed : (n : ℕ) (reply : Reply) → Replied reply o a (Ok n) → Printed (printed reply) o a n
  unfolding answer_of output_after printed
  reply-listed n (refusal number text line) p =
      absurd (let e = p.answer in let z : ◌≡◌ {A = ℕ} 0 1 = cc in omega arith)
  reply-listed n (listing bytes) p =
      let e : ◌≡◌ {A = RunReply} (Ok n) (Ok (length bytes)) = p.answer in
      let size : n ≡ length bytes = cc in
      record { output = p.output; counted = size }

-- the reply of a run into such an output
module _ (program goal : List ℕ) {o a : List ℕ} {r : RunReply} (replied : Replied (run_reply program goal (length o)) o a r)
    (lent : length o ≡ 32768)
  where
    in-ample : Replied (run_reply program goal ample) o a r
    unfolding ample
    in-ample = subst (λ (n : ℕ). Replied (run_reply program goal n) o a r) lent replied

    -- a refusal, d being the output when its line is put there
    pub refusal-printed : (x : Refusal) (d : List ℕ) (n : ℕ) → r ≡ Err x
        → Printed (printed (refusal x.number (text_meant x.text) x.line)) a d n
        → Printed (printed (run_reply program goal ample)) o d n
    refusal-printed x d n e w = reply-refused x (run_reply program goal ample) (rw e at in-ample) w

    -- a listing
    pub listing-printed : (n : ℕ) → r ≡ Ok n → Printed (printed (run_reply program goal ample)) o a n
    listing-printed n e = reply-listed n (run_reply program goal ample) (rw e at in-ample)

-- the reply of a check into such an output
module _ (input : List ℕ) {o a : List ℕ} {r : CheckReply} (replied : CheckReplied (check_reply input (length o)) o a r)
    (lent : length o ≡ 32768)
  where
    check-ample : CheckReplied (check_reply input ample) o a r
    unfolding ample
    check-ample = subst (λ (n : ℕ). CheckReplied (check_reply input n) o a r) lent replied

    -- a refusal, d being the output when its line is put there
    pub check-turned : (x : Refusal) (d : List ℕ) (n : ℕ) → r ≡ Err x
        → Printed (printed (refusal x.number (text_meant x.text) x.line)) a d n → Printed (sheetcheck input) o d n
    unfolding sheetcheck check_meant output_after
    check-turned x d n e w =
        let meant : refusal x.number (text_meant x.text) x.line ≡ check_reply input ample =
        sym (ap (λ (q : CheckReply). check_meant q a) e) ∙ check-ample.meant in
        let same : a ≡ o = check-ample.output ∙ ap (λ (q : Reply). output_after q o) (sym meant) in
        subst (λ (q : Reply). Printed (printed q) o d n) meant
        (subst (λ (l : List ℕ). Printed (printed (refusal x.number (text_meant x.text) x.line)) l d n) same w)

    -- a listing
    listed-check : (n : ℕ) → check_meant r a ≡ listing (take n a) → n ≤ length a → Printed (sheetcheck input) o a n
    unfolding sheetcheck output_after printed
    listed-check n e h =
        let is : listing (take n a) ≡ check_reply input ample = sym e ∙ check-ample.meant in
        let left : a ≡ overlaid (take n a) o = check-ample.output ∙ ap (λ (q : Reply). output_after q o) (sym is) in
        subst (λ (q : Reply). Printed (printed q) o a n) is
        (record { output = left; counted = sym (length-take-le n a h) })

    pub check-listed : (n : ℕ) → (r ≡ Ok (Confluent n)) ⊎ (r ≡ Ok (Unjoined n)) → Printed (sheetcheck input) o a n
    unfolding check_meant listed_bytes
    check-listed n (inl e) = listed-check n (ap (λ (q : CheckReply). check_meant q a) e)
        (omega (arith, replied.counted, ap listed_bytes e))
    check-listed n (inr e) = listed-check n (ap (λ (q : CheckReply). check_meant q a) e)
        (omega (arith, replied.counted, ap listed_bytes e))

    pub check-told : (v : Verdict) (n : ℕ) → r ≡ Ok v → n ≡ listed_bytes (Ok v) → Printed (sheetcheck input) o a n
    unfolding listed_bytes
    check-told (Confluent m) n e l = rw l (check-listed m (inl e))
    check-told (Unjoined m) n e l = rw l (check-listed m (inr e))

-- the parts of an input, as they are lent
pub parts-printed : (input : List ℕ) (end start : ℕ) {o a : List ℕ} {n : ℕ}
    → (parted input ≡ parts_at input end start) × (end ≤ length input) × (start ≤ length input)
    → Printed (printed (run_reply (take end input) (part_from start input) ample)) o a n → Printed (sheetrun input) o a n
unfolding sheetrun parts_at
parts-printed input end start {o} {a} {n} split w =
    subst (λ (s : List ℕ). Printed s o a n)
    (ap (λ (g : List ℕ). printed (run_reply (take end input) g ample))
    (take_all (length input - start) (drop start input) (omega (arith, length-drop start input)))
    ∙ ap (λ (p : Parts). printed (run_reply p.program p.goal ample)) (sym split.0)) w
