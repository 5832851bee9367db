-- Demand 3 of an answer to a text and of the bytes that it leaves, from its reply and its kind, in a layout from which the
-- listing can be read back: `demand-of`.
--   refusal-answer, listing-answer     the answer of a refusal, and of a listing
--   pass-within, fail-within           what is listed lies in the output
--   checked-as                         demand 3 of the answer to a text that reads
--   demand-of, demand-plain            demand 3 of the answer to any text (the main law), and of a listing as it is
--   told_of                            the kind of an answer, from demand 3 of it
-- Assumes nothing.
use Prim.Native.Nat.{ℕ, ◌≤◌, ◌<◌}
use native.Mathlib.Omega.{arith}
use mathlib.Core.Bool.{Bool, true, false, cond}
use mathlib.Core.List.{List}
use mathlib.Core.Logic.{◌⊎◌, inl, inr, ⊎_elim}
use mathlib.Core.Path.{◌≡◌, refl, sym, ap, ◌∙◌}
use lib.Dec.{ltb}
use lib.ListN.{length, take}
use borrow.Author.Tests.{ltb-true, lt-ltb}
use Rattle.semantics.specs.Strategy.{Final}
use Rattle.semantics.specs.Overlaps.{Overlap, overlaps}
use Rattle.semantics.specs.Verdict.{Verdict, verdict, confluent, unjoined}
use Rattle.semantics.specs.Claims.{Demand3}
use Rattle.semantics.proofs.Remaining.{goal-variables-remain}
use Rattle.semantics.proofs.Demand3.{verdict-exact}
use Rattle.syntax.specs.Answers.{Answer, refused, accepted}
use Rattle.syntax.specs.Programs.{Reading, read_program}
use Rattle.syntax.proofs.WellFormed.{read-well_formed}
use Rattle.syntax.proofs.ByValue.{read-by-value}
use Rattle.text.proofs.Decimals.{decimal-exact}
use Rattle.replies.specs.Replies.{Text, program_text, Reply, refusal, listing, reply_of, fitted, check_listing, check_reply}
use Rattle.replies.specs.Replies.{Layout, plain, laid_reply, output_after}
use Rattle.replies.specs.Claims.{verdict_reply}
use Rattle.replies.proofs.Demand3.{fitted-listed, verdict-one}
use Rattle.replies.proofs.LineNumbers.{program-number}
use Rattle.answers.specs.Answers.{text_meant}
use Rattle.answers.specs.Outcomes.{OneOutcome, Counterexample}
use Rattle.answers.specs.Promises.{check_meant, listed_bytes, CheckReplied, Told, CheckedAs, of_program, Demand3Of}
use Rattle.answers.specs.declared.TextName.{TextName}
use Rattle.answers.specs.declared.TextName.TheVariants.{S, G}
use Rattle.answers.specs.declared.Refusal.{Refusal}
use Rattle.answers.specs.Results.{CheckReply}
use Rattle.answers.specs.declared.Verdict.{Verdict as ToldVerdict}
use Rattle.answers.specs.declared.Verdict.TheVariants.{Confluent, Unjoined}
use Rattle.std.specs.Prelude.{Ok, Err}
use Rattle.answers.proofs.OutcomeLaws.{outcome-claim, appearance-claim, counterexample-claim}

-- an answer that means a refusal of the program's text
pub refusal-answer :
    (number line : ℕ) (output : List ℕ) (r : CheckReply) → check_meant r output ≡ refusal number program_text line
    → r ≡ of_program number line
unfolding check_meant text_meant of_program
refusal-answer number line output (Err f) e = go f.number f.text f.line e
  where
    go :
        (n : ℕ) (t : TextName) (l : ℕ) → refusal n (text_meant t) l ≡ refusal number program_text line
        → Err (record { number = n; text = t; line = l }) ≡ of_program number line
    go n S l k =
        let a : n ≡ number = cc in
        let b : l ≡ line = cc in
        rw (a, b)
    go n G l k = absurd (let z : ◌≡◌ {A = ℕ} 0 1 = cc in omega arith)
refusal-answer number line output (Ok (Confluent n)) e = absurd (let z : ◌≡◌ {A = ℕ} 0 1 = cc in omega arith)
refusal-answer number line output (Ok (Unjoined n)) e = absurd (let z : ◌≡◌ {A = ℕ} 0 1 = cc in omega arith)

-- an answer that means a listing
pub listing-answer :
    (bytes output : List ℕ) (r : CheckReply) → check_meant r output ≡ listing bytes
    → ((n : ℕ) × (r ≡ Ok (Confluent n))) ⊎ ((n : ℕ) × (r ≡ Ok (Unjoined n)))
unfolding check_meant
listing-answer bytes output (Err f) e = absurd (let z : ◌≡◌ {A = ℕ} 0 1 = cc in omega arith)
listing-answer bytes output (Ok (Confluent n)) e = inl (n, refl)
listing-answer bytes output (Ok (Unjoined n)) e = inr (n, refl)

-- what is listed lies in the output
module _ {reply : Reply} {before after : List ℕ} {r : CheckReply} (c : CheckReplied reply before after r) {n : ℕ} where
  pub pass-within : r ≡ Ok (Confluent n) → n ≤ length after
  unfolding listed_bytes
  pass-within e = omega (arith, c.counted, ap listed_bytes e)

  pub told-within : {v : ToldVerdict} → r ≡ Ok v → n ≡ listed_bytes (Ok v) → n ≤ length after
  told-within e l = omega (arith, l, ap listed_bytes e, c.counted)

  pub fail-within : r ≡ Ok (Unjoined n) → n ≤ length after
  unfolding listed_bytes
  fail-within e = omega (arith, c.counted, ap listed_bytes e)

-- a listing that fits or not, as a reply: number 11 where it does not
fitted-refused :
    (text : Text) (room : ℕ) (bytes : List ℕ) (number line : ℕ) → fitted text room bytes ≡ refusal number text line
    → (number ≡ 11) × (line ≡ 0) × (room < length bytes)
unfolding fitted
fitted-refused text room bytes number line e = go (ltb room (length bytes)) refl e
  where
    go :
        (b : Bool) → ltb room (length bytes) ≡ b → cond b (refusal 11 text 0) (listing bytes) ≡ refusal number text line
        → (number ≡ 11) × (line ≡ 0) × (room < length bytes)
    go true h k =
        let a : number ≡ 11 = cc in
        let b : line ≡ 0 = cc in
        (a, b, ltb-true room (length bytes) h)
    go false h k = absurd (let z : ◌≡◌ {A = ℕ} 0 1 = cc in omega arith)

fitted_short : (text : Text) (room : ℕ) (bytes : List ℕ) → room < length bytes → fitted text room bytes ≡ refusal 11 text 0
unfolding fitted
fitted_short text room bytes h = rw (lt-ltb room (length bytes) h)

fitted-is : (text : Text) (room : ℕ) (bytes l : List ℕ) → fitted text room bytes ≡ listing l → listing l ≡ listing bytes
unfolding fitted
fitted-is text room bytes l e = go (ltb room (length bytes)) e
  where
    go : (b : Bool) → cond b (refusal 11 text 0) (listing bytes) ≡ listing l → listing l ≡ listing bytes
    go true k = absurd (let z : ◌≡◌ {A = ℕ} 0 1 = cc in omega arith)
    go false k = sym k

-- what a layout must give: the listing of the check of a text can be read back
abbrev pub ReadsBack : Layout → List ℕ → Type 0
ReadsBack layout s =
    (p : Reading) → read_program s ≡ accepted p → layout.held (layout.laid (check_listing p)) ≡ check_listing p

module _ (layout : Layout) (s before after : List ℕ) (r : CheckReply)
    (c : CheckReplied (laid_reply layout s (length before)) before after r) where
  -- what the answer means, by its form
  meant-by : (q : CheckReply) → r ≡ q → laid_reply layout s (length before) ≡ check_meant q after
  meant-by q e = sym c.meant ∙ ap (λ (x : CheckReply). check_meant x after) e

  -- the reply to a text that reads
  read-reply :
      (p : Reading) → read_program s ≡ accepted p
      → laid_reply layout s (length before) ≡ fitted program_text (length before) (layout.laid (check_listing p))
  unfolding laid_reply reply_of
  read-reply p e = rw e

  -- and to one that does not
  turned-reply :
      (number line : ℕ) → read_program s ≡ refused number line
      → laid_reply layout s (length before) ≡ refusal number program_text line
  unfolding laid_reply reply_of
  turned-reply number line e = rw e

  -- a listing held by what an answer leaves is the verdict's
  listed-verdict :
      ReadsBack layout s → (p : Reading) → read_program s ≡ accepted p → (n : ℕ)
      → laid_reply layout s (length before) ≡ listing (take n after) → (v : Verdict) → verdict p.program ≡ v
      → listing (layout.held (take n after)) ≡ verdict_reply p v
  unfolding verdict_reply check_listing
  listed-verdict back p e n h v k =
      let left =
      fitted-is program_text (length before) (layout.laid (check_listing p)) (take n after) (sym (read-reply p e) ∙ h) in
      let same : take n after ≡ layout.laid (check_listing p) = cc in
      ap (λ (l : List ℕ). listing (layout.held l)) same ∙ ap listing (back p e) ∙ ap (verdict_reply p) k

  module _ (back : ReadsBack layout s) (told : Told s r) (p : Reading) (e : read_program s ≡ accepted p) where
    demand : Demand3 p.program
    demand = verdict-exact p.program (read-well_formed s e)

    no-outcome : (n : ℕ) → r ≡ Ok (Unjoined n) → OneOutcome p.program → ⊥
    no-outcome n h one =
        let (o, a, b, v) = told.fail p e n h in
        verdict-one (demand.exact.1 ((outcome-claim p.program).0 one)).1 v

    decided :
        length (layout.laid (check_listing p)) ≤ length before → ((n : ℕ) × (r ≡ Ok (Confluent n))) ⊎ ((n : ℕ) × (r ≡ Ok (Unjoined n)))
    decided fits =
        listing-answer (layout.laid (check_listing p)) after r
        (c.meant ∙ (read-reply p e ∙ fitted-listed program_text (length before) (layout.laid (check_listing p)) fits))

    one-outcome : (n : ℕ) → r ≡ Ok (Confluent n) → OneOutcome p.program
    one-outcome n h = (outcome-claim p.program).1 (demand.exact.0 (told.pass p e n h))

    -- where the listing fits, the earliest unjoined overlap is left
    earliest :
        (o : Overlap) (one two : Final) → length (layout.laid (check_listing p)) ≤ length before
        → Counterexample p.program o one two
        → (n : ℕ) × (r ≡ Ok (Unjoined n)) × (listing (layout.held (take n after)) ≡ verdict_reply p (unjoined o one two))
    unfolding check_meant
    earliest o one two fits x =
        let v = (demand.shown o one two).1 ((counterexample-claim p.program o one two).0 x) in
        let (n, h) = ⊎_elim (λ (n, h). verdict-one (told.pass p e n h).1 v) (λ y. y) (decided fits) in
        (n, h, listed-verdict back p e n (meant-by (Ok (Unjoined n)) h) (unjoined o one two) v)

    -- demand 3 of the answer to a text that reads
    checked-as : CheckedAs layout p before after r
    unfolding check_meant
    checked-as =
        record {
          decided = decided;
          exact = λ fits. (
            λ (n, h). one-outcome n h,
            λ one. ⊎_elim (λ y. y) (λ (n, h). absurd (no-outcome n h one)) (decided fits),
          );
          passed = λ n h.
              let (k, v) = told.pass p e n h in (
                listed-verdict back p e n (meant-by (Ok (Confluent n)) h) (confluent (length (overlaps p.program)))
                    (v ∙ ap confluent (demand.counted k v)),
                one-outcome n h,
              );
          failed = λ n h.
              let (o, one, two, v) = told.fail p e n h in (
                o,
                one,
                two,
                listed-verdict back p e n (meant-by (Ok (Unjoined n)) h) (unjoined o one two) v,
                (counterexample-claim p.program o one two).1 ((demand.shown o one two).0 v),
                no-outcome n h,
              );
          earliest = earliest;
          ordered = demand.ordered;
          enough = λ h.
              (outcome-claim p.program).1 (demand.enough ((appearance-claim p.program).0 h));
          bounded = demand.bounded;
          kept = goal-variables-remain p.program;
          decimals = decimal-exact;
        }

  -- the text of a refusal, and the output that it leaves
  refusing : (f : Refusal) → r ≡ Err f → (f.text ≡ S) × (after ≡ before)
  unfolding check_meant text_meant output_after laid_reply reply_of fitted
  refusing f h = (named f.text text, c.output ∙ ap (λ (x : Reply). output_after x before) (meant-by (Err f) h))
    where
      -- the text that a reply's refusal names
      text_of : Reply → Text
      text_of (refusal number t line) = t
      text_of (listing bytes) = program_text

      fits : (b : Bool) (bytes : List ℕ) → text_of (cond b (refusal 11 program_text 0) (listing bytes)) ≡ program_text
      fits true bytes = refl
      fits false bytes = refl

      always :
          (a : Answer Reading)
          → text_of (reply_of program_text a (λ p. fitted program_text (length before) (layout.laid (check_listing p)))) ≡ program_text
      always (refused number line) = refl
      always (accepted p) = fits (ltb (length before) (length (layout.laid (check_listing p)))) (layout.laid (check_listing p))

      text : text_meant f.text ≡ program_text
      text = sym (ap text_of (meant-by (Err f) h)) ∙ always (read_program s)

      named : (t : TextName) → text_meant t ≡ program_text → t ≡ S
      named S k = refl
      named G k = absurd (let z : ◌≡◌ {A = ℕ} 0 1 = cc in omega arith)

  -- the reply of a refusal of the program's text
  of-program :
      (number line : ℕ) → r ≡ of_program number line → laid_reply layout s (length before) ≡ refusal number program_text line
  unfolding of_program check_meant text_meant
  of-program number line h = meant-by (of_program number line) h

  turned-back : (number line : ℕ) → number < 11 → r ≡ of_program number line → read_program s ≡ refused number line
  turned-back number line few h = go (read_program s) refl
    where
      go : (a : Answer Reading) → read_program s ≡ a → read_program s ≡ refused number line
      go (refused n l) k =
          let e = sym (turned-reply n l k) ∙ of-program number line h in
          let same : n ≡ number = cc in
          let line' : l ≡ line = cc in
          rw (sym same, sym line') k
      go (accepted p) k =
          let (eleven, zero, short) =
          fitted-refused program_text (length before) (layout.laid (check_listing p)) number line
          (sym (read-reply p k) ∙ of-program number line h) in
          absurd (omega (arith, eleven, few))

  -- number 11
  eleven-short :
      r ≡ of_program 11 0
      → (p : Reading) × (read_program s ≡ accepted p) × (length before < length (layout.laid (check_listing p)))
  eleven-short h = go (read_program s) refl
    where
      go :
          (a : Answer Reading) → read_program s ≡ a
          → (p : Reading) × (read_program s ≡ accepted p) × (length before < length (layout.laid (check_listing p)))
      go (refused n l) k =
          let e = sym (turned-reply n l k) ∙ of-program 11 0 h in
          let same : n ≡ 11 = cc in
          absurd (omega (arith, same, (program-number s k).1))
      go (accepted p) k =
          let (eleven, zero, short) =
          fitted-refused program_text (length before) (layout.laid (check_listing p)) 11 0 (sym (read-reply p k) ∙ of-program 11 0 h) in
          (p, k, short)

-- demand 3 of the answer to any text, and of the bytes that it leaves
pub demand-of :
    (layout : Layout) (s before after : List ℕ) (r : CheckReply) → ReadsBack layout s
    → CheckReplied (laid_reply layout s (length before)) before after r → Told s r → Demand3Of layout s before after r
demand-of layout s before after r back c told =
    record {
      numbers = λ number line e. program-number s e;
      turned = λ number line few. (
        λ e. refusal-answer number line after r (c.meant ∙ turned-reply layout s before after r c number line e),
        turned-back layout s before after r c number line few,
      );
      eleven = (
        λ (p, e, short). refusal-answer 11 0 after r (c.meant ∙ (read-reply layout s before after r c p e
            ∙ fitted_short program_text (length before) (layout.laid (check_listing p)) short)),
        eleven-short layout s before after r c,
      );
      untouched = refusing layout s before after r c;
      read = λ p e. checked-as layout s before after r c back told p e;
      constants = λ p e. read-by-value s e;
    }

-- the same where the listing is laid down as it is
pub demand-plain :
    (s before after : List ℕ) (r : CheckReply) → CheckReplied (check_reply s (length before)) before after r → Told s r
    → Demand3Of plain s before after r
unfolding check_reply laid_reply plain
demand-plain s before after r c told = demand-of plain s before after r (λ p e. refl) c told

-- the kind of an answer is that of the verdict, by demand 3 of the answer
pub told_of : (layout : Layout) (s before after : List ℕ) (r : CheckReply) → Demand3Of layout s before after r → Told s r
told_of layout s before after r d =
    record {
      pass = λ p e n h.
          (verdict-exact p.program (read-well_formed s e)).exact.1
          ((outcome-claim p.program).0 ((d.read p e).passed n h).1);
      fail = λ p e n h.
          let (o, one, two, left, x, y) = (d.read p e).failed n h in (
            o,
            one,
            two,
            ((verdict-exact p.program (read-well_formed s e)).shown o one two).1
                ((counterexample-claim p.program o one two).0 x),
          );
    }
