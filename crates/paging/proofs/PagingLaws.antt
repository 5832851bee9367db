-- Laws of paging: from the answer of a check into ample room to the answer with its pages.
--   refused-laid, listed-program     a refusal, and a listing, of a check into ample room
--   lay-short, lay-passed, lay-failed    the pages of a listing as an answer
--   pages-ask                        the pages of what was listed are at most 17
--   pages-refused, pages-passed, pages-failed     what is promised of the answer with pages
--   answer-small, pages-returned     its number, for the C export
-- Assumes nothing.
use Rattle.std.specs.Prelude.{Option, None, Some}
use Prim.Native.Nat.{ℕ, ◌*◌, ◌≤◌, ◌<◌}
use native.Mathlib.Omega.{arith}
use mathlib.Core.Bool.{Bool, true, false}
use mathlib.Core.List.{List}
use mathlib.Core.Path.{◌≡◌, refl, sym, ap, subst, ◌∙◌}
use lib.ListN.{length, take}
use Rattle.syntax.specs.Answers.{Answer, refused, accepted}
use Rattle.syntax.specs.Programs.{Reading, read_program}
use Rattle.listing.specs.Writing.{ListedAs}
use Rattle.pages.specs.Pages.{pages_of, page_size, max_pages}
use Rattle.replies.specs.Replies.{Text, program_text, Reply, refusal, listing, reply_of, fitted, check_listing, check_reply, ample}
use Rattle.replies.specs.Replies.{Layout, plain, paged, laid_reply, output_after}
use Rattle.replies.proofs.Demand3.{fitted-listed}
use Rattle.replies.proofs.CheckRoom.{check-fits}
use Rattle.replies.proofs.PagedChecks.{read_back_lem, pages-fit}
use Rattle.replies.proofs.LineNumbers.{Within, laid-within}
use Rattle.answers.specs.declared.TextName.TheVariants.{S}
use Rattle.answers.specs.declared.Refusal.{Refusal}
use Rattle.answers.specs.Results.{CheckReply}
use Rattle.answers.specs.declared.Verdict.TheVariants.{Confluent, Unjoined}
use Rattle.std.specs.Prelude.{Ok, Err}
use Rattle.answers.specs.Answers.{text_meant}
use Rattle.answers.specs.Promises.{check_meant, listed_bytes, CheckReplied, Told, Demand3Of, check_number, CheckReturned}
use Rattle.answers.proofs.CheckLaws.{ReadsBack, demand-of, told_of}
use Rattle.answers.proofs.NumberLaws.{answer-few, laid-returned}
use Rattle.checking.proofs.CheckingLaws.{check-short, check-passed, check-failed, refused-no-fail, refused-no-pass}
use Rattle.checking.proofs.CheckingLaws.{pass-no-fail, fail-no-pass}
use Rattle.paging.specs.Paging.{PagesReplied}

-- a text that is refused by a check into ample room is refused alike in every layout and room
refused-laid :
    (layout : Layout) (s : List ℕ) (room number : ℕ) (text : Text) (line : ℕ) → check_reply s ample ≡ refusal number text line
    → laid_reply layout s room ≡ refusal number text line
unfolding check_reply laid_reply reply_of
refused-laid layout s room number text line = go (read_program s) refl
  where
    go :
        (a : Answer Reading) → read_program s ≡ a
        → reply_of program_text a (λ p. fitted program_text ample (check_listing p)) ≡ refusal number text line
        → reply_of program_text a (λ p. fitted program_text room (layout.laid (check_listing p))) ≡ refusal number text line
    go (refused n l) k h = h
    go (accepted p) k h =
        let e = sym (fitted-listed program_text ample (check_listing p) (check-fits s p k)) ∙ h in
        absurd (let z : ◌≡◌ {A = ℕ} 0 1 = cc in omega arith)

-- one that is listed reads, and the listing is its check's
listed-program :
    (s bytes : List ℕ) → check_reply s ample ≡ listing bytes
    → (p : Reading) × (read_program s ≡ accepted p) × (check_listing p ≡ bytes)
unfolding check_reply reply_of
listed-program s bytes = go (read_program s) refl
  where
    go :
        (a : Answer Reading) → read_program s ≡ a
        → reply_of program_text a (λ p. fitted program_text ample (check_listing p)) ≡ listing bytes
        → (p : Reading) × (read_program s ≡ accepted p) × (check_listing p ≡ bytes)
    go (refused n l) k h = absurd (let z : ◌≡◌ {A = ℕ} 0 1 = cc in omega arith)
    go (accepted p) k h =
        let e = sym (fitted-listed program_text ample (check_listing p) (check-fits s p k)) ∙ h in
        let same : check_listing p ≡ bytes = cc in
        (p, k, same)

-- so the reply in a layout is what is laid down for that listing, or number 11
laid-listed :
    (layout : Layout) (s : List ℕ) (room : ℕ) (bytes : List ℕ) → check_reply s ample ≡ listing bytes
    → laid_reply layout s room ≡ fitted program_text room (layout.laid bytes)
unfolding laid_reply reply_of
laid-listed layout s room bytes h =
    let (p, e, same) = listed-program s bytes h in
    rw e (ap (λ (l : List ℕ). fitted program_text room (layout.laid l)) same)

-- the pages of a listing as an answer
module _ {bytes before after : List ℕ} {reply : Option ℕ} (l : ListedAs (pages_of bytes) before after reply) where
  pub lay-short : (passes : Bool) → reply ≡ None
      → PagesReplied passes bytes before after (Err (record { number = 11; text = S; line = 0 }))
  lay-short passes e =
      record { replied = check-short l e; no-fail = λ _. refused-no-fail; no-pass = λ _. refused-no-pass }

  pub lay-passed : {passes : Bool} → passes ≡ true → (n : ℕ) → reply ≡ Some n
      → PagesReplied passes bytes before after (Ok (Confluent n))
  lay-passed {passes} is n e =
      record {
        replied = check-passed n l e;
        no-fail = λ _. pass-no-fail;
        no-pass = λ h. absurd (let z : ◌≡◌ {A = ℕ} 0 1 = cc in omega arith);
      }

  pub lay-failed : {passes : Bool} → passes ≡ false → (n : ℕ) → reply ≡ Some n
      → PagesReplied passes bytes before after (Ok (Unjoined n))
  lay-failed {passes} is n e =
      record {
        replied = check-failed n l e;
        no-fail = λ h. absurd (let z : ◌≡◌ {A = ℕ} 0 1 = cc in omega arith);
        no-pass = λ _. fail-no-pass;
      }

-- the pages of every text's listing can be read back
pages-back : (s : List ℕ) → ReadsBack paged s
unfolding paged
pages-back s p e = read_back_lem s p e

-- a check into ample room, and its answer
module _ (s : List ℕ) {room full : List ℕ} {r : CheckReply} (lent : length room ≡ ample)
    (checked : CheckReplied (check_reply s (length room)) room full r × Demand3Of plain s room full r) where
  -- what the answer means
  means : (q : CheckReply) → r ≡ q → check_reply s ample ≡ check_meant q full
  means q e =
      ap (λ (n : ℕ). check_reply s n) (sym lent) ∙ (sym checked.0.meant ∙ ap (λ (x : CheckReply). check_meant x full) e)

  told : Told s r
  told = told_of plain s room full r checked.1

  -- an answer of the same kind, with the pages of the listing
  with-pages :
      {before after : List ℕ} {q : CheckReply} (n : ℕ) → check_reply s ample ≡ listing (take n full) → Told s q
      → CheckReplied (fitted program_text (length before) (pages_of (take n full))) before after q
      → CheckReplied (laid_reply paged s (length before)) before after q × Demand3Of paged s before after q
  unfolding paged
  with-pages {before} {after} {q} n h t c =
      let laid = laid-listed paged s (length before) (take n full) h in
      let replied = subst (λ (x : Reply). CheckReplied x before after q) (sym laid) c in
      (replied, demand-of paged s before after q (pages-back s) replied t)

  -- what laying the pages asks
  ask : (n : ℕ) → check_reply s ample ≡ listing (take n full) → length (pages_of (take n full)) ≤ max_pages * page_size
  ask n h =
      let (p, e, same) = listed-program s (take n full) h in
      subst (λ (l : List ℕ). length (pages_of l) ≤ max_pages * page_size) same (pages-fit s p e)

  pub ask-passed : {n : ℕ} → r ≡ Ok (Confluent n) → length (pages_of (take n full)) ≤ max_pages * page_size
  unfolding check_meant
  ask-passed {n} e = ask n (means (Ok (Confluent n)) e)

  pub ask-failed : {n : ℕ} → r ≡ Ok (Unjoined n) → length (pages_of (take n full)) ≤ max_pages * page_size
  unfolding check_meant
  ask-failed {n} e = ask n (means (Ok (Unjoined n)) e)

  -- a refusal, and the pages of a pass and of a fail
  pub pages-refused : (before : List ℕ) {f : Refusal} → r ≡ Err f
      → CheckReplied (laid_reply paged s (length before)) before before (Err f) × Demand3Of paged s before before (Err f)
  unfolding check_meant listed_bytes output_after
  pages-refused before {f} e =
      let laid = refused-laid paged s (length before) f.number (text_meant f.text) f.line (means (Err f) e) in
      let replied : CheckReplied (laid_reply paged s (length before)) before before (Err f) =
      record {
        meant = sym laid;
        counted = omega arith;
        output = sym (ap (λ (x : Reply). output_after x before) laid);
      } in
      (replied, demand-of paged s before before (Err f) (pages-back s) replied (subst (Told s) e told))

  pub pages-passed :
      {before after : List ℕ} {q : CheckReply} {n : ℕ} → r ≡ Ok (Confluent n)
      → PagesReplied true (take n full) before after q
      → CheckReplied (laid_reply paged s (length before)) before after q × Demand3Of paged s before after q
  unfolding check_meant
  pages-passed {before} {after} {q} {n} e l =
      with-pages n (means (Ok (Confluent n)) e)
      (record { pass = λ p k m h. told.pass p k n e; fail = λ p k m h. absurd (l.no-fail refl m h) }) l.replied

  pub pages-failed :
      {before after : List ℕ} {q : CheckReply} {n : ℕ} → r ≡ Ok (Unjoined n)
      → PagesReplied false (take n full) before after q
      → CheckReplied (laid_reply paged s (length before)) before after q × Demand3Of paged s before after q
  unfolding check_meant
  pages-failed {before} {after} {q} {n} e l =
      with-pages n (means (Ok (Unjoined n)) e)
      (record { pass = λ p k m h. absurd (l.no-pass refl m h); fail = λ p k m h. told.fail p k n e }) l.replied

-- a reply with pages fits the number that the C export returns
pages-within : (s : List ℕ) (room : ℕ) → Within (laid_reply paged s room)
unfolding paged max_pages page_size
pages-within s room = laid-within paged s room (λ p e. omega (arith, pages-fit s p e))

module _ (s : List ℕ) {before after : List ℕ} {a : CheckReply}
    (replied : CheckReplied (laid_reply paged s (length before)) before after a × Demand3Of paged s before after a) where
  pub answer-small : listed_bytes a < 2147483648
  answer-small = answer-few (pages-within s (length before)) replied.0

  -- the number of an answer with pages is returned
  pub pages-returned : {n : ℕ} → n ≡ check_number a → CheckReturned paged s before after n
  pages-returned e = laid-returned paged s (pages-within s (length before)) replied.0 replied.1 e
