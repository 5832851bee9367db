-- The stages of a check: from tables as read to the verdict, and from its listing to the reply.
--   pass-short, pass-written                    the listing of a pass that does not fit, and one that does
--   overlap-short, overlap-written              the same of an unjoined overlap
--   decidable, show-ready                       what deciding on a program as read asks, and showing an overlap of it
--   pass-replies                                the listing of a pass is the reply
--   cells-…, end-…, listed-within               the cells of an end that are listed, and the end as the listing has it
--   front-few                                   a front has at most as many cells as there are
--   show-listable, show-replies                 it can be listed, and its listing is the reply
--   check-refused, check-ready                  a program that is refused, and one that is read
--   checked-demand                              demand 3 of an answer to a check
-- Assumes nothing.
use Rattle.std.specs.Prelude.{Option, None, Some, is_some, unwrap_or}
use Prim.Native.Nat.{ℕ, ◌+◌, ◌-◌, ◌*◌, ◌≤◌, ◌<◌}
use native.Mathlib.Omega.{arith}
use mathlib.Core.Bool.{Bool, true, false, cond, ◌&&◌}
use mathlib.Core.List.{List, [], ◌∷◌, ◌++◌}
use mathlib.Core.Path.{◌≡◌, refl, sym, ap, subst, ◌∙◌}
use lib.Dec.{ltb}
use lib.ListN.{length, take, drop, length-append, length-take}
use lib.Seq.{take_at, take-take, length-take-le}
use Rattle.text.specs.Bytes.{ascii}
use Rattle.text.specs.Lists.{every}
use Rattle.text.specs.Fields.{decimal}
use Rattle.text.proofs.Bools.{and-true}
use Rattle.text.proofs.Laws.{drop-take, tabled-length}
use Rattle.semantics.specs.Terms.{Constraint, Symbol, Rule, Program, is_declared, is_below, is_goal_of}
use Rattle.semantics.specs.Strategy.{Final as End'}
use Rattle.semantics.specs.Overlaps.{Overlap}
use Rattle.semantics.specs.Verdict.{confluent, unjoined, verdict}
use Rattle.semantics.proofs.Configurations.{All}
use Rattle.semantics.proofs.Multisets.{all-mono}
use Rattle.semantics.proofs.Letters.{every-all}
use Rattle.semantics.proofs.Listings.{all-every}
use Rattle.semantics.proofs.Demand3.{verdict-exact}
use Rattle.syntax.specs.Answers.{Answer, refused, accepted}
use Rattle.syntax.specs.Forms.{first_constant}
use Rattle.syntax.specs.Programs.{Reading, read_program}
use Rattle.syntax.proofs.Vocabulary.{ConstantOf, read_small}
use Rattle.syntax.proofs.WellFormed.{read-well_formed}
use Rattle.tables.specs.Layout.{first_rule}
use Rattle.tables.specs.Cells.{state_of}
use Rattle.tables.specs.Rows.{symbols_of, constants_of, name_of, rule_of}
use Rattle.tables.specs.Names.{name_in}
use Rattle.programs.specs.Read.{program_answer, ProgramIn}
use Rattle.programs.specs.declared.Counts.{Counts}
use Rattle.std.specs.Prelude.{Result, Err}
use Rattle.faults.specs.Faults.{number_of}
use Rattle.faults.specs.declared.FaultAt.{FaultAt}
use Rattle.engine.specs.declared.derivation.Final.{Final}
use Rattle.sides.specs.Sides.{cell_goal}
use Rattle.judging.specs.Judging.{end_in}
use Rattle.critical.specs.declared.deciding.Shown.{Shown}
use Rattle.critical.specs.Walks.{Holds, rule_at}
use Rattle.critical.specs.Verdicts.{Deciding, final_in, EndIn, ShownIn, UnjoinedIn}
use Rattle.listing.specs.Listing.{line_of, naming_of}
use Rattle.verdicts.specs.Verdicts.{verdict_listing}
use Rattle.listing.specs.Writing.{listed_in, listed_over, ListedAs}
use Rattle.listing.specs.Ends.{Listable}
use Rattle.verdicts.specs.Checks.{final_of, OverlapListable, ShownBy, OverlapListed}
use Rattle.listing.specs.declared.End.{End}
use Rattle.verdicts.specs.declared.Shown.{Shown as Listing}
use Rattle.verdicts.proofs.CheckLaws.{pass-listed, overlap-named}
use Rattle.replies.specs.Replies.{program_text, refusal, listing, reply_of, fitted, check_listing, check_reply, plain, output_after}
use Rattle.replies.proofs.ShortNames.{Termed, TermedProgram, program-termed, reads-accepted}
use Rattle.answers.specs.Answers.{text_meant}
use Rattle.inputs.specs.Inputs.{program_table, is_known, GoalReady}
use Rattle.answers.specs.Promises.{check_meant, listed_bytes, CheckReplied, Told, Demand3Of}
use Rattle.checking.specs.Checking.{NoPass, NoFail, listed_cells, end_shown, CheckReady, ShowReady, PassReplied}
use Rattle.checking.specs.Checking.{OverlapReplied, Checked}
use Rattle.answers.specs.declared.TextName.TheVariants.{S}
use Rattle.answers.specs.declared.Refusal.{Refusal}
use Rattle.answers.specs.Results.{CheckReply}
use Rattle.answers.specs.declared.Verdict.TheVariants.{Confluent, Unjoined}
use Rattle.std.specs.Prelude.{Ok, Err}
use Rattle.inputs.proofs.KnownLaws.{rows-known, state-known, known_some, known-named, rule-named}
use Rattle.inputs.proofs.ProgramLaws.{few-symbols, symbols-count}
use Rattle.checking.proofs.CheckableLaws.{few-rules, checkable, held}
use Rattle.inputs.proofs.OverlapVocabulary.{Shows, overlap-shows}
use Rattle.answers.proofs.CheckLaws.{demand-plain}

-- a listing that does not fit
pub check-short :
    {bytes before after : List ℕ} {reply : Option ℕ} → ListedAs bytes before after reply → reply ≡ None
    → CheckReplied (fitted program_text (length before) bytes) before after (Err (record { number = 11; text = S; line = 0 }))
unfolding fitted listed_in listed_over output_after check_meant listed_bytes text_meant
check-short {bytes} {before} {after} {reply} l e = go (ltb (length before) (length bytes)) (sym e ∙ l.answer) l.output
  where
    go :
        (b : Bool) → None ≡ cond b None (Some (length bytes))
        → after ≡ cond b before (bytes ++ drop (length bytes) before)
        → CheckReplied (cond b (refusal 11 program_text 0) (listing bytes)) before after
        (Err (record { number = 11; text = S; line = 0 }))
    go true a o = record { meant = refl; counted = omega arith; output = o }
    go false a o = absurd (let z : ◌≡◌ {A = ℕ} 0 1 = cc in omega arith)

-- a listing that fits, as any answer that means it
written :
    {bytes before after : List ℕ} {reply : Option ℕ} (n : ℕ) (r : CheckReply) → check_meant r after ≡ listing (take n after)
    → listed_bytes r ≡ n → ListedAs bytes before after reply → reply ≡ Some n
    → CheckReplied (fitted program_text (length before) bytes) before after r
unfolding fitted listed_in listed_over output_after
written {bytes} {before} {after} {reply} n r meant counted l e =
    go (ltb (length before) (length bytes)) (sym e ∙ l.answer) l.output
  where
    go :
        (b : Bool) → Some n ≡ cond b None (Some (length bytes))
        → after ≡ cond b before (bytes ++ drop (length bytes) before)
        → CheckReplied (cond b (refusal 11 program_text 0) (listing bytes)) before after r
    go true a o = absurd (let z : ◌≡◌ {A = ℕ} 0 1 = cc in omega arith)
    go false a o =
        let size : n ≡ length bytes = cc in
        let front : take n after ≡ bytes = rw (o, size) (take_at bytes (drop (length bytes) before) (length bytes) refl) in
        record {
          meant = meant ∙ ap listing front;
          counted = omega (arith, counted, size, ap length o, length-append bytes (drop (length bytes) before));
          output = o;
        }

pub check-passed :
    {bytes before after : List ℕ} {reply : Option ℕ} (n : ℕ) → ListedAs bytes before after reply → reply ≡ Some n
    → CheckReplied (fitted program_text (length before) bytes) before after (Ok (Confluent n))
unfolding check_meant listed_bytes
check-passed n l e = written n (Ok (Confluent n)) refl refl l e

pub check-failed :
    {bytes before after : List ℕ} {reply : Option ℕ} (n : ℕ) → ListedAs bytes before after reply → reply ≡ Some n
    → CheckReplied (fitted program_text (length before) bytes) before after (Ok (Unjoined n))
unfolding check_meant listed_bytes
check-failed n l e = written n (Ok (Unjoined n)) refl refl l e

-- what an answer is not
pub refused-no-fail : {f : Refusal} → NoFail (Err f)
refused-no-fail n e = absurd (let z : ◌≡◌ {A = ℕ} 0 1 = cc in omega arith)

pub refused-no-pass : {f : Refusal} → NoPass (Err f)
refused-no-pass n e = absurd (let z : ◌≡◌ {A = ℕ} 0 1 = cc in omega arith)

pub pass-no-fail : {m : ℕ} → NoFail (Ok (Confluent m))
pass-no-fail n e = absurd (let z : ◌≡◌ {A = ℕ} 0 1 = cc in omega arith)

pub fail-no-pass : {m : ℕ} → NoPass (Ok (Unjoined m))
fail-no-pass n e = absurd (let z : ◌≡◌ {A = ℕ} 0 1 = cc in omega arith)

-- a pass that is listed, and number 11
module _ {overlaps : ℕ} {before after : List ℕ} {reply : Option ℕ}
    (l : ListedAs (line_of (ascii "CONFLUENT") (decimal overlaps ∷ [])) before after reply) where
  pub pass-short : reply ≡ None → PassReplied overlaps before after (Err (record { number = 11; text = S; line = 0 }))
  pass-short e = record { replied = check-short l e; no-fail = refused-no-fail }

  pub pass-written : (n : ℕ) → reply ≡ Some n → PassReplied overlaps before after (Ok (Confluent n))
  pass-written n e = record { replied = check-passed n l e; no-fail = pass-no-fail }

-- an overlap that is listed, and number 11
module _ {program places goal bounds one two : List ℕ} {s : Listing} {before after : List ℕ} {reply : Option ℕ}
    (l : OverlapListed program places goal bounds one two s before after reply) where
  pub overlap-short :
      reply ≡ None
      → OverlapReplied program places goal bounds one two s before after (Err (record { number = 11; text = S; line = 0 }))
  overlap-short e = record { replied = λ o h. check-short (l.listed o h) e; no-pass = refused-no-pass }

  pub overlap-written : (n : ℕ) → reply ≡ Some n
      → OverlapReplied program places goal bounds one two s before after (Ok (Unjoined n))
  overlap-written n e = record { replied = λ o h. check-failed n (l.listed o h) e; no-pass = fail-no-pass }

-- a text that reads is read as one program
same-reading : {a : Answer Reading} {p q : Reading} → a ≡ accepted p → a ≡ accepted q → p ≡ q
same-reading e f = cc

module _ {program places rules : List ℕ} {n : ℕ} (r : CheckReady program places rules n) where
  -- the reply is the listing of the verdict, or number 11
  check-replies :
      {before after : List ℕ} {reply : CheckReply}
      → CheckReplied (fitted program_text (length before) (check_listing r.p)) before after reply
      → CheckReplied (check_reply program (length before)) before after reply
  unfolding check_reply reply_of
  check-replies l = rw r.first.read l

  -- a program as read can be decided on
  pub decidable : (goal bounds one two : List ℕ) → length goal ≡ 40 → length bounds ≡ 56 → length one ≡ 2590 → length two ≡ 2590
      → Deciding rules n goal bounds one two
  decidable goal bounds one two g b o t =
      record {
        check = checkable r.first;
        few = omega (arith, few-rules r.first);
        room = record { first = omega arith; second = omega arith };
        goal-size = g;
        bounds-size = b;
      }

  -- what showing an overlap asks
  pub show-ready : {goal bounds one two : List ℕ} {s : Shown} → UnjoinedIn rules n goal bounds one two s → length goal ≡ 40
      → length bounds ≡ 56 → ShowReady program places goal bounds one two s
  show-ready u g b = record { rules = rules; n = n; ready = r; unjoined-in = u; goal-size = g; bounds-size = b }

  abbrev pub holds : Holds r.p.program rules n
  holds = held r.first

  -- what is told of a program with this verdict
  told-pass : {reply : CheckReply} {k : ℕ} → verdict r.p.program ≡ confluent k → NoFail reply → Told program reply
  told-pass {reply} {k} v none =
      record {
        pass = λ p e m h.
            (k, subst (λ (q : Reading). verdict q.program ≡ confluent k) (same-reading r.first.read e) v);
        fail = λ p e m h. absurd (none m h);
      }

  told-fail : {reply : CheckReply} {o : Overlap} {one two : End'} → verdict r.p.program ≡ unjoined o one two → NoPass reply
      → Told program reply
  told-fail {reply} {o} {one} {two} v none =
      record {
        pass = λ p e m h. absurd (none m h);
        fail = λ p e m h.
            (o, one, two, subst (λ (q : Reading). verdict q.program ≡ unjoined o one two) (same-reading r.first.read e) v);
      }

  -- the listing of a pass is the reply
  pub pass-replies :
      {before after : List ℕ} {reply : CheckReply} {k : ℕ} → verdict r.p.program ≡ confluent k
      → PassReplied k before after reply → Checked program before after reply
  unfolding check_listing
  pass-replies {before} {after} {reply} {k} v l =
      let naming = naming_of r.p.program.symbols r.p.constants in
      let same : line_of (ascii "CONFLUENT") (decimal k ∷ []) ≡ check_listing r.p =
      pass-listed naming k ∙ ap (verdict_listing naming) (sym v) in
      record {
        replied = check-replies
            (subst (λ (s : List ℕ). CheckReplied (fitted program_text (length before) s) before after reply) same l.replied);
        told = told-pass v l.no-fail;
      }

  -- what the program names
  termed : TermedProgram r.p
  termed = reads-accepted 9 TermedProgram (read_program program) (program-termed program) r.first.read

  count-constants : length r.p.constants ≡ r.c
  unfolding constants_of
  count-constants = ap length r.spelled ∙ tabled-length (λ i. name_of r.names (first_constant + i)) r.c

  same_names : (i : ℕ) → is_known r.k r.c i ≡ true
      → name_in program [] places i ≡ naming_of r.p.program.symbols r.p.constants i
  unfolding program_table
  same_names i h =
      let of-symbols : r.p.program.symbols ≡ symbols_of r.names r.symbols r.k =
      ap (λ (q : Program). q.symbols) r.first.holds in
      known-named program [] r.names places r.placed r.symbols r.k r.c (few-symbols r.first)
      (omega (arith, count-constants, (read_small program r.first.read).few-constants))
      (known_some r.names r.symbols r.k r.c
      (subst (All (λ (s : Symbol). Termed s.name)) of-symbols termed.symbols)
      (subst (All Termed) r.spelled termed.constants)) i h
      ∙ sym (ap (λ (ss : List Symbol). naming_of ss r.p.constants i) of-symbols
      ∙ ap (λ (cs : List (List ℕ)). naming_of (symbols_of r.names r.symbols r.k) cs i) r.spelled)

  same-rule : (i : ℕ) → i < n → (rule_of r.names rules i).name ≡ name_in program [] places (first_rule + i)
  unfolding program_table
  same-rule i l =
      rule-named program [] r.names places r.placed rules n i (few-rules r.first) l
      (subst (All (λ (q : Rule). Termed q.name)) (ap (λ (q : Program). q.rules) r.first.holds) termed.rules)

  -- an unjoined overlap is listed alike by the names of the tables
  overlap-listed : (o : Overlap) (one two : End') → verdict r.p.program ≡ unjoined o one two
      → verdict_listing (name_in program [] places) (unjoined o one two) ≡ check_listing r.p
  unfolding check_listing
  overlap-listed o one two v =
      let ss = r.p.program.symbols in
      let naming = naming_of ss r.p.constants in
      let small = read_small program r.first.read in
      let shows : Shows ss (ConstantOf r.c) o one two =
      subst (λ (c : ℕ). Shows ss (ConstantOf c) o one two) count-constants
      (overlap-shows r.p.program (ConstantOf (length r.p.constants)) (read-well_formed program r.first.read)
      (all-mono (λ q h. h.over) small.rules) (all-mono (λ q h. h.heads) small.rules) v) in
      let size = symbols-count r.first in
      overlap-named (is_known r.k r.c) (name_in program [] places) naming o one two same_names
      (rows-known r.k r.c ss o.goal.constraints size shows.declared shows.goal)
      (state-known r.k r.c ss _ _ one.state size shows.first)
      (state-known r.k r.c ss _ _ two.state size shows.second)
      ∙ ap (verdict_listing naming) (sym v)

-- an end as the listing has it: a live one, and a failed one
pub end_live : (e : Final) (n w : ℕ) → e.count ≡ Some n → w ≡ e.next
    → record { next = Some w; firings = e.firings } ≡ end_shown e
unfolding end_shown
end_live e n w y h = rw (y, h)

pub end-failed : (e : Final) → e.count ≡ None → record { next = None; firings = e.firings } ≡ end_shown e
unfolding end_shown
end-failed e y = rw y

-- the cells of an end that are listed
pub cells-few : {e : Final} {bound cells : List ℕ} → EndIn e bound cells → 5 * unwrap_or e.count 0 ≤ 2590
cells-few {e} h = go e.count refl
  where
    go : (o : Option ℕ) → e.count ≡ o → 5 * unwrap_or o 0 ≤ 2590
    go (Some n) y = omega (arith, ((rw y at h.live) refl).few)
    go None y = omega arith

pub listed-within : {e : Final} {bound cells : List ℕ} {a : ℕ} → EndIn e bound cells → a ≡ listed_cells e → a ≤ length cells
unfolding listed_cells
listed-within {e} {bound} {cells} {a} h k = go e.count refl k
  where
    go : (o : Option ℕ) → e.count ≡ o → a ≡ 5 * unwrap_or o 0 → a ≤ length cells
    go (Some n) y q = omega (arith, q, (rw y at h.within) refl)
    go None y q = omega (arith, q)

-- an end as the listing has it
module _ (e : Final) (bound cells : List ℕ) (a : ℕ) (x : End) (cut : a ≡ listed_cells e) (shown : x ≡ end_shown e) where
  end_same : final_of bound (take a cells) x ≡ final_in e bound cells
  unfolding final_of end_in state_of listed_cells end_shown
  end_same = rw shown (go e.count refl cut)
    where
      go : (o : Option ℕ) → e.count ≡ o → a ≡ 5 * unwrap_or o 0
          → ◌≡◌ {A = End'}
          (record { state = state_of (is_some (end_shown e).next) (unwrap_or (end_shown e).next 0) bound (take a cells); firings = e.firings })
          (record { state = state_of (is_some e.count) e.next bound (take (5 * unwrap_or e.count 0) cells); firings = e.firings })
      go (Some n) y q = rw (y, q)
      go None y q = rw y

  end-listable : EndIn e bound cells → Listable (is_some x.next) (unwrap_or x.next 0) bound (take a cells)
  unfolding listed_cells end_shown
  end-listable h = rw shown (go e.count refl cut)
    where
      go : (o : Option ℕ) → e.count ≡ o → a ≡ 5 * unwrap_or o 0
          → Listable (is_some (end_shown e).next) (unwrap_or (end_shown e).next 0) bound (take a cells)
      go (Some n) y q =
          rw (y, q) (record { few = omega (arith, h.next-few (ap is_some y)); live = λ _. (rw y at h.numbered) refl })
      go None y q =
          rw y (record { few = omega arith; live = λ z. absurd (let w : ◌≡◌ {A = ℕ} 0 1 = cc in omega arith) })

-- a front has at most as many cells as there are
pub front-few : (e : ℕ) (cells : List ℕ) {n : ℕ} → length cells ≡ n → length (take e cells) ≤ n
front-few e cells size = omega (arith, length-take e cells)

-- the listing of an unjoined overlap, from its cells and ends as they are lent
module _ {program places goal bounds one two : List ℕ} {s : Shown} (r : ShowReady program places goal bounds one two s)
    {a b : ℕ} {x y : End} (first-cut : a ≡ listed_cells s.one) (second-cut : b ≡ listed_cells s.two)
    (first-shown : x ≡ end_shown s.one) (second-shown : y ≡ end_shown s.two)
  where
    abbrev v : ℕ
    v = s.variables

    abbrev listed : Listing
    listed =
        record {
          first = s.first;
          second = s.second;
          heads = s.heads;
          partners = s.partners;
          variables = v;
          one = x;
          two = y;
        }

    abbrev used : List ℕ
    used = take (v + v) bounds

    first-bound : take v used ≡ take v bounds
    first-bound = take-take v (v + v) bounds (omega arith)

    second-bound : drop v used ≡ take v (drop v bounds)
    second-bound =
        let e : v + v - v ≡ v = omega arith in
        drop-take v (v + v) bounds (omega arith) ∙ ap (λ (k : ℕ). take k (drop v bounds)) e

    -- it can be listed
    pub show-listable : {cells : List ℕ} → length cells ≤ 40 → OverlapListable cells used (take a one) (take b two) listed
    show-listable few =
        let u = r.unjoined-in in
        record {
          shaped = record {
            first-few = omega (arith, u.first, few-rules r.ready.first);
            second-few = omega (arith, u.second, few-rules r.ready.first);
            heads-few = u.heads-few;
          };
          goal-few = omega (arith, few);
          within =
              omega (arith, length-take-le (v + v) bounds (omega (arith, u.variables-few, r.bounds-size)));
          first-end = rw first-bound (end-listable s.one (take v bounds) one a x first-cut first-shown u.first-end);
          second-end =
              rw second-bound (end-listable s.two (take v (drop v bounds)) two b y second-cut second-shown u.second-end);
        }

    -- all variables of the overlap's goal are the goal's
    own-variables : (o : Overlap) (one' two' : End') → verdict r.ready.p.program ≡ unjoined o one' two'
        → every (λ c. every (is_below o.goal.variables) c.terms) o.goal.constraints ≡ true
    unfolding is_goal_of
    own-variables o one' two' e =
        let ss = r.ready.p.program.symbols in
        let below : Constraint → Bool = λ c. every (is_below o.goal.variables) c.terms in
        let goal = (((verdict-exact r.ready.p.program (read-well_formed program r.ready.first.read)).shown o one' two').0 e
        ).goal in
        all-every below (all-mono (λ c h. (and-true (is_declared ss c) (below c) h).1)
        (every-all (λ c. is_declared ss c && below c) o.goal.constraints goal))

    -- the tables hold the overlap of the verdict
    shown_by : (o : Overlap) → ShownIn r.ready.p.program (holds r.ready).names r.rules goal bounds one two s o
        → ShownBy (name_in program [] places) (take (5 * s.count) goal) listed o
    unfolding cell_goal rule_at
    shown_by o h =
        record {
          first-name =
              ap (λ q. q.rule.name) h.first ∙ same-rule r.ready s.first r.unjoined-in.first;
          second-name =
              ap (λ q. q.rule.name) h.second ∙ same-rule r.ready s.second r.unjoined-in.second;
          partners-same = h.partners-same;
          goal-same = ap (λ q. q.constraints) h.goal-same;
          goal-own =
              let same : o.goal.variables ≡ v = ap (λ q. q.variables) h.goal-same in
              subst (λ (n : ℕ). every (λ c. every (is_below n) c.terms) o.goal.constraints ≡ true) same
              (own-variables o _ _ h.decided);
        }

    -- its listing is the reply
    pub show-replies :
        {before after : List ℕ} {reply : CheckReply}
        → OverlapReplied program places (take (5 * s.count) goal) used (take a one) (take b two) listed before after reply
        → Checked program before after reply
    show-replies {before} {after} {reply} l =
        let (o, h) = r.unjoined-in.shown r.ready.p.program (holds r.ready) in
        let first-same : final_of (take v used) (take a one) x ≡ final_in s.one (take v bounds) one =
        ap (λ (w : List ℕ). final_of w (take a one) x) first-bound
        ∙ end_same s.one (take v bounds) one a x first-cut first-shown in
        let second-same : final_of (drop v used) (take b two) y ≡ final_in s.two (take v (drop v bounds)) two =
        ap (λ (w : List ℕ). final_of w (take b two) y) second-bound
        ∙ end_same s.two (take v (drop v bounds)) two b y second-cut second-shown in
        let same : verdict_listing (name_in program [] places)
        (unjoined o (final_of (take v used) (take a one) x) (final_of (drop v used) (take b two) y)) ≡ check_listing r.ready.p =
        rw (first-same, second-same) (overlap-listed r.ready o _ _ h.decided) in
        record {
          replied = check-replies r.ready
              (subst (λ (t : List ℕ). CheckReplied (fitted program_text (length before) t) before after reply) same
              (l.replied o (shown_by o h)));
          told = told-fail r.ready h.decided l.no-pass;
        }

-- a program that is refused, which leaves the output as it was
pub check-refused :
    {program names places names' places' symbols' rules' output : List ℕ} {reply : Result Counts FaultAt}
    → ProgramIn program names places names' places' symbols' rules' reply → (at : FaultAt) (number : ℕ)
    → reply ≡ Err at → number ≡ number_of at.fault
    → Checked program output output (Err (record { number = number; text = S; line = at.line }))
unfolding program_answer check_reply reply_of check_meant listed_bytes text_meant output_after
check-refused {program} {output = output} r at number h q =
    let e : read_program program ≡ refused number at.line = rw q (sym (rw h at r.answers)) in
    record {
      replied = rw e (record { meant = refl; counted = omega arith; output = refl });
      told = record {
        pass = λ p k. absurd (let z : ◌≡◌ {A = ℕ} 0 1 = cc in omega arith);
        fail = λ p k. absurd (let z : ◌≡◌ {A = ℕ} 0 1 = cc in omega arith);
      };
    }

-- a program as read, in its tables
pub check-ready :
    {program names places symbols rules : List ℕ} {c : Counts} → GoalReady program names places symbols rules c
    → CheckReady program places rules c.rules
check-ready {program} {names} {places} {symbols} {rules} {c} r =
    record {
      names = names;
      symbols = symbols;
      k = c.symbols;
      c = c.constants;
      p = r.p;
      first = r.first;
      spelled = r.spelled;
      placed = r.placed [];
    }

-- demand 3 of such an answer, and of the bytes that it leaves
pub checked-demand :
    {program before after : List ℕ} {r : CheckReply} → Checked program before after r
    → CheckReplied (check_reply program (length before)) before after r × Demand3Of plain program before after r
checked-demand {program} {before} {after} {r} c =
    (c.replied, demand-plain program before after r c.replied c.told)
