-- Document 01's starred rehearsal cases as one table, from text bytes to listing bytes.
--   Case, shown       a case, and what the definitions show for it
--   starred           the table: each case with what it must show
-- The theorem `starred-hold` of proofs/Starred.antt says that all rows hold, and `starred-unequal` that the two ends are no
-- variants of each other. Assumes nothing.
use Rattle.std.specs.Prelude.{ℕ, cond, List, [], ◌∷◌, ◌++◌}
use Prim.Native.String.{String}
use Rattle.std.proofs.Math.Option.{Option, none}
use Rattle.text.specs.Bytes.{ascii}
use Rattle.text.specs.Lists.{onward}
use Rattle.semantics.specs.Terms.{Term, var, Rule, State, live}
use Rattle.semantics.specs.Variants.{same_state}
use Rattle.semantics.specs.Overlaps.{Numbered, Overlap, overlap_of, first_end, second_end}
use Rattle.semantics.specs.Verdict.{unjoined, is_joinable}
use Rattle.syntax.specs.Programs.{Reading, read_program}
use Rattle.listing.specs.Listing.{naming_of}
use Rattle.verdicts.specs.Verdicts.{verdict_listing}
use Rattle.replies.specs.Replies.{listing, program_text, reply_of, run_reply, check_reply, printed, ample}

-- a case: the check of a program; the run of a goal over a program; the overlap of a program's first rule with itself by a
-- list of partners; the comparison of two states
pub data Case : Type 0 where
  check : String → Case
  run : String → String → Case
  self_overlap : String → List ℕ → Case
  comparison : State → State → Case

-- the listing of an overlap that does not join
unfoldable pub overlap_shown : Reading → Overlap → List ℕ
overlap_shown p o =
    cond (is_joinable p.program o) (ascii "JOINS\n")
    (verdict_listing (naming_of p.program.symbols p.constants)
    (unjoined o (first_end p.program o) (second_end p.program o)))

-- the overlap of a program's first rule with itself, by a list of partners
unfoldable pub self_overlap_of : List Rule → List ℕ → Option Overlap
self_overlap_of [] partners = none
self_overlap_of (r ∷ rs) partners =
    let i : Numbered = record { number = 0; rule = r } in
    overlap_of i i partners

-- what the definitions show for a case
unfoldable pub shown : Case → List ℕ
shown (check program) = printed (check_reply (ascii program) ample)
shown (run program goal) = printed (run_reply (ascii program) (ascii goal) ample)
shown (self_overlap program partners) =
    printed
    (reply_of program_text (read_program (ascii program))
    (λ p. listing (onward (self_overlap_of p.program.rules partners) (ascii "NONE\n") (overlap_shown p))))
shown (comparison s t) = cond (same_state s t) (ascii "EQUAL\n") (ascii "UNEQUAL\n")

-- a row of the table
pub record Row : Type 0 where
  pub case : Case
  pub expected : List ℕ

-- the sheet of document 01's section 'Printed answers'
unfoldable pub two_ways : String
two_ways = "K,a,0,2\nK,b,0,1\nK,c,0,1\nR,one\nH,a\nB,b\nR,two\nH,a\nB,c\n"

-- refl alone: leq(X,X) to nothing
unfoldable pub reflexive : String
reflexive = "K,leq,2,1\nR,refl\nH,leq,X,X\n"

-- LEQ: refl, anti and idem
unfoldable pub leq : String
leq = "K,leq,2,1\nR,refl\nH,leq,X,X\nR,anti\nH,leq,X,Y\nH,leq,Y,X\nE,X,Y\nR,idem\nH,leq,X,Y\nH,leq,X,Y\nB,leq,X,Y\n"

-- p(X), q(Y) to nothing
unfoldable pub pq : String
pq = "K,p,1,1\nK,q,1,1\nR,pq\nH,p,X\nH,q,Y\n"

-- a state without goal variables that holds p(s, t), p being symbol 0
unfoldable pub holding : Term → Term → State
holding s t = live 2 [] (record { symbol = 0; terms = s ∷ t ∷ [] } ∷ [])

-- an end of an overlap of pq, whose three goal variables stay unbound, with what else it has
unfoldable pub pq_end : String → List ℕ
pq_end rest = ascii "END,1\nA,V1,V1\nA,V2,V2\nA,V3,V3\n" ++ ascii rest

-- the overlap of pq with itself on q, and on p
unfoldable pub on_q : List ℕ
on_q = ascii "UNJOINED,pq,pq\nP,2,2\nG,p,V1\nG,q,V2\nG,p,V3\n" ++ (pq_end "S,p,V3\n" ++ pq_end "S,p,V1\n")

unfoldable pub on_p : List ℕ
on_p = ascii "UNJOINED,pq,pq\nP,1,1\nG,p,V1\nG,q,V2\nG,q,V3\n" ++ (pq_end "S,q,V3\n" ++ pq_end "S,q,V2\n")

-- a row of the table: a case, and what it must show
unfoldable pub row : Case → String → Row
row c text = record { case = c; expected = ascii text }

-- the table: the empty sheet; the sheet above; refl alone; p(X), q(Y) to nothing, as the check shows it, and its overlaps on q
-- and on p; LEQ with three goals; the ends p(U1,U2) and p(U1,U1), either way round
unfoldable pub starred : List Row
starred =
    row (check "") "CONFLUENT,0\n"
    ∷ row (check two_ways) "UNJOINED,one,two\nP,1,1\nG,a\nEND,1\nS,b\nEND,1\nS,c\n"
    ∷ row (check reflexive) "CONFLUENT,1\n"
    ∷ record { case = check pq; expected = on_q }
    ∷ record { case = self_overlap pq (0 ∷ 2 ∷ []); expected = on_q }
    ∷ record { case = self_overlap pq (1 ∷ 0 ∷ []); expected = on_p }
    ∷ row (run leq "G,leq,A,B\nG,leq,B,A\nG,leq,A,c\n") "END,1\nA,A,A\nA,B,A\nS,leq,A,c\n"
    ∷ row (run leq "G,leq,a,b\nG,leq,b,a\n") "FAILED,1\n"
    ∷ row (run leq "") "END,0\n"
    ∷ row (comparison (holding (var 0) (var 1)) (holding (var 0) (var 0))) "UNEQUAL\n"
    ∷ row (comparison (holding (var 0) (var 0)) (holding (var 0) (var 1))) "UNEQUAL\n"
    ∷ []
