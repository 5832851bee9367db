-- The sweep: what a short program and a short goal meet that have any byte at any place.
--   digit_of           the digit of the number that a reply has
--   swept_digit        the digit of what the texts with a byte at a place meet
-- Assumes nothing.
use Rattle.std.specs.Prelude.{ℕ, ◌+◌, ◌-◌, cond, List, [], ltb, set}
use Rattle.text.specs.Bytes.{ascii}
use Rattle.replies.specs.Replies.{Reply, refusal, listing, run_reply, ample}

-- the digit of a number below 10, and `?` of any other
unfoldable pub number_digit : ℕ → ℕ
number_digit number = cond (ltb number 10) (48 + number) 63

-- the digit of the number that a reply has: 0 for a listing
unfoldable pub digit_of : Reply → ℕ
digit_of (refusal number text line) = number_digit number
digit_of (listing bytes) = 48

-- the texts: a program; a goal, and the program that it is over
unfoldable pub swept_program : List ℕ
swept_program = ascii "K,p,2,1\nR,r\nH,p,X,a\nE,X,b\n"

unfoldable pub swept_goal : List ℕ
swept_goal = ascii "G,p,A,a\nG,p,b,A\n"

unfoldable pub goal_program : List ℕ
goal_program = ascii "K,p,2,1\n"

-- the digit of place i and byte b: the first 26 places are the program's, the next 16 the goal's, and there are no others
unfoldable pub swept_digit : ℕ → ℕ → ℕ
swept_digit i b =
    cond (ltb i 26) (digit_of (run_reply (set swept_program i b) [] ample))
    (cond (ltb i 42) (digit_of (run_reply goal_program (set swept_goal (i - 26) b) ample)) 63)
