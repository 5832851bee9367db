-- What a program in another language reads off the number that a C export returns: the answer.
--   refusal_read      the refusal of a number from 2^32 on: its number above 32 bits, the byte of its letter above 16, its line
--   run_read          the answer of a number of `roketuma_run`
--   check_read        the answer of a number of `roketuma_check`
-- Of what is read so holds all that `run` and `check` promise of their answers: for `roketuma_check` its contract says it
-- (`CheckReturned`), for `roketuma_run` `run-number-decodes` of proofs/NumberLaws.antt. Assumes nothing.
use Rattle.std.specs.Prelude.{ℕ, ◌-◌, ◌/◌, ◌%◌, cond, eqb, ltb}
use Rattle.answers.specs.declared.TextName.{TextName}
use Rattle.answers.specs.declared.TextName.TheVariants.{S, G}
use Rattle.answers.specs.declared.Refusal.{Refusal}
use Rattle.answers.specs.Results.{RunReply}
use Rattle.std.specs.Prelude.{Ok, Err}
use Rattle.answers.specs.Results.{CheckReply}
use Rattle.answers.specs.declared.Verdict.TheVariants.{Confluent, Unjoined}

-- the letter that a byte is: 83 is S
unfoldable pub letter_read : ℕ → TextName
letter_read b = cond (eqb b 83) S G

-- the refusal of a number from 2^32 on
unfoldable pub refusal_read : ℕ → Refusal
refusal_read n = record { number = n / 4294967296; text = letter_read (n / 65536 % 65536); line = n % 65536 }

-- the answer of a run: a number below 2^32 is the length of a listing
unfoldable pub run_read : ℕ → RunReply
run_read n = cond (ltb n 4294967296) (Ok n) (Err (refusal_read n))

-- the answer of a check: a number below 2^31 is the length of a pass's listing; one from there to below 2^32 is 2^31 more than
-- the length of an unjoined overlap's
unfoldable pub check_read : ℕ → CheckReply
check_read n =
    cond (ltb n 2147483648) (Ok (Confluent n)) (cond (ltb n 4294967296) (Ok (Unjoined (n - 2147483648))) (Err (refusal_read n)))
