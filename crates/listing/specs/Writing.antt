-- What a function that writes asks and promises: bytes put into an output from a place on.
--   laid         an output with bytes laid over it from a place on
--   Countable    bytes whose end the machine can count to
--   Writes       what a function that writes promises
--   Puts         what a value that writes promises at the front of every output
--   listed_in, listed_over, ListedAs     the reply of a listing, and every byte of the output afterwards
--   ample        room for every listing of a run and of a check
-- A writer asks no room: where its bytes do not fit it only counts them, so that counting is writing into no output.
-- Assumes nothing.
use Rattle.std.specs.Prelude.{ℕ, ◌+◌, ◌≤◌, ◌<◌, cond, List, ◌++◌, ◌≡◌, Option, None, Some, ltb, length, take, drop}
use Rattle.std.specs.Fn.{Shared}
use denote.Ref.{MutBor}
use Rattle.text.specs.Lists.{overlaid}

-- an output with bytes laid over it from a place on
unfoldable pub laid : ℕ → List ℕ → List ℕ → List ℕ
laid at bytes before = take at before ++ (bytes ++ drop (at + length bytes) before)

-- bytes from a place on whose end is one of the machine's numbers
pub record Countable (at : ℕ) (bytes : List ℕ) : Type 0 where
  pub few : at + length bytes < 18446744073709551616

-- the place behind the bytes is answered, and where they fit they stand in the output, the rest as before
pub record Writes (bytes : List ℕ) (at : ℕ) (before after : List ℕ) (end : ℕ) : Type 0 where
  pub counted : end ≡ at + length bytes
  pub placed : at + length bytes ≤ length before → after ≡ laid at bytes before

-- bytes that a value writes at the front of every output that it is called with
pub record Puts {F : Type 0} (g : Shared F (MutBor (List ℕ) × Unit {0}) (ℕ × (MutBor (List ℕ) × Unit {0}))) (put : F)
    (bytes : List ℕ) : Type 0 where
  pub writes : (lent left : MutBor (List ℕ)) (end : ℕ) → g.post put (lent, tt) (end, (left, tt))
      → Writes bytes 0 lent.now left.now end

-- the reply for an output of some room: none where the listing does not fit, and otherwise how many bytes it has
unfoldable pub listed_in : ℕ → List ℕ → Option ℕ
listed_in room bytes = cond (ltb room (length bytes)) None (Some (length bytes))

-- every byte of the output afterwards: untouched where the listing does not fit; the listing, and then the old bytes, otherwise
unfoldable pub listed_over : List ℕ → List ℕ → List ℕ
listed_over bytes before = cond (ltb (length before) (length bytes)) before (overlaid bytes before)

-- what a listing promises
pub record ListedAs (bytes before after : List ℕ) (reply : Option ℕ) : Type 0 where
  pub answer : reply ≡ listed_in (length before) bytes
  pub output : after ≡ listed_over bytes before

-- room for every listing of a run and of a check (`end-ample` in proofs/SizeLaws.antt; `run_fits` and `check-fits` in replies)
unfoldable pub ample : ℕ
ample = 32768
