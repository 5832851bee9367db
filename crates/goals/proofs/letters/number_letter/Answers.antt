-- `goals::letters::number_letter` meets its contract: no letter, one that is known, and a new one.
-- Assumes nothing.
use mathlib.Core.Path.{refl}
use native.Mathlib.Omega.{arith}
use Rattle.goals.proofs.GoalLetters.{letter-low, letter-known, letter-fits, letter-more}
use Rattle.goals.proofs.letters.number_letter.Goals as goal

pub returns-then-cell-lt256 : goal.returns-then-cell-lt256
returns-then-cell-lt256 c =
    letter-low _ _ _ c.requires.0 c.requires.1 c.requires.2 c.if-cell-lt256.true

pub returns-then-k-count : goal.returns-then-k-count
returns-then-k-count c =
    letter-known _ _ _ c.requires.0 c.requires.1 c.requires.2 c.if-cell-lt256.false _ _ refl
    c.find_letter-k.ensures.0 c.if-k-count.true

pub bounds-letters-count : goal.bounds-letters-count
bounds-letters-count c =
    omega (
      arith,
      c.requires.1,
      letter-fits _ _ _ c.requires.0 c.requires.1 c.requires.2 c.if-cell-lt256.false _ _
          refl c.find_letter-k.ensures.0
          c.if-k-count.false,
    )

pub returns : goal.returns
returns c =
    letter-more _ _ _ c.requires.0 c.requires.1 c.requires.2 c.if-cell-lt256.false _ _ refl
    c.find_letter-k.ensures.0 c.if-k-count.false
