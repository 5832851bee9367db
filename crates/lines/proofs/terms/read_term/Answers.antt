-- `lines::terms::read_term` meets its contract: a letter, a constant that is known, no room for one, and a new one.
-- Assumes nothing.
use native.Mathlib.Omega.{arith}
use Rattle.lines.proofs.TermLaws.{term-letter, term-known, term-full, term-new}
use Rattle.lines.proofs.terms.read_term.Goals as goal

pub returns-then-key-lt28 : goal.returns-then-key-lt28
returns-then-key-lt28 c =
    term-letter _ _ _ _ _ c.requires.0 c.requires.1 c.requires.2 c.if-key-lt28.true

pub returns-then-k-count : goal.returns-then-k-count
returns-then-k-count c =
    term-known _ _ _ _ _ c.requires.0 c.requires.1 c.requires.2 _ c.constant-c.result
    c.if-key-lt28.false (λ i. omega (
      arith,
      c.slice_known-1.given i,
    )) c.constant-c.ensures.0 c.find_key-k.ensures.0
    c.if-k-count.true

pub returns-then-full : goal.returns-then-full
returns-then-full c =
    term-full _ _ _ _ _ c.requires.0 c.requires.1 c.requires.2 _ c.constant-c.result
    c.if-key-lt28.false (λ i. omega (
      arith,
      c.slice_known-1.given i,
    )) c.constant-c.ensures.0 c.find_key-k.ensures.0
    c.if-k-count.false (omega (arith, c.if-full.true))

pub returns : goal.returns
returns c =
    term-new _ _ _ _ _ c.requires.0 c.requires.1 c.requires.2 _ c.constant-c.result
    c.if-key-lt28.false (λ i. omega (
      arith,
      c.slice_known-1.given i,
    )) c.constant-c.ensures.0 c.find_key-k.ensures.0
    c.if-k-count.false c.if-full.false
