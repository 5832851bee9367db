-- `lines::heads::constraint_head` meets its contract: numbers 4 and 6, or the symbol.
-- Assumes nothing.
use mathlib.Core.Path.{◌≡◌, sym, ◌∙◌}
use mathlib.Core.Bool.{false}
use native.Mathlib.Omega.{arith}
use Rattle.syntax.specs.Forms.{is_constraint_faulty}
use Rattle.lines.proofs.Held.{second-name, second_key}
use Rattle.lines.proofs.HeadLaws.{head-faulty, head-unknown, head-other, head-found}
use Rattle.lines.proofs.heads.constraint_head.Goals as goal

pub returns-then-is_faulty : goal.returns-then-is_faulty
returns-then-is_faulty c =
    (λ fs n k h e. head-faulty _ n fs (sym (c.is_faulty.ensures.0 fs h) ∙ c.if-is_faulty.true), omega arith)

pub returns-then-symbols-at : goal.returns-then-symbols-at
returns-then-symbols-at c = (
  λ fs n k h e.
      let formed : is_constraint_faulty fs ≡ false = sym (c.is_faulty.ensures.0 fs h) ∙ c.if-is_faulty.false in
      head-unknown fs _ _ n k _ _ formed (λ i. omega (arith, c.shared_slice_known-1.given i)) e
      c.requires
      (second-name fs formed) (second_key fs formed _ h.keyed) c.find_key-s.ensures.0 c.if-symbols-at.true,
  omega arith,
)

pub returns-then-arity-f : goal.returns-then-arity-f
returns-then-arity-f c = (
  λ fs n k h e.
      let formed : is_constraint_faulty fs ≡ false = sym (c.is_faulty.ensures.0 fs h) ∙ c.if-is_faulty.false in
      head-other fs _ _ n k _ _ formed (λ i. omega (arith, c.shared_slice_known-1.given i)) e
      c.requires
      (second-name fs formed) (second_key fs formed _ h.keyed) c.find_key-s.ensures.0 c.if-symbols-at.false
      (omega (arith, h.counted, (c.is_faulty.ensures.1 c.if-is_faulty.false).0))
      (λ z. c.if-arity-f.true (omega (arith, z, c.wide-arity.ensures.0, h.counted))),
  omega arith,
)

pub returns : goal.returns
returns c = (
  λ fs n k h e.
      let formed : is_constraint_faulty fs ≡ false = sym (c.is_faulty.ensures.0 fs h) ∙ c.if-is_faulty.false in
      head-found fs _ _ n k _ _ formed (λ i. omega (arith, c.shared_slice_known-1.given i)) e
      c.requires
      (second-name fs formed) (second_key fs formed _ h.keyed) c.find_key-s.ensures.0 c.if-symbols-at.false
      (omega (arith, c.wide-arity.ensures.0, h.counted)),
  (
    (c.is_faulty.ensures.1 c.if-is_faulty.false).0,
    (c.is_faulty.ensures.1
        c.if-is_faulty.false).1,
    omega arith,
  ),
)
