-- `programs::program::read_line` meets its contract: the line may not stand there, or is what its form asks.
-- Assumes nothing.
use Rattle.std.proofs.Common.{◌≡◌, ap, arith}
use Rattle.std.proofs.Math.Seq.{length-take-le}
use Rattle.std.proofs.lemmas.Result.{err_from_is_err_and}
use mathlib.Core.Logic.{inl, inr}
use Rattle.std.specs.Prelude.{None, Err}
use Rattle.faults.specs.declared.Fault.TheVariants.{FormMisplaced}
use Rattle.lines.specs.Read.{form_meant}
use Rattle.programs.specs.Read.{part_form}
use Rattle.programs.proofs.Whole.{begun_kept, begun-head, begun-body, begun-equation, sound-moved}
use Rattle.programs.proofs.Whole.{line-placeless, line-symbol, line-rule, line-adds, line-none}
use Rattle.programs.proofs.Whole.{goal-form, no-form}
use Rattle.programs.proofs.program.read_line.Goals as goal

pub returns-in_err-section : goal.returns-in_err-section
returns-in_err-section c =
    let none : c.after.result ≡ None = rw c.in_err-section.was at c.ok_or.ensures.ok_part in
    let given : c.ok_or.result ≡ Err FormMisplaced = rw none at c.ok_or.ensures.value in
    let met : c.in_err-section.field-0.0 ≡ FormMisplaced = let y = c.in_err-section.was in cc in
    let p = err_from_is_err_and c.from_residual.result c.from_residual.ensures.1 in
    rw (p.1, p.2, met)
    (line-placeless _ _ _ _ _ _ _ _ _ c.form_of-form.ensures c.after.ensures none)

pub kept_line-requires : goal.kept_line-requires
unfolding form_meant
kept_line-requires c = (
  c.requires.0,
  length-take-le _ c.args.symbols.now (omega (arith, c.requires.1, c.requires.3.few-symbols)),
  c.requires.2,
  sound-moved _ _ _ c.requires.3,
  c.requires.4 (begun_kept _ _ _ c.after.ensures _ (rw c.in_ok-section.was at c.ok_or.ensures.ok_part) (ap form_meant
      c.in-Kept.is)),
)

pub constraint_line-requires : goal.constraint_line-requires
unfolding form_meant part_form
constraint_line-requires c = (
  c.requires.0,
  length-take-le _ c.args.symbols.now (omega (arith, c.requires.1, c.requires.3.few-symbols)),
  c.requires.2,
  sound-moved _ _ _ c.requires.3,
  c.requires.4 (begun-head _ _ _ c.after.ensures _ (rw c.in_ok-section.was at c.ok_or.ensures.ok_part) (ap form_meant
      c.in-Head.is)),
  omega arith,
)

pub constraint_line-requires-in-Body : goal.constraint_line-requires-in-Body
unfolding form_meant part_form
constraint_line-requires-in-Body c = (
  c.requires.0,
  length-take-le _ c.args.symbols.now (omega (arith, c.requires.1, c.requires.3.few-symbols)),
  c.requires.2,
  sound-moved _ _ _ c.requires.3,
  c.requires.4 (begun-body _ _ _ c.after.ensures _ (rw c.in_ok-section.was at c.ok_or.ensures.ok_part) (ap form_meant
      c.in-Body.is)),
  omega arith,
)

pub equation_line-requires : goal.equation_line-requires
unfolding form_meant
equation_line-requires c = (
  c.requires.0,
  c.requires.2,
  sound-moved _ _ _ c.requires.3,
  c.requires.4 (begun-equation _ _ _ c.after.ensures _ (rw c.in_ok-section.was at c.ok_or.ensures.ok_part) (ap
      form_meant c.in-Equation.is)),
)

pub returns-in-Symbol : goal.returns-in-Symbol
unfolding form_meant
returns-in-Symbol c =
    line-symbol _ _ _ _ _ _ _ _ _ c.form_of-form.ensures c.after.ensures
    _ (rw c.in_ok-section.was at c.ok_or.ensures.ok_part) (ap form_meant c.in-Symbol.is) c.requires.3 c.requires.4
    c.symbol_line.ensures

pub returns-in-Rule : goal.returns-in-Rule
unfolding form_meant
returns-in-Rule c =
    line-rule _ _ _ _ _ _ _ _ _ c.form_of-form.ensures c.after.ensures
    _ (rw c.in_ok-section.was at c.ok_or.ensures.ok_part) (ap form_meant c.in-Rule.is) c.rule_line.ensures

pub returns-in-Kept : goal.returns-in-Kept
unfolding form_meant
returns-in-Kept c =
    line-adds _ _ _ _ _ _ _ _ _ c.form_of-form.ensures c.after.ensures
    _ (rw c.in_ok-section.was at c.ok_or.ensures.ok_part) (ap form_meant c.in-Kept.is) c.kept_line.ensures

pub returns-in-Head : goal.returns-in-Head
unfolding form_meant part_form
returns-in-Head c =
    line-adds _ _ _ _ _ _ _ _ _ c.form_of-form.ensures c.after.ensures
    _ (rw c.in_ok-section.was at c.ok_or.ensures.ok_part) (ap form_meant c.in-Head.is)
    c.constraint_line.ensures.0

pub returns-in-Body : goal.returns-in-Body
unfolding form_meant part_form
returns-in-Body c =
    line-adds _ _ _ _ _ _ _ _ _ c.form_of-form.ensures c.after.ensures
    _ (rw c.in_ok-section.was at c.ok_or.ensures.ok_part) (ap form_meant c.in-Body.is)
    c.constraint_line-in-Body.ensures.0

pub returns-in-Equation : goal.returns-in-Equation
unfolding form_meant
returns-in-Equation c =
    line-adds _ _ _ _ _ _ _ _ _ c.form_of-form.ensures c.after.ensures
    _ (rw c.in_ok-section.was at c.ok_or.ensures.ok_part) (ap form_meant c.in-Equation.is)
    (c.equation_line.ensures _)

pub returns-in-Goal : goal.returns-in-Goal
unfolding form_meant
returns-in-Goal c =
    line-none _ _ _ _ _ _ _ _ _ c.form_of-form.ensures c.after.ensures
    _ (rw c.in_ok-section.was at c.ok_or.ensures.ok_part)
    (elim c.in-Goal.is [ inl e ↦ rw e (goal-form _) | inr e ↦ rw e (no-form _) ])
