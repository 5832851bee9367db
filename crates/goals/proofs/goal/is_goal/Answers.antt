-- `goals::goal::is_goal` meets its contract: a G line, or any other form.
-- Assumes nothing.
use Rattle.std.proofs.Common.{◌≡◌, refl, ap, ◌∙◌, false, sym}
use Rattle.syntax.specs.Goals.{is_goal_form}
use Rattle.lines.specs.declared.LineForm.{LineForm}
use Rattle.lines.specs.declared.LineForm.TheVariants.{Symbol, Rule, Kept, Head, Body, Equation, Goal, Nothing}
use Rattle.lines.specs.Read.{form_meant}
use Rattle.goals.proofs.goal.is_goal.Goals as goal

-- a form that is no G line's
other_form : (x : LineForm) → (x ≡ Goal → ⊥) → false ≡ is_goal_form (form_meant x)
unfolding is_goal_form form_meant
other_form Symbol h = refl
other_form Rule h = refl
other_form Kept h = refl
other_form Head h = refl
other_form Body h = refl
other_form Equation h = refl
other_form Goal h = absurd (h refl)
other_form Nothing h = refl

pub returns-in-Goal : goal.returns-in-Goal
unfolding is_goal_form form_meant
returns-in-Goal c =
    λ f e.
    sym (ap (λ (x : LineForm). is_goal_form (form_meant x)) c.in-Goal.is) ∙ ap is_goal_form (c.form_of.ensures f e)

pub returns-in_default : goal.returns-in_default
returns-in_default c = λ f e. other_form _ c.in_default.not-Goal ∙ ap is_goal_form (c.form_of.ensures f e)
