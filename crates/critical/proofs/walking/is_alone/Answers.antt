-- `is_alone` meets its contract: all of the first m partners are 0.
-- Assumes nothing.
use Rattle.std.proofs.Common.{eqb, refl, rules, take}
use Rattle.std.proofs.lemmas.List.Recursion.{and_is}
use Rattle.text.specs.Lists.{every}
use Rattle.critical.proofs.walking.is_alone.Goals as goal

pub returns : goal.returns
returns c =
    and_is (every (eqb 0)) (eqb 0) refl (λ _ _. refl) (take c.args.m c.args.partners) 0 _ (search rules) (search rules)
