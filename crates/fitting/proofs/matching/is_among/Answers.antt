-- `is_among` meets its contract: some of the positions is p.
-- Assumes nothing.
use Rattle.std.proofs.Common.{eqb, refl, rules}
use Rattle.std.proofs.lemmas.List.Recursion.{or_is}
use Rattle.text.specs.Lists.{has}
use Rattle.fitting.proofs.matching.is_among.Goals as goal

pub returns : goal.returns
returns c =
    or_is (has c.args.p) (eqb c.args.p) refl (λ _ _. refl) c.args.positions.now 0 _ (search rules) (search rules)
