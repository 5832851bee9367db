-- `deep` meets its contract: a copy of the colours, one constraint that stands out, rounds and a digest.
-- Assumes nothing.
use Rattle.std.proofs.Common.{sym, ◌∙◌}
use Rattle.colours.proofs.KeyLaws.{deep-done, lent-in}
use Rattle.colours.proofs.keys.deep.Goals as goal

pub light-requires : goal.light-requires
light-requires c = (
  lent-in _ c.args.i _ _ c.requires.0.below (c.copy_from_slice.ensures.len ∙ c.requires.2),
  c.requires.0.same_size ∙ sym (c.copy_from_slice.ensures.len ∙ c.requires.2),
  c.requires.0.empty,
)

pub returns : goal.returns
returns c = (
  deep-done _ c.args.cells.now _ c.args.i _ _ _ _ _ c.requires.0.size c.requires.1
      c.copy_from_slice.ensures.after c.light.ensures.0 c.refine_times.ensures.0
      c.digest_of.ensures,
  c.refine_times.ensures.1,
)
