-- `partner_of` meets its contract: the search among the first m partners.
-- Assumes nothing.
use Rattle.std.proofs.Common.{rules, arith, take, ◌≡◌, length, length-take-le}
use Rattle.overlaps.proofs.PositionLaws.{place_of}
use Rattle.overlaps.proofs.finishing.partner_of.Goals as goal

pub returns : goal.returns
returns c =
    let size : length (take c.args.m c.args.partners) ≡ c.args.m = length-take-le _ _ (omega arith) in
    rw size at (place_of c.args.d (take c.args.m c.args.partners) c.position.result (search rules))
