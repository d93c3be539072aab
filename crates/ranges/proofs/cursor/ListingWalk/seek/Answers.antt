-- The walk over the listed sets meets its contract.
use Rattle.std.proofs.Common.{◌≡◌, false, rules}
use Rattle.ranges.proofs.Walking.{found_known}
use Rattle.ranges.proofs.cursor.ListingWalk.seek.Goals as goal

pub invariant_of-self : goal.invariant_of-self
invariant_of-self c =
    let on : c.find-found.result.over ≡ false = search rules in
    record { known_listed = found_known _ _ _ _ c.args.self.now.market.quoted _ _ c.find-found.ensures on }
