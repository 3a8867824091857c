use Rattle.std.proofs.Common.{◌<◌, ◌-◌, length, arith}
use Rattle.mutual_merge.proofs.RegionPlaces.{place_below_name}
use Rattle.mutual_merge.proofs.links.see_fit.Goals as goal

pub returns-then-count-gt0 : goal.returns-then-count-gt0
returns-then-count-gt0 c =
    let below : length c.args.regions.now - 1 < length c.args.regions.now = omega arith in
    let low = place_below_name c.args.regions.now (length c.args.regions.now - 1) c.requires below in
    let name = c.name_of-greatest.ensures in
    let fits = c.name_of-greatest.type_inv in
    omega arith
