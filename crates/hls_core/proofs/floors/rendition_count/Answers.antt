-- A channel has as many lanes as its configuration has renditions.
use Rattle.std.proofs.Common.{◌≡◌, length, arith}
use Rattle.hls_core.proofs.Cited.{lanes_count}
use Rattle.hls_core.proofs.floors.rendition_count.Goals as goal

pub returns-clause-lanes : goal.returns-clause-lanes
returns-clause-lanes c =
    let s = c.args.snapshot.now in
    let config = c.config.ensures.value in
    let renditions = c.renditions.ensures.value in
    let count : length c.renditions.result.now ≡ length s.config.renditions = cc in
    omega (arith, lanes_count s.config s.log)
