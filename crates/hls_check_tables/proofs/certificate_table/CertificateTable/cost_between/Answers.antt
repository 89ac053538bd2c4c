-- The cost can be computed without overflow: the second place is one of a valid table, so the end before its first spot is below 2^53.
use Rattle.std.proofs.Common.{[], arith}
use Rattle.hls_check_tables.specs.Tables.{IsPlaceOf, IsSpotInRange, no_spot, place_at, spot_in}
use Rattle.hls_check_tables.proofs.certificate_table.CertificateTable.cost_between.Goals as goal

pub pair_cost-requires-clause-small : goal.pair_cost-requires-clause-small
pair_cost-requires-clause-small c =
    let t = c.args.self.now in
    let to : IsPlaceOf t.renditions (place_at t.places c.args.q) = c.len.ensures.valid.places c.args.q [] c.requires.to_in in
    let spot : IsSpotInRange (spot_in (place_at t.places c.args.q) 0) = to.spots 0 no_spot (omega (arith, to.count, c.len.ensures.valid.renditions)) in
    rw c.place-2.ensures spot.prev_end_small
