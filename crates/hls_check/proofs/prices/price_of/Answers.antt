-- A closed set has an entry for each place of the table, so place p has one.
use Rattle.std.proofs.Common.{◌<◌, length, map}
use Rattle.std.proofs.lemmas.List.{length-map}
use Rattle.hls_check.specs.Rows.{price_if_closed}
use Rattle.hls_check.proofs.prices.price_of.Goals as goal

pub is_closed-requires : goal.is_closed-requires
is_closed-requires c =
    let within : c.args.p < length (map price_if_closed c.in-NoCut.closed.items) = rw c.in-NoCut.is at c.requires in
    rw c.as_slice.ensures.value (simp length-map at within)
