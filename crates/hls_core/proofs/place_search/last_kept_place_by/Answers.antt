-- If the last place at or before the time is kept, it is the result. If it has a trimmed unit, so do all earlier ones, and none is kept.
use Rattle.std.proofs.Common.{◌≡◌, true, false, arith, sym, ◌∙◌}
use Rattle.hls_places_laws.specs.Programmes.{is_kept}
use Rattle.hls_core_laws.specs.Places.{floors}
use Rattle.hls_core.proofs.KeptPlaces.{none-kept-by, last-by}
use Rattle.hls_core.proofs.place_search.last_kept_place_by.Goals as goal

pub returns-then-not-is_kept : goal.returns-then-not-is_kept
returns-then-not-is_kept c =
    let s = c.args.snapshot.now in
    let isnt : is_kept (floors s) c.get_place.result.now ≡ false = sym c.is_kept.ensures ∙ c.if-not-is_kept.true in
    none-kept-by s c.count_matching_front-count.ensures.valid c.args.time c.count_matching_front-count.result c.get_place.result.now c.count_matching_front-count.ensures.front c.get_place.ensures.there isnt

pub returns : goal.returns
returns c =
    let s = c.args.snapshot.now in
    let is : is_kept (floors s) c.get_place.result.now ≡ true = sym c.is_kept.ensures ∙ c.if-not-is_kept.false in
    last-by s c.args.time c.count_matching_front-count.result c.get_place.result.now c.count_matching_front-count.ensures.front (omega (arith, c.if-count-eq0.false)) c.get_place.ensures.there is
