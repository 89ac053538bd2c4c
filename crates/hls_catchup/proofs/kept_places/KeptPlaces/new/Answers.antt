-- The places that are taken from the snapshot are all places since the first one, and their numbers fit. They are the state's places, with the
-- floors of its recordings.
use Rattle.std.proofs.Common.{◌≡◌, arith, ap}
use Rattle.hls_places_laws.specs.declared.place.Place.{Place}
use Rattle.hls_blocks.specs.Numbered.{Numbered}
use Rattle.hls_core_laws.specs.Places.{places}
use Rattle.hls_catchup.proofs.States.{kept_is}
use Rattle.hls_catchup.proofs.kept_places.KeptPlaces.new.Goals as goal

pub invariant_of-result : goal.invariant_of-result
invariant_of-result c =
    let first : c.places-places.result.now.first ≡ 0 = ap (λ (n : Numbered Place). n.first) c.places-places.ensures.value in
    record {
      all = first;
      few = omega (arith, c.next.ensures.value, c.next.ensures.bound);
      renditions = c.rendition_count.ensures.few;
    }

pub returns-clause-value : goal.returns-clause-value
returns-clause-value c =
    let s = c.args.snapshot.now in
    let items : c.places-places.result.now.items ≡ places s = ap (λ (n : Numbered Place). n.items) c.places-places.ensures.value in
    kept_is s c.places-places.result.now.items c.floors_of.result c.rendition_count.result items c.rendition_count.ensures.configured c.floors_of.ensures
