-- Both ways of listing get places of this recording: the channel has one rendition, which has begun, and the snapshot returns its places.
use Rattle.std.proofs.Common.{arith}
use Rattle.hls_commands.proofs.Singles.{places_given}
use Rattle.hls_commands.proofs.channel_listing.list_channel.Goals as goal

pub list_each-requires-clause-places : goal.list_each-requires-clause-places
list_each-requires-clause-places c =
    places_given c.args.snapshot.now c.in-Some.recording.now c.places-places.result.now c.next.result c.places-places.ensures.value c.next.ensures.value
    (omega (arith, c.if-next-lt2.false)) c.requires.single.one c.in-Some.ensures.value c.count.ensures.valid c.places-places.ensures.sources

pub list_least_plan-requires-clause-places : goal.list_least_plan-requires-clause-places
list_least_plan-requires-clause-places c =
    places_given c.args.snapshot.now c.in-Some.recording.now c.places-places.result.now c.next.result c.places-places.ensures.value c.next.ensures.value
    (omega (arith, c.if-next-lt2.false)) c.requires.single.one c.in-Some.ensures.value c.count.ensures.valid c.places-places.ensures.sources
