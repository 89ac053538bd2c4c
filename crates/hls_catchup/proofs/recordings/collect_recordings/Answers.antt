-- After one more recording is pushed, the list still has the recordings of the renditions so far; at the end it has those of all. If a rendition
-- has none, the state has no places.
use Rattle.std.proofs.Common.{◌∷◌, [], arith, ap, sym, ◌∙◌, length-append}
use Rattle.hls_core.specs.Getters.{recording_of}
use Rattle.hls_catchup.proofs.States.{no_places, one_recording_more, are_recordings}
use Rattle.hls_catchup.proofs.recordings.collect_recordings.Goals as goal

pub returns-in-None : goal.returns-in-None
returns-in-None c =
    no_places c.args.snapshot.now c.in-None.ensures.valid c.loop-rendition.rendition (omega (arith, c.rendition_count-rendition-end.ensures.lanes))
    (sym c.in-None.ensures.value)

pub loop-rendition-preserved : goal.loop-rendition-preserved
loop-rendition-preserved c =
    let long = length-append c.loop-rendition.recordings.items (c.in-Some.recording ∷ []) in
    rw c.in_ok-push-in-Some.ensures.items (record {
      count = omega (arith, c.loop-rendition.invariant.count);
      each = one_recording_more c.args.snapshot.now c.loop-rendition.recordings.items c.in-Some.recording c.loop-rendition.invariant.each
          (ap (recording_of c.args.snapshot.now) c.loop-rendition.invariant.count ∙ sym c.in-Some.ensures.value);
    })

pub returns : goal.returns
returns c =
    let end = c.loop-rendition.auto.rendition-end in
    are_recordings c.args.snapshot.now c.loop-rendition.recordings.items
    (omega (arith, c.loop-rendition.invariant.count, c.rendition_count-rendition-end.ensures.configured)) c.loop-rendition.invariant.each
