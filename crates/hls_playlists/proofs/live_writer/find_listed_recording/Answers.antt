-- By cases: no recording, no segment closed yet, or the live playlist that is made from the recording.
use Rattle.std.proofs.Common.{◌≡◌, length, Some, None, arith, ap}
use Rattle.hls_blocks.specs.Numbered.{next_of}
use Rattle.hls_core.specs.Getters.{recording_of}
use Rattle.hls_places_laws.specs.Line.Live.{Live, segments_of}
use Rattle.hls_playlists.proofs.LiveLists.{unbegun, unlisted, listed-by}
use Rattle.hls_playlists.proofs.live_writer.find_listed_recording.Goals as goal

pub returns-in_default-clause-list : goal.returns-in_default-clause-list
returns-in_default-clause-list c =
    let value = c.in_default.ensures.value in
    let none : recording_of c.args.snapshot.now c.args.rendition ≡ None = cc in
    unbegun c.args.snapshot.now c.recording.ensures.valid c.args.rendition none

pub returns-then-next-eq0-clause-list : goal.returns-then-next-eq0-clause-list
returns-then-next-eq0-clause-list c =
    let s = c.args.snapshot.now in
    let next = ap next_of c.segments.ensures in
    let removed = ap (λ (l : Live). l.removed) c.line.ensures.value in
    let long = ap (λ (l : Live). length (segments_of l)) c.line.ensures.value in
    unlisted s c.args.rendition (omega (arith, c.next.ensures.value, next, removed, long, c.if-next-eq0.true))

pub returns-clause-list : goal.returns-clause-list
returns-clause-list c =
    let s = c.args.snapshot.now in
    let value = c.in-Some.ensures.value in
    let is : recording_of s c.args.rendition ≡ Some c.in-Some.recording.now = cc in
    let next = ap next_of c.segments.ensures in
    let removed = ap (λ (l : Live). l.removed) c.line.ensures.value in
    let long = ap (λ (l : Live). length (segments_of l)) c.line.ensures.value in
    listed-by s c.recording.ensures.valid c.args.rendition c.in-Some.recording.now is (omega (arith, c.next.ensures.value, next, removed, long, c.if-next-eq0.false))
