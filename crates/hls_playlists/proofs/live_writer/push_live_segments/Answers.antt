-- Each step writes the next segment of the walk, which the laws of live playlists say can be written, and keeps the text complete.
use Rattle.std.proofs.Common.{◌≡◌, ◌∙◌, ℕ, ◌+◌, ◌<◌, ◌^◌, ◌++◌, length, arith, ap, subst, sym}
use Rattle.hls_m3u8.specs.declared.playlist.MediaSegment.{MediaSegment}
use Rattle.hls_m3u8.specs.HasText.{IsDate}
use Rattle.hls_core_laws.specs.Base.{BaseData}
use Rattle.hls_core_laws.specs.Config.{ConfigData}
use Rattle.hls_core_laws.specs.Line.{line}
use Rattle.hls_places_laws.specs.Line.Live.{Live, segments_of}
use Rattle.hls_playlists.specs.LiveWriter.{served_segment_text}
use Rattle.hls_playlists.proofs.LiveTexts.{all-of, counts, drop-next, good-by, has-next, one-written, reaches-all, starts}
use Rattle.hls_playlists.proofs.live_writer.push_live_segments.Goals as goal

pub returns-in_default-next_segment-clause-reaches : goal.returns-in_default-next_segment-clause-reaches
returns-in_default-next_segment-clause-reaches c =
    let s = c.args.served.snapshot.now in
    let k = c.loop-next.next in
    reaches-all s c.args.served.rendition c.args.stop k c.in-Some.recording.now c.in-Some.ensures.list
    (all-of (segments_of (line s)) k (c.loop-next.invariant.walk ∙ c.in_default-next_segment.ensures.0))

pub make_media_segment-requires-clause-start : goal.make_media_segment-requires-clause-start
make_media_segment-requires-clause-start c =
    starts c.args.served.snapshot.now c.find_listed_recording.ensures.valid c.args.served.rendition c.in-Some.recording.now c.loop-next.next c.in-Some-next_segment.segment.now
    c.next_segment.new.walk c.in-Some.ensures.list (c.loop-next.invariant.walk ∙ c.in-Some-next_segment.ensures)

pub push_live_segment-requires-clause-length : goal.push_live_segment-requires-clause-length
push_live_segment-requires-clause-length c =
    let good = good-by c.args.served.snapshot.now c.find_listed_recording.ensures.valid c.args.served.rendition c.in-Some.recording.now c.loop-next.next c.in-Some-next_segment.segment.now
    c.next_segment.new.walk c.in-Some.ensures.list (c.loop-next.invariant.walk ∙ c.in-Some-next_segment.ensures) c.epoch-epoch.result c.in_ok-own_uri.own_uri
    (c.epoch-epoch.ensures.value ∙ ap (λ (x : ConfigData). x.epoch) c.config-config.ensures.value) c.in_ok-own_uri.ensures in
    subst (λ (x : MediaSegment). x.us < 2 ^ 53) (sym c.in_ok-own.ensures.value) good.0

pub push_live_segment-requires-clause-date : goal.push_live_segment-requires-clause-date
push_live_segment-requires-clause-date c =
    let good = good-by c.args.served.snapshot.now c.find_listed_recording.ensures.valid c.args.served.rendition c.in-Some.recording.now c.loop-next.next c.in-Some-next_segment.segment.now
    c.next_segment.new.walk c.in-Some.ensures.list (c.loop-next.invariant.walk ∙ c.in-Some-next_segment.ensures) c.epoch-epoch.result c.in_ok-own_uri.own_uri
    (c.epoch-epoch.ensures.value ∙ ap (λ (x : ConfigData). x.epoch) c.config-config.ensures.value) c.in_ok-own_uri.ensures in
    subst (λ (x : MediaSegment). IsDate x.date) (sym c.in_ok-own.ensures.value) good.1

pub overflow_add-first : goal.overflow_add-first
overflow_add-first c =
    let few = counts c.args.served.snapshot.now c.args.served.rendition c.loop-next.next c.in-Some.recording.now c.in-Some.ensures.list c.loop-next.invariant.has in
    let long : length (segments_of c.line.result.now) ≡ length (segments_of (line c.args.served.snapshot.now)) = ap (λ (l : Live). length (segments_of l)) c.line.ensures.value in
    omega (arith, few, long, c.first_number-first.ensures.fits)

pub loop-next-preserved : goal.loop-next-preserved
loop-next-preserved c =
    let s = c.args.served.snapshot.now in
    let r = c.args.served.rendition in
    let k = c.loop-next.next in
    let recorded = c.in-Some.recording.now in
    let state = c.find_listed_recording.ensures.valid in
    let there = c.in-Some.ensures.list in
    let x = c.in-Some-next_segment.segment.now in
    let rest = c.next_segment.new.walk in
    let walk = c.loop-next.invariant.walk ∙ c.in-Some-next_segment.ensures in
    record {
      walk = drop-next (segments_of (line s)) k x rest walk;
      has = has-next s state r recorded k x rest there walk;
      text = one-written s state r recorded k x rest there walk c.args.served.uris c.epoch-epoch.result c.in_ok-own_uri.own_uri (c.first_number-first.result + k) c.in_ok-own.own
          c.loop-next.text.items c.push_live_segment.new.text.items
          (c.epoch-epoch.ensures.value ∙ ap (λ (y : ConfigData). y.epoch) c.config-config.ensures.value) c.in_ok-own_uri.ensures
          (ap (λ (n : ℕ). n + k) (c.first_number-first.ensures.value ∙ ap (λ (l : Live). l.removed) c.line.ensures.value)) c.in_ok-own.ensures.value
          (c.in_ok-push_live_segment.ensures
          ∙ ap (λ (b : BaseData). c.loop-next.text.items ++ served_segment_text c.args.served.uris b r (c.first_number-first.result + k) c.in_ok-own.own)
          (c.base-base.ensures.value ∙ ap (λ (y : ConfigData). y.base) c.config-config.ensures.value))
          ∙ c.loop-next.invariant.text;
    }
