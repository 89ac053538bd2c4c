-- After one more segment is made, the list so far and the segments of the remaining walk are still those of the live line.
use Rattle.std.proofs.Common.{◌<◌, ◌^◌, ◌∷◌, All, subst}
use Rattle.std.proofs.lemmas.List.Elements.{All-tail}
use Rattle.hls_check_tables.specs.Tables.{spot_in}
use Rattle.hls_places_laws.specs.declared.line.live_segment.LiveSegment as live_line
use Rattle.hls_playlists_laws.specs.JobPlaylists.{job_layout}
use Rattle.hls_playlists.proofs.LiveLists.{one_listed_more}
use Rattle.hls_playlists.proofs.standalone.make_live_segments.Goals as goal

pub loop-segment-preserved : goal.loop-segment-preserved
loop-segment-preserved c =
    let IsSmall : live_line.LiveSegment → Type 0 = λ x. (spot_in x.from.spots c.args.rendition).start < 2 ^ 53 in
    let split : All IsSmall (c.in-Some.segment.now ∷ c.next_segment.new.walk) = subst (All IsSmall) c.in-Some.ensures c.loop-segment.invariant.starts in
    record {
      starts = All-tail IsSmall c.in-Some.segment.now c.next_segment.new.walk split;
      made = one_listed_more (job_layout c.args.epoch c.args.recording.now c.args.rendition c.args.uri.now 0) c.loop-segment.list.items c.push.new.self.items
          c.loop-segment.walk c.next_segment.new.walk c.in-Some.segment.now c.in_ok-make_media_segment.field-0 _ c.in-Some.ensures
          c.in_ok-push.ensures.items c.in_ok-make_media_segment.ensures.value c.loop-segment.invariant.made;
    }
