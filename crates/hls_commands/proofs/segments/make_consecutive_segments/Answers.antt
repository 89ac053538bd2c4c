-- One more segment is made from the present place to the next (`one_more`), until no place is left (`all_made`).
use Rattle.std.proofs.Common.{refl, sym, ◌∙◌, ap}
use Rattle.hls_playlists_laws.specs.JobPlaylists.{job_layout}
use Rattle.hls_playlists_laws.specs.Segments.{segment_between}
use Rattle.hls_commands.proofs.Walked.{ones_of, one_more, all_made}
use Rattle.hls_commands.proofs.segments.make_consecutive_segments.Goals as goal

pub loop-to-init : goal.loop-to-init
loop-to-init c =
    let ones = ones_of c.args.places.now.items c.in-Some.first.now c.next_place.new.walk
    (sym c.iter_places-walk.ensures ∙ c.in-Some.ensures) c.requires.single in
    record {
      one = ones.0;
      ones = ones.1;
      done = rw c.new-segments.ensures.items refl;
    }

pub loop-to-preserved : goal.loop-to-preserved
loop-to-preserved c =
    let ones = ones_of c.loop-to.walk c.in-Some-next_place.to.now c.next_place-in-loop-to.new.walk
    c.in-Some-next_place.ensures c.loop-to.invariant.ones in
    let made = c.segment_between.ensures.value ∙ ap (λ u. segment_between (job_layout c.args.epoch c.args.recording.now 0 u 0) c.loop-to.mark c.loop-to.from.now.spots c.in-Some-next_place.to.now.spots) c.in_ok-clone.ensures.cases in
    record {
      one = ones.0;
      ones = ones.1;
      done = one_more (job_layout c.args.epoch c.args.recording.now 0 c.args.uri.now 0) c.loop-to.segments.items c.push.new.self.items c.loop-to.mark c.is_break-mark.result
          c.loop-to.from.now.spots c.loop-to.walk c.in-Some-next_place.to.now c.next_place-in-loop-to.new.walk c.segment_between.result _
          c.in-Some-next_place.ensures c.in_ok-push.ensures.items made c.is_break-mark.ensures c.loop-to.invariant.done;
    }

pub returns : goal.returns
returns c =
    all_made (job_layout c.args.epoch c.args.recording.now 0 c.args.uri.now 0) c.args.places.now.items c.in-Some.first.now c.next_place.new.walk
    c.loop-to.walk c.loop-to.segments.items c.loop-to.mark c.loop-to.from.now.spots
    (sym c.iter_places-walk.ensures ∙ c.in-Some.ensures) c.in_default-next_place.ensures.0 c.loop-to.invariant.done
