-- The units of the rendition that was counted are in order, since its recording is valid. So those of all renditions so far are.
use Rattle.std.proofs.Common.{below_more}
use Rattle.hls_places.proofs.Lines.{timeline-of}
use Rattle.hls_places.proofs.rendition_sources.RenditionSources.look_at_order.Goals as goal

pub loop-r-preserved : goal.loop-r-preserved
loop-r-preserved c = below_more _ _ c.loop-r.invariant
    (rw (← c.recording.ensures) (timeline-of c.recording.result.now c.count-count.ensures.valid))
