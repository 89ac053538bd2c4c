-- The result is the track as defined: the visit finds the same boxes. If the visit fails, there is no track.
use Rattle.std.proofs.Common.{option_and_then, sym, ◌∙◌, ap}
use Rattle.hls_media.specs.FirstBoxes.{whole_track}
use Rattle.hls_media.proofs.InitLaws.{over-track_at}
use Rattle.hls_media.proofs.trak.parse_trak.Goals as goal

pub returns-in_err-found-clause-value : goal.returns-in_err-found-clause-value
returns-in_err-found-clause-value c =
    c.from_residual.ensures ∙ ap (option_and_then whole_track) (sym c.in_err-found.was ∙ c.visit_boxes.ensures.value) ∙ over-track_at c.args.content.now

pub returns-clause-value : goal.returns-clause-value
returns-clause-value c =
    c.finish_trak.ensures.value ∙ ap (option_and_then whole_track) (sym c.in_ok-found.was ∙ c.visit_boxes.ensures.value) ∙ over-track_at c.args.content.now
