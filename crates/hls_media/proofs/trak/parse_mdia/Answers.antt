-- The result is the timescale and the handler as defined: the visit finds the same boxes. If the visit fails, there are none.
use Rattle.std.proofs.Common.{option_and_then, sym, ◌∙◌, ap}
use Rattle.hls_media.specs.FirstBoxes.{whole_media}
use Rattle.hls_media.proofs.InitLaws.{over-media_of}
use Rattle.hls_media.proofs.trak.parse_mdia.Goals as goal

pub returns-in_err-found-clause-value : goal.returns-in_err-found-clause-value
returns-in_err-found-clause-value c =
    c.from_residual.ensures ∙ ap (option_and_then whole_media) (sym c.in_err-found.was ∙ c.visit_boxes.ensures.value) ∙ over-media_of c.args.content.now

pub returns-clause-value : goal.returns-clause-value
returns-clause-value c =
    c.finish_mdia.ensures.value ∙ ap (option_and_then whole_media) (sym c.in_ok-found.was ∙ c.visit_boxes.ensures.value) ∙ over-media_of c.args.content.now
