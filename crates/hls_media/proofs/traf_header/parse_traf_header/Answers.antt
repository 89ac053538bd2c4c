-- The result is the header of the track fragment: the visit folds the boxes as the definition does. If the visit fails, there is no header.
use Rattle.std.proofs.Common.{option_and_then, sym, ◌∙◌, ap}
use Rattle.hls_media.specs.TrafHeaders.{header_step, no_header, finished_header}
use Rattle.hls_media.proofs.Overs.{over-finish}
use Rattle.hls_media.proofs.TrafLaws.{over-heading}
use Rattle.hls_media.proofs.traf_header.parse_traf_header.Goals as goal

pub returns-in_err-partial-clause-value : goal.returns-in_err-partial-clause-value
returns-in_err-partial-clause-value c =
    c.from_residual.ensures ∙ ap (option_and_then finished_header) (sym c.in_err-partial.was ∙ c.visit_boxes.ensures.value) ∙ over-finish header_step finished_header no_header c.args.content.now ∙ over-heading c.args.content.now

pub returns-clause-value : goal.returns-clause-value
returns-clause-value c =
    c.finish_traf_header.ensures ∙ ap (option_and_then finished_header) (sym c.in_ok-partial.was ∙ c.visit_boxes.ensures.value) ∙ over-finish header_step finished_header no_header c.args.content.now ∙ over-heading c.args.content.now
