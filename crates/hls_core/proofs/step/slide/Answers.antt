-- A slide that the line allows, in a log with room, leads to a new state with that entry.
use Rattle.std.proofs.Common.{◌∙◌, refl, sym, ap}
use Rattle.hls_places_laws.specs.Line.Live.{Live, may_slide}
use Rattle.hls_core_laws.specs.declared.event.Event.TheVariants.{Slide}
use Rattle.hls_core_laws.specs.Moves.{state_with_entry}
use Rattle.hls_core.proofs.Goes.{room_of, slide_new, steps_by}
use Rattle.hls_core.proofs.step.slide.Goals as goal

pub returns : goal.returns
returns c =
    let may = ap (λ (l : Live). may_slide l c.args.count) (sym c.line-line.ensures.value) ∙ sym c.check_slide.ensures ∙ c.in-Ok.is in
    let new = slide_new c.args.snapshot.now c.args.count c.in-Ok.field-0 may
    (room_of c.args.snapshot.now c.is_full.result c.is_full.ensures c.if-is_full.false) in
    steps_by c.args.snapshot.now (state_with_entry c.args.snapshot.now c.args.by (Slide c.args.count)) c.args.by (Slide c.args.count) c.with_slide.result
    c.into_stepped.result new refl c.with_slide.ensures c.into_stepped.ensures.new c.into_stepped.ensures.refused
