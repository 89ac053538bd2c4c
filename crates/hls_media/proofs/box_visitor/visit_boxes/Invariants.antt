-- The walk over the rest from the present state gives what the walk over the whole content gives, and the state and the count are bounded by the
-- bytes that were walked over.
use Rattle.std.proofs.Common.{◌≡◌, ◌-◌, ◌*◌, ◌≤◌, length, Some}
use Rattle.hls_media.specs.RisesBy.{RisesBy}
use Rattle.hls_media.specs.Folds.{fold_content}
use Rattle.hls_media.proofs.box_visitor.visit_boxes.Given as goal

abbrev pub invariant-boxes : goal.invariant-boxes
invariant-boxes g l = record {
  value : fold_content (g.G.BoxVisitor.step l.visitor) Some l.fn.start l.content ≡ fold_content (g.G.BoxVisitor.step l.visitor) Some l.state l.rest;
  known : g.G.BoxVisitor.known l.visitor (length l.content - length l.rest) l.state;
  within : length l.rest ≤ length l.content;
  counted : RisesBy ((length l.content - length l.rest) * g.G.BoxVisitor.fields) l.initial.ticks l.ticks;
}

abbrev pub decreases-boxes : goal.decreases-boxes
decreases-boxes g l = length l.rest
