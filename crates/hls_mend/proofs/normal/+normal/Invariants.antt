-- What was appended and the normal forms of the boxes that are left are the whole result. `push_boxes` calls `push_box` with one level less,
-- which calls `push_content`, which calls `push_boxes`.
use Rattle.std.proofs.Common.{◌≡◌, ◌+◌, ◌-◌, ◌*◌, ◌++◌, true, is_some, length}
use Rattle.hls_boxes.specs.Boxes.{children}
use Rattle.hls_mend.proofs.BoxSteps.{normal_rest}
use Rattle.hls_mend.proofs.normal.+normal.Given as goal

abbrev pub decreases-push_content : goal.decreases-push_content
decreases-push_content l = 3 * l.depth + 1

abbrev pub decreases-push_box : goal.decreases-push_box
decreases-push_box l = 3 * l.depth + 2

abbrev pub decreases-push_boxes : goal.decreases-push_boxes
decreases-push_boxes l = 3 * l.depth

abbrev pub invariant-push_boxes-boxes : goal.invariant-push_boxes-boxes
invariant-push_boxes-boxes l = record {
  filled : is_some (children l.rest) ≡ true;
  joined : l.out.items ++ normal_rest (l.depth - 1) l.rest ≡ l.initial.out.items ++ normal_rest (l.depth - 1) l.content;
}

abbrev pub decreases-push_boxes-boxes : goal.decreases-push_boxes-boxes
decreases-push_boxes-boxes l = length l.rest
