-- The normal form of an init section is that of its boxes, written to an empty vector.
use Rattle.std.proofs.Common.{◌∙◌, ℕ, ◌++◌, List, ap}
use Rattle.hls_mend.specs.InitSections.{normal_boxes, normal_init}
use Rattle.hls_mend.proofs.normal.make_normal_init.Goals as goal

pub returns : goal.returns
unfolding normal_init
returns c = c.in_ok-push_boxes.ensures ∙ ap (λ (xs : List ℕ). xs ++ normal_boxes 8 c.args.bytes.now) c.new-out.ensures.items
