-- Boxes fill the content exactly if they fill what is left of it (`boxes-step`).
use Rattle.std.proofs.Common.{rules, ◌≡◌, ◌∙◌, ℕ, ◌<◌, true, Some, None, is_some, List, [], length, sym, ap}
use Rattle.std.proofs.lemmas.List.{take_rest}
use Rattle.std.proofs.lemmas.Bool.{eqb-true}
use Rattle.hls_boxes.specs.Boxes.{box_at, children}
use Rattle.hls_mend.proofs.BoxSteps.{boxes-step, boxes-none, boxes-empty, no-bytes}
use Rattle.hls_mend.proofs.normal.are_boxes.Goals as goal

pub returns-in_default : goal.returns-in_default
returns-in_default c =
    let none : box_at c.boxes.rest.now ≡ None = sym c.read_whole_header.ensures.value ∙ c.in_default.is in
    let some : 0 < length c.boxes.rest.now = search rules in
    sym (c.boxes.invariant ∙ boxes-none c.boxes.rest.now some none)

pub boxes-preserved : goal.boxes-preserved
boxes-preserved c =
    let is : box_at c.boxes.rest.now ≡ Some c.in-Some.header = sym c.read_whole_header.ensures.value ∙ c.in-Some.is in
    let some : 0 < length c.boxes.rest.now = search rules in
    rw (take_rest c.boxes.rest.now c.in-Some.header.size) (c.boxes.invariant ∙ boxes-step c.boxes.rest.now c.in-Some.header some is)

pub returns : goal.returns
returns c =
    let empty : c.is_empty.result ≡ true = search rules in
    let none : c.boxes.rest.now ≡ [] = no-bytes c.boxes.rest.now (eqb-true (length c.boxes.rest.now) 0 (sym c.is_empty.ensures ∙ empty)) in
    sym (c.boxes.invariant ∙ ap (λ (xs : List ℕ). is_some (children xs)) none ∙ boxes-empty)
