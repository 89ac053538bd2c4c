-- Each box before the one that is looked for is counted or passed over (BoxSearches).
use Rattle.std.proofs.Common.{◌≡◌, ◌<◌, length, drop, true, false, Some, sym, ◌∙◌, arith}
use Rattle.std.specs.Prelude.{is_some}
use Rattle.std.proofs.lemmas.Bool.Decides.{nat_tests}
use Rattle.std.proofs.lemmas.List.{take_rest}
use Rattle.hls_boxes.specs.Boxes.{box_at, children}
use Rattle.hls_codecs.proofs.BoxSearches.{box-at_end, box-bad, box-found, box-unfilled, box-counted, box-passed}
use Rattle.hls_codecs.proofs.boxes.find_box.Goals.{then-header-kind+else-left-eq0, else-header-kind}
use Rattle.hls_codecs.proofs.boxes.find_box.Goals as goal

pub returns-in_default : goal.returns-in_default
returns-in_default c =
    let some : 0 < length c.boxes.rest.now = grind (arith, nat_tests) in
    sym (box-bad c.args.kind c.boxes.left c.boxes.rest.now some (sym c.read_box_header.ensures.value ∙ c.in_default.is)) ∙ c.boxes.invariant

pub returns-then-not-are_boxes : goal.returns-then-not-are_boxes
returns-then-not-are_boxes c =
    let some : 0 < length c.boxes.rest.now = grind (arith, nat_tests) in
    let is_box : box_at c.boxes.rest.now ≡ Some c.in-Some.header = sym c.read_box_header.ensures.value ∙ c.in-Some.is in
    let others = rw (take_rest c.boxes.rest.now c.in-Some.header.size) at c.are_boxes.ensures in
    let filled : is_some (children (drop c.in-Some.header.size c.boxes.rest.now)) ≡ false = sym others ∙ c.if-not-are_boxes.true in
    box-unfilled c.args.kind c.boxes.left c.boxes.rest.now c.in-Some.header some is_box c.if-left-eq0.true filled ∙ c.boxes.invariant

pub returns-then-left-eq0 : goal.returns-then-left-eq0
returns-then-left-eq0 c =
    let some : 0 < length c.boxes.rest.now = grind (arith, nat_tests) in
    let is_box : box_at c.boxes.rest.now ≡ Some c.in-Some.header = sym c.read_box_header.ensures.value ∙ c.in-Some.is in
    let others = rw (take_rest c.boxes.rest.now c.in-Some.header.size) at c.are_boxes.ensures in
    let filled : is_some (children (drop c.in-Some.header.size c.boxes.rest.now)) ≡ true = sym others ∙ c.if-not-are_boxes.false in
    box-found c.args.kind c.boxes.left c.boxes.rest.now c.in-Some.header some is_box c.if-left-eq0.true c.if-header-kind.true filled ∙ c.boxes.invariant

pub boxes-preserved : goal.boxes-preserved
boxes-preserved c =
    let some : 0 < length c.boxes.rest.now = grind (arith, nat_tests) in
    let is_box : box_at c.boxes.rest.now ≡ Some c.in-Some.header = sym c.read_box_header.ensures.value ∙ c.in-Some.is in
    rw (take_rest c.boxes.rest.now c.in-Some.header.size)
    (elim c.if-header-kind.branch [
      | then-header-kind+else-left-eq0 w ↦ rw w.left-is (box-counted c.args.kind c.boxes.left c.boxes.rest.now c.in-Some.header some is_box (omega arith) w.if-header-kind.true ∙ c.boxes.invariant)
      | else-header-kind w ↦ rw w.left-is (box-passed c.args.kind c.boxes.left c.boxes.rest.now c.in-Some.header some is_box w.if-header-kind.false ∙ c.boxes.invariant)
    ])

pub returns : goal.returns
returns c =
    let none : length c.boxes.rest.now ≡ 0 = grind (arith, nat_tests) in
    sym (box-at_end c.args.kind c.boxes.left c.boxes.rest.now none) ∙ c.boxes.invariant
