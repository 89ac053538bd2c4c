-- Boxes fill the bytes if the headers can be read up to the end. If one can't be read, none fill the rest, so none fill the bytes.
use Rattle.std.proofs.Common.{◌≡◌, ◌<◌, length, sym, ◌∙◌, arith}
use Rattle.std.proofs.lemmas.Bool.Decides.{nat_tests}
use Rattle.std.proofs.lemmas.List.{take_rest}
use Rattle.hls_codecs.proofs.BoxSearches.{fills-end, fills-bad, fills-next}
use Rattle.hls_codecs.proofs.boxes.are_boxes.Goals as goal

pub returns-in_default : goal.returns-in_default
returns-in_default c =
    let some : 0 < length c.boxes.rest.now = grind (arith, nat_tests) in
    sym (fills-bad c.boxes.rest.now some (sym c.read_box_header.ensures.value ∙ c.in_default.is)) ∙ c.boxes.invariant

pub boxes-preserved : goal.boxes-preserved
boxes-preserved c =
    let some : 0 < length c.boxes.rest.now = grind (arith, nat_tests) in
    rw (take_rest c.boxes.rest.now c.in-Some.header.size)
    (fills-next c.boxes.rest.now c.in-Some.header some (sym c.read_box_header.ensures.value ∙ c.in-Some.is) ∙ c.boxes.invariant)

pub returns : goal.returns
returns c =
    let none : length c.boxes.rest.now ≡ 0 = grind (arith, nat_tests) in
    sym (fills-end c.boxes.rest.now none) ∙ c.boxes.invariant
