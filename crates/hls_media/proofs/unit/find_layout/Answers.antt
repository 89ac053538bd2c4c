-- A unit has a layout if it is within the limit, has one `moof` and no `moov`, and ends with its first `mdat`. The next box's type decides
-- (UnitLaws).
use Rattle.std.proofs.Common.{rules, tests, ◌≡◌, ◌-◌, ◌<◌, length, drop, sym, ◌∙◌, arith}
use Rattle.std.proofs.lemmas.Bool.Decides.{nat_tests}
use Rattle.std.proofs.lemmas.List.{take_rest, length-drop}
use Rattle.hls_media.proofs.UnitLaws.{come-bad, come-end, come-moov, come-moof-again, come-mdat-alone, come-mdat-more, come-mdat, come-other, come-moof, layout-long, layout-short, rest-more, met-more, begun}
use Rattle.hls_media.proofs.unit.find_layout.Goals as goal

pub returns-then-unit-clause-value : goal.returns-then-unit-clause-value
returns-then-unit-clause-value c = sym (layout-long c.args.unit.now c.if-unit.true)

pub returns-in_default-clause-value : goal.returns-in_default-clause-value
returns-in_default-clause-value c =
    let some : 0 < length c.boxes.rest.now = grind (arith, nat_tests) in
    sym (layout-short c.args.unit.now c.if-unit.false ∙ c.boxes.invariant.value ∙ come-bad c.args.unit.now c.boxes.met c.boxes.rest.now some (sym c.read_box_header.ensures.value ∙ c.in_default.is))

pub returns-in-1836019574-clause-value : goal.returns-in-1836019574-clause-value
returns-in-1836019574-clause-value c =
    let some : 0 < length c.boxes.rest.now = grind (arith, nat_tests) in
    sym (layout-short c.args.unit.now c.if-unit.false ∙ c.boxes.invariant.value ∙ come-moov c.args.unit.now c.boxes.met c.boxes.rest.now c.in-Some.header some (sym c.read_box_header.ensures.value ∙ c.in-Some.is) c.in-1836019574.is)

pub returns-in-1836019558-clause-value : goal.returns-in-1836019558-clause-value
returns-in-1836019558-clause-value c =
    let some : 0 < length c.boxes.rest.now = grind (arith, nat_tests) in
    sym (layout-short c.args.unit.now c.if-unit.false ∙ c.boxes.invariant.value ∙ come-moof-again c.args.unit.now c.boxes.met c.boxes.rest.now c.in-Some.header some (sym c.read_box_header.ensures.value ∙ c.in-Some.is) c.in-1836019558.is (search rules))

pub boxes-preserved-in-1836019558-2 : goal.boxes-preserved-in-1836019558-2
boxes-preserved-in-1836019558-2 c =
    let some : 0 < length c.boxes.rest.now = grind (arith, nat_tests) in
    rw (take_rest c.boxes.rest.now c.in-Some.header.size)
    (record {
      value = c.boxes.invariant.value ∙ come-moof c.args.unit.now c.boxes.met c.boxes.rest.now c.in-Some.header some (sym c.read_box_header.ensures.value ∙ c.in-Some.is) c.in-Some.ensures.within c.in-1836019558.is (search rules) c.boxes.invariant.within c.boxes.invariant.rest_is;
      within = omega (arith, c.boxes.invariant.within, length-drop c.in-Some.header.size c.boxes.rest.now);
      rest_is = rest-more c.args.unit.now c.boxes.rest.now c.in-Some.header.size c.boxes.invariant.rest_is c.boxes.invariant.within c.in-Some.ensures.within.1;
      met_is = (omega arith, omega (arith, c.in-Some.ensures.within.0), omega (arith, c.boxes.invariant.within, c.in-Some.ensures.within.1, length-drop c.in-Some.header.size c.boxes.rest.now));
      counted = (omega (arith, c.boxes.invariant.counted.0, c.read_box_header.ensures.rises), omega (arith, c.boxes.invariant.counted.1, c.boxes.invariant.within, c.read_box_header.ensures.few, c.in-Some.ensures.within.0, c.in-Some.ensures.within.1, c.in-Some.ensures.within.2, length-drop c.in-Some.header.size c.boxes.rest.now));
    })

pub returns-in_default-met-clause-value : goal.returns-in_default-met-clause-value
returns-in_default-met-clause-value c =
    let some : 0 < length c.boxes.rest.now = grind (arith, nat_tests) in
    sym (layout-short c.args.unit.now c.if-unit.false ∙ c.boxes.invariant.value ∙ come-mdat-alone c.args.unit.now c.boxes.met c.boxes.rest.now c.in-Some.header some (sym c.read_box_header.ensures.value ∙ c.in-Some.is) c.in-1835295092.is c.in_default-met.is)

pub returns-then-size-rest-clause-value : goal.returns-then-size-rest-clause-value
returns-then-size-rest-clause-value c =
    let some : 0 < length c.boxes.rest.now = grind (arith, nat_tests) in
    sym (layout-short c.args.unit.now c.if-unit.false ∙ c.boxes.invariant.value ∙ come-mdat-more c.args.unit.now c.boxes.met c.in-Some-met.moof c.boxes.rest.now c.in-Some.header some (sym c.read_box_header.ensures.value ∙ c.in-Some.is) c.in-1835295092.is c.in-Some-met.is c.if-size-rest.true)

pub returns-in-1835295092-clause-value : goal.returns-in-1835295092-clause-value
returns-in-1835295092-clause-value c =
    let some : 0 < length c.boxes.rest.now = grind (arith, nat_tests) in
    let met_is = rw c.in-Some-met.is at c.boxes.invariant.met_is in
    sym (layout-short c.args.unit.now c.if-unit.false ∙ c.boxes.invariant.value ∙ come-mdat c.args.unit.now c.boxes.met c.in-Some-met.moof c.boxes.rest.now c.in-Some.header some (sym c.read_box_header.ensures.value ∙ c.in-Some.is) c.in-Some.ensures.within c.in-1835295092.is c.in-Some-met.is c.if-size-rest.false c.boxes.invariant.within (omega (arith, met_is.0, met_is.1, met_is.2)))

pub boxes-preserved : goal.boxes-preserved
boxes-preserved c =
    let some : 0 < length c.boxes.rest.now = grind (arith, nat_tests) in
    rw (take_rest c.boxes.rest.now c.in-Some.header.size)
    (record {
      value = c.boxes.invariant.value ∙ come-other c.args.unit.now c.boxes.met c.boxes.rest.now c.in-Some.header some (sym c.read_box_header.ensures.value ∙ c.in-Some.is) c.in-Some.ensures.within (search (rules, tests)) (search (rules, tests)) (search (rules, tests)) c.boxes.invariant.within (begun c.boxes.met (length c.args.unit.now - length c.boxes.rest.now) c.boxes.invariant.met_is);
      within = omega (arith, c.boxes.invariant.within, length-drop c.in-Some.header.size c.boxes.rest.now);
      rest_is = rest-more c.args.unit.now c.boxes.rest.now c.in-Some.header.size c.boxes.invariant.rest_is c.boxes.invariant.within c.in-Some.ensures.within.1;
      met_is = met-more c.boxes.met (length c.args.unit.now - length c.boxes.rest.now) (length c.args.unit.now - length (drop c.in-Some.header.size c.boxes.rest.now)) (omega (arith, length-drop c.in-Some.header.size c.boxes.rest.now)) c.boxes.invariant.met_is;
      counted = (omega (arith, c.boxes.invariant.counted.0, c.read_box_header.ensures.rises), omega (arith, c.boxes.invariant.counted.1, c.boxes.invariant.within, c.read_box_header.ensures.few, c.in-Some.ensures.within.0, c.in-Some.ensures.within.1, c.in-Some.ensures.within.2, length-drop c.in-Some.header.size c.boxes.rest.now));
    })

pub returns-clause-value : goal.returns-clause-value
returns-clause-value c =
    let none : length c.boxes.rest.now ≡ 0 = grind (arith, nat_tests) in
    sym (layout-short c.args.unit.now c.if-unit.false ∙ c.boxes.invariant.value ∙ come-end c.args.unit.now c.boxes.met c.boxes.rest.now none)
