-- A `moov` that is the last box is found. Before another box it isn't; a `moof`, an `mdat` or a bad box ends the search; other boxes are skipped
-- (MoovPlace).
use Rattle.std.proofs.Common.{rules, tests, inl, inr, ◌≡◌, ◌-◌, ◌<◌, length, Some, sym, ◌∙◌, ap, arith}
use Rattle.std.proofs.lemmas.Bool.Decides.{nat_tests}
use Rattle.std.proofs.lemmas.List.{take_rest, length-drop}
use Rattle.hls_media.proofs.UnitLaws.{rest-more, slice-of-drop}
use Rattle.hls_media.proofs.MoovPlace.{moov-long, moov-short, moov-bad, moov-end, moov-stray, moov-more, moov-last, moov-other}
use Rattle.hls_media.proofs.init.find_moov.Goals as goal

pub returns-then-bytes-clause-value : goal.returns-then-bytes-clause-value
returns-then-bytes-clause-value c = sym (moov-long c.args.bytes.now c.if-bytes.true)

pub returns-in_default-clause-value : goal.returns-in_default-clause-value
returns-in_default-clause-value c =
    let some : 0 < length c.boxes.rest.now = grind (arith, nat_tests) in
    sym (moov-short c.args.bytes.now c.if-bytes.false ∙ c.boxes.invariant.value ∙ moov-bad c.boxes.rest.now some (sym c.read_uncounted_box_header.ensures.value ∙ c.in_default.is))

pub returns-then-size-rest-clause-value : goal.returns-then-size-rest-clause-value
returns-then-size-rest-clause-value c =
    let some : 0 < length c.boxes.rest.now = grind (arith, nat_tests) in
    sym (moov-short c.args.bytes.now c.if-bytes.false ∙ c.boxes.invariant.value ∙ moov-more c.boxes.rest.now c.in-Some.header some (sym c.read_uncounted_box_header.ensures.value ∙ c.in-Some.is) c.in-1836019574.is c.if-size-rest.true)

pub returns-in-1836019574-clause-value : goal.returns-in-1836019574-clause-value
returns-in-1836019574-clause-value c =
    let some : 0 < length c.boxes.rest.now = grind (arith, nat_tests) in
    sym (moov-short c.args.bytes.now c.if-bytes.false ∙ c.boxes.invariant.value ∙ moov-last c.boxes.rest.now c.in-Some.header some (sym c.read_uncounted_box_header.ensures.value ∙ c.in-Some.is) c.in-1836019574.is c.if-size-rest.false
    ∙ ap Some (slice-of-drop c.args.bytes.now c.boxes.rest.now (length c.args.bytes.now - length c.boxes.rest.now) c.in-Some.header.head c.in-Some.header.size c.boxes.invariant.rest_is))

pub returns-in-1835295092-clause-value : goal.returns-in-1835295092-clause-value
returns-in-1835295092-clause-value c =
    let some : 0 < length c.boxes.rest.now = grind (arith, nat_tests) in
    sym (moov-short c.args.bytes.now c.if-bytes.false ∙ c.boxes.invariant.value ∙ moov-stray c.boxes.rest.now c.in-Some.header some (sym c.read_uncounted_box_header.ensures.value ∙ c.in-Some.is) (inl c.in-1835295092.is))

pub returns-in-1836019558-clause-value : goal.returns-in-1836019558-clause-value
returns-in-1836019558-clause-value c =
    let some : 0 < length c.boxes.rest.now = grind (arith, nat_tests) in
    sym (moov-short c.args.bytes.now c.if-bytes.false ∙ c.boxes.invariant.value ∙ moov-stray c.boxes.rest.now c.in-Some.header some (sym c.read_uncounted_box_header.ensures.value ∙ c.in-Some.is) (inr c.in-1836019558.is))

pub boxes-preserved : goal.boxes-preserved
boxes-preserved c =
    let some : 0 < length c.boxes.rest.now = grind (arith, nat_tests) in
    rw (take_rest c.boxes.rest.now c.in-Some.header.size)
    (record {
      value = c.boxes.invariant.value ∙ moov-other c.boxes.rest.now c.in-Some.header some (sym c.read_uncounted_box_header.ensures.value ∙ c.in-Some.is) (search (rules, tests)) (search (rules, tests)) (search (rules, tests));
      within = omega (arith, c.boxes.invariant.within, length-drop c.in-Some.header.size c.boxes.rest.now);
      rest_is = rest-more c.args.bytes.now c.boxes.rest.now c.in-Some.header.size c.boxes.invariant.rest_is c.boxes.invariant.within c.in-Some.ensures.within.1;
    })

pub returns-clause-value : goal.returns-clause-value
returns-clause-value c =
    let none : length c.boxes.rest.now ≡ 0 = grind (arith, nat_tests) in
    sym (moov-short c.args.bytes.now c.if-bytes.false ∙ c.boxes.invariant.value ∙ moov-end c.boxes.rest.now none)
