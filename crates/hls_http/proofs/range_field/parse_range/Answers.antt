-- After `bytes=`, a text without a hyphen is no range; otherwise the parts before and after the first hyphen determine it.
use Rattle.std.proofs.{Common.{◌∙◌, ◌+◌, ap, take}, lemmas.List.take_rest}
use Rattle.hls_http.specs.Range.{spec_around, range_of_value, by_texts, spec_of}
use Rattle.hls_http.proofs.range_field.parse_range.Goals as goal

pub returns-in_default-find_byte : goal.returns-in_default-find_byte
unfolding range_of_value
returns-in_default-find_byte c =
    rw c.in-Some.ensures.cases.0 (ap (spec_around c.in-Some.spec.now) c.in_default-find_byte.ensures.value ∙ ap spec_of c.in-Some.ensures.cases.1)

pub returns : goal.returns
unfolding range_of_value
returns c =
    let spec = c.in-Some.spec.now in
    let at = c.in-Some-find_byte.hyphen in
    let here = c.parse_range_parts.ensures ∙ ap (by_texts (take at spec)) (take_rest spec (at + 1)) ∙ ap (spec_around spec) c.in-Some-find_byte.ensures.value in
    rw c.in-Some.ensures.cases.0 (here ∙ ap spec_of c.in-Some.ensures.cases.1)
