-- A comma is an ASCII byte, so the text may be split before and after it; without a comma the text is one attribute.
use Rattle.std.proofs.Common.{◌≡◌, ◌-◌, sym, ◌∙◌, ap, false, ℕ, take, get_or, arith}
use Rattle.std.proofs.lemmas.Str.{IsCharBoundary-before_ascii, IsCharBoundary-after_ascii}
use Rattle.hls_m3u8.specs.Commas.{comma_offset}
use Rattle.hls_m3u8.proofs.Commas.{comma_is, first_of_several, only_one}
use Rattle.hls_m3u8.proofs.map_tag.split_first_attribute.Goals as goal

pub range-requires-clause-end_boundary : goal.range-requires-clause-end_boundary
range-requires-clause-end_boundary c =
    let place : c.find_comma-at.result ≡ comma_offset false c.args.text.now = c.find_comma-at.ensures ∙ ap (comma_offset false) c.as_bytes.ensures.value in
    let is : get_or c.args.text.now c.find_comma-at.result 0 ≡ 44 = comma_is false c.args.text.now c.find_comma-at.result (sym place) c.if-at-text.true in
    IsCharBoundary-before_ascii c.args.text.now c.find_comma-at.result c.if-at-text.true (omega arith)

pub range_from-requires : goal.range_from-requires
range_from-requires c = λ some.
    let place : c.find_comma-at.result ≡ comma_offset false c.args.text.now = c.find_comma-at.ensures ∙ ap (comma_offset false) c.as_bytes.ensures.value in
    let is : get_or c.args.text.now c.find_comma-at.result 0 ≡ 44 = comma_is false c.args.text.now c.find_comma-at.result (sym place) c.if-at-text.true in
    IsCharBoundary-after_ascii c.args.text.now c.find_comma-at.result c.utf8.text c.if-at-text.true (omega arith)

pub returns-then-at-text : goal.returns-then-at-text
returns-then-at-text c =
    let text = c.args.text.now in
    let at = c.find_comma-at.result in
    let place : at ≡ comma_offset false text = c.find_comma-at.ensures ∙ ap (comma_offset false) c.as_bytes.ensures.value in
    let whole : at - 0 ≡ at = omega arith in
    let front : c.range.result.now ≡ take at text = c.range.ensures.value ∙ ap (λ (n : ℕ). take n text) whole in
    rw front (first_of_several text at c.range_from.result.now place c.if-at-text.true c.range_from.ensures.value (omega (arith, c.range_from.ensures.len)))

pub returns-else-at-text : goal.returns-else-at-text
returns-else-at-text c =
    only_one c.args.text.now c.find_comma-at.result (c.find_comma-at.ensures ∙ ap (comma_offset false) c.as_bytes.ensures.value) c.if-at-text.false
