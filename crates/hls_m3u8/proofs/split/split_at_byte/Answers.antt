-- The text is cut at the first of these bytes, or is one part if there is none. The cut is between two characters, since the byte is ASCII.
use Rattle.std.proofs.Common.{◌≡◌, ◌-◌, ap, sym, ◌∙◌, Some, arith}
use Rattle.hls_m3u8.specs.TextLines.{Split}
use Rattle.hls_m3u8.proofs.Cuts.{cut_nowhere, cut_there, before_byte, behind_byte}
use Rattle.hls_m3u8.proofs.split.split_at_byte.Goals as goal

pub range-requires-clause-end_boundary : goal.range-requires-clause-end_boundary
range-requires-clause-end_boundary c = before_byte c.args.byte c.args.text.now c.in-Some.at c.requires (sym c.in-Some.ensures)

pub range_from-requires : goal.range_from-requires
range_from-requires c = λ some. behind_byte c.args.byte c.args.text.now c.in-Some.at c.utf8.text c.requires (sym c.in-Some.ensures)

pub returns-in-None-clause-front : goal.returns-in-None-clause-front
returns-in-None-clause-front c = sym (ap (λ (s : Split). s.front) (cut_nowhere c.args.byte c.args.text.now (sym c.in-None.ensures)))

pub returns-in-None-clause-remainder : goal.returns-in-None-clause-remainder
returns-in-None-clause-remainder c = sym (ap (λ (s : Split). s.remainder) (cut_nowhere c.args.byte c.args.text.now (sym c.in-None.ensures)))

pub returns-in-Some-clause-front : goal.returns-in-Some-clause-front
returns-in-Some-clause-front c =
    let at = cut_there c.args.byte c.args.text.now c.in-Some.at (sym c.in-Some.ensures) in
    let whole : c.in-Some.at - 0 ≡ c.in-Some.at = omega arith in
    c.range.ensures.value ∙ rw whole (sym (ap (λ (s : Split). s.front) at))

pub returns-in-Some-clause-remainder : goal.returns-in-Some-clause-remainder
returns-in-Some-clause-remainder c =
    let at = cut_there c.args.byte c.args.text.now c.in-Some.at (sym c.in-Some.ensures) in
    ap Some c.range_from.ensures.value ∙ sym (ap (λ (s : Split). s.remainder) at)
