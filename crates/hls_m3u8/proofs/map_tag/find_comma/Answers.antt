-- By whether an attribute ends at the current byte, or the text ends.
use Rattle.std.proofs.Common.{◌≡◌, ◌+◌, sym, false, drop, get_or, arith}
use Rattle.hls_m3u8.specs.Attributes.{toggle_quote}
use Rattle.hls_m3u8.specs.Commas.{comma_offset}
use Rattle.hls_m3u8.proofs.Commas.{comma_here, comma_later, comma_nowhere}
use Rattle.hls_m3u8.proofs.map_tag.find_comma.Goals as goal

pub returns-then-is_separator : goal.returns-then-is_separator
returns-then-is_separator c =
    let so_far : comma_offset false c.args.text.now ≡ c.loop-at.at + comma_offset c.loop-at.quoted (drop c.loop-at.at c.args.text.now) = c.loop-at.invariant in
    omega (arith, so_far, comma_here c.loop-at.quoted c.args.text.now c.loop-at.at c.loop-at-test.true (sym c.if-is_separator.ensures))

pub loop-at-preserved : goal.loop-at-preserved
loop-at-preserved c =
    let text = c.args.text.now in
    let at = c.loop-at.at in
    let so_far : comma_offset false text ≡ at + comma_offset c.loop-at.quoted (drop at text) = c.loop-at.invariant in
    let later : comma_offset c.loop-at.quoted (drop at text) ≡ 1 + comma_offset (toggle_quote (get_or text at 0) c.loop-at.quoted) (drop (at + 1) text) =
    comma_later c.loop-at.quoted text at c.loop-at-test.true (sym c.if-is_separator.ensures) in
    let next : comma_offset false text ≡ (at + 1) + comma_offset (toggle_quote (get_or text at 0) c.loop-at.quoted) (drop (at + 1) text) = omega arith in
    rw c.toggle_quote-quoted.ensures next

pub returns : goal.returns
returns c =
    let so_far : comma_offset false c.args.text.now ≡ c.loop-at.at + comma_offset c.loop-at.quoted (drop c.loop-at.at c.args.text.now) = c.loop-at.invariant in
    omega (arith, so_far, comma_nowhere c.loop-at.quoted c.args.text.now c.loop-at.at c.loop-at-test.false)
