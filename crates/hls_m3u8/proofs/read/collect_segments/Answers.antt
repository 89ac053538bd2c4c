-- Each line that is accepted keeps its segment; the first that isn't ends the loop with its fault.
use Rattle.std.proofs.Common.{◌≡◌, sym, arith, rules}
use Rattle.std.specs.Prelude.{Err}
use Rattle.hls_m3u8.specs.TextLines.{text_lines}
use Rattle.hls_m3u8.specs.NextLine.{IsNextLine}
use Rattle.hls_m3u8.specs.ReadLines.{initial_state, read_from}
use Rattle.hls_m3u8.proofs.Scanning.{stands_at, kept_refused, kept_more, kept_all, with_none, rest_place}
use Rattle.hls_m3u8.proofs.read.collect_segments.Goals as goal

pub loop-line-init : goal.loop-line-init
loop-line-init c =
    rw (c.empty_state.ensures, c.requires.empty)
    (c.utf8.text, omega (arith, c.requires.short), c.requires.shorter, c.requires.place, sym (with_none (read_from 2 initial_state (text_lines c.args.text.now))))

pub store_line-requires-clause-is_line_at : goal.store_line-requires-clause-is_line_at
store_line-requires-clause-is_line_at c =
    let inv = c.loop-line.invariant in
    stands_at c.args.whole.now c.loop-line.rest.now c.in-Some.line.now c.in-Some.after.now c.len.result c.len.ensures.value inv.0 inv.2 inv.3 c.in-Some.ensures

pub returns-in_err-store_line : goal.returns-in_err-store_line
returns-in_err-store_line c =
    let inv = c.loop-line.invariant in
    let is : c.from_residual.result ≡ Err c.in_err-store_line.field-0.0 = search rules in
    rw is (kept_refused (read_from 2 initial_state (text_lines c.args.text.now)) c.loop-line.number c.loop-line.collected c.store_line.new.collected c.loop-line.rest.now
    c.in-Some.line.now c.in-Some.after.now c.in_err-store_line.field-0.0 inv.4 c.in-Some.ensures c.in_err-store_line.ensures)

pub loop-line-preserved : goal.loop-line-preserved
loop-line-preserved c =
    let inv = c.loop-line.invariant in
    let next : IsNextLine c.loop-line.rest.now c.in-Some.line.now c.in-Some.after.now = c.in-Some.ensures in
    let line = c.in_ok-store_line.ensures in (
      search rules,
      omega (arith, next.shorter, inv.1),
      omega (arith, next.shorter, inv.2),
      rest_place c.args.whole.now c.loop-line.rest.now c.in-Some.after.now inv.2 next.shorter inv.3 next.place,
      kept_more (read_from 2 initial_state (text_lines c.args.text.now)) c.loop-line.collected.segments.items c.store_line.new.collected.segments.items c.loop-line.number c.loop-line.collected.state c.store_line.new.collected.state
          c.loop-line.rest.now c.in-Some.line.now c.in-Some.after.now line.0 inv.4 next line.1 line.2 line.3,
    )

pub returns : goal.returns
returns c =
    kept_all (read_from 2 initial_state (text_lines c.args.text.now)) c.loop-line.collected.segments.items c.loop-line.number c.loop-line.collected.state c.loop-line.rest.now c.loop-line.invariant.4 c.in_default.ensures
