-- Each line that is accepted leaves the result to the lines after it; the first rejected line, or the state at the end, decides it.
use Rattle.std.proofs.Common.{◌≡◌, arith, rules}
use Rattle.std.specs.Prelude.{Err}
use Rattle.hls_m3u8.specs.TextLines.{text_lines}
use Rattle.hls_m3u8.specs.NextLine.{IsNextLine}
use Rattle.hls_m3u8.specs.ReadLines.{initial_state, read_from, finished_list}
use Rattle.hls_m3u8.proofs.Scanning.{begun, goes_on, stops, scanned, scanned_bad, scan_refused}
use Rattle.hls_m3u8.proofs.read.scan_playlist.Goals as goal

pub loop-line-init : goal.loop-line-init
loop-line-init c =
    rw c.empty_state-state.ensures (c.utf8.text, omega arith, begun (read_from 2 initial_state (text_lines c.args.text.now)))

pub returns-in_err-apply_line : goal.returns-in_err-apply_line
returns-in_err-apply_line c =
    let bad = stops (read_from 2 initial_state (text_lines c.args.text.now)) c.loop-line.number c.loop-line.state c.loop-line.rest.now c.in-Some.line.now c.in-Some.after.now
    c.in_err-apply_line.field-0.0 c.loop-line.invariant.2 c.in-Some.ensures c.in_err-apply_line.ensures in
    let is : c.from_residual.result ≡ Err c.in_err-apply_line.field-0.0 = search rules in
    rw is (scan_refused (finished_list (read_from 2 initial_state (text_lines c.args.text.now))) c.loop-line.number c.loop-line.state c.in-Some.line.now c.in_err-apply_line.field-0.0 c.in_err-apply_line.ensures bad)

pub loop-line-preserved : goal.loop-line-preserved
loop-line-preserved c =
    let whole = read_from 2 initial_state (text_lines c.args.text.now) in
    let next : IsNextLine c.loop-line.rest.now c.in-Some.line.now c.in-Some.after.now = c.in-Some.ensures in (
      search rules,
      omega (arith, next.shorter, c.loop-line.invariant.1),
      goes_on whole c.loop-line.number c.loop-line.state c.loop-line.rest.now c.in-Some.line.now c.in-Some.after.now (record { state = c.apply_line.new.state; found = c.in_ok-apply_line.field-0 }) c.loop-line.invariant.2 next c.in_ok-apply_line.ensures,
    )

pub returns-in-None : goal.returns-in-None
returns-in-None c =
    scanned_bad (read_from 2 initial_state (text_lines c.args.text.now)) c.loop-line.number c.loop-line.state c.loop-line.rest.now c.loop-line.invariant.2 c.in_default.ensures c.in-None.ensures

pub returns-in-Some-require_target : goal.returns-in-Some-require_target
returns-in-Some-require_target c =
    scanned (read_from 2 initial_state (text_lines c.args.text.now)) c.loop-line.number c.loop-line.state c.loop-line.rest.now c.in-Some-require_target.field-0
    c.loop-line.invariant.2 c.in_default.ensures c.in-Some-require_target.ensures
