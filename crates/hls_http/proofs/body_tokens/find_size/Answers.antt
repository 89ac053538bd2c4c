-- A size line within the limit is the next token of a chunked body. A longer line is invalid, and so is one that isn't complete within the limit.
use Rattle.hls_http.proofs.BodySteps.{line_frame, long_line, no_line}
use Rattle.hls_http.proofs.body_tokens.find_size.Goals as goal

pub returns-in-Ok-Complete : goal.returns-in-Ok-Complete
returns-in-Ok-Complete c =
    let ok = rw c.in-Ok-Complete.field-0-is at c.in-Ok-Complete.ensures in
    long_line c.args.held.now c.in-Ok-Complete.len c.in-Ok-Complete.field-0-0-1 ok.complete.0 ok.complete.1 c.if-len-gt-MOST_HEAD.true

pub returns-in-Ok-Complete-2 : goal.returns-in-Ok-Complete-2
returns-in-Ok-Complete-2 c =
    let ok = rw c.in-Ok-Complete.field-0-is at c.in-Ok-Complete.ensures in
    line_frame c.args.held.now c.in-Ok-Complete.len c.in-Ok-Complete.field-0-0-1 ok.complete.0 c.framing_after_size.result ok.complete.1 c.if-len-gt-MOST_HEAD.false c.framing_after_size.ensures

pub returns-in-Ok-Partial-2 : goal.returns-in-Ok-Partial-2
returns-in-Ok-Partial-2 c =
    let part = rw c.in-Ok-Partial.field-0-is at c.in-Ok-Partial.ensures in
    no_line c.args.held.now part.partial c.if-held-lt-MOST_HEAD.false
