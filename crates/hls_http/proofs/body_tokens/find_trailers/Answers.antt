-- A trailer section that exceeds the limit is invalid, whether it is complete or not.
use Rattle.hls_http.proofs.BodySteps.{long_trailers, no_trailers}
use Rattle.hls_http.proofs.body_tokens.find_trailers.Goals as goal

pub returns-in-Ok-Complete : goal.returns-in-Ok-Complete
returns-in-Ok-Complete c =
    let ok = rw c.in-Ok-Complete.field-0-is at c.in-Ok-Complete.ensures in
    long_trailers c.args.held.now c.parse_headers.new.headers c.in-Ok-Complete.len c.in-Ok-Complete.field-0-0-1 ok.complete.0 ok.complete.1 ok.complete.2 c.if-len-gt-MOST_HEAD.true

pub returns-in-Ok-Partial-2 : goal.returns-in-Ok-Partial-2
returns-in-Ok-Partial-2 c =
    let part = rw c.in-Ok-Partial.field-0-is at c.in-Ok-Partial.ensures in
    no_trailers c.args.held.now part.partial c.if-held-lt-MOST_HEAD.false
