-- A complete head within the limit is found, with its summary; its length is at most the text's.
use Rattle.std.proofs.Common.{arith}
use Rattle.hls_http.proofs.HeadLaws.{found_head}
use Rattle.hls_http.proofs.head.find_head.Goals as goal

pub returns-in-Ok-Complete-2 : goal.returns-in-Ok-Complete-2
returns-in-Ok-Complete-2 c =
    let ok = rw c.in-Ok-Complete.field-0-is at c.in-Ok-Complete.ensures in (
      ok.within.section.len_fits,
      found_head c.args.text.now c.parse_request.new.headers c.in-Ok-Complete.spans ok.complete.0 c.summarize_head.result ok.complete.1 (c.summarize_head.ensures ok.complete.0 ok.complete.1)
          (omega (arith, c.parse_request.auto.headers)) c.if-spans-gt-MOST_HEAD.false,
    )
