-- After a write that succeeds, the session has sent the next waiting bytes. After one that fails, it ends with a beginning of them written.
use Rattle.hls_io.specs.Counted.{failures_of, inner_of}
use Rattle.hls_http.specs.BufferedReader.{unread_of}
use Rattle.hls_connection.proofs.SessionLaws.{ended_unwritten, led_sends}
use Rattle.hls_connection.proofs.session.write_pending.Goals as goal

pub returns-then-not-write_whole : goal.returns-then-not-write_whole
returns-then-not-write_whole g c = λ m known first led.
    let w = c.if-not-write_whole.ensures in
    ended_unwritten c.chunk-next.result.now (g.W.Write.contents (inner_of c.write_whole.new.output)) (failures_of c.write_whole.new.output) c.chunk-next.ensures w.writes w.counts led

pub returns : goal.returns
returns g c = λ m known first led.
    let w = c.if-not-write_whole.ensures in
    led_sends c.chunk-next.result.now (c.mark_sent.ensures (unread_of c.args.session.now.source)) c.chunk-next.ensures w.writes w.counts led
