-- A connection that only discards its input doesn't change, and has no traffic.
use Rattle.std.proofs.Common.{sym, subst}
use Rattle.hls_event_loop.specs.Traffic.{no_traffic}
use Rattle.hls_event_loop.proofs.slot.serve.Goals as goal

pub returns-then-slot-clause-becomes : goal.returns-then-slot-clause-becomes
returns-then-slot-clause-becomes g c =
    let handler = c.args.handler.now in
    let connection = c.args.slot.now.connection in
    (no_traffic, subst (λ (v : g.row.H-Connection.Denot). g.H.Handler.becomes handler connection no_traffic handler v) (sym c.linger.ensures.connection) (g.met.H.Handler.unchanged handler connection))
