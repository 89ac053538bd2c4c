-- When bytes are sent, the trace of an active connection changes as that of its machine does.
use Rattle.std.proofs.Common.{◌∙◌, ap, sym}
use Rattle.hls_connection.specs.{declared.connection.ActiveConnection.ActiveConnection, declared.connection.ConnectionMemory.ConnectionMemory}
use Rattle.hls_connection.specs.Traces.{trace_after_send, trace_at, trace_of}
use Rattle.hls_connection.proofs.connection.ConnectionMemory.mark_sent.Goals as goal

pub returns-in-Active : goal.returns-in-Active
returns-in-Active c =
    c.mark_sent.ensures c.deref_mut.result.now.input.unread ∙ ap (λ (b : ActiveConnection). trace_after_send (trace_at b.machine b.input.unread) c.args.count) c.deref_mut.ensures.value
    ∙ ap (λ (p : ConnectionMemory). trace_after_send (trace_of p) c.args.count) (sym c.in-Active.is)
