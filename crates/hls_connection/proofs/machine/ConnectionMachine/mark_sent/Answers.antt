-- When bytes are sent, they move from those that wait to the end of those that were sent.
use Rattle.std.proofs.Common.{◌∙◌, ℕ, List, take, flat_map, ap}
use Rattle.hls_connection.{specs.Traces.trace_at, proofs.HoldLaws.flat_push}
use Rattle.hls_connection.proofs.machine.ConnectionMachine.mark_sent.Goals as goal

pub returns : goal.returns
returns c = λ unread i.
    let t = c.args.self.now in
    let sent = ap (λ (xs : List (List ℕ × ℕ)). flat_map (λ w. take w.1 w.0) xs) c.and-self.ensures
    ∙ flat_push (λ w. take w.1 w.0) t.notes.writes.items (t.output, c.args.count) in
    record (trace_at t unread) { past = record (trace_at t unread).past { pending = (c.clear_sent.ensures ∙ c.advance.ensures) i; sent = sent i } }
