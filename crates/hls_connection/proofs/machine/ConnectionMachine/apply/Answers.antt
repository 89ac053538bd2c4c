-- After a transition the trace has the new state, the step's acts after the earlier ones, and the step's output waiting.
use Rattle.hls_connection.{specs.Traces.trace_at, proofs.HoldLaws.asked_more}
use Rattle.hls_connection.proofs.machine.ConnectionMachine.apply.Goals as goal

pub returns-clause-trace : goal.returns-clause-trace
returns-clause-trace c = λ unread i.
    let m = c.args.self.now in
    let asked = asked_more m.notes.acts.items c.and-self.result.items c.args.step.acts tt c.and-self.ensures in
    record (trace_at m unread) { state = c.replace_value.ensures i; past = record (trace_at m unread).past { acts = asked i; pending = c.replace_value-2.ensures i } }
