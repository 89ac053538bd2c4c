-- The state that is restored after a crash is one that the channel had, and has all events whose records survive.
use Rattle.hls_journal_laws.proofs.Durable.{durable-events-are-restored}
use Rattle.hls_journal_laws.proofs.laws.durable_events_are_restored.Goals as goal

pub returns : goal.returns
returns g c = durable-events-are-restored (g.D.Disk.may_leave c.args.disk.now) c.survivors_are_read.ensures
