-- After a repeat or a refusal the snapshot is unchanged, as the event's step says.
use Rattle.hls_core.proofs.step.apply.Goals as goal

pub returns-in-Ok-Repeat : goal.returns-in-Ok-Repeat
returns-in-Ok-Repeat c = rw (c.in-Ok-Repeat.field-0-is, c.deref-2.ensures) at c.in-Ok-Repeat.ensures

pub returns-in-Err : goal.returns-in-Err
returns-in-Err c = rw c.deref-2.ensures at c.in-Err.ensures
