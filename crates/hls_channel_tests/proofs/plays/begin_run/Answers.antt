-- The init section fits the first state of the channel, so the run can begin with it.
use Rattle.hls_channel_tests.proofs.plays.begin_run.Goals as goal

pub with_event-requires-clause-fits : goal.with_event-requires-clause-fits
with_event-requires-clause-fits c = c.in_ok-event.ensures.fits c.in_ok-new.field-0.value
