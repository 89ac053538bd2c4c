-- The event may be applied: the init section that was made fits every state.
use Rattle.hls_sample_channels.proofs.states.begin_rendition.Goals as goal

pub apply_event-requires : goal.apply_event-requires
apply_event-requires c = c.in_ok-event.ensures.fits c.args.snapshot.now
