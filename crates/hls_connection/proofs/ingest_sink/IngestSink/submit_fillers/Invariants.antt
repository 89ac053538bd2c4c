-- Before each round, the fillers so far were submitted, only acts and counts have changed, and the init section is usable.
use Rattle.std.proofs.Common.{◌≡◌, take}
use Rattle.hls_api.specs.{Acts.ActsExtend, Ingest.SubmitsFillers}
use Rattle.hls_connection.specs.{IngestStates.IsUsable, IngestStates.progress_of, MendingStates.with_counts}
use Rattle.hls_connection.proofs.ingest_sink.IngestSink.submit_fillers.Given as goal

-- the fillers before the present one were submitted, and only acts and counts changed
abbrev pub invariant-loop-filler : goal.invariant-loop-filler
invariant-loop-filler g l = record {
  usable : IsUsable l.self.encoder.rendition (g.K.Keeper.known l.keeper) l.taken.init;
  act_steps : ActsExtend g.K.Keeper.other_actors (g.K.Keeper.known l.initial.keeper) l.initial.taken.acts (g.K.Keeper.known l.keeper) l.taken.acts;
  same : progress_of l.taken ≡ with_counts (progress_of l.initial.taken) l.taken.counts l.taken.acts;
  fills : SubmitsFillers l.self.encoder.rendition (take l.filler-index l.fillers) l.initial.taken.counts l.initial.taken.acts l.taken.counts l.taken.acts;
}
