-- What a worker's thread captures may be sent to it: the runtime and the context that are shared are Sync, its input, output and pass are Send.
use denote.Exit.{yes}
use denote.Param.Send.{arg_send, param_send, shr_send}
use Rattle.std.specs.Prelude.{codes}
use Rattle.hls_event_loop.proofs.worker_io.WorkerIo.TheSendSync as worker_io
use Rattle.hls_turn.proofs.pass.Pass.TheSendSync as pass
use Rattle.hls_server.proofs.Sending.{closure_of_four, context_sync}
use Rattle.hls_server.proofs.server.start_workers.Goals as goal

pub spawn-worker-requires-send-F : goal.spawn-worker-requires-send-F
spawn-worker-requires-send-F g c κs within =
    param_send 1 _ (arg_send _ yes _ (closure_of_four (codes "hls_server::server::fn::start_workers::spawn+Self") _ _ _ _
    (shr_send _ _ _ c.type_bounds.sync-R) (shr_send _ _ _ (context_sync _)) worker_io.the_send pass.the_send))
