-- What a planner's thread captures may be sent to it: the runtime, the jobs and the gate are shared, and all are Sync.
use denote.Exit.{yes}
use denote.Param.Send.{arg_send, param_send, shr_send}
use Rattle.std.specs.Prelude.{codes}
use Rattle.hls_server.proofs.Sending.{alloc_send, closure_of_four, gate_send, jobs_sync}
use Rattle.hls_server.proofs.server.start_planners.Goals as goal

pub spawn-planner-requires-send-F : goal.spawn-planner-requires-send-F
spawn-planner-requires-send-F g c κs within =
    param_send 1 _ (arg_send _ yes _ (closure_of_four (codes "hls_server::server::fn::start_planners::spawn+Self") _ _ _ _
    (shr_send _ _ _ c.type_bounds.sync-R) alloc_send (shr_send _ _ _ jobs_sync) (gate_send _ _ c.type_bounds.sync-R)))
