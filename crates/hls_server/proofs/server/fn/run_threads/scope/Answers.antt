-- What the threads of the follower and the housekeeper capture may be sent to them: it is Send, and what they share is Sync.
use denote.Exit.{no, yes}
use denote.Param.{param}
use denote.Param.Send.{IsSend, IsSync, arg_send, param_send, shr_send}
use Rattle.std.specs.Prelude.{codes}
use Rattle.hls_turn.proofs.pass.Pass.TheSendSync as pass
use Rattle.hls_server.proofs.Sending.{closure_of_four, closure_of_three, context_sync, journal_send}
use Rattle.hls_server.proofs.server.fn.run_threads.scope.Goals as goal

pub spawn-follower-requires-send-F : goal.spawn-follower-requires-send-F
spawn-follower-requires-send-F g c κs within =
    let sync : IsSync (param 0 g.row.R) = search in
    let send : IsSend (param 1 g.row.F) = search in
    param_send 1 _ (arg_send _ no _ (closure_of_four (codes "hls_server::server::fn::run_threads::fn::scope::spawn+Self") _ _ _ _
    (shr_send _ _ _ sync) (shr_send _ _ _ (context_sync _)) (journal_send _ send) pass.the_send))

pub spawn-keeper-requires-send-F : goal.spawn-keeper-requires-send-F
spawn-keeper-requires-send-F g c κs within =
    let sync : IsSync (param 0 g.row.R) = search in
    param_send 1 _ (arg_send _ yes _ (closure_of_three (codes "hls_server::server::fn::run_threads::fn::scope::spawn+2+Self") _ _ _
    (shr_send _ _ _ sync) (shr_send _ _ _ (context_sync _)) pass.the_send))
