-- The follower of a journal may go to a thread. The search doesn't look as deep as a follower's parts, so they are proved one by one.
use denote.Param.Send.{IsSend, IsSync, sendable, mut_send, shr_send}
use denote.Ref.{NamedLft}
use denote.RattleType.{RattleType}
use Rattle.std.proofs.Crossing.{crosses}
use Rattle.std.specs.contracts.option.Option as option
use Rattle.hls_origin.specs.contracts.serve.journal_follower.JournalFollower as journal
use Rattle.hls_origin.specs.contracts.serve.renew_log.LastState as last
use Rattle.hls_origin.proofs.Sending.{declared_send, store_send}
use Rattle.hls_origin.proofs.serve.renew_log.LastState.TheSendSync as last_state
use Rattle.hls_origin.proofs.serve.run.serve_logs.Goals as goal

-- the last state, if there is one, may be sent to another thread
option_send : IsSend (option.the_row last.the_row)
option_send = search (sendable, crosses, last_state.the_send) depth 30

-- the follower of the journal may be sent to another thread, if the source of threads that it borrows may be shared
journal_send : (a : NamedLft) (T : RattleType) → IsSync T → IsSend (journal.the_row a T)
journal_send a T sync = declared_send (journal.the_type a T) (shr_send _ _ _ sync, (search (sendable, crosses) depth 30, (search (sendable, crosses) depth 30, (mut_send _ _ _ store_send, (search (sendable, crosses) depth 30, (search (sendable, crosses) depth 30, (search (sendable, crosses) depth 30, (search (sendable, crosses) depth 30, (search (sendable, crosses) depth 30, (mut_send _ _ _ option_send, (search (sendable, crosses) depth 30, tt)))))))))))

pub run_server-requires-send-F : goal.run_server-requires-send-F
run_server-requires-send-F g c κs within = search (sendable, journal_send, c.type_bounds.sync-R)
