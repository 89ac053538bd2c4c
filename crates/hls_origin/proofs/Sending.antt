-- The follower of a journal may go to a thread of its own. The search doesn't look as deep as the parts of a file that it writes, so
-- they are proved here.
use denote.Param.Send.{AllSend, IsSend, sendable, recorded_send, struct_send}
use denote.RattleType.{RattleType}
use denote.Struct.Struct.{Struct}
use denote.Struct.Declared.{Declared}
use denote.Struct.Declared as declared
use Rattle.std.proofs.Crossing.{crosses}
use Rattle.hls_journal_store.below.sqlite_disk.specs.contracts.modelled.Modelled as modelled
use Rattle.hls_journal_store.below.sqlite_disk.specs.contracts.start.Unknown as unknown
use Rattle.hls_journal_store.below.sqlite_disk.specs.contracts.start.UnknownStart.TheImpl as start
use Rattle.hls_journal_store.specs.contracts.log_file.FileCalls as calls
use Rattle.hls_journal_store.specs.contracts.log_file.FileCallsCalls.TheImpl as impl
use Rattle.hls_journal_store.specs.contracts.follower.Follower as follower

-- a struct may be sent to another thread if each of its fields may
pub declared_send : (T : Declared) → AllSend (declared.fields T) → IsSend (declared.row T)
declared_send T s = recorded_send (Struct (declared.shape T)) T.D T.to T.to_one (struct_send (declared.shape T) s)

-- the type of the file that the follower writes
abbrev log_file : RattleType
log_file = modelled.the_row calls.the_row unknown.the_row impl.ghosts start.ghosts

-- the calls of that file may be sent to another thread
calls_send : IsSend calls.the_row
calls_send = search (sendable, crosses) depth 30

-- the file may be sent to another thread
log_send : IsSend log_file
log_send = search (sendable, crosses, calls_send) depth 30

-- a follower may be sent to another thread if what it writes may
follower_send : (D : RattleType) → IsSend D → IsSend (follower.the_row D)
follower_send D d = declared_send (follower.the_type D) (search (sendable, crosses) depth 30, (search (sendable, crosses) depth 30, (search (sendable, crosses) depth 30, (search (sendable, crosses) depth 30, (search (sendable, crosses) depth 30, (search (sendable, crosses) depth 30, (search (sendable, crosses) depth 30, (search (sendable, crosses) depth 30, (search (sendable, crosses) depth 30, tt)))))))))

-- the follower that writes a journal's file may be sent to another thread
pub store_send : IsSend (follower.the_row log_file)
store_send = follower_send log_file log_send
