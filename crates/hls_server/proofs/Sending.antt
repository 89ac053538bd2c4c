-- The threads of a server share what its context holds. The table of jobs is among it, with texts of programmes, which hold a log. A log
-- may be shared though its crate doesn't say so, and the search doesn't look as deep as that table, so all is proved by its parts.
use denote.RattleType.{RattleType}
use denote.Param.Send.{AllSend, AllSync, IsSend, IsSync, recorded_send, recorded_sync, sendable, shr_send, shr_sync, struct_send, struct_sync, view_sync, whole-keyless}
use denote.Ref.{NamedLft}
use denote.Struct.Tuple.{TupleAt, type_at}
use mir.Syntax.{Sym}
use mathlib.Core.List.{[], ◌∷◌}
use denote.Struct.Struct.{Struct}
use denote.Struct.Declared.{Declared}
use denote.Struct.Declared as declared
use Rattle.std.proofs.Crossing.{crosses}
use Rattle.std.specs.contracts.alloc.Global as alloc
use Rattle.http_server.specs.contracts.log.Log as log
use Rattle.http_server.proofs.log.Log.TheSendSync as log_sends
use Rattle.bytes.proofs.shared.Bytes.TheSendSync as bytes_sends
use Rattle.hls_jobs.specs.contracts.shared.Jobs as jobs
use Rattle.hls_jobs.specs.contracts.shared.JobsInner as inner
use Rattle.hls_jobs.specs.contracts.plans.PlanTable as plans
use Rattle.hls_jobs.specs.contracts.programme_texts.ProgrammeTexts as texts
use Rattle.hls_jobs.specs.contracts.programme_texts.ProgrammeTexts.TheInside as parts
use Rattle.hls_jobs.proofs.last_uses.LastUse.TheSendSync as last_use
use Rattle.hls_jobs.proofs.table.JobTable.TheSendSync as table
use Rattle.hls_jobs.proofs.plans.PlanRow.TheSendSync as plan_row
use Rattle.hls_jobs.proofs.programme_texts.ProgrammeTexts.TheSendSync as texts_sends
use Rattle.hls_connection.specs.contracts.shared_channel.SharedChannel as channel
use Rattle.hls_turn.proofs.turn.Turn.TheSendSync as turn
use Rattle.hls_metrics.proofs.measurements.Measurements.TheSendSync as measurements
use Rattle.hls_mend.proofs.encoder_signs.EncoderSigns.TheSendSync as signs
use Rattle.hls_settings.proofs.settings.Settings.TheSendSync as settings
use Rattle.hls_event_loop.proofs.worker_loads.WorkerLoads.TheSendSync as worker_loads
use Rattle.hls_housekeeper.proofs.log_throttle.LogThrottle.TheSendSync as throttle
use Rattle.hls_server.specs.contracts.server.ServerContext as context
use Rattle.hls_server.specs.contracts.server.WakingGate as gate
use Rattle.hls_server.specs.contracts.server.ServerJournal as journal
use Rattle.hls_server.proofs.durability.Durability.TheSendSync as durability
use Rattle.hls_server.proofs.body_lanes.BodyLanes.TheSendSync as lanes

-- a struct may be sent to another thread if each of its fields may
declared_send : (T : Declared) → AllSend (declared.fields T) → IsSend (declared.row T)
declared_send T s = recorded_send (Struct (declared.shape T)) T.D T.to T.to_one (struct_send (declared.shape T) s)

-- a struct may be shared by threads if each of its fields may
declared_sync : (T : Declared) → AllSync (declared.fields T) → IsSync (declared.row T)
declared_sync T s = recorded_sync (Struct (declared.shape T)) T.D T.to T.to_one (struct_sync (declared.shape T) s)

-- a closure may be sent to another thread if the three values that it captures may
pub closure_of_three : (n : Sym) (A B C : RattleType) → IsSend A → IsSend B → IsSend C → IsSend (TupleAt n (A ∷ B ∷ C ∷ []))
closure_of_three n A B C a b c = declared_send (type_at n (A ∷ B ∷ C ∷ [])) (a, (b, (c, tt)))

-- a closure may be sent to another thread if the four values that it captures may
pub closure_of_four : (n : Sym) (A B C D : RattleType) → IsSend A → IsSend B → IsSend C → IsSend D → IsSend (TupleAt n (A ∷ B ∷ C ∷ D ∷ []))
closure_of_four n A B C D a b c d = declared_send (type_at n (A ∷ B ∷ C ∷ D ∷ [])) (a, (b, (c, (d, tt))))

-- the allocator may be sent to another thread
pub alloc_send : IsSend alloc.the_row
alloc_send = search (sendable, crosses) depth 30

-- a log may be shared by threads if it may be sent, since it owns nothing
log_sync : (A B : RattleType) → IsSend (log.the_row A B) → IsSync (log.the_row A B)
log_sync A B s = record { shared = λ d b o κ q. whole-keyless _ _ s.owned q d b o }

-- the texts of programmes may be shared by threads
texts_sync : IsSync texts.the_row
texts_sync =
    view_sync _ _ _ _ _
    (declared_sync parts.the_type (
      search (sendable, crosses) depth 30,
      (
        search (sendable, crosses, bytes_sends.the_sync) depth 30,
        (
          search (sendable, crosses, bytes_sends.the_sync) depth 30,
          (search (sendable, crosses, bytes_sends.the_sync) depth 30, (search (sendable, crosses, log_sync, log_sends.the_send) depth 30, tt)),
        ),
      ),
    ))

-- the table of plans may be sent to another thread
plans_send : IsSend (plans.the_field).row
plans_send = search (sendable, crosses, plan_row.the_send, texts_sends.the_send, texts_sync) depth 30

-- the table of jobs may be sent to another thread
inner_send : IsSend inner.the_row
inner_send = declared_send inner.the_type (table.the_send, (search (sendable, crosses, last_use.the_send) depth 30, (plans_send, (search sendable, tt))))

-- the shared jobs may be shared by threads
pub jobs_sync : IsSync jobs.the_row
jobs_sync = search (sendable, crosses, inner_send) depth 30

-- what threads share of a channel may be shared: its turn, its jobs, its measurements and its encoders' signs
channel_sync : (a : NamedLft) → IsSync (channel.the_row a)
channel_sync a = declared_sync (channel.the_type a)
    (shr_sync _ _ _ turn.the_sync, (shr_sync _ _ _ jobs_sync, (shr_sync _ _ _ measurements.the_sync, (shr_sync _ _ _ signs.the_sync, (search (sendable, crosses) depth 30, (search (sendable, crosses) depth 30, tt))))))

-- the context of a server may be shared by threads
pub context_sync : (a : NamedLft) → IsSync (context.the_row a)
context_sync a = declared_sync (context.the_type a) (
  search (sendable, crosses) depth 30,
  (
    search (sendable, crosses) depth 30,
    (
      shr_sync _ _ _ settings.the_sync,
      (
        shr_sync _ _ _ (channel_sync a),
        (
          search (sendable, crosses) depth 30,
          (search (sendable, crosses) depth 30, (shr_sync _ _ _ worker_loads.the_sync, (shr_sync _ _ _ throttle.the_sync, (search (sendable, crosses) depth 30, (shr_sync _ _ _ durability.the_sync, (shr_sync _ _ _ lanes.the_sync, tt)))))),
        ),
      ),
    ),
  ),
)

-- the gate of a planner may be sent to another thread, if the runtime that it borrows may be shared
pub gate_send : (a : NamedLft) (R : RattleType) → IsSync R → IsSend (gate.the_row a R)
gate_send a R s = declared_send (gate.the_type a R) (shr_send _ _ _ s, (shr_send _ _ _ worker_loads.the_sync, (shr_send _ _ _ measurements.the_sync, tt)))

-- a server's journal may be sent to another thread if its follower may
pub journal_send : (F : RattleType) → IsSend F → IsSend (journal.the_row F)
journal_send F f = declared_send (journal.the_type F) (f, (search (sendable, crosses) depth 30, (search (sendable, crosses) depth 30, tt)))
