-- A session: a connection over a reader and a writer, from its start to its end.
use Rattle.std.specs.Prelude.{◌≡◌, ℕ, List, [], ◌++◌, length, Option, Some, IsTrue}
use Rattle.hls_api.specs.{Acts.{AreActSteps, Knowledge}, OtherActors.OtherActors, ConnectionStates.{History, Stage, Over, IsServed}, Routes.unmended_channel}
use Rattle.hls_api.specs.Types.{SessionEnd}
use Rattle.hls_http.specs.declared.end.SessionEnd.TheVariants as ends

-- the connection is not yet at its end, as when its reader fails
abbrev pub IsNotOver : Stage → Type 0
IsNotOver (Over end) = ⊥
IsNotOver _ = Unit {0}

-- everything is sent if the session ends by itself or its reader fails; if its writer fails, some of it is
abbrev pub EndsSession : SessionEnd → Stage → List ℕ → Type 0
EndsSession ends.ReadFailed stage pending = IsNotOver stage × (pending ≡ [])
EndsSession ends.WriteFailed stage pending = Unit {0}
EndsSession end stage pending = (stage ≡ Over end) × (pending ≡ [])

-- This prefix of the input was received, and what was sent is written after what was there; each act starts where the one before it
-- led, or where the other actors may have led meanwhile, and there were no other acts. Units aren't mended. So reading stops only at the end of the input,
-- at a failure, or at a reply with `Connection: close`.
pub record Session (m : OtherActors) (a : Knowledge) (input out : List ℕ) (contents : Option (List ℕ)) (b : Knowledge) (end : SessionEnd) : Type 0 where
  pub stage : Stage
  pub history : History
  pub served : IsServed (unmended_channel (length a.seen.config.renditions)) stage history
  pub later : List ℕ
  pub received : input ≡ history.received ++ later
  pub at_end : IsTrue history.ended → later ≡ []
  pub written : contents ≡ Some (out ++ history.sent)
  pub act_steps : AreActSteps m a history.acts b
  pub ends : EndsSession end stage history.pending
