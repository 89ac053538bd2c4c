-- A connection that needs more of its stream: nothing can be done with what is unread.
use Rattle.hls_api.specs.declared.route.ServedChannel.{ServedChannel}
use Rattle.std.specs.Prelude.{◌≡◌, ◌⊎◌, ℕ, Bool, List, []}
use Rattle.hls_http.specs.{Bodies.IsOpen, Heads.IsUnfinished}
use Rattle.hls_api.specs.{Acts.Act, ConnectionStates.{History, IsServed, Stage, Between, Within, Over, IsAtStage}}

-- between two requests what is unread is empty or the beginning of a head; within one it ends before a step of the body, so the body isn't
-- over, and no reply to it is being made
abbrev pub EndsBeforeStep : (stage : Stage) (channel : ServedChannel) (ended : Bool) (stream : List ℕ) (acts : List Act) (text unread : List ℕ) → IsAtStage stage channel ended stream acts text unread → Type 0
EndsBeforeStep Between channel ended stream acts text unread s = (unread ≡ []) ⊎ IsUnfinished unread
EndsBeforeStep Within channel ended stream acts text unread s = IsOpen s.last unread
EndsBeforeStep (Over end) channel ended stream acts text unread s = ⊥

-- what was received is served up to a place where nothing more can be done with the unread bytes
pub record NeedsMore (channel : ServedChannel) (stage : Stage) (h : History) : Type 0 where
  pub served : IsServed channel stage h
  pub before : EndsBeforeStep stage channel h.ended served.rest served.acts served.text h.unread served.stage_is
