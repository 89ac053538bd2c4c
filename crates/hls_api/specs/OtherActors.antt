-- Who acts on a channel between two calls of a keeper, and which state a call meets.
use Rattle.std.specs.Prelude.{◌≡◌}
use Rattle.hls_core_laws.specs.{Follows.Follows, Outcome.Outcome, Moves.Moves}
use Rattle.hls_api.specs.Types.{Event, PassView, State}

-- who else acts on the channel: nobody, if one thread owns it, or others
pub data OtherActors : Type 0 where
  Nobody : OtherActors
  Others : OtherActors

-- the states to which the other actors may lead: the same, or any that follows
abbrev pub MayBecome : OtherActors → State → State → Type 0
MayBecome Nobody a b = b ≡ a
MayBecome Others a b = Follows a b

-- the event met a state to which the other actors led from the one seen before, and moved it to the one that is seen now
pub record HasMet (m : OtherActors) (old : PassView) (event : Event) (new : PassView) : Type 0 where
  pub met : State
  pub outcome : Outcome
  pub between : MayBecome m old.seen met
  pub moves : Moves met old.number event outcome new.seen
