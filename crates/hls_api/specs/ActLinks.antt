-- The acts of a connection among those of others: between two of them, also within a body, others may have acted through the same keeper.
use Rattle.std.specs.Prelude.{◌≡◌, List, [], ◌∷◌, ◌++◌}
use Rattle.hls_core_laws.specs.{declared.event.LoggedEvent.LoggedEvent, Follows.Follows, IsState.IsState}
use Rattle.hls_api.specs.{Acts.Act, Acts.ActsExtend, Acts.Knowledge, Acts.IsActStep, OtherActors.OtherActors}

-- later knowledge of a keeper: the same number, a state that follows or is the same, and perhaps more events and more acts
pub record IsLaterKnowledge (a b : Knowledge) : Type 0 where
  pub number : b.number ≡ a.number
  pub follows : Follows a.seen b.seen
  pub more : List LoggedEvent
  pub mine : b.mine ≡ a.mine ++ more
  pub asked : List Act
  pub acts : b.acts ≡ a.acts ++ asked

-- each act starts from knowledge that is later than what the act before it led to, and the final knowledge is later, too
abbrev pub AreLinked : Knowledge → List Act → Knowledge → Type 0
AreLinked a [] b = IsLaterKnowledge a b
AreLinked a (act ∷ acts) b = (met : Knowledge) × (left : Knowledge) × IsLaterKnowledge a met × IsActStep met act left × AreLinked left acts b

-- ---- laws

-- acts that continue from linked acts are linked to them
abbrev pub ActsExtendLinks : Type 0
ActsExtendLinks =
    (m : OtherActors) (a b c : Knowledge) (before after : List Act) → AreLinked a before b → ActsExtend m b before c after → AreLinked a after c

-- linked acts stay linked as knowledge grows
abbrev pub LinksStay : Type 0
LinksStay = (a b c : Knowledge) (acts : List Act) → AreLinked a acts b → IsLaterKnowledge b c → AreLinked a acts c

-- if linked acts begin at knowledge whose state is valid, they end at later knowledge, and its state is valid
abbrev pub LinkedStatesFollow : Type 0
LinkedStatesFollow = (a b : Knowledge) (acts : List Act) → IsState a.seen → AreLinked a acts b → IsState b.seen × IsLaterKnowledge a b

-- one act on a valid state leads to later knowledge of the keeper, and to a valid state
abbrev pub ActsAreLater : Type 0
ActsAreLater = (a b : Knowledge) (act : Act) → IsState a.seen → IsActStep a act b → IsState b.seen × IsLaterKnowledge a b
