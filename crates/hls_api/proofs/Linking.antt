-- Where acts lead, one after the other and with acts of others between them.
use Rattle.std.proofs.Common.{◌≡◌, ◌∙◌, List, [], ◌∷◌, ◌++◌, Result, refl, sym, ap, subst, append_assoc, append-nil}
use Rattle.hls_core_laws.specs.{declared.event.LoggedEvent.LoggedEvent, IsState.IsState, Moves.logged_event, Follows.Follows}
use Rattle.hls_core_laws.specs.Outcome.{Outcome, New, Repeated, Refused}
use Rattle.hls_core_laws.proofs.Callers.{state_of, follows_itself, follows_through, moves_follow, seen_suffices}
use Rattle.hls_api.specs.Acts.{Act, ActsExtend, Added, AreActSteps, HasEffect, Knowledge, IsActStep, Looked, LookFailed, ReadEncoders, Removed, Submitted, view_of}
use Rattle.hls_api.specs.{ActLinks.{IsLaterKnowledge, AreLinked}, OtherActors.OtherActors, Types.{Event, Refusal, State, Done, PassView}}
use Rattle.hls_core_laws.specs.PassView as calls

-- ---- later knowledge

-- what a keeper knows counts as later than itself
pub later_itself : (a : Knowledge) → IsLaterKnowledge a a
later_itself a = record { number = refl; follows = follows_itself a.seen; more = []; mine = sym (append-nil a.mine); asked = []; acts = sym (append-nil a.acts) }

-- what is later than later knowledge is later
pub later_through : (a b c : Knowledge) → IsLaterKnowledge a b → IsLaterKnowledge b c → IsLaterKnowledge a c
later_through a b c x y = record {
  number = y.number ∙ x.number;
  follows = follows_through a.seen b.seen c.seen x.follows y.follows;
  more = x.more ++ y.more;
  mine = y.mine ∙ ap (λ (t : List LoggedEvent). t ++ y.more) x.mine ∙ append_assoc a.mine x.more y.more;
  asked = x.asked ++ y.asked;
  acts = y.acts ∙ ap (λ (t : List Act). t ++ y.asked) x.acts ∙ append_assoc a.acts x.asked y.asked;
}

-- a view has grown: the number is the same, the state is the same or follows, and perhaps events were added
record Grows (a b : PassView) : Type 0 where
  number : b.number ≡ a.number
  follows : Follows a.seen b.seen
  more : List LoggedEvent
  mine : b.mine ≡ a.mine ++ more

-- a view that may have seen a later state has grown
looked_grows : (a b : PassView) → calls.MaySeeLater a b → Grows a b
looked_grows a b looked = record { number = looked.number; follows = looked.follows; more = []; mine = looked.mine ∙ sym (append-nil a.mine) }

-- a view that stays the same has grown by nothing
same_grows : (a b : PassView) → b ≡ a → Grows a b
same_grows a b same =
    subst (λ (k : PassView). Grows a k) (sym same) (record { number = refl; follows = follows_itself a.seen; more = []; mine = sym (append-nil a.mine) })

-- the answer to an event adds this event to those of the keeper, or none
adds : (event : Event) (old new : List LoggedEvent) (b : State) (outcome : Outcome) (answer : Result Done Refusal) → calls.IsSubmitResult event old new b outcome answer
    → (more : List LoggedEvent) × (new ≡ old ++ more)
adds event old new b New answer (told, grown) = (logged_event event ∷ [], grown)
adds event old new b Repeated answer (told, same) = ([], same ∙ sym (append-nil old))
adds event old new b (Refused r) answer (told, same) = ([], same ∙ sym (append-nil old))

-- the effect of an act on a valid state is a valid state and a view that has grown
does_grow : (a b : PassView) (act : Act) → IsState a.seen → HasEffect a act b → IsState b.seen × Grows a b
does_grow a b (Looked s) valid does = (state_of a.seen b.seen does.looked.follows valid, looked_grows a b does.looked)
does_grow a b LookFailed valid does = (state_of a.seen b.seen does.follows valid, looked_grows a b does)
does_grow a b (Submitted event answer) valid (fits, s) =
    let met = state_of a.seen s.met s.follows valid in
    let moved = moves_follow s.met b.seen a.number event s.outcome met (seen_suffices a.seen s.met event fits s.follows) s.moves in
    let more = adds event a.mine b.mine b.seen s.outcome answer s.answers in
    (moved.0, record { number = s.number; follows = follows_through a.seen s.met b.seen s.follows moved.1; more = more.0; mine = more.1 })
does_grow a b (Added s request result) valid (same, added) = (subst (λ (k : PassView). IsState k.seen) (sym same) valid, same_grows a b same)
does_grow a b (Removed id result) valid (same, removed) = (subst (λ (k : PassView). IsState k.seen) (sym same) valid, same_grows a b same)
does_grow a b (ReadEncoders readings) valid same = (subst (λ (k : PassView). IsState k.seen) (sym same) valid, same_grows a b same)

-- one act on a valid state leads to a valid state and to later knowledge
pub act_later : (a b : Knowledge) (act : Act) → IsState a.seen → IsActStep a act b → IsState b.seen × IsLaterKnowledge a b
act_later a b act valid act_steps =
    let grown = does_grow (view_of a) (view_of b) act valid act_steps.does in
    (grown.0, record { number = grown.1.number; follows = grown.1.follows; more = grown.1.more; mine = grown.1.mine; asked = act ∷ []; acts = act_steps.asked })

-- ---- acts that are linked

-- if linked acts begin at a valid state, they lead to a valid state and to later knowledge
pub linked_follows : (acts : List Act) (a b : Knowledge) → IsState a.seen → AreLinked a acts b → IsState b.seen × IsLaterKnowledge a b
linked_follows [] a b valid later = (state_of a.seen b.seen later.follows valid, later)
linked_follows (act ∷ acts) a b valid (met, left, later, act_steps, others) =
    let here = state_of a.seen met.seen later.follows valid in
    let following = act_later met left act here act_steps in
    let last = linked_follows acts left b following.0 others in
    (last.0, later_through a left b (later_through a met left later following.1) last.1)

-- linked acts stay linked as knowledge grows after them
pub linked_later : (acts : List Act) (a b c : Knowledge) → AreLinked a acts b → IsLaterKnowledge b c → AreLinked a acts c
linked_later [] a b c later more = later_through a b c later more
linked_later (act ∷ acts) a b c (met, left, later, act_steps, others) more = (met, left, later, act_steps, linked_later acts left b c others more)

-- linked acts, and after them acts that each start where the one before it led, are linked acts
linked_on : (m : OtherActors) (before acts : List Act) (a b c : Knowledge) → AreLinked a before b → AreActSteps m b acts c → AreLinked a (before ++ acts) c
linked_on m [] [] a b c later same = subst (λ (k : Knowledge). IsLaterKnowledge a k) (sym same) later
linked_on m [] (act ∷ acts) a b c later (middle, act_steps, meets, others) =
    (b, middle, later, act_steps, linked_on m [] acts middle middle c (later_itself middle) others)
linked_on m (act ∷ before) acts a b c (met, left, later, act_steps, others) chain =
    (met, left, later, act_steps, linked_on m before acts left b c others chain)

-- acts that continue from linked acts are linked to them
pub linked_acted : (m : OtherActors) (a b c : Knowledge) (before after : List Act) → AreLinked a before b → ActsExtend m b before c after → AreLinked a after c
linked_acted m a b c before after linked (acts, is, chain) =
    subst (λ (t : List Act). AreLinked a t c) (sym is) (linked_on m before acts a b c linked chain)

-- if acts continue from a valid state, they lead to a valid state and to later knowledge
pub acted_follows : (m : OtherActors) (a b : Knowledge) (before after : List Act) → IsState a.seen → ActsExtend m a before b after → IsState b.seen × IsLaterKnowledge a b
acted_follows m a b before after valid (acts, is, chain) =
    linked_follows acts a b valid (linked_on m [] acts a a b (later_itself a) chain)
