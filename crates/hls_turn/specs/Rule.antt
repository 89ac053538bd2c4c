-- The turn's rule: the contents of the queue's one slot, and what each pass knows. Public clauses don't cite it: Calls says what
-- callers learn of it.
use Rattle.std.specs.Prelude.{◌≡◌, ◌≢◌, ◌⊎◌, ◌+◌, ◌≤◌, ℕ, Option, Some, None, List, [], ◌∷◌, length}
use Rattle.std.specs.declared.sync.Arc.{Arc}
use mathlib.Core.Option.{some}
use lib.ListN.{get_elem?}
use Rattle.hls_core_laws.specs.declared.event.Entry.{Entry}
use Rattle.hls_core_laws.specs.declared.event.Event.{Event}
use Rattle.hls_core_laws.specs.State.{State}
use Rattle.hls_core_laws.specs.IsState.{IsState}
use Rattle.hls_core_laws.specs.Outcome.{New}
use Rattle.hls_core_laws.specs.Moves.{Moves, IsFitting}
use Rattle.hls_core_laws.specs.Follows.{Follows}
use Rattle.hls_core_laws.specs.Workers.{events_by}
use Rattle.hls_turn.specs.declared.view.View.{View}

-- pass 0 before the first state is put in
abbrev pub new_view : View
new_view = record { number = 0; pass_count = 1; seen = None; mine = []; holds = None }

-- the view of a pass after it takes the state s out: it has seen s and holds it
abbrev pub after_take : View → State → View
after_take v s = record { number = v.number; pass_count = v.pass_count; seen = Some s; mine = v.mine; holds = Some s }

-- the view of a pass after it puts the state s in: it has seen s, holds none, and its events are the entries of its number
abbrev pub after_put : View → State → View
after_put v s = record { number = v.number; pass_count = v.pass_count; seen = Some s; mine = events_by v.number s.log; holds = None }

-- the log of the state that a pass saw, empty if it has seen none
abbrev pub log_seen : Option State → List Entry
log_seen None = []
log_seen (Some s) = s.log

-- pass 0 after one more pass is split off it
abbrev pub with_one_more : View → View
with_one_more v = record { number = v.number; pass_count = v.pass_count + 1; seen = v.seen; mine = v.mine; holds = v.holds }

-- the pass that is split off pass 0: it has seen the same state, and its number is the next one
abbrev pub split_view : View → View
split_view v = record { number = v.pass_count; pass_count = 0; seen = v.seen; mine = events_by v.pass_count (log_seen v.seen); holds = None }

-- the state s follows the one that a pass saw, if it has seen one
abbrev pub FollowsSeen : Option State → State → Type 0
FollowsSeen None s = Unit {0}
FollowsSeen (Some t) s = Follows t s

-- the state is taken out: it follows what the pass saw, and has the events that the pass submitted
pub record TakesState (v : View) (s : State) (w : View) : Type 0 where
  pub follows : FollowsSeen v.seen s
  pub entries : events_by v.number s.log ≡ v.mine
  pub view_is : w ≡ after_take v s

-- the same state, or the one after a new event of this pass
abbrev pub Advances : State → ℕ → State → Type 0
Advances t number s = (s ≡ t) ⊎ ((event : Event) × IsState t × IsFitting t event × Moves t number event New s)

-- a pass may put the state s in: pass 0 at the opening, then the one that holds a state, which it puts back unchanged or advanced
abbrev pub MayPut : View → State → Type 0
MayPut v s = (v ≡ new_view) ⊎ ((t : State) × (v.holds ≡ Some t) × Advances t v.number s)

-- P holds of the view of each pass, with its port
abbrev pub EachView : (ℕ → View → Type 0) → List View → Type 0
EachView P views = (port : ℕ) (v : View) → get_elem? views port ≡ some v → P port v

-- what a pass knows holds in the current state s
pub record Knows (s : State) (port : ℕ) (v : View) : Type 0 where
  pub number : v.number ≡ port
  pub last : State
  pub seen : v.seen ≡ Some last
  pub follows : Follows last s
  pub mine : events_by v.number s.log ≡ v.mine

-- a pass has seen all entries of a number that no pass has yet
pub record HasNoPass (s : State) (number : ℕ) (port : ℕ) (v : View) : Type 0 where
  pub entries : events_by number (log_seen v.seen) ≡ events_by number s.log

-- the pass holds no state
pub record IsFree (port : ℕ) (v : View) : Type 0 where
  pub holds : v.holds ≡ None

-- the pass holds no state, unless it is the holder
pub record IsFreeBut (holder : ℕ) (port : ℕ) (v : View) : Type 0 where
  pub holds : port ≢ holder → v.holds ≡ None

module _ {A : Type 0} where
  -- the state is in the queue, and no pass holds one
  pub record Lies (s : State) (items : List (Arc State A)) (views : List View) : Type 0 where
    pub item : Arc State A
    pub items_are : items ≡ item ∷ []
    pub item_is : item.value ≡ s
    pub free : EachView IsFree views

  -- the queue is empty, and exactly one pass holds the state
  pub record IsHeld (s : State) (items : List (Arc State A)) (views : List View) : Type 0 where
    pub holder : ℕ
    pub view : View
    pub empty : items ≡ []
    pub at : get_elem? views holder ≡ some view
    pub holds : view.holds ≡ Some s
    pub free : EachView (IsFreeBut holder) views

  -- after the opening: there is one current state, which follows all states seen; in it each pass's entries are those that it submitted
  pub record Runs (items : List (Arc State A)) (views : List View) : Type 0 where
    pub state : State
    pub place : Lies state items views ⊎ IsHeld state items views
    pub each : EachView (Knows state) views
    pub pass_count : (v : View) → get_elem? views 0 ≡ some v → v.pass_count ≡ length views
    pub unassigned : (number : ℕ) → length views ≤ number → EachView (HasNoPass state number) views

  -- before the opening the queue is empty, and pass 0 is the only pass
  pub record Opens (items : List (Arc State A)) (views : List View) : Type 0 where
    pub empty : items ≡ []
    pub alone : views ≡ new_view ∷ []

  -- the turn's rule: it isn't opened yet, or it runs
  abbrev pub Keeps : List (Arc State A) → List View → Type 0
  Keeps items views = Opens items views ⊎ Runs items views
