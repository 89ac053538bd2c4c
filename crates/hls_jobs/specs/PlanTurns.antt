-- Whose plan is taken next: clients take turns, so that each client's first plan is taken before any client's second one.
use Rattle.std.specs.Prelude.{◌≡◌, ◌==◌, ◌⊎◌, ℕ, ◌+◌, ◌<◌, ◌≤◌, Bool, true, false, cond, List, ◌++◌, ◌∷◌, length, take, drop, Option, Some, None, slice_get}
use Rattle.std.specs.List.{count_by}
use Rattle.hls_core_laws.specs.State.{State}
use Rattle.hls_catchup.specs.declared.request.Request.{Request}
use Rattle.hls_jobs.specs.declared.plans.FoundPlan.{FoundPlan}
use Rattle.hls_jobs.specs.declared.plans.FoundPlan.TheVariants.{Ready, Unfinished, Missing}
use Rattle.hls_jobs.specs.declared.plans.PlanRow.{PlanRow}
use Rattle.hls_jobs.specs.declared.plans.PlanRow.TheVariants as rows

-- the most plans that wait or run
abbrev pub plan_limit : ℕ
plan_limit = 64

-- the most plans of a named client that wait
abbrev pub client_limit : ℕ
client_limit = 8

-- the most plans of a client that wait; requests that name no client, whose number is 0, have no limit of their own
abbrev pub most_waiting : ℕ → ℕ
most_waiting client = cond (client == 0) plan_limit client_limit

-- whether a plan waits for this client
abbrev pub waits_for : ℕ → PlanRow → Bool
waits_for client (rows.Waiting snapshot request own) = own == client
waits_for client (rows.Running request) = false

-- how many plans of a client wait
abbrev pub count_waiting : ℕ → List PlanRow → ℕ
count_waiting client plans = count_by (waits_for client) plans

-- the turn of a client's next plan
abbrev pub next_turn : ℕ → List PlanRow → ℕ
next_turn client plans = count_waiting client plans + 1

-- the turn of a plan after earlier ones: its number among those of its client that wait, from 1; 0 once it runs
abbrev pub turn_after : List PlanRow → Option PlanRow → ℕ
turn_after earlier None = 0
turn_after earlier (Some (rows.Waiting snapshot request client)) = next_turn client earlier
turn_after earlier (Some (rows.Running request)) = 0

-- the turn of the plan at an index
abbrev pub turn_at : List PlanRow → ℕ → ℕ
turn_at plans at = turn_after (take at plans) (slice_get plans at)

-- a plan of this turn belongs at this index: before the first one of a later turn
pub record IsTurn (plans : List PlanRow) (turn at : ℕ) : Type 0 where
  pub within : at ≤ length plans
  pub earlier : (k : ℕ) → k < at → turn_at plans k ≤ turn
  pub later : at < length plans → turn < turn_at plans at

-- the plan at this index is the last one of the latest turn
pub record IsLastTurn (plans : List PlanRow) (at : ℕ) : Type 0 where
  pub within : at < length plans
  pub latest : (k : ℕ) → k < length plans → turn_at plans k ≤ turn_at plans at
  pub last : (k : ℕ) → at < k → k < length plans → turn_at plans k < turn_at plans at

-- no plan is of a later turn than this one
abbrev pub NoneIsLater : List PlanRow → ℕ → Type 0
NoneIsLater plans turn = (k : ℕ) → k < length plans → turn_at plans k ≤ turn

-- the last plan of the latest turn is evicted by one of this turn, which is earlier
pub record IsEvicted (before : List PlanRow) (turn : ℕ) (after : List PlanRow) : Type 0 where
  pub at : ℕ
  pub is : IsLastTurn before at
  pub later : turn < turn_at before at
  pub removed : after ≡ take at before ++ drop (at + 1) before

-- there is room for one more plan of this turn, perhaps after one of a later turn was evicted; or there is none, and none is of a later turn
abbrev pub MakesRoom : List PlanRow → ℕ → List PlanRow → Bool → Type 0
MakesRoom before turn after true =
    ((length before < plan_limit) × (after ≡ before)) ⊎ ((plan_limit ≤ length before) × IsEvicted before turn after)
MakesRoom before turn after false = (plan_limit ≤ length before) × (after ≡ before) × NoneIsLater before turn

-- a plan is inserted where it belongs by its turn
pub record IsInserted (room : List PlanRow) (turn : ℕ) (row : PlanRow) (after : List PlanRow) : Type 0 where
  pub at : ℕ
  pub turns : IsTurn room turn at
  pub is : after ≡ take at room ++ row ∷ drop at room

-- a plan of this client isn't added: as many as may wait for it, or as many wait or run as may and none is of a later turn
abbrev pub IsRefused : ℕ → List PlanRow → Type 0
IsRefused client plans = (most_waiting client ≤ count_waiting client plans) ⊎ ((plan_limit ≤ length plans) × NoneIsLater plans (next_turn client plans))

-- a plan waits for this client, with this state and this request
abbrev pub IsRowFor : State → Request → ℕ → PlanRow → Type 0
IsRowFor s request client (rows.Waiting snapshot asked own) = (snapshot.value ≡ s) × (asked ≡ request) × (own ≡ client)
IsRowFor s request client (rows.Running asked) = ⊥

-- a plan for this client is added in its next turn
pub record IsAdded (s : State) (request : Request) (client : ℕ) (before after : List PlanRow) : Type 0 where
  pub few : count_waiting client before < most_waiting client
  pub room : List PlanRow
  pub makes : MakesRoom before (next_turn client before) room true
  pub row : PlanRow
  pub row_is : IsRowFor s request client row
  pub inserted : IsInserted room (next_turn client before) row after

-- a plan that was neither there nor finished is added, or it is refused and nothing changes
abbrev pub AddsPlan : State → Request → ℕ → List PlanRow → FoundPlan → List PlanRow → Type 0
AddsPlan s request client before (Ready texts) after = ⊥
AddsPlan s request client before Unfinished after = IsAdded s request client before after
AddsPlan s request client before Missing after = (after ≡ before) × IsRefused client before

-- a plan of the first turn comes after at most one plan of each client; and a client that has a plan still has one after another plan was evicted
abbrev pub FirstTurnsAreFair : Type 0
FirstTurnsAreFair =
    ((plans : List PlanRow) (at client : ℕ) → IsTurn plans 1 at → count_waiting client (take at plans) ≤ 1)
    × ((before after : List PlanRow) (turn client : ℕ) → 1 ≤ turn → IsEvicted before turn after → 1 ≤ count_waiting client before → 1 ≤ count_waiting client after)
