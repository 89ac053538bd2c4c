-- What a session relies on of the table of jobs at each call; what held at one call need not hold at the next.
use Rattle.std.specs.{Prelude.{◌≡◌, ℕ, IfOk, Result}, Global.Global, declared.sync.Arc.Arc}
use Rattle.hls_catchup.specs.Jobs.{States.IsRightJob, Shared.{HasAdded, HasGot}}
use Rattle.hls_api.specs.Types.{State, Request, JobFault, Job}

-- a job with this very state was added to some table of jobs
pub record IsAddResult (s : State) (request : Request) (result : Result ℕ JobFault) : Type 0 where
  pub snapshot : Arc State Global
  pub state : snapshot.value ≡ s
  pub added : HasAdded snapshot request result

-- some table of jobs returned this; an answer is the right one for the state and the request that it holds
pub record IsGetResult (id : ℕ) (result : Result Job JobFault) : Type 0 where
  pub gets : HasGot id result
  pub right : IfOk result IsRightJob
