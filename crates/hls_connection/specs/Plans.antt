-- For the proofs of this crate; no public clause cites it.
-- What a request for a programme leads to.
use Rattle.std.specs.Prelude.{ℕ, List, Option, Some, None, Result, Ok, Err}
use Rattle.hls_jobs.specs.Plans.{HasAddedPlan}
use Rattle.hls_jobs.specs.declared.plans.FoundPlan.TheVariants.{Unfinished}
use Rattle.hls_api.specs.Acts.{Act, ActsChangeNothing, RecordsLook}
use Rattle.hls_api.specs.Exchanges.{HandlesProgramme}
use Rattle.hls_api.specs.Programmes.{StartsProgramme}
use Rattle.hls_api.specs.Types.{Request, State}
use Rattle.hls_api.specs.declared.catchup_query.CatchupQuery.{CatchupQuery}
use Rattle.hls_api.specs.declared.route.ProgrammeFile.{ProgrammeFile}
use Rattle.hls_api.specs.declared.programme_responses.ProgrammeStart.TheVariants.{Planned}
use Rattle.hls_connection.specs.declared.handlers.ProgrammeStep.{ProgrammeStep}
use Rattle.hls_connection.specs.declared.handlers.ProgrammeStep.TheVariants.{Respond, Await}

-- the state that is seen has the programme, and its plan was added to the table for the client and is unfinished
pub record AwaitsPlan (client : ℕ) (query : CatchupQuery) (a b : List Act) (request : Request) : Type 0 where
  pub state : State
  pub looks : RecordsLook a state b
  pub starts : StartsProgramme state query (Planned request)
  pub added : HasAddedPlan request client Unfinished

-- .. for a query, if it is valid
abbrev pub AwaitsPlanOf : ℕ → Option CatchupQuery → List Act → List Act → Request → Type 0
AwaitsPlanOf client None a b request = ⊥
AwaitsPlanOf client (Some query) a b request = AwaitsPlan client query a b request

-- a request for a programme is answered, or its plan is awaited; an allocation failure leaves the channel as it was
abbrev pub BeginsProgramme : {E : Type 0} → ℕ → Option CatchupQuery → ProgrammeFile → List Act → List Act → Result ProgrammeStep E → Type 0
BeginsProgramme client said file a b (Ok (Respond shown)) = HandlesProgramme client said file a b shown
BeginsProgramme client said file a b (Ok (Await request)) = AwaitsPlanOf client said a b request
BeginsProgramme client said file a b (Err e) = ActsChangeNothing a b
