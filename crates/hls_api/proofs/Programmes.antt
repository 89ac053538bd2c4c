-- Requests for programmes.
use Rattle.std.proofs.Common.{◌≡◌, IfOk, Result, Ok, Err, subst, sym}
use Rattle.hls_api.specs.Programmes.{StartsParams, StartsRequest}
use Rattle.hls_api.specs.Queries.{request_for}
use Rattle.hls_api.specs.Types.{CatchupParams, QueryFault, Request, State}
use Rattle.hls_api.specs.declared.programme_responses.ProgrammeStart.{ProgrammeStart}

-- if parameters are valid, a start that is right for their request is right for them
pub starts_params : {E : Type 0} (result : Result ProgrammeStart E) (s : State) (resolved : Result CatchupParams QueryFault) (params : CatchupParams) (request : Request)
    → resolved ≡ Ok params → request ≡ request_for s params → IfOk result (λ start. StartsRequest s request start) → IfOk result (λ start. StartsParams s resolved start)
starts_params result s resolved params request is asks starts =
    subst (λ (found : Result CatchupParams QueryFault). IfOk result (λ start. StartsParams s found start)) (sym is)
    (subst (λ (r : Request). IfOk result (λ start. StartsRequest s r start)) asks starts)
