-- The types that the definitions use, passed on from one place. Declares nothing.
pub use Rattle.hls_core_laws.specs.{State.State, PassView.PassView, declared.event.Event.Event, declared.done.Done.Done, declared.refusal.Refusal.Refusal}
pub use Rattle.hls_core.specs.declared.feed_fault.StreamFault.{StreamFault}
pub use Rattle.hls_http.specs.declared.{framing.BodyFraming.BodyFraming, end.BodyEnd.BodyEnd, end.DiscardEnd.DiscardEnd, end.SessionEnd.SessionEnd}
pub use Rattle.hls_http.specs.declared.{fault.HttpFault.HttpFault, method.Method.Method, request_action.RequestAction.RequestAction, range_spec.RangeSpec.RangeSpec, response_parts.Status.Status}
pub use Rattle.hls_catchup.specs.declared.{request.Request.Request, fault.JobFault.JobFault, jobs.job.Job.Job}
pub use Rattle.hls_api.specs.declared.{ingest.IngestStop.IngestStop, catchup_query.CatchupQuery.CatchupQuery, catchup_query.QueryFault.QueryFault}
pub use Rattle.hls_api.specs.declared.{route.Route.Route, route.JobFile.JobFile, route.ProgrammeFile.ProgrammeFile, route.SinceFile.SinceFile, catchup_query.TimePoint.TimePoint, route.IngestTarget.IngestTarget, route.ServedChannel.ServedChannel, catchup_params.CatchupParams.CatchupParams}
