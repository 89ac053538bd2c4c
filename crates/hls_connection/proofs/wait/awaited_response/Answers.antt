-- A response that waited for a job shows the job as it was found.
use Rattle.hls_api.specs.Exchanges.{params_of}
use Rattle.hls_connection.proofs.WaitLaws.{job_shown}
use Rattle.hls_connection.proofs.wait.awaited_response.Goals as goal

pub returns-in-Job-Job : goal.returns-in-Job-Job
returns-in-Job-Job c = λ channel h context.
    job_shown c.args.awaited c.args.found c.in-Job-Job.id c.in-Job-Job.found (params_of channel h) c.found_job_response.result c.in-Job-Job.is-0 c.in-Job-Job.is-1 (c.found_job_response.ensures channel h context)
