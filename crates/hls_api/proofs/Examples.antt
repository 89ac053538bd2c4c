-- The definitions, computed on rows that tests don't cover, or cover only within longer ones.
use Rattle.std.{proofs.Common.{◌≡◌, pos, false, true, [], ◌∷◌, ◌++◌, Some, None, Ok, refl, codes}, specs.Fmt.digits}
use Rattle.hls_text.specs.Digits.{number_of_digits}
use Rattle.hls_api.specs.{declared.catchup_query.TimePoint.TheVariants.Instant, Queries.catchup_params_of, Routes.route_of}
use Rattle.hls_api.specs.Jumps.{ahead_by, counted_start, is_ahead_by}
use Rattle.hls_api.specs.{JobResponses.{file_answer, resource_answer, job_answer}, Responses.{answer_text, whole_range}}
use Rattle.hls_http.specs.declared.range_spec.RangeSpec.TheVariants as ranges
use Rattle.hls_catchup.specs.declared.jobs.job.Job.TheVariants as told
use Rattle.hls_api.specs.declared.route.Route.TheVariants as routes
use Rattle.hls_api.specs.declared.route.JobFile.TheVariants as files

-- a rendition's number with a leading zero names nothing
leading_zero : route_of (record { renditions = 2; mending = None; shown_us = None }) (codes "/live/01.m3u8") ≡ None
leading_zero = refl

-- /job/12/0.mp4 names the media of rendition 0 of job 12
job_media : route_of (record { renditions = 1; mending = None; shown_us = None }) (codes "/job/12/0.mp4") ≡ Some (routes.JobFile 12 (files.Media 0))
unfolding number_of_digits
job_media = refl

-- a job that failed with an allocation failure has neither a line nor a file
no_line : job_answer told.Failed ≡ None
no_line = refl

no_file : file_answer files.Certificate ranges.All told.Failed ≡ None
no_file = refl

-- a resource of five bytes, from its second to its third byte
part : answer_text (resource_answer (Some (10 ∷ 20 ∷ 30 ∷ 40 ∷ 50 ∷ [])) (ranges.Between 1 2)) false false
    ≡ codes "HTTP/1.1 206 Partial Content\r\nContent-Type: video/mp4\r\nContent-Length: 2\r\nContent-Range: bytes 1-2/5\r\n\r\n" ++ 20 ∷ 30 ∷ []
unfolding digits
part = refl

-- the instants 2024-01-01T00:00:05Z and :09Z, where time 0 is the start of that day
by_the_clock : catchup_params_of (Some (pos 1704067200000000)) (record { start = Instant (pos 1704067205000000); stop = Instant (pos 1704067209000000); preferred = None; charge = None })
    ≡ Ok (record { start_us = 5000000; stop_us = 9000000; preferred = None; charge = None })
by_the_clock = refl

-- a range with a trimmed byte is unavailable
trimmed : whole_range (Some 1 ∷ None ∷ []) ≡ None
unfolding whole_range
trimmed = refl

-- a unit from 8 to 26 s, of which at most 4 s count, is by its end more than 10 s ahead of an end at 8 s; one to 22 s isn't
long_unit : is_ahead_by 10000000 (Some 8000000) (counted_start 4000000 (record { start = 8; duration = 18; scale = 1; start_us = 8000000; end_us = 26000000; sync = true; len = 100 })) ≡ true
long_unit = refl

unit_at_the_limit : is_ahead_by 10000000 (Some 8000000) (counted_start 4000000 (record { start = 8; duration = 14; scale = 1; start_us = 8000000; end_us = 22000000; sync = true; len = 100 })) ≡ false
unit_at_the_limit = refl

-- a unit of 4 s counts from its start
short_unit : counted_start 4000000 (record { start = 8; duration = 4; scale = 1; start_us = 8000000; end_us = 12000000; sync = true; len = 100 }) ≡ 8000000
short_unit = refl

-- three samples of 2^32 - 1 ticks of 90000 a second are 39.8 hours, and count from 4 s before their end
hours_of_a_unit : ahead_by (Some 8000000) (counted_start 4000000 (record { start = 720000; duration = 12884901885; scale = 90000; start_us = 8000000; end_us = 143173576500; sync = true; len = 132 })) ≡ 143161576500
hours_of_a_unit = refl
