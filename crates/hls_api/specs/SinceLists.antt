-- The replies to players of the playlists that start at a time and only grow: those of the state that is seen.
use Rattle.std.specs.Prelude.{ℕ, cond, false, Result, Ok, Err, option_map}
use Rattle.hls_http.specs.declared.fault.HttpFault.TheVariants as http
use Rattle.hls_http.specs.declared.response_parts.CachePolicy.TheVariants.{Brief}
use Rattle.hls_http.specs.declared.response_parts.Status.TheVariants.{NotFound}
use Rattle.hls_http.specs.ResponseText.{refusal_body}
use Rattle.hls_places_laws.specs.Line.Live.{has_ended}
use Rattle.hls_core_laws.specs.Line.{line}
use Rattle.hls_m3u8.specs.Lines.{media_text}
use Rattle.hls_playlists.specs.declared.start_time.StartTime.{StartTime}
use Rattle.hls_playlists.specs.declared.start_time.StartTime.TheVariants.{After, Before, Kept, Removed}
use Rattle.hls_playlists.specs.StartTimes.{list_since_start, start_in}
use Rattle.hls_players_master.specs.Master.{players_master}
use Rattle.hls_catchup.specs.declared.fault.CatchFault.{CatchFault}
use Rattle.hls_catchup.specs.declared.fault.CatchFault.TheVariants.{AfterRecording, BeforeRecording, NotYet}
use Rattle.hls_catchup.specs.FaultName.{catch_fault_name}
use Rattle.hls_api.specs.Types.{QueryFault, SinceFile, State, TimePoint}
use Rattle.hls_api.specs.Queries.{time_of}
use Rattle.hls_api.specs.JobResponses.{query_answer}
use Rattle.hls_api.specs.Players.{with_policy}
use Rattle.hls_api.specs.Programmes.{has_begun_by}
use Rattle.hls_api.specs.Responses.{ResponseData, fault_answer, list_answer, text_answer}
use Rattle.hls_api.specs.declared.route.SinceFile.TheVariants as sinces

-- the reply with a file of the playlists from a segment on; the master playlist is that of the channel's playlists by paths
abbrev pub since_file_answer : StartTime → State → SinceFile → ResponseData
since_file_answer start s sinces.Master = list_answer (players_master s false)
since_file_answer start s (sinces.List r) = list_answer (option_map media_text (list_since_start start s r))

-- 404 with the name of the refusal
abbrev pub not_found_answer : CatchFault → ResponseData
not_found_answer fault = text_answer NotFound (refusal_body (catch_fault_name fault))

-- the reply for a time before the kept segments: 410 if the recording had begun by then, else 404 BeforeRecording
abbrev pub removed_answer : State → ℕ → ResponseData
removed_answer s us = cond (has_begun_by s us) (fault_answer http.Gone) (not_found_answer BeforeRecording)

-- the refusal of a time after the known segments: after the recording if the line has ended, else not yet
abbrev pub later_fault : State → CatchFault
later_fault s = cond (has_ended (line s)) AfterRecording NotYet

-- the reply for a file of the playlists that start at `us`, by where that time is in the live line
abbrev pub since_start_answer : ℕ → State → SinceFile → StartTime → ResponseData
since_start_answer us s file (Kept n) = since_file_answer (Kept n) s file
since_start_answer us s file Removed = removed_answer s us
since_start_answer us s file Before = not_found_answer BeforeRecording
since_start_answer us s file After = not_found_answer (later_fault s)

-- the reply for a file of these playlists by their time; one that the channel doesn't have is refused as in a catch-up request
abbrev pub since_time_answer : State → SinceFile → Result ℕ QueryFault → ResponseData
since_time_answer s file (Ok us) = since_start_answer us s file (start_in us (line s))
since_time_answer s file (Err fault) = query_answer fault

-- the reply for a file of the playlists that start at a time; caches keep it for a second
abbrev pub since_answer : State → TimePoint → SinceFile → ResponseData
since_answer s start file = with_policy Brief (since_time_answer s file (time_of s.config.epoch start))
