-- The metrics that aren't of a state: what the server counts and measures while it runs. Nothing is claimed of the numbers.
use Rattle.std.specs.Prelude.{ℕ, suc, ◌/◌, ◌%◌, ◌==◌, cond, List, [], ◌∷◌, ◌++◌, codes, slice_index}
use Rattle.std.specs.Fmt.{decimal}
use Rattle.hls_metrics.specs.Lines.{counter, description, gauge, seconds_counter, seconds_gauge}
use Rattle.hls_metrics.specs.Refusals.{refusal_metrics}
use Rattle.hls_metrics.specs.declared.measured.Measured.{Measured}

-- the connections that were accepted, and the bytes that were received and sent
unfoldable pub traffic_metrics : Measured → List ℕ
traffic_metrics m =
    counter (codes "hls_connections_total") (codes "Connections that were accepted.") m.accepted_connections
    ++ (counter (codes "hls_received_bytes_total") (codes "Bytes that were read from connections.") m.received_bytes
    ++ counter (codes "hls_sent_bytes_total") (codes "Bytes that were written to connections.") m.sent_bytes)

-- the open connections, and the responses that wait
unfoldable pub connection_metrics : Measured → List ℕ
connection_metrics m =
    gauge (codes "hls_connections") (codes "Connections that are open.") m.open_connections
    ++ gauge (codes "hls_responses_waiting") (codes "Responses that wait for a state, a job or the journal.") m.waiting_responses

-- the checked sync samples of rendition 0: all, those that are no places, and those in no live segment
unfoldable pub sync_metrics : Measured → List ℕ
sync_metrics m =
    gauge (codes "hls_sync_samples") (codes "The last sync samples of rendition 0 that were checked, at most 100.") m.checked_syncs
    ++ (gauge (codes "hls_sync_samples_unplaced") (codes "Those that are no places: a rendition has no sync sample near enough.") m.unplaced_syncs
    ++ gauge (codes "hls_sync_samples_unlisted") (codes "Those that are in no segment of the live playlists.") m.unlisted_syncs)

-- the process's resident memory, its address space, and the limit of that
unfoldable pub process_metrics : Measured → List ℕ
process_metrics m =
    gauge (codes "process_resident_memory_bytes") (codes "Resident memory of the process.") m.resident_bytes
    ++ (gauge (codes "process_virtual_memory_bytes") (codes "Address space of the process.") m.virtual_bytes
    ++ gauge (codes "process_virtual_memory_max_bytes") (codes "The limit of the address space; 0 if there is none.") m.max_virtual_bytes)

-- where the last sync sample begins that is no place
abbrev pub unplaced_metric : Measured → List ℕ
unplaced_metric m =
    seconds_gauge (codes "hls_sync_sample_unplaced_seconds") (codes "Where the last one begins that is no place, on the encoders' clock; 0 if all are.") m.unplaced_us

-- the open files and sockets, and how many there may be
unfoldable pub file_metrics : Measured → List ℕ
file_metrics m =
    gauge (codes "process_open_fds") (codes "Files and sockets that the process has open.") m.open_files
    ++ gauge (codes "process_max_fds") (codes "How many it may have open.") m.max_files

-- the processor time, and when the process began
unfoldable pub time_metrics : Measured → List ℕ
time_metrics m =
    seconds_counter (codes "process_cpu_seconds_total") (codes "Processor time of all threads.") m.cpu_us
    ++ seconds_gauge (codes "process_start_time_seconds") (codes "When the process began, since 1970.") m.started_us

-- how long the server has run, and how long the live playlists have ended with the same segment
unfoldable pub clock_metrics : Measured → List ℕ
clock_metrics m =
    seconds_gauge (codes "hls_uptime_seconds") (codes "How long the server has run.") m.uptime_us
    ++ seconds_gauge (codes "hls_list_still_seconds") (codes "How long the live playlists have ended with the same segment.") m.still_us

-- the fragments that were mended, those that fill gaps, and the log entries that the journal doesn't have yet
unfoldable pub repair_metrics : Measured → List ℕ
repair_metrics m =
    counter (codes "hls_mended_fragments_total") (codes "Fragments that were mended before they were accepted.") m.mended_fragments
    ++ (counter (codes "hls_filled_fragments_total") (codes "Fragments that fill gaps of a rendition.") m.filled_fragments
    ++ gauge (codes "hls_journal_lag_entries") (codes "Log entries that the journal doesn't have yet.") m.journal_lag)

-- whether the journal is lost, and the time since its last sync
unfoldable pub journal_metrics : Measured → List ℕ
journal_metrics m =
    gauge (codes "hls_journal_lost") (codes "Whether the channel continues without its journal.") m.journal_lost
    ++ seconds_gauge (codes "hls_journal_sync_age_seconds") (codes "How long ago the journal was synced last; 0 without one.") m.sync_age_us

-- ---- requests, by route and status

-- the kind of a route, by its number
abbrev pub route_kind : ℕ → List ℕ
route_kind n =
    cond (n == 0) (codes "ingest")
    (cond (n == 1) (codes "finish")
    (cond (n == 2) (codes "live")
    (cond (n == 3) (codes "media")
    (cond (n == 4) (codes "catchup")
    (cond (n == 5) (codes "job")
    (cond (n == 6) (codes "status")
    (cond (n == 7) (codes "playlist")
    (cond (n == 8) (codes "segment")
    (cond (n == 9) (codes "programme")
    (codes "other"))))))))))

-- the statuses of responses
abbrev pub status_codes : List ℕ
status_codes = 200 ∷ 202 ∷ 204 ∷ 206 ∷ 400 ∷ 404 ∷ 405 ∷ 409 ∷ 410 ∷ 413 ∷ 416 ∷ 431 ∷ 503 ∷ 507 ∷ []

-- the name of the requests' metric, with the label of a kind of routes
unfoldable pub route_label : ℕ → List ℕ
route_label n = codes "hls_requests_total{route=\"" ++ route_kind n

-- the label of a status by its index, after which the labels end
unfoldable pub status_label : ℕ → List ℕ
status_label n = codes "\",status=\"" ++ (decimal (slice_index status_codes n) ++ codes "\"} ")

-- row n is that of a route and a status: all statuses of the first kind of routes come first
unfoldable pub request_row : ℕ → ℕ → List ℕ
request_row n count = route_label (n / 14) ++ (status_label (n % 14) ++ (decimal count ++ 10 ∷ []))

-- the rows of these counts, from row n on
abbrev pub request_rows_from : ℕ → List ℕ → List ℕ
request_rows_from n [] = []
request_rows_from n (count ∷ counts) = request_row n count ++ request_rows_from (suc n) counts

-- the requests that were answered, by route and status
unfoldable pub request_metrics : List ℕ → List ℕ
request_metrics counts =
    description (codes "hls_requests_total") (codes "counter") (codes "Requests that were answered, by route and status.") ++ request_rows_from 0 counts

-- the metrics of requests, and of the plans that were made for them
unfoldable pub served_metrics : Measured → List ℕ
served_metrics m =
    counter (codes "hls_programme_plans_total") (codes "Plans of programmes by address: one for all who request it.") m.programme_plans
    ++ request_metrics m.requests

-- ---- all of them

-- the metrics of connections and sync samples
unfoldable pub channel_part : Measured → List ℕ
channel_part m = traffic_metrics m ++ (connection_metrics m ++ (sync_metrics m ++ unplaced_metric m))

-- the metrics of the process
unfoldable pub process_part : Measured → List ℕ
process_part m = process_metrics m ++ (file_metrics m ++ (time_metrics m ++ clock_metrics m))

-- the metrics of what was mended, kept in the journal, refused and answered
unfoldable pub work_part : Measured → List ℕ
work_part m = repair_metrics m ++ (journal_metrics m ++ (refusal_metrics m.refusals ++ served_metrics m))

-- all metrics that are not of a state
unfoldable pub measured_metrics : Measured → List ℕ
measured_metrics m = channel_part m ++ (process_part m ++ work_part m)
