-- The text of `GET /metrics`, in Prometheus' text format (version 0.0.4): for each metric a line with its help, one with its type, and
-- a row for the channel or for each rendition.
use Rattle.std.specs.Prelude.{ℕ, suc, ◌+◌, ◌-◌, Bool, true, false, cond, List, [], ◌∷◌, ◌++◌, length, Option, Some, None, is_some, codes, slice_get}
use Rattle.std.specs.Fmt.{decimal}
use Rattle.hls_media_laws.specs.declared.facts.Facts.{Facts}
use Rattle.hls_record.specs.RecordingData.{RecordingData, offset_at, total_of}
use Rattle.hls_places_laws.specs.declared.line.live_segment.LiveSegment.{LiveSegment}
use Rattle.hls_places_laws.specs.Line.Live.{Live, has_ended, segments_of}
use Rattle.hls_places_laws.specs.Order.{time_of}
use Rattle.hls_core_laws.specs.{Base.bytes_before_base, Line.line, Places.kept_places, State.{State, log_limit}}
use Rattle.hls_core_laws.specs.declared.rendition.Rendition.{Rendition}
use Rattle.hls_core.specs.Getters.{finished_at, recording_of}
use Rattle.hls_metrics.specs.Lines.{counter, description, gauge, seconds_gauge}
use Rattle.hls_metrics.specs.Measurements.{measured_metrics}
use Rattle.hls_metrics.specs.declared.measured.Measured.{Measured}
use Rattle.hls_metrics.specs.declared.rendition_metric.RenditionMetric.{RenditionMetric}
use Rattle.hls_metrics.specs.declared.rendition_metric.RenditionMetric.TheVariants.{Begun, Finished, ReceivedBytes, MaxBytes, KeptBytes, Fragments, End, Tolerance, MissedSyncs, SyncDistance, Gaps}

-- ---- the channel

-- the log entries of the channel, with those that precede this process
abbrev pub log_entries : State → ℕ
log_entries s = s.config.base.version + length s.log

-- the number of such entries at which the log is full
abbrev pub max_log_entries : State → ℕ
max_log_entries s = s.config.base.version + log_limit

-- how many entries the log has, and may have
unfoldable pub log_metrics : State → List ℕ
log_metrics s =
    gauge (codes "hls_log_entries") (codes "Entries of the log since the channel began.") (log_entries s)
    ++ gauge (codes "hls_log_entries_max") (codes "Entries at which the log is full.") (max_log_entries s)

-- where a segment begins in rendition 0, in microseconds; 0 if there is none
abbrev pub begin_of : Option LiveSegment → ℕ
begin_of None = 0
begin_of (Some segment) = time_of segment.from

-- where a segment ends in rendition 0, in microseconds; 0 if there is none
abbrev pub end_of : Option LiveSegment → ℕ
end_of None = 0
end_of (Some segment) = time_of segment.to

-- where the live playlists begin, in microseconds; 0 if they have no segment
abbrev pub list_begin : Live → ℕ
list_begin live = begin_of (slice_get (segments_of live) 0)

-- where the live playlists end, in microseconds; 0 if they have no segment
abbrev pub list_end : Live → ℕ
list_end live = end_of (slice_get (segments_of live) (length (segments_of live) - 1))

-- where the live playlists begin and end
unfoldable pub window_metrics : State → List ℕ
window_metrics s =
    seconds_gauge (codes "hls_list_begin_seconds") (codes "Where the live playlists begin, on the encoders' clock.") (list_begin (line s))
    ++ seconds_gauge (codes "hls_list_end_seconds") (codes "Where the live playlists end, on the encoders' clock.") (list_end (line s))

-- the segments of the live playlists, and those that slid out of them, with those that precede this process
unfoldable pub segment_metrics : State → List ℕ
segment_metrics s =
    gauge (codes "hls_segments") (codes "Segments of the live playlists.") (length (segments_of (line s)))
    ++ counter (codes "hls_segments_removed_total") (codes "Segments that slid out of the live playlists.") (s.config.base.segments + (line s).removed)

-- 1 for yes, 0 for no
abbrev pub number_of_bool : Bool → ℕ
number_of_bool true = 1
number_of_bool false = 0

-- the kept places, and the catch-up jobs
unfoldable pub catchup_metrics : State → ℕ → List ℕ
catchup_metrics s jobs =
    gauge (codes "hls_places") (codes "Kept places where a programme can be cut.") (length (kept_places s))
    ++ gauge (codes "hls_jobs") (codes "Catch-up jobs, in any phase.") jobs

-- the target duration of the live playlists, and whether they are complete
unfoldable pub list_metrics : State → List ℕ
list_metrics s =
    gauge (codes "hls_list_target_seconds") (codes "The target duration of the live playlists.") s.config.target
    ++ gauge (codes "hls_channel_ended") (codes "Whether all renditions are finished and the live playlists are complete.") (number_of_bool (has_ended (line s)))

-- ---- the renditions

-- a metric's name
abbrev pub name_of : RenditionMetric → List ℕ
name_of Begun = codes "hls_rendition_begun"
name_of Finished = codes "hls_rendition_finished"
name_of ReceivedBytes = codes "hls_rendition_bytes_total"
name_of MaxBytes = codes "hls_rendition_bytes_max"
name_of KeptBytes = codes "hls_rendition_kept_bytes"
name_of Fragments = codes "hls_rendition_fragments_total"
name_of End = codes "hls_rendition_end_seconds"
name_of Tolerance = codes "hls_rendition_tolerance_seconds"
name_of MissedSyncs = codes "hls_rendition_sync_samples_missed"
name_of SyncDistance = codes "hls_rendition_sync_distance_seconds"
name_of Gaps = codes "hls_rendition_places_before_gap"

-- what a metric is
abbrev pub help_of : RenditionMetric → List ℕ
help_of Begun = codes "Whether the rendition has its init section."
help_of Finished = codes "Whether the rendition is finished."
help_of ReceivedBytes = codes "Bytes that were ever accepted of the rendition."
help_of MaxBytes = codes "Bytes at which the recording is full."
help_of KeptBytes = codes "Bytes of fragments that are kept."
help_of Fragments = codes "Fragments that this process accepted."
help_of End = codes "Where the last fragment ends, on the encoders' clock."
help_of Tolerance = codes "How far a sync sample may be from a place."
help_of MissedSyncs = codes "The checked sync samples of rendition 0 that have none within the tolerance."
help_of SyncDistance = codes "The greatest distance from a checked sync sample to the nearest one."
help_of Gaps = codes "The last places before whose next one the rendition has a gap: no segment begins there."

-- a metric's type
abbrev pub kind_of : RenditionMetric → List ℕ
kind_of ReceivedBytes = codes "counter"
kind_of Fragments = codes "counter"
kind_of metric = codes "gauge"

-- what follows a number: times are microseconds, shown as seconds
abbrev pub row_end : RenditionMetric → List ℕ
row_end End = codes "e-6\n"
row_end Tolerance = codes "e-6\n"
row_end SyncDistance = codes "e-6\n"
row_end metric = codes "\n"

-- the label that says whether a rendition is video or audio, after which the labels end
abbrev pub kind_label : Bool → List ℕ
kind_label true = codes "\",kind=\"video\"} "
kind_label false = codes "\",kind=\"audio\"} "

-- the label of a rendition's number
unfoldable pub number_label : ℕ → List ℕ
number_label number = codes "{rendition=\"" ++ decimal number

-- the label of a rendition's name
unfoldable pub name_label : List ℕ → List ℕ
name_label name = codes "\",name=\"" ++ name

-- which rendition a row is about: its number, its name, and whether it is video or audio
abbrev pub labels : ℕ → Rendition → List ℕ
labels number rendition = number_label number ++ (name_label rendition.name ++ kind_label rendition.video)

-- the bytes of a recording, trimmed or kept; 0 if there is none
abbrev pub total_in : Option RecordingData → ℕ
total_in None = 0
total_in (Some rec) = total_of rec

-- the bytes of the units that a recording keeps; 0 if there is none
abbrev pub kept_in : Option RecordingData → ℕ
kept_in None = 0
kept_in (Some rec) = total_of rec - offset_at rec rec.floor

-- how many units a recording ever had; 0 if there is none
abbrev pub count_in : Option RecordingData → ℕ
count_in None = 0
count_in (Some rec) = length rec.facts

-- the end of a unit in microseconds; 0 if there is none
abbrev pub end_of_facts : Option Facts → ℕ
end_of_facts None = 0
end_of_facts (Some facts) = facts.end_us

-- the end of the last unit of a recording in microseconds; 0 if there is none
abbrev pub end_in : Option RecordingData → ℕ
end_in None = 0
end_in (Some rec) = end_of_facts (slice_get rec.facts (length rec.facts - 1))

-- whether there is an answer, and it is yes
abbrev pub is_true : Option Bool → Bool
is_true (Some true) = true
is_true found = false

-- a number, or 0 if there is none
abbrev pub number_or_zero : Option ℕ → ℕ
number_or_zero None = 0
number_or_zero (Some number) = number

-- what was measured of rendition `r`; 0 if nothing was
abbrev pub number_at : List ℕ → ℕ → ℕ
number_at numbers r = number_or_zero (slice_get numbers r)

-- the most bytes of a recording
abbrev pub recording_limit : ℕ
recording_limit = 1099511627776

-- the number that a metric shows of rendition `r`; bytes that precede this process count
abbrev pub number_of : RenditionMetric → State → Measured → ℕ → Rendition → ℕ
number_of Begun s m r rendition = number_of_bool (is_some (recording_of s r))
number_of Finished s m r rendition = number_of_bool (is_true (finished_at s r))
number_of ReceivedBytes s m r rendition = bytes_before_base s.config.base r + total_in (recording_of s r)
number_of MaxBytes s m r rendition = bytes_before_base s.config.base r + recording_limit
number_of KeptBytes s m r rendition = kept_in (recording_of s r)
number_of Fragments s m r rendition = count_in (recording_of s r)
number_of End s m r rendition = end_in (recording_of s r)
number_of Tolerance s m r rendition = rendition.tolerance
number_of MissedSyncs s m r rendition = number_at m.missed_syncs r
number_of SyncDistance s m r rendition = number_at m.sync_distances_us r
number_of Gaps s m r rendition = number_at m.gaps r

-- a metric's row of rendition `r`
unfoldable pub rendition_row : RenditionMetric → State → Measured → ℕ → Rendition → List ℕ
rendition_row metric s m r rendition =
    name_of metric ++ (labels r rendition ++ (decimal (number_of metric s m r rendition) ++ row_end metric))

-- the rows of these renditions; the first one has number `r`
abbrev pub rows_from : RenditionMetric → State → Measured → ℕ → List Rendition → List ℕ
rows_from metric s m r [] = []
rows_from metric s m r (rendition ∷ others) = rendition_row metric s m r rendition ++ rows_from metric s m (suc r) others

-- a metric with a row for each rendition
unfoldable pub rendition_metric : RenditionMetric → State → Measured → List ℕ
rendition_metric metric s m = description (name_of metric) (kind_of metric) (help_of metric) ++ rows_from metric s m 0 s.config.renditions

-- which renditions have begun and are finished, where they end, and their tolerances
unfoldable pub progress_metrics : State → Measured → List ℕ
progress_metrics s m =
    rendition_metric Begun s m ++ (rendition_metric Finished s m ++ (rendition_metric End s m ++ rendition_metric Tolerance s m))

-- the bytes that renditions received, may have and keep, and their fragments
unfoldable pub amount_metrics : State → Measured → List ℕ
amount_metrics s m =
    rendition_metric ReceivedBytes s m ++ (rendition_metric MaxBytes s m ++ (rendition_metric KeptBytes s m ++ rendition_metric Fragments s m))

-- why sync samples of rendition 0 are no places, and why no segment begins at a place
unfoldable pub cut_metrics : State → Measured → List ℕ
cut_metrics s m = rendition_metric MissedSyncs s m ++ (rendition_metric SyncDistance s m ++ rendition_metric Gaps s m)

-- ---- the whole text

-- the metrics of the channel, with the number of its jobs
unfoldable pub channel_metrics : State → ℕ → List ℕ
channel_metrics s jobs = log_metrics s ++ (segment_metrics s ++ (window_metrics s ++ (list_metrics s ++ catchup_metrics s jobs)))

-- the metrics of the renditions
unfoldable pub rendition_metrics : State → Measured → List ℕ
rendition_metrics s m = progress_metrics s m ++ (amount_metrics s m ++ cut_metrics s m)

-- the whole text, of a state, the number of jobs, and what the server measured
unfoldable pub metrics_text : State → ℕ → Measured → List ℕ
metrics_text s jobs measured = channel_metrics s jobs ++ (rendition_metrics s measured ++ measured_metrics measured)
