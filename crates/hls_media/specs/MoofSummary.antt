-- The code's summary of the `traf` boxes so far, and of one more.
-- For the proofs of this crate; no public clause cites it.
use Rattle.std.specs.Prelude.{ℕ, ℤ, pos, ◌<◌, ◌^◌, ◌==◌, Bool, false, ◌&&◌, ◌||◌, if◌then◌else◌, Option, Some, None, is_none, option_map, Result, Err, List, fold}
use Rattle.hls_media_laws.specs.Kinds.{traf_type}
use Rattle.hls_media_laws.specs.declared.track.Track.{Track}
use Rattle.hls_media_laws.specs.declared.facts.Facts.{Facts}
use Rattle.hls_media_laws.specs.declared.fault.MediaFault.{MediaFault}
use Rattle.hls_media_laws.specs.declared.fault.MediaFault.TheVariants as faults
use Rattle.hls_media_laws.specs.Fields.{decode_time}
use Rattle.hls_media_laws.specs.Trafs.{Traf, traf_at}
use Rattle.hls_media_laws.specs.TrafFacts.{UnitContext, is_unknown, has_base_offset, is_timing, size_for, duration_for, flags_for, base_of}
use Rattle.hls_media_laws.specs.FactCases.{facts_at_end}
use Rattle.hls_media.specs.declared.run_placement.DataWindow.{DataWindow}
use Rattle.hls_media.specs.declared.run_placement.RunPlacement.{RunPlacement}
use Rattle.hls_media.specs.declared.samples.SampleSummary.{SampleSummary}
use Rattle.hls_media.specs.declared.moof.MdatBounds.{MdatBounds}
use Rattle.hls_media.specs.declared.moof.MoofSummary.{MoofSummary}
use Rattle.hls_media.specs.declared.timing_traf.TimingTraf.{TimingTraf}
use Rattle.hls_media.specs.declared.timing_traf.TimingTraf.TheVariants as timings
use Rattle.hls_media.specs.RunPlacement.{placement_after_run, IsNear}
use Rattle.hls_media.specs.SampleSummary.{samples_after_run, no_samples}

-- the context of a unit with these tracks, this timing track and this range of the content of the `mdat`
abbrev pub facts_context : List Track → Track → MdatBounds → UnitContext
facts_context tracks timing b = record { tracks = tracks; timing = timing; low = b.low; high = b.high }

-- the summary of positions before the first run
abbrev pub no_placement : RunPlacement
no_placement = record { end = pos 0; lacking = false; outside = false }

-- the summary of a `moof` before its first `traf`
abbrev pub empty_summary : MoofSummary
empty_summary = record { unknown = false; base_offset = false; timing = timings.Missing; placement = no_placement }

-- the window of a `traf`'s runs, given where the previous one ended: their base, and the range of the content of the `mdat`
abbrev pub window_of : UnitContext → ℤ → Traf → DataWindow
window_of g last_end t = record { base = base_of last_end t; low = g.low; high = g.high }

-- the summary of positions before the runs of a `traf`: the end so far is the base of the `traf`
abbrev pub placement_start : RunPlacement → Traf → RunPlacement
placement_start p t = record { end = base_of p.end t; lacking = p.lacking; outside = p.outside }

-- the summary of positions after the runs of a `traf`
unfoldable pub traf_placement : UnitContext → RunPlacement → Traf → RunPlacement
traf_placement g p t = fold (placement_after_run (size_for g t) (window_of g p.end t)) (placement_start p t) t.runs

-- the summary of the samples of a `traf`
unfoldable pub traf_samples : UnitContext → Traf → SampleSummary
traf_samples g t = fold (samples_after_run (duration_for g t) (flags_for g t)) no_samples t.runs

-- what is known of the timing track's `traf` boxes after one more: the time and samples of the first, or that there are several
abbrev pub timing_after_traf : UnitContext → TimingTraf → Traf → TimingTraf
timing_after_traf g timings.Missing t = timings.One (option_map decode_time t.time) (traf_samples g t)
timing_after_traf g (timings.One time sample_summary) t = timings.Several
timing_after_traf g timings.Several t = timings.Several

-- the initial sample summary of a `traf`, if samples are summarized: only for the first one of the timing track
abbrev pub samples_before : Bool → TimingTraf → Option SampleSummary
samples_before own timings.Missing = if own then Some no_samples else None
samples_before own (timings.One time sample_summary) = None
samples_before own timings.Several = None

-- the timing track's only `traf` so far, with this time, or several if its samples weren't summarized
abbrev pub one_or_several : Option ℕ → Option SampleSummary → TimingTraf
one_or_several time (Some sample_summary) = timings.One time sample_summary
one_or_several time None = timings.Several

-- the same as `timing_after_traf`, given the result of the walk over the runs
abbrev pub timing_with_samples : Bool → Option ℕ → Option SampleSummary → TimingTraf → TimingTraf
timing_with_samples own time sample_summary s = if own then one_or_several time sample_summary else s

-- the summary of a `moof` after one more `traf`
unfoldable pub summary_after_traf : UnitContext → MoofSummary → Traf → MoofSummary
summary_after_traf g s t = record {
  unknown = s.unknown || is_unknown g t;
  base_offset = s.base_offset || has_base_offset t;
  timing = if is_timing g t then timing_after_traf g s.timing t else s.timing;
  placement = traf_placement g s.placement t;
}

-- the duration of the timing track's `traf`, if there is exactly one, is far below 2^128 ticks
abbrev pub HasBoundedDuration : TimingTraf → Type 0
HasBoundedDuration timings.Missing = Unit {0}
HasBoundedDuration timings.Several = Unit {0}
HasBoundedDuration (timings.One time t) = t.duration < 2 ^ 106

-- one step of the walk over a `moof`: a `traf` is added to the summary if it is valid, and other boxes are skipped
abbrev pub moof_step : UnitContext → MoofSummary → ℕ → List ℕ → Option MoofSummary
moof_step g s kind content = if kind == traf_type then option_map (summary_after_traf g s) (traf_at content) else Some s

-- the bounds of a summary after boxes of n bytes: how far away the last run ends, and the duration
pub record IsBoundedSummary (n : ℕ) (s : MoofSummary) : Type 0 where
  pub near : IsNear n s.placement.end
  pub short : HasBoundedDuration s.timing

-- the facts of a unit by what is known of the timing track's `traf` boxes, or the first fault
abbrev pub facts_of_timing : Track → ℕ → RunPlacement → TimingTraf → Result Facts MediaFault
facts_of_timing k len p timings.Missing = Err faults.NoTimingTraf
facts_of_timing k len p timings.Several = Err faults.TwoTimingTrafs
facts_of_timing k len p (timings.One None t) = Err faults.NoDecodeTime
facts_of_timing k len p (timings.One (Some start) t) =
    if p.lacking || t.lacking || (t.samples && is_none t.flags) then Err faults.NoDefault
    else facts_at_end k len start t.duration t.samples t.flags p.outside

-- the facts of a unit by the summary of its `moof`, or the first fault
abbrev pub facts_of_summary : Track → ℕ → MoofSummary → Result Facts MediaFault
facts_of_summary k len s =
    if s.unknown then Err faults.UnknownTrack
    else (if s.base_offset then Err faults.BaseOffset
    else facts_of_timing k len s.placement s.timing)

-- the facts of a unit by the summary of its `moof`, or the first fault; without a summary, a box was invalid
abbrev pub facts_of_read_summary : Track → ℕ → Option MoofSummary → Result Facts MediaFault
facts_of_read_summary k len None = Err faults.BadBox
facts_of_read_summary k len (Some s) = facts_of_summary k len s
