-- The summary after a `traf` whose header and runs were read.
use Rattle.std.proofs.Common.{◌≡◌, ℕ, ◌==◌, pos, not, bit_and, cond, List, find, Option, Some, is_some, ◌||◌, Bool, option_map, option_and_then, refl}
use Rattle.std.specs.Option.{option_or}
use Rattle.hls_media_laws.specs.Flags.{base_data_offset_present, default_base_is_moof}
use Rattle.hls_media_laws.specs.declared.track.Track.{Track}
use Rattle.hls_media_laws.specs.declared.track.TrexDefaults.{TrexDefaults}
use Rattle.hls_media_laws.specs.Trafs.{traf_at}
use Rattle.hls_media_laws.specs.TrafFacts.{UnitContext, is_timing}
use Rattle.hls_media.specs.declared.traf_header.TrafHeader.{TrafHeader}
use Rattle.hls_media.specs.declared.traf_runs.TrunVisitor.{TrunVisitor}
use Rattle.hls_media.specs.declared.traf_runs.RunSummary.{RunSummary}
use Rattle.hls_media.specs.declared.moof.MdatBounds.{MdatBounds}
use Rattle.hls_media.specs.declared.moof.MoofSummary.{MoofSummary}
use Rattle.hls_media.specs.declared.timing_traf.TimingTraf.{TimingTraf}
use Rattle.hls_media.specs.MoofSummary.{facts_context, summary_after_traf, samples_before, timing_with_samples, timing_after_traf, traf_placement}
use Rattle.hls_media.proofs.BridgeLaws.{Read, timing-read, none_flips}

-- what the code looked up for a header: its track, the defaults, the window of its runs, and the summary before them
pub record Looked (tracks : List Track) (timing : Track) (bounds : MdatBounds) (s : MoofSummary) (heading : TrafHeader) (track : Option Track) (trex : Option TrexDefaults) (k : TrunVisitor) (start : RunSummary) : Type 0 where
  pub track_is : track ≡ find (λ (k : Track). k.id == heading.head.track) tracks
  pub trex_is : trex ≡ option_and_then (λ (k : Track). k.defaults) track
  pub duration_is : k.duration ≡ option_or heading.head.duration (option_map (λ (d : TrexDefaults). d.duration) trex)
  pub size_is : k.size ≡ option_or heading.head.size (option_map (λ (d : TrexDefaults). d.size) trex)
  pub flags_is : k.flags ≡ option_or heading.head.sample_flags (option_map (λ (d : TrexDefaults). d.flags) trex)
  pub frame_is : k.window ≡ record { base = start.placement.end; low = bounds.low; high = bounds.high }
  -- the positions that the code keeps after a `traf` are those of the summary
  pub placed_is : start.placement ≡ record { end = cond (not (bit_and heading.head.flags default_base_is_moof == 0)) (pos 0) s.placement.end; lacking = s.placement.lacking; outside = s.placement.outside }
  pub timed_is : start.sample_summary ≡ samples_before (heading.head.track == timing.id) s.timing

module _ (tracks : List Track) (timing : Track) (bounds : MdatBounds) (s : MoofSummary) (content : List ℕ) (heading : TrafHeader) (track : Option Track) (trex : Option TrexDefaults) (k : TrunVisitor) (start runs : RunSummary) (r : Read content heading k start runs) (l : Looked tracks timing bounds s heading track trex k start) where
  -- what the code keeps of the timing track after a `traf` is what the summary says
  timing_is : (now : TimingTraf) → now ≡ timing_with_samples (heading.head.track == timing.id) heading.time runs.sample_summary s.timing
      → now ≡ cond (is_timing (facts_context tracks timing bounds) r.traf) (timing_after_traf (facts_context tracks timing bounds) s.timing r.traf) s.timing
  timing_is now value =
      let g : UnitContext = facts_context tracks timing bounds in
      rw (value, r.timed_is, l.timed_is, l.duration_is, l.flags_is, l.trex_is, l.track_is, r.track_is, r.time_is, r.duration_is, r.sample_flags_is)
      (timing-read g (is_timing g r.traf) s.timing r.traf)

  placed_is : runs.placement ≡ traf_placement (facts_context tracks timing bounds) s.placement r.traf
  unfolding traf_placement
  placed_is =
      rw (r.placed_is, l.frame_is, l.placed_is, l.size_is, l.trex_is, l.track_is, r.track_is, r.size_is, r.flags_is) refl

  -- what the code keeps after a `traf` is the summary after that `traf`
  pub tally_is : (none unknown base_offset : Bool) (now : TimingTraf) → is_some track ≡ not none → unknown ≡ (s.unknown || none) → base_offset ≡ (s.base_offset || not (bit_and heading.head.flags base_data_offset_present == 0))
      → now ≡ timing_with_samples (heading.head.track == timing.id) heading.time runs.sample_summary s.timing
      → Some (record { unknown = unknown; base_offset = base_offset; timing = now; placement = runs.placement }) ≡ option_map (summary_after_traf (facts_context tracks timing bounds) s) (traf_at content)
  unfolding summary_after_traf
  tally_is none unknown base_offset now none_is unknown_is base_is value =
      rw (r.is, unknown_is, base_is, timing_is now value, placed_is, none_flips track none none_is, l.track_is, r.track_is, r.flags_is) refl
