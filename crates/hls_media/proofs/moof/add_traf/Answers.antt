-- A `traf` is valid if both walks over its boxes find it so (`no-heading`, `no-runs`), and then the summary has it (`tally_is`).
use Rattle.std.proofs.Common.{subst, ◌≡◌, ◌+◌, length, refl, sym, ◌∙◌, ap, arith}
use Rattle.hls_media.specs.declared.run_placement.DataWindow.{DataWindow}
use Rattle.hls_media.specs.declared.traf_runs.TrunVisitor.{TrunVisitor}
use Rattle.hls_media.specs.declared.traf_runs.RunSummary.{RunSummary}
use Rattle.hls_media.specs.DurationBounds.{near-more}
use Rattle.hls_media.specs.RunPlacement.{IsNear}
use Rattle.hls_media.proofs.BridgeLaws.{Read, no-heading, no-runs, read}
use Rattle.hls_media.proofs.ReadLaws.{Looked, tally_is}
use Rattle.hls_media.proofs.moof.add_traf.Goals as goal

pub returns-in_default-clause-value : goal.returns-in_default-clause-value
returns-in_default-clause-value c = rw (no-heading c.args.content.now (sym c.parse_traf_header.ensures.value ∙ c.in_default.is)) refl

pub returns-in_default-visit_boxes-clause-value : goal.returns-in_default-visit_boxes-clause-value
returns-in_default-visit_boxes-clause-value c =
    rw (no-runs c.make_trun_visitor-rules.result (record { placement = c.start_placement-start.result; sample_summary = c.start_samples.result }) c.args.content.now (sym c.visit_boxes.ensures.value ∙ c.in_default-visit_boxes.is)) refl

pub returns-clause-value : goal.returns-clause-value
returns-clause-value c =
    let k : TrunVisitor = c.make_trun_visitor-rules.result in
    let start : RunSummary = record { placement = c.start_placement-start.result; sample_summary = c.start_samples.result } in
    let r : Read c.args.content.now c.in-Some.heading k start c.in-Some-visit_boxes.runs =
    read k start c.in-Some-visit_boxes.runs c.args.content.now c.in-Some.heading (sym c.parse_traf_header.ensures.value ∙ c.in-Some.is) (sym c.visit_boxes.ensures.value ∙ c.in-Some-visit_boxes.is) in
    let l : Looked c.args.moof_visitor.now.tracks.now c.args.moof_visitor.now.timing c.args.moof_visitor.now.bounds c.args.state c.in-Some.heading c.find_track-track.result c.track_defaults.result k start = record {
      track_is = c.find_track-track.ensures;
      trex_is = c.track_defaults.ensures;
      duration_is = c.make_trun_visitor-rules.ensures.duration;
      size_is = c.make_trun_visitor-rules.ensures.size;
      flags_is = c.make_trun_visitor-rules.ensures.flags;
      frame_is = c.make_trun_visitor-rules.ensures.window ∙ c.make_window.ensures;
      placed_is = c.start_placement-start.ensures.value;
      timed_is = c.start_samples.ensures.value;
    } in
    tally_is c.args.moof_visitor.now.tracks.now c.args.moof_visitor.now.timing c.args.moof_visitor.now.bounds c.args.state c.args.content.now c.in-Some.heading c.find_track-track.result c.track_defaults.result k start c.in-Some-visit_boxes.runs r l
    c.is_none.result c.either.result c.either-2.result c.add_timing_traf.result c.is_none.ensures c.either.ensures c.either-2.ensures c.add_timing_traf.ensures.value

pub returns-clause-known : goal.returns-clause-known
returns-clause-known c = λ n known.
    let base_is : c.start_placement-start.result.end ≡ c.make_trun_visitor-rules.result.window.base =
    sym (ap (λ (f : DataWindow). f.base) (c.make_trun_visitor-rules.ensures.window ∙ c.make_window.ensures)) in
    let base : IsNear n c.make_trun_visitor-rules.result.window.base = subst (IsNear n) base_is (c.start_placement-start.ensures.near n known.near) in
    record {
      near = near-more (n + length c.args.content.now) (n + 8 + length c.args.content.now) c.in-Some-visit_boxes.runs.placement.end (omega arith) (c.in-Some-visit_boxes.ensures.known.near n base);
      short = c.add_timing_traf.ensures.short;
    }
