-- Two walks over the boxes of a `traf`, one over its header and one over its runs, determine whether it is valid, and its content.
use Rattle.std.proofs.Common.{slice_index_or, slice_get, subst, not, is_some, is_none, ◌≡◌, ℕ, ◌==◌, Bool, true, false, cond, ◌&&◌, List, [], ◌∷◌, fold, Option, Some, None, option_map, option_and_then, refl, sym, ◌∙◌, ap, inl, inr}
use Rattle.std.specs.Int.{w32}
use Rattle.std.specs.List.{list_all}
use Rattle.std.proofs.lemmas.Bool.{cases_Bool}
use Rattle.hls_boxes.specs.Boxes.{Child, children, contents_of_type, number_at}
use Rattle.hls_media_laws.specs.Kinds.{tfhd_type, tfdt_type, trun_type}
use Rattle.hls_media_laws.specs.Fields.{trun_fits, track_id_of, default_duration, default_size, default_flags, decode_time}
use Rattle.hls_media_laws.specs.Trafs.{Traf, traf_of_boxes, traf_at}
use Rattle.hls_media_laws.specs.TrafFacts.{UnitContext, duration_for, flags_for}
use Rattle.hls_media.specs.declared.traf_header.TrafHeader.{TrafHeader}
use Rattle.hls_media.specs.declared.traf_runs.TrunVisitor.{TrunVisitor}
use Rattle.hls_media.specs.declared.traf_runs.RunSummary.{RunSummary}
use Rattle.hls_media.specs.declared.samples.SampleSummary.{SampleSummary}
use Rattle.hls_media.specs.declared.timing_traf.TimingTraf.{TimingTraf}
use Rattle.hls_media.specs.declared.timing_traf.TimingTraf.TheVariants as timings
use Rattle.hls_media.specs.Boxes.{tfhd_fields}
use Rattle.hls_media.specs.Folds.{fold_boxes, fold_content}
use Rattle.hls_media.specs.TrafHeaders.{header_with, is_traf_header, header_of_boxes, header_of_traf}
use Rattle.hls_media.specs.RunPlacement.{placement_after_run}
use Rattle.hls_media.specs.SampleSummary.{samples_after_run}
use Rattle.hls_media.specs.Runs.{summary_after_run, summary_after_trun, runs_step}
use Rattle.hls_media.specs.MoofSummary.{samples_before, timing_with_samples, timing_after_traf, traf_samples}

-- all `trun` boxes among these are valid
abbrev all_fit : List Child → Bool
all_fit cs = list_all trun_fits (contents_of_type trun_type cs)

-- these boxes have a valid header: exactly one `tfhd`, at most one `tfdt`, and no field beyond its box
abbrev headed : List Child → Bool
headed cs = is_traf_header (contents_of_type tfhd_type cs) (contents_of_type tfdt_type cs)

-- the `traf` of these boxes: the first `tfhd`, the first `tfdt`, and all `trun` boxes
abbrev traf_in : List Child → Traf
traf_in cs = record { head = slice_index_or (contents_of_type tfhd_type cs) 0 []; time = slice_get (contents_of_type tfdt_type cs) 0; runs = contents_of_type trun_type cs }

-- the header of these boxes, with the kept fields of the first `tfhd` and `tfdt`
abbrev heading_in : List Child → TrafHeader
heading_in cs = header_with (slice_index_or (contents_of_type tfhd_type cs) 0 []) (slice_get (contents_of_type tfdt_type cs) 0)

-- boxes without a valid header are no valid `traf`
no_heading_in : (cs : List Child) (good : Bool) → headed cs ≡ good → cond good (Some (heading_in cs)) None ≡ None → traf_of_boxes cs ≡ None
no_heading_in cs true e none = absurd (cc)
no_heading_in cs false e none = ap (λ (b : Bool). cond (b && all_fit cs) (Some (traf_in cs)) None) e

-- the same for boxes that may not be readable: without a valid header, they are no valid `traf`
no_heading_by : (boxes : Option (List Child)) → option_and_then header_of_boxes boxes ≡ None → option_and_then traf_of_boxes boxes ≡ None
no_heading_by None none = refl
no_heading_by (Some cs) none = no_heading_in cs (headed cs) refl none

-- a `traf` without a valid header isn't valid
pub no-heading : (content : List ℕ) → header_of_traf content ≡ None → traf_at content ≡ None
unfolding header_of_traf traf_at
no-heading content none = no_heading_by (children content) none

-- a `traf` with an invalid `trun` isn't valid, whether its header is or not
misfit : (good : Bool) (t : Traf) → cond (good && false) (Some t) None ≡ None
misfit true t = refl
misfit false t = refl

-- the runs in order: their positions, and their durations
module _ (k : TrunVisitor) where
  -- a walk that continues over these boxes after a step
  abbrev goes : List Child → Option RunSummary → Option RunSummary
  goes cs next = option_and_then (λ (s : RunSummary). fold_boxes (runs_step k) Some s cs) next

  -- a walk over these boxes gives the summary after all their runs, if all are valid
  abbrev Goes : RunSummary → List Child → Type 0
  Goes s cs = fold_boxes (runs_step k) Some s cs ≡ cond (all_fit cs) (Some (fold (summary_after_run k) s (contents_of_type trun_type cs))) None

  -- a walk that continues after a run gives the summary after it and the others, if all are valid
  a_run : (s : RunSummary) (r : List ℕ) (cs : List Child) (fits : Bool) → ((s : RunSummary) → Goes s cs)
      → goes cs (cond fits (Some (summary_after_run k s r)) None) ≡ cond (fits && all_fit cs) (Some (fold (summary_after_run k) (summary_after_run k s r) (contents_of_type trun_type cs))) None
  a_run s r cs true ih = ih (summary_after_run k s r)
  a_run s r cs false ih = refl

  -- a walk over the boxes of a `traf` gives the summary after all its runs, if all are valid
  along-runs : (s : RunSummary) (cs : List Child) → Goes s cs
  unfolding fold_boxes summary_after_trun
  along-runs s [] = refl
  along-runs s (c ∷ cs) =
      elim (cases_Bool (c.kind == trun_type)) [
        | inl e ↦ rw e (a_run s c.content cs (trun_fits c.content) (λ s. along-runs s cs))
        | inr e ↦ rw e (along-runs s cs)
      ]

  -- boxes with an invalid run are no valid `traf`
  no_run_in : (cs : List Child) (s : RunSummary) (fits : Bool) → all_fit cs ≡ fits → cond fits (Some (fold (summary_after_run k) s (contents_of_type trun_type cs))) None ≡ None → traf_of_boxes cs ≡ None
  no_run_in cs s true e none = absurd (cc)
  no_run_in cs s false e none = ap (λ (b : Bool). cond (headed cs && b) (Some (traf_in cs)) None) e ∙ misfit (headed cs) (traf_in cs)

  -- if a walk over the runs fails, the boxes are no valid `traf`
  no_runs_by : (s : RunSummary) (boxes : Option (List Child)) → option_and_then (fold_boxes (runs_step k) Some s) boxes ≡ None → option_and_then traf_of_boxes boxes ≡ None
  no_runs_by s None none = refl
  no_runs_by s (Some cs) none = no_run_in cs s (all_fit cs) refl (sym (along-runs s cs) ∙ none)

  -- a `traf` for which the walk over its runs fails isn't valid
  pub no-runs : (s : RunSummary) (content : List ℕ) → fold_content (runs_step k) Some s content ≡ None → traf_at content ≡ None
  unfolding fold_content traf_at
  no-runs s content none = no_runs_by s (children content) none

  -- the positions in the summary after some runs are those after each of the runs in order
  placement-fold : (rs : List (List ℕ)) (s : RunSummary) → (fold (summary_after_run k) s rs).placement ≡ fold (placement_after_run k.size k.window) s.placement rs
  unfolding summary_after_run
  placement-fold [] s = refl
  placement-fold (r ∷ rs) s = placement-fold rs (summary_after_run k s r)

  same : (o : Option SampleSummary) → o ≡ option_map (λ (t : SampleSummary). t) o
  same None = refl
  same (Some t) = refl

  -- adding one run and then others to a summary of samples, if there is one, is adding them all
  twice : (r : List ℕ) (rs : List (List ℕ)) (o : Option SampleSummary)
      → option_map (λ (t : SampleSummary). fold (samples_after_run k.duration k.flags) t rs) (option_map (λ (t : SampleSummary). samples_after_run k.duration k.flags t r) o) ≡ option_map (λ (t : SampleSummary). fold (samples_after_run k.duration k.flags) t (r ∷ rs)) o
  twice r rs None = refl
  twice r rs (Some t) = refl

  -- the samples in the summary after some runs are those after each of the runs in order, if samples are summarized
  sample_summary-fold : (rs : List (List ℕ)) (s : RunSummary) → (fold (summary_after_run k) s rs).sample_summary ≡ option_map (λ (t : SampleSummary). fold (samples_after_run k.duration k.flags) t rs) s.sample_summary
  unfolding summary_after_run
  sample_summary-fold [] s = same s.sample_summary
  sample_summary-fold (r ∷ rs) s = sample_summary-fold rs (summary_after_run k s r) ∙ twice r rs s.sample_summary

-- a `traf` is valid, and its header and the summary of its runs have the fields of its boxes
pub record Read (content : List ℕ) (heading : TrafHeader) (k : TrunVisitor) (start runs : RunSummary) : Type 0 where
  pub traf : Traf
  pub is : traf_at content ≡ Some traf
  pub track_is : heading.head.track ≡ track_id_of traf.head
  pub flags_is : heading.head.flags ≡ number_at w32 0 traf.head
  pub duration_is : heading.head.duration ≡ default_duration traf.head
  pub size_is : heading.head.size ≡ default_size traf.head
  pub sample_flags_is : heading.head.sample_flags ≡ default_flags traf.head
  pub time_is : heading.time ≡ option_map decode_time traf.time
  pub placed_is : runs.placement ≡ fold (placement_after_run k.size k.window) start.placement traf.runs
  pub timed_is : runs.sample_summary ≡ option_map (λ (t : SampleSummary). fold (samples_after_run k.duration k.flags) t traf.runs) start.sample_summary

-- a valid `traf` with these boxes has their header and the summary of their runs
read_so : (k : TrunVisitor) (start : RunSummary) (content : List ℕ) (cs : List Child) → traf_at content ≡ Some (traf_in cs) → Read content (heading_in cs) k start (fold (summary_after_run k) start (contents_of_type trun_type cs))
unfolding header_with tfhd_fields
read_so k start content cs is = record {
  traf = traf_in cs;
  is = is;
  track_is = refl;
  flags_is = refl;
  duration_is = refl;
  size_is = refl;
  sample_flags_is = refl;
  time_is = refl;
  placed_is = placement-fold k (contents_of_type trun_type cs) start;
  timed_is = sample_summary-fold k (contents_of_type trun_type cs) start;
}

-- if both walks over these boxes give values, the `traf` is valid and has them
read_in : (k : TrunVisitor) (start runs : RunSummary) (content : List ℕ) (heading : TrafHeader) (cs : List Child) (good fits : Bool) → children content ≡ Some cs → headed cs ≡ good → all_fit cs ≡ fits
    → cond good (Some (heading_in cs)) None ≡ Some heading → cond fits (Some (fold (summary_after_run k) start (contents_of_type trun_type cs))) None ≡ Some runs → Read content heading k start runs
unfolding traf_at
read_in k start runs content heading cs false fits filled e f head_is runs_are = absurd (cc)
read_in k start runs content heading cs true false filled e f head_is runs_are = absurd (cc)
read_in k start runs content heading cs true true filled e f head_is runs_are =
    let is : traf_at content ≡ Some (traf_in cs) =
    ap (option_and_then traf_of_boxes) filled ∙ ap (λ (b : Bool). cond (b && all_fit cs) (Some (traf_in cs)) None) e ∙ ap (λ (b : Bool). cond b (Some (traf_in cs)) None) f in
    let one : heading_in cs ≡ heading = cc in
    let all : fold (summary_after_run k) start (contents_of_type trun_type cs) ≡ runs = cc in
    subst (λ (h : TrafHeader). Read content h k start runs) one (subst (Read content (heading_in cs) k start) all (read_so k start content cs is))

-- the same for boxes that may not be readable
read_by : (k : TrunVisitor) (start runs : RunSummary) (content : List ℕ) (heading : TrafHeader) (boxes : Option (List Child)) → children content ≡ boxes
    → option_and_then header_of_boxes boxes ≡ Some heading → option_and_then (fold_boxes (runs_step k) Some start) boxes ≡ Some runs → Read content heading k start runs
read_by k start runs content heading None filled head_is runs_are = absurd (cc)
read_by k start runs content heading (Some cs) filled head_is runs_are =
    read_in k start runs content heading cs (headed cs) (all_fit cs) filled refl refl head_is (sym (along-runs k start cs) ∙ runs_are)

-- a `traf` for which both walks give values is valid, and has that header and that summary of its runs
pub read : (k : TrunVisitor) (start runs : RunSummary) (content : List ℕ) (heading : TrafHeader) → header_of_traf content ≡ Some heading → fold_content (runs_step k) Some start content ≡ Some runs → Read content heading k start runs
unfolding header_of_traf fold_content
read k start runs content heading head_is runs_are = read_by k start runs content heading (children content) refl head_is runs_are

-- what the code keeps of the timing track's `traf` boxes, by the summary of their samples, is what is known after one more `traf`
pub timing-read : (g : UnitContext) (own : Bool) (s : TimingTraf) (t : Traf)
    → timing_with_samples own (option_map decode_time t.time) (option_map (λ (x : SampleSummary). fold (samples_after_run (duration_for g t) (flags_for g t)) x t.runs) (samples_before own s)) s ≡ cond own (timing_after_traf g s t) s
unfolding traf_samples
timing-read g false s t = refl
timing-read g true timings.Missing t = refl
timing-read g true (timings.One time sample_summary) t = refl
timing-read g true timings.Several t = refl

-- if an option has a value exactly when b is false, b says that it has none
pub none_flips : {A : Type 0} (o : Option A) (b : Bool) → is_some o ≡ not b → b ≡ is_none o
none_flips None true e = refl
none_flips None false e = absurd (cc)
none_flips (Some x) true e = absurd (cc)
none_flips (Some x) false e = refl
