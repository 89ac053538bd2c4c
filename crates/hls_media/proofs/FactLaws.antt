-- The code's summary of the `traf` boxes gives the same facts as their whole list.
use Rattle.std.proofs.Common.{◌≡◌, ℕ, ℤ, ◌+◌, ◌==◌, nat_lt, Bool, true, false, cond, ◌||◌, List, [], ◌∷◌, fold, filter, Option, Some, None, option_map, option_and_then, Result, Err, refl, sym, ◌∙◌, ap, inl, inr, add_assoc, zero-add, arith}
use Rattle.std.specs.List.{list_any}
use Rattle.std.proofs.lemmas.Bool.{cases_Bool}
use Rattle.std.proofs.Math.Bool.{or_assoc, or-false}
use Rattle.std.proofs.lemmas.List.Sums.{sum_by-cons}
use Rattle.hls_boxes.specs.Boxes.{Child, children, contents_of_type}
use Rattle.hls_media_laws.specs.Kinds.{traf_type}
use Rattle.hls_media_laws.specs.declared.facts.Facts.{Facts}
use Rattle.hls_media_laws.specs.declared.fault.MediaFault.{MediaFault}
use Rattle.hls_media_laws.specs.declared.fault.MediaFault.TheVariants as faults
use Rattle.hls_media_laws.specs.Lists.{all_of}
use Rattle.hls_media_laws.specs.Fields.{sample_count, durations, sizes, total, some_missing, decode_time}
use Rattle.hls_media_laws.specs.Runs.{duration_in, lacks_duration, lacks_size, has_samples, flags_in, run_begin, is_outside}
use Rattle.hls_media_laws.specs.Trafs.{Traf, traf_at, trafs_of}
use Rattle.hls_media_laws.specs.TrafFacts.{UnitContext, is_unknown, has_base_offset, is_timing, size_for, duration_for, flags_for, lacks_sizes, base_of}
use Rattle.hls_media_laws.specs.FactCases.{runs_end, run_end, some_run_outside, traf_end, some_outside, facts_at_start, facts_of_timing_trafs, facts_from, facts_of_read_trafs, facts_of_moof}
use Rattle.hls_media.specs.declared.run_placement.DataWindow.{DataWindow}
use Rattle.hls_media.specs.declared.run_placement.RunPlacement.{RunPlacement}
use Rattle.hls_media.specs.declared.samples.SampleSummary.{SampleSummary}
use Rattle.hls_media.specs.declared.moof.MoofSummary.{MoofSummary}
use Rattle.hls_media.specs.declared.timing_traf.TimingTraf.TheVariants as timings
use Rattle.hls_media.specs.Folds.{fold_boxes, fold_content}
use Rattle.hls_media.specs.RunPlacement.{placement_after_run}
use Rattle.hls_media.specs.SampleSummary.{samples_after_run, no_samples}
use Rattle.hls_media.specs.MoofSummary.{no_placement, empty_summary, window_of, placement_start, traf_placement, traf_samples, timing_after_traf, summary_after_traf, moof_step, facts_of_timing, facts_of_summary, facts_of_read_summary}

-- a flag that each step sets if its element passes a test is set at the end if it was at the start or some element passes
raised : {S T : Type 0} (more : S → T → S) (flag : S → Bool) (test : T → Bool) → ((s : S) (t : T) → flag (more s t) ≡ (flag s || test t)) → (ts : List T) (s : S) → flag (fold more s ts) ≡ (flag s || list_any test ts)
raised more flag test each [] s = sym (or-false (flag s))
raised more flag test each (t ∷ ts) s =
    raised more flag test each ts (more s t) ∙ ap (λ (b : Bool). b || list_any test ts) (each s t) ∙ or_assoc (flag s) (test t) (list_any test ts)

-- after the runs of one `traf`, a size is missing if one was before or one of these runs lacks one
placement-lacking : (d : Option ℕ) (f : DataWindow) (rs : List (List ℕ)) (p : RunPlacement) → (fold (placement_after_run d f) p rs).lacking ≡ (p.lacking || lacks_size d rs)
unfolding placement_after_run
placement-lacking d f rs p = raised (placement_after_run d f) (λ (p : RunPlacement). p.lacking) (λ (r : List ℕ). some_missing (sizes d r)) (λ p r. refl) rs p

-- after the runs of one `traf`, the end is that of the last of them
placement-end : (d : Option ℕ) (f : DataWindow) (rs : List (List ℕ)) (p : RunPlacement) → (fold (placement_after_run d f) p rs).end ≡ runs_end d f.base p.end rs
unfolding placement_after_run
placement-end d f [] p = refl
placement-end d f (r ∷ rs) p = placement-end d f rs (placement_after_run d f p r)

-- after the runs of one `traf`, a byte is outside if one was before or one of these runs has one
placement-outside : (d : Option ℕ) (f : DataWindow) (rs : List (List ℕ)) (p : RunPlacement) → (fold (placement_after_run d f) p rs).outside ≡ (p.outside || some_run_outside f.low f.high d f.base p.end rs)
unfolding placement_after_run
placement-outside d f [] p = sym (or-false p.outside)
placement-outside d f (r ∷ rs) p =
    placement-outside d f rs (placement_after_run d f p r)
    ∙ or_assoc p.outside (is_outside f.low f.high (run_begin f.base p.end r) (total (sizes d r))) (some_run_outside f.low f.high d f.base (run_end d f.base p.end r) rs)

-- runs add their durations to the summary of the samples
sample_summary-duration : (d e : Option ℕ) (rs : List (List ℕ)) (t : SampleSummary) → (fold (samples_after_run d e) t rs).duration ≡ t.duration + duration_in d rs
unfolding samples_after_run
sample_summary-duration d e [] t = omega arith
sample_summary-duration d e (r ∷ rs) t =
    sample_summary-duration d e rs (samples_after_run d e t r)
    ∙ add_assoc t.duration (total (durations d r)) (duration_in d rs)
    ∙ ap (λ (n : ℕ). t.duration + n) (sym (sum_by-cons (λ (r : List ℕ). total (durations d r)) r rs))

-- after some runs, a duration is missing if one was before or one of these runs lacks one
sample_summary-lacking : (d e : Option ℕ) (rs : List (List ℕ)) (t : SampleSummary) → (fold (samples_after_run d e) t rs).lacking ≡ (t.lacking || lacks_duration d rs)
unfolding samples_after_run
sample_summary-lacking d e rs t = raised (samples_after_run d e) (λ (t : SampleSummary). t.lacking) (λ (r : List ℕ). some_missing (durations d r)) (λ t r. refl) rs t

-- after some runs, there is a sample if there was one before or one of these runs has one
sample_summary-samples : (d e : Option ℕ) (rs : List (List ℕ)) (t : SampleSummary) → (fold (samples_after_run d e) t rs).samples ≡ (t.samples || has_samples rs)
unfolding samples_after_run
sample_summary-samples d e rs t = raised (samples_after_run d e) (λ (t : SampleSummary). t.samples) (λ (r : List ℕ). nat_lt 0 (sample_count r)) (λ t r. refl) rs t

-- after the first sample, its flags don't change
flags-stay : (d e : Option ℕ) (rs : List (List ℕ)) (t : SampleSummary) → t.samples ≡ true → (fold (samples_after_run d e) t rs).flags ≡ t.flags
unfolding samples_after_run
flags-stay d e [] t some = refl
flags-stay d e (r ∷ rs) t some = flags-stay d e rs (samples_after_run d e t r) (rw some refl) ∙ rw some refl

-- if there was no sample before, the flags after some runs are those of their very first sample
sample_summary-flags : (d e : Option ℕ) (rs : List (List ℕ)) (t : SampleSummary) → t.samples ≡ false → t.flags ≡ None → (fold (samples_after_run d e) t rs).flags ≡ flags_in e rs
unfolding samples_after_run
sample_summary-flags d e [] t none flags = flags
sample_summary-flags d e (r ∷ rs) t none flags =
    elim (cases_Bool (nat_lt 0 (sample_count r))) [
      | inl some ↦ flags-stay d e rs (samples_after_run d e t r) (rw (none, some) refl) ∙ rw (none, some) refl
      | inr empty_summary ↦ sample_summary-flags d e rs (samples_after_run d e t r) (rw (none, empty_summary) refl) (rw (none, empty_summary) flags) ∙ rw empty_summary refl
    ]

-- one `traf`
module _ (g : UnitContext) where
  -- after one more `traf`, a size is missing if one was before or this `traf` lacks one
  traf-lacking : (p : RunPlacement) (t : Traf) → (traf_placement g p t).lacking ≡ (p.lacking || lacks_sizes g t)
  unfolding traf_placement
  traf-lacking p t = placement-lacking (size_for g t) (window_of g p.end t) t.runs (placement_start p t)

  -- after one more `traf`, the end is that of its last run
  traf-end : (p : RunPlacement) (t : Traf) → (traf_placement g p t).end ≡ traf_end g p.end t
  unfolding traf_placement
  traf-end p t = placement-end (size_for g t) (window_of g p.end t) t.runs (placement_start p t)

  -- after one more `traf`, a byte is outside if one was before or this `traf` has one
  traf-outside : (p : RunPlacement) (t : Traf) → (traf_placement g p t).outside ≡ (p.outside || some_run_outside g.low g.high (size_for g t) (base_of p.end t) (base_of p.end t) t.runs)
  unfolding traf_placement
  traf-outside p t = placement-outside (size_for g t) (window_of g p.end t) t.runs (placement_start p t)

  -- after several `traf` boxes, a byte is outside if one was before or one of them has one
  all-outside : (ts : List Traf) (p : RunPlacement) → (fold (traf_placement g) p ts).outside ≡ (p.outside || some_outside g p.end ts)
  all-outside [] p = sym (or-false p.outside)
  all-outside (t ∷ ts) p =
      let here : Bool = some_run_outside g.low g.high (size_for g t) (base_of p.end t) (base_of p.end t) t.runs in
      all-outside ts (traf_placement g p t)
      ∙ ap (λ (b : Bool). b || some_outside g (traf_placement g p t).end ts) (traf-outside p t)
      ∙ ap (λ (z : ℤ). (p.outside || here) || some_outside g z ts) (traf-end p t)
      ∙ or_assoc p.outside here (some_outside g (traf_end g p.end t) ts)

  -- after several `traf` boxes, a size is missing if one was before or one of them lacks one
  all-lacking : (ts : List Traf) (p : RunPlacement) → (fold (traf_placement g) p ts).lacking ≡ (p.lacking || list_any (lacks_sizes g) ts)
  all-lacking ts p = raised (traf_placement g) (λ (p : RunPlacement). p.lacking) (lacks_sizes g) traf-lacking ts p

  -- the summary of several `traf` boxes says of an unknown track what their list says
  summary-unknown : (ts : List Traf) (s : MoofSummary) → (fold (summary_after_traf g) s ts).unknown ≡ (s.unknown || list_any (is_unknown g) ts)
  unfolding summary_after_traf
  summary-unknown ts s = raised (summary_after_traf g) (λ (s : MoofSummary). s.unknown) (is_unknown g) (λ s t. refl) ts s

  -- the summary of several `traf` boxes says of a base data offset what their list says
  summary-base : (ts : List Traf) (s : MoofSummary) → (fold (summary_after_traf g) s ts).base_offset ≡ (s.base_offset || list_any has_base_offset ts)
  unfolding summary_after_traf
  summary-base ts s = raised (summary_after_traf g) (λ (s : MoofSummary). s.base_offset) has_base_offset (λ s t. refl) ts s

  -- the positions in a summary of several `traf` boxes are those after each of them in order
  summary-placement : (ts : List Traf) (s : MoofSummary) → (fold (summary_after_traf g) s ts).placement ≡ fold (traf_placement g) s.placement ts
  unfolding summary_after_traf
  summary-placement [] s = refl
  summary-placement (t ∷ ts) s = summary-placement ts (summary_after_traf g s t)

  -- what a summary says of the timing track depends on the `traf` boxes of that track alone
  summary-timing : (ts : List Traf) (s : MoofSummary) → (fold (summary_after_traf g) s ts).timing ≡ fold (timing_after_traf g) s.timing (filter (is_timing g) ts)
  unfolding summary_after_traf
  summary-timing [] s = refl
  summary-timing (t ∷ ts) s =
      elim (cases_Bool (is_timing g t)) [
        | inl own ↦ summary-timing ts (summary_after_traf g s t) ∙ rw own refl
        | inr other ↦ summary-timing ts (summary_after_traf g s t) ∙ rw other refl
      ]

  -- once the timing track has several `traf` boxes, more of them change nothing
  several-stays : (ts : List Traf) → fold (timing_after_traf g) timings.Several ts ≡ timings.Several
  several-stays [] = refl
  several-stays (t ∷ ts) = several-stays ts

  -- with exactly one `traf` of the timing track, the summary gives the same facts or fault as the list of `traf` boxes
  one-timing : (len : ℕ) (ts : List Traf) (t : Traf) (start : Option ℕ) → facts_of_timing g.timing len (fold (traf_placement g) no_placement ts) (timings.One start (traf_samples g t)) ≡ facts_at_start g len ts t start
  unfolding traf_samples
  one-timing len ts t None = refl
  one-timing len ts t (Some start) =
      rw (all-lacking ts no_placement, all-outside ts no_placement, sample_summary-lacking (duration_for g t) (flags_for g t) t.runs no_samples, sample_summary-samples (duration_for g t) (flags_for g t) t.runs no_samples, sample_summary-flags (duration_for g t) (flags_for g t) t.runs no_samples refl refl, sample_summary-duration (duration_for g t) (flags_for g t) t.runs no_samples, zero-add (duration_in (duration_for g t) t.runs)) refl

  -- whatever the `traf` boxes of the timing track are, the summary gives the same facts or fault as their list
  by_timing : (len : ℕ) (ts chosen : List Traf) → facts_of_timing g.timing len (fold (traf_placement g) no_placement ts) (fold (timing_after_traf g) timings.Missing chosen) ≡ facts_of_timing_trafs g len ts chosen
  by_timing len ts [] = refl
  by_timing len ts (t ∷ []) = one-timing len ts t (option_map decode_time t.time)
  by_timing len ts (t ∷ u ∷ more) = ap (facts_of_timing g.timing len (fold (traf_placement g) no_placement ts)) (several-stays more)

  -- the summary of `traf` boxes gives the same facts or fault as their list
  verdict-facts : (len : ℕ) (ts : List Traf) → facts_of_summary g.timing len (fold (summary_after_traf g) empty_summary ts) ≡ facts_from g len ts
  unfolding facts_from
  verdict-facts len ts =
      rw (summary-unknown ts empty_summary, summary-base ts empty_summary, summary-placement ts empty_summary, summary-timing ts empty_summary)
      (ap (λ (r : Result Facts MediaFault). cond (list_any (is_unknown g) ts) (Err faults.UnknownTrack) (cond (list_any has_base_offset ts) (Err faults.BaseOffset) r)) (by_timing len ts (filter (is_timing g) ts)))

  -- adding one `traf` and then others, if they are valid, is adding them all
  mapped : (s : MoofSummary) (t : Traf) (others : Option (List Traf)) → option_map (fold (summary_after_traf g) (summary_after_traf g s t)) others ≡ option_map (fold (summary_after_traf g) s) (option_map (λ (ys : List Traf). t ∷ ys) others)
  mapped s t None = refl
  mapped s t (Some ts) = refl

  -- a walk that continues after a `traf` adds this one and the others, if all are valid
  one_traf : (s : MoofSummary) (cs : List Child) (t : Option Traf)
      → ((s : MoofSummary) → fold_boxes (moof_step g) Some s cs ≡ option_map (fold (summary_after_traf g) s) (all_of traf_at (contents_of_type traf_type cs)))
      → option_and_then (λ (s : MoofSummary). fold_boxes (moof_step g) Some s cs) (option_map (summary_after_traf g s) t)
      ≡ option_map (fold (summary_after_traf g) s) (option_and_then (λ (y : Traf). option_map (λ (ys : List Traf). y ∷ ys) (all_of traf_at (contents_of_type traf_type cs))) t)
  one_traf s cs None ih = refl
  one_traf s cs (Some t) ih = ih (summary_after_traf g s t) ∙ mapped s t (all_of traf_at (contents_of_type traf_type cs))

  -- a walk over the boxes of a `moof` gives the summary of all their `traf` boxes, if all are valid
  along-summary : (cs : List Child) (s : MoofSummary) → fold_boxes (moof_step g) Some s cs ≡ option_map (fold (summary_after_traf g) s) (all_of traf_at (contents_of_type traf_type cs))
  unfolding fold_boxes
  along-summary [] s = refl
  along-summary (c ∷ cs) s =
      elim (cases_Bool (c.kind == traf_type)) [
        | inl e ↦ rw e (one_traf s cs (traf_at c.content) (along-summary cs))
        | inr e ↦ rw e (along-summary cs s)
      ]

  -- the same facts or fault follow from the summary and the list, also if a `traf` was invalid
  by_trafs : (len : ℕ) (trafs : Option (List Traf)) → facts_of_read_summary g.timing len (option_map (fold (summary_after_traf g) empty_summary) trafs) ≡ facts_of_read_trafs g len trafs
  by_trafs len None = refl
  by_trafs len (Some ts) = verdict-facts len ts

  -- the same facts or fault follow from the walk and the list, also if the boxes aren't readable
  by_boxes : (len : ℕ) (boxes : Option (List Child)) → facts_of_read_summary g.timing len (option_and_then (fold_boxes (moof_step g) Some empty_summary) boxes) ≡ facts_of_read_trafs g len (option_and_then (λ (cs : List Child). all_of traf_at (contents_of_type traf_type cs)) boxes)
  by_boxes len None = refl
  by_boxes len (Some cs) = ap (facts_of_read_summary g.timing len) (along-summary cs empty_summary) ∙ by_trafs len (all_of traf_at (contents_of_type traf_type cs))

  -- the walk over a `moof` gives the same facts or fault as the list of its `traf` boxes
  pub judged-facts : (len : ℕ) (moof : List ℕ) → facts_of_read_summary g.timing len (fold_content (moof_step g) Some empty_summary moof) ≡ facts_of_moof g len moof
  unfolding fold_content facts_of_moof trafs_of
  judged-facts len moof = by_boxes len (children moof)
