-- What the facts of a unit say of the fragment that it is.
use Rattle.std.proofs.Common.{◌≡◌, ◌∙◌, ℕ, ◌+◌, ◌^◌, ◌<◌, ◌==◌, ◌&&◌, Bool, true, false, cond, Option, Some, None, option_and_then, List, [], ◌∷◌, length, refl, sym, ap, subst, arith}
use Rattle.std.specs.Prelude.{Ok, nat_lt, not}
use Rattle.std.proofs.lemmas.Bool.{and_from, and_parts, eqb-true}
use Rattle.hls_boxes.specs.Kinds.{unit_limit}
use Rattle.hls_boxes.specs.Boxes.{children}
use Rattle.hls_time.specs.Times.{floor_us}
use Rattle.hls_media_laws.specs.Fields.{decode_time}
use Rattle.hls_media_laws.specs.Layout.{Layout, layout_of, layout_of_boxes}
use Rattle.hls_media_laws.specs.Runs.{duration_in, is_sync}
use Rattle.hls_media_laws.specs.Trafs.{Traf, trafs_of}
use Rattle.hls_media_laws.specs.TrafFacts.{UnitContext, duration_for}
use Rattle.hls_media_laws.specs.InitData.{InitData, timing_track}
use Rattle.hls_media_laws.specs.declared.facts.Facts.{Facts}
use Rattle.hls_media_laws.specs.UnitFacts.{unit_context, context_of_layout, trafs_in, facts_with, facts}
use Rattle.hls_media_laws.specs.IsInitOrUnit.{IsUnit, AreBounded}
use Rattle.hls_media_laws.proofs.Callers.{units_are_bounded}
use Rattle.hls_mend_laws.specs.declared.sample.Sample.{Sample}
use Rattle.hls_mend_laws.specs.Fragments.{Fragment, total_duration, total_size, AreLooseBoxes, is_timing_head}
use Rattle.hls_mend_laws.specs.FragmentsRead.{UnitParts, unit_parts, sample_defaults, run_samples, traf_fits, is_readable, keeps_offsets, fragment_with, checked_fragment, fragment_from, fragment_of}
use Rattle.hls_mend_laws.proofs.OneTraf.{HasFacts, has-facts}
use Rattle.hls_mend_laws.proofs.Options.{and-then, if-so, if-then, none-or-some, from-not}
use Rattle.hls_mend_laws.proofs.ReadLaws.{traf_of_parts, unit-read}
use Rattle.hls_mend_laws.proofs.SampleLaws.{HasRunFacts, run-facts}

-- if facts are read of a unit, it has a layout
layout-some : (o : Option Layout) (init : InitData) (len : ℕ) (f : Facts) → facts_with (context_of_layout init o) len (trafs_in o) ≡ Ok f → (l : Layout) × (o ≡ Some l)
layout-some None init len f is = absurd (cc)
layout-some (Some l) init len f is = (l, refl)

-- a layout that isn't refused for the length of its bytes is the one of their boxes
laid-by : (long : Bool) (o : Option Layout) (l : Layout) → cond long None o ≡ Some l → o ≡ Some l
laid-by true o l is = absurd (cc)
laid-by false o l is = is

-- the layout of a unit is that of its boxes
unit-laid : (unit : List ℕ) (l : Layout) → layout_of unit ≡ Some l → option_and_then layout_of_boxes (children unit) ≡ Some l
unfolding layout_of
unit-laid unit l is = laid-by (nat_lt unit_limit (length unit)) (option_and_then layout_of_boxes (children unit)) l is

-- a fragment that was read of a unit agrees with the unit's facts: its start, duration and end, and whether its first sample is a sync sample
pub record IsSent (init : InitData) (unit : List ℕ) (f : Facts) (sent : Fragment) : Type 0 where
  pub loose : AreLooseBoxes sent.front
  pub head : is_timing_head init sent.head ≡ true
  pub filled : total_size sent.samples ≡ length sent.payload
  pub start_is : sent.start ≡ f.start
  pub lasts : total_duration sent.samples ≡ f.duration
  pub scale_is : (timing_track init).scale ≡ f.scale
  pub end_us_is : floor_us (sent.start + total_duration sent.samples) (timing_track init).scale ≡ f.end_us
  pub end_fits : sent.start + total_duration sent.samples < 2 ^ 64
  pub end_us_fits : f.end_us < 2 ^ 53
  pub sync_is : (first : Sample) (others : List Sample) → sent.samples ≡ first ∷ others → is_sync (Some first.flags) ≡ f.sync

-- the fragment with a unit's parts and samples agrees with the unit's facts, if the samples fill the payload
sent-parts : (init : InitData) (unit : List ℕ) (f : Facts) (u : UnitParts) (ss : List Sample) → IsUnit init unit f → unit_parts unit ≡ Some u
    → is_readable u ≡ true → run_samples (sample_defaults init.tracks u.moof.traf.head) u.moof.traf.run ≡ Some ss → total_size ss ≡ length u.payload
    → IsSent init unit f (fragment_with u ss)
unfolding facts sample_defaults
sent-parts init unit f u ss is parts readable samples filled =
    let read = unit-read unit u parts in
    let fits : traf_fits u.moof.traf ≡ true = (and_parts _ _ readable).0 in
    let some = layout-some (layout_of unit) init (length unit) f is in
    let laid = unit-laid unit some.0 some.1 in
    let same : some.0 ≡ read.layout = (let e : Some some.0 ≡ Some read.layout = sym laid ∙ read.laid in cc) in
    let here : layout_of unit ≡ Some read.layout = some.1 ∙ ap Some same in
    let g : UnitContext = unit_context init read.layout in
    let t : Traf = traf_of_parts u.moof.traf in
    let trafs : trafs_of read.layout.moof ≡ Some (t ∷ []) = read.trafs fits in
    let with_layout : facts_with g (length unit) (trafs_of read.layout.moof) ≡ Ok f = rw here at is in
    let with_traf : facts_with g (length unit) (Some (t ∷ [])) ≡ Ok f = rw trafs at with_layout in
    let o : HasFacts g (length unit) t f = has-facts g (length unit) t f with_traf in
    let run : HasRunFacts (sample_defaults init.tracks u.moof.traf.head) u.moof.traf.run ss = run-facts (sample_defaults init.tracks u.moof.traf.head) u.moof.traf.run ss samples in
    let lasts : total_duration ss ≡ duration_in (duration_for g t) t.runs = run.lasts in
    let bounded : AreBounded f unit = units_are_bounded init unit f is in
    let start_is : decode_time u.moof.traf.time ≡ f.start = ap (λ (x : Facts). x.start) o.facts_are in
    let duration_is : duration_in (duration_for g t) t.runs ≡ f.duration = ap (λ (x : Facts). x.duration) o.facts_are in
    let end_us_is : floor_us (decode_time u.moof.traf.time + duration_in (duration_for g t) t.runs) (timing_track init).scale ≡ f.end_us = ap (λ (x : Facts). x.end_us) o.facts_are in
    record {
      loose = read.loose;
      head = and_from _ _ (and_parts _ _ fits).0 (and_from _ _ (ap not o.good.no_base) (and_from _ _ (from-not _ (sym (none-or-some _) ∙ o.good.known)) o.good.timing));
      filled = filled;
      start_is = start_is;
      lasts = lasts ∙ duration_is;
      scale_is = ap (λ (x : Facts). x.scale) o.facts_are;
      end_us_is = ap (λ (k : ℕ). floor_us (decode_time u.moof.traf.time + k) (timing_track init).scale) lasts ∙ end_us_is;
      end_fits = omega (arith, start_is, lasts, duration_is, bounded.end_fits);
      end_us_fits = bounded.end_us_fits;
      sync_is = λ first others e. ap is_sync (sym (run.flags first others e)) ∙ ap (λ (x : Facts). x.sync) o.facts_are;
    }

-- the fragment that is read of a unit agrees with the unit's facts
pub is-sent : (init : InitData) (unit : List ℕ) (f : Facts) (sent : Fragment) → IsUnit init unit f → fragment_of init unit ≡ Some sent → IsSent init unit f sent
unfolding fragment_of
is-sent init unit f sent is read =
    let p = and-then (fragment_from init.tracks) (unit_parts unit) sent read in
    let good = if-then (is_readable p.x) (option_and_then (checked_fragment p.x) (run_samples (sample_defaults init.tracks p.x.moof.traf.head) p.x.moof.traf.run)) sent p.then in
    let s = and-then (checked_fragment p.x) (run_samples (sample_defaults init.tracks p.x.moof.traf.head) p.x.moof.traf.run) sent good.1 in
    let c = if-so ((total_size s.x == length p.x.payload) && keeps_offsets p.x.moof.traf.run s.x) (fragment_with p.x s.x) sent s.then in
    subst (IsSent init unit f) c.1 (sent-parts init unit f p.x s.x is p.is good.0 s.is (eqb-true _ _ (and_parts _ _ c.0).0))

-- the samples of a fragment that was read fill its payload
pub is-filled : (init : InitData) (unit : List ℕ) (sent : Fragment) → fragment_of init unit ≡ Some sent → total_size sent.samples ≡ length sent.payload
unfolding fragment_of
is-filled init unit sent read =
    let p = and-then (fragment_from init.tracks) (unit_parts unit) sent read in
    let good = if-then (is_readable p.x) (option_and_then (checked_fragment p.x) (run_samples (sample_defaults init.tracks p.x.moof.traf.head) p.x.moof.traf.run)) sent p.then in
    let s = and-then (checked_fragment p.x) (run_samples (sample_defaults init.tracks p.x.moof.traf.head) p.x.moof.traf.run) sent good.1 in
    let c = if-so ((total_size s.x == length p.x.payload) && keeps_offsets p.x.moof.traf.run s.x) (fragment_with p.x s.x) sent s.then in
    subst (λ (f : Fragment). total_size f.samples ≡ length f.payload) c.1 (eqb-true _ _ (and_parts _ _ c.0).0)
