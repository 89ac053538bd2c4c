-- The range is that of the first track fragment of the track, among the first eight; there is none if none of them is the track's.
use Rattle.std.proofs.Common.{◌≡◌, ◌-◌, ◌+◌, sym, ◌∙◌, arith}
use Rattle.hls_codecs.proofs.DurationLaws.{from-end, from-none, from-found, from-other}
use Rattle.hls_codecs.proofs.sample_durations.range_of_moof.Goals as goal

pub returns-in_default-clause-value : goal.returns-in_default-clause-value
returns-in_default-clause-value c =
    from-none (8 - c.fragments.n) c.fragments.n c.args.track c.args.moof.now (sym c.in_default.ensures) ∙ c.fragments.invariant.value

pub returns-in-Some-head_of_track-clause-value : goal.returns-in-Some-head_of_track-clause-value
returns-in-Some-head_of_track-clause-value c =
    c.range_of_traf.ensures.value
    ∙ from-found (8 - c.fragments.n) c.fragments.n c.args.track c.args.moof.now c.in-Some.traf.now c.in-Some-head_of_track.head.now (omega arith) (sym c.in-Some.ensures) (sym c.in-Some-head_of_track.ensures.value)
    ∙ c.fragments.invariant.value

pub fragments-preserved : goal.fragments-preserved
fragments-preserved c =
    let less : 8 - (c.fragments.n + 1) ≡ 8 - c.fragments.n - 1 = omega arith in
    record {
      value = rw less (from-other (8 - c.fragments.n) c.fragments.n c.args.track c.args.moof.now c.in-Some.traf.now (omega arith) (sym c.in-Some.ensures) (sym c.in_default-head_of_track.ensures.value) ∙ c.fragments.invariant.value);
      few = omega arith;
    }

pub returns-clause-value : goal.returns-clause-value
returns-clause-value c =
    from-end (8 - c.fragments.n) c.fragments.n c.args.track c.args.moof.now (omega arith) ∙ c.fragments.invariant.value
