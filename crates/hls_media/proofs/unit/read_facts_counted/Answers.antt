-- Bytes that aren't exactly one unit are refused with `BadBox`; otherwise the facts are those of the `moof` (`facts-cases`).
use Rattle.std.proofs.Common.{length, ap, ◌∙◌}
use Rattle.hls_media_laws.specs.FactCases.{facts_of_layout}
use Rattle.hls_media_laws.proofs.Callers.{facts-cases}
use Rattle.hls_media.proofs.unit.read_facts_counted.Goals as goal

pub returns-in_default-clause-value : goal.returns-in_default-clause-value
returns-in_default-clause-value c =
    ap (facts_of_layout c.args.init.now (length c.args.unit.now)) c.in_default.ensures.value
    ∙ facts-cases c.args.init.now c.args.unit.now

pub returns-clause-value : goal.returns-clause-value
returns-clause-value c =
    rw (c.read_moof_facts.ensures.value, c.tracks.ensures, c.timing_track.ensures.track, c.mdat_bounds.ensures)
    (ap (facts_of_layout c.args.init.now (length c.args.unit.now)) c.in-Some.ensures.value
    ∙ facts-cases c.args.init.now c.args.unit.now)
