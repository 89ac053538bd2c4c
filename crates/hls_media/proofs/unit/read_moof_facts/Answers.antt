-- The facts of a unit, or its first fault, are the defined ones: they follow from the summary of its `moof`. Without a summary a box is bad.
use Rattle.std.proofs.Common.{sym, ◌∙◌, ap}
use Rattle.hls_media.specs.MoofSummary.{facts_context, facts_of_read_summary}
use Rattle.hls_media.proofs.FactLaws.{judged-facts}
use Rattle.hls_media.proofs.unit.read_moof_facts.Goals as goal

pub returns-in_default-clause-value : goal.returns-in_default-clause-value
returns-in_default-clause-value c =
    ap (facts_of_read_summary c.args.timing c.args.len) (sym c.in_default.is ∙ c.summarize_moof.ensures.value) ∙ judged-facts (facts_context c.args.tracks.now c.args.timing c.args.bounds) c.args.len c.args.moof.now

pub returns-clause-value : goal.returns-clause-value
returns-clause-value c =
    c.decide_facts.ensures ∙ ap (facts_of_read_summary c.args.timing c.args.len) (sym c.in-Some.is ∙ c.summarize_moof.ensures.value) ∙ judged-facts (facts_context c.args.tracks.now c.args.timing c.args.bounds) c.args.len c.args.moof.now
