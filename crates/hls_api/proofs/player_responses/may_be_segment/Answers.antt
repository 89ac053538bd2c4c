-- Units may be a segment if there are some and they last no longer than allowed; the facts of the first and the last are there.
use Rattle.std.proofs.Common.{◌≡◌, ◌∙◌, ℕ, ◌-◌, None, Some, ap, arith}
use Rattle.std.specs.Prelude.{nat_le, slice_get}
use Rattle.hls_api.proofs.NamedSpans.{is_there, long_as, not_rising}
use Rattle.hls_api.proofs.player_responses.may_be_segment.Goals as goal

pub returns-then-from-to : goal.returns-then-from-to
returns-then-from-to c = not_rising c.args.target c.args.recording.now.facts c.args.from c.args.to c.if-from-to.true

pub returns-in_default : goal.returns-in_default
returns-in_default c =
    let ensures = c.in_default.ensures in
    let none : slice_get c.args.recording.now.facts c.args.from ≡ None = cc in
    absurd (is_there c.args.recording.now.facts c.args.from (omega (arith, c.if-from-to.false, c.requires.to)) none)

pub returns-in_default-facts : goal.returns-in_default-facts
returns-in_default-facts c =
    let ensures = c.in_default-facts.ensures in
    let none : slice_get c.args.recording.now.facts (c.args.to - 1) ≡ None = cc in
    absurd (is_there c.args.recording.now.facts (c.args.to - 1) (omega (arith, c.if-from-to.false, c.requires.to)) none)

pub returns : goal.returns
returns c =
    let first = c.in-Some.ensures in
    let last = c.in-Some-facts.ensures in
    let begins : slice_get c.args.recording.now.facts c.args.from ≡ Some c.in-Some.first = cc in
    let ends : slice_get c.args.recording.now.facts (c.args.to - 1) ≡ Some c.in-Some-facts.last = cc in
    ap (λ (n : ℕ). nat_le n c.longest_us.result) c.saturating_sub.ensures
    ∙ (ap (nat_le (c.in-Some-facts.last.end_us - c.in-Some.first.start_us)) c.longest_us.ensures
    ∙ long_as c.args.target c.args.recording.now.facts c.args.from c.args.to c.in-Some.first c.in-Some-facts.last (omega (arith, c.if-from-to.false)) begins ends)
