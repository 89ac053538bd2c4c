-- The answer is whether a segment that ends here is long enough: by whether rendition 0 has the preferred length;
-- if it doesn't, only the closing place will do.
use Rattle.std.proofs.Common.{ℕ, Bool, leb, sym, ap, ◌∙◌}
use Rattle.std.proofs.lemmas.Bool.{le-leb, lt-leb}
use Rattle.std.specs.Prelude.{◌||◌}
use Rattle.hls_places_laws.specs.Line.Steps.{is_long_enough}
use Rattle.hls_live.proofs.place_fit.is_long_enough.Goals as goal

pub returns-then-line_goal-length_between : goal.returns-then-line_goal-length_between
unfolding is_long_enough
returns-then-line_goal-length_between c =
    let long = le-leb c.args.line_goal.preferred c.length_between.result c.if-line_goal-length_between.true in
    long ∙ sym (ap (λ (n : ℕ). leb c.args.line_goal.preferred n || c.args.place.now.closing) (sym c.length_between.ensures)
    ∙ ap (λ (b : Bool). b || c.args.place.now.closing) long)

pub returns-else-line_goal-length_between : goal.returns-else-line_goal-length_between
unfolding is_long_enough
returns-else-line_goal-length_between c =
    let short = lt-leb c.args.line_goal.preferred c.length_between.result c.if-line_goal-length_between.false in
    sym (ap (λ (n : ℕ). leb c.args.line_goal.preferred n || c.args.place.now.closing) (sym c.length_between.ensures)
    ∙ ap (λ (b : Bool). b || c.args.place.now.closing) short)
