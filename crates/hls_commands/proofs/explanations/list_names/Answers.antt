-- The names of the lines that the split yielded are those of all lines of the text.
use Rattle.std.proofs.Common.{rules, tests, ◌∙◌, ◌==◌, ap, List, ℕ, flat_map}
use Rattle.std.proofs.lemmas.Iterator.Consumers.{YieldsList-end}
use Rattle.std.proofs.lemmas.Iterator.Splits.{YieldsList-from_slice_split}
use Rattle.std.specs.Slice.Iter.{split_rest, split_done, split_callee}
use Rattle.hls_commands.specs.Explanations.{name_row}
use Rattle.hls_commands.proofs.explanations.list_names.Goals as goal

pub returns : goal.returns
returns c =
    let made = c.split-line-items.ensures in
    let same = c.into_iter-line-iterator.ensures.into_iter_gives in
    let end =
    YieldsList-end
    (YieldsList-from_slice_split _ (λ b. b == 10) c.args.text.now (ap (λ s. split_rest s) same ∙ made.rest)
    (ap (λ s. split_done s) same ∙ made.done) (ap (λ s. split_callee s) same ∙ made.closure)
    (λ x r q k. search (rules, tests)))
    c.loop-line.yielded _ c.loop-line.yielded_by _ _ c.in-None.is c.next.ensures.steps in
    c.loop-line.invariant ∙ ap (λ (lines : List (List ℕ)). flat_map name_row lines) end.0
