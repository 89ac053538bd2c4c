-- The line that is found is the first one with this name, since the split yields the lines of the text in order.
use Rattle.std.proofs.Common.{rules, tests, nat_eq}
use Rattle.std.specs.Cmp.Lexicographic.{pointwise}
use Rattle.std.proofs.lemmas.Iterator.Search.{find_from_yields_List}
use Rattle.std.proofs.lemmas.Iterator.Splits.{YieldsList-from_slice_split}
use Rattle.hls_commands.specs.Explanations.{name_in}
use Rattle.hls_commands.proofs.explanations.find_line.Goals as goal

pub returns : goal.returns
returns c =
    find_from_yields_List (λ line. pointwise nat_eq (name_in line) c.args.name.now) _ _ c.find.result c.find.ensures.ran
    (YieldsList-from_slice_split _ _ c.args.text.now c.split.ensures.rest c.split.ensures.done c.split.ensures.closure (λ x r q k. search (rules, tests)))
    (λ x b q k. search (rules, tests))
