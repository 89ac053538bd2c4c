-- A value has a token if one of the pieces between its commas is that token; splitting at commas yields these pieces.
use Rattle.std.proofs.{Common.{rules, tests}, lemmas.Iterator.{Search.any_from_yields_List, Splits.YieldsList-from_slice_split}}
use Rattle.hls_http.specs.Fields.{has_word, is_word}
use Rattle.hls_http.proofs.fields.has_token.Goals as goal

pub returns : goal.returns
unfolding has_word
returns c =
    any_from_yields_List (is_word c.args.word.now) _ _ c.any.result c.any.ensures.ran
    (YieldsList-from_slice_split _ _ c.args.value.now c.split.ensures.rest c.split.ensures.done c.split.ensures.closure (λ x b q k. search (rules, tests)))
    (λ x b q k. search (rules, tests))
