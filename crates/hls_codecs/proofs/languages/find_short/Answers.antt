-- The code of two letters is the one in the first row that begins with the three letters; if no row of five bytes is left, there is none.
use Rattle.std.proofs.Common.{sym, ◌∙◌}
use Rattle.std.proofs.lemmas.List.{take_rest}
use Rattle.hls_codecs.proofs.LanguageLaws.{short-end, short-found, short-passed}
use Rattle.hls_codecs.proofs.languages.find_short.Goals as goal

pub returns-then-begins_with : goal.returns-then-begins_with
returns-then-begins_with c =
    short-found c.rows.rest.now c.args.letters c.rows-test.true (sym c.begins_with.ensures ∙ c.if-begins_with.true) ∙ c.rows.invariant

pub rows-preserved : goal.rows-preserved
rows-preserved c =
    rw (take_rest c.rows.rest.now 5)
    (short-passed c.rows.rest.now c.args.letters c.rows-test.true (sym c.begins_with.ensures ∙ c.if-begins_with.false) ∙ c.rows.invariant)

pub returns : goal.returns
returns c = sym (short-end c.rows.rest.now c.args.letters c.rows-test.false) ∙ c.rows.invariant
