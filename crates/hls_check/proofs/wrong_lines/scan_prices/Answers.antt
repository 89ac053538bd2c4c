-- The lines up to `end` are price lines, by increasing place, and no text follows.
-- Otherwise the first line that is missing, of another kind, or after the end is the first wrong line.
use Rattle.std.proofs.lemmas.Bool.{iff_false}
use Rattle.hls_check_tables.specs.Certificates.{CutClaim}
use Rattle.hls_check.specs.Stages.{certificate_with}
use Rattle.hls_check.proofs.Scans.{no_price_passed, missing_price, all_prices, prices_passed, wrong_price, one_price_more}
use Rattle.hls_check.proofs.wrong_lines.scan_prices.Goals as goal

pub loop-line-init : goal.loop-line-init
loop-line-init c = no_price_passed c.args.count c.args.text.now c.args.first

pub returns-in_default : goal.returns-in_default
returns-in_default c =
    missing_price c.args.count c.args.text.now c.args.first c.loop-line.low c.loop-line.rest.now c.loop-line.lines_read c.loop-line.invariant
    c.in_default.ensures.line

pub returns-then-is_word : goal.returns-then-is_word
returns-then-is_word c = λ bytes plan t total count_is at.
    c.scan_end.ensures bytes (certificate_with t (CutClaim total plan (all_prices c.args.count c.loop-line.invariant.prices)))
    (prices_passed c.args.count c.args.text.now c.args.first c.loop-line.low c.loop-line.rest.now c.in-Some.line.now c.in-Some.after.now
    c.loop-line.lines_read c.loop-line.invariant c.in-Some.ensures.line (c.is_word.ensures.0 c.if-is_word.true) bytes plan t total count_is at)

pub returns-in_default-parse_price : goal.returns-in_default-parse_price
returns-in_default-parse_price c =
    wrong_price c.args.count c.args.text.now c.args.first c.loop-line.low c.loop-line.rest.now c.in-Some.line.now c.in-Some.after.now
    c.loop-line.lines_read c.loop-line.invariant c.in-Some.ensures.line (iff_false c.is_word.ensures c.if-is_word.false)
    c.in_default-parse_price.ensures

pub loop-line-preserved : goal.loop-line-preserved
loop-line-preserved c =
    one_price_more c.args.count c.args.text.now c.args.first c.loop-line.low c.loop-line.rest.now c.in-Some.line.now c.in-Some.after.now
    c.loop-line.lines_read c.in-Some-parse_price.place c.in-Some-parse_price._price c.loop-line.invariant c.in-Some.ensures.line c.in-Some.ensures.shorter
    c.in-Some-parse_price.ensures
