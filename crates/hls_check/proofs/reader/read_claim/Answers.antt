-- After the table, `none` begins a closed set and `cut` a cut; what follows is read as such.
-- Any other line, or none, is the first wrong line.
use Rattle.std.proofs.Common.{ℕ, List, ◌≡◌, subst}
use Rattle.hls_check.specs.Text.{none_line}
use Rattle.std.proofs.lemmas.Bool.{iff_false}
use Rattle.hls_check.proofs.Claims.{claim_missing, claim_bad, at_members, at_plan}
use Rattle.hls_text.specs.Lines.{IsFirstLine}
use Rattle.hls_check.proofs.reader.read_claim.Goals as goal

pub returns-in_default : goal.returns-in_default
returns-in_default c = λ bytes at. claim_missing bytes c.args.text.now c.args.table c.args.lines_read at c.in_default.ensures.line

pub returns-then-is_word : goal.returns-then-is_word
returns-then-is_word c = λ bytes at.
    let none : c.in-Some.line.now ≡ none_line = c.is_word.ensures.0 c.if-is_word.true in
    c.read_none.ensures bytes
    (at_members bytes c.args.text.now c.in-Some.after.now c.args.table c.args.lines_read at
    (subst (λ (l : List ℕ). IsFirstLine c.args.text.now l c.in-Some.after.now) none c.in-Some.ensures.line))

pub returns-in_default-parse_number_line : goal.returns-in_default-parse_number_line
returns-in_default-parse_number_line c = λ bytes at.
    claim_bad bytes c.args.text.now c.in-Some.line.now c.in-Some.after.now c.args.table c.args.lines_read at c.in-Some.ensures.line
    (iff_false c.is_word.ensures c.if-is_word.false) c.in_default-parse_number_line.ensures

pub returns : goal.returns
returns c = λ bytes at.
    c.read_cut.ensures bytes
    (at_plan bytes c.args.text.now c.in-Some.after.now c.args.table c.in-Some-parse_number_line.cost c.args.lines_read at c.in-Some-parse_number_line.ensures.0
    (subst (λ (l : List ℕ). IsFirstLine c.args.text.now l c.in-Some.after.now) c.in-Some-parse_number_line.ensures.1 c.in-Some.ensures.line))
