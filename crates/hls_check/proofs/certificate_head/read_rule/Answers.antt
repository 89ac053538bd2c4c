-- A text of version 1 has rule 1, and its target is next; in version 2 the second line has the charge of the rule.
-- If the version line or the charge is missing or bad, that line is the first wrong one.
use Rattle.std.proofs.Common.{◌≡◌, ℕ, List, rules, subst}
use Rattle.std.proofs.lemmas.Bool.{iff_false}
use Rattle.hls_text.specs.Lines.{IsFirstLine}
use Rattle.hls_check.specs.Text.{header_line, ruled_header_line}
use Rattle.hls_check.specs.WrongLines.{IsFirstWrongLine}
use Rattle.hls_check.specs.Stages.{IsReadUpTo, AtRule}
use Rattle.hls_check.proofs.Wrongs.{stops, at_target, at_rule, at_charged, header_missing, header_bad}
use Rattle.hls_check.proofs.certificate_head.read_rule.Goals as goal

-- if the first line of a text equals a word, that word is the first line
first_is : (bytes line after word : List ℕ) → line ≡ word → IsFirstLine bytes line after → IsFirstLine bytes word after
first_is bytes line after word is first = subst (λ (l : List ℕ). IsFirstLine bytes l after) is first

pub returns-in_default-clause-rule : goal.returns-in_default-clause-rule
returns-in_default-clause-rule c = header_missing c.args.bytes.now c.in_default.ensures.line

pub returns-then-is_word-clause-rule : goal.returns-then-is_word-clause-rule
returns-then-is_word-clause-rule c =
    let one : c.in-Some.line.now ≡ header_line = c.is_word.ensures.0 c.if-is_word.true in
    at_target c.args.bytes.now c.in-Some.after.now
    (first_is c.args.bytes.now c.in-Some.line.now c.in-Some.after.now header_line one c.in-Some.ensures.line)

pub returns-then-not-is_word-clause-rule : goal.returns-then-not-is_word-clause-rule
returns-then-not-is_word-clause-rule c =
    header_bad c.args.bytes.now c.in-Some.line.now c.in-Some.after.now c.in-Some.ensures.line
    (iff_false c.is_word.ensures c.if-is_word.false) (iff_false c.is_word-2.ensures c.if-not-is_word.true)

pub returns-in_err-charge-clause-rule : goal.returns-in_err-charge-clause-rule
returns-in_err-charge-clause-rule c =
    let two : c.in-Some.line.now ≡ ruled_header_line = c.is_word-2.ensures.0 c.if-not-is_word.false in
    let at : IsReadUpTo AtRule c.args.bytes.now c.in-Some.after.now 1 =
    at_rule c.args.bytes.now c.in-Some.after.now
    (first_is c.args.bytes.now c.in-Some.line.now c.in-Some.after.now ruled_header_line two c.in-Some.ensures.line) in
    let wrong : IsFirstWrongLine c.args.bytes.now c.in_err-charge.field-0.0.line =
    stops AtRule tt c.args.bytes.now c.in-Some.after.now 1 at c.in_err-charge.field-0.0.line c.in_err-charge.ensures.line in
    search rules

pub returns-clause-rule : goal.returns-clause-rule
returns-clause-rule c =
    let two : c.in-Some.line.now ≡ ruled_header_line = c.is_word-2.ensures.0 c.if-not-is_word.false in
    at_charged c.args.bytes.now c.in-Some.after.now c.in_ok-charge.rest.now c.in_ok-charge.charge
    (at_rule c.args.bytes.now c.in-Some.after.now
    (first_is c.args.bytes.now c.in-Some.line.now c.in-Some.after.now ruled_header_line two c.in-Some.ensures.line))
    c.in_ok-charge.ensures.line
