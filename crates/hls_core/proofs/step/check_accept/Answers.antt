-- A unit that passed the earlier tests and fails one of them is refused, with that test's reason, or is a duplicate.
-- One that passes all may be accepted.
use Rattle.std.proofs.Common.{◌≡◌, ◌∙◌, ◌<◌, ◌≤◌, None, sym, ap, arith}
use Rattle.std.specs.Option.{option_copied}
use Rattle.hls_media_laws.specs.FactLists.{last_end}
use Rattle.hls_record.specs.RecordingData.{duplicate_of}
use Rattle.hls_core.proofs.Goes.{room_of, accept_unknown, accept_unbegun, accept_again, accept_other, accept_before, accept_finished, accept_full}
use Rattle.hls_core.proofs.step.check_accept.Goals as goal

pub returns-in_default-clause-refused : goal.returns-in_default-clause-refused
returns-in_default-clause-refused c = accept_unknown c.args.snapshot.now c.args.rendition c.args.facts c.args.bytes.now c.in_default.ensures.none

pub returns-in_default-recording-clause-refused : goal.returns-in_default-recording-clause-refused
returns-in_default-recording-clause-refused c =
    accept_unbegun c.args.snapshot.now c.args.rendition c.in-Some.old.now c.args.facts c.args.bytes.now c.in-Some.ensures.some c.in_default-recording.is

pub returns-then-facts-last_end-clause-refused : goal.returns-then-facts-last_end-clause-refused
returns-then-facts-last_end-clause-refused c =
    let apart : duplicate_of c.in-Some-recording.recording c.args.facts.start ≡ None = sym c.find_duplicate.ensures ∙ ap option_copied c.in-None.is in
    let before : c.args.facts.start < last_end c.in-Some-recording.recording.facts = omega (arith, c.last_end.ensures, c.if-facts-last_end.true) in
    accept_before c.args.snapshot.now c.args.rendition c.in-Some.old.now c.in-Some-recording.recording c.args.facts c.args.bytes.now
    c.in-Some.ensures.some c.in-Some-recording.is apart before

pub returns-then-old-clause-refused : goal.returns-then-old-clause-refused
returns-then-old-clause-refused c =
    let apart : duplicate_of c.in-Some-recording.recording c.args.facts.start ≡ None = sym c.find_duplicate.ensures ∙ ap option_copied c.in-None.is in
    let later : last_end c.in-Some-recording.recording.facts ≤ c.args.facts.start = omega (arith, c.last_end.ensures, c.if-facts-last_end.false) in
    accept_finished c.args.snapshot.now c.args.rendition c.in-Some.old.now c.in-Some-recording.recording c.args.facts c.args.bytes.now
    c.in-Some.ensures.some c.in-Some-recording.is apart later c.if-old.true

pub returns-then-is_full-clause-refused : goal.returns-then-is_full-clause-refused
returns-then-is_full-clause-refused c =
    let apart : duplicate_of c.in-Some-recording.recording c.args.facts.start ≡ None = sym c.find_duplicate.ensures ∙ ap option_copied c.in-None.is in
    let later : last_end c.in-Some-recording.recording.facts ≤ c.args.facts.start = omega (arith, c.last_end.ensures, c.if-facts-last_end.false) in
    accept_full c.args.snapshot.now c.args.rendition c.in-Some.old.now c.in-Some-recording.recording c.args.facts c.args.bytes.now
    c.in-Some.ensures.some c.in-Some-recording.is apart later c.if-old.false (sym c.is_full.ensures ∙ c.if-is_full.true)

pub returns-clause-new : goal.returns-clause-new
returns-clause-new c = record {
  old = c.in-Some.old.now;
  at = c.in-Some.ensures.some;
  begun = c.in-Some-recording.is;
  apart = sym c.find_duplicate.ensures ∙ ap option_copied c.in-None.is;
  later = omega (arith, c.last_end.ensures, c.if-facts-last_end.false);
  unfinished = c.if-old.false;
  room = room_of c.args.snapshot.now c.is_full.result c.is_full.ensures c.if-is_full.false;
}

pub returns-in-Some-find_duplicate-clause-repeated : goal.returns-in-Some-find_duplicate-clause-repeated
returns-in-Some-find_duplicate-clause-repeated c =
    λ none. accept_again c.args.snapshot.now c.args.rendition c.in-Some.old.now c.in-Some-recording.recording c.args.facts c.args.bytes.now
    c.in-Some-find_duplicate.duplicate.now c.in-Some.ensures.some c.in-Some-recording.is (sym c.find_duplicate.ensures ∙ ap option_copied c.in-Some-find_duplicate.is)
    (sym c.eq.ensures ∙ c.if-eq.true)

pub returns-in-Some-2-clause-refused : goal.returns-in-Some-2-clause-refused
returns-in-Some-2-clause-refused c =
    accept_other c.args.snapshot.now c.args.rendition c.in-Some.old.now c.in-Some-recording.recording c.args.facts c.args.bytes.now
    c.in-Some-find_duplicate.duplicate.now c.in-Some.ensures.some c.in-Some-recording.is (sym c.find_duplicate.ensures ∙ ap option_copied c.in-Some-find_duplicate.is)
    (sym c.eq.ensures ∙ c.if-eq.false)
