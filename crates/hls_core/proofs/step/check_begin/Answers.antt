-- A Begin for an unknown rendition, with another init section than the recorded one, or in a full log is refused;
-- one with the recorded init section is a duplicate; any other is new.
use Rattle.std.proofs.Common.{ℕ, List, ◌∙◌, sym, ap}
use Rattle.std.specs.Str.{bytes_eq}
use Rattle.hls_core.proofs.Goes.{room_of, begin_unknown, begin_again, begin_changed, begin_full}
use Rattle.hls_core.proofs.step.check_begin.Goals as goal

pub returns-in_default-clause-meets : goal.returns-in_default-clause-meets
returns-in_default-clause-meets c = λ init. begin_unknown c.args.snapshot.now c.args.rendition c.args.bytes.now c.in_default.ensures.none

pub returns-then-is_full-clause-meets : goal.returns-then-is_full-clause-meets
returns-then-is_full-clause-meets c =
    λ init. begin_full c.args.snapshot.now c.args.rendition c.in-Some.old.now c.args.bytes.now c.in-Some.ensures.some c.in-None.is
    (sym c.is_full.ensures ∙ c.if-is_full.true)

pub returns-clause-meets : goal.returns-clause-meets
returns-clause-meets c = record {
  old = c.in-Some.old.now;
  at = c.in-Some.ensures.some;
  first = c.in-None.is;
  room = room_of c.args.snapshot.now c.is_full.result c.is_full.ensures c.if-is_full.false;
}

pub returns-in-Some-recording-clause-meets : goal.returns-in-Some-recording-clause-meets
returns-in-Some-recording-clause-meets c =
    begin_again c.args.snapshot.now c.args.rendition c.in-Some.old.now c.in-Some-recording.recording c.args.bytes.now c.in-Some.ensures.some
    c.in-Some-recording.is (ap (λ (head : List ℕ). bytes_eq head c.args.bytes.now) (sym c.init_section_bytes.ensures) ∙ sym c.eq.ensures ∙ c.if-eq.true)

pub returns-in-Some-2-clause-meets : goal.returns-in-Some-2-clause-meets
returns-in-Some-2-clause-meets c =
    λ init. begin_changed c.args.snapshot.now c.args.rendition c.in-Some.old.now c.in-Some-recording.recording c.args.bytes.now c.in-Some.ensures.some
    c.in-Some-recording.is (ap (λ (head : List ℕ). bytes_eq head c.args.bytes.now) (sym c.init_section_bytes.ensures) ∙ sym c.eq.ensures ∙ c.if-eq.false)
