-- A record that is too short for one of a unit, or whose unit has no bytes, is wrong. So is one for whose unit no facts can be read.
use Rattle.std.proofs.Common.{◌≡◌, ◌∙◌, true, false, refl, sym, ap}
use Rattle.std.specs.Option.{option_copied}
use Rattle.hls_media_laws.specs.UnitFacts.{facts}
use Rattle.hls_journal.proofs.Units.{has_no_unit, not_a_unit}
use Rattle.hls_journal.proofs.restart.recall_unit.Goals as goal

pub returns-then-not-has_unit-clause-fault : goal.returns-then-not-has_unit-clause-fault
returns-then-not-has_unit-clause-fault c =
    has_no_unit c.args.floor (option_copied c.args.media) c.args.recording.now c.args.body.now
    (λ has. let no : false ≡ true = c.if-not-has_unit.ensures.1 has in absurd cc)

pub returns-in-Err-read_facts-clause-fault : goal.returns-in-Err-read_facts-clause-fault
returns-in-Err-read_facts-clause-fault c =
    let some = c.if-not-has_unit.ensures.0 refl in
    not_a_unit c.args.floor (option_copied c.args.media) c.args.recording.now c.args.body.now c.in-Ok.bytes c.in-Err-read_facts.field-0 some.1 c.in-Ok.ensures.unit
    (sym (c.read_facts.ensures ∙ ap (λ i. facts i c.deref.result.now) c.init.ensures ∙ ap (λ b. facts c.args.recording.now.init b) c.deref.ensures) ∙ c.in-Err-read_facts.is)
