-- A unit is read under the recording's init section, if there is one (AcceptLaws).
use Rattle.std.proofs.Common.{◌≡◌, rules, Some, None, Ok, Err}
use Rattle.hls_media_laws.specs.UnitFacts.{facts}
use Rattle.hls_core.specs.Getters.{recording_of}
use Rattle.hls_commands.proofs.AcceptLaws.{accepts_unit, refuses_early, refuses_unit}
use Rattle.hls_commands.proofs.cut.recorder.Recorder.accept_unit.Goals as goal

pub returns-in_default : goal.returns-in_default
returns-in_default c =
    let none : recording_of c.args.self.now 0 ≡ None = search rules in
    refuses_early c.args.self.now c.args.self.now c.args.bytes none

pub returns-in-Err : goal.returns-in-Err
returns-in-Err c =
    let begun : recording_of c.args.self.now 0 ≡ Some c.in-Some.recording.now = search rules in
    let found : facts c.in-Some.recording.now.init c.args.bytes ≡ Err c.in-Err.fault = search rules in
    refuses_unit c.args.self.now c.args.self.now c.args.bytes c.in-Some.recording.now c.in-Err.fault begun found

pub returns : goal.returns
returns c =
    let begun : recording_of c.args.self.now 0 ≡ Some c.in-Some.recording.now = search rules in
    let found : facts c.in-Some.recording.now.init c.args.bytes ≡ Ok c.in-Ok.facts = search rules in
    accepts_unit c.args.self.now c.apply_event.new.self c.args.bytes c.in-Some.recording.now c.in-Ok.facts c.apply_event.result begun found c.apply_event.ensures
