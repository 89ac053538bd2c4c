-- The log grows by one act, the readings of the encoders; what the keeper has seen doesn't change.
use Rattle.std.proofs.Common.{ap}
use Rattle.hls_api.specs.Acts.{Knowledge, ReadEncoders, view_of}
use Rattle.hls_connection.proofs.PassLaws.{acted_one}
use Rattle.hls_connection.proofs.act_log.read_encoders.Goals as goal

pub returns-clause-act_steps : goal.returns-clause-act_steps
returns-clause-act_steps g c =
    let done = c.read_encoders-readings.ensures in
    acted_one _ _ _ _ _ (ReadEncoders c.read_encoders-readings.result) (record { asked = ap (λ (k : Knowledge). k.acts) done; does = ap view_of done }) tt c.note_readings.ensures
