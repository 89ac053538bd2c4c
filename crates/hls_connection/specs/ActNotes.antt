-- For the proofs of this crate; no public clause cites it but by a list of acts.
-- What was noted of a keeper's acts.
use Rattle.std.specs.{Prelude.{ℕ, List, [], ◌∷◌, Result}, declared.sync.Arc.Arc}
use Rattle.hls_core_laws.specs.{declared.event.Event.Event, declared.refusal.Refusal.Refusal, State.State, declared.done.Done.Done}
use Rattle.hls_api.specs.{Acts.{Act, Added, Looked, LookFailed, ReadEncoders, Removed, Submitted}, Types.{Request, JobFault}}
use Rattle.hls_api.specs.declared.encoder_readings.EncoderReadings.{EncoderReadings}
use Rattle.hls_connection.specs.declared.act_log.ActNote.{ActNote}
use Rattle.hls_connection.specs.declared.act_log.ActNote.TheVariants as act_note

-- the act that a note of a look records; without a state it is a failed look
abbrev pub act_of_look : {A B : Type 0} → List (Arc State A × B) → Act
act_of_look [] = LookFailed
act_of_look ((s, n) ∷ others) = Looked s.value

-- the act that a note of a submitted event and its outcome records
abbrev pub act_of_event : {B : Type 0} → List (Event × B) → Result Done Refusal → Act
act_of_event [] answer = LookFailed
act_of_event ((event, n) ∷ others) answer = Submitted event answer

-- the act that a note of an added job and its result records
abbrev pub act_of_added : {A B : Type 0} → List (Arc State A × B) → Request → Result ℕ JobFault → Act
act_of_added [] request result = LookFailed
act_of_added ((s, n) ∷ others) request result = Added s.value request result

-- the act that a note of what was read of the encoders records
abbrev pub act_of_readings : {B : Type 0} → List (EncoderReadings × B) → Act
act_of_readings [] = LookFailed
act_of_readings ((readings, n) ∷ others) = ReadEncoders readings

-- the act that a note records
abbrev pub act_of : ActNote → Act
act_of (act_note.Looked note) = act_of_look note.items
act_of act_note.LookFailed = LookFailed
act_of (act_note.Submitted note answer) = act_of_event note.items answer
act_of (act_note.Added note request result) = act_of_added note.items request result
act_of (act_note.Removed id result) = Removed id result
act_of (act_note.ReadEncoders note) = act_of_readings note.items

-- the act that a note in a list of notes records
abbrev pub act_in : {B : Type 0} → ActNote × B → Act
act_in note = act_of note.0
