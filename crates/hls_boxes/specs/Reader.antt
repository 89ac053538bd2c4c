-- The results of a reader's calls. `old` and `new` are the bytes that were fed and not yet taken, before and after the call.
use Rattle.std.specs.Prelude.{◌≡◌, ℕ, Option, Some, None, Result, Ok, Err, List, [], ◌∷◌, ◌++◌}
use Rattle.hls_boxes.specs.declared.part.Part.{Part}
use Rattle.hls_boxes.specs.declared.fault.BoxFault.{BoxFault}
use Rattle.hls_boxes.specs.declared.fault.BoxFault.TheVariants.{Memory}
use Rattle.hls_boxes.specs.Parts.{bytes_of, stream_cut, after_parts, text_fault}

-- what a reader contains after a piece: only the old bytes, if they had a fault
abbrev pub bytes_after_feed : Option BoxFault → List ℕ → List ℕ → List ℕ
bytes_after_feed (Some fault) old piece = old
bytes_after_feed None old piece = old ++ piece

-- the state after an error: for an allocation failure the old bytes, which had no fault; otherwise the fault is that of the old bytes, or
-- the piece has it
abbrev pub IsFeedRefusal : BoxFault → List ℕ → List ℕ → List ℕ → Type 0
IsFeedRefusal Memory old piece new = (text_fault old ≡ None) × (new ≡ old)
IsFeedRefusal fault old piece new = (new ≡ bytes_after_feed (text_fault old) old piece) × (text_fault new ≡ Some fault)

-- the part is the first of the old bytes, and the new bytes are the rest, whatever follows
pub record TakesFirstPart (part : Part) (old new : List ℕ) : Type 0 where
  pub front : old ≡ bytes_of part ++ new
  pub now : stream_cut old ≡ after_parts (part ∷ []) (stream_cut new)
  pub follows : (more : List ℕ) → stream_cut (old ++ more) ≡ after_parts (part ∷ []) (stream_cut (new ++ more))

-- the first part is taken; without one, there is no part and the bytes don't change
abbrev pub TakesNextPart : Option Part → List ℕ → List ℕ → Type 0
TakesNextPart None old new = (new ≡ old) × ((stream_cut old).parts ≡ [])
TakesNextPart (Some part) old new = TakesFirstPart part old new

-- the bytes have a part
abbrev pub HasPart : List ℕ → Type 0
HasPart bytes = (part : Part) × (others : List Part) × ((stream_cut bytes).parts ≡ part ∷ others)

-- Ok if there is no fault, otherwise the fault
abbrev pub ReportsFault : Result (Unit {0}) BoxFault → Option BoxFault → Type 0
ReportsFault (Ok done) fault = fault ≡ None
ReportsFault (Err found) fault = fault ≡ Some found
