-- The shortest prefix of a content that shows a part, or a box's fault.
use Rattle.std.specs.Prelude.{◌≡◌, ℕ, ◌<◌, ◌≤◌, List, ◌∷◌, ◌++◌, length, take, None}
use Rattle.hls_boxes.specs.declared.part.Part.{Part}
use Rattle.hls_boxes.specs.declared.fault.BoxFault.{BoxFault}
use Rattle.hls_boxes.specs.Parts.{Refused, stream_cut, text_fault}

-- the first `size` bytes of the content, and no fewer, show this part after those
pub record IsShortestPart (content : List ℕ) (taken : List Part) (part : Part) (size : ℕ) : Type 0 where
  pub within : size ≤ length content
  pub others : List Part
  pub shows : (stream_cut (take size content)).parts ≡ taken ++ part ∷ others
  pub none : (j : ℕ) → j < size → length (stream_cut (take j content)).parts ≤ length taken

-- if a content shows a part after others, there is a shortest prefix of the content that shows it
abbrev pub ShortestPartExists : Type 0
ShortestPartExists =
    (content : List ℕ) (taken others : List Part) (part : Part) → (stream_cut content).parts ≡ taken ++ part ∷ others
    → (size : ℕ) × IsShortestPart content taken part size

-- the first `size` bytes of the content, and no fewer, show all its parts and the fault after them
pub record IsShortestFault (content : List ℕ) (size : ℕ) : Type 0 where
  pub within : size ≤ length content
  pub shows : stream_cut (take size content) ≡ stream_cut content
  pub none : (j : ℕ) → j < size → text_fault (take j content) ≡ None

-- if a content shows the fault of a box, there is a shortest prefix of the content that shows it
abbrev pub ShortestFaultExists : Type 0
ShortestFaultExists =
    (content : List ℕ) (fault : BoxFault) → (stream_cut content).left ≡ Refused fault → (size : ℕ) × IsShortestFault content size
