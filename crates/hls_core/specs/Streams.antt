-- How a stream is ingested, by its whole content: its parts in order, each accepted; or the shortest prefix of the content that shows
-- a refusal, and the result of the parts before it.
use Rattle.std.specs.Prelude.{◌≡◌, ◌⊎◌, ℕ, ◌<◌, List, [], ◌∷◌, ◌++◌, length, Some, None, Result, Ok, Err}
use Rattle.hls_boxes.specs.declared.part.Part.{Part}
use Rattle.hls_boxes.specs.declared.fault.BoxFault.{BoxFault}
use Rattle.hls_boxes.specs.declared.fault.BoxFault.TheVariants.{Truncated}
use Rattle.hls_boxes.specs.Parts.{after_parts, stream_cut, fault_at_end, text_fault}
use Rattle.hls_core.specs.declared.feed_fault.StreamFault.{StreamFault}
use Rattle.hls_core.specs.declared.feed_fault.StreamFault.TheVariants.{Boxes}
use Rattle.hls_core.specs.declared.feed_fault.FeedFault.{FeedFault}
use Rattle.hls_core.specs.declared.feed_fault.FeedFault.TheVariants.{Refused, Memory}
use Rattle.hls_core.specs.Shortest.{IsShortestPart, IsShortestFault}

-- ---- for any sink: `Yields` relates the progress before a part, the part, the progress after it, and the result

module _ {S : Type 0} (Yields : S → Part → S → Result (Unit {0}) FeedFault → Type 0) where
  -- parts accepted one after the other
  abbrev pub TakesAll : S → List Part → S → Type 0
  TakesAll x [] y = y ≡ x
  TakesAll x (part ∷ others) y = (z : S) × Yields x part z (Ok tt) × TakesAll z others y

  -- the content's parts are accepted, and it shows no fault
  pub record IsTaken (start : S) (content : List ℕ) (y : S) : Type 0 where
    pub takes : TakesAll start (stream_cut content).parts y
    pub no_fault : text_fault content ≡ None

  -- the first `size` bytes of the content, and no fewer, show the part that is refused; those before it are accepted
  pub record RefusesPart (start : S) (content : List ℕ) (size : ℕ) (fault : StreamFault) (y : S) : Type 0 where
    pub taken : List Part
    pub last : S
    pub takes : TakesAll start taken last
    pub part : Part
    pub shows : IsShortestPart content taken part size
    pub refuses : Yields last part y (Err (Refused fault))

  -- the first `size` bytes of the content, and no fewer, show the fault of a box; the parts before it are accepted
  pub record RefusesBox (start : S) (content : List ℕ) (size : ℕ) (fault : StreamFault) (y : S) : Type 0 where
    pub takes : TakesAll start (stream_cut content).parts y
    pub box : BoxFault
    pub fault_is : fault ≡ Boxes box
    pub found : text_fault content ≡ Some box
    pub shows : IsShortestFault content size

  -- the first `size` bytes of the content, and no fewer, show a part that is refused, or the fault of a box
  abbrev pub Refuses : S → List ℕ → ℕ → StreamFault → S → Type 0
  Refuses start content size fault y = RefusesPart start content size fault y ⊎ RefusesBox start content size fault y

  -- memory ran out for the next part, or before it was complete
  abbrev pub WantsFor : S → List Part → S → Type 0
  WantsFor x [] y = y ≡ x
  WantsFor x (part ∷ others) y = (y ≡ x) ⊎ Yields x part y (Err Memory)

  -- memory ran out after some parts of the content, which are accepted
  pub record Wants (start : S) (content : List ℕ) (y : S) : Type 0 where
    pub taken : List Part
    pub others : List Part
    pub front : (stream_cut content).parts ≡ taken ++ others
    pub last : S
    pub takes : TakesAll start taken last
    pub runs_out : WantsFor last others y

-- ---- the end

-- a content that ends here is complete, or ends inside a part
abbrev pub EndsStream : List ℕ → Result (Unit {0}) StreamFault → Type 0
EndsStream content (Ok done) = fault_at_end (stream_cut content).left ≡ None
EndsStream content (Err fault) = (fault ≡ Boxes Truncated) × (fault_at_end (stream_cut content).left ≡ Some Truncated)

-- ---- piece by piece

-- `held` is what is left of the content after its parts, whatever follows
abbrev pub IsLeft : List ℕ → List ℕ → Type 0
IsLeft content held = (more : List ℕ) → stream_cut (content ++ more) ≡ after_parts (stream_cut content).parts (stream_cut (held ++ more))

module _ {S : Type 0} (Yields : S → Part → S → Result (Unit {0}) FeedFault → Type 0) where
  -- the parts of the content are accepted, it shows no fault, and `held` is what is left of it
  pub record Reached (start : S) (content held : List ℕ) (y : S) : Type 0 where
    pub taken : IsTaken Yields start content y
    pub left : IsLeft content held

  -- a refusal that shows in a piece after the content
  pub record RefusesBehind (start : S) (content piece : List ℕ) (fault : StreamFault) (y : S) : Type 0 where
    pub size : ℕ
    pub after_content : length content < size
    pub refuses : Refuses Yields start (content ++ piece) size fault y

  -- the result of one more piece after the content: both are taken, a refusal shows in the piece, or memory ran out
  abbrev pub FeedsBehind : S → List ℕ → List ℕ → List ℕ → S → Result (Unit {0}) FeedFault → Type 0
  FeedsBehind start content piece held y (Ok done) = Reached start (content ++ piece) held y
  FeedsBehind start content piece held y (Err (Refused fault)) = RefusesBehind start content piece fault y
  FeedsBehind start content piece held y (Err Memory) = Wants Yields start (content ++ piece) y

  -- the result of one more piece, whatever content led here
  abbrev pub Feeds : List ℕ → List ℕ → List ℕ → S → S → Result (Unit {0}) FeedFault → Type 0
  Feeds old piece held x y result =
      (start : S) (content : List ℕ) → Reached start content old x → FeedsBehind start content piece held y result
