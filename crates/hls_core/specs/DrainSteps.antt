-- For the proofs of this crate; no public clause cites it.
-- How far the parts of what was fed have been taken out.
use Rattle.std.specs.Prelude.{◌≡◌, ℕ, List, [], ◌∷◌, ◌++◌, Result, Ok, Err}
use Rattle.hls_boxes.specs.declared.part.Part.{Part}
use Rattle.hls_boxes.specs.Parts.{after_parts, stream_cut, text_fault}
use Rattle.hls_core.specs.declared.feed_fault.StreamFault.{StreamFault}
use Rattle.hls_core.specs.declared.feed_fault.FeedFault.{FeedFault}
use Rattle.hls_core.specs.declared.feed_fault.FeedFault.TheVariants.{Refused, Memory}
use Rattle.hls_core.specs.Streams.{TakesAll, Wants}

module _ {S : Type 0} (Yields : S → Part → S → Result (Unit {0}) FeedFault → Type 0) where
  -- these parts of the text are taken, and `held` is still to be cut, whatever follows
  pub record TakenFrom (x : S) (text held : List ℕ) (y : S) : Type 0 where
    pub parts : List Part
    pub takes : TakesAll Yields x parts y
    pub follows : (more : List ℕ) → stream_cut (text ++ more) ≡ after_parts parts (stream_cut (held ++ more))

  -- some parts are taken, and the next one is refused
  pub record RefusesNext (x : S) (text : List ℕ) (fault : StreamFault) (y : S) : Type 0 where
    pub taken : List Part
    pub last : S
    pub takes : TakesAll Yields x taken last
    pub part : Part
    pub others : List Part
    pub next : (stream_cut text).parts ≡ taken ++ part ∷ others
    pub refuses : Yields last part y (Err (Refused fault))

  -- all complete parts of the text are taken out and accepted, or one of them is refused, or memory ran out
  abbrev pub Drains : List ℕ → List ℕ → S → S → Result (Unit {0}) FeedFault → Type 0
  Drains text held x y (Ok done) = TakenFrom x text held y × ((stream_cut held).parts ≡ []) × (text_fault held ≡ text_fault text)
  Drains text held x y (Err (Refused fault)) = RefusesNext x text fault y
  Drains text held x y (Err Memory) = Wants Yields x text y
