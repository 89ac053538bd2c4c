-- Parts taken out in sequence.
use Rattle.std.proofs.Common.{◌≡◌, ◌∙◌, ℕ, inl, inr, List, [], ◌∷◌, ◌++◌, Result, Ok, Err, refl, sym, ap, subst, append_assoc, append-nil}
use Rattle.hls_boxes.specs.declared.part.Part.{Part}
use Rattle.hls_boxes.specs.Parts.{StreamCut, after_parts, stream_cut}
use Rattle.hls_boxes.specs.Reader.{TakesFirstPart}
use Rattle.hls_core.specs.declared.feed_fault.FeedFault.{FeedFault}
use Rattle.hls_core.specs.declared.feed_fault.FeedFault.TheVariants.{Refused, Memory}
use Rattle.hls_core.specs.Streams.{TakesAll, Wants, WantsFor}
use Rattle.hls_core.specs.DrainSteps.{Drains, TakenFrom}

module _ {S : Type 0} (Yields : S → Part → S → Result (Unit {0}) FeedFault → Type 0) where
  -- if parts are accepted and then others, all of them are accepted one after the other
  pub takes_append : (ps qs : List Part) (x y z : S) → TakesAll Yields x ps y → TakesAll Yields y qs z → TakesAll Yields x (ps ++ qs) z
  takes_append [] qs x y z first more = subst (λ (w : S). TakesAll Yields w qs z) first more
  takes_append (p ∷ ps) qs x y z first more = (first.0, first.1, takes_append ps qs first.0 y z first.2 more)

  -- if some parts are cut from a text and one more is taken from the rest, all of them are cut from the text, whatever follows
  cut_more : (text old held more : List ℕ) (parts : List Part) (part : Part) → stream_cut (text ++ more) ≡ after_parts parts (stream_cut (old ++ more)) → TakesFirstPart part old held
      → stream_cut (text ++ more) ≡ after_parts (parts ++ part ∷ []) (stream_cut (held ++ more))
  cut_more text old held more parts part is first =
      is ∙ ap (after_parts parts) (first.follows more)
      ∙ ap (λ (ps : List Part). record { parts = ps; left = (stream_cut (held ++ more)).left }) (sym (append_assoc parts (part ∷ []) (stream_cut (held ++ more)).parts))

  -- the parts of the text: those that are taken, and those that are left
  pub parts_of : (x y : S) (text held : List ℕ) (h : TakenFrom Yields x text held y) → (stream_cut text).parts ≡ h.parts ++ (stream_cut held).parts
  parts_of x y text held h =
      ap (λ (c : StreamCut). c.parts) (ap stream_cut (sym (append-nil text)) ∙ h.follows [] ∙ ap (λ xs. after_parts h.parts (stream_cut xs)) (append-nil held))

  -- if some parts are taken from a text, and the next one is taken out and accepted, all of them are taken from the text
  pub taken_part : (x y z : S) (text old held : List ℕ) (part : Part) → TakenFrom Yields x text old y → TakesFirstPart part old held → Yields y part z (Ok tt) → TakenFrom Yields x text held z
  taken_part x y z text old held part h first yields = record {
    parts = h.parts ++ part ∷ [];
    takes = takes_append h.parts (part ∷ []) x y z h.takes (z, yields, refl);
    follows = λ more. cut_more text old held more h.parts part (h.follows more) first;
  }

  -- the next part to be taken out is the next part of the text
  next_of : (x y : S) (text old held : List ℕ) (part : Part) (h : TakenFrom Yields x text old y) → TakesFirstPart part old held → (stream_cut text).parts ≡ h.parts ++ part ∷ (stream_cut held).parts
  next_of x y text old held part h first = parts_of x y text old h ∙ ap (λ (c : StreamCut). h.parts ++ c.parts) first.now

  -- if the next part isn't accepted, that is the result of draining the text: it is refused, or memory ran out for it
  pub part_stops : (x y z : S) (text old held : List ℕ) (part : Part) (untaken : FeedFault) → TakenFrom Yields x text old y → TakesFirstPart part old held
      → Yields y part z (Err untaken) → Drains Yields text held x z (Err untaken)
  part_stops x y z text old held part (Refused fault) h first yields = record {
    taken = h.parts;
    last = y;
    takes = h.takes;
    part = part;
    others = (stream_cut held).parts;
    next = next_of x y text old held part h first;
    refuses = yields;
  }
  part_stops x y z text old held part Memory h first yields = record {
    taken = h.parts;
    others = part ∷ (stream_cut held).parts;
    front = next_of x y text old held part h first;
    last = y;
    takes = h.takes;
    runs_out = inr yields;
  }

  -- if nothing changed, memory may have run out before the next part was complete
  pub wants_none : (x : S) (others : List Part) → WantsFor Yields x others x
  wants_none x [] = refl
  wants_none x (part ∷ others) = inl refl

  -- if no memory is left to take the next part out, memory ran out after the parts so far
  pub wanted_in : (x y : S) (text held : List ℕ) → TakenFrom Yields x text held y → Wants Yields x text y
  wanted_in x y text held h = record {
    taken = h.parts;
    others = (stream_cut held).parts;
    front = parts_of x y text held h;
    last = y;
    takes = h.takes;
    runs_out = wants_none y (stream_cut held).parts;
  }
