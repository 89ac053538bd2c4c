-- One more piece, after any content that was fed before.
use Rattle.std.proofs.Common.{◌≡◌, ◌∙◌, ℕ, ◌<◌, ◌≤◌, inl, inr, List, [], ◌∷◌, ◌++◌, length, take, drop, Option, Some, None, Result, Ok, Err, refl, sym, ap, subst, arith, append_assoc, append-nil, length-append, true, false}
use Rattle.std.proofs.lemmas.Bool.{cases_lt}
use Rattle.std.proofs.lemmas.List.{take-append-drop, take-append-le}
use Rattle.hls_boxes.specs.declared.part.Part.{Part}
use Rattle.hls_boxes.specs.declared.fault.BoxFault.{BoxFault}
use Rattle.hls_boxes.specs.declared.fault.BoxFault.TheVariants as boxes
use Rattle.hls_boxes.specs.Parts.{StreamCut, Remainder, Nothing, Boxes, CutShort, Refused as Broken, after_parts, stream_cut, fault_at_end, fault_of_rest, text_fault}
use Rattle.hls_boxes.proofs.Callers.{empty, stay}
use Rattle.hls_boxes.specs.Reader.{IsFeedRefusal, bytes_after_feed}
use Rattle.hls_core.specs.declared.feed_fault.StreamFault.TheVariants as faults
use Rattle.hls_core.specs.declared.feed_fault.FeedFault.{FeedFault}
use Rattle.hls_core.specs.declared.feed_fault.FeedFault.TheVariants.{Refused, Memory}
use Rattle.hls_core.specs.Shortest.{IsShortestFault, IsShortestPart}
use Rattle.hls_core.specs.DrainSteps.{Drains, TakenFrom}
use Rattle.hls_core.specs.Streams.{EndsStream, FeedsBehind, IsLeft, Reached, RefusesBehind, TakesAll}
use Rattle.hls_core.proofs.DrainLaws.{parts_of, takes_append}
use Rattle.hls_core.proofs.ShortestLaws.{grows, shortest_fault, shortest_part}

-- ---- texts

-- the parts of a content with a piece are the content's parts, and then those of what is left of it with the piece
parts_on : (content old piece : List ℕ) → IsLeft content old → (stream_cut (content ++ piece)).parts ≡ (stream_cut content).parts ++ (stream_cut (old ++ piece)).parts
parts_on content old piece left = ap (λ (c : StreamCut). c.parts) (left piece)

-- a content with a piece has the fault of what is left of the content with the piece
fault_on : (content old piece : List ℕ) → IsLeft content old → text_fault (content ++ piece) ≡ text_fault (old ++ piece)
fault_on content old piece left = ap (λ (c : StreamCut). fault_of_rest c.left) (left piece)

-- a content has the remainder of what is left of it
left_of : (content held : List ℕ) → IsLeft content held → (stream_cut content).left ≡ (stream_cut held).left
left_of content held left = ap (λ (c : StreamCut). c.left) (ap stream_cut (sym (append-nil content)) ∙ left [] ∙ ap (λ xs. after_parts (stream_cut content).parts (stream_cut xs)) (append-nil held))

-- a remainder that shows a fault is one that was refused for it
pub left_refused : (left : Remainder) (f : BoxFault) → fault_of_rest left ≡ Some f → left ≡ Broken f
left_refused Nothing f is = cc
left_refused (Boxes m) f is = cc
left_refused CutShort f is = cc
left_refused (Broken g) f is = cc

-- a prefix that isn't one of the content alone is longer than the content
behind_where : (content piece : List ℕ) (size : ℕ) → (take size (content ++ piece) ≡ take size content → ⊥) → length content < size
behind_where content piece size never =
    elim (cases_lt (length content) size) [ inl after_content ↦ after_content | inr within ↦ absurd (never (take-append-le size content piece within)) ]

-- a prefix of both texts that shows a part more than the content does is longer than the content
part_behind : (content piece : List ℕ) (taken : List Part) (part : Part) (size : ℕ) → length (stream_cut content).parts ≤ length taken → IsShortestPart (content ++ piece) taken part size
    → length content < size
part_behind content piece taken part size few shows = behind_where content piece size (λ here.
    let front : (stream_cut (take size content)).parts ≡ taken ++ part ∷ shows.others = ap (λ xs. (stream_cut xs).parts) (sym here) ∙ shows.shows in
    let later = grows (take size content) (drop size content) in
    let whole : (stream_cut content).parts ≡ (stream_cut (take size content)).parts ++ later.0 = ap (λ xs. (stream_cut xs).parts) (sym (take-append-drop size content)) ∙ later.1 in
    absurd (omega (arith, few, ap length whole, length-append (stream_cut (take size content)).parts later.0, ap length front, length-append taken (part ∷ shows.others))))

-- a prefix of both texts that shows a fault, if the content shows none, is longer than the content
fault_behind : (content piece : List ℕ) (f : BoxFault) (size : ℕ) → text_fault content ≡ None → (stream_cut (content ++ piece)).left ≡ Broken f → IsShortestFault (content ++ piece) size
    → length content < size
fault_behind content piece f size clean found shows = behind_where content piece size (λ here.
    let front : (stream_cut (take size content)).left ≡ Broken f = ap (λ xs. (stream_cut xs).left) (sym here) ∙ ap (λ (c : StreamCut). c.left) shows.shows ∙ found in
    let whole : stream_cut content ≡ stream_cut (take size content) = ap stream_cut (sym (take-append-drop size content)) ∙ stay (take size content) (drop size content) f front in
    let told : text_fault content ≡ Some f = ap (λ (c : StreamCut). fault_of_rest c.left) whole ∙ ap fault_of_rest front in
    none_some f (sym clean ∙ told))
  where
    none_some : (f : BoxFault) → None ≡ Some f → ⊥
    none_some f is = cc

-- ---- what a piece leaves in the reader

-- if a content shows no fault, what is left of it shows none
fault_before : (content held : List ℕ) → IsLeft content held → text_fault content ≡ None → text_fault held ≡ None
fault_before content held left clean = ap fault_of_rest (sym (left_of content held left)) ∙ clean

-- after a piece is refused, but not for memory, a reader whose bytes showed no fault has them and the piece, with the fault
refusal_is : (f : BoxFault) (old piece held : List ℕ) → text_fault old ≡ None → (f ≡ boxes.Memory → ⊥) → IsFeedRefusal f old piece held → (held ≡ old ++ piece) × (text_fault held ≡ Some f)
refusal_is boxes.Memory old piece held clean other is = absurd (other refl)
refusal_is f old piece held clean other is = (is.0 ∙ ap (λ (o : Option BoxFault). bytes_after_feed o old piece) clean, is.1)

module _ {S : Type 0} (Yields : S → Part → S → Result (Unit {0}) FeedFault → Type 0) where
  -- ---- the beginning

  -- before any piece, the empty content is taken, and nothing is left of it
  pub reached_none : (start : S) → Reached Yields start [] [] start
  reached_none start = record {
    taken = record {
      takes = subst (λ (ps : List Part). TakesAll Yields start ps start) (sym (ap (λ (c : StreamCut). c.parts) empty)) refl;
      no_fault = ap (λ (c : StreamCut). fault_of_rest c.left) empty;
    };
    left = λ more. ap (λ (ps : List Part). after_parts ps (stream_cut more)) (sym (ap (λ (c : StreamCut). c.parts) empty));
  }

  -- ---- a piece that is fed

  -- if all parts of what was left with a piece are taken from it, what is left then is left of the content with the piece
  left_on : (x y : S) (content old piece held : List ℕ) (h : TakenFrom Yields x (old ++ piece) held y) → IsLeft content old → (stream_cut held).parts ≡ [] → IsLeft (content ++ piece) held
  left_on x y content old piece held h left none more =
      let parts : (stream_cut (content ++ piece)).parts ≡ (stream_cut content).parts ++ h.parts =
      parts_on content old piece left ∙ ap (λ (ps : List Part). (stream_cut content).parts ++ ps) (parts_of Yields x y (old ++ piece) held h ∙ ap (λ (ps : List Part). h.parts ++ ps) none ∙ append-nil h.parts) in
      ap stream_cut (append_assoc content piece more) ∙ left (piece ++ more)
      ∙ ap (λ xs. after_parts (stream_cut content).parts (stream_cut xs)) (sym (append_assoc old piece more))
      ∙ ap (after_parts (stream_cut content).parts) (h.follows more)
      ∙ ap (λ (ps : List Part). record { parts = ps; left = (stream_cut (held ++ more)).left }) (sym (append_assoc (stream_cut content).parts h.parts (stream_cut (held ++ more)).parts))
      ∙ ap (λ (ps : List Part). after_parts ps (stream_cut (held ++ more))) (sym parts)

  -- if all parts of what was left with a piece are taken from it, all parts of the content with the piece are accepted
  takes_on : (start x y : S) (content old piece held : List ℕ) (h : TakenFrom Yields x (old ++ piece) held y) → Reached Yields start content old x → (stream_cut held).parts ≡ []
      → TakesAll Yields start (stream_cut (content ++ piece)).parts y
  takes_on start x y content old piece held h reached none =
      let parts : (stream_cut (content ++ piece)).parts ≡ (stream_cut content).parts ++ h.parts =
      parts_on content old piece reached.left ∙ ap (λ (ps : List Part). (stream_cut content).parts ++ ps) (parts_of Yields x y (old ++ piece) held h ∙ ap (λ (ps : List Part). h.parts ++ ps) none ∙ append-nil h.parts) in
      subst (λ (ps : List Part). TakesAll Yields start ps y) (sym parts) (takes_append Yields (stream_cut content).parts h.parts start x y reached.taken.takes h.takes)

  -- if a piece shows no fault and all parts are taken out, the content with the piece is taken
  pub reached_on : (start x y : S) (content old piece held : List ℕ) → Reached Yields start content old x → text_fault (old ++ piece) ≡ None
      → Drains Yields (old ++ piece) held x y (Ok tt) → Reached Yields start (content ++ piece) held y
  reached_on start x y content old piece held reached clean drained = record {
    taken = record {
      takes = takes_on start x y content old piece held drained.0 reached drained.1;
      no_fault = fault_on content old piece reached.left ∙ clean;
    };
    left = left_on x y content old piece held drained.0 reached.left drained.1;
  }

  -- ---- a refusal

  -- if draining ends at a part that is refused, it shows after the content; if memory ran out, so it did for content and piece
  stops_behind : (start x y : S) (content old piece held now : List ℕ) (untaken : FeedFault) → Reached Yields start content old x
      → Drains Yields (old ++ piece) held x y (Err untaken) → FeedsBehind Yields start content piece now y (Err untaken)
  stops_behind start x y content old piece held now (Refused fault) reached next =
      let taken = (stream_cut content).parts ++ next.taken in
      let parts : (stream_cut (content ++ piece)).parts ≡ taken ++ next.part ∷ next.others =
      parts_on content old piece reached.left ∙ ap (λ (ps : List Part). (stream_cut content).parts ++ ps) next.next ∙ sym (append_assoc (stream_cut content).parts next.taken (next.part ∷ next.others)) in
      let found = shortest_part (content ++ piece) taken next.others next.part parts in record {
        size = found.0;
        after_content = part_behind content piece taken next.part found.0 (omega (arith, length-append (stream_cut content).parts next.taken)) found.1;
        refuses = inl (record {
          taken = taken;
          last = next.last;
          takes = takes_append Yields (stream_cut content).parts next.taken start x next.last reached.taken.takes next.takes;
          part = next.part;
          shows = found.1;
          refuses = next.refuses;
        });
      }
  stops_behind start x y content old piece held now Memory reached runs_out = record {
    taken = (stream_cut content).parts ++ runs_out.taken;
    others = runs_out.others;
    front = parts_on content old piece reached.left ∙ ap (λ (ps : List Part). (stream_cut content).parts ++ ps) runs_out.front ∙ sym (append_assoc (stream_cut content).parts runs_out.taken runs_out.others);
    last = runs_out.last;
    takes = takes_append Yields (stream_cut content).parts runs_out.taken start x runs_out.last reached.taken.takes runs_out.takes;
    runs_out = runs_out.runs_out;
  }

  -- the result of a piece that shows no fault is that of draining what was left with the piece
  pub goes_behind : (start x y : S) (content old piece held : List ℕ) (result : Result (Unit {0}) FeedFault) → Reached Yields start content old x → text_fault (old ++ piece) ≡ None
      → Drains Yields (old ++ piece) held x y result → FeedsBehind Yields start content piece held y result
  goes_behind start x y content old piece held (Ok done) reached clean drained = reached_on start x y content old piece held reached clean drained
  goes_behind start x y content old piece held (Err untaken) reached clean drained = stops_behind start x y content old piece held held untaken reached drained

  -- if the reader finds a fault in a piece, and a part before it isn't accepted, that part is the result of the piece
  pub stops_before : (start x y : S) (content old piece held now : List ℕ) (f : BoxFault) (untaken : FeedFault) → (f ≡ boxes.Memory → ⊥) → IsFeedRefusal f old piece held → Reached Yields start content old x
      → Drains Yields held now x y (Err untaken) → FeedsBehind Yields start content piece now y (Err untaken)
  stops_before start x y content old piece held now f untaken other is reached drained =
      let fed = refusal_is f old piece held (fault_before content old reached.left reached.taken.no_fault) other is in
      stops_behind start x y content old piece now now untaken reached (subst (λ (text : List ℕ). Drains Yields text now x y (Err untaken)) fed.0 drained)

  -- if the reader finds a fault in a piece, and all parts before it are accepted, the fault is the result of the piece
  pub broken_behind : (start x y : S) (content old piece read held : List ℕ) (f : BoxFault) → (f ≡ boxes.Memory → ⊥) → IsFeedRefusal f old piece read → Reached Yields start content old x
      → Drains Yields read held x y (Ok tt) → RefusesBehind Yields start content piece (faults.Boxes f) y
  broken_behind start x y content old piece read held f other is reached all =
      let fed = refusal_is f old piece read (fault_before content old reached.left reached.taken.no_fault) other is in
      let drained : Drains Yields (old ++ piece) held x y (Ok tt) = subst (λ (text : List ℕ). Drains Yields text held x y (Ok tt)) fed.0 all in
      let told : text_fault (content ++ piece) ≡ Some f = fault_on content old piece reached.left ∙ ap text_fault (sym fed.0) ∙ fed.1 in
      let left : (stream_cut (content ++ piece)).left ≡ Broken f = left_refused (stream_cut (content ++ piece)).left f told in
      let shown = shortest_fault (content ++ piece) f left in record {
        size = shown.0;
        after_content = fault_behind content piece f shown.0 reached.taken.no_fault left shown.1;
        refuses = inr (record {
          takes = takes_on start x y content old piece held drained.0 reached drained.1;
          box = f;
          fault_is = refl;
          found = told;
          shows = shown.1;
        });
      }

-- ---- the end

-- a content that ends has the fault of what is left of it at its end
ends_by : (content held : List ℕ) → IsLeft content held → fault_at_end (stream_cut content).left ≡ fault_at_end (stream_cut held).left
ends_by content held left = ap fault_at_end (left_of content held left)

-- if a remainder shows no fault, its fault at the end is Truncated
truncated : (left : Remainder) (f : BoxFault) → fault_of_rest left ≡ None → fault_at_end left ≡ Some f → f ≡ boxes.Truncated
truncated Nothing f clean is = cc
truncated (Boxes true) f clean is = cc
truncated (Boxes false) f clean is = cc
truncated CutShort f clean is = cc
truncated (Broken g) f clean is = cc

-- if what is left of a content has no fault at its end, the content is complete
pub ends_whole : (content held : List ℕ) → IsLeft content held → fault_at_end (stream_cut held).left ≡ None → EndsStream content (Ok tt)
ends_whole content held left is = ends_by content held left ∙ is

-- if what is left of a content without a fault has one at its end, the content ends inside a part
pub ends_inside : (content held : List ℕ) (f : BoxFault) → text_fault content ≡ None → IsLeft content held → fault_at_end (stream_cut held).left ≡ Some f → EndsStream content (Err (faults.Boxes f))
ends_inside content held f clean left is =
    let at : fault_at_end (stream_cut content).left ≡ Some f = ends_by content held left ∙ is in
    let same : f ≡ boxes.Truncated = truncated (stream_cut content).left f clean at in
    (ap faults.Boxes same, at ∙ ap Some same)
