-- The part of a stream that was read, as a state or its first refusal, and how the reading continues.
use Rattle.std.proofs.Common.{◌≡◌, ◌∙◌, ℕ, List, [], ◌∷◌, ◌++◌, take, drop, Option, Some, None, Result, Ok, Err, refl, sym, ap, subst, append_assoc, inl, inr}
use Rattle.std.proofs.lemmas.List.{take-append-drop}
use Rattle.std.specs.Io.KnownBytes.{Consumes, IsAtEnd, Keeps}
use Rattle.hls_boxes.specs.declared.part.Part.{Part}
use Rattle.hls_boxes.specs.Parts.{StreamCut, Remainder, Refused as Broken, stream_cut, fault_at_end}
use Rattle.hls_boxes.proofs.Callers.{stay}
use Rattle.hls_core_laws.specs.State.{State}
use Rattle.hls_core.specs.declared.feed_fault.StreamFault.{StreamFault}
use Rattle.hls_core.specs.declared.feed_fault.FeedFault.{FeedFault}
use Rattle.hls_core.specs.declared.feed_fault.FeedFault.TheVariants.{Refused, Memory}
use Rattle.hls_core.specs.Streams.{EndsStream, FeedsBehind, IsTaken, Reached, Refuses, RefusesBox, RefusesPart, TakesAll}
use Rattle.hls_core.proofs.Callers.{left_refused, reached_none, grows}
use Rattle.hls_commands.specs.declared.cut.fault.CutFault.TheVariants as fault
use Rattle.hls_commands.specs.CutFaultName.{fault_of}
use Rattle.hls_commands.specs.RecordStream.{CountsReads, RecordsStream, IsRefused}
use Rattle.hls_commands.specs.RecordedState.{PartYields, state_of_stream, state_of, state_unless_left, with_part, with_parts}
use Rattle.hls_commands.specs.OrRefused.{◌>>=◌}

-- ---- parts, one after the other

-- parts that were all taken lead to the state that was reached
recorded_all : (x y : State) (ps : List Part) → TakesAll PartYields x ps y → with_parts x ps ≡ Ok y
unfolding with_parts
recorded_all x y [] is = ap Ok (sym is)
recorded_all x y (p ∷ ps) takes = ap (λ (r : Result State StreamFault). r >>= (λ n. with_parts n ps)) takes.1 ∙ recorded_all takes.0 y ps takes.2

-- a part that is refused after parts that were all taken is the first refusal, whatever parts follow
recorded_next : (x last : State) (ps others : List Part) (p : Part) (f : StreamFault) → TakesAll PartYields x ps last → with_part last p ≡ Err f → with_parts x (ps ++ p ∷ others) ≡ Err f
unfolding with_parts
recorded_next x last [] others p f is refused =
    ap (λ (r : Result State StreamFault). r >>= (λ n. with_parts n others)) (subst (λ (s : State). with_part s p ≡ Err f) is refused)
recorded_next x last (q ∷ ps) others p f takes refused =
    ap (λ (r : Result State StreamFault). r >>= (λ n. with_parts n (ps ++ p ∷ others))) takes.1 ∙ recorded_next takes.0 last ps others p f takes.2 refused

-- ---- a refusal, whatever follows

-- if the parts of a stream have a refusal, it is the stream's
state_refused : (o : State) (c : StreamCut) (f : StreamFault) → with_parts o c.parts ≡ Err f → state_of o c ≡ Err f
unfolding state_of
state_refused o c f is = ap (λ (r : Result State StreamFault). r >>= (λ n. state_unless_left n (fault_at_end c.left))) is

-- if the parts of a stream lead to a state, the stream's result is by what is left of it
state_left : (o s : State) (c : StreamCut) → with_parts o c.parts ≡ Ok s → state_of o c ≡ state_unless_left s (fault_at_end c.left)
unfolding state_of
state_left o s c is = ap (λ (r : Result State StreamFault). r >>= (λ n. state_unless_left n (fault_at_end c.left))) is

-- if a part of the bytes read is refused, the stream is refused for it, whatever follows
refused_part : (o s : State) (taken : List ℕ) (size : ℕ) (f : StreamFault) → RefusesPart PartYields o taken size f s → IsRefused o taken f
refused_part o s taken size f h more =
    let whole : taken ++ more ≡ take size taken ++ (drop size taken ++ more) =
    ap (λ xs. xs ++ more) (sym (take-append-drop size taken)) ∙ append_assoc (take size taken) (drop size taken) more in
    let later = grows (take size taken) (drop size taken ++ more) in
    let parts : (stream_cut (taken ++ more)).parts ≡ h.taken ++ h.part ∷ (h.shows.others ++ later.0) =
    ap (λ xs. (stream_cut xs).parts) whole ∙ later.1 ∙ ap (λ (ps : List Part). ps ++ later.0) h.shows.shows ∙ append_assoc h.taken (h.part ∷ h.shows.others) later.0 in
    state_refused o (stream_cut (taken ++ more)) f (ap (with_parts o) parts ∙ recorded_next o h.last h.taken (h.shows.others ++ later.0) h.part f h.takes h.refuses)

-- if a box of the bytes read is refused, the stream is refused for it, whatever follows
refused_box : (o s : State) (taken : List ℕ) (size : ℕ) (f : StreamFault) → RefusesBox PartYields o taken size f s → IsRefused o taken f
refused_box o s taken size f h more =
    let left : (stream_cut taken).left ≡ Broken h.box = left_refused (stream_cut taken).left h.box h.found in
    ap (state_of o) (stay taken more h.box left) ∙ state_left o s (stream_cut taken) (recorded_all o s (stream_cut taken).parts h.takes)
    ∙ ap (λ (l : Remainder). state_unless_left s (fault_at_end l)) left ∙ ap Err (sym h.fault_is)

-- if the bytes read show a refusal, the stream has it, whatever follows
refused_here : (o s : State) (taken : List ℕ) (size : ℕ) (f : StreamFault) → Refuses PartYields o taken size f s → IsRefused o taken f
refused_here o s taken size f (inl h) = refused_part o s taken size f h
refused_here o s taken size f (inr h) = refused_box o s taken size f h

-- ---- the whole reading

-- some bytes of the stream were read, and the recorder has recorded them up to here
pub record Reading (opening : State) (stream : List ℕ) (left : Option (List ℕ)) (held : List ℕ) (s : State) : Type 0 where
  pub taken : List ℕ
  pub rest : List ℕ
  pub left_is : left ≡ Some rest
  pub split : stream ≡ taken ++ rest
  pub reached : Reached PartYields opening taken held s

-- before anything is read, the recording is in its opening state
pub reading_none : (o : State) (stream : List ℕ) (left : Option (List ℕ)) (held : List ℕ) → left ≡ Some stream → held ≡ [] → Reading o stream left held o
reading_none o stream left held is held_is =
    record { taken = []; rest = stream; left_is = is; split = refl; reached = subst (λ (xs : List ℕ). Reached PartYields o [] xs o) (sym held_is) (reached_none PartYields o) }

-- a read returned a piece, which the recorder has not got yet
pub record Took (opening : State) (stream : List ℕ) (left : Option (List ℕ)) (held piece : List ℕ) (s : State) : Type 0 where
  pub taken : List ℕ
  pub rest : List ℕ
  pub left_is : left ≡ Some rest
  pub split : stream ≡ taken ++ piece ++ rest
  pub reached : Reached PartYields opening taken held s

-- a read that returned a piece of a known rest leaves a known rest, and the recording as it was
took_known : (o : State) (stream taken rest held piece : List ℕ) (old new : Option (List ℕ)) (s : State) → old ≡ Some rest → Consumes old new piece → stream ≡ taken ++ rest → Reached PartYields o taken held s → Took o stream new held piece s
took_known o stream taken rest held piece None new s is gave split h = cc
took_known o stream taken rest held piece (Some xs) None s is gave split h = absurd gave
took_known o stream taken rest held piece (Some xs) (Some ys) s is gave split h =
    let same : xs ≡ rest = cc in
    record { taken = taken; rest = ys; left_is = refl; split = split ∙ ap (λ zs. taken ++ zs) (sym same ∙ gave) ∙ sym (append_assoc taken piece ys); reached = h }

-- a read that returned a piece leaves the rest of the stream, and the recording as it was
pub took : (o : State) (stream held piece : List ℕ) (old new : Option (List ℕ)) (s : State) → Reading o stream old held s → Consumes old new piece → Took o stream new held piece s
took o stream held piece old new s h gave = took_known o stream h.taken h.rest held piece old new s h.left_is gave h.split h.reached

-- after the piece was given to the recorder, it and the bytes before it were recorded
pub reading_more : (o : State) (stream old piece held : List ℕ) (left : Option (List ℕ)) (s next : State) → Took o stream left old piece s
    → ((t : List ℕ) → Reached PartYields o t old s → Reached PartYields o (t ++ piece) held next) → Reading o stream left held next
reading_more o stream old piece held left s next h taken_in = record {
  taken = h.taken ++ piece;
  rest = h.rest;
  left_is = h.left_is;
  split = h.split;
  reached = taken_in h.taken h.reached;
}

-- a failed read leaves a known rest as it was
kept_known : (xs : List ℕ) (old new : Option (List ℕ)) → old ≡ Some xs → Keeps old new → new ≡ Some xs
kept_known xs None new is keeps = cc
kept_known xs (Some ys) None is keeps = absurd keeps
kept_known xs (Some ys) (Some zs) is keeps = cc

-- a read of no bytes at the end of a known rest means that nothing is left
at_end : (xs : List ℕ) (old new : Option (List ℕ)) → old ≡ Some xs → Consumes old new [] → IsAtEnd new → (new ≡ Some []) × (xs ≡ [])
at_end xs None new is gave end = cc
at_end xs (Some ys) None is gave end = absurd gave
at_end xs (Some ys) (Some zs) is gave end = let same : xs ≡ ys = cc in (ap Some end, same ∙ gave ∙ end)

-- a failed read ends the recording, and nothing in the bytes read was refused
pub gather_failed : (o : State) (stream held : List ℕ) (old new : Option (List ℕ)) (s : State) → Reading o stream old held s → Keeps old new → RecordsStream o stream new s (Err fault.ReadFailed)
gather_failed o stream held old new s h keeps =
    record { taken = h.taken; rest = h.rest; left_is = kept_known h.rest old new h.left_is keeps; split = h.split; yields = (s, h.reached.taken) }

-- a piece that is refused, or for which memory runs out, ends the recording with that fault
pub gather_refused : (o : State) (stream old piece held : List ℕ) (left : Option (List ℕ)) (s next : State) (feed_fault : FeedFault) → Took o stream left old piece s
    → ((t : List ℕ) → Reached PartYields o t old s → FeedsBehind PartYields o t piece held next (Err feed_fault)) → RecordsStream o stream left next (Err (fault_of feed_fault))
gather_refused o stream old piece held left s next Memory h fed = record { taken = h.taken ++ piece; rest = h.rest; left_is = h.left_is; split = h.split; yields = tt }
gather_refused o stream old piece held left s next (Refused f) h fed =
    let refused = fed h.taken h.reached in
    record { taken = h.taken ++ piece; rest = h.rest; left_is = h.left_is; split = h.split; yields = inr (refused_here o next (h.taken ++ piece) refused.size f refused.refuses) }

-- if all parts of a stream were taken, its result is by what is left of it
recorded_now : (o : State) (taken : List ℕ) (s : State) → IsTaken PartYields o taken s → state_of_stream o taken ≡ state_unless_left s (fault_at_end (stream_cut taken).left)
recorded_now o taken s h = state_left o s (stream_cut taken) (recorded_all o s (stream_cut taken).parts h.takes)

-- if the stream ends after its last part, it is recorded
pub gather_done : (o : State) (stream held : List ℕ) (old new : Option (List ℕ)) (s : State) (h : Reading o stream old held s) → Consumes old new [] → IsAtEnd new → EndsStream h.taken (Ok tt)
    → RecordsStream o stream new s (Ok tt)
gather_done o stream held old new s h gave end whole =
    let left = at_end h.rest old new h.left_is gave end in record {
      taken = h.taken;
      rest = [];
      left_is = left.0;
      split = h.split ∙ ap (λ xs. h.taken ++ xs) left.1;
      yields = (refl, recorded_now o h.taken s h.reached.taken ∙ ap (state_unless_left s) whole);
    }

-- if the stream ends inside a part, it is refused for that
pub gather_left : (o : State) (stream held : List ℕ) (old new : Option (List ℕ)) (s : State) (f : StreamFault) (h : Reading o stream old held s) → Consumes old new [] → IsAtEnd new → EndsStream h.taken (Err f)
    → RecordsStream o stream new s (Err (fault.Stream f))
gather_left o stream held old new s f h gave end inside =
    let left = at_end h.rest old new h.left_is gave end in record {
      taken = h.taken;
      rest = [];
      left_is = left.0;
      split = h.split ∙ ap (λ xs. h.taken ++ xs) left.1;
      yields = inl (refl, recorded_now o h.taken s h.reached.taken ∙ ap (state_unless_left s) inside.1 ∙ ap Err (sym inside.0));
    }

-- the fault of a piece is right for a run that counted no failed read
pub counts_untaken : (feed_fault : FeedFault) (old new : ℕ) → new ≡ old → CountsReads {A = Unit {0}} (Err (fault_of feed_fault)) old new
counts_untaken Memory old new quiet = quiet
counts_untaken (Refused f) old new quiet = quiet
