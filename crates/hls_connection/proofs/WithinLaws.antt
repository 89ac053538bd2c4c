-- A body that is read, step by step.
use Rattle.hls_api.specs.declared.route.IngestTarget.{IngestTarget}
use Rattle.hls_api.specs.declared.route.ServedChannel.{ServedChannel}
use Rattle.std.proofs.Common.{◌≡◌, ◌∙◌, ◌⊎◌, ℕ, zero, suc, ◌+◌, ◌-◌, ◌<◌, ◌≤◌, false, not, nat_eq, inl, inr, List, [], ◌++◌, length, take, drop, Some, Result, Ok, Err, refl, sym, ap, subst, arith, append-nil, length-append}
use Rattle.std.proofs.lemmas.{Bool.{eq-eqb, ne_eqb}, List.{length-drop, length-take-le}}
use Rattle.hls_core.specs.{declared.feed_fault.StreamFault.StreamFault, Streams.{EndsStream, Reached}}
use Rattle.hls_http.specs.{declared.framing.BodyFraming.BodyFraming, declared.request_action.RequestAction.RequestAction, Actions.is_over}
use Rattle.hls_http.proofs.Callers.{Leaves, broken_bodies_stay, run_one, runs_join, runs_leave, runs_stay, step_stays}
use Rattle.hls_http.specs.{declared.framing.BodyFraming.TheVariants.{Length, Size, Data, Trailers}, ReadBodies.{IsLastAlone, IsToken}}
use Rattle.hls_http.specs.{declared.request_action.RequestAction.TheVariants.Ingest, Actions.announced_len}
use Rattle.hls_http.specs.Bodies.{EndsData, IsBroken, ReadsLine, Steps, TakesData, framing_after_size}
use Rattle.hls_api.specs.{declared.ingest.IngestStop.IngestStop, Exchanges.IsPastLimit, Ingest.{IngestsPart, no_progress, ends_at}}
use Rattle.hls_connection.specs.{declared.request_context.RequestContext.RequestContext, declared.receive.BodyTarget.BodyTarget, declared.receive.ReceivingBody.ReceivingBody}
use Rattle.hls_connection.specs.{declared.ingest_sink.IngestState.IngestState, IngestStates.progress_of}
use Rattle.hls_connection.specs.WithinBody.{DiscardsSo, EndsTarget, HasBody, HasReceived, HasRoom, IsIngested, IsReceived, IsReceiving, TakesPiece, action_into, ended_as, target_after_frame}
use Rattle.hls_core.specs.declared.feed_fault.FeedFault.TheVariants as feed_faults
use Rattle.hls_http.specs.declared.end.BodyEnd.TheVariants as bodies
use Rattle.hls_http.specs.declared.end.DiscardEnd.TheVariants as discards
use Rattle.hls_http.specs.declared.body_tokens.BodyToken.TheVariants as moves
use Rattle.hls_api.specs.declared.ingest.IngestStop.TheVariants as ingest_stops
use Rattle.hls_connection.specs.declared.receive.BodyTarget.TheVariants as targets

-- ---- one step more

-- fewer bytes are unread after `len` of them were taken
pub fewer : (len : ℕ) (unread : List ℕ) → 0 < len → len ≤ length unread → length (drop len unread) < length unread
fewer len unread some within = omega (arith, some, within, length-drop len unread)

-- a request with some of its body is one after a further step of the body
abbrev pub body_goes : {channel : ServedChannel} {stream first : List ℕ} {context : RequestContext} {action : BodyFraming → RequestAction} {b : BodyFraming} {unread : List ℕ} → HasBody channel stream first context action b unread
    → (next : BodyFraming) (piece rest : List ℕ) → Steps b unread piece next rest → HasBody channel stream first context action next rest
body_goes {b} {unread} at next piece rest s = record {
  head = at.head;
  following = at.following;
  reads = at.reads;
  is_context = at.is_context;
  body = at.body;
  plan_is = at.plan_is;
  content = at.content ++ piece;
  runs = λ later. runs_join at.body b next (at.following ++ later) at.content (unread ++ later) piece (rest ++ later) (at.runs later)
      (runs_stay b unread piece next rest later (run_one b next unread piece rest s));
  first_is = at.first_is;
}

-- ---- a body that is dropped: how much of it may still be announced

-- the framing after the size line of a chunk announces its size
announced_size : (size : ℕ) → announced_len (framing_after_size size) ≡ size
announced_size zero = refl
announced_size (suc n) = refl

-- the step took no content from a body with nothing announced, and only a size line announces bytes after it
record Frames (b next : BodyFraming) (held piece rest : List ℕ) : Type 0 where
  bare : length piece ≡ 0
  done : announced_len b ≡ 0
  line : 0 < announced_len next → (b ≡ Size) × ReadsLine held (announced_len next) rest

-- the step took content that was announced, or it took none and only framing
abbrev Rooms : BodyFraming → BodyFraming → List ℕ → List ℕ → List ℕ → Type 0
Rooms b next held piece rest = ((0 < length piece) × (announced_len next + length piece ≡ announced_len b)) ⊎ Frames b next held piece rest

-- a step within or at the end of a chunk's data takes announced content or only framing
data_room : (n : ℕ) (next : BodyFraming) (held piece rest : List ℕ) → TakesData n held piece next rest ⊎ EndsData n held piece next rest → Rooms (Data n) next held piece rest
data_room n next held piece rest (inl s) = inl (s.1.some, omega (arith, s.1.count, ap announced_len s.2))
data_room n next held piece rest (inr s) = inr (record { bare = ap length s.2; done = s.0; line = λ many. absurd (omega (arith, many, ap announced_len s.3)) })

-- each step of a body takes announced content or only framing
room : (b next : BodyFraming) (held piece rest : List ℕ) → Steps b held piece next rest → Rooms b next held piece rest
room (Length n) next held piece rest s = inl (s.1.some, omega (arith, s.1.count, ap announced_len s.2))
room Size next held piece rest s =
    let size : s.0 ≡ announced_len next = sym (ap announced_len s.3 ∙ announced_size s.0) in
    inr (record { bare = ap length s.2; done = refl; line = λ many. (refl, subst (λ (n : ℕ). ReadsLine held n rest) size s.1) })
room (Data n) next held piece rest s = data_room n next held piece rest s
room Trailers next held piece rest s = inr (record { bare = ap length s.1; done = refl; line = λ many. absurd (omega (arith, many, ap announced_len s.2)) })

-- a step of a body without content takes only framing
frames : (b next : BodyFraming) (held rest : List ℕ) → Steps b held [] next rest → Frames b next held [] rest
frames b next held rest s = elim (room b next held [] rest s) [ inl piece ↦ absurd (omega (arith, piece.0)) | inr it ↦ it ]

-- what is counted of it fits, step by step
module _ (room_left : ℕ) (content : List ℕ) (last : BodyFraming) (unread : List ℕ) (all : (room_left + length content) + announced_len last ≡ 65536) where
  -- after a piece of the content the room, the content and what is announced still add up to 65536 bytes
  piece_counted : (next : BodyFraming) (len : ℕ) → IsToken last unread (moves.Piece len next) → (room_left + length (content ++ take len unread)) + announced_len next ≡ 65536
  piece_counted next len found = by (room last next unread (take len unread) (drop len unread) found.2)
    where
      by : Rooms last next unread (take len unread) (drop len unread) → (room_left + length (content ++ take len unread)) + announced_len next ≡ 65536
      by (inl fits) = omega (arith, all, fits.1, length-append content (take len unread))
      by (inr none) = absurd (omega (arith, none.bare, found.0, length-take-le len unread found.1))

  -- after framing for which there is room they still add up to 65536 bytes
  frame_counted : (next : BodyFraming) (rest : List ℕ) → Steps last unread [] next rest → announced_len next ≤ room_left → ((room_left - announced_len next) + length (content ++ [])) + announced_len next ≡ 65536
  frame_counted next rest s fits = omega (arith, all, fits, (frames last next unread rest s).done, length-append content [])

  -- framing for which there is no room is a chunk's size line past the limit
  past_limit : (next : BodyFraming) (rest : List ℕ) → Steps last unread [] next rest → room_left < announced_len next → (later : List ℕ) → (last ≡ Size) × IsPastLimit content (unread ++ later)
  past_limit next rest s many later =
      let f = frames last next (unread ++ later) (rest ++ later) (step_stays last next unread [] rest later s) in
      let line = f.line (omega (arith, many)) in
      (line.0, record { size = announced_len next; rest = rest ++ later; line = line.1; many = omega (arith, all, many, f.done) })

-- ---- where a refusal is in an encoder's body

-- a body in chunks isn't over after a piece of its data
chunks_go_on : (middle last : BodyFraming) → ((n : ℕ) → middle ≡ Length (suc n) → ⊥) → IsLastAlone middle last → is_over last ≡ false
chunks_go_on middle (Length zero) never alone = absurd (never 0 (alone refl))
chunks_go_on middle (Length (suc n)) never alone = ne_eqb (suc n) 0 (λ is. omega (arith, is))
chunks_go_on middle last never alone = refl

-- if a refusal shows in the last piece of a body by length, the body is over exactly if the refusal is at its last byte
length_ends : (n before after size left : ℕ) (middle last : BodyFraming) → Leaves (Length n) before middle → last ≡ Length left → after + left ≡ n → IsLastAlone middle last
    → before < size → size ≤ after → is_over last ≡ nat_eq size n
length_ends n before after size zero middle last l is count alone following within =
    let one : l.0 ≡ 1 = cc (l.1, alone is) in ap is_over is ∙ sym (eq-eqb size n (omega (arith, one, l.2, count, following, within)))
length_ends n before after size (suc k) middle last l is count alone following within =
    ap is_over is ∙ ne_eqb (suc k) 0 (λ none. omega (arith, none)) ∙ sym (ne_eqb size n (λ same. omega (arith, same, count, within)))

-- if a refusal shows in the last piece of a body, the body is over exactly if it ends after that many bytes
ends_so : (b middle last : BodyFraming) (before after size : ℕ) → Leaves b before middle → Leaves b after last → IsLastAlone middle last → before < size → size ≤ after → is_over last ≡ ends_at b size
ends_so (Length n) middle last before after size l later alone following within = length_ends n before after size later.0 middle last l later.1 later.2 alone following within
ends_so Size middle last before after size l later alone following within = chunks_go_on middle last l alone
ends_so (Data n) middle last before after size l later alone following within = chunks_go_on middle last l alone
ends_so Trailers middle last before after size l later alone following within = chunks_go_on middle last l alone

-- ---- a step of a body that is received

module _ {channel : ServedChannel} {stream first : List ℕ} {r : ReceivingBody} {unread : List ℕ} (x : IsReceiving channel stream first r unread) where
  -- a body is received further after a piece that was taken
  pub receive_piece : (target : BodyTarget) (taken : IngestState) (next : BodyFraming) (len : ℕ) → IsToken r.body unread (moves.Piece len next) → TakesPiece r.target r.taken (take len unread) target taken (Ok tt)
      → IsReceiving channel stream first (record r { body = next; target = target; taken = taken }) (drop len unread)
  receive_piece target taken next len found takes = by r.target x.at x.received takes
    where
      by : (old : BodyTarget) (at : HasBody channel stream first r.context (action_into old) r.body unread) → HasReceived old r.route r.taken at.content r.body → TakesPiece old r.taken (take len unread) target taken (Ok tt)
          → IsReceiving channel stream first (record r { body = next; target = target; taken = taken }) (drop len unread)
      by (targets.Nothing room) at (nothing, all) (same, kept, done) = rw (same, kept) (record {
        at = body_goes at next (take len unread) (drop len unread) found.2;
        route = x.route;
        received = (nothing, piece_counted room at.content r.body unread all next len found);
      })
      by (targets.Encoder encoder reader) at (is, reached) (later, same, (Ok done, told, feeds)) = rw same (record {
        at = body_goes at next (take len unread) (drop len unread) found.2;
        route = x.route;
        received = (is, feeds no_progress at.content reached);
      })
      by (targets.Encoder encoder reader) at (is, reached) (later, same, (Err fault, told, feeds)) = absurd (cc told)

  -- a body whose piece was refused, or failed for lack of memory, has been received with that result
  pub receive_untaken : (target : BodyTarget) (taken : IngestState) (next : BodyFraming) (len : ℕ) (stop : IngestStop) → IsToken r.body unread (moves.Piece len next) → length unread ≤ 65536
      → TakesPiece r.target r.taken (take len unread) target taken (Err stop) → IsReceived channel stream first (record r { body = next; target = target; taken = taken }) target (drop len unread) (Err stop)
  receive_untaken target taken next len stop found few takes = by r.target x.at x.received takes
    where
      by : (old : BodyTarget) (at : HasBody channel stream first r.context (action_into old) r.body unread) → HasReceived old r.route r.taken at.content r.body → TakesPiece old r.taken (take len unread) target taken (Err stop)
          → IsReceived channel stream first (record r { body = next; target = target; taken = taken }) target (drop len unread) (Err stop)
      by (targets.Nothing room) at received (same, kept, done) = absurd (cc done)
      by (targets.Encoder encoder reader) at (is, reached) (later, same, (Ok done, told, feeds)) = absurd (cc told)
      by (targets.Encoder encoder reader) at (is, reached) (later, same, (Err (feed_faults.Refused fault), told, feeds)) =
          let end = body_goes at next (take len unread) (drop len unread) found.2 in
          let refused = feeds no_progress at.content reached in
          let shown : refused.size ≤ length end.content = elim refused.refuses [ inl part ↦ part.shows.within | inr box ↦ box.shows.within ] in
          let ends = ends_so at.body r.body next (length at.content) (length end.content) refused.size (runs_leave at.body r.body (at.following ++ []) at.content (unread ++ []) (at.runs []))
          (runs_leave at.body next (at.following ++ []) end.content (drop len unread ++ []) (end.runs [])) found.3 refused.after_content shown in
          rw (same, told) (record {
            at = end;
            route_is = x.route ∙ ap Some is;
            handles = λ later. inr (
              refused.size,
              record { refuses = refused.refuses; few = omega (arith, refused.after_content, few, length-take-le len unread found.1, found.1, length-append at.content (take len unread)) },
              ap not ends,
            );
            replied = λ end is. cc;
          })
      by (targets.Encoder encoder reader) at (is, reached) (later, same, (Err feed_faults.Memory, told, feeds)) = rw (same, told) (record {
        at = body_goes at next (take len unread) (drop len unread) found.2;
        route_is = x.route ∙ ap Some is;
        handles = λ later. feeds no_progress at.content reached;
        replied = λ end is. cc;
      })

  -- a body is received further after framing for which there is room
  pub receive_frame : (next : BodyFraming) (rest : List ℕ) → Steps r.body unread [] next rest → HasRoom r.target (announced_len next)
      → IsReceiving channel stream first (record r { body = next; target = target_after_frame r.target (announced_len next) }) rest
  receive_frame next rest s fits = by r.target x.at x.received fits
    where
      by : (old : BodyTarget) (at : HasBody channel stream first r.context (action_into old) r.body unread) → HasReceived old r.route r.taken at.content r.body → HasRoom old (announced_len next)
          → IsReceiving channel stream first (record r { body = next; target = target_after_frame old (announced_len next) }) rest
      by (targets.Nothing room) at (nothing, all) fits = record { at = body_goes at next [] rest s; route = x.route; received = (nothing, frame_counted room at.content r.body unread all next rest s fits) }
      by (targets.Encoder encoder reader) at (is, reached) fits = record {
        at = body_goes at next [] rest s;
        route = x.route;
        received = (is, subst (λ (c : List ℕ). Reached (IngestsPart encoder) no_progress c reader (progress_of r.taken)) (sym (append-nil at.content)) reached);
      }

  -- a discarded body whose framing exceeds its room has been discarded as too large
  pub receive_too_large : (next : BodyFraming) (rest : List ℕ) → Steps r.body unread [] next rest → (HasRoom r.target (announced_len next) → ⊥) → DiscardsSo channel stream first r unread (Err discards.TooLarge)
  receive_too_large next rest s large = by r.target x.at x.received large
    where
      by : (old : BodyTarget) (at : HasBody channel stream first r.context (action_into old) r.body unread) → HasReceived old r.route r.taken at.content r.body → (HasRoom old (announced_len next) → ⊥)
          → DiscardsSo channel stream first r unread (Err discards.TooLarge)
      by (targets.Nothing room) at (nothing, all) large =
          (nothing, record { at = at; route_is = x.route; discarded = past_limit room at.content r.body unread all next rest s (omega (arith, large)) })
      by (targets.Encoder encoder reader) at received large = absurd (large tt)

  -- a body with no bytes left to come has been received with the result at its end
  pub receive_over : (result : Result (Unit {0}) IngestStop) → r.body ≡ Length 0 → EndsTarget r.target result → IsReceived channel stream first r r.target unread result
  receive_over result over ends = by r.target x.at x.received ends
    where
      ended : (encoder : IngestTarget) (reader : List ℕ) (at : HasBody channel stream first r.context Ingest r.body unread) → HasReceived (targets.Encoder encoder reader) r.route r.taken at.content r.body
          → (of : Result (Unit {0}) StreamFault) → EndsStream at.content of → IsIngested channel stream first r encoder unread (ended_as of)
      ended encoder reader at (is, reached) (Ok done) so = record {
        at = at;
        route_is = x.route ∙ ap Some is;
        handles = λ later. (record { over = over; taken = reached.taken; ends = so }, ap (λ b. not (is_over b)) over);
        replied = λ end is. cc;
      }
      ended encoder reader at (is, reached) (Err fault) so = record {
        at = at;
        route_is = x.route ∙ ap Some is;
        handles = λ later. inl (record { over = over; taken = reached.taken; ends = so }, ap (λ b. not (is_over b)) over);
        replied = λ end is. cc;
      }

      by : (old : BodyTarget) (at : HasBody channel stream first r.context (action_into old) r.body unread) → HasReceived old r.route r.taken at.content r.body → EndsTarget old result → IsReceived channel stream first r old unread result
      by (targets.Nothing room) at (nothing, all) is = rw is (nothing, record { at = at; route_is = x.route; discarded = λ later. (over, omega (arith, all)) })
      by (targets.Encoder encoder reader) at received (of, is, ends) =
          rw is (ended encoder reader at received of (ends at.content received.1.taken.no_fault received.1.left))

  -- a body with bad framing has been received with that result
  pub receive_broken : IsBroken r.body unread → IsReceived channel stream first r r.target unread (Err (ingest_stops.Stopped bodies.BadFraming))
  receive_broken broken = by r.target x.at x.received
    where
      by : (old : BodyTarget) (at : HasBody channel stream first r.context (action_into old) r.body unread) → HasReceived old r.route r.taken at.content r.body
          → IsReceived channel stream first r old unread (Err (ingest_stops.Stopped bodies.BadFraming))
      by (targets.Nothing room) at (nothing, all) =
          (nothing, record { at = at; route_is = x.route; discarded = λ later. (omega (arith, all), broken_bodies_stay r.body unread later broken) })
      by (targets.Encoder encoder reader) at (is, reached) = record {
        at = at;
        route_is = x.route ∙ ap Some is;
        handles = λ later. (reached.taken, broken_bodies_stay r.body unread later broken);
        replied = λ end is. cc;
      }
