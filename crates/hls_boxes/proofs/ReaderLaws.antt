-- The results of a reader, by its parts, the one in progress, and its fault.
use Rattle.std.proofs.Common.{◌≡◌, ℕ, ◌-◌, ◌<◌, ◌≤◌, ◌==◌, nat_lt, Bool, true, false, if◌then◌else◌, Option, Some, None, List, [], ◌∷◌, ◌++◌, length, take, inl, inr, sym, ◌∙◌, ap, arith, refl, subst}
use Rattle.std.specs.List.{flat_map}
use Rattle.std.proofs.lemmas.List.{append-nil, append_assoc, length-drop, length-take-le}
use Rattle.std.proofs.lemmas.Grind.{flat_map-append}
use Rattle.std.proofs.lemmas.Bool.{cases_lt, cases_Bool, lt-ltb, le-ltb}
use Rattle.hls_boxes.specs.declared.part.Part.{Part}
use Rattle.hls_boxes.specs.declared.fault.BoxFault.{BoxFault}
use Rattle.hls_boxes.specs.declared.fault.BoxFault.TheVariants.{BadSize, TooLarge, OpenEnded, MdatAlone, MoofWithoutMdat, Truncated, Memory}
use Rattle.hls_boxes.specs.Parts.{part_of, bytes_of, effect_at, Remainder, Nothing, Boxes, CutShort, Refused, rest_of_part, fault_of_rest, text_fault, fault_at_end, StreamCut, cut_at, stream_cut, after_parts}
use Rattle.hls_boxes.proofs.Callers.{IsHeaderFault, bytes_of-part_of, left_of-open, open-fault_left, refused, next-wait}
use Rattle.hls_boxes.specs.declared.pending_part.PendingPart.{PendingPart}
use Rattle.hls_boxes.specs.declared.complete_part.CompletePart.{CompletePart}
use Rattle.hls_boxes.specs.Feed.{complete_part_bytes, IsCompletePart, AreCompleteParts, open_box, NeedsMoreBytes, IsPendingWithFault, AppendsPiece, reader_bytes, IsReaderState}
use Rattle.hls_boxes.proofs.IntakeLaws.{whole-append}
use Rattle.hls_boxes.specs.Reader.{bytes_after_feed, IsFeedRefusal, TakesFirstPart, HasPart}

-- the remainder for `before` bytes of boxes and `rest` bytes of an incomplete box, or for a faulty header
abbrev left_with : Option BoxFault → ℕ → ℕ → Bool → Remainder
left_with None before rest has_moof = rest_of_part before rest has_moof
left_with (Some fault) before rest has_moof = Refused fault

-- the remainder of a reader's part in progress
abbrev left_in : PendingPart → Option BoxFault → Remainder
left_in pending fault = left_with fault pending.at (length pending.bytes.items - pending.at) pending.has_moof

-- a part in progress that needs more bytes is cut into no part, and its remainder
waits-cut : (pending : PendingPart) → NeedsMoreBytes pending → stream_cut pending.bytes.items ≡ record { parts = []; left = left_in pending None }
waits-cut pending w =
    let len = length-take-le pending.at pending.bytes.items w.is_pending.within in
    let last = ap (λ (n : ℕ). effect_at (open_box pending) n pending.has_moof) len ∙ w.last in
    ap stream_cut (sym (append-nil pending.bytes.items)) ∙ w.is_pending.extends [] ∙ ap (λ (xs : List ℕ). cut_at (take pending.at pending.bytes.items) xs pending.has_moof) (append-nil (open_box pending))
    ∙ next-wait (take pending.at pending.bytes.items) (open_box pending) pending.has_moof last
    ∙ ap (λ (n : ℕ). record { parts = []; left = rest_of_part n (length (open_box pending)) pending.has_moof }) len
    ∙ ap (λ (n : ℕ). record { parts = []; left = rest_of_part pending.at n pending.has_moof }) (length-drop pending.at pending.bytes.items)

-- a part in progress, with a fault or without, is cut into no part, and its remainder
pending_is-cut : (pending : PendingPart) (fault : Option BoxFault) → IsPendingWithFault pending fault → stream_cut pending.bytes.items ≡ record { parts = []; left = left_in pending fault }
pending_is-cut pending None w = waits-cut pending w
pending_is-cut pending (Some fault) is = is

-- the bytes of a reader are those of its first complete part, and then those of a reader without it
whole-first : (whole : CompletePart) (others : List CompletePart) (pending : PendingPart) → reader_bytes (whole ∷ others) pending ≡ complete_part_bytes whole ++ reader_bytes others pending
whole-first whole others pending = append_assoc (complete_part_bytes whole) (flat_map complete_part_bytes others) pending.bytes.items

-- the cut of a reader's bytes is its first complete part, and then the cut of a reader without it
whole-cut : (whole : CompletePart) (others : List CompletePart) (pending : PendingPart) → IsCompletePart whole
    → stream_cut (reader_bytes (whole ∷ others) pending) ≡ after_parts (part_of whole.kind (complete_part_bytes whole) ∷ []) (stream_cut (reader_bytes others pending))
whole-cut whole others pending w = ap stream_cut (whole-first whole others pending) ∙ w.extends (reader_bytes others pending)

-- the remainder of a reader's bytes is that of its part in progress
parts-left : (whole : List CompletePart) (pending : PendingPart) → AreCompleteParts whole → (stream_cut (reader_bytes whole pending)).left ≡ (stream_cut pending.bytes.items).left
parts-left [] pending each = refl
parts-left (whole ∷ others) pending each = ap (λ (c : StreamCut). c.left) (whole-cut whole others pending each.0) ∙ parts-left others pending each.1

-- the remainder of a reader's bytes is that of its part in progress, by its fault, if it has one
settles-left : (whole : List CompletePart) (pending : PendingPart) (fault : Option BoxFault) → IsReaderState whole pending fault → (stream_cut (reader_bytes whole pending)).left ≡ left_in pending fault
settles-left whole pending fault s = parts-left whole pending s.each ∙ ap (λ (c : StreamCut). c.left) (pending_is-cut pending fault s.pending_is)

-- a remainder made for a fault, or for none, shows exactly that fault, or none
left_with-fault : (fault : Option BoxFault) (before rest : ℕ) (has_moof : Bool) → fault_of_rest (left_with fault before rest has_moof) ≡ fault
left_with-fault None before rest has_moof = open-fault_left (rest_of_part before rest has_moof) (left_of-open before rest has_moof)
left_with-fault (Some fault) before rest has_moof = refl

-- a reader's fault is that of its bytes
settles-fault : (whole : List CompletePart) (pending : PendingPart) (fault : Option BoxFault) → IsReaderState whole pending fault → text_fault (reader_bytes whole pending) ≡ fault
settles-fault whole pending fault s = ap fault_of_rest (settles-left whole pending fault s) ∙ left_with-fault fault pending.at (length pending.bytes.items - pending.at) pending.has_moof

-- a reader's fault is that of its bytes, given bytes and a fault that equal them
pub fault_is : (whole : List CompletePart) (pending : PendingPart) (now : List ℕ) (fault known : Option BoxFault) → reader_bytes whole pending ≡ now → fault ≡ known → IsReaderState whole pending fault → text_fault now ≡ known
fault_is whole pending now fault known same is s = ap text_fault (sym same) ∙ settles-fault whole pending fault s ∙ is

-- a remainder that shows a fault is one of a faulty header
shown : (left : Remainder) (fault : BoxFault) → fault_of_rest left ≡ Some fault → left ≡ Refused fault
shown Nothing fault is = absurd (cc)
shown (Boxes has_moof) fault is = absurd (cc)
shown CutShort fault is = absurd (cc)
shown (Refused found) fault is = let same : found ≡ fault = cc in ap Refused same

-- the fault that a text shows is that of a header
text_fault-header : (bytes : List ℕ) (fault : BoxFault) → text_fault bytes ≡ Some fault → IsHeaderFault fault
text_fault-header bytes fault is = (refused bytes fault (shown (stream_cut bytes).left fault is)).header

-- if the bytes after a piece show a header's fault, it is a refusal of the piece
header-refusal : (fault : BoxFault) (old piece new : List ℕ) → IsHeaderFault fault → new ≡ bytes_after_feed (text_fault old) old piece → text_fault new ≡ Some fault → IsFeedRefusal fault old piece new
header-refusal BadSize old piece new header held is = (held, is)
header-refusal TooLarge old piece new header held is = (held, is)
header-refusal OpenEnded old piece new header held is = (held, is)
header-refusal MdatAlone old piece new header held is = (held, is)
header-refusal MoofWithoutMdat old piece new header held is = (held, is)
header-refusal Truncated old piece new header held is = absurd header
header-refusal Memory old piece new header held is = absurd header

-- the fault of a header isn't an allocation failure
not-memory : (fault : BoxFault) → IsHeaderFault fault → fault ≡ Memory → ⊥
not-memory fault header is = subst IsHeaderFault is header

-- a fault is permanent, and no piece is accepted after it
pub again : (whole : List CompletePart) (pending : PendingPart) (now piece : List ℕ) (fault : Option BoxFault) (found : BoxFault) → reader_bytes whole pending ≡ now → fault ≡ Some found → IsReaderState whole pending fault
    → IsFeedRefusal found now piece now
again whole pending now piece fault found same is s =
    let shows = fault_is whole pending now fault (Some found) same is s in
    header-refusal found now piece now (text_fault-header now found shows) (ap (λ (o : Option BoxFault). bytes_after_feed o now piece) (sym shows)) shows

-- if the old bytes have no fault, and the old bytes and the piece have one, it is a refusal of the piece
pub brings : (whole : List CompletePart) (pending : PendingPart) (old piece : List ℕ) (found : BoxFault) → text_fault old ≡ None → reader_bytes whole pending ≡ old ++ piece → IsReaderState whole pending (Some found)
    → IsFeedRefusal found old piece (reader_bytes whole pending)
brings whole pending old piece found none grown s =
    let shows = settles-fault whole pending (Some found) s in
    header-refusal found old piece (reader_bytes whole pending) (text_fault-header (reader_bytes whole pending) found shows) (grown ∙ ap (λ (o : Option BoxFault). bytes_after_feed o old piece) (sym none)) shows

-- a reader's fault is never an allocation failure
pub no_memory : (whole : List CompletePart) (pending : PendingPart) (fault : Option BoxFault) (found : BoxFault) → fault ≡ Some found → IsReaderState whole pending fault → found ≡ Memory → ⊥
no_memory whole pending fault found is s = not-memory found (text_fault-header (reader_bytes whole pending) found (settles-fault whole pending fault s ∙ is))

-- an empty piece adds nothing
pub nothing_more : (old piece : List ℕ) → true ≡ (length piece == 0) → old ≡ old ++ piece
nothing_more old [] is = sym (append-nil old)
nothing_more old (byte ∷ others) is = absurd (grind (arith, is))

-- after a piece was consumed, a reader has its old bytes and the piece
pub fed_more : (old new : PendingPart) (before whole : List CompletePart) (piece : List ℕ) (fault : Option BoxFault) → AppendsPiece old before piece fault new whole → reader_bytes whole new ≡ reader_bytes before old ++ piece
fed_more old new before whole piece fault t =
    ap (λ (ws : List CompletePart). reader_bytes ws new) t.queued ∙ ap (λ (xs : List ℕ). xs ++ new.bytes.items) (flat_map-append complete_part_bytes before t.parts)
    ∙ append_assoc (flat_map complete_part_bytes before) (flat_map complete_part_bytes t.parts) new.bytes.items ∙ ap (λ (xs : List ℕ). flat_map complete_part_bytes before ++ xs) t.text
    ∙ sym (append_assoc (flat_map complete_part_bytes before) old.bytes.items piece)

-- after a piece was consumed, a reader's invariant holds, with the fault that was found
pub settles-more : (old new : PendingPart) (before whole : List CompletePart) (piece : List ℕ) (fault known : Option BoxFault) → AppendsPiece old before piece fault new whole → IsReaderState before old known → IsReaderState whole new fault
settles-more old new before whole piece fault known t s = record {
  each = subst AreCompleteParts (sym t.queued) (whole-append before t.parts s.each t.each);
  pending_is = t.pending_is;
}

-- a reader with the same unconsumed bytes needs more bytes as well
waits-same : (old new : PendingPart) → new.bytes.items ≡ old.bytes.items → new.at ≡ old.at → new.has_moof ≡ old.has_moof → NeedsMoreBytes old → NeedsMoreBytes new
waits-same old new bytes at moof w = record {
  is_pending = record {
    within = rw (bytes, at) w.is_pending.within;
    extends = λ more. rw (bytes, at, moof) (w.is_pending.extends more);
  };
  last = rw (bytes, at, moof) w.last;
}

-- the invariant of a reader without a fault holds if its contents are the same
pub settles-same : (old new : PendingPart) (before whole : List CompletePart) → whole ≡ before → new.bytes.items ≡ old.bytes.items → new.at ≡ old.at → new.has_moof ≡ old.has_moof → IsReaderState before old None → IsReaderState whole new None
settles-same old new before whole queue bytes at moof s = record {
  each = subst AreCompleteParts (sym queue) s.each;
  pending_is = waits-same old new bytes at moof s.pending_is;
}

-- a reader with the same contents has the same bytes
pub fed-same : (old new : PendingPart) (before whole : List CompletePart) → whole ≡ before → new.bytes.items ≡ old.bytes.items → reader_bytes whole new ≡ reader_bytes before old
fed-same old new before whole queue bytes = rw (queue, bytes) refl

-- at its end a text without a fault is truncated inside a box, or after a `moof` without its `mdat`
at_end : (before rest : ℕ) (has_moof : Bool) → fault_at_end (rest_of_part before rest has_moof) ≡ (if nat_lt 0 rest then Some Truncated else (if has_moof then Some Truncated else None))
at_end before rest has_moof =
    elim (cases_lt 0 rest) [
      | inl some ↦ rw (lt-ltb 0 rest some) refl
      | inr none ↦ rw (le-ltb 0 rest none) (elim (cases_Bool has_moof) [
        | inl moof ↦ rw moof refl
        | inr no_moof ↦ rw no_moof (elim (cases_lt 0 before) [
          | inl some ↦ rw (lt-ltb 0 before some) refl
          | inr nothing ↦ rw (le-ltb 0 before nothing) refl
        ])
      ])
    ]

-- if a reader has a fault, its bytes have it at their end
pub ends_with_fault : (whole : List CompletePart) (pending : PendingPart) (now : List ℕ) (fault : Option BoxFault) (found : BoxFault) → reader_bytes whole pending ≡ now → fault ≡ Some found → IsReaderState whole pending fault
    → fault_at_end (stream_cut now).left ≡ Some found
ends_with_fault whole pending now fault found same is s =
    ap fault_at_end (shown (stream_cut now).left found (fault_is whole pending now fault (Some found) same is s))

-- if a reader has no fault, its bytes are truncated if some aren't consumed, or if the part in progress has a `moof`
ends_without : (whole : List CompletePart) (pending : PendingPart) (now : List ℕ) (fault : Option BoxFault) → reader_bytes whole pending ≡ now → fault ≡ None → IsReaderState whole pending fault
    → fault_at_end (stream_cut now).left ≡ (if nat_lt 0 (length pending.bytes.items - pending.at) then Some Truncated else (if pending.has_moof then Some Truncated else None))
ends_without whole pending now fault same is s =
    let t : IsReaderState whole pending None = subst (λ (o : Option BoxFault). IsReaderState whole pending o) is s in
    ap (λ (xs : List ℕ). fault_at_end (stream_cut xs).left) (sym same) ∙ ap fault_at_end (settles-left whole pending None t)
    ∙ at_end pending.at (length pending.bytes.items - pending.at) pending.has_moof

-- if a reader has no fault, and some bytes aren't consumed, its bytes are truncated
pub cut_short : (whole : List CompletePart) (pending : PendingPart) (now : List ℕ) (fault : Option BoxFault) → reader_bytes whole pending ≡ now → fault ≡ None → IsReaderState whole pending fault → pending.at < length pending.bytes.items
    → fault_at_end (stream_cut now).left ≡ Some Truncated
cut_short whole pending now fault same is s some =
    let rest : 0 < length pending.bytes.items - pending.at = omega (arith, some) in
    ends_without whole pending now fault same is s ∙ rw (lt-ltb 0 (length pending.bytes.items - pending.at) rest) refl

-- if a reader has no fault, and the part in progress has a `moof`, its bytes are truncated
pub moof_held : (whole : List CompletePart) (pending : PendingPart) (now : List ℕ) (fault : Option BoxFault) → reader_bytes whole pending ≡ now → fault ≡ None → IsReaderState whole pending fault → pending.has_moof ≡ true
    → fault_at_end (stream_cut now).left ≡ Some Truncated
moof_held whole pending now fault same is s held =
    ends_without whole pending now fault same is s
    ∙ rw held (elim (cases_Bool (nat_lt 0 (length pending.bytes.items - pending.at))) [ inl is ↦ rw is refl | inr is ↦ rw is refl ])

-- if a reader has no fault, all bytes are consumed, and the part in progress has no `moof`, its bytes have no fault at their end
pub nothing_held : (whole : List CompletePart) (pending : PendingPart) (now : List ℕ) (fault : Option BoxFault) → reader_bytes whole pending ≡ now → fault ≡ None → IsReaderState whole pending fault
    → length pending.bytes.items ≤ pending.at → pending.has_moof ≡ false → fault_at_end (stream_cut now).left ≡ None
nothing_held whole pending now fault same is s all no_moof =
    let none : length pending.bytes.items - pending.at ≤ 0 = omega (arith, all) in
    ends_without whole pending now fault same is s ∙ rw (le-ltb 0 (length pending.bytes.items - pending.at) none, no_moof) refl

-- if a reader has no complete part, its bytes have no part
pub none_whole : (whole : List CompletePart) (pending : PendingPart) (now : List ℕ) (fault : Option BoxFault) → reader_bytes whole pending ≡ now → whole ≡ [] → IsReaderState whole pending fault → (stream_cut now).parts ≡ []
none_whole whole pending now fault same none s =
    ap (λ (xs : List ℕ). (stream_cut xs).parts) (sym same ∙ ap (λ (ws : List CompletePart). reader_bytes ws pending) none) ∙ ap (λ (c : StreamCut). c.parts) (pending_is-cut pending fault s.pending_is)

-- the first complete part is the first of what was fed
pub takes : (whole others : List CompletePart) (first : CompletePart) (pending : PendingPart) (now : List ℕ) (fault : Option BoxFault) (part : Part)
    → reader_bytes whole pending ≡ now → whole ≡ first ∷ others → part ≡ part_of first.kind (complete_part_bytes first) → IsReaderState whole pending fault
    → TakesFirstPart part now (reader_bytes others pending)
takes whole others first pending now fault part same queue is s =
    let each : AreCompleteParts (first ∷ others) = subst AreCompleteParts queue s.each in
    let fed : now ≡ complete_part_bytes first ++ reader_bytes others pending = sym same ∙ ap (λ (ws : List CompletePart). reader_bytes ws pending) queue ∙ whole-first first others pending in
    let part_bytes : complete_part_bytes first ≡ bytes_of part = sym (ap bytes_of is ∙ bytes_of-part_of first.kind (complete_part_bytes first)) in
    record {
      front = fed ∙ ap (λ (xs : List ℕ). xs ++ reader_bytes others pending) part_bytes;
      now = ap stream_cut fed ∙ each.0.extends (reader_bytes others pending) ∙ ap (λ (p : Part). after_parts (p ∷ []) (stream_cut (reader_bytes others pending))) (sym is);
      follows = λ more. ap (λ (xs : List ℕ). stream_cut (xs ++ more)) fed ∙ ap stream_cut (append_assoc (complete_part_bytes first) (reader_bytes others pending) more)
          ∙ each.0.extends (reader_bytes others pending ++ more) ∙ ap (λ (p : Part). after_parts (p ∷ []) (stream_cut (reader_bytes others pending ++ more))) (sym is);
    }

-- if a reader has a complete part, its bytes have a part
pub has_first : (whole others : List CompletePart) (first : CompletePart) (pending : PendingPart) (now : List ℕ) (fault : Option BoxFault) → reader_bytes whole pending ≡ now → whole ≡ first ∷ others → IsReaderState whole pending fault → HasPart now
has_first whole others first pending now fault same queue s =
    let t = takes whole others first pending now fault (part_of first.kind (complete_part_bytes first)) same queue refl s in
    (part_of first.kind (complete_part_bytes first), (stream_cut (reader_bytes others pending)).parts, ap (λ (c : StreamCut). c.parts) t.now)

-- without its first complete part, a reader's invariant holds
pub settles-rest : (whole others : List CompletePart) (first : CompletePart) (pending : PendingPart) (fault : Option BoxFault) → whole ≡ first ∷ others → IsReaderState whole pending fault → IsReaderState others pending fault
settles-rest whole others first pending fault queue s =
    let each : AreCompleteParts (first ∷ others) = subst AreCompleteParts queue s.each in
    record { each = each.1; pending_is = s.pending_is }

-- a part with the type and the bytes of a complete part is complete
back-whole : (first second : CompletePart) → second.kind ≡ first.kind → complete_part_bytes second ≡ complete_part_bytes first → IsCompletePart first → IsCompletePart second
back-whole first second kind bytes w = record { extends = λ more. rw (kind, bytes) (w.extends more) }

-- after the first part is put back, with its type and bytes, a reader's invariant holds
pub settles-back : (whole others new : List CompletePart) (first second : CompletePart) (pending : PendingPart) (fault : Option BoxFault) → whole ≡ first ∷ others → new ≡ second ∷ others
    → second.kind ≡ first.kind → complete_part_bytes second ≡ complete_part_bytes first → IsReaderState whole pending fault → IsReaderState new pending fault
settles-back whole others new first second pending fault queue back kind bytes s =
    let each : AreCompleteParts (first ∷ others) = subst AreCompleteParts queue s.each in
    record { each = subst AreCompleteParts (sym back) (back-whole first second kind bytes each.0, each.1); pending_is = s.pending_is }

-- after the first part is put back, with its bytes, a reader has the same bytes
pub fed-back : (whole others new : List CompletePart) (first second : CompletePart) (pending : PendingPart) → whole ≡ first ∷ others → new ≡ second ∷ others → complete_part_bytes second ≡ complete_part_bytes first
    → reader_bytes new pending ≡ reader_bytes whole pending
fed-back whole others new first second pending queue back bytes =
    ap (λ (ws : List CompletePart). reader_bytes ws pending) back ∙ ap (λ (xs : List ℕ). (xs ++ flat_map complete_part_bytes others) ++ pending.bytes.items) bytes ∙ ap (λ (ws : List CompletePart). reader_bytes ws pending) (sym queue)

-- a list of length 0 is empty
pub no_items : (whole : List CompletePart) → length whole ≡ 0 → whole ≡ []
no_items [] none = refl
no_items (first ∷ others) none = absurd (omega (arith, none))
