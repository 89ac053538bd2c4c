-- How a stream is consumed: the part in progress from box to box, and the parts that it becomes.
use Rattle.std.proofs.Common.{◌≡◌, ℕ, ◌+◌, ◌-◌, ◌<◌, ◌≤◌, ◌==◌, false, Option, Some, None, Result, Ok, Err, OnErr, List, [], ◌∷◌, ◌++◌, length, take, drop, sym, ◌∙◌, ap, arith, refl, subst}
use Rattle.std.specs.List.{flat_map}
use Rattle.std.proofs.lemmas.List.{length-append, length-drop, length-take-le, append_assoc, append-nil, drop-drop, drop-append-le, drop_at, take-append-le, take-append-drop}
use Rattle.std.proofs.lemmas.Grind.{flat_map-append}
use Rattle.std.proofs.Math.Seq.{take-add, take-length, drop-length}
use Rattle.hls_boxes.specs.declared.fault.BoxFault.{BoxFault}
use Rattle.hls_boxes.specs.declared.box_effect.BoxEffect.TheVariants.{Fault, Continues, Ends}
use Rattle.hls_boxes.specs.Boxes.{header_at}
use Rattle.hls_boxes.specs.Parts.{part_of, effect_at, cut_at, stream_cut, after_parts}
use Rattle.hls_boxes.proofs.Callers.{refused, next-joins, next-ends, next-fault}
use Rattle.hls_boxes.specs.declared.pending_part.PendingPart.{PendingPart}
use Rattle.hls_boxes.specs.declared.complete_part.CompletePart.{CompletePart}
use Rattle.hls_boxes.specs.Feed.{needed_len, complete_part_bytes, IsCompletePart, AreCompleteParts, open_box, next_effect, IsPendingPart, NeedsMoreBytes, EndsAt, EndsAtBox, IsPendingWithFault, first_bytes, AppendsParts, AppendsPiece}
use Rattle.hls_boxes.proofs.BoxEnds.{waits-wants, at_box_end}

-- an empty part needs more bytes
pub waits-start : (pending : PendingPart) → pending.bytes.items ≡ [] → pending.at ≡ 0 → pending.has_moof ≡ false → NeedsMoreBytes pending
unfolding effect_at header_at
waits-start pending none at moof = record {
  is_pending = record {
    within = omega (arith, at);
    extends = λ more. rw (none, at, moof) refl;
  };
  last = rw (none, at) refl;
}

-- what was consumed stays consumed when bytes follow
pub reaches-grown : (old new : PendingPart) (more : List ℕ) → new.bytes.items ≡ old.bytes.items ++ more → new.at ≡ old.at → new.has_moof ≡ old.has_moof → IsPendingPart old → IsPendingPart new
reaches-grown old new more grown at moof r = record {
  within = omega (arith, r.within, at, ap length grown, length-append old.bytes.items more);
  extends = λ last.
      rw (grown, at, moof) (ap stream_cut (append_assoc old.bytes.items more last) ∙ r.extends (more ++ last)
      ∙ ap (λ (xs : List ℕ). cut_at (take old.at old.bytes.items) xs old.has_moof)
      (sym (append_assoc (open_box old) more last) ∙ ap (λ (xs : List ℕ). xs ++ last) (sym (drop-append-le old.at old.bytes.items more r.within)))
      ∙ ap (λ (xs : List ℕ). cut_at xs (drop old.at (old.bytes.items ++ more) ++ last) old.has_moof) (sym (take-append-le old.at old.bytes.items more r.within)));
}

-- when bytes are appended, they follow the bytes that aren't consumed yet
open-grown : (old new : PendingPart) (more : List ℕ) → new.bytes.items ≡ old.bytes.items ++ more → new.at ≡ old.at → IsPendingPart old → open_box new ≡ open_box old ++ more
open-grown old new more grown at r = rw (grown, at) (drop-append-le old.at old.bytes.items more r.within)

-- an incomplete box lacks some bytes
pub wants-some : (pending : PendingPart) → NeedsMoreBytes pending → 0 < needed_len (header_at (open_box pending)) (length (open_box pending)) - length (open_box pending)
wants-some pending w = omega (arith, waits-wants (open_box pending) pending.at pending.has_moof w.last)

-- if no more bytes are appended than the next box lacks, the box, if it is complete, ends where the bytes do
pub at_box_end-grown : (old new : PendingPart) (more : List ℕ) → new.bytes.items ≡ old.bytes.items ++ more → new.at ≡ old.at → new.has_moof ≡ old.has_moof → NeedsMoreBytes old
    → length more ≤ needed_len (header_at (open_box old)) (length (open_box old)) - length (open_box old) → EndsAtBox new
at_box_end-grown old new more grown at moof w few =
    let longer = waits-wants (open_box old) old.at old.has_moof w.last in
    let long : length (open_box old ++ more) ≤ needed_len (header_at (open_box old)) (length (open_box old)) = omega (arith, few, longer, length-append (open_box old) more) in
    rw (open-grown old new more grown at w.is_pending, at, moof) (at_box_end (open_box old) more old.at old.has_moof long)

-- the next box has the same effect for the cut of the part in progress
next-at : (pending : PendingPart) → IsPendingPart pending → effect_at (open_box pending) (length (take pending.at pending.bytes.items)) pending.has_moof ≡ next_effect pending
next-at pending r = ap (λ (n : ℕ). effect_at (open_box pending) n pending.has_moof) (length-take-le pending.at pending.bytes.items r.within)

-- after a complete box at the end of the bytes joins the part in progress, that part needs more bytes
pub joins : (old new : PendingPart) (size : ℕ) → IsPendingPart old → EndsAtBox old → next_effect old ≡ Continues new.has_moof size → new.bytes.items ≡ old.bytes.items → new.at ≡ old.at + size → NeedsMoreBytes new
unfolding effect_at header_at
joins old new size r even_box is bytes at =
    let p = next-joins (take old.at old.bytes.items) (open_box old) old.has_moof new.has_moof size (next-at old r ∙ is) in
    let whole : size ≡ length (open_box old) = subst (EndsAt (length (open_box old))) is even_box in
    let rest : drop size (open_box old) ≡ open_box new = drop-drop size old.at old.bytes.items ∙ rw (bytes, at) refl in
    let front : take old.at old.bytes.items ++ take size (open_box old) ≡ take new.at new.bytes.items = sym (take-add old.at size old.bytes.items) ∙ rw (bytes, at) refl in
    let none : open_box new ≡ [] = sym rest ∙ ap (λ (n : ℕ). drop n (open_box old)) whole ∙ drop-length (open_box old) in
    record {
      is_pending = record {
        within = omega (arith, at, ap length bytes, whole, length-drop old.at old.bytes.items, r.within);
        extends = λ more. ap (λ (xs : List ℕ). stream_cut (xs ++ more)) bytes ∙ r.extends more ∙ p.goes more
            ∙ ap (λ (xs : List ℕ). cut_at xs (drop size (open_box old) ++ more) new.has_moof) front
            ∙ ap (λ (xs : List ℕ). cut_at (take new.at new.bytes.items) (xs ++ more) new.has_moof) rest;
      };
      last = rw none refl;
    }

-- a complete box at the end of the bytes that ends the part in progress makes it a complete part
pub ends : (old : PendingPart) (whole : CompletePart) (size : ℕ) → IsPendingPart old → EndsAtBox old → next_effect old ≡ Ends whole.kind size → complete_part_bytes whole ≡ old.bytes.items → IsCompletePart whole
ends old whole size r even_box is bytes =
    let p = next-ends (take old.at old.bytes.items) (open_box old) old.has_moof whole.kind size (next-at old r ∙ is) in
    let len : size ≡ length (open_box old) = subst (EndsAt (length (open_box old))) is even_box in
    let none : drop size (open_box old) ≡ [] = ap (λ (n : ℕ). drop n (open_box old)) len ∙ drop-length (open_box old) in
    let all : take size (open_box old) ≡ open_box old = ap (λ (n : ℕ). take n (open_box old)) len ∙ take-length (open_box old) in
    let joined : take old.at old.bytes.items ++ take size (open_box old) ≡ complete_part_bytes whole =
    ap (λ (xs : List ℕ). take old.at old.bytes.items ++ xs) all ∙ take-append-drop old.at old.bytes.items ∙ sym bytes in
    record {
      extends = λ more. ap (λ (xs : List ℕ). stream_cut (xs ++ more)) bytes ∙ r.extends more ∙ p.goes more
          ∙ ap (λ (xs : List ℕ). after_parts (part_of whole.kind xs ∷ []) (stream_cut (drop size (open_box old) ++ more))) joined
          ∙ ap (λ (xs : List ℕ). after_parts (part_of whole.kind (complete_part_bytes whole) ∷ []) (stream_cut (xs ++ more))) none;
    }

-- a faulty header is the fault of the part in progress
pub refuses : (pending : PendingPart) (fault : BoxFault) → IsPendingPart pending → next_effect pending ≡ Fault fault → IsPendingWithFault pending (Some fault)
refuses pending fault r is =
    ap stream_cut (sym (append-nil pending.bytes.items)) ∙ r.extends [] ∙ ap (λ (xs : List ℕ). cut_at (take pending.at pending.bytes.items) xs pending.has_moof) (append-nil (open_box pending))
    ∙ next-fault (take pending.at pending.bytes.items) (open_box pending) pending.has_moof fault (next-at pending r ∙ is)

-- the fault of a part in progress is permanent, whatever follows
pending_is-grown : (old new : PendingPart) (more : List ℕ) (fault : BoxFault) → new.bytes.items ≡ old.bytes.items ++ more → IsPendingWithFault old (Some fault) → IsPendingWithFault new (Some fault)
pending_is-grown old new more fault grown pending_is =
    ap stream_cut grown ∙ (refused old.bytes.items fault (ap (λ c. c.left) pending_is)).stays more ∙ pending_is

-- a box that was examined and ended no part appends no complete part
pub passes-none : (old new : PendingPart) (before whole : List CompletePart) (fault : Option BoxFault) → new.bytes.items ≡ old.bytes.items → whole ≡ before → IsPendingWithFault new fault → AppendsPiece old before [] fault new whole
passes-none old new before whole fault bytes queue pending_is = record {
  parts = [];
  queued = queue ∙ sym (append-nil before);
  each = tt;
  more = [];
  first = bytes ∙ sym (append-nil old.bytes.items);
  text = bytes ∙ sym (append-nil old.bytes.items);
  pending_is = pending_is;
}

-- a box that was examined and ended the part in progress appends one complete part
pub passes-one : (old new : PendingPart) (before after : List CompletePart) (whole : CompletePart) → complete_part_bytes whole ≡ old.bytes.items → IsCompletePart whole → new.bytes.items ≡ [] → after ≡ before ++ whole ∷ [] → NeedsMoreBytes new
    → AppendsPiece old before [] None new after
passes-one old new before after whole bytes is none queue waits = record {
  parts = whole ∷ [];
  queued = queue;
  each = (is, tt);
  more = [];
  first = bytes ∙ sym (append-nil old.bytes.items);
  text = rw (none, bytes) (append-nil (old.bytes.items ++ []));
  pending_is = waits;
}

-- two lists of complete parts, joined, are complete parts
pub whole-append : (before parts : List CompletePart) → AreCompleteParts before → AreCompleteParts parts → AreCompleteParts (before ++ parts)
whole-append [] parts each others = others
whole-append (whole ∷ before) parts each others = (each.0, whole-append before parts each.1 others)

-- before a byte of a piece is consumed, no part and no bytes were appended
pub takes-nothing : (old : PendingPart) (before : List CompletePart) → NeedsMoreBytes old → AppendsPiece old before [] None old before
takes-nothing old before waits = passes-none old old before before None refl refl waits

-- the bytes are the old ones, and perhaps more
record Grows (bytes old : List ℕ) : Type 0 where
  more : List ℕ
  first : bytes ≡ old ++ more

-- the first part since then has the old bytes in front, also after more bytes and more parts
first-grown : (parts others : List CompletePart) (mid grown new : PendingPart) (old more xs ys : List ℕ) → first_bytes parts mid ≡ old ++ more → grown.bytes.items ≡ mid.bytes.items ++ xs
    → first_bytes others new ≡ grown.bytes.items ++ ys → Grows (first_bytes (parts ++ others) new) old
first-grown [] others mid grown new old more xs ys first is then = record {
  more = (more ++ xs) ++ ys;
  first = then ∙ ap (λ (zs : List ℕ). zs ++ ys) (is ∙ ap (λ (zs : List ℕ). zs ++ xs) first ∙ append_assoc old more xs) ∙ append_assoc old (more ++ xs) ys;
}
first-grown (whole ∷ parts) others mid grown new old more xs ys first is then = record { more = more; first = first }

-- if bytes of a piece were consumed, and more of them are appended and examined, all of them were consumed
pub takes-more : (old mid grown new : PendingPart) (before between whole : List CompletePart) (taken xs : List ℕ) (fault : Option BoxFault)
    → AppendsPiece old before taken None mid between → grown.bytes.items ≡ mid.bytes.items ++ xs → AppendsPiece grown between [] fault new whole → AppendsPiece old before (taken ++ xs) fault new whole
takes-more old mid grown new before between whole taken xs fault t is u =
    let f = first-grown t.parts u.parts mid grown new old.bytes.items t.more xs u.more t.first is u.first in
    record {
      parts = t.parts ++ u.parts;
      queued = u.queued ∙ ap (λ (ws : List CompletePart). ws ++ u.parts) t.queued ∙ append_assoc before t.parts u.parts;
      each = whole-append t.parts u.parts t.each u.each;
      more = f.more;
      first = f.first;
      text = ap (λ (zs : List ℕ). zs ++ new.bytes.items) (flat_map-append complete_part_bytes t.parts u.parts) ∙ append_assoc (flat_map complete_part_bytes t.parts) (flat_map complete_part_bytes u.parts) new.bytes.items
          ∙ ap (λ (zs : List ℕ). flat_map complete_part_bytes t.parts ++ zs) (u.text ∙ append-nil grown.bytes.items ∙ is)
          ∙ sym (append_assoc (flat_map complete_part_bytes t.parts) mid.bytes.items xs) ∙ ap (λ (zs : List ℕ). zs ++ xs) t.text ∙ append_assoc old.bytes.items taken xs;
      pending_is = u.pending_is;
    }

-- if a fault was found in a piece, and the rest of the piece is appended, the whole piece was consumed, with that fault
pub takes-rest : (old mid new : PendingPart) (before whole : List CompletePart) (taken xs : List ℕ) (fault : BoxFault)
    → AppendsPiece old before taken (Some fault) mid whole → new.bytes.items ≡ mid.bytes.items ++ xs → AppendsPiece old before (taken ++ xs) (Some fault) new whole
takes-rest old mid new before whole taken xs fault t is =
    let f = first-grown t.parts [] mid new new old.bytes.items t.more xs [] t.first is (sym (append-nil new.bytes.items)) in
    record {
      parts = t.parts;
      queued = t.queued;
      each = t.each;
      more = f.more;
      first = ap (λ (ws : List CompletePart). first_bytes ws new) (sym (append-nil t.parts)) ∙ f.first;
      text = ap (λ (zs : List ℕ). flat_map complete_part_bytes t.parts ++ zs) is ∙ sym (append_assoc (flat_map complete_part_bytes t.parts) mid.bytes.items xs) ∙ ap (λ (zs : List ℕ). zs ++ xs) t.text
          ∙ append_assoc old.bytes.items taken xs;
      pending_is = pending_is-grown mid new xs fault is t.pending_is;
    }

-- if some bytes of a piece were consumed, parts were appended, and the part that was in progress has more bytes
pub adds : (old new : PendingPart) (before whole : List CompletePart) (taken : List ℕ) (fault : Option BoxFault)
    → AppendsPiece old before taken fault new whole → AppendsParts old before new whole
adds old new before whole taken fault t = record { parts = t.parts; queued = t.queued; more = t.more; first = t.first }

-- without the parts that were appended, the parts are those from before
back-parts : (before parts whole : List CompletePart) (n : ℕ) → n ≡ length before → whole ≡ before ++ parts → take n whole ≡ before
back-parts before parts whole n len queue = rw (len, queue) (take-append-le (length before) before parts (omega arith) ∙ take-length before)

-- the numbers of parts and of bytes from before suffice to restore the parts and the bytes of the part in progress
pub taken-back : (old new : PendingPart) (before whole : List CompletePart) (n len : ℕ) → n ≡ length before → len ≡ length old.bytes.items → AppendsParts old before new whole
    → (take n whole ≡ before) × (take len (first_bytes (drop n whole) new) ≡ old.bytes.items)
taken-back old new before whole n len is same a = (
  back-parts before a.parts whole n is a.queued,
  ap (λ (ws : List CompletePart). take len (first_bytes ws new)) (ap (drop n) a.queued ∙ drop_at before a.parts n (sym is)) ∙ ap (take len) a.first
      ∙ ap (λ (k : ℕ). take k (old.bytes.items ++ a.more)) same ∙ take-append-le (length old.bytes.items) old.bytes.items a.more (omega arith) ∙ take-length old.bytes.items,
)

-- a piece consists of what was consumed before, what is consumed now, and the rest
pub piece-is : (piece taken rest more tail : List ℕ) (n : ℕ) → piece ≡ taken ++ rest → more ≡ take n rest → tail ≡ drop n rest → piece ≡ (taken ++ more) ++ tail
piece-is piece taken rest more tail n is front back =
    is ∙ ap (λ (xs : List ℕ). taken ++ xs) (sym (take-append-drop n rest) ∙ rw (front, back) refl) ∙ sym (append_assoc taken more tail)

-- a list that isn't empty has a length above 0
pub not_empty : (rest : List ℕ) → false ≡ (length rest == 0) → 0 < length rest
not_empty [] is = absurd (cc)
not_empty (byte ∷ others) is = omega arith

-- what holds anyway holds if a result is an error
pub any_error : {T E : Type 0} {P : Type 0} (r : Result T E) → P → OnErr r P
any_error (Ok x) p = tt
any_error (Err e) p = p
