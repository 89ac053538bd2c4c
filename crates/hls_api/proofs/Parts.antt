-- Parts of a resource: where a part begins in its slices, and which parts of a recording are kept.
use Rattle.std.proofs.Common.{◌≡◌, ◌∙◌, ℕ, zero, suc, ◌+◌, ◌-◌, ◌<◌, ◌≤◌, List, [], ◌∷◌, ◌++◌, Option, Some, None, length, get_or, map, take, drop, replicate, min, max, refl, sym, ap, subst, arith, append_assoc, length-append, length-drop}
use Rattle.std.specs.{Prelude.{Contains, option_map}, List.concat}
use Rattle.std.proofs.lemmas.List.{get_or-drop, get_or-take, length-map, length-replicate, length-take-le, map-append, drop-map, take-map, take_all}
use Rattle.hls_record.specs.{RecordingData.{RecordingData, offset_at, total_of, bytes_of, range_of}, IsRecorded.IsRecorded}
use Rattle.hls_record.proofs.Callers.{bytes_length, gone_range}
use Rattle.hls_core_laws.specs.State.{State}
use Rattle.hls_core.specs.Getters.{recording_of}
use Rattle.hls_catchup.specs.{Replies.ReplyData, Resources.parts_in, ReplyUnits.AreReplyUnits, declared.reply_units.ReplyUnits.ReplyUnits}
use Rattle.hls_api.specs.{Responses.{based_bytes, based_media_bytes, media_bytes, whole_range}, ResponseContents.{kept_offset, kept_slices, own_offset, slices_between}}
use Rattle.hls_playlists_laws.specs.JobResource.{units_between}

-- ---- bytes that are all available

-- a range without an unavailable byte is all its bytes
whole-map : (bytes : List ℕ) → whole_range (map Some bytes) ≡ Some bytes
unfolding whole_range
whole-map [] = refl
whole-map (b ∷ bytes) = ap (option_map (λ others. b ∷ others)) (whole-map bytes)

-- a range whose byte n is unavailable is unavailable as a whole
none-at : (xs : List (Option ℕ)) (n : ℕ) → n < length xs → get_or xs n None ≡ None → whole_range xs ≡ None
unfolding whole_range
none-at [] n within none = absurd (omega arith)
none-at (None ∷ xs) n within none = refl
none-at (Some b ∷ xs) zero within none = cc
none-at (Some b ∷ xs) (suc n) within none = ap (option_map (λ others. b ∷ others)) (none-at xs n (omega arith) none)

-- a range that contains an unavailable byte is unavailable as a whole
whole-none : (xs : List (Option ℕ)) → Contains xs None → whole_range xs ≡ None
whole-none xs gone = none-at xs gone.0 gone.1 gone.2

-- ---- a recording

-- a part of a recording that has a trimmed byte is unavailable
pub part_gone : (r : RecordingData) (from len : ℕ) → IsRecorded r → from + len ≤ total_of r → max from (length r.head) < min (from + len) (offset_at r r.floor)
    → media_bytes r from len ≡ None
part_gone r from len valid within gone = whole-none (range_of r from (from + len)) (gone_range r from (from + len) valid (omega arith, within) gone)

-- the number of trimmed bytes
abbrev hole : RecordingData → ℕ
hole r = offset_at r r.floor - length r.head

-- the joined slices: the init section, and the bytes of the kept units
kept-joined : (r : RecordingData) → r.floor + length r.units ≡ length r.facts → concat (kept_slices r) ≡ r.head ++ concat r.units
kept-joined r valid =
    let none : max 0 r.floor - r.floor ≡ 0 = omega arith in
    ap (λ n. r.head ++ concat (take (length r.facts - max 0 r.floor) (drop n r.units))) none
    ∙ ap (λ us. r.head ++ concat us) (take_all (length r.facts - max 0 r.floor) r.units (omega (arith, valid)))

-- the init section makes up as many entries of the resource as it has bytes
heads : (r : RecordingData) → length (map (λ (x : ℕ). Some x) r.head) ≡ length r.head
heads r = length-map r.head Some

-- the trimmed units make up as many entries of the resource as they had bytes
holes : (r : RecordingData) → length {A = Option ℕ} (replicate (hole r) None) ≡ hole r
holes r = length-replicate (hole r) None

-- a part of a recording without trimmed bytes is within the joined slices, from its offset among the untrimmed bytes on
pub part_fits : (r : RecordingData) (from len : ℕ) → IsRecorded r → from + len ≤ total_of r → min (from + len) (offset_at r r.floor) ≤ max from (length r.head)
    → kept_offset r from + len ≤ length (concat (kept_slices r))
part_fits r from len valid within kept =
    let joined = ap length (kept-joined r valid.kept) in
    let both = length-append r.head (concat r.units) in
    let a = length-append (map Some r.head ++ replicate (hole r) None) (map Some (concat r.units)) in
    let b = length-append (map Some r.head) (replicate (hole r) None) in
    let c : length (map (λ (x : ℕ). Some x) (concat r.units)) ≡ length (concat r.units) = length-map (concat r.units) Some in
    omega (arith, joined, both, a, b, c, bytes_length r valid, heads r, holes r, within, kept)

-- bytes of three joined lists are bytes of the first and the third joined, if none of the second is requested
without : {A : Type 0} (xs ns ys : List A) (from len at : ℕ) → min (from + len) (length xs + length ns) ≤ max from (length xs)
    → at ≡ min from (length xs) + (from - (length xs + length ns)) → take len (drop from (xs ++ ns ++ ys)) ≡ take len (drop at (xs ++ ys))
without xs ns ys from zero at kept is = refl
without [] [] ys from (suc len) at kept is =
    let same : from ≡ at = omega arith in ap (λ n. take (suc len) (drop n ys)) same
without [] (n ∷ ns) ys zero (suc len) at kept is = absurd (omega arith)
without [] (n ∷ ns) ys (suc from) (suc len) at kept is = without [] ns ys from (suc len) at (omega arith) (omega arith)
without (x ∷ xs) ns ys zero (suc len) at kept is =
    let first : at ≡ 0 = omega arith in rw first (ap (λ zs. x ∷ zs) (without xs ns ys 0 len 0 (omega arith) (omega arith)))
without (x ∷ xs) ns ys (suc from) (suc len) at kept is =
    let up : suc (at - 1) ≡ at = omega arith in
    let more = without xs ns ys from (suc len) (at - 1) (omega arith) (omega arith) in
    subst (λ n. take (suc len) (drop from (xs ++ ns ++ ys)) ≡ take (suc len) (drop n (x ∷ xs ++ ys))) up more

-- a part of a recording without trimmed bytes has the bytes of the joined slices, from its offset among the untrimmed bytes on
pub kept_shown : (r : RecordingData) (from len : ℕ) → r.floor + length r.units ≡ length r.facts → min (from + len) (offset_at r r.floor) ≤ max from (length r.head)
    → media_bytes r from len ≡ Some (take len (drop (kept_offset r from) (concat (kept_slices r))))
kept_shown r from len valid kept =
    let at : ℕ = kept_offset r from in
    let span : from + len - from ≡ len = omega arith in
    let shown = without (map Some r.head) (replicate (hole r) None) (map Some (concat r.units)) from len at (omega (arith, kept, heads r, holes r)) (omega (arith, heads r, holes r)) in
    let joined : map Some r.head ++ map Some (concat r.units) ≡ map Some (concat (kept_slices r)) =
    sym (map-append Some r.head (concat r.units)) ∙ ap (map Some) (sym (kept-joined r valid)) in
    let some = ap (take len) (drop-map Some at (concat (kept_slices r))) ∙ take-map Some len (drop at (concat (kept_slices r))) in
    ap whole_range (ap (λ n. take n (drop from (bytes_of r))) span ∙ shown ∙ ap (λ xs. take len (drop at xs)) joined ∙ some)
    ∙ whole-map (take len (drop at (concat (kept_slices r))))

-- in a valid recording, a part without trimmed bytes has the bytes of the joined slices from its offset there on
pub part_kept : (r : RecordingData) (from len : ℕ) → IsRecorded r → min (from + len) (offset_at r r.floor) ≤ max from (length r.head)
    → media_bytes r from len ≡ Some (take len (drop (kept_offset r from) (concat (kept_slices r))))
part_kept r from len valid kept = kept_shown r from len valid.kept kept

-- ---- the resource of a recording that other bytes precede

-- each entry between the two lists is None
hole-at : (xs : List (Option ℕ)) (n : ℕ) (ys : List (Option ℕ)) (i : ℕ) → length xs ≤ i → i < length xs + n →
    get_or (xs ++ replicate n None ++ ys) i None ≡ None
hole-at [] zero ys i low high = absurd (omega (arith, high))
hole-at [] (suc n) ys zero low high = refl
hole-at [] (suc n) ys (suc i) low high = hole-at [] n ys i (omega arith) (omega (arith, high))
hole-at (x ∷ xs) n ys zero low high = absurd (omega (arith, low))
hole-at (x ∷ xs) n ys (suc i) low high = hole-at xs n ys i (omega (arith, low)) (omega (arith, high))

-- a resource has the bytes that precede the recording's units and those of the recording
based-length : (before : ℕ) (r : RecordingData) → IsRecorded r → length (based_bytes before r) ≡ before + total_of r
based-length before r valid =
    let one = length-append (map Some r.head ++ replicate before None) (drop (length r.head) (bytes_of r)) in
    let two = length-append (map Some r.head) (replicate {A = Option ℕ} before None) in
    let n : length {A = Option ℕ} (replicate before None) ≡ before = length-replicate before None in
    omega (arith, one, two, n, heads r, length-drop (length r.head) (bytes_of r), bytes_length r valid)

-- a part of a resource that has one of the bytes that precede the recording's units is unavailable
pub based_gone : (before : ℕ) (r : RecordingData) (from len : ℕ) → IsRecorded r → from + len ≤ before + total_of r →
    max from (length r.head) < min (from + len) (length r.head + before) → based_media_bytes before r from len ≡ None
based_gone before r from len valid within gone =
    let whole : List (Option ℕ) = based_bytes before r in
    let at : ℕ = max from (length r.head) - from in
    let number : from + at ≡ max from (length r.head) = omega arith in
    let inside : at < len = omega (arith, gone) in
    let few : length (take len (drop from whole)) ≡ len =
    length-take-le len (drop from whole) (omega (arith, length-drop from whole, based-length before r valid, within)) in
    let none : get_or whole (from + at) None ≡ None =
    hole-at (map Some r.head) before (drop (length r.head) (bytes_of r)) (from + at) (omega (arith, heads r, number)) (omega (arith, heads r, number, gone)) in
    none-at (take len (drop from whole)) at (omega (arith, few, inside))
    (get_or-take len (drop from whole) at None inside ∙ (get_or-drop from whole at None ∙ none))

-- a part of a resource with none of the bytes that precede the recording's units is within the recording, from its own offset on
pub based_fits : (before : ℕ) (r : RecordingData) (from len : ℕ) → from + len ≤ before + total_of r →
    min (from + len) (length r.head + before) ≤ max from (length r.head) → own_offset before r from + len ≤ total_of r
based_fits before r from len within kept = omega (arith, within, kept)

-- after the first of two joined lists comes the second
head-first : (xs ys : List (Option ℕ)) → drop (length xs) (xs ++ ys) ≡ ys
head-first [] ys = refl
head-first (x ∷ xs) ys = head-first xs ys

-- the init section and what follows it in a recording make up the recording
head-rest : (r : RecordingData) → map Some r.head ++ drop (length r.head) (bytes_of r) ≡ bytes_of r
head-rest r =
    let xs : List (Option ℕ) = map Some r.head in
    let rest : List (Option ℕ) = replicate (hole r) None ++ map Some (concat r.units) in
    let parts : bytes_of r ≡ xs ++ rest = append_assoc xs (replicate (hole r) None) (map Some (concat r.units)) in
    let after : drop (length r.head) (xs ++ rest) ≡ rest =
    ap (λ n. drop n (xs ++ rest)) (sym (heads r)) ∙ head-first xs rest in
    ap (λ ys. xs ++ drop (length r.head) ys) parts ∙ (ap (λ ys. xs ++ ys) after ∙ sym parts)

-- a part of a resource with none of the bytes that precede the recording's units has the recording's bytes from its own offset on
pub based_kept : (before : ℕ) (r : RecordingData) (from len : ℕ) → min (from + len) (length r.head + before) ≤ max from (length r.head) →
    based_media_bytes before r from len ≡ media_bytes r (own_offset before r from) len
based_kept before r from len kept =
    let at : ℕ = own_offset before r from in
    let n : length {A = Option ℕ} (replicate before None) ≡ before = length-replicate before None in
    let span : at + len - at ≡ len = omega arith in
    let shown = without (map Some r.head) (replicate before None) (drop (length r.head) (bytes_of r)) from len at
    (omega (arith, kept, heads r, n)) (omega (arith, heads r, n)) in
    ap whole_range (shown ∙ (ap (λ xs. take len (drop at xs)) (head-rest r) ∙ ap (λ m. take m (drop at (bytes_of r))) (sym span)))

-- ---- a reply

-- if all units from number `first` on are kept, the slices are the init section and the units from `first` to the one before `end`
from_kept : (r : RecordingData) (first end : ℕ) → r.floor ≤ first → slices_between (Some r) first end ≡ r.head ∷ units_between r.floor r.units first end
from_kept r first end kept =
    let above : max first r.floor ≡ first = omega arith in
    ap (λ n. r.head ∷ units_between r.floor r.units n end) above

-- the slices of a reply's units in its own snapshot are the parts of its resource
pub reply_slices : (reply : ReplyData) (s : State) (r : ℕ) (span : ReplyUnits) → s ≡ reply.state → AreReplyUnits reply r span
    → Some (slices_between (recording_of s r) span.first span.end) ≡ parts_in reply r
reply_slices reply s r span same are =
    ap (λ (t : State). Some (slices_between (recording_of t r) span.first span.end)) same
    ∙ ap (λ (o : Option RecordingData). Some (slices_between o span.first span.end)) are.recorded
    ∙ ap Some (from_kept span.recording.now span.first span.end are.kept)
    ∙ sym are.parts
