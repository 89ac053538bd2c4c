-- A fragment that is written is a unit with the facts that it was written for.
use Rattle.std.proofs.Common.{◌≡◌, ◌∙◌, ℕ, pos, ◌+◌, ◌*◌, ◌^◌, ◌<◌, ◌≤◌, ◌==◌, nat_lt, nat_le, true, false, Option, Some, None, option_map, option_and_then, List, [], ◌∷◌, ◌++◌, length, drop, refl, ap, subst, arith, length-append, append_assoc}
use Rattle.std.specs.Prelude.{Ok, All, not}
use Rattle.std.specs.List.{list_any, concat}
use Rattle.std.proofs.lemmas.Bool.{le-ltb, lt-leb, ne_eqb, and_parts, or_from, and_right, cond_both}
use Rattle.std.proofs.lemmas.List.{drop_at}
use Rattle.std.proofs.lemmas.List.Elements.{All-nil, All-cons, All-head, All-tail}
use Rattle.hls_boxes.specs.Boxes.{box_at, Child, child_of, children}
use Rattle.hls_boxes.specs.Kinds.{moov_type, moof_type, mdat_type, unit_limit}
use Rattle.hls_boxes.proofs.Callers.{header_at-append, header_at-within, children-step}
use Rattle.hls_time.specs.Times.{floor_us}
use Rattle.hls_media_laws.specs.Flags.{base_data_offset_present, default_base_is_moof}
use Rattle.hls_media_laws.specs.Fields.{has_flag, tfhd_fits, tfdt_fits, decode_time}
use Rattle.hls_media_laws.specs.Layout.{Layout, layout_of, layout_of_boxes}
use Rattle.hls_media_laws.specs.Runs.{run_begin, extent_of_run}
use Rattle.hls_media_laws.specs.Trafs.{Traf, traf_at, trafs_of}
use Rattle.hls_media_laws.specs.TrafFacts.{UnitContext, duration_for, size_for, flags_for, base_of, extents_of_unit, lies_outside}
use Rattle.hls_media_laws.specs.InitData.{InitData, timing_track}
use Rattle.hls_media_laws.specs.UnitFacts.{unit_context, facts_if_good, facts}
use Rattle.hls_media_laws.specs.IsInitOrUnit.{IsUnit}
use Rattle.hls_mend_laws.specs.declared.sample.Sample.{Sample}
use Rattle.hls_mend_laws.specs.Bytes.{Box, boxes_bytes}
use Rattle.hls_mend_laws.specs.Fragments.{Fragment, payload_offset, mfhd_of, tfhd_of, tfdt_of, trun_of, traf_of, moof_of, mdat_of, fragment_bytes, total_duration, total_size, HasFields, IsLooseBox, AreLooseBoxes, IsWhole, fragment_facts, FragmentsAreUnits}
use Rattle.hls_mend_laws.proofs.Words.{long-at}
use Rattle.hls_mend_laws.proofs.BoxLaws.{boxes-len, IsSmallBox, whole-box, boxes-read}
use Rattle.hls_mend_laws.proofs.TrunLaws.{trun-len, IsTrun, is-trun, fits-trun, data-offset, duration-read, size-read, no-duration-missing, no-size-missing, some-samples, flags-read}
use Rattle.hls_mend_laws.proofs.OneTraf.{IsGoodTraf, good-facts}
use Rattle.hls_mend_laws.proofs.Options.{none-or-some, not-from}

-- ---- lengths

-- the content of a written `traf` is 48 bytes, the content of its `tfhd`, and 16 bytes for each sample
pub traf-len : (f : Fragment) → length (traf_of f).content ≡ 48 + length f.head + 16 * length f.samples
traf-len f =
    let tfhd = boxes-len (tfhd_of f) (tfdt_of f.start ∷ trun_of (payload_offset f) f.samples ∷ []) in
    let tfdt = boxes-len (tfdt_of f.start) (trun_of (payload_offset f) f.samples ∷ []) in
    let trun = boxes-len (trun_of (payload_offset f) f.samples) [] in
    omega (arith, tfhd, tfdt, trun, trun-len (payload_offset f) f.samples)

-- the content of a written `moof` is 72 bytes, the content of its `tfhd`, and 16 bytes for each sample
pub moof-len : (f : Fragment) → length (moof_of f).content ≡ 72 + length f.head + 16 * length f.samples
moof-len f =
    let mfhd = boxes-len (mfhd_of f) (traf_of f ∷ []) in
    let traf = boxes-len (traf_of f) [] in
    omega (arith, mfhd, traf, traf-len f)

-- a written unit is as long as the boxes before its `moof`, the bytes from the `moof` to the payload, and the payload
pub fragment-len : (f : Fragment) → length (fragment_bytes f) ≡ length f.front + (payload_offset f + length f.payload)
unfolding fragment_bytes
fragment-len f =
    let moof = boxes-len (moof_of f) (mdat_of f ∷ []) in
    let mdat = boxes-len (mdat_of f) [] in
    omega (arith, moof, mdat, moof-len f, length-append f.front (boxes_bytes (moof_of f ∷ mdat_of f ∷ [])))

-- ---- the layout

-- a loose box before other boxes doesn't change their layout
skip-loose : (b : Child) (bs : List Child) → (b.kind == moof_type) ≡ false → (b.kind == mdat_type) ≡ false → (b.kind == moov_type) ≡ false
    → layout_of_boxes (b ∷ bs) ≡ layout_of_boxes bs
skip-loose b bs moof mdat moov = rw (moof, mdat, moov) refl

-- a loose box before the boxes that were found, if any were, doesn't change their layout
pub skip-mapped : (b : Child) (o : Option (List Child)) → (b.kind == moof_type) ≡ false → (b.kind == mdat_type) ≡ false → (b.kind == moov_type) ≡ false
    → option_and_then layout_of_boxes (option_map (λ more. b ∷ more) o) ≡ option_and_then layout_of_boxes o
skip-mapped b None moof mdat moov = refl
skip-mapped b (Some bs) moof mdat moov = skip-loose b bs moof mdat moov

-- one loose box before other bytes doesn't change their layout
pub layout-after-box : (box rest : List ℕ) → IsLooseBox box
    → option_and_then layout_of_boxes (children (box ++ rest)) ≡ option_and_then layout_of_boxes (children rest)
layout-after-box box rest loose =
    let within = header_at-within box loose.header loose.starts in
    let some : 0 < length (box ++ rest) = omega (arith, length-append box rest, within.0, within.1) in
    let found : box_at (box ++ rest) ≡ Some loose.header =
    whole-box (box ++ rest) loose.header (header_at-append box rest loose.header loose.starts) loose.fits (omega (arith, length-append box rest, loose.whole)) in
    let behind : drop loose.header.size (box ++ rest) ≡ rest = drop_at box rest loose.header.size loose.whole in
    ap (option_and_then layout_of_boxes) (children-step (box ++ rest) some)
    ∙ rw (found, behind) (skip-mapped (child_of loose.header (box ++ rest)) (children rest) loose.not_moof loose.not_mdat loose.not_moov)

-- several loose boxes before other bytes don't change their layout
layout-after : (boxes : List (List ℕ)) (rest : List ℕ) → All IsLooseBox boxes
    → option_and_then layout_of_boxes (children (concat boxes ++ rest)) ≡ option_and_then layout_of_boxes (children rest)
layout-after [] rest each = refl
layout-after (b ∷ bs) rest each =
    ap (λ t. option_and_then layout_of_boxes (children t)) (append_assoc b (concat bs) rest)
    ∙ layout-after-box b (concat bs ++ rest) (All-head IsLooseBox b bs each)
    ∙ layout-after bs rest (All-tail IsLooseBox b bs each)

-- bytes that are loose boxes don't change the layout of the bytes after them
pub layout-after-front : (front rest : List ℕ) → AreLooseBoxes front
    → option_and_then layout_of_boxes (children (front ++ rest)) ≡ option_and_then layout_of_boxes (children rest)
layout-after-front front rest loose =
    ap (λ t. option_and_then layout_of_boxes (children (t ++ rest))) loose.joined ∙ layout-after loose.boxes rest loose.each

-- two small boxes are a list of small boxes
two-small : (a b : Box) → IsSmallBox a → IsSmallBox b → All IsSmallBox (a ∷ b ∷ [])
two-small a b first second = All-cons IsSmallBox a (b ∷ []) first (All-cons IsSmallBox b [] second (All-nil IsSmallBox))

-- the layout of a written unit: its `moof`, and where its payload is
abbrev pub layout_written : Fragment → Layout
layout_written f = record { moof = (moof_of f).content; low = (8 + length (moof_of f).content) + 8; high = (8 + length (moof_of f).content) + (8 + length f.payload) }

-- a written unit within the limit has the layout of its own `moof` and payload, if loose boxes precede its `moof`
pub layout-written : (f : Fragment) → AreLooseBoxes f.front → length (fragment_bytes f) ≤ unit_limit → layout_of (fragment_bytes f) ≡ Some (layout_written f)
unfolding layout_of fragment_bytes
layout-written f loose short =
    let moof : IsSmallBox (moof_of f) = record { kind = omega arith; len = omega (arith, moof-len f, fragment-len f, short) } in
    let mdat : IsSmallBox (mdat_of f) = record { kind = omega arith; len = omega (arith, fragment-len f, short) } in
    let read = boxes-read (moof_of f ∷ mdat_of f ∷ []) (two-small (moof_of f) (mdat_of f) moof mdat) in
    rw (le-ltb unit_limit (length (fragment_bytes f)) short)
    (layout-after-front f.front (boxes_bytes (moof_of f ∷ mdat_of f ∷ [])) loose ∙ rw read refl)

-- ---- the `traf`

-- the content of a fragment's `trun`
abbrev pub run_of : Fragment → List ℕ
run_of f = (trun_of (payload_offset f) f.samples).content

-- the `traf` of a written unit, as it is read: its `tfhd`, its `tfdt` and its one `trun`
unfoldable pub traf_written : Fragment → Traf
traf_written f = record { head = f.head; time = Some (tfdt_of f.start).content; runs = run_of f ∷ [] }

-- the fields of a written `tfdt` are within it
pub tfdt-fits : (start : ℕ) → tfdt_fits (tfdt_of start).content ≡ true
unfolding tfdt_fits
tfdt-fits start = refl

-- the decode time that is read of a written `tfdt` is its start
pub tfdt-time : (start : ℕ) → start < 2 ^ 64 → decode_time (tfdt_of start).content ≡ start
unfolding decode_time
tfdt-time start fits = long-at 0x01000000 start fits

-- the `trun` of a fragment says the fragment's samples and the offset of its payload, if that offset is below 2^31
pub run-written : (f : Fragment) → payload_offset f < 2 ^ 31 → IsTrun (run_of f) (payload_offset f) f.samples
run-written f near = is-trun (payload_offset f) f.samples (omega (arith, near)) (omega (arith, near))

-- a written `traf` is read as its `tfhd`, its `tfdt` and its one `trun`
traf-read : (f : Fragment) → payload_offset f < 2 ^ 31 → tfhd_fits f.head ≡ true → traf_at (traf_of f).content ≡ Some (traf_written f)
unfolding traf_at traf_written
traf-read f near fits =
    let tfhd : IsSmallBox (tfhd_of f) = record { kind = omega arith; len = omega (arith, near) } in
    let tfdt : IsSmallBox (tfdt_of f.start) = record { kind = omega arith; len = omega arith } in
    let trun : IsSmallBox (trun_of (payload_offset f) f.samples) = record { kind = omega arith; len = omega (arith, near, trun-len (payload_offset f) f.samples) } in
    let read = boxes-read (tfhd_of f ∷ tfdt_of f.start ∷ trun_of (payload_offset f) f.samples ∷ [])
    (All-cons IsSmallBox (tfhd_of f) (tfdt_of f.start ∷ trun_of (payload_offset f) f.samples ∷ []) tfhd (two-small (tfdt_of f.start) (trun_of (payload_offset f) f.samples) tfdt trun)) in
    rw read (rw (fits, tfdt-fits f.start, fits-trun (run_of f) (payload_offset f) f.samples (run-written f near)) refl)

-- a written `moof` has exactly its one `traf`
pub trafs-written : (f : Fragment) → payload_offset f < 2 ^ 31 → tfhd_fits f.head ≡ true → trafs_of (moof_of f).content ≡ Some (traf_written f ∷ [])
unfolding trafs_of
trafs-written f near fits =
    let mfhd : IsSmallBox (mfhd_of f) = record { kind = omega arith; len = omega arith } in
    let traf : IsSmallBox (traf_of f) = record { kind = omega arith; len = omega (arith, near, traf-len f) } in
    rw (boxes-read (mfhd_of f ∷ traf_of f ∷ []) (two-small (mfhd_of f) (traf_of f) mfhd traf)) (rw (traf-read f near fits) refl)

-- ---- the facts

-- the bytes of a fragment's run are inside the content of the `mdat`, if its samples fill the payload
extent-inside : (g : UnitContext) (d : Option ℕ) (f : Fragment) → IsTrun (run_of f) (payload_offset f) f.samples → payload_offset f < 2 ^ 31 → All HasFields f.samples
    → total_size f.samples ≡ length f.payload → g.low ≡ pos (payload_offset f) → g.high ≡ pos (payload_offset f + length f.payload)
    → lies_outside g (extent_of_run d (pos 0) (pos 0) (run_of f)) ≡ false
unfolding run_begin
extent-inside g d f run near fields filled low high =
    let start = payload_offset f in
    let len = size-read d (run_of f) start f.samples run fields ∙ filled in
    let not-before : nat_lt (0 + start) start ≡ false = le-ltb (0 + start) start (omega arith) in
    let not-after : nat_lt (start + length f.payload) (0 + start + length f.payload) ≡ false = le-ltb (start + length f.payload) (0 + start + length f.payload) (omega arith) in
    rw (data-offset (run_of f) start f.samples run near, len, low, high) (rw (not-before, not-after) (and_right (nat_lt 0 (length f.payload)) false refl))

-- no byte range of a fragment's unit is outside the content of the `mdat`, if its samples fill the payload
inside-written : (g : UnitContext) (f : Fragment) → IsTrun (run_of f) (payload_offset f) f.samples → payload_offset f < 2 ^ 31 → All HasFields f.samples
    → total_size f.samples ≡ length f.payload → g.low ≡ pos (payload_offset f) → g.high ≡ pos (payload_offset f + length f.payload)
    → list_any (lies_outside g) (extents_of_unit g (pos 0) (traf_written f ∷ [])) ≡ false
unfolding traf_written
inside-written g f run near fields filled low high =
    let base : base_of (pos 0) (traf_written f) ≡ pos 0 = cond_both (has_flag f.head default_base_is_moof) (pos 0) (pos 0) (λ x. x ≡ pos 0) (λ e. refl) (λ e. refl) in
    rw base (or_from _ _ (extent-inside g (size_for g (traf_written f)) f run near fields filled low high) refl)

-- the context in which a fragment is read
abbrev context_written : InitData → Fragment → UnitContext
context_written init f = unit_context init (layout_written f)

-- no cause of rejection applies to the `traf` of a whole fragment that has samples
is-good : (init : InitData) (f : Fragment) (s : Sample) (ss : List Sample) → f.samples ≡ s ∷ ss → payload_offset f < 2 ^ 31 → IsWhole init f → IsGoodTraf (context_written init f) (traf_written f)
unfolding traf_written
is-good init f s ss samples near w =
    let g = context_written init f in
    let t = traf_written f in
    let run : IsTrun (run_of f) (payload_offset f) f.samples = run-written f near in
    let first : IsTrun (run_of f) (payload_offset f) (s ∷ ss) = subst (IsTrun (run_of f) (payload_offset f)) samples run in
    let fields : All HasFields (s ∷ ss) = subst (All HasFields) samples w.fields in
    let named = and_parts (not (has_flag f.head base_data_offset_present)) _ (and_parts (tfhd_fits f.head) _ w.head).1 in
    let starts : decode_time (tfdt_of f.start).content ≡ f.start = tfdt-time f.start (omega (arith, w.time.end_fits)) in
    let lasts = duration-read (duration_for g t) (run_of f) (payload_offset f) f.samples run w.fields in
    let some = some-samples (run_of f) (payload_offset f) s ss first in
    let times : (floor_us f.start (timing_track init).scale == floor_us (f.start + total_duration f.samples) (timing_track init).scale) ≡ false = ne_eqb _ _ w.time.some_time in
    let end : nat_le (2 ^ 64) (f.start + total_duration f.samples) ≡ false = lt-leb (2 ^ 64) (f.start + total_duration f.samples) w.time.end_fits in
    let end_us : nat_le (2 ^ 53) (floor_us (f.start + total_duration f.samples) (timing_track init).scale) ≡ false = lt-leb (2 ^ 53) _ w.time.end_us_fits in
    record {
      known = none-or-some _ ∙ ap not (and_parts _ _ named.1).0;
      no_base = not-from _ named.0;
      timing = (and_parts _ _ named.1).1;
      timed = refl;
      valued = rw (
        no-size-missing (size_for g t) (run_of f) (payload_offset f) f.samples run w.fields,
        no-duration-missing (duration_for g t) (run_of f) (payload_offset f) f.samples run w.fields,
        flags-read (flags_for g t) (run_of f) (payload_offset f) s ss first (All-head HasFields s ss fields),
        some,
      ) refl;
      lasting = rw (some, starts, lasts, times) refl;
      early = rw (starts, lasts, end, end_us) refl;
      inside = inside-written g f run near w.fields w.filled (ap pos (omega (arith, moof-len f))) (ap pos (omega (arith, moof-len f)));
    }

-- the facts that are read of a whole fragment's `traf` are the fragment's facts
facts-are : (init : InitData) (f : Fragment) (s : Sample) (ss : List Sample) → f.samples ≡ s ∷ ss → payload_offset f < 2 ^ 31 → IsWhole init f
    → facts_if_good (context_written init f) (length (fragment_bytes f)) (traf_written f) ≡ fragment_facts init f
unfolding traf_written
facts-are init f s ss samples near w =
    let g = context_written init f in
    let t = traf_written f in
    let run : IsTrun (run_of f) (payload_offset f) f.samples = run-written f near in
    let first : IsTrun (run_of f) (payload_offset f) (s ∷ ss) = subst (IsTrun (run_of f) (payload_offset f)) samples run in
    let fields : All HasFields (s ∷ ss) = subst (All HasFields) samples w.fields in
    let starts : decode_time (tfdt_of f.start).content ≡ f.start = tfdt-time f.start (omega (arith, w.time.end_fits)) in
    let lasts = duration-read (duration_for g t) (run_of f) (payload_offset f) f.samples run w.fields in
    let flags = flags-read (flags_for g t) (run_of f) (payload_offset f) s ss first (All-head HasFields s ss fields) in
    rw (starts, lasts, flags) (rw samples refl)

-- a whole fragment with these samples is a unit with the fragment's facts
unit-of-samples : (init : InitData) (f : Fragment) (ss : List Sample) → f.samples ≡ ss → IsWhole init f → IsUnit init (fragment_bytes f) (fragment_facts init f)
unfolding facts
unit-of-samples init f [] none w =
    let nothing : total_duration f.samples ≡ 0 = ap total_duration none in
    let same : f.start ≡ f.start + total_duration f.samples = omega (arith, nothing) in
    absurd (w.time.some_time (ap (λ (k : ℕ). floor_us k (timing_track init).scale) same))
unit-of-samples init f (s ∷ ss) samples w =
    let near : payload_offset f < 2 ^ 31 = omega (arith, fragment-len f, w.short) in
    rw (layout-written f w.loose w.short, trafs-written f near (and_parts (tfhd_fits f.head) _ w.head).0)
    (good-facts (context_written init f) (length (fragment_bytes f)) (traf_written f) (is-good init f s ss samples near w) ∙ ap Ok (facts-are init f s ss samples near w))

-- a whole fragment that is written is a unit with the fragment's facts
pub fragments-are-units : FragmentsAreUnits
fragments-are-units init f w = unit-of-samples init f f.samples refl w
