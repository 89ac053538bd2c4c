-- A fragment that is written is read again as it was.
use Rattle.std.proofs.Common.{◌≡◌, ◌∙◌, ℕ, ◌+◌, ◌^◌, ◌<◌, ◌==◌, ◌||◌, nat_le, Bool, true, false, Option, Some, None, option_map, option_and_then, List, [], ◌∷◌, ◌++◌, length, drop, refl, sym, ap, arith, length-append, append_assoc}
use Rattle.std.specs.Prelude.{All, unwrap_or}
use Rattle.std.specs.List.{concat, list_all, flat_map}
use Rattle.std.specs.Int.{w32}
use Rattle.std.proofs.lemmas.Bool.{eq-eqb, le-leb}
use Rattle.std.proofs.lemmas.List.{take_at, drop_at, append-nil}
use Rattle.std.proofs.lemmas.List.Elements.{All-head, All-tail}
use Rattle.hls_boxes.specs.Boxes.{box_at, number_at}
use Rattle.hls_boxes.specs.Kinds.{moov_type, mdat_type}
use Rattle.hls_boxes.proofs.Callers.{header_at-append}
use Rattle.hls_media_laws.specs.Fields.{has_flag}
use Rattle.hls_media_laws.specs.Flags.{sample_composition_time_offsets_present}
use Rattle.hls_mend_laws.specs.declared.sample.Sample.{Sample}
use Rattle.hls_mend_laws.specs.declared.row_format.RowFormat.{RowFormat}
use Rattle.hls_mend_laws.specs.declared.row_format.SampleDefaults.{SampleDefaults}
use Rattle.hls_mend_laws.specs.Bytes.{words, Box, boxes_bytes}
use Rattle.hls_mend_laws.specs.Fragments.{row, Fragment, payload_offset, mfhd_of, tfhd_of, tfdt_of, trun_of, traf_of, moof_of, mdat_of, fragment_bytes, total_size, HasFields}
use Rattle.hls_mend_laws.specs.FragmentsRead.{most_samples, split_box, only_box, Front, front_of, TrafParts, traf_parts, moof_parts, UnitParts, with_moof, unit_parts, sample_defaults, row_format, row_sample, rows_samples, run_samples, keeps_offset, keeps_offsets, is_readable, checked_fragment, fragment_from, fragment_of}
use Rattle.hls_mend_laws.specs.ReadBack.{IsKeptBox, IsComplete, FragmentsAreReadBack}
use Rattle.hls_mend_laws.proofs.Words.{word-at}
use Rattle.hls_mend_laws.proofs.BoxLaws.{IsSmallBox, header_of, whole-box, box-read, content-read, rest-read}
use Rattle.hls_mend_laws.proofs.FrontLaws.{front-kept, front-moof}
use Rattle.hls_mend_laws.proofs.TrunLaws.{table, trun-len, IsTrun, rows-start, fits-trun, no-first-flags}
use Rattle.hls_mend_laws.proofs.FragmentLaws.{traf-len, moof-len, fragment-len, run_of, tfdt-fits, tfdt-time, run-written}

-- ---- one box

-- the first of several written boxes is split off by its type, and the others are the rest
split-read : (b : Box) (bs : List Box) → IsSmallBox b → split_box b.kind (boxes_bytes (b ∷ bs)) ≡ Some (record { content = b.content; rest = boxes_bytes bs })
unfolding split_box
split-read b bs small =
    let same : (b.kind == b.kind) ≡ true = eq-eqb b.kind b.kind refl in
    rw (box-read b (boxes_bytes bs) small, same, content-read b (boxes_bytes bs), rest-read b (boxes_bytes bs)) refl

-- a written box that nothing follows is read as the only box of its type
only-read : (b : Box) → IsSmallBox b → only_box b.kind (boxes_bytes (b ∷ [])) ≡ Some b.content
unfolding only_box
only-read b small = rw (split-read b [] small) refl

-- ---- the boxes before the `moof`

-- the front with these bytes kept before those of another front
abbrev after : List ℕ → Option Front → Option Front
after kept o = option_map (λ (f : Front). record { kept = kept ++ f.kept; rest = f.rest }) o

-- keeping no bytes before a front leaves it as it is
after-nothing : (o : Option Front) → o ≡ after [] o
after-nothing None = refl
after-nothing (Some f) = refl

-- keeping bytes before a front twice is keeping both, one after the other
after-both : (a b : List ℕ) (o : Option Front) → after a (after b o) ≡ after (a ++ b) o
after-both a b None = refl
after-both a b (Some f) = ap (λ (xs : List ℕ). Some (record { kept = xs; rest = f.rest })) (sym (append_assoc a b f.kept))

-- a kept box before other bytes is kept before the front of these bytes
front-box : (box rest : List ℕ) → IsKeptBox box → front_of (box ++ rest) ≡ after box (front_of rest)
front-box box rest k =
    let h = k.loose.header in
    let found : box_at (box ++ rest) ≡ Some h =
    whole-box (box ++ rest) h (header_at-append box rest h k.loose.starts) k.loose.fits (omega (arith, length-append box rest, k.loose.whole)) in
    let other : (h.kind == moov_type || h.kind == mdat_type) ≡ false = rw (k.loose.not_moov, k.loose.not_mdat) refl in
    front-kept (box ++ rest) h found k.loose.not_moof other k.not_sidx
    ∙ ap (λ (xs : List ℕ). after xs (front_of (drop h.size (box ++ rest)))) (take_at box rest h.size k.loose.whole)
    ∙ ap (λ (xs : List ℕ). after box (front_of xs)) (drop_at box rest h.size k.loose.whole)

-- several kept boxes before other bytes are all kept before the front of these bytes
front-boxes : (boxes : List (List ℕ)) (rest : List ℕ) → All IsKeptBox boxes → front_of (concat boxes ++ rest) ≡ after (concat boxes) (front_of rest)
front-boxes [] rest each = after-nothing (front_of rest)
front-boxes (b ∷ bs) rest each =
    ap front_of (append_assoc b (concat bs) rest)
    ∙ front-box b (concat bs ++ rest) (All-head IsKeptBox b bs each)
    ∙ ap (after b) (front-boxes bs rest (All-tail IsKeptBox b bs each))
    ∙ after-both b (concat bs) (front_of rest)

-- ---- the boxes of the `moof`

-- the parts of a fragment's `traf`, as they are read
abbrev parts_of : Fragment → TrafParts
parts_of f = record { head = f.head; time = (tfdt_of f.start).content; run = run_of f }

-- the parts of a written `traf` are read as they were written
traf-parts : (f : Fragment) → payload_offset f < 2 ^ 31 → traf_parts (traf_of f).content ≡ Some (parts_of f)
unfolding traf_parts
traf-parts f near =
    let trun = trun_of (payload_offset f) f.samples in
    let run = only-read trun (record { kind = omega arith; len = omega (arith, near, trun-len (payload_offset f) f.samples) }) in
    let time = split-read (tfdt_of f.start) (trun ∷ []) (record { kind = omega arith; len = omega arith }) in
    let head = split-read (tfhd_of f) (tfdt_of f.start ∷ trun ∷ []) (record { kind = omega arith; len = omega (arith, near) }) in
    rw (head, time, run) refl

-- the sequence number and the parts of the `traf` in a written `moof` are read as they were written
moof-parts : (f : Fragment) → payload_offset f < 2 ^ 31 → f.number < 2 ^ 32 → moof_parts (moof_of f).content ≡ Some (record { number = f.number; traf = parts_of f })
unfolding moof_parts
moof-parts f near fits =
    let traf = only-read (traf_of f) (record { kind = omega arith; len = omega (arith, near, traf-len f) }) in
    let mfhd = split-read (mfhd_of f) (traf_of f ∷ []) (record { kind = omega arith; len = omega arith }) in
    let number : number_at w32 4 (mfhd_of f).content ≡ f.number = word-at (0 ∷ []) f.number [] 4 refl fits in
    rw (mfhd, traf, traf-parts f near, number) refl

-- the parts of the unit that a fragment is written as
abbrev unit_of : Fragment → UnitParts
unit_of f = record { front = f.front; moof = record { number = f.number; traf = parts_of f }; payload = f.payload }

-- the bytes of a fragment's `moof` and `mdat`
abbrev body_of : Fragment → List ℕ
body_of f = boxes_bytes (moof_of f ∷ mdat_of f ∷ [])

-- a written `moof` and `mdat` after this front are read as the fragment's parts with this front
body-parts : (f : Fragment) (front : List ℕ) → payload_offset f + length f.payload < 2 ^ 31 → f.number < 2 ^ 32
    → with_moof (record { kept = front; rest = body_of f }) ≡ Some (record (unit_of f) { front = front })
body-parts f front near fits =
    let moof = split-read (moof_of f) (mdat_of f ∷ []) (record { kind = omega arith; len = omega (arith, near, moof-len f) }) in
    let payload = only-read (mdat_of f) (record { kind = omega arith; len = omega (arith, near) }) in
    rw (moof, moof-parts f (omega (arith, near)) fits, payload) refl

-- the parts of a complete fragment's unit are read as they were written
unit-parts : (f : Fragment) → IsComplete f → unit_parts (fragment_bytes f) ≡ Some (unit_of f)
unfolding unit_parts fragment_bytes
unit-parts f c =
    let near : payload_offset f + length f.payload < 2 ^ 31 = omega (arith, fragment-len f, c.short) in
    let found = box-read (moof_of f) (boxes_bytes (mdat_of f ∷ [])) (record { kind = omega arith; len = omega (arith, near, moof-len f) }) in
    let body : front_of (body_of f) ≡ Some (record { kept = []; rest = body_of f }) = front-moof (body_of f) (header_of (moof_of f)) found refl in
    let front : front_of (f.front ++ body_of f) ≡ Some (record { kept = f.front; rest = body_of f }) =
    ap (λ (t : List ℕ). front_of (t ++ body_of f)) c.joined ∙ front-boxes c.boxes (body_of f) c.each ∙ ap (after (concat c.boxes)) body
    ∙ ap (λ (xs : List ℕ). Some (record { kept = xs; rest = body_of f })) (append-nil (concat c.boxes) ∙ sym c.joined) in
    ap (option_and_then with_moof) front ∙ body-parts f f.front near c.number

-- ---- the samples

-- the format of the rows that mending writes: they have every field
abbrev all_columns : SampleDefaults → RowFormat
all_columns d = record {
  duration = record { present = true; default = unwrap_or d.duration 0 };
  size = record { present = true; default = unwrap_or d.size 0 };
  flags = record { present = true; default = unwrap_or d.flags 0 };
  offset = record { present = true; default = 0 };
}

-- the rows of a written `trun` have every field
format-read : (d : SampleDefaults) (run : List ℕ) (offset : ℕ) (ss : List Sample) → IsTrun run offset ss → row_format d run ≡ Some (all_columns d)
unfolding row_format
format-read d run offset ss t =
    let offsets : has_flag run sample_composition_time_offsets_present ≡ true = rw t.flags refl in
    let columns : Bool → RowFormat = λ b. record {
      duration = record { present = true; default = unwrap_or d.duration 0 };
      size = record { present = true; default = unwrap_or d.size 0 };
      flags = record { present = true; default = unwrap_or d.flags 0 };
      offset = record { present = b; default = 0 };
    } in
    rw t.flags (ap (λ (b : Bool). Some (columns b)) offsets)

-- the first row of a written table is read as the sample that it was written for
sample-read : (d : SampleDefaults) (s : Sample) (ss : List Sample) → HasFields s → row_sample (all_columns d) (table (s ∷ ss)) ≡ s
sample-read d s ss fits =
    let others = flat_map row ss in
    let duration : number_at w32 0 (words (s.duration ∷ s.size ∷ s.flags ∷ s.offset ∷ others)) ≡ s.duration = word-at [] s.duration (words (s.size ∷ s.flags ∷ s.offset ∷ others)) 0 refl fits.duration in
    let size : number_at w32 0 (words (s.size ∷ s.flags ∷ s.offset ∷ others)) ≡ s.size = word-at [] s.size (words (s.flags ∷ s.offset ∷ others)) 0 refl fits.size in
    let flags : number_at w32 0 (words (s.flags ∷ s.offset ∷ others)) ≡ s.flags = word-at [] s.flags (words (s.offset ∷ others)) 0 refl fits.flags in
    let offset : number_at w32 0 (words (s.offset ∷ others)) ≡ s.offset = word-at [] s.offset (words others) 0 refl fits.offset in
    rw (duration, size, flags, offset) refl

-- all rows of a written table are read as the samples that they were written for
table-read : (d : SampleDefaults) (ss : List Sample) → All HasFields ss → rows_samples (length ss) (all_columns d) (table ss) ≡ ss
unfolding rows_samples
table-read d [] fits = refl
table-read d (s ∷ ss) fits =
    let first = sample-read d s ss (All-head HasFields s ss fits) in
    let others = table-read d ss (All-tail HasFields s ss fits) in
    rw (first, others) refl

-- the samples of a written `trun` are read as they were, whatever the defaults
run-read : (d : SampleDefaults) (run : List ℕ) (offset : ℕ) (ss : List Sample) → IsTrun run offset ss → All HasFields ss → run_samples d run ≡ Some ss
unfolding run_samples
run-read d run offset ss t fits =
    rw (format-read d run offset ss t, no-first-flags run offset ss t, t.count, rows-start run offset ss t, t.rows) (ap Some (table-read d ss fits))

-- every composition offset is kept if offsets are signed
all-kept : (ss : List Sample) → list_all (keeps_offset true) ss ≡ true
all-kept [] = refl
all-kept (s ∷ ss) = all-kept ss

-- ---- the fragment

-- the parts of a complete fragment's unit are readable: all fields fit, and there are no more samples than payload bytes
readable : (f : Fragment) → IsTrun (run_of f) (payload_offset f) f.samples → IsComplete f → is_readable (unit_of f) ≡ true
readable f t c =
    let count : nat_le (length f.samples) (length f.payload) ≡ true = le-leb (length f.samples) (length f.payload) c.few in
    let most : nat_le (length f.samples) most_samples ≡ true = le-leb (length f.samples) most_samples c.taken_apart in
    rw (c.head, tfdt-fits f.start, fits-trun (run_of f) (payload_offset f) f.samples t, t.count, count, most) refl

-- the parts of a complete fragment's unit with its samples are that fragment
checked : (f : Fragment) → IsComplete f → checked_fragment (unit_of f) f.samples ≡ Some f
checked f c =
    let full : (total_size f.samples == length f.payload) ≡ true = eq-eqb (total_size f.samples) (length f.payload) c.filled in
    let kept : keeps_offsets (run_of f) f.samples ≡ true = all-kept f.samples in
    rw (full, kept, tfdt-time f.start c.start) refl

-- a complete fragment that is written is read again as it was
pub fragments-are-read-back : FragmentsAreReadBack
unfolding fragment_of
fragments-are-read-back init f c =
    let near : payload_offset f < 2 ^ 31 = omega (arith, fragment-len f, c.short) in
    let t : IsTrun (run_of f) (payload_offset f) f.samples = run-written f near in
    ap (option_and_then (fragment_from init.tracks)) (unit-parts f c)
    ∙ rw (readable f t c, run-read (sample_defaults init.tracks f.head) (run_of f) (payload_offset f) f.samples t c.fields) (checked f c)
