-- What is read of a `trun` that was written.
use Rattle.std.proofs.Common.{◌≡◌, ◌∙◌, ℕ, suc, pos, ◌+◌, ◌*◌, ◌^◌, ◌<◌, true, false, nat_lt, Option, Some, None, List, [], ◌∷◌, ◌++◌, length, drop, map, refl, sym, ap, arith}
use Rattle.std.specs.Prelude.{unwrap_or, sum_by, All}
use Rattle.std.specs.List.{flat_map}
use Rattle.std.specs.Int.{w32, from_be_bytes}
use Rattle.std.proofs.lemmas.Bool.{le-leb, lt-ltb}
use Rattle.std.proofs.lemmas.Int.{to_z_pos}
use Rattle.std.proofs.lemmas.List.{drop-drop}
use Rattle.std.proofs.lemmas.List.Elements.{All-head, All-tail}
use Rattle.std.proofs.lemmas.List.Sums.{sum_by-cons}
use Rattle.hls_boxes.specs.Boxes.{number_at}
use Rattle.hls_media_laws.specs.Runs.{duration_in, lacks_duration, lacks_size, has_samples, flags_in, first_sample_flags}
use Rattle.hls_media_laws.specs.Fields.{column, values, sample_count, first_flags_offset, rows_offset, row_len, trun_fits, durations, sizes, total, some_missing, data_offset, first_flags_of}
use Rattle.hls_mend_laws.specs.declared.sample.Sample.{Sample}
use Rattle.hls_mend_laws.specs.Bytes.{words}
use Rattle.hls_mend_laws.specs.Fragments.{row, trun_of, total_duration, total_size, HasFields}
use Rattle.hls_mend_laws.proofs.Words.{word-at}

-- the rows of these samples, as bytes
abbrev pub table : List Sample → List ℕ
table ss = words (flat_map row ss)

-- the rows of samples have 16 bytes for each
pub table-len : (ss : List Sample) → length (table ss) ≡ 16 * length ss
table-len [] = refl
table-len (s ∷ ss) = let more = table-len ss in omega (arith, more)

-- the content of a written `trun` is 12 bytes and 16 for each sample
pub trun-len : (offset : ℕ) (ss : List Sample) → length (trun_of offset ss).content ≡ 12 + 16 * length ss
trun-len offset ss = let rows = table-len ss in omega (arith, rows)

-- ---- a field of the rows

-- in each row, whatever follows it, this field is at this byte
abbrev IsFieldAt : ℕ → (Sample → ℕ) → Type 0
IsFieldAt at field = (s : Sample) (others : List ℕ) → HasFields s → number_at w32 at (words (row s) ++ words others) ≡ field s

-- the fields of a row are at bytes 0, 4, 8 and 12: the duration, the size, the flags and the composition offset
pub duration-at : IsFieldAt 0 (λ (s : Sample). s.duration)
duration-at s others fits = word-at [] s.duration (words (s.size ∷ s.flags ∷ s.offset ∷ others)) 0 refl fits.duration

pub size-at : IsFieldAt 4 (λ (s : Sample). s.size)
size-at s others fits = word-at (s.duration ∷ []) s.size (words (s.flags ∷ s.offset ∷ others)) 4 refl fits.size

pub flags-at : IsFieldAt 8 (λ (s : Sample). s.flags)
flags-at s others fits = word-at (s.duration ∷ s.size ∷ []) s.flags (words (s.offset ∷ others)) 8 refl fits.flags

pub offset-at : IsFieldAt 12 (λ (s : Sample). s.offset)
offset-at s others fits = word-at (s.duration ∷ s.size ∷ s.flags ∷ []) s.offset (words others) 12 refl fits.offset

-- a field that is at one byte of each row is read as the column of its values
field-column : (at : ℕ) (field : Sample → ℕ) → IsFieldAt at field → (ss : List Sample) → All HasFields ss → column (length ss) 16 at (table ss) ≡ map field ss
unfolding column
field-column at field is [] fits = refl
field-column at field is (s ∷ ss) fits =
    let here : number_at w32 at (table (s ∷ ss)) ≡ field s = is s (flat_map row ss) (All-head HasFields s ss fits) in
    let more : column (length ss) 16 at (table ss) ≡ map field ss = field-column at field is ss (All-tail HasFields s ss fits) in
    rw (here, more) refl

-- ---- the whole `trun`

-- the bytes of a `trun` say: all flags, the number of samples, the data offset, and the rows
pub record IsTrun (run : List ℕ) (offset : ℕ) (ss : List Sample) : Type 0 where
  pub flags : number_at w32 0 run ≡ 0x01000f01
  pub count : sample_count run ≡ length ss
  pub offset_is : number_at w32 8 run ≡ offset
  pub rows : drop 12 run ≡ table ss
  pub len : length run ≡ 12 + 16 * length ss

-- a written `trun` says what it was written for, if its number of samples and its data offset fit 32 bits
pub is-trun : (offset : ℕ) (ss : List Sample) → length ss < 2 ^ 32 → offset < 2 ^ 32 → IsTrun (trun_of offset ss).content offset ss
unfolding sample_count
is-trun offset ss few near = record {
  flags = word-at [] 0x01000f01 (words (length ss ∷ offset ∷ flat_map row ss)) 0 refl (omega arith);
  count = word-at (0x01000f01 ∷ []) (length ss) (words (offset ∷ flat_map row ss)) 4 refl few;
  offset_is = word-at (0x01000f01 ∷ length ss ∷ []) offset (table ss) 8 refl near;
  rows = refl;
  len = trun-len offset ss;
}

-- the rows of a written `trun` start at byte 12
pub rows-start : (run : List ℕ) (offset : ℕ) (ss : List Sample) → IsTrun run offset ss → rows_offset run ≡ 12
unfolding rows_offset first_flags_offset
rows-start run offset ss t = rw t.flags refl

-- the rows of a written `trun` have 16 bytes each
pub row-size : (run : List ℕ) (offset : ℕ) (ss : List Sample) → IsTrun run offset ss → row_len run ≡ 16
unfolding row_len
row-size run offset ss t = rw t.flags refl

-- the rows of a written `trun` are within it
pub fits-trun : (run : List ℕ) (offset : ℕ) (ss : List Sample) → IsTrun run offset ss → trun_fits run ≡ true
unfolding trun_fits
fits-trun run offset ss t =
    rw (rows-start run offset ss t, row-size run offset ss t, t.count) (le-leb (12 + length ss * 16) (length run) (omega (arith, t.len)))

-- the durations that are read of a written `trun` are those of its samples, whatever the default
pub durations-read : (d : Option ℕ) (run : List ℕ) (offset : ℕ) (ss : List Sample) → IsTrun run offset ss → All HasFields ss
    → durations d run ≡ map Some (map (λ (s : Sample). s.duration) ss)
unfolding values
durations-read d run offset ss t fits =
    rw (rows-start run offset ss t, row-size run offset ss t, t.count, t.rows, t.flags)
    (ap (λ ns. map Some ns) (field-column 0 (λ (s : Sample). s.duration) duration-at ss fits))

-- the sizes that are read of a written `trun` are those of its samples, whatever the default
pub sizes-read : (d : Option ℕ) (run : List ℕ) (offset : ℕ) (ss : List Sample) → IsTrun run offset ss → All HasFields ss
    → sizes d run ≡ map Some (map (λ (s : Sample). s.size) ss)
unfolding values
sizes-read d run offset ss t fits =
    rw (rows-start run offset ss t, row-size run offset ss t, t.count, t.rows, t.flags)
    (ap (λ ns. map Some ns) (field-column 4 (λ (s : Sample). s.size) size-at ss fits))

-- the total of a field that every sample has is the field's sum over the samples
pub values-total : (field : Sample → ℕ) (ss : List Sample) → total (map Some (map field ss)) ≡ sum_by field ss
values-total field [] = refl
values-total field (s ∷ ss) =
    let one = sum_by-cons (λ (v : Option ℕ). unwrap_or v 0) (Some (field s)) (map Some (map field ss)) in
    let sum = sum_by-cons field s ss in
    omega (arith, one, sum, values-total field ss)

-- no value is missing of a field that every sample has
values-there : (field : Sample → ℕ) (ss : List Sample) → some_missing (map Some (map field ss)) ≡ false
values-there field [] = refl
values-there field (s ∷ ss) = values-there field ss

-- the data offset of a written `trun` is read as it was, if it is below 2^31
pub data-offset : (run : List ℕ) (offset : ℕ) (ss : List Sample) → IsTrun run offset ss → offset < 2 ^ 31 → data_offset run ≡ Some (pos offset)
unfolding data_offset
data-offset run offset ss t near = rw (t.flags, t.offset_is) (ap Some (to_z_pos w32 offset near))

-- a written `trun` has no flags of its own for the first sample
pub no-first-flags : (run : List ℕ) (offset : ℕ) (ss : List Sample) → IsTrun run offset ss → first_flags_of run ≡ None
unfolding first_flags_of
no-first-flags run offset ss t = rw t.flags refl

-- ---- what the facts of a unit are read from

plus-nothing : (n : ℕ) → n + 0 ≡ n
plus-nothing n = omega arith

-- the duration that is read of a written `trun` for the facts is the sum of its samples' durations
pub duration-read : (d : Option ℕ) (run : List ℕ) (offset : ℕ) (ss : List Sample) → IsTrun run offset ss → All HasFields ss → duration_in d (run ∷ []) ≡ total_duration ss
duration-read d run offset ss t fits =
    sum_by-cons (λ (r : List ℕ). total (durations d r)) run [] ∙ plus-nothing (total (durations d run))
    ∙ ap total (durations-read d run offset ss t fits) ∙ values-total (λ (s : Sample). s.duration) ss

-- the total size that is read of a written `trun` is the sum of its samples' sizes
pub size-read : (d : Option ℕ) (run : List ℕ) (offset : ℕ) (ss : List Sample) → IsTrun run offset ss → All HasFields ss → total (sizes d run) ≡ total_size ss
size-read d run offset ss t fits = ap total (sizes-read d run offset ss t fits) ∙ values-total (λ (s : Sample). s.size) ss

-- a written `trun` lacks no duration
pub no-duration-missing : (d : Option ℕ) (run : List ℕ) (offset : ℕ) (ss : List Sample) → IsTrun run offset ss → All HasFields ss → lacks_duration d (run ∷ []) ≡ false
no-duration-missing d run offset ss t fits = rw (durations-read d run offset ss t fits) (rw (values-there (λ (s : Sample). s.duration) ss) refl)

-- a written `trun` lacks no size
pub no-size-missing : (d : Option ℕ) (run : List ℕ) (offset : ℕ) (ss : List Sample) → IsTrun run offset ss → All HasFields ss → lacks_size d (run ∷ []) ≡ false
no-size-missing d run offset ss t fits = rw (sizes-read d run offset ss t fits) (rw (values-there (λ (s : Sample). s.size) ss) refl)

-- a written `trun` with a sample has samples
pub some-samples : (run : List ℕ) (offset : ℕ) (s : Sample) (ss : List Sample) → IsTrun run offset (s ∷ ss) → has_samples (run ∷ []) ≡ true
some-samples run offset s ss t = rw t.count (rw (lt-ltb 0 (suc (length ss)) (omega arith)) refl)

-- the flags of the first row are at byte 20 of a written `trun`
first-row : (run : List ℕ) (s : Sample) (ss : List Sample) → drop 12 run ≡ table (s ∷ ss) → HasFields s → number_at w32 20 run ≡ s.flags
unfolding number_at
first-row run s ss rows fits =
    ap (λ (xs : List ℕ). from_be_bytes w32 xs) (sym (drop-drop 8 12 run)) ∙ ap (λ (xs : List ℕ). number_at w32 8 xs) rows ∙ flags-at s (flat_map row ss) fits

-- the flags that are read of a written `trun` for the facts are those of its first sample
pub flags-read : (d : Option ℕ) (run : List ℕ) (offset : ℕ) (s : Sample) (ss : List Sample) → IsTrun run offset (s ∷ ss) → HasFields s → flags_in d (run ∷ []) ≡ Some s.flags
unfolding first_sample_flags
flags-read d run offset s ss t fits =
    let some : nat_lt 0 (sample_count run) ≡ true = rw t.count (lt-ltb 0 (suc (length ss)) (omega arith)) in
    rw (some, no-first-flags run offset (s ∷ ss) t, rows-start run offset (s ∷ ss) t) (rw (t.flags, first-row run s ss t.rows fits) refl)
