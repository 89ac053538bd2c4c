-- The samples that are read last as long as the facts of their unit say, and the first one has the flags that the facts are read from.
use Rattle.std.proofs.Common.{◌≡◌, ◌∙◌, ℕ, zero, suc, ◌+◌, Bool, true, false, Option, Some, None, List, [], ◌∷◌, drop, map, replicate, refl, sym, ap, subst, arith}
use Rattle.std.specs.Prelude.{unwrap_or}
use Rattle.std.specs.Option.{option_or}
use Rattle.std.specs.Int.{w32, from_be_bytes}
use Rattle.std.proofs.lemmas.Bool.{lt-ltb}
use Rattle.std.proofs.lemmas.List.{drop-drop}
use Rattle.std.proofs.lemmas.List.Sums.{sum_by-cons}
use Rattle.hls_boxes.specs.Boxes.{number_at}
use Rattle.hls_media_laws.specs.Flags.{sample_duration_present, sample_size_present, sample_flags_present, sample_composition_time_offsets_present}
use Rattle.hls_media_laws.specs.Fields.{has_flag, field_width, column, values, durations, total, sample_count, rows_offset, row_len, first_flags_of}
use Rattle.hls_media_laws.specs.Runs.{duration_in, flags_in, first_sample_flags, first_row_flags}
use Rattle.hls_mend_laws.specs.declared.sample.Sample.{Sample}
use Rattle.hls_mend_laws.specs.declared.row_format.Column.{Column}
use Rattle.hls_mend_laws.specs.declared.row_format.RowFormat.{RowFormat}
use Rattle.hls_mend_laws.specs.declared.row_format.SampleDefaults.{SampleDefaults}
use Rattle.hls_mend_laws.specs.Fragments.{total_duration}
use Rattle.hls_mend_laws.specs.FragmentsRead.{format_with, row_format, field_value, after_field, row_sample, after_row, row_width, rows_samples, with_first_flags, run_samples}
use Rattle.hls_mend_laws.specs.FragmentsRead as reads
use Rattle.hls_mend_laws.proofs.Options.{and-then, mapped}

-- ---- rows

-- dropping four fields one after another drops the sum of their lengths
after-fields : (a b c d : ℕ) (bytes : List ℕ) → drop d (drop c (drop b (drop a bytes))) ≡ drop (a + b + c + d) bytes
after-fields a b c d bytes =
    ap (λ (xs : List ℕ). drop d (drop c xs)) (drop-drop b a bytes) ∙ ap (λ (xs : List ℕ). drop d xs) (drop-drop c (a + b) bytes) ∙ drop-drop d (a + b + c) bytes

-- the bytes after a row are those from its width on
pub after-row : (form : RowFormat) (bytes : List ℕ) → after_row form bytes ≡ drop (row_width form) bytes
after-row form bytes =
    after-fields (field_width form.duration.present) (field_width form.size.present) (field_width form.flags.present) (field_width form.offset.present) bytes

-- ---- the format of the rows

-- a column is the one that these flags and this default give: rows have it, or its value is the default
record IsColumn (present : Bool) (default : Option ℕ) (c : Column) : Type 0 where
  present_is : c.present ≡ present
  default_is : present ≡ false → default ≡ Some c.default

-- a column that is read is the one that the flags and the default give
is-column : (present : Bool) (default : Option ℕ) (c : Column) → reads.column present default ≡ Some c → IsColumn present default c
is-column true default c is =
    let same : record { present = true; default = unwrap_or default 0 } ≡ c = cc in
    subst (IsColumn true default) same (record { present_is = refl; default_is = λ e. absurd (cc) })
is-column false None c is = absurd (cc)
is-column false (Some value) c is =
    let same : record { present = false; default = value } ≡ c = cc in
    subst (IsColumn false (Some value)) same (record { present_is = refl; default_is = λ e. refl })

-- a format is the one that a run's flags and the defaults give
record IsFormat (d : SampleDefaults) (run : List ℕ) (form : RowFormat) : Type 0 where
  duration : IsColumn (has_flag run sample_duration_present) d.duration form.duration
  size : IsColumn (has_flag run sample_size_present) d.size form.size
  flags : IsColumn (has_flag run sample_flags_present) d.flags form.flags
  offset : form.offset.present ≡ has_flag run sample_composition_time_offsets_present

-- a format that is read of a run is the one that its flags and the defaults give
is-format : (d : SampleDefaults) (run : List ℕ) (form : RowFormat) → row_format d run ≡ Some form → IsFormat d run form
unfolding row_format
is-format d run form is =
    let a = and-then _ (reads.column (has_flag run sample_duration_present) d.duration) form is in
    let b = and-then _ (reads.column (has_flag run sample_size_present) d.size) form a.then in
    let c = mapped (format_with run a.x b.x) (reads.column (has_flag run sample_flags_present) d.flags) form b.then in
    subst (IsFormat d run) c.then
    (record {
      duration = is-column (has_flag run sample_duration_present) d.duration a.x a.is;
      size = is-column (has_flag run sample_size_present) d.size b.x b.is;
      flags = is-column (has_flag run sample_flags_present) d.flags c.x c.is;
      offset = refl;
    })

-- rows are as long by their format as the `trun` says
row-width : (d : SampleDefaults) (run : List ℕ) (form : RowFormat) → IsFormat d run form → row_width form ≡ row_len run
unfolding row_len
row-width d run form is = rw (is.duration.present_is, is.size.present_is, is.flags.present_is, is.offset) refl

-- ---- the durations

-- if rows have durations, their samples last for the sum of the run's column of durations
lasts-by-rows : (n : ℕ) (form : RowFormat) (bytes : List ℕ) (len : ℕ) → form.duration.present ≡ true → row_width form ≡ len
    → total_duration (rows_samples n form bytes) ≡ total (map Some (column n len 0 bytes))
unfolding rows_samples column
lasts-by-rows zero form bytes len present long = refl
lasts-by-rows (suc n) form bytes len present long =
    let here : field_value form.duration bytes ≡ number_at w32 0 bytes = rw present refl in
    let rest : after_row form bytes ≡ drop len bytes = after-row form bytes ∙ ap (λ k. drop k bytes) long in
    let more : total_duration (rows_samples n form (after_row form bytes)) ≡ total (map Some (column n len 0 (drop len bytes))) =
    lasts-by-rows n form (after_row form bytes) len present long ∙ ap (λ b. total (map Some (column n len 0 b))) rest in
    sum_by-cons (λ (s : Sample). s.duration) (row_sample form bytes) (rows_samples n form (after_row form bytes))
    ∙ ap (λ k. k + total_duration (rows_samples n form (after_row form bytes))) here
    ∙ ap (λ k. number_at w32 0 bytes + k) more
    ∙ sym (sum_by-cons (λ (v : Option ℕ). unwrap_or v 0) (Some (number_at w32 0 bytes)) (map Some (column n len 0 (drop len bytes))))

-- if rows have no durations, each of their samples lasts for the default
lasts-by-default : (n : ℕ) (form : RowFormat) (bytes : List ℕ) → form.duration.present ≡ false
    → total_duration (rows_samples n form bytes) ≡ total (replicate n (Some form.duration.default))
unfolding rows_samples
lasts-by-default zero form bytes absent = refl
lasts-by-default (suc n) form bytes absent =
    let here : field_value form.duration bytes ≡ form.duration.default = rw absent refl in
    sum_by-cons (λ (s : Sample). s.duration) (row_sample form bytes) (rows_samples n form (after_row form bytes))
    ∙ ap (λ k. k + total_duration (rows_samples n form (after_row form bytes))) here
    ∙ ap (λ k. form.duration.default + k) (lasts-by-default n form (after_row form bytes) absent)
    ∙ sym (sum_by-cons (λ (v : Option ℕ). unwrap_or v 0) (Some form.duration.default) (replicate n (Some form.duration.default)))

-- either way, the samples of a run's rows last for the total of its durations
lasts-by : (present : Bool) (d : SampleDefaults) (run : List ℕ) (form : RowFormat) → has_flag run sample_duration_present ≡ present → IsFormat d run form
    → total_duration (rows_samples (sample_count run) form (drop (rows_offset run) run)) ≡ total (values present 0 d.duration run)
unfolding values
lasts-by true d run form flag is =
    lasts-by-rows (sample_count run) form (drop (rows_offset run) run) (row_len run) (is.duration.present_is ∙ flag) (row-width d run form is)
lasts-by false d run form flag is =
    lasts-by-default (sample_count run) form (drop (rows_offset run) run) (is.duration.present_is ∙ flag)
    ∙ ap (λ (o : Option ℕ). total (replicate (sample_count run) o)) (sym (is.duration.default_is flag))

-- flags for the first sample don't change how long the samples last
first-lasts : (o : Option ℕ) (ss : List Sample) → total_duration (with_first_flags o ss) ≡ total_duration ss
first-lasts None ss = refl
first-lasts (Some flags) [] = refl
first-lasts (Some flags) (s ∷ ss) =
    sum_by-cons (λ (s : Sample). s.duration) (record s { flags = flags }) ss ∙ sym (sum_by-cons (λ (s : Sample). s.duration) s ss)

-- ---- the flags of the first sample

-- the number after two fields is at the sum of their lengths
after-two-fields : (at a b : ℕ) (bytes : List ℕ) → number_at w32 0 (drop b (drop a (drop at bytes))) ≡ number_at w32 (at + a + b) bytes
unfolding number_at
after-two-fields at a b bytes = ap (λ (xs : List ℕ). from_be_bytes w32 xs) (ap (λ (xs : List ℕ). drop b xs) (drop-drop a at bytes) ∙ drop-drop b (at + a) bytes)

-- the flags of a run's first row, or their default if rows have no flags
abbrev first_flags : RowFormat → List ℕ → ℕ
first_flags form run = field_value form.flags (after_field form.size (after_field form.duration (drop (rows_offset run) run)))

-- the flags of a run's first row by its format are those of the row, or else the default
first-value : (present : Bool) (d : SampleDefaults) (run : List ℕ) (form : RowFormat) → has_flag run sample_flags_present ≡ present → IsFormat d run form
    → Some (first_flags form run) ≡ option_or (first_row_flags run) d.flags
first-value true d run form flag is =
    rw (is.flags.present_is ∙ flag, is.duration.present_is, is.size.present_is, flag)
    (ap Some (after-two-fields (rows_offset run) (field_width (has_flag run sample_duration_present)) (field_width (has_flag run sample_size_present)) run))
first-value false d run form flag is =
    rw (is.flags.present_is ∙ flag, flag) (sym (is.flags.default_is flag))

plus-zero : (n : ℕ) → n + 0 ≡ n
plus-zero n = omega arith

-- samples last as long as the run's facts say, and the first one has the flags that the facts are read from
pub record HasRunFacts (d : SampleDefaults) (run : List ℕ) (ss : List Sample) : Type 0 where
  pub lasts : total_duration ss ≡ duration_in d.duration (run ∷ [])
  pub flags : (first : Sample) (others : List Sample) → ss ≡ first ∷ others → flags_in d.flags (run ∷ []) ≡ Some first.flags

-- the first sample that is read of a run has the flags that the facts are read from
flags-first : (o : Option ℕ) (d : SampleDefaults) (run : List ℕ) (form : RowFormat) (n : ℕ) → first_flags_of run ≡ o → sample_count run ≡ n → IsFormat d run form
    → (first : Sample) (others : List Sample) → with_first_flags o (rows_samples n form (drop (rows_offset run) run)) ≡ first ∷ others
    → flags_in d.flags (run ∷ []) ≡ Some first.flags
unfolding rows_samples first_sample_flags
flags-first None d run form zero own count is first others e = absurd (cc)
flags-first (Some flags) d run form zero own count is first others e = absurd (cc)
flags-first None d run form (suc n) own count is first others e =
    let one : row_sample form (drop (rows_offset run) run) ≡ first = cc in
    let flags : first_flags form run ≡ first.flags = ap (λ (s : Sample). s.flags) one in
    rw (count, lt-ltb 0 (suc n) (omega arith), own) (sym (first-value (has_flag run sample_flags_present) d run form refl is) ∙ ap Some flags)
flags-first (Some flags) d run form (suc n) own count is first others e =
    let one : record (row_sample form (drop (rows_offset run) run)) { flags = flags } ≡ first = cc in
    let same : flags ≡ first.flags = ap (λ (s : Sample). s.flags) one in
    rw (count, lt-ltb 0 (suc n) (omega arith), own) (ap Some same)

-- the samples that are read of a run last as long as its facts say, and the first one has the flags that the facts are read from
pub run-facts : (d : SampleDefaults) (run : List ℕ) (ss : List Sample) → run_samples d run ≡ Some ss → HasRunFacts d run ss
unfolding run_samples
run-facts d run ss is =
    let m = mapped (λ (form : RowFormat). with_first_flags (first_flags_of run) (rows_samples (sample_count run) form (drop (rows_offset run) run))) (row_format d run) ss is in
    let form = is-format d run m.x m.is in
    record {
      lasts = ap total_duration (sym m.then)
          ∙ first-lasts (first_flags_of run) (rows_samples (sample_count run) m.x (drop (rows_offset run) run))
          ∙ lasts-by (has_flag run sample_duration_present) d run m.x refl form
          ∙ sym (sum_by-cons (λ (r : List ℕ). total (durations d.duration r)) run [] ∙ plus-zero (total (durations d.duration run)));
      flags = λ first others e. flags-first (first_flags_of run) d run m.x (sample_count run) refl refl form first others (m.then ∙ e);
    }
