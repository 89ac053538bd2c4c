-- One row more.
use Rattle.std.proofs.Common.{◌≡◌, ◌∙◌, ℕ, zero, suc, ◌-◌, ◌*◌, ◌<◌, ◌≤◌, List, [], ◌∷◌, ◌++◌, length, refl, ap, arith, append_assoc}
use Rattle.std.proofs.lemmas.List.{length-drop}
use Rattle.hls_mend_laws.specs.declared.sample.Sample.{Sample}
use Rattle.hls_mend_laws.specs.declared.row_format.RowFormat.{RowFormat}
use Rattle.hls_mend_laws.specs.FragmentsRead.{row_sample, after_row, row_width, rows_samples}
use Rattle.hls_mend_laws.proofs.Callers.{after-row}

-- if the rows that are left fit the bytes, so does one row
pub row-fits : (left width len : ℕ) → 0 < left → left * width ≤ len → width ≤ len
row-fits zero width len some room = absurd (omega arith)
row-fits (suc n) width len some room = grind arith

-- after one more row, the samples that were read and those of the rows that are left are still all samples
pub joined-next : (form : RowFormat) (left : ℕ) (ss : List Sample) (rest : List ℕ) (s : Sample) (more : List Sample) (next : List ℕ) (all : List Sample) → 0 < left
    → s ≡ row_sample form rest → more ≡ ss ++ s ∷ [] → next ≡ after_row form rest
    → ss ++ rows_samples left form rest ≡ all → more ++ rows_samples (left - 1) form next ≡ all
unfolding rows_samples
joined-next form zero ss rest s more next all some is pushed after joined = absurd (omega arith)
joined-next form (suc n) ss rest s more next all some is pushed after joined =
    let one : suc n - 1 ≡ n = omega arith in
    let new : more ++ rows_samples n form next ≡ ss ++ row_sample form rest ∷ rows_samples n form (after_row form rest) =
    ap (λ (xs : List Sample). xs ++ rows_samples n form next) pushed ∙ append_assoc ss (s ∷ []) (rows_samples n form next)
    ∙ ap (λ (x : Sample). ss ++ x ∷ rows_samples n form next) is ∙ ap (λ (bytes : List ℕ). ss ++ row_sample form rest ∷ rows_samples n form bytes) after in
    rw one (new ∙ joined)

-- if n + 1 rows fit the bytes, n rows fit the bytes after the first
less-room : (n width len : ℕ) → suc n * width ≤ len → n * width ≤ len - width
less-room n width len room = omega (arith, room)

-- after one more row, the rows that are left still fit the bytes that are left
pub room-next : (form : RowFormat) (left : ℕ) (rest next : List ℕ) → 0 < left → next ≡ after_row form rest
    → left * row_width form ≤ length rest → (left - 1) * row_width form ≤ length next
room-next form zero rest next some after room = absurd (omega arith)
room-next form (suc n) rest next some after room =
    let one : suc n - 1 ≡ n = omega arith in
    let len : length next ≡ length rest - row_width form = ap length (after ∙ after-row form rest) ∙ length-drop (row_width form) rest in
    rw (one, len) (less-room n (row_width form) (length rest) room)

-- without rows left, no samples are left
pub no-rows : (left : ℕ) (form : RowFormat) (rest : List ℕ) → left ≡ 0 → rows_samples left form rest ≡ []
unfolding rows_samples
no-rows left form rest none = rw none refl
