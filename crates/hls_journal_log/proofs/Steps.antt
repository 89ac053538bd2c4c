-- The loops that read and write records: one more.
use Rattle.std.proofs.Common.{◌≡◌, ◌∙◌, ℕ, suc, ◌+◌, ◌-◌, ◌<◌, ◌≤◌, List, [], ◌∷◌, ◌++◌, length, take, drop, get_or, refl, sym, ap, subst, inl, inr, arith, append_assoc, length-append, length-drop}
use Rattle.std.specs.Prelude.{slice_range}
use Rattle.std.specs.Int.{w32, from_le_bytes}
use Rattle.std.proofs.lemmas.Bool.{cases_lt}
use Rattle.std.proofs.lemmas.List.{take_more, take_all, length-take, length-take-le, take-append-drop, drop-drop, get_or-take, get_or_past, append-nil}
use Rattle.std.proofs.lemmas.List.Elements.{All-nil, All-push}
use Rattle.std.proofs.lemmas.Nat.{le_bytes_4}
use Rattle.byteorder.specs.Endian.{little_bytes, little_number}
use Rattle.byteorder.specs.Numbers.{little_from-take}
use Rattle.hls_journal_log.specs.Records.{body_limit, checksum, record_bytes, log_bytes, AreWithinLimit, body_len_in, checksum_in, body_in, IsRecord}
use Rattle.hls_journal_log.specs.Reading.{IsRecordAndRest}
use Rattle.hls_journal_log.proofs.Headers.{record_parts, length_record}

-- each number of a text is below 256
abbrev pub AreBytes : List ℕ → Type 0
AreBytes text = (i : ℕ) → get_or text i 0 < 256

-- if each number of a text is a byte, so is each of its first n
bytes_taken : (text : List ℕ) (n : ℕ) → AreBytes text → AreBytes (take n text)
bytes_taken text n are i =
    elim (cases_lt i n) [
      | inl below ↦ rw (get_or-take n text i 0 below) (are i)
      | inr past ↦ (let none : length (take n text) ≤ i = omega (arith, length-take n text, past) in rw (get_or_past (take n text) i 0 none) (omega arith))
    ]

-- the length that a text's header says, written in four bytes, is the text's first four
len_bytes : (text : List ℕ) → AreBytes text → 4 ≤ length text → little_bytes 4 (body_len_in text) ≡ take 4 text
len_bytes text are long =
    let four : length (take 4 text) ≡ 4 = length-take-le 4 text long in
    let same : body_len_in text ≡ little_number 4 (take 4 text) = sym (little_from-take 0 4 4 text (omega arith)) in
    let read : body_len_in text ≡ from_le_bytes w32 (take 4 text) = same ∙ (omega arith) in
    le_bytes_4 (take 4 text) (body_len_in text) four (bytes_taken text 4 are) read

-- a text that starts with a record is this record, and what follows it
pub rebuilt : (number : ℕ) (text : List ℕ) → AreBytes text → IsRecord number text → record_bytes number (body_in text) ++ drop (12 + body_len_in text) text ≡ text
rebuilt number text are is =
    let long : 4 ≤ length text = omega (arith, is.complete) in
    let room : body_len_in text ≤ length (drop 12 text) = omega (arith, is.complete, length-drop 12 text) in
    let body_len : length (body_in text) ≡ body_len_in text = length-take-le (body_len_in text) (drop 12 text) room in
    let tail : body_in text ++ drop (12 + body_len_in text) text ≡ drop 12 text =
    ap (λ xs. body_in text ++ xs) (sym (drop-drop (body_len_in text) 12 text)) ∙ take-append-drop (body_len_in text) (drop 12 text) in
    let back : checksum_in text ++ drop 12 text ≡ drop 4 text =
    ap (λ xs. checksum_in text ++ xs) (sym (drop-drop 8 4 text)) ∙ take-append-drop 8 (drop 4 text) in
    record_parts number (body_in text) (drop (12 + body_len_in text) text)
    ∙ ap (λ k. little_bytes 4 k ++ (checksum number (body_in text) ++ (body_in text ++ drop (12 + body_len_in text) text))) body_len
    ∙ ap (λ xs. xs ++ (checksum number (body_in text) ++ (body_in text ++ drop (12 + body_len_in text) text))) (len_bytes text are long)
    ∙ ap (λ xs. take 4 text ++ (xs ++ (body_in text ++ drop (12 + body_len_in text) text))) (sym is.sum)
    ∙ ap (λ xs. take 4 text ++ (checksum_in text ++ xs)) tail
    ∙ ap (λ xs. take 4 text ++ xs) back
    ∙ take-append-drop 4 text

-- the bytes of records and one more are theirs and the bytes of that record, whose number is the next one
pub log_snoc : (number : ℕ) (bodies : List (List ℕ)) (body : List ℕ) → log_bytes number (bodies ++ body ∷ []) ≡ log_bytes number bodies ++ record_bytes (number + length bodies) body
log_snoc number [] body =
    let plain : number ≡ number + 0 = omega arith in
    append-nil (record_bytes number body) ∙ ap (λ k. record_bytes k body) plain
log_snoc number (b ∷ bodies) body =
    let count : suc number + length bodies ≡ number + suc (length bodies) = omega arith in
    ap (λ xs. record_bytes number b ++ xs) (log_snoc (suc number) bodies body ∙ ap (λ k. log_bytes (suc number) bodies ++ record_bytes k body) count)
    ∙ sym (append_assoc (record_bytes number b) (log_bytes (suc number) bodies) (record_bytes (number + suc (length bodies)) body))

-- a body is within the limit of its length
WithinLimit : List ℕ → Type 0
WithinLimit body = length body ≤ body_limit

-- no bodies are within the limit
pub none_within : AreWithinLimit []
unfolding WithinLimit
none_within = All-nil WithinLimit

-- bodies within the limit are so with one more that is
pub within_snoc : (bodies : List (List ℕ)) (body : List ℕ) → AreWithinLimit bodies → length body ≤ body_limit → AreWithinLimit (bodies ++ body ∷ [])
unfolding WithinLimit
within_snoc bodies body small fits = All-push WithinLimit bodies body small fits

-- the records that were read so far are the text up to byte `at`, and the next one has this number
pub record HasRead (first number at : ℕ) (text : List ℕ) (bodies : List (List ℕ)) : Type 0 where
  pub is : text ≡ log_bytes first bodies ++ drop at text
  pub len : at ≡ length (log_bytes first bodies)
  pub within : at ≤ length text
  pub small : AreWithinLimit bodies
  pub number_is : number ≡ first + length bodies
  pub few : length bodies ≤ at

-- at first nothing is read, and the place is the start of the text
pub nothing_read : (first : ℕ) (text : List ℕ) → HasRead first first 0 text []
nothing_read first text = record { is = refl; len = refl; within = omega arith; small = none_within; number_is = omega arith; few = omega arith }

-- if a record follows what was read so far, it is read, too
one_more_read : (first number at : ℕ) (text : List ℕ) (bodies : List (List ℕ)) → IsRecordAndRest number (drop at text) → IsRecord number (drop at text) → HasRead first number at text bodies
    → HasRead first (number + 1) (at + (12 + body_len_in (drop at text))) text (bodies ++ body_in (drop at text) ∷ [])
one_more_read first number at text bodies whole is so_far =
    let room : body_len_in (drop at text) ≤ length (drop 12 (drop at text)) = omega (arith, is.complete, length-drop 12 (drop at text)) in
    let body_len : length (body_in (drop at text)) ≡ body_len_in (drop at text) = length-take-le (body_len_in (drop at text)) (drop 12 (drop at text)) room in
    let more : log_bytes first (bodies ++ body_in (drop at text) ∷ []) ≡ log_bytes first bodies ++ record_bytes number (body_in (drop at text)) =
    log_snoc first bodies (body_in (drop at text)) ∙ ap (λ k. log_bytes first bodies ++ record_bytes k (body_in (drop at text))) (sym so_far.number_is) in
    let rest : drop (12 + body_len_in (drop at text)) (drop at text) ≡ drop (at + (12 + body_len_in (drop at text))) text = drop-drop (12 + body_len_in (drop at text)) at text in
    record {
      is = so_far.is
          ∙ ap (λ xs. log_bytes first bodies ++ xs) (sym whole)
          ∙ ap (λ xs. log_bytes first bodies ++ (record_bytes number (body_in (drop at text)) ++ xs)) rest
          ∙ sym (append_assoc (log_bytes first bodies) (record_bytes number (body_in (drop at text))) (drop (at + (12 + body_len_in (drop at text))) text))
          ∙ ap (λ xs. xs ++ drop (at + (12 + body_len_in (drop at text))) text) (sym more);
      len = omega (arith, so_far.len, ap length more, length-append (log_bytes first bodies) (record_bytes number (body_in (drop at text))), length_record number (body_in (drop at text)), body_len);
      within = omega (arith, is.complete, length-drop at text, so_far.within);
      small = within_snoc bodies (body_in (drop at text)) so_far.small (omega (arith, body_len, is.small));
      number_is = omega (arith, so_far.number_is, length-append bodies (body_in (drop at text) ∷ []));
      few = omega (arith, so_far.few, length-append bodies (body_in (drop at text) ∷ []));
    }

-- a record that is read, by its length and its body, continues what was read so far
pub read_step : (first number at len : ℕ) (text : List ℕ) (bodies items : List (List ℕ)) (body : List ℕ) → IsRecordAndRest number (drop at text) → len ≡ body_len_in (drop at text) → IsRecord number (drop at text)
    → items ≡ bodies ++ body ∷ [] → body ≡ take len (drop (at + 12) text) → HasRead first number at text bodies → HasRead first (number + 1) (at + 12 + len) text items
read_step first number at len text bodies items body whole len_is is pushed body_is so_far =
    let there : body ≡ body_in (drop at text) = body_is ∙ ap (λ k. take k (drop (at + 12) text)) len_is ∙ ap (λ xs. take (body_len_in (drop at text)) xs) (sym (drop-drop 12 at text)) in
    let items_are : bodies ++ body_in (drop at text) ∷ [] ≡ items = ap (λ b. bodies ++ b ∷ []) (sym there) ∙ sym pushed in
    let place : at + (12 + body_len_in (drop at text)) ≡ at + 12 + len = omega (arith, len_is) in
    subst (λ (k : ℕ). HasRead first (number + 1) k text items) place
    (subst (λ (bs : List (List ℕ)). HasRead first (number + 1) (at + (12 + body_len_in (drop at text))) text bs) items_are
    (one_more_read first number at text bodies whole is so_far))

-- if the first records are made, and the next one after them, one record more is made
pub record_made : (first : ℕ) (bodies : List (List ℕ)) (index number : ℕ) (body old new : List ℕ) → index < length bodies → body ≡ get_or bodies index body
    → (old ≡ log_bytes first (take index bodies)) × (number ≡ first + index) → new ≡ old ++ record_bytes number body
    → (new ≡ log_bytes first (take (index + 1) bodies)) × (number + 1 ≡ first + (index + 1))
record_made first bodies index number body old new within at so_far made =
    let front : take (index + 1) bodies ≡ take index bodies ++ body ∷ [] = take_more bodies index body within ∙ ap (λ b. take index bodies ++ b ∷ []) (sym at) in
    let count : number ≡ first + length (take index bodies) = omega (arith, length-take index bodies, within, so_far.1) in (
      made
          ∙ ap (λ xs. xs ++ record_bytes number body) so_far.0
          ∙ ap (λ k. log_bytes first (take index bodies) ++ record_bytes k body) count
          ∙ sym (log_snoc first (take index bodies) body)
          ∙ ap (λ bs. log_bytes first bs) (sym front),
      omega (arith, so_far.1),
    )

-- a record that is read from the rest of the text continues what was read so far
pub read_step_at : (first number at len : ℕ) (seen text : List ℕ) (bodies items : List (List ℕ)) (body : List ℕ) → IsRecordAndRest number (take (length seen - at) (drop at seen)) → seen ≡ text
    → len ≡ body_len_in (take (length seen - at) (drop at seen)) → IsRecord number (take (length seen - at) (drop at seen)) → items ≡ bodies ++ body ∷ []
    → body ≡ slice_range text (at + 12) (at + 12 + len) → HasRead first number at text bodies → HasRead first (number + 1) (at + 12 + len) text items
read_step_at first number at len seen text bodies items body whole same len_is is pushed body_is so_far =
    let rest : take (length seen - at) (drop at seen) ≡ drop at text = take_all (length seen - at) (drop at seen) (omega (arith, length-drop at seen)) ∙ ap (λ t. drop at t) same in
    let size : at + 12 + len - (at + 12) ≡ len = omega arith in
    read_step first number at len text bodies items body (subst (λ (t : List ℕ). IsRecordAndRest number t) rest whole) (len_is ∙ ap (λ t. body_len_in t) rest) (subst (λ (t : List ℕ). IsRecord number t) rest is) pushed
    (body_is ∙ ap (λ k. take k (drop (at + 12) text)) size) so_far
