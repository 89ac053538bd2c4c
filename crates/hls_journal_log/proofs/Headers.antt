-- What the header at the start of a text says, if a record is there.
use Rattle.std.proofs.Common.{◌≡◌, ◌∙◌, ℕ, suc, ◌+◌, ◌≤◌, List, [], ◌∷◌, ◌++◌, length, take, drop, refl, sym, ap, subst, inl, inr, arith, append_assoc, length-append}
use Rattle.std.proofs.lemmas.List.{take_at, drop_at, append_cancel_left}
use Rattle.std.proofs.lemmas.List.Elements.{All-head, All-tail}
use Rattle.byteorder.specs.Endian.{little_bytes, little_number}
use Rattle.byteorder.specs.Numbers.{little_number-reads_back, length-bytes_low_first}
use Rattle.hls_journal_log.specs.Checksum.{checksum_of}
use Rattle.hls_journal_log.specs.declared.ending.Ending.{Ending}
use Rattle.hls_journal_log.specs.declared.ending.Ending.TheVariants.{Complete, Torn, Corrupt}
use Rattle.hls_journal_log.specs.Records.{header_len, body_limit, checksum, record_bytes, log_bytes, AreWithinLimit, body_len_in, checksum_in, body_in}
use Rattle.hls_journal_log.specs.Reading.{Stops, Reads}
use Rattle.hls_journal_log.specs.Laws.{CompleteRecordsAreRead}

-- a body is within the limit of its length
WithinLimit : List ℕ → Type 0
WithinLimit body = length body ≤ body_limit

-- if all bodies are within the limit, so is the first one
pub first_within : (body : List ℕ) (bodies : List (List ℕ)) → AreWithinLimit (body ∷ bodies) → length body ≤ body_limit
unfolding WithinLimit
first_within body bodies within = All-head WithinLimit body bodies within

-- if all bodies are within the limit, so are those after the first one
pub others_within : (body : List ℕ) (bodies : List (List ℕ)) → AreWithinLimit (body ∷ bodies) → AreWithinLimit bodies
unfolding WithinLimit
others_within body bodies within = All-tail WithinLimit body bodies within

-- a text starts with the record of this number and body
pub record StartsWith (number : ℕ) (body text : List ℕ) : Type 0 where
  pub len : body_len_in text ≡ length body
  pub sum : checksum_in text ≡ checksum number body
  pub body_is : body_in text ≡ body
  pub long : 12 + length body ≤ length text

length_len : (body : List ℕ) → length (little_bytes 4 (length body)) ≡ 4
length_len body = length-bytes_low_first 0 4 (length body)

length_sum : (number : ℕ) (body : List ℕ) → length (checksum number body) ≡ 8
length_sum number body = length-bytes_low_first 0 8 (checksum_of number body)

-- a record has twelve bytes more than its body
pub length_record : (number : ℕ) (body : List ℕ) → length (record_bytes number body) ≡ 12 + length body
length_record number body =
    let all = length-append (little_bytes 4 (length body) ++ checksum number body) body in
    let head = length-append (little_bytes 4 (length body)) (checksum number body) in
    omega (arith, all, head, length_len body, length_sum number body)

-- a record and what follows it are the length in four bytes, the checksum, the body, and what follows
pub record_parts : (number : ℕ) (body behind : List ℕ) → record_bytes number body ++ behind ≡ little_bytes 4 (length body) ++ (checksum number body ++ (body ++ behind))
record_parts number body behind =
    append_assoc (little_bytes 4 (length body) ++ checksum number body) body behind
    ∙ append_assoc (little_bytes 4 (length body)) (checksum number body) (body ++ behind)

-- the length that a record's header says is the body's length
len_read : (number : ℕ) (body behind : List ℕ) → length body ≤ body_limit → body_len_in (record_bytes number body ++ behind) ≡ length body
len_read number body behind small =
    ap (λ t. little_number 4 t) (record_parts number body behind)
    ∙ little_number-reads_back 4 (length body) (checksum number body ++ (body ++ behind)) (omega (arith, small))

-- the checksum that a record's header says is that of its number and body
sum_read : (number : ℕ) (body behind : List ℕ) → checksum_in (record_bytes number body ++ behind) ≡ checksum number body
sum_read number body behind =
    ap (λ t. take 8 (drop 4 t)) (record_parts number body behind)
    ∙ ap (λ t. take 8 t) (drop_at (little_bytes 4 (length body)) (checksum number body ++ (body ++ behind)) 4 (length_len body))
    ∙ take_at (checksum number body) (body ++ behind) 8 (length_sum number body)

-- after its header, a record has its body, and what follows the record
pub behind_header : (number : ℕ) (body behind : List ℕ) → drop header_len (record_bytes number body ++ behind) ≡ body ++ behind
behind_header number body behind =
    let head = length-append (little_bytes 4 (length body)) (checksum number body) in
    let twelve : length (little_bytes 4 (length body) ++ checksum number body) ≡ 12 = omega (arith, head, length_len body, length_sum number body) in
    ap (λ t. drop header_len t) (append_assoc (little_bytes 4 (length body) ++ checksum number body) body behind)
    ∙ drop_at (little_bytes 4 (length body) ++ checksum number body) (body ++ behind) 12 twelve

-- the body that is read from a record is the record's
body_read : (number : ℕ) (body behind : List ℕ) → length body ≤ body_limit → body_in (record_bytes number body ++ behind) ≡ body
body_read number body behind small =
    ap (λ k. take k (drop header_len (record_bytes number body ++ behind))) (len_read number body behind small)
    ∙ ap (λ t. take (length body) t) (behind_header number body behind)
    ∙ take_at body behind (length body) refl

-- a record of a body within the limit, whatever follows it, starts with that record
pub starts_with : (number : ℕ) (body behind : List ℕ) → length body ≤ body_limit → StartsWith number body (record_bytes number body ++ behind)
starts_with number body behind small = record {
  len = len_read number body behind small;
  sum = sum_read number body behind;
  body_is = body_read number body behind small;
  long = omega (arith, length-append (record_bytes number body) behind, length_record number body);
}

-- reading doesn't stop at the start of a record
pub never_stops : (number : ℕ) (body text : List ℕ) (ending : Ending) → length body ≤ body_limit → StartsWith number body text → Stops number text ending → ⊥
never_stops number body text Complete small at stops =
    let none : length text ≡ 0 = ap length stops in
    omega (arith, none, at.long)
never_stops number body text Torn small at stops =
    elim stops.1 [ inl low ↦ omega (arith, low, at.long) | inr short ↦ omega (arith, short.1, at.len, at.long) ]
never_stops number body text Corrupt small at stops =
    elim stops.1 [ inl long ↦ omega (arith, long, at.len, small) | inr other ↦ other.1 (at.sum ∙ sym (ap (λ b. checksum number b) at.body_is)) ]

-- the record that a text starts with is the first that is read
pub first_read : (number : ℕ) (body behind : List ℕ) (found : List (List ℕ)) (ending : Ending) → length body ≤ body_limit
    → Reads number (record_bytes number body ++ behind) found ending
    → (more : List (List ℕ)) × (found ≡ body ∷ more) × Reads (suc number) behind more ending
first_read number body behind [] ending small reads =
    let plain : number + 0 ≡ number = omega arith in
    let stops : Stops number reads.rest ending = subst (λ (k : ℕ). Stops k reads.rest ending) plain reads.stops in
    absurd (never_stops number body (record_bytes number body ++ behind) ending small (starts_with number body behind small)
    (subst (λ (t : List ℕ). Stops number t ending) (sym reads.is) stops))
first_read number body behind (f ∷ more) ending small reads =
    let f_small : length f ≤ body_limit = first_within f more reads.small in
    let all : record_bytes number body ++ behind ≡ record_bytes number f ++ (log_bytes (suc number) more ++ reads.rest) =
    reads.is ∙ append_assoc (record_bytes number f) (log_bytes (suc number) more) reads.rest in
    let written : StartsWith number body (record_bytes number body ++ behind) = starts_with number body behind small in
    let read : StartsWith number f (record_bytes number f ++ (log_bytes (suc number) more ++ reads.rest)) = starts_with number f (log_bytes (suc number) more ++ reads.rest) f_small in
    let same : f ≡ body = sym read.body_is ∙ ap (λ t. body_in t) (sym all) ∙ written.body_is in
    let rest : behind ≡ log_bytes (suc number) more ++ reads.rest =
    append_cancel_left (record_bytes number body) behind (log_bytes (suc number) more ++ reads.rest)
    (all ∙ ap (λ b. record_bytes number b ++ (log_bytes (suc number) more ++ reads.rest)) same) in
    let count : number + suc (length more) ≡ suc number + length more = omega arith in (
      more,
      ap (λ b. b ∷ more) same,
      record {
        rest = reads.rest;
        is = rest;
        small = others_within f more reads.small;
        stops = subst (λ (k : ℕ). Stops k reads.rest ending) count reads.stops;
      },
    )

-- complete records are read, whatever follows them
pub all_read : (number : ℕ) (bodies : List (List ℕ)) (behind : List ℕ) (found : List (List ℕ)) (ending : Ending) → AreWithinLimit bodies
    → Reads number (log_bytes number bodies ++ behind) found ending
    → (more : List (List ℕ)) × (found ≡ bodies ++ more) × Reads (number + length bodies) behind more ending
all_read number [] behind found ending small reads =
    let plain : number ≡ number + 0 = omega arith in
    (found, refl, subst (λ (k : ℕ). Reads k behind found ending) plain reads)
all_read number (body ∷ bodies) behind found ending small reads =
    let here : Reads number (record_bytes number body ++ (log_bytes (suc number) bodies ++ behind)) found ending =
    subst (λ (t : List ℕ). Reads number t found ending) (append_assoc (record_bytes number body) (log_bytes (suc number) bodies) behind) reads in
    let one = first_read number body (log_bytes (suc number) bodies ++ behind) found ending (first_within body bodies small) here in
    let rest = all_read (suc number) bodies behind one.0 ending (others_within body bodies small) one.2 in
    let count : suc number + length bodies ≡ number + suc (length bodies) = omega arith in
    (rest.0, one.1 ∙ ap (λ fs. body ∷ fs) rest.1, subst (λ (k : ℕ). Reads k behind rest.0 ending) count rest.2)

-- complete records are read first, in order, whatever follows them
pub complete-records-are-read : CompleteRecordsAreRead
complete-records-are-read number bodies behind found ending small reads = all_read number bodies behind found ending small reads

-- appending the length, the checksum and the body to a text appends the record
pub record_pushed : (old : List ℕ) (number : ℕ) (body first second third : List ℕ) → first ≡ old ++ little_bytes 4 (length body) → second ≡ first ++ checksum number body
    → third ≡ second ++ body → third ≡ old ++ record_bytes number body
record_pushed old number body first second third one two three =
    three ∙ ap (λ xs. xs ++ body) (two ∙ ap (λ xs. xs ++ checksum number body) one)
    ∙ append_assoc (old ++ little_bytes 4 (length body)) (checksum number body) body
    ∙ append_assoc old (little_bytes 4 (length body)) (checksum number body ++ body)
    ∙ ap (λ xs. old ++ xs) (sym (append_assoc (little_bytes 4 (length body)) (checksum number body) body))
