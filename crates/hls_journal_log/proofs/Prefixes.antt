-- What is read of the first bytes of a log.
use Rattle.std.proofs.Common.{◌≡◌, ◌≢◌, ◌∙◌, ℕ, zero, suc, ◌+◌, ◌-◌, ◌<◌, ◌≤◌, List, [], ◌∷◌, ◌++◌, length, take, refl, sym, ap, subst, inl, inr, arith, append_assoc, length-append}
use Rattle.std.proofs.lemmas.Bool.{cases_lt}
use Rattle.std.proofs.lemmas.List.{length-take-le}
use Rattle.std.proofs.Math.Seq.{take-nil}
use Rattle.bytes.proofs.Ranges.{take-append_past}
use Rattle.byteorder.specs.Numbers.{little_from-take}
use Rattle.hls_journal_log.specs.declared.ending.Ending.{Ending}
use Rattle.hls_journal_log.specs.declared.ending.Ending.TheVariants.{Complete, Torn, Corrupt}
use Rattle.hls_journal_log.specs.Records.{body_limit, record_bytes, log_bytes, AreWithinLimit, body_len_in}
use Rattle.hls_journal_log.specs.Reading.{Stops, Reads}
use Rattle.hls_journal_log.specs.Laws.{PrefixesAreRead, PrefixesAreNotCorrupt}
use Rattle.hls_journal_log.proofs.Headers.{StartsWith, starts_with, length_record, first_read, first_within, others_within}

-- a text is the first bytes of a record, but not all of them
record IsBeginning (body text : List ℕ) : Type 0 where
  short : length text < 12 + length body
  len : 12 ≤ length text → body_len_in text ≡ length body

-- the first bytes of a record, fewer than it has, are such a text
beginning : (number : ℕ) (body behind : List ℕ) (len : ℕ) → length body ≤ body_limit → len < 12 + length body → IsBeginning body (take len (record_bytes number body ++ behind))
beginning number body behind len small short =
    let at = starts_with number body behind small in
    let all = length-take-le len (record_bytes number body ++ behind) (omega (arith, short, at.long)) in
    record {
      short = omega (arith, all, short);
      len = λ long. little_from-take 0 4 len (record_bytes number body ++ behind) (omega (arith, long, all)) ∙ at.len;
    }

-- reading such a text doesn't end as a corrupt log does
not_corrupt : (number : ℕ) (body text : List ℕ) (ending : Ending) → length body ≤ body_limit → IsBeginning body text → Stops number text ending → ending ≢ Corrupt
not_corrupt number body text Complete small at stops same = cc
not_corrupt number body text Torn small at stops same = cc
not_corrupt number body text Corrupt small at stops same =
    let len : body_len_in text ≡ length body = at.len stops.0 in
    elim stops.1 [ inl long ↦ omega (arith, long, len, small) | inr complete ↦ omega (arith, complete.0, len, at.short) ]

-- no record is read from the first bytes of one
none_read : (number : ℕ) (body text : List ℕ) (found : List (List ℕ)) (ending : Ending) → length body ≤ body_limit → IsBeginning body text
    → Reads number text found ending → (found ≡ []) × (ending ≢ Corrupt)
none_read number body text [] ending small at reads =
    let plain : number + 0 ≡ number = omega arith in
    let stops : Stops number reads.rest ending = subst (λ (k : ℕ). Stops k reads.rest ending) plain reads.stops in
    (refl, not_corrupt number body text ending small at (subst (λ (t : List ℕ). Stops number t ending) (sym reads.is) stops))
none_read number body text (f ∷ more) ending small at reads =
    let all : text ≡ record_bytes number f ++ (log_bytes (suc number) more ++ reads.rest) = reads.is ∙ append_assoc (record_bytes number f) (log_bytes (suc number) more) reads.rest in
    let there : StartsWith number f text = subst (λ (t : List ℕ). StartsWith number f t) (sym all) (starts_with number f (log_bytes (suc number) more ++ reads.rest) (first_within f more reads.small)) in
    let len : body_len_in text ≡ length body = at.len (omega (arith, there.long)) in
    absurd (omega (arith, len, there.len, there.long, at.short))

-- reading an empty text doesn't end as a corrupt log does
empty_not_corrupt : (number : ℕ) (text : List ℕ) (ending : Ending) → length text ≡ 0 → Stops number text ending → ending ≢ Corrupt
empty_not_corrupt number text Complete none stops same = cc
empty_not_corrupt number text Torn none stops same = cc
empty_not_corrupt number text Corrupt none stops same = omega (arith, none, stops.0)

-- no record is read from an empty text
empty_read : (number : ℕ) (found : List (List ℕ)) (ending : Ending) → Reads number [] found ending → (found ≡ []) × (ending ≢ Corrupt)
empty_read number [] ending reads =
    let plain : number + 0 ≡ number = omega arith in
    (refl, empty_not_corrupt number reads.rest ending (sym (ap length reads.is)) (subst (λ (k : ℕ). Stops k reads.rest ending) plain reads.stops))
empty_read number (f ∷ more) ending reads =
    let all : [] ≡ record_bytes number f ++ (log_bytes (suc number) more ++ reads.rest) = reads.is ∙ append_assoc (record_bytes number f) (log_bytes (suc number) more) reads.rest in
    let long = length-append (record_bytes number f) (log_bytes (suc number) more ++ reads.rest) in
    let none : 0 ≡ length (record_bytes number f ++ (log_bytes (suc number) more ++ reads.rest)) = ap length all in
    absurd (omega (arith, none, long, length_record number f))

-- what is read of the first bytes of a log: the first records, each that is complete there, and no corrupt end
pub record ReadsPrefix (number : ℕ) (bodies : List (List ℕ)) (len : ℕ) (found : List (List ℕ)) (ending : Ending) : Type 0 where
  pub front : found ≡ take (length found) bodies
  pub all : (count : ℕ) → count ≤ length bodies → length (log_bytes number (take count bodies)) ≤ len → count ≤ length found
  pub not_corrupt : ending ≢ Corrupt

-- if the first record isn't complete in the first bytes of a log, none is
none_complete : (number : ℕ) (body : List ℕ) (bodies : List (List ℕ)) (len : ℕ) → len < 12 + length body → (count : ℕ)
    → length (log_bytes number (take count (body ∷ bodies))) ≤ len → count ≤ 0
none_complete number body bodies len short zero fits = omega arith
none_complete number body bodies len short (suc count) fits =
    absurd (omega (arith, short, fits, length-append (record_bytes number body) (log_bytes (suc number) (take count bodies)), length_record number body))

-- if the first record is complete there, and at most `most` of those after it are, at most `most` + 1 are
one_more_complete : (number : ℕ) (body : List ℕ) (bodies : List (List ℕ)) (len most : ℕ) → 12 + length body ≤ len
    → ((count : ℕ) → count ≤ length bodies → length (log_bytes (suc number) (take count bodies)) ≤ len - (12 + length body) → count ≤ most)
    → (count : ℕ) → count ≤ suc (length bodies) → length (log_bytes number (take count (body ∷ bodies))) ≤ len → count ≤ suc most
one_more_complete number body bodies len most long rest zero within fits = omega arith
one_more_complete number body bodies len most long rest (suc count) within fits =
    let lens = length-append (record_bytes number body) (log_bytes (suc number) (take count bodies)) in
    let behind : count ≤ most = rest count (omega (arith, within)) (omega (arith, fits, lens, length_record number body, long)) in
    omega (arith, behind)

-- of the first bytes of a log the first records are read, each that is complete there, and not to a corrupt end
pub prefix_read : (number : ℕ) (bodies : List (List ℕ)) (len : ℕ) (found : List (List ℕ)) (ending : Ending) → AreWithinLimit bodies
    → Reads number (take len (log_bytes number bodies)) found ending → ReadsPrefix number bodies len found ending
prefix_read number [] len found ending small reads =
    let none = empty_read number found ending (subst (λ (t : List ℕ). Reads number t found ending) (take-nil len) reads) in
    record {
      front = none.0 ∙ sym (take-nil (length found));
      all = λ count within fits. omega (arith, within);
      not_corrupt = none.1;
    }
prefix_read number (body ∷ bodies) len found ending small reads =
    let body_small : length body ≤ body_limit = first_within body bodies small in
    elim (cases_lt len (12 + length body)) [
      | inl short ↦
          (let none = none_read number body (take len (record_bytes number body ++ log_bytes (suc number) bodies)) found ending body_small
          (beginning number body (log_bytes (suc number) bodies) len body_small short) reads in
          let few : length found ≡ 0 = ap length (none.0) in
          record {
            front = none.0 ∙ ap (λ k. take k (body ∷ bodies)) (sym few);
            all = λ count within fits. omega (arith, few, none_complete number body bodies len short count fits);
            not_corrupt = none.1;
          })
      | inr long ↦
          (let lens : len ≡ length (record_bytes number body) + (len - (12 + length body)) = omega (arith, length_record number body, long) in
          let split = take-append_past (record_bytes number body) (log_bytes (suc number) bodies) (len - (12 + length body)) len lens in
          let one = first_read number body (take (len - (12 + length body)) (log_bytes (suc number) bodies)) found ending body_small
          (subst (λ (t : List ℕ). Reads number t found ending) split reads) in
          let rest = prefix_read (suc number) bodies (len - (12 + length body)) one.0 ending (others_within body bodies small) one.2 in
          let count_is : length found ≡ suc (length one.0) = ap length (one.1) in
          record {
            front = one.1 ∙ ap (λ fs. body ∷ fs) rest.front ∙ ap (λ k. take k (body ∷ bodies)) (sym count_is);
            all = λ count within fits. omega (arith, count_is, one_more_complete number body bodies len (length one.0) long rest.all count within fits);
            not_corrupt = rest.not_corrupt;
          })
    ]

-- of the first bytes of a log a prefix of the records is read, with each one that is complete there
pub prefixes-are-read : PrefixesAreRead
prefixes-are-read number bodies len found ending small reads =
    let prefix = prefix_read number bodies len found ending small reads in (prefix.front, prefix.all)

-- the first bytes of a log don't end as a corrupt log does
pub prefixes-are-not-corrupt : PrefixesAreNotCorrupt
prefixes-are-not-corrupt number bodies len found ending small reads = (prefix_read number bodies len found ending small reads).not_corrupt
