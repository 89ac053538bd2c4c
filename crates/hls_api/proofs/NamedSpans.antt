-- What a path names, by searches for the units that begin at its first byte and after its last one.
use Rattle.std.proofs.Common.{◌≡◌, ◌∙◌, ℕ, suc, ◌+◌, ◌-◌, ◌<◌, ◌≤◌, ◌^◌, Bool, true, false, List, [], ◌∷◌, All, length, take, drop, Option, Some, None, refl, sym, ap, subst, arith, zero-add, inl, inr}
use Rattle.std.specs.Prelude.{slice_get, nat_lt, nat_le, ◌&&◌}
use Rattle.std.proofs.lemmas.Bool.{cases_lt, cond-true, cond-false, le-ltb, lt-ltb, ltb-true}
use Rattle.std.proofs.lemmas.Option.{get_or_from_slice_get, slice_get-get_or}
use Rattle.std.proofs.lemmas.List.Elements.{All-nil, All-cons}
use Rattle.std.proofs.lemmas.List.Sums.{sum_by-append, sum_by-take-le}
use Rattle.std.proofs.Math.Seq.{take-add}
use Rattle.hls_time.specs.Times.{longest_length_us}
use Rattle.hls_media_laws.specs.{declared.facts.Facts.Facts, FactLists.{fact_at, no_facts, len_of, total_bytes}}
use Rattle.hls_media_laws.proofs.Callers.{units_are_bounded}
use Rattle.hls_record.specs.{RecordingData.{RecordingData, offset_at, total_of}, IsRecorded.IsRecorded, Search.BeginsAt}
use Rattle.hls_playlists_laws.specs.JobResource.{bytes_between}
use Rattle.hls_playlists_laws.specs.NamedUnits.{Named, NoUnits, may_be_segment, named_between, named_units, unit_after}
use Rattle.hls_playlists_laws.proofs.Callers.{finds, is-found}
use Rattle.hls_playlists_laws.proofs.Callers.{some_bytes as between_some}
use Rattle.hls_http.specs.declared.fault.HttpFault.TheVariants as http
use Rattle.hls_api.specs.Responses.{ResponseData, fault_answer}
use Rattle.hls_api.specs.Players.{recorded_units_answer, slice_answer, units_answer}
use Rattle.hls_api.specs.NamedSpans.{IsNamedIn, IsNamedSpan, units_between_bytes}
use Rattle.hls_api.specs.Types.{RangeSpec}
use Rattle.hls_api.specs.declared.player_responses.{NamedSpan.NamedSpan, Span.Span}
use Rattle.hls_api.specs.declared.player_responses.NamedSpan.TheVariants as spans

-- ---- units

-- what holds of the element at each index holds of all elements
all_each : {A : Type 0} (P : A → Type 0) (xs : List A) → ((k : ℕ) (x : A) → slice_get xs k ≡ Some x → P x) → All P xs
all_each P [] each = All-nil P
all_each P (x ∷ xs) each = All-cons P x xs (each 0 x refl) (all_each P xs (λ k y at. each (suc k) y at))

-- each unit of a recording has at least one byte
some_bytes : (r : RecordingData) → IsRecorded r → All (λ f. 0 < f.len) r.facts
some_bytes r valid =
    all_each (λ f. 0 < f.len) r.facts (λ k f at. let was = valid.ever k f at in (units_are_bounded r.init was.bytes f was.is).some_bytes)

-- if unit n begins at byte `at` of a recording, or its units end there, the search by bytes finds number n
begins_some : (r : RecordingData) (at n : ℕ) → IsRecorded r → BeginsAt r at (Some n) → unit_after 0 r.facts (at - length r.head) ≡ Some n
begins_some r at n valid begins =
    let there : length r.head + total_bytes (take n r.facts) ≡ at = begins.1 in
    let bytes : at - length r.head ≡ total_bytes (take n r.facts) = omega (arith, there) in
    ap (unit_after 0 r.facts) bytes ∙ (finds 0 r.facts n (some_bytes r valid) begins.0 ∙ ap (λ (k : ℕ). Some k) (zero-add n))

-- if no unit begins at byte `at` and the units don't end there, the search's result can only be none
none_by : (r : RecordingData) (at : ℕ) → length r.head ≤ at → BeginsAt r at None → (o : Option ℕ) → unit_after 0 r.facts (at - length r.head) ≡ o → o ≡ None
none_by r at low none None is = refl
none_by r at low none (Some m) is =
    let found = is-found 0 r.facts (at - length r.head) m is in
    let same : length r.head + total_bytes (take found.number r.facts) ≡ at = omega (arith, found.bytes, low) in
    absurd (none found.number found.within same)

-- if no unit begins at byte `at` and the units don't end there, the search by bytes finds none
begins_none : (r : RecordingData) (at : ℕ) → length r.head ≤ at → BeginsAt r at None → unit_after 0 r.facts (at - length r.head) ≡ None
begins_none r at low none = none_by r at low none (unit_after 0 r.facts (at - length r.head)) refl

-- without a unit that begins at the first byte, nothing is named
none_first : (target : ℕ) (facts : List Facts) (floor : ℕ) (p : Option ℕ) → named_between target facts floor None p ≡ NoUnits
none_first target facts floor None = refl
none_first target facts floor (Some n) = refl

-- without a unit that begins after the last byte, nothing is named
none_last : (target : ℕ) (facts : List Facts) (floor : ℕ) (o : Option ℕ) → named_between target facts floor o None ≡ NoUnits
none_last target facts floor None = refl
none_last target facts floor (Some n) = refl

-- ---- units from one byte to another

-- if no unit begins at byte `first`, which is after the init section, the bytes from it to `last` name nothing
pub no_first : (target : ℕ) (r : RecordingData) (first last : ℕ) → length r.head ≤ first → BeginsAt r first None →
    IsNamedSpan r spans.Nothing (units_between_bytes target r first last)
no_first target r first last low none =
    ap (λ (o : Option ℕ). named_between target r.facts r.floor o (unit_after 0 r.facts (last + 1 - length r.head))) (begins_none r first low none)
    ∙ none_first target r.facts r.floor (unit_after 0 r.facts (last + 1 - length r.head))

-- if no unit begins after byte `last` and the units don't end there, the bytes from `first` to it name nothing
pub no_last : (target : ℕ) (r : RecordingData) (first last : ℕ) → length r.head ≤ first → first ≤ last → BeginsAt r (last + 1) None →
    IsNamedSpan r spans.Nothing (units_between_bytes target r first last)
no_last target r first last low order none =
    ap (named_between target r.facts r.floor (unit_after 0 r.facts (first - length r.head))) (begins_none r (last + 1) (omega (arith, low, order)) none)
    ∙ none_last target r.facts r.floor (unit_after 0 r.facts (first - length r.head))

-- if unit m begins at byte `first` and unit n after byte `last`, the bytes between name what the units from m to the one before n do
both : (target : ℕ) (r : RecordingData) (first last m n : ℕ) → IsRecorded r → BeginsAt r first (Some m) → BeginsAt r (last + 1) (Some n) →
    units_between_bytes target r first last ≡ named_between target r.facts r.floor (Some m) (Some n)
both target r first last m n valid begins ends =
    ap (λ (o : Option ℕ). named_between target r.facts r.floor o (unit_after 0 r.facts (last + 1 - length r.head))) (begins_some r first m valid begins)
    ∙ ap (named_between target r.facts r.floor (Some m)) (begins_some r (last + 1) n valid ends)

-- if the units between may not be a segment, their bytes name nothing
pub no_segment : (target : ℕ) (r : RecordingData) (first last m n : ℕ) → IsRecorded r → BeginsAt r first (Some m) → BeginsAt r (last + 1) (Some n) →
    may_be_segment target r.facts m n ≡ false → IsNamedSpan r spans.Nothing (units_between_bytes target r first last)
no_segment target r first last m n valid begins ends may =
    both target r first last m n valid begins ends ∙ cond-false (may_be_segment target r.facts m n) _ _ may

-- if the units between may be a segment and the first of them is trimmed, their bytes name trimmed units
pub trimmed_segment : (target : ℕ) (r : RecordingData) (first last m n : ℕ) → IsRecorded r → BeginsAt r first (Some m) → BeginsAt r (last + 1) (Some n) →
    may_be_segment target r.facts m n ≡ true → m < r.floor → IsNamedSpan r spans.Trimmed (units_between_bytes target r first last)
trimmed_segment target r first last m n valid begins ends may gone =
    both target r first last m n valid begins ends
    ∙ (cond-true (may_be_segment target r.facts m n) _ _ may ∙ cond-true (nat_lt m r.floor) _ _ (lt-ltb m r.floor gone))

-- the bytes of the first n units are those of the first m units and those of the units between
span_total : (facts : List Facts) (m n : ℕ) → m ≤ n → total_bytes (take n facts) ≡ total_bytes (take m facts) + bytes_between facts m n
span_total facts m n rises =
    let upto : m + (n - m) ≡ n = omega (arith, rises) in
    ap (λ (k : ℕ). total_bytes (take k facts)) (sym upto)
    ∙ (ap total_bytes (take-add m (n - m) facts) ∙ sum_by-append len_of (take m facts) (take (n - m) (drop m facts)))

-- if the units from m to the one before n may be a segment, m < n
rises_by : (target : ℕ) (facts : List Facts) (m n : ℕ) (b : Bool) → nat_lt m n ≡ b → may_be_segment target facts m n ≡ true → b ≡ true
rises_by target facts m n true is may = refl
rises_by target facts m n false is may =
    let never : false ≡ true = sym (ap (λ (c : Bool). c && nat_le ((fact_at facts (n - 1)).end_us - (fact_at facts m).start_us) (longest_length_us target)) is) ∙ may in
    absurd (cc)

-- if the units between may be a segment and none of them is trimmed, the path names the bytes from `first` to `last`
pub kept_segment : (target : ℕ) (r : RecordingData) (first last m n : ℕ) → IsRecorded r → BeginsAt r first (Some m) → BeginsAt r (last + 1) (Some n) →
    may_be_segment target r.facts m n ≡ true → r.floor ≤ m → first ≤ last → last + 1 < 2 ^ 64 →
    IsNamedSpan r (spans.Kept (record { start = first; len = last + 1 - first })) (units_between_bytes target r first last)
kept_segment target r first last m n valid begins ends may kept order few_bytes =
    let rises = ltb-true m n (rises_by target r.facts m n (nat_lt m n) refl may) in
    let sums = span_total r.facts m n (omega (arith, rises)) in
    let few : total_bytes (take n r.facts) ≤ total_bytes r.facts = sum_by-take-le len_of r.facts n in
    let from : length r.head + total_bytes (take m r.facts) ≡ first = begins.1 in
    let upto : length r.head + total_bytes (take n r.facts) ≡ last + 1 = ends.1 in
    let inside : first + (last + 1 - first) ≤ length r.head + total_bytes r.facts = omega (arith, few, upto, order) in
    record {
      first = m;
      end = n;
      named_is = both target r first last m n valid begins ends
          ∙ (cond-true (may_be_segment target r.facts m n) _ _ may ∙ cond-false (nat_lt m r.floor) _ _ (le-ltb m r.floor kept));
      start = sym begins.1;
      len = omega (arith, sums, from, upto);
      within = inside;
      small = omega (arith, order, few_bytes);
    }

-- ---- the length of a segment

-- if n isn't above m, the units from m to the one before n may not be a segment
pub not_rising : (target : ℕ) (facts : List Facts) (m n : ℕ) → n ≤ m → false ≡ may_be_segment target facts m n
not_rising target facts m n low =
    sym (ap (λ (c : Bool). c && nat_le ((fact_at facts (n - 1)).end_us - (fact_at facts m).start_us) (longest_length_us target)) (le-ltb m n low))

-- if m < n, the units from m to the one before n may be a segment exactly if they last no longer than the target duration allows
pub long_as : (target : ℕ) (facts : List Facts) (m n : ℕ) (f g : Facts) → m < n → slice_get facts m ≡ Some f → slice_get facts (n - 1) ≡ Some g →
    nat_le (g.end_us - f.start_us) (longest_length_us target) ≡ may_be_segment target facts m n
long_as target facts m n f g up begins ends =
    let is_f : fact_at facts m ≡ f = get_or_from_slice_get facts m f no_facts begins in
    let is_g : fact_at facts (n - 1) ≡ g = get_or_from_slice_get facts (n - 1) g no_facts ends in
    sym (ap (λ (c : Bool). c && nat_le ((fact_at facts (n - 1)).end_us - (fact_at facts m).start_us) (longest_length_us target)) (lt-ltb m n up)
    ∙ (ap (λ (x : Facts). nat_le ((fact_at facts (n - 1)).end_us - x.start_us) (longest_length_us target)) is_f
    ∙ ap (λ (x : Facts). nat_le (x.end_us - f.start_us) (longest_length_us target)) is_g))

-- a unit whose number is below the number of units has facts
pub is_there : (facts : List Facts) (n : ℕ) → n < length facts → slice_get facts n ≡ None → ⊥
is_there facts n within none =
    let never : None ≡ Some (fact_at facts n) = sym none ∙ slice_get-get_or facts n no_facts within in
    absurd (cc)

-- ---- bytes as the channel counts them

-- a path whose first byte is in the init section names nothing
pub in_head : (r : RecordingData) (before target first last : ℕ) → first < length r.head →
    IsNamedSpan r spans.Nothing (named_units before target (length r.head) r.facts r.floor first last)
in_head r before target first last low = cond-true (nat_lt first (length r.head)) _ _ (lt-ltb first (length r.head) low)

-- a path whose first byte is in the units that precede the recording names trimmed units
pub precedes : (r : RecordingData) (before target first last : ℕ) → length r.head ≤ first → first < length r.head + before →
    IsNamedSpan r spans.Trimmed (named_units before target (length r.head) r.facts r.floor first last)
precedes r before target first last low few =
    cond-false (nat_lt first (length r.head)) _ _ (le-ltb first (length r.head) low)
    ∙ cond-true (nat_lt first (length r.head + before)) _ _ (lt-ltb first (length r.head + before) few)

-- a path whose first byte is in the recording's own units names what a search among these units finds for its two ends
own : (r : RecordingData) (before target first last : ℕ) → length r.head + before ≤ first →
    named_units before target (length r.head) r.facts r.floor first last
    ≡ named_between target r.facts r.floor (unit_after 0 r.facts (first - (length r.head + before))) (unit_after 0 r.facts (last + 1 - (length r.head + before)))
own r before target first last low =
    cond-false (nat_lt first (length r.head)) _ _ (le-ltb first (length r.head) (omega (arith, low)))
    ∙ cond-false (nat_lt first (length r.head + before)) _ _ (le-ltb first (length r.head + before) low)

-- if the first j units have no more bytes than the first i, then j isn't above i
counts_rise : (facts : List Facts) (i j : ℕ) → All (λ f. 0 < f.len) facts → j ≤ length facts → total_bytes (take j facts) ≤ total_bytes (take i facts) → j ≤ i
counts_rise facts i j some few low =
    elim (cases_lt i j) [
      | inl up ↦
          (let parts = span_total facts i j (omega (arith, up)) in
          absurd (omega (arith, parts, low, between_some facts i j some up few)))
      | inr down ↦ down
    ]

-- if `last` isn't after `first`, the units found at these two positions name nothing
ends_first : (target : ℕ) (facts : List Facts) (floor first last : ℕ) → last ≤ first → All (λ f. 0 < f.len) facts → (o p : Option ℕ) →
    unit_after 0 facts first ≡ o → unit_after 0 facts last ≡ p → named_between target facts floor o p ≡ NoUnits
ends_first target facts floor first last order some None p begins ends = none_first target facts floor p
ends_first target facts floor first last order some (Some m) None begins ends = none_last target facts floor (Some m)
ends_first target facts floor first last order some (Some m) (Some n) begins ends =
    let u = is-found 0 facts first m begins in
    let v = is-found 0 facts last n ends in
    let low : v.number ≤ u.number = counts_rise facts u.number v.number some v.within (omega (arith, u.bytes, v.bytes, order)) in
    cond-false (may_be_segment target facts m n) _ _ (sym (not_rising target facts m n (omega (arith, low, u.is, v.is))))

-- a path whose last byte precedes its first one names nothing
pub backwards : (r : RecordingData) (before target first last : ℕ) → IsRecorded r → length r.head + before ≤ first → last < first →
    IsNamedSpan r spans.Nothing (named_units before target (length r.head) r.facts r.floor first last)
backwards r before target first last valid low order =
    own r before target first last low
    ∙ ends_first target r.facts r.floor (first - (length r.head + before)) (last + 1 - (length r.head + before)) (omega (arith, order)) (some_bytes r valid)
    (unit_after 0 r.facts (first - (length r.head + before))) (unit_after 0 r.facts (last + 1 - (length r.head + before))) refl refl

-- no unit begins, nor do the units end, more bytes after the start than all units have
none_past : (facts : List Facts) (k : ℕ) → total_bytes facts < k → (o : Option ℕ) → unit_after 0 facts k ≡ o → o ≡ None
none_past facts k past None is = refl
none_past facts k past (Some m) is =
    let found = is-found 0 facts k m is in
    let few : total_bytes (take found.number facts) ≤ total_bytes facts = sum_by-take-le len_of facts found.number in
    absurd (omega (arith, few, found.bytes, past))

-- a path whose last byte is past the end of the recording names nothing
pub past_end : (r : RecordingData) (before target first last : ℕ) → length r.head + before ≤ first → total_of r + before ≤ last →
    IsNamedSpan r spans.Nothing (named_units before target (length r.head) r.facts r.floor first last)
past_end r before target first last low past =
    let far : length r.head + total_bytes r.facts + before ≤ last = past in
    let end : ℕ = last + 1 - (length r.head + before) in
    let over : total_bytes r.facts < end = omega (arith, far) in
    own r before target first last low
    ∙ (ap (named_between target r.facts r.floor (unit_after 0 r.facts (first - (length r.head + before))))
    (none_past r.facts end over (unit_after 0 r.facts end) refl)
    ∙ none_last target r.facts r.floor (unit_after 0 r.facts (first - (length r.head + before))))

-- what bytes name in the recording itself they name in the resource, where `before` more bytes precede the units
pub moved : (r : RecordingData) (before target first last : ℕ) (span : NamedSpan) → length r.head + before ≤ first → first ≤ last →
    IsNamedSpan r span (units_between_bytes target r (first - before) (last - before)) →
    IsNamedSpan r span (named_units before target (length r.head) r.facts r.floor first last)
moved r before target first last span low order is =
    let begin : first - before - length r.head ≡ first - (length r.head + before) = omega (arith, low) in
    let end : last - before + 1 - length r.head ≡ last + 1 - (length r.head + before) = omega (arith, low, order) in
    let same : units_between_bytes target r (first - before) (last - before) ≡ named_units before target (length r.head) r.facts r.floor first last =
    ap (λ (k : ℕ). named_between target r.facts r.floor (unit_after 0 r.facts k) (unit_after 0 r.facts (last - before + 1 - length r.head))) begin
    ∙ (ap (λ (k : ℕ). named_between target r.facts r.floor (unit_after 0 r.facts (first - (length r.head + before))) (unit_after 0 r.facts k)) end
    ∙ sym (own r before target first last low)) in
    subst (IsNamedSpan r span) same is

-- ---- the reply

-- the bytes that a path names are within its recording
pub span_within : (o : Option RecordingData) (span : Span) (before target first last : ℕ) → IsNamedIn o (spans.Kept span) before target first last →
    (rec : RecordingData) → Some rec ≡ o → span.start + span.len ≤ total_of rec
span_within None span before target first last is rec there = absurd is
span_within (Some r) span before target first last is rec there =
    let same : rec ≡ r = cc in
    subst (λ (x : RecordingData). span.start + span.len ≤ total_of x) (sym same) is.within

-- the bytes that a path names end before byte 2^64
pub span_small : (o : Option RecordingData) (span : Span) (before target first last : ℕ) → IsNamedIn o (spans.Kept span) before target first last →
    span.start + span.len < 2 ^ 64
span_small None span before target first last is = absurd is
span_small (Some r) span before target first last is = is.small

-- for a path that names kept bytes, what holds of the slice's reply holds of the path's reply, which is the same
pub kept_answer : (o : Option RecordingData) (span : Span) (before target first last : ℕ) (asked : RangeSpec) (Holds : (ResponseData → Type 0) → Type 0) →
    IsNamedIn o (spans.Kept span) before target first last → ((rec : RecordingData) → Some rec ≡ o → Holds (λ a. a ≡ slice_answer rec span.start span.len asked)) →
    Holds (λ a. a ≡ recorded_units_answer target before o first last asked)
kept_answer None span before target first last asked Holds is shown = absurd is
kept_answer (Some r) span before target first last asked Holds is shown =
    subst (λ (answer : ResponseData). Holds (λ a. a ≡ answer))
    (ap (λ (n : ℕ). slice_answer r n span.len asked) is.start
    ∙ (ap (λ (n : ℕ). slice_answer r (offset_at r is.first) n asked) is.len
    ∙ ap (λ (x : Named). units_answer r x asked) (sym is.named_is)))
    (shown r refl)

-- the reply for a path that names trimmed units is 410
pub trimmed_answer : (o : Option RecordingData) (before target first last : ℕ) (asked : RangeSpec) (a : ResponseData) →
    IsNamedIn o spans.Trimmed before target first last → a ≡ fault_answer http.Gone → a ≡ recorded_units_answer target before o first last asked
trimmed_answer None before target first last asked a is shown = absurd is
trimmed_answer (Some r) before target first last asked a is shown = shown ∙ ap (λ (x : Named). units_answer r x asked) (sym is)

-- the reply for a path that names nothing is 404
pub nothing_answer : (o : Option RecordingData) (before target first last : ℕ) (asked : RangeSpec) (a : ResponseData) →
    IsNamedIn o spans.Nothing before target first last → a ≡ fault_answer http.NotFound → a ≡ recorded_units_answer target before o first last asked
nothing_answer None before target first last asked a is shown = shown
nothing_answer (Some r) before target first last asked a is shown = shown ∙ ap (λ (x : Named). units_answer r x asked) (sym is)
