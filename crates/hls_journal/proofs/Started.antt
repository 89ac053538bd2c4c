-- What the first bytes of a body say.
use Rattle.std.proofs.Common.{◌≡◌, ◌∙◌, ℕ, ◌-◌, ◌<◌, ◌≤◌, ◌^◌, List, [], ◌∷◌, ◌++◌, length, take, drop, refl, sym, ap, subst, arith, append_assoc, append-nil, length-append}
use Rattle.std.proofs.lemmas.List.{take_at, drop_at, take-append-drop, length-drop}
use Rattle.byteorder.specs.Endian.{little_bytes, little_number}
use Rattle.byteorder.specs.Numbers.{little_number-reads_back, length-bytes_low_first}
use Rattle.hls_journal_log.specs.Checksum.{checksum_of}
use Rattle.hls_core_laws.specs.declared.event.Event.{Event}
use Rattle.hls_core_laws.specs.declared.event.Event.TheVariants.{Begin, Accept, Finish, Slide, Trim}
use Rattle.hls_journal_laws.specs.Bodies.{kind_in, worker_in, rendition_in, init_section_in, number_in, unit_len_in, unit_checksum_in, unit_head_in}
use Rattle.hls_journal_laws.specs.Heads.{IsHead}
use Rattle.hls_journal_laws.specs.Restored.{unit_checksum}
use Rattle.hls_journal_laws.specs.Written.{IsUnitRecord}
use Rattle.hls_journal.specs.Bodies.{IsAsideBody, IsBodyOf, IsUnitBody, body_start}

-- the start of a body and what follows are the kind, the worker's two bytes, the rendition, and what follows
parts : (kind by r : ℕ) (more : List ℕ) → body_start kind by r ++ more ≡ kind ∷ (little_bytes 2 by ++ (r ∷ more))
parts kind by r more = ap (λ xs. kind ∷ xs) (append_assoc (little_bytes 2 by) (r ∷ []) more)

-- a body that begins with this start has its kind
kind_is : (kind by r : ℕ) (more : List ℕ) → kind_in (body_start kind by r ++ more) ≡ kind
kind_is kind by r more = ap (λ b. kind_in b) (parts kind by r more)

-- a body that begins with this start has its worker, if the worker's number is below 65536
worker_is : (kind by r : ℕ) (more : List ℕ) → by < 65536 → worker_in (body_start kind by r ++ more) ≡ by
worker_is kind by r more small =
    ap (λ b. worker_in b) (parts kind by r more) ∙ little_number-reads_back 2 by (r ∷ more) (omega (arith, small))

two : (by : ℕ) → length (little_bytes 2 by) ≡ 2
two by = length-bytes_low_first 0 2 by

-- the start of a body has four bytes
four : (kind by r : ℕ) → length (body_start kind by r) ≡ 4
four kind by r = omega (arith, length-append ((kind ∷ []) ++ little_bytes 2 by) (r ∷ []), length-append (kind ∷ []) (little_bytes 2 by), two by)

-- a body that begins with this start has its rendition
rendition_is : (kind by r : ℕ) (more : List ℕ) → rendition_in (body_start kind by r ++ more) ≡ r
rendition_is kind by r more = refl

-- what follows the start is what is in the body after four bytes
rest_is : (kind by r : ℕ) (more : List ℕ) → drop 4 (body_start kind by r ++ more) ≡ more
rest_is kind by r more = drop_at (body_start kind by r) more 4 (four kind by r)

-- a start alone is a start that no bytes follow
start_alone : (kind by r : ℕ) → body_start kind by r ≡ body_start kind by r ++ []
start_alone kind by r = sym (append-nil (body_start kind by r))

-- a body with a kind from 6 to 8 is a record of no event
pub aside_body : (kind by r : ℕ) (more body : List ℕ) → body ≡ body_start kind by r ++ more → 6 ≤ kind → kind ≤ 8 → IsAsideBody body
aside_body kind by r more body is low high =
    let at : kind_in body ≡ kind = ap (λ b. kind_in b) is ∙ kind_is kind by r more in
    (omega (arith, at, low), omega (arith, at, high))

-- a body that is only a start, with a kind from 6 to 8, is a record of no event
pub aside_alone : (kind by r : ℕ) (body : List ℕ) → body ≡ body_start kind by r → 6 ≤ kind → kind ≤ 8 → IsAsideBody body
aside_alone kind by r body is low high = aside_body kind by r [] body (is ∙ start_alone kind by r) low high

-- a body that begins with this start has its kind, its worker and its rendition
starts : (kind by r : ℕ) (more body : List ℕ) → body ≡ body_start kind by r ++ more → by < 65536 → (kind_in body ≡ kind) × (worker_in body ≡ by) × (rendition_in body ≡ r)
starts kind by r more body is small = (
  ap (λ b. kind_in b) is ∙ kind_is kind by r more,
  ap (λ b. worker_in b) is ∙ worker_is kind by r more small,
  ap (λ b. rendition_in b) is ∙ rendition_is kind by r more,
)

-- a number is eight bytes long
eight : (n : ℕ) → length (little_bytes 8 n) ≡ 8
eight n = length-bytes_low_first 0 8 n

-- a body of a start and a number has this number, and 12 bytes
number_is : (kind by r n : ℕ) (body : List ℕ) → body ≡ body_start kind by r ++ little_bytes 8 n → n < 2 ^ 64 → (number_in body ≡ n) × (length body ≡ 12)
number_is kind by r n body is small = (
  ap (λ b. little_number 8 (drop 4 b)) is ∙ ap (λ t. little_number 8 t) (rest_is kind by r (little_bytes 8 n) ∙ sym (append-nil (little_bytes 8 n)))
      ∙ little_number-reads_back 8 n [] (omega (arith, small)),
  omega (arith, ap length is, length-append (body_start kind by r) (little_bytes 8 n), four kind by r, eight n),
)

-- a start of kind 1 and the bytes of an init section are the body of a begin's record
pub begin_body_of : (at by : ℕ) (e : Event) (r : ℕ) (start bytes body : List ℕ) → (init : _) → e ≡ Begin r init bytes → start ≡ body_start 1 by r → body ≡ start ++ bytes → by < 65536 → IsBodyOf by at e body
begin_body_of at by e r start bytes body init event start_is body_is small =
    let is : body ≡ body_start 1 by r ++ bytes = body_is ∙ ap (λ xs. xs ++ bytes) start_is in
    let all = starts 1 by r bytes body is small in
    subst (λ (x : Event). IsBodyOf by at x body) (sym event)
    (all.1, (all.0, all.2, ap (λ b. init_section_in b) is ∙ rest_is 1 by r bytes))

-- a start of kind 3 is the body of a finish's record
pub finish_body_of : (at by : ℕ) (e : Event) (r : ℕ) (body : List ℕ) → e ≡ Finish r → body ≡ body_start 3 by r → by < 65536 → IsBodyOf by at e body
finish_body_of at by e r body event is small =
    let all = starts 3 by r [] body (is ∙ start_alone 3 by r) small in
    subst (λ (x : Event). IsBodyOf by at x body) (sym event) (all.1, (all.0, all.2))

-- a start of kind 4 and the count are the body of a slide's record
pub slide_body_of : (at by : ℕ) (e : Event) (count : ℕ) (body : List ℕ) → e ≡ Slide count → body ≡ body_start 4 by 0 ++ little_bytes 8 count → by < 65536 → count < 2 ^ 64 → IsBodyOf by at e body
slide_body_of at by e count body event is small fits =
    let all = starts 4 by 0 (little_bytes 8 count) body is small in
    let number = number_is 4 by 0 count body is fits in
    subst (λ (x : Event). IsBodyOf by at x body) (sym event) (all.1, (all.0, number.0, number.1))

-- a start of kind 5 and the floor are the body of a trim's record
pub trim_body_of : (at by : ℕ) (e : Event) (r floor : ℕ) (body : List ℕ) → e ≡ Trim r floor → body ≡ body_start 5 by r ++ little_bytes 8 floor → by < 65536 → floor < 2 ^ 64 → IsBodyOf by at e body
trim_body_of at by e r floor body event is small fits =
    let all = starts 5 by r (little_bytes 8 floor) body is small in
    let number = number_is 5 by r floor body is fits in
    subst (λ (x : Event). IsBodyOf by at x body) (sym event) (all.1, (all.0, all.2, number.0, number.1))

-- a body of a start, a length, a checksum and a head has each of these parts
unit_parts : (by r len : ℕ) (sum head : List ℕ) → length sum ≡ 8 → len < 2 ^ 32
    → (unit_len_in (body_start 2 by r ++ little_bytes 4 len ++ sum ++ head) ≡ len)
    × (unit_checksum_in (body_start 2 by r ++ little_bytes 4 len ++ sum ++ head) ≡ sum)
    × (unit_head_in (body_start 2 by r ++ little_bytes 4 len ++ sum ++ head) ≡ head)
unit_parts by r len sum head eight_long small =
    let start = body_start 2 by r in
    let whole : body_start 2 by r ++ little_bytes 4 len ++ sum ++ head ≡ body_start 2 by r ++ (little_bytes 4 len ++ (sum ++ head)) =
    append_assoc (body_start 2 by r ++ little_bytes 4 len) sum head ∙ append_assoc (body_start 2 by r) (little_bytes 4 len) (sum ++ head) in
    let l4 : length (little_bytes 4 len) ≡ 4 = length-bytes_low_first 0 4 len in
    let l8 : length (body_start 2 by r ++ little_bytes 4 len) ≡ 8 = omega (arith, length-append (body_start 2 by r) (little_bytes 4 len), four 2 by r, l4) in
    let l16 : length (body_start 2 by r ++ little_bytes 4 len ++ sum) ≡ 16 = omega (arith, length-append (body_start 2 by r ++ little_bytes 4 len) sum, l8, eight_long) in (
      ap (λ b. little_number 4 (drop 4 b)) whole ∙ ap (λ t. little_number 4 t) (rest_is 2 by r (little_bytes 4 len ++ (sum ++ head)))
          ∙ little_number-reads_back 4 len (sum ++ head) (omega (arith, small)),
      ap (λ b. take 8 (drop 8 b)) (append_assoc (body_start 2 by r ++ little_bytes 4 len) sum head)
          ∙ ap (λ t. take 8 t) (drop_at (body_start 2 by r ++ little_bytes 4 len) (sum ++ head) 8 l8)
          ∙ take_at sum head 8 eight_long,
      drop_at (body_start 2 by r ++ little_bytes 4 len ++ sum) head 16 l16,
    )

-- the body of a unit's record is that of its event
pub accept_body_of : (at by : ℕ) (e : Event) (r : ℕ) (unit body : List ℕ) → (f : _) → e ≡ Accept r f unit → IsUnitBody by r at unit body → by < 65536 → IsBodyOf by at e body
accept_body_of at by e r unit body f event u small =
    let sum8 : length (unit_checksum at unit) ≡ 8 = length-bytes_low_first 0 8 (checksum_of at unit) in
    let told = unit_parts by r (length unit) (unit_checksum at unit) u.head sum8 u.short in
    let whole : body ≡ body_start 2 by r ++ (little_bytes 4 (length unit) ++ (unit_checksum at unit ++ u.head)) =
    u.is ∙ append_assoc (body_start 2 by r ++ little_bytes 4 (length unit)) (unit_checksum at unit) u.head ∙ append_assoc (body_start 2 by r) (little_bytes 4 (length unit)) (unit_checksum at unit ++ u.head) in
    let all = starts 2 by r (little_bytes 4 (length unit) ++ (unit_checksum at unit ++ u.head)) body whole small in
    let head_is : unit_head_in body ≡ u.head = ap (λ b. unit_head_in b) u.is ∙ told.2 in
    let recorded : IsUnitRecord at unit body = record {
      len = ap (λ b. unit_len_in b) u.is ∙ told.0;
      sum = ap (λ b. unit_checksum_in b) u.is ∙ told.1;
      rest = u.rest;
      split = u.split ∙ ap (λ h. h ++ u.rest) (sym head_is);
      head = subst (λ (h : List ℕ). IsHead h (length u.rest)) (sym head_is) u.is_head;
    } in
    subst (λ (x : Event). IsBodyOf by at x body) (sym event) (all.1, (all.0, all.2, recorded))

-- a start of kind 2, the unit's length, its checksum and the head that was found are the body of the unit's record
pub unit_body_of : (by r at head_len : ℕ) (unit start one two three body : List ℕ) → length unit < 2 ^ 32 → head_len ≤ length unit → IsHead (take head_len unit) (length unit - head_len)
    → start ≡ body_start 2 by r → one ≡ start ++ little_bytes 4 (length unit) → two ≡ one ++ unit_checksum at unit → three ≡ take head_len unit → body ≡ two ++ three → IsUnitBody by r at unit body
unit_body_of by r at head_len unit start one two three body short within is_head start_is one_is two_is three_is body_is =
    record {
      head = take head_len unit;
      rest = drop head_len unit;
      split = sym (take-append-drop head_len unit);
      is_head = subst (λ (n : ℕ). IsHead (take head_len unit) n) (sym (length-drop head_len unit)) is_head;
      short = short;
      is = body_is ∙ ap (λ xs. two ++ xs) three_is ∙ ap (λ xs. xs ++ take head_len unit) (two_is ∙ ap (λ xs. xs ++ unit_checksum at unit) (one_is ∙ ap (λ xs. xs ++ little_bytes 4 (length unit)) start_is));
    }
