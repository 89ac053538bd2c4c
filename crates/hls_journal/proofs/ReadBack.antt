-- The parts of the record of a channel, read back from its bytes.
use Rattle.std.proofs.Common.{◌≡◌, ◌∙◌, ℕ, zero, suc, ◌+◌, ◌*◌, ◌<◌, ◌≤◌, ◌^◌, ◌==◌, Bool, true, false, List, [], ◌∷◌, ◌++◌, length, take, drop, get_or, refl, sym, ap, subst, inl, inr, arith, append_assoc, append-nil, length-append}
use Rattle.std.specs.Prelude.{All, Option, MatchOption, Err, not, slice_index_or}
use Rattle.std.specs.Int.{from_bool}
use Rattle.std.proofs.lemmas.List.{take_at, drop_at, take_all, take_more, get_or-drop, take-append-drop, get_or_past}
use Rattle.std.proofs.lemmas.Bool.{cases_lt}
use Rattle.byteorder.specs.Endian.{little_bytes, little_number}
use Rattle.byteorder.specs.Numbers.{little_number-reads_back, length-bytes_low_first}
use Rattle.hls_core_laws.specs.Base.{BaseData, IsBase, bytes_before_base, base_limit}
use Rattle.hls_core_laws.specs.Config.{ConfigData}
use Rattle.hls_core.specs.Bases.{IsNoBase, base_from}
use Rattle.hls_journal.specs.declared.channel.ChannelHeader.{ChannelHeader}
use Rattle.hls_journal.specs.declared.fault.JournalFault.{JournalFault}
use Rattle.hls_journal.specs.declared.fault.JournalFault.TheVariants.{Memory, NoChannel, UnknownVersion, JournalOther, WrongRecord, MissingUnit}
use Rattle.hls_journal.specs.Channels.{base_bytes, counts_bytes, config_bytes, channel_bytes, config_in, DifferIn, IsHeaderOf, JudgesConfigs, IsChannelFault, header_bytes, header_len, base_in, counts_in, number_at, boot_part, base_part, IsHeader, HasHeader}

eight : (n : ℕ) → length (little_bytes 8 n) ≡ 8
eight n = length-bytes_low_first 0 8 n

-- a number in eight bytes is read back
read_back : (n : ℕ) (rest : List ℕ) → n < 2 ^ 64 → little_number 8 (little_bytes 8 n ++ rest) ≡ n
read_back n rest small = little_number-reads_back 8 n rest (omega (arith, small))

-- the counts of r renditions have eight bytes each
counts_len : (b : BaseData) (r : ℕ) → length (counts_bytes b r) ≡ 8 * r
counts_len b zero = refl
counts_len b (suc r) = omega (arith, length-append (counts_bytes b r) (little_bytes 8 (bytes_before_base b r)), counts_len b r, eight (bytes_before_base b r))

-- the counts of n renditions begin with those of the first r, and the count of rendition r follows
record HasCount (b : BaseData) (n r : ℕ) : Type 0 where
  rest : List ℕ
  is : counts_bytes b n ≡ counts_bytes b r ++ (little_bytes 8 (bytes_before_base b r) ++ rest)

-- the counts of n renditions have that of each rendition below n
count_there : (b : BaseData) (n r : ℕ) → r < n → HasCount b n r
count_there b zero r below = absurd (omega (arith, below))
count_there b (suc n) r below =
    elim (cases_lt r n) [
      | inl more ↦
          (let before = count_there b n r more in
          record {
            rest = before.rest ++ little_bytes 8 (bytes_before_base b n);
            is = ap (λ t. t ++ little_bytes 8 (bytes_before_base b n)) before.is
                ∙ append_assoc (counts_bytes b r) (little_bytes 8 (bytes_before_base b r) ++ before.rest) (little_bytes 8 (bytes_before_base b n))
                ∙ ap (λ t. counts_bytes b r ++ t) (append_assoc (little_bytes 8 (bytes_before_base b r)) before.rest (little_bytes 8 (bytes_before_base b n)));
          })
      | inr last ↦
          (let same : n ≡ r = omega (arith, below, last) in
          record {
            rest = [];
            is = ap (λ k. counts_bytes b (suc k)) same ∙ ap (λ t. counts_bytes b r ++ t) (sym (append-nil (little_bytes 8 (bytes_before_base b r))));
          })
    ]

-- the count of a rendition is read back
count_read : (b : BaseData) (n r : ℕ) → r < n → bytes_before_base b r < 2 ^ 64 → number_at (8 * r) (counts_bytes b n) ≡ bytes_before_base b r
count_read b n r below small =
    let there = count_there b n r below in
    ap (λ t. little_number 8 (drop (8 * r) t)) there.is
    ∙ ap (λ t. little_number 8 t) (drop_at (counts_bytes b r) (little_bytes 8 (bytes_before_base b r) ++ there.rest) (8 * r) (counts_len b r))
    ∙ read_back (bytes_before_base b r) there.rest small

-- the counts of the first renditions are read back
counts_read : (b : BaseData) (n r : ℕ) → r ≤ n → n ≤ length b.bytes → ((k : ℕ) → bytes_before_base b k < 2 ^ 64) → counts_in (counts_bytes b n) r ≡ take r b.bytes
counts_read b n zero within all small = refl
counts_read b n (suc r) within all small =
    let next : suc r ≡ r + 1 = omega arith in
    ap (λ xs. xs ++ number_at (8 * r) (counts_bytes b n) ∷ []) (counts_read b n r (omega (arith, within)) all small)
    ∙ ap (λ k. take r b.bytes ++ k ∷ []) (count_read b n r (omega (arith, within)) (small r))
    ∙ sym (ap (λ k. take k b.bytes) next ∙ take_more b.bytes r 0 (omega (arith, within, all)))

-- each count of a base is below 2^64
small_count : (bytes : List ℕ) (r : ℕ) → All (λ n. n ≤ base_limit) bytes → slice_index_or bytes r 0 < 2 ^ 64
small_count bytes r all =
    elim (cases_lt r (length bytes)) [
      | inl within ↦ omega (arith, all r 0 within)
      | inr past ↦ omega (arith, get_or_past bytes r 0 past)
    ]

-- a flag is read back
flag_read : (b : Bool) → not (from_bool b == 0) ≡ b
flag_read true = refl
flag_read false = refl

-- an eight-byte number after other bytes is read at their length
number_after : (text before rest : List ℕ) (at n : ℕ) → text ≡ before ++ (little_bytes 8 n ++ rest) → length before ≡ at → n < 2 ^ 64 → number_at at text ≡ n
number_after text before rest at n is len small =
    ap (λ t. little_number 8 (drop at t)) is ∙ ap (λ t. little_number 8 t) (drop_at before (little_bytes 8 n ++ rest) at len) ∙ read_back n rest small

-- a byte after other bytes is read at their length
byte_after : (text before rest : List ℕ) (at n : ℕ) → text ≡ before ++ n ∷ rest → length before ≡ at → get_or text at 0 ≡ n
byte_after text before rest at n is len =
    let here : at + 0 ≡ at = omega arith in
    ap (λ k. get_or text k 0) (sym here) ∙ sym (get_or-drop at text 0 0) ∙ ap (λ t. get_or (drop at t) 0 0) is ∙ ap (λ t. get_or t 0 0) (drop_at before (n ∷ rest) at len)

-- a base is read back from its bytes
pub base_read : (b : BaseData) → length b.run ≡ 16 → length b.bytes ≡ 16 → IsBase b → base_in (base_bytes b) ≡ b
base_read b run_len bytes_len base =
    let run = b.run in
    let s8 = little_bytes 8 b.segments in
    let m8 = little_bytes 8 b.marks in
    let v8 = little_bytes 8 b.version in
    let counts = counts_bytes b 16 in
    let text = base_bytes b in
    let flag : List ℕ = from_bool b.marked ∷ [] in
    let a1 : b.run ++ s8 ++ m8 ++ flag ++ v8 ++ counts ≡ b.run ++ s8 ++ m8 ++ flag ++ (v8 ++ counts) = append_assoc (b.run ++ s8 ++ m8 ++ flag) v8 counts in
    let a2 : b.run ++ s8 ++ m8 ++ flag ++ (v8 ++ counts) ≡ b.run ++ s8 ++ m8 ++ (from_bool b.marked ∷ (v8 ++ counts)) = append_assoc (b.run ++ s8 ++ m8) flag (v8 ++ counts) in
    let a3 : b.run ++ s8 ++ m8 ++ (from_bool b.marked ∷ (v8 ++ counts)) ≡ b.run ++ s8 ++ (m8 ++ (from_bool b.marked ∷ (v8 ++ counts))) = append_assoc (b.run ++ s8) m8 (from_bool b.marked ∷ (v8 ++ counts)) in
    let a4 : b.run ++ s8 ++ (m8 ++ (from_bool b.marked ∷ (v8 ++ counts))) ≡ b.run ++ (s8 ++ (m8 ++ (from_bool b.marked ∷ (v8 ++ counts)))) = append_assoc b.run s8 (m8 ++ (from_bool b.marked ∷ (v8 ++ counts))) in
    let l24 : length (b.run ++ s8) ≡ 24 = omega (arith, length-append b.run s8, run_len, eight b.segments) in
    let l32 : length (b.run ++ s8 ++ m8) ≡ 32 = omega (arith, length-append (b.run ++ s8) m8, l24, eight b.marks) in
    let l33 : length (b.run ++ s8 ++ m8 ++ flag) ≡ 33 = omega (arith, length-append (b.run ++ s8 ++ m8) flag, l32) in
    let l41 : length (b.run ++ s8 ++ m8 ++ flag ++ v8) ≡ 41 = omega (arith, length-append (b.run ++ s8 ++ m8 ++ flag) v8, l33, eight b.version) in
    let small_segments : b.segments < 2 ^ 64 = omega (arith, base.segments) in
    let small_marks : b.marks < 2 ^ 64 = omega (arith, base.marks, base.segments) in
    let small_version : b.version < 2 ^ 64 = omega (arith, base.version) in
    let run_is : take 16 (base_bytes b) ≡ b.run = ap (λ t. take 16 t) (a1 ∙ a2 ∙ a3 ∙ a4) ∙ take_at b.run (s8 ++ (m8 ++ (from_bool b.marked ∷ (v8 ++ counts)))) 16 run_len in
    let segments_is : number_at 16 (base_bytes b) ≡ b.segments = number_after (base_bytes b) b.run (m8 ++ (from_bool b.marked ∷ (v8 ++ counts))) 16 b.segments (a1 ∙ a2 ∙ a3 ∙ a4) run_len small_segments in
    let marks_is : number_at 24 (base_bytes b) ≡ b.marks = number_after (base_bytes b) (b.run ++ s8) (from_bool b.marked ∷ (v8 ++ counts)) 24 b.marks (a1 ∙ a2 ∙ a3) l24 small_marks in
    let flag_is : get_or (base_bytes b) 32 0 ≡ from_bool b.marked = byte_after (base_bytes b) (b.run ++ s8 ++ m8) (v8 ++ counts) 32 (from_bool b.marked) (a1 ∙ a2) l32 in
    let marked_is : not (get_or (base_bytes b) 32 0 == 0) ≡ b.marked = ap (λ k. not (k == 0)) flag_is ∙ flag_read b.marked in
    let version_is : number_at 33 (base_bytes b) ≡ b.version = number_after (base_bytes b) (b.run ++ s8 ++ m8 ++ flag) counts 33 b.version a1 l33 small_version in
    let counts_is : counts_in (drop 41 (base_bytes b)) 16 ≡ b.bytes =
    ap (λ t. counts_in t 16) (drop_at (b.run ++ s8 ++ m8 ++ flag ++ v8) counts 41 l41)
    ∙ counts_read b 16 16 (omega arith) (omega (arith, bytes_len)) (λ k. small_count b.bytes k base.bytes)
    ∙ take_all 16 b.bytes (omega (arith, bytes_len)) in
    λ k. record { run = run_is k; segments = segments_is k; marks = marks_is k; marked = marked_is k; bytes = counts_is k; version = version_is k }

-- the bytes of a base are 169
base_len : (b : BaseData) → length b.run ≡ 16 → length (base_bytes b) ≡ 169
base_len b run_len =
    let s8 = little_bytes 8 b.segments in
    let m8 = little_bytes 8 b.marks in
    let v8 = little_bytes 8 b.version in
    let flag : List ℕ = from_bool b.marked ∷ [] in
    omega (
      arith,
      length-append (b.run ++ s8 ++ m8 ++ flag ++ v8) (counts_bytes b 16),
      length-append (b.run ++ s8 ++ m8 ++ flag) v8,
      length-append (b.run ++ s8 ++ m8) flag,
      length-append (b.run ++ s8) m8,
      length-append b.run s8,
      run_len,
      eight b.segments,
      eight b.marks,
      eight b.version,
      counts_len b 16,
    )

-- the boot id and the base of a body are those of a header
record Parts (body : List ℕ) (h : ChannelHeader) : Type 0 where
  boot : boot_part body ≡ h.boot
  base : base_part body ≡ base_bytes h.base

-- a body that begins with a header has its boot id and its base
parts_of : (body : List ℕ) (h : ChannelHeader) → IsHeader h → take header_len body ≡ header_bytes h → Parts body h
parts_of body h header is =
    let front : List ℕ = (0 ∷ []) ++ little_bytes 2 2 in
    let base = base_bytes h.base in
    let rest = drop 188 body in
    let whole : body ≡ front ++ h.boot ++ base ++ rest = sym (take-append-drop 188 body) ∙ ap (λ t. t ++ rest) is in
    let b1 : front ++ h.boot ++ base ++ rest ≡ front ++ h.boot ++ (base ++ rest) = append_assoc (front ++ h.boot) base rest in
    let b2 : front ++ h.boot ++ (base ++ rest) ≡ front ++ (h.boot ++ (base ++ rest)) = append_assoc front h.boot (base ++ rest) in
    let l3 : length front ≡ 3 = refl in
    let l19 : length (front ++ h.boot) ≡ 19 = omega (arith, length-append front h.boot, l3, header.0) in
    record {
      boot = ap (λ t. take 16 (drop 3 t)) (whole ∙ b1 ∙ b2) ∙ ap (λ t. take 16 t) (drop_at front (h.boot ++ (base ++ rest)) 3 l3) ∙ take_at h.boot (base ++ rest) 16 header.0;
      base = ap (λ t. take 169 (drop 19 t)) (whole ∙ b1) ∙ ap (λ t. take 169 t) (drop_at (front ++ h.boot) (base ++ rest) 19 l19) ∙ take_at base rest 169 (base_len h.base header.1.0);
    }

-- if the base that is read from a body is none, the body doesn't begin with a header
pub no_header : (body : List ℕ) → IsNoBase (base_in (base_part body)) → HasHeader body → ⊥
no_header body none has =
    let h = has.header in
    let parts = parts_of body h has.is_header has.is in
    let read : base_in (base_part body) ≡ h.base = ap (λ t. base_in t) parts.base ∙ base_read h.base has.is_header.1.0 has.is_header.1.1 has.is_header.1.2 in
    none (subst (λ (b : BaseData). IsBase b) (sym read) has.is_header.1.2)

-- the header that is read from a body is the one with which it begins
pub same_header : (body : List ℕ) (found : ChannelHeader) → found.boot ≡ boot_part body → found.base ≡ base_in (base_part body) → (has : HasHeader body) → take header_len body ≡ header_bytes found
same_header body found boot base has =
    let h = has.header in
    let parts = parts_of body h has.is_header has.is in
    let base_is : found.base ≡ h.base = base ∙ ap (λ t. base_in t) parts.base ∙ base_read h.base has.is_header.1.0 has.is_header.1.1 has.is_header.1.2 in
    let boot_is : found.boot ≡ h.boot = boot ∙ parts.boot in
    has.is ∙ sym (λ k. header_bytes (record { boot = boot_is k; base = base_is k }))

-- if all 16 counts are read, they are those of the text
pub whole_counts : (text counts : List ℕ) (n : ℕ) → n ≡ 16 → length counts ≡ 16 → take n counts ≡ counts_in text n → counts ≡ counts_in text 16
whole_counts text counts n all len is = sym (take_all 16 counts (omega (arith, len))) ∙ ap (λ k. take k counts) (sym all) ∙ is ∙ ap (λ k. counts_in text k) all

-- a body that begins with a header, followed by the bytes of a configuration, is the channel's record of both
pub channel_is : (body : List ℕ) (h : ChannelHeader) (c : ConfigData) (found : List ℕ) → take header_len body ≡ header_bytes h → found ≡ drop header_len body → found ≡ config_bytes c → body ≡ channel_bytes c h
channel_is body h c found front rest is =
    sym (take-append-drop 188 body) ∙ ap (λ t. t ++ drop 188 body) front ∙ ap (λ t. header_bytes h ++ t) (sym rest ∙ is)

-- if the configuration in a body differs from the given one, that is the fault of the channel's record
pub compare_fault : (body found given : List ℕ) (c : ConfigData) (fault : JournalFault) → found ≡ config_in body → given ≡ config_bytes c → HasHeader body → JudgesConfigs found given (Err fault) → IsChannelFault c body fault
compare_fault body found given c Memory at is has judged = absurd judged
compare_fault body found given c NoChannel at is has judged = absurd judged
compare_fault body found given c (UnknownVersion version) at is has judged = absurd judged
compare_fault body found given c (JournalOther field journal mine) at is has judged =
    (has, subst (λ (t : List ℕ). DifferIn (config_in body) t field journal mine) is (subst (λ (t : List ℕ). DifferIn t given field journal mine) at judged))
compare_fault body found given c (WrongRecord number) at is has judged = absurd judged
compare_fault body found given c (MissingUnit number) at is has judged = absurd judged

-- a base that is made of the parts that are read is the one in the text
pub base_parts : (text run counts : List ℕ) (segments marks version : ℕ) (marked : Bool) → run ≡ take 16 text → segments ≡ number_at 16 text → marks ≡ number_at 24 text → marked ≡ not (get_or text 32 0 == 0)
    → counts ≡ counts_in (drop 41 text) 16 → version ≡ number_at 33 text → base_from run segments marks marked counts version ≡ base_in text
base_parts text run counts segments marks version marked run_is segments_is marks_is marked_is counts_are version_is =
    λ k. base_from (run_is k) (segments_is k) (marks_is k) (marked_is k) (counts_are k) (version_is k)

-- the result of making a base is that of the base in the text
pub parsed_base : (text : List ℕ) (b : BaseData) (result : Option BaseData) → b ≡ base_in text → MatchOption result (IsNoBase b) (λ base. base ≡ b) → MatchOption result (IsNoBase (base_in text)) (λ base. base ≡ base_in text)
parsed_base text b result is judged = subst (λ (x : BaseData). MatchOption result (IsNoBase x) (λ base. base ≡ x)) is judged

-- a body that begins with this header begins with a header
pub has_header : (body : List ℕ) (h : ChannelHeader) → IsHeaderOf body h → HasHeader body
has_header body h is = record { header = h; is_header = is.0; is = is.1; complete = is.2 }
