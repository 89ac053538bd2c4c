-- Init sections that are the same to every decoder: equal except for what describes the file and not the media.
use Rattle.std.specs.Prelude.{ℕ, zero, suc, ◌+◌, ◌-◌, ◌==◌, nat_lt, Bool, ◌&&◌, if◌then◌else◌, Option, Some, None, List, [], ◌∷◌, ◌++◌, length, take, drop, replicate, slice_index_or, bytes_eq}
use Rattle.std.specs.List.{flat_map, list_any}
use Rattle.std.specs.Int.{to_be_bytes, w32, w64}
use Rattle.hls_boxes.specs.Boxes.{Child, children}

-- whether a type is one of these
abbrev is_one_of : List ℕ → ℕ → Bool
is_one_of kinds kind = list_any (λ (k : ℕ). k == kind) kinds

-- whether no decoder reads boxes of this type: "btrt" (8.5.2.2), "udta" (8.10.1) and "meta" (8.11.1)
unfoldable pub is_ignored : ℕ → Bool
is_ignored kind = is_one_of (0x62747274 ∷ 0x75647461 ∷ 0x6d657461 ∷ []) kind

-- whether boxes of this type hold boxes only: "moov", "trak", "mdia", "minf" and "stbl"
unfoldable pub is_container : ℕ → Bool
is_container kind = is_one_of (0x6d6f6f76 ∷ 0x7472616b ∷ 0x6d646961 ∷ 0x6d696e66 ∷ 0x7374626c ∷ []) kind

-- whether boxes of this type begin with a creation and a modification time: "mvhd" (8.2.2), "tkhd" (8.3.2) and "mdhd" (8.4.2)
unfoldable pub has_times : ℕ → Bool
has_times kind = is_one_of (0x6d766864 ∷ 0x746b6864 ∷ 0x6d646864 ∷ []) kind

-- whether it is a sample entry of video (12.1.3): "avc1", "avc3", "hvc1", "hev1", "av01", "vp09" or "encv"
unfoldable pub is_visual : ℕ → Bool
is_visual kind = is_one_of (0x61766331 ∷ 0x61766333 ∷ 0x68766331 ∷ 0x68657631 ∷ 0x61763031 ∷ 0x76703039 ∷ 0x656e6376 ∷ []) kind

-- whether it is a sample entry of audio (12.2.3): "mp4a", "ac-3", "ec-3", "Opus", "fLaC", "alac" or "enca"
unfoldable pub is_audio : ℕ → Bool
is_audio kind = is_one_of (0x6d703461 ∷ 0x61632d33 ∷ 0x65632d33 ∷ 0x4f707573 ∷ 0x664c6143 ∷ 0x616c6163 ∷ 0x656e6361 ∷ []) kind

-- the content with zeros in place of the given number of bytes at `at`
unfoldable pub blank : ℕ → ℕ → List ℕ → List ℕ
blank at len content = take at content ++ (replicate (length (take len (drop at content))) 0 ++ drop (at + len) content)

-- the byte at `at`, or 0 after the end
abbrev pub byte_at : List ℕ → ℕ → ℕ
byte_at content at = slice_index_or content at 0

-- the length of a header's two times together, in bytes: they have 64 bits each in version 1 and 32 bits otherwise
abbrev pub times_len : List ℕ → ℕ
times_len content = if byte_at content 0 == 1 then 16 else 8

-- the number of bytes of the length field at `at`: each of up to four bytes but the last has its highest bit set (ISO/IEC 14496-1 8.3.3)
unfoldable pub length_len : List ℕ → ℕ → ℕ
length_len content at =
    if nat_lt (byte_at content at) 128 then 1
    else (if nat_lt (byte_at content (at + 1)) 128 then 2
    else (if nat_lt (byte_at content (at + 2)) 128 then 3 else 4))

-- the offset of the decoder configuration in an `esds`, right after its ES descriptor (ISO/IEC 14496-1 7.2.6.5)
unfoldable pub config_at : List ℕ → ℕ
config_at content = 5 + length_len content 5 + 3

-- the offset of the buffer size and bit rates of an `esds`, which are 11 bytes: in its decoder configuration after the tag, the length field,
-- the object type and the stream type (7.2.6.6)
unfoldable pub rates_at : List ℕ → ℕ
rates_at content = config_at content + 1 + length_len content (config_at content + 1) + 2

-- whether an `esds` has an ES descriptor without optional fields, and the decoder configuration right after it
unfoldable pub has_config : List ℕ → Bool
has_config content = (byte_at content 4 == 3) && ((byte_at content (config_at content - 1) == 0) && (byte_at content (config_at content) == 4))

-- an `esds` with zeros in place of its buffer size and bit rates, if its decoder configuration is where it is expected
unfoldable pub without_rates : List ℕ → List ℕ
without_rates content = if has_config content then blank (rates_at content) 11 content else content

-- where the boxes in a box begin, or None if boxes of this type have none that are normalized; "stsd" is the sample description box (8.5.2)
unfoldable pub boxes_at : ℕ → Option ℕ
boxes_at kind =
    if is_container kind then Some 0
    else (if kind == 0x73747364 then Some 8
    else (if is_visual kind then Some 78
    else (if is_audio kind then Some 28 else None)))

-- the fields that are compared of a box without boxes in it: without times, of "hdlr" (8.4.3) those before the name, and of "esds"
-- without its bit rates
abbrev pub plain_fields : ℕ → List ℕ → List ℕ
plain_fields kind content =
    if has_times kind then blank 4 (times_len content) content
    else (if kind == 0x68646c72 then take 24 content
    else (if kind == 0x65736473 then without_rates content else content))

-- the fields that are compared of a box before the boxes in it: of a sample entry of video without the compressor name
abbrev pub fields_before : ℕ → ℕ → List ℕ → List ℕ
fields_before kind at content = if is_visual kind then blank 42 32 (take at content) else take at content

-- the normal form of the content of a box; `inner` is that of the boxes in it
abbrev pub content_from : (List ℕ → List ℕ) → ℕ → List ℕ → Option ℕ → List ℕ
content_from inner kind content None = plain_fields kind content
content_from inner kind content (Some at) = fields_before kind at content ++ inner (drop at content)

-- the normal form of the content of a box of this type; `inner` is that of the boxes in it
abbrev pub normal_content : (List ℕ → List ℕ) → ℕ → List ℕ → List ℕ
normal_content inner kind content = content_from inner kind content (boxes_at kind)

-- a box in a normal form: its type, the length of its content in 64 bits, and the content
abbrev pub entry : ℕ → List ℕ → List ℕ
entry kind content = to_be_bytes w32 kind ++ (to_be_bytes w64 (length content) ++ content)

-- the normal form of a box, or nothing if no decoder reads it
abbrev pub normal_box : (List ℕ → List ℕ) → Child → List ℕ
normal_box inner b = if is_ignored b.kind then [] else entry b.kind (normal_content inner b.kind b.content)

-- the normal forms of the boxes that fill the content; bytes that no boxes fill stay as they are
abbrev pub normal_children : (List ℕ → List ℕ) → List ℕ → Option (List Child) → List ℕ
normal_children inner content None = content
normal_children inner content (Some boxes) = flat_map (normal_box inner) boxes

-- the normal form of boxes within boxes, to the given depth
unfoldable pub normal_boxes : ℕ → List ℕ → List ℕ
normal_boxes zero content = content
normal_boxes (suc depth) content = normal_children (normal_boxes depth) content (children content)

-- the normal form of an init section: the boxes that are normalized are at most eight deep, `moov`, `trak`, `mdia`, `minf`, `stbl`, `stsd`,
-- a sample entry and the boxes in it
unfoldable pub normal_init : List ℕ → List ℕ
normal_init bytes = normal_boxes 8 bytes

-- whether two init sections are the same to every decoder: their normal forms are equal
unfoldable pub is_same_to_decoders : List ℕ → List ℕ → Bool
is_same_to_decoders a b = bytes_eq (normal_init a) (normal_init b)
