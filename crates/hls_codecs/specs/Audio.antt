-- The codec and the channels of an audio sample entry.
use Rattle.std.specs.Prelude.{ℕ, zero, suc, ◌+◌, ◌*◌, ◌/◌, ◌%◌, ◌==◌, nat_lt, nat_le, Bool, ◌&&◌, ◌||◌, not, if◌then◌else◌, Option, Some, None, option_and_then, List, [], ◌∷◌, length, drop, take}
use Rattle.hls_codecs.specs.Boxes.{byte_at, bits_at}
use Rattle.hls_codecs.specs.declared.codec.Mp4aConfig.TheVariants.{Mpeg4, Other}
use Rattle.hls_codecs.specs.declared.track_format.Channels.{Channels}
use Rattle.hls_codecs.specs.declared.track_format.Channels.TheVariants.{Plain, JointObjects}
use Rattle.hls_codecs.specs.declared.track_format.AudioFrames.{AudioFrames}
use Rattle.hls_codecs.specs.declared.audio.Mp4aEntry.{Mp4aEntry}

-- a number of channels, unless it is 0
abbrev pub some_channels : ℕ → Option Channels
some_channels n = if n == 0 then None else Some (Plain n)

-- frames of this many samples, unless the sampling rate is 0
abbrev pub some_frames : ℕ → ℕ → Option AudioFrames
some_frames samples rate = if rate == 0 then None else Some (record { samples = samples; rate = rate })

-- The length of a descriptor and the bytes after it (ISO/IEC 14496-1 8.3.3). Each of at most `most` bytes has seven bits of
-- the length, and its highest bit says that another byte follows.
unfoldable pub descriptor_length : ℕ → ℕ → List ℕ → Option (ℕ × List ℕ)
descriptor_length zero len bytes = None
descriptor_length (suc most) len [] = None
descriptor_length (suc most) len (b ∷ bytes) =
    if nat_lt b 128 then Some (len * 128 + b, bytes) else descriptor_length most (len * 128 + b % 128) bytes

-- the first `len` bytes after a descriptor's length, if all of them are there
abbrev pub content_of_length : Option (ℕ × List ℕ) → Option (List ℕ)
content_of_length None = None
content_of_length (Some (len, rest)) = if nat_lt (length rest) len then None else Some (take len rest)

-- the content of the descriptor at the start of the bytes, if it has this tag
unfoldable pub descriptor_of : ℕ → List ℕ → Option (List ℕ)
descriptor_of tag bytes =
    if nat_lt (length bytes) 1 || not (byte_at 0 bytes == tag) then None
    else content_of_length (descriptor_length 4 0 (drop 1 bytes))

-- the bytes of an ES_Descriptor's optional field for the stream that it depends on, by its flags (ISO/IEC 14496-1 7.2.6.5)
abbrev pub dependence_length : ℕ → ℕ
dependence_length flags = if flags / 128 == 1 then 2 else 0

-- the bytes of its optional URL at this offset: a length and as many bytes
abbrev pub url_length : ℕ → ℕ → List ℕ → ℕ
url_length flags at es = if flags / 64 % 2 == 1 then 1 + byte_at at es else 0

-- the bytes of its optional field for the clock reference stream
abbrev pub clock_length : ℕ → ℕ
clock_length flags = if flags / 32 % 2 == 1 then 2 else 0

-- the offset of the descriptors in an ES_Descriptor, after its optional fields
unfoldable pub inner_offset : List ℕ → ℕ
inner_offset es =
    3 + dependence_length (byte_at 2 es) + url_length (byte_at 2 es) (3 + dependence_length (byte_at 2 es)) es + clock_length (byte_at 2 es)

-- the DecoderConfigDescriptor of an `esds`, which comes first in its ES_Descriptor (ISO/IEC 14496-1 7.2.6.6)
unfoldable pub decoder_config : List ℕ → Option (List ℕ)
decoder_config esds = option_and_then (λ (es : List ℕ). descriptor_of 4 (drop (inner_offset es) es)) (descriptor_of 3 (drop 4 esds))

-- whether the bytes are long enough for this number of bits
abbrev pub reaches : ℕ → List ℕ → Bool
reaches bits bytes = nat_le ((bits + 7) / 8) (length bytes)

-- the width in bits of the audio object type at this bit of an AudioSpecificConfig (ISO/IEC 14496-3 1.6.2.1)
abbrev pub aot_width : ℕ → List ℕ → ℕ
aot_width at config = if bits_at 5 at config == 31 then 11 else 5

-- the audio object type at this bit: five bits, or 32 and six more bits if these are all set
abbrev pub aot_at : ℕ → List ℕ → ℕ
aot_at at config = if bits_at 5 at config == 31 then 32 + bits_at 6 (at + 5) config else bits_at 5 at config

-- the width in bits of a sampling frequency at this bit: an index of 4 bits, or the frequency in 24 more after index 15
abbrev pub rate_width : ℕ → List ℕ → ℕ
rate_width at config = if bits_at 4 at config == 15 then 28 else 4

-- the bit at which `channelConfiguration` begins
unfoldable pub channels_bit : List ℕ → ℕ
channels_bit config = aot_width 0 config + rate_width (aot_width 0 config) config

-- the width of GASpecificConfig of AAC-LC with a channel configuration (ISO/IEC 14496-3 4.4.1): three flags, and the core coder's delay
abbrev pub specific_width : ℕ → List ℕ → ℕ
specific_width at config = if bits_at 1 (at + 1) config == 1 then 17 else 3

-- the bit at which a backward compatible extension of AAC-LC begins, after its GASpecificConfig
unfoldable pub sync_bit : List ℕ → ℕ
sync_bit config = channels_bit config + 4 + specific_width (channels_bit config + 4) config

-- whether the extension signals SBR: the sync word 0x2b7, audio object type 5 and the flag that SBR is present
unfoldable pub signals_sbr : List ℕ → Bool
signals_sbr config =
    reaches (sync_bit config + 17) config && bits_at 11 (sync_bit config) config == 0x2b7
    && bits_at 5 (sync_bit config + 11) config == 5 && bits_at 1 (sync_bit config + 16) config == 1

-- the bit after the extension's sampling frequency, where parametric stereo may be signalled
abbrev pub ps_bit : List ℕ → ℕ
ps_bit config = sync_bit config + 17 + rate_width (sync_bit config + 17) config

-- whether the extension signals parametric stereo: the sync word 0x548 and the flag that it is present
unfoldable pub signals_ps : List ℕ → Bool
signals_ps config =
    reaches (ps_bit config + 12) config && bits_at 11 (ps_bit config) config == 0x548 && bits_at 1 (ps_bit config + 11) config == 1

-- the audio object type that a codec string names: that of the extension if AAC-LC has one, 29 with parametric stereo and 5 without
unfoldable pub audio_type : List ℕ → ℕ
audio_type config =
    if aot_at 0 config == 2 && signals_sbr config then (if signals_ps config then 29 else 5) else aot_at 0 config

-- the number of channels by `channelConfiguration` (ISO/IEC 14496-3 table 1.19); 0 if a program config element follows
abbrev pub configured_channels : ℕ → ℕ
configured_channels n =
    if nat_lt n 7 then n
    else (if n == 7 || n == 12 || n == 14 then 8
    else (if n == 11 then 7
    else (if n == 13 then 24 else 0)))

-- the channels of an AudioSpecificConfig; parametric stereo makes two channels of one
unfoldable pub aac_channels : List ℕ → Option Channels
aac_channels config = if audio_type config == 29 then Some (Plain 2) else some_channels (configured_channels (bits_at 4 (channels_bit config) config))

-- the sampling rate of an index; 0 if it is reserved (ISO/IEC 14496-3 table 1.18)
abbrev pub rate_of_index : ℕ → ℕ
rate_of_index n =
    if n == 0 then 96000 else (if n == 1 then 88200 else (if n == 2 then 64000 else (if n == 3 then 48000
    else (if n == 4 then 44100 else (if n == 5 then 32000 else (if n == 6 then 24000 else (if n == 7 then 22050
    else (if n == 8 then 16000 else (if n == 9 then 12000 else (if n == 10 then 11025 else (if n == 11 then 8000
    else (if n == 12 then 7350 else 0))))))))))))

-- the sampling rate at this bit
abbrev pub rate_at : ℕ → List ℕ → ℕ
rate_at at config = if bits_at 4 at config == 15 then bits_at 24 (at + 4) config else rate_of_index (bits_at 4 at config)

-- whether the object type is SBR or PS: then a sampling frequency and the object type of the core follow the channels
abbrev pub is_hierarchical : List ℕ → Bool
is_hierarchical config = aot_at 0 config == 5 || aot_at 0 config == 29

-- the bit at which the object type of the core begins
unfoldable pub core_bit : List ℕ → ℕ
core_bit config = if is_hierarchical config then channels_bit config + 4 + rate_width (channels_bit config + 4) config else 0

-- the object type of the core: AAC itself, without SBR
abbrev pub core_type : List ℕ → ℕ
core_type config = aot_at (core_bit config) config

-- the bit of `frameLengthFlag`, the first one of the core's GASpecificConfig (ISO/IEC 14496-3 4.4.1)
unfoldable pub frame_bit : List ℕ → ℕ
frame_bit config = if is_hierarchical config then core_bit config + aot_width (core_bit config) config else channels_bit config + 4

-- the samples of a frame of the core
abbrev pub frame_samples : List ℕ → ℕ
frame_samples config = if bits_at 1 (frame_bit config) config == 1 then 960 else 1024

-- the frames of AAC Main, LC, SSR and LTP, and of SBR over them, which doubles both the samples and the rate
unfoldable pub aac_frames : List ℕ → Option AudioFrames
aac_frames config =
    if core_type config == 0 || nat_lt 4 (core_type config) then None else some_frames (frame_samples config) (rate_at (aot_width 0 config) config)

-- what an AudioSpecificConfig says, if it has at least the type, the frequency and the channels
unfoldable pub mpeg4_entry : List ℕ → Option Mp4aEntry
mpeg4_entry config =
    if not (reaches (channels_bit config + 4) config) || aot_at 0 config == 0 then None
    else Some (record { config = Mpeg4 (audio_type config); channels = aac_channels config; frames = aac_frames config })

-- the channels of other audio: those that the entry says for MP3 (object types 0x69 and 0x6b), else none
abbrev pub other_channels : ℕ → Option Channels → Option Channels
other_channels oti entry_channels = if oti == 0x69 || oti == 0x6b then entry_channels else None

-- what an `mp4a` entry says, from its DecoderConfigDescriptor: MPEG-4 audio by its AudioSpecificConfig, other audio by its object type
unfoldable pub mp4a_from : Option Channels → List ℕ → Option Mp4aEntry
mp4a_from entry_channels config =
    if nat_lt (length config) 13 || byte_at 0 config == 0 then None
    else (if byte_at 0 config == 0x40 then option_and_then mpeg4_entry (descriptor_of 5 (drop 13 config))
    else Some (record { config = Other (byte_at 0 config); channels = other_channels (byte_at 0 config) entry_channels; frames = None }))

-- what an `mp4a` entry says, from its `esds` box
unfoldable pub mp4a_entry : Option Channels → List ℕ → Option Mp4aEntry
mp4a_entry entry_channels esds = option_and_then (mp4a_from entry_channels) (decoder_config esds)

-- the full bandwidth channels of an `acmod` (ETSI TS 102 366 table 4.3)
abbrev pub acmod_channels : ℕ → ℕ
acmod_channels n = if n == 0 then 2 else (if nat_lt n 3 then n else (if nat_lt n 5 then 3 else (if nat_lt n 7 then 4 else 5)))

-- the channels of AC-3 by its `dac3` (ETSI TS 102 366 F.4), which has `acmod` at bit 10 and `lfeon` at bit 13
unfoldable pub ac3_channels : List ℕ → Option Channels
ac3_channels dac3 = if nat_lt (length dac3) 3 then None else Some (Plain (acmod_channels (bits_at 3 10 dac3) + bits_at 1 13 dac3))

-- the sampling rate of an `fscod` (ETSI TS 102 366 4.4.1.3); 0 if it is reserved
abbrev pub dolby_rate : ℕ → ℕ
dolby_rate n = if n == 0 then 48000 else (if n == 1 then 44100 else (if n == 2 then 32000 else 0))

-- a sample of AC-3 or Enhanced AC-3 has six blocks of 256 samples (ETSI TS 102 366 F.2, F.5)
abbrev pub dolby_frames : ℕ → Option AudioFrames
dolby_frames code = some_frames 1536 (dolby_rate code)

-- the frames of AC-3 by its `dac3`, which begins with `fscod`
unfoldable pub ac3_frames : List ℕ → Option AudioFrames
ac3_frames dac3 = if nat_lt (length dac3) 3 then None else dolby_frames (bits_at 2 0 dac3)

-- the frames of Enhanced AC-3 by its `dec3`, whose first substream begins at bit 16 with `fscod`
unfoldable pub ec3_frames : List ℕ → Option AudioFrames
ec3_frames dec3 = if nat_lt (length dec3) 5 then None else dolby_frames (bits_at 2 16 dec3)

-- the channels that the dependent substreams of Enhanced AC-3 add (ETSI TS 102 366 table E.1), some of them pairs
unfoldable pub location_channels : List ℕ → ℕ
location_channels dec3 =
    bits_at 1 47 dec3 * 2 + bits_at 1 46 dec3 * 2 + bits_at 1 45 dec3 + bits_at 1 44 dec3 + bits_at 1 43 dec3 * 2 + bits_at 1 42 dec3 * 2
    + bits_at 1 41 dec3 * 2 + bits_at 1 40 dec3 + bits_at 1 39 dec3

-- Whether the first substream of Enhanced AC-3 has dependent substreams (ETSI TS 102 366 F.6). The substream begins at bit 16; it has
-- `acmod` at bit 28, `lfeon` at 31, the number of dependent ones at 35, and at 39 their channel locations, or else a reserved bit.
abbrev pub has_dependents : List ℕ → Bool
has_dependents dec3 = nat_lt 0 (bits_at 4 35 dec3)

-- the end of the first substream in a `dec3`, in bytes
abbrev pub substream_end : List ℕ → ℕ
substream_end dec3 = if has_dependents dec3 then 6 else 5

-- the channels of the first substream and those that its dependent substreams add
abbrev pub ec3_bed_channels : List ℕ → ℕ
ec3_bed_channels dec3 =
    acmod_channels (bits_at 3 28 dec3) + bits_at 1 31 dec3 + (if has_dependents dec3 then location_channels dec3 else 0)

-- whether joint object coding is signalled after a single substream (ETSI TS 103 420 C.3)
unfoldable pub has_joint_objects : List ℕ → Bool
has_joint_objects dec3 =
    bits_at 3 13 dec3 == 0 && nat_le (substream_end dec3 + 2) (length dec3) && byte_at (substream_end dec3) dec3 % 2 == 1

-- the channels of a `dec3`: the complexity of joint object coding, or the number of plain channels
unfoldable pub ec3_channels : List ℕ → Option Channels
ec3_channels dec3 =
    if nat_lt (length dec3) (substream_end dec3) then None
    else Some (if has_joint_objects dec3 then JointObjects (byte_at (substream_end dec3 + 1) dec3) else Plain (ec3_bed_channels dec3))

-- whether a `dOps` is valid: version 0, and with a table of channels for each mapping family but 0
-- (Encapsulation of Opus in ISO Base Media File Format 4.3.2)
abbrev pub is_opus : List ℕ → Bool
is_opus dops =
    nat_le 11 (length dops) && byte_at 0 dops == 0 && (byte_at 10 dops == 0 || nat_le (13 + byte_at 1 dops) (length dops))

-- the channels of a `dOps`, if it is valid; they are unknown if their number is 0
unfoldable pub opus_channels : List ℕ → Option (Option Channels)
opus_channels dops = if is_opus dops then Some (some_channels (byte_at 1 dops)) else None

-- the channels of FLAC by its `dfLa` (Encapsulation of FLAC in ISO Base Media File Format 3.3.2): the first metadata block is
-- STREAMINFO, which has the number of channels less one at bit 164
unfoldable pub flac_channels : List ℕ → Option Channels
flac_channels dfla =
    if nat_lt (length dfla) 42 || not (byte_at 4 dfla % 128 == 0) then None else Some (Plain (bits_at 3 164 dfla + 1))

-- the channels of ALAC by its configuration: `numChannels`, after a version and flags
unfoldable pub alac_channels : List ℕ → Option Channels
alac_channels alac = if nat_lt (length alac) 28 then None else some_channels (byte_at 13 alac)
