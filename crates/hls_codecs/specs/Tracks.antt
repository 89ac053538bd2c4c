-- What an init section says of a track: the first sample entry of its `stsd` (ISO/IEC 14496-12 8.5.2, 12.1, 12.2), its `tkhd` and its `mdhd`.
use Rattle.std.specs.Prelude.{ℕ, ◌+◌, ◌*◌, ◌/◌, ◌%◌, ◌==◌, nat_lt, nat_le, Bool, false, ◌&&◌, ◌||◌, not, if◌then◌else◌, Option, Some, None, option_map, option_and_then, List, length, drop, slice_range}
use Rattle.std.specs.Option.{option_or}
use Rattle.std.specs.Int.{w32}
use Rattle.hls_boxes.specs.declared.box_header.BoxHeader.{BoxHeader}
use Rattle.hls_boxes.specs.Boxes.{number_at, box_at}
use Rattle.hls_boxes.specs.Kinds.{moov_type}
use Rattle.hls_media_laws.specs.Kinds.{trak_type, tkhd_type, mdia_type, mdhd_type}
use Rattle.hls_codecs.specs.Kinds.{minf_type, stbl_type, stsd_type, sinf_type, frma_type, pasp_type, colr_type, nclx_type, nclc_type, encv_type, enca_type, avc1_type, avc3_type, avcc_type, hvc1_type, hev1_type, hvcc_type, av01_type, av1c_type, vp09_type, vpcc_type, mp4a_type, esds_type, wave_type, ac3_type, dac3_type, ec3_type, dec3_type, opus_type, dops_type, flac_type, dfla_type, alac_type}
use Rattle.hls_codecs.specs.Boxes.{box_in, byte_at}
use Rattle.hls_codecs.specs.Codecs.{half_at, usual_colours, avc_config, hevc_config, av1_config, vp9_config}
use Rattle.hls_codecs.specs.Audio.{some_channels, mp4a_entry, ac3_channels, ac3_frames, ec3_channels, ec3_frames, opus_channels, flac_channels, alac_channels}
use Rattle.hls_codecs.specs.declared.codec.ParameterSets.{ParameterSets}
use Rattle.hls_codecs.specs.declared.codec.ParameterSets.TheVariants.{OutOfBand, InBand}
use Rattle.hls_codecs.specs.declared.codec.AvcConfig.{AvcConfig}
use Rattle.hls_codecs.specs.declared.codec.HevcConfig.{HevcConfig}
use Rattle.hls_codecs.specs.declared.codec.Av1Config.{Av1Config}
use Rattle.hls_codecs.specs.declared.codec.Vp9Config.{Vp9Config}
use Rattle.hls_codecs.specs.declared.codec.Colours.{Colours}
use Rattle.hls_codecs.specs.declared.codec.Codec.{Codec}
use Rattle.hls_codecs.specs.declared.codec.Codec.TheVariants as codecs
use Rattle.hls_codecs.specs.declared.audio.Mp4aEntry.{Mp4aEntry}
use Rattle.hls_codecs.specs.declared.track_format.DisplaySize.{DisplaySize}
use Rattle.hls_codecs.specs.declared.track_format.VideoRange.{VideoRange}
use Rattle.hls_codecs.specs.declared.track_format.VideoRange.TheVariants.{Sdr, Hlg, Pq}
use Rattle.hls_codecs.specs.declared.track_format.Channels.{Channels}
use Rattle.hls_codecs.specs.declared.track_format.AudioFrames.{AudioFrames}
use Rattle.hls_codecs.specs.declared.track_format.TrackKind.TheVariants.{Video, Audio}
use Rattle.hls_codecs.specs.declared.track_format.TrackFormat.{TrackFormat}
use Rattle.hls_codecs.specs.declared.video.VideoEntry.{VideoEntry}
use Rattle.hls_codecs.specs.declared.sound.AudioEntry.{AudioEntry}

-- the width in square pixels of a picture with pixels of h to v, a half rounded up
abbrev pub square_width : ℕ → ℕ → ℕ → ℕ
square_width width h v = (2 * width * h + v) / (2 * v)

-- whether a displayed width is one that a picture may have
abbrev pub is_width : ℕ → Bool
is_width n = nat_lt 0 n && nat_lt n 65536

-- the width in square pixels; a pixel ratio without a meaning, or one that gives no possible width, counts as square
unfoldable pub displayed_width : ℕ → ℕ → ℕ → ℕ
displayed_width width h v =
    if h == 0 || v == 0 then width
    else (if is_width (square_width width h v) then square_width width h v else width)

-- the displayed width of a picture with this `pasp`, if it has one of eight bytes or more (12.1.4)
unfoldable pub width_with : ℕ → Option (List ℕ) → ℕ
width_with width None = width
width_with width (Some pasp) =
    if nat_lt (length pasp) 8 then width else displayed_width width (number_at w32 0 pasp) (number_at w32 4 pasp)

-- the offset of the matrix in a `tkhd`, by its version (8.3.2)
abbrev pub matrix_offset : List ℕ → ℕ
matrix_offset tkhd = if byte_at 0 tkhd == 1 then 52 else 40

-- whether the matrix of a `tkhd` turns the picture by a quarter: its first and fifth numbers are 0, its second and fourth aren't
unfoldable pub is_turned : Option (List ℕ) → Bool
is_turned None = false
is_turned (Some tkhd) =
    nat_le (matrix_offset tkhd + 20) (length tkhd)
    && number_at w32 (matrix_offset tkhd) tkhd == 0 && number_at w32 (matrix_offset tkhd + 16) tkhd == 0
    && not (number_at w32 (matrix_offset tkhd + 4) tkhd == 0) && not (number_at w32 (matrix_offset tkhd + 12) tkhd == 0)

-- the size of a picture, with width and height exchanged if it is turned
abbrev pub size_from : Bool → ℕ → ℕ → DisplaySize
size_from turned width height = if turned then (record { width = height; height = width }) else (record { width = width; height = height })

-- the displayed size of the picture of a video entry, with the `pasp` in its boxes; none if a side is 0
unfoldable pub display_size : Bool → List ℕ → List ℕ → Option DisplaySize
display_size turned entry boxes =
    if half_at 24 entry == 0 || half_at 26 entry == 0 then None
    else Some (size_from turned (width_with (half_at 24 entry) (box_in pasp_type 0 boxes)) (half_at 26 entry))

-- the colours in a `colr` (12.1.5) of these types; a profile isn't read
unfoldable pub colours_in : List ℕ → Option Colours
colours_in colr =
    if nat_lt (length colr) 11 && not (number_at w32 0 colr == nclc_type && length colr == 10) then None
    else (if number_at w32 0 colr == nclx_type then Some (record { primaries = half_at 4 colr; transfer = half_at 6 colr; matrix = half_at 8 colr; full_range = byte_at 10 colr / 128 == 1 })
    else (if number_at w32 0 colr == nclc_type then Some (record { primaries = half_at 4 colr; transfer = half_at 6 colr; matrix = half_at 8 colr; full_range = false })
    else None))

-- the colours of the first `colr` of an entry, or else of the second, since a profile may come first
unfoldable pub entry_colours : List ℕ → Option Colours
entry_colours boxes = option_or (option_and_then colours_in (box_in colr_type 0 boxes)) (option_and_then colours_in (box_in colr_type 1 boxes))

-- the range of a transfer function (ISO/IEC 23091-2 8.2)
abbrev pub range_of_transfer : ℕ → VideoRange
range_of_transfer n = if n == 16 then Pq else (if n == 18 then Hlg else Sdr)

-- without colours a picture of 8 bits per sample has standard range, and that of a deeper one isn't known
abbrev pub range_with : Bool → Option Colours → Option VideoRange
range_with deep None = if deep then None else Some Sdr
range_with deep (Some colours) = Some (range_of_transfer colours.transfer)

-- the colours, or the default if there are none
abbrev pub colours_or : Colours → Option Colours → Colours
colours_or default None = default
colours_or default (Some colours) = colours

-- the codec and the range of an H.264 entry, from the boxes in it
unfoldable pub avc_entry : ParameterSets → List ℕ → Option VideoEntry
avc_entry sets boxes =
    option_map (λ (c : AvcConfig). record { codec = codecs.Avc c; range = range_with false (entry_colours boxes) }) (option_and_then (avc_config sets) (box_in avcc_type 0 boxes))

-- the entry of H.265 with this configuration, which is deep if its luma bit depth isn't 8
abbrev pub hevc_from : Option Colours → List ℕ → HevcConfig → VideoEntry
hevc_from colours box c = record { codec = codecs.Hevc c; range = range_with (not (byte_at 17 box % 8 == 0)) colours }

-- the codec and the range of an H.265 entry, from the boxes in it
unfoldable pub hevc_entry : ParameterSets → List ℕ → Option VideoEntry
hevc_entry sets boxes =
    option_and_then (λ (box : List ℕ). option_map (hevc_from (entry_colours boxes) box) (hevc_config sets box)) (box_in hvcc_type 0 boxes)

-- the entry of AV1 with this configuration, which is deep if its bit depth isn't 8
abbrev pub av1_from : Option Colours → Av1Config → VideoEntry
av1_from colours c = record { codec = codecs.Av1 c; range = range_with (not (c.depth == 8)) colours }

-- the codec and the range of an AV1 entry, from the boxes in it; without a `colr` its colours are the usual ones
unfoldable pub av1_entry : List ℕ → Option VideoEntry
av1_entry boxes =
    option_map (av1_from (entry_colours boxes)) (option_and_then (av1_config (colours_or usual_colours (entry_colours boxes))) (box_in av1c_type 0 boxes))

-- the entry of VP9 with this configuration, whose range is by the entry's colours, or else the configuration's
abbrev pub vp9_from : Option Colours → Vp9Config → VideoEntry
vp9_from colours c = record { codec = codecs.Vp9 c; range = Some (range_of_transfer (colours_or c.colours colours).transfer) }

-- the codec and the range of a VP9 entry, from the boxes in it
unfoldable pub vp9_entry : List ℕ → Option VideoEntry
vp9_entry boxes = option_map (vp9_from (entry_colours boxes)) (option_and_then vp9_config (box_in vpcc_type 0 boxes))

-- the codec and the range of a video entry of a format, from the boxes in it
unfoldable pub video_entry : ℕ → List ℕ → Option VideoEntry
video_entry format boxes =
    if format == avc1_type then avc_entry OutOfBand boxes
    else (if format == avc3_type then avc_entry InBand boxes
    else (if format == hvc1_type then hevc_entry OutOfBand boxes
    else (if format == hev1_type then hevc_entry InBand boxes
    else (if format == av01_type then av1_entry boxes
    else (if format == vp09_type then vp9_entry boxes else None)))))

-- the codec of an audio entry, its channels and its frames
abbrev pub framed_audio : Codec → Option Channels → Option AudioFrames → AudioEntry
framed_audio codec channels frames = record { codec = codec; channels = channels; frames = frames }

-- the codec of an audio entry and its channels, if it doesn't say how long its frames are
abbrev pub audio_from : Codec → Option Channels → AudioEntry
audio_from codec channels = framed_audio codec channels None

-- AC-3, from the boxes in its entry
abbrev pub ac3_audio : List ℕ → AudioEntry
ac3_audio boxes = framed_audio codecs.Ac3 (option_and_then ac3_channels (box_in dac3_type 0 boxes)) (option_and_then ac3_frames (box_in dac3_type 0 boxes))

-- Enhanced AC-3, from the boxes in its entry
abbrev pub ec3_audio : List ℕ → AudioEntry
ec3_audio boxes = framed_audio codecs.Ec3 (option_and_then ec3_channels (box_in dec3_type 0 boxes)) (option_and_then ec3_frames (box_in dec3_type 0 boxes))

-- the `esds` among the boxes of an entry; a QuickTime file has it in `wave`
abbrev pub esds_in : List ℕ → Option (List ℕ)
esds_in boxes = option_or (box_in esds_type 0 boxes) (option_and_then (box_in esds_type 0) (box_in wave_type 0 boxes))

-- the codec and the channels of an `mp4a` entry, which itself says a number of channels, from the boxes in it
unfoldable pub mp4a_audio : Option Channels → List ℕ → Option AudioEntry
mp4a_audio channels boxes =
    option_map (λ (e : Mp4aEntry). framed_audio (codecs.Mp4a e.config) e.channels e.frames) (option_and_then (mp4a_entry channels) (esds_in boxes))

-- the codec and the channels of an Opus entry, from the boxes in it
unfoldable pub opus_audio : List ℕ → Option AudioEntry
opus_audio boxes = option_map (audio_from codecs.Opus) (option_and_then opus_channels (box_in dops_type 0 boxes))

-- the codec and the channels of an audio entry of a format, which itself says a number of channels, from the boxes in it
unfoldable pub audio_entry : ℕ → Option Channels → List ℕ → Option AudioEntry
audio_entry format channels boxes =
    if format == mp4a_type then mp4a_audio channels boxes
    else (if format == ac3_type then Some (ac3_audio boxes)
    else (if format == ec3_type then Some (ec3_audio boxes)
    else (if format == opus_type then opus_audio boxes
    else (if format == flac_type then Some (audio_from codecs.Flac (option_and_then flac_channels (box_in dfla_type 0 boxes)))
    else (if format == alac_type then Some (audio_from codecs.Alac (option_and_then alac_channels (box_in alac_type 0 boxes))) else None)))))

-- the offset of the boxes in an audio entry (12.2.3); in version 0 of `stsd` an entry's versions 1 and 2 are QuickTime's
abbrev pub audio_boxes_offset : ℕ → ℕ → ℕ
audio_boxes_offset version entry_version =
    if not (version == 0) then 28 else (if entry_version == 1 then 44 else (if entry_version == 2 then 64 else 28))

-- the original format that a `frma` names (8.12.2)
abbrev pub format_in : List ℕ → Option ℕ
format_in frma = if nat_lt (length frma) 4 then None else Some (number_at w32 0 frma)

-- the original format of an encrypted entry, from the boxes in it
unfoldable pub original_format : List ℕ → Option ℕ
original_format boxes = option_and_then format_in (option_and_then (box_in frma_type 0) (box_in sinf_type 0 boxes))

-- whether the type of an entry is that of encrypted video or audio
abbrev pub is_encrypted : ℕ → Bool
is_encrypted kind = kind == encv_type || kind == enca_type

-- the format of an entry of this type, which for an encrypted one, of the type `protected`, is the original format
abbrev pub format_behind : ℕ → ℕ → List ℕ → Option ℕ
format_behind protected kind boxes = if kind == protected then original_format boxes else Some kind

-- the format of a track with this video entry
abbrev pub video_format : Bool → List ℕ → List ℕ → VideoEntry → TrackFormat
video_format turned entry boxes v = record { codec = v.codec; kind = Video (record { size = display_size turned entry boxes; range = v.range }); frames = None; language = None; encrypted = false }

-- the format of a video track, from its entry and the boxes in it
abbrev pub video_of_boxes : Bool → ℕ → List ℕ → List ℕ → Option TrackFormat
video_of_boxes turned kind entry boxes =
    option_map (video_format turned entry boxes) (option_and_then (λ (f : ℕ). video_entry f boxes) (format_behind encv_type kind boxes))

-- the format of a video track, from its entry of at least 78 bytes
unfoldable pub video_at : Bool → ℕ → List ℕ → Option TrackFormat
video_at turned kind entry = if nat_lt (length entry) 78 then None else video_of_boxes turned kind entry (drop 78 entry)

-- the format of a track with this audio entry
abbrev pub audio_format : AudioEntry → TrackFormat
audio_format a = record { codec = a.codec; kind = Audio a.channels; frames = a.frames; language = None; encrypted = false }

-- the format of an audio track, from the boxes in its entry
abbrev pub audio_of_boxes : ℕ → Option Channels → List ℕ → Option TrackFormat
audio_of_boxes kind channels boxes = option_map audio_format (option_and_then (λ (f : ℕ). audio_entry f channels boxes) (format_behind enca_type kind boxes))

-- the number of channels that an entry says, if it is below 256 and not 0
abbrev pub some_entry_channels : ℕ → Option Channels
some_entry_channels n = if nat_lt n 256 then some_channels n else None

-- the format of an audio track, from its entry in a `stsd` of this version
unfoldable pub audio_at : ℕ → ℕ → List ℕ → Option TrackFormat
audio_at version kind entry =
    if nat_lt (length entry) 28 then None
    else (if nat_lt (length entry) (audio_boxes_offset version (half_at 8 entry)) then None
    else audio_of_boxes kind (some_entry_channels (half_at 16 entry)) (drop (audio_boxes_offset version (half_at 8 entry)) entry))

-- the first sample entry of a `stsd`: its type and its content
unfoldable pub first_entry : List ℕ → Option (ℕ × List ℕ)
first_entry stsd =
    if nat_lt (length stsd) 8 || number_at w32 4 stsd == 0 then None
    else option_map (λ (h : BoxHeader). (h.kind, slice_range (drop 8 stsd) h.head h.size)) (box_at (drop 8 stsd))

-- the offset of the language in an `mdhd`, by its version (8.4.2)
abbrev pub language_offset : List ℕ → ℕ
language_offset mdhd = if byte_at 0 mdhd == 1 then 32 else 20

-- whether five bits are the number of a letter, from 1 to 26
abbrev pub is_letter : ℕ → Bool
is_letter n = nat_lt 0 n && nat_lt n 27

-- whether a packed language has three letters and isn't "und"
abbrev pub is_language : ℕ → Bool
is_language packed = is_letter (packed / 1024) && is_letter (packed / 32 % 32) && is_letter (packed % 32) && not (packed == 0x55c4)

-- the packed language of an `mdhd`, if it has one
unfoldable pub language_in : Option (List ℕ) → Option ℕ
language_in None = None
language_in (Some mdhd) =
    if nat_lt (length mdhd) (language_offset mdhd + 2) || not (is_language (half_at (language_offset mdhd) mdhd)) then None
    else Some (half_at (language_offset mdhd) mdhd)

-- the format with this language, and whether it is encrypted
abbrev pub with_language : Option ℕ → Bool → TrackFormat → TrackFormat
with_language language encrypted f = record { codec = f.codec; kind = f.kind; frames = f.frames; language = language; encrypted = encrypted }

-- the format by a sample entry's type and content: that of a video entry, or else of an audio entry
abbrev pub entry_format : Bool → ℕ → ℕ × List ℕ → Option TrackFormat
entry_format turned version entry = option_or (video_at turned entry.0 entry.1) (audio_at version entry.0 entry.1)

-- the format by an entry of a `stsd`, with this language
abbrev pub format_from : Bool → Option ℕ → List ℕ → ℕ × List ℕ → Option TrackFormat
format_from turned language stsd entry =
    option_map (with_language language (is_encrypted entry.0)) (entry_format turned (byte_at 0 stsd) entry)

-- the format by the first entry of a `stsd`, with this language
unfoldable pub format_of_stsd : Bool → Option ℕ → List ℕ → Option TrackFormat
format_of_stsd turned language stsd = option_and_then (format_from turned language stsd) (first_entry stsd)

-- the `stsd` of an `mdia`
unfoldable pub stsd_of : List ℕ → Option (List ℕ)
stsd_of mdia = option_and_then (box_in stsd_type 0) (option_and_then (box_in stbl_type 0) (box_in minf_type 0 mdia))

-- the format by an `mdia`: its `stsd`, and the language of its `mdhd`
abbrev pub format_of_media : Bool → List ℕ → Option TrackFormat
format_of_media turned mdia = option_and_then (format_of_stsd turned (language_in (box_in mdhd_type 0 mdia))) (stsd_of mdia)

-- the format by a `trak`: its `mdia`, and the matrix of its `tkhd`
unfoldable pub format_of_trak : List ℕ → Option TrackFormat
format_of_trak trak = option_and_then (format_of_media (is_turned (box_in tkhd_type 0 trak))) (box_in mdia_type 0 trak)

-- the format of track n of an init section, in the order of its `trak` boxes; None if it isn't understood
unfoldable pub format_of : ℕ → List ℕ → Option TrackFormat
format_of n init = option_and_then format_of_trak (option_and_then (box_in trak_type n) (box_in moov_type 0 init))

-- whether there is an entry and its type is that of encrypted video or audio
abbrev pub is_encrypted_entry : Option (ℕ × List ℕ) → Bool
is_encrypted_entry None = false
is_encrypted_entry (Some entry) = is_encrypted entry.0

-- the first sample entry of a `trak`
unfoldable pub entry_of_trak : List ℕ → Option (ℕ × List ℕ)
entry_of_trak trak = option_and_then first_entry (option_and_then stsd_of (box_in mdia_type 0 trak))

-- whether the first sample entry of track n of an init section is encrypted, whether its format is understood or not
unfoldable pub is_encrypted_in : ℕ → List ℕ → Bool
is_encrypted_in n init = is_encrypted_entry (option_and_then entry_of_trak (option_and_then (box_in trak_type n) (box_in moov_type 0 init)))
