-- The codec of a sample entry, from its configuration box.
use Rattle.std.specs.Prelude.{ℕ, ◌+◌, ◌*◌, ◌/◌, ◌%◌, ◌==◌, nat_lt, Bool, false, ◌&&◌, ◌||◌, not, if◌then◌else◌, Option, Some, None, List, length, slice_range}
use Rattle.std.specs.Int.{w32}
use Rattle.hls_boxes.specs.Boxes.{number_at}
use Rattle.hls_codecs.specs.Boxes.{byte_at}
use Rattle.hls_codecs.specs.declared.codec.ParameterSets.{ParameterSets}
use Rattle.hls_codecs.specs.declared.codec.AvcConfig.{AvcConfig}
use Rattle.hls_codecs.specs.declared.codec.HevcConfig.{HevcConfig}
use Rattle.hls_codecs.specs.declared.codec.Colours.{Colours}
use Rattle.hls_codecs.specs.declared.codec.Av1Config.{Av1Config}
use Rattle.hls_codecs.specs.declared.codec.Vp9Config.{Vp9Config}

-- the number in two bytes from the i-th on, big-endian
abbrev pub half_at : ℕ → List ℕ → ℕ
half_at i bytes = byte_at i bytes * 256 + byte_at (i + 1) bytes

-- the configuration of H.264 in an `avcC`: version 1, and then profile, constraint flags and level (ISO/IEC 14496-15 5.3.3.1)
unfoldable pub avc_config : ParameterSets → List ℕ → Option AvcConfig
avc_config sets box =
    if nat_lt (length box) 4 || not (byte_at 0 box == 1) then None
    else Some (record { sets = sets; profile = byte_at 1 box; constraints = byte_at 2 box; level = byte_at 3 box })

-- The configuration of H.265 in an `hvcC` (ISO/IEC 14496-15 8.3.3.1): version 1, and then profile space, tier, profile,
-- compatibility flags, constraint flags and level.
unfoldable pub hevc_config : ParameterSets → List ℕ → Option HevcConfig
hevc_config sets box =
    if nat_lt (length box) 13 || not (byte_at 0 box == 1) then None
    else Some (record {
      sets = sets;
      profile_space = byte_at 1 box / 64;
      high_tier = byte_at 1 box / 32 % 2 == 1;
      profile = byte_at 1 box % 32;
      compatibility = number_at w32 2 box;
      constraints = slice_range box 6 12;
      level = byte_at 12 box;
    })

-- the colours that a string leaves out: those of ITU-R BT.709 with limited range
abbrev pub usual_colours : Colours
usual_colours = record { primaries = 1; transfer = 1; matrix = 1; full_range = false }

-- whether the colours are those that a string leaves out
abbrev pub are_usual : Colours → Bool
are_usual c = c.primaries == 1 && c.transfer == 1 && c.matrix == 1 && not c.full_range

-- the bits per sample of AV1: 8, or with high bit depth 10, or 12, which only profile 2 has
abbrev pub av1_depth : ℕ → Bool → Bool → ℕ
av1_depth profile high twelve = if high then (if profile == 2 && twelve then 12 else 10) else 8

-- AV1: marker and version 1, and then the sequence header's fields (AV1 in ISOBMFF 2.3.3); the colours are those of `colr`
unfoldable pub av1_config : Colours → List ℕ → Option Av1Config
av1_config colours box =
    if nat_lt (length box) 4 || not (byte_at 0 box == 0x81) then None
    else Some (record {
      profile = byte_at 1 box / 32;
      level = byte_at 1 box % 32;
      high_tier = byte_at 2 box / 128 == 1;
      depth = av1_depth (byte_at 1 box / 32) (byte_at 2 box / 64 % 2 == 1) (byte_at 2 box / 32 % 2 == 1);
      monochrome = byte_at 2 box / 16 % 2 == 1;
      subsampling_x = byte_at 2 box / 8 % 2 == 1;
      subsampling_y = byte_at 2 box / 4 % 2 == 1;
      position = byte_at 2 box % 4;
      colours = colours;
    })

-- VP9: version 1 of a full box, and then profile, level, depth, subsampling and colours (VP Codec ISO Media File Format Binding)
unfoldable pub vp9_config : List ℕ → Option Vp9Config
vp9_config box =
    if nat_lt (length box) 12 || not (byte_at 0 box == 1) then None
    else Some (record {
      profile = byte_at 4 box;
      level = byte_at 5 box;
      depth = byte_at 6 box / 16;
      chroma = byte_at 6 box / 2 % 8;
      colours = record { primaries = byte_at 7 box; transfer = byte_at 8 box; matrix = byte_at 9 box; full_range = byte_at 6 box % 2 == 1 };
    })
