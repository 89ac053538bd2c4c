-- The silent frame of a rendition, and how long its frames are.
use Rattle.std.specs.Prelude.{ℕ, ◌*◌, ◌==◌, if◌then◌else◌, Option, Some, None, option_map, option_and_then, List}
use Rattle.hls_codecs.specs.declared.codec.Codec.{Codec}
use Rattle.hls_codecs.specs.declared.codec.Codec.TheVariants as codecs
use Rattle.hls_codecs.specs.declared.codec.Mp4aConfig.TheVariants.{Mpeg4}
use Rattle.hls_codecs.specs.declared.track_format.Channels.TheVariants.{Plain}
use Rattle.hls_codecs.specs.declared.track_format.TrackKind.{TrackKind}
use Rattle.hls_codecs.specs.declared.track_format.TrackKind.TheVariants.{Audio}
use Rattle.hls_codecs.specs.declared.track_format.AudioFrames.{AudioFrames}
use Rattle.hls_codecs.specs.declared.track_format.TrackFormat.{TrackFormat}
use Rattle.hls_codecs.specs.Tracks.{format_of}
use Rattle.hls_mend_laws.specs.Fillers.{silent_mono, silent_stereo}
use Rattle.hls_mend_laws.specs.declared.filler.FrameLength.{FrameLength}
use Rattle.hls_mend.specs.declared.silence.Sound as sounds

-- the silent frame of AAC-LC with n channels, if n is 1 or 2
abbrev pub frame_of_channels : ℕ → Option (List ℕ)
frame_of_channels n = if n == 1 then Some silent_mono else (if n == 2 then Some silent_stereo else None)

-- the silent frame of a codec, if it is AAC-LC, which is audio object type 2 (ISO/IEC 14496-3 1.5.1.1)
abbrev pub frame_of_codec : Codec → TrackKind → Option (List ℕ)
frame_of_codec (codecs.Mp4a (Mpeg4 object_type)) (Audio (Some (Plain n))) = if object_type == 2 then frame_of_channels n else None
frame_of_codec codec kind = None

-- the silent frame of a track by its format; an encrypted track has none
abbrev pub frame_of_format : TrackFormat → Option (List ℕ)
frame_of_format f = if f.encrypted then None else frame_of_codec f.codec f.kind

-- the silent frame of the first track, if its codec is AAC-LC with one or two channels
unfoldable pub silent_frame : List ℕ → Option (List ℕ)
silent_frame init = option_and_then frame_of_format (format_of 0 init)

-- what is repeated in fillers of audio: how long a frame is, and the silent frame if there is one
pub record Sound : Type 0 where
  pub length : FrameLength
  pub silent : Option (List ℕ)

-- the sound of fillers as contracts see it, with a list in place of a slice
abbrev pub sound_view : sounds.Sound → Sound
sound_view s = record { length = s.length; silent = option_map (λ f. f.now) s.silent }

-- the length of a codec's frames, in ticks of a timescale
abbrev pub frame_length : ℕ → AudioFrames → FrameLength
frame_length scale f = record { ticks = f.samples * scale; rate = f.rate }

-- the sound of fillers of a codec with these frames
abbrev pub sound_by : ℕ → TrackFormat → AudioFrames → Sound
sound_by scale f frames = record { length = frame_length scale frames; silent = frame_of_codec f.codec f.kind }

-- the sound of fillers of a track by its format, if that says how long frames are; an encrypted track has none
abbrev pub sound_of_format : ℕ → TrackFormat → Option Sound
sound_of_format scale f = if f.encrypted then None else option_map (sound_by scale f) f.frames

-- the sound of fillers of the first track, whose seconds have `scale` ticks
unfoldable pub sound_of : ℕ → List ℕ → Option Sound
sound_of scale init = option_and_then (sound_of_format scale) (format_of 0 init)
