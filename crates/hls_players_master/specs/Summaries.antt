-- What the master playlist of a state says of each rendition.
use Rattle.std.specs.Prelude.{ℕ, suc, ◌-◌, Option, Some, None, option_map, option_and_then, List, [], ◌∷◌, length, drop, fold, slice_get}
use Rattle.hls_media_laws.specs.declared.track.Track.{Track}
use Rattle.hls_record.specs.RecordingData.{RecordingData}
use Rattle.hls_core_laws.specs.declared.rendition.Rendition.{Rendition}
use Rattle.hls_core_laws.specs.State.{State}
use Rattle.hls_core_laws.specs.Line.{line}
use Rattle.hls_places_laws.specs.Line.Live.{segments_of}
use Rattle.hls_core.specs.Getters.{recording_of}
use Rattle.hls_codecs.specs.Texts.{codec_text}
use Rattle.hls_codecs.specs.FrameRates.{durations_in, join_ranges, rate_of_range}
use Rattle.hls_codecs.specs.declared.sample_durations.DurationRange.{DurationRange}
use Rattle.hls_players_master.specs.Rates.{measure_of, rates_of}
use Rattle.hls_players_master.specs.Tracks.{no_tracks, tracks_from}
use Rattle.hls_players_master.specs.declared.tracks.Picture.{Picture}
use Rattle.hls_players_master.specs.declared.tracks.Sound.{Sound}
use Rattle.hls_players_master.specs.declared.tracks.KnownTracks.{KnownTracks}
use Rattle.hls_players_master.specs.declared.summary.RenditionSummary.{RenditionSummary}
use Rattle.hls_players_master.specs.declared.summary.CodecStrings.{CodecStrings}

-- how many of the newest units are looked at for a frame rate
abbrev pub most_units : ℕ
most_units = 8

-- the durations of a track's samples in units, together
abbrev pub and_unit : Track → Option DurationRange → List ℕ → Option DurationRange
and_unit track range unit = join_ranges range (durations_in track unit)

-- the last eight of some units, or all if there are fewer
abbrev pub newest_units : List (List ℕ) → List (List ℕ)
newest_units units = drop (length units - most_units) units

-- the frame rate of a track by the newest of some units, in thousandths of frames per second
unfoldable pub rate_in_units : Track → List (List ℕ) → Option ℕ
rate_in_units track units = option_and_then (rate_of_range track.scale) (fold (and_unit track) None (newest_units units))

-- the frame rate of a picture's track, by the newest kept units of its recording
unfoldable pub frame_rate_of : RecordingData → Picture → Option ℕ
frame_rate_of recorded picture = option_and_then (λ (track : Track). rate_in_units track recorded.units) (slice_get recorded.init.tracks picture.number)

-- the string of a codec, if there is such a track
abbrev pub picture_text : Option Picture → List ℕ
picture_text None = []
picture_text (Some p) = codec_text p.codec

-- the string of the codec of a sound, or nothing without a sound
abbrev pub sound_text : Option Sound → List ℕ
sound_text None = []
sound_text (Some s) = codec_text s.codec

-- the codec strings of the known tracks
abbrev pub codec_strings : KnownTracks → CodecStrings
codec_strings known = record { picture = picture_text known.picture; sound = sound_text known.sound }

-- the tracks of a recording's init section; None if one isn't understood or there are two of a kind
unfoldable pub tracks_of : RecordingData → Option KnownTracks
tracks_of recorded = tracks_from recorded.head (length recorded.init.tracks) 0 no_tracks

-- the picture of the tracks, if they are known and one is a picture
abbrev pub picture_of : Option KnownTracks → Option Picture
picture_of None = None
picture_of (Some known) = known.picture

-- the sound of the tracks, if they are known and one is a sound
abbrev pub sound_of : Option KnownTracks → Option Sound
sound_of None = None
sound_of (Some known) = known.sound

-- rendition n with a recording, by its known tracks
abbrev pub summary_from : State → ℕ → Rendition → RecordingData → Option KnownTracks → RenditionSummary
summary_from s n r recorded known = record {
  number = n;
  name = r.name;
  video = r.video;
  bandwidth = r.bandwidth;
  rates = rates_of (measure_of recorded n (segments_of (line s)));
  codecs = option_map codec_strings known;
  size = option_and_then (λ (p : Picture). p.size) (picture_of known);
  range = option_and_then (λ (p : Picture). p.range) (picture_of known);
  frame_rate = option_and_then (frame_rate_of recorded) (picture_of known);
  channels = option_and_then (λ (a : Sound). a.channels) (sound_of known);
  language = option_and_then (λ (a : Sound). a.language) (sound_of known);
}

-- rendition n with a recording, by the tracks of its init section
unfoldable pub summary_of : State → ℕ → Rendition → RecordingData → RenditionSummary
summary_of s n r recorded = summary_from s n r recorded (tracks_of recorded)

-- the renditions from number n on; None before each has begun
unfoldable pub summaries_from : State → ℕ → List Rendition → Option (List RenditionSummary)
summaries_from s n [] = Some []
summaries_from s n (r ∷ others) =
    option_and_then (λ (recorded : RecordingData). option_map (λ (more : List RenditionSummary). summary_of s n r recorded ∷ more) (summaries_from s (suc n) others)) (recording_of s n)

-- the summaries of all renditions of a state; None before each has begun
abbrev pub summaries_of : State → Option (List RenditionSummary)
summaries_of s = summaries_from s 0 s.config.renditions
