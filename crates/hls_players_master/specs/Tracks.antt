-- The tracks of a rendition that a master playlist speaks of: one picture and one sound at most.
use Rattle.std.specs.Prelude.{ℕ, zero, suc, Option, Some, None, is_some, if◌then◌else◌, option_and_then, List}
use Rattle.hls_codecs.specs.Tracks.{format_of}
use Rattle.hls_codecs.specs.declared.track_format.TrackFormat.{TrackFormat}
use Rattle.hls_codecs.specs.declared.track_format.TrackKind.{TrackKind}
use Rattle.hls_codecs.specs.declared.track_format.TrackKind.TheVariants.{Video, Audio}
use Rattle.hls_codecs.specs.declared.track_format.VideoFormat.{VideoFormat}
use Rattle.hls_codecs.specs.declared.track_format.Channels.{Channels}
use Rattle.hls_players_master.specs.declared.tracks.KnownTracks.{KnownTracks}

-- no track is known yet
abbrev pub no_tracks : KnownTracks
no_tracks = record { picture = None; sound = None }

-- the known tracks with track n as their picture; None if there is a picture already
abbrev pub with_picture : ℕ → TrackFormat → VideoFormat → KnownTracks → Option KnownTracks
with_picture n f v known =
    if is_some known.picture then None
    else Some (record { picture = Some (record { number = n; codec = f.codec; size = v.size; range = v.range }); sound = known.sound })

-- the known tracks with a track as their sound; None if there is a sound already
abbrev pub with_sound : TrackFormat → Option Channels → KnownTracks → Option KnownTracks
with_sound f channels known =
    if is_some known.sound then None
    else Some (record { picture = known.picture; sound = Some (record { codec = f.codec; channels = channels; language = f.language }) })

-- the known tracks with track n, by its kind
abbrev pub with_kind : ℕ → TrackFormat → KnownTracks → TrackKind → Option KnownTracks
with_kind n f known (Video v) = with_picture n f v known
with_kind n f known (Audio channels) = with_sound f channels known

-- the known tracks with track n, by its format; None if there is one of its kind already
unfoldable pub with_track : ℕ → TrackFormat → KnownTracks → Option KnownTracks
with_track n f known = with_kind n f known f.kind

-- the known tracks with track n of the init section; None if it isn't understood or there is one of its kind already
abbrev pub and_track : List ℕ → ℕ → KnownTracks → Option KnownTracks
and_track init n known = option_and_then (λ (f : TrackFormat). with_track n f known) (format_of n init)

-- the known tracks with `left` tracks of the init section from track n on; None if one isn't understood or there are two of a kind
unfoldable pub tracks_from : List ℕ → ℕ → ℕ → KnownTracks → Option KnownTracks
tracks_from init zero n known = Some known
tracks_from init (suc left) n known = option_and_then (tracks_from init left (suc n)) (and_track init n known)
