-- Master playlists of small channels, by computation.
use Rattle.std.proofs.Common.{◌≡◌, ℕ, true, false, List, [], ◌∷◌, refl}
use Rattle.std.specs.Prelude.{Bool, codes}
use Rattle.std.specs.Fmt.{digits}
use Rattle.hls_core_laws.specs.declared.rendition.Rendition.{Rendition}
use Rattle.hls_m3u8.specs.Lines.{header_line}
use Rattle.hls_m3u8.specs.Masters.{master_lines}
use Rattle.hls_playlists_laws.specs.Masters.{master_below}

-- a rendition with this name, video or audio, this bandwidth, and no tolerance
abbrev rendition : List ℕ → Bool → ℕ → Rendition
rendition name video bandwidth = record { name = name; video = video; bandwidth = bandwidth; tolerance = 0 }

-- a video rendition and an audio one
video_and_audio : master_lines (master_below (codes "/live/") (rendition (codes "v1") true 3000000 ∷ rendition (codes "en") false 128000 ∷ [])) ≡
    header_line ∷ codes "#EXT-X-VERSION:6"
    ∷ codes "#EXT-X-MEDIA:TYPE=AUDIO,GROUP-ID=\"audio\",NAME=\"en\",DEFAULT=YES,AUTOSELECT=YES,URI=\"/live/1.m3u8\""
    ∷ codes "#EXT-X-STREAM-INF:BANDWIDTH=3000000,AUDIO=\"audio\"" ∷ codes "/live/0.m3u8" ∷ []
unfolding digits
video_and_audio = refl

-- audio only, in a job
audio_alone : master_lines (master_below [] (rendition (codes "de") false 64000 ∷ rendition (codes "en") false 128000 ∷ [])) ≡
    header_line ∷ codes "#EXT-X-VERSION:6"
    ∷ codes "#EXT-X-STREAM-INF:BANDWIDTH=64000" ∷ codes "0.m3u8" ∷ codes "#EXT-X-STREAM-INF:BANDWIDTH=128000" ∷ codes "1.m3u8" ∷ []
unfolding digits
audio_alone = refl

-- a single video rendition
video_alone : master_lines (master_below [] (rendition (codes "v1") true 7 ∷ [])) ≡
    header_line ∷ codes "#EXT-X-VERSION:6" ∷ codes "#EXT-X-STREAM-INF:BANDWIDTH=7" ∷ codes "0.m3u8" ∷ []
unfolding digits
video_alone = refl
