-- The master playlists of a channel: its renditions by their media playlists (RFC 8216 section 4.3.4).
use Rattle.std.specs.Prelude.{ℕ, suc, Bool, if◌then◌else◌, List, [], ◌∷◌, ◌++◌, codes}
use Rattle.std.specs.Fmt.{decimal}
use Rattle.std.specs.List.{list_any}
use Rattle.hls_core_laws.specs.declared.rendition.Rendition.{Rendition}
use Rattle.hls_core_laws.specs.State.{State}
use Rattle.hls_m3u8.specs.declared.master.AudioRendition.{AudioRendition}
use Rattle.hls_m3u8.specs.declared.master.VariantStream.{VariantStream}
use Rattle.hls_m3u8.specs.Masters.{Master}

-- the URI of a rendition's media playlist in a folder
abbrev pub list_uri : List ℕ → ℕ → List ℕ
list_uri folder rendition = folder ++ (decimal rendition ++ codes ".m3u8")

-- whether a rendition has video
abbrev pub is_video : Rendition → Bool
is_video rendition = rendition.video

-- rendition n in the audio group
abbrev pub audio_at : List ℕ → ℕ → Rendition → AudioRendition
audio_at folder n rendition = record { name = rendition.name; uri = list_uri folder n }

-- rendition n as a variant stream
abbrev pub variant_at : List ℕ → ℕ → Rendition → VariantStream
variant_at folder n rendition = record { bandwidth = rendition.bandwidth; uri = list_uri folder n }

-- the audio renditions in order; the first of the list has number n
abbrev pub audio_from : List ℕ → ℕ → List Rendition → List AudioRendition
audio_from folder n [] = []
audio_from folder n (rendition ∷ others) =
    if is_video rendition then audio_from folder (suc n) others else audio_at folder n rendition ∷ audio_from folder (suc n) others

-- the video renditions in order
abbrev pub videos_from : List ℕ → ℕ → List Rendition → List VariantStream
videos_from folder n [] = []
videos_from folder n (rendition ∷ others) =
    if is_video rendition then variant_at folder n rendition ∷ videos_from folder (suc n) others else videos_from folder (suc n) others

-- all renditions in order
abbrev pub variants_from : List ℕ → ℕ → List Rendition → List VariantStream
variants_from folder n [] = []
variants_from folder n (rendition ∷ others) = variant_at folder n rendition ∷ variants_from folder (suc n) others

-- If there is a video rendition, the audio renditions are a group that plays with each video; else each rendition is a variant
-- stream, and there is no group.
abbrev pub master_below : List ℕ → List Rendition → Master
master_below folder renditions =
    if list_any is_video renditions then (record { audio = audio_from folder 0 renditions; variants = videos_from folder 0 renditions })
    else (record { audio = []; variants = variants_from folder 0 renditions })

-- the live master playlist of a channel, whose media playlists are `/live/<rendition>.m3u8`
abbrev pub live_master : State → Master
live_master s = master_below (codes "/live/") s.config.renditions

-- the master playlist of a job over a state; its media playlists are `<rendition>.m3u8` in the same folder
abbrev pub job_master : State → Master
job_master s = master_below [] s.config.renditions
