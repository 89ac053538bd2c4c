-- One more playlist in a loop over the renditions.
use Rattle.std.proofs.Common.{◌≡◌, ℕ, suc, ◌+◌, ◌<◌, ℤ, Option, List, [], ◌∷◌, ◌++◌, length, map, drop, get_or, sym, ◌∙◌, ap, Bor, append_assoc, drop-cons, add-one}
use Rattle.std.proofs.lemmas.List.{map-append}
use Rattle.hls_record.specs.RecordingData.{RecordingData}
use Rattle.hls_check_tables.specs.Tables.{Table}
use Rattle.hls_m3u8.specs.declared.playlist.MediaPlaylist.{MediaPlaylist}
use Rattle.hls_m3u8.specs.Playlist.{Playlist, playlist_of}
use Rattle.hls_playlists_laws.specs.JobPlaylists.{job_list, job_lists}

-- with the playlist of rendition i added, the playlists made so far and those of the renditions after it are still all
pub one_list_more : (epoch : Option ℤ) (recordings : List (Bor RecordingData)) (t : Table) (plan : List ℕ) (lists : List MediaPlaylist) (list : MediaPlaylist) (i : ℕ)
    (recording : Bor RecordingData) (whole : List Playlist) →
    i < length recordings → recording ≡ get_or recordings i recording → playlist_of list ≡ job_list epoch recording.now i t plan →
    map playlist_of lists ++ job_lists epoch i (map (λ r. r.now) (drop i recordings)) t plan ≡ whole →
    map playlist_of (lists ++ list ∷ []) ++ job_lists epoch (i + 1) (map (λ r. r.now) (drop (i + 1) recordings)) t plan ≡ whole
one_list_more epoch recordings t plan lists list i recording whole within here made before =
    let rest : List Playlist = job_lists epoch (i + 1) (map (λ r. r.now) (drop (i + 1) recordings)) t plan in
    let front : drop i recordings ≡ recording ∷ drop (i + 1) recordings =
    drop-cons recordings i recording within ∙ ap (λ r. r ∷ drop (suc i) recordings) (sym here)
    ∙ ap (λ n. recording ∷ drop n recordings) (sym (add-one i)) in
    let unrolled : job_lists epoch i (map (λ r. r.now) (drop i recordings)) t plan ≡ playlist_of list ∷ rest =
    ap (λ rs. job_lists epoch i (map (λ r. r.now) rs) t plan) front
    ∙ ap (λ n. job_list epoch recording.now i t plan ∷ job_lists epoch n (map (λ r. r.now) (drop (i + 1) recordings)) t plan) (sym (add-one i))
    ∙ ap (λ l. l ∷ rest) (sym made) in
    ap (λ ls. ls ++ rest) (map-append playlist_of lists (list ∷ []))
    ∙ append_assoc (map playlist_of lists) (playlist_of list ∷ []) rest
    ∙ ap (λ ls. map playlist_of lists ++ ls) (sym unrolled) ∙ before
