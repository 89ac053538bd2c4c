-- A reply's playlists can be written.
use Rattle.std.proofs.Common.{◌≡◌, ℕ, ◌<◌, ◌≤◌, ℤ, Option, List, length, Some, None, ap, refl, subst, ⊎_elim, ◌∙◌, arith, get_or, Vec, Global}
use Rattle.std.specs.Prelude.{slice_get, map, option_map}
use Rattle.std.proofs.lemmas.Option.{slice_get_within, slice_get_cases, slice_get-map, slice_get_read}
use Rattle.hls_record.specs.RecordingData.{RecordingData}
use Rattle.hls_check_tables.specs.Tables.{Table}
use Rattle.hls_check_tables.specs.Certificates.{ClaimData, CutClaim, NoneClaim, CertificateData}
use Rattle.hls_m3u8.specs.declared.playlist.MediaPlaylist.{MediaPlaylist}
use Rattle.hls_m3u8.specs.Playlist.{Playlist, playlist_of}
use Rattle.hls_m3u8.specs.HasText.{HasText}
use Rattle.hls_core_laws.specs.State.{State}
use Rattle.hls_catchup.specs.declared.request.Request.{Request}
use Rattle.hls_catchup.specs.declared.cut_result.CutResult.{CutResult}
use Rattle.hls_catchup.specs.declared.cut_result.CutResult.TheVariants.{Cut}
use Rattle.hls_catchup.specs.Requests.{IsRightAnswer}
use Rattle.hls_catchup.specs.Answers.{ShowsCut}

-- each playlist of a cut's answer can be written
pub shows_text : (epoch : Option ℤ) (recordings : List RecordingData) (t : Table) (lists : List Playlist) (shown : ClaimData) (r : ℕ) (list : Playlist) → length recordings ≡ t.renditions
    → ShowsCut epoch recordings t lists shown → slice_get lists r ≡ Some list → HasText list
shows_text epoch recordings t lists (CutClaim total plan prices) r list count shows there =
    let within : r < length lists = slice_get_within lists r list there in
    let lists_count = shows.1.count in
    ⊎_elim
    (λ (found : (x : RecordingData) × (r < length recordings) × (slice_get recordings r ≡ Some x) × (get_or recordings r x ≡ x)). (shows.1.each r found.0 list found.2 there).has_text)
    (λ (past : (length recordings ≤ r) × (slice_get recordings r ≡ None)). let long = past.0 in absurd (omega (arith, count, lists_count)))
    (slice_get_cases recordings r).1
shows_text epoch recordings t lists (NoneClaim closed) r list count shows there = absurd shows

-- each playlist of a right answer can be written
pub list_has_text : (s : State) (request : Request) (cut_result : CutResult) (lists : Vec MediaPlaylist Global) (certificate : CertificateData) (r : ℕ) (list : MediaPlaylist)
    → IsRightAnswer s request cut_result → cut_result ≡ Cut lists certificate → slice_get lists.items r ≡ Some list → HasText (playlist_of list)
list_has_text s request cut_result lists certificate r list right is there =
    let cut : IsRightAnswer s request (Cut lists certificate) = subst (λ (c : CutResult). IsRightAnswer s request c) is right in
    shows_text s.config.epoch cut.recordings cut.table (map playlist_of lists.items) certificate.shown r (playlist_of list) cut.covered.renditions cut.right.1
    (slice_get-map playlist_of lists.items r ∙ ap (option_map playlist_of) there)

-- a playlist that was read at a rendition's number is the one at that number
pub list_there : (lists read : List MediaPlaylist) (rendition : ℕ) (list : MediaPlaylist) → read ≡ lists → rendition < length read → list ≡ get_or read rendition list →
    slice_get lists rendition ≡ Some list
list_there lists read rendition list same within is =
    subst (λ (ls : List MediaPlaylist). slice_get ls rendition ≡ Some list) same (slice_get_read read (length read) rendition list refl within is)
