-- The playlists of a programme have the same texts in every state that follows.
use Rattle.std.proofs.Common.{◌≡◌, ◌∙◌, ℕ, ◌+◌, ℤ, List, length, map, Option, Some, None, option_map, Ok, refl, sym, ap, subst, inl, inr}
use Rattle.std.specs.Prelude.{slice_get}
use Rattle.std.proofs.lemmas.List.{length-map}
use Rattle.hls_record.specs.RecordingData.{RecordingData}
use Rattle.hls_check_tables.specs.Certificates.{ClaimData, CutClaim, NoneClaim}
use Rattle.hls_check_tables.specs.Tables.{Table}
use Rattle.hls_m3u8.specs.declared.playlist.MediaPlaylist.{MediaPlaylist}
use Rattle.hls_m3u8.specs.Lines.{media_text}
use Rattle.hls_m3u8.specs.Playlist.{Playlist, playlist_of}
use Rattle.hls_playlists_laws.specs.SegmentLaws.{first_fragment}
use Rattle.hls_core_laws.specs.Base.{bytes_before_base}
use Rattle.hls_core_laws.specs.Config.{ConfigData}
use Rattle.hls_core_laws.specs.Follows.{Follows, FollowsAsState}
use Rattle.hls_core_laws.specs.State.{State}
use Rattle.hls_core_laws.proofs.Callers.{at_beside}
use Rattle.hls_core.specs.Getters.{recording_of}
use Rattle.hls_catchup.specs.Answers.{ShowsCut}
use Rattle.hls_catchup.specs.Requests.{AreRecordings, IsRightAnswer, IsTableFor}
use Rattle.hls_catchup.specs.declared.cut_result.CutResult.{CutResult}
use Rattle.hls_catchup.specs.declared.cut_result.CutResult.TheVariants.{Cut, NoCut}
use Rattle.hls_catchup.specs.declared.request.Request.{Request}
use Rattle.hls_catchup.proofs.Callers.{before_same}
use Rattle.hls_jobs.specs.Programmes.{bytes_ahead, bytes_before_unit, folder_above, list_above, programme_list, programme_list_in}

-- two functions that agree on the value of an option map it to the same
option_same : {A B : Type 0} (f g : A → B) (x : Option A) → ((y : A) → x ≡ Some y → f y ≡ g y) → option_map f x ≡ option_map g x
option_same f g None each = refl
option_same f g (Some y) each = ap Some (each y refl)

-- a playlist by paths
module _ (a b : State) (ab : FollowsAsState a b) (request : Request) (t : Table) (recordings : List RecordingData) (are : AreRecordings a recordings) (was : IsTableFor a request (Ok t))
    (r : ℕ) (recorded : RecordingData) (at : slice_get recordings r ≡ Some recorded) where
  -- the bytes that a path counts ahead are the same in both states
  ahead_same : bytes_ahead b r t ≡ bytes_ahead a r t
  ahead_same =
      let first : ℕ = first_fragment t r in
      let before = before_same a b ab request t recordings are was r recorded at in
      let units : bytes_before_unit (recording_of b r) first ≡ bytes_before_unit (recording_of a r) first =
      ap (λ (x : Option RecordingData). bytes_before_unit x first) before.1 ∙ before.2 ∙ sym (ap (λ (x : Option RecordingData). bytes_before_unit x first) (are.each r recorded at)) in
      ap (λ (n : ℕ). bytes_before_base b.config.base r + n) units
      ∙ ap (λ (c : ConfigData). bytes_before_base c.base r + bytes_before_unit (recording_of a r) first) ab.continues.config

  -- a job's playlist has the same paths in both states
  list_same : (list : Playlist) → programme_list b r t list ≡ programme_list a r t list
  list_same list =
      ap (λ (n : ℕ). list_above (folder_above b.config.base r) n list) ahead_same
      ∙ ap (λ (c : ConfigData). list_above (folder_above c.base r) (bytes_ahead a r t) list) ab.continues.config

-- an answer with a plan has a playlist for each rendition
lists_count : (epoch : Option ℤ) (recordings : List RecordingData) (t : Table) (lists : List Playlist) (shown : ClaimData) → ShowsCut epoch recordings t lists shown → length lists ≡ t.renditions
lists_count epoch recordings t lists (CutClaim total plan prices) shows = shows.1.count
lists_count epoch recordings t lists (NoneClaim closed) shows = absurd shows

-- the texts of a right answer's playlists are the same in a later state of the same channel
texts_stay : (a b : State) → FollowsAsState a b → (request : Request) (cut_result : CutResult) → IsRightAnswer a request cut_result → (r : ℕ) → programme_list_in b cut_result r ≡ programme_list_in a cut_result r
texts_stay a b ab request (NoCut certificate) x r = refl
texts_stay a b ab request (Cut lists certificate) x r =
    let cut : certificate.table ≡ x.table = x.right.0.0 in
    let counted = lists_count a.config.epoch x.recordings x.table (map playlist_of lists.items) certificate.shown x.right.1 in
    let count : length x.recordings ≡ length lists.items = x.covered.renditions ∙ sym counted ∙ length-map lists.items playlist_of in
    let text : State → MediaPlaylist → List ℕ = λ s list. media_text (programme_list s r certificate.table (playlist_of list)) in
    option_same (text b) (text a) (slice_get lists.items r)
    (λ list at.
    let beside = at_beside lists.items x.recordings r list count at in
    let same = list_same a b ab request x.table x.recordings x.are x.defined r beside.0 beside.1 (playlist_of list) in
    ap media_text (subst (λ (t : Table). programme_list b r t (playlist_of list) ≡ programme_list a r t (playlist_of list)) (sym cut) same))

-- the texts of a right answer's playlists are the same in every state that follows
pub lists_stay : (a b : State) → Follows a b → (request : Request) (cut_result : CutResult) → IsRightAnswer a request cut_result → (r : ℕ) → programme_list_in b cut_result r ≡ programme_list_in a cut_result r
lists_stay a b (inl equal) request cut_result x r = sym (ap (λ (s : State). programme_list_in s cut_result r) equal)
lists_stay a b (inr ab) request cut_result x r = texts_stay a b ab request cut_result x r
