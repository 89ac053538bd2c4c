-- The texts of a reply's playlists.
use Rattle.std.proofs.Common.{◌≡◌, ◌∙◌, ◌⊎◌, ◌<◌, ◌≤◌, ℕ, zero, suc, get_or, ⊎_elim, List, [], ◌∷◌, ◌++◌, length, map, Option, Some, None, arith, inl, inr, refl, sym, ap, subst, Vec, Global}
use Rattle.std.specs.Prelude.{option_map, slice_get}
use Rattle.std.proofs.lemmas.Option.{slice_get_cases, slice_get_past}
use Rattle.hls_m3u8.specs.declared.playlist.MediaPlaylist.{MediaPlaylist}
use Rattle.hls_m3u8.specs.Playlist.{playlist_of}
use Rattle.hls_m3u8.specs.Lines.{media_text}
use Rattle.hls_catchup.specs.Replies.{ReplyData}
use Rattle.hls_catchup.specs.declared.cut_result.CutResult.{CutResult}
use Rattle.hls_catchup.specs.declared.cut_result.CutResult.TheVariants.{Cut, NoCut}
use Rattle.hls_core_laws.specs.State.{State}
use Rattle.hls_jobs.specs.Programmes.{list_count, list_count_in, programme_list, programme_list_file, programme_list_in}
use Rattle.hls_jobs.specs.ProgrammeTexts.{AreLists}

-- the bytes of a text
abbrev pub items_of : Vec ℕ Global → List ℕ
items_of text = text.items

-- each of these texts is that of the playlist of its number
abbrev pub AreListsSoFar : ReplyData → List (List ℕ) → Type 0
AreListsSoFar reply texts = (r : ℕ) (text : List ℕ) → slice_get texts r ≡ Some text → programme_list_file reply r ≡ Some text

-- an item of a list with one more is an item of the list, or the last one
last-at : {A : Type 0} (xs : List A) (y : A) (k : ℕ) (x : A) → slice_get (xs ++ y ∷ []) k ≡ Some x → (slice_get xs k ≡ Some x) ⊎ ((k ≡ length xs) × (y ≡ x))
last-at [] y zero x at = inr (refl, cc)
last-at [] y (suc k) x at = cc
last-at (z ∷ xs) y zero x at = inl at
last-at (z ∷ xs) y (suc k) x at = elim (last-at xs y k x at) [ inl h ↦ inl h | inr h ↦ inr (ap suc h.0, h.1) ]

-- with the text of the next playlist added, each text is still that of the playlist of its number
pub one_more : (reply : ReplyData) (texts : List (List ℕ)) (text : List ℕ) → AreListsSoFar reply texts → programme_list_file reply (length texts) ≡ Some text
    → AreListsSoFar reply (texts ++ text ∷ [])
one_more reply texts text before is r found at =
    elim (last-at texts text r found at) [
      | inl old ↦ before r found old
      | inr new ↦ ap (programme_list_file reply) new.0 ∙ is ∙ ap (λ (x : List ℕ). Some x) new.1
    ]

-- from an answer's number of playlists on, no number has a playlist
none_in : (s : State) (cut : CutResult) (r : ℕ) → list_count_in cut ≤ r → programme_list_in s cut r ≡ None
none_in s (Cut lists certificate) r past = ap (option_map (λ (l : MediaPlaylist). media_text (programme_list s r certificate.table (playlist_of l)))) (slice_get_past lists.items r past)
none_in s (NoCut certificate) r past = refl

-- each number below an answer's number of playlists has a playlist
some_in : (s : State) (cut : CutResult) (r : ℕ) → r < list_count_in cut → programme_list_in s cut r ≡ None → ⊥
some_in s (Cut lists certificate) r small none =
    ⊎_elim
    (λ (found : (x : MediaPlaylist) × (r < length lists.items) × (slice_get lists.items r ≡ Some x) × (get_or lists.items r x ≡ x)). cc (none, ap (option_map (λ (l : MediaPlaylist). media_text (programme_list s r certificate.table (playlist_of l)))) found.2))
    (λ (past : (length lists.items ≤ r) × (slice_get lists.items r ≡ None)). let long = past.0 in absurd (omega (arith, small, long)))
    (slice_get_cases lists.items r).1
some_in s (NoCut certificate) r small none = absurd (omega (arith, small))

-- each number below a reply's number of playlists has a text
pub some_below : (reply : ReplyData) (r : ℕ) → r < list_count reply → programme_list_file reply r ≡ None → ⊥
some_below reply r small none = some_in reply.state reply.cut_result r small none

-- from a reply's number of playlists on, no number has a text
pub none_past : (reply : ReplyData) (r : ℕ) → list_count reply ≤ r → programme_list_file reply r ≡ None
none_past reply r past = none_in reply.state reply.cut_result r past

-- the text at each number is that of the reply's playlist of this number, if there is one
pub lists_at : (reply : ReplyData) (lists : List (List ℕ)) (r : ℕ) → AreLists reply lists → slice_get lists r ≡ programme_list_file reply r
lists_at reply lists r are =
    ⊎_elim
    (λ (found : (x : List ℕ) × (r < length lists) × (slice_get lists r ≡ Some x) × (get_or lists r x ≡ x)). found.2 ∙ sym (are.each r found.0 found.2))
    (λ (past : (length lists ≤ r) × (slice_get lists r ≡ None)). past.1 ∙ sym (none_past reply r (omega (arith, past.0, are.count))))
    (slice_get_cases lists r).1
