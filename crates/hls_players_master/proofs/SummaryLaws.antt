-- Renditions that are summarized one by one.
use Rattle.std.proofs.Common.{◌≡◌, ℕ, suc, ◌+◌, ◌<◌, ◌≤◌, List, [], ◌∷◌, ◌++◌, length, drop, get_or, Option, Some, None, option_map, append-nil, refl, ap, sym, ◌∙◌, arith}
use Rattle.std.proofs.lemmas.List.{append_assoc, drop_more, drop_all, length-drop}
use Rattle.hls_record.specs.RecordingData.{RecordingData}
use Rattle.hls_core_laws.specs.declared.rendition.Rendition.{Rendition}
use Rattle.hls_core_laws.specs.State.{State}
use Rattle.hls_core.specs.Getters.{recording_of}
use Rattle.hls_players_master.specs.declared.summary.RenditionSummary.{RenditionSummary}
use Rattle.hls_players_master.specs.Summaries.{summary_of, summaries_from}

-- the summaries so far, with those of the remaining renditions
abbrev pub with_others : List RenditionSummary → Option (List RenditionSummary) → Option (List RenditionSummary)
with_others done others = option_map (λ (more : List RenditionSummary). done ++ more) others

-- adding a summary to those done is adding it to the front of those of the remaining renditions
one-added : (done : List RenditionSummary) (x : RenditionSummary) (others : Option (List RenditionSummary))
    → with_others (done ++ x ∷ []) others ≡ with_others done (option_map (λ (more : List RenditionSummary). x ∷ more) others)
one-added done x None = refl
one-added done x (Some more) = ap (λ (xs : List RenditionSummary). Some xs) (append_assoc done (x ∷ []) more)

-- the renditions from number n on are rendition n and those after it
from-step : (s : State) (n : ℕ) (rs : List Rendition) (r : Rendition) → n < length rs → r ≡ get_or rs n r → drop n rs ≡ r ∷ drop (n + 1) rs
from-step s n rs r small is = drop_more rs n r small ∙ ap (λ (x : Rendition). x ∷ drop (n + 1) rs) (sym is)

-- if the first of the remaining renditions has no recording, there are no summaries
none-from : (s : State) (n : ℕ) (rs : List Rendition) (done : List RenditionSummary) → 0 < length rs → None ≡ recording_of s n → None ≡ with_others done (summaries_from s n rs)
unfolding summaries_from
none-from s n [] done some missing = absurd (omega arith)
none-from s n (r ∷ rs) done some missing = rw (sym missing) refl

-- if rendition n has no recording, there are no summaries of the state
pub summaries-missing : (s : State) (n : ℕ) (rs : List Rendition) (done : List RenditionSummary) (all : Option (List RenditionSummary)) → n < length rs → None ≡ recording_of s n
    → with_others done (summaries_from s n (drop n rs)) ≡ all → None ≡ all
summaries-missing s n rs done all small missing before = none-from s n (drop n rs) done (omega (arith, length-drop n rs)) missing ∙ before

-- with the summary of rendition n added to those done, the remaining ones are those from rendition n + 1 on
pub summaries-next : (s : State) (n : ℕ) (rs : List Rendition) (r : Rendition) (recorded : RecordingData) (done new : List RenditionSummary) (x : RenditionSummary) (all : Option (List RenditionSummary))
    → n < length rs → r ≡ get_or rs n r → Some recorded ≡ recording_of s n → x ≡ summary_of s n r recorded → new ≡ done ++ x ∷ []
    → with_others done (summaries_from s n (drop n rs)) ≡ all → with_others new (summaries_from s (n + 1) (drop (n + 1) rs)) ≡ all
unfolding summaries_from
summaries-next s n rs r recorded done new x all small is there is_x is_new before =
    let next : n + 1 ≡ suc n = omega arith in
    let now : summaries_from s n (r ∷ drop (n + 1) rs) ≡ option_map (λ (more : List RenditionSummary). x ∷ more) (summaries_from s (n + 1) (drop (n + 1) rs)) = rw (sym there, is_x, next) refl in
    rw is_new (one-added done x (summaries_from s (n + 1) (drop (n + 1) rs)))
    ∙ ap (with_others done) (sym (ap (summaries_from s n) (from-step s n rs r small is) ∙ now)) ∙ before

-- after the last rendition, the summaries done are all
pub summaries-end : (s : State) (n : ℕ) (rs : List Rendition) (done : List RenditionSummary) (all : Option (List RenditionSummary)) → length rs ≤ n
    → with_others done (summaries_from s n (drop n rs)) ≡ all → Some done ≡ all
unfolding summaries_from
summaries-end s n rs done all finished before =
    ap (λ (xs : List RenditionSummary). Some xs) (sym (append-nil done)) ∙ sym (ap (λ (xs : List Rendition). with_others done (summaries_from s n xs)) (drop_all n rs finished)) ∙ before
