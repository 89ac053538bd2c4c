-- The events of a renewal, one by one.
use Rattle.std.proofs.Common.{◌≡◌, ◌∙◌, ℕ, zero, suc, ◌+◌, ◌-◌, ◌<◌, ◌≤◌, Option, Some, None, List, [], ◌∷◌, ◌++◌, length, drop, get_or, refl, sym, ap, inl, inr, arith, append_assoc, append-nil}
use Rattle.std.specs.Prelude.{◌⊎◌, slice_get}
use Rattle.std.proofs.lemmas.List.{drop_all, drop_more}
use Rattle.hls_media_laws.specs.declared.facts.Facts.{Facts}
use Rattle.hls_record.specs.RecordingData.{RecordingData, unit_at}
use Rattle.hls_core_laws.specs.declared.event.Event.{Event}
use Rattle.hls_core_laws.specs.declared.event.Event.TheVariants.{Accept}
use Rattle.hls_core_laws.specs.State.{State}
use Rattle.hls_core.specs.Getters.{recording_of, finished_at}
use Rattle.hls_check_tables.specs.declared.spot.Spot.{Spot}
use Rattle.hls_renewal.specs.Renewals.{with_unit, units_from, media_from, end_of, rendition_from, renditions_from}

-- if unit n is kept, its event is the first of those of the units from n on
one_unit : (r : ℕ) (rec : RecordingData) (n left : ℕ) (f : Facts) (unit : List ℕ) → left ≡ suc (left - 1) → slice_get rec.facts n ≡ Some f → unit_at rec n ≡ Some unit
    → units_from r rec n left ≡ (0, Accept r f unit) ∷ units_from r rec (n + 1) (left - 1)
one_unit r rec n left f unit some at kept =
    let next : suc n ≡ n + 1 = omega arith in
    ap (λ k. units_from r rec n k) some
    ∙ ap (λ o. with_unit r o (unit_at rec n) (units_from r rec (suc n) (left - 1))) at
    ∙ ap (λ o. with_unit r (Some f) o (units_from r rec (suc n) (left - 1))) kept
    ∙ ap (λ k. (0, Accept r f unit) ∷ units_from r rec k (left - 1)) next

-- if a unit's facts or bytes are missing, it makes no event, and neither do the units after it
no_more_facts : (r : ℕ) (facts : Option Facts) (unit : Option (List ℕ)) (more : List (ℕ × Event)) → (facts ≡ None) ⊎ (unit ≡ None) → with_unit r facts unit more ≡ []
no_more_facts r None unit more missing = refl
no_more_facts r (Some f) None more missing = refl
no_more_facts r (Some f) (Some unit) more (inl none) = absurd (cc)
no_more_facts r (Some f) (Some unit) more (inr none) = absurd (cc)

-- if unit n is missing, there are no events from it on
none_again : (r : ℕ) (rec : RecordingData) (n left : ℕ) → (slice_get rec.facts n ≡ None) ⊎ (unit_at rec n ≡ None) → units_from r rec n left ≡ []
none_again r rec n zero missing = refl
none_again r rec n (suc left) missing = no_more_facts r (slice_get rec.facts n) (unit_at rec n) (units_from r rec (suc n) left) missing

-- after the event of unit n is pushed, the pushed events and those of the units from n + 1 on are still all events
pub unit_pushed : (r : ℕ) (rec : RecordingData) (n : ℕ) (f : Facts) (unit : List ℕ) (all before after : List (ℕ × Event)) → n < length rec.facts
    → slice_get rec.facts n ≡ Some f → unit_at rec n ≡ Some unit → after ≡ before ++ (0, Accept r f unit) ∷ []
    → before ++ units_from r rec n (length rec.facts - n) ≡ all → after ++ units_from r rec (n + 1) (length rec.facts - (n + 1)) ≡ all
unit_pushed r rec n f unit all before after within at kept pushed so_far =
    let left : length rec.facts - n ≡ suc (length rec.facts - n - 1) = omega (arith, within) in
    let less : length rec.facts - (n + 1) ≡ length rec.facts - n - 1 = omega (arith, within) in
    ap (λ xs. xs ++ units_from r rec (n + 1) (length rec.facts - (n + 1))) pushed
    ∙ append_assoc before ((0, Accept r f unit) ∷ []) (units_from r rec (n + 1) (length rec.facts - (n + 1)))
    ∙ ap (λ k. before ++ (0, Accept r f unit) ∷ units_from r rec (n + 1) k) less
    ∙ ap (λ xs. before ++ xs) (sym (one_unit r rec n (length rec.facts - n) f unit left at kept))
    ∙ so_far

-- if no unit is left, all events are pushed
pub no_unit_left : (r : ℕ) (rec : RecordingData) (n : ℕ) (all before : List (ℕ × Event)) → length rec.facts ≤ n → before ++ units_from r rec n (length rec.facts - n) ≡ all → before ≡ all
no_unit_left r rec n all before past so_far =
    let none : length rec.facts - n ≡ 0 = omega (arith, past) in
    sym (append-nil before) ∙ ap (λ k. before ++ units_from r rec n k) (sym none) ∙ so_far

-- if unit n is missing, all events are pushed
pub unit_missing : (r : ℕ) (rec : RecordingData) (n left : ℕ) (all before : List (ℕ × Event)) → (slice_get rec.facts n ≡ None) ⊎ (unit_at rec n ≡ None)
    → before ++ units_from r rec n left ≡ all → before ≡ all
unit_missing r rec n left all before missing so_far = sym (append-nil before) ∙ ap (λ xs. before ++ xs) (sym (none_again r rec n left missing)) ∙ so_far

-- the events of the renditions from number r on are those of rendition r and those of the later ones
pub one_rendition : (s : State) (r : ℕ) (spot : Spot) (spots : List Spot) → renditions_from s r (spot ∷ spots) ≡ rendition_from s r spot.fragment ++ renditions_from s (suc r) spots
one_rendition s r spot spots = refl

-- after the events of rendition r are pushed, the pushed events and those of the later renditions are still all events
pub rendition_pushed : (s : State) (spots : List Spot) (r : ℕ) (spot : Spot) (all before media after : List (ℕ × Event)) → r < length spots → spot ≡ get_or spots r spot
    → media ≡ before ++ media_from r (recording_of s r) spot.fragment → after ≡ media ++ end_of r (finished_at s r)
    → before ++ renditions_from s r (drop r spots) ≡ all → after ++ renditions_from s (r + 1) (drop (r + 1) spots) ≡ all
rendition_pushed s spots r spot all before media after within at media_is after_is so_far =
    let next : suc r ≡ r + 1 = omega arith in
    let first : drop r spots ≡ spot ∷ drop (r + 1) spots = drop_more spots r spot within ∙ ap (λ x. x ∷ drop (r + 1) spots) (sym at) in
    let mine = media_from r (recording_of s r) spot.fragment in
    let end = end_of r (finished_at s r) in
    let rest = renditions_from s (r + 1) (drop (r + 1) spots) in
    let split : renditions_from s r (drop r spots) ≡ mine ++ end ++ rest =
    ap (λ xs. renditions_from s r xs) first ∙ ap (λ k. mine ++ end ++ renditions_from s k (drop (r + 1) spots)) next in
    ap (λ xs. xs ++ rest) (after_is ∙ ap (λ xs. xs ++ end) media_is)
    ∙ ap (λ xs. xs ++ rest) (append_assoc before mine end)
    ∙ append_assoc before (mine ++ end) rest
    ∙ ap (λ xs. before ++ xs) (sym split)
    ∙ so_far

-- after the last rendition, the pushed events are all events
pub no_rendition_left : (s : State) (spots : List Spot) (r : ℕ) (all before : List (ℕ × Event)) → length spots ≤ r → before ++ renditions_from s r (drop r spots) ≡ all → before ≡ all
no_rendition_left s spots r all before past so_far =
    let none : drop r spots ≡ [] = drop_all r spots past in
    sym (append-nil before) ∙ ap (λ xs. before ++ renditions_from s r xs) (sym none) ∙ so_far
