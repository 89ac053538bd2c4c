-- Restoring records one by one.
use Rattle.std.proofs.lemmas.List.{take_more}
use Rattle.std.proofs.Common.{◌≡◌, ◌∙◌, ℕ, ◌+◌, ◌<◌, ◌≤◌, List, [], ◌∷◌, ◌++◌, length, take, get_or, refl, sym, ap, subst, inl, inr}
use Rattle.hls_core_laws.specs.declared.event.Event.{Event}
use Rattle.hls_core_laws.specs.declared.event.Event.TheVariants.{Begin, Accept, Finish, Slide, Trim}
use Rattle.hls_core_laws.specs.Channel.{lane}
use Rattle.hls_core_laws.specs.State.{State, channel}
use Rattle.hls_journal_laws.specs.declared.stored_media.StoredMedia.{StoredMedia}
use Rattle.hls_journal_laws.specs.Restored.{IsNextUnit, IsRecordOf, Restores}
use Rattle.hls_journal.specs.Recalling.{RestoresOne}

-- a record that leads from a state to the next restores it alone
last_one : (floors : ℕ → ℕ) (media : List StoredMedia) (s next : State) (body : List ℕ) → RestoresOne floors media s body next → Restores floors media s (body ∷ []) next
last_one floors media s next body (inl aside) = inl (aside.0, aside.1)
last_one floors media s next body (inr recalls) = inr (next, recalls, refl)

-- if records restore a state and one more leads from it to the next, all of them restore the next
pub restores_snoc : (floors : ℕ → ℕ) (media : List StoredMedia) (a s next : State) (bodies : List (List ℕ)) (body : List ℕ) → Restores floors media a bodies s → RestoresOne floors media s body next
    → Restores floors media a (bodies ++ body ∷ []) next
restores_snoc floors media a s next [] body so_far one = last_one floors media a next body (subst (λ (z : State). RestoresOne floors media z body next) so_far one)
restores_snoc floors media a s next (b ∷ bodies) body (inl aside) one = inl (aside.0, restores_snoc floors media a s next bodies body aside.1 one)
restores_snoc floors media a s next (b ∷ bodies) body (inr restores) one = inr (restores.0, restores.1, restores_snoc floors media restores.0 s next bodies body restores.2 one)

-- if the floors agree, so do the bytes of the next unit
next_alike : (f g : ℕ → ℕ) → ((r : ℕ) → f r ≡ g r) → (media : List StoredMedia) (s : State) (r : ℕ) (body bytes : List ℕ) → IsNextUnit f media s r body bytes → IsNextUnit g media s r body bytes
next_alike f g same media s r body bytes (inl below) = inl (subst (λ (n : ℕ). length (lane (channel s) r).facts < n) (same r) below.0, below.1)
next_alike f g same media s r body bytes (inr stored) = inr (subst (λ (n : ℕ). n ≤ length (lane (channel s) r).facts) (same r) stored.0, stored.1)

-- if the floors agree, a record is of the same event
record_alike : (f g : ℕ → ℕ) → ((r : ℕ) → f r ≡ g r) → (media : List StoredMedia) (s : State) (body : List ℕ) (event : Event) → IsRecordOf f media s body event → IsRecordOf g media s body event
record_alike f g same media s body (Begin r init bytes) of = of
record_alike f g same media s body (Accept r facts bytes) of = (of.0, of.1, next_alike f g same media s r body bytes of.2, of.3)
record_alike f g same media s body (Finish r) of = of
record_alike f g same media s body (Slide count) of = of
record_alike f g same media s body (Trim r floor) of = of

-- if the floors agree, the records restore the same states
pub restores_alike : (f g : ℕ → ℕ) → ((r : ℕ) → f r ≡ g r) → (media : List StoredMedia) (a : State) (bodies : List (List ℕ)) (b : State) → Restores f media a bodies b → Restores g media a bodies b
restores_alike f g same media a [] b is = is
restores_alike f g same media a (body ∷ bodies) b (inl aside) = inl (aside.0, restores_alike f g same media a bodies b aside.1)
restores_alike f g same media a (body ∷ bodies) b (inr one) =
    inr (
      one.0,
      record { event = one.1.event; of = record_alike f g same media a body one.1.event one.1.of; fits = one.1.fits; new = one.1.new; is = one.1.is },
      restores_alike f g same media one.0 bodies b one.2,
    )

-- if the first records restore a state and the next one leads from it to another, one record more restores that one
pub restores_more : (floors : ℕ → ℕ) (media : List StoredMedia) (a s next : State) (bodies : List (List ℕ)) (index : ℕ) (body : List ℕ) → index < length bodies → body ≡ get_or bodies index body
    → Restores floors media a (take index bodies) s → RestoresOne floors media s body next → Restores floors media a (take (index + 1) bodies) next
restores_more floors media a s next bodies index body within at so_far one =
    subst (λ (bs : List (List ℕ)). Restores floors media a bs next) (ap (λ b. take index bodies ++ b ∷ []) at ∙ sym (take_more bodies index body within))
    (restores_snoc floors media a s next (take index bodies) body so_far one)
