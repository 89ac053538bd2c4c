-- Why a journal restores no channel.
use Rattle.std.proofs.Common.{◌≡◌, ◌∙◌, ℕ, Some, None, List, [], ◌∷◌, drop, refl, ap, inl, inr}
use Rattle.std.specs.Prelude.{Result, Ok, Err, IfErr, slice_get}
use Rattle.hls_core_laws.specs.Config.{ConfigData}
use Rattle.hls_core_laws.specs.Runs.{first_state}
use Rattle.hls_core.specs.Bases.{config_after}
use Rattle.hls_journal_laws.specs.declared.stored_media.StoredMedia.{StoredMedia}
use Rattle.hls_journal_laws.specs.Floors.{highest_floor}
use Rattle.hls_journal.specs.declared.channel.ChannelHeader.{ChannelHeader}
use Rattle.hls_journal.specs.declared.fault.JournalFault.{JournalFault}
use Rattle.hls_journal.specs.declared.fault.JournalFault.TheVariants.{NoChannel}
use Rattle.hls_journal.specs.Channels.{channel_bytes, IsChannelFault}
use Rattle.hls_journal.specs.Faults.{IsRestoreFault, IsJournalFault}

-- a list that has a body at number 0 is this body and the rest
pub first_body : (bodies : List (List ℕ)) (body : List ℕ) → slice_get bodies 0 ≡ Some body → bodies ≡ body ∷ drop 1 bodies
first_body [] body at = cc
first_body (b ∷ bodies) body at = let same : b ≡ body = cc in ap (λ x. x ∷ bodies) same

-- a list that has no body at number 0 is empty
no_bodies : (bodies : List (List ℕ)) → slice_get bodies 0 ≡ None → bodies ≡ []
no_bodies [] none = refl
no_bodies (b ∷ bodies) none = cc

-- a journal without records has no channel
pub no_records : (config : ConfigData) (media : List StoredMedia) (bodies : List (List ℕ)) → slice_get bodies 0 ≡ None → IsJournalFault config media bodies NoChannel
no_records config media bodies none = inl (no_bodies bodies none, refl)

-- a journal restores no channel if its first record isn't the channel's
pub channel_fails : (config : ConfigData) (media : List StoredMedia) (bodies : List (List ℕ)) (channel : List ℕ) (fault : JournalFault) → slice_get bodies 0 ≡ Some channel → IsChannelFault config channel fault
    → IsJournalFault config media bodies fault
channel_fails config media bodies channel fault at why = inr (inl (record { channel = channel; records = drop 1 bodies; is = first_body bodies channel at; why = why }))

-- a journal restores no channel if its first record is the channel's, but the others fail
pub records_fail : {T : Type 0} → (r : Result T JournalFault) (config : ConfigData) (media : List StoredMedia) (bodies : List (List ℕ)) (channel : List ℕ) (header : ChannelHeader) → slice_get bodies 0 ≡ Some channel
    → channel ≡ channel_bytes config header
    → IfErr r (IsRestoreFault (highest_floor (drop 1 bodies)) media (first_state (config_after config header.base)) (drop 1 bodies)) → IfErr r (IsJournalFault config media bodies)
records_fail (Ok x) config media bodies channel header at is why = tt
records_fail (Err fault) config media bodies channel header at is why =
    inr (inr (record { header = header; records = drop 1 bodies; is = first_body bodies channel at ∙ ap (λ b. b ∷ drop 1 bodies) is; why = why }))
