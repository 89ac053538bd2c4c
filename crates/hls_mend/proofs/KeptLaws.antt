-- A unit that starts at the end of its rendition is recorded as it was sent.
use Rattle.std.proofs.Common.{◌≡◌, ◌∙◌, ℕ, ◌==◌, Option, Some, None, length, refl, ap, inl, inr}
use Rattle.std.proofs.lemmas.Bool.{cases_Bool, eq-eqb}
use Rattle.hls_media_laws.specs.FactLists.{last_end}
use Rattle.hls_media_laws.specs.InitData.{InitData}
use Rattle.hls_media_laws.specs.declared.facts.Facts.{Facts}
use Rattle.hls_record.specs.RecordingData.{RecordingData}
use Rattle.hls_mend_laws.specs.declared.limits.MendLimits.{MendLimits}
use Rattle.hls_mend_laws.specs.declared.treatment.Treatment.{Treatment}
use Rattle.hls_mend_laws.specs.declared.treatment.Treatment.TheVariants as treatments
use Rattle.hls_mend_laws.specs.Treatments.{treatment_of}
use Rattle.hls_mend.specs.declared.mended.ReadUnit.{ReadUnit}
use Rattle.hls_mend.specs.Spans.{first_duration}
use Rattle.hls_mend.specs.MendedUnits.{as_sent, end_of, treatment_by, unit_treatment, mended_as, mended_by, mended_unit, limits_of}
use Rattle.hls_mend.specs.Contiguous.{ContiguousIsKept}

-- a unit that starts at the end of its rendition is kept, whatever its first sample is
kept-by : (init : InitData) (rec : RecordingData) (limits : MendLimits) (f : Facts) (o : Option ℕ) → f.start ≡ last_end rec.facts → treatment_by init rec limits f o ≡ treatments.Keep
unfolding treatment_of
kept-by init rec limits f None at = refl
kept-by init rec limits f (Some first) at = elim (cases_Bool (length rec.facts == 0)) [
  | inl e ↦ rw e refl
  | inr e ↦ rw (e, at) (rw (eq-eqb (last_end rec.facts) (last_end rec.facts) refl) refl)
]

-- a unit that starts at the end of its rendition is kept
kept-unit : (init : InitData) (rec : RecordingData) (limits : MendLimits) (u : ReadUnit) → u.facts.start ≡ last_end rec.facts → unit_treatment init rec limits u ≡ treatments.Keep
unfolding unit_treatment
kept-unit init rec limits u at = kept-by init rec limits u.facts (first_duration init u.bytes) at

-- the same, if the rendition is known to have a unit
kept-at : (init : InitData) (rec : RecordingData) (limits : MendLimits) (f : Facts) (o : Option ℕ) → end_of rec ≡ Some f.start → treatment_by init rec limits f o ≡ treatments.Keep
unfolding treatment_of
kept-at init rec limits f None at = refl
kept-at init rec limits f (Some first) at = rw at (rw (eq-eqb f.start f.start refl) refl)

-- a unit that starts where its rendition ends is kept
pub kept_at_end : (init : InitData) (rec : RecordingData) (limits : MendLimits) (u : ReadUnit) → end_of rec ≡ Some u.facts.start → unit_treatment init rec limits u ≡ treatments.Keep
unfolding unit_treatment
kept_at_end init rec limits u at = kept-at init rec limits u.facts (first_duration init u.bytes) at

-- a unit that is kept is recorded as it was sent
kept-as : (bandwidth : ℕ) (init : InitData) (rec : RecordingData) (limits : MendLimits) (u : ReadUnit) → mended_as bandwidth treatments.Keep init rec limits u ≡ as_sent u
unfolding mended_by
kept-as bandwidth init rec limits u = refl

-- a unit that starts at the end of its rendition is recorded as it was sent, and nothing else is
pub contiguous-is-kept : ContiguousIsKept
unfolding mended_unit
contiguous-is-kept settings bandwidth init rec u at =
    ap (λ (t : Treatment). mended_as bandwidth t init rec (limits_of settings init) u) (kept-unit init rec (limits_of settings init) u at) ∙ kept-as bandwidth init rec (limits_of settings init) u
