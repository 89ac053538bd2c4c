-- The listing by a least plan of all places.
use Rattle.std.specs.Prelude.{◌≡◌, ℕ, ◌<◌, ◌≤◌, ℤ, Bool, true, false, List, [], length, Option, Result, Ok, Err}
use Rattle.hls_record.specs.RecordingData.{RecordingData}
use Rattle.hls_check_tables.specs.Tables.{Table, place_limit}
use Rattle.hls_check_tables.specs.Plans.{IsLeast, HasNoPlan}
use Rattle.hls_check_tables.specs.Certificates.{ClaimData, CutClaim, NoneClaim, IsCertificate, IsGood}
use Rattle.hls_check.specs.Text.{text}
use Rattle.hls_commands.specs.declared.listing_mode.ListingOutput.{ListingOutput}
use Rattle.hls_commands.specs.declared.listing_mode.ListingOutput.TheVariants.{Text, NoCut}
use Rattle.hls_commands.specs.declared.listing_fault.ListingFault.{ListingFault}
use Rattle.hls_commands.specs.declared.listing_fault.ListingFault.TheVariants.{NoPlace, ProgrammeTooLong, NotAllowed, Memory}
use Rattle.hls_m3u8.specs.Written.{IsWritten}
use Rattle.hls_commands.specs.Each.{plan_list}

-- the text of a valid certificate over this very table that shows this claim
pub record IsGoodText (t : Table) (shown : ClaimData) (bytes : List ℕ) : Type 0 where
  pub form : IsCertificate (record { table = t; shown = shown })
  pub good : IsGood (record { table = t; shown = shown })
  pub is : bytes ≡ text (record { table = t; shown = shown })

-- the text of the playlist by a least plan
pub record IsLeastPlaylist (t : Table) (epoch : Option ℤ) (recorded : RecordingData) (uri : List ℕ) (bytes : List ℕ) : Type 0 where
  pub plan : List ℕ
  pub least : IsLeast t plan
  pub written : IsWritten (plan_list t.goal.target epoch recorded uri t.places plan) bytes

-- the text of the certificate of a least plan, with its cost and prices
pub record IsLeastCertificate (t : Table) (bytes : List ℕ) : Type 0 where
  pub plan : List ℕ
  pub cost : ℕ
  pub prices : List (Option ℕ)
  pub least : IsLeast t plan
  pub text : IsGoodText t (CutClaim cost plan prices) bytes

-- the text of the certificate that the table has no plan
pub record IsNoPlanCertificate (t : Table) (bytes : List ℕ) : Type 0 where
  pub closed : List Bool
  pub text : IsGoodText t (NoneClaim closed) bytes

-- the listing by a least plan: its certificate if requested, else its playlist
abbrev pub IsLeastText : Bool → Table → Option ℤ → RecordingData → List ℕ → List ℕ → Type 0
IsLeastText true t epoch recorded uri bytes = IsLeastCertificate t bytes
IsLeastText false t epoch recorded uri bytes = IsLeastPlaylist t epoch recorded uri bytes

-- the listing if there is no plan: the certificate of that if requested, else empty
abbrev pub IsNoPlanText : Bool → Table → List ℕ → Type 0
IsNoPlanText true t bytes = IsNoPlanCertificate t bytes
IsNoPlanText false t bytes = bytes ≡ []

-- the listing is the playlist by a least plan, or empty if there is no plan
abbrev pub IsPlanPlaylist : Table → Option ℤ → RecordingData → List ℕ → ListingOutput → Type 0
IsPlanPlaylist t epoch recorded uri (Text bytes) = IsLeastPlaylist t epoch recorded uri bytes.items
IsPlanPlaylist t epoch recorded uri (NoCut bytes) = HasNoPlan t × (bytes.items ≡ [])

-- the listing is the certificate of a least plan, or that there is none
abbrev pub IsPlanCertificate : Table → ListingOutput → Type 0
IsPlanCertificate t (Text bytes) = IsLeastCertificate t bytes.items
IsPlanCertificate t (NoCut bytes) = HasNoPlan t × IsNoPlanCertificate t bytes.items

-- the number of places is allowed in a table
abbrev pub HasTable : Table → Type 0
HasTable t = (2 ≤ length t.places) × (length t.places ≤ place_limit)

-- the listing of a table of all places; memory may only run out in place of a text
abbrev pub ListsLeastPlan : Bool → Table → Option ℤ → RecordingData → List ℕ → Result ListingOutput ListingFault → Type 0
ListsLeastPlan certificate t epoch recorded uri (Ok (Text bytes)) = HasTable t × IsLeastText certificate t epoch recorded uri bytes.items
ListsLeastPlan certificate t epoch recorded uri (Ok (NoCut bytes)) = HasTable t × HasNoPlan t × IsNoPlanText certificate t bytes.items
ListsLeastPlan certificate t epoch recorded uri (Err NoPlace) = length t.places < 2
ListsLeastPlan certificate t epoch recorded uri (Err ProgrammeTooLong) = place_limit < length t.places
ListsLeastPlan certificate t epoch recorded uri (Err (NotAllowed place)) = ⊥
ListsLeastPlan certificate t epoch recorded uri (Err Memory) = HasTable t
