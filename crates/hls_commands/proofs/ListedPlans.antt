-- What a plan yields is the listing of its table.
use Rattle.std.proofs.Common.{◌≡◌, ℕ, ℤ, Bool, true, false, List, Option}
use Rattle.std.specs.Prelude.{Result, Ok, Err, IfOk}
use Rattle.hls_record.specs.RecordingData.{RecordingData}
use Rattle.hls_check_tables.specs.Tables.{Table, IsTable}
use Rattle.hls_commands.specs.declared.listing_mode.ListingOutput.{ListingOutput}
use Rattle.hls_commands.specs.declared.listing_mode.ListingOutput.TheVariants.{Text, NoCut}
use Rattle.hls_commands.specs.Plans.{IsPlanPlaylist, IsPlanCertificate, ListsLeastPlan}

-- if a certificate was requested, the certificate of a table's plan, or that it has none, is the listing
pub certificate_listed : {E : Type 0} (certificate : Bool) (t : Table) (epoch : Option ℤ) (r : RecordingData) (uri : List ℕ) (result : Result ListingOutput E) →
    certificate ≡ true → IsTable t → IfOk result (IsPlanCertificate t) → IfOk result (λ listed. ListsLeastPlan certificate t epoch r uri (Ok listed))
certificate_listed false t epoch r uri result asked table is = absurd (cc)
certificate_listed true t epoch r uri (Err e) asked table is = is
certificate_listed true t epoch r uri (Ok (Text bytes)) asked table is = (table.count, is)
certificate_listed true t epoch r uri (Ok (NoCut bytes)) asked table is = (table.count, is.0, is.1)

-- if no certificate was requested, the playlist of a table's plan, or nothing if it has none, is the listing
pub playlist_listed : {E : Type 0} (certificate : Bool) (t : Table) (epoch : Option ℤ) (r : RecordingData) (uri : List ℕ) (result : Result ListingOutput E) →
    certificate ≡ false → IsTable t → IfOk result (IsPlanPlaylist t epoch r uri) → IfOk result (λ listed. ListsLeastPlan certificate t epoch r uri (Ok listed))
playlist_listed true t epoch r uri result asked table is = absurd (cc)
playlist_listed false t epoch r uri (Err e) asked table is = is
playlist_listed false t epoch r uri (Ok (Text bytes)) asked table is = (table.count, is)
playlist_listed false t epoch r uri (Ok (NoCut bytes)) asked table is = (table.count, is.0, is.1)
