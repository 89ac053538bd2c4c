-- The places of a table.
use Rattle.std.proofs.Common.{◌≡◌, ℕ, ◌^◌, ◌<◌, [], length}
use Rattle.std.proofs.lemmas.List.Elements.{All-get_or}
use Rattle.hls_check_tables.specs.Tables.{Table, IsTable, IsPlaceOf, spot_in, place_at}
use Rattle.hls_playlists_laws.proofs.Callers as dates

-- each place of a table has a spot for each rendition
pub place_long : (t : Table) (p : ℕ) → IsTable t → p < length t.places → length (place_at t.places p) ≡ t.renditions
place_long t p valid within = (All-get_or (IsPlaceOf t.renditions) t.places p [] within valid.places).count

-- each place of a table starts before 2^53 microseconds in each rendition
pub start_small : (t : Table) (p r : ℕ) → IsTable t → (spot_in (place_at t.places p) r).start < 2 ^ 53
start_small t p r valid = dates.start_small t p r valid
