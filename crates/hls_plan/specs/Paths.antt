-- The places of a table that can be reached, and their costs.

use Rattle.std.specs.Prelude.{◌≡◌, ℕ, ◌<◌, ◌≤◌, List, length, Option, MatchOption, Bool}
use Rattle.std.specs.Bool.{MatchBool}
use Rattle.hls_check_tables.specs.Tables.{Table}
use Rattle.hls_check_tables.specs.Plans.{StepsAreAllowed, last_place, cost_from}
use Rattle.hls_check_tables.specs.Certificates.{price_at, is_closed}

-- a path from the first place of a table to place q, by allowed steps
pub record IsPathTo (t : Table) (q : ℕ) (path : List ℕ) : Type 0 where
  pub ends : last_place 0 path ≡ q
  pub steps_allowed : StepsAreAllowed t 0 path

-- place q can be reached
pub record IsReachable (t : Table) (q : ℕ) : Type 0 where
  pub path : List ℕ
  pub is_path : IsPathTo t q path

-- the least cost of a path to place q
pub record IsLeastCost (t : Table) (q price : ℕ) : Type 0 where
  pub path : List ℕ
  pub is_path : IsPathTo t q path
  pub costs : cost_from t 0 path ≡ price
  pub least : (other : List ℕ) → IsPathTo t q other → price ≤ cost_from t 0 other

-- each place that can be reached has its least cost as price, and no other place has a price
abbrev pub HasLeastPrices : Table → List (Option ℕ) → Type 0
HasLeastPrices t prices =
    (q : ℕ) → q < length t.places → MatchOption (price_at prices q) (¬ IsReachable t q) (IsLeastCost t q)

-- the set consists of the places that can be reached
abbrev pub HasReachable : Table → List Bool → Type 0
HasReachable t closed =
    (q : ℕ) → q < length t.places → MatchBool (is_closed closed q) (IsReachable t q) (¬ IsReachable t q)
