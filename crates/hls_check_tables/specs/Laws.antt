-- What a good certificate proves.
use Rattle.std.specs.Prelude.{ℕ, List, Option, Bool}
use Rattle.hls_check_tables.specs.Tables.{Table, IsTable}
use Rattle.hls_check_tables.specs.Plans.{IsLeast, HasNoPlan}
use Rattle.hls_check_tables.specs.Certificates.{IsGoodCut, IsGoodNone}

-- if a certificate of a cut is good, its plan is optimal
abbrev pub GoodCutIsLeast : Type 0
GoodCutIsLeast =
    (t : Table) (total : ℕ) (plan : List ℕ) (prices : List (Option ℕ)) →
    IsTable t → IsGoodCut t total plan prices → IsLeast t plan

-- if a certificate of no cut is good, its table has no plan
abbrev pub GoodNoneHasNoPlan : Type 0
GoodNoneHasNoPlan =
    (t : Table) (closed : List Bool) → IsTable t → IsGoodNone t closed → HasNoPlan t
