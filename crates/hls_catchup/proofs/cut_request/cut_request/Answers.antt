-- If a request's table could be made, all renditions have recordings, and these have all units in the table; so the programme is cut, and the
-- answer is right. Without recordings there would be no place and no table.
use Rattle.std.proofs.Common.{◌≡◌, Some, List, [], Option, Vec, Global, Bor, map, sym, ap, ◌∙◌, subst}
use Rattle.std.specs.Prelude.{MatchOption}
use Rattle.hls_record.specs.RecordingData.{RecordingData}
use Rattle.hls_core_laws.specs.Config.{ConfigData}
use Rattle.hls_core_laws.specs.State.{State}
use Rattle.hls_core_laws.specs.Places.{places}
use Rattle.hls_catchup.specs.Requests.{AreRecordings}
use Rattle.hls_catchup.proofs.Covered.{table-covered, right_answer}
use Rattle.hls_catchup.proofs.Tables.{placeless}
use Rattle.hls_catchup.proofs.cut_request.cut_request.Goals as goal

-- either there are recordings of all renditions, or one hasn't begun and there is no place
abbrev Found : State → Option (Vec (Bor RecordingData) Global) → Type 0
Found s found = MatchOption found (places s ≡ []) (λ v. AreRecordings s (map (λ r. r.now) v.items))

pub unreachable-requires : goal.unreachable-requires
unreachable-requires c =
    placeless c.args.snapshot.now c.args.request c.in-Ok.table
    (subst (Found c.args.snapshot.now) c.in_default.is c.in_ok-recordings-in-Ok.ensures) c.in-Ok.ensures

-- recordings that were found are those of all renditions, also if they are read as a slice
read : (s : State) (found : Option (Vec (Bor RecordingData) Global)) (v : Vec (Bor RecordingData) Global) (items : List (Bor RecordingData)) →
    found ≡ Some v → items ≡ v.items → Found s found → AreRecordings s (map (λ r. r.now) items)
read s found v items is items_are there =
    subst (λ (rs : List (Bor RecordingData)). AreRecordings s (map (λ r. r.now) rs)) (sym items_are) (subst (Found s) is there)

pub cut_programme-requires-clause-covered : goal.cut_programme-requires-clause-covered
cut_programme-requires-clause-covered c =
    let are = read c.args.snapshot.now c.in_ok-recordings-in-Ok.field-0 c.in-Some.recordings c.as_slice.result.now
    c.in-Some.is c.as_slice.ensures.value c.in_ok-recordings-in-Ok.ensures in
    table-covered c.args.snapshot.now c.args.request c.in-Ok.table (map (λ (r : Bor RecordingData). r.now) c.as_slice.result.now) are c.len.ensures.valid c.in-Ok.ensures

pub returns-in_ok-cut_programme-in-Ok : goal.returns-in_ok-cut_programme-in-Ok
returns-in_ok-cut_programme-in-Ok c =
    let are = read c.args.snapshot.now c.in_ok-recordings-in-Ok.field-0 c.in-Some.recordings c.as_slice.result.now
    c.in-Some.is c.as_slice.ensures.value c.in_ok-recordings-in-Ok.ensures in
    let known = c.epoch-epoch.ensures.value ∙ ap (λ (x : ConfigData). x.epoch) c.config.ensures.value in
    right_answer c.args.snapshot.now c.epoch-epoch.result c.args.request c.in-Ok.table (map (λ (r : Bor RecordingData). r.now) c.as_slice.result.now)
    c.in_ok-cut_programme-in-Ok.field-0 known c.in-Ok.ensures are c.len.ensures.valid c.in_ok-cut_programme-in-Ok.ensures
