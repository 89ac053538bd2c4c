-- If the text begins with a place line, its place is read and less text remains; otherwise the next line is wrong.
use Rattle.std.proofs.Common.{◌≡◌, ◌++◌, ◌∷◌}
use Rattle.hls_check_tables.specs.Tables.{IsPlaceOf}
use Rattle.hls_check.specs.Text.{place_line}
use Rattle.hls_check.proofs.PlaceTexts.{place_first, place_shorter, place_refused}
use Rattle.hls_check.proofs.next_line.next_place.Goals as goal

pub returns-in-Some-clause-line : goal.returns-in-Some-clause-line
returns-in-Some-clause-line c =
    let taken : IsPlaceOf c.args.renditions c.in-Some.found.0 × (c.args.rest.now ≡ place_line c.in-Some.found.0 ++ (10 ∷ c.in-Some.found.1.now)) =
    rw c.in-Some.is at c.in_ok-found.ensures in
    (taken.0, place_first c.args.renditions c.args.rest.now c.in-Some.found.0 c.in-Some.found.1.now taken.0 taken.1)

pub returns-in-Some-clause-shorter : goal.returns-in-Some-clause-shorter
returns-in-Some-clause-shorter c =
    let taken : IsPlaceOf c.args.renditions c.in-Some.found.0 × (c.args.rest.now ≡ place_line c.in-Some.found.0 ++ (10 ∷ c.in-Some.found.1.now)) =
    rw c.in-Some.is at c.in_ok-found.ensures in
    place_shorter c.args.rest.now c.in-Some.found.0 c.in-Some.found.1.now taken.1

pub returns-in-None-clause-line : goal.returns-in-None-clause-line
returns-in-None-clause-line c =
    place_refused c.args.renditions c.args.lines_read c.args.rest.now (rw c.in-None.is at c.in_ok-found.ensures)
