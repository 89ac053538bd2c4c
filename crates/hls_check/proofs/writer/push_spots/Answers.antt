-- The numbers of all spots of a place are appended, separated by spaces. If there is no spot, nothing is appended.
use Rattle.std.proofs.Common.{List, ◌≡◌, ◌<◌, ◌++◌, length, arith, subst}
use Rattle.std.proofs.lemmas.List.{take_rest}
use Rattle.hls_text.specs.Numbers.{spaced_numbers}
use Rattle.hls_check_tables.specs.declared.spot.Spot.{Spot}
use Rattle.hls_check_tables.specs.Tables.{no_spot}
use Rattle.hls_check.specs.Text.{place_numbers}
use Rattle.std.proofs.lemmas.Bool.Decides.{nat_tests}
use Rattle.hls_check.proofs.Written.{spots_written, no_spots}
use Rattle.hls_check.proofs.writer.push_spots.Goals as goal

pub returns-then-is_empty : goal.returns-then-is_empty
returns-then-is_empty c =
    let none : length c.args.spots.now ≡ 0 = grind (arith, nat_tests) in
    no_spots c.args.out.now.items c.args.spots.now none

pub returns : goal.returns
returns c =
    let some : 0 < length c.args.spots.now = grind (arith, nat_tests) in
    spots_written c.args.out.now.items c.args.spots.now no_spot c.push_first_spot.new.out.items c.push_more_spots.new.out.items some
    c.in_ok-push_first_spot.ensures
    (subst (λ (xs : List Spot). c.push_more_spots.new.out.items ≡ c.push_first_spot.new.out.items ++ spaced_numbers (place_numbers xs)) (take_rest c.args.spots.now 1)
    c.in_ok-push_more_spots.ensures)
