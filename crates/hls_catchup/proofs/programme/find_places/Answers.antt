-- By whether a kept place is by the start, whether one is at or after the stop, and whether the places are within the limit.
use Rattle.hls_catchup.proofs.Walks.{last-is, none-is}
use Rattle.hls_catchup.proofs.Tables.{none_before, past_all, too_long, programme_there}
use Rattle.hls_catchup.proofs.programme.find_places.Goals as goal

pub returns-in_default-count_places : goal.returns-in_default-count_places
returns-in_default-count_places c =
    rw c.find_late_fault.ensures (past_all c.args.snapshot.now c.args.request c.in-Some.from c.new-places.ensures.sources c.requires
    (last-is c.args.snapshot.now c.args.request.start_us c.in-Some.from c.in-Some.ensures) c.in_default-count_places.ensures)

pub returns-then-count-gt-PLACE_LIMIT : goal.returns-then-count-gt-PLACE_LIMIT
returns-then-count-gt-PLACE_LIMIT c =
    too_long c.args.snapshot.now c.args.request c.in-Some.from c.in-Some-count_places.count c.new-places.ensures.sources c.requires
    (record {
      last = last-is c.args.snapshot.now c.args.request.start_us c.in-Some.from c.in-Some.ensures;
      count_is = c.in-Some-count_places.ensures.0;
      there = c.in-Some-count_places.ensures.1;
    })
    c.if-count-gt-PLACE_LIMIT.true

pub returns : goal.returns
returns c =
    programme_there c.args.snapshot.now c.args.request (record { places = c.new-places.result; from = c.in-Some.from; count = c.in-Some-count_places.count })
    c.new-places.ensures.valid c.new-places.ensures.sources c.requires c.new-places.ensures.value c.in-Some.ensures
    (record {
      last = last-is c.args.snapshot.now c.args.request.start_us c.in-Some.from c.in-Some.ensures;
      count_is = c.in-Some-count_places.ensures.0;
      there = c.in-Some-count_places.ensures.1;
    })
    c.if-count-gt-PLACE_LIMIT.false

pub returns-in_default : goal.returns-in_default
returns-in_default c =
    none_before c.args.snapshot.now c.args.request c.new-places.ensures.sources c.requires
    (none-is c.args.snapshot.now c.args.request.start_us c.in_default.ensures)
