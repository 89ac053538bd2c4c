-- A spot is its five numbers, separated by spaces. If one of them is missing, the text doesn't begin with a spot.
use Rattle.hls_check.proofs.PlaceTexts.{spot_read, no_fragment, no_prev_end, no_start, no_run_in, no_run_out}
use Rattle.hls_check.proofs.place.take_spot.Goals as goal

pub returns-in_default : goal.returns-in_default
returns-in_default c = no_fragment c.args.text.now c.in_default.ensures

pub returns-in_default-take_space_and_number : goal.returns-in_default-take_space_and_number
returns-in_default-take_space_and_number c =
    no_prev_end c.args.text.now c.in-Some.fragment c.in-Some.after_fragment.now c.in-Some.ensures c.in_default-take_space_and_number.ensures

pub returns-in_default-take_space_and_number-2 : goal.returns-in_default-take_space_and_number-2
returns-in_default-take_space_and_number-2 c =
    no_start c.args.text.now c.in-Some.fragment c.in-Some-take_space_and_number.prev_end c.in-Some.after_fragment.now c.in-Some-take_space_and_number.after_prev_end.now
    c.in-Some.ensures c.in-Some-take_space_and_number.ensures c.in_default-take_space_and_number-2.ensures

pub returns-in_default-take_space_and_number-3 : goal.returns-in_default-take_space_and_number-3
returns-in_default-take_space_and_number-3 c =
    no_run_in c.args.text.now c.in-Some.fragment c.in-Some-take_space_and_number.prev_end c.in-Some-take_space_and_number-2.start
    c.in-Some.after_fragment.now c.in-Some-take_space_and_number.after_prev_end.now c.in-Some-take_space_and_number-2.after_start.now
    c.in-Some.ensures c.in-Some-take_space_and_number.ensures c.in-Some-take_space_and_number-2.ensures c.in_default-take_space_and_number-3.ensures

pub returns-in_default-take_space_and_number-4 : goal.returns-in_default-take_space_and_number-4
returns-in_default-take_space_and_number-4 c =
    no_run_out c.args.text.now c.in-Some.fragment c.in-Some-take_space_and_number.prev_end c.in-Some-take_space_and_number-2.start c.in-Some-take_space_and_number-3.run_in
    c.in-Some.after_fragment.now c.in-Some-take_space_and_number.after_prev_end.now c.in-Some-take_space_and_number-2.after_start.now c.in-Some-take_space_and_number-3.after_run_in.now
    c.in-Some.ensures c.in-Some-take_space_and_number.ensures c.in-Some-take_space_and_number-2.ensures c.in-Some-take_space_and_number-3.ensures c.in_default-take_space_and_number-4.ensures

pub returns : goal.returns
returns c =
    spot_read c.args.text.now c.in-Some.fragment c.in-Some-take_space_and_number.prev_end c.in-Some-take_space_and_number-2.start c.in-Some-take_space_and_number-3.run_in
    c.in-Some-take_space_and_number-4.run_out c.in-Some.after_fragment.now c.in-Some-take_space_and_number.after_prev_end.now c.in-Some-take_space_and_number-2.after_start.now
    c.in-Some-take_space_and_number-3.after_run_in.now c.in-Some-take_space_and_number-4.rest.now
    c.in-Some.ensures c.in-Some-take_space_and_number.ensures c.in-Some-take_space_and_number-2.ensures c.in-Some-take_space_and_number-3.ensures c.in-Some-take_space_and_number-4.ensures
