-- The run of digits at the start is all of the whole part. So a text isn't decimal if that run is empty or has more than 10 digits,
-- or if what follows it isn't a fraction.
use Rattle.std.proofs.Common.{◌≡◌, sym, ◌∙◌, subst, arith, rules}
use Rattle.std.proofs.lemmas.List.{take_rest}
use Rattle.hls_time.specs.Seconds.{IsFraction}
use Rattle.hls_time.proofs.read.split_at_point.Goals as goal
use Rattle.hls_time.proofs.SecondsRead.{front_of_decimal, whole_length}

pub returns-then-end-eq0 : goal.returns-then-end-eq0
returns-then-end-eq0 c = λ whole fraction d.
    let n = c.digits_len-end.ensures in
    let long = whole_length c.args.text.now c.digits_len-end.result n.within n.digits n.end whole fraction d in
    let none : c.digits_len-end.result ≡ 0 = search rules in
    omega (arith, d.some, long, none)

pub returns-then-end-gt10 : goal.returns-then-end-gt10
returns-then-end-gt10 c = λ whole fraction d.
    let n = c.digits_len-end.ensures in
    omega (arith, d.bound, whole_length c.args.text.now c.digits_len-end.result n.within n.digits n.end whole fraction d, c.if-end-gt10.true)

pub returns-in-None : goal.returns-in-None
returns-in-None c = λ whole fraction d.
    let n = c.digits_len-end.ensures in
    let rest = (front_of_decimal c.args.text.now c.digits_len-end.result n.digits n.end whole fraction d).1 in
    let all = take_rest c.args.text.now c.digits_len-end.result in
    c.in-None.ensures fraction (subst (λ r. IsFraction r fraction) (sym (all ∙ rest)) d.fraction_part)
