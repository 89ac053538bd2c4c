-- If the text were a point and digits, all bytes after the point would be digits; but the run of digits ends before. So it is no fraction.
use Rattle.std.proofs.Common.{sym, subst, rules, drop}
use Rattle.std.proofs.lemmas.List.{take_rest}
use Rattle.hls_time.specs.Digits.{AreDigits, StartsWithNoDigit}
use Rattle.hls_time.proofs.read.strip_point.Goals as goal
use Rattle.hls_time.proofs.DigitRuns.{behind_point, front_is_all}

pub returns-then-digits_len-fraction : goal.returns-then-digits_len-fraction
returns-then-digits_len-fraction c = λ fraction f.
    let digits : AreDigits (drop 1 c.args.text.now) = subst AreDigits (sym (behind_point c.args.text.now fraction f)) f.digits in
    let end : StartsWithNoDigit (drop c.digits_len.result (drop 1 c.args.text.now)) = rw (take_rest c.args.text.now 1) at c.digits_len.ensures.end in
    front_is_all (drop 1 c.args.text.now) c.digits_len.result digits (search rules) end
