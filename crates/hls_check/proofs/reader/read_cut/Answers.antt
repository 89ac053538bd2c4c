-- After the cost, the plan and the prices complete a certificate if no text follows.
-- Otherwise the first wrong line is known, or memory fails. The line numbers don't overflow.
use Rattle.std.proofs.Common.{ℕ, [], ◌≡◌, ◌+◌, ◌^◌, ◌<◌, ◌≤◌, length, Err, sym, Fits, w64, arith, rules}
use Rattle.std.proofs.lemmas.Bool.Decides.{nat_tests}
use Rattle.hls_check_tables.specs.Certificates.{CutClaim}
use Rattle.hls_check.specs.Stages.{IsReadUpTo, AtPrice, Builds, certificate_with}
use Rattle.hls_check.proofs.Wrongs.{wrong_behind}
use Rattle.hls_check.proofs.Claims.{plan_stops, plan_passed, prices_passed, read_whole}
use Rattle.hls_check.proofs.reader.read_cut.Goals as goal

-- the plan line and one line after the prices don't overflow the count, given the bound of the text
plan_counted : (lines_read whole : ℕ) → lines_read + whole + 1 < 2 ^ 64 → Fits w64 (lines_read + 1)
plan_counted lines_read whole fits = omega arith

end_counted : (lines_read whole after read rest : ℕ) → lines_read + whole + 1 < 2 ^ 64 → after < whole → read + rest ≤ lines_read + 1 + after → Fits w64 (read + 1)
end_counted lines_read whole after read rest fits shorter behind = omega arith

pub overflow_add-lines_read : goal.overflow_add-lines_read
overflow_add-lines_read c = plan_counted c.args.lines_read (length c.args.text.now) c.requires.room

pub overflow_add-result : goal.overflow_add-result
overflow_add-result c =
    end_counted c.args.lines_read (length c.args.text.now) (length c.in_ok-plan.after_plan.now) c.in_ok-prices.read (length c.in_ok-prices.rest.now)
    c.requires.room c.in_ok-plan.ensures.shorter c.in_ok-prices.ensures.shorter

pub returns-in_err-plan : goal.returns-in_err-plan
returns-in_err-plan c = λ bytes at.
    let stops : Builds bytes (Err c.in_err-plan.field-0.0) =
    plan_stops bytes c.args.text.now c.args.table c.args.cost c.args.lines_read c.len.result c.in_err-plan.field-0.0 c.len.ensures.len
    c.in_err-plan.ensures.line at in
    search rules

pub returns-in_err-prices : goal.returns-in_err-prices
returns-in_err-prices c = λ bytes at.
    let prices : IsReadUpTo (AtPrice c.args.table c.args.cost c.in_ok-plan.plan.items []) bytes c.in_ok-plan.after_plan.now (c.args.lines_read + 1) =
    plan_passed bytes c.args.text.now c.in_ok-plan.after_plan.now c.args.table c.args.cost c.args.lines_read c.len.result c.in_ok-plan.plan.items
    c.len.ensures.len c.in_ok-plan.ensures.line at in
    let stops : Builds bytes (Err c.in_err-prices.field-0.0) =
    c.in_err-prices.ensures.at bytes c.in_ok-plan.plan.items c.args.table c.args.cost (sym c.len-2.ensures.len) prices in
    search rules

pub returns-then-not-is_empty : goal.returns-then-not-is_empty
returns-then-not-is_empty c = λ bytes at.
    let read = prices_passed bytes c.args.text.now c.in_ok-plan.after_plan.now c.in_ok-prices.rest.now c.args.table c.args.cost c.args.lines_read c.len.result
    c.len-2.result c.in_ok-prices.read c.in_ok-plan.plan.items c.in_ok-prices.prices.items c.len.ensures.len c.in_ok-plan.ensures.line
    c.len-2.ensures.len c.in_ok-prices.ensures.at at in
    let some : 0 < length c.in_ok-prices.rest.now = grind (arith, nat_tests) in
    wrong_behind (certificate_with c.args.table (CutClaim c.args.cost c.in_ok-plan.plan.items c.in_ok-prices.prices.items)) bytes
    c.in_ok-prices.rest.now c.in_ok-prices.read read some

pub returns : goal.returns
returns c = λ bytes at.
    let read = prices_passed bytes c.args.text.now c.in_ok-plan.after_plan.now c.in_ok-prices.rest.now c.args.table c.args.cost c.args.lines_read c.len.result
    c.len-2.result c.in_ok-prices.read c.in_ok-plan.plan.items c.in_ok-prices.prices.items c.len.ensures.len c.in_ok-plan.ensures.line
    c.len-2.ensures.len c.in_ok-prices.ensures.at at in
    let none : length c.in_ok-prices.rest.now ≡ 0 = grind (arith, nat_tests) in
    read_whole bytes c.in_ok-prices.rest.now
    (certificate_with c.args.table (CutClaim c.args.cost c.in_ok-plan.plan.items c.in_ok-prices.prices.items)) c.new.result
    c.in_ok-prices.read c.new.ensures read none
