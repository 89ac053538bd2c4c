-- The lines up to `end` are the prices, by increasing place; every place without a line has no price.
-- A line that is missing or of another kind is the first wrong line.
use Rattle.std.proofs.Common.{ℕ, ◌≡◌, ◌+◌, ◌^◌, ◌<◌, ◌≤◌, ◌-◌, List, [], ◌∷◌, ◌++◌, length, take, replicate, vec_len, Option, Some, None, subst, ap, ◌∙◌, Fits, w64, arith, rules}
use Rattle.hls_check.specs.Stages.{IsPriceLine}
use Rattle.std.proofs.lemmas.Bool.{iff_false}
use Rattle.hls_check.proofs.Claims.{padded, prices_form, no_price_read, price_missing, price_end, price_bad, price_more}
use Rattle.hls_check.proofs.reader.read_prices.Goals as goal

-- one more line doesn't overflow the count, given the bound of the text
room : (first lines_read whole rest : ℕ) → lines_read + rest ≤ first + whole → first + whole + 1 < 2 ^ 64 → Fits w64 (lines_read + 1)
room first lines_read whole rest shorter fits = omega arith

pub loop-line-init : goal.loop-line-init
loop-line-init c = rw c.new-prices.ensures.items (no_price_read c.args.count c.args.text.now c.args.first)

pub returns-in_default-clause-at : goal.returns-in_default-clause-at
returns-in_default-clause-at c =
    price_missing c.args.count c.args.text.now c.args.first c.loop-line.prices.items c.loop-line.rest.now c.loop-line.lines_read c.loop-line.invariant c.in_default.ensures.line

pub returns-then-is_word-clause-at : goal.returns-then-is_word-clause-at
returns-then-is_word-clause-at c =
    let len : vec_len c.loop-line.prices ≡ length c.loop-line.prices.items = search rules in
    price_end c.args.count c.args.text.now c.args.first c.loop-line.prices.items c.resize.new.self.items c.loop-line.rest.now c.in-Some.line.now c.in-Some.after.now
    c.loop-line.lines_read c.loop-line.invariant c.in-Some.ensures.line (c.is_word.ensures.0 c.if-is_word.true)
    (subst (λ (n : ℕ). c.resize.new.self.items ≡ take c.args.count c.loop-line.prices.items ++ replicate (c.args.count - n) None) len c.in_ok-resize.ensures.items)

pub returns-then-is_word-clause-shorter : goal.returns-then-is_word-clause-shorter
returns-then-is_word-clause-shorter c =
    omega (arith, c.loop-line.invariant.shorter, c.in-Some.ensures.shorter)

pub returns-in_default-parse_price-clause-at : goal.returns-in_default-parse_price-clause-at
returns-in_default-parse_price-clause-at c =
    let len : c.len.result ≡ length c.loop-line.prices.items = search rules in
    price_bad c.args.count c.args.text.now c.args.first c.loop-line.prices.items c.loop-line.rest.now c.in-Some.line.now c.in-Some.after.now
    c.loop-line.lines_read c.loop-line.invariant c.in-Some.ensures.line (iff_false c.is_word.ensures c.if-is_word.false)
    (subst (λ (n : ℕ). IsPriceLine n c.args.count c.in-Some.line.now → ⊥) len c.in_default-parse_price.ensures)

pub loop-line-preserved : goal.loop-line-preserved
loop-line-preserved c =
    let len : c.len.result ≡ length c.loop-line.prices.items = search rules in
    let whole : vec_len c.loop-line.prices ≡ length c.loop-line.prices.items = search rules in
    let above : length c.loop-line.prices.items ≤ c.in-Some-parse_price.place = omega (arith, c.in-Some-parse_price.ensures.0) in
    let resized : c.resize-in-loop-line.new.self.items ≡ c.loop-line.prices.items ++ replicate (c.in-Some-parse_price.place - length c.loop-line.prices.items) None =
    padded (Option ℕ) c.loop-line.prices.items c.resize-in-loop-line.new.self.items c.in-Some-parse_price.place None above
    (subst (λ (n : ℕ). c.resize-in-loop-line.new.self.items ≡ take c.in-Some-parse_price.place c.loop-line.prices.items ++ replicate (c.in-Some-parse_price.place - n) None)
    whole c.in_ok-resize-2.ensures.items) in
    price_more c.args.count c.args.text.now c.args.first c.loop-line.prices.items c.push.new.self.items c.loop-line.rest.now c.in-Some.line.now c.in-Some.after.now
    c.loop-line.lines_read c.in-Some-parse_price.place c.in-Some-parse_price.price c.loop-line.invariant c.in-Some.ensures.line c.in-Some.ensures.shorter
    (above, c.in-Some-parse_price.ensures.1, c.in-Some-parse_price.ensures.2, c.in-Some-parse_price.ensures.3)
    (c.in_ok-push.ensures.items ∙ ap (λ (xs : List (Option ℕ)). xs ++ (Some c.in-Some-parse_price.price ∷ [])) resized)

pub returns-then-is_word-clause-form : goal.returns-then-is_word-clause-form
returns-then-is_word-clause-form c =
    let len : vec_len c.loop-line.prices ≡ length c.loop-line.prices.items = search rules in
    prices_form c.args.count c.loop-line.prices.items c.resize.new.self.items c.loop-line.invariant.within c.loop-line.invariant.small
    (subst (λ (n : ℕ). c.resize.new.self.items ≡ take c.args.count c.loop-line.prices.items ++ replicate (c.args.count - n) None) len c.in_ok-resize.ensures.items)

pub overflow_add-lines_read : goal.overflow_add-lines_read
overflow_add-lines_read c = room c.args.first c.loop-line.lines_read (length c.args.text.now) (length c.loop-line.rest.now) c.loop-line.invariant.shorter c.requires.room

pub overflow_add-result : goal.overflow_add-result
overflow_add-result c = room c.args.first c.loop-line.lines_read (length c.args.text.now) (length c.loop-line.rest.now) c.loop-line.invariant.shorter c.requires.room

pub overflow_add-result-then-is_word : goal.overflow_add-result-then-is_word
overflow_add-result-then-is_word c = room c.args.first c.loop-line.lines_read (length c.args.text.now) (length c.loop-line.rest.now) c.loop-line.invariant.shorter c.requires.room

pub overflow_add-result-in_default-parse_price : goal.overflow_add-result-in_default-parse_price
overflow_add-result-in_default-parse_price c = room c.args.first c.loop-line.lines_read (length c.args.text.now) (length c.loop-line.rest.now) c.loop-line.invariant.shorter c.requires.room

pub loop-line-smaller : goal.loop-line-smaller
loop-line-smaller c = c.in-Some.ensures.shorter
