-- A head begins a request; without one the bytes are refused, or more of them are awaited.
use Rattle.std.proofs.Common.{◌==◌, ◌∙◌, inl, inr, List, [], ℕ, length, refl, sym, ap, subst, arith}
use Rattle.hls_http.specs.{declared.fault.HttpFault.TheVariants.{BadHead, HeadTooLarge}, Heads.ReadsLimitedHead, ReadHeads.IsHead}
use Rattle.hls_http.specs.Buffers.{BufferTexts}
use Rattle.hls_connection.proofs.CallLaws.{sends_by, sent_asks_nothing, sent_more}
use Rattle.hls_connection.proofs.HoldLaws.{head_refused, head_takes, head_waits, refused_last, stays, turns_off, turns_on, waits}
use Rattle.hls_connection.proofs.steps.step_head.Goals as goal

pub returns-in-Ok-clause-consistent : goal.returns-in-Ok-clause-consistent
returns-in-Ok-clause-consistent g c =
    let unread = c.args.input.now.unread in
    let found = rw c.unread.ensures.unread at c.in-Ok.ensures in
    let consumed = ap (λ (t : BufferTexts). t.unread) c.consume.ensures in
    let kept = c.last_taken.ensures.taken ∙ ap (λ (t : BufferTexts). t.taken) c.consume.ensures in
    let context = c.make_context-context.ensures found.1.tree (subst (λ (t : List ℕ). IsHead found.1.tree c.in-Ok.head t) (sym kept) found.1.is) in
    let reads = subst (λ (t : List ℕ). ReadsLimitedHead unread found.1.tree t) (sym consumed) found.1.reads in
    c.start_request.ensures.consistent c.args.channel c.args.ended unread c.consume.new.self.unread found.1.tree reads context

pub returns-in-Err-Invalid-clause-consistent : goal.returns-in-Err-Invalid-clause-consistent
returns-in-Err-Invalid-clause-consistent g c = λ received sent past_acts h.
    let never = rw (c.in-Err-Invalid.field-0-is, c.unread.ensures.unread) at c.in-Err-Invalid.ensures in
    head_refused BadHead h refl (λ due is. inl (never, is)) c.refuse_head.ensures

pub returns-in-Err-TooLarge-clause-consistent : goal.returns-in-Err-TooLarge-clause-consistent
returns-in-Err-TooLarge-clause-consistent g c = λ received sent past_acts h.
    let large = rw (c.in-Err-TooLarge.field-0-is, c.unread.ensures.unread) at c.in-Err-TooLarge.ensures in
    head_refused HeadTooLarge h refl (λ due is. inr (large, is)) c.refuse_head-in-Err-TooLarge.ensures

pub returns-in-Err-Partial-clause-consistent : goal.returns-in-Err-Partial-clause-consistent
returns-in-Err-Partial-clause-consistent g c = λ received sent past_acts h.
    let unread = c.args.input.now.unread in
    let empty = c.is_empty.ensures ∙ ap (λ (t : List ℕ). length t == 0) c.unread-in-Err-Partial.ensures.unread in
    let unfinished = rw (c.in-Err-Partial.field-0-is, c.unread.ensures.unread) at c.in-Err-Partial.ensures in
    rw c.await_head.ensures (stays [] unread h h.stage_is.1 refl
    (head_waits c.is_empty.result c.args.ended c.args.channel h.rest h.text unread (sym empty) unfinished (h.stage_is.0, refl, h.stage_is.2)))

pub returns-in-Ok-clause-turns : goal.returns-in-Ok-clause-turns
returns-in-Ok-clause-turns g c =
    let unread = c.args.input.now.unread in
    let found = rw c.unread.ensures.unread at c.in-Ok.ensures in
    let consumed = ap (λ (t : BufferTexts). t.unread) c.consume.ensures in
    let reads = subst (λ (t : List ℕ). ReadsLimitedHead unread found.1.tree t) (sym consumed) found.1.reads in
    turns_on c.start_request.ensures.continues (omega (arith, c.start_request.ensures.few, head_takes unread found.1.tree c.consume.new.self.unread reads))

pub returns-in-Err-Invalid-clause-turns : goal.returns-in-Err-Invalid-clause-turns
returns-in-Err-Invalid-clause-turns g c = turns_on (sent_more (sends_by c.refuse_head.ensures)) (omega (arith, refused_last BadHead c.refuse_head.ensures))

pub returns-in-Err-TooLarge-clause-turns : goal.returns-in-Err-TooLarge-clause-turns
returns-in-Err-TooLarge-clause-turns g c = turns_on (sent_more (sends_by c.refuse_head-in-Err-TooLarge.ensures)) (omega (arith, refused_last HeadTooLarge c.refuse_head-in-Err-TooLarge.ensures))

pub returns-in-Err-Partial-clause-turns : goal.returns-in-Err-Partial-clause-turns
returns-in-Err-Partial-clause-turns g c =
    let unfinished = rw (c.in-Err-Partial.field-0-is, c.unread.ensures.unread) at c.in-Err-Partial.ensures in
    rw c.await_head.ensures (turns_off refl (waits c.is_empty.result c.args.ended c.args.input.now.unread unfinished))

pub returns-in-Err-Invalid-clause-asks : goal.returns-in-Err-Invalid-clause-asks
returns-in-Err-Invalid-clause-asks g c = sent_asks_nothing (sends_by c.refuse_head.ensures) refl

pub returns-in-Err-TooLarge-clause-asks : goal.returns-in-Err-TooLarge-clause-asks
returns-in-Err-TooLarge-clause-asks g c = sent_asks_nothing (sends_by c.refuse_head-in-Err-TooLarge.ensures) refl
