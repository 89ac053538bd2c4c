-- The reply, or the fixed 503 if its buffer can't be allocated, is written whole, or a beginning of it if a write fails.
-- The session continues only after a whole reply that doesn't close the connection.
use Rattle.std.proofs.Common.{◌∙◌, inl, inr, sym, ap}
use Rattle.hls_http.{specs.ResponseText.response_text, proofs.SendLaws.writes_as}
use Rattle.hls_http.proofs.session.Session.reply.Goals as goal

pub returns-then-write_whole-clause-answers : goal.returns-then-write_whole-clause-answers
returns-then-write_whole-clause-answers g c = λ held known. inr (writes_as held _ _ _ c.out_of_memory_response.ensures (c.if-write_whole.ensures.writes held known))

pub returns-then-not-write_output-clause-answers : goal.returns-then-not-write_output-clause-answers
returns-then-not-write_output-clause-answers g c = λ held known.
    let is = c.in-Ok.ensures ∙ ap (λ bytes. response_text c.args.head.now bytes c.args.to_head) c.as_range.ensures in
    inl (rw is at (c.if-not-write_output.ensures.writes held known))

pub returns-in-false-default-clause-answers : goal.returns-in-false-default-clause-answers
returns-in-false-default-clause-answers g c = λ held known.
    let is = c.in-Ok.ensures ∙ ap (λ bytes. response_text c.args.head.now bytes c.args.to_head) c.as_range.ensures in
    (c.in-false-default.is-0, writes_as held _ _ _ is (c.if-not-write_output.ensures.writes held known))

pub returns-in-true-true-clause-answers : goal.returns-in-true-true-clause-answers
returns-in-true-true-clause-answers g c = λ held known.
    let is = c.in-Ok.ensures ∙ ap (λ bytes. response_text c.args.head.now bytes c.args.to_head) c.as_range.ensures in
    (c.in-true-true.is-0, sym c.in-true-true.ensures, writes_as held _ _ _ is (c.if-not-write_output.ensures.writes held known))

pub returns-in-true-false-clause-answers : goal.returns-in-true-false-clause-answers
returns-in-true-false-clause-answers g c = λ held known.
    let is = c.in-Ok.ensures ∙ ap (λ bytes. response_text c.args.head.now bytes c.args.to_head) c.as_range.ensures in
    inl (c.in-true-false.is-0, sym c.in-true-false.ensures, writes_as held _ _ _ is (c.if-not-write_output.ensures.writes held known))
