-- The request is answered, its response waits for a job or a plan, or its response is made in parts.
use Rattle.std.proofs.Common.{◌≡◌, ◌∙◌, Some, ap, arith, inl, inr, refl, sym}
use Rattle.hls_api.{specs.Exchanges.{continue_prefix, request_of}, proofs.Callers.acted_none}
use Rattle.hls_connection.proofs.{AnswerLaws.replies_discarded, CallLaws.response_due, CallLaws.sent_acts, CallLaws.sent_proceeds, WaitLaws.awaited_by_route, WaitLaws.plan_asked, WaitLaws.wait_asked, WaitLaws.wait_ends}
use Rattle.hls_connection.proofs.steps.step_handle.Goals.{in_default-handle_request-via-in-Ok+else-not-is_complete, in_default-handle_request-via-in-Err-1}
use Rattle.hls_connection.proofs.steps.step_handle.Goals as goal

pub returns-in-Ok-clause-handles : goal.returns-in-Ok-clause-handles
returns-in-Ok-clause-handles g c = λ nothing channel stream first unread last x.
    let answers = rw (nothing, c.in-Ok.is) at (c.handle_request.ensures.answers channel x.at.head x.at.is_context x.route_is) in
    inr (inl (_, c.without_output-in-Ok.ensures, record { last = last; discarded = x; answers = answers }))

pub returns-in_default-handle_request-clause-handles : goal.returns-in_default-handle_request-clause-handles
returns-in_default-handle_request-clause-handles g c = λ nothing channel stream first unread last x.
    let request = request_of channel x.at.head in
    let acts = c.handle_request.new.acts in
    let same : c.in_default-handle_request-1.response ≡ c.handle_request.result = elim c.in_default-handle_request-1.branch [ in_default-handle_request-via-in-Ok+else-not-is_complete w ↦ w.response-is ∙ sym w.in-Ok.is | in_default-handle_request-via-in-Err-1 w ↦ w.response-is ] in
    let responds = rw nothing at (c.handle_request.ensures.answers channel x.at.head x.at.is_context x.route_is) in
    inl (
      acts,
      replies_discarded x acts (λ due is. response_due request c.args.route acts c.handle_request.result due responds is)
          (rw same at (c.respond.ensures.responds channel x.at.head (continue_prefix x.at.head request.action) x.at.is_context)),
    )

pub returns-in_default-handle_request-clause-act_steps : goal.returns-in_default-handle_request-clause-act_steps
returns-in_default-handle_request-clause-act_steps g c = rw (sent_acts c.respond.ensures.sends) c.handle_request.ensures.act_steps

pub returns-in-Ok-clause-proceeds : goal.returns-in-Ok-clause-proceeds
returns-in-Ok-clause-proceeds g c = rw c.without_output-in-Ok.ensures (record { suits = λ known. tt; continues = refl; few = omega arith; deadline = tt })

pub returns-in_default-handle_request-clause-proceeds : goal.returns-in_default-handle_request-clause-proceeds
returns-in_default-handle_request-clause-proceeds g c = sent_proceeds c.respond.ensures.sends c.args.now 65538 (omega arith)

-- ---- a response that waits

pub returns-in-Some-clause-handles : goal.returns-in-Some-clause-handles
returns-in-Some-clause-handles g c = λ nothing channel stream first unread last x.
    let head = c.args.context.head in
    let awaited = awaited_by_route c.args.route _ c.in-Some.id c.in-Some.deadline_ms (sym c.awaited_job.ensures ∙ c.in-Some.is) in
    let asked = wait_asked head.method head.wait c.args.now c.in-Some.deadline_ms awaited.1 in
    inr (inr (
      _,
      c.without_output.ensures,
      record {
        last = last;
        discarded = record { at = x.at; route_is = x.route_is ∙ ap Some awaited.0; discarded = x.discarded };
        waits = rw x.at.is_context.head.method at asked.1;
        asked = (rw x.at.is_context.head.wait at asked.0, nothing);
      },
    ))

pub returns-in-Some-clause-act_steps : goal.returns-in-Some-clause-act_steps
returns-in-Some-clause-act_steps g c = rw c.without_output.ensures (acted_none _ _ _)

pub returns-in-Some-clause-proceeds : goal.returns-in-Some-clause-proceeds
returns-in-Some-clause-proceeds g c =
    let head = c.args.context.head in
    let awaited = awaited_by_route c.args.route _ c.in-Some.id c.in-Some.deadline_ms (sym c.awaited_job.ensures ∙ c.in-Some.is) in
    rw c.without_output.ensures
    (record { suits = λ known. tt; continues = refl; few = omega arith; deadline = wait_ends head.method head.wait c.args.now c.in-Some.deadline_ms awaited.1 })

-- ---- a programme

pub step_programme-requires : goal.step_programme-requires
step_programme-requires g c =
    (plan_asked c.args.route c.args.context.head.method c.args.now _ c.in-Some-awaited_programme.wait (sym c.awaited_programme.ensures ∙ c.in-Some-awaited_programme.is)).waits

pub returns-in-Some-awaited_programme-clause-handles : goal.returns-in-Some-awaited_programme-clause-handles
returns-in-Some-awaited_programme-clause-handles g c = λ nothing channel stream first unread last x.
    let asked = plan_asked c.args.route c.args.context.head.method c.args.now _ c.in-Some-awaited_programme.wait (sym c.awaited_programme.ensures ∙ c.in-Some-awaited_programme.is) in
    c.step_programme.ensures.handles nothing channel stream first unread last (record { at = x.at; route_is = x.route_is ∙ ap Some asked.route_is; discarded = x.discarded })

pub returns-in-Some-awaited_programme-clause-proceeds : goal.returns-in-Some-awaited_programme-clause-proceeds
returns-in-Some-awaited_programme-clause-proceeds g c =
    let asked = plan_asked c.args.route c.args.context.head.method c.args.now _ c.in-Some-awaited_programme.wait (sym c.awaited_programme.ensures ∙ c.in-Some-awaited_programme.is) in
    c.step_programme.ensures.proceeds c.args.now asked.deadline
