-- A request for a programme awaits its plan, or its reply is sent.
use Rattle.std.proofs.Common.{Ok, Err, inl, inr}
use Rattle.hls_connection.proofs.PlanLaws.{sent_programme}
use Rattle.hls_connection.proofs.steps.step_programme.Goals as goal

pub returns-in-Ok-Await-clause-handles : goal.returns-in-Ok-Await-clause-handles
returns-in-Ok-Await-clause-handles g c = λ nothing channel stream first unread last x.
    let begun = rw (nothing, c.in-Ok-Await.is, c.in-Ok-Await.field-0-is) at c.begin_programme-begun.ensures.begins in
    inr (inr (
      _,
      c.without_output.ensures,
      record {
        last = last;
        discarded = x;
        waits = rw x.at.is_context.head.method at c.requires;
        asked = rw x.at.is_context.head.client at (begun _ (rw x.route_is at x.at.is_context.query));
      },
    ))

pub returns-in-Ok-Respond-clause-handles : goal.returns-in-Ok-Respond-clause-handles
returns-in-Ok-Respond-clause-handles g c = λ nothing channel stream first unread last x.
    let begun = rw (nothing, c.in-Ok-Respond.is, c.in-Ok-Respond.field-0-is) at c.begin_programme-begun.ensures.begins in
    sent_programme {E = Unit {0}} c.args.wait.start c.args.wait.stop c.args.wait.file c.begin_programme-begun.new.acts (Ok c.in-Ok-Respond.response) c.respond.result x c.requires begun c.respond.ensures.responds

pub returns-in-Err-clause-handles : goal.returns-in-Err-clause-handles
returns-in-Err-clause-handles g c = λ nothing channel stream first unread last x.
    let begun = rw (nothing, c.in-Err.is) at c.begin_programme-begun.ensures.begins in
    sent_programme c.args.wait.start c.args.wait.stop c.args.wait.file c.begin_programme-begun.new.acts (Err c.in-Err.error) c.respond-in-Err.result x c.requires (λ said is. inl (begun said is)) c.respond-in-Err.ensures.responds
