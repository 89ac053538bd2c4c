-- The session has run from its first moment to each moment of the loop, and ends by a step (SessionLaws).
use Rattle.std.proofs.Common.{◌∙◌, [], false, refl, ap}
use Rattle.hls_http.specs.BufferedReader.{unread_of}
use Rattle.hls_connection.specs.{declared.machine.ConnectionMachine.ConnectionMachine, Moments.moment, Traces.{trace_at, trace_after_read}}
use Rattle.hls_connection.proofs.SessionLaws.{led_first}
use Rattle.hls_connection.proofs.session.session_on.Goals as goal

pub loop-init : goal.loop-init
loop-init g c =
    let session = c.args.session.now in
    let held = unread_of session.source in
    let exchange = c.note_read.ensures [] held refl refl ∙ ap (λ (m : ConnectionMachine). trace_after_read (trace_at m []) held false) c.new-machine.ensures in
    record {
      can_next = tt;
      is_finite = tt;
      led = led_first _ (moment g.R.Read.remaining g.W.Write.contents c.note_read.new.self session (g.K.Keeper.known c.args.keeper.now)) c.rendition_count.result c.new.result c.new.ensures exchange
          c.rendition_count.ensures.valid c.rendition_count.ensures.count;
    }

pub step_session-requires : goal.step_session-requires
step_session-requires g c = record { suits = c.loop.invariant.led.past_acts.0 }

pub loop-preserved : goal.loop-preserved
loop-preserved g c = record { can_next = tt; is_finite = tt; led = c.in_default.ensures _ c.loop.invariant.led }

pub returns-in-Some-step_session-clause-session : goal.returns-in-Some-step_session-clause-session
returns-in-Some-step_session-clause-session g c = (c.in-Some-step_session.ensures _ c.loop.invariant.led).0

pub returns-in-Some-step_session-clause-counts : goal.returns-in-Some-step_session-clause-counts
returns-in-Some-step_session-clause-counts g c = (c.in-Some-step_session.ensures _ c.loop.invariant.led).1
