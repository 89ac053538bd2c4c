-- The connection advances; then it is written, it is over, or it is read from.
use Rattle.std.proofs.{Common.{length, sym}, lemmas.Bool.eqb-true}
use Rattle.hls_connection.{specs.Traces.trace_at, proofs.SessionLaws.{ended_itself, led_advances, rests_open, untimed}}
use Rattle.hls_connection.proofs.session.step_session.Goals as goal

pub returns-then-advance : goal.returns-then-advance
returns-then-advance g c = λ first led. led_advances led c.advance.ensures.advances

pub returns-then-not-is_empty : goal.returns-then-not-is_empty
returns-then-not-is_empty g c = λ first led. c.write_pending.ensures g.K.Keeper.other_actors (g.K.Keeper.known c.advance.new.keeper) first (led_advances led c.advance.ensures.advances)

pub returns-in-Some : goal.returns-in-Some
returns-in-Some g c = λ first led.
    let empty = eqb-true (length c.advance.new.self.output) 0 (sym c.if-not-is_empty.ensures) in
    ended_itself c.in-Some.end c.in-Some.ensures.over empty (led_advances led c.advance.ensures.advances)

pub read_more-requires : goal.read_more-requires
read_more-requires g c =
    let machine = c.advance.new.self in
    record {
      wants = rests_open (trace_at machine c.advance.new.input.unread) (eqb-true (length machine.output) 0 (sym c.if-not-is_empty.ensures)) c.in_default.ensures.continues
          (untimed (trace_at machine c.advance.new.input.unread) (c.advance.ensures.idle_or_blocked c.if-advance.false) (c.advance.ensures.waits.timely c.if-advance.false));
    }

pub returns : goal.returns
returns g c = λ first led. c.read_more.ensures g.K.Keeper.other_actors (g.K.Keeper.known c.advance.new.keeper) first (led_advances led c.advance.ensures.advances)
