-- The log grows by one act: the look, with the state that it showed or that it failed.
use Rattle.hls_connection.proofs.PassLaws.{acted_looked}
use Rattle.hls_connection.proofs.act_log.look.Goals as goal

pub returns-clause-act_steps : goal.returns-clause-act_steps
returns-clause-act_steps g c =
    acted_looked g.K.Keeper.other_actors (g.K.Keeper.known c.args.keeper.now) (g.K.Keeper.known c.look-shown.new.self) c.args.acts.now c.note_look.new.self c.look-shown.result
    c.look-shown.ensures.looked c.look-shown.ensures.looks c.look-shown.ensures.other_actors c.look-shown.ensures.asked c.note_look.ensures
