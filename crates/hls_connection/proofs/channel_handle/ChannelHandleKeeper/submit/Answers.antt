-- After a submitted event, the cached playlists and programmes are of a state with at most as many events as the one that was seen last,
-- and of the same playlists if it has as many.
use Rattle.hls_api.proofs.Callers.{lists_submitted}
use Rattle.hls_connection.proofs.channel_handle.ChannelHandleKeeper.submit.Goals as goal

pub invariant_of-self-in_default-clause-listed : goal.invariant_of-self-in_default-clause-listed
invariant_of-self-in_default-clause-listed g c =
    lists_submitted c.args.self.now.lists _ _ c.args.event _ c.args.self.now.listed c.submit-done.ensures.submits

pub invariant_of-self-in_default-clause-started : goal.invariant_of-self-in_default-clause-started
invariant_of-self-in_default-clause-started g c =
    lists_submitted c.args.self.now.programmes _ _ c.args.event _ c.args.self.now.started c.submit-done.ensures.submits

pub invariant_of-self-in_default-2-clause-listed : goal.invariant_of-self-in_default-2-clause-listed
invariant_of-self-in_default-2-clause-listed g c =
    lists_submitted c.args.self.now.lists _ _ c.args.event _ c.args.self.now.listed c.submit-done.ensures.submits

pub invariant_of-self-in_default-2-clause-started : goal.invariant_of-self-in_default-2-clause-started
invariant_of-self-in_default-2-clause-started g c =
    lists_submitted c.args.self.now.programmes _ _ c.args.event _ c.args.self.now.started c.submit-done.ensures.submits
