-- The restored state follows those before, and so do its lists.
use Rattle.std.proofs.Common.{◌≡◌, ℕ, ◌≤◌, Some, List, take, sym, subst}
use Rattle.hls_core_laws.specs.declared.event.Event.{Event}
use Rattle.hls_core_laws.specs.Config.{ConfigData, IsConfig}
use Rattle.hls_core_laws.specs.State.{State}
use Rattle.hls_core_laws.specs.Laws.{RunsFollow}
use Rattle.hls_core_laws.specs.Runs.{first_state, replayed_state, AreFitting}
use Rattle.hls_core_laws.specs.Follows.{Follows}
use Rattle.hls_playlists_laws.specs.PathLaws.{BasedListsFollow, PathListsFollow, PathsNeverChange}
use Rattle.hls_journal_laws.proofs.Floors.{trimmed-floors-are-reached}
use Rattle.hls_journal_laws.proofs.Prefixes.{fitting_prefix, prefixes-follow}
use Rattle.hls_journal_laws.proofs.Substituted.{restored-is-replayed}
use Rattle.hls_journal_laws.specs.Floors.{highest_floor}
use Rattle.hls_journal_laws.specs.Players.{state_after, ListsContinue, PathListsContinue, PathsNameTheSame, RestoredStatesFollow}

-- the restored state is the one that the events led to, and follows the state after each prefix of them
pub restored-states-follow : RunsFollow → RestoredStatesFollow
restored-states-follow runs config media bodies past j k s restart le =
    let front : AreFitting (first_state config) (take k past) = fitting_prefix (first_state config) past k restart.fits in
    let reached = trimmed-floors-are-reached config (highest_floor bodies) media bodies (take k past) restart.configured front restart.new restart.written in
    let is = restored-is-replayed config (highest_floor bodies) media bodies (take k past) s restart.configured front restart.new restart.written restart.restores reached in
    let state = (runs config (take j past) restart.configured (fitting_prefix (first_state config) past j restart.fits)).0 in
    (is, state, subst (λ (z : State). Follows (state_after config past j) z) (sym is) (prefixes-follow config past j k restart.configured restart.fits le))

-- the live lists of the restored state, by ranges, are valid as later ones of those before
pub lists-continue : RestoredStatesFollow → BasedListsFollow → ListsContinue
lists-continue states lists config media bodies past j k r s earlier restart le sent =
    let from = states config media bodies past j k s restart le in
    lists config.base (state_after config past j) s r earlier from.1 from.2 sent

-- the live lists of the restored state, by paths, are valid as later ones of those before
pub path-lists-continue : RestoredStatesFollow → PathListsFollow → PathListsContinue
path-lists-continue states lists config media bodies past j k r s earlier restart le sent =
    let from = states config media bodies past j k s restart le in
    lists (state_after config past j) s r earlier from.1 from.2 sent

-- a path that named units before names the same ones with the same bytes, or the first is trimmed
pub paths-name-the-same : RestoredStatesFollow → PathsNeverChange → PathsNameTheSame
paths-name-the-same states paths config media bodies past j k s before r l m h g first last from to restart le lane held lane_after held_after named =
    let at = states config media bodies past j k s restart le in
    paths before (state_after config past j) s r l m h g first last from to at.1 at.2 lane held lane_after held_after named
