-- If both ends of a path are found and its units may be a segment and are kept, it names their bytes (`kept_segment`).
use Rattle.std.proofs.Common.{◌≡◌, ◌≤◌, true, arith}
use Rattle.hls_playlists_laws.specs.NamedUnits.{may_be_segment}
use Rattle.hls_api.proofs.NamedSpans.{kept_segment}
use Rattle.hls_api.proofs.player_responses.find_units.Goals as goal

pub returns : goal.returns
returns c =
    let r = c.args.recording.now in
    let from = c.in-Some.from in
    let to = c.in-Some-unit_starting_at.to in
    let short = c.may_be_segment.ensures in
    let is_short = c.if-not-may_be_segment.false in
    let may : may_be_segment c.args.target r.facts from to ≡ true = cc in
    let kept : r.floor ≤ from = omega (arith, c.floor.ensures.value, c.if-from-floor.false) in
    kept_segment c.args.target r c.args.first c.args.last from to c.in-Some.ensures.valid c.in-Some.ensures.begins c.in-Some-unit_starting_at.ensures.begins may kept
    c.requires.order c.requires.last
