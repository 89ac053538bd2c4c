-- If a certificate is wanted, the output is that of the plan over the table; otherwise it is the playlist of the plan.
use Rattle.hls_commands.proofs.ListedPlans.{certificate_listed, playlist_listed}
use Rattle.hls_commands.proofs.list_least_plan.list_plan.Goals as goal

pub returns-then-certificate : goal.returns-then-certificate
returns-then-certificate c =
    certificate_listed c.args.certificate c.args.table c.args.epoch c.args.recording.now c.args.uri.now c.write_certificate.result
    c.if-certificate.true c.requires.table c.write_certificate.ensures

pub returns-else-certificate : goal.returns-else-certificate
returns-else-certificate c =
    playlist_listed c.args.certificate c.args.table c.args.epoch c.args.recording.now c.args.uri.now c.write_planned_playlist.result
    c.if-certificate.false c.requires.table c.write_planned_playlist.ensures
