-- By whether the table has a plan; the certificate of either case is accepted because it is good.
use Rattle.std.proofs.Common.{◌≡◌, ◌∙◌, ap, map}
use Rattle.hls_m3u8.specs.Playlist.{playlist_of}
use Rattle.hls_plan.specs.Planned.{certificate_of}
use Rattle.hls_playlists_laws.specs.JobPlaylists.{job_lists}
use Rattle.hls_catchup.proofs.Right.{right_cut, right_none}
use Rattle.hls_catchup.proofs.cut.cut_programme.Goals as goal

pub returns-in_ok-playlists-in-Cut : goal.returns-in_ok-playlists-in-Cut
returns-in_ok-playlists-in-Cut c =
    let made : map playlist_of c.in_ok-playlists-in-Cut.playlists.items ≡ job_lists c.args.epoch 0 (map (λ r. r.now) c.args.recordings.now) c.args.table c.in-Cut.plan.items =
    c.in_ok-playlists-in-Cut.ensures.lists ∙ ap (job_lists c.args.epoch 0 (map (λ r. r.now) c.args.recordings.now) c.args.table) c.as_slice.ensures.value in
    right_cut c.args.epoch c.args.recordings.now c.args.table c.in_ok-planned.planned c.in-Cut.plan c.in-Cut.prices
    (map playlist_of c.in_ok-playlists-in-Cut.playlists.items) c.certificate.result
    c.certificate.ensures c.in-Cut.is c.in_ok-planned.ensures.good
    (c.good_certificates_are_accepted.ensures (certificate_of c.args.table c.in_ok-planned.planned)
    (record { table = c.len.ensures.valid; form = c.in_ok-planned.ensures.shown }) c.in_ok-planned.ensures.good)
    c.in_ok-planned.ensures.best made
    c.in_ok-playlists-in-Cut.ensures.valid c.len.ensures.valid c.requires.covered c.requires.epoch

pub returns-in-NoCut : goal.returns-in-NoCut
returns-in-NoCut c =
    right_none c.args.table c.in_ok-planned.planned c.in-NoCut.closed c.certificate-in-NoCut.result c.certificate-in-NoCut.ensures c.in-NoCut.is
    c.in_ok-planned.ensures.good
    (c.good_certificates_are_accepted.ensures (certificate_of c.args.table c.in_ok-planned.planned)
    (record { table = c.len.ensures.valid; form = c.in_ok-planned.ensures.shown }) c.in_ok-planned.ensures.good)
    c.in_ok-planned.ensures.best
