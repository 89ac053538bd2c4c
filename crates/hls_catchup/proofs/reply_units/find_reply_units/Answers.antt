-- The first and the last place of the certificate's table say which units of the recording are the reply's.
use Rattle.std.proofs.Common.{◌≡◌, ◌-◌, List, length, Some, ap, sym, ◌∙◌}
use Rattle.hls_check_tables.specs.declared.spot.Spot.{Spot}
use Rattle.hls_check_tables.specs.Tables.{Table, spot_in, place_at}
use Rattle.hls_core.specs.Getters.{recording_of}
use Rattle.hls_catchup.proofs.Spans.{span_is}
use Rattle.hls_catchup.proofs.reply_units.find_reply_units.Goals as goal

pub returns-in_ok-recording-in-Cut-clause-some : goal.returns-in_ok-recording-in-Cut-clause-some
returns-in_ok-recording-in-Cut-clause-some c =
    let value = c.in_ok-recording-in-Cut.ensures.value in
    let state = c.snapshot.ensures.value in
    let is : recording_of c.args.reply.now.state c.args.rendition ≡ Some c.in_ok-recording-in-Cut.recording.now = cc in
    let cut_result = c.cut_result.ensures in
    let cut = c.in-Cut.is in
    let table = c.table-table.ensures.table in
    let first = c.get.ensures in
    let end = c.get-in-Cut.ensures in
    let first_place = c.place.ensures in
    let end_place = c.place-in-Cut.ensures in
    let last = c.len-last.ensures.len in
    span_is c.args.reply.now c.args.rendition c.in-Cut.playlists c.in-Cut.certificate
    (record { recording = c.in_ok-recording-in-Cut.recording; first = c.get.result.fragment; end = c.get-in-Cut.result.fragment })
    (sym cut_result ∙ cut) c.snapshot.ensures.right is
    (ap (λ (x : Spot). x.fragment) (first ∙ ap (λ (p : List Spot). spot_in p c.args.rendition) (first_place ∙ ap (λ (t : Table). place_at t.places 0) table)))
    (ap (λ (x : Spot). x.fragment) (end ∙ ap (λ (p : List Spot). spot_in p c.args.rendition)
    (end_place ∙ ap (λ n. place_at c.table-table.result.now.places (n - 1)) last ∙ ap (λ (t : Table). place_at t.places (length t.places - 1)) table)))
