-- The units in a reply's resource.
use Rattle.std.proofs.Common.{◌≡◌, ℕ, ◌<◌, ◌≤◌, List, ◌∷◌, length, Some, None, arith, sym, ap, subst, inl, inr, ◌∙◌, Vec, Global}
use Rattle.std.specs.Prelude.{option_map}
use Rattle.std.proofs.lemmas.Bool.{cases_lt}
use Rattle.std.proofs.lemmas.Option.{slice_get_past}
use Rattle.hls_record.specs.RecordingData.{RecordingData}
use Rattle.hls_catchup.proofs.Cited.{some_at}
use Rattle.hls_core_laws.specs.State.{State, channel}
use Rattle.hls_core_laws.specs.Outcome.{held_bytes}
use Rattle.hls_core.specs.Getters.{recorded_at, recording_of}
use Rattle.hls_check_tables.specs.Certificates.{CertificateData}
use Rattle.hls_m3u8.specs.declared.playlist.MediaPlaylist.{MediaPlaylist}
use Rattle.hls_playlists_laws.specs.JobResource.{units_between}
use Rattle.hls_playlists_laws.specs.SegmentLaws.{first_fragment, end_fragment}
use Rattle.hls_catchup.specs.declared.cut_result.CutResult.TheVariants.{Cut}
use Rattle.hls_catchup.specs.declared.reply_units.ReplyUnits.{ReplyUnits}
use Rattle.hls_catchup.specs.Answers.{IsRightCutResult}
use Rattle.hls_catchup.specs.Requests.{IsRightAnswer}
use Rattle.hls_catchup.specs.Replies.{ReplyData}
use Rattle.hls_catchup.specs.Resources.{parts_of}
use Rattle.hls_catchup.specs.ReplyUnits.{AreReplyUnits}

-- a rendition with a recording is one of the channel
pub lane_there : (s : State) (r : ℕ) (recorded : RecordingData) → recording_of s r ≡ Some recorded → r < length (channel s).lanes
lane_there s r recorded is =
    elim (cases_lt r (length (channel s).lanes)) [
      | inl within ↦ within
      | inr past ↦
          (let none : recording_of s r ≡ None = ap (λ o. recorded_at o (held_bytes s r)) (slice_get_past (channel s).lanes r past) in
          let both : None ≡ Some recorded = sym none ∙ is in
          cc)
    ]

-- the units between the first and the last place of a right answer's table are kept, and are those of the reply
pub span_is : (reply : ReplyData) (r : ℕ) (lists : Vec MediaPlaylist Global) (certificate : CertificateData) (span : ReplyUnits) →
    reply.cut_result ≡ Cut lists certificate → IsRightAnswer reply.state reply.request reply.cut_result → recording_of reply.state r ≡ Some span.recording.now →
    span.first ≡ first_fragment certificate.table r → span.end ≡ end_fragment certificate.table r → AreReplyUnits reply r span
span_is reply r lists certificate span cut right is first end =
    let s : State = reply.state in
    let recorded : RecordingData = span.recording.now in
    let shown : IsRightCutResult s.config.epoch right.recordings right.table (Cut lists certificate) =
    subst (IsRightCutResult s.config.epoch right.recordings right.table) cut right.right in
    let table : certificate.table ≡ right.table = shown.0.0 in
    let within = lane_there s r recorded is in
    let found = some_at right.recordings r (omega (arith, right.are.count)) in
    let there : recording_of s r ≡ Some found.0 = right.are.each r found.0 found.1 in
    let same : found.0 ≡ recorded = (let both : Some found.0 ≡ Some recorded = sym there ∙ is in cc) in
    let kept : found.0.floor ≤ first_fragment right.table r = (right.covered.each r found.0 found.1).kept in
    let floors : found.0.floor ≡ recorded.floor = ap (λ (x : RecordingData). x.floor) same in
    let firsts : first_fragment certificate.table r ≡ first_fragment right.table r = ap (λ t. first_fragment t r) table in
    let head : List ℕ = recorded.head in
    record {
      recorded = is;
      kept = omega arith;
      parts = ap (parts_of s r) cut
          ∙ ap (option_map (λ (x : RecordingData). x.head ∷ units_between x.floor x.units (first_fragment certificate.table r) (end_fragment certificate.table r))) is
          ∙ ap (λ n. Some (head ∷ units_between recorded.floor recorded.units n (end_fragment certificate.table r))) (sym first)
          ∙ ap (λ n. Some (head ∷ units_between recorded.floor recorded.units span.first n)) (sym end);
    }
