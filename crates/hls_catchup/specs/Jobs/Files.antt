-- The texts among a job's files.
use Rattle.std.specs.Prelude.{ℕ, List, option_map, Option, Some, None, slice_get}
use Rattle.hls_check_tables.specs.Certificates.{CertificateData}
use Rattle.hls_check.specs.Text.{text}
use Rattle.hls_m3u8.specs.Playlist.{playlist_of}
use Rattle.hls_m3u8.specs.Lines.{media_text}
use Rattle.hls_m3u8.specs.Masters.{master_text}
use Rattle.hls_core_laws.specs.State.{State}
use Rattle.hls_playlists_laws.specs.Masters.{job_master}
use Rattle.hls_catchup.specs.declared.cut_result.CutResult.{CutResult}
use Rattle.hls_catchup.specs.declared.cut_result.CutResult.TheVariants.{Cut, NoCut}
use Rattle.hls_catchup.specs.Replies.{ReplyData}

-- the certificate of a cut result, with playlists or without
abbrev pub certificate_of : CutResult → CertificateData
certificate_of (Cut lists certificate) = certificate
certificate_of (NoCut certificate) = certificate

-- the text of a reply's certificate
abbrev pub certificate_file : ReplyData → List ℕ
certificate_file reply = text (certificate_of reply.cut_result)

-- the text of a rendition's playlist; none if the programme has no plan, or there is no such rendition
abbrev pub playlist_in : CutResult → ℕ → Option (List ℕ)
playlist_in (Cut lists certificate) r = option_map (λ list. media_text (playlist_of list)) (slice_get lists.items r)
playlist_in (NoCut certificate) r = None

-- the same for the cut result of a reply
abbrev pub playlist_file : ReplyData → ℕ → Option (List ℕ)
playlist_file reply r = playlist_in reply.cut_result r

-- the text of the master playlist in the same folder; none if the programme has no plan
abbrev pub master_in : State → CutResult → Option (List ℕ)
master_in s (Cut lists certificate) = Some (master_text (job_master s))
master_in s (NoCut certificate) = None

-- the same for a reply and its own state
abbrev pub master_file : ReplyData → Option (List ℕ)
master_file reply = master_in reply.state reply.cut_result
