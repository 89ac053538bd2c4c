-- The units of a reply in their recording.
use Rattle.std.specs.Prelude.{◌≡◌, ℕ, ◌≤◌, ◌∷◌, Some}
use Rattle.hls_core.specs.Getters.{recording_of}
use Rattle.hls_playlists_laws.specs.JobResource.{units_between}
use Rattle.hls_catchup.specs.declared.reply_units.ReplyUnits.{ReplyUnits}
use Rattle.hls_catchup.specs.Replies.{ReplyData}
use Rattle.hls_catchup.specs.Resources.{parts_in}

-- the recording is that of the rendition; its units from the first to the one before the end are kept, and are the reply's
pub record AreReplyUnits (reply : ReplyData) (r : ℕ) (span : ReplyUnits) : Type 0 where
  pub recorded : recording_of reply.state r ≡ Some span.recording.now
  pub kept : span.recording.now.floor ≤ span.first
  pub parts : parts_in reply r ≡ Some (span.recording.now.head ∷ units_between span.recording.now.floor span.recording.now.units span.first span.end)
