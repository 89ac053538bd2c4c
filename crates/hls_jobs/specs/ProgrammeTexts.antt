-- The texts of a programme by its address, which were made of one reply.
use Rattle.std.specs.{Prelude.{◌≡◌, ℕ, List, [], ◌∷◌, length, Option, Some, None, slice_get}, declared.sync.Arc.Arc}
use Rattle.hls_catchup.specs.declared.request.Request.{Request}
use Rattle.hls_catchup.specs.Replies.{ReplyData, IsRightReply}
use Rattle.hls_catchup.specs.Jobs.Files.{certificate_file}
use Rattle.hls_jobs.specs.Programmes.{list_count, master_file, programme_list_file}
use Rattle.hls_jobs.specs.declared.programme_texts.ProgrammeTexts.TheInside.{Inside}

-- the reply that was noted first, if any was
abbrev pub noted_reply : {A B : Type 0} → List (Arc ReplyData A × B) → Option ReplyData
noted_reply [] = None
noted_reply ((reply, n) ∷ others) = Some reply.value

-- there is a text for each of the reply's playlists, and it is that playlist's
pub record AreLists (reply : ReplyData) (lists : List (List ℕ)) : Type 0 where
  pub count : length lists ≡ list_count reply
  pub each : (r : ℕ) (text : List ℕ) → slice_get lists r ≡ Some text → programme_list_file reply r ≡ Some text

-- the request and the texts are those of a right reply
pub record AreTextsOf (t : Inside) (reply : ReplyData) : Type 0 where
  pub request_is : t.request ≡ reply.request
  pub right : IsRightReply reply.state reply.request reply
  pub master : t.master ≡ master_file reply
  pub lists : AreLists reply t.lists.items
  pub certificate : t.certificate ≡ certificate_file reply

-- there is a reply, and the request and the texts are those of it
abbrev pub AreTexts : Inside → Option ReplyData → Type 0
AreTexts t None = ⊥
AreTexts t (Some reply) = AreTextsOf t reply

-- there is a reply, and it is a right one to the request
abbrev pub IsReplyFor : Request → Option ReplyData → Type 0
IsReplyFor request None = ⊥
IsReplyFor request (Some reply) = IsRightReply reply.state request reply
