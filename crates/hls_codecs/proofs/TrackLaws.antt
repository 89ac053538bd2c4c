-- A video entry that is long enough.
use Rattle.std.proofs.Common.{◌≡◌, ℕ, ◌≤◌, nat_lt, Bool, false, List, length, drop, refl, arith}
use Rattle.std.proofs.lemmas.Bool.Decides.{nat_tests}
use Rattle.hls_codecs.specs.Tracks.{video_of_boxes, video_at}

-- a video entry of at least 78 bytes isn't too short
is-long : (n : ℕ) → 78 ≤ n → nat_lt n 78 ≡ false
is-long n long = grind (arith, nat_tests)

-- the format of a video track with an entry of at least 78 bytes is that by the boxes after them
pub video-boxes : (turned : Bool) (kind : ℕ) (entry : List ℕ) → 78 ≤ length entry → video_of_boxes turned kind entry (drop 78 entry) ≡ video_at turned kind entry
unfolding video_at
video-boxes turned kind entry long = rw (is-long (length entry) long) refl
