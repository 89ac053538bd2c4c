-- Which rendition the live playlists wait for: a place is decided once each unfinished rendition has a later sync sample.
use Rattle.std.specs.Prelude.{◌≡◌, ℕ, ◌-◌, ◌*◌, ◌<◌, Bool, true, false, not, ◌&&◌, nat_lt, max, min, is_some, Option, Some, None, List, slice_get, fold}
use Rattle.hls_housekeeper.specs.declared.lag.{RenditionProgress.RenditionProgress, MediaExtent.MediaExtent, LateRendition.LateRendition}

-- the later of an end and a rendition's last sync sample, if it has one
abbrev pub later_end : ℕ → Option MediaExtent → ℕ
later_end end None = end
later_end end (Some extent) = max extent.until end

-- the earlier of a begin and that of a rendition's media, if it has any
abbrev pub earlier_begin : ℕ → Option MediaExtent → ℕ
earlier_begin begin None = begin
earlier_begin begin (Some extent) = min extent.from begin

-- the latest sync sample of all renditions that have begun, in microseconds; 0 if none has
abbrev pub last_end : List RenditionProgress → ℕ
last_end all_progress = fold (λ end progress. later_end end progress.extent) 0 all_progress

-- the earliest begin of all renditions that have begun, in microseconds; `end` if it is earlier
abbrev pub first_begin : ℕ → List RenditionProgress → ℕ
first_begin end all_progress = fold (λ begin progress. earlier_begin begin progress.extent) end all_progress

-- how far a rendition's last sync sample is before the latest one; if it hasn't begun, everything that the others have
abbrev pub lag_between : ℕ → ℕ → Option MediaExtent → ℕ
lag_between begin end None = end - begin
lag_between begin end (Some extent) = end - extent.until

-- how far a rendition lags, in microseconds
abbrev pub lag_us : List RenditionProgress → RenditionProgress → ℕ
lag_us all_progress progress = lag_between (first_begin (last_end all_progress) all_progress) (last_end all_progress) progress.extent

-- a rendition that is not finished lags more than three target durations, given the earliest begin and the latest sync sample
abbrev pub is_late_between : ℕ → ℕ → ℕ → RenditionProgress → Bool
is_late_between target begin end progress = not progress.finished && nat_lt (3000000 * target) (lag_between begin end progress.extent)

-- a rendition that is not finished lags more than three target durations
abbrev pub is_late : ℕ → List RenditionProgress → RenditionProgress → Bool
is_late target all_progress progress = is_late_between target (first_begin (last_end all_progress) all_progress) (last_end all_progress) progress

-- none of the first n renditions is late
abbrev pub NoneLate : ℕ → List RenditionProgress → ℕ → Type 0
NoneLate target all_progress n = (k : ℕ) (progress : RenditionProgress) → k < n → slice_get all_progress k ≡ Some progress → is_late target all_progress progress ≡ false

-- the first late rendition
pub record IsFirstLate (target : ℕ) (all_progress : List RenditionProgress) (late : LateRendition) : Type 0 where
  pub progress : RenditionProgress
  pub there : slice_get all_progress late.rendition ≡ Some progress
  pub late_is : is_late target all_progress progress ≡ true
  pub before : NoneLate target all_progress late.rendition
  pub begun : late.begun ≡ is_some progress.extent
  pub lag_is : late.lag ≡ lag_us all_progress progress
