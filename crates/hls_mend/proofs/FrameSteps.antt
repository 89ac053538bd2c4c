-- Frames of a codec, one after another.
use Rattle.std.proofs.Common.{◌≡◌, ℕ, suc, ◌+◌, ◌-◌, ◌≤◌, [], ◌∷◌, ◌++◌, refl, arith}
use Rattle.hls_mend_laws.specs.declared.filler.FrameLength.{FrameLength}
use Rattle.hls_mend_laws.specs.Fillers.{frame_count, frames_end, silent_sample, whole_frames}
use Rattle.hls_mend_laws.proofs.Callers.{frames-within}

-- no frames
pub frames_zero : (l : FrameLength) (size : ℕ) → whole_frames l size 0 ≡ []
unfolding whole_frames
frames_zero l size = refl

-- the first n + 1 frames are the first n and one from their end to the next one's
pub frames_next : (l : FrameLength) (size n : ℕ) → whole_frames l size (n + 1) ≡ whole_frames l size n ++ silent_sample (frames_end l (n + 1) - frames_end l n) size ∷ []
unfolding whole_frames
frames_next l size n = let a : n + 1 ≡ suc n = omega arith in rw a refl

-- the whole frames of some ticks end within them
pub frames_fit : (l : FrameLength) (ticks : ℕ) → frames_end l (frame_count l ticks) ≤ ticks
frames_fit l ticks = frames-within l ticks
