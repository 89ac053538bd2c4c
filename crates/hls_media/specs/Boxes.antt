-- The fields of a `tfhd`, a `tfdt` and a `trun` that the code keeps, or None if a field extends beyond its box.
-- For the proofs of this crate; no public clause cites it.
use Rattle.std.specs.Prelude.{◌≡◌, ◌+◌, ◌*◌, ◌≤◌, length, ℕ, if◌then◌else◌, Option, Some, None, List}
use Rattle.std.specs.Int.{w32}
use Rattle.hls_boxes.specs.Boxes.{number_at}
use Rattle.hls_media_laws.specs.Flags.{sample_duration_present, sample_size_present, sample_flags_present, sample_composition_time_offsets_present}
use Rattle.hls_media_laws.specs.Fields.{field_width, has_flag, track_id_of, tfhd_fits, default_duration, default_size, default_flags, tfdt_fits, decode_time, trun_fits, sample_count, data_offset, first_flags_of, rows_offset, row_len}
use Rattle.hls_media.specs.declared.tfhd.Tfhd.{Tfhd}
use Rattle.hls_media.specs.declared.trun.Trun.{Trun}

-- the fields of a `tfhd` that the code keeps: its track, its flags, and the default duration, size and flags of samples
unfoldable pub tfhd_fields : List ℕ → Tfhd
tfhd_fields h = record { track = track_id_of h; flags = number_at w32 0 h; duration = default_duration h; size = default_size h; sample_flags = default_flags h }

-- the kept fields of a `tfhd` with this content, if they are within it
unfoldable pub tfhd_of : List ℕ → Option Tfhd
tfhd_of h = if tfhd_fits h then Some (tfhd_fields h) else None

-- the decode time of a `tfdt` with this content, if its fields are within it
unfoldable pub tfdt_of : List ℕ → Option ℕ
tfdt_of t = if tfdt_fits t then Some (decode_time t) else None

-- the kept fields of a `trun` with this content, and where its rows are, if all of them are within it
unfoldable pub trun_of : List ℕ → Option Trun
trun_of r =
    if trun_fits r then Some (record { flags = number_at w32 0 r; count = sample_count r; offset = data_offset r; first_flags = first_flags_of r; rows = rows_offset r; row = row_len r })
    else None

-- the kept fields are those of the `trun` with this content, and its rows are within it
pub record IsRun (run : Trun) (content : List ℕ) : Type 0 where
  pub kept : trun_of content ≡ Some run
  pub flags : run.flags ≡ number_at w32 0 content
  pub count : run.count ≡ sample_count content
  pub offset : run.offset ≡ data_offset content
  pub first_flags : run.first_flags ≡ first_flags_of content
  pub rows : run.rows ≡ rows_offset content
  pub row : run.row ≡ row_len content
  pub row_is : run.row ≡ field_width (has_flag content sample_duration_present) + field_width (has_flag content sample_size_present) + field_width (has_flag content sample_flags_present) + field_width (has_flag content sample_composition_time_offsets_present)
  pub fits : run.rows + run.count * run.row ≤ length content
  pub least : 8 ≤ run.rows
