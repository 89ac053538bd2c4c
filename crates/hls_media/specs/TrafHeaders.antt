-- What the code collects of the header of a `traf`, box by box, each visited once.
-- For the proofs of this crate; no public clause cites it.
use Rattle.std.specs.Prelude.{ℕ, ◌==◌, nat_le, Bool, ◌&&◌, if◌then◌else◌, Option, Some, None, is_some, option_map, option_and_then, List, [], length, slice_get, slice_index_or}
use Rattle.std.specs.List.{list_all}
use Rattle.hls_boxes.specs.Boxes.{Child, children, contents_of_type}
use Rattle.hls_media_laws.specs.Kinds.{tfhd_type, tfdt_type}
use Rattle.hls_media_laws.specs.Fields.{tfhd_fits, tfdt_fits, decode_time}
use Rattle.hls_media.specs.declared.tfhd.Tfhd.{Tfhd}
use Rattle.hls_media.specs.declared.traf_header.TrafHeader.{TrafHeader}
use Rattle.hls_media.specs.declared.traf_header.PartialTrafHeader.{PartialTrafHeader}
use Rattle.hls_media.specs.Boxes.{tfhd_fields, tfhd_of, tfdt_of}

-- the header of a `traf` with this `tfhd` and, if it has one, this `tfdt`: the kept fields, and the decode time
unfoldable pub header_with : List ℕ → Option (List ℕ) → TrafHeader
header_with head time = record { head = tfhd_fields head; time = option_map decode_time time }

-- exactly one `tfhd`, at most one `tfdt`, and no field beyond its box
abbrev pub is_traf_header : List (List ℕ) → List (List ℕ) → Bool
is_traf_header heads times = (length heads == 1) && list_all tfhd_fits heads && nat_le (length times) 1 && list_all tfdt_fits times

-- the header by the contents of the `tfhd` and `tfdt` boxes, or None if a header can't have these
abbrev pub header_from : List (List ℕ) → List (List ℕ) → Option TrafHeader
header_from heads times = if is_traf_header heads times then Some (header_with (slice_index_or heads 0 []) (slice_get times 0)) else None

-- the header by all boxes of a `traf`, or None if it isn't valid
abbrev pub header_of_boxes : List Child → Option TrafHeader
header_of_boxes boxes = header_from (contents_of_type tfhd_type boxes) (contents_of_type tfdt_type boxes)

-- the header of the `traf` with this content, whatever its runs are
unfoldable pub header_of_traf : List ℕ → Option TrafHeader
header_of_traf content = option_and_then header_of_boxes (children content)

-- what is found of a header before the first box
abbrev pub no_header : PartialTrafHeader
no_header = record { head = None; time = None }

-- one step of the walk: a `tfhd` or `tfdt` is kept if it is valid and the first of its type, and other boxes are skipped
abbrev pub header_step : PartialTrafHeader → ℕ → List ℕ → Option PartialTrafHeader
header_step s kind content =
    if kind == tfhd_type then (if is_some s.head then None else option_map (λ (h : Tfhd). record s { head = Some h }) (tfhd_of content))
    else (if kind == tfdt_type then (if is_some s.time then None else option_map (λ (t : ℕ). record s { time = Some t }) (tfdt_of content))
    else Some s)

-- the header that was found, if there was a `tfhd`
abbrev pub finished_header : PartialTrafHeader → Option TrafHeader
finished_header s = option_map (λ (h : Tfhd). record { head = h; time = s.time }) s.head
