-- The meaning of the lines of a media playlist, in order (RFC 8216 section 4.3).

use Rattle.std.specs.Prelude.{ℕ, ◌+◌, ℤ, ◌==◌, ◌&&◌, Bool, true, false, not, if◌then◌else◌, nat_lt, List, [], ◌∷◌, ◌++◌, length, Option, Some, None, option_and_then, Result, Ok, Err, codes}
use Rattle.std.specs.Str.{bytes_eq, is_utf8}
use Rattle.hls_m3u8.specs.declared.playlist.ByteRange.{ByteRange}
use Rattle.hls_m3u8.specs.declared.playlist.InitSection.{InitSection}
use Rattle.hls_m3u8.specs.declared.playlist.MediaSegment.{MediaSegment}
use Rattle.hls_m3u8.specs.declared.fault.ListFault.{ListFault}
use Rattle.hls_m3u8.specs.declared.fault.ListFault.TheVariants.{NotM3u, Utf8, BadTag, MissingTag, TooLong}
use Rattle.hls_m3u8.specs.declared.tag.Tag.{Tag}
use Rattle.hls_m3u8.specs.declared.tag.Tag.TheVariants as tag
use Rattle.hls_m3u8.specs.ReaderRecords.{RangeTag, UriRange, TagState, SegmentTags}
use Rattle.hls_m3u8.specs.Limits.{text_limit, segment_limit, number_limit}
use Rattle.hls_m3u8.specs.Playlist.{Playlist}
use Rattle.hls_m3u8.specs.TextLines.{split_at, text_lines}
use Rattle.hls_m3u8.specs.Tags.{tag_of}
use Rattle.hls_m3u8.specs.Values.{limited_number, seconds, range_tag, kind_of}
use Rattle.hls_m3u8.specs.Attributes.{map_tag}
use Rattle.hls_instants.specs.Instants.{instant_of, whole_milliseconds}

-- The effect of a tag, or None if it is rejected

-- a tag may occur at most once: the next state, unless the tag has a value already
abbrev pub set_absent : {A : Type 0} → Option A → TagState → Option TagState
set_absent None next = Some next
set_absent (Some value) next = None

-- the same for a tag with a value, which must be valid
abbrev pub set_absent_value : {A : Type 0} → Option A → Option A → (A → TagState) → Option TagState
set_absent_value None place next = None
set_absent_value (Some value) place next = set_absent place (next value)

-- a tag is accepted only before the first segment
abbrev pub before_first_segment : TagState → Option TagState → Option TagState
before_first_segment r next = if r.count == 0 then next else None

-- the whole number that a tag's value is; None without a value
abbrev pub required_number : Option (List ℕ) → Option ℕ
required_number None = None
required_number (Some value) = limited_number value

-- EXT-X-MEDIA-SEQUENCE: a number, at most once, and before the first segment
abbrev pub with_media_sequence : TagState → Option ℕ → Option TagState
with_media_sequence r None = None
with_media_sequence r (Some n) = before_first_segment r (set_absent r.media_sequence (record r { media_sequence = Some n }))

-- EXT-X-DISCONTINUITY-SEQUENCE: a number, at most once, and before the first segment
abbrev pub with_discontinuity_sequence : TagState → Option ℕ → Option TagState
with_discontinuity_sequence r None = None
with_discontinuity_sequence r (Some n) = before_first_segment r (set_absent r.discontinuity_sequence (record r { discontinuity_sequence = Some n }))

-- the microseconds of EXTINF's value; a title may follow a comma
abbrev pub length_value : Option (List ℕ) → Option ℕ
length_value None = None
length_value (Some value) = seconds (split_at 44 value).front

-- two byte ranges are equal, or both are missing
abbrev pub same_range : Option ByteRange → Option ByteRange → Bool
same_range None None = true
same_range None (Some b) = false
same_range (Some a) None = false
same_range (Some a) (Some b) = (a.length == b.length) && (a.offset == b.offset)

-- two ranges have the same URI and the same bytes
abbrev pub same_resource : UriRange → UriRange → Bool
same_resource a b = bytes_eq a.uri b.uri && same_range a.range b.range

-- the first EXT-X-MAP precedes the first segment; a later one must equal it
abbrev pub map_after : TagState → Option UriRange → UriRange → Option TagState
map_after r None m = before_first_segment r (Some (record r { map = Some m }))
map_after r (Some first) m = if same_resource first m then Some r else None

-- EXT-X-MAP with valid attributes is the first map and before the first segment, or it equals the first map
abbrev pub with_map : TagState → Option UriRange → Option TagState
with_map r None = None
with_map r (Some m) = map_after r r.map m

-- EXT-X-DISCONTINUITY has no value and occurs at most once before a URI
abbrev pub with_mark : TagState → Option (List ℕ) → Option TagState
with_mark r None = if r.mark then None else Some (record r { mark = true })
with_mark r (Some value) = None

-- an instant rounded down to whole milliseconds, if there is one
abbrev pub in_milliseconds : Option ℤ → Option ℤ
in_milliseconds None = None
in_milliseconds (Some us) = Some (whole_milliseconds us)

-- the instant that EXT-X-PROGRAM-DATE-TIME names, in whole milliseconds
abbrev pub date_value : Option (List ℕ) → Option ℤ
date_value None = None
date_value (Some value) = in_milliseconds (instant_of value)

-- EXT-X-PROGRAM-DATE-TIME occurs at most once before a URI; a value that isn't an instant is ignored, like an unknown tag
abbrev pub with_date : TagState → Option ℤ → Option TagState
with_date r None = Some r
with_date r (Some us) = set_absent r.date (record r { date = Some us })

-- EXT-X-ENDLIST has no value and occurs at most once
abbrev pub with_end : TagState → Option (List ℕ) → Option TagState
with_end r None = if r.ended then None else Some (record r { ended = true })
with_end r (Some value) = None

-- the state after a tag with the text after its colon; None if the tag is rejected
abbrev pub state_after_tag : TagState → Tag → Option (List ℕ) → Option TagState
state_after_tag r tag.Version value = set_absent_value (required_number value) r.version (λ n. record r { version = Some n })
state_after_tag r tag.TargetDuration value = set_absent_value (required_number value) r.target (λ n. record r { target = Some n })
state_after_tag r tag.MediaSequence value = with_media_sequence r (required_number value)
state_after_tag r tag.DiscontinuitySequence value = with_discontinuity_sequence r (required_number value)
state_after_tag r tag.PlaylistType value = set_absent_value (option_and_then kind_of value) r.kind (λ kind. record r { kind = Some kind })
state_after_tag r tag.Extinf value = set_absent_value (length_value value) r.us (λ us. record r { us = Some us })
state_after_tag r tag.Byterange value = set_absent_value (option_and_then range_tag value) r.range (λ range. record r { range = Some range })
state_after_tag r tag.Map value = with_map r (option_and_then map_tag value)
state_after_tag r tag.Discontinuity value = with_mark r value
state_after_tag r tag.ProgramDateTime value = with_date r (date_value value)
state_after_tag r tag.Endlist value = with_end r value
state_after_tag r tag.Refused value = None
state_after_tag r tag.Unknown value = Some r

-- The effect of a URI

-- the state after a line, and the segment that its URI completes
pub record LineResult : Type 0 where
  pub state : TagState
  pub found : Option SegmentTags

-- a range of n bytes without an offset begins at the end of the last segment's range
abbrev pub range_after : Option ByteRange → ℕ → Option ByteRange
range_after None n = None
range_after (Some b) n =
    if nat_lt (b.offset + b.length) number_limit then Some (record { length = n; offset = b.offset + b.length }) else None

-- a range of n bytes after the last segment's range, if that segment has one in the resource of this URI
abbrev pub range_after_last : Option UriRange → List ℕ → ℕ → Option ByteRange
range_after_last None uri n = None
range_after_last (Some last) uri n = if bytes_eq last.uri uri then range_after last.range n else None

-- a range of n bytes at its offset, or after the last segment's range if it has no offset
abbrev pub resolved_range : Option UriRange → List ℕ → ℕ → Option ℕ → Option ByteRange
resolved_range last uri n None = range_after_last last uri n
resolved_range last uri n (Some offset) = Some (record { length = n; offset = offset })

-- a range that was found is the segment's range; without one the segment is rejected
abbrev pub as_range : Option ByteRange → Option (Option ByteRange)
as_range None = None
as_range (Some range) = Some (Some range)

-- the range of a segment, which may have none; the outer None if it is rejected
abbrev pub segment_range : Option UriRange → List ℕ → Option RangeTag → Option (Option ByteRange)
segment_range last uri None = Some None
segment_range last uri (Some tag) = as_range (resolved_range last uri tag.length tag.offset)

-- a URI completes a segment with the tags before it; the next segment has no tags yet, and one more segment is counted
abbrev pub result_after_segment : TagState → List ℕ → ℕ → Option ByteRange → LineResult
result_after_segment r uri us range = record {
  state = record r { us = None; range = None; mark = false; date = None; last = Some (record { uri = uri; range = range }); count = r.count + 1 };
  found = Some (record { mark = r.mark; date = r.date; us = us; range = range });
}

-- a segment is rejected if its range isn't valid (BadTag) or there are too many segments (TooLong)
abbrev pub segment_within : ℕ → TagState → List ℕ → ℕ → Option (Option ByteRange) → Result LineResult ListFault
segment_within line r uri us None = Err (BadTag line)
segment_within line r uri us (Some range) = if nat_lt r.count segment_limit then Ok (result_after_segment r uri us range) else Err TooLong

-- the effect of a URI: it needs an EXTINF before it
abbrev pub uri_step : ℕ → TagState → List ℕ → Option ℕ → Result LineResult ListFault
uri_step line r uri None = Err MissingTag
uri_step line r uri (Some us) = segment_within line r uri us (segment_range r.last uri r.range)

-- A line

-- the effect of a tag: BadTag with the line's number if the tag is rejected
abbrev pub tag_step : ℕ → Option TagState → Result LineResult ListFault
tag_step line None = Err (BadTag line)
tag_step line (Some r) = Ok (record { state = r; found = None })

-- the effect of line n: an empty line, a tag or a comment, or a URI
abbrev pub line_step : ℕ → TagState → List ℕ → Result LineResult ListFault
line_step line r [] = Ok (record { state = r; found = None })
line_step line r (b ∷ bytes) =
    if b == 35 then tag_step line (state_after_tag r (tag_of (split_at 58 (b ∷ bytes)).front) (split_at 58 (b ∷ bytes)).remainder)
    else uri_step line r (b ∷ bytes) r.us

-- Lines

-- the state after all lines, and the segments in order
pub record LinesResult : Type 0 where
  pub state : TagState
  pub segments : List MediaSegment

-- the segment that a line's URI completes, or none
abbrev pub segments_of : List ℕ → Option SegmentTags → List MediaSegment
segments_of uri None = []
segments_of uri (Some found) = record { mark = found.mark; date = found.date; us = found.us; range = found.range; uri = uri } ∷ []

-- these segments precede those of the remaining lines, unless the remaining lines are rejected
abbrev pub with_segments : List MediaSegment → Result LinesResult ListFault → Result LinesResult ListFault
with_segments segments (Err fault) = Err fault
with_segments segments (Ok all) = Ok (record { state = all.state; segments = segments ++ all.segments })

-- the remaining lines are read in the state after this line, unless this line is rejected
abbrev pub then_lines : List ℕ → Result LineResult ListFault → (TagState → Result LinesResult ListFault) → Result LinesResult ListFault
then_lines line (Err fault) rest = Err fault
then_lines line (Ok stepped) rest = with_segments (segments_of line stepped.found) (rest stepped.state)

-- the result of reading these lines, which begin with line n
unfoldable pub read_from : ℕ → TagState → List (List ℕ) → Result LinesResult ListFault
read_from n r [] = Ok (record { state = r; segments = [] })
read_from n r (line ∷ lines) = then_lines line (line_step n r line) (λ next. read_from (n + 1) next lines)

-- The whole text

-- the state before the first line: no tag and no segment
abbrev pub initial_state : TagState
initial_state = record {
  version = None;
  target = None;
  media_sequence = None;
  discontinuity_sequence = None;
  kind = None;
  map = None;
  ended = false;
  us = None;
  range = None;
  mark = false;
  date = None;
  last = None;
  count = 0;
}

-- a tag's number, or the default if the tag is missing
abbrev pub value_or : Option ℕ → ℕ → ℕ
value_or None n = n
value_or (Some m) n = m

-- the init section that EXT-X-MAP names
abbrev pub map_of : Option UriRange → Option InitSection
map_of None = None
map_of (Some m) = Some (record { uri = m.uri; range = m.range })

-- the playlist by the state after all lines; the version is 1 and the sequence numbers are 0 if their tags are missing
abbrev pub list_of : ℕ → LinesResult → Playlist
list_of target all = record {
  version = value_or all.state.version 1;
  target = target;
  media_sequence = value_or all.state.media_sequence 0;
  discontinuity_sequence = value_or all.state.discontinuity_sequence 0;
  kind = all.state.kind;
  map = map_of all.state.map;
  segments = all.segments;
  ended = all.state.ended;
}

-- the target duration, if there is one and each EXTINF has its URI
abbrev pub required_target : Option ℕ → Option ℕ → Option ℕ
required_target None us = None
required_target (Some target) None = Some target
required_target (Some target) (Some us) = None

-- the playlist if it has a target duration, and otherwise MissingTag
abbrev pub list_with_target : LinesResult → Option ℕ → Result Playlist ListFault
list_with_target all None = Err MissingTag
list_with_target all (Some target) = Ok (list_of target all)

-- the playlist by the result of reading all lines, or its fault
abbrev pub finished_list : Result LinesResult ListFault → Result Playlist ListFault
finished_list (Err fault) = Err fault
finished_list (Ok all) = list_with_target all (required_target all.state.target all.state.us)

-- the playlist of these lines: the first one is #EXTM3U, the others are read from line 2
abbrev pub list_of_lines : List (List ℕ) → Result Playlist ListFault
list_of_lines [] = Err NotM3u
list_of_lines (line ∷ lines) =
    if bytes_eq line (codes "#EXTM3U") then finished_list (read_from 2 initial_state lines) else Err NotM3u

-- whether a text begins with the byte order mark of UTF-8, EF BB BF
abbrev pub has_order_mark : List ℕ → Bool
has_order_mark (a ∷ b ∷ c ∷ text) = (a == 239) && (b == 187) && (c == 191)
has_order_mark text = false

-- the playlist that the text is read as, or why it is rejected
abbrev pub reading_of : List ℕ → Result Playlist ListFault
reading_of text =
    if nat_lt text_limit (length text) then Err TooLong
    else (if not (is_utf8 text) then Err Utf8
    else (if has_order_mark text then Err Utf8
    else list_of_lines (text_lines text)))
