-- The line about the text of a media playlist.
use Rattle.std.specs.Prelude.{ℕ, ◌-◌, ◌^◌, Bool, true, false, List, [], ◌∷◌, ◌++◌, length, min, Option, Some, None, Result, Ok, Err, codes}
use Rattle.std.specs.Fmt.{decimal}
use Rattle.std.specs.List.{sum_by}
use Rattle.hls_time.specs.Seconds.{seconds_text}
use Rattle.hls_text.specs.Numbers.{spaced_numbers}
use Rattle.hls_m3u8.specs.declared.fault.ListFault.{ListFault}
use Rattle.hls_m3u8.specs.declared.fault.ListFault.TheVariants.{NotM3u, Utf8, BadTag, MissingTag, TooLong, Memory}
use Rattle.hls_m3u8.specs.declared.playlist.PlaylistKind.{PlaylistKind}
use Rattle.hls_m3u8.specs.declared.playlist.PlaylistKind.TheVariants.{Vod, Event}
use Rattle.hls_m3u8.specs.declared.playlist.MediaSegment.{MediaSegment}
use Rattle.hls_m3u8.specs.FaultName.{list_fault_name}
use Rattle.hls_m3u8.specs.Playlist.{Playlist}

-- a label and a number in decimal
abbrev pub field : List ℕ → ℕ → List ℕ
field label n = label ++ decimal n

-- the length of a segment in microseconds
abbrev pub us_of : MediaSegment → ℕ
us_of segment = segment.us

-- the longest time that is printed, in microseconds
abbrev pub longest_us : ℕ
longest_us = 2 ^ 53 - 1

-- the total length of the segments, capped at the longest time that is printed
abbrev pub total_us : List MediaSegment → ℕ
total_us segments = min (sum_by us_of segments) longest_us

-- the number of segments, as the line begins
abbrev pub count_words : List MediaSegment → List ℕ
count_words segments = field (codes "media playlist: ") (length segments)

-- the segments' total length in seconds, as the line continues
abbrev pub length_words : ℕ → List ℕ
length_words us = codes " segments, " ++ seconds_text us

-- the number of segments and their total length in seconds
abbrev pub extent : List MediaSegment → List ℕ
extent segments = (count_words segments ++ length_words (total_us segments)) ++ codes " seconds"

-- the target duration and the version
abbrev pub header : Playlist → List ℕ
header list = field (codes ", target ") list.target ++ field (codes ", version ") list.version

-- the media sequence number and the discontinuity sequence number
abbrev pub sequences : Playlist → List ℕ
sequences list = field (codes ", media sequence ") list.media_sequence ++ field (codes ", discontinuity sequence ") list.discontinuity_sequence

-- the kind of a playlist: live, VOD or EVENT
abbrev pub kind_words : Option PlaylistKind → List ℕ
kind_words None = codes ", live"
kind_words (Some Vod) = codes ", VOD"
kind_words (Some Event) = codes ", EVENT"

-- that a playlist has ended, if it has
abbrev pub end_words : Bool → List ℕ
end_words true = codes ", ended"
end_words false = []

-- the line about a playlist, without its line feed
abbrev pub summary : Playlist → List ℕ
summary list = (extent list.segments ++ (header list ++ sequences list)) ++ (kind_words list.kind ++ end_words list.ended)

-- the number of the refused line, if the fault names one
abbrev pub fault_line_numbers : ListFault → List ℕ
fault_line_numbers NotM3u = []
fault_line_numbers Utf8 = []
fault_line_numbers (BadTag line) = line ∷ []
fault_line_numbers MissingTag = []
fault_line_numbers TooLong = []
fault_line_numbers Memory = []

-- the line of an answer, without its line feed
abbrev pub lint_words : Result Playlist ListFault → List ℕ
lint_words (Ok list) = summary list
lint_words (Err f) = codes "refused " ++ (list_fault_name f ++ spaced_numbers (fault_line_numbers f))

-- the line of an answer
abbrev pub lint_line : Result Playlist ListFault → List ℕ
lint_line answer = lint_words answer ++ (10 ∷ [])
