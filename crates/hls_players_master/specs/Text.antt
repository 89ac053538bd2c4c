-- The text of a players' master playlist (RFC 8216 section 4.3.4).
use Rattle.std.specs.Prelude.{ℕ, ◌+◌, ◌/◌, ◌%◌, min, max, Bool, true, false, ◌&&◌, not, if◌then◌else◌, Option, Some, None, List, [], ◌∷◌, ◌++◌, fold, codes, decimal, bytes_eq}
use Rattle.std.specs.List.{list_any}
use Rattle.hls_m3u8.specs.Lines.{text_of_lines, header_line, quoted}
use Rattle.hls_codecs.specs.Texts.{channels_text, language_text}
use Rattle.hls_codecs.specs.declared.track_format.DisplaySize.{DisplaySize}
use Rattle.hls_codecs.specs.declared.track_format.VideoRange.{VideoRange}
use Rattle.hls_codecs.specs.declared.track_format.VideoRange.TheVariants.{Sdr, Hlg, Pq}
use Rattle.hls_codecs.specs.declared.track_format.Channels.{Channels}
use Rattle.hls_players_master.specs.Rates.{most_rate}
use Rattle.hls_players_master.specs.declared.rates.Rates.{Rates}
use Rattle.hls_players_master.specs.declared.summary.RenditionSummary.{RenditionSummary}
use Rattle.hls_players_master.specs.declared.summary.CodecStrings.{CodecStrings}

-- the URI of a rendition's media playlist, beside the master
abbrev pub uri_text : ℕ → List ℕ
uri_text n = decimal n ++ codes ".m3u8"

-- the codec of a sound as the name of an audio group, or "audio" where there is none
abbrev pub or_audio : List ℕ → List ℕ
or_audio [] = codes "audio"
or_audio (b ∷ bytes) = b ∷ bytes

-- the name of the audio group for these codecs, or "audio" where they are unknown
abbrev pub group_of_codecs : Option CodecStrings → List ℕ
group_of_codecs None = codes "audio"
group_of_codecs (Some c) = or_audio c.sound

-- the name of a rendition's audio group
abbrev pub group_of : RenditionSummary → List ℕ
group_of a = group_of_codecs a.codecs

-- whether this is the name of a rendition's audio group
abbrev pub is_of_group : List ℕ → RenditionSummary → Bool
is_of_group group a = bytes_eq (group_of a) group

-- whether a rendition is an audio one
abbrev pub is_audio : RenditionSummary → Bool
is_audio a = not a.video

-- whether a rendition is an audio one of this group
abbrev pub is_in_group : List ℕ → RenditionSummary → Bool
is_in_group group a = is_audio a && is_of_group group a

-- whether a rendition is a video one
abbrev pub is_video : RenditionSummary → Bool
is_video v = v.video

-- DEFAULT and AUTOSELECT of an audio rendition (section 4.3.4.1), by whether it is the first of its group
abbrev pub default_text : Bool → List ℕ
default_text true = codes ",DEFAULT=YES,AUTOSELECT=YES"
default_text false = codes ",DEFAULT=NO,AUTOSELECT=YES"

-- LANGUAGE, if the language is known
abbrev pub language_attribute : Option ℕ → List ℕ
language_attribute None = []
language_attribute (Some packed) = codes ",LANGUAGE=" ++ quoted (language_text packed)

-- CHANNELS, if the channels are known
abbrev pub channels_attribute : Option Channels → List ℕ
channels_attribute None = []
channels_attribute (Some channels) = codes ",CHANNELS=" ++ quoted (channels_text channels)

-- the beginning of the line of an audio rendition
unfoldable pub media_start : List ℕ
media_start = codes "#EXT-X-MEDIA:TYPE=AUDIO,GROUP-ID="

-- the beginning of the line of an audio rendition, with its GROUP-ID
abbrev pub media_group : List ℕ → List ℕ
media_group group = media_start ++ quoted group

-- NAME
abbrev pub name_attribute : List ℕ → List ℕ
name_attribute name = codes ",NAME=" ++ quoted name

-- DEFAULT, AUTOSELECT, LANGUAGE and CHANNELS of an audio rendition
abbrev pub media_details : Bool → RenditionSummary → List ℕ
media_details first a = default_text first ++ (language_attribute a.language ++ channels_attribute a.channels)

-- URI: that of the rendition's media playlist
abbrev pub media_uri : RenditionSummary → List ℕ
media_uri a = codes ",URI=" ++ quoted (uri_text a.number)

-- the line of an audio rendition, by whether it is the first of its group
unfoldable pub media_line : Bool → RenditionSummary → List ℕ
media_line first a = media_group (group_of a) ++ (name_attribute a.name ++ (media_details first a ++ media_uri a))

-- whether none of the renditions before this one is an audio rendition of the same group
abbrev pub is_first : List RenditionSummary → RenditionSummary → Bool
is_first before a = not (list_any (is_in_group (group_of a)) before)

-- the line of a rendition that follows these others: one for an audio rendition, none for a video one
abbrev pub media_of : List RenditionSummary → RenditionSummary → List (List ℕ)
media_of before a = if a.video then [] else media_line (is_first before a) a ∷ []

-- the lines of the audio renditions in order, after those before; the first of each group is its default
unfoldable pub media_lines : List RenditionSummary → List RenditionSummary → List (List ℕ)
media_lines before [] = []
media_lines before (a ∷ others) = media_of before a ++ media_lines (before ++ a ∷ []) others

-- the highest bit rate of a segment, or 0 if nothing was measured
abbrev pub peak_of : Option Rates → ℕ
peak_of None = 0
peak_of (Some r) = r.peak

-- the average bit rate, or 0 if nothing was measured
abbrev pub average_of : Option Rates → ℕ
average_of None = 0
average_of (Some r) = r.average

-- the larger of each of these rates and a rendition's
abbrev pub larger : Rates → RenditionSummary → Rates
larger most a = record { peak = max most.peak (peak_of a.rates); average = max most.average (average_of a.rates) }

-- rates of 0
abbrev pub no_rates : Rates
no_rates = record { peak = 0; average = 0 }

-- the larger of each of these rates and a rendition's, if it is an audio rendition of the group
abbrev pub larger_in : List ℕ → Rates → RenditionSummary → Rates
larger_in group most a = if is_in_group group a then larger most a else most

-- the highest peak rate and the highest average rate of the audio renditions of a group
unfoldable pub largest_of : List ℕ → List RenditionSummary → Rates
largest_of group summaries = fold (larger_in group) no_rates summaries

-- the sum of two rates, at most 2^53 - 1
abbrev pub sum_of_rates : ℕ → ℕ → ℕ
sum_of_rates a b = min most_rate (a + b)

-- AVERAGE-BANDWIDTH: the average rate plus that of the audio, if it was measured
abbrev pub average_attribute : Option Rates → ℕ → List ℕ
average_attribute None audio = []
average_attribute (Some r) audio = codes ",AVERAGE-BANDWIDTH=" ++ decimal (sum_of_rates r.average audio)

-- the peak rate of a rendition plus that of the audio, never below the configured bandwidth
abbrev pub bandwidth_of : RenditionSummary → ℕ → ℕ
bandwidth_of v audio = max v.bandwidth (sum_of_rates (peak_of v.rates) audio)

-- the beginning of the line of a variant stream
unfoldable pub stream_start : List ℕ
stream_start = codes "#EXT-X-STREAM-INF:BANDWIDTH="

-- the beginning of the line of a variant stream, with BANDWIDTH and AVERAGE-BANDWIDTH (section 4.3.4.2)
unfoldable pub bandwidth_text : RenditionSummary → Rates → List ℕ
bandwidth_text v audio = stream_start ++ (decimal (bandwidth_of v audio.peak) ++ average_attribute v.rates audio.average)

-- two lists of codecs with a comma between them; if one is empty, the other
abbrev pub joined : List ℕ → List ℕ → List ℕ
joined [] text = text
joined (b ∷ bytes) [] = b ∷ bytes
joined (b ∷ bytes) (c ∷ text) = b ∷ bytes ++ 44 ∷ c ∷ text

-- what a codec adds to a list of codecs, and whether there are any before it
abbrev pub added_codec : Bool → List ℕ → List ℕ
added_codec before [] = []
added_codec before (c ∷ text) = if before then 44 ∷ c ∷ text else c ∷ text

-- a rendition's codecs, and a group's codec after them if it isn't that of the rendition's own sound
abbrev pub with_sound : CodecStrings → List ℕ → List ℕ
with_sound c sound = joined (joined c.picture c.sound) (if bytes_eq c.sound sound then [] else sound)

-- CODECS, if there are any
abbrev pub codecs_attribute : List ℕ → List ℕ
codecs_attribute [] = []
codecs_attribute (b ∷ bytes) = codes ",CODECS=" ++ quoted (b ∷ bytes)

-- CODECS of a rendition with the sound of another one; left out if the codecs of either are unknown
abbrev pub codecs_with : Option CodecStrings → Option CodecStrings → List ℕ
codecs_with None other = []
codecs_with (Some c) None = []
codecs_with (Some c) (Some d) = codecs_attribute (with_sound c d.sound)

-- width, `x` and height
abbrev pub size_text : DisplaySize → List ℕ
size_text size = decimal size.width ++ 120 ∷ decimal size.height

-- RESOLUTION, if the size is known
abbrev pub size_attribute : Option DisplaySize → List ℕ
size_attribute None = []
size_attribute (Some size) = codes ",RESOLUTION=" ++ size_text size

-- the last digit of a number
abbrev pub digit : ℕ → List ℕ
digit n = (48 + n % 10) ∷ []

-- three decimals
abbrev pub three_digits : ℕ → List ℕ
three_digits n = digit (n / 100) ++ (digit (n / 10) ++ digit n)

-- FRAME-RATE, of thousandths of frames per second, if it is known
abbrev pub frame_rate_attribute : Option ℕ → List ℕ
frame_rate_attribute None = []
frame_rate_attribute (Some rate) = codes ",FRAME-RATE=" ++ (decimal (rate / 1000) ++ 46 ∷ three_digits rate)

-- VIDEO-RANGE, if it is known
abbrev pub range_attribute : Option VideoRange → List ℕ
range_attribute None = []
range_attribute (Some Sdr) = codes ",VIDEO-RANGE=SDR"
range_attribute (Some Hlg) = codes ",VIDEO-RANGE=HLG"
range_attribute (Some Pq) = codes ",VIDEO-RANGE=PQ"

-- RESOLUTION, FRAME-RATE and VIDEO-RANGE of a rendition
unfoldable pub picture_text : RenditionSummary → List ℕ
picture_text v = size_attribute v.size ++ (frame_rate_attribute v.frame_rate ++ range_attribute v.range)

-- a rendition with these rates of an audio group, and the codecs of another rendition
unfoldable pub stream_text : RenditionSummary → Rates → Option CodecStrings → List ℕ
stream_text v audio others = bandwidth_text v audio ++ (codecs_with v.codecs others ++ picture_text v)

-- no closed captions are announced
abbrev pub no_captions : List ℕ
no_captions = codes ",CLOSED-CAPTIONS=NONE"

-- AUDIO: the name of the audio group
abbrev pub audio_attribute : List ℕ → List ℕ
audio_attribute group = codes ",AUDIO=" ++ quoted group

-- the line of a variant stream: a rendition with an audio group, given by its first rendition
unfoldable pub stream_with : List RenditionSummary → RenditionSummary → RenditionSummary → List ℕ
stream_with summaries v a = stream_text v (largest_of (group_of a) summaries) a.codecs ++ (audio_attribute (group_of a) ++ no_captions)

-- the line of a variant stream: a rendition without an audio group
unfoldable pub stream_alone : RenditionSummary → List ℕ
stream_alone v = stream_text v no_rates v.codecs ++ no_captions

-- a rendition with an audio group, given by its first rendition, and the URI of the rendition's media playlist
abbrev pub stream_lines : List RenditionSummary → RenditionSummary → RenditionSummary → List (List ℕ)
stream_lines summaries v a = stream_with summaries v a ∷ uri_text v.number ∷ []

-- a video rendition's variant stream with the group of rendition a, if a is the group's first audio rendition
abbrev pub variant_of : List RenditionSummary → RenditionSummary → List RenditionSummary → RenditionSummary → List (List ℕ)
variant_of summaries v before a = if is_audio a && is_first before a then stream_lines summaries v a else []

-- a video rendition's variant streams with the groups that begin among these renditions, after those before
unfoldable pub variants_with : List RenditionSummary → RenditionSummary → List RenditionSummary → List RenditionSummary → List (List ℕ)
variants_with summaries v before [] = []
variants_with summaries v before (a ∷ others) = variant_of summaries v before a ++ variants_with summaries v (before ++ a ∷ []) others

-- a rendition alone, and the URI of its media playlist
abbrev pub alone_lines : RenditionSummary → List (List ℕ)
alone_lines v = stream_alone v ∷ uri_text v.number ∷ []

-- the renditions in order, each as a variant stream without an audio group
unfoldable pub variants_alone : List RenditionSummary → List (List ℕ)
variants_alone [] = []
variants_alone (v ∷ others) = alone_lines v ++ variants_alone others

-- the variant streams of a rendition: one with each audio group, or none for an audio rendition
abbrev pub variants_of : List RenditionSummary → RenditionSummary → List (List ℕ)
variants_of summaries v = if v.video then variants_with summaries v [] summaries else []

-- the variant streams of the video renditions in order
unfoldable pub variants_of_videos : List RenditionSummary → List RenditionSummary → List (List ℕ)
variants_of_videos summaries [] = []
variants_of_videos summaries (v ∷ others) = variants_of summaries v ++ variants_of_videos summaries others

-- Where there are both pictures and sound, audio renditions are in groups that play with each video; else each rendition is a variant
-- stream of its own.
abbrev pub are_both : List RenditionSummary → Bool
are_both summaries = list_any is_video summaries && list_any is_audio summaries

-- the lines of the audio renditions, and then those of the variant streams
abbrev pub grouped_lines : List RenditionSummary → List (List ℕ)
grouped_lines summaries = media_lines [] summaries ++ variants_of_videos summaries summaries

-- the lines of all renditions: in groups if there are both pictures and sound, else each alone
abbrev pub rendition_lines : List RenditionSummary → List (List ℕ)
rendition_lines summaries =
    if are_both summaries then grouped_lines summaries
    else variants_alone summaries

-- EXT-X-INDEPENDENT-SEGMENTS (section 4.3.5.1), if the operator says that segments are independent
abbrev pub independent_lines : Bool → List (List ℕ)
independent_lines true = codes "#EXT-X-INDEPENDENT-SEGMENTS" ∷ []
independent_lines false = []

-- the text of the master playlist of these renditions, by whether the operator says that segments are independent
unfoldable pub players_master_text : Bool → List RenditionSummary → List ℕ
players_master_text independent summaries =
    text_of_lines (header_line ∷ codes "#EXT-X-VERSION:6" ∷ (independent_lines independent ++ rendition_lines summaries))
