-- The text of a track's codec in a CODECS attribute (RFC 6381), of its channels, and of its language.
use Rattle.std.specs.Prelude.{ℕ, zero, suc, ◌+◌, ◌/◌, ◌%◌, ◌==◌, nat_lt, Bool, true, false, ◌&&◌, not, if◌then◌else◌, Option, Some, None, List, [], ◌∷◌, ◌++◌, bytes_eq, codes, decimal, unwrap_or}
use Rattle.std.specs.List.{list_all}
use Rattle.std.specs.Int.{w32, reverse_bits}
use Rattle.hls_codecs.specs.declared.codec.ParameterSets.{ParameterSets}
use Rattle.hls_codecs.specs.declared.codec.ParameterSets.TheVariants.{OutOfBand, InBand}
use Rattle.hls_codecs.specs.declared.codec.AvcConfig.{AvcConfig}
use Rattle.hls_codecs.specs.declared.codec.HevcConfig.{HevcConfig}
use Rattle.hls_codecs.specs.declared.codec.Colours.{Colours}
use Rattle.hls_codecs.specs.declared.codec.Av1Config.{Av1Config}
use Rattle.hls_codecs.specs.declared.codec.Vp9Config.{Vp9Config}
use Rattle.hls_codecs.specs.declared.codec.Mp4aConfig.{Mp4aConfig}
use Rattle.hls_codecs.specs.declared.codec.Mp4aConfig.TheVariants.{Mpeg4, Other}
use Rattle.hls_codecs.specs.declared.codec.Codec.{Codec}
use Rattle.hls_codecs.specs.declared.codec.Codec.TheVariants as codecs
use Rattle.hls_codecs.specs.declared.track_format.Channels.{Channels}
use Rattle.hls_codecs.specs.declared.track_format.Channels.TheVariants.{Plain, JointObjects}
use Rattle.hls_codecs.specs.Codecs.{are_usual}

-- a hexadecimal digit, small or capital
abbrev pub hex_digit : Bool → ℕ → ℕ
hex_digit capital n = if nat_lt n 10 then 48 + n else (if capital then 55 + n else 87 + n)

-- a byte as two hexadecimal digits
abbrev pub hex_byte : Bool → ℕ → List ℕ
hex_byte capital n = hex_digit capital (n / 16) ∷ hex_digit capital (n % 16) ∷ []

-- a number in capital hexadecimal digits, as many as it needs, at most `most`
unfoldable pub hex_number : ℕ → ℕ → List ℕ
hex_number zero n = []
hex_number (suc most) n = (if nat_lt n 16 then [] else hex_number most (n / 16)) ++ hex_digit true (n % 16) ∷ []

-- a number in at least two digits
abbrev pub two_digits : ℕ → List ℕ
two_digits n = if nat_lt n 10 then 48 ∷ decimal n else decimal n

-- a field after a point
abbrev pub point : List ℕ → List ℕ
point text = 46 ∷ text

-- a flag as a digit: 1 or 0
abbrev pub flag_digit : Bool → List ℕ
flag_digit true = codes "1"
flag_digit false = codes "0"

-- the name of H.264 in a codec string, by where its parameter sets are
abbrev pub avc_name : ParameterSets → List ℕ
avc_name OutOfBand = codes "avc1."
avc_name InBand = codes "avc3."

-- H.264 (RFC 6381 section 3.3): the name, and profile, constraint flags and level in two hexadecimal digits each
unfoldable pub avc_text : AvcConfig → List ℕ
avc_text c = avc_name c.sets ++ (hex_byte false c.profile ++ (hex_byte false c.constraints ++ hex_byte false c.level))

-- the name of H.265 in a codec string, by where its parameter sets are
abbrev pub hevc_name : ParameterSets → List ℕ
hevc_name OutOfBand = codes "hvc1."
hevc_name InBand = codes "hev1."

-- the letter of a profile space: A, B or C, and none for space 0
abbrev pub space_text : ℕ → List ℕ
space_text n = if n == 0 then [] else (64 + n % 4) ∷ []

-- the letter of a tier, after a point
abbrev pub tier_text : Bool → List ℕ
tier_text true = codes ".H"
tier_text false = codes ".L"

-- the constraint bytes up to the last one that isn't 0, in capital hexadecimal digits, each after a point
unfoldable pub constraint_texts : List ℕ → List ℕ
constraint_texts [] = []
constraint_texts (b ∷ bytes) = if list_all (λ (c : ℕ). c == 0) (b ∷ bytes) then [] else point (hex_number 2 b) ++ constraint_texts bytes

-- the compatibility flags in reverse order as a hexadecimal number, after a point
abbrev pub compatibility_text : ℕ → List ℕ
compatibility_text flags = point (hex_number 8 (reverse_bits w32 flags))

-- the name of H.265, its profile space and profile, and its compatibility flags
unfoldable pub hevc_profile_text : HevcConfig → List ℕ
hevc_profile_text c = hevc_name c.sets ++ (space_text c.profile_space ++ (decimal c.profile ++ compatibility_text c.compatibility))

-- the tier, the level and the constraint bytes of H.265
unfoldable pub hevc_level_text : HevcConfig → List ℕ
hevc_level_text c = tier_text c.high_tier ++ (decimal c.level ++ constraint_texts c.constraints)

-- H.265 (ISO/IEC 14496-15 annex E.3): the profile's part, and then the level's
unfoldable pub hevc_text : HevcConfig → List ℕ
hevc_text c = hevc_profile_text c ++ hevc_level_text c

-- the primaries, the transfer function and the matrix, in two digits each, each after a point
abbrev pub colours_text : Colours → List ℕ
colours_text c = point (two_digits c.primaries) ++ (point (two_digits c.transfer) ++ point (two_digits c.matrix))

-- the letter of an AV1 tier, before a point
abbrev pub av1_tier : Bool → List ℕ
av1_tier true = codes "H."
av1_tier false = codes "M."

-- whether the fields of AV1 from `monochrome` on are the usual ones, which a string leaves out
abbrev pub is_usual_av1 : Av1Config → Bool
is_usual_av1 c = not c.monochrome && c.subsampling_x && c.subsampling_y && c.position == 0 && are_usual c.colours

-- the chroma sample position, which has a meaning only with subsampling in both directions, else 0
abbrev pub position_digit : Av1Config → ℕ
position_digit c = if c.subsampling_x && c.subsampling_y then c.position else 0

-- the fields of AV1 from `monochrome` on, or nothing if they are usual
unfoldable pub av1_details : Av1Config → List ℕ
av1_details c =
    if is_usual_av1 c then []
    else point (flag_digit c.monochrome) ++ (point (flag_digit c.subsampling_x) ++ (flag_digit c.subsampling_y ++ (decimal (position_digit c)
    ++ (colours_text c.colours ++ point (flag_digit c.colours.full_range)))))

-- AV1 (AV1 in ISOBMFF 5): profile, level, tier and depth, and then the details
unfoldable pub av1_text : Av1Config → List ℕ
av1_text c =
    codes "av01." ++ (decimal c.profile ++ (point (two_digits c.level) ++ (av1_tier c.high_tier ++ (two_digits c.depth ++ av1_details c))))

-- whether the fields of VP9 from the subsampling on are the usual ones, which a string leaves out
abbrev pub is_usual_vp9 : Vp9Config → Bool
is_usual_vp9 c = c.chroma == 1 && are_usual c.colours

-- the fields of VP9 from the subsampling on, or nothing if they are usual
unfoldable pub vp9_details : Vp9Config → List ℕ
vp9_details c =
    if is_usual_vp9 c then []
    else point (two_digits c.chroma) ++ (colours_text c.colours ++ (codes ".0" ++ flag_digit c.colours.full_range))

-- VP9 (VP Codec ISO Media File Format Binding): profile, level and depth, and then the details
unfoldable pub vp9_text : Vp9Config → List ℕ
vp9_text c =
    codes "vp09" ++ (point (two_digits c.profile) ++ (point (two_digits c.level) ++ (point (two_digits c.depth) ++ vp9_details c)))

-- MPEG-4 audio is named by its audio object type, and other audio by `objectTypeIndication` (RFC 6381 section 3.3)
unfoldable pub mp4a_text : Mp4aConfig → List ℕ
mp4a_text (Mpeg4 aot) = codes "mp4a.40." ++ decimal aot
mp4a_text (Other oti) = codes "mp4a." ++ hex_number 2 oti

-- the string of a codec in a CODECS attribute
unfoldable pub codec_text : Codec → List ℕ
codec_text (codecs.Avc c) = avc_text c
codec_text (codecs.Hevc c) = hevc_text c
codec_text (codecs.Av1 c) = av1_text c
codec_text (codecs.Vp9 c) = vp9_text c
codec_text (codecs.Mp4a c) = mp4a_text c
codec_text codecs.Ac3 = codes "ac-3"
codec_text codecs.Ec3 = codes "ec-3"
codec_text codecs.Opus = codes "Opus"
codec_text codecs.Flac = codes "fLaC"
codec_text codecs.Alac = codes "alac"

-- the number of channels as a CHANNELS attribute has it (RFC 8216 section 4.3.4.1; joint object coding as in its second edition)
unfoldable pub channels_text : Channels → List ℕ
channels_text (Plain n) = decimal n
channels_text (JointObjects n) = decimal n ++ codes "/JOC"

-- the letter that five bits pack
abbrev pub letter : ℕ → ℕ
letter n = 96 + n % 32

-- the three letters of a packed language (ISO/IEC 14496-12 8.4.2)
abbrev pub language_letters : ℕ → List ℕ
language_letters packed = letter (packed / 1024) ∷ letter (packed / 32) ∷ letter packed ∷ []

-- the code of two letters after these three in rows of five letters
unfoldable pub short_in : List ℕ → List ℕ → Option (List ℕ)
short_in (a ∷ b ∷ c ∷ d ∷ e ∷ rows) letters = if bytes_eq letters (a ∷ b ∷ c ∷ []) then Some (d ∷ e ∷ []) else short_in rows letters
short_in others letters = None

-- ISO 639-2, both codes of a language where it has two, each with its code in ISO 639-1
unfoldable pub language_rows : List ℕ
language_rows = codes "aaraaabkabafrafakaakalbsqamhamaraararganarmhyasmasavaavaveaeaymayazeazbakbabambmbaqeubelbebenbnbihbhbisbibodbobosbsbrebrbulbgburmycatcacescschachchecechizhchucuchvcvcorkwcoscocrecrcymcyczecsdandadeudedivdvdutnldzodzellelengenepoeoesteteuseueweeefaofofasfafijfjfinfifrafrfrefrfryfyfulffgeokagerdeglagdglegaglgglglvgvgreelgrngngujguhaththauhahebheherhzhinhihmohohrvhrhunhuhyehyiboigiceisidoioiiiiiikuiuileieinaiaindidipkikislisitaitjavjvjpnjakalklkanknkaskskatkakaukrkazkkkhmkmkikkikinrwkirkykomkvkonkgkorkokuakjkurkulaololatlalavlvlimlilinlnlitltltzlblubluluglgmacmkmahmhmalmlmaomimarmrmaymsmkdmkmlgmgmltmtmonmnmrimimsamsmyamynaunanavnvnblnrndendndongnepnenldnlnnonnnobnbnornonyanyociocojiojoriorormomossospanpaperfaplipipolplporptpuspsquequrohrmronrorumrorunrnrusrusagsgsansasinsislksksloskslvslsmesesmosmsnasnsndsdsomsosotstspaessqisqsrdscsrpsrsswsssunsuswaswswesvtahtytamtatatttteltetgktgtgltlthathtibbotirtitontotsntntsotstuktkturtrtwitwuigugukrukurduruzbuzvenvevievivolvowelcywlnwawolwoxhoxhyidyiyoryozhazazhozhzulzu"

-- the language as a LANGUAGE attribute has it: the shorter code if there is one (RFC 5646 section 2.2.1)
unfoldable pub language_text : ℕ → List ℕ
language_text packed = unwrap_or (short_in language_rows (language_letters packed)) (language_letters packed)
