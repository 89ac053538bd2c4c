-- The types of boxes below `mdia`, the types of sample entries, and the types of colour information, each its four letters as a big-endian
-- number (ISO/IEC 14496-12 4.2).
use Rattle.std.specs.Prelude.{ℕ}

-- "minf": media information box (ISO/IEC 14496-12 8.4.4)
abbrev pub minf_type : ℕ
minf_type = 0x6d696e66

-- "stbl": sample table box (ISO/IEC 14496-12 8.5.1)
abbrev pub stbl_type : ℕ
stbl_type = 0x7374626c

-- "stsd": sample description box (ISO/IEC 14496-12 8.5.2)
abbrev pub stsd_type : ℕ
stsd_type = 0x73747364

-- "sinf": protection scheme information box (ISO/IEC 14496-12 8.12.1)
abbrev pub sinf_type : ℕ
sinf_type = 0x73696e66

-- "frma": original format box (ISO/IEC 14496-12 8.12.2)
abbrev pub frma_type : ℕ
frma_type = 0x66726d61

-- "pasp": pixel aspect ratio box (ISO/IEC 14496-12 12.1.4)
abbrev pub pasp_type : ℕ
pasp_type = 0x70617370

-- "colr": colour information box (ISO/IEC 14496-12 12.1.5)
abbrev pub colr_type : ℕ
colr_type = 0x636f6c72

-- "nclx": colour information as numbers (ISO/IEC 14496-12 12.1.5)
abbrev pub nclx_type : ℕ
nclx_type = 0x6e636c78

-- "nclc": colour information as numbers in a QuickTime file, which has no full range flag
abbrev pub nclc_type : ℕ
nclc_type = 0x6e636c63

-- "encv": sample entry of an encrypted video track (ISO/IEC 14496-12 8.12)
abbrev pub encv_type : ℕ
encv_type = 0x656e6376

-- "enca": sample entry of an encrypted audio track (ISO/IEC 14496-12 8.12)
abbrev pub enca_type : ℕ
enca_type = 0x656e6361

-- "avc1": sample entry of H.264, with its parameter sets (ISO/IEC 14496-15 5.4.2)
abbrev pub avc1_type : ℕ
avc1_type = 0x61766331

-- "avc3": sample entry of H.264 whose samples may have the parameter sets (ISO/IEC 14496-15 5.4.2)
abbrev pub avc3_type : ℕ
avc3_type = 0x61766333

-- "avcC": configuration box of H.264 (ISO/IEC 14496-15 5.4.2)
abbrev pub avcc_type : ℕ
avcc_type = 0x61766343

-- "hvc1": sample entry of H.265, with its parameter sets (ISO/IEC 14496-15 8.4.1)
abbrev pub hvc1_type : ℕ
hvc1_type = 0x68766331

-- "hev1": sample entry of H.265 whose samples may have the parameter sets (ISO/IEC 14496-15 8.4.1)
abbrev pub hev1_type : ℕ
hev1_type = 0x68657631

-- "hvcC": configuration box of H.265 (ISO/IEC 14496-15 8.4.1)
abbrev pub hvcc_type : ℕ
hvcc_type = 0x68766343

-- "av01": sample entry of AV1 (AV1 in ISOBMFF 2.2)
abbrev pub av01_type : ℕ
av01_type = 0x61763031

-- "av1C": configuration box of AV1 (AV1 in ISOBMFF 2.3)
abbrev pub av1c_type : ℕ
av1c_type = 0x61763143

-- "vp09": sample entry of VP9 (VP Codec ISO Media File Format Binding)
abbrev pub vp09_type : ℕ
vp09_type = 0x76703039

-- "vpcC": configuration box of VP9 (VP Codec ISO Media File Format Binding)
abbrev pub vpcc_type : ℕ
vpcc_type = 0x76706343

-- "mp4a": sample entry of MPEG-4 audio (ISO/IEC 14496-14 6.7)
abbrev pub mp4a_type : ℕ
mp4a_type = 0x6d703461

-- "esds": elementary stream descriptor box (ISO/IEC 14496-14 6.7)
abbrev pub esds_type : ℕ
esds_type = 0x65736473

-- "wave": the box around `esds` in a QuickTime file
abbrev pub wave_type : ℕ
wave_type = 0x77617665

-- "ac-3": sample entry of AC-3 (ETSI TS 102 366 F.3)
abbrev pub ac3_type : ℕ
ac3_type = 0x61632d33

-- "dac3": configuration box of AC-3 (ETSI TS 102 366 annex F)
abbrev pub dac3_type : ℕ
dac3_type = 0x64616333

-- "ec-3": sample entry of Enhanced AC-3 (ETSI TS 102 366 F.5)
abbrev pub ec3_type : ℕ
ec3_type = 0x65632d33

-- "dec3": configuration box of Enhanced AC-3 (ETSI TS 102 366 annex F)
abbrev pub dec3_type : ℕ
dec3_type = 0x64656333

-- "Opus": sample entry of Opus (Encapsulation of Opus in ISO Base Media File Format 4.3)
abbrev pub opus_type : ℕ
opus_type = 0x4f707573

-- "dOps": configuration box of Opus (Encapsulation of Opus in ISO Base Media File Format 4.3)
abbrev pub dops_type : ℕ
dops_type = 0x644f7073

-- "fLaC": sample entry of FLAC (Encapsulation of FLAC in ISO Base Media File Format 3.3)
abbrev pub flac_type : ℕ
flac_type = 0x664c6143

-- "dfLa": configuration box of FLAC (Encapsulation of FLAC in ISO Base Media File Format 3.3)
abbrev pub dfla_type : ℕ
dfla_type = 0x64664c61

-- "alac": sample entry of ALAC, and the configuration box in it
abbrev pub alac_type : ℕ
alac_type = 0x616c6163
