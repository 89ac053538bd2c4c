-- The refusals of encoders' bodies that are counted, by their names.
use Rattle.std.specs.Prelude.{ℕ, suc, ◌-◌, ◌==◌, nat_lt, cond, List, [], ◌∷◌, ◌++◌, codes}
use Rattle.std.specs.Fmt.{decimal}
use Rattle.hls_metrics.specs.Lines.{description}

-- the name of a fault of boxes, by its number
abbrev pub box_fault_name : ℕ → List ℕ
box_fault_name n =
    cond (n == 0) (codes "BadSize")
    (cond (n == 1) (codes "TooLarge")
    (cond (n == 2) (codes "OpenEnded")
    (cond (n == 3) (codes "MdatAlone")
    (cond (n == 4) (codes "MoofWithoutMdat")
    (codes "Truncated")))))

-- the name of a fault of an init section or a unit, by its number
abbrev pub media_fault_name : ℕ → List ℕ
media_fault_name n =
    cond (n == 0) (codes "BadBox")
    (cond (n == 1) (codes "NoTrack")
    (cond (n == 2) (codes "TooManyTracks")
    (cond (n == 3) (codes "ZeroScale")
    (cond (n == 4) (codes "NoDefault")
    (cond (n == 5) (codes "NoTimingTraf")
    (cond (n == 6) (codes "TwoTimingTrafs")
    (cond (n == 7) (codes "NoDecodeTime")
    (cond (n == 8) (codes "BaseOffset")
    (cond (n == 9) (codes "UnknownTrack")
    (cond (n == 10) (codes "EmptyFragment")
    (cond (n == 11) (codes "DataOutside")
    (codes "TimeTooLarge"))))))))))))

-- the name of a refusal of the channel or of the body, by its number
abbrev pub channel_refusal_name : ℕ → List ℕ
channel_refusal_name n =
    cond (n == 0) (codes "UnknownRendition")
    (cond (n == 1) (codes "NoInit")
    (cond (n == 2) (codes "InitChanged")
    (cond (n == 3) (codes "Overlap")
    (cond (n == 4) (codes "Finished")
    (cond (n == 5) (codes "LedgerFull")
    (cond (n == 6) (codes "RecordingFull")
    (cond (n == 7) (codes "AheadOfChannel")
    (cond (n == 8) (codes "BadFraming")
    (cond (n == 9) (codes "Memory")
    (codes "Other"))))))))))

-- the name of refusal n: faults of boxes come first, then those of init sections and units
abbrev pub refusal_name : ℕ → List ℕ
refusal_name n = cond (nat_lt n 6) (box_fault_name n) (cond (nat_lt n 19) (media_fault_name (n - 6)) (channel_refusal_name (n - 19)))

-- the beginning of a refusal's row, with the label that names it
unfoldable pub refusal_label : ℕ → List ℕ
refusal_label n = codes "hls_refusals_total{refusal=\"" ++ refusal_name n

-- the row of refusal n with its count
unfoldable pub refusal_row : ℕ → ℕ → List ℕ
refusal_row n count = refusal_label n ++ (codes "\"} " ++ (decimal count ++ 10 ∷ []))

-- row n is that of the nth name
abbrev pub refusal_rows_from : ℕ → List ℕ → List ℕ
refusal_rows_from n [] = []
refusal_rows_from n (count ∷ counts) = refusal_row n count ++ refusal_rows_from (suc n) counts

-- the bodies of encoders that were refused, by the refusal
unfoldable pub refusal_metrics : List ℕ → List ℕ
refusal_metrics counts =
    description (codes "hls_refusals_total") (codes "counter") (codes "Bodies of encoders that were refused, by the refusal.") ++ refusal_rows_from 0 counts
