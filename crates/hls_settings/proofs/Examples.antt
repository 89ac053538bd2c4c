-- Worked examples, computed: arguments after `cut`, and invalid arguments.
use Rattle.std.proofs.Common.{◌≡◌, [], ◌∷◌, Some, None, Ok, Err, codes, true, false, refl}
use Rattle.clap.proofs.OnLiterals.{clap_on_literals}
use Rattle.hls_instants.specs.Instants.{instant_of}
use Rattle.hls_instants.specs.Pattern.{rest_after_pattern}
use Rattle.hls_text.specs.Digits.{number_of_digits}
use Rattle.hls_settings.specs.declared.cut_options_fault.CutOptionsFault.TheVariants as faults
use Rattle.hls_settings.specs.declared.wrong_argument.ArgumentFault.TheVariants as argument
use Rattle.hls_settings.specs.WrongArguments.{cut_options, serve_options, wrong_argument}
use Rattle.hls_settings.specs.Options.{cut_app, options_of}

-- without arguments each option has its default
defaults : options_of [] ≡ Ok (record { target = 6; uri = codes "media.mp4"; preferred = None; charge = None; epoch = None; certificate = false })
unfolding options_of cut_app clap_on_literals number_of_digits
defaults = refl

-- a target with leading zeros and a URI after `=`, with `--each`
both : options_of (codes "--target" ∷ codes "0010" ∷ codes "--each" ∷ codes "--uri=a.mp4" ∷ []) ≡ Ok (record { target = 10; uri = codes "a.mp4"; preferred = None; charge = None; epoch = None; certificate = false })
unfolding options_of cut_app clap_on_literals number_of_digits
both = refl

-- a target above 3600 s is refused
target_too_large : options_of (codes "--target" ∷ codes "3601" ∷ []) ≡ Err faults.Target
unfolding options_of cut_app clap_on_literals number_of_digits
target_too_large = refl

-- a preferred length and the plan's certificate
planned : options_of (codes "--preferred" ∷ codes "4000000" ∷ codes "--certificate" ∷ []) ≡ Ok (record { target = 6; uri = codes "media.mp4"; preferred = Some 4000000; charge = None; epoch = None; certificate = true })
unfolding options_of cut_app clap_on_literals number_of_digits
planned = refl

-- a preferred length above the target duration is refused
preferred_above_the_target : options_of (codes "--preferred" ∷ codes "6000001" ∷ []) ≡ Err faults.Preferred
unfolding options_of cut_app clap_on_literals number_of_digits
preferred_above_the_target = refl

-- a certificate needs a preferred length
certificate_of_no_plan : options_of (codes "--certificate" ∷ []) ≡ Err faults.Unplanned
unfolding options_of cut_app clap_on_literals number_of_digits
certificate_of_no_plan = refl

-- `--each` excludes `--preferred`
each_and_preferred : options_of (codes "--each" ∷ codes "--preferred" ∷ codes "4000000" ∷ []) ≡ Err faults.Each
unfolding options_of cut_app clap_on_literals number_of_digits
each_and_preferred = refl

-- a charge of 0 is a charge
charged : options_of (codes "--preferred" ∷ codes "4000000" ∷ codes "--charge" ∷ codes "0" ∷ []) ≡ Ok (record { target = 6; uri = codes "media.mp4"; preferred = Some 4000000; charge = Some 0; epoch = None; certificate = false })
unfolding options_of cut_app clap_on_literals number_of_digits
charged = refl

-- a charge above an hour is refused
charge_too_large : options_of (codes "--preferred" ∷ codes "4000000" ∷ codes "--charge" ∷ codes "3600000001" ∷ []) ≡ Err faults.Charge
unfolding options_of cut_app clap_on_literals number_of_digits
charge_too_large = refl

-- a charge needs a preferred length
charge_of_no_plan : options_of (codes "--charge" ∷ codes "1" ∷ []) ≡ Err faults.Unplanned
unfolding options_of cut_app clap_on_literals number_of_digits
charge_of_no_plan = refl

-- an epoch that isn't a date is refused
epoch_of_no_shape : options_of (codes "--epoch" ∷ codes "0" ∷ []) ≡ Err faults.Epoch
unfolding options_of cut_app clap_on_literals number_of_digits instant_of rest_after_pattern
epoch_of_no_shape = refl

-- an unknown option is refused as the first invalid argument
unknown_word : options_of (codes "--rule" ∷ codes "1" ∷ []) ≡ Err (faults.Arguments (Some (record { index = 0; fault = argument.Unknown })))
unfolding options_of cut_app clap_on_literals number_of_digits
unknown_word = refl

-- ---- the first invalid argument

-- of two unknown options the first is the invalid one, even with a value attached
misspelt : wrong_argument serve_options true (codes "127.0.0.1:80" ∷ codes "--prefered=4000000" ∷ codes "--other" ∷ []) ≡ Some (record { index = 1; fault = argument.Unknown })
misspelt = refl

-- an option that is given twice is invalid at its second place
given_twice : wrong_argument serve_options true (codes "--target" ∷ codes "6" ∷ codes "--target=6" ∷ []) ≡ Some (record { index = 2; fault = argument.Repeated })
given_twice = refl

-- an option is no value, so the one before it lacks its value
without_value : wrong_argument serve_options true (codes "--log" ∷ codes "--target" ∷ codes "6" ∷ []) ≡ Some (record { index = 0; fault = argument.NoValue })
without_value = refl

-- an option that takes no value has one attached
with_value : wrong_argument cut_options false (codes "--each=1" ∷ []) ≡ Some (record { index = 0; fault = argument.Unneeded })
with_value = refl

-- an argument after an option's value is stray
stray : wrong_argument cut_options false (codes "--target" ∷ codes "6" ∷ codes "7" ∷ []) ≡ Some (record { index = 2; fault = argument.Stray })
stray = refl

-- after `--` any argument of `cut` is stray
stray_after_hyphens : wrong_argument cut_options false (codes "--" ∷ codes "--each" ∷ []) ≡ Some (record { index = 1; fault = argument.Stray })
stray_after_hyphens = refl

-- a single hyphen and an empty text are values, and after `--` an option is a positional argument
none_wrong : wrong_argument serve_options true (codes "--target" ∷ codes "-" ∷ codes "--log=" ∷ codes "--" ∷ codes "--other" ∷ []) ≡ None
none_wrong = refl
