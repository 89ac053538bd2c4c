-- The arguments after `cut`, as `clap` accepts or refuses them.
use Rattle.std.proofs.Common.{◌≡◌, ◌∙◌, ◌⊎◌, ap, ap₂, refl, sym, subst, codes, true, false, List, [], ◌∷◌, Option, Result, Ok, Err, inl, inr}
use Rattle.clap.specs.Words.{App, Text, fault_of, first_of, first_value, found_of, is_simple, is_simple_and_free, kind_of, matches_of, rows_of, HasMatchesOf}
use Rattle.clap.specs.Kinds.{Kinds, HasKind, IsAmong}
use Rattle.clap.specs.declared.parser.matches.ArgMatches.{ArgMatches}
use Rattle.clap.specs.declared.error.Error.{Error}
use Rattle.clap.specs.declared.error.kind.ErrorKind.{ErrorKind}
use Rattle.clap.specs.declared.error.kind.ErrorKind.TheVariants as kind
use Rattle.clap.proofs.WalkLemmas.{first_value-rows}
use Rattle.hls_settings.specs.declared.cut_options_fault.CutOptionsFault.{CutOptionsFault}
use Rattle.hls_settings.specs.declared.cut_options_fault.CutOptionsFault.TheVariants as faults
use Rattle.hls_settings.specs.WrongArguments.{cut_options, wrong_argument}
use Rattle.hls_settings.specs.declared.wrong_argument.WrongArgument.{WrongArgument}
use Rattle.hls_settings.specs.Options.{CutOptionsData, ReadsOptions, choice_in, choice_of, cut_app, options_of, refused_option, unless_refused}

-- `cut` is a simple command for `clap`: the arguments determine the matches
pub cut_is_simple : is_simple cut_app ≡ true
unfolding cut_app
cut_is_simple = refl

-- `cut` is a simple command for `clap`, and none of its options has a rule on another
pub cut_is_simple_and_free : is_simple_and_free cut_app ≡ true
unfolding cut_app
cut_is_simple_and_free = refl

-- the first value of an option among the matches is the first one of it in the arguments
first_in_rows : (app : App) (arguments : List Text) (m : ArgMatches) (name : Text) → app ≡ cut_app → HasMatchesOf app arguments m
    → first_value (found_of m) name ≡ first_of name (matches_of cut_app arguments)
first_in_rows app arguments m name is has =
    let rows : rows_of (found_of m) ≡ matches_of cut_app arguments = (has (ap is_simple is ∙ cut_is_simple)).0 ∙ ap (λ (a : App). matches_of a arguments) is in
    first_value-rows (found_of m) name ∙ ap (first_of name) rows

-- if `clap` accepts the arguments, the options by its matches are those that the arguments specify
pub taken_words : (app : App) (arguments : List Text) (m : ArgMatches) → app ≡ cut_app → HasMatchesOf app arguments m → fault_of app arguments ≡ []
    → choice_in (first_value (found_of m) (codes "each")) (first_value (found_of m) (codes "preferred")) (first_value (found_of m) (codes "certificate"))
    (first_value (found_of m) (codes "target")) (first_value (found_of m) (codes "uri")) (first_value (found_of m) (codes "charge"))
    (first_value (found_of m) (codes "epoch")) ≡ options_of arguments
unfolding options_of
taken_words app arguments m is has none =
    let no_fault : fault_of cut_app arguments ≡ [] = sym (ap (λ (a : App). fault_of a arguments) is) ∙ none in
    same_seven _ _ _ _ _ _ _ _ _ _ _ _ _ _ (first_in_rows app arguments m (codes "each") is has) (first_in_rows app arguments m (codes "preferred") is has)
    (first_in_rows app arguments m (codes "certificate") is has) (first_in_rows app arguments m (codes "target") is has) (first_in_rows app arguments m (codes "uri") is has)
    (first_in_rows app arguments m (codes "charge") is has) (first_in_rows app arguments m (codes "epoch") is has)
    ∙ sym (ap (λ (ks : Kinds). unless_refused ks (wrong_argument cut_options false arguments) (choice_of (matches_of cut_app arguments))) no_fault)
  where
    same_seven : (a a' b b' c c' d d' e e' f f' g g' : Option Text) → a ≡ a' → b ≡ b' → c ≡ c' → d ≡ d' → e ≡ e' → f ≡ f' → g ≡ g'
        → choice_in a b c d e f g ≡ choice_in a' b' c' d' e' f' g'
    same_seven a a' b b' c c' d d' e e' f f' g g' p q r s t u v =
        ap (λ x. choice_in x b c d e f g) p ∙ ap (λ x. choice_in a' x c d e f g) q ∙ ap (λ x. choice_in a' b' x d e f g) r
        ∙ ap (λ x. choice_in a' b' c' x e f g) s ∙ ap (λ x. choice_in a' b' c' d' x f g) t ∙ ap₂ (choice_in a' b' c' d' e') u v

-- a refusal is an allocation failure, or a fault of the arguments
memory_or_words : (k : ErrorKind) (wrong : Option WrongArgument) → (refused_option k wrong ≡ faults.Memory) ⊎ (refused_option k wrong ≡ faults.Arguments wrong)
memory_or_words kind.OutOfMemory wrong = inl refl
memory_or_words _ wrong = inr refl

-- if `clap` has a fault, the arguments are refused for the first invalid one
some_fault : (ks : Kinds) (k : ErrorKind) (wrong : Option WrongArgument) (choice : Result CutOptionsData CutOptionsFault) → IsAmong k ks → unless_refused ks wrong choice ≡ Err (faults.Arguments wrong)
some_fault [] k wrong choice among = absurd among
some_fault (j ∷ ks) k wrong choice among = refl

-- an allocation failure is a valid result of any arguments
without_memory : (arguments : List Text) (fault : CutOptionsFault) → fault ≡ faults.Memory → ReadsOptions arguments (Err fault)
without_memory arguments fault is = subst (λ (f : CutOptionsFault). ReadsOptions arguments (Err f)) (sym is) tt

-- if `clap` refuses the arguments, the result is their refusal, or an allocation failure
pub refused_words : (app : App) (arguments : List Text) (e : Error) (fault : CutOptionsFault) → app ≡ cut_app → fault ≡ refused_option (kind_of e) (wrong_argument cut_options false arguments)
    → HasKind (fault_of app arguments) e → ReadsOptions arguments (Err fault)
unfolding options_of
refused_words app arguments e fault is by (inl memory) = without_memory arguments fault (by ∙ ap (λ (k : ErrorKind). refused_option k (wrong_argument cut_options false arguments)) memory)
refused_words app arguments e fault is by (inr among) = go (memory_or_words (kind_of e) (wrong_argument cut_options false arguments))
  where
    go : (refused_option (kind_of e) (wrong_argument cut_options false arguments) ≡ faults.Memory)
        ⊎ (refused_option (kind_of e) (wrong_argument cut_options false arguments) ≡ faults.Arguments (wrong_argument cut_options false arguments)) → ReadsOptions arguments (Err fault)
    go (inl memory) = without_memory arguments fault (by ∙ memory)
    go (inr wrong) =
        let some : unless_refused (fault_of app arguments) (wrong_argument cut_options false arguments) (choice_of (matches_of cut_app arguments)) ≡ Err (faults.Arguments (wrong_argument cut_options false arguments)) =
        some_fault (fault_of app arguments) (kind_of e) (wrong_argument cut_options false arguments) _ among in
        let of_cut : options_of arguments ≡ Err (faults.Arguments (wrong_argument cut_options false arguments)) =
        subst (λ (a : App). unless_refused (fault_of a arguments) (wrong_argument cut_options false arguments) (choice_of (matches_of cut_app arguments)) ≡ Err (faults.Arguments (wrong_argument cut_options false arguments))) is some in
        subst (λ (f : CutOptionsFault). ReadsOptions arguments (Err f)) (sym (by ∙ wrong)) of_cut

-- what the arguments specify is a valid result of reading them
pub reads_options : (arguments : List Text) (result : Result CutOptionsData CutOptionsFault) → options_of arguments ≡ result → ReadsOptions arguments result
reads_options arguments (Err faults.Memory) is = tt
reads_options arguments (Err f) is = is
reads_options arguments (Ok choice) is = is
