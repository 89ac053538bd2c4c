-- The arguments after `serve`, as `clap` accepts or refuses them.
use Rattle.std.proofs.Common.{◌≡◌, ◌∙◌, ◌⊎◌, ap, refl, sym, subst, codes, true, Option, List, [], ◌∷◌, Result, Err, inl, inr}
use Rattle.clap.specs.Words.{App, Text, fault_of, found_of, is_simple, is_simple_and_free, kind_of, matches_of, rows_of, HasMatchesOf}
use Rattle.clap.specs.Kinds.{Kinds, HasKind, IsAmong}
use Rattle.clap.specs.declared.parser.matches.ArgMatches.{ArgMatches}
use Rattle.clap.specs.declared.parser.matches.Found.{Found}
use Rattle.clap.specs.declared.error.Error.{Error}
use Rattle.clap.specs.declared.error.kind.ErrorKind.{ErrorKind}
use Rattle.clap.specs.declared.error.kind.ErrorKind.TheVariants as kind
use Rattle.clap.proofs.WalkLemmas.{first_value-rows, raw_values-rows}
use Rattle.hls_settings.specs.declared.fault.SettingsFault.{SettingsFault}
use Rattle.hls_settings.specs.declared.fault.SettingsFault.TheVariants as faults
use Rattle.hls_settings.specs.declared.settings.Settings.{Settings}
use Rattle.hls_settings.specs.Command.{channel_app, journal_app, options_app, server_app, serve_app, texts_in, texts_of, timing_app}
use Rattle.hls_settings.specs.ReadSettings.{ReadsSettings, SetsBy, SetsIn, refused_by, rendition_arguments}
use Rattle.hls_settings.specs.Settings.{Texts, server_settings_of}
use Rattle.hls_settings.specs.WrongArguments.{serve_options, wrong_argument}
use Rattle.hls_settings.specs.declared.wrong_argument.WrongArgument.{WrongArgument}

-- `serve` is a simple command for `clap`: the arguments determine the matches
pub serve_is_simple : is_simple serve_app ≡ true
unfolding serve_app journal_app options_app server_app channel_app timing_app
serve_is_simple = refl

-- `serve` is a simple command for `clap`, and none of its options has a rule on another
pub serve_is_simple_and_free : is_simple_and_free serve_app ≡ true
unfolding serve_app journal_app options_app server_app channel_app timing_app
serve_is_simple_and_free = refl

-- the texts of these arguments, in the order of the fields
abbrev texts_from : Option Text → Option Text → Option Text → Option Text → Option Text → Option Text → Option Text → Option Text → Option Text → Option Text → Option Text → Option Text → Option Text → Option Text → Option Text → Option Text → Option Text → Option Text → Option Text → Option (List Text) → Texts
texts_from a b c d u e f g h i j m q r s w v z k l = record { target = a; preferred = b; window = c; keep = d; live = u; epoch = e; workers = f; connections = g; planners = h; idle_timeout_s = i; log = j; run = m; mend = q; snap = r; fill = s; wait = w; job_life = v; unit_rate = z; address = k; renditions = l }

-- equal arguments make equal texts
same_texts : (a a' b b' c c' d d' u u' e e' f f' g g' h h' i i' j j' m m' q q' r r' s s' w w' v v' z z' k k' : Option Text) (l l' : Option (List Text)) → a ≡ a' → b ≡ b' → c ≡ c' → d ≡ d' → u ≡ u' → e ≡ e' → f ≡ f' → g ≡ g' → h ≡ h' → i ≡ i' → j ≡ j' → m ≡ m' → q ≡ q' → r ≡ r' → s ≡ s' → w ≡ w' → v ≡ v' → z ≡ z' → k ≡ k' → l ≡ l'
    → texts_from a b c d u e f g h i j m q r s w v z k l ≡ texts_from a' b' c' d' u' e' f' g' h' i' j' m' q' r' s' w' v' z' k' l'
same_texts a a' b b' c c' d d' u u' e e' f f' g g' h h' i i' j j' m m' q q' r r' s s' w w' v v' z z' k k' l l' pa pb pc pd pu pe pf pg ph pi pj pm pq pr ps pw pv pz pk pl =
    ap (λ (x : Option Text). texts_from x b c d u e f g h i j m q r s w v z k l) pa ∙
    ap (λ (x : Option Text). texts_from a' x c d u e f g h i j m q r s w v z k l) pb ∙
    ap (λ (x : Option Text). texts_from a' b' x d u e f g h i j m q r s w v z k l) pc ∙
    ap (λ (x : Option Text). texts_from a' b' c' x u e f g h i j m q r s w v z k l) pd ∙
    ap (λ (x : Option Text). texts_from a' b' c' d' x e f g h i j m q r s w v z k l) pu ∙
    ap (λ (x : Option Text). texts_from a' b' c' d' u' x f g h i j m q r s w v z k l) pe ∙
    ap (λ (x : Option Text). texts_from a' b' c' d' u' e' x g h i j m q r s w v z k l) pf ∙
    ap (λ (x : Option Text). texts_from a' b' c' d' u' e' f' x h i j m q r s w v z k l) pg ∙
    ap (λ (x : Option Text). texts_from a' b' c' d' u' e' f' g' x i j m q r s w v z k l) ph ∙
    ap (λ (x : Option Text). texts_from a' b' c' d' u' e' f' g' h' x j m q r s w v z k l) pi ∙
    ap (λ (x : Option Text). texts_from a' b' c' d' u' e' f' g' h' i' x m q r s w v z k l) pj ∙
    ap (λ (x : Option Text). texts_from a' b' c' d' u' e' f' g' h' i' j' x q r s w v z k l) pm ∙
    ap (λ (x : Option Text). texts_from a' b' c' d' u' e' f' g' h' i' j' m' x r s w v z k l) pq ∙
    ap (λ (x : Option Text). texts_from a' b' c' d' u' e' f' g' h' i' j' m' q' x s w v z k l) pr ∙
    ap (λ (x : Option Text). texts_from a' b' c' d' u' e' f' g' h' i' j' m' q' r' x w v z k l) ps ∙
    ap (λ (x : Option Text). texts_from a' b' c' d' u' e' f' g' h' i' j' m' q' r' s' x v z k l) pw ∙
    ap (λ (x : Option Text). texts_from a' b' c' d' u' e' f' g' h' i' j' m' q' r' s' w' x z k l) pv ∙
    ap (λ (x : Option Text). texts_from a' b' c' d' u' e' f' g' h' i' j' m' q' r' s' w' v' x k l) pz ∙
    ap (λ (x : Option Text). texts_from a' b' c' d' u' e' f' g' h' i' j' m' q' r' s' w' v' z' x l) pk ∙
    ap (λ (x : Option (List Text)). texts_from a' b' c' d' u' e' f' g' h' i' j' m' q' r' s' w' v' z' k' x) pl

-- the texts among the matches are those of their rows
texts-rows : (found : Found) → texts_in found ≡ texts_of (rows_of found)
texts-rows found = same_texts _ _ _ _ _ _ _ _ _ _ _ _ _ _ _ _ _ _ _ _ _ _ _ _ _ _ _ _ _ _ _ _ _ _ _ _ _ _ _ _
    (first_value-rows found (codes "target"))
    (first_value-rows found (codes "preferred"))
    (first_value-rows found (codes "window"))
    (first_value-rows found (codes "keep"))
    (first_value-rows found (codes "live"))
    (first_value-rows found (codes "epoch"))
    (first_value-rows found (codes "workers"))
    (first_value-rows found (codes "connections"))
    (first_value-rows found (codes "planners"))
    (first_value-rows found (codes "patience"))
    (first_value-rows found (codes "log"))
    (first_value-rows found (codes "run"))
    (first_value-rows found (codes "mend"))
    (first_value-rows found (codes "snap"))
    (first_value-rows found (codes "fill"))
    (first_value-rows found (codes "wait"))
    (first_value-rows found (codes "job-life"))
    (first_value-rows found (codes "unit-rate"))
    (first_value-rows found (codes "address"))
    (raw_values-rows found (codes "renditions"))

-- if `clap` accepts the arguments, the settings by its matches are those that the arguments specify
pub taken_words : (app : App) (arguments : List Text) (m : ArgMatches) (result : Result Settings SettingsFault) → app ≡ serve_app → HasMatchesOf app arguments m → fault_of app arguments ≡ []
    → SetsBy (server_settings_of (texts_in (found_of m))) (rendition_arguments (texts_in (found_of m)).renditions) result → ReadsSettings arguments result
taken_words app arguments m result is has none given =
    let rows : rows_of (found_of m) ≡ matches_of serve_app arguments = (has (ap is_simple is ∙ serve_is_simple)).0 ∙ ap (λ (a : App). matches_of a arguments) is in
    let texts : texts_in (found_of m) ≡ texts_of (matches_of serve_app arguments) = texts-rows (found_of m) ∙ ap texts_of rows in
    let no_fault : fault_of serve_app arguments ≡ [] = sym (ap (λ (a : App). fault_of a arguments) is) ∙ none in
    let moved : SetsBy (server_settings_of (texts_of (matches_of serve_app arguments))) (rendition_arguments (texts_of (matches_of serve_app arguments)).renditions) result =
    subst (λ (t : Texts). SetsBy (server_settings_of t) (rendition_arguments t.renditions) result) texts given in
    inr (subst (λ (ks : Kinds). SetsIn arguments ks (texts_of (matches_of serve_app arguments)) result) (sym no_fault) moved)

-- a refusal is an allocation failure, or a fault of the arguments
memory_or_words : (k : ErrorKind) (wrong : Option WrongArgument) → (refused_by k wrong ≡ faults.Memory) ⊎ (refused_by k wrong ≡ faults.Arguments wrong)
memory_or_words kind.OutOfMemory wrong = inl refl
memory_or_words _ wrong = inr refl

-- if `clap` has a fault, the arguments are refused for the first invalid one
some_fault : (arguments : List Text) (ks : Kinds) (k : ErrorKind) (texts : Texts) → IsAmong k ks → SetsIn arguments ks texts (Err (faults.Arguments (wrong_argument serve_options true arguments)))
some_fault arguments [] k texts among = absurd among
some_fault arguments (j ∷ ks) k texts among = refl

-- if `clap` refuses the arguments, the result is their refusal, or an allocation failure
pub refused_words : (app : App) (arguments : List Text) (e : Error) (fault : SettingsFault) → app ≡ serve_app → fault ≡ refused_by (kind_of e) (wrong_argument serve_options true arguments)
    → HasKind (fault_of app arguments) e → ReadsSettings arguments (Err fault)
refused_words app arguments e fault is by (inl memory) = inl (ap Err (by ∙ ap (λ (k : ErrorKind). refused_by k (wrong_argument serve_options true arguments)) memory))
refused_words app arguments e fault is by (inr among) = go (memory_or_words (kind_of e) (wrong_argument serve_options true arguments))
  where
    go : (refused_by (kind_of e) (wrong_argument serve_options true arguments) ≡ faults.Memory)
        ⊎ (refused_by (kind_of e) (wrong_argument serve_options true arguments) ≡ faults.Arguments (wrong_argument serve_options true arguments)) → ReadsSettings arguments (Err fault)
    go (inl memory) = inl (ap Err (by ∙ memory))
    go (inr wrong) =
        let some : SetsIn arguments (fault_of app arguments) (texts_of (matches_of serve_app arguments)) (Err (faults.Arguments (wrong_argument serve_options true arguments))) =
        some_fault arguments (fault_of app arguments) (kind_of e) _ among in
        let of_serve : SetsIn arguments (fault_of serve_app arguments) (texts_of (matches_of serve_app arguments)) (Err (faults.Arguments (wrong_argument serve_options true arguments))) =
        subst (λ (a : App). SetsIn arguments (fault_of a arguments) (texts_of (matches_of serve_app arguments)) (Err (faults.Arguments (wrong_argument serve_options true arguments)))) is some in
        inr (subst (λ (f : SettingsFault). SetsIn arguments (fault_of serve_app arguments) (texts_of (matches_of serve_app arguments)) (Err f)) (sym (by ∙ wrong)) of_serve)
