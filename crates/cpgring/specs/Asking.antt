-- what the command line asks for, and what is said of one that asks for nothing that can be run
use Rattle.std.specs.Prelude.{◌≡◌, ◌⊎◌, ℕ, Bool, true, false, List, [], ◌∷◌, codes, map, slice_get, Option, Some, None, option_map}
use Rattle.std.specs.Io.KnownBytes.{Keeps}
use Rattle.std.specs.Str.Parse.{digits_value, without_leading_plus}
use Rattle.clap.specs.declared.parser.matches.Found.{Found}
use Rattle.clap.specs.declared.parser.matches.MatchedArg.{MatchedArg}
use Rattle.clap.specs.Words.{first_value, matched_of, one_text, raw_values}
use Rattle.clap.specs.declared.error.kind.ErrorKind.{ErrorKind}
use Rattle.clap.specs.declared.error.kind.ErrorKind.TheVariants.{DisplayHelp, DisplayVersion, OutOfMemory}
use Rattle.cpg_ring.specs.declared.settings.Settings.{Settings}
use Rattle.cpg_console.specs.declared.auditing.Inquiry.{Inquiry}
use Rattle.cpg_console.specs.declared.chances.Chances.{Chances}
use Rattle.cpg_console.specs.declared.runs.Run.{Run}
use Rattle.cpg_cluster.specs.declared.forms.RunOptions.{RunOptions}
use Rattle.cpg_cluster.specs.declared.forms.WaitLimit.{WaitLimit}
use Rattle.cpg_cluster.specs.declared.forms.WaitLimit.TheVariants.{Looks, Millis}
use Rattle.cpg_cluster.specs.declared.forms.TextForm.{TextForm}
use Rattle.cpg_cluster.specs.declared.forms.TextForm.TheVariants.{Plain, Echoed}
use Rattle.cpg_cluster.specs.declared.noting.Known.{Known}
use Rattle.cpg_console.specs.declared.output_form.OutputForm.{OutputForm}
use Rattle.cpg_console.specs.declared.output_form.OutputForm.TheVariants as output_form
use Rattle.cpgring.specs.declared.asking.Asked.{Asked}
use Rattle.cpgring.specs.declared.asking.AskedShell.{AskedShell}
use Rattle.cpgring.specs.Filtering.{is_filtered, rows_given, IsFilterGiven}
use Rattle.cpgring.specs.Questions.{entry_named, question_named, words_for}
use Rattle.cpgring.specs.Sources.{accept_words, but_input, path_of, script_file}
use Rattle.cpg_console.specs.declared.runs.Run.TheVariants.{Judge, JudgeOnly, Accept, Why, Step, StepWhy, Draw, Number, Echo, Cluster, ClusterWhy}
use Rattle.cpg_draw.specs.declared.excerpts.Excerpt.{Excerpt}
use Rattle.cpg_console.specs.declared.runs.Form.{Form}
use Rattle.cpg_console.specs.declared.runs.Form.TheVariants.{Text, Json}
use Rattle.cpg_console.specs.declared.runs.Stepped.{Stepped}
use Rattle.cpg_console.specs.declared.runs.Stepped.TheVariants as stepped
use Rattle.cpg_json.specs.declared.marks.Marks.{Marks}
use Rattle.cpg_json.specs.declared.marks.Marks.TheVariants as marks
use Rattle.cpg_console.specs.declared.runs.Picture.{Picture}
use Rattle.cpg_console.specs.declared.runs.Picture.TheVariants.{Svg, Lines}
use Rattle.cpg_why.specs.declared.asking.Asked.{Asked as Question}
use Rattle.cpg_why.specs.declared.asking.Asked.TheVariants.{Denials, Connection}
use Rattle.cpg_print.specs.Entries.{conn_of_word}
use Rattle.cpg_text.specs.Numbers.{number_in}

-- the name of the subcommand of a run
abbrev pub name_of : Run → List ℕ
name_of (Judge form) = codes "judge"
name_of (JudgeOnly filter) = codes "judge"
name_of (Accept form) = codes "accept"
name_of (Why form asked) = codes "why"
name_of (Step form settings words) = codes "step"
name_of (StepWhy form asked settings words) = codes "step"
name_of (Draw picture settings words) = codes "draw"
name_of (Number settings words) = codes "step"
name_of (Echo settings words) = codes "step"
name_of (Cluster options chances settings words) = codes "run"
name_of (ClusterWhy inquiry settings words) = codes "run"

-- the number is what the option's text writes, in ten digits
abbrev pub IsGiven : Found → List ℕ → ℕ → Type 0
IsGiven found name number = (text : List ℕ) → one_text found name ≡ Some text → number ≡ digits_value 10 (without_leading_plus text)

-- the settings are those that the options give
pub record AreSettingsGiven (found : Found) (settings : Settings) : Type 0 where
  pub ring : IsGiven found (codes "ring") settings.ring
  pub nodes : IsGiven found (codes "nodes") settings.nodes
  pub places : IsGiven found (codes "places") settings.places
  pub hops : IsGiven found (codes "hops") settings.hops

-- the chances are those that the options give
pub record AreChancesGiven (found : Found) (chances : Chances) : Type 0 where
  pub lose : IsGiven found (codes "lose") chances.lose
  pub repeat : IsGiven found (codes "repeat") chances.repeat
  pub seed : IsGiven found (codes "seed") chances.seed

-- the texts of an argument, if it was used
abbrev pub texts_of : Option MatchedArg → List (List ℕ)
texts_of None = []
texts_of (Some argument) = raw_values argument

-- the words behind the options, as they were given
abbrev pub words_found : Found → List (List ℕ)
words_found found = texts_of (matched_of found (codes "accept"))

-- those that let users and groups in
abbrev pub words_given : Found → List (List ℕ)
words_given found = accept_words (words_found found)

-- the words behind the options of `why`, as they were given
abbrev pub why_words : Found → List (List ℕ)
why_words found = texts_of (matched_of found (codes "place"))

-- how many words name what a run asks why of
abbrev pub words_before : Run → ℕ
words_before (Why form asked) = words_for asked
words_before _ = 0

-- The path of the script, where one was given: behind the entry that is asked of, or the first word where none is; of a
-- script over a ring the first word, where it names a file; else an argument of its own.
abbrev pub path_given : Run → Found → Option (List ℕ)
path_given (Judge form) found = but_input (first_value found (codes "file"))
path_given (JudgeOnly filter) found = but_input (first_value found (codes "file"))
path_given (Accept form) found = but_input (first_value found (codes "file"))
path_given (Why form asked) found = but_input (slice_get (why_words found) (words_for asked))
path_given _ found = script_file (words_found found)

-- the option was used, or not
abbrev pub IsUsed : Found → List ℕ → Type 0
IsUsed found name = one_text found name ≡ Some (codes "true")

abbrev pub IsUnused : Found → List ℕ → Type 0
IsUnused found name = (one_text found name ≡ Some (codes "false")) ⊎ (one_text found name ≡ None)

-- the form is JSON where the option asks for it, and else text
abbrev pub IsFormGiven : Found → Form → Type 0
IsFormGiven found form = (IsUsed found (codes "json") → form ≡ Json) × (IsUnused found (codes "json") → form ≡ Text)

-- the rows of a picture are those that the option's word says, and those with frames alone where an option asks for that
pub record IsExcerptGiven (found : Found) (excerpt : Excerpt) : Type 0 where
  pub rows : rows_given (first_value found (codes "rows")) ≡ Some (excerpt.first, excerpt.last)
  pub frames : IsUsed found (codes "frames-only") → excerpt.frames ≡ true
  pub all : IsUnused found (codes "frames-only") → excerpt.frames ≡ false

-- the picture is one of lines, of those rows
abbrev pub IsLinesGiven : Found → Picture → Type 0
IsLinesGiven found (Lines excerpt) = IsExcerptGiven found excerpt
IsLinesGiven found _ = ⊥

-- or an SVG of them
abbrev pub IsSvgGiven : Found → Picture → Type 0
IsSvgGiven found (Svg excerpt) = IsExcerptGiven found excerpt
IsSvgGiven found _ = ⊥

-- what stands in the objects of `step` is what the options ask for: at most one of both is used
pub record AreMarksGiven (found : Found) (given : Marks) : Type 0 where
  pub numbers : IsUsed found (codes "numbers") → given ≡ marks.Numbers
  pub echo : IsUnused found (codes "numbers") → IsUsed found (codes "echo") → given ≡ marks.Echo
  pub none : IsUnused found (codes "numbers") → IsUnused found (codes "echo") → given ≡ marks.Line

-- the answers of `step` are objects with those marks where the option asks for JSON, and else text
abbrev pub IsSteppedGiven : Found → Stepped → Type 0
IsSteppedGiven found stepped.Text = IsFormGiven found Text
IsSteppedGiven found (stepped.Json given) = IsFormGiven found Json × AreMarksGiven found given

-- the picture is one of lines where the option asks for it, and else an SVG
abbrev pub IsPictureGiven : Found → Picture → Type 0
IsPictureGiven found picture = (IsUsed found (codes "text") → IsLinesGiven found picture) × (IsUnused found (codes "text") → IsSvgGiven found picture)

-- the entry that is asked of is the one that the first word names, and whom it told, where a connection is named
abbrev pub IsEntryAsked : Form → Option (List ℕ) → List (List ℕ) → Run → Type 0
IsEntryAsked form to (word ∷ rest) (Why given asked) = (given ≡ form) × (entry_named to word ≡ Some asked)
IsEntryAsked form to _ _ = ⊥

-- that connection is asked for
abbrev pub IsWayAsked : Form → List ℕ → Run → Type 0
IsWayAsked form word (Why given (Connection conn)) = (given ≡ form) × (conn_of_word word ≡ Some conn)
IsWayAsked form word _ = ⊥

-- what is asked where a connection is named, and where none is: all denials where that option is used, else the entry of the first word
abbrev pub IsWhyAsked : Form → Found → Option (List ℕ) → Run → Type 0
IsWhyAsked form found (Some word) run = IsWayAsked form word run
IsWhyAsked form found None run = (IsUsed found (codes "all") → run ≡ Why form Denials) × (IsUnused found (codes "all") → IsEntryAsked form (first_value found (codes "to")) (why_words found) run)

-- the same of the connection that was given, in the form that the option asks for
abbrev pub IsWhyGiven : Form → Found → Run → Type 0
IsWhyGiven form found run = IsFormGiven found form × IsWhyAsked form found (first_value found (codes "connection")) run

-- the settings and the words are those that were given
abbrev pub AreGiven : Found → Settings → List (List ℕ) → Type 0
AreGiven found settings words = AreSettingsGiven found settings × (words ≡ words_given found)

-- what is asked why of, where a word is given, and of which connection, where one is named
abbrev pub question_asked : Option (List ℕ) → Option (List ℕ) → Option Question
question_asked to None = None
question_asked to (Some word) = question_named to word

-- how long a wait looks: so many milliseconds, where they are given
abbrev pub wait_limit_given : Option (List ℕ) → Option WaitLimit
wait_limit_given None = Some Looks
wait_limit_given (Some word) = option_map Millis (number_in 0 4294967295 word)

-- the line and the session stand before each line where the option asks for it
abbrev pub IsShownGiven : Found → TextForm → Type 0
IsShownGiven found shown = (IsUsed found (codes "echo") → shown ≡ Echoed) × (IsUnused found (codes "echo") → shown ≡ Plain)

-- the answers are text that is shown so
abbrev pub IsTextGiven : Found → OutputForm → Type 0
IsTextGiven found (output_form.Text shown) = IsShownGiven found shown
IsTextGiven found _ = ⊥

-- and with what is known where no event came
abbrev pub IsNotedGiven : Found → Known → OutputForm → Type 0
IsNotedGiven found known (output_form.Noted noted) = (noted.known ≡ known) × IsShownGiven found noted.shown
IsNotedGiven found known _ = ⊥

-- the answers of a cluster are objects of JSON where an option asks for it, and else text; with what is known where one asks for that
pub record IsOutputFormGiven (found : Found) (known : Known) (form : OutputForm) : Type 0 where
  pub json : IsUsed found (codes "json") → form ≡ output_form.Json
  pub noted : IsUnused found (codes "json") → IsUsed found (codes "verbose") → IsNotedGiven found known form
  pub text : IsUnused found (codes "json") → IsUnused found (codes "verbose") → IsTextGiven found form

-- and a wait looks for as long as is given, over a ring of those settings
abbrev pub AreRunOptionsGiven : Found → Settings → RunOptions OutputForm → Type 0
AreRunOptionsGiven found settings options =
    (wait_limit_given (first_value found (codes "wait")) ≡ Some options.wait_limit)
    × IsOutputFormGiven found (record { wait_limit = options.wait_limit; settings = settings }) options.form

-- what is asked once a script of sessions was run is what the word asks, in the form that the option asks for, and a wait looks for as long as
-- is given
pub record IsInquiryGiven (found : Found) (inquiry : Inquiry) : Type 0 where
  pub asked : question_asked (first_value found (codes "to")) (first_value found (codes "why")) ≡ Some inquiry.asked
  pub form : IsFormGiven found inquiry.form
  pub wait_limit : wait_limit_given (first_value found (codes "wait")) ≡ Some inquiry.wait_limit
  pub chances : AreChancesGiven found inquiry.chances

-- a run has the form, the settings and the words that were given
abbrev pub IsGivenBy : Found → Run → Type 0
IsGivenBy found (Judge form) = IsFormGiven found form × (is_filtered found ≡ false)
IsGivenBy found (JudgeOnly filter) = IsFilterGiven found filter
IsGivenBy found (Accept form) = IsFormGiven found form
IsGivenBy found (Why form asked) = IsWhyGiven form found (Why form asked)
IsGivenBy found (Step form settings words) = (first_value found (codes "why") ≡ None) × IsSteppedGiven found form × AreGiven found settings (map (λ word. word.now) words.now)
IsGivenBy found (Draw picture settings words) = IsPictureGiven found picture × AreGiven found settings (map (λ word. word.now) words.now)
IsGivenBy found (StepWhy form asked settings words) =
    (question_asked (first_value found (codes "to")) (first_value found (codes "why")) ≡ Some asked) × IsFormGiven found form × AreGiven found settings (map (λ word. word.now) words.now)
IsGivenBy found (Number settings words) = (first_value found (codes "why") ≡ None) × AreGiven found settings (map (λ word. word.now) words.now)
IsGivenBy found (Echo settings words) = (first_value found (codes "why") ≡ None) × AreGiven found settings (map (λ word. word.now) words.now)
IsGivenBy found (Cluster options chances settings words) =
    (first_value found (codes "why") ≡ None) × AreRunOptionsGiven found settings options × AreChancesGiven found chances
    × AreGiven found settings (map (λ word. word.now) words.now)
IsGivenBy found (ClusterWhy inquiry settings words) = IsInquiryGiven found inquiry × AreGiven found settings (map (λ word. word.now) words.now)

-- the numbers of frames are written, too
abbrev pub is_numbered : Run → Bool
is_numbered (Number settings words) = true
is_numbered _ = false

-- each line is written behind the number of its script line
abbrev pub is_echoed : Run → Bool
is_echoed (Echo settings words) = true
is_echoed _ = false

-- what is asked for is the run of that name, with what was given, of the script that was given
pub record IsAskedFor (found : Found) (called : List ℕ) (asked : Asked) : Type 0 where
  pub name : name_of asked.run ≡ called
  pub run : IsGivenBy found asked.run
  pub source : path_of asked.source ≡ path_given asked.run found

-- what `shell` is asked for is what was given; all its words let users and groups in
pub record IsShellGiven (found : Found) (asked : AskedShell) : Type 0 where
  pub options : AreRunOptionsGiven found asked.settings asked.options
  pub chances : AreChancesGiven found asked.chances
  pub settings : AreSettingsGiven found asked.settings
  pub words : map (λ word. word.now) asked.words.now ≡ words_found found

-- the exit status of what is said: 0 for help and the version, 1 where memory was refused or where what was
-- asked for could not be written, and else 2, a fault of the command line
abbrev pub IsStatusOf : ErrorKind → ℕ → Type 0
IsStatusOf DisplayHelp status = (status ≡ 0) ⊎ (status ≡ 1)
IsStatusOf DisplayVersion status = (status ≡ 0) ⊎ (status ≡ 1)
IsStatusOf OutOfMemory status = status ≡ 1
IsStatusOf _ status = status ≡ 2

-- only what was asked for is written to standard output, and then nothing is said on standard error unless
-- it could not be written
abbrev pub SaysByKind : ErrorKind → ℕ → Option (List ℕ) → Option (List ℕ) → Option (List ℕ) → Option (List ℕ) → Type 0
SaysByKind DisplayHelp status output shown told said = status ≡ 0 → Keeps told said
SaysByKind DisplayVersion status output shown told said = status ≡ 0 → Keeps told said
SaysByKind _ status output shown told said = Keeps output shown
