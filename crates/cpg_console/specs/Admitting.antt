-- what `cpgring admit` prints, and what it tells of a file's fault
use Rattle.std.specs.Borrow.{Bor}
use Rattle.std.specs.Prelude.{ℕ, ◌≡◌, ◌⊎◌, zero, Bool, true, false, if◌then◌else◌, List, [], ◌++◌, slice_get, Option, Some, None, Result, Ok, Err}
use Rattle.std.specs.Io.KnownBytes.{Appends, Keeps}
use Rattle.cpg_cred.specs.Listed.{Listed}
use Rattle.cpg_cred.specs.declared.credentials.Cred.{Cred}
use Rattle.cpg_cred.specs.declared.refusals.Refusal.TheVariants as refusal
use Rattle.cpg_text.specs.Streams.{AppendsFront}
use Rattle.cpg_accept.specs.Accepting.{whole_fault}
use Rattle.cpg_conf.specs.Listed.{nothing}
use Rattle.cpg_conf.specs.Names.{Known, known_of}
use Rattle.cpg_accept.specs.Admitting.{asks_in, first_wrong_ask, known_in, listed_onto, read_in}
use Rattle.cpg_accept.specs.Forms.{admitted_echo, admitted_text}
use Rattle.cpg_accept.specs.Telling.{fault_text}
use Rattle.cpg_accept.specs.declared.admit.texts.AdmitFault.{AdmitFault}
use Rattle.cpg_accept.specs.declared.admit.texts.File.{File as AdmitFile}
use Rattle.cpg_accept.specs.declared.admit.texts.File.TheVariants as file
use Rattle.cpg_accept.specs.declared.admit.texts.NamedText.{NamedText}
use Rattle.cpg_hint.specs.Files.{file_hint}
use Rattle.cpg_json.specs.Admitted.{admitted_json, admitted_json_echo}
use Rattle.cpg_console.specs.Telling.{error_line}
use Rattle.cpg_console.specs.declared.admitting.Admission.{Admission}
use Rattle.cpg_console.specs.declared.admitting.AdmitOptions.{AdmitOptions}
use Rattle.cpg_console.specs.declared.admitting.Unadmitted.{Unadmitted}
use Rattle.cpg_console.specs.declared.admitting.Unadmitted.TheVariants.{File, Word}
use Rattle.cpg_console.specs.declared.runs.Form.{Form}
use Rattle.cpg_console.specs.declared.runs.Form.TheVariants as forms

-- the text of a file, and none where there is no file
abbrev pub text_or_none : Option NamedText → List ℕ
text_or_none None = []
text_or_none (Some named) = named.text.now

-- the path of a file, and none where there is no file
abbrev pub path_or_none : Option NamedText → List ℕ
path_or_none None = []
path_or_none (Some named) = named.path.now

-- one of the files, where there is such a one
abbrev pub file_in : Admission → AdmitFile → Option NamedText
file_in a (file.Conf index) = slice_get a.confs.now index
file_in a file.Names = a.names
file_in a file.Passwd = a.passwd
file_in a file.Group = a.group

-- its text, and its path
abbrev pub text_in : Admission → AdmitFile → List ℕ
text_in a it = text_or_none (file_in a it)

abbrev pub path_in : Admission → AdmitFile → List ℕ
path_in a it = path_or_none (file_in a it)

-- the names that are told: by the names text, or where there is none by the accounts
abbrev pub names_of : Option NamedText → List ℕ → List ℕ → Result Known AdmitFault
names_of (Some names) passwd group = read_in file.Names (known_of names.text.now)
names_of None passwd group = known_in passwd group

abbrev pub names_told : Admission → Result Known AdmitFault
names_told a = names_of a.names (text_or_none a.passwd) (text_or_none a.group)

-- whom a list lets in, or the list, in a form; with the UID and the GID of each answer, where that is asked for
abbrev pub admitted_by_form : Form → Bool → Listed → List Cred → List ℕ
admitted_by_form forms.Text false list asks = admitted_text list asks
admitted_by_form forms.Text true list asks = admitted_echo list asks
admitted_by_form forms.Json false list asks = admitted_json list asks
admitted_by_form forms.Json true list asks = admitted_json_echo list asks

abbrev pub admitted_as : AdmitOptions → Listed → List Cred → List ℕ
admitted_as options list asks = admitted_by_form options.form options.echo list asks

-- and then, unless a file has a fault
abbrev pub and_then : {A B : Type 0} → Result A AdmitFault → (A → Result B Unadmitted) → Result B Unadmitted
and_then (Ok read) more = more read
and_then (Err fault) more = Err (File fault)

-- what is printed where no word asks of nobody
abbrev pub unless_wrong : {B : Type 0} → Option ℕ → Result B Unadmitted → Result B Unadmitted
unless_wrong None more = more
unless_wrong (Some index) more = Err (Word index)

-- what is printed by those names of whom words ask of that are right, or the first fault of a conf file
abbrev pub printed_asked : AdmitOptions → Known → List NamedText → List (Bor (List ℕ)) → Result (List ℕ) Unadmitted
printed_asked options names confs words = and_then (listed_onto names 0 confs nothing) (λ list. Ok (admitted_as options list (asks_in names words)))

-- what is printed, or why nothing is: the first fault of the names, then the first wrong word, then the first fault of a conf file
abbrev pub printed_by : AdmitOptions → Admission → List (Bor (List ℕ)) → Result (List ℕ) Unadmitted
printed_by options a words =
    and_then (names_told a) (λ names. unless_wrong (first_wrong_ask names words) (printed_asked options names a.confs.now words))

-- why nothing is printed: that, or want of memory
abbrev pub IsUnprinted : Result (List ℕ) Unadmitted → Unadmitted → Type 0
IsUnprinted printed (File fault) = (printed ≡ Err (File fault)) ⊎ (fault.refusal ≡ refusal.Memory)
IsUnprinted printed (Word index) = printed ≡ Err (Word index)

-- the text is written, and nothing is told; or a front of it is, with the status of a fault, of which a front is told
abbrev pub WritesText : List ℕ → ℕ → Option (List ℕ) → Option (List ℕ) → Option (List ℕ) → Option (List ℕ) → Type 0
WritesText text zero old new told said = Appends old new text × Keeps told said
WritesText text status old new told said = (status ≡ 1) × AppendsFront old new text × AppendsFront told said (error_line (whole_fault refusal.Write))

-- the line of a fault, and behind it a hint where that is asked for
abbrev pub told_of : Bool → Admission → AdmitFault → List ℕ
told_of hints a fault =
    fault_text (path_in a fault.file) (text_in a fault.file) fault.refusal ++ (if hints then file_hint fault.file (text_in a fault.file) fault.refusal else [])

-- these are told, or that memory was refused to them, as far as the stream allows
abbrev pub TellsOf : Bool → Admission → AdmitFault → Option (List ℕ) → Option (List ℕ) → Type 0
TellsOf hints a fault told said = AppendsFront told said (told_of hints a fault) ⊎ AppendsFront told said (error_line (whole_fault refusal.Memory))

-- a fault ends it, or want of memory: nothing is printed, and that is told
abbrev pub EndsTold : Bool → Admission → Result (List ℕ) Unadmitted → ℕ → Option (List ℕ) → Option (List ℕ) → Option (List ℕ) → Option (List ℕ) → Type 0
EndsTold hints a printed status old new told said =
    (status ≡ 1) × Keeps old new × ((fault : AdmitFault) × ((printed ≡ Err (File fault)) ⊎ (fault.refusal ≡ refusal.Memory)) × TellsOf hints a fault told said)

-- what is printed is written, or nothing is and why is told
abbrev pub EndsBy : Bool → Admission → Result (List ℕ) Unadmitted → ℕ → Option (List ℕ) → Option (List ℕ) → Option (List ℕ) → Option (List ℕ) → Type 0
EndsBy hints a (Ok text) status old new told said = WritesText text status old new told said ⊎ EndsTold hints a (Ok text) status old new told said
EndsBy hints a (Err why) status old new told said = EndsTold hints a (Err why) status old new told said

-- it ends so, with a status; or with the index of a wrong word, and then nothing is printed or told
abbrev pub AdmitsBy : Bool → Admission → Result (List ℕ) Unadmitted → Result ℕ ℕ → Option (List ℕ) → Option (List ℕ) → Option (List ℕ) → Option (List ℕ) → Type 0
AdmitsBy hints a printed (Ok status) old new told said = EndsBy hints a printed status old new told said
AdmitsBy hints a printed (Err index) old new told said = (printed ≡ Err (Word index)) × Keeps old new × Keeps told said

abbrev pub Admits : AdmitOptions → Admission → List (Bor (List ℕ)) → Result ℕ ℕ → Option (List ℕ) → Option (List ℕ) → Option (List ℕ) → Option (List ℕ) → Type 0
Admits options a words ended old new told said = AdmitsBy options.hints a (printed_by options a words) ended old new told said
