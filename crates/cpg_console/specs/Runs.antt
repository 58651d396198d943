-- what a run of the program prints of a script, and how it ends
use Rattle.std.specs.Prelude.{ℕ, ◌≡◌, ◌≤◌, Bool, true, false, List, length, map, Option, Some, None, Result, Ok, Err, IfSome}
use Rattle.std.specs.Io.KnownBytes.{Keeps}
use Rattle.cpg_cred.specs.Listed.{Listed}
use Rattle.cpg_cred.specs.declared.admission.Via.{Via}
use Rattle.cpg_cred.specs.declared.refusals.Refusal.{Refusal}
use Rattle.cpg_cred.specs.declared.refusals.Refusal.TheVariants.{Range, Write}
use Rattle.cpg_text.specs.declared.streams.TheConstants.{MOST_BYTES}
use Rattle.cpg_text.specs.declared.faults.Fault as script_faults
use Rattle.cpg_text.specs.Written.{WritesLate}
use Rattle.cpg_ring.specs.States.{IsSettings}
use Rattle.cpg_ring.specs.declared.settings.Settings.{Settings}
use Rattle.cpg_world_laws.specs.Worlds.{WorldValue, new_world}
use Rattle.cpg_accept.specs.Accepting as accept
use Rattle.cpg_accept.specs.Asks.{answer_line}
use Rattle.cpg_judge.specs.Judging as judge
use Rattle.cpg_judge.specs.Scripts.{entries_of_script}
use Rattle.cpg_judge.specs.Filtering.{filtered}
use Rattle.cpg_step.specs.Running as step
use Rattle.cpg_step.specs.Scripts.{commands_of_script}
use Rattle.cpg_step.specs.declared.commands.Command.{Command}
use Rattle.cpg_draw.specs.Drawing as draw
use Rattle.cpg_step.specs.Gathering.{IsGathered, LeavesGathered}
use Rattle.cpg_step.specs.NumberedSteps.{stepped_numbered}
use Rattle.cpg_json.specs.Answers.{accept_json}
use Rattle.cpg_json.specs.Judging.{judged_json}
use Rattle.cpg_json.specs.Stepping.{stepped_json}
use Rattle.cpg_why.specs.Forms.{plain}
use Rattle.cpg_why.specs.Scripts as why
use Rattle.cpg_why.specs.Explaining as told_steps
use Rattle.cpg_why.specs.Sessions as audit
use Rattle.cpg_why.specs.declared.asking.Asked.{Asked}
use Rattle.cpg_why.specs.declared.asking.WhyFault as why_faults
use Rattle.cpg_why.specs.declared.asking.WhyFault.TheVariants as why_fault
use Rattle.cpg_cluster.specs.Lines.{Printed}
use Rattle.cpg_cluster.specs.Running as cluster
use Rattle.cpg_cluster.specs.Scripts as clustered
use Rattle.cpg_console.specs.Echoing as echo
use Rattle.cpg_console.specs.OutputForms.{output_as}
use Rattle.cpg_console.specs.Words.{list_of_words}
use Rattle.cpg_console.specs.declared.failures.Among.TheVariants.{Script, Delivered}
use Rattle.cpg_console.specs.declared.failures.Failure.{Failure}
use Rattle.cpg_console.specs.declared.failures.Failure.TheVariants.{BadWord, Fault, Missing}
use Rattle.cpg_console.specs.declared.runs.Form.{Form}
use Rattle.cpg_console.specs.declared.runs.Form.TheVariants.{Text, Json}
use Rattle.cpg_console.specs.declared.runs.Picture.{Picture}
use Rattle.cpg_console.specs.declared.runs.Picture.TheVariants as picture
use Rattle.cpg_console.specs.declared.runs.Stepped.{Stepped}
use Rattle.cpg_console.specs.declared.runs.Stepped.TheVariants as stepped
use Rattle.cpg_console.specs.declared.runs.Run.{Run}
use Rattle.cpg_console.specs.declared.runs.Run.TheVariants.{Judge, JudgeOnly, Why, Accept, Step, StepWhy, Draw, Number, Echo, Cluster, ClusterWhy}

-- the exit status: 0, after a fault 1, after a fault of the command line 2: a wrong word, or a question of what is not there
abbrev pub status_after : Option Failure → ℕ
status_after None = 0
status_after (Some (Fault fault)) = 1
status_after (Some BadWord) = 2
status_after (Some (Missing absent)) = 2

-- the form in which the commands of a script are told, whose lines have those numbers
abbrev pub stepped_as : Stepped → List ℕ → step.Form
stepped_as stepped.Text numbers = step.stepped_text
stepped_as (stepped.Json marks) numbers = stepped_json marks numbers

-- a script, whose commands' lines have those numbers, was run over a world, and all its lines are written
abbrev pub IsRun : Stepped → List ℕ → Result (List Command) ℕ → WorldValue → Option (List ℕ) → Option (List ℕ) → WorldValue → Type 0
IsRun form numbers commands w old new world = step.IsRunIn (stepped_as form numbers) commands w old new world

-- what a refusal leaves of it
abbrev pub LeavesRun : Stepped → List ℕ → Result (List Command) ℕ → Refusal → WorldValue → Option (List ℕ) → Option (List ℕ) → WorldValue → Type 0
LeavesRun form numbers commands refused w old new world = step.LeavesIn (stepped_as form numbers) commands refused w old new world

-- The script was run over a new world, and all its lines are written.
abbrev pub StepsAll : Stepped → Settings → Listed → List ℕ → Option (List ℕ) → Option (List ℕ) → Type 0
StepsAll form s list script old new = (length script ≤ MOST_BYTES) × (world : WorldValue) × IsRun form (why.numbers_of script) (commands_of_script s.nodes script) (new_world s list) old new world

-- What a refusal leaves written of a script that is run over a new world; Range tells that there is none of those settings.
abbrev pub StepsUpTo : Stepped → Settings → Listed → List ℕ → Refusal → Option (List ℕ) → Option (List ℕ) → Type 0
StepsUpTo form s list script Range old new = (¬ IsSettings s) × Keeps old new
StepsUpTo form s list script refused old new = (world : WorldValue) × LeavesRun form (why.numbers_of script) (commands_of_script s.nodes script) refused (new_world s list) old new world

-- what `step` writes of a script, by the list that its words give
abbrev pub Steps : Stepped → Settings → Option Listed → List ℕ → Option Failure → Option (List ℕ) → Option (List ℕ) → Type 0
Steps form s None script failure old new = (failure ≡ Some BadWord) × Keeps old new
Steps form s (Some list) script None old new = StepsAll form s list script old new
Steps form s (Some list) script (Some (Fault fault)) old new = (fault.part ≡ None) × StepsUpTo form s list script fault.refusal old new
Steps form s (Some list) script _ old new = ⊥

-- what a refusal leaves of what is told of what a world delivered; Range tells that there is no world of those settings
abbrev pub ToldUpTo : Asked → Settings → Listed → List ℕ → Refusal → Option (List ℕ) → Option (List ℕ) → Type 0
ToldUpTo asked s list script Range old new = (¬ IsSettings s) × Keeps old new
ToldUpTo asked s list script refused old new =
    (world : WorldValue) × told_steps.LeavesBy plain (commands_of_script s.nodes script) asked refused (new_world s list) old new world

-- what `step --why` writes of a script, by the list that its words give: what is told of what a new world delivered by its commands
abbrev pub TellsSteps : Asked → Settings → Option Listed → List ℕ → Option Failure → Option (List ℕ) → Option (List ℕ) → Type 0
TellsSteps asked s None script failure old new = (failure ≡ Some BadWord) × Keeps old new
TellsSteps asked s (Some list) script None old new =
    (length script ≤ MOST_BYTES) × ((world : WorldValue) × told_steps.IsExplained plain (commands_of_script s.nodes script) asked (new_world s list) old new world)
TellsSteps asked s (Some list) script (Some (Fault fault)) old new = (fault.part ≡ None) × ToldUpTo asked s list script fault.refusal old new
TellsSteps asked s (Some list) script (Some (Missing absent)) old new =
    (absent.among ≡ Delivered)
    × ((world : WorldValue) × told_steps.Leaves plain (commands_of_script s.nodes script) asked (why_fault.Missing absent.what) (new_world s list) old new world)
TellsSteps asked s (Some list) script (Some BadWord) old new = ⊥

-- the picture of an excerpt of a script's run, as one SVG or as lines for a terminal, is written, or its lines with the numbers of frames
abbrev pub IsDrawn : Picture → Result (List Command) ℕ → WorldValue → Option (List ℕ) → Option (List ℕ) → Type 0
IsDrawn (picture.Svg x) commands w old new = draw.IsDrawn commands old new
IsDrawn (picture.Lines x) commands w old new = draw.IsDrawn commands old new
IsDrawn picture.Numbered commands w old new = IsGathered stepped_numbered commands w old new

-- what a refusal leaves of it
abbrev pub LeavesDrawn : Picture → Result (List Command) ℕ → Refusal → WorldValue → Option (List ℕ) → Option (List ℕ) → Type 0
LeavesDrawn (picture.Svg x) commands refused w old new = draw.Leaves commands refused old new
LeavesDrawn (picture.Lines x) commands refused w old new = draw.Leaves commands refused old new
LeavesDrawn picture.Numbered commands refused w old new = LeavesGathered stepped_numbered commands refused w old new

-- What a refusal leaves written of the picture of a script's run; Range tells that there is no world of those settings.
abbrev pub DrawsUpTo : Picture → Settings → Listed → List ℕ → Refusal → Option (List ℕ) → Option (List ℕ) → Type 0
DrawsUpTo kind s list script Range old new = (¬ IsSettings s) × Keeps old new
DrawsUpTo kind s list script refused old new = LeavesDrawn kind (commands_of_script s.nodes script) refused (new_world s list) old new

-- what `draw` writes of a script, by the list that its words give: the picture of its run over a new world
abbrev pub Draws : Picture → Settings → Option Listed → List ℕ → Option Failure → Option (List ℕ) → Option (List ℕ) → Type 0
Draws kind s None script failure old new = (failure ≡ Some BadWord) × Keeps old new
Draws kind s (Some list) script None old new = (length script ≤ MOST_BYTES) × IsDrawn kind (commands_of_script s.nodes script) (new_world s list) old new
Draws kind s (Some list) script (Some (Fault fault)) old new = (fault.part ≡ None) × DrawsUpTo kind s list script fault.refusal old new
Draws kind s (Some list) script _ old new = ⊥

-- What a refusal leaves written of a script whose lines are echoed; Range tells that there is no world of those settings.
abbrev pub EchoesUpTo : Settings → Listed → List ℕ → Refusal → Option (List ℕ) → Option (List ℕ) → Type 0
EchoesUpTo s list script Range old new = (¬ IsSettings s) × Keeps old new
EchoesUpTo s list script refused old new = echo.Leaves (commands_of_script s.nodes script) (why.numbers_of script) refused (new_world s list) old new

-- what `step --echo` writes of a script, by the list that its words give: what its run over a new world prints, each line behind its echo
abbrev pub Echoes : Settings → Option Listed → List ℕ → Option Failure → Option (List ℕ) → Option (List ℕ) → Type 0
Echoes s None script failure old new = (failure ≡ Some BadWord) × Keeps old new
Echoes s (Some list) script None old new =
    (length script ≤ MOST_BYTES) × echo.IsWritten (commands_of_script s.nodes script) (why.numbers_of script) (new_world s list) old new
Echoes s (Some list) script (Some (Fault fault)) old new = (fault.part ≡ None) × EchoesUpTo s list script fault.refusal old new
Echoes s (Some list) script _ old new = ⊥

-- the form in which a script's entries are told
abbrev pub judged_as : Form → List ℕ → judge.Form
judged_as Text script = judge.judged_text
judged_as Json script = judged_json (why.numbers_of script)

-- the judgement of a script is written in its form
abbrev pub IsJudged : Form → List ℕ → Option (List ℕ) → Option (List ℕ) → Type 0
IsJudged form script old new = judge.IsWritten (judged_as form script) (entries_of_script script) old new

-- what a refusal leaves of it
abbrev pub LeavesJudged : Form → List ℕ → Refusal → Option (List ℕ) → Option (List ℕ) → Type 0
LeavesJudged form script refused old new = judge.Leaves (judged_as form script) (entries_of_script script) refused old new

-- how the answer to an ask is told
abbrev pub answered_as : Form → Option Via → List ℕ
answered_as Text = answer_line
answered_as Json = accept_json

-- the answers to a script's asks are written in their form
abbrev pub AreAnswered : Form → List ℕ → Option (List ℕ) → Option (List ℕ) → Type 0
AreAnswered form script old new = accept.IsWritten (answered_as form) (accept.admitted_by script) old new

-- what a fault leaves of them
abbrev pub LeavesAnswered : Form → List ℕ → script_faults.Fault → Option (List ℕ) → Option (List ℕ) → Type 0
LeavesAnswered form script fault old new = accept.Ends (answered_as form) script fault old new

-- why nothing is explained, as a failure: of the entries of a script, or of those that nodes delivered
abbrev pub failure_of_why : why_faults.WhyFault → Failure
failure_of_why (why_fault.Script fault) = Fault fault
failure_of_why (why_fault.Missing what) = Missing (record { what = what; among = Script })

abbrev pub failure_of_delivered : why_faults.WhyFault → Failure
failure_of_delivered (why_fault.Script fault) = Fault fault
failure_of_delivered (why_fault.Missing what) = Missing (record { what = what; among = Delivered })

-- what `why` writes of a script: what it tells of what is asked, or after a fault what that fault leaves
abbrev pub Explains : Asked → List ℕ → Option Failure → Option (List ℕ) → Option (List ℕ) → Type 0
Explains asked script None old new = (length script ≤ MOST_BYTES) × why.IsWritten plain (entries_of_script script) (why.numbers_of script) asked old new
Explains asked script (Some (Fault fault)) old new = why.Leaves plain (entries_of_script script) (why.numbers_of script) asked (why_fault.Script fault) old new
Explains asked script (Some (Missing absent)) old new =
    (absent.among ≡ Script) × why.Leaves plain (entries_of_script script) (why.numbers_of script) asked (why_fault.Missing absent.what) old new
Explains asked script (Some BadWord) old new = ⊥

-- The script was run over a cluster of so many nodes whose history starts so, and all its text is written.
abbrev pub ClustersAll : Printed → ℕ → WorldValue → List ℕ → Option (List ℕ) → Option (List ℕ) → Type 0
ClustersAll printed nodes start script old new = (length script ≤ MOST_BYTES) × cluster.IsRun printed start (clustered.commands_of_script nodes script) old new

-- What a refusal leaves written of it; Range tells that there is no cluster of those settings.
abbrev pub ClustersUpTo : Printed → Settings → Listed → List ℕ → Refusal → Option (List ℕ) → Option (List ℕ) → Type 0
ClustersUpTo printed s list script Range old new = (¬ IsSettings s) × Keeps old new
ClustersUpTo printed s list script refused old new = cluster.Leaves printed (new_world s list) (clustered.commands_of_script s.nodes script) refused old new

-- what `run` writes of a script in that form, by the list that its words give
abbrev pub Clusters : Printed → Settings → Option Listed → List ℕ → Option Failure → Option (List ℕ) → Option (List ℕ) → Type 0
Clusters printed s None script failure old new = (failure ≡ Some BadWord) × Keeps old new
Clusters printed s (Some list) script None old new = ClustersAll printed s.nodes (new_world s list) script old new
Clusters printed s (Some list) script (Some (Fault fault)) old new = (fault.part ≡ None) × ClustersUpTo printed s list script fault.refusal old new
Clusters printed s (Some list) script _ old new = ⊥

-- the same of the script that a reader tells, where that is known
abbrev pub ClustersOf : Printed → Settings → Option Listed → Option (List ℕ) → Option Failure → Option (List ℕ) → Option (List ℕ) → Type 0
ClustersOf printed s list input None old new = IfSome input (λ script. Clusters printed s list script None old new)
ClustersOf printed s list input (Some failure) old new = IfSome input (λ script. Clusters printed s list script (Some failure) old new)

-- what is asked is told of the entries that stand on a board of so many places
abbrev pub IsAudited : Asked → ℕ → Option (List ℕ) → Option (List ℕ) → Type 0
IsAudited asked places old new = (board : List ℕ) × (length board ≡ places) × audit.IsTold plain board asked old new

-- what a fault leaves of that, by its refusal; Range tells that there is no cluster of those settings
abbrev pub AuditedUpTo : Refusal → Asked → Settings → Listed → List ℕ → script_faults.Fault → Option (List ℕ) → Option (List ℕ) → Type 0
AuditedUpTo Range asked s list script fault old new = (¬ IsSettings s) × Keeps old new
AuditedUpTo refused asked s list script fault old new =
    (board : List ℕ) × audit.Leaves plain board (new_world s list) (clustered.commands_of_script s.nodes script) asked (why_fault.Script fault) old new

-- what `run --why` writes of a script, by the list that its words give: what is told of what stands on a new cluster's board after its commands
abbrev pub TellsSessions : Asked → Settings → Option Listed → List ℕ → Option Failure → Option (List ℕ) → Option (List ℕ) → Type 0
TellsSessions asked s None script failure old new = (failure ≡ Some BadWord) × Keeps old new
TellsSessions asked s (Some list) script None old new =
    (length script ≤ MOST_BYTES) × audit.AreRun (new_world s list) (clustered.commands_of_script s.nodes script) × IsAudited asked s.places old new
TellsSessions asked s (Some list) script (Some (Fault fault)) old new =
    (fault.part ≡ None) × AuditedUpTo fault.refusal asked s list script fault old new
TellsSessions asked s (Some list) script (Some (Missing absent)) old new =
    (absent.among ≡ Delivered)
    × ((board : List ℕ) × audit.Leaves plain board (new_world s list) (clustered.commands_of_script s.nodes script) asked (why_fault.Missing absent.what) old new)
TellsSessions asked s (Some list) script (Some BadWord) old new = ⊥

-- the same of the script that a reader tells, where that is known
abbrev pub TellsSessionsOf : Asked → Settings → Option Listed → Option (List ℕ) → Option Failure → Option (List ℕ) → Option (List ℕ) → Type 0
TellsSessionsOf asked s list input None old new = IfSome input (λ script. TellsSessions asked s list script None old new)
TellsSessionsOf asked s list input (Some failure) old new = IfSome input (λ script. TellsSessions asked s list script (Some failure) old new)

-- a word of the run's command line lets nobody in
abbrev pub HasWrongWord : Run → Type 0
HasWrongWord (Judge form) = ⊥
HasWrongWord (JudgeOnly filter) = ⊥
HasWrongWord (Why form asked) = ⊥
HasWrongWord (Accept form) = ⊥
HasWrongWord (Step form settings words) = list_of_words (map (λ word. word.now) words.now) ≡ None
HasWrongWord (StepWhy form asked settings words) = list_of_words (map (λ word. word.now) words.now) ≡ None
HasWrongWord (Draw picture settings words) = list_of_words (map (λ word. word.now) words.now) ≡ None
HasWrongWord (Number settings words) = list_of_words (map (λ word. word.now) words.now) ≡ None
HasWrongWord (Echo settings words) = list_of_words (map (λ word. word.now) words.now) ≡ None
HasWrongWord (Cluster options chances settings words) = list_of_words (map (λ word. word.now) words.now) ≡ None
HasWrongWord (ClusterWhy inquiry settings words) = list_of_words (map (λ word. word.now) words.now) ≡ None

-- what a run writes of a script to standard output: all of its text, or after a fault what that fault leaves
abbrev pub Prints : Run → List ℕ → Option Failure → Option (List ℕ) → Option (List ℕ) → Type 0
Prints (Judge form) script None old new = (length script ≤ MOST_BYTES) × IsJudged form script old new
Prints (Judge form) script (Some (Fault fault)) old new = (fault.part ≡ None) × LeavesJudged form script fault.refusal old new
Prints (JudgeOnly filter) script None old new = (length script ≤ MOST_BYTES) × judge.IsWritten (filtered filter) (entries_of_script script) old new
Prints (JudgeOnly filter) script (Some (Fault fault)) old new = (fault.part ≡ None) × judge.Leaves (filtered filter) (entries_of_script script) fault.refusal old new
Prints (Why form asked) script failure old new = Explains asked script failure old new
Prints (Accept form) script None old new = (length script ≤ MOST_BYTES) × AreAnswered form script old new
Prints (Accept form) script (Some (Fault fault)) old new = LeavesAnswered form script fault old new
Prints (Step form settings words) script failure old new = Steps form settings (list_of_words (map (λ word. word.now) words.now)) script failure old new
Prints (StepWhy form asked settings words) script failure old new = TellsSteps asked settings (list_of_words (map (λ word. word.now) words.now)) script failure old new
Prints (Draw kind settings words) script failure old new = Draws kind settings (list_of_words (map (λ word. word.now) words.now)) script failure old new
Prints (Number settings words) script failure old new = Draws picture.Numbered settings (list_of_words (map (λ word. word.now) words.now)) script failure old new
Prints (Echo settings words) script failure old new = Echoes settings (list_of_words (map (λ word. word.now) words.now)) script failure old new
Prints (Cluster options chances settings words) script failure old new = Clusters (output_as options.form) settings (list_of_words (map (λ word. word.now) words.now)) script failure old new
Prints (ClusterWhy inquiry settings words) script failure old new =
    TellsSessions inquiry.asked settings (list_of_words (map (λ word. word.now) words.now)) script failure old new
Prints _ script _ old new = ⊥

-- nothing is written before the words were found right, and the script read and checked
abbrev pub FailsLate : Failure → Option (List ℕ) → Option (List ℕ) → Type 0
FailsLate BadWord old new = Keeps old new
FailsLate (Missing absent) old new = Keeps old new
FailsLate (Fault fault) old new = WritesLate fault.refusal old new

-- the failure is a fault of the command line
abbrev pub IsOfWords : Failure → Type 0
IsOfWords (Fault fault) = ⊥
IsOfWords _ = Unit {0}

-- why a script was not run to its end, where it was not
abbrev pub failure_of : Result (Unit {0}) Failure → Option Failure
failure_of (Err failure) = Some failure
failure_of (Ok done) = None

-- the failure of a run: its script's, but one of writing where the flush after it failed; a fault of the command line, after which nothing is
-- written, stays
abbrev pub failure_told : Bool → Option Failure → Option Failure
failure_told flushed (Some BadWord) = Some BadWord
failure_told flushed (Some (Missing absent)) = Some (Missing absent)
failure_told true first = first
failure_told false first = Some (Fault (accept.whole_fault Write))

-- A run prints what its script's own end leaves, and the flush after it changes nothing of that; it tells that end, or the flush that failed.
pub record Runs (run : Run) (script : List ℕ) (flushed : Bool) (failure : Option Failure) (old new : Option (List ℕ)) : Type 0 where
  pub first : Option Failure
  pub gathered : Option (List ℕ)
  pub prints : Prints run script first old gathered
  pub kept : Keeps gathered new
  pub tells : failure ≡ failure_told flushed first
