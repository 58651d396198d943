-- what is written of what a cluster recorded
use Rattle.std.specs.Prelude.{◌≡◌, ◌⊎◌, ℕ, List, [], ◌∷◌, ◌++◌, Bool, Option, Some, None, IfSome, codes, decimal, length, map}
use Rattle.std.specs.List.{flat_map}
use Rattle.std.specs.Io.KnownBytes.{Appends}
use Rattle.cpg_console.specs.Words.{list_of_words}
use Rattle.cpg_console.specs.declared.runs.Run.{Run}
use Rattle.cpg_console.specs.declared.runs.Run.TheVariants.{Cluster}
use Rattle.cpg_ring.specs.declared.settings.Settings.{Settings}
use Rattle.cpg_world_laws.specs.declared.events.WorldEvent.{WorldEvent}
use Rattle.cpg_world_laws.specs.Worlds.{WorldValue, new_world}
use Rattle.cpg_cred.specs.Listed.{Listed}
use Rattle.cpg_cred.specs.declared.refusals.Refusal.{Refusal}
use Rattle.cpg_history.specs.Members.{HaveSeen, MemberValue}
use Rattle.cpg_history.specs.declared.traces.Recorded.{Recorded}
use Rattle.cpg_text.specs.Streams.{AppendsFront}
use Rattle.cpg_cluster.specs.TraceScripts.{IsRecording, trace_text}

-- a word between two texts
abbrev pub between : List ℕ → List ℕ → List ℕ → List ℕ
between before after word = before ++ word ++ after

-- each word between two texts
abbrev pub each_between : List ℕ → List ℕ → List (List ℕ) → List ℕ
each_between before after words = flat_map (between before after) words

-- an option with a number
abbrev pub option_word : List ℕ → ℕ → List ℕ
option_word name number = name ++ decimal number

-- the words by which `step` plays a world of those settings, whose nodes let in whom the words let in
abbrev pub step_words : Settings → List (List ℕ) → List (List ℕ)
step_words s words =
    option_word (codes "--ring=") s.ring ∷ option_word (codes "--nodes=") s.nodes ∷ option_word (codes "--places=") s.places ∷ option_word (codes "--hops=") s.hops ∷ words

-- the first line of a trace: the command line that plays it
abbrev pub heading_text : Settings → List (List ℕ) → List ℕ
heading_text s words = codes "# cpgring step" ++ each_between (codes " ") [] (step_words s words) ++ codes "\n"

-- these words, one a line
abbrev pub words_text : Settings → List (List ℕ) → List ℕ
words_text s words = each_between [] (codes "\n") (step_words s words)

-- behind the heading is written what these stations recorded, which had seen this of the history
abbrev pub IsTraced : WorldValue → List WorldEvent → List MemberValue → List ℕ → Option (List ℕ) → Option (List ℕ) → Type 0
IsTraced start seen members heading old new = (script : List Recorded) × (cut : Bool) × IsRecording start seen members script cut × Appends old new (trace_text heading script cut)

-- nothing of that is written, or a front of it
abbrev pub IsPartlyTraced : WorldValue → List WorldEvent → List MemberValue → List ℕ → Option (List ℕ) → Option (List ℕ) → Type 0
IsPartlyTraced start seen members heading old new = (new ≡ old) ⊎ ((script : List Recorded) × (cut : Bool) × IsRecording start seen members script cut × AppendsFront old new (trace_text heading script cut))

-- the same by why it was refused, if it was
abbrev pub Traces : WorldValue → List WorldEvent → List MemberValue → List ℕ → Option Refusal → Option (List ℕ) → Option (List ℕ) → Type 0
Traces start seen members heading None old new = IsTraced start seen members heading old new
Traces start seen members heading (Some why) old new = IsPartlyTraced start seen members heading old new

-- a keeper took what was left of a cluster whose history began with that world: a station for each of its nodes, which had all seen the same of it
abbrev pub WasKept : {K : Type 0} → (WorldValue → List WorldEvent → List MemberValue → K → K → Type 0) → WorldValue → K → K → Type 0
WasKept keeps start old new =
    (seen : List WorldEvent) × (members : List MemberValue) × (length members ≡ start.settings.nodes) × HaveSeen members seen × keeps start seen members old new

-- the same of a cluster of those settings, whose nodes let in whom the words let in
abbrev pub WasKeptOf : {K : Type 0} → (WorldValue → List WorldEvent → List MemberValue → K → K → Type 0) → Settings → Option Listed → K → K → Type 0
WasKeptOf keeps settings list old new = IfSome list (λ l. WasKept keeps (new_world settings l) old new)

-- the keeper has what the run left: of a run of sessions its cluster's, of any other nothing
abbrev pub IsLeft : {K : Type 0} → (WorldValue → List WorldEvent → List MemberValue → K → K → Type 0) → Run → K → K → Type 0
IsLeft keeps (Cluster options chances settings words) old new = WasKeptOf keeps settings (list_of_words (map (λ word. word.now) words.now)) old new
IsLeft keeps run old new = new ≡ old
