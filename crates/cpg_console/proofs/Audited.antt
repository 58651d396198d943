-- what is told of the entries on a new cluster's board, and of one that is not there
use Rattle.std.proofs.Common.{◌≡◌, ◌≤◌, ℕ, List, [], length, Option, Some, None, Result, Ok, Err, inl, refl, sym, ap, ◌∙◌, subst}
use Rattle.std.specs.Prelude.{IfSome}
use Rattle.std.proofs.KnownBytes.{Keeps-refl}
use Rattle.cpg_cred.specs.Listed.{Listed}
use Rattle.cpg_cred.specs.declared.refusals.Refusal.{Refusal}
use Rattle.cpg_cred.specs.declared.refusals.Refusal.TheVariants as refusal
use Rattle.cpg_text.specs.declared.streams.TheConstants.{MOST_BYTES}
use Rattle.cpg_accept.specs.Accepting.{whole_fault}
use Rattle.cpg_text.specs.declared.faults.Fault as script
use Rattle.cpg_ring.specs.declared.settings.Settings.{Settings}
use Rattle.cpg_why.specs.declared.asking.Asked.{Asked}
use Rattle.cpg_why.specs.declared.asking.WhyFault.{WhyFault}
use Rattle.cpg_why.specs.declared.asking.WhyFault.TheVariants as why
use Rattle.cpg_why.specs.Forms.{Form, plain}
use Rattle.cpg_why.specs.Scripts.{IsWritten, EndsBy, EndsWhy}
use Rattle.cpg_record.specs.Judging.{entries_of}
use Rattle.cpg_board.specs.Seats.{SeatValue, IsSeatOf, records_of}
use Rattle.cpg_world_laws.specs.Worlds.{WorldValue, new_world}
use Rattle.cpg_daemon.specs.Clusters.{ClusterValue}
use Rattle.cpg_cluster.specs.Answers.{SessionsValue, no_sessions}
use Rattle.cpg_cluster.specs.declared.commands.Numbered.{Numbered}
use Rattle.cpg_cluster.specs.Scripts.{commands_of_script}
use Rattle.cpg_why.specs.Sessions.{RunsUnprinted, StopsUnprinted, LeavesSeated, AreRun, IsTold, Leaves}
use Rattle.cpg_console.specs.declared.failures.Failure.{Failure}
use Rattle.cpg_console.specs.declared.failures.Failure.TheVariants.{BadWord, Fault}
use Rattle.cpg_console.specs.Runs.{failure_of_delivered, AuditedUpTo, TellsSessions}
use Rattle.cpg_console.specs.Starting.{IsNotStarted}
use Rattle.cpg_console.proofs.NotStarted.{unless_started}

none_stopped : (start : WorldValue) (commands : Result (List Numbered) ℕ) → StopsUnprinted start commands refusal.Memory no_sessions no_sessions
none_stopped start (Ok lines) = (Some [], inl (Keeps-refl (Some []), refl))
none_stopped start (Err bad) = (Some [], (Keeps-refl (Some []), refl))

no_memory : (form : Form) (start : WorldValue) (commands : Result (List Numbered) ℕ) (asked : Asked) (a : Option (List ℕ)) → Leaves form [] start commands asked (why.Script (whole_fault refusal.Memory)) a a
no_memory form start commands asked a = record { left = no_sessions; seat = []; read = refl; leaves = inl (refl, none_stopped start commands, Keeps-refl a) }

untold : (known : Option (List ℕ)) (asked : Asked) (s : Settings) (list : Listed) (a : Option (List ℕ))
    → IfSome known (λ lines. TellsSessions asked s (Some list) lines (Some (Fault (whole_fault refusal.Memory))) a a)
untold None asked s list a = tt
untold (Some lines) asked s list a = (refl, ([], no_memory plain (new_world s list) (commands_of_script s.nodes lines) asked a))

-- where memory was refused before there was a cluster
pub none_of_memory : (known : Option (List ℕ)) (asked : Asked) (s : Settings) (list : Listed) (refused : Refusal) (failure : Failure) (a : Option (List ℕ))
    → failure ≡ Fault (record { part = None; refusal = refused }) → refused ≡ refusal.Memory
    → IfSome known (λ lines. TellsSessions asked s (Some list) lines (Some failure) a a)
none_of_memory known asked s list refused failure a is e =
    subst (λ (f : Failure). IfSome known (λ lines. TellsSessions asked s (Some list) lines (Some f) a a)) (sym (is ∙ ap (λ (r : Refusal). Fault (whole_fault r)) e))
    (untold known asked s list a)

-- nothing is written where there is no cluster
pub none_audited : (known : Option (List ℕ)) (asked : Asked) (s : Settings) (list : Option Listed) (failure : Failure) (a : Option (List ℕ)) → IsNotStarted s list failure
    → IfSome known (λ lines. TellsSessions asked s list lines (Some failure) a a)
none_audited None asked s list failure a h = tt
none_audited (Some lines) asked s list failure a h =
    unless_started (λ l f. TellsSessions asked s l lines (Some f) a a) s list failure (refl, Keeps-refl a)
    (λ l. (refl, ([], no_memory plain (new_world s l) (commands_of_script s.nodes lines) asked a))) (λ l out. (refl, (out, Keeps-refl a))) h

-- the whole script was run over the new cluster, and what is asked is told of its board
pub all_told : (known : Option (List ℕ)) (asked : Asked) (s : Settings) (list : Listed) (cluster : ClusterValue) (start : WorldValue) (board : List ℕ) (a b : Option (List ℕ))
    → cluster ≡ record { nodes = s.nodes; list = list } → new_world s list ≡ start → length board ≡ s.places
    → IfSome known (λ lines. (length lines ≤ MOST_BYTES) × AreRun start (commands_of_script cluster.nodes lines)) → IsTold plain board asked a b
    → IfSome known (λ lines. TellsSessions asked s (Some list) lines None a b)
all_told None asked s list cluster start board a b started named places ran is = tt
all_told (Some lines) asked s list cluster start board a b started named places ran is =
    (ran.0, subst (λ (w : WorldValue). AreRun w (commands_of_script s.nodes lines)) (sym named) (subst (λ (c : ClusterValue). AreRun start (commands_of_script c.nodes lines)) started ran.1), (board, places, is))

up_to : (refused : Refusal) (asked : Asked) (s : Settings) (list : Listed) (lines : List ℕ) (fault : script.Fault) (board : List ℕ) (a b : Option (List ℕ))
    → EndsBy refused a b → Leaves plain board (new_world s list) (commands_of_script s.nodes lines) asked (why.Script fault) a b → AuditedUpTo refused asked s list lines fault a b
up_to refusal.Range asked s list lines fault board a b ends h = absurd ends
up_to _ asked s list lines fault board a b ends h = (board, h)

part : (asked : Asked) (s : Settings) (list : Listed) (lines : List ℕ) (fault : WhyFault) (board : List ℕ) (a b : Option (List ℕ)) → EndsWhy asked fault a b
    → Leaves plain board (new_world s list) (commands_of_script s.nodes lines) asked fault a b → TellsSessions asked s (Some list) lines (Some (failure_of_delivered fault)) a b
part asked s list lines (why.Script fault) board a b ends h = (ends.0, up_to fault.refusal asked s list lines fault board a b ends.1 h)
part asked s list lines (why.Missing what) board a b ends h = (refl, (board, h))

-- a fault ended it
pub part_told : (known : Option (List ℕ)) (asked : Asked) (s : Settings) (list : Listed) (cluster : ClusterValue) (start : WorldValue) (board : List ℕ) (fault : WhyFault) (failure : Failure) (a b : Option (List ℕ))
    → cluster ≡ record { nodes = s.nodes; list = list } → new_world s list ≡ start → failure ≡ failure_of_delivered fault → EndsWhy asked fault a b
    → IfSome known (λ lines. Leaves plain board start (commands_of_script cluster.nodes lines) asked fault a b)
    → IfSome known (λ lines. TellsSessions asked s (Some list) lines (Some failure) a b)
part_told None asked s list cluster start board fault failure a b started named is ends h = tt
part_told (Some lines) asked s list cluster start board fault failure a b started named is ends h =
    subst (λ (f : Failure). TellsSessions asked s (Some list) lines (Some f) a b) (sym is)
    (part asked s list lines fault board a b ends
    (subst (λ (w : WorldValue). Leaves plain board w (commands_of_script s.nodes lines) asked fault a b) (sym named)
    (subst (λ (c : ClusterValue). Leaves plain board start (commands_of_script c.nodes lines) asked fault a b) started h)))

-- a script that was run, with the sessions and the seat that are left
pub ran_unprinted : (start : WorldValue) (script : Result (List Numbered) ℕ) (first left : SessionsValue) → first ≡ no_sessions → RunsUnprinted start script first left → AreRun start script
ran_unprinted start script first left none ran = (left, subst (λ (s : SessionsValue). RunsUnprinted start script s left) none ran)

pub told_seated : (form : Form) (board : List ℕ) (seat : SeatValue) (asked : Asked) (a b : Option (List ℕ)) → IsSeatOf board seat → IsWritten form (Ok (entries_of (records_of seat))) [] asked a b → IsTold form board asked a b
told_seated form board seat asked a b read written = record { seat = seat; read = read; written = written }

pub left_seated : (form : Form) (board : List ℕ) (start : WorldValue) (script : Result (List Numbered) ℕ) (asked : Asked) (fault : WhyFault) (first left : SessionsValue) (seat : SeatValue) (a b : Option (List ℕ)) → first ≡ no_sessions
    → IsSeatOf board seat → LeavesSeated form start script asked fault first left seat a b → Leaves form board start script asked fault a b
left_seated form board start script asked fault first left seat a b none read leaves =
    record { left = left; seat = seat; read = read; leaves = subst (λ (s : SessionsValue). LeavesSeated form start script asked fault s left seat a b) none leaves }
