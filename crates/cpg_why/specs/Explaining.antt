-- what is told of what the nodes of a world delivered, after the commands of a script
use Rattle.std.specs.Prelude.{ℕ, ◌≡◌, List, [], length, take, nat_le, Option, Result, Ok, Err, None, if◌then◌else◌}
use Rattle.std.specs.List.{fold}
use Rattle.std.specs.Io.KnownBytes.{Keeps}
use Rattle.cpg_cred.specs.declared.nodes.TheConstants.{MOST_NODES}
use Rattle.cpg_cred.specs.declared.refusals.Refusal.{Refusal}
use Rattle.cpg_cred.specs.declared.refusals.Refusal.TheVariants as refusal
use Rattle.cpg_entry.specs.declared.entries.Entry.{Entry}
use Rattle.cpg_record.specs.declared.records.Record.{Record}
use Rattle.cpg_record.specs.Judging.{entries_of}
use Rattle.cpg_node.specs.Nodes.{NodeValue, records_of}
use Rattle.cpg_world_laws.specs.Worlds.{WorldValue}
use Rattle.cpg_step.specs.declared.commands.Command.{Command}
use Rattle.cpg_step.specs.Running.{after, IsUntouched}
use Rattle.cpg_why.specs.declared.asking.Asked.{Asked}
use Rattle.cpg_why.specs.declared.asking.WhyFault.{WhyFault}
use Rattle.cpg_why.specs.declared.asking.WhyFault.TheVariants.{Script, Missing}
use Rattle.cpg_why.specs.Forms.{Form}
use Rattle.cpg_why.specs.Scripts.{IsWritten, LeavesTold, LeavesEntries}

-- the longer of two lists of records, the first of two that are as long
abbrev pub longer : List Record → List Record → List Record
longer first second = if nat_le (length second) (length first) then first else second

-- the records of the node that delivered most, of several the first
abbrev pub longest : List NodeValue → List Record
longest nodes = fold (λ most x. longer most (records_of x)) [] nodes

-- the longest audit of a world's nodes, which are 1 to 8
abbrev pub longest_audit : WorldValue → List Record
longest_audit w = longest (take MOST_NODES w.nodes)

-- the entries that the node that delivered most delivered
abbrev pub delivered_by_most : WorldValue → List Entry
delivered_by_most w = entries_of (longest_audit w)

-- The commands of a script are done, and what is asked of what is delivered then is written.
abbrev pub IsExplained : Form → Result (List Command) ℕ → Asked → WorldValue → Option (List ℕ) → Option (List ℕ) → WorldValue → Type 0
IsExplained form (Ok commands) asked w old new world = (world ≡ after w commands) × IsWritten form (Ok (delivered_by_most world)) [] asked old new
IsExplained form (Err line) asked w old new world = ⊥

-- the first so many commands are done
abbrev pub AreDoneUpto : WorldValue → List Command → WorldValue → Type 0
AreDoneUpto w commands world = (count : ℕ) × (world ≡ after w (take count commands))

-- What a refusal leaves. A bad line is the first, and after it, or where the script could not be read, nothing is written or done; want of
-- memory leaves nothing written and the first commands done, none where there is no script; and a writer that fails comes after all commands
-- and leaves a front of what is told.
abbrev pub LeavesBy : Form → Result (List Command) ℕ → Asked → Refusal → WorldValue → Option (List ℕ) → Option (List ℕ) → WorldValue → Type 0
LeavesBy form (Err bad) asked (refusal.BadCommand line) w old new world = (line ≡ bad) × IsUntouched w old new world
LeavesBy form script asked refusal.Read w old new world = IsUntouched w old new world
LeavesBy form (Err bad) asked refusal.Memory w old new world = IsUntouched w old new world
LeavesBy form (Ok commands) asked refusal.Memory w old new world = Keeps old new × AreDoneUpto w commands world
LeavesBy form (Ok commands) asked refusal.Write w old new world =
    (world ≡ after w commands) × LeavesTold form [] (delivered_by_most world) asked refusal.Write old new
LeavesBy _ _ _ _ _ _ _ _ = ⊥

-- The same of a fault. What is not there is told after all commands, and leaves nothing written.
abbrev pub Leaves : Form → Result (List Command) ℕ → Asked → WhyFault → WorldValue → Option (List ℕ) → Option (List ℕ) → WorldValue → Type 0
Leaves form script asked (Script fault) w old new world = (fault.part ≡ None) × LeavesBy form script asked fault.refusal w old new world
Leaves form (Ok commands) asked (Missing what) w old new world =
    (world ≡ after w commands) × LeavesEntries form [] (delivered_by_most world) asked (Missing what) old new
Leaves form (Err line) asked (Missing what) w old new world = ⊥
