-- Records, in numbers.
use Rattle.std.specs.Prelude.{◌≡◌, ℕ, ◌==◌, ◌-◌, List, length, Option, Some, None, option_map, if◌then◌else◌}
use Rattle.std.specs.List.{slice_get}
use Rattle.cpg_entry.specs.declared.calls.Op.{Op}
use Rattle.cpg_entry.specs.declared.calls.Op.TheVariants.{Act, Gone}
use Rattle.cpg_entry.specs.declared.calls.Call.TheVariants.{Join, Leave, Send, Insert, Remove}
use Rattle.cpg_record.specs.declared.records.Record.{Record}
use Rattle.cpg_record.specs.Membership.{is_allowed}
use Rattle.cpg_embed.specs.Processes.{process_of}
use Rattle.cpg_embed.specs.Telling.{verdict_number, basis_number, rule_number}
use Rattle.cpg_embed.specs.declared.processes.Process.{Process}
use Rattle.cpg_embed.specs.declared.records.Audited.{Audited}
use Rattle.cpg_embed.specs.declared.statuses.TheConstants.{OK, NONE}

-- what an entry asks
abbrev pub call_number : Op → ℕ
call_number (Act (Join group)) = 1
call_number (Act Leave) = 2
call_number (Act (Send message)) = 3
call_number (Act (Insert group index rule)) = 4
call_number (Act (Remove group id)) = 5
call_number Gone = 6

-- the message that is sent
abbrev pub sent_in : Op → Option (List ℕ)
sent_in (Act (Send message)) = Some message
sent_in _ = None

-- how many bytes there are; none where nothing is there
abbrev pub length_in : Option (List ℕ) → ℕ
length_in None = 0
length_in (Some bytes) = length bytes

-- what a record says
abbrev pub audited_of : Record → Audited
audited_of past =
    record {
      node = past.entry.node;
      conn = past.entry.conn;
      pid = past.entry.pid;
      uid = past.entry.cred.uid;
      gid = past.entry.cred.gid;
      call = call_number past.entry.op;
      verdict = verdict_number past.verdict;
      basis = basis_number past.verdict;
      rule = rule_number past.verdict;
      group_len = length_in past.group;
      message_len = length_in (sent_in past.entry.op);
      members = length past.members;
    }

-- the group of a record
abbrev pub group_at : Option Record → Option (List ℕ)
group_at None = None
group_at (Some past) = past.group

-- the message of a record
abbrev pub message_at : Option Record → Option (List ℕ)
message_at None = None
message_at (Some past) = sent_in past.entry.op

-- A record is told, if it is there.
abbrev pub IsAudited : Option Record → ℕ → Audited → Type 0
IsAudited None status audited = status ≡ NONE
IsAudited (Some past) status audited = (status ≡ OK) × (audited ≡ audited_of past)

-- who made a record's entry
abbrev pub maker_of : Record → Process
maker_of past = record { node = past.entry.node; conn = past.entry.conn; pid = past.entry.pid; cause = 0 }

-- one of the members after a record that is allowed
abbrev pub hearer_at : Record → ℕ → Option Process
hearer_at past index = if is_allowed past.verdict then option_map process_of (slice_get past.members index) else None

-- One of those whom the place of a record tells something, if the record is there: first who made its entry, and then, where that is allowed, the
-- members of its group after it, among whom the maker may be once more.
abbrev pub notified_at : Option Record → ℕ → Option Process
notified_at None index = None
notified_at (Some past) index = if index == 0 then Some (maker_of past) else hearer_at past (index - 1)
