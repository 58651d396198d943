-- What the daemon tells a client: a head and what it says, filled up by zeros to a multiple of eight bytes.
use Rattle.std.specs.Prelude.{ℕ, ◌+◌, ◌-◌, ◌%◌, List, ◌++◌, length, replicate}
use Rattle.std.specs.List.{flat_map}
use Rattle.byteorder.specs.Endian.{little_bytes}
use Rattle.cpg_entry.specs.declared.messages.TheConstants.{MOST_MESSAGE_BYTES}
use Rattle.cpg_entry.specs.declared.names.TheConstants.{MOST_NAME_BYTES}
use Rattle.cpg_record.specs.declared.memberships.Member.{Member}
use Rattle.cpg_record.specs.declared.moves.Move.{Move}
use Rattle.cpg_record.specs.declared.moves.Cause.{Cause}
use Rattle.cpg_record.specs.declared.moves.Cause.TheVariants as cause
use Rattle.cpg_ask.specs.declared.codes.AskCode.{AskCode}
use Rattle.cpg_ask.specs.declared.codes.AskCode.TheVariants as codes
use Rattle.cpg_ask.specs.declared.statuses.Status.{Status}
use Rattle.cpg_ask.specs.declared.statuses.Denial.{Denial}
use Rattle.cpg_ask.specs.declared.greetings.Greeting.{Greeting}
use Rattle.cpg_ask.specs.Codes.{ask_code}
use Rattle.cpg_ask.specs.Heads.{head_bytes}
use Rattle.cpg_ask.specs.Statuses.{status_number}

-- a process of a group, and why it moved (the reasons of cpg_initialize(3)), 0 if it did not
pub record Process : Type 0 where
  pub node : ℕ
  pub pid : ℕ
  pub reason : ℕ

-- a group that is listed: its plain name, and its members' nodes and processes
pub record Listing : Type 0 where
  pub name : List ℕ
  pub members : List (ℕ × ℕ)

-- what a client is told: the answer to an ask with that tag; to Hello, to Members and to Groups with what they ask for; that a message was denied;
-- a message of its group; a change of its group
pub data Tell : Type 0 where
  Answer : AskCode → ℕ → Status → Tell
  Greets : ℕ → Status → Greeting → Tell
  Listed : ℕ → Status → List (ℕ × ℕ) → Tell
  Named : ℕ → Status → List Listing → Tell
  Denied : Status → Denial → Tell
  Message : ℕ → ℕ → List ℕ → List ℕ → Tell
  Change : List ℕ → List Process → List Process → List Process → Tell

-- how many bytes fill up so many
abbrev pub gap : ℕ → ℕ
gap count = (8 - count % 8) % 8

abbrev pub filled_up : List ℕ → List ℕ
filled_up text = text ++ replicate (gap (length text)) 0

-- a number in four bytes
unfoldable pub number : ℕ → List ℕ
number n = little_bytes 4 n

-- how many there are
abbrev pub count_bytes : {X : Type 0} → List X → List ℕ
count_bytes items = number (length items)

abbrev pub cause_code : Cause → ℕ
cause_code cause.Join = 1
cause_code cause.Leave = 2
cause_code cause.Down = 5

-- a member that stays
abbrev pub still : Member → Process
still member = record { node = member.node; pid = member.pid; reason = 0 }

-- a member that moved
abbrev pub moved : Move → Process
moved move = record { node = move.member.node; pid = move.member.pid; reason = cause_code move.cause }

abbrev pub process_bytes : Process → List ℕ
process_bytes p = number p.node ++ (number p.pid ++ number p.reason)

-- a member and a member that moved, as bytes
abbrev pub member_bytes : Member → List ℕ
member_bytes member = process_bytes (still member)

abbrev pub move_bytes : Move → List ℕ
move_bytes move = process_bytes (moved move)

abbrev pub pair_bytes : ℕ × ℕ → List ℕ
pair_bytes p = number p.0 ++ number p.1

abbrev pub pairs_bytes : List (ℕ × ℕ) → List ℕ
pairs_bytes pairs = flat_map pair_bytes pairs

-- a name in the 128 bytes that it has at most
abbrev pub wide_name : List ℕ → List ℕ
wide_name name = name ++ replicate (MOST_NAME_BYTES - length name) 0

abbrev pub listing_bytes : Listing → List ℕ
listing_bytes l = count_bytes l.members ++ (count_bytes l.name ++ (wide_name l.name ++ pairs_bytes l.members))

-- how many of each kind follow
abbrev pub counts_bytes : List ℕ → List Process → List Process → List Process → List ℕ
counts_bytes group members left joined = count_bytes group ++ (count_bytes members ++ (count_bytes left ++ count_bytes joined))

abbrev pub processes_bytes : List Process → List ℕ
processes_bytes processes = flat_map process_bytes processes

-- the members, then who left, then who joined
abbrev pub all_bytes : List Process → List Process → List Process → List ℕ
all_bytes members left joined = processes_bytes members ++ (processes_bytes left ++ processes_bytes joined)

-- what is told behind the head
abbrev pub tell_content : Tell → List ℕ
tell_content (Answer code tag status) = number (status_number status)
tell_content (Greets tag status g) = number (status_number status) ++ (number g.node ++ (number g.nodes ++ (number MOST_MESSAGE_BYTES ++ little_bytes 8 g.ring)))
tell_content (Listed tag status members) = number (status_number status) ++ (count_bytes members ++ pairs_bytes members)
tell_content (Named tag status listings) = number (status_number status) ++ (count_bytes listings ++ flat_map listing_bytes listings)
tell_content (Denied status d) = number (status_number status) ++ (number d.verdict ++ number d.rule)
tell_content (Message node pid group message) = number node ++ (number pid ++ (count_bytes message ++ (count_bytes group ++ (filled_up message ++ group))))
tell_content (Change group members left joined) =
    counts_bytes group members left joined ++ (all_bytes members left joined ++ group)

-- the number of the answer to an ask
abbrev pub answer_kind : AskCode → ℕ
answer_kind code = 256 + ask_code code

abbrev pub tell_kind : Tell → ℕ
tell_kind (Answer code tag status) = answer_kind code
tell_kind (Greets tag status g) = answer_kind codes.Hello
tell_kind (Listed tag status members) = answer_kind codes.Members
tell_kind (Named tag status listings) = answer_kind codes.Groups
tell_kind (Message node pid group message) = 513
tell_kind (Change group members left joined) = 514
tell_kind (Denied status d) = 515

-- the tag of the ask that is answered; 0 where none is
abbrev pub tell_tag : Tell → ℕ
tell_tag (Answer code tag status) = tag
tell_tag (Greets tag status g) = tag
tell_tag (Listed tag status members) = tag
tell_tag (Named tag status listings) = tag
tell_tag _ = 0

-- content behind its head, filled up
abbrev pub framed : ℕ → ℕ → List ℕ → List ℕ
framed kind tag text = head_bytes (record { count = length text + gap (length text); kind = kind; tag = tag }) ++ filled_up text

-- a tell on a stream
abbrev pub tell_bytes : Tell → List ℕ
tell_bytes tell = framed (tell_kind tell) (tell_tag tell) (tell_content tell)
