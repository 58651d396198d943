-- what commands print
use Rattle.std.specs.Prelude.{ℕ, List, ◌++◌, codes, decimal, Option, Some, None, Ok, Err}
use Rattle.cpg_cred.specs.declared.refusals.Refusal.TheVariants as refusal
use Rattle.cpg_rules.specs.declared.rules.Rule.{Rule}
use Rattle.cpg_entry.specs.declared.frames.Frame.{Frame}
use Rattle.cpg_entry.specs.declared.frames.Frame.TheVariants as frame
use Rattle.cpg_entry.specs.declared.frames.Token.{Token}
use Rattle.cpg_entry.specs.declared.frames.Packet.{Packet}
use Rattle.cpg_world_laws.specs.declared.replies.Reply.{Reply}
use Rattle.cpg_world_laws.specs.declared.replies.Reply.TheVariants.{Connected, Admitted, Closed, Sent, Delivered, Took, Members, Groups}
use Rattle.cpg_world_laws.specs.Replies.{Answer}
use Rattle.cpg_world_laws.specs.Worlds.{WorldValue}
use Rattle.cpg_text.specs.Words.{listed}
use Rattle.cpg_print.specs.Answers.{members_line, groups_line, took_line, safe_line, refused_line}
use Rattle.cpg_print.specs.Entries.{entry_text}
use Rattle.cpg_print.specs.Records.{audit_line, count_line}
use Rattle.cpg_print.specs.Rules.{rule_text}
use Rattle.cpg_step.specs.declared.commands.Look.{Look}
use Rattle.cpg_step.specs.Looks.{LookForm, told_by}

-- a number, or `none`
abbrev pub number_or_none : Option ℕ → List ℕ
number_or_none None = codes "none"
number_or_none (Some number) = decimal number

-- delivered PLACE, or `delivered none`
abbrev pub delivered_line : Option ℕ → List ℕ
delivered_line place = codes "delivered " ++ number_or_none place ++ codes "\n"

-- a reply
abbrev pub reply_line : Reply → List ℕ
reply_line (Connected conn) = codes "connected " ++ decimal conn ++ codes "\n"
reply_line Admitted = codes "admitted\n"
reply_line Closed = codes "closed\n"
reply_line (Sent count) = codes "sent " ++ decimal count ++ codes "\n"
reply_line (Delivered place) = delivered_line place
reply_line (Took event) = took_line event
reply_line (Members processes) = members_line processes
reply_line (Groups names) = groups_line names

-- a reply or a refusal
abbrev pub answer_line : Answer → List ℕ
answer_line (Ok reply) = reply_line reply
answer_line (Err why) = refused_line why

-- data PLACE NODE.CONN PID UID GID CALL, or `gone` for CALL
abbrev pub packet_line : Packet → List ℕ
packet_line packet = codes "data " ++ decimal packet.place ++ codes " " ++ entry_text packet.entry ++ codes "\n"

-- token hop H seq S aru A id I rtr R
unfoldable pub token_line : Token → List ℕ
token_line token =
    codes "token hop " ++ decimal token.hop ++ codes " seq " ++ decimal token.seq ++ codes " aru " ++ decimal token.aru
    ++ codes " id " ++ number_or_none token.aru_id ++ codes " rtr " ++ listed decimal token.rtr ++ codes "\n"

-- a frame
abbrev pub frame_line : Frame → List ℕ
frame_line (frame.Packet packet) = packet_line packet
frame_line (frame.Token token) = token_line token

-- a frame that was sent, if there is one of that number
abbrev pub show_line : Option Frame → List ℕ
show_line (Some sent) = frame_line sent
show_line None = refused_line refusal.NoFrame

-- ID EFFECT RIGHT WHO
abbrev pub rule_line : ℕ × Rule → List ℕ
rule_line rule = decimal rule.0 ++ codes " " ++ rule_text rule.1 ++ codes "\n"

-- what is looked at, as lines of text
abbrev pub looked_text : LookForm
looked_text = record {
  frame = show_line;
  past = audit_line;
  records = count_line;
  rule = rule_line;
  rules = λ count. codes "rules " ++ decimal count ++ codes "\n";
  safe = safe_line;
}

-- what a command that only looks prints
abbrev pub look_lines : WorldValue → Look → List (List ℕ)
look_lines w look = told_by looked_text w look
