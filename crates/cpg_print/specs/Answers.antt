-- what calls are answered, as it is printed
use Rattle.std.specs.Prelude.{ℕ, List, ◌++◌, codes, decimal, Option, Some, None}
use Rattle.std.specs.List.{flat_map}
use Rattle.cpg_cred.specs.declared.refusals.Refusal.{Refusal}
use Rattle.cpg_cred.specs.Shown.{refusal_text}
use Rattle.cpg_record.specs.declared.events.Event.{Event}
use Rattle.cpg_text.specs.Words.{listed}
use Rattle.cpg_print.specs.Events.{event_line}
use Rattle.cpg_print.specs.Records.{process_text}

-- members L
abbrev pub members_line : List (ℕ × ℕ) → List ℕ
members_line processes = codes "members " ++ listed process_text processes ++ codes "\n"

-- `groups`, and for each name a space and the name
abbrev pub groups_line : List (List ℕ) → List ℕ
groups_line names = codes "groups" ++ flat_map (λ name. codes " " ++ name) names ++ codes "\n"

-- the line of the event that was taken, or `none`
abbrev pub took_line : Option Event → List ℕ
took_line None = codes "none\n"
took_line (Some event) = event_line event

-- safe PLACE
abbrev pub safe_line : ℕ → List ℕ
safe_line place = codes "safe " ++ decimal place ++ codes "\n"

-- `refused` and the refusal
abbrev pub refused_line : Refusal → List ℕ
refused_line why = codes "refused " ++ refusal_text why ++ codes "\n"
