-- verdicts as they are printed
use Rattle.std.specs.Prelude.{ℕ, List, ◌++◌, codes, decimal}
use Rattle.cpg_cred.specs.Shown.{by_text}
use Rattle.cpg_record.specs.declared.verdicts.Reason.{Reason}
use Rattle.cpg_record.specs.declared.verdicts.Reason.TheVariants as reason
use Rattle.cpg_record.specs.declared.verdicts.Verdict.{Verdict}
use Rattle.cpg_record.specs.declared.verdicts.Verdict.TheVariants.{Allowed, Denied}

-- why an entry was denied
abbrev pub reason_text : Reason → List ℕ
reason_text (reason.Rule id) = codes "rule " ++ decimal id
reason_text reason.Default = codes "default"
reason_text reason.Closed = codes "closed"
reason_text reason.Joined = codes "joined"
reason_text reason.Twice = codes "twice"
reason_text reason.Full = codes "full"
reason_text reason.Position = codes "position"
reason_text reason.TableFull = codes "tablefull"
reason_text reason.Absent = codes "absent"

-- `allowed` or `denied`, and by what
abbrev pub verdict_text : Verdict → List ℕ
verdict_text (Allowed by) = codes "allowed " ++ by_text by
verdict_text (Denied reason) = codes "denied " ++ reason_text reason
