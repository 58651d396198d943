use Rattle.std.proofs.Common.{◌≡◌, List, length, Some, subst}
use Rattle.std.specs.Prelude.{Ok, IfOk, IfErr}
use Rattle.cpg_entry.specs.declared.entries.Entry.{Entry}
use Rattle.cpg_record.specs.Judging.{judged}
use Rattle.cpg_why.specs.declared.asking.Asked.TheVariants.{Told}
use Rattle.cpg_why.specs.Findings.{event_place}
use Rattle.cpg_why.specs.Scripts.{events_told, Stands, TellsNot}
use Rattle.cpg_why.proofs.telling.place_told.Goals as goal

pub returns-clause-told : goal.returns-clause-told
returns-clause-told c =
    subst (λ (es : List Entry). IfOk c.find_told.result (λ place. Stands c.args.event (events_told es c.args.conn.now))) c.in_ok-walk.ensures.ok c.find_told.ensures.told

pub returns-clause-ok : goal.returns-clause-ok
returns-clause-ok c =
    subst (λ (es : List Entry). IfOk c.find_told.result (λ place. event_place (judged es) c.args.conn.now c.args.event ≡ Some place)) c.in_ok-walk.ensures.ok c.find_told.ensures.ok

pub returns-clause-place : goal.returns-clause-place
returns-clause-place c = subst (λ (es : List Entry). IfOk c.find_told.result (λ place. Stands place (length es))) c.in_ok-walk.ensures.ok c.find_told.ensures.place

pub returns-clause-err : goal.returns-clause-err
returns-clause-err c =
    subst (λ (es : List Entry). IfErr c.find_told.result (TellsNot (Ok es) (Told c.args.conn.now c.args.event))) c.in_ok-walk.ensures.ok c.find_told.ensures.err
