-- how the answers of a cluster are written
use Rattle.cpg_cluster.specs.Lines.{Printed, shown_as}
use Rattle.cpg_cluster.specs.Notes.{noted_as}
use Rattle.cpg_json.specs.SessionAnswers.{printed_json}
use Rattle.cpg_console.specs.declared.output_form.OutputForm.{OutputForm}
use Rattle.cpg_console.specs.declared.output_form.OutputForm.TheVariants.{Text, Noted, Json}

-- as text, alone or with what is known where no event came, or as objects of JSON
abbrev pub output_as : OutputForm → Printed
output_as (Text shown) = shown_as shown
output_as (Noted noted) = noted_as noted.known noted.shown
output_as Json = printed_json
