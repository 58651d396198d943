-- what is known where a session that waited was told nothing
use Rattle.std.specs.Prelude.{ℕ, List, [], ◌++◌, if◌then◌else◌, nat_le, codes, decimal, Ok}
use Rattle.cpg_ring.specs.declared.settings.Settings.{Settings}
use Rattle.cpg_cluster.specs.declared.asking.TheConstants.{MOST_POLLS}
use Rattle.cpg_cluster.specs.declared.forms.WaitLimit.{WaitLimit}
use Rattle.cpg_cluster.specs.declared.forms.WaitLimit.TheVariants.{Looks, Millis}
use Rattle.cpg_cluster.specs.declared.forms.TextForm.{TextForm}
use Rattle.cpg_cluster.specs.declared.noting.Known.{Known}
use Rattle.cpg_cluster.specs.declared.replies.Reply.TheVariants.{Nothing}
use Rattle.cpg_cluster.specs.Answers.{Answer}
use Rattle.cpg_cluster.specs.Lines.{Printed, answer_text, text_as}

-- a number between two words
abbrev pub counted : List ℕ → ℕ → List ℕ → List ℕ
counted front number back = front ++ (decimal number ++ back)

-- how long a wait looks
abbrev pub span_text : WaitLimit → List ℕ
span_text Looks = decimal MOST_POLLS ++ codes " looks"
span_text (Millis millis) = decimal millis ++ codes " ms"

-- how long was waited
abbrev pub waited_text : WaitLimit → List ℕ
waited_text wait_limit = codes "# nothing was told in " ++ span_text wait_limit

-- how many places the ring has
abbrev pub of_places_text : Settings → List ℕ
of_places_text settings = counted (codes " of the ring's ") settings.places (codes " places")

-- how many of them were seen
abbrev pub places_text : Settings → ℕ → List ℕ
places_text settings seen = decimal seen ++ of_places_text settings

-- when the ring ends
abbrev pub end_text : Settings → List ℕ
end_text settings = counted (codes "; it ends after ") settings.hops (codes " hops")

-- all of the ring's places were seen
abbrev pub all_text : Settings → List ℕ
all_text settings = counted (codes "all of the ring's ") settings.places (codes " places")

-- which of the ring's places were seen: where all, nothing more can come; else also when the ring ends
abbrev pub seen_text : Settings → ℕ → List ℕ
seen_text settings seen = if nat_le settings.places seen then all_text settings else places_text settings seen ++ end_text settings

-- # nothing was told in 1000000 looks; the session has seen 3 of the ring's 4096 places; it ends after 1000 hops
abbrev pub note_line : Known → ℕ → List ℕ
note_line known seen = waited_text known.wait_limit ++ codes "; the session has seen " ++ seen_text known.settings seen ++ codes "\n"

-- what is known of an answer: of one that no event came, and else nothing
abbrev pub note_of : Known → Answer → List ℕ
note_of known (Ok (Nothing seen)) = note_line known seen
note_of known _ = []

-- an answer with what is known of it
abbrev pub noted_as : Known → TextForm → Printed
noted_as known shown line answer = text_as shown line answer (answer_text answer ++ note_of known answer)
