-- words that are put between two texts, and what a keeper takes
use Rattle.std.proofs.Common.{◌≡◌, ℕ, List, [], ◌∷◌, ◌++◌, length, map, refl, sym, ap, ◌∙◌}
use Rattle.std.specs.List.{flat_map}
use Rattle.std.specs.Borrow.{Bor}
use Rattle.cpg_history.specs.Members.{HaveSeen, MemberValue}
use Rattle.cpg_world_laws.specs.declared.events.WorldEvent.{WorldEvent}
use Rattle.cpg_world_laws.specs.Worlds.{WorldValue}
use Rattle.cpg_console.specs.Tracing.{between, each_between, WasKept}

each_now : (before after : List ℕ) (words : List (Bor (List ℕ))) → each_between before after (map (λ word. word.now) words) ≡ flat_map (λ word. between before after word.now) words
each_now before after [] = refl
each_now before after (word ∷ words) = ap (λ l. between before after word.now ++ l) (each_now before after words)

pub words_between : (text old before after : List ℕ) (words : List (Bor (List ℕ))) → text ≡ old ++ flat_map (λ word. between before after word.now) words → text ≡ old ++ each_between before after (map (λ word. word.now) words)
words_between text old before after words is = is ∙ ap (λ l. old ++ l) (sym (each_now before after words))

-- what a keeper took of as many stations as there are nodes
pub was_kept : {K : Type 0} (keeps : WorldValue → List WorldEvent → List MemberValue → K → K → Type 0) (start : WorldValue) (seen : List WorldEvent) (members : List MemberValue) (nodes : ℕ) (old new : K)
    → length members ≡ nodes → nodes ≡ start.settings.nodes → HaveSeen members seen → keeps start seen members old new → WasKept keeps start old new
was_kept keeps start seen members nodes old new many are have kept = (seen, members, many ∙ are, have, kept)
