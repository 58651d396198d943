-- one entry that is asked of by the first word
use Rattle.std.proofs.Common.{◌≡◌, ℕ, List, [], ◌∷◌, Option, Some, None, option_map, slice_get, codes, refl, sym, subst, ap, ◌∙◌}
use Rattle.std.specs.Prelude.{IfSome}
use Rattle.std.proofs.lemmas.Option.{none-some, same_Some}
use Rattle.cpg_record.specs.declared.connections.ConnId.{ConnId}
use Rattle.cpg_text.specs.Numbers.{number_in}
use Rattle.cpg_text.specs.Words.{cut_at}
use Rattle.cpg_print.specs.Entries.{conn_of_word}
use Rattle.cpg_why.specs.declared.asking.Asked.{Asked as Question}
use Rattle.cpg_why.specs.declared.asking.Asked.TheVariants.{Place, To, ToProcess, Told}
use Rattle.clap.specs.declared.parser.matches.Found.{Found}
use Rattle.clap.specs.Words.{first_value}
use Rattle.cpg_console.specs.declared.runs.Form.{Form}
use Rattle.cpg_console.specs.declared.runs.Run.{Run}
use Rattle.cpg_console.specs.declared.runs.Run.TheVariants.{Why}
use Rattle.cpgring.specs.declared.asking.Asked.{Asked}
use Rattle.cpgring.specs.declared.sources.Source.{Source}
use Rattle.cpgring.specs.Asking.{why_words, words_before, IsAskedFor, IsEntryAsked, IsFormGiven, IsGivenBy, IsUsed, IsWhyAsked}
use Rattle.cpgring.specs.Questions.{entry_named, event_of_parts, of_place, or_event, to_whom, told_by, unless_to, words_for}
use Rattle.cpgring.specs.Sources.{but_input, path_of}

of_told : (conn : Option ConnId) (event : Option ℕ) (asked : Question) → told_by conn event ≡ Some asked → words_for asked ≡ 1
of_told (Some conn) (Some event) asked is = sym (ap words_for (same_Some (Told conn event) asked is))
of_told (Some conn) None asked is = absurd (none-some asked is)
of_told None event asked is = absurd (none-some asked is)

of_parts : (parts : Option (List ℕ × List ℕ)) (asked : Question) → event_of_parts parts ≡ Some asked → words_for asked ≡ 1
of_parts None asked is = absurd (none-some asked is)
of_parts (Some parts) asked is = of_told (conn_of_word parts.0) (number_in 1 4294967295 parts.1) asked is

of_whom : (place : ℕ) (conn : Option ConnId) (pid : Option ℕ) (asked : Question) → to_whom place conn pid ≡ Some asked → words_for asked ≡ 1
of_whom place (Some conn) pid asked is = sym (ap words_for (same_Some (To place conn) asked is))
of_whom place None (Some pid) asked is = sym (ap words_for (same_Some (ToProcess place pid) asked is))
of_whom place None None asked is = absurd (none-some asked is)

of_one : (to : Option (List ℕ)) (place : ℕ) (asked : Question) → of_place to place ≡ Some asked → words_for asked ≡ 1
of_one None place asked is = sym (ap words_for (same_Some (Place place) asked is))
of_one (Some word) place asked is = of_whom place (conn_of_word word) (number_in 0 4294967295 word) asked is

of_event : (to : Option (List ℕ)) (word : List ℕ) (asked : Question) → unless_to to (event_of_parts (cut_at 58 word)) ≡ Some asked → words_for asked ≡ 1
of_event None word asked is = of_parts (cut_at 58 word) asked is
of_event (Some other) word asked is = absurd (none-some asked is)

of_entry : (to : Option (List ℕ)) (word : List ℕ) (place : Option ℕ) (asked : Question) → or_event to word place ≡ Some asked → words_for asked ≡ 1
of_entry to word (Some place) asked is = of_one to place asked is
of_entry to word None asked is = of_event to word asked is

-- the path stands behind the word that names the entry
pub path_behind : (to : Option (List ℕ)) (word : List ℕ) (asked : Question) (words : List (List ℕ)) (path : Option (List ℕ)) → Some asked ≡ entry_named to word
    → path ≡ but_input (slice_get words 1) → path ≡ but_input (slice_get words (words_for asked))
path_behind to word asked words path is at = at ∙ ap (λ n. but_input (slice_get words n)) (sym (of_entry to word (number_in 1 4294967295 word) asked (sym is)))

module _ (form : Form) (found : Found) (words : List (List ℕ)) (is : words ≡ why_words found) (given : IsFormGiven found form) (conn : first_value found (codes "connection") ≡ None)
    (unused : IsUsed found (codes "all") → ⊥) (to : Option (List ℕ)) (named : to ≡ first_value found (codes "to")) where
  by_run : (first : List (List ℕ)) (run : Run) (source : Source) → words ≡ first → IsEntryAsked form to first run → path_of source ≡ but_input (slice_get words (words_before run))
      → IsAskedFor found (codes "why") (record { run = run; source = source })
  by_run (word ∷ rest) (Why how q) source same entry at = record {
    name = refl;
    run = (
      subst (IsFormGiven found) (sym entry.0) given,
      subst (λ (o : Option (List ℕ)). IsWhyAsked how found o (Why how q)) (sym conn) (
        (λ used. absurd (unused used)),
        (λ un. subst (λ (t : Option (List ℕ)). IsEntryAsked how t (why_words found) (Why how q)) named
            (subst (λ (ws : List (List ℕ)). IsEntryAsked how to ws (Why how q)) (sym same ∙ is) (refl, entry.1))),
      ),
    );
    source = at ∙ ap (λ (ws : List (List ℕ)). but_input (slice_get ws (words_for q))) is;
  }
  by_run (word ∷ rest) _ source same entry at = absurd entry
  by_run [] _ source same entry at = absurd entry

  pub entry_asked : (result : Option Asked) → IfSome result (λ asked. IsEntryAsked form to words asked.run)
      → IfSome result (λ asked. path_of asked.source ≡ but_input (slice_get words (words_before asked.run))) → IfSome result (IsAskedFor found (codes "why"))
  entry_asked None entry at = tt
  entry_asked (Some asked) entry at = by_run words asked.run asked.source refl entry at
