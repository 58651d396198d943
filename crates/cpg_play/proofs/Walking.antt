-- scripts that are played, a line more at a time
use Rattle.std.proofs.Common.{◌≡◌, ℕ, List, [], ◌∷◌, Bool, true, false, Option, Some, None, Result, Ok, Err, refl, sym, ap, ◌∙◌, subst}
use Rattle.std.specs.Prelude.{◌&&◌, IfOk, IfSome}
use Rattle.cpg_cred.specs.declared.refusals.Refusal.{Refusal}
use Rattle.cpg_conf.specs.Names.{next_number}
use Rattle.cpg_text.specs.Lines.{trimmed}
use Rattle.cpg_play.specs.declared.walks.Went.{Went}
use Rattle.cpg_play.specs.Checking.{PrintedValue, and_went, went_by}
use Rattle.cpg_play.specs.Walking.{ArePlayed, Course, Does, IsLinePlayed, IsScriptPlayed, none_unwanted}

-- what went by whether all is as wanted counts as that
and_by : (all wanted : Bool) → and_went all (went_by wanted) ≡ (all && wanted)
and_by true true = refl
and_by true false = refl
and_by false true = refl
and_by false false = refl

-- all was as wanted up to the end
pub all_wanted : (all result : Bool) (went : Went) (printed : PrintedValue) → result ≡ and_went all went → went ≡ went_by (none_unwanted printed)
    → result ≡ (all && none_unwanted printed)
all_wanted all result went printed e by = e ∙ (ap (and_went all) by ∙ and_by all (none_unwanted printed))

module _ {P : Type 0} where
  -- a line more in front of what is played
  pub one_more : (does : Does P) (number next : ℕ) (line trim : List ℕ) (before left : List (List ℕ)) (old amid last : Course P)
      → next ≡ number → trim ≡ trimmed line → before ≡ line ∷ left → IsLinePlayed does next trim old amid → ArePlayed does (next_number next) left amid last
      → ArePlayed does number before old last
  one_more does number next line trim before left old amid last n t b is rest =
      subst (λ k. ArePlayed does k before old last) n
      (subst (λ ls. ArePlayed does next ls old last) (sym b)
      (amid, subst (λ l. IsLinePlayed does next l old amid) t is, rest))

  -- no line is left
  pub at_end : (does : Does P) (number : ℕ) (before : List (List ℕ)) (last : Course P) → before ≡ [] → ArePlayed does number before last last
  at_end does number before last b = subst (λ ls. ArePlayed does number ls last last) (sym b) refl

  -- a script is the text that was read
  pub of_text : (does : Does P) (player same other : P) (before after : Option (List ℕ)) (result : Result Bool Refusal) (whole : Option (List ℕ)) (text : List ℕ)
      → IfSome whole (λ bytes. text ≡ bytes) → same ≡ player → IfOk result (λ wanted. IsScriptPlayed does text same other before after wanted)
      → IfOk result (λ wanted. IfSome whole (λ script. IsScriptPlayed does script player other before after wanted))
  of_text does player same other before after (Err refusal) whole text w s is = tt
  of_text does player same other before after (Ok wanted) None text w s is = tt
  of_text does player same other before after (Ok wanted) (Some script) text w s is =
      subst (λ t. IsScriptPlayed does t player other before after wanted) w
      (subst (λ p. IsScriptPlayed does text p other before after wanted) s is)
