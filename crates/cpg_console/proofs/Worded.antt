-- what is told behind the line of a wrong word
use Rattle.std.proofs.Common.{◌≡◌, ◌⊎◌, Bool, true, false, inl, inr, ℕ, List, [], map, Option, Some, None, Bor, refl, sym, ap, subst, ◌∙◌}
use Rattle.std.specs.Prelude.{IsSomeAnd, ◌↔◌}
use Rattle.cpg_cred.specs.declared.refusals.Refusal.{Refusal}
use Rattle.cpg_cred.specs.declared.refusals.Refusal.TheVariants as refusal
use Rattle.cpg_accept.specs.Accepting.{whole_fault}
use Rattle.cpg_console.specs.declared.failures.Failure.{Failure}
use Rattle.cpg_console.specs.declared.failures.Failure.TheVariants as failure
use Rattle.cpg_console.specs.declared.runs.Run.{Run}
use Rattle.cpg_console.specs.declared.runs.Run.TheVariants.{Judge, JudgeOnly, Why, Accept, Step, StepWhy, Draw, Number, Echo, Cluster, ClusterWhy}
use Rattle.cpg_console.specs.Hinting.{failure_unread, hint_told, words_of, EndsUnread}
use Rattle.cpg_console.specs.Runs.{HasWrongWord}
use Rattle.cpg_console.specs.Words.{list_of_words, nobody}

-- how a run ends whose script can't be read
pub unread_ends : (wrong flushed : Bool) (refused : Refusal) → (refused ≡ refusal.Memory) ⊎ (refused ≡ refusal.Read) → EndsUnread (failure_unread wrong refused flushed)
unread_ends true flushed refused h = tt
unread_ends false true refused (inl is) = inr (inl (ap whole_fault is))
unread_ends false true refused (inr is) = inl (ap whole_fault is)
unread_ends false false refused h = inr (inr refl)

-- where the script can't be read, what is told behind the fault's line is the same whatever it is
pub hint_unread : (run : Run) (end : Option Failure) (script : List ℕ) → IsSomeAnd end EndsUnread → hint_told run [] end ≡ hint_told run script end
hint_unread run (Some failure.BadWord) script h = refl
hint_unread run (Some (failure.Fault fault)) script (inl is) = ap (λ f. hint_told run [] (Some (failure.Fault f))) is ∙ sym (ap (λ f. hint_told run script (Some (failure.Fault f))) is)
hint_unread run (Some (failure.Fault fault)) script (inr (inl is)) = ap (λ f. hint_told run [] (Some (failure.Fault f))) is ∙ sym (ap (λ f. hint_told run script (Some (failure.Fault f))) is)
hint_unread run (Some (failure.Fault fault)) script (inr (inr is)) = ap (λ f. hint_told run [] (Some (failure.Fault f))) is ∙ sym (ap (λ f. hint_told run script (Some (failure.Fault f))) is)
hint_unread run (Some (failure.Missing what)) script h = absurd h
hint_unread run None script h = absurd h

wrong_word : (words given : List (Bor (List ℕ))) (wrong : Bool) → words ≡ given → (wrong ≡ true) ↔ (list_of_words (map (λ word. word.now) words) ≡ None)
    → (wrong ≡ true) ↔ (list_of_words (map (λ word. word.now) given) ≡ None)
wrong_word words given wrong is h = subst (λ (list : List (Bor (List ℕ))). (wrong ≡ true) ↔ (list_of_words (map (λ word. word.now) list) ≡ None)) is h

no_words : (words : List (Bor (List ℕ))) (wrong : Bool) → words ≡ [] → (wrong ≡ true) ↔ (list_of_words (map (λ word. word.now) words) ≡ None) → (wrong ≡ true) ↔ ⊥
no_words words wrong is h = ((λ right. let e : Some nobody ≡ None = (wrong_word words [] wrong is h).0 right in absurd (cc)), (λ no. absurd no))

-- a word of a run is wrong where its words give no list
pub wrong_by : (run : Run) (words : List (Bor (List ℕ))) (wrong : Bool) → words ≡ words_of run → (wrong ≡ true) ↔ (list_of_words (map (λ word. word.now) words) ≡ None)
    → (wrong ≡ true) ↔ HasWrongWord run
wrong_by (Judge form) words wrong is h = no_words words wrong is h
wrong_by (JudgeOnly filter) words wrong is h = no_words words wrong is h
wrong_by (Why form asked) words wrong is h = no_words words wrong is h
wrong_by (Accept form) words wrong is h = no_words words wrong is h
wrong_by (Step form settings given) words wrong is h = wrong_word words given.now wrong is h
wrong_by (StepWhy form asked settings given) words wrong is h = wrong_word words given.now wrong is h
wrong_by (Draw picture settings given) words wrong is h = wrong_word words given.now wrong is h
wrong_by (Number settings given) words wrong is h = wrong_word words given.now wrong is h
wrong_by (Echo settings given) words wrong is h = wrong_word words given.now wrong is h
wrong_by (Cluster options chances settings given) words wrong is h = wrong_word words given.now wrong is h
wrong_by (ClusterWhy inquiry settings given) words wrong is h = wrong_word words given.now wrong is h
