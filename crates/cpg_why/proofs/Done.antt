-- commands done, one after the other
use Rattle.std.proofs.Common.{◌≡◌, ℕ, ◌+◌, ◌<◌, List, [], ◌∷◌, ◌++◌, length, take, get_or, refl, sym, ap, ◌∙◌, arith}
use Rattle.std.proofs.lemmas.List.{take_all, take_more}
use Rattle.cpg_world_laws.specs.Worlds.{WorldValue, runs}
use Rattle.cpg_world_laws.proofs.Reached.{runs_on}
use Rattle.cpg_world.proofs.Running.{as_many_after}
use Rattle.cpg_step.specs.declared.commands.Command.{Command}
use Rattle.cpg_step.specs.declared.commands.Command.TheVariants.{Act, Look}
use Rattle.cpg_step.specs.Running.{after, events_in}
use Rattle.cpg_why.specs.Explaining.{AreDoneUpto}

-- the events of commands after commands
events_parted : (before more : List Command) → events_in (before ++ more) ≡ events_in before ++ events_in more
events_parted [] more = refl
events_parted (Act e ∷ before) more = ap (λ es. e ∷ es) (events_parted before more)
events_parted (Look l ∷ before) more = events_parted before more

-- one command more of a list
pub done_next : (w between new : WorldValue) (commands : List Command) (i : ℕ) (c : Command) → i < length commands → get_or commands i c ≡ c
    → between ≡ after w (take i commands) → new ≡ after between (c ∷ []) → new ≡ after w (take (i + 1) commands)
done_next w between new commands i c within e before next =
    let more : take (i + 1) commands ≡ take i commands ++ c ∷ [] = take_more commands i c within ∙ ap (λ (x : Command). take i commands ++ x ∷ []) e in
    next ∙ ap (λ (v : WorldValue). after v (c ∷ [])) before
    ∙ sym (ap (after w) more ∙ ap (runs w) (events_parted (take i commands) (c ∷ [])) ∙ runs_on w (events_in (take i commands)) (events_in (c ∷ [])))

-- as many nodes are there after a command
pub as_many_one : (w new : WorldValue) (c : Command) → new ≡ after w (c ∷ []) → length new.nodes ≡ length w.nodes
as_many_one w new c done = ap (λ (x : WorldValue). length x.nodes) done ∙ as_many_after w (events_in (c ∷ []))

-- no command is done
pub none_done : (w : WorldValue) (commands : List Command) → AreDoneUpto w commands w
none_done w commands = (0, refl)

-- all are
pub all_done : (w new : WorldValue) (commands : List Command) → new ≡ after w commands → AreDoneUpto w commands new
all_done w new commands done = (length commands, done ∙ ap (after w) (sym (take_all (length commands) commands (omega arith))))
