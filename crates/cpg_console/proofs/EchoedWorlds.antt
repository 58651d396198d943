-- what is written of a script whose run over a new world is echoed
use Rattle.std.proofs.Common.{◌≡◌, ◌≤◌, ◌++◌, ◌∙◌, [], ℕ, List, length, Option, Some, None, Result, Ok, Err, OnOk, refl, sym, ap, subst, append-nil}
use Rattle.std.specs.Prelude.{IfSome}
use Rattle.std.proofs.KnownBytes.{Keeps-refl}
use Rattle.cpg_cred.specs.Listed.{Listed}
use Rattle.cpg_cred.specs.declared.refusals.Refusal.{Refusal}
use Rattle.cpg_cred.specs.declared.refusals.Refusal.TheVariants as refusal
use Rattle.cpg_text.specs.declared.streams.TheConstants.{MOST_BYTES}
use Rattle.cpg_text.specs.declared.faults.Fault as script
use Rattle.cpg_ring.specs.declared.settings.Settings.{Settings}
use Rattle.cpg_world_laws.specs.Worlds.{WorldValue, new_world}
use Rattle.cpg_step.specs.declared.commands.Command.{Command}
use Rattle.cpg_step.specs.Scripts.{commands_of_script}
use Rattle.cpg_cluster.specs.Lines.{echoed}
use Rattle.cpg_why.specs.Scripts.{numbers_of}
use Rattle.cpg_console.specs.Echoing.{EndsEchoing, IsWritten, Leaves}
use Rattle.cpg_console.specs.declared.failures.Failure.{Failure}
use Rattle.cpg_console.specs.declared.failures.Failure.TheVariants.{Fault}
use Rattle.cpg_console.specs.Runs.{Echoes, EchoesUpTo, FailsLate}
use Rattle.cpg_console.specs.Starting.{IsStarted, IsNotStarted}
use Rattle.cpg_console.proofs.NotStarted.{unless_known}
use Rattle.cpg_console.proofs.Late.{gathered_late}

no_memory : (commands : Result (List Command) ℕ) (numbers : List ℕ) (w : WorldValue) (a : Option (List ℕ)) → Leaves commands numbers refusal.Memory w a a
no_memory (Ok commands) numbers w a = Keeps-refl a
no_memory (Err bad) numbers w a = Keeps-refl a

-- nothing is written where there is no world
pub none_echoed : (known : Option (List ℕ)) (s : Settings) (list : Option Listed) (failure : Failure) (a : Option (List ℕ)) → IsNotStarted s list failure
    → IfSome known (λ lines. Echoes s list lines (Some failure) a a)
none_echoed known s list failure a =
    unless_known (λ lines l f. Echoes s l lines (Some f) a a) known s list failure (λ lines. (refl, Keeps-refl a))
    (λ lines l. (refl, no_memory (commands_of_script s.nodes lines) (numbers_of lines) (new_world s l) a)) (λ lines l out. (refl, (out, Keeps-refl a)))

-- the whole script was run over the new world
pub all_echoed : (known : Option (List ℕ)) (s : Settings) (list : Option Listed) (w : WorldValue) (a b : Option (List ℕ)) → IsStarted s list w
    → IfSome known (λ lines. (length lines ≤ MOST_BYTES) × IsWritten (commands_of_script w.settings.nodes lines) (numbers_of lines) w a b)
    → IfSome known (λ lines. Echoes s list lines None a b)
all_echoed known s None w a b e h = absurd e
all_echoed None s (Some list) w a b e h = tt
all_echoed (Some lines) s (Some list) w a b e h =
    (h.0, subst (λ (v : WorldValue). IsWritten (commands_of_script v.settings.nodes lines) (numbers_of lines) v a b) e h.1)

no_range : (commands : Result (List Command) ℕ) (numbers : List ℕ) (w : WorldValue) (a b : Option (List ℕ)) → Leaves commands numbers refusal.Range w a b → ⊥
no_range (Ok commands) numbers w a b h = h
no_range (Err bad) numbers w a b h = h

up_to : (s : Settings) (list : Listed) (lines : List ℕ) (refused : Refusal) (a b : Option (List ℕ))
    → Leaves (commands_of_script s.nodes lines) (numbers_of lines) refused (new_world s list) a b → EchoesUpTo s list lines refused a b
up_to s list lines refusal.Range a b h = absurd (no_range (commands_of_script s.nodes lines) (numbers_of lines) (new_world s list) a b h)
up_to s list lines refused a b h = h

-- a fault of the script ended it
pub part_echoed : (known : Option (List ℕ)) (s : Settings) (list : Option Listed) (w : WorldValue) (fault : script.Fault) (a b : Option (List ℕ)) → IsStarted s list w → fault.part ≡ None
    → IfSome known (λ lines. Leaves (commands_of_script w.settings.nodes lines) (numbers_of lines) fault.refusal w a b)
    → IfSome known (λ lines. Echoes s list lines (Some (Fault fault)) a b)
part_echoed known s None w fault a b e p h = absurd e
part_echoed None s (Some list) w fault a b e p h = tt
part_echoed (Some lines) s (Some list) w fault a b e p h =
    (p, up_to s list lines fault.refusal a b (subst (λ (v : WorldValue). Leaves (commands_of_script v.settings.nodes lines) (numbers_of lines) fault.refusal v a b) e h))

pub echoed_late : (fault : script.Fault) (a b : Option (List ℕ)) → EndsEchoing fault.refusal a b → FailsLate (Fault fault) a b
echoed_late fault a b h = gathered_late fault.refusal a b h

-- lines of a look that were put behind the echo that was kept
pub look_echoed : {T E : Type 0} (r : Result T E) (target : ℕ → List ℕ) (old new words answer echo text : List ℕ) → words ≡ echo → answer ≡ text
    → OnOk r (new ≡ old ++ echoed words answer) → OnOk r ((index : ℕ) → echo ≡ target index → new ≡ old ++ (echoed (target index) text ++ []))
look_echoed (Ok done) target old new words answer echo text kept same put = λ index met. put
    ∙ ap (λ t. old ++ t) (ap (λ w. echoed w answer) (kept ∙ met) ∙ ap (echoed (target index)) same ∙ sym (append-nil (echoed (target index) text)))
look_echoed (Err why) target old new words answer echo text kept same put = tt
