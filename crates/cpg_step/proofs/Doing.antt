-- commands done, one after the other
use Rattle.std.proofs.Common.{◌≡◌, ℕ, ◌+◌, Bool, true, false, IsTrue, ◌↔◌, Result, Ok, Err, OnOk, OnErr, inr, List, [], ◌∷◌, ◌++◌, length, Option, refl, sym, ap, subst, ◌∙◌, append_assoc, append-nil, arith}
use Rattle.std.specs.List.{concat}
use Rattle.std.specs.Io.KnownBytes.{Appends}
use Rattle.std.proofs.KnownBytes.{Appends-trans, Appends-nil}
use Rattle.std.proofs.lemmas.List.Folds.{concat-append}
use Rattle.cpg_cred.specs.declared.refusals.Refusal.{Refusal}
use Rattle.cpg_cred.specs.declared.refusals.Refusal.TheVariants as refusal
use Rattle.cpg_cred.specs.declared.refusals.Refusal.TheVariants.{Memory}
use Rattle.cpg_text.specs.Streams.{AppendsFront}
use Rattle.cpg_world_laws.specs.declared.events.WorldEvent.{WorldEvent}
use Rattle.cpg_world_laws.specs.Worlds.{WorldValue, happens, runs}
use Rattle.cpg_world_laws.specs.Replies.{Answer, IsReply, AreReplies}
use Rattle.cpg_world_laws.proofs.Reached.{runs_on}
use Rattle.cpg_world.specs.Runs.{IsStep}
use Rattle.cpg_world.proofs.Running.{as_many_after}
use Rattle.cpg_step.specs.declared.commands.Look.{Look as LookValue}
use Rattle.cpg_step.specs.declared.commands.Command.{Command}
use Rattle.cpg_step.specs.declared.commands.Command.TheVariants.{Act, Look}
use Rattle.cpg_step.specs.Running.{after, answer_by, events_in, lines_of, look_by, AreDone, Form, IsStopped, IsWrittenInPart, LeavesIn, LeavesOf}
use Rattle.cpg_step.specs.Steps.{IsDone, MayBeDone}

-- what follows where a call went well
pub where_ok : {P Q : Type 0} (result : Result (Unit {0}) Refusal) → (P → Q) → OnOk result P → OnOk result Q
where_ok (Ok done) f h = f h
where_ok (Err why) f h = h

-- an event that was answered
pub act_done : (form : Form) (index : ℕ) (w : WorldValue) (e : WorldEvent) (a : Answer) (text : List ℕ) (v : WorldValue)
    → IsReply w e a → v ≡ happens w e → text ≡ answer_by form index w e a → IsDone form index w (Act e) text v
act_done form index w e a text v replied happened said = record {
  answers = a ∷ [];
  replies = (replied, tt);
  world_after = happened;
  said = said ∙ sym (append-nil (answer_by form index w e a));
}

-- true is not false
differ : true ≡ false → ⊥
differ is = cc

-- an event that came to something other than want of memory
stepped : (w : WorldValue) (e : WorldEvent) (a : Answer) (told : Bool) (v : WorldValue) → IsStep w e a v → (IsTrue told ↔ (a ≡ Err Memory)) → told ≡ false → IsReply w e a × (v ≡ happens w e)
stepped w e a told v step is none = step.happened (λ memory. differ (sym (is.1 memory) ∙ none))

-- Where its line was put it is done.
pub step_done : (form : Form) (index : ℕ) (w : WorldValue) (e : WorldEvent) (a : Answer) (told : Bool) (v : WorldValue) (put : Result (Unit {0}) Refusal) (before text : List ℕ)
    → IsStep w e a v → (IsTrue told ↔ (a ≡ Err Memory)) → told ≡ false
    → before ≡ [] → OnOk put (v ≡ happens w e → text ≡ before ++ answer_by form index w e a) → OnOk put (IsDone form index w (Act e) text v)
step_done form index w e a told v (Ok done) before text step is none empty said =
    let met = stepped w e a told v step is none in
    act_done form index w e a text v met.0 met.1 (said met.1 ∙ ap (λ front. front ++ answer_by form index w e a) empty)
step_done form index w e a told v (Err refused) before text step is none empty said = tt

-- Whether or not, it happened.
pub step_happened : (w : WorldValue) (e : WorldEvent) (a : Answer) (told : Bool) (v : WorldValue) → IsStep w e a v → (IsTrue told ↔ (a ≡ Err Memory)) → told ≡ false → (put : Result (Unit {0}) Refusal) → OnErr put (MayBeDone w (Act e) v)
step_happened w e a told v step is none (Ok done) = tt
step_happened w e a told v step is none (Err refused) = inr (stepped w e a told v step is none).1

-- a look
pub look_done : (form : Form) (index : ℕ) (w : WorldValue) (l : LookValue) (text : List ℕ) → text ≡ concat (look_by form index w l) → IsDone form index w (Look l) text w
look_done form index w l text said = record {
  answers = [];
  replies = tt;
  world_after = refl;
  said = said ∙ ap concat (sym (append-nil (look_by form index w l)));
}

-- the text of a command that is done is written
pub written_whole : (form : Form) (index : ℕ) (w v : WorldValue) (c : Command) (text : List ℕ) (a b : Option (List ℕ)) → IsDone form index w c text v → Appends a b text
    → AreDone form index w (c ∷ []) a b v
written_whole form index w v c text a b d h = record {
  answers = d.answers;
  replies = d.replies;
  world_after = d.world_after;
  written = subst (Appends a b) d.said h;
}

-- a front of it is
pub written_in_part : (form : Form) (index : ℕ) (w v : WorldValue) (c : Command) (text : List ℕ) (a b : Option (List ℕ)) → IsDone form index w c text v → AppendsFront a b text
    → IsWrittenInPart form index w c a b v
written_in_part form index w v c text a b d h = record {
  answers = d.answers;
  replies = d.replies;
  world_after = d.world_after;
  written = subst (AppendsFront a b) d.said h;
}

-- the events of commands after commands
events_parted : (before more : List Command) → events_in (before ++ more) ≡ events_in before ++ events_in more
events_parted [] more = refl
events_parted (Act e ∷ before) more = ap (λ es. e ∷ es) (events_parted before more)
events_parted (Look l ∷ before) more = events_parted before more

-- the replies to events after events
replies_parted : (w : WorldValue) (es fs : List WorldEvent) (answers more : List Answer) → AreReplies w es answers → AreReplies (runs w es) fs more → AreReplies w (es ++ fs) (answers ++ more)
replies_parted w [] fs [] more all later = later
replies_parted w [] fs (a ∷ answers) more all later = absurd all
replies_parted w (e ∷ es) fs [] more all later = absurd all
replies_parted w (e ∷ es) fs (a ∷ answers) more all later = (all.0, replies_parted (happens w e) es fs answers more all.1 later)

-- the lines of commands after commands, which begin at a later index
lines_parted : (form : Form) (index : ℕ) (w : WorldValue) (before more : List Command) (answers others : List Answer) → AreReplies w (events_in before) answers
    → lines_of form index w (before ++ more) (answers ++ others)
    ≡ lines_of form index w before answers ++ lines_of form (index + length before) (after w before) more others
lines_parted form index w [] more [] others all = ap (λ n. lines_of form n w more others) (omega arith)
lines_parted form index w [] more (a ∷ answers) others all = absurd all
lines_parted form index w (Look l ∷ before) more answers others all =
    let on : index + 1 + length before ≡ index + length (Look l ∷ before) = omega arith in
    ap (λ lines. look_by form index w l ++ lines) (lines_parted form (index + 1) w before more answers others all)
    ∙ sym (append_assoc (look_by form index w l) (lines_of form (index + 1) w before answers) (lines_of form (index + 1 + length before) (after w before) more others))
    ∙ ap (λ n. lines_of form index w (Look l ∷ before) answers ++ lines_of form n (after w before) more others) on
lines_parted form index w (Act e ∷ before) more [] others all = absurd all
lines_parted form index w (Act e ∷ before) more (a ∷ answers) others all =
    let on : index + 1 + length before ≡ index + length (Act e ∷ before) = omega arith in
    ap (λ lines. answer_by form index w e a ∷ lines) (lines_parted form (index + 1) (happens w e) before more answers others all.1)
    ∙ ap (λ n. lines_of form index w (Act e ∷ before) (a ∷ answers) ++ lines_of form n (after w (Act e ∷ before)) more others) on

-- no command
pub none_done : (form : Form) (w : WorldValue) (a : Option (List ℕ)) → AreDone form 0 w [] a a w
none_done form w a = record { answers = []; replies = tt; world_after = refl; written = Appends-nil a }

-- commands after commands
pub done_more : (form : Form) (index : ℕ) (w v u : WorldValue) (before more : List Command) (a b d : Option (List ℕ)) → AreDone form index w before a b v
    → AreDone form (index + length before) v more b d u → AreDone form index w (before ++ more) a d u
done_more form index w v u before more a b d first second = record {
  answers = first.answers ++ second.answers;
  replies = subst (λ es. AreReplies w es (first.answers ++ second.answers)) (sym (events_parted before more)) (replies_parted w (events_in before) (events_in more) first.answers second.answers first.replies (subst (λ x. AreReplies x (events_in more) second.answers) first.world_after second.replies));
  world_after = second.world_after ∙ (ap (λ x. runs x (events_in more)) first.world_after ∙ (sym (runs_on w (events_in before) (events_in more)) ∙ ap (runs w) (sym (events_parted before more))));
  written = subst (Appends a d) (sym texts) (Appends-trans a b d (concat (lines_of form index w before first.answers)) (concat (lines_of form last v more second.answers)) first.written second.written);
}
  where
    last : ℕ
    last = index + length before

    texts : concat (lines_of form index w (before ++ more) (first.answers ++ second.answers)) ≡ concat (lines_of form index w before first.answers) ++ concat (lines_of form last v more second.answers)
    texts = ap concat (lines_parted form index w before more first.answers second.answers first.replies) ∙ (concat-append (lines_of form index w before first.answers) (lines_of form last (after w before) more second.answers) ∙ ap (λ x. concat (lines_of form index w before first.answers) ++ concat (lines_of form last x more second.answers)) (sym first.world_after))

-- the command after those that are done met a refusal
pub stopped_after : (refused : Refusal) (form : Form) (w v u : WorldValue) (before : List Command) (c : Command) (later : List Command) (a b d : Option (List ℕ))
    → AreDone form 0 w before a b v → LeavesOf refused form (length before) v c b d u → (commands : List Command) → commands ≡ before ++ c ∷ later → IsStopped refused form w commands a d u
stopped_after refused form w v u before c later a b d first left commands whole = record {
  before = before;
  met = c;
  later = later;
  whole = whole;
  between = v;
  told = b;
  done = first;
  left = left;
}

-- what such a command leaves
pub stopped_leaves : (refused : Refusal) (form : Form) (w world : WorldValue) (commands : List Command) (a b : Option (List ℕ)) → IsStopped refused form w commands a b world
    → LeavesIn form (Ok commands) refused w a b world
stopped_leaves refusal.Memory form w world commands a b stopped = inr stopped
stopped_leaves refusal.Write form w world commands a b stopped = stopped
stopped_leaves _ form w world commands a b stopped = absurd stopped.left

-- commands leave as many nodes
pub as_many_done : (form : Form) (index : ℕ) (w v : WorldValue) (commands : List Command) (a b : Option (List ℕ)) → AreDone form index w commands a b v → length v.nodes ≡ length w.nodes
as_many_done form index w v commands a b d = ap (λ (x : WorldValue). length x.nodes) d.world_after ∙ as_many_after w (events_in commands)
