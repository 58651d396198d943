-- commands done, one after the other
use Rattle.std.proofs.Common.{◌≡◌, ◌≢◌, ℕ, ◌+◌, ◌<◌, List, [], ◌∷◌, ◌++◌, length, map, take, drop, get_or, Option, None, Some, Result, Err, inl, refl, sym, ap, subst, ◌∙◌, append_assoc, append-nil}
use Rattle.std.specs.Io.KnownBytes.{Appends, Keeps}
use Rattle.std.proofs.KnownBytes.{Appends-trans, Appends-nil}
use Rattle.std.proofs.lemmas.List.{take_more, map-append}
use Rattle.cpg_world_laws.specs.Worlds.{WorldValue}
use Rattle.cpg_cred.specs.declared.refusals.Refusal.{Refusal}
use Rattle.cpg_cred.specs.declared.refusals.Refusal.TheVariants.{Memory, Write}
use Rattle.cpg_text.specs.Streams.{AppendsFront}
use Rattle.cpg_text.proofs.Lined.{split_around}
use Rattle.cpg_cluster.specs.declared.commands.Command.{Command}
use Rattle.cpg_cluster.specs.declared.commands.Numbered.{Numbered}
use Rattle.cpg_cluster.specs.Answers.{Answer, SessionsValue, no_sessions, MayAnswer, AreAnswered}
use Rattle.cpg_cluster.specs.Lines.{Printed, text_of}
use Rattle.cpg_cluster.specs.Running.{IsWait, IsDone, AreDone, IsWrittenInPart, MayBeDone, LeavesOf, IsStopped, Runs, Stops, IsRun, Leaves}

-- a command that was answered
pub answer_done : (printed : Printed) (start : WorldValue) (sessions : SessionsValue) (line : Numbered) (answer : Answer) (text : List ℕ) (left : SessionsValue)
    → MayAnswer start sessions line.command answer left → answer ≢ Err Memory → text ≡ printed line answer → IsDone printed start sessions line text left
answer_done printed start sessions line answer text left may told said = record { answer = answer; may = may; told = told; said = said }

-- known bytes that stay and then grow
kept_appends : (a m b : Option (List ℕ)) (bs : List ℕ) → Keeps a m → Appends m b bs → Appends a b bs
kept_appends None m b bs k h = tt
kept_appends (Some xs) None b bs k h = absurd k
kept_appends (Some xs) (Some ys) None bs k h = absurd h
kept_appends (Some xs) (Some ys) (Some zs) bs k h = h ∙ ap (λ l. l ++ bs) k

-- the text of a command that is done is written, after what was written before it was handed on
pub written_whole : (printed : Printed) (start : WorldValue) (sessions left : SessionsValue) (line : Numbered) (text : List ℕ) (a m b : Option (List ℕ))
    → IsDone printed start sessions line text left → Keeps a m → Appends m b text → AreDone printed start sessions (line ∷ []) a b left
written_whole printed start sessions left line text a m b d k h = record {
  answers = d.answer ∷ [];
  answered = (left, d.may, d.told, refl);
  written = subst (Appends a b) (d.said ∙ sym (append-nil (printed line d.answer))) (kept_appends a m b text k h);
}

-- a front of it is
pub written_in_part : (printed : Printed) (start : WorldValue) (sessions left : SessionsValue) (line : Numbered) (text : List ℕ) (a m b : Option (List ℕ))
    → IsDone printed start sessions line text left → Keeps a m → AppendsFront m b text → IsWrittenInPart printed start sessions line a b left
written_in_part printed start sessions left line text a m b d k h = record {
  text = text;
  done = d;
  written = record { front = h.front; rest = h.rest; whole = h.whole; written = kept_appends a m b h.front k h.written };
}

-- nothing of it is where memory was refused
pub not_written : (printed : Printed) (start : WorldValue) (sessions left : SessionsValue) (line : Numbered) (a b : Option (List ℕ)) (refused : Refusal)
    → refused ≡ Memory → Keeps a b → MayBeDone start sessions line.command left → LeavesOf refused printed start sessions line a b left
not_written printed start sessions left line a b refused is k may = subst (λ r. LeavesOf r printed start sessions line a b left) (sym is) (k, may)

-- nor where it was to wait, and what was written before it could not be handed on
pub not_begun : (printed : Printed) (start : WorldValue) (sessions : SessionsValue) (line : Numbered) (a b : Option (List ℕ)) (refused : Refusal)
    → refused ≡ Write → IsWait line → Keeps a b → LeavesOf refused printed start sessions line a b sessions
not_begun printed start sessions line a b refused is waits k = subst (λ r. LeavesOf r printed start sessions line a b sessions) (sym is) (inl (waits, k, refl))

-- a command that was answered, of which nothing is said
pub may_be_done : (start : WorldValue) (sessions left : SessionsValue) (command : Command) (answer : Answer) → MayAnswer start sessions command answer left → MayBeDone start sessions command left
may_be_done start sessions left command answer may = (answer, may)

-- the answers to commands after commands
answered_more : (start : WorldValue) (old between new : SessionsValue) (before more : List Command) (answers others : List Answer) → AreAnswered start old before answers between → AreAnswered start between more others new → AreAnswered start old (before ++ more) (answers ++ others) new
answered_more start old between new [] more [] others all later = subst (λ s. AreAnswered start s more others new) all later
answered_more start old between new [] more (a ∷ answers) others all later = absurd all
answered_more start old between new (c ∷ before) more [] others all later = absurd all
answered_more start old between new (c ∷ before) more (a ∷ answers) others all later =
    (all.0, all.1, all.2, answered_more start all.0 between new before more answers others all.3 later)

-- and what is printed of them
text_more : (printed : Printed) (start : WorldValue) (old between : SessionsValue) (before more : List Numbered) (answers others : List Answer)
    → AreAnswered start old (map (λ line. line.command) before) answers between → text_of printed (before ++ more) (answers ++ others) ≡ text_of printed before answers ++ text_of printed more others
text_more printed start old between [] more [] others all = refl
text_more printed start old between [] more (a ∷ answers) others all = absurd all
text_more printed start old between (c ∷ before) more [] others all = absurd all
text_more printed start old between (c ∷ before) more (a ∷ answers) others all =
    ap (λ l. printed c a ++ l) (text_more printed start all.0 between before more answers others all.3)
    ∙ sym (append_assoc (printed c a) (text_of printed before answers) (text_of printed more others))

-- no command
pub none_done : (printed : Printed) (start : WorldValue) (sessions : SessionsValue) (a : Option (List ℕ)) → AreDone printed start sessions [] a a sessions
none_done printed start sessions a = record { answers = []; answered = refl; written = Appends-nil a }

-- commands after commands
pub done_more : (printed : Printed) (start : WorldValue) (old between new : SessionsValue) (before more : List Numbered) (a b d : Option (List ℕ))
    → AreDone printed start old before a b between → AreDone printed start between more b d new → AreDone printed start old (before ++ more) a d new
done_more printed start old between new before more a b d first second = record {
  answers = first.answers ++ second.answers;
  answered = subst (λ l. AreAnswered start old l (first.answers ++ second.answers) new) (sym (map-append (λ (line : Numbered). line.command) before more))
      (answered_more start old between new (map (λ line. line.command) before) (map (λ line. line.command) more) first.answers second.answers first.answered second.answered);
  written = subst (Appends a d) (sym (text_more printed start old between before more first.answers second.answers first.answered))
      (Appends-trans a b d (text_of printed before first.answers) (text_of printed more second.answers) first.written second.written);
}

-- one command more of a start
pub done_next : (printed : Printed) (start : WorldValue) (old between new : SessionsValue) (lines : List Numbered) (i : ℕ) (line : Numbered) (a b d : Option (List ℕ)) → i < length lines → get_or lines i line ≡ line
    → AreDone printed start old (take i lines) a b between → AreDone printed start between (line ∷ []) b d new → AreDone printed start old (take (i + 1) lines) a d new
done_next printed start old between new lines i line a b d within e first second =
    subst (λ l. AreDone printed start old l a d new) (sym (take_more lines i line within ∙ ap (λ x. take i lines ++ x ∷ []) e)) (done_more printed start old between new (take i lines) (line ∷ []) a b d first second)

-- the command of a start that met a refusal
pub stopped_at : (refused : Refusal) (printed : Printed) (start : WorldValue) (old between left : SessionsValue) (lines : List Numbered) (i : ℕ) (line : Numbered) (a b d : Option (List ℕ)) → i < length lines → get_or lines i line ≡ line
    → AreDone printed start old (take i lines) a b between → LeavesOf refused printed start between line b d left → IsStopped refused printed start old lines a d left
stopped_at refused printed start old between left lines i line a b d within e first leaves = record {
  before = take i lines;
  met = line;
  later = drop (i + 1) lines;
  whole = split_around lines i line within e;
  between = between;
  told = b;
  done = first;
  leaves = leaves;
}

-- a script from no session on
pub runs_from_none : (printed : Printed) (start : WorldValue) (script : Result (List Numbered) ℕ) (first left : SessionsValue) (a b : Option (List ℕ)) → first ≡ no_sessions
    → Runs printed start script first a b left → IsRun printed start script a b
runs_from_none printed start script first left a b none ran = (left, subst (λ (s : SessionsValue). Runs printed start script s a b left) none ran)

-- and one that a fault ends
pub stops_from_none : (printed : Printed) (start : WorldValue) (script : Result (List Numbered) ℕ) (refused : Refusal) (first left : SessionsValue) (a b : Option (List ℕ)) → first ≡ no_sessions
    → Stops printed start script refused first a b left → Leaves printed start script refused a b
stops_from_none printed start script refused first left a b none stopped = (left, subst (λ (s : SessionsValue). Stops printed start script refused s a b left) none stopped)
