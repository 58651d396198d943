-- What a node's call answers, is what the node answers to the event.
use Rattle.std.proofs.Common.{◌≡◌, ℕ, suc, List, [], length, Option, Some, None, Result, Ok, Err, IfOk, IfErr, OnOk, true, false, true≢false, sym, ap, ◌∙◌}
use Rattle.cpg_cred.specs.declared.refusals.Refusal.{Refusal}
use Rattle.cpg_cred.specs.declared.refusals.Refusal.TheVariants.{Denied}
use Rattle.cpg_station.specs.Serving.{WhereDenied}
use Rattle.cpg_world_laws.specs.declared.events.WorldEvent.{WorldEvent}
use Rattle.cpg_history.specs.Members.{Told, RefusalTold, is_answer}
use Rattle.cpg_cred.specs.declared.credentials.Cred.{Cred}
use Rattle.cpg_entry.specs.declared.calls.Call.{Call}
use Rattle.cpg_record.specs.declared.events.Event.{Event}
use Rattle.cpg_ring.specs.States.{Frame}
use Rattle.cpg_node.specs.declared.connections.Client.{Client}
use Rattle.cpg_node.specs.Nodes.{NodeValue, open_client}
use Rattle.cpg_node.specs.Calls.{connect_refusal, connected, submit_refusal, submitted, closed_refusal}
use Rattle.cpg_node.specs.Answers.{IsTakeAnswer, IsListAnswer, IsGroupsAnswer}
use Rattle.cpg_world_laws.specs.declared.events.WorldEvent.TheVariants.{Connect, Submit, Disconnect}
use Rattle.cpg_world_laws.specs.declared.replies.Reply.TheVariants as reply
use Rattle.cpg_world_laws.specs.Worlds.{WorldValue, unless, moves}
use Rattle.cpg_world_laws.specs.Replies.{Answer, IsAnswerAt, IsGroupsReply, or_reply, take_answer, list_answer, listing_answer}

pub connects : (sent : List Frame) (n : ℕ) (x : NodeValue) (pid : ℕ) (cred : Cred) (conn : ℕ) → connect_refusal x cred ≡ None → conn ≡ suc (length x.clients) → IsAnswerAt sent (Connect n pid cred) x (Ok (reply.Connected conn))
connects sent n x pid cred conn none is = ap (λ (m : ℕ). or_reply None (reply.Connected m)) is ∙ ap (λ why. or_reply why (reply.Connected (suc (length x.clients)))) (sym none)

pub connects_at : (sent : List Frame) (n : ℕ) (x y : NodeValue) (pid : ℕ) (cred : Cred) → connect_refusal x cred ≡ None → y ≡ connected x pid cred → (moves sent (Connect n pid cred) x).0 ≡ y
connects_at sent n x y pid cred none is = ap (λ why. (unless why x (connected x pid cred, [])).0) none ∙ sym is

pub submits : (sent : List Frame) (n : ℕ) (x : NodeValue) (conn : ℕ) (call : Call) → submit_refusal x conn call ≡ None → IsAnswerAt sent (Submit n conn call) x (Ok reply.Admitted)
submits sent n x conn call none = ap (λ why. or_reply why reply.Admitted) (sym none)

pub submits_at : (sent : List Frame) (n : ℕ) (x y : NodeValue) (conn : ℕ) (call : Call) → submit_refusal x conn call ≡ None → y ≡ submitted x conn call → (moves sent (Submit n conn call) x).0 ≡ y
submits_at sent n x y conn call none is = ap (λ why. (unless why x (submitted x conn call, [])).0) none ∙ sym is

pub disconnects : (sent : List Frame) (n : ℕ) (x : NodeValue) (conn : ℕ) → closed_refusal (open_client x conn) ≡ None → IsAnswerAt sent (Disconnect n conn) x (Ok reply.Closed)
disconnects sent n x conn none = ap (λ why. or_reply why reply.Closed) (sym none)

pub takes : (x : NodeValue) (conn : ℕ) (o : Option Client) (event : Option Event) → IsTakeAnswer x conn o (Ok event) → ◌≡◌ {A = Answer} (Ok (reply.Took event)) (take_answer x conn o)
takes x conn None event is = absurd (cc (is))
takes x conn (Some c) event is = ap (λ e. Ok (reply.Took e)) is

pub lists : (x : NodeValue) (g : List ℕ) (o : Option Client) (list : List (ℕ × ℕ)) → IsListAnswer x g o (Ok list) → ◌≡◌ {A = Answer} (Ok (reply.Members list)) (list_answer x g o)
lists x g None list is = absurd (cc (is))
lists x g (Some c) list is = ap listing_answer (sym is)

pub names : (x : NodeValue) (o : Option Client) (list : List (List ℕ)) → IsGroupsAnswer x o (Ok list) → IsGroupsReply x o (Ok (reply.Groups list))
names x None list is = absurd (cc (is))
names x (Some c) list is = is

-- what a node answers to List: the listing, or the refusal
abbrev pub list_reply : Result (List (ℕ × ℕ)) Refusal → Answer
list_reply (Ok list) = Ok (reply.Members list)
list_reply (Err why) = Err why

-- a node that answers, answers so
pub lists_reply : (x : NodeValue) (g : List ℕ) (o : Option Client) (r : Result (List (ℕ × ℕ)) Refusal) → is_answer r ≡ true → IsListAnswer x g o r → list_reply r ≡ list_answer x g o
lists_reply x g o (Ok list) told is = lists x g o list is
lists_reply x g None (Err (Denied by)) told is = absurd (cc (is))
lists_reply x g (Some c) (Err (Denied by)) told is = ap listing_answer (sym is)
lists_reply x g o (Err why) told is = absurd (true≢false (sym told))

-- a node that answers with its denial has answered with no listing, and so on
pub told_ok : (start : WorldValue) (before after : List WorldEvent) (e : WorldEvent) (r : Result (List (ℕ × ℕ)) Refusal) → Told start before e (list_reply r) after → IfOk r (λ list. Told start before e (Ok (reply.Members list)) after)
told_ok start before after e (Ok list) told = told
told_ok start before after e (Err why) told = tt

pub told_err : (start : WorldValue) (before after : List WorldEvent) (e : WorldEvent) (r : Result (List (ℕ × ℕ)) Refusal) → is_answer r ≡ true → Told start before e (list_reply r) after → IfErr r (λ why. RefusalTold start before e why after)
told_err start before after e (Ok list) is told = tt
told_err start before after e (Err (Denied by)) is told = told
told_err start before after e (Err why) is told = absurd (true≢false (sym is))

-- a node that doesn't answer adds nothing
pub untold_ok : (start : WorldValue) (before after : List WorldEvent) (e : WorldEvent) (r : Result (List (ℕ × ℕ)) Refusal) → is_answer r ≡ false → IfOk r (λ list. Told start before e (Ok (reply.Members list)) after)
untold_ok start before after e (Ok list) not = absurd (true≢false not)
untold_ok start before after e (Err why) not = tt

pub untold_err : (start : WorldValue) (before after : List WorldEvent) (e : WorldEvent) (r : Result (List (ℕ × ℕ)) Refusal) → is_answer r ≡ false → after ≡ before → IfErr r (λ why. RefusalTold start before e why after)
untold_err start before after e (Ok list) not same = tt
untold_err start before after e (Err (Denied by)) not same = absurd (true≢false not)
untold_err start before after e (Err why) not same = same

-- what a station says of its answer, whichever it is
pub where_answered : (It : Type 0) (r : Result (List (ℕ × ℕ)) Refusal) → is_answer r ≡ true → OnOk r It → IfErr r (WhereDenied It) → It
where_answered It (Ok list) is ok err = ok
where_answered It (Err (Denied by)) is ok err = err
where_answered It (Err why) is ok err = absurd (true≢false (sym is))
