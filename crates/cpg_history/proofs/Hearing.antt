-- A frame that was sent is heard: how it is answered, and what it makes the node send.
use Rattle.std.proofs.Common.{◌≡◌, ℕ, suc, ◌+◌, Bool, true, List, [], ◌∷◌, ◌++◌, length, All, Option, Some, None, IfSome, Ok, option_map, refl, sym, ap, ◌∙◌, subst, arith}
use Rattle.std.proofs.lemmas.List.{length-map}
use Rattle.std.proofs.lemmas.List.Elements.{All-from_recursion}
use Rattle.std.proofs.lemmas.Option.{none-some, same_Some}
use Rattle.cpg_entry.specs.declared.frames.Frame.TheVariants as frame
use Rattle.cpg_wire.specs.declared.codes.Version.TheVariants.{Two}
use Rattle.cpg_wire.specs.Spelling.{spelling}
use Rattle.cpg_ring.specs.States.{NodeState, Token}
use Rattle.cpg_ring.specs.Worlds.{item, send_again}
use Rattle.cpg_node.specs.Nodes.{NodeValue}
use Rattle.cpg_node.specs.Calls.{frame_refusal, after_frame, answers_to}
use Rattle.cpg_node.specs.Answers.{spelled, CanBeSpelled}
use Rattle.cpg_world_laws.specs.declared.events.WorldEvent.{WorldEvent}
use Rattle.cpg_world_laws.specs.declared.events.WorldEvent.TheVariants.{Frame as Arrival, Timer}
use Rattle.cpg_world_laws.specs.declared.replies.Reply.TheVariants as reply
use Rattle.cpg_world_laws.specs.Worlds.{WorldValue, NodeOutcome, unless, hears, runs}
use Rattle.cpg_world_laws.specs.Replies.{or_reply, frame_answer}
use Rattle.cpg_history.proofs.Reading.{ReadAgain}
use Rattle.cpg_board.specs.declared.words.View.{View}
use Rattle.cpg_station.specs.Stations.{StationValue}
use Rattle.cpg_history.specs.Histories.{Came, FrontValue, told, front}
use Rattle.cpg_history.specs.Members.{how_many, MemberValue, Replied, WereSent, WasSent, IsAt, member, before_last}
use Rattle.cpg_history.specs.Traces.{HasNumber, TraceValue, WasRecorded, recorded_of}
use Rattle.cpg_history.proofs.Noting.{number_on, recorded}
use Rattle.cpg_history.proofs.Runs.{prefix_sends}
use Rattle.cpg_history.proofs.Coming.{called, replied, world_after}
use Rattle.cpg_history.proofs.Sending.{all_stand, last_off}

module _ {k : Bool} (law : ReadAgain) (start : WorldValue) (v : View) (f : FrontValue) (stamp id : ℕ) (s t : StationValue) (spare : Bool) (seen : List WorldEvent) (bytes : List ℕ) (frames : List (List ℕ))
    (p : WasSent start f.seen f.number bytes) (c : Came k (told v (front f)) (Arrival id f.number) stamp seen) (at : IsAt start v.seen id s.node)
    (none : frame_refusal s.node p.frame ≡ None) (are : frames ≡ spelled (answers_to s.node p.frame)) (made : t.node ≡ after_frame s.node p.frame) where
  abbrev x : NodeValue
  x = s.node

  abbrev w : WorldValue
  w = runs start c.log

  there : item w.sent f.number ≡ Some p.frame
  there = prefix_sends start f.seen c.log f.number p.frame c.also p.sent

  hears_is : hears (item w.sent f.number) x ≡ (after_frame x p.frame, answers_to x p.frame)
  hears_is = ap (λ o. hears o x) there ∙ ap (λ r. unless r x (after_frame x p.frame, answers_to x p.frame)) none

  pub heard : (old new : TraceValue) → Replied start (member id s spare v.seen old) (Arrival id f.number) (Ok (reply.Sent (length frames))) (member id t spare seen new)
  heard old new =
      replied start (told v (front f)) (Arrival id f.number) stamp id s t spare old new seen c (Ok (reply.Sent (length frames))) refl at
      (ap (λ m. Ok (reply.Sent m)) (ap length are ∙ length-map (answers_to x p.frame) (spelling Two)) ∙ sym (ap (frame_answer x) there ∙ ap (λ r. or_reply r (reply.Sent (length (answers_to x p.frame)))) none))
      (ap (λ (m : NodeOutcome). m.0) hears_is ∙ sym made)

  pub parcelled : All CanBeSpelled (answers_to x p.frame) → WereSent start seen (suc (length (runs start (before_last seen)).sent)) frames
  parcelled range =
      let before : before_last seen ≡ c.log = ap (λ l. before_last l) c.after ∙ last_off c.log (Arrival id f.number) in
      let sent : (runs start seen).sent ≡ w.sent ++ answers_to x p.frame = ap (λ (u : WorldValue). u.sent) (world_after start (told v (front f)) (Arrival id f.number) stamp x seen c at) ∙ ap (λ (m : NodeOutcome). w.sent ++ m.1) hears_is in
      subst (λ l. WereSent start seen (suc (length (runs start l).sent)) frames) (sym before) (all_stand law start c.log seen (answers_to x p.frame) frames sent are range)

  pub frame_recorded : (source index : ℕ) → k ≡ true → HasNumber start f.seen source index f.number → WasRecorded start seen (recorded_of stamp (length frames) source (Arrival id index))
  frame_recorded source index counted number =
      recorded counted start (told v (front f)) (Arrival id f.number) stamp x seen c at (length frames) source (Arrival id index)
      (ap (λ (m : NodeOutcome). length m.1) hears_is ∙ sym (ap length are ∙ length-map (answers_to x p.frame) (spelling Two)))
      (f.number, number_on start f.seen c.log c.also source index f.number number, refl)

-- the last token is sent again, if there is one
token_again : (r : NodeState) (o : Option Token) (bytes : List ℕ) → Some bytes ≡ option_map (λ t. spelling Two (frame.Token t)) o → IfSome o (λ t. CanBeSpelled (frame.Token t)) → (bytes ∷ [] ≡ spelled (send_again r o).1) × All CanBeSpelled (send_again r o).1
token_again r None bytes is range = absurd (none-some bytes (sym is))
token_again r (Some t) bytes is range = (ap (λ b. b ∷ []) (same_Some bytes (spelling Two (frame.Token t)) is), All-from_recursion CanBeSpelled (frame.Token t ∷ []) (range, tt))

pub one_token : (r : NodeState) (o : Option Token) (bytes : List ℕ) → Some bytes ≡ option_map (λ t. spelling Two (frame.Token t)) o → length (send_again r o).1 ≡ 1
one_token r None bytes is = absurd (none-some bytes (sym is))
one_token r (Some t) bytes is = refl

pub no_token : (r : NodeState) (o : Option Token) → None ≡ option_map (λ t. spelling Two (frame.Token t)) o → length (send_again r o).1 ≡ 0
no_token r None is = refl
no_token r (Some t) is = absurd (none-some (spelling Two (frame.Token t)) is)

pub token_count : (r : NodeState) (o : Option Token) (token : Option (List ℕ)) (sent : ℕ) → token ≡ option_map (λ t. spelling Two (frame.Token t)) o → sent ≡ how_many token → length (send_again r o).1 ≡ sent
token_count r None token sent is count = sym (count ∙ ap (λ (t : Option (List ℕ)). how_many t) is)
token_count r (Some t) token sent is count = sym (count ∙ ap (λ (t : Option (List ℕ)). how_many t) is)

pub timed : {k : Bool} → ReadAgain → (start : WorldValue) (v : View) (stamp id : ℕ) (x : NodeValue) (seen : List WorldEvent) (bytes : List ℕ) → Came k v (Timer id) stamp seen → IsAt start v.seen id x → Some bytes ≡ option_map (λ t. spelling Two (frame.Token t)) x.ring.state.last_token → IfSome x.ring.state.last_token (λ t. CanBeSpelled (frame.Token t)) → WasSent start seen (suc (length (runs start (before_last seen)).sent)) bytes
timed law start v stamp id x seen bytes c at is range =
    let tokens = (send_again x.ring.state x.ring.state.last_token).1 in
    let before : before_last seen ≡ c.log = ap (λ l. before_last l) c.after ∙ last_off c.log (Timer id) in
    let sent : (runs start seen).sent ≡ (runs start c.log).sent ++ tokens = ap (λ (u : WorldValue). u.sent) (world_after start v (Timer id) stamp x seen c at) in
    let one = token_again x.ring.state x.ring.state.last_token bytes is range in
    let first = all_stand law start c.log seen tokens (bytes ∷ []) sent one.0 one.1 0 bytes refl in
    let number : suc (length (runs start c.log).sent) + 0 ≡ suc (length (runs start (before_last seen)).sent) = zero_right (suc (length (runs start c.log).sent)) ∙ ap (λ l. suc (length (runs start l).sent)) (sym before) in
    subst (λ k. WasSent start seen k bytes) number first
  where
    zero_right : (k : ℕ) → k + 0 ≡ k
    zero_right k = omega arith

pub timer_called : {k : Bool} (start : WorldValue) (pen after : View) (m : MemberValue) (e : WorldEvent) (stamp id : ℕ) (s t : StationValue) (spare : Bool) (old new : TraceValue) (sent : ℕ) → member id s spare pen.seen old ≡ m → e ≡ Timer m.id → IsAt start pen.seen id s.node → Came k pen e stamp after.seen → t ≡ s → length (send_again s.node.ring.state s.node.ring.state.last_token).1 ≡ sent → Replied start m (Timer m.id) (Ok (reply.Sent sent)) (member id t spare after.seen new)
timer_called start pen after m e stamp id s t spare old new sent is event_is at came same count =
    called start pen after m (λ n. Timer n) e stamp id s t spare old new (Ok (reply.Sent sent)) is event_is refl at came (λ frames. ap (λ n. Ok (reply.Sent n)) (sym count)) (λ frames. sym (ap (λ (u : StationValue). u.node) same))
