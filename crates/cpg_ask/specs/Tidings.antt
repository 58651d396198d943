-- What a client reads of what it is told: lists are still bytes, with how many items they hold.
use Rattle.std.specs.Prelude.{ℕ, List, ◌++◌, length, replicate}
use Rattle.std.specs.List.{flat_map}
use Rattle.cpg_entry.specs.declared.messages.TheConstants.{MOST_MESSAGE_BYTES}
use Rattle.cpg_ask.specs.declared.codes.AskCode.{AskCode}
use Rattle.cpg_ask.specs.declared.statuses.Status.{Status}
use Rattle.cpg_ask.specs.Tells as tells
use Rattle.cpg_ask.specs.declared.tidings.Told.{Told}
use Rattle.cpg_ask.specs.declared.tidings.Told.TheVariants as views

-- the answer to an ask; to Hello, with node, nodes, the longest message and the ring; to Members and to Groups, with a
-- count and bytes; that a message was denied, by which verdict and rule; a message of the group; a change of it, with
-- three counts and bytes
pub data Tiding : Type 0 where
  Answer : AskCode → ℕ → Status → Tiding
  Greeting : ℕ → Status → ℕ → ℕ → ℕ → ℕ → Tiding
  Members : ℕ → Status → ℕ → List ℕ → Tiding
  Groups : ℕ → Status → ℕ → List ℕ → Tiding
  Denied : Status → ℕ → ℕ → Tiding
  Message : ℕ → ℕ → List ℕ → List ℕ → Tiding
  Change : List ℕ → ℕ → ℕ → ℕ → List ℕ → Tiding

-- what fills a tell up
abbrev pub filling : tells.Tell → List ℕ
filling tell = replicate (tells.gap (length (tells.tell_content tell))) 0

-- what a client reads of a tell
abbrev pub tiding_of : tells.Tell → Tiding
tiding_of (tells.Answer code tag status) = Answer code tag status
tiding_of (tells.Greets tag status g) = Greeting tag status g.node g.nodes MOST_MESSAGE_BYTES g.ring
tiding_of (tells.Listed tag status members) = Members tag status (length members) (tells.pairs_bytes members ++ filling (tells.Listed tag status members))
tiding_of (tells.Named tag status listings) = Groups tag status (length listings) (flat_map tells.listing_bytes listings ++ filling (tells.Named tag status listings))
tiding_of (tells.Denied status d) = Denied status d.verdict d.rule
tiding_of (tells.Message node pid group message) = Message node pid group message
tiding_of (tells.Change group members left joined) = Change group (length members) (length left) (length joined) (tells.all_bytes members left joined)

-- what is seen to be told
abbrev pub told_seen : Told → Tiding
told_seen (views.Answer code tag status) = Answer code tag status
told_seen (views.Greeting tag status node nodes most ring) = Greeting tag status node nodes most ring
told_seen (views.Members tag status count pairs) = Members tag status count pairs.now
told_seen (views.Groups tag status count groups) = Groups tag status count groups.now
told_seen (views.Denied status verdict rule) = Denied status verdict rule
told_seen (views.Message node pid group message) = Message node pid group.now message.now
told_seen (views.Change group members left joined processes) = Change group.now members left joined processes.now
