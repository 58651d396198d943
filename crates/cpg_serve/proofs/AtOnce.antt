-- What is answered at once.
use Rattle.std.proofs.Common.{◌≡◌, ℕ, Bool, List, [], ◌∷◌, ◌++◌, map, Option, Some, None, Result, Ok, Err, refl, sym, ap, ◌∙◌}
use Rattle.std.specs.Prelude.{option_map, OnOk, IfOk}
use Rattle.std.specs.List.{flat_map}
use Rattle.cpg_rules.specs.declared.rules.Asker.{Asker}
use Rattle.cpg_entry.specs.declared.calls.Call.{Call}
use Rattle.cpg_record.specs.declared.records.Record.{Record}
use Rattle.cpg_node.specs.declared.connections.Client.{Client}
use Rattle.cpg_node.specs.Nodes.{NodeValue, records_of, asker_by}
use Rattle.cpg_node.specs.Calls.{submit_refusal}
use Rattle.cpg_node.specs.Answers.{IsGroupsAnswer}
use Rattle.cpg_ask.specs.Asks.{Want, Hello, Join, Leave, Send, Members, Groups, Insert, Remove, Ask}
use Rattle.cpg_ask.specs.Tells.{Listing, listing_bytes}
use Rattle.cpg_serve.specs.Telling.{DeskValue}
use Rattle.cpg_serve.specs.Answering.{IsNamed}
use Rattle.cpg_serve.specs.Asking.{At, Turn, at_of, IsAt, owed_to, call_of, goes_on, called, asked_by, takes_by, IsAsked}
use Rattle.cpg_serve.proofs.Coming.{at_same}

pub on_ok : {A E P Q : Type 0} (r : Result A E) → (P → Q) → OnOk r P → OnOk r Q
on_ok (Ok x) f h = f h
on_ok (Err e) f h = h

pub if_ok : {A E : Type 0} {P Q : A → Type 0} (r : Result A E) → ((x : A) → P x → Q x) → IfOk r P → IfOk r Q
if_ok (Ok x) f h = f x h
if_ok (Err e) f h = h

-- the bytes of listings, by names
pub listed_by : (f : List ℕ → Listing) (names : List (List ℕ)) → flat_map (λ name. listing_bytes (f name)) names ≡ flat_map listing_bytes (map f names)
listed_by f [] = refl
listed_by f (name ∷ names) = ap (λ (l : List ℕ). listing_bytes (f name) ++ l) (listed_by f names)

-- the names that a node gives are those of the groups
pub named_by : (x : NodeValue) (wanted : ℕ) (o : Option Client) (names : List (List ℕ)) → IsGroupsAnswer x o (Ok names) → IsNamed (records_of x) (option_map (asker_by x) o) (Groups wanted) names
named_by x wanted None names h = absurd cc
named_by x wanted (Some c) names h = h

-- who asks for a call asks for no names
named_call : (rs : List Record) (a : Option Asker) (want : Want) (call : Call) → call_of want ≡ Some call → IsNamed rs a want []
named_call rs None (Hello version wishes) call e = refl
named_call rs None (Join name) call e = refl
named_call rs None Leave call e = refl
named_call rs None (Send message) call e = refl
named_call rs None (Members name) call e = refl
named_call rs None (Groups members) call e = absurd cc
named_call rs None (Insert rule name) call e = refl
named_call rs None (Remove id name) call e = refl
named_call rs (Some asker) (Hello version wishes) call e = refl
named_call rs (Some asker) (Join name) call e = refl
named_call rs (Some asker) Leave call e = refl
named_call rs (Some asker) (Send message) call e = refl
named_call rs (Some asker) (Members name) call e = refl
named_call rs (Some asker) (Groups members) call e = absurd cc
named_call rs (Some asker) (Insert rule name) call e = refl
named_call rs (Some asker) (Remove id name) call e = refl

pub call_asked_is : (conn : ℕ) (s : At) (ask : Ask) (call : Call) (x : NodeValue) (d : DeskValue) → call_of ask.want ≡ Some call → (done : Bool)
    → (done ≡ goes_on (submit_refusal s.node conn call)) × IsAt x d (called conn s (owed_to ask) call) → IsAsked conn s ask done (at_of x d)
call_asked_is conn s ask call x d e done h =
    let turn : Turn = record { ask = ask; names = [] } in
    ([], named_call (records_of s.node) _ ask.want call e, h.0 ∙ sym (ap (takes_by conn s) e), at_same x d (called conn s (owed_to ask) call) h.1 ∙ sym (ap (asked_by conn s turn) e))
