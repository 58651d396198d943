-- What a take and a listing are answered.
use Rattle.std.proofs.Common.{◌≡◌, ◌≢◌, ◌↔◌, Bool, true, false, ℕ, zero, suc, List, [], ◌∷◌, take, Option, Some, None, Result, Ok, Err, Contains, refl, sym, ap, ◌∙◌, subst, slice_get, if◌then◌else◌}
use Rattle.std.proofs.lemmas.Option.{none-some}
use Rattle.cpg_cred.specs.declared.bases.By.{By}
use Rattle.cpg_cred.specs.declared.refusals.Refusal.TheVariants.{NoConnection, Denied}
use Rattle.cpg_record.specs.declared.events.Event.{Event}
use Rattle.cpg_record.specs.Reasons.{DeniedListingsNameTheirRule}
use Rattle.cpg_record.specs.Showing.{ShowsMembers, ListingsShowMembers, GroupsWithMembersAreNamed}
use Rattle.cpg_ring.specs.Worlds.{item}
use Rattle.cpg_node.specs.declared.connections.Client.{Client}
use Rattle.cpg_node.specs.Nodes.{NodeValue, records_of, inbox_of, asker_by, open_client, if_open}
use Rattle.cpg_node.specs.Calls.{next_event, list_for}
use Rattle.cpg_world_laws.specs.declared.events.WorldEvent.{WorldEvent}
use Rattle.cpg_world_laws.specs.declared.events.WorldEvent.TheVariants.{Take, List as Listing, Groups}
use Rattle.cpg_world_laws.specs.declared.replies.Reply.TheVariants as reply
use Rattle.cpg_world_laws.specs.Worlds.{WorldValue}
use Rattle.cpg_world_laws.specs.Replies.{Answer, take_answer, listing_answer, list_answer, IsGroupsReply, IsAnswerOf, IsReply}
use Rattle.cpg_world_laws.specs.Claims.{AtNode, Lists, IsList, ShowsMembersTo, NamesGroupsTo, WhereOpen, ListsExactly, taken_in, had, inbox_at, EndsExactly}
use Rattle.cpg_world_laws.proofs.Projecting.{Numbered}

-- nothing is at a place past the end, and then all is taken
all_taken : {X : Type 0} (xs : List X) (i : ℕ) → slice_get xs i ≡ None → take i xs ≡ xs
all_taken [] zero h = refl
all_taken [] (suc i) h = refl
all_taken (x ∷ xs) zero h = absurd (none-some x (sym h))
all_taken (x ∷ xs) (suc i) h = ap (λ l. x ∷ l) (all_taken xs i h)

abbrev tail_of : {X : Type 0} → List X → List X
tail_of [] = []
tail_of (x ∷ xs) = xs

no_more : {X : Type 0} (xs : List X) (i : ℕ) → take i xs ≡ xs → slice_get xs i ≡ None
no_more [] zero h = refl
no_more [] (suc i) h = refl
no_more (x ∷ xs) zero h = absurd cc
no_more (x ∷ xs) (suc i) h = no_more xs i (ap tail_of h)

took_none : (event : Option Event) → ◌≡◌ {A = Answer} (Ok (reply.Took event)) (Ok (reply.Took None)) → event ≡ None
took_none event h = cc

-- the open connection is the one that took so many events
as_taken : (o : Option Client) (c : Client) → if_open o ≡ Some c → taken_in o ≡ c.taken
as_taken None c h = absurd cc
as_taken (Some d) c h = by_flag d.ended refl h
  where
    by_flag : (b : Bool) → d.ended ≡ b → (if b then None else Some d) ≡ Some c → d.taken ≡ c.taken
    by_flag true is h = absurd cc
    by_flag false is h = cc

pub ends_exactly : (w : WorldValue) (e : WorldEvent) (a : Answer) → Numbered w → IsReply w e a → EndsExactly w e a
ends_exactly w (Take n conn) a numbered answered = λ is_open. by_node is_open (item w.nodes n) answered
  where
    by_client : a ≢ Err NoConnection → (x : NodeValue) (o : Option Client) → open_client x conn ≡ o → a ≡ take_answer x conn o → (a ≡ Ok (reply.Took None)) ↔ (had (Some x) conn ≡ inbox_of x conn)
    by_client is_open x None is answer = absurd (is_open answer)
    by_client is_open x (Some c) is answer =
        let t : taken_in (item x.clients conn) ≡ c.taken = as_taken (item x.clients conn) c is in (
          λ h. ap (λ k. take k (inbox_of x conn)) t ∙ all_taken (inbox_of x conn) c.taken (took_none (next_event x conn c) (sym answer ∙ h)),
          λ h. answer ∙ ap (λ event. Ok (reply.Took event)) (no_more (inbox_of x conn) c.taken (sym (ap (λ k. take k (inbox_of x conn)) t) ∙ h)),
        )

    by_node : a ≢ Err NoConnection → (o : Option NodeValue) → IsAnswerOf w.sent (Take n conn) o a → (a ≡ Ok (reply.Took None)) ↔ (had o conn ≡ inbox_at o conn)
    by_node is_open None answer = absurd answer
    by_node is_open (Some x) answer = by_client is_open x (open_client x conn) refl answer
ends_exactly w _ a numbered answered = tt

denied_by : (r : Result (List (ℕ × ℕ)) By) (basis : By) → listing_answer r ≡ Err (Denied basis) → r ≡ Err basis
denied_by (Ok list) basis h = absurd cc
denied_by (Err other) basis h = cc

-- ---- listings

-- what the layers below say of listings
pub record Listings : Type 0 where
  pub shown : ListingsShowMembers
  pub denied : DeniedListingsNameTheirRule
  pub named : GroupsWithMembersAreNamed

is_list : (r : Result (List (ℕ × ℕ)) By) → IsList (listing_answer r) → (list : List (ℕ × ℕ)) × (r ≡ Ok list)
is_list (Ok list) is = (list, refl)
is_list (Err by) is = absurd is

lists : (r : Result (List (ℕ × ℕ)) By) (node pid : ℕ) → Lists (listing_answer r) node pid → (list : List (ℕ × ℕ)) × (r ≡ Ok list) × Contains list (node, pid)
lists (Ok list) node pid has = (list, refl, has)
lists (Err by) node pid has = absurd has

shows_to : Listings → (x : NodeValue) (g : List ℕ) (a : Answer) (c : Client) → a ≡ list_answer x g (Some c) → ShowsMembersTo x g a c
shows_to laws x g a c answer = subst (λ (b : Answer). ShowsMembersTo x g b c) (sym answer) (record {
  shown = (
    (λ is. s.where_allowed.0 (is_list asked is)),
    (λ may. let allowed = s.where_allowed.1 may in subst (λ (r : Result (List (ℕ × ℕ)) By). IsList (listing_answer r)) (sym allowed.1) tt),
  );
  listed = λ node pid. (
    (λ has. let l = lists asked node pid has in ((s.exactly l.0 l.1 node pid).0 l.2, s.where_allowed.0 (l.0, l.1))),
    (λ (has, may).
        let allowed = s.where_allowed.1 may in
        subst (λ (r : Result (List (ℕ × ℕ)) By). Lists (listing_answer r) node pid) (sym allowed.1) ((s.exactly allowed.0 allowed.1 node pid).1 has)),
  );
  denied = λ basis. (
    (λ is. (laws.denied (records_of x) (asker_by x c) g basis).0 (denied_by asked basis is)),
    (λ says. ap listing_answer ((laws.denied (records_of x) (asker_by x c) g basis).1 says)),
  );
})
  where
    asked : Result (List (ℕ × ℕ)) By
    asked = list_for x c g

    s : ShowsMembers (records_of x) (asker_by x c) g
    s = laws.shown (records_of x) (asker_by x c) g

names_to : Listings → (x : NodeValue) (c : Client) (a : Answer) → IsGroupsReply x (Some c) a → NamesGroupsTo x a c
names_to laws x c (Ok (reply.Groups names)) are = record {
  ascending = are.ascending;
  named = λ g. (
    (λ has. (laws.named (records_of x) (asker_by x c) g).0 ((are.exactly g).0 has)),
    (λ both. (are.exactly g).1 ((laws.named (records_of x) (asker_by x c) g).1 both)),
  );
}
names_to laws x c (Ok (reply.Connected conn)) are = absurd are
names_to laws x c (Ok reply.Admitted) are = absurd are
names_to laws x c (Ok reply.Closed) are = absurd are
names_to laws x c (Ok (reply.Sent count)) are = absurd are
names_to laws x c (Ok (reply.Delivered place)) are = absurd are
names_to laws x c (Ok (reply.Took event)) are = absurd are
names_to laws x c (Ok (reply.Members list)) are = absurd are
names_to laws x c (Err why) are = absurd are

pub lists_exactly : Listings → (w : WorldValue) (e : WorldEvent) (a : Answer) → Numbered w → IsReply w e a → ListsExactly w e a
lists_exactly laws w (Listing n conn g) a numbered answered = by_node (item w.nodes n) answered
  where
    by_client : (x : NodeValue) (o : Option Client) → a ≡ list_answer x g o → WhereOpen o a (ShowsMembersTo x g a)
    by_client x None answer = answer
    by_client x (Some c) answer = shows_to laws x g a c answer

    by_node : (o : Option NodeValue) → IsAnswerOf w.sent (Listing n conn g) o a → AtNode o (λ x. WhereOpen (open_client x conn) a (ShowsMembersTo x g a))
    by_node None answer = absurd answer
    by_node (Some x) answer = by_client x (open_client x conn) answer
lists_exactly laws w (Groups n conn) a numbered answered = by_node (item w.nodes n) answered
  where
    by_client : (x : NodeValue) (o : Option Client) → IsGroupsReply x o a → WhereOpen o a (NamesGroupsTo x a)
    by_client x None answer = answer
    by_client x (Some c) answer = names_to laws x c a answer

    by_node : (o : Option NodeValue) → IsAnswerOf w.sent (Groups n conn) o a → AtNode o (λ x. WhereOpen (open_client x conn) a (NamesGroupsTo x a))
    by_node None answer = absurd answer
    by_node (Some x) answer = by_client x (open_client x conn) answer
lists_exactly laws w _ a numbered answered = tt
