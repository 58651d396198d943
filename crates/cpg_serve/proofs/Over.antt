-- Each client goes over to the next ring, with its desk.
use Rattle.std.proofs.Common.{◌≡◌, ◌+◌, ℕ, zero, suc, Bool, true, false, not, List, [], ◌∷◌, ◌++◌, map, Option, Some, None, option_map, option_to_list, refl, sym, ap, ◌∙◌, arith, if◌then◌else◌}
use Rattle.std.specs.List.{slice_get}
use Rattle.std.proofs.lemmas.Option.{none-some, slice_get-map}
use Rattle.cpg_record.specs.declared.events.Event.{Event}
use Rattle.cpg_ring.specs.Worlds.{item}
use Rattle.cpg_node.specs.declared.connections.Client.{Client}
use Rattle.cpg_node.specs.Nodes.{if_open, open_client}
use Rattle.cpg_serve.specs.Telling.{DeskValue, new_desk}
use Rattle.cpg_serve.specs.Coming.{rest_of}
use Rattle.cpg_serve.specs.Carrying.{EachGoesOver, anew, greeted, kept_desks, living, number_at, number_in, numbered, own_client}
use Rattle.cpg_serve.proofs.Coming.{open_is}
use Rattle.cpg_serve.proofs.Moved.{kept_first}
use Rattle.cpg_serve.proofs.Owned.{open_anew}

-- the place at which a client and its desk are among those that go over
record AtPlace (numbers : List ℕ) (alive : List Client) (kept : List DeskValue) (n i : ℕ) (c : Client) (d : DeskValue) : Type 0 where
  pub place : ℕ
  pub number : number_in (slice_get numbers i) ≡ n + suc place
  pub client : slice_get alive place ≡ Some c
  pub desk : slice_get kept place ≡ Some d

at_place : (n : ℕ) (cs : List Client) (ds : List DeskValue) (i : ℕ) (c : Client) (d : DeskValue) → if_open (slice_get cs i) ≡ Some c → slice_get ds i ≡ Some d → AtPlace (numbered n cs) (living cs) (kept_desks (numbered n cs) ds) n i c d
at_place n [] ds i c d e f = absurd (none-some c e)
at_place n (k ∷ cs) [] i c d e f = absurd (none-some d f)
at_place n (k ∷ cs) (d0 ∷ ds) zero c d e f = by_end k.ended e
  where
    by_end : (b : Bool) → (if b then None else Some k) ≡ Some c
        → AtPlace (if b then 0 ∷ numbered n cs else suc n ∷ numbered (suc n) cs) (if not b then k ∷ living cs else living cs) (kept_desks (if b then 0 ∷ numbered n cs else suc n ∷ numbered (suc n) cs) (d0 ∷ ds)) n zero c d
    by_end true e = absurd (none-some c e)
    by_end false e = record { place = 0; number = omega arith; client = e; desk = ap (λ (l : List DeskValue). slice_get l 0) (kept_first n (numbered (suc n) cs) d0 ds) ∙ f }
at_place n (k ∷ cs) (d0 ∷ ds) (suc i) c d e f = by_end k.ended (at_place n cs ds i c d e f) (at_place (suc n) cs ds i c d e f)
  where
    by_end : (b : Bool) → AtPlace (numbered n cs) (living cs) (kept_desks (numbered n cs) ds) n i c d → AtPlace (numbered (suc n) cs) (living cs) (kept_desks (numbered (suc n) cs) ds) (suc n) i c d
        → AtPlace (if b then 0 ∷ numbered n cs else suc n ∷ numbered (suc n) cs) (if not b then k ∷ living cs else living cs) (kept_desks (if b then 0 ∷ numbered n cs else suc n ∷ numbered (suc n) cs) (d0 ∷ ds)) n (suc i) c d
    by_end true h l = record { place = h.place; number = h.number; client = h.client; desk = h.desk }
    by_end false h l = record { place = suc l.place; number = omega (arith, l.number); client = l.client; desk = ap (λ (ks : List DeskValue). slice_get ks (suc l.place)) (kept_first n (numbered (suc n) cs) d0 ds) ∙ l.desk }

nothing_taken : (o : Option Event) (rest : List Event) → option_to_list o ++ rest ≡ [] → o ≡ None
nothing_taken None rest e = refl
nothing_taken (Some event) rest e = absurd cc

pub each_goes_over : EachGoesOver
each_goes_over s list numbers x y zero c d h told opened there = absurd (none-some c opened)
each_goes_over s list numbers x y (suc i) c d h told opened there =
    let at = at_place 1 x.node.clients x.desks i c d opened there in
    let alive : c.ended ≡ false = (open_is (slice_get x.node.clients i) c opened).1 in
    let number : number_at numbers (suc i) ≡ suc (suc at.place) = ap (λ (l : List ℕ). number_in (slice_get l i)) h.node.renumbers ∙ at.number ∙ omega arith in
    let client : option_map anew (slice_get y.node.clients (suc at.place)) ≡ Some (anew c) =
    sym (slice_get-map anew y.node.clients (suc at.place)) ∙ ap (λ (l : List Client). slice_get l (suc at.place)) h.node.clients ∙ slice_get-map anew (living x.node.clients) at.place ∙ ap (option_map anew) at.client in
    let desk : slice_get y.desks (suc at.place) ≡ Some (greeted y.greeting d) =
    ap (λ (l : List DeskValue). slice_get l (suc at.place)) h.desks ∙ ap (λ (l : List ℕ). slice_get (map (greeted y.greeting) (kept_desks l x.desks)) at.place) h.node.renumbers
    ∙ slice_get-map (greeted y.greeting) (kept_desks (numbered 1 x.node.clients) x.desks) at.place ∙ ap (option_map (greeted y.greeting)) at.desk in
    record {
      client = ap (λ n. option_map anew (open_client y.node n)) number ∙ open_anew (slice_get y.node.clients (suc at.place)) c alive client;
      desk = ap (item y.desks) number ∙ desk;
      told = ap (λ (o : Option Event). option_to_list o ++ rest_of y.node (number_at numbers (suc i)) (open_client y.node (number_at numbers (suc i)))) (nothing_taken d.next (rest_of x.node (suc i) (open_client x.node (suc i))) (told d there))
          ∙ h.node.given (number_at numbers (suc i));
    }
