-- What a new world is made of.
use Rattle.std.proofs.Common.{◌≡◌, ℕ, suc, ◌+◌, List, [], ◌∷◌, ◌++◌, map, refl, sym, ap, ◌∙◌, arith}
use Rattle.std.proofs.lemmas.List.{map-append}
use Rattle.std.proofs.lemmas.List.Elements.{All-from_recursion}
use Rattle.cpg_cred.specs.Listed.{Listed}
use Rattle.cpg_entry.specs.declared.frames.Frame.TheVariants as frame
use Rattle.cpg_ring.specs.States.{Frame, IsSettings}
use Rattle.cpg_ring.specs.declared.settings.Settings.{Settings}
use Rattle.cpg_ring.specs.Moves.{first_token}
use Rattle.cpg_ring.specs.Visits.{up_to}
use Rattle.cpg_node.specs.Nodes.{NodeValue, new_value}
use Rattle.cpg_node.specs.Answers.{spelled, CanBeSpelled}
use Rattle.cpg_world_laws.specs.Worlds.{WorldValue, new_world}
use Rattle.cpg_world.specs.Kept.{frames_of, AreSpelled, IsWorldKept}
use Rattle.cpg_world.proofs.Sending.{ReadAgain, Sent, sends}

pub nodes_more : (s : Settings) (list : Listed) (k : ℕ) (nodes later : List NodeValue) (x : NodeValue) → nodes ≡ map (λ n. new_value s n list) (up_to k) → x ≡ new_value s (k + 1) list → later ≡ nodes ++ x ∷ [] → later ≡ map (λ n. new_value s n list) (up_to (k + 1))
nodes_more s list k nodes later x are is more =
    more
    ∙ (ap (λ l. l ++ x ∷ []) are
    ∙ (ap (λ y. map (λ n. new_value s n list) (up_to k) ++ y ∷ []) (is ∙ ap (λ n. new_value s n list) next)
    ∙ (sym (map-append (λ n. new_value s n list) (up_to k) (suc k ∷ [])) ∙ ap (λ n. map (λ n. new_value s n list) (up_to n)) (sym next))))
  where
    next : k + 1 ≡ suc k
    next = omega arith

-- the fields of a new world
abbrev pub fields : Settings → Listed → List NodeValue → List (List ℕ) → WorldValue
fields s list nodes sent = record { settings = s; list = list; nodes = nodes; sent = frames_of sent }

pub record Begun (s : Settings) (list : Listed) (nodes : List NodeValue) (sent : List (List ℕ)) : Type 0 where
  pub kept : IsWorldKept (fields s list nodes sent) sent
  pub is : fields s list nodes sent ≡ new_world s list

pub begun : ReadAgain → (s : Settings) (list : Listed) (nodes : List NodeValue) (sent : List (List ℕ)) → IsSettings s → nodes ≡ map (λ n. new_value s n list) (up_to s.nodes) → sent ≡ spelled (frame.Token (first_token s) ∷ []) → CanBeSpelled (frame.Token (first_token s)) → Begun s list nodes sent
begun law s list nodes sent settings are is range = record {
  kept = record { settings = settings; reached = ([], sym same); spelled = first.spelled };
  is = same;
}
  where
    none : AreSpelled []
    none = record { spelled = refl; range = All-from_recursion CanBeSpelled [] tt }

    first : Sent [] sent (frame.Token (first_token s) ∷ [])
    first = sends law [] sent (frame.Token (first_token s) ∷ []) none (All-from_recursion CanBeSpelled (frame.Token (first_token s) ∷ []) (range, tt)) is

    same : fields s list nodes sent ≡ new_world s list
    same = ap (λ l. fields s list l sent) are ∙ ap (λ (frames : List Frame). let world : WorldValue = record { settings = s; list = list; nodes = map (λ n. new_value s n list) (up_to s.nodes); sent = frames } in world) first.frames
