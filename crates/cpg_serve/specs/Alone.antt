-- A ring of one node that hears nothing but its own token, and the calls that verdicts answer, over one ring after
-- another.
use Rattle.std.specs.Prelude.{◌≡◌, ◌≢◌, ℕ, List, [], ◌∷◌, ◌++◌, length}
use Rattle.std.specs.List.{AllByRecursion}
use Rattle.cpg_cred.specs.Listed.{Listed}
use Rattle.cpg_cred.specs.declared.credentials.Cred.{Cred}
use Rattle.cpg_cred.specs.declared.refusals.Refusal.{Refusal}
use Rattle.cpg_cred.specs.declared.refusals.Refusal.TheVariants.{BadName, NoConnection}
use Rattle.cpg_entry.specs.declared.entries.Entry.{Entry}
use Rattle.cpg_entry.specs.declared.frames.Token.{Token}
use Rattle.cpg_record.specs.Membership.{memberships}
use Rattle.cpg_ring.specs.declared.settings.Settings.{Settings}
use Rattle.cpg_node.specs.Nodes.{NodeValue, new_value, records_of}
use Rattle.cpg_ask.specs.Asks.{Ask}
use Rattle.cpg_serve.specs.Serving.{ServedValue, alone}
use Rattle.cpg_serve.specs.Stories.{Before, nothing_before}
use Rattle.cpg_serve.specs.Runs.{Arrives}
use Rattle.cpg_serve.specs.Settling.{IsFrameless, IsLone, IsStill}
use Rattle.cpg_serve.specs.Carrying.{AreItsOwn, tables_in}
use Rattle.cpg_serve.specs.Refusals.{HasName, IsHeld, IsNamed}
use Rattle.cpg_serve.specs.Meeting.{AnswerCalls}
use Rattle.cpg_serve.specs.Rings.{Step, Does, Life, IsKeptOver, IsToldOver, before_next, next_comer, renewals}

-- Its own connections made all its entries.
pub record IsAlone (x : ServedValue) : Type 0 where
  pub token : Token
  pub placed : List Entry
  pub lone : IsLone x.node.ring token placed
  pub own : AreItsOwn x.node (placed ++ x.node.ring.state.waiting)

-- no frame is heard but what the ring sends itself
abbrev pub HearsItself : Step → Type 0
HearsItself (Does did) = IsFrameless did
HearsItself _ = Unit {0}

-- The client was told so, and in all rings together the k-th verdict that it was told answers its k-th call.
abbrev pub IsAnsweredOver : Before → ℕ → List Ask → List ℕ → List Step → ServedValue → Type 0
IsAnsweredOver before conn asks written steps y = (t : IsToldOver before conn asks written steps y)
    × AnswerCalls ((before_next before (renewals steps) t.1).notes ++ t.4.story.notes) (asks ++ t.0)

-- Each member is the process of an open connection, and each group has a name: so the next ring can take all over.
pub record AreThere (x : NodeValue) : Type 0 where
  pub members : AllByRecursion (IsHeld x) (memberships (records_of x))
  pub names : AllByRecursion HasName (memberships (records_of x))
  pub tables : AllByRecursion IsNamed (tables_in (records_of x))

-- neither a member without its connection nor a group without a name is the cause
abbrev pub LacksNone : Refusal → Type 0
LacksNone why = (why ≢ NoConnection) × (why ≢ BadName)

-- So it is of each client that comes, over any life of such rings, of which the first begins without clients. They stay
-- such rings, and at rest the next one can take all over.
pub record LoneRingsAnswer : Type 0 where
  pub begins : (s : Settings) (list : Listed) → s.nodes ≡ 1 → IsAlone (alone (new_value s 1 list))
  pub stays : (x y : ServedValue) (steps : List Step) → IsAlone x → AllByRecursion HearsItself steps → Life x steps y → IsAlone y
  pub answers : (x y : ServedValue) (steps : List Step) → length x.desks ≡ length x.node.clients → IsAlone x → AllByRecursion HearsItself steps → Life x steps y
      → (first after : List Step) (pid : ℕ) (cred : Cred) → steps ≡ first ++ Does (Arrives pid cred) ∷ after
      → IsKeptOver (next_comer x first) after → IsAnsweredOver nothing_before (next_comer x first) [] [] after y
  pub rest : (x : ServedValue) → IsAlone x → IsStill x.node → AreThere x.node
