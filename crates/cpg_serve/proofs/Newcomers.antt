-- The story of a client that comes in a run.
use Rattle.std.proofs.Common.{◌≡◌, ◌+◌, ℕ, suc, false, List, [], ◌∷◌, ◌++◌, length, Option, Some, None, Result, sym, ap, subst, length-append, arith}
use Rattle.cpg_cred.specs.declared.credentials.Cred.{Cred}
use Rattle.cpg_cred.specs.declared.refusals.Refusal.{Refusal}
use Rattle.cpg_ring.proofs.Lists.{length-with_item}
use Rattle.cpg_node.specs.declared.connections.Client.{Client}
use Rattle.cpg_node.specs.Nodes.{open_client}
use Rattle.cpg_serve.specs.Telling.{DeskValue, new_desk, wrote}
use Rattle.cpg_serve.specs.Asking.{At, at_of}
use Rattle.cpg_serve.specs.Serving.{ServedValue, arrived, IsCaughtUp}
use Rattle.cpg_serve.specs.Stories.{StoryAt, nothing_before}
use Rattle.cpg_serve.specs.Runs.{Did, Arrives, Hears, Frames, Delivers, Tells, Writes, Loses, Nothing, Run, Goes, arrives, arrivals, newcomer, AllThatNewcomersAreTold}
use Rattle.cpg_serve.proofs.Coming.{goes_count}
use Rattle.cpg_serve.proofs.OneByOne.{all_leave, ended_count}
use Rattle.cpg_serve.proofs.Running.{begins, over_run}

-- as many desks and connections more as clients came
pub record Grows (n : ℕ) (x y : ServedValue) : Type 0 where
  pub desks : length y.desks ≡ length x.desks + n
  pub clients : length y.node.clients ≡ length x.node.clients + n

told_grows : (by : ℕ) (x y : ServedValue) (result : Result Unit Refusal) (o : Option DeskValue) → IsCaughtUp by x o result y → Grows 0 x y
told_grows by x y result None g = subst (Grows 0 x) (sym g.1) (record { desks = omega arith; clients = omega arith })
told_grows by x y result (Some old) g = record { desks = omega (arith, ap (λ (l : List DeskValue). length l) g.others, length-with_item x.desks by g.new); clients = omega (arith, goes_count g.goes) }

pub grows : (x y : ServedValue) (did : Did) → Goes x did y → Grows (arrives did) x y
grows x y (Arrives pid cred) g = subst (Grows 1 x) (sym g) (record {
  desks = length-append x.desks (new_desk x.greeting ∷ []);
  clients = length-append x.node.clients (record { pid = pid; cred = cred; ended = false; taken = 0 } ∷ []);
})
grows x y (Hears by bytes count stop) g = record {
  desks = omega (arith, ap (λ (l : List DeskValue). length l) g.others, length-with_item x.desks by g.new);
  clients = omega (arith, ap (λ (t : At). length t.node.clients) g.did.so.done, ap (λ (l : List Client). length l) (all_leave by (at_of x.node g.old) g.did.so.turns).clients);
}
grows x y Frames g = record { desks = omega (arith, ap (λ (l : List DeskValue). length l) g.desks); clients = omega (arith, ap (λ (l : List Client). length l) g.clients) }
grows x y Delivers g = subst (Grows 0 x) (sym g) (record { desks = omega arith; clients = omega arith })
grows x y (Tells by) g = told_grows by x y g.0 _ g.1
grows x y (Writes by bytes) g = subst (Grows 0 x) (sym g.after) (record { desks = omega (arith, length-with_item x.desks by (wrote g.old (length bytes))); clients = omega arith })
grows x y (Loses by) g = subst (Grows 0 x) (sym g) (record { desks = omega (arith, length-with_item x.desks by (new_desk x.greeting)); clients = omega (arith, ended_count x.node by (open_client x.node by)) })
grows x y Nothing g = subst (Grows 0 x) (sym g) (record { desks = omega arith; clients = omega arith })

-- the run is cut where the client comes
comes : (x y : ServedValue) (before after : List Did) (pid : ℕ) (cred : Cred) → Run x (before ++ Arrives pid cred ∷ after) y
    → (z : ServedValue) × Grows (arrivals before) x z × Run (arrived z pid cred) after y
comes x y [] after pid cred run = (x, record { desks = omega arith; clients = omega arith }, subst (λ (w : ServedValue). Run w after y) run.1 run.2)
comes x y (did ∷ before) after pid cred run =
    let first : Grows (arrives did) x run.0 = grows x run.0 did run.1 in
    let later = comes run.0 y before after pid cred run.2 in
    (later.0, record { desks = omega (arith, first.desks, later.1.desks); clients = omega (arith, first.clients, later.1.clients) }, later.2)

pub newcomers_told : AllThatNewcomersAreTold
newcomers_told x y dids as_many run = λ before after pid cred e kept.
    let c = comes x y before after pid cred (subst (λ (l : List Did). Run x l y) e run) in
    let z : ServedValue = c.0 in
    let same : suc (length z.desks) ≡ newcomer x before = omega (arith, c.1.desks) in
    let many : length z.desks ≡ length z.node.clients = omega (arith, as_many, c.1.desks, c.1.clients) in
    let first : StoryAt nothing_before (newcomer x before) [] [] (arrived z pid cred) = subst (λ (n : ℕ). StoryAt nothing_before n [] [] (arrived z pid cred)) same (begins pid cred z many) in
    over_run (arrived z pid cred) y after c.2 nothing_before (newcomer x before) [] [] kept first
