-- A session is heard by its own node alone, which is no spare.
use Rattle.std.proofs.Common.{◌≡◌, ◌≢◌, is_some, ℕ, [], Bool, true, false, true≢false, Option, Some, None, refl, sym, ap, ◌∙◌, option_map, ⊎_elim, inl, inr, subst, arith}
use Rattle.std.proofs.lemmas.Option.{none-some, same_Some}
use Rattle.cpg_cred.specs.Admission.{via_of}
use Rattle.cpg_cred.specs.Listed.{Listed}
use Rattle.cpg_cred.specs.declared.credentials.Cred.{Cred}
use Rattle.cpg_cred.specs.declared.refusals.Refusal.{Refusal}
use Rattle.cpg_cred.specs.declared.refusals.Refusal.TheVariants as refusal
use Rattle.cpg_node.specs.declared.connections.Client.{Client}
use Rattle.cpg_node.specs.declared.connections.Connection.{Connection}
use Rattle.cpg_node.specs.Nodes.{NodeValue, open_client, conn_id}
use Rattle.cpg_node.specs.Calls.{closed_refusal}
use Rattle.cpg_world_laws.specs.Worlds.{WorldValue}
use Rattle.cpg_station.specs.Stations.{StationValue}
use Rattle.cpg_station.specs.Serving.{HearsSession, IsKnown, StaysOrHalts, halted_of}
use Rattle.cpg_station.specs.Admitting.{AdmitsNot, StopsAdmitting, IsOther}
use Rattle.cpg_board.specs.declared.words.View.{View}
use Rattle.cpg_board.specs.Words.{Owns, Rests}
use Rattle.cpg_history.specs.Histories.{Catches, FrontValue, front, told}
use Rattle.cpg_history.specs.Members.{HasTrace, IsAt, IsMember, IsNewWorld, IsPenOf}
use Rattle.cpg_history.specs.Traces.{IsTraceOf, TraceValue, new_trace}
use Rattle.cpg_history.proofs.Noting.{trace_begins, trace_nothing, trace_rests}
use Rattle.cpg_history.proofs.Resting.{rests_same}
use Rattle.cpg_history.proofs.Agreeing.{stands_at}

pub known_number : (x : NodeValue) (who : Connection) → IsKnown x who → who.id.node ≡ x.ring.node
known_number x who known = by_client (open_client x who.id.conn) known
  where
    by_client : (o : Option Client) → option_map (λ (c : Client). record { id = conn_id x who.id.conn; pid = c.pid; cred = c.cred; taken = c.taken }) o ≡ Some who → who.id.node ≡ x.ring.node
    by_client None same = absurd (none-some who same)
    by_client (Some c) same = ap (λ (w : Connection). w.id.node) (sym (same_Some _ who same))

pub known_closes : (x : NodeValue) (who : Connection) → IsKnown x who → closed_refusal (open_client x who.id.conn) ≡ None
known_closes x who known = by_client (open_client x who.id.conn) known
  where
    by_client : (o : Option Client) → option_map (λ (c : Client). record { id = conn_id x who.id.conn; pid = c.pid; cred = c.cred; taken = c.taken }) o ≡ Some who → closed_refusal o ≡ None
    by_client None same = absurd (none-some who same)
    by_client (Some c) same = refl

pub owns_own : (pen : View) (n id : ℕ) (x : NodeValue) (start : WorldValue) → n ≡ id → IsPenOf start pen id x → Owns pen n
owns_own pen n id x start is p = let a = p.0 in let b = p.1 in (omega (arith, is, a), omega (arith, is, b))

-- what runs is no spare
pub no_spare : (start : WorldValue) (id : ℕ) (s : StationValue) (spare : Bool) (pen : View) → IsMember start id s spare pen → s.halted ≡ false → spare ≡ false
no_spare start id s spare pen m runs = by_flag spare refl
  where
    by_flag : (f : Bool) → spare ≡ f → spare ≡ false
    by_flag false p = p
    by_flag true p = absurd (true≢false (sym (m.halts p) ∙ runs))

module _ (start : WorldValue) (id : ℕ) (s : StationValue) (spare : Bool) (pen : View) (m : IsMember start id s spare pen) (who : Connection) (heard : HearsSession s who) where
  pub serves : spare ≡ false
  serves = no_spare start id s spare pen m heard.0

  pub serves_by : IsPenOf start pen id s.node
  serves_by = m.holds serves

  pub serves_own : who.id.node ≡ id
  serves_own = known_number s.node who heard.1 ∙ (stands_at start pen.seen id s.node m.begins serves_by.2).0

-- a member that is as it was, or halted
pub member_stays : (start : WorldValue) (id : ℕ) (s t : StationValue) (spare : Bool) (pen : View) → IsMember start id s spare pen → StaysOrHalts s t → IsMember start id t spare pen
member_stays start id s t spare pen m is =
    ⊎_elim (λ same. subst (λ (u : StationValue). IsMember start id u spare pen) (sym same) m)
    (λ halts. subst (λ (u : StationValue). IsMember start id u spare pen) (sym halts) (record { begins = m.begins; halts = λ _. refl; holds = m.holds }))
    is

-- a member of another node that is halted
pub other_stops : (start : WorldValue) (id : ℕ) (s : StationValue) (spare : Bool) (pen : View) → IsMember start id s spare pen → (list : Listed) (node pid : ℕ) (cred : Cred) (new : StationValue) → id ≢ node → new ≡ halted_of s → StopsAdmitting list node pid cred s new
other_stops start id s spare pen m list node pid cred new apart is = by_flag spare refl
  where
    by_flag : (f : Bool) → spare ≡ f → StopsAdmitting list node pid cred s new
    by_flag true spared = inl (m.halts spared, is ∙ ap (λ h. let t : StationValue = record { node = s.node; seat = s.seat; halted = h } in t) (sym (m.halts spared)))
    by_flag false not = inr (inr (λ same. apart (sym (stands_at start pen.seen id s.node m.begins (m.holds not).2).0 ∙ same)), inl is)

-- a member that doesn't take a process in is still one
pub refused_stays : (start : WorldValue) (id : ℕ) (s : StationValue) (spare : Bool) (pen : View) → IsMember start id s spare pen → (list : Listed) (node pid : ℕ) (cred : Cred) (why : Refusal) (new : StationValue) → list ≡ start.list → id ≡ node → AdmitsNot list node pid cred s why new → IsMember start id new spare pen
refused_stays start id s spare pen m list node pid cred why new listed own not = by_why why not
  where
    same : new ≡ s → IsMember start id new spare pen
    same is = subst (λ (u : StationValue). IsMember start id u spare pen) (sym is) m

    by_flag : (f : Bool) → spare ≡ f → IsOther list node cred s → new.halted ≡ true → IsMember start id new spare pen
    by_flag true spared other halts = record { begins = m.begins; halts = λ _. halts; holds = λ not. absurd (true≢false (sym spared ∙ not)) }
    by_flag false not other halts =
        let stands = stands_at start pen.seen id s.node m.begins (m.holds not).2 in
        ⊎_elim (λ unlike. absurd (unlike (ap (λ l. is_some (via_of l cred)) (listed ∙ sym stands.1)))) (λ apart. absurd (apart (stands.0 ∙ own))) other

    by_stop : StopsAdmitting list node pid cred s new → IsMember start id new spare pen
    by_stop stop =
        ⊎_elim (λ was. same was.1)
        (λ other. by_flag spare refl other.0 (⊎_elim (λ is. ap (λ (u : StationValue). u.halted) is) (λ is. ap (λ (u : StationValue). u.halted) is) other.1))
        stop

    by_why : (w : Refusal) → AdmitsNot list node pid cred s w new → IsMember start id new spare pen
    by_why refusal.Stopped not = by_stop not
    by_why refusal.Access not = same not.1
    by_why refusal.ConnectionsFull not = same not.2
    by_why refusal.Memory not = same not.2
    by_why w not = absurd not

-- a new trace that records was asked to
asked_for : (traced : Bool) → (new_trace traced).lost ≡ None → traced ≡ true
asked_for true records = refl
asked_for false records = absurd (none-some 0 (sym records))

-- a new member, and a spare
pub begun : (k : Bool) (start : WorldValue) (id : ℕ) (s : StationValue) (pen : View) (traced : Bool) → (traced ≡ true → k ≡ true) → IsNewWorld start → IsPenOf start pen id s.node → pen.seen ≡ [] → IsMember start id s false pen × HasTrace k start id false pen.seen (new_trace traced)
begun k start id s pen traced counted new own none = (
  record { begins = new; halts = λ yes. absurd (true≢false (sym yes)); holds = λ _. own },
  record { spared = λ yes. absurd (true≢false (sym yes)); counts = λ records. counted (asked_for traced records); follows = subst (λ l. IsTraceOf start id l (new_trace traced)) (sym none) (trace_begins start id traced) },
)

pub spared : (k : Bool) (start : WorldValue) (id : ℕ) (s : StationValue) (pen : View) → IsNewWorld start → s.halted ≡ true → IsMember start id s true pen × HasTrace k start id true pen.seen (new_trace false)
spared k start id s pen new halts = (
  record { begins = new; halts = λ _. halts; holds = λ not. absurd (true≢false not) },
  record { spared = λ _. refl; counts = λ records. absurd (none-some 0 (sym records)); follows = trace_nothing start id pen.seen },
)

-- a member that has caught up with a front
pub caught_up : {k : Bool} (start : WorldValue) (id : ℕ) (s : StationValue) (spare : Bool) (pen after : View) (f : FrontValue) (trace : TraceValue) → IsMember start id s spare pen → HasTrace k start id spare pen.seen trace → Catches (told pen (front f)) after → IsMember start id s spare after × HasTrace k start id spare after.seen trace
caught_up {k} start id s spare pen after f trace m has c = by_flag spare refl
  where
    seen : after.seen ≡ f.seen
    seen = ap (λ (v : View). v.seen) c.same

    by_flag : (flag : Bool) → spare ≡ flag → IsMember start id s spare after × HasTrace k start id spare after.seen trace
    by_flag true spares = (
      record { begins = m.begins; halts = m.halts; holds = λ not. absurd (true≢false (sym spares ∙ not)) },
      record { spared = has.spared; counts = has.counts; follows = subst (IsTraceOf start id after.seen) (sym (has.spared spares)) (trace_nothing start id after.seen) },
    )
    by_flag false not =
        let own = m.holds not in
        let rests : Rests id pen.seen f.seen = c.rests id (owns_own pen id id s.node start refl own) in
        let at : IsAt start after.seen id s.node = subst (λ l. IsAt start l id s.node) (sym seen) (rests_same start id pen.seen f.seen rests ∙ own.2) in (
          record { begins = m.begins; halts = m.halts; holds = λ _. (ap (λ (v : View). v.from) c.same ∙ own.0, ap (λ (v : View). v.to) c.same ∙ own.1, at) },
          record { spared = has.spared; counts = has.counts; follows = subst (λ l. IsTraceOf start id l trace) (sym seen) (trace_rests start id pen.seen f.seen trace rests has.follows) },
        )
