-- Why the next ring does not begin: what each part of it is refused for.
use Rattle.std.proofs.Common.{◌≡◌, ◌⊎◌, ◌<◌, ◌≤◌, ◌+◌, ◌*◌, ℕ, zero, suc, Bool, true, false, not, List, [], ◌∷◌, ◌++◌, map, length, take, get_or, min, Option, Some, None, is_some, option_map, Ok, Err, Result, IfErr, IfOk, OnErr, OnOk, refl, sym, ap, subst, ◌∙◌, inl, inr, ⊎_elim, arith, append-nil, length-append, nat_le, if◌then◌else◌, le-leb, leb-true, true≢false, eqb-true, eq-eqb, ◌==◌, ◌&&◌}
use Rattle.std.specs.List.{AllByRecursion, slice_get}
use Rattle.std.proofs.lemmas.List.{take_more}
use Rattle.std.proofs.lemmas.Bool.{cases_lt}
use Rattle.std.proofs.lemmas.Option.{none-some, same_Some}
use Rattle.std.proofs.lemmas.Result.{IfErr-weaker}
use Rattle.cpg_cred.specs.declared.credentials.Cred.{Cred}
use Rattle.cpg_cred.specs.declared.refusals.Refusal.{Refusal}
use Rattle.cpg_cred.specs.declared.refusals.Refusal.TheVariants as refusal
use Rattle.cpg_cred.specs.Admission.{via_of}
use Rattle.cpg_cred.specs.Listed.{Listed}
use Rattle.cpg_entry.specs.Names.{is_name}
use Rattle.cpg_rules.specs.declared.rules.Rule.{Rule}
use Rattle.cpg_rules.specs.Tables.{Rules}
use Rattle.cpg_rules.specs.declared.tables.TheConstants.{MOST_RULES}
use Rattle.cpg_entry.specs.declared.calls.Call.{Call}
use Rattle.cpg_entry.specs.declared.calls.Call.TheVariants.{Insert, Join}
use Rattle.cpg_entry.specs.declared.calls.Op.TheVariants.{Act, Gone}
use Rattle.cpg_entry.specs.declared.entries.Entry.{Entry}
use Rattle.cpg_entry.specs.declared.frames.Token.{Token}
use Rattle.cpg_entry.specs.declared.ranges.TheConstants.{MOST_CONNECTIONS}
use Rattle.cpg_record.specs.declared.records.Record.{Record}
use Rattle.cpg_record.specs.Membership.{Membership}
use Rattle.cpg_record.specs.RuleTables.{rules_of}
use Rattle.cpg_record.proofs.Bounded.{judged_within_bounds}
use Rattle.cpg_ring.specs.Answers.{IsAnswer}
use Rattle.cpg_ring.specs.States.{calls}
use Rattle.cpg_ring.specs.Rings.{RingNode, full_refusal}
use Rattle.cpg_ring.specs.Worlds.{item}
use Rattle.cpg_ring.specs.declared.settings.Settings.{Settings}
use Rattle.cpg_ring.specs.declared.settings.TheConstants.{MOST_WAITING}
use Rattle.cpg_node.specs.declared.connections.Client.{Client}
use Rattle.cpg_node.specs.declared.connections.Connection.{Connection}
use Rattle.cpg_node.specs.Answers.{IsTakeAnswer, connection_of}
use Rattle.cpg_node.specs.Nodes.{NodeValue, conn_id, delivered_entries, entry_by, if_open, open_client, records_of}
use Rattle.cpg_node.specs.Calls.{call_refusal, closed_refusal, connect_refusal, connected, disconnected, ended_by, first_of, name_refusal, submit_refusal, submit_refusal_by, submitted}
use Rattle.cpg_ask.proofs.Mapped.{length_mapped}
use Rattle.cpg_serve.specs.Renewing.{Root, all_inserts, bare, held_by, inserts, seat_entry}
use Rattle.cpg_serve.specs.Settling.{HasTurned, IsAlike, IsBrisk, IsLone, IsStill, WhyMoving}
use Rattle.cpg_serve.specs.Carrying.{AreLetIn, ConnectsBy, HasPut, HaveConnected, HaveJoined, IsBegun, IsLetIn, IsRoot, living, number_at, renumbered, table_of}
use Rattle.cpg_serve.specs.Refusals.{HasName, IsNamed, IsSeated, WhyNotConnected, WhyNotEntered, WhyNotJoined, WhyNotOne, WhyNotPut, WhyShort, rule_count}
use Rattle.cpg_serve.proofs.Begun.{connected_count, connection_is, entry_alike, parted_by, root_still, waits_last}
use Rattle.cpg_serve.proofs.Settled.{lone_entry}

pub on_ok_both : {T E P Q R : Type 0} (r : Result T E) → (P → Q → R) → OnOk r P → OnOk r Q → OnOk r R
on_ok_both (Ok x) f p q = f p q
on_ok_both (Err e) f p q = tt

pub err_both : {T E : Type 0} (A : Type 0) (P : E → Type 0) (r : Result T E) → OnErr r A → IfErr r P → IfErr r (λ why. A × P why)
err_both A P (Ok x) a p = tt
err_both A P (Err e) a p = (a, p)

-- ---- an entry is not placed

pub short_more : (s t : Settings) (n m : ℕ) (why : Refusal) → t ≡ s → n ≤ m → WhyShort t n why → WhyShort s m why
short_more s t n m why same few h = ⊎_elim
    (λ (e : why ≡ refusal.Memory). inl e)
    (λ (k : (why ≡ refusal.RingEnd) × (min t.places t.hops < n)).
    let l : min s.places s.hops < n = subst (λ (r : Settings). min r.places r.hops < n) same k.1 in inr (k.0, omega (arith, l, few)))
    h

-- where one entry waits behind those that were placed
one_waits : (w y : NodeValue) (es : List Entry) (t : Token) (why : Refusal) → t.hop ≤ length es → IsLone w.ring t es → length w.ring.state.waiting ≡ 1 → HasTurned w y → WhyMoving w.ring y.ring why → WhyShort w.ring.settings (suc (length es)) why
one_waits w y es t why hop lone one turned h = ⊎_elim (λ (e : why ≡ refusal.Memory). inl e) by_end h
  where
    by_end : (why ≡ refusal.RingEnd) × (0 < length y.ring.state.waiting) × ((u : Token) × (y.ring.state.last_token ≡ Some u) × ((y.ring.settings.places ≤ u.seq) ⊎ ((y.ring.settings.hops ≤ u.hop) × IsBrisk w.ring y.ring))) → WhyShort w.ring.settings (suc (length es)) why
    by_end k =
        let s = turned.lone t es lone in
        let e : s.token ≡ k.2.0 = same_Some s.token k.2.0 (sym s.is.last ∙ k.2.1) in
        let seqs : s.token.seq ≡ k.2.0.seq = ap (λ (v : Token). v.seq) e in
        let hops : s.token.hop ≡ k.2.0.hop = ap (λ (v : Token). v.hop) e in
        let whole : length s.more + length y.ring.state.waiting ≡ length es + length w.ring.state.waiting =
        sym (length-append s.more y.ring.state.waiting) ∙ ap (λ (l : List Entry). length l) s.same ∙ length-append es w.ring.state.waiting in
        let seq = s.is.seq in
        let same : y.ring.settings ≡ w.ring.settings = turned.alike.settings in
        inr (
          k.0,
          ⊎_elim
              (λ (p : y.ring.settings.places ≤ k.2.0.seq).
              let q : w.ring.settings.places ≤ k.2.0.seq = subst (λ (r : Settings). r.places ≤ k.2.0.seq) same p in
              omega (arith, q, seqs, seq, whole, one, k.1))
              (λ (p : (y.ring.settings.hops ≤ k.2.0.hop) × IsBrisk w.ring y.ring).
              let q : w.ring.settings.hops ≤ k.2.0.hop = subst (λ (r : Settings). r.hops ≤ k.2.0.hop) same p.0 in
              let turns = p.1.turns t s.token es s.more lone s.is in
              omega (arith, q, hops, turns, one, hop, k.1))
              k.2.2,
        )

-- ---- a call is not made

pub submit_why : (x : NodeValue) (conn count : ℕ) (call : Call) (P : Unit {0} → Type 0) (why : Refusal) (c : Client) → IsAnswer (submit_refusal x conn call) P (Err why) → open_client x conn ≡ Some c → IsStill x → WhyNotEntered x.ring.settings count call why
submit_why x conn count call P why c answer there still = by_why why (subst (λ (o : Option Client). IsAnswer (submit_refusal_by x call o) P (Err why)) there answer)
  where
    few : full_refusal x.ring ≡ None
    few = ap (λ (l : List Entry). if nat_le MOST_WAITING (calls l) then Some refusal.QueueFull else None) still.0

    by_call : (o : Option Refusal) (w : Refusal) → first_of o (full_refusal x.ring) ≡ Some w → o ≡ Some w
    by_call None w first = absurd (none-some w (sym few ∙ first))
    by_call (Some v) w first = first

    by_why : (w : Refusal) → IsAnswer (first_of (call_refusal call) (full_refusal x.ring)) P (Err w) → WhyNotEntered x.ring.settings count call w
    by_why refusal.Memory answer = inr (inl refl)
    by_why w answer = inl (by_call (call_refusal call) w answer)

pub enter_why : (x w y : NodeValue) (conn : ℕ) (call : Call) (es : List Entry) (c : Client) (r : Result (Unit {0}) Refusal) → w ≡ submitted x conn call → HasTurned w y → open_client x conn ≡ Some c → IsBegun x es
    → ((t : Token) (placed : List Entry) → IsLone w.ring t placed → IfErr r (λ why. WhyMoving w.ring y.ring why)) → IfErr r (λ why. WhyNotEntered x.ring.settings (length es) call why)
enter_why x w y conn call es c r is turned there b h =
    let lone : IsLone w.ring b.token es = subst (λ (z : NodeValue). IsLone z.ring b.token es) (sym is) (lone_entry x conn (Act call) (open_client x conn) b.token es b.lone) in
    let waits : w.ring.state.waiting ≡ x.ring.state.waiting ++ entry_by x conn c (Act call) ∷ [] = ap (λ (z : NodeValue). z.ring.state.waiting) is ∙ waits_last x conn (Act call) c (open_client x conn) there in
    let one : length w.ring.state.waiting ≡ 1 = ap (λ (l : List Entry). length l) (waits ∙ ap (λ l. l ++ entry_by x conn c (Act call) ∷ []) b.still.0) in
    IfErr-weaker r (λ why. WhyMoving w.ring y.ring why) (λ why. WhyNotEntered x.ring.settings (length es) call why)
    (λ why k.
    inr (short_more x.ring.settings w.ring.settings (suc (length es)) (suc (length es)) why (ap (λ (z : NodeValue). z.ring.settings) is ∙ (entry_alike x conn (Act call) (open_client x conn)).settings) (omega arith)
    (one_waits w y es b.token why b.hop lone one turned k)))
    (h b.token es lone)

pub part_why : (x w y : NodeValue) (conn : ℕ) (es : List Entry) (c : Client) (r : Result (Unit {0}) Refusal) → w ≡ disconnected x conn → HasTurned w y → open_client x conn ≡ Some c → IsBegun x es
    → ((t : Token) (placed : List Entry) → IsLone w.ring t placed → IfErr r (λ why. WhyMoving w.ring y.ring why)) → IfErr r (λ why. WhyShort x.ring.settings (suc (length es)) why)
part_why x w y conn es c r is turned there b h =
    let was : w ≡ ended_by x conn (Some c) = is ∙ parted_by x conn c there in
    let lone : IsLone w.ring b.token es = subst (λ (z : NodeValue). IsLone z.ring b.token es) (sym was) (lone_entry x conn Gone (Some c) b.token es b.lone) in
    let waits : w.ring.state.waiting ≡ x.ring.state.waiting ++ entry_by x conn c Gone ∷ [] = ap (λ (z : NodeValue). z.ring.state.waiting) was in
    let one : length w.ring.state.waiting ≡ 1 = ap (λ (l : List Entry). length l) (waits ∙ ap (λ l. l ++ entry_by x conn c Gone ∷ []) b.still.0) in
    IfErr-weaker r (λ why. WhyMoving w.ring y.ring why) (λ why. WhyShort x.ring.settings (suc (length es)) why)
    (λ why k. short_more x.ring.settings w.ring.settings (suc (length es)) (suc (length es)) why (ap (λ (z : NodeValue). z.ring.settings) was) (omega arith) (one_waits w y es b.token why b.hop lone one turned k))
    (h b.token es lone)

-- an open connection is always ended, but for memory
pub closed_why : (x : NodeValue) (conn : ℕ) (P : Unit {0} → Type 0) (why : Refusal) (c : Client) (s : Settings) (n : ℕ) → IsAnswer (closed_refusal (open_client x conn)) P (Err why) → open_client x conn ≡ Some c → WhyShort s n why
closed_why x conn P why c s n answer there = inl (by_why why (subst (λ (o : Option Client). IsAnswer (closed_refusal o) P (Err why)) there answer))
  where
    by_why : (w : Refusal) → IsAnswer None P (Err w) → w ≡ refusal.Memory
    by_why refusal.Memory answer = refl
    by_why w answer = absurd (none-some w answer)

-- ---- a client is not connected

pub connect_why : (x : NodeValue) (cred : Cred) (P : ℕ → Type 0) (why : Refusal) → IsAnswer (connect_refusal x cred) P (Err why) → (why ≡ refusal.Memory) ⊎ (connect_refusal x cred ≡ Some why)
connect_why x cred P why answer = by_why why answer
  where
    by_why : (w : Refusal) → IsAnswer (connect_refusal x cred) P (Err w) → (w ≡ refusal.Memory) ⊎ (connect_refusal x cred ≡ Some w)
    by_why refusal.Memory answer = inl refl
    by_why w answer = inr answer

pub connect_lets : (x : NodeValue) (c : Client) → connect_refusal x c.cred ≡ None → IsLetIn x.list c
connect_lets x c none = by_via (is_some (via_of x.list c.cred)) (nat_le MOST_CONNECTIONS (length x.clients)) none
  where
    by_via : (some many : Bool) → (if not some then Some refusal.Access else if many then Some refusal.ConnectionsFull else None) ≡ None → some ≡ true
    by_via true many e = refl
    by_via false many e = absurd (none-some refusal.Access (sym e))

connect_fits : (x : NodeValue) (c : Client) → connect_refusal x c.cred ≡ None → length x.clients < MOST_CONNECTIONS
connect_fits x c none = by_many (is_some (via_of x.list c.cred)) (nat_le MOST_CONNECTIONS (length x.clients)) refl none
  where
    by_many : (some many : Bool) → nat_le MOST_CONNECTIONS (length x.clients) ≡ many → (if not some then Some refusal.Access else if many then Some refusal.ConnectionsFull else None) ≡ None → length x.clients < MOST_CONNECTIONS
    by_many false many e none = absurd (none-some refusal.Access (sym none))
    by_many true true e none = absurd (none-some refusal.ConnectionsFull (sym none))
    by_many true false e none = ⊎_elim
        (λ (fits : length x.clients < MOST_CONNECTIONS). fits)
        (λ (past : MOST_CONNECTIONS ≤ length x.clients). absurd (true≢false (sym (le-leb MOST_CONNECTIONS (length x.clients) past) ∙ e)))
        (cases_lt (length x.clients) MOST_CONNECTIONS)

unlet : (x : NodeValue) (c : Client) (why : Refusal) → connect_refusal x c.cred ≡ Some why → ((why ≡ refusal.Access) × (is_some (via_of x.list c.cred) ≡ false)) ⊎ ((why ≡ refusal.ConnectionsFull) × (MOST_CONNECTIONS ≤ length x.clients))
unlet x c why e = by_via (is_some (via_of x.list c.cred)) (nat_le MOST_CONNECTIONS (length x.clients)) refl refl e
  where
    by_via : (some many : Bool) → is_some (via_of x.list c.cred) ≡ some → nat_le MOST_CONNECTIONS (length x.clients) ≡ many → (if not some then Some refusal.Access else if many then Some refusal.ConnectionsFull else None) ≡ Some why
        → ((why ≡ refusal.Access) × (is_some (via_of x.list c.cred) ≡ false)) ⊎ ((why ≡ refusal.ConnectionsFull) × (MOST_CONNECTIONS ≤ length x.clients))
    by_via false many a b e = inl (sym (same_Some refusal.Access why e), a)
    by_via true true a b e = inr (sym (same_Some refusal.ConnectionsFull why e), leb-true MOST_CONNECTIONS (length x.clients) b)
    by_via true false a b e = absurd (none-some why e)

-- an open client is among those that are to be let in
let_in_at : (list : Listed) (cs : List Client) (i : ℕ) (c : Client) → if_open (slice_get cs i) ≡ Some c → AreLetIn list cs → IsLetIn list c
let_in_at list [] i c e h = absurd (none-some c e)
let_in_at list (k ∷ cs) zero c e h = by_end k.ended e h
  where
    by_end : (b : Bool) → (if b then None else Some k) ≡ Some c → AllByRecursion (IsLetIn list) (if not b then k ∷ living cs else living cs) → IsLetIn list c
    by_end true e h = absurd (none-some c e)
    by_end false e h = subst (IsLetIn list) (same_Some k c e) h.0
let_in_at list (k ∷ cs) (suc i) c e h = let_in_at list cs i c e (by_end k.ended h)
  where
    by_end : (b : Bool) → AllByRecursion (IsLetIn list) (if not b then k ∷ living cs else living cs) → AreLetIn list cs
    by_end true h = h
    by_end false h = h.1

-- and behind fewer than all are
living_before : (cs : List Client) (i : ℕ) (c : Client) → if_open (slice_get cs i) ≡ Some c → length (living (take i cs)) < length (living cs)
living_before [] i c e = absurd (none-some c e)
living_before (k ∷ cs) zero c e = by_end k.ended e
  where
    by_end : (b : Bool) → (if b then None else Some k) ≡ Some c → 0 < length (if not b then k ∷ living cs else living cs)
    by_end true e = absurd (none-some c e)
    by_end false e = omega arith
living_before (k ∷ cs) (suc i) c e = by_end k.ended (living_before cs i c e)
  where
    by_end : (b : Bool) → length (living (take i cs)) < length (living cs) → length (if not b then k ∷ living (take i cs) else living (take i cs)) < length (if not b then k ∷ living cs else living cs)
    by_end true l = l
    by_end false l = omega (arith, l)

-- an old connection that is connected, or is not
pub connects_ok : (old x y : NodeValue) (conn : ℕ) (k : Connection) (r : Result ℕ Refusal) → Some k ≡ connection_of old conn → IsAnswer (connect_refusal x k.cred) (λ n. (n ≡ suc (length x.clients)) × (y ≡ connected x k.pid k.cred)) r
    → IfOk r (λ n. ConnectsBy (open_client old conn) n x y)
connects_ok old x y conn k (Err why) found a = tt
connects_ok old x y conn k (Ok n) found a = by_open (open_client old conn) found
  where
    by_open : (o : Option Client) → Some k ≡ option_map (λ (c : Client). record { id = conn_id old conn; pid = c.pid; cred = c.cred; taken = c.taken }) o → ConnectsBy o n x y
    by_open None e = absurd (none-some k (sym e))
    by_open (Some c) e =
        let same : k ≡ record { id = conn_id old conn; pid = c.pid; cred = c.cred; taken = c.taken } = same_Some k (record { id = conn_id old conn; pid = c.pid; cred = c.cred; taken = c.taken }) e in
        let none : connect_refusal x c.cred ≡ None = subst (λ (j : Connection). connect_refusal x j.cred ≡ None) same a.0 in
        (a.1.0, a.1.1 ∙ ap (λ (j : Connection). connected x j.pid j.cred) same, connect_lets x c none, connect_fits x c none)

pub connects_not : (old x y : NodeValue) (conn : ℕ) (k : Connection) (r : Result ℕ Refusal) → Some k ≡ connection_of old conn → IsAnswer (connect_refusal x k.cred) (λ n. (n ≡ suc (length x.clients)) × (y ≡ connected x k.pid k.cred)) r
    → IfErr r (λ why. WhyNotOne x (open_client old conn) why)
connects_not old x y conn k (Ok n) found a = tt
connects_not old x y conn k (Err why) found a = by_open (open_client old conn) found
  where
    by_open : (o : Option Client) → Some k ≡ option_map (λ (c : Client). record { id = conn_id old conn; pid = c.pid; cred = c.cred; taken = c.taken }) o → WhyNotOne x o why
    by_open None e = absurd (none-some k (sym e))
    by_open (Some c) e =
        let same : k ≡ record { id = conn_id old conn; pid = c.pid; cred = c.cred; taken = c.taken } = same_Some k (record { id = conn_id old conn; pid = c.pid; cred = c.cred; taken = c.taken }) e in (
          c,
          refl,
          subst (λ (j : Connection). (why ≡ refusal.Memory) ⊎ (connect_refusal x j.cred ≡ Some why)) same
              (connect_why x k.cred (λ n. (n ≡ suc (length x.clients)) × (y ≡ connected x k.pid k.cred)) why a),
        )

-- what an open connection takes is refused for memory alone
pub take_why : (x : NodeValue) (conn : ℕ) (o : Option Client) (why : Refusal) → is_some o ≡ true → IsTakeAnswer x conn o (Err why) → why ≡ refusal.Memory
take_why x conn None why some a = absurd (true≢false (sym some))
take_why x conn (Some c) why some a = a.0

pub connected_why : (old : NodeValue) (i next : ℕ) (numbers : List ℕ) (x y : NodeValue) (why : Refusal) → next ≡ suc i → HaveConnected (take i old.clients) numbers x y → WhyNotOne y (open_client old next) why → WhyNotConnected x old.clients why
connected_why old i next numbers x y why is h k =
    let there : if_open (slice_get old.clients i) ≡ Some k.0 = ap (λ n. open_client old n) (sym is) ∙ k.1 in
    ⊎_elim (λ (e : why ≡ refusal.Memory). inl e)
    (λ (r : connect_refusal y k.0.cred ≡ Some why). inr (⊎_elim
    (λ (a : (why ≡ refusal.Access) × (is_some (via_of y.list k.0.cred) ≡ false)).
    inl (a.0, λ all. true≢false (sym (let_in_at x.list old.clients i k.0 there all) ∙ subst (λ (l : Listed). is_some (via_of l k.0.cred) ≡ false) h.list a.1)))
    (λ (f : (why ≡ refusal.ConnectionsFull) × (MOST_CONNECTIONS ≤ length y.clients)).
    let count = connected_count (take i old.clients) numbers x y h in
    let few = living_before old.clients i k.0 there in
    inr (f.0, omega (arith, f.1, count, few)))
    (unlet y k.0 why r)))
    k.2

-- ---- a member does not join

name_why : (g : List ℕ) (why : Refusal) → name_refusal g ≡ Some why → (why ≡ refusal.BadName) × (is_name g ≡ false)
name_why g why e = by_name (is_name g) refl e
  where
    by_name : (b : Bool) → is_name g ≡ b → (if b then None else Some refusal.BadName) ≡ Some why → (why ≡ refusal.BadName) × (is_name g ≡ false)
    by_name true is e = absurd (none-some why e)
    by_name false is e = (sym (same_Some refusal.BadName why e), is)

pub absent_seat : (numbers : List ℕ) (m : Membership) (x : NodeValue) (n : ℕ) → n ≡ number_at numbers m.member.conn → None ≡ connection_of x n → ¬ IsSeated numbers x m
absent_seat numbers m x n is none h =
    none-some (record { id = conn_id x n; pid = h.0.pid; cred = h.0.cred; taken = h.0.taken })
    (none ∙ ap (option_map (λ (c : Client). record { id = conn_id x n; pid = c.pid; cred = c.cred; taken = c.taken })) (ap (open_client x) is ∙ h.1))

pub other_seat : (numbers : List ℕ) (m : Membership) (x : NodeValue) (n : ℕ) (k : Connection) → n ≡ number_at numbers m.member.conn → Some k ≡ connection_of x n → (k.pid ≡ m.member.pid → k.id.node ≡ m.member.node → ⊥) → ¬ IsSeated numbers x m
other_seat numbers m x n k is found apart h =
    let same : k ≡ record { id = conn_id x n; pid = h.0.pid; cred = h.0.cred; taken = h.0.taken } =
    same_Some k (record { id = conn_id x n; pid = h.0.pid; cred = h.0.cred; taken = h.0.taken })
    (found ∙ ap (option_map (λ (c : Client). record { id = conn_id x n; pid = c.pid; cred = c.cred; taken = c.taken })) (ap (open_client x) is ∙ h.1)) in
    apart (ap (λ (j : Connection). j.pid) same ∙ h.2) (ap (λ (j : Connection). j.id.node) same ∙ h.3)

-- whether a connection is the member's process
pub own_is : (k : Connection) (m : Membership) (b : Bool) → b ≡ ((k.pid == m.member.pid) && (k.id.node == m.member.node)) → b ≡ true → (k.pid ≡ m.member.pid) × (k.id.node ≡ m.member.node)
own_is k m b is told = by_both (k.pid == m.member.pid) (k.id.node == m.member.node) refl refl (sym is ∙ told)
  where
    by_both : (p q : Bool) → (k.pid == m.member.pid) ≡ p → (k.id.node == m.member.node) ≡ q → (p && q) ≡ true → (k.pid ≡ m.member.pid) × (k.id.node ≡ m.member.node)
    by_both true true a b e = (eqb-true k.pid m.member.pid a, eqb-true k.id.node m.member.node b)
    by_both true false a b e = absurd (true≢false (sym e))
    by_both false q a b e = absurd (true≢false (sym e))

pub own_not : (k : Connection) (m : Membership) (b : Bool) → b ≡ ((k.pid == m.member.pid) && (k.id.node == m.member.node)) → b ≡ false → k.pid ≡ m.member.pid → k.id.node ≡ m.member.node → ⊥
own_not k m b is told p q =
    let both : ((k.pid == m.member.pid) && (k.id.node == m.member.node)) ≡ true = rw (eq-eqb k.pid m.member.pid p, eq-eqb k.id.node m.member.node q) refl in
    true≢false (sym both ∙ sym is ∙ told)

-- an answer of NoConnection where the member has no seat
pub unseated : (numbers : List ℕ) (m : Membership) (x : NodeValue) (count : ℕ) → ¬ IsSeated numbers x m → WhyNotJoined numbers x count (m ∷ []) refusal.NoConnection
unseated numbers m x count none = inl (refl, λ all. none all.0)

pub join_why : (numbers : List ℕ) (m : Membership) (g : List ℕ) (x : NodeValue) (count : ℕ) (why : Refusal) → g ≡ m.group → WhyNotEntered x.ring.settings count (Join g) why → WhyNotJoined numbers x count (m ∷ []) why
join_why numbers m g x count why is h = inr (⊎_elim
    (λ (r : name_refusal g ≡ Some why). let n = name_why g why r in inl (n.0, λ all. true≢false (sym all.0 ∙ ap is_name (sym is) ∙ n.1)))
    (λ (k : WhyShort x.ring.settings (suc count) why). inr (short_more x.ring.settings x.ring.settings (suc count) (count + 1) why refl (omega arith) k))
    h)

-- where it is a connection's process
pub join_by : (numbers : List ℕ) (m : Membership) (n : ℕ) (g : List ℕ) (x : NodeValue) (k : Connection) (es : List Entry) (r : Result (Unit {0}) Refusal) → Some k ≡ connection_of x n → g ≡ m.group → IsBegun x es
    → ((fs : List Entry) (c : Client) → open_client x n ≡ Some c → IsBegun x fs → IfErr r (λ why. WhyNotEntered x.ring.settings (length fs) (Join g) why)) → IfErr r (λ why. WhyNotJoined numbers x (length es) (m ∷ []) why)
join_by numbers m n g x k es r found is b h =
    let c = connection_is x n k (open_client x n) found in
    IfErr-weaker r (λ why. WhyNotEntered x.ring.settings (length es) (Join g) why) (λ why. WhyNotJoined numbers x (length es) (m ∷ []) why) (λ why k. join_why numbers m g x (length es) why is k) (h es c.0 c.1 b)

all_at : {T : Type 0} (P : T → Type 0) (xs : List T) (i : ℕ) (d : T) → i < length xs → AllByRecursion P xs → P (get_or xs i d)
all_at P [] i d within h = absurd (omega arith)
all_at P (x ∷ xs) zero d within h = h.0
all_at P (x ∷ xs) (suc i) d within h = all_at P xs i d (omega arith) h.1

take_count : {T : Type 0} (xs : List T) (n : ℕ) → n ≤ length xs → length (take n xs) ≡ n
take_count xs zero h = refl
take_count [] (suc n) h = absurd (omega arith)
take_count (x ∷ xs) (suc n) h = ap suc (take_count xs n (omega arith))

seated_on : (numbers : List ℕ) (m : Membership) (x y : NodeValue) → IsAlike x y → y.clients ≡ x.clients → IsSeated numbers x m → IsSeated numbers y m
seated_on numbers m x y alike same h = (h.0, ap (λ (cs : List Client). if_open (item cs (number_at numbers m.member.conn))) same ∙ h.1, h.2, alike.number ∙ h.3)

pub joins_why : (numbers : List ℕ) (all : List Membership) (i : ℕ) (m : Membership) (x y : NodeValue) (es : List Entry) (why : Refusal) → i < length all → m ≡ get_or all i m → HaveJoined numbers (take i all) x y
    → ((fs : List Entry) → IsBegun y fs → WhyNotJoined numbers y (length fs) (m ∷ []) why) → IsBegun x es → WhyNotJoined numbers x (length es) all why
joins_why numbers all i m x y es why within is h k b =
    let count : length h.seats ≡ i = sym (length_mapped held_by h.seats) ∙ ap (λ (l : List Membership). length l) h.held ∙ length_mapped (renumbered numbers) (take i all) ∙ take_count all i (omega (arith, within)) in
    let fs : List Entry = es ++ map seat_entry h.seats in
    let whole : length fs ≡ length es + i = length-append es (map seat_entry h.seats) ∙ ap (λ n. length es + n) (length_mapped seat_entry h.seats ∙ count) in
    ⊎_elim
    (λ (p : (why ≡ refusal.NoConnection) × ¬ AllByRecursion (IsSeated numbers y) (m ∷ [])).
    inl (p.0, λ seated. p.1 (seated_on numbers m x y h.alike h.clients (subst (IsSeated numbers x) (sym is) (all_at (IsSeated numbers x) all i m within seated)), tt)))
    (λ (q : ((why ≡ refusal.BadName) × ¬ AllByRecursion HasName (m ∷ [])) ⊎ WhyShort y.ring.settings (length fs + 1) why). inr (⊎_elim
    (λ (p : (why ≡ refusal.BadName) × ¬ AllByRecursion HasName (m ∷ [])). inl (p.0, λ named. p.1 (subst HasName (sym is) (all_at HasName all i m within named), tt)))
    (λ (p : WhyShort y.ring.settings (length fs + 1) why). inr (short_more x.ring.settings y.ring.settings (length fs + 1) (length es + length all) why h.alike.settings (omega (arith, whole, within)) p))
    q))
    (k fs (h.begun es b))

-- ---- a rule is not put in

pub rule_there : (rules : Rules) (i : ℕ) (p : ℕ × Rule) → slice_get rules i ≡ Some p → i < length rules
rule_there [] i p e = absurd (none-some p e)
rule_there (q ∷ rules) zero p e = omega arith
rule_there (q ∷ rules) (suc i) p e = let l = rule_there rules i p e in omega (arith, l)

pub no_rule_more : (rules : Rules) (i : ℕ) → slice_get rules i ≡ None → length rules ≤ i
no_rule_more [] i e = omega arith
no_rule_more (q ∷ rules) zero e = absurd (none-some q (sym e))
no_rule_more (q ∷ rules) (suc i) e = let l = no_rule_more rules i e in omega (arith, l)

pub put_grows : (s t : Settings) (groups : List (List ℕ)) (n m : ℕ) (why : Refusal) → t ≡ s → n ≤ m → WhyNotPut t groups n why → WhyNotPut s groups m why
put_grows s t groups n m why same few h = ⊎_elim
    (λ (p : (why ≡ refusal.BadName) × ¬ AllByRecursion IsNamed groups). inl p)
    (λ (p : WhyShort t n why). inr (short_more s t n m why same few p))
    h

pub put_why : (s : Settings) (count : ℕ) (group copied : List ℕ) (at : ℕ) (rule : Rule) (why : Refusal) → copied ≡ group → WhyNotEntered s count (Insert copied at rule) why → WhyNotPut s (group ∷ []) (suc count) why
put_why s count group copied at rule why is h = ⊎_elim
    (λ (r : name_refusal copied ≡ Some why). let n = name_why copied why r in inl (n.0, λ all. true≢false (sym all.0 ∙ ap is_name (sym is) ∙ n.1)))
    (λ (k : WhyShort s (suc count) why). inr k)
    h

-- by the daemon's own connection
pub put_by : (root : Root) (conn : ℕ) (group copied : List ℕ) (at : ℕ) (rule : Rule) (x : NodeValue) (es : List Entry) (result : Result (Unit {0}) Refusal) → root.conn ≡ conn → copied ≡ group → IsRoot root x → IsBegun x es
    → ((fs : List Entry) (c : Client) → open_client x conn ≡ Some c → IsBegun x fs → IfErr result (λ why. WhyNotEntered x.ring.settings (length fs) (Insert copied at rule) why)) → IfErr result (λ why. WhyNotPut x.ring.settings (group ∷ []) (suc (length es)) why)
put_by root conn group copied at rule x es result own is r b h =
    let c : Client = record { pid = root.pid; cred = record { uid = 0; gid = 0 }; ended = false; taken = r.1.0 } in
    IfErr-weaker result (λ why. WhyNotEntered x.ring.settings (length es) (Insert copied at rule) why) (λ why. WhyNotPut x.ring.settings (group ∷ []) (suc (length es)) why)
    (λ why k. put_why x.ring.settings (length es) group copied at rule why is k) (h es c (subst (λ n. open_client x n ≡ Some c) own r.1.1) b)

pub few_rules : (x : NodeValue) (g : List ℕ) (rules : Rules) → rules ≡ rules_of (records_of x) g → length rules ≤ MOST_RULES
few_rules x g rules is = subst (λ (l : Rules). length l ≤ MOST_RULES) (sym is) ((judged_within_bounds (delivered_entries x.ring.state)).few_rules g)

pub put_same : (s : Settings) (g : List ℕ) (records : List Record) (rules : Rules) (count : ℕ) (result : Result (Unit {0}) Refusal) → rules ≡ rules_of records g → IfErr result (λ why. WhyNotPut s (g ∷ []) (count + length rules) why)
    → IfErr result (λ why. WhyNotPut s (g ∷ []) (count + length (rules_of records g)) why)
put_same s g records rules count result is h = subst (λ (l : Rules). IfErr result (λ why. WhyNotPut s (g ∷ []) (count + length l) why)) is h

inserts_count : (root : Root) (g : List ℕ) (index : ℕ) (rules : List Rule) → length (inserts root g index rules) ≡ length rules
inserts_count root g index [] = refl
inserts_count root g index (rule ∷ rules) = ap suc (inserts_count root g (suc index) rules)

pub puts_why : (root : Root) (g : List ℕ) (rules : Rules) (i : ℕ) (x y : NodeValue) (es : List Entry) (why : Refusal) → i < length rules → HasPut root (inserts root g 0 (bare (take i rules))) x y → IsRoot root x → IsBegun x es
    → ((fs : List Entry) → IsRoot root y → IsBegun y fs → WhyNotPut y.ring.settings (g ∷ []) (suc (length fs)) why) → WhyNotPut x.ring.settings (g ∷ []) (length es + length rules) why
puts_why root g rules i x y es why within h r b k =
    let put : List Entry = inserts root g 0 (bare (take i rules)) in
    let count : length put ≡ i = inserts_count root g 0 (bare (take i rules)) ∙ length_mapped (λ (p : ℕ × Rule). p.1) (take i rules) ∙ take_count rules i (omega (arith, within)) in
    let whole : length (es ++ put) ≡ length es + i = length-append es put ∙ ap (λ n. length es + n) count in
    put_grows x.ring.settings y.ring.settings (g ∷ []) (suc (length (es ++ put))) (length es + length rules) why h.alike.settings (omega (arith, whole, within))
    (k (es ++ put) (root_still root x y h.alike h.clients r) (h.begun es r b))

pub all_count : (root : Root) (records : List Record) (groups : List (List ℕ)) → length (all_inserts root (map (table_of records) groups)) ≡ rule_count records groups
all_count root records [] = refl
all_count root records (g ∷ groups) =
    length-append (inserts root g 0 (bare (rules_of records g))) (all_inserts root (map (table_of records) groups))
    ∙ ap (λ n. n + length (all_inserts root (map (table_of records) groups))) (inserts_count root g 0 (bare (rules_of records g)) ∙ length_mapped (λ (p : ℕ × Rule). p.1) (rules_of records g))
    ∙ ap (λ n. length (rules_of records g) + n) (all_count root records groups)

rules_before : (records : List Record) (groups : List (List ℕ)) (i : ℕ) (d : List ℕ) → i < length groups → rule_count records (take i groups) + length (rules_of records (get_or groups i d)) ≤ rule_count records groups
rules_before records [] i d within = absurd (omega arith)
rules_before records (g ∷ groups) zero d within = omega arith
rules_before records (g ∷ groups) (suc i) d within = let l = rules_before records groups i d (omega arith) in omega (arith, l)

pub groups_why : (root : Root) (records : List Record) (groups : List (List ℕ)) (i : ℕ) (g : List ℕ) (x y : NodeValue) (es : List Entry) (why : Refusal) → i < length groups → g ≡ get_or groups i g
    → HasPut root (all_inserts root (map (table_of records) (take i groups))) x y → IsRoot root x → IsBegun x es
    → ((fs : List Entry) → IsRoot root y → IsBegun y fs → WhyNotPut y.ring.settings (g ∷ []) (length fs + length (rules_of records g)) why) → WhyNotPut x.ring.settings groups (length es + rule_count records groups) why
groups_why root records groups i g x y es why within is h r b k =
    let put : List Entry = all_inserts root (map (table_of records) (take i groups)) in
    let whole : length (es ++ put) ≡ length es + rule_count records (take i groups) = length-append es put ∙ ap (λ n. length es + n) (all_count root records (take i groups)) in
    let few : rule_count records (take i groups) + length (rules_of records g) ≤ rule_count records groups =
    subst (λ (n : List ℕ). rule_count records (take i groups) + length (rules_of records n) ≤ rule_count records groups) (sym is) (rules_before records groups i g within) in
    ⊎_elim
    (λ (p : (why ≡ refusal.BadName) × ¬ AllByRecursion IsNamed (g ∷ [])). inl (p.0, λ named. p.1 (subst IsNamed (sym is) (all_at IsNamed groups i g within named), tt)))
    (λ (p : WhyShort y.ring.settings (length (es ++ put) + length (rules_of records g)) why).
    inr (short_more x.ring.settings y.ring.settings (length (es ++ put) + length (rules_of records g)) (length es + rule_count records groups) why h.alike.settings (omega (arith, whole, few)) p))
    (k (es ++ put) (root_still root x y h.alike h.clients r) (h.begun es r b))

-- the daemon's own connection does not end, behind the rules of all tables
pub root_part_why : (root : Root) (records : List Record) (groups : List (List ℕ)) (x z : NodeValue) (es : List Entry) (result : Result (Unit {0}) Refusal) → root.conn ≡ 1 → HasPut root (all_inserts root (map (table_of records) groups)) x z → IsRoot root x → IsBegun x es
    → ((fs : List Entry) (c : Client) → open_client z 1 ≡ Some c → IsBegun z fs → IfErr result (λ why. WhyShort z.ring.settings (suc (length fs)) why)) → IfErr result (λ why. WhyNotPut x.ring.settings groups (suc (length es + rule_count records groups)) why)
root_part_why root records groups x z es result own h r b k =
    let put : List Entry = all_inserts root (map (table_of records) groups) in
    let whole : length (es ++ put) ≡ length es + rule_count records groups = length-append es put ∙ ap (λ n. length es + n) (all_count root records groups) in
    let s : IsRoot root z = root_still root x z h.alike h.clients r in
    let c : Client = record { pid = root.pid; cred = record { uid = 0; gid = 0 }; ended = false; taken = s.1.0 } in
    IfErr-weaker result (λ why. WhyShort z.ring.settings (suc (length (es ++ put))) why) (λ why. WhyNotPut x.ring.settings groups (suc (length es + rule_count records groups)) why)
    (λ why l. inr (short_more x.ring.settings z.ring.settings (suc (length (es ++ put))) (suc (length es + rule_count records groups)) why h.alike.settings (omega (arith, whole)) l))
    (k (es ++ put) c (subst (λ n. open_client z n ≡ Some c) own s.1.1) (h.begun es r b))
