-- What the logs of connections tell, and what one record more does to them.
use Rattle.std.proofs.Common.{◌≡◌, ℕ, zero, suc, ◌+◌, ◌-◌, ◌≤◌, leb, Bool, true, false, ◌&&◌, cond, List, [], ◌∷◌, ◌++◌, length, map, take, get_or, All, Option, Some, None, refl, sym, ap, subst, ◌∙◌, arith}
use Rattle.std.specs.Prelude.{◌↔◌, is_some, option_map}
use Rattle.std.specs.Cmp.{IsEquivalence}
use Rattle.std.specs.List.{fold, slice_get, IsDistinct}
use Rattle.std.specs.List.Sorted.{IsPartitionPoint}
use Rattle.std.specs.Map.{keys_of, lookup, set_value}
use Rattle.std.specs.Option.{unwrap_or}
use Rattle.smallvec.specs.SmallVec.{SmallVec}
use Rattle.std.proofs.lemmas.Bool.{le-leb}
use Rattle.std.proofs.lemmas.List.{append-nil, map-append, take-append-le, take_all}
use Rattle.std.proofs.lemmas.List.Elements.{All-append, All-cons}
use Rattle.std.proofs.lemmas.List.Sums.{fold_push}
use Rattle.std.proofs.lemmas.Map.{keys-set_value}
use Rattle.std.proofs.lemmas.Map.Entries.{lookup_from_place}
use Rattle.std.proofs.lemmas.Map.Made.{is_some-lookup}
use Rattle.std.proofs.lemmas.Option.{slice_get-map, slice_get-get_or, slice_get_within, get_or_from_slice_get, none-some}
use Rattle.indexmap.specs.IndexMap.{IndexMap, insert_entry, set_value_at}
use Rattle.indexmap.proofs.CallerLemmas.{insert_entry-new}
use Rattle.cpg_entry.specs.declared.calls.Call.TheVariants.{Join, Leave, Send, Insert, Remove}
use Rattle.cpg_entry.specs.declared.calls.Op.{Op}
use Rattle.cpg_entry.specs.declared.calls.Op.TheVariants.{Act, Gone}
use Rattle.cpg_record.specs.declared.connections.ConnId.{ConnId}
use Rattle.cpg_record.specs.declared.records.Record.{Record}
use Rattle.cpg_record.specs.Connections.{conn_of, conns_of, is_conn, with_conn}
use Rattle.cpg_record.specs.Judging.{entries_of}
use Rattle.cpg_record.specs.Membership.{group_of, is_allowed}
use Rattle.cpg_record.specs.Nexts.{is_made_by}
use Rattle.cpg_record.specs.Places.{places_of, record_at}
use Rattle.cpg_record.specs.Steps.{group_after, group_by}
use Rattle.cpg_record.proofs.Cuts.{low_below, quiet_since, quiet_from_start}
use Rattle.cpg_record.proofs.Growing.{group_of_push, is_conn-true}
use Rattle.cpg_record.proofs.Inboxes.{record_at_front}
use Rattle.cpg_record.proofs.Nexts.{groups_stay}
use Rattle.cpg_record.proofs.Positions.{places_from-push, sound}
use Rattle.cpg_record.proofs.Lasting.{is_conn-itself}
use Rattle.cpg_group.specs.declared.logs.Stop.{Stop}
use Rattle.cpg_group.specs.ConnectionLogs.{group_at, join_after, join_by, joined_by, joined_in, kept_log, or_no_log, AreConnectionLogs, IsConnectionLog, KeptLogs, StandsBy}
use Rattle.cpg_record.proofs.Named.{either_way, lookup-push, lookup-set}
use Rattle.cpg_group.proofs.Placed.{key_at, set_at}

abbrev pub place_of : Stop → ℕ
place_of stop = stop.place

-- ---- what a cut of a log tells

-- no own place up to the last: in no group
pub join_none : (rs : List Record) (conn : ConnId) (log : List Stop) (last k : ℕ) → IsConnectionLog rs conn log →
    IsPartitionPoint (λ (stop : Stop). leb stop.place last ≡ true) (λ (stop : Stop). leb stop.place last ≡ false) log k → k ≡ 0 →
    group_at rs 0 ≡ group_of (take last rs) conn
join_none rs conn log last k are cut at =
    sym (groups_stay rs conn 0 last (omega arith) (λ n r low high is. quiet_from_start place_of log (is_made_by conn) rs are.0 last k cut at n r high is))

-- else the join by which the last own place stands
pub join_some : (rs : List Record) (conn : ConnId) (log : List Stop) (last k i : ℕ) (stop : Stop) → IsConnectionLog rs conn log →
    IsPartitionPoint (λ (stop : Stop). leb stop.place last ≡ true) (λ (stop : Stop). leb stop.place last ≡ false) log k → k ≡ suc i → slice_get log i ≡ Some stop →
    (stop.join ≤ last) × (group_at rs stop.join ≡ group_of (take last rs) conn)
join_some rs conn log last k i stop are cut at stands =
    let within = slice_get_within log i stop stands in
    let here : get_or log i stop ≡ stop = get_or_from_slice_get log i stop stop stands in
    let by : StandsBy rs conn stop = subst (StandsBy rs conn) here (are.1 i stop within) in
    let low : stop.place ≤ last = low_below place_of log (is_made_by conn) rs are.0 last k cut i stop stands (omega arith) in (
      omega (arith, by.0),
      by.1 ∙ sym (groups_stay rs conn stop.place last low (λ n r above below is. quiet_since place_of log (is_made_by conn) rs are.0 last k cut i stop at stands n r above below is)),
    )

-- ---- one record more

record_last : (rs : List Record) (r : Record) → record_at (rs ++ r ∷ []) (suc (length rs)) ≡ Some r
record_last [] r = refl
record_last (s ∷ rs) r = record_last rs r

group_kept : (rs : List Record) (r : Record) (place : ℕ) → place ≤ length rs → group_at (rs ++ r ∷ []) place ≡ group_at rs place
group_kept rs r place h = ap joined_in (record_at_front rs (r ∷ []) place (omega arith))

all_taken : (rs : List Record) (r : Record) (place : ℕ) → place ≡ length rs + 1 → take place (rs ++ r ∷ []) ≡ rs ++ r ∷ []
all_taken [] r zero h = absurd (omega arith)
all_taken [] r (suc n) h =
    let same : n ≡ 0 = omega arith in
    ap (λ (k : ℕ). take (suc k) (r ∷ [])) same
all_taken (s ∷ rs) r zero h = absurd (omega arith)
all_taken (s ∷ rs) r (suc n) h = ap (λ (front : List Record). s ∷ front) (all_taken rs r n (omega arith))

-- the group of the maker after its record
after_own : (r : Record) (o : Option (List ℕ)) → group_after r (conn_of r.entry) o ≡ cond (is_allowed r.verdict) (group_by r.entry.op o) o
after_own r o = ap (λ (b : Bool). cond (is_allowed r.verdict && b) (group_by r.entry.op o) o) (is_conn-itself (conn_of r.entry)) ∙ and_true (is_allowed r.verdict)
  where
    and_true : (v : Bool) → cond (v && true) (group_by r.entry.op o) o ≡ cond v (group_by r.entry.op o) o
    and_true true = refl
    and_true false = refl

module _ (rs : List Record) (r : Record) (place : ℕ) (next : place ≡ length rs + 1) where
  group_past : (join : ℕ) → group_at (rs ++ r ∷ []) join ≡ cond (is_allowed r.verdict) (group_by r.entry.op (group_of rs (conn_of r.entry))) (group_of rs (conn_of r.entry)) →
      join ≤ place → StandsBy (rs ++ r ∷ []) (conn_of r.entry) (record { place = place; join = join })
  group_past join is low = (
    low,
    is ∙ sym (after_own r (group_of rs (conn_of r.entry))) ∙ sym (group_of_push rs r (conn_of r.entry))
        ∙ ap (λ (past : List Record). group_of past (conn_of r.entry)) (sym (all_taken rs r place next)),
  )

  module _ (join : ℕ) (low : join ≤ length rs) where
    tells : (v : Bool) (op : Op) (o : Option (List ℕ)) → r.entry.op ≡ op → group_at rs join ≡ o →
        group_at (rs ++ r ∷ []) (cond v (join_by op place o join) join) ≡ cond v (group_by op o) o
    tells false op o is at = group_kept rs r join low ∙ at
    tells true (Act (Join g)) None is at =
        let last : place ≡ suc (length rs) = omega arith in
        ap (group_at (rs ++ r ∷ [])) last ∙ ap joined_in (record_last rs r) ∙ ap joined_by is
    tells true (Act (Join g)) (Some h) is at = group_kept rs r join low ∙ at
    tells true (Act Leave) o is at = refl
    tells true Gone o is at = refl
    tells true (Act (Send m)) o is at = group_kept rs r join low ∙ at
    tells true (Act (Insert h index rule)) o is at = group_kept rs r join low ∙ at
    tells true (Act (Remove h id)) o is at = group_kept rs r join low ∙ at

    early : (v : Bool) (op : Op) (o : Option (List ℕ)) → cond v (join_by op place o join) join ≤ place
    early false op o = omega arith
    early true (Act (Join g)) None = omega arith
    early true (Act (Join g)) (Some h) = omega arith
    early true (Act Leave) o = omega arith
    early true Gone o = omega arith
    early true (Act (Send m)) o = omega arith
    early true (Act (Insert h index rule)) o = omega arith
    early true (Act (Remove h id)) o = omega arith

    -- the stop of the record stands by the join after it
    pub stop_stands : group_at rs join ≡ group_of rs (conn_of r.entry) → StandsBy (rs ++ r ∷ []) (conn_of r.entry) (record { place = place; join = join_after r place (group_at rs join) join })
    stop_stands by =
        group_past (join_after r place (group_at rs join) join)
        (tells (is_allowed r.verdict) r.entry.op (group_at rs join) refl refl
        ∙ ap (λ (o : Option (List ℕ)). cond (is_allowed r.verdict) (group_by r.entry.op o) o) by)
        (early (is_allowed r.verdict) r.entry.op (group_at rs join))

-- a stop stands by its join over more records, too
kept_by : (rs : List Record) (r : Record) (conn : ConnId) (stop : Stop) → stop.place ≤ length rs → StandsBy rs conn stop → StandsBy (rs ++ r ∷ []) conn stop
kept_by rs r conn stop within by = (
  by.0,
  group_kept rs r stop.join (omega (arith, by.0)) ∙ by.1
      ∙ ap (λ (past : List Record). group_of past conn) (sym (take-append-le stop.place rs (r ∷ []) within)),
)

stops_within : (rs : List Record) (conn : ConnId) (log : List Stop) → IsConnectionLog rs conn log → All (λ (stop : Stop). stop.place ≤ length rs) log
stops_within rs conn log are k d below =
    let stop : Stop = get_or log k d in
    let stands : slice_get (places_of (is_made_by conn) rs) k ≡ Some (get_or log k d).place =
    ap (λ (ps : List ℕ). slice_get ps k) (sym are.0) ∙ slice_get-map place_of log k ∙ ap (option_map place_of) (slice_get-get_or log k d below) in
    let there = sound (is_made_by conn) 1 rs k (get_or log k d).place stands in
    omega (arith, there.counted, slice_get_within rs there.index there.r there.stands)

-- a log ends at the records' end
all_passed : (rs : List Record) (conn : ConnId) (log : List Stop) → IsConnectionLog rs conn log →
    IsPartitionPoint (λ (stop : Stop). leb stop.place (length rs) ≡ true) (λ (stop : Stop). leb stop.place (length rs) ≡ false) log (length log)
all_passed rs conn log are = (
  (λ i d low within. le-leb _ _ (stops_within rs conn log are i d within)),
  (λ i d above within. absurd (omega (arith, above, within))),
)

all_past : (rs : List Record) (conn : ConnId) → group_of (take (length rs) rs) conn ≡ group_of rs conn
all_past rs conn = ap (λ (past : List Record). group_of past conn) (take_all (length rs) rs (omega arith))

-- so its last stop has the join that the connection stands by after all records
pub last_none : (rs : List Record) (conn : ConnId) (log : List Stop) → IsConnectionLog rs conn log → None ≡ slice_get log (length log - 1) → group_at rs 0 ≡ group_of rs conn
last_none rs conn [] are none = join_none rs conn [] (length rs) 0 are (all_passed rs conn [] are) refl ∙ all_past rs conn
last_none rs conn (stop ∷ log) are none =
    absurd (none-some _ (none ∙ slice_get-get_or (stop ∷ log) (length (stop ∷ log) - 1) stop (omega arith)))

pub last_some : (rs : List Record) (conn : ConnId) (log : List Stop) (stop : Stop) → IsConnectionLog rs conn log → Some stop ≡ slice_get log (length log - 1) →
    (stop.join ≤ length rs) × (group_at rs stop.join ≡ group_of rs conn)
last_some rs conn log stop are stands =
    let within = slice_get_within log (length log - 1) stop (sym stands) in
    let by = join_some rs conn log (length rs) (length log) (length log - 1) stop are (all_passed rs conn log are) (omega (arith, within)) (sym stands) in
    (by.0, by.1 ∙ all_past rs conn)

all_kept : (rs : List Record) (r : Record) (conn : ConnId) (log : List Stop) → IsConnectionLog rs conn log → All (StandsBy (rs ++ r ∷ []) conn) log
all_kept rs r conn log are k d below = kept_by rs r conn (get_or log k d) (stops_within rs conn log are k d below) (are.1 k d below)

places_kept : (rs : List Record) (r : Record) (conn : ConnId) (made : Bool) → is_made_by conn r ≡ made →
    places_of (is_made_by conn) (rs ++ r ∷ []) ≡ places_of (is_made_by conn) rs ++ cond made ((1 + length rs) ∷ []) []
places_kept rs r conn made is =
    places_from-push (is_made_by conn) 1 rs r ∙ ap (λ (b : Bool). places_of (is_made_by conn) rs ++ cond b ((1 + length rs) ∷ []) []) is

-- the maker's log with its stop
pub log_longer : (rs : List Record) (r : Record) (stop : Stop) (log : List Stop) →
    stop.place ≡ length rs + 1 → StandsBy (rs ++ r ∷ []) (conn_of r.entry) stop → IsConnectionLog rs (conn_of r.entry) log → IsConnectionLog (rs ++ r ∷ []) (conn_of r.entry) (log ++ stop ∷ [])
log_longer rs r stop log at by are =
    let here : stop.place ≡ 1 + length rs = omega arith in
    let conn : ConnId = conn_of r.entry in (
      map-append place_of log (stop ∷ [])
          ∙ ap (λ (ps : List ℕ). ps ++ stop.place ∷ []) are.0
          ∙ ap (λ (n : ℕ). places_of (is_made_by conn) rs ++ n ∷ []) here
          ∙ sym (places_kept rs r conn true (is_conn-itself conn)),
      All-append (StandsBy (rs ++ r ∷ []) conn) log (stop ∷ []) (all_kept rs r conn log are) (All-cons (StandsBy (rs ++ r ∷ []) conn) stop [] by (λ k d h. absurd (omega arith))),
    )

-- and every other as it was
log_elsewhere : (rs : List Record) (r : Record) (conn : ConnId) (log : List Stop) → is_conn conn (conn_of r.entry) ≡ false → IsConnectionLog rs conn log → IsConnectionLog (rs ++ r ∷ []) conn log
log_elsewhere rs r conn log is are = (
  are.0 ∙ sym (places_kept rs r conn false is ∙ append-nil (places_of (is_made_by conn) rs)),
  all_kept rs r conn log are,
)

-- the connections of one record more
conns_past : (rs : List Record) (r : Record) → conns_of (entries_of (rs ++ r ∷ [])) ≡ with_conn (conns_of (entries_of rs)) (conn_of r.entry)
conns_past rs r =
    ap conns_of (map-append (λ (q : Record). q.entry) rs (r ∷ []))
    ∙ ap (fold with_conn []) (map-append conn_of (entries_of rs) (r.entry ∷ []))
    ∙ fold_push with_conn [] (map conn_of (entries_of rs)) (conn_of r.entry)

-- the logs where the maker's alone was set
AreConnectionLogs-past : (old new : KeptLogs) (rs : List Record) (r : Record) (log : List Stop) → AreConnectionLogs old rs → IsConnectionLog (rs ++ r ∷ []) (conn_of r.entry) log →
    keys_of new ≡ with_conn (keys_of old) (conn_of r.entry) →
    ((c : ConnId) → kept_log new c ≡ cond (is_conn c (conn_of r.entry)) log (kept_log old c)) → AreConnectionLogs new (rs ++ r ∷ [])
AreConnectionLogs-past old new rs r log are own keys set = (
  keys ∙ ap (λ (conns : List ConnId). with_conn conns (conn_of r.entry)) are.0 ∙ sym (conns_past rs r),
  (λ conn. subst (IsConnectionLog (rs ++ r ∷ []) conn) (sym (set conn)) (by_case conn (is_conn conn (conn_of r.entry)) refl)),
)
  where
    by_case : (conn : ConnId) (b : Bool) → is_conn conn (conn_of r.entry) ≡ b → IsConnectionLog (rs ++ r ∷ []) conn (cond b log (kept_log old conn))
    by_case conn false is = log_elsewhere rs r conn (kept_log old conn) is (are.1 conn)
    by_case conn true is = subst (λ (c : ConnId). IsConnectionLog (rs ++ r ∷ []) c log) (sym (is_conn-true conn (conn_of r.entry) is)) own

-- ---- logs by connections

pub is_conn-Decides : (a b : ConnId) → (is_conn a b ≡ true) ↔ (a ≡ b)
is_conn-Decides a b = (is_conn-true a b, (λ same. subst (λ (c : ConnId). is_conn a c ≡ true) same (is_conn-itself a)))

flipped : (a b : ConnId) → is_conn a b ≡ is_conn b a
flipped = either_way is_conn is_conn-Decides

is_conn-laws : IsEquivalence is_conn
is_conn-laws = record { refl = is_conn-itself; symm = flipped; congr = λ a b c same. ap (λ (conn : ConnId). is_conn conn c) ((is_conn-Decides a b).0 same) }

-- the connections stay where a log is set
conns_set : (kept : KeptLogs) (conn : ConnId) (w : SmallVec Stop) → is_some (lookup (is_conn conn) kept) ≡ true →
    keys_of (set_value (is_conn conn) kept w) ≡ with_conn (keys_of kept) conn
conns_set kept conn w there =
    keys-set_value (is_conn conn) kept w
    ∙ ap (λ (b : Bool). cond b (keys_of kept) (keys_of kept ++ conn ∷ [])) (sym there ∙ is_some-lookup (is_conn conn) kept)

-- and that of a log that is added comes last
conns_added : (kept : KeptLogs) (conn : ConnId) (w : SmallVec Stop) → lookup (is_conn conn) kept ≡ None →
    keys_of (kept ++ (conn, w) ∷ []) ≡ with_conn (keys_of kept) conn
conns_added kept conn w none =
    map-append (λ entry. entry.0) kept ((conn, w) ∷ [])
    ∙ ap (λ (b : Bool). cond b (keys_of kept) (keys_of kept ++ conn ∷ [])) (sym (ap is_some none) ∙ is_some-lookup (is_conn conn) kept)

-- where a look-up finds one log anew, every other stays
log_anew : (kept new : KeptLogs) (conn q : ConnId) (w : SmallVec Stop) → lookup (is_conn q) new ≡ cond (is_conn conn q) (Some w) (lookup (is_conn q) kept) →
    kept_log new q ≡ cond (is_conn q conn) w.items (kept_log kept q)
log_anew kept new conn q w found = ap or_no_log found ∙ by_case (is_conn conn q) ∙ ap (λ (b : Bool). cond b w.items (kept_log kept q)) (flipped conn q)
  where
    by_case : (b : Bool) → or_no_log (cond b (Some w) (lookup (is_conn q) kept)) ≡ cond b w.items (or_no_log (lookup (is_conn q) kept))
    by_case true = refl
    by_case false = refl

log_set : (kept : KeptLogs) (conn q : ConnId) (w : SmallVec Stop) → is_some (lookup (is_conn conn) kept) ≡ true →
    kept_log (set_value (is_conn conn) kept w) q ≡ cond (is_conn q conn) w.items (kept_log kept q)
log_set kept conn q w there = log_anew kept (set_value (is_conn conn) kept w) conn q w (lookup-set is_conn is_conn-Decides kept conn w q there)

log_added : (kept : KeptLogs) (conn q : ConnId) (w : SmallVec Stop) → lookup (is_conn conn) kept ≡ None →
    kept_log (kept ++ (conn, w) ∷ []) q ≡ cond (is_conn q conn) w.items (kept_log kept q)
log_added kept conn q w none = log_anew kept (kept ++ (conn, w) ∷ []) conn q w (lookup-push is_conn is_conn-Decides kept conn w q none)

-- what is set to the items that were there changes no log
log_same : (kept : KeptLogs) (conn q : ConnId) (v w : SmallVec Stop) → lookup (is_conn conn) kept ≡ Some v → w.items ≡ v.items →
    kept_log (set_value (is_conn conn) kept w) q ≡ kept_log kept q
log_same kept conn q v w there same = log_set kept conn q w (ap is_some there) ∙ by_case (is_conn q conn) refl
  where
    by_case : (b : Bool) → is_conn q conn ≡ b → cond b w.items (kept_log kept q) ≡ kept_log kept q
    by_case false is = refl
    by_case true is = same ∙ sym (ap (λ (c : ConnId). kept_log kept c) (is_conn-true q conn is) ∙ ap or_no_log there)

-- ---- all logs where one is put in the map

-- the maker's was added, once there was room for it
pub AreConnectionLogs-added : {S : Type 0} (old : KeptLogs) (roomy : IndexMap ConnId (SmallVec Stop) S) (new : KeptLogs) (rs : List Record) (r : Record) (conn : ConnId) (w : SmallVec Stop) →
    AreConnectionLogs old rs → lookup (is_conn (conn_of r.entry)) old ≡ None → roomy.entries ≡ old → conn ≡ conn_of r.entry →
    new ≡ insert_entry is_conn roomy.entries conn w → IsConnectionLog (rs ++ r ∷ []) (conn_of r.entry) w.items → AreConnectionLogs new (rs ++ r ∷ [])
AreConnectionLogs-added old roomy new rs r conn w are absent same is put own =
    let none : lookup (is_conn conn) roomy.entries ≡ None =
    ap (lookup (is_conn conn)) same ∙ ap (λ (q : ConnId). lookup (is_conn q) old) is ∙ absent in
    let grown : new ≡ old ++ (conn_of r.entry, w) ∷ [] =
    put ∙ insert_entry-new is_conn roomy conn w none
    ∙ ap (λ (front : KeptLogs). front ++ (conn, w) ∷ []) same
    ∙ ap (λ (q : ConnId). old ++ (q, w) ∷ []) is in
    AreConnectionLogs-past old new rs r w.items are own
    (ap keys_of grown ∙ conns_added old (conn_of r.entry) w absent)
    (λ q. ap (λ (kept : KeptLogs). kept_log kept q) grown ∙ log_added old (conn_of r.entry) q w absent)

-- ---- the log at the index of the record's maker

module _ (logs : KeptLogs) (i : ℕ) (conn k : ConnId) (v : SmallVec Stop)
    (apart : IsDistinct is_conn (keys_of logs)) (at : slice_get logs i ≡ Some (k, v)) (here : slice_get (keys_of logs) i ≡ Some conn)
    (rs : List Record) (r : Record) (is : conn ≡ conn_of r.entry) (are : AreConnectionLogs logs rs) where
  meant : k ≡ conn_of r.entry
  meant = ap (λ o. unwrap_or o conn) (sym (key_at logs i k v at) ∙ here) ∙ is

  found : lookup (is_conn (conn_of r.entry)) logs ≡ Some v
  found = ap (λ c. lookup (is_conn c) logs) (sym meant) ∙ lookup_from_place is_conn-laws logs i k v apart at

  set : (w : SmallVec Stop) → set_value_at logs i w ≡ set_value (is_conn (conn_of r.entry)) logs w
  set w = set_at is_conn-laws logs i k v w apart at ∙ ap (λ c. set_value (is_conn c) logs w) meant

  -- it is the maker's
  pub log_there : IsConnectionLog rs (conn_of r.entry) v.items
  log_there = subst (IsConnectionLog rs (conn_of r.entry)) (ap or_no_log found) (are.1 (conn_of r.entry))

  -- the logs where it is set past the record
  pub logs_set : (w : SmallVec Stop) → IsConnectionLog (rs ++ r ∷ []) (conn_of r.entry) w.items → AreConnectionLogs (set_value_at logs i w) (rs ++ r ∷ [])
  logs_set w own =
      AreConnectionLogs-past logs (set_value_at logs i w) rs r w.items are own
      (ap keys_of (set w) ∙ conns_set logs (conn_of r.entry) w (ap is_some found))
      (λ q. ap (λ (kept : KeptLogs). kept_log kept q) (set w) ∙ log_set logs (conn_of r.entry) q w (ap is_some found))

  -- and where it is set to the stops that it had
  pub logs_same : (w : SmallVec Stop) → w.items ≡ v.items → AreConnectionLogs (set_value_at logs i w) rs
  logs_same w same = (
    ap keys_of (set w) ∙ keys-set_value (is_conn (conn_of r.entry)) logs w ∙ are.0,
    (λ q. subst (IsConnectionLog rs q) (sym (ap (λ (kept : KeptLogs). kept_log kept q) (set w) ∙ log_same logs (conn_of r.entry) q v w found same)) (are.1 q)),
  )
