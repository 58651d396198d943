-- there are no more connections than entries
use Rattle.std.proofs.Common.{◌≡◌, ℕ, ◌+◌, ◌≤◌, Bool, true, false, cond, List, [], ◌∷◌, ◌++◌, length, map, refl, length-append, arith}
use Rattle.std.specs.List.{fold, list_any}
use Rattle.cpg_entry.specs.declared.entries.Entry.{Entry}
use Rattle.cpg_record.specs.declared.connections.ConnId.{ConnId}
use Rattle.cpg_record.specs.Connections.{conn_of, conns_of, is_conn, with_conn}

one_more : (conns : List ConnId) (conn : ConnId) (b : Bool) → length (cond b conns (conns ++ conn ∷ [])) ≤ length conns + 1
one_more conns conn true = omega arith
one_more conns conn false = omega (arith, length-append conns (conn ∷ []))

grown : (more conns : List ConnId) → length (fold with_conn conns more) ≤ length conns + length more
grown [] conns = omega arith
grown (conn ∷ more) conns = omega (arith, grown more (with_conn conns conn), one_more conns conn (list_any (is_conn conn) conns))

as_many : (entries : List Entry) → length (map conn_of entries) ≡ length entries
as_many [] = refl
as_many (entry ∷ entries) = omega (arith, as_many entries)

pub conns_few : (entries : List Entry) → length (conns_of entries) ≤ length entries
conns_few entries = omega (arith, grown (map conn_of entries) [], as_many entries)
