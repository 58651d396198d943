-- the connection and the member that an entry speaks of, and the connections of entries
use Rattle.std.specs.Prelude.{Bool, ◌&&◌, ◌==◌, List, [], ◌∷◌, ◌++◌, map, if◌then◌else◌}
use Rattle.std.specs.List.{fold, list_any}
use Rattle.cpg_entry.specs.declared.entries.Entry.{Entry}
use Rattle.cpg_record.specs.declared.connections.ConnId.{ConnId}
use Rattle.cpg_record.specs.declared.memberships.Member.{Member}

-- the connection that made the entry
abbrev pub conn_of : Entry → ConnId
conn_of entry = record { node = entry.node; conn = entry.conn }

-- the two are one connection
abbrev pub is_conn : ConnId → ConnId → Bool
is_conn a b = (a.node == b.node) && (a.conn == b.conn)

-- the member that the entry's connection is, or would be
abbrev pub member_of : Entry → Member
member_of entry = record { node = entry.node; conn = entry.conn; pid = entry.pid }

-- the connection of a member
abbrev pub conn_in : Member → ConnId
conn_in member = record { node = member.node; conn = member.conn }

-- the connections with one more at the end, if it was absent
abbrev pub with_conn : List ConnId → ConnId → List ConnId
with_conn conns conn = if list_any (is_conn conn) conns then conns else conns ++ conn ∷ []

-- the connections of entries, each once, in the order of their first entries
abbrev pub conns_of : List Entry → List ConnId
conns_of entries = fold with_conn [] (map conn_of entries)
