-- entries as lines, both ways: `NODE.CONN PID UID GID CALL`, with `gone` for CALL where the connection ends
use Rattle.std.specs.Prelude.{ℕ, List, [], ◌∷◌, ◌++◌, codes, decimal, Option, Some, None, option_map, ◌&&◌, nat_le, if◌then◌else◌}
use Rattle.cpg_cred.specs.declared.nodes.TheConstants.{MOST_NODES}
use Rattle.cpg_entry.specs.declared.ranges.TheConstants.{MOST_CONNECTIONS}
use Rattle.cpg_entry.specs.declared.calls.Op.{Op}
use Rattle.cpg_entry.specs.declared.entries.Entry.{Entry}
use Rattle.cpg_record.specs.declared.connections.ConnId.{ConnId}
use Rattle.cpg_record.specs.Connections.{conn_of}
use Rattle.cpg_text.specs.Numbers.{number_in}
use Rattle.cpg_text.specs.Words.{◌>>=◌, u32_of, cut_at}
use Rattle.cpg_print.specs.declared.entries.Caller.{Caller}
use Rattle.cpg_print.specs.Calls.{op_of, op_text, is_enterable}

-- NODE.CONN
abbrev pub conn_text : ConnId → List ℕ
conn_text conn = decimal conn.node ++ codes "." ++ decimal conn.conn

-- NODE.CONN PID UID GID CALL
unfoldable pub entry_text : Entry → List ℕ
entry_text entry =
    conn_text (conn_of entry) ++ codes " " ++ decimal entry.pid ++ codes " " ++ decimal entry.cred.uid
    ++ codes " " ++ decimal entry.cred.gid ++ codes " " ++ op_text entry.op

-- the connection of NODE and CONN
abbrev pub conn_in_parts : List ℕ × List ℕ → Option ConnId
conn_in_parts parts = do
  node ← number_in 1 MOST_NODES parts.0
  conn ← number_in 1 MOST_CONNECTIONS parts.1
  Some (record { node = node; conn = conn })

-- the connection of NODE.CONN
abbrev pub conn_of_word : List ℕ → Option ConnId
conn_of_word word = cut_at 46 word >>= conn_in_parts

-- the connection of two numbers, where each is from 1 to its most
abbrev pub conn_in_limits : ℕ → ℕ → Option ConnId
conn_in_limits node conn =
    if (nat_le 1 node && nat_le node MOST_NODES) && (nat_le 1 conn && nat_le conn MOST_CONNECTIONS)
    then Some (record { node = node; conn = conn })
    else None

-- the connection of the first word, and the words after it
abbrev pub first_conn : List (List ℕ) → Option (ConnId × List (List ℕ))
first_conn [] = None
first_conn (word ∷ words) = option_map (λ conn. (conn, words)) (conn_of_word word)

-- who makes an entry, by NODE.CONN PID UID GID
abbrev pub caller_of : List ℕ → List ℕ → List ℕ → List ℕ → Option Caller
caller_of conn pid uid gid = do
  c ← conn_of_word conn
  p ← u32_of pid
  u ← u32_of uid
  g ← u32_of gid
  Some (record { conn = c; pid = p; cred = record { uid = u; gid = g } })

-- the entry of who makes it and its op
abbrev pub entry_by : Caller → Op → Entry
entry_by caller op = record { node = caller.conn.node; conn = caller.conn.conn; pid = caller.pid; cred = caller.cred; op = op }

-- the op of the words, within the limits of calls
abbrev pub enterable_op : List (List ℕ) → Option Op
enterable_op words = op_of words >>= λ op. if is_enterable op then Some op else None

-- the entry of a line's words
abbrev pub entry_of : List (List ℕ) → Option Entry
entry_of (conn ∷ pid ∷ uid ∷ gid ∷ words) = caller_of conn pid uid gid >>= λ caller. option_map (λ op. entry_by caller op) (enterable_op words)
entry_of _ = None
