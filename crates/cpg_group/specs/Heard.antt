-- a place that tells a connection something
use Rattle.std.specs.Prelude.{ℕ, List, Bool, is_some}
use Rattle.cpg_record.specs.declared.connections.ConnId.{ConnId}
use Rattle.cpg_record.specs.declared.records.Record.{Record}
use Rattle.cpg_record.specs.Connections.{conn_of, is_conn}
use Rattle.cpg_record.specs.Events.{news}
use Rattle.cpg_record.specs.Places.{records_before}

-- the records among which it was found, the connection and the place
pub record HeardValue : Type 0 where
  pub records : List Record
  pub conn : ConnId
  pub place : ℕ

-- whether the connection made the record's entry
abbrev pub is_maker : Record → ConnId → Bool
is_maker past conn = is_conn conn (conn_of past.entry)

-- whether the record of that place tells the connection anything beside the verdict
abbrev pub is_told_of : List Record → ℕ → Record → ConnId → Bool
is_told_of records place past conn = is_some (news place (records_before records place) past conn past.group)
