-- what is told on standard error
use Rattle.std.specs.Prelude.{ℕ, Bool, true, false, ◌==◌, ◌&&◌, List, [], ◌++◌, codes, decimal, Option, Some, None, if◌then◌else◌}
use Rattle.cpg_cred.specs.declared.refusals.Refusal.{Refusal}
use Rattle.cpg_cred.specs.declared.refusals.Refusal.TheVariants.{Write}
use Rattle.cpg_text.specs.declared.faults.Fault as script
use Rattle.cpg_text.specs.Faults.{fault_text}
use Rattle.cpg_console.specs.declared.failures.Failure.{Failure}
use Rattle.cpg_why.specs.declared.asking.Missing as absent
use Rattle.cpg_record.specs.declared.connections.ConnId.{ConnId}
use Rattle.cpg_why.specs.declared.asking.Missing.TheVariants.{Entry, Event, Connection, Process}
use Rattle.cpg_console.specs.declared.failures.Among.{Among}
use Rattle.cpg_console.specs.declared.failures.Among.TheVariants.{Script, Delivered}
use Rattle.cpg_console.specs.declared.failures.Failure.TheVariants.{BadWord, Fault, Missing}

-- the line of a fault
abbrev pub error_line : script.Fault → List ℕ
error_line fault = codes "cpgring: " ++ fault_text fault ++ codes "\n"

-- a connection, NODE.CONN
abbrev pub conn_text : ConnId → List ℕ
conn_text conn = decimal conn.node ++ codes "." ++ decimal conn.conn

-- one of something, or more
abbrev pub one_or_more : ℕ → List ℕ → List ℕ → List ℕ
one_or_more count one more = decimal count ++ (if count == 1 then one else more)

-- the words before a connection and before a process that are not there
abbrev pub before_connection : Among → List ℕ
before_connection Script = codes "connection "
before_connection Delivered = codes "entry of "

abbrev pub before_process : Among → List ℕ
before_process Script = codes "connection of process "
before_process Delivered = codes "entry of process "

-- what is asked of and is not there, as it is named
abbrev pub absent_text : Among → absent.Missing → List ℕ
absent_text among (Entry place entries) = codes "entry " ++ decimal place
absent_text among (Event conn event events) = codes "event " ++ decimal event
absent_text among (Connection conn conns) = before_connection among ++ conn_text conn
absent_text among (Process pid conns) = before_process among ++ decimal pid

-- how many there are of what could be asked of
abbrev pub present_text : Among → absent.Missing → List ℕ
present_text among (Event conn event events) = conn_text conn ++ codes " was told " ++ decimal events
present_text Script (Entry place entries) = codes "the script has " ++ decimal entries
present_text Script (Connection conn conns) = codes "the script has " ++ decimal conns
present_text Script (Process pid conns) = codes "the script has " ++ decimal conns
present_text Delivered (Entry place entries) = one_or_more entries (codes " was delivered") (codes " were delivered")
present_text Delivered (Connection conn conns) = one_or_more conns (codes " connection has one") (codes " connections have one")
present_text Delivered (Process pid conns) = one_or_more conns (codes " connection has one") (codes " connections have one")

-- the line of what is asked of and is not there
abbrev pub missing_line : Among → absent.Missing → List ℕ
missing_line among what = codes "cpgring: there is no " ++ absent_text among what ++ codes ": " ++ present_text among what ++ codes "\n"

-- the line of a failure
abbrev pub failure_line : Failure → List ℕ
failure_line (Fault fault) = error_line fault
failure_line BadWord = codes "cpgring: bad accept word\n"
failure_line (Missing absent) = missing_line absent.among absent.what

-- the line of a failure, where there is one
abbrev pub error_text : Option Failure → List ℕ
error_text None = []
error_text (Some failure) = failure_line failure

-- the refusal tells that a stream could not be written
abbrev pub is_write : Refusal → Bool
is_write Write = true
is_write _ = false

-- the failure is one of writing
abbrev pub failed_to_write : Option Failure → Bool
failed_to_write (Some (Fault fault)) = is_write fault.refusal
failed_to_write _ = false

-- what is told of a failure: nothing of one of writing where the reader of standard output has left
abbrev pub told_text : Bool → Option Failure → List ℕ
told_text left failure = if left && failed_to_write failure then [] else error_text failure
