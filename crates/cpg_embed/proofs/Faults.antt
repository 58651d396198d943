-- What texts that are read, or not, say of the opening.
use Rattle.std.proofs.Common.{◌≡◌, sym, ap, subst, inl, inr}
use Rattle.std.specs.Prelude.{ℕ, List, Result, Ok, Err}
use Rattle.cpg_cred.specs.declared.refusals.Refusal.{Refusal}
use Rattle.cpg_cred.specs.Listed.{Listed}
use Rattle.cpg_conf.specs.Listed.{FailsBy, Grows, listed, nothing}
use Rattle.cpg_conf.specs.Names.{Known}
use Rattle.cpg_embed.specs.Endpoints.{EndpointValue}
use Rattle.cpg_embed.specs.Opening.{IsOpened, IsFaultOf, IsListOf, IsListOpened, IsConfOpened, TellsNoFault, fault_in, no_fault}
use Rattle.cpg_embed.specs.declared.opening.Setup.{Setup}
use Rattle.cpg_embed.specs.declared.opening.Fault.{Fault}
use Rattle.cpg_cred.specs.Shown.{number}

-- a refusal to read is the text's fault, where it has one, and else a want of memory
pub refused_text : {A : Type 0} (text : ℕ) (read : Result A Refusal) (why : Refusal) → FailsBy read why → IsFaultOf text read (number why) (fault_in text why)
refused_text text (Err fault) why is = (ap number is, ap (fault_in text) is)
refused_text text (Ok read) why is = (ap number is, ap (fault_in text) is)

-- two texts that were read tell no fault
no_fault_told : (answer : Result EndpointValue ℕ) (fault : Fault) → fault ≡ no_fault → TellsNoFault answer fault
no_fault_told (Ok e) fault none = none
no_fault_told (Err status) fault none = inl none

-- a conf text that was read, and what was opened with its list
opened_list : (setup : Setup) (read : Result Listed Refusal) (list : Listed) (answer : Result EndpointValue ℕ) (fault : Fault) → Grows read nothing list → IsOpened setup list answer → fault ≡ no_fault → IsListOpened setup read answer fault
opened_list setup (Ok more) list answer fault grows opened none = (subst (λ (l : Listed). IsOpened setup l answer) grows opened, no_fault_told answer fault none)
opened_list setup (Err why) list answer fault grows opened none = absurd grows

-- the same with the names text before it, where both were read
pub opened_conf : (setup : Setup) (known : Result Known Refusal) (conf : List ℕ) (list : Listed) (answer : Result EndpointValue ℕ) (fault : Fault) → IsListOf known conf (Ok list) fault → IsOpened setup list answer → IsConfOpened setup known conf answer fault
opened_conf setup (Ok names) conf list answer fault read opened = inl (opened_list setup (listed names conf) list answer fault read.0 opened read.1)
opened_conf setup (Err why) conf list answer fault read opened = absurd read

-- a conf text that was not read opens nothing
unopened_list : (setup : Setup) (read : Result Listed Refusal) (status : ℕ) (fault : Fault) → IsFaultOf 2 read status fault → IsListOpened setup read (Err status) fault
unopened_list setup (Err why) status fault of = (ap Err of.0, of.1)
unopened_list setup (Ok more) status fault of = (inr of.0, inr of.1)

-- nor does one whose names text was not read
pub unopened_conf : (setup : Setup) (known : Result Known Refusal) (conf : List ℕ) (status : ℕ) (fault : Fault) → IsListOf known conf (Err status) fault → IsConfOpened setup known conf (Err status) fault
unopened_conf setup (Err why) conf status fault of = (ap Err of.0, of.1)
unopened_conf setup (Ok names) conf status fault (inl of) = inl (unopened_list setup (listed names conf) status fault of)
unopened_conf setup (Ok names) conf status fault (inr of) = inr (ap Err of.0, of.1)

-- both texts were read
pub read_both : (known : Result Known Refusal) (names : Known) (conf : List ℕ) (list : Listed) (fault : Fault) → known ≡ Ok names → Grows (listed names conf) nothing list → fault ≡ no_fault → IsListOf known conf (Ok list) fault
read_both known names conf list fault is grows none = subst (λ (k : Result Known Refusal). IsListOf k conf (Ok list) fault) (sym is) (grows, none)

-- the conf text was not read
pub unread_conf : (known : Result Known Refusal) (names : Known) (conf : List ℕ) (status : ℕ) (fault : Fault) → known ≡ Ok names → IsFaultOf 2 (listed names conf) status fault → IsListOf known conf (Err status) fault
unread_conf known names conf status fault is of = subst (λ (k : Result Known Refusal). IsListOf k conf (Err status) fault) (sym is) (inl of)

-- the names text was not read
pub unread_names : (known : Result Known Refusal) (conf : List ℕ) (status : ℕ) (fault : Fault) → IsFaultOf 1 known status fault → IsListOf known conf (Err status) fault
unread_names (Err why) conf status fault of = of
unread_names (Ok names) conf status fault of = inr of
