-- steps of the reading functions, which no contract of a public function cites
use Rattle.std.specs.Prelude.{ℕ, List, Option, Some, None}
use Rattle.cpg_conf.specs.Names.{Naming, Nothing}
use Rattle.cpg_accept.specs.Accounts.{naming}
use Rattle.cpg_accept.specs.declared.admit.accounts.Account.{Account}
use Rattle.cpg_accept.specs.declared.admit.accounts.Book.{Book}

-- the name and the number, as a naming
abbrev pub named_by : {R : Type 0} → (R → List ℕ) → Book → Option (R × ℕ) → Naming
named_by bytes book None = Nothing
named_by bytes book (Some account) = naming book (bytes account.0) account.1

-- what an account that was read says
abbrev pub account_seen : Book → Account → Naming
account_seen book account = named_by (λ name. name.now) book account.named
