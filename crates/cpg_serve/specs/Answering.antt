-- What a client is answered at once, over what its node delivered.
use Rattle.std.specs.Prelude.{◌≡◌, ℕ, List, [], map, Option, Some, None, Result, Ok, Err, option_map, is_some, ◌==◌, if◌then◌else◌}
use Rattle.cpg_cred.specs.declared.bases.By.{By}
use Rattle.cpg_rules.specs.declared.rules.Asker.{Asker}
use Rattle.cpg_record.specs.declared.records.Record.{Record}
use Rattle.cpg_record.specs.Listings.{listing, AreGroups}
use Rattle.cpg_node.specs.Nodes.{NodeValue, open_client, asker_by}
use Rattle.cpg_ask.specs.declared.greetings.Greeting.{Greeting}
use Rattle.cpg_ask.specs.declared.statuses.Status.{Status}
use Rattle.cpg_ask.specs.declared.statuses.Status.TheVariants as status
use Rattle.cpg_ask.specs.Asks.{Want, Hello, Join, Leave, Send, Members, Groups, Insert, Remove, code_of}
use Rattle.cpg_ask.specs.Naming.{coded_name, plain}
use Rattle.cpg_ask.specs.Tells.{Tell, Answer, Greets, Listed, Named, Listing}

-- who asks, as rules see it, while the connection is open
abbrev pub asker_of : NodeValue → ℕ → Option Asker
asker_of x conn = option_map (asker_by x) (open_client x conn)

-- a version other than the first is not spoken here
abbrev pub hello_status : ℕ → Status
hello_status version = if version == 1 then status.Fine else status.Version

-- the members of a group, or that they may not be listed
abbrev pub members_told : ℕ → Result (List (ℕ × ℕ)) By → Tell
members_told tag (Ok members) = Listed tag status.Fine members
members_told tag (Err by) = Listed tag status.Access []

abbrev pub members_for : ℕ → List Record → List ℕ → Option Asker → Tell
members_for tag records group None = Listed tag status.Library []
members_for tag records group (Some asker) = members_told tag (listing records asker group)

-- the answer to an ask for the members of a group of that plain name
abbrev pub members_tell : ℕ → List Record → Option Asker → Option (List ℕ) → Tell
members_tell tag records asker None = Listed tag status.LongName []
members_tell tag records asker (Some group) = members_for tag records group asker

-- the members that are listed, if they may be
abbrev pub members_shown : Result (List (ℕ × ℕ)) By → List (ℕ × ℕ)
members_shown (Ok members) = members
members_shown (Err by) = []

abbrev pub members_of : List Record → Option Asker → List ℕ → List (ℕ × ℕ)
members_of records None group = []
members_of records (Some asker) group = members_shown (listing records asker group)

-- a group with its members, or without, where none are wanted
abbrev pub listing_of : List Record → Option Asker → ℕ → List ℕ → Listing
listing_of records asker wanted group = record { name = plain group; members = if wanted == 0 then [] else members_of records asker group }

-- the names are those of the groups that are asked for: with members, and which the asker may list
abbrev pub IsNamed : List Record → Option Asker → Want → List (List ℕ) → Type 0
IsNamed records None (Groups wanted) names = ⊥
IsNamed records (Some asker) (Groups wanted) names = AreGroups records asker names
IsNamed records asker _ names = names ≡ []

-- what is wrong with a call that names no group, or no rule
abbrev pub wrong_status : Want → Status
wrong_status (Insert rule name) = if is_some (coded_name name) then status.Param else status.LongName
wrong_status _ = status.LongName

abbrev pub wrong_tell : ℕ → Want → Tell
wrong_tell tag want = Answer (code_of want) tag (wrong_status want)

-- the answer to an ask that is no call, where these are the names of the groups
abbrev pub plain_tell : Greeting → Option Asker → List Record → List (List ℕ) → ℕ → Want → Tell
plain_tell greeting asker records names tag (Hello version wishes) = Greets tag (hello_status version) greeting
plain_tell greeting asker records names tag (Members name) = members_tell tag records asker (coded_name name)
plain_tell greeting asker records names tag (Groups wanted) = Named tag status.Fine (map (listing_of records asker wanted) names)
plain_tell greeting asker records names tag (Join name) = wrong_tell tag (Join name)
plain_tell greeting asker records names tag Leave = wrong_tell tag Leave
plain_tell greeting asker records names tag (Send message) = wrong_tell tag (Send message)
plain_tell greeting asker records names tag (Insert rule name) = wrong_tell tag (Insert rule name)
plain_tell greeting asker records names tag (Remove id name) = wrong_tell tag (Remove id name)
