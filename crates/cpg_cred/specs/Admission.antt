-- Admission, by this project's own rule: user 0, group 0, a listed user, a listed group, in this order.
use Rattle.std.specs.Prelude.{◌==◌, Option, Some, None, if◌then◌else◌}
use Rattle.cpg_cred.specs.Listed.{Listed, is_among}
use Rattle.cpg_cred.specs.declared.credentials.Cred.{Cred}
use Rattle.cpg_cred.specs.declared.admission.Via.{Via}
use Rattle.cpg_cred.specs.declared.admission.Via.TheVariants.{RootUser, RootGroup, User, Group}

-- the first of the four that lets the credentials in, if any does
abbrev pub via_of : Listed → Cred → Option Via
via_of list cred =
    if cred.uid == 0 then Some RootUser
    else if cred.gid == 0 then Some RootGroup
    else if is_among list.users cred.uid then Some User
    else if is_among list.groups cred.gid then Some Group
    else None
