-- The bytes that choose a form, and what each stands for. The numbers are this project's own.
use Rattle.std.specs.Prelude.{ℕ, ◌==◌, List, [], ◌∷◌, Option}
use Rattle.std.specs.List.{find}
use Rattle.cpg_rules.specs.declared.rules.Effect.{Effect}
use Rattle.cpg_rules.specs.declared.rules.Effect.TheVariants.{Allow, Deny}
use Rattle.cpg_rules.specs.declared.rules.Right.{Right}
use Rattle.cpg_rules.specs.declared.rules.Right.TheVariants as rights
use Rattle.cpg_wire.specs.declared.codes.Version.{Version}
use Rattle.cpg_wire.specs.declared.codes.Version.TheVariants.{One, Two}
use Rattle.cpg_wire.specs.declared.codes.Kind.{Kind}
use Rattle.cpg_wire.specs.declared.codes.Kind.TheVariants as kinds
use Rattle.cpg_wire.specs.declared.codes.OpCode.{OpCode}
use Rattle.cpg_wire.specs.declared.codes.OpCode.TheVariants as ops
use Rattle.cpg_wire.specs.declared.codes.Subject.{Subject}
use Rattle.cpg_wire.specs.declared.codes.Subject.TheVariants as subjects

-- the byte of a version
abbrev pub version_code : Version → ℕ
version_code One = 1
version_code Two = 2

-- the byte of what a frame carries
abbrev pub kind_code : Kind → ℕ
kind_code kinds.Data = 1
kind_code kinds.Token = 2

-- the byte of an op
abbrev pub op_code : OpCode → ℕ
op_code ops.Join = 1
op_code ops.Leave = 2
op_code ops.Send = 3
op_code ops.Insert = 4
op_code ops.Remove = 5
op_code ops.Gone = 6

-- the byte of a rule's effect
abbrev pub effect_code : Effect → ℕ
effect_code Allow = 1
effect_code Deny = 2

-- the byte of a rule's right
abbrev pub right_code : Right → ℕ
right_code rights.Join = 1
right_code rights.Send = 2
right_code rights.List = 3
right_code rights.Edit = 4

-- the byte of what a condition speaks of
abbrev pub subject_code : Subject → ℕ
subject_code subjects.Any = 0
subject_code subjects.Uid = 1
subject_code subjects.Gid = 2
subject_code subjects.Node = 3

-- the one of these forms that has that code
abbrev pub form_of : {Form : Type 0} → (Form → ℕ) → List Form → ℕ → Option Form
form_of code forms byte = find (λ form. code form == byte) forms

-- the versions
abbrev pub versions : List Version
versions = One ∷ Two ∷ []

-- the version that a byte stands for
unfoldable pub version_of : ℕ → Option Version
version_of byte = form_of version_code versions byte

-- what a frame may carry
abbrev pub all_kinds : List Kind
all_kinds = kinds.Data ∷ kinds.Token ∷ []

-- what a byte says of what a frame carries
unfoldable pub kind_of : ℕ → Option Kind
kind_of byte = form_of kind_code all_kinds byte

-- the ops
abbrev pub all_ops : List OpCode
all_ops = ops.Join ∷ ops.Leave ∷ ops.Send ∷ ops.Insert ∷ ops.Remove ∷ ops.Gone ∷ []

-- the op that a byte stands for
unfoldable pub op_code_of : ℕ → Option OpCode
op_code_of byte = form_of op_code all_ops byte

-- the effects
abbrev pub effects : List Effect
effects = Allow ∷ Deny ∷ []

-- the effect that a byte stands for
unfoldable pub effect_of : ℕ → Option Effect
effect_of byte = form_of effect_code effects byte

-- the rights
abbrev pub all_rights : List Right
all_rights = rights.Join ∷ rights.Send ∷ rights.List ∷ rights.Edit ∷ []

-- the right that a byte stands for
unfoldable pub right_of : ℕ → Option Right
right_of byte = form_of right_code all_rights byte

-- what a condition of version 1 may speak of
abbrev pub all_subjects : List Subject
all_subjects = subjects.Any ∷ subjects.Uid ∷ subjects.Gid ∷ subjects.Node ∷ []

-- what a byte says of what a condition speaks of
unfoldable pub subject_of : ℕ → Option Subject
subject_of byte = form_of subject_code all_subjects byte
