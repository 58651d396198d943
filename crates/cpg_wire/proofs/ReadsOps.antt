-- Ops.
use Rattle.std.proofs.Common.{◌≡◌, ℕ, ◌≤◌, List, [], ◌∷◌, ◌++◌, length, Option, Some, refl, sym, ap, subst}
use Rattle.byteorder.specs.Endian.{big_bytes}
use Rattle.cpg_rules.specs.declared.rules.Rule.{Rule}
use Rattle.cpg_entry.specs.Names.{IsName}
use Rattle.cpg_entry.specs.declared.calls.Call.TheVariants as calls
use Rattle.cpg_entry.specs.declared.calls.Op.{Op}
use Rattle.cpg_entry.specs.declared.calls.Op.TheVariants as ops
use Rattle.cpg_entry.specs.declared.messages.TheConstants.{MOST_MESSAGE_BYTES}
use Rattle.cpg_wire.specs.declared.codes.Version.{Version}
use Rattle.cpg_wire.specs.declared.codes.OpCode.{OpCode}
use Rattle.cpg_wire.specs.declared.codes.OpCode.TheVariants as codes
use Rattle.cpg_wire.specs.Codes.{form_of, op_code, op_code_of, all_ops}
use Rattle.cpg_entry.specs.Ranges.{Within, IsOp}
use Rattle.cpg_entry.specs.Widths.{IsU32, OpFits}
use Rattle.cpg_wire.specs.Versions.{FitsOp}
use Rattle.cpg_wire.specs.Spelling.{name_bytes, message_bytes, rule_bytes, op_bytes}
use Rattle.cpg_wire.specs.Reading.{u8_at, u32_at, form_at, name_at, message_at, rule_at, insert_at, remove_at, body_at, op_at}
use Rattle.cpg_wire.proofs.Readers.{IsBytes, Takes, ReadsBack, reads1, reads2, reads3, reads_then}
use Rattle.cpg_wire.proofs.ReadsNumbers.{u8_reads, form_reads}
use Rattle.cpg_wire.proofs.ReadsFields.{u32_reads, name_reads, message_reads}
use Rattle.cpg_wire.proofs.ReadsRules.{IsWhoIn, rule_reads}

code_reads : ReadsBack OpCode (form_at op_code_of) (λ form. op_code form ∷ []) (λ form. Unit {0})
unfolding op_code_of
code_reads = form_reads OpCode op_code all_ops (λ (form : OpCode). elim form as (λ form. form_of op_code all_ops (op_code form) ≡ Some form) [ codes.Join ↦ refl | codes.Leave ↦ refl | codes.Send ↦ refl | codes.Insert ↦ refl | codes.Remove ↦ refl | codes.Gone ↦ refl ])

-- what may be spelled in that version
abbrev pub IsOpIn : Version → Op → Type 0
IsOpIn version op = (IsOp op × OpFits op) × FitsOp version op

-- an op's bytes after its code
abbrev body_bytes : Version → Op → List ℕ
body_bytes v (ops.Act (calls.Join name)) = name_bytes name
body_bytes v (ops.Act calls.Leave) = []
body_bytes v (ops.Act (calls.Send message)) = message_bytes message
body_bytes v (ops.Act (calls.Insert name position rule)) = name_bytes name ++ (position ∷ rule_bytes v rule)
body_bytes v (ops.Act (calls.Remove name id)) = name_bytes name ++ big_bytes 4 id
body_bytes v ops.Gone = []

-- the op is of that code, and within its ranges
abbrev IsBody : Version → OpCode → Op → Type 0
IsBody v codes.Join (ops.Act (calls.Join name)) = IsName name
IsBody v codes.Leave (ops.Act calls.Leave) = Unit {0}
IsBody v codes.Send (ops.Act (calls.Send message)) = length message ≤ MOST_MESSAGE_BYTES
IsBody v codes.Insert (ops.Act (calls.Insert name position rule)) = IsName name × Within 0 255 position × IsWhoIn v rule.who
IsBody v codes.Remove (ops.Act (calls.Remove name id)) = IsName name × IsU32 id
IsBody v codes.Gone ops.Gone = Unit {0}
IsBody v _ _ = ⊥

join_parts : (v : Version) (o : Op) → IsBody v codes.Join o → (name : List ℕ) × (ops.Act (calls.Join name) ≡ o) × IsName name
join_parts v (ops.Act (calls.Join name)) h = (name, refl, h)
join_parts v _ h = absurd h

send_parts : (v : Version) (o : Op) → IsBody v codes.Send o → (message : List ℕ) × (ops.Act (calls.Send message) ≡ o) × (length message ≤ MOST_MESSAGE_BYTES)
send_parts v (ops.Act (calls.Send message)) h = (message, refl, h)
send_parts v _ h = absurd h

insert_parts : (v : Version) (o : Op) → IsBody v codes.Insert o → (name : List ℕ) × (position : ℕ) × (rule : Rule) × (ops.Act (calls.Insert name position rule) ≡ o) × IsName name × Within 0 255 position × IsWhoIn v rule.who
insert_parts v (ops.Act (calls.Insert name position rule)) h = (name, position, rule, refl, h.0, h.1, h.2)
insert_parts v _ h = absurd h

remove_parts : (v : Version) (o : Op) → IsBody v codes.Remove o → (name : List ℕ) × (id : ℕ) × (ops.Act (calls.Remove name id) ≡ o) × IsName name × IsU32 id
remove_parts v (ops.Act (calls.Remove name id)) h = (name, id, refl, h.0, h.1)
remove_parts v _ h = absurd h

-- an op that is its code alone
bare_takes : (bytes : List ℕ) (v : Version) (k : OpCode) (o : Op) (x : Op × List ℕ) → body_bytes v o ≡ [] → IsBody v k o → IsBytes bytes → ◌≡◌ {A = Option (Op × List ℕ)} (Some (o, bytes)) (Some x) → Takes bytes (body_bytes v x.0) x.1 × IsBody v k x.0
bare_takes bytes v k o x none is fits e =
    let made : Op × List ℕ = (o, bytes) in
    let same : made ≡ x = cc in
    subst (λ (y : Op × List ℕ). Takes bytes (body_bytes v y.0) y.1 × IsBody v k y.0) same (record { parts = ap (λ (t : List ℕ). t ++ bytes) (sym none); rest_fits = fits }, is)

leave_again : (v : Version) (o : Op) (rest : List ℕ) → IsBody v codes.Leave o → ◌≡◌ {A = Option (Op × List ℕ)} (Some (ops.Act calls.Leave, body_bytes v o ++ rest)) (Some (o, rest))
leave_again v (ops.Act calls.Leave) rest h = refl
leave_again v _ rest h = absurd h

gone_again : (v : Version) (o : Op) (rest : List ℕ) → IsBody v codes.Gone o → ◌≡◌ {A = Option (Op × List ℕ)} (Some (ops.Gone, body_bytes v o ++ rest)) (Some (o, rest))
gone_again v ops.Gone rest h = refl
gone_again v _ rest h = absurd h

insert_reads : (v : Version) → ReadsBack Op (insert_at v) (body_bytes v) (IsBody v codes.Insert)
unfolding insert_at
insert_reads v = reads3 (List ℕ) ℕ Rule Op name_at name_bytes IsName name_reads (u8_at 0 255) (λ p. p ∷ []) (Within 0 255) (u8_reads 0 255) (rule_at v) (rule_bytes v) (λ r. IsWhoIn v r.who) (rule_reads v)
    (λ g p r. ops.Act (calls.Insert g p r)) (body_bytes v) (IsBody v codes.Insert) (λ g p r h i j. (refl, (h, i, j))) (insert_parts v)

remove_reads : (v : Version) → ReadsBack Op remove_at (body_bytes v) (IsBody v codes.Remove)
unfolding remove_at
remove_reads v = reads2 (List ℕ) ℕ Op name_at name_bytes IsName name_reads (λ g. u32_at) (λ g. big_bytes 4) (λ g. IsU32) (λ g h. u32_reads)
    (λ g i. ops.Act (calls.Remove g i)) (body_bytes v) (IsBody v codes.Remove) (λ g i h j. (refl, (h, j))) (remove_parts v)

body_reads : (v : Version) (k : OpCode) → ReadsBack Op (body_at v k) (body_bytes v) (IsBody v k)
unfolding body_at
body_reads v codes.Join = reads1 (List ℕ) Op name_at name_bytes IsName name_reads (λ g. ops.Act (calls.Join g)) (body_bytes v) (IsBody v codes.Join) (λ g h. (refl, h)) (join_parts v)
body_reads v codes.Leave = record { takes = λ bytes x fits e. bare_takes bytes v codes.Leave (ops.Act calls.Leave) x refl tt fits e; again = λ o rest h. leave_again v o rest h }
body_reads v codes.Send = reads1 (List ℕ) Op message_at message_bytes (λ m. length m ≤ MOST_MESSAGE_BYTES) message_reads (λ m. ops.Act (calls.Send m)) (body_bytes v) (IsBody v codes.Send) (λ m h. (refl, h)) (send_parts v)
body_reads v codes.Insert = insert_reads v
body_reads v codes.Remove = remove_reads v
body_reads v codes.Gone = record { takes = λ bytes x fits e. bare_takes bytes v codes.Gone ops.Gone x refl tt fits e; again = λ o rest h. gone_again v o rest h }

op_joined : (v : Version) (k : OpCode) (o : Op) → IsBody v k o → (op_bytes v o ≡ op_code k ∷ body_bytes v o) × IsOpIn v o
op_joined v codes.Join (ops.Act (calls.Join name)) h = (refl, ((h, tt), tt))
op_joined v codes.Leave (ops.Act calls.Leave) h = (refl, ((tt, tt), tt))
op_joined v codes.Send (ops.Act (calls.Send message)) h = (refl, ((h, tt), tt))
op_joined v codes.Insert (ops.Act (calls.Insert name position rule)) h = (refl, ((h.0, (h.1, h.2.0)), h.2.1))
op_joined v codes.Remove (ops.Act (calls.Remove name id)) h = (refl, ((h.0, h.1), tt))
op_joined v codes.Gone ops.Gone h = (refl, ((tt, tt), tt))
op_joined v _ _ h = absurd h

op_parts : (v : Version) (o : Op) → IsOpIn v o → (k : OpCode) × Unit {0} × IsBody v k o
op_parts v (ops.Act (calls.Join name)) h = (codes.Join, tt, h.0.0)
op_parts v (ops.Act calls.Leave) h = (codes.Leave, tt, tt)
op_parts v (ops.Act (calls.Send message)) h = (codes.Send, tt, h.0.0)
op_parts v (ops.Act (calls.Insert name position rule)) h = (codes.Insert, tt, (h.0.0, h.0.1.0, (h.0.1.1, h.1)))
op_parts v (ops.Act (calls.Remove name id)) h = (codes.Remove, tt, (h.0.0, h.0.1))
op_parts v ops.Gone h = (codes.Gone, tt, tt)

pub op_reads : (v : Version) → ReadsBack Op (op_at v) (op_bytes v) (IsOpIn v)
unfolding op_at
op_reads v = reads_then OpCode Op (form_at op_code_of) (λ k. op_code k ∷ []) (λ k. Unit {0}) code_reads
    (body_at v) (body_bytes v) (IsBody v) (λ k h. body_reads v k) (op_bytes v) (IsOpIn v)
    (λ k o h i. op_joined v k o i) (λ o h. op_parts v o h)
