-- Rules, in both versions.
use Rattle.std.proofs.Common.{◌≡◌, ℕ, zero, suc, ◌+◌, ◌^◌, ◌<◌, Bool, true, false, cond, eqb, List, [], ◌∷◌, ◌++◌, Option, Some, None, refl, ap, subst, ◌∙◌, arith}
use Rattle.std.specs.Prelude.{IfSome}
use Rattle.byteorder.specs.Endian.{big_bytes}
use Rattle.std.proofs.lemmas.Bool.{eqb-true}
use Rattle.std.proofs.lemmas.Option.{cond_some}
use Rattle.cpg_rules.specs.declared.rules.Effect.{Effect}
use Rattle.cpg_rules.specs.declared.rules.Effect.TheVariants.{Allow, Deny}
use Rattle.cpg_rules.specs.declared.rules.Right.{Right}
use Rattle.cpg_rules.specs.declared.rules.Right.TheVariants as rights
use Rattle.cpg_rules.specs.declared.rules.Who.{Who}
use Rattle.cpg_rules.specs.declared.rules.Rule.{Rule}
use Rattle.cpg_wire.specs.declared.codes.Version.{Version}
use Rattle.cpg_wire.specs.declared.codes.Version.TheVariants.{One, Two}
use Rattle.cpg_wire.specs.declared.codes.Subject.{Subject}
use Rattle.cpg_wire.specs.declared.codes.Subject.TheVariants as subjects
use Rattle.cpg_wire.specs.Codes.{effect_code, effect_of, form_of, right_code, right_of, subject_code, subject_of, effects, all_rights, all_subjects}
use Rattle.cpg_entry.specs.Ranges.{Within}
use Rattle.cpg_entry.specs.Widths.{most_u32, IsU32, IsNode, WhoFits}
use Rattle.cpg_wire.specs.Versions.{HasRoom, given}
use Rattle.cpg_wire.specs.Spelling.{condition_bytes, single_bytes, who_bytes, rule_bytes}
use Rattle.cpg_wire.specs.Reading.{◌>>=◌, number_at, u8_at, u32_at, form_at, condition_at, conditions_at, value_at, single_at, who_at, rule_at}
use Rattle.cpg_wire.proofs.Readers.{IsBytes, IsBytes-rest, bind_some, some_is, Takes, Takes-then, ReadsBack, reads1, reads3, reads_then}
use Rattle.cpg_wire.proofs.ReadsNumbers.{number_reads, u8_reads, form_reads}
use Rattle.cpg_wire.proofs.ReadsFields.{u32_reads}

effect_reads : ReadsBack Effect (form_at effect_of) (λ form. effect_code form ∷ []) (λ form. Unit {0})
unfolding effect_of
effect_reads = form_reads Effect effect_code effects (λ (form : Effect). elim form as (λ form. form_of effect_code effects (effect_code form) ≡ Some form) [ Allow ↦ refl | Deny ↦ refl ])

right_reads : ReadsBack Right (form_at right_of) (λ form. right_code form ∷ []) (λ form. Unit {0})
unfolding right_of
right_reads = form_reads Right right_code all_rights (λ (form : Right). elim form as (λ form. form_of right_code all_rights (right_code form) ≡ Some form) [ rights.Join ↦ refl | rights.Send ↦ refl | rights.List ↦ refl | rights.Edit ↦ refl ])

subject_reads : ReadsBack Subject (form_at subject_of) (λ form. subject_code form ∷ []) (λ form. Unit {0})
unfolding subject_of
subject_reads = form_reads Subject subject_code all_subjects (λ (form : Subject). elim form as (λ form. form_of subject_code all_subjects (subject_code form) ≡ Some form) [ subjects.Any ↦ refl | subjects.Uid ↦ refl | subjects.Gid ↦ refl | subjects.Node ↦ refl ])

abbrev who_of : Option ℕ → Option ℕ → Option ℕ → Who
who_of uid gid node = record { uid = uid; gid = gid; node = node }

-- what may be spelled in that version
abbrev pub IsWhoIn : Version → Who → Type 0
IsWhoIn version who = WhoFits who × HasRoom version who

-- ---- version 2

-- a condition, if it came, and how many are left
abbrev Found : Type 0
Found = (Option ℕ × ℕ) × List ℕ

-- what is done once the byte of the subject was looked at
abbrev after_passed : ℕ → ℕ → ℕ → Bool × List ℕ → Option Found
after_passed low high left passed = cond passed.0 (number_at 4 low high passed.1 >>= λ value. Some ((Some value.0, left), value.1)) (Some ((None, suc left), passed.1))

condition_takes : (subject : Subject) (low high left : ℕ) (bytes : List ℕ) (x : Found) → high < 256 ^ 4 → IsBytes bytes → condition_at subject low high left bytes ≡ Some x → Takes bytes (condition_bytes subject x.0.0) x.1 × IfSome x.0.0 (Within low high) × (left ≡ given x.0.0 + x.0.1)
unfolding condition_at
condition_takes subject low high zero bytes x lt fits e =
    let made : Found = ((None, 0), bytes) in
    subst (λ (y : Found). Takes bytes (condition_bytes subject y.0.0) y.1 × IfSome y.0.0 (Within low high) × (0 ≡ given y.0.0 + y.0.1)) (some_is made x e) (record { parts = refl; rest_fits = fits }, tt, refl)
condition_takes subject low high (suc left) [] x lt fits e = absurd cc
condition_takes subject low high (suc left) (b ∷ rest) x lt fits e =
    let Goal : Found → Type 0 = λ y. Takes (b ∷ rest) (condition_bytes subject y.0.0) y.1 × IfSome y.0.0 (Within low high) × (suc left ≡ given y.0.0 + y.0.1) in
    let P : Bool → Type 0 = λ t. eqb b (subject_code subject) ≡ t → (cond t (Some (true, rest)) (Some (false, b ∷ rest)) >>= after_passed low high left) ≡ Some x → Goal x in
    let cases : (t : Bool) → P t = λ t. elim t as P [
      | true ↦ λ same found.
          let p = bind_some (number_at 4 low high rest) (λ value. Some ((Some value.0, left), value.1)) x found in
          let s = (number_reads 4 low high lt).takes rest p.0 (IsBytes-rest b rest fits) p.1 in
          let made : Found = ((Some p.0.0, left), p.0.1) in
          let eq : b ≡ subject_code subject = eqb-true b (subject_code subject) same in
          let taken : Takes (b ∷ rest) (subject_code subject ∷ big_bytes 4 p.0.0) p.0.1 = record { parts = ap (λ (w : List ℕ). b ∷ w) s.0.parts ∙ ap (λ (k : ℕ). k ∷ (big_bytes 4 p.0.0 ++ p.0.1)) eq; rest_fits = s.0.rest_fits } in
          let counted : suc left ≡ 1 + left = omega arith in
          subst Goal (some_is made x p.2) (taken, s.1, counted)
      | false ↦ λ same found.
          let made : Found = ((None, suc left), b ∷ rest) in
          let counted : suc left ≡ 0 + suc left = omega arith in
          subst Goal (some_is made x found) (record { parts = refl; rest_fits = fits }, tt, counted)
    ] in
    cases (eqb b (subject_code subject)) refl e

condition_again : (subject : Subject) (low high left n : ℕ) (rest : List ℕ) → high < 256 ^ 4 → Within low high n → condition_at subject low high (suc left) (subject_code subject ∷ (big_bytes 4 n ++ rest)) ≡ Some ((Some n, left), rest)
unfolding condition_at
condition_again subject low high left n rest lt h =
    let s = (number_reads 4 low high lt).again n rest h in
    let same : eqb (subject_code subject) (subject_code subject) ≡ true = grind arith in
    let bytes : List ℕ = big_bytes 4 n ++ rest in
    ap (λ (t : Bool). cond t (Some (true, bytes)) (Some (false, subject_code subject ∷ bytes)) >>= after_passed low high left) same
    ∙ ap (λ (o : Option (ℕ × List ℕ)). o >>= λ value. Some ((Some value.0, left), value.1)) s

-- what is done with the last condition
abbrev last : Option ℕ → Option ℕ → Found → Option (Who × List ℕ)
last uid gid node = cond (eqb node.0.1 0) (Some (who_of uid gid node.0.0, node.1)) None

abbrev after_gid : Option ℕ → Found → Option (Who × List ℕ)
after_gid uid gid = condition_at subjects.Node 1 8 gid.0.1 gid.1 >>= λ node. last uid gid.0.0 node

abbrev after_uid : Found → Option (Who × List ℕ)
after_uid uid = condition_at subjects.Gid 0 most_u32 uid.0.1 uid.1 >>= λ gid. after_gid uid.0.0 gid

abbrev after_count : ℕ × List ℕ → Option (Who × List ℕ)
after_count count = condition_at subjects.Uid 0 most_u32 count.0 count.1 >>= λ uid. after_uid uid

conditions_take : (bytes : List ℕ) (x : Who × List ℕ) → IsBytes bytes → conditions_at bytes ≡ Some x → Takes bytes (who_bytes Two x.0) x.1 × IsWhoIn Two x.0
unfolding conditions_at
conditions_take bytes x fits e =
    let p = bind_some (u8_at 0 3 bytes) after_count x e in
    let u = bind_some (condition_at subjects.Uid 0 most_u32 p.0.0 p.0.1) after_uid x p.2 in
    let g = bind_some (condition_at subjects.Gid 0 most_u32 u.0.0.1 u.0.1) (after_gid u.0.0.0) x u.2 in
    let m = bind_some (condition_at subjects.Node 1 8 g.0.0.1 g.0.1) (last u.0.0.0 g.0.0.0) x g.2 in
    let made : Who × List ℕ = (who_of u.0.0.0 g.0.0.0 m.0.0.0, m.0.1) in
    let k = cond_some (eqb m.0.0.1 0) made x m.2 in
    let s0 = (u8_reads 0 3).takes bytes p.0 fits p.1 in
    let s1 = condition_takes subjects.Uid 0 most_u32 p.0.0 p.0.1 u.0 (omega arith) s0.0.rest_fits u.1 in
    let s2 = condition_takes subjects.Gid 0 most_u32 u.0.0.1 u.0.1 g.0 (omega arith) s1.0.rest_fits g.1 in
    let s3 = condition_takes subjects.Node 1 8 g.0.0.1 g.0.1 m.0 (omega arith) s2.0.rest_fits m.1 in
    let none_left : m.0.0.1 ≡ 0 = eqb-true m.0.0.1 0 k.0 in
    let count : p.0.0 ≡ given u.0.0.0 + given g.0.0.0 + given m.0.0.0 = omega (arith, s1.2, s2.2, s3.2, none_left) in
    let two = Takes-then u.0.1 (condition_bytes subjects.Gid g.0.0.0) g.0.1 (condition_bytes subjects.Node m.0.0.0) m.0.1 s2.0 s3.0 in
    let three = Takes-then p.0.1 (condition_bytes subjects.Uid u.0.0.0) u.0.1 (condition_bytes subjects.Gid g.0.0.0 ++ condition_bytes subjects.Node m.0.0.0) m.0.1 s1.0 two in
    let all = Takes-then bytes (p.0.0 ∷ []) p.0.1 (condition_bytes subjects.Uid u.0.0.0 ++ (condition_bytes subjects.Gid g.0.0.0 ++ condition_bytes subjects.Node m.0.0.0)) m.0.1 s0.0 three in
    let whole = subst (λ (n : ℕ). Takes bytes (n ∷ (condition_bytes subjects.Uid u.0.0.0 ++ (condition_bytes subjects.Gid g.0.0.0 ++ condition_bytes subjects.Node m.0.0.0))) m.0.1) count all in
    subst (λ (y : Who × List ℕ). Takes bytes (who_bytes Two y.0) y.1 × IsWhoIn Two y.0) k.1 (whole, (record { uid = s1.1; gid = s2.1; node = s3.1 }, tt))

-- the steps after the count, one equation each
steps : (left : ℕ) (bytes : List ℕ) (u g : Found) (m : Option ℕ × List ℕ) → condition_at subjects.Uid 0 most_u32 left bytes ≡ Some u → condition_at subjects.Gid 0 most_u32 u.0.1 u.1 ≡ Some g → condition_at subjects.Node 1 8 g.0.1 g.1 ≡ Some ((m.0, 0), m.1)
    → after_count (left, bytes) ≡ Some (who_of u.0.0 g.0.0 m.0, m.1)
steps left bytes u g m e f h =
    ap (λ (o : Option Found). o >>= after_uid) e
    ∙ (ap (λ (o : Option Found). o >>= after_gid u.0.0) f
    ∙ ap (λ (o : Option Found). o >>= last u.0.0 g.0.0) h)

max32 : most_u32 < 256 ^ 4
max32 = omega arith

max8 : 8 < 256 ^ 4
max8 = omega arith

conditions_again : (u g m : Option ℕ) (rest : List ℕ) → IfSome u IsU32 → IfSome g IsU32 → IfSome m IsNode → conditions_at (who_bytes Two (who_of u g m) ++ rest) ≡ Some (who_of u g m, rest)
unfolding conditions_at condition_at
conditions_again None None None rest hu hg hm = refl
conditions_again (Some u) None None rest hu hg hm = steps 1 (1 ∷ (big_bytes 4 u ++ rest)) ((Some u, 0), rest) ((None, 0), rest) (None, rest) (condition_again subjects.Uid 0 most_u32 0 u rest max32 hu) refl refl
conditions_again None (Some g) None rest hu hg hm = steps 1 (2 ∷ (big_bytes 4 g ++ rest)) ((None, 1), 2 ∷ (big_bytes 4 g ++ rest)) ((Some g, 0), rest) (None, rest) refl (condition_again subjects.Gid 0 most_u32 0 g rest max32 hg) refl
conditions_again None None (Some m) rest hu hg hm = steps 1 (3 ∷ (big_bytes 4 m ++ rest)) ((None, 1), 3 ∷ (big_bytes 4 m ++ rest)) ((None, 1), 3 ∷ (big_bytes 4 m ++ rest)) (Some m, rest) refl refl (condition_again subjects.Node 1 8 0 m rest max8 hm)
conditions_again (Some u) (Some g) None rest hu hg hm = steps 2 (1 ∷ (big_bytes 4 u ++ (2 ∷ (big_bytes 4 g ++ rest)))) ((Some u, 1), 2 ∷ (big_bytes 4 g ++ rest)) ((Some g, 0), rest) (None, rest) (condition_again subjects.Uid 0 most_u32 1 u (2 ∷ (big_bytes 4 g ++ rest)) max32 hu) (condition_again subjects.Gid 0 most_u32 0 g rest max32 hg) refl
conditions_again (Some u) None (Some m) rest hu hg hm = steps 2 (1 ∷ (big_bytes 4 u ++ (3 ∷ (big_bytes 4 m ++ rest)))) ((Some u, 1), 3 ∷ (big_bytes 4 m ++ rest)) ((None, 1), 3 ∷ (big_bytes 4 m ++ rest)) (Some m, rest) (condition_again subjects.Uid 0 most_u32 1 u (3 ∷ (big_bytes 4 m ++ rest)) max32 hu) refl (condition_again subjects.Node 1 8 0 m rest max8 hm)
conditions_again None (Some g) (Some m) rest hu hg hm = steps 2 (2 ∷ (big_bytes 4 g ++ (3 ∷ (big_bytes 4 m ++ rest)))) ((None, 2), 2 ∷ (big_bytes 4 g ++ (3 ∷ (big_bytes 4 m ++ rest)))) ((Some g, 1), 3 ∷ (big_bytes 4 m ++ rest)) (Some m, rest) refl (condition_again subjects.Gid 0 most_u32 1 g (3 ∷ (big_bytes 4 m ++ rest)) max32 hg) (condition_again subjects.Node 1 8 0 m rest max8 hm)
conditions_again (Some u) (Some g) (Some m) rest hu hg hm = steps 3 (1 ∷ (big_bytes 4 u ++ (2 ∷ (big_bytes 4 g ++ (3 ∷ (big_bytes 4 m ++ rest)))))) ((Some u, 2), 2 ∷ (big_bytes 4 g ++ (3 ∷ (big_bytes 4 m ++ rest)))) ((Some g, 1), 3 ∷ (big_bytes 4 m ++ rest)) (Some m, rest) (condition_again subjects.Uid 0 most_u32 2 u (2 ∷ (big_bytes 4 g ++ (3 ∷ (big_bytes 4 m ++ rest)))) max32 hu) (condition_again subjects.Gid 0 most_u32 1 g (3 ∷ (big_bytes 4 m ++ rest)) max32 hg) (condition_again subjects.Node 1 8 0 m rest max8 hm)

conditions_read : ReadsBack Who conditions_at (who_bytes Two) (IsWhoIn Two)
conditions_read = record { takes = conditions_take; again = λ w rest h. conditions_again w.uid w.gid w.node rest h.0.uid h.0.gid h.0.node }

-- ---- version 1

abbrev value_text : Option ℕ → Option ℕ → Option ℕ → List ℕ
value_text None None None = big_bytes 4 0
value_text (Some n) g m = big_bytes 4 n
value_text None (Some n) m = big_bytes 4 n
value_text None None (Some n) = big_bytes 4 n

abbrev IsValue : Subject → Option ℕ → Option ℕ → Option ℕ → Type 0
IsValue subjects.Any None None None = Unit {0}
IsValue subjects.Uid (Some n) None None = IsU32 n
IsValue subjects.Gid None (Some n) None = IsU32 n
IsValue subjects.Node None None (Some n) = IsNode n
IsValue _ _ _ _ = ⊥

any_parts : (u g m : Option ℕ) → IsValue subjects.Any u g m → (n : ℕ) × (who_of None None None ≡ who_of u g m) × Within 0 0 n
any_parts None None None h = (0, refl, (omega arith, omega arith))
any_parts _ _ _ h = absurd h

uid_parts : (u g m : Option ℕ) → IsValue subjects.Uid u g m → (n : ℕ) × (who_of (Some n) None None ≡ who_of u g m) × IsU32 n
uid_parts (Some n) None None h = (n, refl, h)
uid_parts _ _ _ h = absurd h

gid_parts : (u g m : Option ℕ) → IsValue subjects.Gid u g m → (n : ℕ) × (who_of None (Some n) None ≡ who_of u g m) × IsU32 n
gid_parts None (Some n) None h = (n, refl, h)
gid_parts _ _ _ h = absurd h

node_parts : (u g m : Option ℕ) → IsValue subjects.Node u g m → (n : ℕ) × (who_of None None (Some n) ≡ who_of u g m) × IsNode n
node_parts None None (Some n) h = (n, refl, h)
node_parts _ _ _ h = absurd h

value_reads : (k : Subject) → ReadsBack Who (value_at k) (λ w. value_text w.uid w.gid w.node) (λ w. IsValue k w.uid w.gid w.node)
unfolding value_at
value_reads subjects.Any = reads1 ℕ Who (number_at 4 0 0) (big_bytes 4) (Within 0 0) (number_reads 4 0 0 (omega arith)) (λ n. who_of None None None) (λ w. value_text w.uid w.gid w.node) (λ w. IsValue subjects.Any w.uid w.gid w.node)
    (λ n h. let z : 0 ≡ n = omega (arith, h.1) in (ap (big_bytes 4) z, tt)) (λ w h. any_parts w.uid w.gid w.node h)
value_reads subjects.Uid = reads1 ℕ Who u32_at (big_bytes 4) IsU32 u32_reads (λ n. who_of (Some n) None None) (λ w. value_text w.uid w.gid w.node) (λ w. IsValue subjects.Uid w.uid w.gid w.node)
    (λ n h. (refl, h)) (λ w h. uid_parts w.uid w.gid w.node h)
value_reads subjects.Gid = reads1 ℕ Who u32_at (big_bytes 4) IsU32 u32_reads (λ n. who_of None (Some n) None) (λ w. value_text w.uid w.gid w.node) (λ w. IsValue subjects.Gid w.uid w.gid w.node)
    (λ n h. (refl, h)) (λ w h. gid_parts w.uid w.gid w.node h)
value_reads subjects.Node = reads1 ℕ Who (number_at 4 1 8) (big_bytes 4) IsNode (number_reads 4 1 8 (omega arith)) (λ n. who_of None None (Some n)) (λ w. value_text w.uid w.gid w.node) (λ w. IsValue subjects.Node w.uid w.gid w.node)
    (λ n h. (refl, h)) (λ w h. node_parts w.uid w.gid w.node h)

joined : (k : Subject) (u g m : Option ℕ) → IsValue k u g m → (single_bytes u g m ≡ subject_code k ∷ value_text u g m) × IsWhoIn One (who_of u g m)
joined subjects.Any None None None h = (refl, (record { uid = tt; gid = tt; node = tt }, omega arith))
joined subjects.Uid (Some n) None None h = (refl, (record { uid = h; gid = tt; node = tt }, omega arith))
joined subjects.Gid None (Some n) None h = (refl, (record { uid = tt; gid = h; node = tt }, omega arith))
joined subjects.Node None None (Some n) h = (refl, (record { uid = tt; gid = tt; node = h }, omega arith))
joined _ _ _ _ h = absurd h

chosen : (u g m : Option ℕ) → IsWhoIn One (who_of u g m) → (k : Subject) × Unit {0} × IsValue k u g m
chosen None None None h = (subjects.Any, tt, tt)
chosen (Some n) None None h = (subjects.Uid, tt, h.0.uid)
chosen None (Some n) None h = (subjects.Gid, tt, h.0.gid)
chosen None None (Some n) h = (subjects.Node, tt, h.0.node)
chosen (Some u) (Some g) None h = absurd (omega (arith, h.1))
chosen (Some u) None (Some m) h = absurd (omega (arith, h.1))
chosen None (Some g) (Some m) h = absurd (omega (arith, h.1))
chosen (Some u) (Some g) (Some m) h = absurd (omega (arith, h.1))

single_reads : ReadsBack Who single_at (who_bytes One) (IsWhoIn One)
unfolding single_at
single_reads = reads_then Subject Who (form_at subject_of) (λ k. subject_code k ∷ []) (λ k. Unit {0}) subject_reads
    value_at (λ w. value_text w.uid w.gid w.node) (λ k w. IsValue k w.uid w.gid w.node) (λ k h. value_reads k) (who_bytes One) (IsWhoIn One)
    (λ k w h i. joined k w.uid w.gid w.node i) (λ w h. chosen w.uid w.gid w.node h)

who_reads : (v : Version) → ReadsBack Who (who_at v) (who_bytes v) (IsWhoIn v)
who_reads One = single_reads
who_reads Two = conditions_read

pub rule_reads : (v : Version) → ReadsBack Rule (rule_at v) (rule_bytes v) (λ r. IsWhoIn v r.who)
unfolding rule_at
rule_reads v = reads3 Effect Right Who Rule
    (form_at effect_of) (λ e. effect_code e ∷ []) (λ e. Unit {0}) effect_reads
    (form_at right_of) (λ r. right_code r ∷ []) (λ r. Unit {0}) right_reads
    (who_at v) (who_bytes v) (IsWhoIn v) (who_reads v)
    (λ e r w. record { effect = e; right = r; who = w }) (rule_bytes v) (λ r. IsWhoIn v r.who)
    (λ e r w h i j. (refl, j)) (λ r h. (r.effect, r.right, r.who, refl, tt, tt, h))
