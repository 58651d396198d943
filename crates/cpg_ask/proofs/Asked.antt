-- What is spelled is read again, and what is read is spelled so.
use Rattle.std.proofs.Common.{◌≡◌, ℕ, ◌+◌, ◌≤◌, Bool, true, false, cond, eqb, ltb, List, [], ◌++◌, length, drop, Option, Some, None, refl, sym, ap, subst, ◌∙◌, arith}
use Rattle.byteorder.specs.Endian.{little_bytes}
use Rattle.std.proofs.lemmas.Bool.{eqb-true, le-ltb, ltb-false}
use Rattle.std.proofs.lemmas.List.{nil_from_length, take_at, drop_at, append_cancel_left}
use Rattle.std.proofs.lemmas.Option.{cond_some}
use Rattle.cpg_wire.specs.Reading.{◌>>=◌, text_at}
use Rattle.cpg_wire.proofs.Readers.{IsBytes, IsBytes-take, bind_some, some_is}
use Rattle.cpg_wire.proofs.ReadsNumbers.{form_of_code, text_reads}
use Rattle.cpg_ask.specs.declared.heads.Head.{Head}
use Rattle.cpg_ask.specs.declared.rules.RuleWords.{RuleWords}
use Rattle.cpg_ask.specs.declared.asks.TheConstants.{MOST_ASK}
use Rattle.cpg_ask.specs.declared.codes.AskCode.{AskCode}
use Rattle.cpg_ask.specs.declared.codes.AskCode.TheVariants as codes
use Rattle.cpg_ask.specs.Numbers.{little_at}
use Rattle.cpg_ask.specs.Heads.{head_bytes, head_at, HeadFits}
use Rattle.cpg_ask.specs.Rules.{rule_at}
use Rattle.cpg_ask.specs.Codes.{ask_code, ask_code_of, all_codes}
use Rattle.cpg_ask.specs.Asks.{Want, Hello, Join, Leave, Send, Members, Groups, Insert, Remove, Ask, Reading, Whole, Broken, code_of}
use Rattle.cpg_ask.specs.Reading.{if_whole, hello_in, groups_in, insert_in, remove_in, asked_in, want_in, whole_of, told_in, behind, read_of}
use Rattle.cpg_ask.specs.Spelling.{content, head_of, spelling, WantFits, IsAsk}
use Rattle.cpg_ask.proofs.Littles.{u32_reads}
use Rattle.cpg_ask.proofs.Fields.{head_reads, rule_reads, code_few}

-- ---- from asks to bytes and back

want_again : (want : Want) → WantFits want → want_in (ask_code (code_of want)) (content want) ≡ Some want
unfolding want_in asked_in ask_code_of hello_in groups_in insert_in remove_in
want_again (Hello version wishes) h =
    ap (λ (o : Option (ℕ × List ℕ)). o >>= λ x. little_at 4 x.1 >>= λ y. if_whole (Hello x.0 y.0) y.1) (u32_reads.again version (little_bytes 4 wishes) h.0)
    ∙ ap (λ (o : Option (ℕ × List ℕ)). o >>= λ y. if_whole (Hello version y.0) y.1) (u32_reads.again wishes [] h.1)
want_again (Join name) h = refl
want_again Leave h = refl
want_again (Send message) h = refl
want_again (Members name) h = refl
want_again (Groups members) h = ap (λ (o : Option (ℕ × List ℕ)). o >>= λ x. if_whole (Groups x.0) x.1) (u32_reads.again members [] h)
want_again (Insert rule name) h = ap (λ (o : Option (RuleWords × List ℕ)). o >>= λ x. Some (Insert x.0 x.1)) (rule_reads.again rule name h)
want_again (Remove id name) h = ap (λ (o : Option (ℕ × List ℕ)). o >>= λ x. Some (Remove x.0 x.1)) (u32_reads.again id name h)

head_fits : (ask : Ask) → IsAsk ask → HeadFits (head_of ask)
head_fits ask h = record { count = omega (arith, h.short); kind = omega (arith, code_few (code_of ask.want)); tag = h.tag }

pub read_again : (ask : Ask) (more : List ℕ) → IsAsk ask → read_of (spelling ask ++ more) ≡ Whole ask (length (spelling ask))
unfolding read_of
read_again ask more h =
    let text : List ℕ = content ask.want in
    let short : ltb MOST_ASK (length text) ≡ false = le-ltb _ _ h.short in
    let found : text_at (length text) (text ++ more) ≡ Some (text, more) = (text_reads (length text)).again text more refl in
    let count : 8 + length text ≡ length (spelling ask) = omega arith in
    ap behind (head_reads.again (head_of ask) (text ++ more) (head_fits ask h)) ∙ rw (short, found, want_again ask.want h.fits) (ap (λ (c : ℕ). Whole ask c) count)

-- ---- from bytes to asks

code_law : (kind : ℕ) (code : AskCode) → ask_code_of kind ≡ Some code → ask_code code ≡ kind
unfolding ask_code_of
code_law kind code e = form_of_code AskCode ask_code all_codes kind code e

-- the bytes are what the ask of that code says
abbrev Says : AskCode → List ℕ → Want → Type 0
Says code text want = (code ≡ code_of want) × (text ≡ content want) × WantFits want

if_whole_is : (made want : Want) (rest : List ℕ) → if_whole made rest ≡ Some want → (rest ≡ []) × (made ≡ want)
if_whole_is made want rest e =
    let g = cond_some (eqb (length rest) 0) made want e in
    (nil_from_length rest (eqb-true (length rest) 0 g.0), g.1)

hello_found : (text : List ℕ) (want : Want) → IsBytes text → hello_in text ≡ Some want → Says codes.Hello text want
unfolding hello_in
hello_found text want fits e =
    let p = bind_some (little_at 4 text) (λ x. little_at 4 x.1 >>= λ y. if_whole (Hello x.0 y.0) y.1) want e in
    let q = bind_some (little_at 4 p.0.1) (λ y. if_whole (Hello p.0.0 y.0) y.1) want p.2 in
    let t = u32_reads.takes text p.0 fits p.1 in
    let u = u32_reads.takes p.0.1 q.0 t.0.rest_fits q.1 in
    let g = if_whole_is (Hello p.0.0 q.0.0) want q.0.1 q.2 in
    let all : text ≡ little_bytes 4 p.0.0 ++ little_bytes 4 q.0.0 =
    t.0.parts ∙ ap (λ (r : List ℕ). little_bytes 4 p.0.0 ++ r) (u.0.parts ∙ ap (λ (r : List ℕ). little_bytes 4 q.0.0 ++ r) g.0) in
    subst (λ (w : Want). Says codes.Hello text w) g.1 (refl, all, (t.1, u.1))

groups_found : (text : List ℕ) (want : Want) → IsBytes text → groups_in text ≡ Some want → Says codes.Groups text want
unfolding groups_in
groups_found text want fits e =
    let p = bind_some (little_at 4 text) (λ x. if_whole (Groups x.0) x.1) want e in
    let t = u32_reads.takes text p.0 fits p.1 in
    let g = if_whole_is (Groups p.0.0) want p.0.1 p.2 in
    let all : text ≡ little_bytes 4 p.0.0 = t.0.parts ∙ ap (λ (r : List ℕ). little_bytes 4 p.0.0 ++ r) g.0 in
    subst (λ (w : Want). Says codes.Groups text w) g.1 (refl, all, t.1)

insert_found : (text : List ℕ) (want : Want) → IsBytes text → insert_in text ≡ Some want → Says codes.Insert text want
unfolding insert_in
insert_found text want fits e =
    let p = bind_some (rule_at text) (λ x. Some (Insert x.0 x.1)) want e in
    let t = rule_reads.takes text p.0 fits p.1 in
    subst (λ (w : Want). Says codes.Insert text w) (some_is (Insert p.0.0 p.0.1) want p.2) (refl, t.0.parts, t.1)

remove_found : (text : List ℕ) (want : Want) → IsBytes text → remove_in text ≡ Some want → Says codes.Remove text want
unfolding remove_in
remove_found text want fits e =
    let p = bind_some (little_at 4 text) (λ x. Some (Remove x.0 x.1)) want e in
    let t = u32_reads.takes text p.0 fits p.1 in
    subst (λ (w : Want). Says codes.Remove text w) (some_is (Remove p.0.0 p.0.1) want p.2) (refl, t.0.parts, t.1)

asked_found : (code : AskCode) (text : List ℕ) (want : Want) → IsBytes text → asked_in code text ≡ Some want → Says code text want
unfolding asked_in
asked_found codes.Hello text want fits e = hello_found text want fits e
asked_found codes.Join text want fits e = subst (λ (w : Want). Says codes.Join text w) (some_is (Join text) want e) (refl, refl, tt)
asked_found codes.Leave text want fits e =
    let g = if_whole_is Leave want text e in
    subst (λ (w : Want). Says codes.Leave text w) g.1 (refl, g.0, tt)
asked_found codes.Send text want fits e = subst (λ (w : Want). Says codes.Send text w) (some_is (Send text) want e) (refl, refl, tt)
asked_found codes.Members text want fits e = subst (λ (w : Want). Says codes.Members text w) (some_is (Members text) want e) (refl, refl, tt)
asked_found codes.Groups text want fits e = groups_found text want fits e
asked_found codes.Insert text want fits e = insert_found text want fits e
asked_found codes.Remove text want fits e = remove_found text want fits e

want_found : (kind : ℕ) (text : List ℕ) (want : Want) → IsBytes text → want_in kind text ≡ Some want → (kind ≡ ask_code (code_of want)) × (text ≡ content want) × WantFits want
unfolding want_in
want_found kind text want fits e =
    let p = bind_some (ask_code_of kind) (λ code. asked_in code text) want e in
    let s = asked_found p.0 text want fits p.2 in
    (sym (code_law kind p.0 p.1) ∙ ap ask_code s.0, s.1, s.2)

whole_is : (tag n : ℕ) (o : Option Want) (ask : Ask) (count : ℕ) → whole_of tag n o ≡ Whole ask count → (o ≡ Some ask.want) × (tag ≡ ask.tag) × (n ≡ count)
whole_is tag n None ask count e = absurd cc
whole_is tag n (Some want) ask count e =
    let made : Ask = record { tag = tag; want = want } in
    let same : made ≡ ask = cc in
    let counted : n ≡ count = cc in
    (ap (λ (a : Ask). Some a.want) same, ap (λ (a : Ask). a.tag) same, counted)

told_is : (head : Head) (o : Option (List ℕ × List ℕ)) (ask : Ask) (count : ℕ) → told_in head o ≡ Whole ask count
    → (t : List ℕ × List ℕ) × (o ≡ Some t) × (want_in head.kind t.0 ≡ Some ask.want) × (head.tag ≡ ask.tag) × (8 + head.count ≡ count)
told_is head None ask count e = absurd cc
told_is head (Some t) ask count e =
    let w = whole_is head.tag (8 + head.count) (want_in head.kind t.0) ask count e in
    (t, refl, w.0, w.1, w.2)

not_long : (b : Bool) (r : Reading) (ask : Ask) (count : ℕ) → cond b Broken r ≡ Whole ask count → (b ≡ false) × (r ≡ Whole ask count)
not_long true r ask count e = absurd cc
not_long false r ask count e = (refl, e)

behind_is : (o : Option (Head × List ℕ)) (ask : Ask) (count : ℕ) → behind o ≡ Whole ask count
    → (x : Head × List ℕ) × (o ≡ Some x) × (x.0.count ≤ MOST_ASK) × (told_in x.0 (text_at x.0.count x.1) ≡ Whole ask count)
behind_is None ask count e = absurd cc
behind_is (Some x) ask count e =
    let g = not_long (ltb MOST_ASK x.0.count) (told_in x.0 (text_at x.0.count x.1)) ask count e in
    (x, refl, ltb-false MOST_ASK x.0.count g.0, g.1)

front_fits : (a b : List ℕ) → IsBytes (a ++ b) → IsBytes a
front_fits a b h = subst IsBytes (take_at a b (length a) refl) (IsBytes-take (length a) (a ++ b) h)

head_same : (head : Head) (count kind tag : ℕ) → head.count ≡ count → head.kind ≡ kind → head.tag ≡ tag → head_bytes head ≡ head_bytes (record { count = count; kind = kind; tag = tag })
head_same head count kind tag a b c =
    ap (λ (n : ℕ). head_bytes (record { count = n; kind = head.kind; tag = head.tag })) a
    ∙ (ap (λ (n : ℕ). head_bytes (record { count = count; kind = n; tag = head.tag })) b
    ∙ ap (λ (n : ℕ). head_bytes (record { count = count; kind = kind; tag = n })) c)

pub read_found : (bytes : List ℕ) (ask : Ask) (count : ℕ) → IsBytes bytes → read_of bytes ≡ Whole ask count
    → IsAsk ask × (count ≡ length (spelling ask)) × (bytes ≡ spelling ask ++ drop count bytes)
unfolding read_of
read_found bytes ask count fits e =
    let p = behind_is (head_at bytes) ask count e in
    let head : Head = p.0.0 in
    let q = told_is head (text_at head.count p.0.1) ask count p.3 in
    let t = head_reads.takes bytes p.0 fits p.1 in
    let u = (text_reads head.count).takes p.0.1 q.0 t.0.rest_fits q.1 in
    let w = want_found head.kind q.0.0 ask.want (front_fits q.0.0 q.0.1 (subst IsBytes u.0.parts t.0.rest_fits)) q.2 in
    let n : head.count ≡ length (content ask.want) = sym u.1 ∙ ap (λ (l : List ℕ). length l) w.1 in
    let counted : count ≡ length (spelling ask) = omega (arith, n, q.4) in
    let parts : bytes ≡ spelling ask ++ q.0.1 =
    t.0.parts ∙ ap (λ (r : List ℕ). head_bytes head ++ r) (u.0.parts ∙ ap (λ (l : List ℕ). l ++ q.0.1) w.1)
    ∙ ap (λ (h : List ℕ). h ++ (content ask.want ++ q.0.1)) (head_same head (length (content ask.want)) (ask_code (code_of ask.want)) ask.tag n w.0 q.3) in
    let dropped : drop count bytes ≡ q.0.1 = ap (drop count) parts ∙ drop_at (spelling ask) q.0.1 count (sym counted) in
    let tag : ask.tag ≤ 65535 = subst (λ (m : ℕ). m ≤ 65535) q.3 t.1.tag in
    (record { short = subst (λ (m : ℕ). m ≤ MOST_ASK) n p.2; tag = tag; fits = w.2 }, counted, parts ∙ ap (λ (r : List ℕ). spelling ask ++ r) (sym dropped))

-- ---- no spelling is the front of another

pub front_is : (one other : Ask) (after left : List ℕ) → IsAsk one → IsAsk other → spelling one ++ after ≡ spelling other ++ left → (one ≡ other) × (after ≡ left)
front_is one other after left h k e =
    let whole : Whole one (length (spelling one)) ≡ Whole other (length (spelling other)) =
    sym (read_again one after h) ∙ ap read_of e ∙ read_again other left k in
    let same : one ≡ other = cc in
    let here : spelling other ++ after ≡ spelling other ++ left = subst (λ (a : Ask). spelling a ++ after ≡ spelling other ++ left) same e in
    (same, append_cancel_left (spelling other) after left here)
