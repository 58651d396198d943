-- What is told is read again.
use Rattle.std.proofs.Common.{◌≡◌, ℕ, ◌+◌, ◌*◌, ◌≤◌, false, ltb, List, ◌++◌, length, take, drop, replicate, Option, Some, refl, sym, ap, ◌∙◌, append_assoc, length-append, arith}
use Rattle.std.specs.List.{flat_map}
use Rattle.std.proofs.lemmas.Bool.{le-ltb}
use Rattle.std.proofs.lemmas.List.{take_at, drop_at, length-replicate}
use Rattle.byteorder.specs.Endian.{little_bytes}
use Rattle.cpg_entry.specs.declared.messages.TheConstants.{MOST_MESSAGE_BYTES}
use Rattle.cpg_wire.specs.Reading.{◌>>=◌, text_at}
use Rattle.cpg_ask.specs.declared.heads.Head.{Head}
use Rattle.cpg_ask.specs.declared.codes.AskCode.{AskCode}
use Rattle.cpg_ask.specs.declared.codes.AskCode.TheVariants as codes
use Rattle.cpg_ask.specs.declared.greetings.Greeting.{Greeting as Where}
use Rattle.cpg_ask.specs.declared.statuses.Status.{Status}
use Rattle.cpg_wire.proofs.ReadsNumbers.{text_reads}
use Rattle.cpg_ask.specs.Numbers.{little_at, IsU32}
use Rattle.cpg_ask.specs.Heads.{HeadFits}
use Rattle.cpg_ask.specs.Statuses.{status_number}
use Rattle.cpg_ask.specs.Tells.{Tell, Answer, Greets, Listed, Named, Denied, Message, Change, Process, gap, filled_up, number, pairs_bytes, listing_bytes, processes_bytes, all_bytes, tell_content, tell_kind, tell_tag, tell_bytes}
use Rattle.cpg_ask.proofs.Littles.{u64_reads}
use Rattle.cpg_ask.proofs.Fields.{head_reads, words_reads, code_few}
use Rattle.cpg_ask.specs.declared.words.Words.{Words}
use Rattle.cpg_ask.specs.declared.tidings.TheConstants.{MOST_TELL}
use Rattle.cpg_ask.specs.Kinds.{kind_of}
use Rattle.cpg_ask.specs.Tidings as tidings
use Rattle.cpg_ask.specs.Tidings.{filling, tiding_of}
use Rattle.cpg_ask.specs.TellReading.{answer_in, greeting_of, greeting_in, members_in, numbered_at, groups_in, denied_in, message_of, message_in, change_of, change_in, told_as, answered_in, tiding_in, Whole, behind, read_of}
use Rattle.cpg_ask.specs.TellStreams.{TellFits, IsTell}
use Rattle.cpg_ask.proofs.Parts.{status_again, status_fits, number_again, status_at_again, numbered_again, processes_length}

abbrev Number : Type 0
Number = ℕ × List ℕ

abbrev Numbered : Type 0
Numbered = (Status × ℕ) × List ℕ

abbrev Text : Type 0
Text = List ℕ × List ℕ

answer_again : (code : AskCode) (tag : ℕ) (s : Status) (z : List ℕ) → answer_in code tag (number (status_number s) ++ z) ≡ Some (tidings.Answer code tag s)
unfolding answer_in
answer_again code tag s z = ap (λ (o : Option (Status × List ℕ)). o >>= λ t. Some (tidings.Answer code tag t.0)) (status_at_again s z)

greets_again : (tag : ℕ) (s : Status) (g : Where) (z : List ℕ) → TellFits (Greets tag s g) → greeting_in tag (tell_content (Greets tag s g) ++ z) ≡ Some (tiding_of (Greets tag s g))
unfolding greeting_in greeting_of number
greets_again tag s g z h =
    let w : Words = record { first = status_number s; second = g.node; third = g.nodes; fourth = MOST_MESSAGE_BYTES } in
    let rest : List ℕ = little_bytes 8 g.ring ++ z in
    ap (λ (o : Option (Words × List ℕ)). o >>= λ x. greeting_of tag x.0 x.1) (words_reads.again w rest (record { first = status_fits s; second = h.0; third = h.1; fourth = omega arith }))
    ∙ (ap (λ (o : Option Status). o >>= λ t. little_at 8 rest >>= λ r. Some (tidings.Greeting tag t g.node g.nodes MOST_MESSAGE_BYTES r.0)) (status_again s)
    ∙ ap (λ (o : Option Number). o >>= λ r. Some (tidings.Greeting tag s g.node g.nodes MOST_MESSAGE_BYTES r.0)) (u64_reads.again g.ring z h.2))

-- a status, a number and what follows them, filled up
numbered_then : (s : Status) (n : ℕ) (rest z : List ℕ) → IsU32 n → numbered_at ((number (status_number s) ++ (number n ++ rest)) ++ z) ≡ Some ((s, n), rest ++ z)
numbered_then s n rest z h =
    ap numbered_at (append_assoc (number (status_number s)) (number n ++ rest) z ∙ ap (λ (l : List ℕ). number (status_number s) ++ l) (append_assoc (number n) rest z))
    ∙ numbered_again s n (rest ++ z) h

members_again : (tag : ℕ) (s : Status) (n : ℕ) (rest z : List ℕ) → IsU32 n → members_in tag ((number (status_number s) ++ (number n ++ rest)) ++ z) ≡ Some (tidings.Members tag s n (rest ++ z))
unfolding members_in
members_again tag s n rest z h = ap (λ (o : Option Numbered). o >>= λ x. Some (tidings.Members tag x.0.0 x.0.1 x.1)) (numbered_then s n rest z h)

groups_again : (tag : ℕ) (s : Status) (n : ℕ) (rest z : List ℕ) → IsU32 n → groups_in tag ((number (status_number s) ++ (number n ++ rest)) ++ z) ≡ Some (tidings.Groups tag s n (rest ++ z))
unfolding groups_in
groups_again tag s n rest z h = ap (λ (o : Option Numbered). o >>= λ x. Some (tidings.Groups tag x.0.0 x.0.1 x.1)) (numbered_then s n rest z h)

denied_again : (s : Status) (v r : ℕ) (z : List ℕ) → IsU32 v → IsU32 r → denied_in ((number (status_number s) ++ (number v ++ number r)) ++ z) ≡ Some (tidings.Denied s v r)
unfolding denied_in
denied_again s v r z h k =
    ap (λ (o : Option Numbered). o >>= λ x. little_at 4 x.1 >>= λ b. Some (tidings.Denied x.0.0 x.0.1 b.0)) (numbered_then s v (number r) z h)
    ∙ ap (λ (o : Option Number). o >>= λ b. Some (tidings.Denied s v b.0)) (number_again r z k)

-- a message behind its four numbers
message_behind : (node pid : ℕ) (m g z : List ℕ) → message_of (record { first = node; second = pid; third = length m; fourth = length g }) ((filled_up m ++ g) ++ z) ≡ Some (tidings.Message node pid g m)
unfolding message_of
message_behind node pid m g z =
    let zeros : List ℕ = replicate (gap (length m)) 0 in
    let cut : (filled_up m ++ g) ++ z ≡ m ++ (zeros ++ (g ++ z)) = append_assoc (filled_up m) g z ∙ append_assoc m zeros (g ++ z) in
    let first : text_at (length m) ((filled_up m ++ g) ++ z) ≡ Some (m, zeros ++ (g ++ z)) = ap (text_at (length m)) cut ∙ (text_reads (length m)).again m (zeros ++ (g ++ z)) refl in
    ap (λ (o : Option Text). o >>= λ a. text_at (gap (length m)) a.1 >>= λ b. text_at (length g) b.1 >>= λ c. Some (tidings.Message node pid c.0 a.0)) first
    ∙ (ap (λ (o : Option Text). o >>= λ b. text_at (length g) b.1 >>= λ c. Some (tidings.Message node pid c.0 m)) ((text_reads (gap (length m))).again zeros (g ++ z) (length-replicate (gap (length m)) 0))
    ∙ ap (λ (o : Option Text). o >>= λ c. Some (tidings.Message node pid c.0 m)) ((text_reads (length g)).again g z refl))

message_again : (node pid : ℕ) (g m z : List ℕ) → TellFits (Message node pid g m) → message_in (tell_content (Message node pid g m) ++ z) ≡ Some (tidings.Message node pid g m)
unfolding message_in number
message_again node pid g m z h =
    let w : Words = record { first = node; second = pid; third = length m; fourth = length g } in
    ap (λ (o : Option (Words × List ℕ)). o >>= λ x. message_of x.0 x.1) (words_reads.again w ((filled_up m ++ g) ++ z) (record { first = h.0; second = h.1; third = h.2; fourth = h.3 }))
    ∙ message_behind node pid m g z

-- a change behind its four numbers
change_behind : (g : List ℕ) (ms ls js : List Process) (z : List ℕ)
    → change_of (record { first = length g; second = length ms; third = length ls; fourth = length js }) ((all_bytes ms ls js ++ g) ++ z) ≡ Some (tidings.Change g (length ms) (length ls) (length js) (all_bytes ms ls js))
unfolding change_of
change_behind g ms ls js z =
    let all : List ℕ = all_bytes ms ls js in
    let n : ℕ = 12 * (length ms + length ls + length js) in
    let parts : length all ≡ length (processes_bytes ms) + (length (processes_bytes ls) + length (processes_bytes js)) =
    length-append (processes_bytes ms) (processes_bytes ls ++ processes_bytes js) ∙ ap (λ (k : ℕ). length (processes_bytes ms) + k) (length-append (processes_bytes ls) (processes_bytes js)) in
    let a : length (processes_bytes ms) ≡ 12 * length ms = processes_length ms in
    let b : length (processes_bytes ls) ≡ 12 * length ls = processes_length ls in
    let c : length (processes_bytes js) ≡ 12 * length js = processes_length js in
    let long : length all ≡ n = omega (arith, parts, a, b, c) in
    let first : text_at n ((all ++ g) ++ z) ≡ Some (all, g ++ z) = ap (text_at n) (append_assoc all g z) ∙ (text_reads n).again all (g ++ z) long in
    ap (λ (o : Option Text). o >>= λ x. text_at (length g) x.1 >>= λ y. Some (tidings.Change y.0 (length ms) (length ls) (length js) x.0)) first
    ∙ ap (λ (o : Option Text). o >>= λ y. Some (tidings.Change y.0 (length ms) (length ls) (length js) all)) ((text_reads (length g)).again g z refl)

change_again : (g : List ℕ) (ms ls js : List Process) (z : List ℕ) → TellFits (Change g ms ls js) → change_in (tell_content (Change g ms ls js) ++ z) ≡ Some (tiding_of (Change g ms ls js))
unfolding change_in number
change_again g ms ls js z h =
    let w : Words = record { first = length g; second = length ms; third = length ls; fourth = length js } in
    ap (λ (o : Option (Words × List ℕ)). o >>= λ x. change_of x.0 x.1) (words_reads.again w ((all_bytes ms ls js ++ g) ++ z) (record { first = h.0; second = h.1; third = h.2; fourth = h.3 }))
    ∙ change_behind g ms ls js z

tiding_again : (tell : Tell) → TellFits tell → tiding_in (tell_kind tell) (tell_tag tell) (filled_up (tell_content tell)) ≡ Some (tiding_of tell)
unfolding tiding_in kind_of told_as answered_in
tiding_again (Answer codes.Join tag s) h = answer_again codes.Join tag s (filling (Answer codes.Join tag s))
tiding_again (Answer codes.Leave tag s) h = answer_again codes.Leave tag s (filling (Answer codes.Leave tag s))
tiding_again (Answer codes.Insert tag s) h = answer_again codes.Insert tag s (filling (Answer codes.Insert tag s))
tiding_again (Answer codes.Remove tag s) h = answer_again codes.Remove tag s (filling (Answer codes.Remove tag s))
tiding_again (Answer codes.Hello tag s) h = absurd h
tiding_again (Answer codes.Send tag s) h = absurd h
tiding_again (Answer codes.Members tag s) h = absurd h
tiding_again (Answer codes.Groups tag s) h = absurd h
tiding_again (Greets tag s g) h = greets_again tag s g (filling (Greets tag s g)) h
tiding_again (Listed tag s members) h = members_again tag s (length members) (pairs_bytes members) (filling (Listed tag s members)) h
tiding_again (Named tag s listings) h = groups_again tag s (length listings) (flat_map listing_bytes listings) (filling (Named tag s listings)) h
tiding_again (Denied s d) h = denied_again s d.verdict d.rule (filling (Denied s d)) h.0 h.1
tiding_again (Message node pid g m) h = message_again node pid g m (filling (Message node pid g m)) h
tiding_again (Change g ms ls js) h = change_again g ms ls js (filling (Change g ms ls js)) h

kind_small : (tell : Tell) → tell_kind tell ≤ 65535
kind_small (Answer code tag s) = let few = code_few code in omega (arith, few)
kind_small (Greets tag s g) = omega arith
kind_small (Listed tag s members) = omega arith
kind_small (Named tag s listings) = omega arith
kind_small (Denied s d) = omega arith
kind_small (Message node pid g m) = omega arith
kind_small (Change g ms ls js) = omega arith

abbrev head_told : Tell → Head
head_told tell = record { count = length (tell_content tell) + gap (length (tell_content tell)); kind = tell_kind tell; tag = tell_tag tell }

head_fits : (tell : Tell) → IsTell tell → HeadFits (head_told tell)
head_fits tell h = record { count = omega (arith, h.short); kind = kind_small tell; tag = h.tag }

pub read_again : (tell : Tell) (more : List ℕ) → IsTell tell → read_of (tell_bytes tell ++ more) ≡ Whole (tiding_of tell) (length (tell_bytes tell))
unfolding read_of
read_again tell more h =
    let text : List ℕ = filled_up (tell_content tell) in
    let n : ℕ = length (tell_content tell) + gap (length (tell_content tell)) in
    let long : length text ≡ n = length-append (tell_content tell) (filling tell) ∙ ap (λ (k : ℕ). length (tell_content tell) + k) (length-replicate (gap (length (tell_content tell))) 0) in
    let short : ltb MOST_TELL n ≡ false = le-ltb _ _ h.short in
    let found : text_at n (text ++ more) ≡ Some (text, more) = (text_reads n).again text more long in
    let count : 8 + n ≡ length (tell_bytes tell) = omega (arith, long) in
    ap behind (head_reads.again (head_told tell) (text ++ more) (head_fits tell h)) ∙ rw (short, found, tiding_again tell h.fits) (ap (λ (c : ℕ). Whole (tiding_of tell) c) count)

-- no tell is the front of another
pub front_is : (one other : Tell) (after left : List ℕ) → IsTell one → IsTell other → tell_bytes one ++ after ≡ tell_bytes other ++ left
    → (tiding_of one ≡ tiding_of other) × (tell_bytes one ≡ tell_bytes other) × (after ≡ left)
front_is one other after left h k e =
    let whole : Whole (tiding_of one) (length (tell_bytes one)) ≡ Whole (tiding_of other) (length (tell_bytes other)) =
    sym (read_again one after h) ∙ ap read_of e ∙ read_again other left k in
    let same : tiding_of one ≡ tiding_of other = cc in
    let long : length (tell_bytes one) ≡ length (tell_bytes other) = cc in
    let n : ℕ = length (tell_bytes one) in (
      same,
      sym (take_at (tell_bytes one) after n refl) ∙ ap (take n) e ∙ take_at (tell_bytes other) left n (sym long),
      sym (drop_at (tell_bytes one) after n refl) ∙ ap (drop n) e ∙ drop_at (tell_bytes other) left n (sym long),
    )
