-- Heads, words and rules, from bytes and back.
use Rattle.std.proofs.Common.{◌≡◌, ◌≤◌, ℕ, List, ◌++◌, Option, Some, refl, ap, ◌∙◌, arith}
use Rattle.byteorder.specs.Endian.{little_bytes}
use Rattle.cpg_wire.specs.Reading.{◌>>=◌}
use Rattle.cpg_wire.proofs.Readers.{bind_some, some_is, ReadsBack, reads1, reads3, reads4}
use Rattle.cpg_ask.specs.declared.heads.Head.{Head}
use Rattle.cpg_ask.specs.declared.rules.RuleWords.{RuleWords}
use Rattle.cpg_ask.specs.declared.rules.WhoWords.{WhoWords}
use Rattle.cpg_ask.specs.Numbers.{little_at, IsU16, IsU32}
use Rattle.cpg_ask.specs.Heads.{head_bytes, head_at, HeadFits}
use Rattle.cpg_ask.specs.declared.codes.AskCode.{AskCode}
use Rattle.cpg_ask.specs.declared.codes.AskCode.TheVariants as codes
use Rattle.cpg_ask.specs.declared.words.Words.{Words}
use Rattle.cpg_ask.specs.Codes.{ask_code}
use Rattle.cpg_ask.specs.Words.{words_bytes, words_at, WordsFit}
use Rattle.cpg_ask.specs.Rules.{who_of, words_of, who_bytes, rule_bytes, who_at, rule_at, WhoFits, RuleFits}
use Rattle.cpg_ask.proofs.Littles.{u16_reads, u32_reads, little_more}

pub code_few : (code : AskCode) → ask_code code ≤ 8
code_few codes.Hello = omega arith
code_few codes.Join = omega arith
code_few codes.Leave = omega arith
code_few codes.Send = omega arith
code_few codes.Members = omega arith
code_few codes.Groups = omega arith
code_few codes.Insert = omega arith
code_few codes.Remove = omega arith

pub head_reads : ReadsBack Head head_at head_bytes HeadFits
unfolding head_at
head_reads = reads3 ℕ ℕ ℕ Head (little_at 4) (little_bytes 4) IsU32 u32_reads (little_at 2) (little_bytes 2) IsU16 u16_reads (little_at 2) (little_bytes 2) IsU16 u16_reads
    (λ a b c. record { count = a; kind = b; tag = c }) head_bytes HeadFits
    (λ a b c h k l. (refl, record { count = h; kind = k; tag = l }))
    (λ d h. (d.count, d.kind, d.tag, refl, h.count, h.kind, h.tag))

pub words_reads : ReadsBack Words words_at words_bytes WordsFit
unfolding words_at
words_reads = reads4 ℕ ℕ ℕ ℕ Words (little_at 4) (little_bytes 4) IsU32 u32_reads (little_at 4) (little_bytes 4) IsU32 u32_reads (little_at 4) (little_bytes 4) IsU32 u32_reads
    (λ b. little_at 4) (little_bytes 4) (λ b. IsU32) (λ b h. u32_reads)
    (λ a b c d. record { first = a; second = b; third = c; fourth = d }) words_bytes WordsFit
    (λ a b c d h k l m. (refl, record { first = h; second = k; third = l; fourth = m }))
    (λ w h. (w.first, w.second, w.third, w.fourth, refl, h.first, h.second, h.third, h.fourth))

pub who_reads : ReadsBack WhoWords who_at who_bytes WhoFits
unfolding who_at
who_reads = reads1 Words WhoWords words_at words_bytes WordsFit words_reads who_of who_bytes WhoFits
    (λ w h. (refl, h)) (λ w h. (words_of w, refl, h))

pub rule_reads : ReadsBack RuleWords rule_at rule_bytes RuleFits
unfolding rule_at
rule_reads = reads4 ℕ ℕ ℕ WhoWords RuleWords (little_at 4) (little_bytes 4) IsU32 u32_reads (little_at 4) (little_bytes 4) IsU32 u32_reads (little_at 4) (little_bytes 4) IsU32 u32_reads
    (λ b. who_at) who_bytes (λ b. WhoFits) (λ b h. who_reads)
    (λ a b c d. record { index = a; effect = b; right = c; who = d }) rule_bytes RuleFits
    (λ a b c d h k l m. (refl, record { index = h; effect = k; right = l; who = m }))
    (λ r h. (r.index, r.effect, r.right, r.who, refl, h.index, h.effect, h.right, h.who))

abbrev Found : Type 0
Found = ℕ × List ℕ

abbrev head_made : Found → Found → Found → Head × List ℕ
head_made a b c = (record { count = a.0; kind = b.0; tag = c.0 }, c.1)

-- what follows does not change a head that stands in front
pub head_more : (bytes more : List ℕ) (x : Head × List ℕ) → head_at bytes ≡ Some x → head_at (bytes ++ more) ≡ Some (x.0, x.1 ++ more)
unfolding head_at
head_more bytes more x e =
    let p = bind_some (little_at 4 bytes) (λ a. little_at 2 a.1 >>= λ b. little_at 2 b.1 >>= λ c. Some (head_made a b c)) x e in
    let q = bind_some (little_at 2 p.0.1) (λ b. little_at 2 b.1 >>= λ c. Some (head_made p.0 b c)) x p.2 in
    let u = bind_some (little_at 2 q.0.1) (λ c. Some (head_made p.0 q.0 c)) x q.2 in
    ap (λ (o : Option Found). o >>= λ a. little_at 2 a.1 >>= λ b. little_at 2 b.1 >>= λ c. Some (head_made a b c)) (little_more 4 bytes more p.0 p.1)
    ∙ (ap (λ (o : Option Found). o >>= λ b. little_at 2 b.1 >>= λ c. Some (head_made p.0 b c)) (little_more 2 p.0.1 more q.0 q.1)
    ∙ (ap (λ (o : Option Found). o >>= λ c. Some (head_made p.0 q.0 c)) (little_more 2 q.0.1 more u.0 u.1)
    ∙ ap (λ (y : Head × List ℕ). Some (y.0, y.1 ++ more)) (some_is (head_made p.0 q.0 u.0) x u.2)))
