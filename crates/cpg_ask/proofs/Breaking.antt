-- What is broken stays so.
use Rattle.std.proofs.Common.{◌≡◌, ℕ, Bool, true, false, cond, ltb, List, ◌++◌, Option, Some, None, refl, ap, ◌∙◌}
use Rattle.cpg_ask.specs.declared.heads.Head.{Head}
use Rattle.cpg_ask.specs.declared.asks.TheConstants.{MOST_ASK}
use Rattle.cpg_wire.specs.Reading.{text_at}
use Rattle.cpg_ask.specs.Heads.{head_at}
use Rattle.cpg_ask.specs.Asks.{Broken}
use Rattle.cpg_ask.specs.Reading.{told_in, behind, read_of}
use Rattle.cpg_ask.proofs.Littles.{text_more}
use Rattle.cpg_ask.proofs.Fields.{head_more}

told_more : (head : Head) (rest more : List ℕ) (o : Option (List ℕ × List ℕ)) → text_at head.count rest ≡ o → told_in head o ≡ Broken → told_in head (text_at head.count (rest ++ more)) ≡ Broken
told_more head rest more None is e = absurd cc
told_more head rest more (Some t) is e = ap (told_in head) (text_more head.count rest more t is) ∙ e

behind_more : (b : Bool) (head : Head) (rest more : List ℕ) → cond b Broken (told_in head (text_at head.count rest)) ≡ Broken → cond b Broken (told_in head (text_at head.count (rest ++ more))) ≡ Broken
behind_more true head rest more e = refl
behind_more false head rest more e = told_more head rest more (text_at head.count rest) refl e

by_front : (bytes more : List ℕ) (o : Option (Head × List ℕ)) → head_at bytes ≡ o → behind o ≡ Broken → behind (head_at (bytes ++ more)) ≡ Broken
by_front bytes more None is e = absurd cc
by_front bytes more (Some x) is e = ap behind (head_more bytes more x is) ∙ behind_more (ltb MOST_ASK x.0.count) x.0 x.1 more e

pub broken_stays : (bytes more : List ℕ) → read_of bytes ≡ Broken → read_of (bytes ++ more) ≡ Broken
unfolding read_of
broken_stays bytes more e = by_front bytes more (head_at bytes) refl e
