use Rattle.std.proofs.Common.{◌≡◌, rules, List, ℕ, None, codes, map, option_map}
use Rattle.clap.specs.Words.{found_of, first_value}
use Rattle.cpgring.specs.Asking.{why_words, IsUsed}
use Rattle.cpgring.proofs.Entered.{entry_asked}
use Rattle.cpgring.proofs.asking.why_of.Goals as goal

pub returns-in-None-2 : goal.returns-in-None-2
returns-in-None-2 c =
    let found = found_of c.args.given.now in
    let words = map (λ word. word.now) c.unwrap_or-words.result.now in
    let is : words ≡ why_words found = search rules in
    let conn : first_value found (codes "connection") ≡ None = search rules in
    let unused : IsUsed found (codes "all") → ⊥ = λ used. absurd (cc (c.get_flag-all.ensures.value used, c.if-all-2.false)) in
    let to : option_map (λ text. text.now) c.get_str-to.result ≡ first_value found (codes "to") = search rules in
    entry_asked c.form_of-form.result found words is c.form_of-form.ensures conn unused _ to c.why_entry.result c.why_entry.ensures.run c.why_entry.ensures.source
