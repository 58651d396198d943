-- calls and ops that are printed are their words, and are read as those calls and ops again
use Rattle.std.proofs.Common.{◌≡◌, ℕ, ◌/◌, ◌%◌, ◌<◌, List, [], ◌∷◌, ◌++◌, Bool, true, false, Some, refl, ap, ◌∙◌, arith}
use Rattle.std.proofs.lemmas.Bool.Decides.{nat_tests}
use Rattle.std.proofs.lemmas.List.Folds.{list_all-append}
use Rattle.std.specs.Prelude.{◌==◌, codes, decimal, if◌then◌else◌}
use Rattle.std.specs.Fmt.{digit_glyph}
use Rattle.std.specs.List.{AllByRecursion, list_all}
use Rattle.cpg_entry.specs.declared.calls.Call.{Call}
use Rattle.cpg_entry.specs.declared.calls.Call.TheVariants.{Join, Leave, Send, Insert, Remove}
use Rattle.cpg_entry.specs.declared.calls.Op.{Op}
use Rattle.cpg_entry.specs.declared.calls.Op.TheVariants.{Act, Gone}
use Rattle.cpg_entry.specs.Names.{IsName, is_name_byte}
use Rattle.cpg_entry.specs.Ranges.{IsCall, IsOp}
use Rattle.cpg_entry.specs.Widths.{CallFits, OpFits}
use Rattle.cpg_entry.proofs.Naming.{name_passes}
use Rattle.cpg_text.specs.Lines.{words_of}
use Rattle.cpg_text.specs.Percent.{encoded, encoded_byte, escape, is_plain, text_of}
use Rattle.cpg_text.proofs.Round.{message_of_text_of}
use Rattle.cpg_print.specs.Rules.{effect_text, right_text, who_text, rule_text}
use Rattle.cpg_print.specs.Calls.{SendsBytes, call_text, op_text, call_of, op_of, is_within_limits}
use Rattle.cpg_print.specs.Entries.{enterable_op}
use Rattle.cpg_print.proofs.Numerals.{decimal_word, number_back}
use Rattle.cpg_print.proofs.RuleWords.{rule_back, rule_words}
use Rattle.cpg_print.proofs.Spacing.{HasFirst, is_word, two_spaced, word_of_bytes, words_first, words_last, words_spaced}

-- a group's name is a word
pub name_word : (name : List ℕ) → IsName name → is_word name ≡ true
name_word name h = let test = name_passes name h in grind (arith, nat_tests)

glyph_printed : (digit : ℕ) → digit < 16 → is_name_byte (digit_glyph true digit) ≡ true
glyph_printed digit small = grind (arith, nat_tests)

escape_printed : (byte : ℕ) → byte < 256 → list_all is_name_byte (escape byte) ≡ true
escape_printed byte small =
    let high = glyph_printed (byte / 16) (omega arith) in
    let low = glyph_printed (byte % 16) (omega arith) in
    rw (high, low) refl

byte_printed : (byte : ℕ) → byte < 256 → list_all is_name_byte (encoded_byte byte) ≡ true
byte_printed byte small = by_test (is_plain byte) refl
  where
    by_test : (plain : Bool) → is_plain byte ≡ plain → list_all is_name_byte (if plain then byte ∷ [] else escape byte) ≡ true
    by_test false e = escape_printed byte small
    by_test true e = let printed : is_name_byte byte ≡ true = grind (arith, nat_tests) in rw printed refl

encoded_printed : (bytes : List ℕ) → AllByRecursion (λ byte. byte < 256) bytes → list_all is_name_byte (encoded bytes) ≡ true
encoded_printed [] small = refl
encoded_printed (byte ∷ bytes) small =
    list_all-append is_name_byte (encoded_byte byte) (encoded bytes) ∙ rw (byte_printed byte small.0, encoded_printed bytes small.1) refl

encoded_first : (byte : ℕ) (bytes : List ℕ) → HasFirst (encoded (byte ∷ bytes))
encoded_first byte bytes = by_test (is_plain byte)
  where
    by_test : (plain : Bool) → HasFirst ((if plain then byte ∷ [] else escape byte) ++ encoded bytes)
    by_test false = tt
    by_test true = tt

encoded_word : (byte : ℕ) (bytes : List ℕ) → AllByRecursion (λ b. b < 256) (byte ∷ bytes) → is_word (encoded (byte ∷ bytes)) ≡ true
encoded_word byte bytes small = word_of_bytes (encoded (byte ∷ bytes)) (encoded_first byte bytes) (encoded_printed (byte ∷ bytes) small)

-- what is spelled of a message is a word
text_word : (message : List ℕ) → AllByRecursion (λ byte. byte < 256) message → is_word (text_of message) ≡ true
text_word [] small = refl
text_word (byte ∷ []) small = by_test (byte == 45)
  where
    by_test : (dash : Bool) → is_word (if dash then escape byte else encoded (byte ∷ [])) ≡ true
    by_test false = encoded_word byte [] small
    by_test true = word_of_bytes (escape byte) tt (escape_printed byte small.0)
text_word (byte ∷ next ∷ rest) small = encoded_word byte (next ∷ rest) small

-- the words of a CALL
abbrev call_words : Call → List (List ℕ)
call_words (Join g) = codes "join" ∷ g ∷ []
call_words Leave = codes "leave" ∷ []
call_words (Send message) = codes "send" ∷ text_of message ∷ []
call_words (Insert g index rule) = codes "insert" ∷ g ∷ decimal index ∷ effect_text rule.effect ∷ right_text rule.right ∷ who_text rule.who ∷ []
call_words (Remove g id) = codes "remove" ∷ g ∷ decimal id ∷ []

-- a call that is printed is its words
call_spaced : (call : Call) → IsCall call → CallFits call → SendsBytes (Act call) → words_of (call_text call) ≡ call_words call
call_spaced (Join g) is fits bytes =
    words_first (codes "join") g refl ∙ ap (λ l. codes "join" ∷ l) (words_last g (name_word g is))
call_spaced Leave is fits bytes = words_last (codes "leave") refl
call_spaced (Send message) is fits bytes =
    words_first (codes "send") (text_of message) refl ∙ ap (λ l. codes "send" ∷ l) (words_last (text_of message) (text_word message bytes))
call_spaced (Insert g index rule) is fits bytes =
    let position = decimal_word index (omega (arith, fits.0.1)) in
    words_first (codes "insert") (g ++ codes " " ++ decimal index ++ codes " " ++ rule_text rule) refl
    ∙ ap (λ l. codes "insert" ∷ l) (two_spaced g (decimal index) (rule_text rule) (name_word g is) position)
    ∙ ap (λ l. codes "insert" ∷ g ∷ decimal index ∷ l) (rule_words rule fits.1)
call_spaced (Remove g id) is fits bytes =
    words_first (codes "remove") (g ++ codes " " ++ decimal id) refl
    ∙ ap (λ l. codes "remove" ∷ l) (words_spaced g (decimal id) (name_word g is))
    ∙ ap (λ l. codes "remove" ∷ g ∷ l) (words_last (decimal id) (decimal_word id (omega (arith, fits.1))))

-- the words of a call are read as that call
call_back : (call : Call) → CallFits call → SendsBytes (Act call) → op_of (call_words call) ≡ Some (Act call)
call_back (Join g) fits bytes = refl
call_back Leave fits bytes = refl
call_back (Send message) fits bytes = rw (message_of_text_of message bytes) refl
call_back (Insert g index rule) fits bytes = rw (number_back 0 255 index (omega (arith, fits.0.1)) fits.0, rule_back rule fits.1) refl
call_back (Remove g id) fits bytes = rw (number_back 0 4294967295 id (omega (arith, fits.1)) fits) refl

-- a call that is printed is read as that call
pub call_again : (call : Call) → IsCall call → CallFits call → SendsBytes (Act call) → call_of (words_of (call_text call)) ≡ Some call
call_again call is fits bytes = ap call_of (call_spaced call is fits bytes) ∙ by_call call fits bytes
  where
    by_call : (c : Call) → CallFits c → SendsBytes (Act c) → call_of (call_words c) ≡ Some c
    by_call (Join g) fits bytes = refl
    by_call Leave fits bytes = refl
    by_call (Send message) fits bytes = rw (message_of_text_of message bytes) refl
    by_call (Insert g index rule) fits bytes = rw (number_back 0 255 index (omega (arith, fits.0.1)) fits.0, rule_back rule fits.1) refl
    by_call (Remove g id) fits bytes = rw (number_back 0 4294967295 id (omega (arith, fits.1)) fits) refl

-- a call that keeps the rules is within the limits
call_enters : (call : Call) → IsCall call → is_within_limits call ≡ true
call_enters (Join g) is = name_passes g is
call_enters Leave is = refl
call_enters (Send message) is = grind (arith, nat_tests)
call_enters (Insert g index rule) is = name_passes g is
call_enters (Remove g id) is = name_passes g is

-- an op that is printed is read as that op
pub op_back : (op : Op) → IsOp op → OpFits op → SendsBytes op → enterable_op (words_of (op_text op)) ≡ Some op
op_back Gone is fits bytes = ap enterable_op (words_last (codes "gone") refl)
op_back (Act call) is fits bytes =
    ap enterable_op (call_spaced call is fits bytes)
    ∙ rw (call_back call fits bytes, call_enters call is) refl
