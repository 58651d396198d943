-- the characters of a message, where it is UTF-8 and where it is not
use Rattle.std.proofs.Common.{◌≡◌, ℕ, List, [], ◌∷◌, ◌++◌, Bool, true, false, codes, refl, sym, ap, ◌∙◌, append-nil}
use Rattle.std.specs.Prelude.{if◌then◌else◌, IsUtf8}
use Rattle.std.specs.Str.{is_utf8}
use Rattle.std.proofs.lemmas.Str.{IsUtf8-from_is_utf8, is_utf8-from_IsUtf8}
use Rattle.cpg_json.specs.Calls.{text_fields}
use Rattle.cpg_json.specs.Objects.{after_comma, field, more}
use Rattle.cpg_json.specs.Strings.{text_string}

-- the fields by the test
fields : List ℕ → Bool → List (List ℕ)
fields message test = if test then field (codes "text") (text_string message) ∷ [] else []

pub text_told : (old new message text : List ℕ) → IsUtf8 message → text ≡ message → new ≡ old ++ after_comma (field (codes "text") (text_string text)) → new ≡ old ++ more (text_fields message)
unfolding after_comma fields
text_told old new message text are same put =
    put ∙ ap (λ t. old ++ after_comma (field (codes "text") (text_string t))) same
    ∙ ap (λ l. old ++ l) (sym (append-nil (after_comma (field (codes "text") (text_string message)))))
    ∙ ap (λ test. old ++ more (fields message test)) (sym (is_utf8-from_IsUtf8 message are))

not_told : (message : List ℕ) (test : Bool) → is_utf8 message ≡ test → (IsUtf8 message → ⊥) → test ≡ false
not_told message true is other = absurd (other (IsUtf8-from_is_utf8 message is))
not_told message false is other = refl

pub text_untold : (old message : List ℕ) → (IsUtf8 message → ⊥) → old ≡ old ++ more (text_fields message)
unfolding fields
text_untold old message other =
    sym (append-nil old) ∙ ap (λ test. old ++ more (fields message test)) (sym (not_told message (is_utf8 message) refl other))
