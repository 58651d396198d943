-- the words of a command line that let users and groups in
use Rattle.std.specs.Borrow.{Bor}
use Rattle.std.specs.Prelude.{ℕ, ◌+◌, Bool, not, is_some, List, [], codes, position, slice_get, Option, Some, None, option_map}
use Rattle.std.specs.List.{fold}
use Rattle.cpg_cred.specs.Listed.{Listed, with_user, with_group}
use Rattle.cpg_text.specs.Words.{◌>>=◌, after_name, u32_of}
use Rattle.cpg_hint.specs.Accepts.{accept_hint}

-- the number that a word names so
abbrev pub number_named : List ℕ → List ℕ → Option ℕ
number_named name word = after_name name word >>= u32_of

-- the list with the user, or else with the group
abbrev pub with_either : Listed → Option ℕ → Option ℕ → Option Listed
with_either list (Some uid) gid = Some (with_user list uid)
with_either list None gid = option_map (with_group list) gid

-- the list with what a word adds to it: a user by `uid:N`, a group by `gid:N`
abbrev pub with_word : Listed → List ℕ → Option Listed
with_word list word = with_either list (number_named (codes "uid:") word) (number_named (codes "gid:") word)

-- and then what one word more adds, if there is a list
abbrev pub and_word : Option Listed → List ℕ → Option Listed
and_word list word = list >>= λ made. with_word made word

-- nobody is let in by a list
abbrev pub nobody : Listed
nobody = record { users = []; groups = [] }

-- the word lets a user or a group in
abbrev pub is_accept_word : List ℕ → Bool
is_accept_word word = is_some (with_word nobody word)

-- the list of the words, added in their order; none where one of them lets nobody in
abbrev pub list_of_words : List (List ℕ) → Option Listed
list_of_words words = fold and_word (Some nobody) words

-- where the first word stands that lets nobody in, from 0, if one does
abbrev pub first_wrong : List (Bor (List ℕ)) → Option ℕ
first_wrong words = position (λ word. not (is_accept_word word.now)) words

-- what is told of a word of that number, if there is one
abbrev pub hint_of_word : ℕ → Option (Bor (List ℕ)) → List ℕ
hint_of_word number None = []
hint_of_word number (Some word) = accept_hint number word.now

-- what is told of the word that stands there, if one does
abbrev pub hint_at : List (Bor (List ℕ)) → Option ℕ → List ℕ
hint_at words None = []
hint_at words (Some index) = hint_of_word (index + 1) (slice_get words index)

-- what is told of the first word that lets nobody in
abbrev pub wrong_hint : List (Bor (List ℕ)) → List ℕ
wrong_hint words = hint_at words (first_wrong words)
