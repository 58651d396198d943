-- what is told of a word of a command line that lets nobody in
use Rattle.std.specs.Prelude.{ℕ, List, ◌++◌, codes}
use Rattle.cpg_hint.specs.Marks.{front_text, mark_under, shown}

-- what stands before the word of that number
abbrev pub word_front : ℕ → List ℕ
word_front number = front_text (codes "word ") number

-- the two forms that such a word may have
abbrev pub accept_forms : List ℕ
accept_forms = codes "ACCEPT: uid:N or gid:N, N a number from 0 to 4294967295"

-- the word as it is shown, and under it a mark with the two forms
abbrev pub accept_hint : ℕ → List ℕ → List ℕ
accept_hint number word =
    word_front number ++ shown word ++ mark_under (word_front number) accept_forms
