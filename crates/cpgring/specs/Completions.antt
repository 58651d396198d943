-- what shells need to complete command lines
use Rattle.std.specs.Prelude.{ℕ, List, codes, if◌then◌else◌, Option, Some, None}
use Rattle.std.specs.Str.{bytes_eq}
use Rattle.cpgring.specs.declared.completions.TheConstants.{BASH, ZSH, FISH}

-- the text of a shell, where there is one
abbrev pub completion_of : List ℕ → Option (List ℕ)
completion_of shell =
    if bytes_eq shell (codes "bash") then Some BASH.now
    else if bytes_eq shell (codes "zsh") then Some ZSH.now
    else if bytes_eq shell (codes "fish") then Some FISH.now
    else None
