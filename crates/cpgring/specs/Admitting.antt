-- the files, the words and the options of `cpgring admit`
use Rattle.std.specs.Prelude.{ℕ, ◌≡◌, Bool, true, false, List, codes, map, option_map}
use Rattle.clap.specs.declared.parser.matches.Found.{Found}
use Rattle.clap.specs.Words.{first_value, matched_of}
use Rattle.cpg_console.specs.declared.admitting.AdmitOptions.{AdmitOptions}
use Rattle.cpgring.specs.Asking.{texts_of, IsFormGiven, IsUnused, IsUsed}
use Rattle.cpgring.specs.declared.admitting.Files.{Files}

-- the files are those that the options name, the conf files in their order
pub record AreFilesGiven (found : Found) (files : Files) : Type 0 where
  pub confs : map (λ path. path.now) files.confs.now ≡ texts_of (matched_of found (codes "conf"))
  pub names : option_map (λ path. path.now) files.names ≡ first_value found (codes "names")
  pub passwd : option_map (λ path. path.now) files.passwd ≡ first_value found (codes "passwd")
  pub group : option_map (λ path. path.now) files.group ≡ first_value found (codes "group")

-- the words that ask, as they were given
abbrev pub words_asked : Found → List (List ℕ)
words_asked found = texts_of (matched_of found (codes "asks"))

-- the flag says whether the option was used
abbrev pub IsFlagGiven : Found → List ℕ → Bool → Type 0
IsFlagGiven found name flag = (IsUsed found name → flag ≡ true) × (IsUnused found name → flag ≡ false)

-- it is answered in the form that is asked for, with what was asked before each answer and with hints where options say so
pub record AreAdmitOptionsGiven (found : Found) (options : AdmitOptions) : Type 0 where
  pub form : IsFormGiven found options.form
  pub echo : IsFlagGiven found (codes "echo") options.echo
  pub hints : IsFlagGiven found (codes "verbose") options.hints
