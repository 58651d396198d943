-- the files of `cpgring admit`, with their paths
use Rattle.std.specs.Prelude.{◌≡◌, ℕ, List, map, Option, option_map}
use Rattle.cpg_accept.specs.declared.admit.texts.NamedText.{NamedText}
use Rattle.cpg_console.specs.declared.admitting.Admission.{Admission}
use Rattle.cpgring.specs.declared.admitting.Files.{Files}
use Rattle.cpgring.specs.declared.loading.Loaded.{Loaded}
use Rattle.cpgring.specs.declared.loading.LoadedText.{LoadedText}

-- a path and the text of its file
abbrev pub named_at : NamedText → List ℕ × List ℕ
named_at named = (named.path.now, named.text.now)

abbrev pub loaded_at : LoadedText → List ℕ × List ℕ
loaded_at loaded = (loaded.path.now, loaded.text.items)

-- the files are handed on as they were read, each in its place
pub record IsMadeOf (loaded : Loaded) (admission : Admission) : Type 0 where
  pub confs : map named_at admission.confs.now ≡ map loaded_at loaded.confs.items
  pub names : option_map named_at admission.names ≡ option_map loaded_at loaded.names
  pub passwd : option_map named_at admission.passwd ≡ option_map loaded_at loaded.passwd
  pub group : option_map named_at admission.group ≡ option_map loaded_at loaded.group

-- each was read by its path
pub record IsReadBy (confs : List (List ℕ)) (files : Files) (loaded : Loaded) : Type 0 where
  pub conf : map (λ text. text.path.now) loaded.confs.items ≡ confs
  pub names : option_map (λ text. text.path.now) loaded.names ≡ option_map (λ path. path.now) files.names
  pub passwd : option_map (λ text. text.path.now) loaded.passwd ≡ option_map (λ path. path.now) files.passwd
  pub group : option_map (λ text. text.path.now) loaded.group ≡ option_map (λ path. path.now) files.group
