-- forms in which what is found is told
use Rattle.std.specs.Prelude.{ℕ, List, Option}
use Rattle.std.specs.Io.KnownBytes.{Appends}
use Rattle.cpg_entry.specs.declared.entries.Entry.{Entry}
use Rattle.cpg_record.specs.declared.records.Record.{Record}
use Rattle.cpg_text.specs.Streams.{AppendsFront}
use Rattle.cpg_why.specs.declared.asking.Asked.{Asked}
use Rattle.cpg_why.specs.declared.findings.Finding.{Finding}
use Rattle.cpg_why.specs.Findings.{findings_of, records_told}

-- A form says which texts tell what is found, over records whose entries' lines have those numbers.
abbrev pub Form : Type 1
Form = List ℕ → List Record → List Finding → List ℕ → Type 0

-- The forms of this project, text and JSON, are plain: no clause says which text tells what is found.
abbrev pub plain : Form
plain numbers records found text = Unit {0}

-- the text tells what is asked of entries whose lines have those numbers
abbrev pub IsText : Form → List ℕ → List Entry → Asked → List ℕ → Type 0
IsText form numbers entries asked text = form numbers (records_told entries asked) (findings_of entries asked) text

-- a text that tells it is written
abbrev pub Writes : Form → List ℕ → List Entry → Asked → Option (List ℕ) → Option (List ℕ) → Type 0
Writes form numbers entries asked old new = (text : List ℕ) × IsText form numbers entries asked text × Appends old new text

-- a front of such a text is written
abbrev pub WritesFront : Form → List ℕ → List Entry → Asked → Option (List ℕ) → Option (List ℕ) → Type 0
WritesFront form numbers entries asked old new = (text : List ℕ) × IsText form numbers entries asked text × AppendsFront old new text
