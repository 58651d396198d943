-- lines that are read byte by byte
use Rattle.std.proofs.Common.{◌≡◌, ◌≢◌, ℕ, ◌<◌, ◌≤◌, Bool, true, false, List, [], ◌∷◌, ◌++◌, length, All, Option, None, Some, IfSome, inl, inr, refl, sym, ap, ◌∙◌, append_assoc, append-nil, arith}
use Rattle.std.specs.Io.KnownBytes.{Keeps, Consumes, IsAtEnd}
use Rattle.std.proofs.lemmas.List.Splits.{slice_split_at, slice_split_none}
use Rattle.std.proofs.lemmas.List.{length-append}
use Rattle.std.proofs.lemmas.List.Elements.{All-nil, All-push}
use Rattle.std.proofs.lemmas.Bool.Decides.{nat_tests}
use Rattle.cpg_text.specs.Lines.{is_line_feed, lines_of}
use Rattle.cpg_cluster.specs.declared.shell.lines.TheConstants.{MOST_LINE}
use Rattle.cpg_cluster.specs.declared.shell.lines.Came.{Came}
use Rattle.cpg_cluster.specs.declared.shell.lines.Came.TheVariants.{Byte, End, Nothing}
use Rattle.cpg_cluster.specs.ShellSteps.{LeftSo, HasCome, StandsFor, IsFirst, IsLine, IsReading, TakesIn}

-- one byte was read
pub byte_came : (old new : Option (List ℕ)) (piece : List ℕ) (byte : ℕ) → Consumes old new (byte ∷ []) → HasCome (Byte byte) old new
byte_came None new piece byte h = tt
byte_came (Some bytes) None piece byte h = absurd h
byte_came (Some bytes) (Some rest) piece byte h = h

-- the input has ended
pub end_came : (old new : Option (List ℕ)) → Consumes old new [] → IsAtEnd new → HasCome End old new
end_came None new h at = tt
end_came (Some bytes) None h at = absurd h
end_came (Some bytes) (Some rest) h at = h ∙ at

pub nothing_came : (old new : Option (List ℕ)) → Keeps old new → HasCome Nothing old new
nothing_came old new k = k

-- a line that is kept and one byte longer
pub stands_longer : (line full : List ℕ) (byte : ℕ) → length line ≤ MOST_LINE → StandsFor line full → StandsFor (line ++ byte ∷ []) (full ++ byte ∷ [])
stands_longer line full byte short stands =
    elim stands [
      | inl same ↦ inl (ap (λ l. l ++ byte ∷ []) same)
      | inr long ↦ absurd (omega (arith, short, long.0))
    ]

-- and one that is too long already
pub stands_beyond : (line full : List ℕ) (byte : ℕ) → MOST_LINE < length line → StandsFor line full → StandsFor line (full ++ byte ∷ [])
stands_beyond line full byte beyond stands =
    elim stands [
      | inl same ↦ inr (beyond, omega (arith, beyond, ap length same, length-append full (byte ∷ [])))
      | inr long ↦ inr (long.0, omega (arith, long.1, length-append full (byte ∷ [])))
    ]

-- no byte came yet
pub nothing_read : (known : Option (List ℕ)) → IsReading [] known known
nothing_read None = record { full = []; stands = inl refl; whole = tt; inside = All-nil (λ (byte : ℕ). is_line_feed byte ≡ false) }
nothing_read (Some bytes) = record { full = []; stands = inl refl; whole = refl; inside = All-nil (λ (byte : ℕ). is_line_feed byte ≡ false) }

-- the bytes of a line and one more
read_whole : (old mid new : Option (List ℕ)) (full : List ℕ) (byte : ℕ) → IfSome old (λ bytes. LeftSo mid (λ rest. bytes ≡ full ++ rest)) → HasCome (Byte byte) mid new
    → IfSome old (λ bytes. LeftSo new (λ rest. bytes ≡ (full ++ byte ∷ []) ++ rest))
read_whole None mid new full byte h came = tt
read_whole (Some bytes) None new full byte h came = absurd h
read_whole (Some bytes) (Some rest) None full byte h came = absurd came
read_whole (Some bytes) (Some rest) (Some left) full byte h came = h ∙ ap (λ l. full ++ l) came ∙ sym (append_assoc full (byte ∷ []) left)

-- one byte more came, which is no line feed
read_on : (kept longer : List ℕ) (old mid new : Option (List ℕ)) (byte : ℕ) → IsReading kept old mid → HasCome (Byte byte) mid new → byte ≢ 10
    → ((full : List ℕ) → StandsFor kept full → StandsFor longer (full ++ byte ∷ [])) → IsReading longer old new
read_on kept longer old mid new byte reading came other goes = record {
  full = reading.full ++ byte ∷ [];
  stands = goes reading.full reading.stands;
  whole = read_whole old mid new reading.full byte reading.whole came;
  inside = All-push (λ (b : ℕ). is_line_feed b ≡ false) reading.full byte reading.inside (no_feed byte other);
}
  where
    no_feed : (b : ℕ) → b ≢ 10 → is_line_feed b ≡ false
    no_feed b other = grind (arith, nat_tests)

same_left : (old mid new : Option (List ℕ)) (full : List ℕ) → IfSome old (λ bytes. LeftSo mid (λ rest. bytes ≡ full ++ rest)) → Keeps mid new
    → IfSome old (λ bytes. LeftSo new (λ rest. bytes ≡ full ++ rest))
same_left None mid new full h k = tt
same_left (Some bytes) None new full h k = absurd h
same_left (Some bytes) (Some rest) None full h k = absurd k
same_left (Some bytes) (Some rest) (Some left) full h k = h ∙ ap (λ l. full ++ l) (sym k)

-- none came
read_again : (kept : List ℕ) (old mid new : Option (List ℕ)) → IsReading kept old mid → HasCome Nothing mid new → IsReading kept old new
read_again kept old mid new reading came = record {
  full = reading.full;
  stands = reading.stands;
  whole = same_left old mid new reading.full reading.whole came;
  inside = reading.inside;
}

last_line : (old mid new : Option (List ℕ)) (full : List ℕ) → All (λ byte. is_line_feed byte ≡ false) full → IfSome old (λ bytes. LeftSo mid (λ rest. bytes ≡ full ++ rest)) → HasCome End mid new
    → IfSome old (λ bytes. IsFirst full false bytes new)
last_line None mid new full inside h came = tt
last_line (Some bytes) None new full inside h came = absurd h
last_line (Some bytes) (Some rest) new full inside h came =
    let whole : bytes ≡ full = h ∙ ap (λ l. full ++ l) came ∙ append-nil full in
    ap lines_of whole ∙ slice_split_none is_line_feed full inside

-- the input ended, and the line with it
read_to_end : (kept : List ℕ) (old mid new : Option (List ℕ)) → IsReading kept old mid → HasCome End mid new → IsLine kept false old new
read_to_end kept old mid new reading came = record {
  full = reading.full;
  stands = reading.stands;
  first = last_line old mid new reading.full reading.inside reading.whole came;
}

first_line : (old mid new : Option (List ℕ)) (full : List ℕ) → All (λ byte. is_line_feed byte ≡ false) full → IfSome old (λ bytes. LeftSo mid (λ rest. bytes ≡ full ++ rest)) → HasCome (Byte 10) mid new
    → IfSome old (λ bytes. IsFirst full true bytes new)
first_line None mid new full inside h came = tt
first_line (Some bytes) None new full inside h came = absurd h
first_line (Some bytes) (Some rest) None full inside h came = absurd came
first_line (Some bytes) (Some rest) (Some left) full inside h came =
    ap lines_of (h ∙ ap (λ l. full ++ l) came) ∙ slice_split_at is_line_feed full 10 left inside refl

-- a line feed came, which ends the line
read_to_feed : (kept : List ℕ) (old mid new : Option (List ℕ)) → IsReading kept old mid → HasCome (Byte 10) mid new → IsLine kept true old new
read_to_feed kept old mid new reading came = record {
  full = reading.full;
  stands = reading.stands;
  first = first_line old mid new reading.full reading.inside reading.whole came;
}

-- the same for whatever was read before
pub takes_nothing : (kept : List ℕ) → TakesIn Nothing kept None kept
takes_nothing kept = record { goes = λ old mid new reading came. read_again kept old mid new reading came }

pub takes_end : (kept : List ℕ) → TakesIn End kept (Some false) kept
takes_end kept = record { goes = λ old mid new reading came. read_to_end kept old mid new reading came }

pub takes_feed : (kept : List ℕ) → TakesIn (Byte 10) kept (Some true) kept
takes_feed kept = record { goes = λ old mid new reading came. read_to_feed kept old mid new reading came }

pub takes_byte : (kept longer : List ℕ) (byte : ℕ) → byte ≢ 10 → ((full : List ℕ) → StandsFor kept full → StandsFor longer (full ++ byte ∷ [])) → TakesIn (Byte byte) kept None longer
takes_byte kept longer byte other goes = record { goes = λ old mid new reading came. read_on kept longer old mid new byte reading came other goes }

-- a line that is complete, and one that is still read
pub taken_whole : (came : Came) (kept longer : List ℕ) (more : Bool) (old mid new : Option (List ℕ)) → TakesIn came kept (Some more) longer → IsReading kept old mid → HasCome came mid new → IsLine longer more old new
taken_whole came kept longer more old mid new takes reading has = takes.goes old mid new reading has

pub taken_on : (came : Came) (kept longer : List ℕ) (old mid new : Option (List ℕ)) → TakesIn came kept None longer → IsReading kept old mid → HasCome came mid new → IsReading longer old new
taken_on came kept longer old mid new takes reading has = takes.goes old mid new reading has
