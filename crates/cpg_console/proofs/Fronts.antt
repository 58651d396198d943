-- fronts of a text
use Rattle.std.proofs.Common.{ℕ, List, [], ◌++◌, Option, Result, Ok, Err, OnErr, sym, append-nil}
use Rattle.std.specs.Io.KnownBytes.{Appends}
use Rattle.std.proofs.KnownBytes.{Appends-trans}
use Rattle.cpg_text.specs.Streams.{AppendsFront}
use Rattle.cpg_cluster.proofs.Written.{front_of_first, front_of_last, nothing_yet}

-- nothing was written
pub none_of : (a : Option (List ℕ)) (text : List ℕ) → AppendsFront a a text
none_of = nothing_yet

-- all was written
pub all_of : (a b : Option (List ℕ)) (text : List ℕ) → Appends a b text → AppendsFront a b text
all_of a b text h = record { front = text; rest = []; whole = sym (append-nil text); written = h }

-- one text and then another
pub then_all : (a b c : Option (List ℕ)) (text more : List ℕ) → Appends a b text → Appends b c more → Appends a c (text ++ more)
then_all a b c text more h k = Appends-trans a b c text more h k

-- one text, and then a front of another
pub then_front : (a b c : Option (List ℕ)) (text more : List ℕ) → Appends a b text → AppendsFront b c more → AppendsFront a c (text ++ more)
then_front = front_of_last

-- a front of a text is one of that text and more
pub front_more : (a b : Option (List ℕ)) (text more : List ℕ) → AppendsFront a b text → AppendsFront a b (text ++ more)
front_more = front_of_first

-- what is so whatever was answered
pub whatever : {A E : Type 0} (r : Result A E) (It : Type 0) → It → OnErr r It
whatever (Ok x) It is = tt
whatever (Err why) It is = is
