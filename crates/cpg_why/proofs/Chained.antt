-- what follows of a result
use Rattle.std.specs.Prelude.{Result, Ok, Err, IfOk, OnOk}

-- what follows from what holds of a result
pub if_ok_then : {T E : Type 0} (result : Result T E) (P Q : T → Type 0) → ((x : T) → P x → Q x) → IfOk result P → IfOk result Q
if_ok_then (Err why) P Q more h = tt
if_ok_then (Ok x) P Q more h = more x h

-- what follows where a result is Ok
pub on_ok_then : {T E : Type 0} (result : Result T E) (P Q : Type 0) → (P → Q) → OnOk result P → OnOk result Q
on_ok_then (Err why) P Q more h = tt
on_ok_then (Ok x) P Q more h = more h
