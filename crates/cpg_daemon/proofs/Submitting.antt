-- Calls submitted in a row.
use Rattle.std.proofs.Common.{◌≡◌, ◌∙◌, List, [], ◌∷◌, ◌++◌, refl, sym, ap, subst, append_assoc}
use Rattle.cpg_entry.specs.declared.calls.Call.{Call}
use Rattle.cpg_world_laws.specs.Worlds.{WorldValue}
use Rattle.cpg_daemon.specs.Sessions.{SessionValue}
use Rattle.cpg_daemon.specs.Submitting.{SubmitsOne, SubmitsEach, SubmitsUpTo}

-- none has been submitted yet
pub none_yet : (start : WorldValue) (session : SessionValue) (calls : List Call) → SubmitsUpTo start session calls calls session
none_yet start session calls = record { admitted = []; each = refl; list = refl }

each_then : (start : WorldValue) (before : SessionValue) (calls : List Call) (between : SessionValue) (call : Call) (after : SessionValue)
    → SubmitsEach start before calls between → SubmitsOne start between call after → SubmitsEach start before (calls ++ call ∷ []) after
each_then start before [] between call after each last = (after, subst (λ (s : SessionValue). SubmitsOne start s call after) each last, refl)
each_then start before (first ∷ calls) between call after each last = (each.0, each.1, each_then start each.0 calls between call after each.2 last)

-- one call more was admitted
pub one_more : (start : WorldValue) (before : SessionValue) (calls left : List Call) (between : SessionValue) (call : Call) (rest : List Call) (after : SessionValue)
    → SubmitsUpTo start before calls left between → left ≡ call ∷ rest → SubmitsOne start between call after → SubmitsUpTo start before calls rest after
one_more start before calls left between call rest after some first last = record {
  admitted = some.admitted ++ call ∷ [];
  each = each_then start before some.admitted between call after some.each last;
  list = some.list ∙ ap (λ l. some.admitted ++ l) first ∙ sym (append_assoc some.admitted (call ∷ []) rest);
}
