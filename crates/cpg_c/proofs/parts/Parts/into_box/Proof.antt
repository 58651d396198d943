-- What the parts own is handed to the library's own call, which makes the box of it.
use mathlib.Core.Path.{◌≡◌, refl, sym, subst, ap}
use mathlib.Core.List.{List, [], ◌∷◌, ◌++◌}
use lib.Dec.{T}
use seplogic.Ra.Ura.{Ura}
use mir.Syntax.{Fn, Body, place, copy, assign, rv_opd, seq, return}
use mir.MapTy.{inst_fn}
use mir.Val.{Val, vptr, has_ty, WT}
use base.Logic.{SProp, ent, id⊢}
use base.Fml.{ftrue, fsep, flft}
use contract.BorrowLft.{◌⊑◌}
use prog.Memory.{Memory}
use prog.Routine.{Routine}
use prog.Wp.{WpFn, Tables}
use types.Logic.{Logic}
use contract.Monad.{Fun, fact}
use contract.Running.{tables, tables_of}
use sound.WpLaws.{fm_of, WpFn-mono}
use types.Kit.{Item, at_ret, ‵, raw, ◌⊛◌, some, later, ◌$◌, ◌∵◌, !, qed, by, move, drop, use1, join, split, split3, pick, rewrite, fsplit, fjoin, feq_i, suffices, await, done}
use types.Part.{whole, sub}
use types.Run.{stop, fld, no_more, and_then, of_opd, returns, enter, first, blocks, exec}
use types.ByLocal.{alloc_all, pass_all, free_all, look_at, get, get_in, sets, lands_last, env}
use denote.RattleType.{RattleType}
use denote.Exit.{no}
use denote.RawPtr.{block_ptr}
use denote.Signature.{plain}
use denote.Steps.{heard, nothing, only}
use denote.Triple.Call.{calls_at_last}
use denote.Triple.Clauses.{Ended, Clauses}
use denote.Triple.Spec.{triple_of}
use denote.Triple.Statement.{Triple, Contract}
use denote.Triple.Table.{entered}
use denote.Triple.Walked.{says, Stays, stay_dropped, walk_of, ends_at, walk_Meets}
use Rattle.core.proofs.alloc.Calls.{token, Goes-blank}
use Rattle.std_alloc.specs.Box.Ownership.{box_owns}
use Rattle.std_alloc.proofs.BoxSteps.Form.{Bx, D, R, P, B, args, box_ty, word, box_typed}
use Rattle.std_alloc.proofs.BoxSteps.Steps.{box_out, box_in}
use Rattle.std_alloc.specs.contracts.boxed.Box.from_raw as callee
use Rattle.std_alloc.proofs.boxed.Box.from_raw.Symbol as callee_symbol
use Rattle.std_alloc.proofs.boxed.Box.from_raw.Met as callee_met
use Rattle.cpg_c.specs.contracts.parts.Parts as parts
use Rattle.cpg_c.specs.contracts.parts.Parts.into_box as contract_of
use Rattle.cpg_c.specs.contracts.parts.Parts.into_box.Key.{name as #name}
use Rattle.cpg_c.proofs.parts.Parts.into_box.Statement as stated
use Rattle.cpg_c.proofs.parts.Parts.into_box.Code as code

-- what is left once the call has answered: its answer is the function's
abbrev rest : Body
rest = seq (assign (place 0 []) (rv_opd (copy (place 4 [])))) return

module _ (X : Bx) where
  abbrev body : Fn
  body = inst_fn (args X) code.function

  abbrev ended : Ended
  ended = contract_of.ended X.row X.al.row X.al.g X.al.d X.al.drops

  abbrev taken_apart : RattleType
  taken_apart = parts.the_row (R X) (P X) X.al.g

  abbrev kept : Stays ended.signature.params ended.kept
  kept = (stay_dropped (plain (λ _. taken_apart)) no, tt)

  module _ {M : Type 1} {𝓤 : Ura M} (𝓛 : Logic 𝓤) (memory : Memory → SProp 𝓤) (run : Routine → Fun 𝓤) (𝓣 : Tables 𝓤 𝓛.H) where
    open 𝓛 use {H}

    abbrev clauses : Clauses 𝓤 ended
    clauses = contract_of.clauses X.row X.al.row X.al.g X.al.d X.al.drops 𝓛 memory run

    abbrev closes : Contract 𝓤
    closes = triple_of 𝓛 (callee.signature X.row X.al.row X.al.g X.al.d X.al.drops) (callee.spec X.row X.al.row X.al.g X.al.d X.al.drops 𝓛 memory run)

    steps : Triple 𝓤 (𝓣.C (callee_symbol.name (args X))) closes
        → (z : (walk_of 𝓛 ended kept clauses).Ghost)
        → ent 𝓤 ((walk_of 𝓛 ended kept clauses).pre z) (WpFn 𝓤 H 𝓣.C 𝓣.Λ body (z.0.4.0 ++ []) ((walk_of 𝓛 ended kept clauses).post z))
    steps known z =
        let κs = z.0.0 in let shares = z.0.1 in let a = z.0.3.0.alloc in let x = z.0.3.0.value in
        let after = (walk_of 𝓛 ended kept clauses).post z in
        let v : D X = record { ptr = z.0.3.0.pointer; alloc = a; value = x } in
        let tokens : Item 𝓤 = ‵ (flft κs.0 shares.0) ⊛ ‵ (flft κs.1.0 shares.1.0) ⊛ ‵ ftrue in
        let value_lives : Item 𝓤 = raw (fact 𝓤 (κs.0 ⊑ X.row.lives)) in let alloc_lives : Item 𝓤 = raw (fact 𝓤 (κs.1.0 ⊑ X.al.row.lives)) in
        qed 𝓛 ((tokens ⊛ ‵ (fsep ((B X).own_val v z.0.4.0) ftrue)) ∷ (value_lives ⊛ alloc_lives ⊛ ‵ ftrue) ∷ []) ∵ split ! $ move ! (1 ∷ []) $ fsplit ! $
        box_out X ! v z.0.4.0 (λ block offset handle is words fits. fjoin ! $
        let w = word X handle block offset in
        let y : closes.Ghost = ((κs, shares, tt, (a, (block_ptr block offset, tt)), (handle ∷ [], (vptr block offset ∷ [], tt))), x) in
        let owned : List (Item 𝓤) = ‵ (box_owns (token X.al a) (R X) (block_ptr block offset) x) ∷ ‵ ((P X).own_val a (handle ∷ [])) ∷ ‵ ftrue ∷ tokens ∷ (value_lives ⊛ alloc_lives ⊛ ‵ ftrue) ∷ [] in
        by ! (subst (λ (us : List Val). ent 𝓤 (types.Kit.⋆ 𝓛 owned) (WpFn 𝓤 H 𝓣.C 𝓣.Λ body (us ++ []) after)) (sym words)
        (qed 𝓛 owned ∵ enter ! 𝓣.C 𝓣.Λ body (w ∷ []) _ $ alloc_all ! (λ ls. pass_all ! refl (box_typed X handle block offset fits, tt) $
        -- the pointer, the allocator, and the allocator again for the call
        sets ! (of_opd ! (get_in ! (fld ! refl (stop !)) (sub ! 0 refl (whole !)))) refl (tt, tt) $
        sets ! (of_opd ! (get_in ! (fld ! refl (stop !)) (sub ! 1 refl (whole !)))) refl fits $
        first ! $ blocks ! $ sets ! (of_opd ! (get ! refl)) refl fits $
        move ! (4 ∷ []) $ split3 ! $ move ! (2 ∷ []) $ drop ! $ move ! (1 ∷ 2 ∷ []) $ join ! $ move ! (1 ∷ 0 ∷ []) $ join ! $
        move ! (2 ∷ []) $ feq_i ! (List Val) (vptr block offset ∷ []) (vptr block offset ∷ []) refl $ fjoin ! $ move ! (2 ∷ 0 ∷ []) $ fjoin ! $ move ! (2 ∷ 0 ∷ []) $ join ! $ join ! $ use1 𝓛 (raw (closes.pre y)) (id⊢ 𝓤 _) $
        calls_at_last ! (fm_of 𝓤 H 𝓛.laws 𝓣) closes known y (and_then ! (get ! refl) (and_then ! (get ! refl) (no_more !))) (λ u.
        use1 𝓛 (later (some (λ (r : D X). (tokens ⊛ ‵ ((B X).own_val r (u ∷ []))) ⊛ some (λ (_ : Unit {0} × (Unit {0} × Unit {0})). ‵ (fsep ftrue (fsep ftrue ftrue)) ⊛ (raw (fact 𝓤 (r.value ≡ x)) ⊛ raw (fact 𝓤 (r.alloc ≡ a))))))) (id⊢ 𝓤 _) $
        await ! tt $ pick ! (λ r. split ! $ move ! (1 ∷ []) $ pick ! (λ _. split3 ! $ drop ! $ heard ! (r.value ≡ x) (λ same. drop ! $ split ! $ move ! (1 ∷ []) $
        box_out X ! r (u ∷ []) (λ block' offset' handle' is' words' fits'. box_in X ! r block' offset' r.value is' refl $ rewrite ! 0 (λ (us : List Val). ‵ ((B X).own_val r us)) (sym words') refl $
        let typed : T (has_ty (box_ty X) u) × WT u = subst (λ (s : Val). T (has_ty (box_ty X) s) × WT s) (sym (ap only words')) (box_typed X handle' block' offset' fits') in
        lands_last ! refl typed $ exec ! 𝓣.C 𝓣.Λ (env body.locals ls) rest (at_ret (env body.locals ls) after) $
        sets ! (of_opd ! (get ! refl)) refl typed $ returns ! (look_at ! 0 refl) $ free_all ! refl $
        suffices ! _ (ends_at 𝓛 ended kept clauses z u r ((tt, (tt, tt)), tt) (tt, tt)) $ says ! same $
        nothing ! $ nothing ! $ fjoin ! $ join ! $ move ! (1 ∷ 0 ∷ []) $ join ! $ done !)))))))))

pub into_box_spec : {M : Type 1} → stated.statement M
unfolding tables_of
into_box_spec 𝓤 𝓛 𝓜 𝓡 wired row alloc row_laws alloc_laws ghosts alloc_dict drops allocator alloc_met =
    let X : Bx = record { row = row; laws = row_laws; al = record { row = alloc; laws = alloc_laws; g = ghosts; d = alloc_dict; drops = drops } } in
    let 𝓣 : Tables 𝓤 𝓛.H = tables_of 𝓤 𝓛.H 𝓜 (tables 𝓤 𝓛.H 𝓜 𝓡 𝓡.env) in
    entered 𝓤 𝓛.H (triple_of 𝓛 (ended X).signature (contract_of.spec row alloc ghosts alloc_dict drops 𝓛 𝓜.mem 𝓡.returns)) 𝓣.C 𝓣.Λ (#name (args X)) (body X)
    (code.unfolded 𝓤 𝓛.H 𝓜 𝓡 wired (row, (alloc, tt)) alloc_dict drops)
    (walk_Meets 𝓛 (ended X) (kept X) (Goes-blank 𝓛 2 (plain (λ _. taken_apart X)) no (λ κs x f. tt), tt) (clauses X 𝓛 𝓜.mem 𝓡.returns 𝓣) (WpFn 𝓤 𝓛.H 𝓣.C 𝓣.Λ (body X)) (WpFn-mono 𝓤 𝓛.H 𝓛.laws 𝓣 (body X))
    (steps X 𝓛 𝓜.mem 𝓡.returns 𝓣 (callee_met.met 𝓤 𝓛 𝓜 𝓡 (code.calls-std_alloc::boxed::Box::from_raw 𝓡.env wired) row alloc row_laws alloc_laws ghosts alloc_dict drops allocator alloc_met)))
