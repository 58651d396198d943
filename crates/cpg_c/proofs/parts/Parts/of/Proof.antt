-- The box is taken apart by the library's own call, and the parts own what it owned.
use mathlib.Core.Path.{◌≡◌, refl, sym, subst, ap, ◌∙◌}
use mathlib.Core.List.{List, [], ◌∷◌, ◌++◌}
use seplogic.Ra.Ura.{Ura}
use mir.Syntax.{Fn, Args, Dict, a_type, dcons, dnil}
use mir.MapTy.{inst_fn}
use mir.Raw.{raw as bare}
use mir.Val.{Val, vstruct, of_list}
use base.Logic.{SProp, ent, id⊢, never, fst∗}
use base.Fml.{ftrue, fsep, flft}
use contract.BorrowLft.{◌⊑◌}
use prog.Memory.{Memory}
use prog.Routine.{Routine}
use prog.Wp.{WpFn, Tables}
use types.Logic.{Logic, sem}
use contract.Monad.{Fun, fact}
use contract.Running.{tables, tables_of}
use sound.WpLaws.{fm_of, WpFn-mono}
use types.Kit.{Item, ‵, raw, ◌⊛◌, some, later, ◌$◌, ◌∵◌, !, qed, by, move, drop, use1, join, split, split3, pick, rewrite, fsplit, fjoin, fpick, feq_l, suffices, await, done}
use types.Part.{whole, sub, agg}
use types.Run.{stop, fld, no_more, and_then, of_opd, returns, enter}
use types.ByLocal.{alloc_all, pass_all, free_all, look_at, get, get_in, sets, lands_as}
use denote.RattleType.{RattleType}
use denote.Exit.{no}
use denote.Param.{bounded}
use denote.RawPtr.{Ptr, RawPtr, block_ptr, null_ptr, ptr_val, in_a_block}
use denote.Signature.{plain}
use denote.Steps.{heard, nothing, only}
use denote.Struct.Tuple.{Tuple}
use denote.Triple.Call.{calls_at}
use denote.Triple.Clauses.{Ended, Clauses}
use denote.Triple.Spec.{triple_of}
use denote.Triple.Statement.{Triple, Contract}
use denote.Triple.Table.{entered}
use denote.Triple.Walked.{says, Stays, stay_dropped, walk_of, ends_at, walk_Meets}
use Rattle.core.proofs.alloc.Calls.{token, handle_tells, Goes-blank}
use Rattle.std_alloc.specs.Box.Ownership.{box_owns}
use Rattle.std_alloc.proofs.BoxSteps.Form.{Bx, D, τ, R, P, B, word, box_typed}
use Rattle.std_alloc.proofs.BoxSteps.Steps.{box_out, box_in}
use Rattle.std_alloc.specs.contracts.boxed.Box.into_raw_with_allocator as callee
use Rattle.std_alloc.proofs.boxed.Box.into_raw_with_allocator.Symbol as callee_symbol
use Rattle.std_alloc.proofs.boxed.Box.into_raw_with_allocator.Met as callee_met
use Rattle.cpg_c.specs.contracts.parts.Parts as parts
use Rattle.cpg_c.specs.contracts.parts.Parts.of as contract_of
use Rattle.cpg_c.specs.contracts.parts.Parts.of.Key.{name as #name}
use Rattle.cpg_c.proofs.parts.Parts.of.Statement as stated
use Rattle.cpg_c.proofs.parts.Parts.of.Code as code

-- a box, and how its value is dropped
module _ (X : Bx) (dropping : Dict) where
  abbrev arguments : Args
  arguments = bounded (a_type ∷ a_type ∷ []) (X.row, (X.al.row, tt)) (dcons X.al.d (dcons X.al.drops (dcons dropping dnil)))

  abbrev body : Fn
  body = inst_fn arguments code.function

  abbrev ended : Ended
  ended = contract_of.ended X.row X.al.row X.al.g X.al.d X.al.drops dropping

  abbrev kept : Stays ended.signature.params ended.kept
  kept = (stay_dropped (plain (λ _. B X)) no, tt)

  abbrev taken_apart : RattleType
  taken_apart = parts.the_row (R X) (P X) X.al.g

  module _ {M : Type 1} {𝓤 : Ura M} (𝓛 : Logic 𝓤) (memory : Memory → SProp 𝓤) (run : Routine → Fun 𝓤) (𝓣 : Tables 𝓤 𝓛.H) where
    open 𝓛 use {H}

    abbrev clauses : Clauses 𝓤 ended
    clauses = contract_of.clauses X.row X.al.row X.al.g X.al.d X.al.drops dropping 𝓛 memory run

    abbrev opens : Contract 𝓤
    opens = triple_of 𝓛 (callee.signature X.row X.al.row X.al.g X.al.d X.al.drops dropping) (callee.spec X.row X.al.row X.al.g X.al.d X.al.drops dropping 𝓛 memory run)

    steps : Triple 𝓤 (𝓣.C (callee_symbol.name arguments)) opens
        → (z : (walk_of 𝓛 ended kept clauses).Ghost)
        → ent 𝓤 ((walk_of 𝓛 ended kept clauses).pre z) (WpFn 𝓤 H 𝓣.C 𝓣.Λ body (z.0.4.0 ++ []) ((walk_of 𝓛 ended kept clauses).post z))
    steps known z =
        let κs = z.0.0 in let shares = z.0.1 in let v = z.0.3.0 in let a = v.alloc in
        let after = (walk_of 𝓛 ended kept clauses).post z in
        let tokens : Item 𝓤 = ‵ (flft κs.0 shares.0) ⊛ ‵ (flft κs.1.0 shares.1.0) ⊛ ‵ ftrue in
        let alive : Item 𝓤 = raw (fact 𝓤 (κs.0 ⊑ X.row.lives)) ⊛ raw (fact 𝓤 (κs.1.0 ⊑ X.al.row.lives)) ⊛ ‵ ftrue in
        qed 𝓛 ((tokens ⊛ ‵ (fsep ((B X).own_val v z.0.4.0) ftrue)) ∷ alive ∷ []) ∵ split ! $ move ! (1 ∷ []) $ fsplit ! $
        box_out X ! v z.0.4.0 (λ block offset handle is words fits. box_in X ! v block offset v.value is refl $
        let w = word X handle block offset in
        let y : opens.Ghost = ((κs, shares, tt, (v, tt), (w ∷ [], tt)), tt) in
        let owned : List (Item 𝓤) = ‵ ((B X).own_val v (w ∷ [])) ∷ ‵ ftrue ∷ tokens ∷ alive ∷ [] in
        by ! (subst (λ (us : List Val). ent 𝓤 (types.Kit.⋆ 𝓛 owned) (WpFn 𝓤 H 𝓣.C 𝓣.Λ body (us ++ []) after)) (sym words)
        (qed 𝓛 owned ∵ enter ! 𝓣.C 𝓣.Λ body (w ∷ []) _ $ alloc_all ! (λ ls. pass_all ! refl (box_typed X handle block offset fits, tt) $
        sets ! (of_opd ! (get ! refl)) refl (box_typed X handle block offset fits) $
        fjoin ! $ move ! (1 ∷ 0 ∷ []) $ join ! $ join ! $ use1 𝓛 (raw (opens.pre y)) (id⊢ 𝓤 _) $
        calls_at ! (fm_of 𝓤 H 𝓛.laws 𝓣) opens known y (and_then ! (get ! refl) (no_more !)) (λ u.
        use1 𝓛 (later (some (λ (r : Ptr × X.al.row.Denot). (tokens ⊛ ‵ ((Tuple (RawPtr ∷ P X ∷ [])).own_val r (u ∷ []))) ⊛ some (λ (_ : (Unit {0} × (Unit {0} × Unit {0})) × Unit {0}). ‵ (fsep (fsep ftrue (fsep ftrue ftrue)) ftrue) ⊛ (raw (fact 𝓤 (r.1 ≡ a)) ⊛ ‵ (box_owns (token X.al a) (R X) r.0 v.value)))))) (id⊢ 𝓤 _) $
        await ! tt $ pick ! (λ r. split ! $ move ! (1 ∷ []) $ pick ! (λ _. split3 ! $ drop ! $ heard ! (r.1 ≡ a) (λ same_alloc.
        in_a_block ! r.0 (λ p. box_owns (token X.al a) (R X) p v.value) (fst∗ 𝓤 (never 𝓤) (sem 𝓛 (token X.al a (bare (τ X)) null_ptr))) (λ block' offset' is'.
        move ! (1 ∷ []) $ split ! $ move ! (1 ∷ []) $ fpick ! (λ vss. fsplit ! $ feq_l ! (λ pair_is. fsplit ! $ feq_l ! (λ pointer_is. fsplit ! $
        rewrite ! 0 (λ (s : X.al.row.Denot). ‵ (X.al.row.own_val s vss.1.0)) same_alloc refl $ handle_tells X.al ! a vss.1.0 (λ handle' handle_is fits'.
        let d : D X = record { ptr = block_ptr block' offset'; alloc = a; value = v.value } in
        let made : taken_apart.Denot = record { pointer = block_ptr block' offset'; alloc = a; value = v.value } in
        lands_as ! (ap only (pair_is ∙ (λ j. vstruct (of_list ((pointer_is ∙ ap (λ (p : Ptr). ptr_val p ∷ []) is') j ++ (handle_is j ++ []))) ∷ []))) refl (box_typed X handle' block' offset' fits') $
        -- the pointer, the allocator, the parts
        sets ! (of_opd ! (get_in ! (fld ! refl (stop !)) (sub ! 0 refl (whole !)))) refl (tt, tt) $
        sets ! (of_opd ! (get_in ! (fld ! refl (stop !)) (sub ! 1 refl (whole !)))) refl fits' $
        sets ! (of_opd ! (get ! refl)) refl fits' $
        sets ! (agg ! (and_then ! (get ! refl) (and_then ! (get ! refl) (no_more !)))) refl (box_typed X handle' block' offset' fits') $ returns ! (look_at ! 0 refl) $ free_all ! refl $
        move ! (3 ∷ []) $ fsplit ! $ box_in X ! d block' offset' v.value refl refl $ use1 𝓛 (‵ (taken_apart.own_val made (word X handle' block' offset' ∷ []))) (id⊢ 𝓤 _) $ move ! (1 ∷ []) $ drop ! $
        suffices ! _ (ends_at 𝓛 ended kept clauses z (word X handle' block' offset') made ((tt, (tt, tt)), tt) (tt, tt)) $ says ! refl $
        nothing ! $ nothing ! $ fjoin ! $ join ! $ move ! (1 ∷ 0 ∷ []) $ join ! $ done !)))))))))))))

pub of_spec : {M : Type 1} → stated.statement M
unfolding tables_of
of_spec 𝓤 𝓛 𝓜 𝓡 wired row alloc row_laws alloc_laws ghosts alloc_dict drops dropping allocator alloc_met glue =
    let X : Bx = record { row = row; laws = row_laws; al = record { row = alloc; laws = alloc_laws; g = ghosts; d = alloc_dict; drops = drops } } in
    let 𝓣 : Tables 𝓤 𝓛.H = tables_of 𝓤 𝓛.H 𝓜 (tables 𝓤 𝓛.H 𝓜 𝓡 𝓡.env) in
    entered 𝓤 𝓛.H (triple_of 𝓛 (ended X dropping).signature (contract_of.spec row alloc ghosts alloc_dict drops dropping 𝓛 𝓜.mem 𝓡.returns)) 𝓣.C 𝓣.Λ (#name (arguments X dropping)) (body X dropping)
    (code.unfolded 𝓤 𝓛.H 𝓜 𝓡 wired (row, (alloc, tt)) alloc_dict drops dropping)
    (walk_Meets 𝓛 (ended X dropping) (kept X dropping) (Goes-blank 𝓛 2 (plain (λ _. B X)) no (λ κs x f. tt), tt) (clauses X dropping 𝓛 𝓜.mem 𝓡.returns 𝓣) (WpFn 𝓤 𝓛.H 𝓣.C 𝓣.Λ (body X dropping)) (WpFn-mono 𝓤 𝓛.H 𝓛.laws 𝓣 (body X dropping))
    (steps X dropping 𝓛 𝓜.mem 𝓡.returns 𝓣 (callee_met.met 𝓤 𝓛 𝓜 𝓡 (code.calls-std_alloc::boxed::Box::into_raw_with_allocator 𝓡.env wired) row alloc row_laws alloc_laws ghosts alloc_dict drops dropping allocator alloc_met glue)))
