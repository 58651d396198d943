-- A note's knowledge is copied out of a `&`.
use Rattle.std.proofs.Common.{◌≡◌, ℕ, List, [], ◌∷◌, ◌++◌, refl, sym, subst}
use mir.Syntax.{a_type, named}
use mir.Val.{Val, vptr, vunit}
use mir.MapTy.{inst_fn}
use base.Logic.{SProp, ent, emp, id⊢, apply∗, all, all_e}
use prog.Wp.{WpFn}
use base.Fml.{Lft, Share, Fml, ftrue, fsep, flft}
use types.Logic.{sem}
use types.Kit.{‵, raw, ◌⊛◌, later, ◌$◌, ◌∵◌, !, qed, by, move, keep, drop, suffices, split, join, fsplit, fsplit3, fjoin, use0, use1, use2, await, feq_i}
use types.Run.{of_opd, returns, enter, unit_lit}
use types.ByLocal.{alloc_all, pass_all, free_all, look_at, sets}
use contract.Monad.{fact, fact_i}
use contract.Running.{tables}
use denote.Exit.{yes}
use denote.RattleType.{RattleType, owns}
use denote.Signature.{types_at, plain}
use denote.Builtin.{RefOf}
use denote.Ref.{shr_Tells}
use denote.Steps.{nothing, looks, shuts}
use denote.Param.{param, layouts}
use denote.Triple.Walked.{Stays, stay_dropped, walk_of, Goes-dropped, stay_ref, Goes-ref}
use Rattle.once_cell.specs.Once.{noted}
use Rattle.std.proofs.raw_atomic.Walks.{proved_at, leaves}
use Rattle.once_cell.proofs.Notes as notes
use Rattle.once_cell.proofs.Notes.{Note}
use Rattle.cpg_board.proofs.Shared.{opened}
use Rattle.cpg_board.specs.contracts.notes.learn.{ended, clauses}
use Rattle.cpg_board.specs.contracts.notes.learn.Key.{name as #self}
use Rattle.cpg_board.proofs.notes.learn.Statement.{statement}
use Rattle.cpg_board.proofs.notes.learn.Code as code

pub learn_spec : {M : Type 1} → statement M
learn_spec 𝓤 𝓛 𝓜 𝓡 wired T L =
    let H = 𝓛.H in let 𝓣 = tables 𝓤 H 𝓜 𝓡 𝓡.env in let R : RattleType = param 0 T in let En = ended T in let c = clauses T 𝓛 𝓜.mem 𝓡.returns in
    let inst = layouts (a_type ∷ []) (T, tt) in let fn = inst_fn inst code.function in
    let hs : Stays En.signature.params En.kept = (stay_ref (0 ∷ []) tt (plain (λ _. Note 𝓛 R)), (stay_dropped (RefOf (1 ∷ []) tt (plain (λ _. Note 𝓛 R)) (λ _. tt)) yes, tt)) in
    proved_at 𝓛 En hs c 𝓜 𝓡 (Goes-ref 𝓛 3 0 tt (plain (λ _. Note 𝓛 R)), (Goes-dropped 𝓛 3 (RefOf (1 ∷ []) tt (plain (λ _. Note 𝓛 R)) (λ _. tt)) yes (λ κs x f. refl), tt)) (#self inst) fn (code.unfolded 𝓤 H 𝓜 𝓡 wired (T, tt)) (λ z are.
    let κs = z.0.0 in let qs = z.0.1 in let Post : Val → SProp 𝓤 = (walk_of 𝓛 En hs c).post z in let Run : List Val → SProp 𝓤 = λ ws. WpFn 𝓤 H 𝓣.C 𝓣.Λ fn ws Post in
    let κ' : Lft = κs.0 in let q' : Share = qs.0 in let m = z.0.3.0 in let nb₀ : ℕ = m.ref_ptr.0 in let no₀ : ℕ = m.ref_ptr.1 in let ν₀ : ℕ = m.ghost_name in let n = m.now in
    let s = z.0.3.1.0 in let sb : ℕ = s.ref_ptr.0 in let so : ℕ = s.ref_ptr.1 in let x = s.now in let Nx : Fml = noted R x.cell x.known in
    let Shuts = notes.Shuts 𝓛 R κ' q' nb₀ no₀ ν₀ in let Told : Type 0 = x ≡ x in let Vs : List Val = vptr nb₀ no₀ ∷ vptr sb so ∷ [] in
    let rest : Fml = fsep (flft κs.1.0 qs.1.0) (fsep (flft κs.1.1.0 qs.1.1.0) ftrue) in
    let at_shr : z.0.4.1.0 ≡ vptr sb so ∷ [] = shr_Tells (named 1) κs.1.0 (Note 𝓛 R) s z.0.4.1.0 are.1.0 in
    qed 𝓛 (((‵ (flft κ' q') ⊛ ‵ rest) ⊛ ‵ (owns (types_at En.signature.params κs) z.0.3 z.0.4)) ∷ raw ((c κs z.0.3).requires z.1) ∷ []) ∵ keep ! (0 ∷ []) $
    split ! $ split ! $ move ! (2 ∷ []) $ fsplit3 ! $ fsplit ! $ move ! (2 ∷ []) $ fsplit ! $ keep ! (3 ∷ 5 ∷ 1 ∷ 6 ∷ []) $
    suffices ! (Run Vs) (subst (λ (us : List Val). ent 𝓤 (Run Vs) (Run us)) (sym (λ i. are.0.0 i ++ (at_shr i ++ []))) (id⊢ 𝓤 (Run Vs))) $
    enter ! 𝓣.C 𝓣.Λ fn Vs Post $ alloc_all ! (λ l. pass_all ! refl ((tt, tt), ((tt, tt), tt)) $
    use2 𝓛 (later (‵ (noted R n.cell n.known) ⊛ raw (all 𝓤 Shuts))) (notes.note_opens 𝓛 R κ' q' nb₀ no₀ ν₀ n) $ await ! tt $ split ! $ drop ! $
    -- [the way back; the `&`; the other tokens]
    move ! (2 ∷ []) $ fsplit ! $ move ! (3 ∷ 0 ∷ []) $ looks ! tt (Note 𝓛 R) (opened 𝓛 R) x sb so (λ q'' vs.
    move ! (1 ∷ []) $ fsplit ! $ move ! (1 ∷ []) $ use1 𝓛 (‵ Nx ⊛ ‵ Nx) (notes.noted_twice 𝓛 R x.cell x.known) $ split ! $
    move ! (2 ∷ 0 ∷ []) $ fjoin ! $ move ! (2 ∷ 0 ∷ 3 ∷ []) $ shuts ! tt (Note 𝓛 R) q'' x vs sb so $
    -- [its token; what it knows; the `&`; the last token; the way back]
    move ! (4 ∷ []) $ use1 𝓛 (raw (Shuts x)) (all_e 𝓤 Shuts x) $ move ! (2 ∷ 0 ∷ []) $
    use2 𝓛 (later (‵ (notes.lent 𝓛 R κ' q' nb₀ no₀ ν₀ x) ⊛ ‵ (flft κ' q'))) (apply∗ 𝓤 (sem 𝓛 Nx) _) $ await ! tt $ split ! $
    feq_i ! (List Val) z.0.4.0 (vptr nb₀ no₀ ∷ []) are.0.0 $ fjoin ! $ nothing ! $ nothing ! $ fjoin ! $ move ! (1 ∷ 0 ∷ []) $ fjoin ! $
    move ! (2 ∷ 4 ∷ []) $ fjoin ! $ move ! (2 ∷ 0 ∷ []) $ join ! $
    sets ! (of_opd ! (unit_lit !)) refl (tt, tt) $ feq_i ! (List Val) (vunit ∷ []) (vunit ∷ []) refl $ use0 𝓛 (raw (fact 𝓤 Told)) (fact_i 𝓤 Told (emp 𝓤) refl) $
    returns ! (look_at ! 0 refl) $ free_all ! refl $ keep ! (2 ∷ 3 ∷ 1 ∷ 0 ∷ []) $ by ! (leaves 𝓛 En hs c z vunit tt (x, (tt, tt)) (tt, (tt, tt))))))
