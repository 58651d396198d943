-- Null and the allocator make room that owns nothing.
use mathlib.Core.Path.{refl, sym, subst}
use mathlib.Core.List.{List, [], ◌∷◌, ◌++◌}
use Rattle.std.proofs.Common.{lit<}
use seplogic.Ra.Ura.{Ura}
use mir.Val.{Val, vstruct, vcons, vnil}
use base.Logic.{SProp, ent, emp, id⊢}
use base.Fml.{ftrue, fsep}
use prog.Memory.{Memory}
use prog.Routine.{Routine}
use prog.Wp.{WpFn, Tables}
use types.Logic.{Logic}
use contract.Monad.{Fun}
use contract.Running.{tables, tables_of}
use sound.WpLaws.{WpFn-mono}
use types.Kit.{Item, ‵, raw, ◌⊛◌, ◌$◌, ◌∵◌, !, qed, by, move, drop, use1, join, split, fsplit, fjoin, fpack, feq_i, suffices, done}
use types.Part.{agg}
use types.Run.{lit, no_more, and_then, returns, enter}
use types.ByLocal.{alloc_all, pass_all, free_all, look_at, get, sets}
use denote.Exit.{yes}
use denote.Signature.{type_at, plain}
use denote.Steps.{nothing}
use denote.RawPtr.{RawPtr, ptr_val, null_ptr}
use denote.RattleType.{Valss}
use denote.Struct.Struct.{within}
use denote.Struct.Owning.{shape, to}
use denote.Triple.Spec.{triple_of}
use denote.Triple.Table.{entered}
use denote.Triple.Walked.{says, Stays, stay_dropped, Walks, walk_of, ends_at, Goes-dropped, walk_Meets}
use Rattle.std.specs.Prelude.{None}
use Rattle.core.proofs.alloc.Calls.{handle_tells}
use Rattle.std_heap.specs.contracts.Global as allocator
use Rattle.cpg_c.proofs.Boxed.{boxed}
use Rattle.std_alloc.proofs.ResultValues.{and_tt}
use Rattle.cpg_c.specs.contracts.slots.Slot as slot
use Rattle.cpg_c.specs.contracts.slots.Slot.empty as contract_of
use Rattle.cpg_c.specs.contracts.slots.Slot.empty.Key.{name as #name}
use Rattle.cpg_c.proofs.slots.Slot.empty.Statement as stated
use Rattle.cpg_c.proofs.slots.Slot.empty.Code as code

abbrev kept : Stays (contract_of.ended).signature.params (contract_of.ended).kept
kept = (stay_dropped (plain (λ _. allocator.the_row)) yes, tt)

module _ {M : Type 1} {𝓤 : Ura M} (𝓛 : Logic 𝓤) (memory : Memory → SProp 𝓤) (run : Routine → Fun 𝓤) (𝓣 : Tables 𝓤 𝓛.H) where
  open 𝓛 use {H}

  steps : Walks 𝓛 contract_of.ended kept (WpFn 𝓤 H 𝓣.C 𝓣.Λ code.function) (contract_of.clauses 𝓛 memory run)
  steps z =
      let after = (walk_of 𝓛 contract_of.ended kept (contract_of.clauses 𝓛 memory run)).post z in
      let a = z.0.3.0 in
      qed 𝓛 ((‵ ftrue ⊛ ‵ (fsep (allocator.the_row.own_val a z.0.4.0) ftrue)) ∷ raw (emp 𝓤) ∷ []) ∵ split ! $ drop ! $ fsplit ! $
      handle_tells boxed.al ! a z.0.4.0 (λ handle is fits. move ! (1 ∷ 2 ∷ []) $ drop ! $ drop ! $
      let room = type_at (contract_of.signature).result tt in
      let made : room.Denot = record { at = null_ptr; alloc = a; held = None } in
      let w = vstruct (vcons (ptr_val null_ptr) (vcons handle vnil)) in
      -- the room: null, and the allocator's own
      nothing ! $ nothing ! $ move ! (2 ∷ 0 ∷ []) $ fjoin ! $
      feq_i ! (List Val) (ptr_val null_ptr ∷ []) (ptr_val null_ptr ∷ []) refl $ fjoin ! $ feq_i ! (List Val) (w ∷ []) (w ∷ []) refl $ fjoin ! $
      fpack ! (Valss (RawPtr ∷ (allocator.the_field).row ∷ [])) (within (shape slot.the_type) (to slot.the_type made) (w ∷ [])) (ptr_val null_ptr ∷ [], (handle ∷ [], tt)) $ fjoin ! $
      use1 𝓛 (‵ (room.own_val made (w ∷ []))) (id⊢ 𝓤 _) $
      let owned : List (Item 𝓤) = ‵ (room.own_val made (w ∷ [])) ∷ [] in
      by ! (subst (λ (us : List Val). ent 𝓤 (types.Kit.⋆ 𝓛 owned) (WpFn 𝓤 H 𝓣.C 𝓣.Λ code.function (us ++ []) after)) (sym is)
      (qed 𝓛 owned ∵ enter ! 𝓣.C 𝓣.Λ code.function (handle ∷ []) _ $ alloc_all ! (λ ls. pass_all ! refl (fits, tt) $
      sets ! (agg ! (and_then ! (lit ! tt) (and_then ! (get ! refl) (no_more !)))) refl (and_tt _ (fits.0), (record { fits = lit< tt }, (fits.1, tt))) $ returns ! (look_at ! 0 refl) $ free_all ! refl $
      suffices ! _ (ends_at 𝓛 contract_of.ended kept (contract_of.clauses 𝓛 memory run) z w made (tt, tt) (tt, tt)) $ says ! refl $
      nothing ! $ nothing ! $ fjoin ! $ join ! $ nothing ! $ join ! $ done !))))

pub empty_spec : {M : Type 1} → stated.statement M
unfolding tables_of
empty_spec 𝓤 𝓛 𝓜 𝓡 wired =
    let 𝓣 : Tables 𝓤 𝓛.H = tables_of 𝓤 𝓛.H 𝓜 (tables 𝓤 𝓛.H 𝓜 𝓡 𝓡.env) in
    entered 𝓤 𝓛.H (triple_of 𝓛 contract_of.signature (contract_of.spec 𝓛 𝓜.mem 𝓡.returns)) 𝓣.C 𝓣.Λ #name code.function (code.unfolded 𝓤 𝓛.H 𝓜 𝓡 wired)
    (walk_Meets 𝓛 contract_of.ended kept (Goes-dropped 𝓛 0 (plain (λ _. allocator.the_row)) yes (λ κs x f. refl), tt) (contract_of.clauses 𝓛 𝓜.mem 𝓡.returns) (WpFn 𝓤 𝓛.H 𝓣.C 𝓣.Λ code.function) (WpFn-mono 𝓤 𝓛.H 𝓛.laws 𝓣 code.function)
    (steps 𝓛 𝓜.mem 𝓡.returns 𝓣))
