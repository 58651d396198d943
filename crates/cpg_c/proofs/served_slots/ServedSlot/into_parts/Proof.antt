-- The pointer and the allocator are moved out of the room into the parts, and what they own goes with them.
use mathlib.Core.Path.{refl, sym, subst}
use mathlib.Core.List.{List, [], ◌∷◌, ◌++◌}
use seplogic.Ra.Ura.{Ura}
use mir.Val.{Val}
use base.Logic.{SProp, ent, id⊢}
use base.Fml.{ftrue, fsep}
use prog.Memory.{Memory}
use prog.Routine.{Routine}
use prog.Wp.{WpFn, Tables}
use types.Logic.{Logic}
use contract.Monad.{Fun, fact}
use contract.Running.{tables, tables_of}
use sound.WpLaws.{WpFn-mono}
use types.Kit.{Item, ‵, raw, ◌⊛◌, rewrite, ◌$◌, ◌∵◌, !, qed, by, move, drop, use1, join, split, fsplit, fjoin, suffices, done}
use types.Part.{whole, sub, agg}
use types.Run.{stop, fld, no_more, and_then, of_opd, returns, enter}
use types.ByLocal.{alloc_all, pass_all, free_all, look_at, get, get_in, sets}
use denote.Exit.{yes}
use denote.Signature.{type_at}
use denote.Steps.{heard, nothing}
use denote.Triple.Spec.{triple_of}
use denote.Triple.Table.{entered}
use denote.Triple.Walked.{says, Stays, stay_dropped, Walks, walk_of, ends_at, Goes-dropped, walk_Meets}
use Rattle.std.specs.Prelude.{◌≡◌, Option, Some, None, IsSome}
use Rattle.std_alloc.proofs.BoxSteps.Form.{D, B, word, box_typed}
use Rattle.std_alloc.proofs.BoxSteps.Steps.{box_out, box_in}
use Rattle.cpg_c.proofs.BoxedServed.{boxed, from_slot}
use Rattle.cpg_serve.specs.contracts.served.Served as endpoint
use Rattle.cpg_c.specs.contracts.served_slots.ServedSlot as slot
use Rattle.cpg_c.specs.contracts.served_slots.ServedSlot.into_parts as contract_of
use Rattle.cpg_c.specs.contracts.served_slots.ServedSlot.into_parts.Key.{name as #name}
use Rattle.cpg_c.proofs.served_slots.ServedSlot.into_parts.Statement as stated
use Rattle.cpg_c.proofs.served_slots.ServedSlot.into_parts.Code as code

abbrev kept : Stays (contract_of.ended).signature.params (contract_of.ended).kept
kept = (stay_dropped from_slot yes, tt)

-- what an option that is not empty has in it
value_in : {A : Type 0} (o : Option A) → IsSome o → (x : A) × (o ≡ Some x)
value_in (Some x) some = (x, refl)
value_in None none = cc

module _ {M : Type 1} {𝓤 : Ura M} (𝓛 : Logic 𝓤) (memory : Memory → SProp 𝓤) (run : Routine → Fun 𝓤) (𝓣 : Tables 𝓤 𝓛.H) where
  open 𝓛 use {H}

  steps : Walks 𝓛 contract_of.ended kept (WpFn 𝓤 H 𝓣.C 𝓣.Λ code.function) (contract_of.clauses 𝓛 memory run)
  steps z =
      let after = (walk_of 𝓛 contract_of.ended kept (contract_of.clauses 𝓛 memory run)).post z in
      let there = z.0.3.0 in
      let parts = type_at (contract_of.signature).result tt in
      qed 𝓛 ((‵ ftrue ⊛ ‵ (fsep (slot.the_row.own_val there z.0.4.0) ftrue)) ∷ raw (fact 𝓤 (IsSome there.held)) ∷ []) ∵
      move ! (1 ∷ []) $ heard ! (IsSome there.held) (λ some. split ! $ drop ! $ fsplit ! $
      let found = value_in there.held some in
      let v : D boxed = record { ptr = there.at; alloc = there.alloc; value = found.0 } in
      let made : parts.Denot = record { pointer = v.ptr; alloc = v.alloc; value = v.value } in
      rewrite ! 0 (λ (held : Option endpoint.the_row.Denot). ‵ (slot.the_row.own_val (record { at = there.at; alloc = there.alloc; held = held }) z.0.4.0)) found.1 refl $
      use1 𝓛 (‵ ((B boxed).own_val v z.0.4.0)) (id⊢ 𝓤 _) $
      box_out boxed ! v z.0.4.0 (λ block offset handle is words fits. box_in boxed ! v block offset v.value is refl $
      use1 𝓛 (‵ (parts.own_val made (word boxed handle block offset ∷ []))) (id⊢ 𝓤 _) $ move ! (1 ∷ 2 ∷ []) $ drop ! $ drop ! $
      let w = word boxed handle block offset in
      let owned : List (Item 𝓤) = ‵ (parts.own_val made (w ∷ [])) ∷ [] in
      by ! (subst (λ (us : List Val). ent 𝓤 (types.Kit.⋆ 𝓛 owned) (WpFn 𝓤 H 𝓣.C 𝓣.Λ code.function (us ++ []) after)) (sym words)
      (qed 𝓛 owned ∵ enter ! 𝓣.C 𝓣.Λ code.function (w ∷ []) _ $ alloc_all ! (λ ls. pass_all ! refl (box_typed boxed handle block offset fits, tt) $
      -- the pointer, the allocator, the pointer as the endpoint's, the parts
      sets ! (of_opd ! (get_in ! (fld ! refl (stop !)) (sub ! 0 refl (whole !)))) refl (tt, tt) $
      sets ! (of_opd ! (get_in ! (fld ! refl (stop !)) (sub ! 1 refl (whole !)))) refl fits $
      sets ! (of_opd ! (get ! refl)) refl (tt, tt) $
      sets ! (agg ! (and_then ! (get ! refl) (and_then ! (get ! refl) (no_more !)))) refl (box_typed boxed handle block offset fits) $ returns ! (look_at ! 0 refl) $ free_all ! refl $
      suffices ! _ (ends_at 𝓛 contract_of.ended kept (contract_of.clauses 𝓛 memory run) z w made (tt, tt) (tt, tt)) $ says ! found.1 $
      nothing ! $ nothing ! $ fjoin ! $ join ! $ nothing ! $ join ! $ done !)))))

pub into_parts_spec : {M : Type 1} → stated.statement M
unfolding tables_of
into_parts_spec 𝓤 𝓛 𝓜 𝓡 wired =
    let 𝓣 : Tables 𝓤 𝓛.H = tables_of 𝓤 𝓛.H 𝓜 (tables 𝓤 𝓛.H 𝓜 𝓡 𝓡.env) in
    entered 𝓤 𝓛.H (triple_of 𝓛 contract_of.signature (contract_of.spec 𝓛 𝓜.mem 𝓡.returns)) 𝓣.C 𝓣.Λ #name code.function (code.unfolded 𝓤 𝓛.H 𝓜 𝓡 wired)
    (walk_Meets 𝓛 contract_of.ended kept (Goes-dropped 𝓛 0 from_slot yes (λ κs x f. refl), tt) (contract_of.clauses 𝓛 𝓜.mem 𝓡.returns) (WpFn 𝓤 𝓛.H 𝓣.C 𝓣.Λ code.function) (WpFn-mono 𝓤 𝓛.H 𝓛.laws 𝓣 code.function)
    (steps 𝓛 𝓜.mem 𝓡.returns 𝓣))
