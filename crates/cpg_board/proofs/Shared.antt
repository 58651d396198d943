-- What a `&` to a note holds can be opened: the note takes no bytes, and what it knows can be had twice. Assumes `Logic`.
use Rattle.std.proofs.Common.{◌≡◌, List, [], ◌∷◌, ◌++◌, ap, ◌∙◌}
use seplogic.Ra.Ura.{Ura}
use mir.Val.{Val, vstruct, of_list}
use base.Fml.{Share, Fml}
use types.Logic.{Logic}
use types.Kit.{‵, ◌⊛◌, ◌$◌, ◌∵◌, !, qed, done, frame, fsplit, fjoin, split, use1}
use denote.RattleType.{RattleType}
use denote.Laws.{Is, shows, Copy}
use denote.Shadow.{pure_l, pure_i, Pure}
use denote.Memory.{part_at, share_laws}
use denote.Opens.{Opens, Opened-one, Cuts-Halves}
use denote.Sharing.{one}
use denote.SharingLaws.{one_shr_laws, contraction}
use denote.Struct.Struct.{Struct}
use denote.Struct.Owning.{shape}
use Rattle.once_cell.specs.contracts.race.note.Note as note
use Rattle.once_cell.specs.Once.{noted}
use Rattle.once_cell.proofs.Notes.{noted_twice, token}

module _ {M : Type 1} {𝓤 : Ura M} (𝓛 : Logic 𝓤) (R : RattleType) where
  abbrev pub Note : RattleType
  Note = note.the_row R

  abbrev Data : List Val → Fml
  Data vs = (Struct (shape (note.the_type R))).own_val (tt, tt) vs

  data_pure : (vs : List Val) → Pure (Data vs)
  data_pure vs = λ vss. (tt, ((λ uss. (tt, tt)), tt))

  told : (n : Note.Denot) (vs : List Val) → Is Note n vs → vs ≡ token ∷ []
  told n vs is = is.0.1.0 ∙ ap (λ (ws : List Val). vstruct (of_list (ws ++ [])) ∷ []) is.0.1.1.0.1.0

  note_copy : Copy 𝓛 Note
  note_copy = record {
    twice = λ n vs. qed 𝓛 (‵ (Note.own_val n vs) ∷ []) ∵ fsplit ! $ pure_l ! (Data vs) (λ f. use1 𝓛 (‵ (noted R n.cell n.known) ⊛ ‵ (noted R n.cell n.known)) (noted_twice 𝓛 R n.cell n.known) $ split ! $
        pure_i ! (Data vs) (data_pure vs) f $ fjoin ! $ frame ! $ pure_i ! (Data vs) (data_pure vs) f $ fjoin ! $ done !);
  }

  pub opened : Opens 𝓛 Note
  opened n b o =
      let laws = share_laws 𝓛 Note (Is Note) (shows 𝓛 Note) (λ m. token ∷ []) told note_copy in
      let Φ : Share → Fml = λ q. part_at Note q n b o in
      (Opened-one 𝓛 Φ (Cuts-Halves 𝓛 Φ (record { cut = λ q q₁ q₂ m. laws.cut q q₁ q₂ m n b o; join = λ q q₁ q₂ m. laws.join q q₁ q₂ m n b o })), contraction 𝓛 (one Φ) (one_shr_laws Φ))
