-- commands drawn, one after the other
use Rattle.std.proofs.Common.{◌≡◌, ℕ, ◌+◌, ◌<◌, ◌≤◌, List, [], ◌∷◌, ◌++◌, length, drop, get_or, refl, sym, ap, subst, ◌∙◌, append_assoc, append-nil}
use Rattle.std.specs.Prelude.{Bool, false}
use Rattle.std.proofs.lemmas.List.{drop_more, drop_all}
use Rattle.cpg_world.proofs.Running.{as_many_nodes}
use Rattle.cpg_world_laws.specs.declared.events.WorldEvent.{WorldEvent}
use Rattle.cpg_world_laws.specs.Worlds.{WorldValue, happens}
use Rattle.cpg_step.specs.declared.commands.Look.{Look as LookValue}
use Rattle.cpg_step.specs.declared.commands.Command.{Command}
use Rattle.cpg_step.specs.declared.commands.Command.TheVariants.{Act, Look}
use Rattle.cpg_draw.specs.declared.arrows.Arrow.{Arrow}
use Rattle.cpg_draw.specs.declared.excerpts.Excerpt.{Excerpt}
use Rattle.cpg_draw.specs.declared.excerpts.Spot.{Spot}
use Rattle.cpg_draw.specs.declared.pictures.Picture.{Picture}
use Rattle.cpg_draw.specs.declared.rows.Row.{Row}
use Rattle.cpg_draw.specs.Excerpts.{is_shown, first_spot, spot_of, after_row, if_shown, shown_misses}
use Rattle.cpg_draw.specs.Rows.{moves, first_arrows, look_row, act_row, arrows_after, arrows_past, rows_of, IsPicture}
use Rattle.cpg_draw.specs.Steps.{IsActed, AreRows, StandsBefore}

regrouped : (old one more : List Row) → (old ++ one) ++ more ≡ old ++ (one ++ more)
regrouped old one more = simp append_assoc

-- rows, of which one more is there, and those after them
put_before : (old new whole one more : List Row) → new ≡ old ++ one → whole ≡ new ++ more → whole ≡ old ++ (one ++ more)
put_before old new whole one more put rest = rest ∙ (ap (λ rows. rows ++ more) put ∙ regrouped old one more)

-- an event's row, where it is shown, stands before those that follow it
pub act_goes_on : (x : Excerpt) (next spot : Spot) (arrows : List Arrow) (w : WorldValue) (e : WorldEvent) (old : List Row) (row : Row) (here : Bool) (then : List Arrow) (v : WorldValue) (new : List Row)
    → spot ≡ spot_of x next → IsActed spot arrows w e row then v → here ≡ is_shown x next.row (moves arrows w e) → new ≡ old ++ if_shown here row
    → StandsBefore x next arrows w (Act e) old here then v new
act_goes_on x next at arrows w e old row here then v new placed done shown put later last world whole h =
    let spot : Spot = spot_of x next in
    let acted : IsActed spot arrows w e row then v = subst (λ s. IsActed s arrows w e row then v) placed done in
    let there : AreRows x (after_row here next) then (happens w e) later new last world whole = subst (λ u. AreRows x (after_row here next) then u later new last world whole) acted.happened h in
    let rest : AreRows x (after_row here next) (arrows_after spot arrows w e) (happens w e) later new last world whole
    = subst (λ known. AreRows x (after_row here next) known (happens w e) later new last world whole) acted.noted there in
    let line : Row = act_row spot arrows w e acted.answer in
    record {
      answers = acted.answer ∷ rest.answers;
      replies = (acted.replied, rest.replies);
      put = subst (λ b. whole ≡ old ++ (if_shown b line ++ rows_of x (after_row b next) (arrows_after spot arrows w e) (happens w e) later rest.answers)) shown
          (put_before old new whole (if_shown here line) (rows_of x (after_row here next) (arrows_after spot arrows w e) (happens w e) later rest.answers)
          (put ∙ ap (λ r. old ++ if_shown here r) acted.shown) rest.put);
      ended = subst (λ b. last ≡ arrows_past x (after_row b next) (arrows_after spot arrows w e) (happens w e) later) shown rest.ended;
      ran = rest.ran;
    }

-- and so does the row of a command that only looks
pub look_goes_on : (x : Excerpt) (next spot : Spot) (arrows : List Arrow) (w : WorldValue) (l : LookValue) (old : List Row) (row : Row) (here : Bool) (new : List Row)
    → spot ≡ spot_of x next → row ≡ look_row spot arrows w l → here ≡ is_shown x next.row false → new ≡ old ++ if_shown here row
    → StandsBefore x next arrows w (Look l) old here arrows w new
look_goes_on x next spot arrows w l old row here new placed drawn shown put later last world whole rest =
    let line : Row = look_row (spot_of x next) arrows w l in
    let same : row ≡ line = drawn ∙ ap (λ s. look_row s arrows w l) placed in
    record {
      answers = rest.answers;
      replies = rest.replies;
      put = subst (λ b. whole ≡ old ++ (if_shown b line ++ rows_of x (after_row b next) arrows w later rest.answers)) shown
          (put_before old new whole (if_shown here line) (rows_of x (after_row here next) arrows w later rest.answers) (put ∙ ap (λ r. old ++ if_shown here r) same) rest.put);
      ended = subst (λ b. last ≡ arrows_past x (after_row b next) arrows w later) shown rest.ended;
      ran = rest.ran;
    }

-- an event leaves as many nodes
pub as_many_acted : (spot : Spot) (arrows : List Arrow) (w : WorldValue) (e : WorldEvent) (row : Row) (then : List Arrow) (v : WorldValue)
    → IsActed spot arrows w e row then v → length v.nodes ≡ length w.nodes
as_many_acted spot arrows w e row then v acted = ap (λ (x : WorldValue). length x.nodes) acted.happened ∙ as_many_nodes w e

-- the rows after one command more
pub step_rows : (x : Excerpt) (commands : List Command) (i : ℕ) (c : Command) (next : Spot) (here : Bool) (arrows then first : List Arrow) (w v begin : WorldValue) (old new begun : List Row)
    → i < length commands → get_or commands i c ≡ c
    → ((last : List Arrow) (world : WorldValue) (whole : List Row) → AreRows x next arrows w (drop i commands) old last world whole → AreRows x first_spot first begin commands begun last world whole)
    → StandsBefore x next arrows w c old here then v new
    → (last : List Arrow) (world : WorldValue) (whole : List Row) → AreRows x (after_row here next) then v (drop (i + 1) commands) new last world whole → AreRows x first_spot first begin commands begun last world whole
step_rows x commands i c next here arrows then first w v begin old new begun within e known goes last world whole rest =
    known last world whole (subst (λ cs. AreRows x next arrows w cs old last world whole)
    (sym (drop_more commands i c within ∙ ap (λ x. x ∷ drop (i + 1) commands) e)) (goes (drop (i + 1) commands) last world whole rest))

-- no command is left
pub last_rows : (x : Excerpt) (commands : List Command) (i : ℕ) (next : Spot) (arrows first : List Arrow) (w begin : WorldValue) (old begun : List Row)
    → length commands ≤ i
    → ((last : List Arrow) (world : WorldValue) (whole : List Row) → AreRows x next arrows w (drop i commands) old last world whole → AreRows x first_spot first begin commands begun last world whole)
    → AreRows x first_spot first begin commands begun arrows w old
last_rows x commands i next arrows first w begin old begun all known =
    known arrows w old (subst (λ cs. AreRows x next arrows w cs old arrows w old) (sym (drop_all i commands all)) ended)
  where
    ended : AreRows x next arrows w [] old arrows w old
    ended = record { answers = []; replies = tt; put = sym (append-nil old); ended = refl; ran = refl }

-- the rows, the arrows and what did not come are the picture
pub picture_drawn : (x : Excerpt) (w v : WorldValue) (commands : List Command) (arrows seen : List Arrow) (nodes : ℕ) (picture : Picture) (rows : List Row)
    → arrows ≡ first_arrows w → rows ≡ [] → seen ≡ picture.arrows.items → nodes ≡ length v.nodes → length v.nodes ≡ length w.nodes
    → picture.before ≡ length w.sent
    → AreRows x first_spot arrows w commands rows picture.arrows.items v picture.rows.items → picture.misses.items ≡ shown_misses x nodes seen
    → IsPicture x w commands picture v
picture_drawn x w v commands arrows seen nodes picture rows first none same counted many before drawn found =
    let there : AreRows x first_spot (first_arrows w) w commands [] picture.arrows.items v picture.rows.items
    = subst (λ a. AreRows x first_spot a w commands [] picture.arrows.items v picture.rows.items) first
    (subst (λ r. AreRows x first_spot arrows w commands r picture.arrows.items v picture.rows.items) none drawn) in
    record {
      answers = there.answers;
      replies = there.replies;
      before = before;
      rows = there.put;
      arrows = there.ended;
      misses = found ∙ (ap (λ n. shown_misses x n seen) (counted ∙ many) ∙ ap (shown_misses x (length w.nodes)) (same ∙ there.ended));
      ran = there.ran;
    }
