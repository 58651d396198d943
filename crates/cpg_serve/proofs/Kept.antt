-- A client's story goes on, at its desk.
use Rattle.std.proofs.Common.{◌≡◌, ℕ, List, ◌++◌, Option, Some, sym, ap, ◌∙◌, subst}
use Rattle.std.proofs.lemmas.Option.{same_Some}
use Rattle.cpg_ring.specs.Worlds.{item, with_item}
use Rattle.cpg_ring.proofs.Lists.{item_with_same}
use Rattle.cpg_ask.specs.Asks.{Ask}
use Rattle.cpg_serve.specs.declared.hearing.Stop.{Stop}
use Rattle.cpg_serve.specs.Telling.{DeskValue}
use Rattle.cpg_serve.specs.Asking.{At, at_of}
use Rattle.cpg_serve.specs.Serving.{ServedValue, IsHeard, IsToldAt, IsCaughtUp}
use Rattle.cpg_serve.specs.Stories.{Before, IsStory, StoryAt}
use Rattle.cpg_serve.specs.Laws.{StoryOfHearing, StoryOfTelling, StoryOfDelivery}
use Rattle.cpg_serve.specs.Hearing.{asks_of}
use Rattle.cpg_serve.proofs.OneByOne.{all_leave}
use Rattle.cpg_serve.proofs.Noted.{story_asked, story_told, story_delivered}

there_now : (x y : ServedValue) (conn : ℕ) (old new : DeskValue) → item x.desks conn ≡ Some old → y.desks ≡ with_item x.desks conn new → item y.desks conn ≡ Some new
there_now x y conn old new there others = ap (λ ds. item ds conn) others ∙ item_with_same x.desks conn new old there

-- the story of who was heard
pub story_heard : (before : Before) (conn : ℕ) (asks : List Ask) (written : List ℕ) (x y : ServedValue) (bytes : List ℕ) (count : ℕ) (stop : Stop) (h : IsHeard conn x bytes count stop y) → StoryAt before conn asks written x
    → StoryAt before conn (asks ++ asks_of h.did.so.turns) written y
story_heard before conn asks written x y bytes count stop h k =
    let same : h.old ≡ k.desk = same_Some h.old k.desk (sym h.there ∙ k.there) in
    let here : IsStory before conn asks written (at_of x.node h.old) = subst (λ (d : DeskValue). IsStory before conn asks written (at_of x.node d)) (sym same) k.story in
    record {
      desk = h.new;
      there = there_now x y conn h.old h.new h.there h.others;
      greeting = ap (λ (t : At). t.desk.greeting) h.did.so.done ∙ (all_leave conn (at_of x.node h.old) h.did.so.turns).greeting ∙ ap (λ (d : DeskValue). d.greeting) same ∙ k.greeting ∙ sym h.greeting;
      story = subst (λ (t : At). IsStory before conn (asks ++ asks_of h.did.so.turns) written t) (sym h.did.so.done) (story_asked before conn asks h.did.so.turns written (at_of x.node h.old) h.did.so.taken here);
    }

pub story_of_hearing : StoryOfHearing
story_of_hearing before conn asks written x y bytes count stop h k = (asks_of h.did.so.turns, h.did.so.parts, story_heard before conn asks written x y bytes count stop h k)

pub story_of_telling : StoryOfTelling
story_of_telling before conn asks written x y result h k =
    let told : IsToldAt conn x k.desk result y = subst (λ (o : Option DeskValue). IsCaughtUp conn x o result y) k.there h in
    record {
      desk = told.new;
      there = there_now x y conn k.desk told.new k.there told.others;
      greeting = told.goes.greeting ∙ k.greeting ∙ sym told.greeting;
      story = story_told before conn asks written (at_of x.node k.desk) (at_of y.node told.new) told.goes k.story;
    }

pub story_of_delivery : StoryOfDelivery
story_of_delivery before conn asks written x k = record {
  desk = k.desk;
  there = k.there;
  greeting = k.greeting;
  story = story_delivered before conn asks written x.node k.desk k.story;
}
