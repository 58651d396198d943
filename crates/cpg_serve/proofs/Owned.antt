-- Connections over a step, and the entries that they made.
use Rattle.std.proofs.Common.{◌≡◌, ◌≢◌, ◌⊎◌, ◌<◌, ◌≤◌, ℕ, zero, suc, true, false, List, [], ◌∷◌, ◌++◌, map, length, Option, Some, None, refl, sym, ap, subst, ◌∙◌, inl, inr, ⊎_elim, append_assoc, append-nil, length-append, arith, if◌then◌else◌}
use Rattle.std.specs.Prelude.{option_map}
use Rattle.std.specs.List.{AllByRecursion, slice_get}
use Rattle.std.proofs.lemmas.Bool.{cases_eq, cases_lt}
use Rattle.std.proofs.lemmas.Option.{none-some, same_Some, slice_get-map}
use Rattle.cpg_cred.specs.declared.credentials.Cred.{Cred}
use Rattle.cpg_entry.specs.declared.calls.Op.{Op}
use Rattle.cpg_entry.specs.declared.calls.Op.TheVariants.{Gone}
use Rattle.cpg_entry.specs.declared.entries.Entry.{Entry}
use Rattle.cpg_ring.specs.Worlds.{item, with_item}
use Rattle.cpg_ring.proofs.Lists.{item_with_same, item_with_other, length-with_item}
use Rattle.cpg_node.specs.declared.connections.Client.{Client}
use Rattle.cpg_node.specs.Nodes.{NodeValue, entry_by, if_open, open_client}
use Rattle.cpg_node.specs.Calls.{connected}
use Rattle.cpg_ask.proofs.Mapped.{length_mapped}
use Rattle.cpg_serve.specs.Carrying.{AreItsOwn, EndsIn, IsMade, IsOther, IsTaken, anew}
use Rattle.cpg_serve.specs.Settling.{IsAlike}
use Rattle.cpg_serve.proofs.Coming.{open_is}
use Rattle.cpg_serve.proofs.Running.{comer, front, get_last, within}

pub all_both : {X : Type 0} (P : X → Type 0) (xs ys : List X) → AllByRecursion P xs → AllByRecursion P ys → AllByRecursion P (xs ++ ys)
all_both P [] ys h k = k
all_both P (x ∷ xs) ys h k = (h.0, all_both P xs ys h.1 k)

-- ---- connections that are the same but for what they took

-- an open client is open where it is as that one
pub open_anew : (o : Option Client) (c : Client) → c.ended ≡ false → option_map anew o ≡ Some (anew c) → option_map anew (if_open o) ≡ Some (anew c)
open_anew None c alive e = absurd (none-some (anew c) e)
open_anew (Some k) c alive e =
    let same : anew k ≡ anew c = same_Some (anew k) (anew c) e in
    ap (λ b. option_map anew (if b then None else Some k)) (ap (λ (l : Client). l.ended) same ∙ alive) ∙ e

-- what a client that is open but for what it took is
pub open_back : (o : Option Client) (c : Client) → option_map anew o ≡ Some (anew c) → (d : Client) × (o ≡ Some d) × (d.pid ≡ c.pid)
open_back None c e = absurd (none-some (anew c) e)
open_back (Some d) c e = (d, refl, ap (λ (k : Client). k.pid) (same_Some (anew d) (anew c) e))

item_anew : (xs zs : List Client) (conn : ℕ) → map anew zs ≡ map anew xs → option_map anew (item zs conn) ≡ option_map anew (item xs conn)
item_anew xs zs zero e = refl
item_anew xs zs (suc i) e = sym (slice_get-map anew zs i) ∙ ap (λ (l : List Client). slice_get l i) e ∙ slice_get-map anew xs i

same_open : (o p : Option Client) (c : Client) → option_map anew p ≡ option_map anew o → if_open p ≡ Some c → (d : Client) × (if_open o ≡ Some d) × (d.pid ≡ c.pid)
same_open o p c same e =
    let at = open_is p c e in
    open_back (if_open o) c (open_anew o c at.1 (sym same ∙ ap (option_map anew) at.0))

same_closed : (o p : Option Client) → option_map anew p ≡ option_map anew o → if_open p ≡ None → if_open o ≡ None
same_closed o p same e = by_open (if_open o) refl
  where
    by_open : (q : Option Client) → if_open o ≡ q → if_open o ≡ None
    by_open None f = f
    by_open (Some d) f = let c = same_open p o d (sym same) f in absurd (none-some c.0 (sym e ∙ c.1))

pub from_one : (cs : List Client) (conn : ℕ) (c : Client) → if_open (item cs conn) ≡ Some c → 1 ≤ conn
from_one cs zero c e = absurd (none-some c e)
from_one cs (suc i) c e = omega arith

-- ---- a step

-- Who is open was open, as the same process, or came; who is closed was closed and made none of the new entries, or the
-- last of these is its end.
pub record Follows (x z : NodeValue) (new : List Entry) : Type 0 where
  pub node : z.ring.node ≡ x.ring.node
  pub many : length x.clients ≤ length z.clients
  pub process : (conn : ℕ) (c : Client) → conn ≤ length x.clients → open_client z conn ≡ Some c → (d : Client) × (open_client x conn ≡ Some d) × (d.pid ≡ c.pid)
  pub ended : (conn : ℕ) → conn ≤ length z.clients → open_client z conn ≡ None → ((conn ≤ length x.clients) × (open_client x conn ≡ None) × AllByRecursion (IsOther conn) new) ⊎ EndsIn new conn

-- the connections are the same, but for what they took
pub follows_same : (x z : NodeValue) (new : List Entry) → map anew z.clients ≡ map anew x.clients → z.ring.node ≡ x.ring.node → ((conn : ℕ) → open_client x conn ≡ None → AllByRecursion (IsOther conn) new) → Follows x z new
follows_same x z new same node others = record {
  node = node;
  many = omega (arith, count);
  process = λ conn c low found. same_open (item x.clients conn) (item z.clients conn) c (item_anew x.clients z.clients conn same) found;
  ended = λ conn low closed.
      let was : open_client x conn ≡ None = same_closed (item x.clients conn) (item z.clients conn) (item_anew x.clients z.clients conn same) closed in
      inl (omega (arith, low, count), was, others conn was);
}
  where
    count : length z.clients ≡ length x.clients
    count = sym (length_mapped anew z.clients) ∙ ap (λ (l : List Client). length l) same ∙ length_mapped anew x.clients

-- and there is no new entry
pub follows_on : (x z : NodeValue) → map anew z.clients ≡ map anew x.clients → z.ring.node ≡ x.ring.node → Follows x z []
follows_on x z same node = follows_same x z [] same node (λ conn none. tt)

-- a client came
pub follows_come : (x : NodeValue) (pid : ℕ) (cred : Cred) → Follows x (connected x pid cred) []
follows_come x pid cred = record {
  node = refl;
  many = omega (arith, count);
  process = λ conn c low found. (c, sym (ap if_open (front x.clients (new ∷ []) conn low)) ∙ found, refl);
  ended = λ conn low closed. ⊎_elim
      (λ (past : length x.clients < conn). absurd (none-some new (sym closed ∙ ap if_open (came conn (omega (arith, past, low, count))))))
      (λ (old : conn ≤ length x.clients). inl (old, sym (ap if_open (front x.clients (new ∷ []) conn old)) ∙ closed, tt))
      (cases_lt (length x.clients) conn);
}
  where
    new : Client
    new = comer pid cred

    count : length (x.clients ++ new ∷ []) ≡ suc (length x.clients)
    count = let l = length-append x.clients (new ∷ []) in omega (arith, l)

    came : (conn : ℕ) → conn ≡ suc (length x.clients) → item (x.clients ++ new ∷ []) conn ≡ Some new
    came conn is = ap (item (x.clients ++ new ∷ [])) is ∙ get_last x.clients new

-- a client's connection ended
pub follows_end : (by : ℕ) (x z : NodeValue) (c : Client) → open_client x by ≡ Some c → z.clients ≡ with_item x.clients by (record c { ended = true }) → z.ring.node ≡ x.ring.node → Follows x z (entry_by x by c Gone ∷ [])
follows_end by x z c there same node = record {
  node = node;
  many = omega (arith, count);
  process = λ conn d low found. ⊎_elim
      (λ (own : conn ≡ by). absurd (none-some d (sym closed_now ∙ ap (open_client z) (sym own) ∙ found)))
      (λ (apart : conn ≢ by). (d, sym (ap if_open (others conn apart)) ∙ found, refl))
      (cases_eq conn by);
  ended = λ conn low closed. ⊎_elim
      (λ (own : conn ≡ by). inr (record { before = []; end = entry_by x by c Gone; after = []; cut = refl; own = sym own; gone = refl; others = tt }))
      (λ (apart : conn ≢ by). inl (omega (arith, low, count), sym (ap if_open (others conn apart)) ∙ closed, ((λ (same : by ≡ conn). apart (sym same)), tt)))
      (cases_eq conn by);
}
  where
    ended : Client
    ended = record c { ended = true }

    count : length z.clients ≡ length x.clients
    count = ap (λ (l : List Client). length l) same ∙ length-with_item x.clients by ended

    others : (conn : ℕ) → conn ≢ by → item z.clients conn ≡ item x.clients conn
    others conn apart = ap (λ (l : List Client). item l conn) same ∙ item_with_other x.clients by conn ended apart

    closed_now : open_client z by ≡ None
    closed_now = ap (λ (l : List Client). if_open (item l by)) same ∙ ap if_open (item_with_same x.clients by ended c (open_is (item x.clients by) c there).0)

-- ---- the entries that connections made

-- an entry of an open connection
pub made_by : (x : NodeValue) (conn : ℕ) (c : Client) (op : Op) → open_client x conn ≡ Some c → IsTaken op → IsMade x (entry_by x conn c op)
made_by x conn c op there taken = record {
  taken = taken;
  node = refl;
  known = (from_one x.clients conn c there, within x.clients conn c (open_is (item x.clients conn) c there).0);
  process = λ d found. ap (λ (k : Client). k.pid) (same_Some d c (sym found ∙ there));
}

pub made_on : (x z : NodeValue) (new es : List Entry) → Follows x z new → AllByRecursion (IsMade x) es → AllByRecursion (IsMade z) es
made_on x z new [] f h = tt
made_on x z new (e ∷ es) f h = (
  record {
    taken = h.0.taken;
    node = h.0.node ∙ sym f.node;
    known = (h.0.known.0, omega (arith, h.0.known.1, f.many));
    process = λ c found. let d = f.process e.conn c h.0.known.1 found in sym d.2 ∙ h.0.process d.0 d.1;
  },
  made_on x z new es f h.1,
)

-- where the ring's node and the connections stay
pub made_still : (x y : NodeValue) (es : List Entry) → IsAlike x y → y.clients ≡ x.clients → AllByRecursion (IsMade x) es → AllByRecursion (IsMade y) es
made_still x y es alike same h = made_on x y [] es (follows_on x y (ap (λ (l : List Client). map anew l) same) alike.number) h

pub made_before : (x y : NodeValue) (es : List Entry) → IsAlike x y → y.clients ≡ x.clients → AllByRecursion (IsMade y) es → AllByRecursion (IsMade x) es
made_before x y es alike same h = made_on y x [] es (follows_on y x (ap (λ (l : List Client). map anew l) (sym same)) (sym alike.number)) h

-- ---- one step behind another

ends_before : (es new : List Entry) (conn : ℕ) → EndsIn es conn → AllByRecursion (IsOther conn) new → EndsIn (es ++ new) conn
ends_before es new conn h others = record {
  before = h.before;
  end = h.end;
  after = h.after ++ new;
  cut = ap (λ (l : List Entry). l ++ new) h.cut ∙ append_assoc h.before (h.end ∷ h.after) new;
  own = h.own;
  gone = h.gone;
  others = all_both (IsOther conn) h.after new h.others others;
}

ends_behind : (es new : List Entry) (conn : ℕ) → EndsIn new conn → EndsIn (es ++ new) conn
ends_behind es new conn h = record {
  before = es ++ h.before;
  end = h.end;
  after = h.after;
  cut = ap (λ (l : List Entry). es ++ l) h.cut ∙ sym (append_assoc es h.before (h.end ∷ h.after));
  own = h.own;
  gone = h.gone;
  others = h.others;
}

pub own_on : (x z : NodeValue) (es new : List Entry) → Follows x z new → AllByRecursion (IsMade z) new → AreItsOwn x es → AreItsOwn z (es ++ new)
own_on x z es new f made h = record {
  made = all_both (IsMade z) es new (made_on x z new es f h.made) made;
  ended = λ conn some low closed. ⊎_elim
      (λ (was : (conn ≤ length x.clients) × (open_client x conn ≡ None) × AllByRecursion (IsOther conn) new). ends_before es new conn (h.ended conn some was.0 was.1) was.2)
      (λ (end : EndsIn new conn). ends_behind es new conn end)
      (f.ended conn low closed);
}

pub own_still : (x z : NodeValue) (es : List Entry) → Follows x z [] → AreItsOwn x es → AreItsOwn z es
own_still x z es f h = subst (AreItsOwn z) (append-nil es) (own_on x z es [] f tt h)
