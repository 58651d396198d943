-- who makes an entry, word after word
use Rattle.std.proofs.Common.{◌≡◌, ℕ, List, [], ◌∷◌, Option, Some, None, option_map, refl, ◌∙◌}
use Rattle.cpg_entry.specs.declared.entries.Entry.{Entry}
use Rattle.cpg_record.specs.declared.connections.ConnId.{ConnId}
use Rattle.cpg_text.specs.Numbers.{first_number}
use Rattle.cpg_text.specs.Words.{◌>>=◌, u32_of}
use Rattle.cpg_print.specs.declared.entries.Caller.{Caller}
use Rattle.cpg_print.specs.Entries.{conn_of_word, first_conn, entry_by, enterable_op, entry_of}

-- the entry of a caller and of the words of its op
abbrev pub entry_for : Caller → List (List ℕ) → Option Entry
entry_for caller words = option_map (λ op. entry_by caller op) (enterable_op words)

-- the entry of words, where each value is taken from the words that are left
abbrev pub in_turn : List (List ℕ) → Option Entry
in_turn words = do
  c ← first_conn words
  p ← first_number c.1
  u ← first_number p.1
  g ← first_number u.1
  entry_for (record { conn = c.0; pid = p.0; cred = record { uid = u.0; gid = g.0 } }) g.1

-- four words are read in turn as at once
four_in_turn : (conn pid uid gid : List ℕ) (words : List (List ℕ)) (c : Option ConnId) (p u g : Option ℕ)
    → conn_of_word conn ≡ c → u32_of pid ≡ p → u32_of uid ≡ u → u32_of gid ≡ g
    → entry_of (conn ∷ pid ∷ uid ∷ gid ∷ words) ≡ in_turn (conn ∷ pid ∷ uid ∷ gid ∷ words)
four_in_turn conn pid uid gid words None p u g ec ep eu eg = rw ec refl
four_in_turn conn pid uid gid words (Some c) None u g ec ep eu eg = rw (ec, ep) refl
four_in_turn conn pid uid gid words (Some c) (Some p) None g ec ep eu eg = rw (ec, ep, eu) refl
four_in_turn conn pid uid gid words (Some c) (Some p) (Some u) None ec ep eu eg = rw (ec, ep, eu, eg) refl
four_in_turn conn pid uid gid words (Some c) (Some p) (Some u) (Some g) ec ep eu eg = rw (ec, ep, eu, eg) refl

-- fewer are no entry
few_in_turn : (conn : List ℕ) (words : List (List ℕ)) (c : Option ConnId) → conn_of_word conn ≡ c
    → ((c : ConnId) → None ≡ (first_number words >>= λ p. first_number p.1 >>= λ u. first_number u.1 >>= λ g.
    entry_for (record { conn = c; pid = p.0; cred = record { uid = u.0; gid = g.0 } }) g.1))
    → None ≡ in_turn (conn ∷ words)
few_in_turn conn words None e rest = rw e refl
few_in_turn conn words (Some c) e rest = rw e (rest c)

two_in_turn : (c : ConnId) (pid : List ℕ) (p : Option ℕ) → u32_of pid ≡ p
    → None ≡ (first_number (pid ∷ []) >>= λ p. first_number p.1 >>= λ u. first_number u.1 >>= λ g.
    entry_for (record { conn = c; pid = p.0; cred = record { uid = u.0; gid = g.0 } }) g.1)
two_in_turn c pid None e = rw e refl
two_in_turn c pid (Some p) e = rw e refl

three_in_turn : (c : ConnId) (pid uid : List ℕ) (p u : Option ℕ) → u32_of pid ≡ p → u32_of uid ≡ u
    → None ≡ (first_number (pid ∷ uid ∷ []) >>= λ p. first_number p.1 >>= λ u. first_number u.1 >>= λ g.
    entry_for (record { conn = c; pid = p.0; cred = record { uid = u.0; gid = g.0 } }) g.1)
three_in_turn c pid uid None u ep eu = rw ep refl
three_in_turn c pid uid (Some p) None ep eu = rw (ep, eu) refl
three_in_turn c pid uid (Some p) (Some u) ep eu = rw (ep, eu) refl

-- an entry's words are read in turn
read_in_turn : (words : List (List ℕ)) → entry_of words ≡ in_turn words
read_in_turn [] = refl
read_in_turn (conn ∷ []) = few_in_turn conn [] (conn_of_word conn) refl (λ c. refl)
read_in_turn (conn ∷ pid ∷ []) = few_in_turn conn (pid ∷ []) (conn_of_word conn) refl (λ c. two_in_turn c pid (u32_of pid) refl)
read_in_turn (conn ∷ pid ∷ uid ∷ []) =
    few_in_turn conn (pid ∷ uid ∷ []) (conn_of_word conn) refl (λ c. three_in_turn c pid uid (u32_of pid) (u32_of uid) refl refl)
read_in_turn (conn ∷ pid ∷ uid ∷ gid ∷ words) =
    four_in_turn conn pid uid gid words (conn_of_word conn) (u32_of pid) (u32_of uid) (u32_of gid) refl refl refl refl

-- where one is not there, there is no entry
pub no_conn : (words : List (List ℕ)) → None ≡ first_conn words → entry_of words ≡ None
no_conn words ec = read_in_turn words ∙ rw (← ec) refl

pub no_pid : (words w1 : List (List ℕ)) (c : ConnId) → Some (c, w1) ≡ first_conn words → None ≡ first_number w1 → entry_of words ≡ None
no_pid words w1 c ec ep = read_in_turn words ∙ rw (← ec, ← ep) refl

pub no_uid : (words w1 w2 : List (List ℕ)) (c : ConnId) (p : ℕ) → Some (c, w1) ≡ first_conn words → Some (p, w2) ≡ first_number w1 → None ≡ first_number w2
    → entry_of words ≡ None
no_uid words w1 w2 c p ec ep eu = read_in_turn words ∙ rw (← ec, ← ep, ← eu) refl

pub no_gid : (words w1 w2 w3 : List (List ℕ)) (c : ConnId) (p u : ℕ) → Some (c, w1) ≡ first_conn words → Some (p, w2) ≡ first_number w1
    → Some (u, w3) ≡ first_number w2 → None ≡ first_number w3 → entry_of words ≡ None
no_gid words w1 w2 w3 c p u ec ep eu eg = read_in_turn words ∙ rw (← ec, ← ep, ← eu, ← eg) refl

-- where all four are, the entry is that of the op
pub all_four : (words w1 w2 w3 w4 : List (List ℕ)) (c : ConnId) (p u g : ℕ) → Some (c, w1) ≡ first_conn words → Some (p, w2) ≡ first_number w1
    → Some (u, w3) ≡ first_number w2 → Some (g, w4) ≡ first_number w3
    → entry_of words ≡ option_map (λ op. entry_by (record { conn = c; pid = p; cred = record { uid = u; gid = g } }) op) (enterable_op w4)
all_four words w1 w2 w3 w4 c p u g ec ep eu eg = read_in_turn words ∙ rw (← ec, ← ep, ← eu, ← eg) refl
