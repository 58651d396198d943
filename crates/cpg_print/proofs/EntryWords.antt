-- entries that are printed are read as those entries again
use Rattle.std.proofs.Common.{◌≡◌, ℕ, ◌<◌, ◌^◌, ◌∷◌, ◌++◌, true, Some, option_map, refl, ap, ◌∙◌, append_assoc, arith}
use Rattle.std.specs.Prelude.{codes, decimal}
use Rattle.cpg_cred.specs.declared.nodes.TheConstants.{MOST_NODES}
use Rattle.cpg_entry.specs.declared.entries.Entry.{Entry}
use Rattle.cpg_entry.specs.declared.ranges.TheConstants.{MOST_CONNECTIONS}
use Rattle.cpg_entry.specs.Ranges.{IsEntry}
use Rattle.cpg_entry.specs.Widths.{EntryFits, IsU32}
use Rattle.cpg_record.specs.Connections.{conn_of}
use Rattle.cpg_text.specs.Lines.{words_of}
use Rattle.cpg_text.specs.Words.{◌>>=◌, u32_of, cut_at}
use Rattle.cpg_print.specs.Calls.{SendsBytes, op_text}
use Rattle.cpg_print.specs.Entries.{conn_text, entry_text, conn_in_parts, conn_of_word, caller_of, entry_by, enterable_op, entry_of}
use Rattle.cpg_print.proofs.CallWords.{op_back}
use Rattle.cpg_print.proofs.Numerals.{decimal_lacks, decimal_printed, decimal_word, number_back}
use Rattle.cpg_print.proofs.Spacing.{is_word, cut_first, four_spaced, word_joined}

u32_back : (n : ℕ) → IsU32 n → u32_of (decimal n) ≡ Some n
u32_back n fits = number_back 0 4294967295 n (omega (arith, fits.1)) fits

u32_word : (n : ℕ) → IsU32 n → is_word (decimal n) ≡ true
u32_word n fits = decimal_word n (omega (arith, fits.1))

-- a connection is one word
conn_word : (entry : Entry) → EntryFits entry → is_word (conn_text (conn_of entry)) ≡ true
conn_word entry fits =
    let node : entry.node < 2 ^ 64 = omega (arith, fits.node.1) in
    let conn : entry.conn < 2 ^ 64 = omega (arith, fits.conn) in
    word_joined (decimal entry.node ++ codes ".") (decimal entry.conn)
    (word_joined (decimal entry.node) (codes ".") (decimal_word entry.node node) refl)
    (decimal_printed entry.conn conn)

-- a connection that is printed is read as that connection
conn_back : (entry : Entry) → IsEntry entry → EntryFits entry → conn_of_word (conn_text (conn_of entry)) ≡ Some (conn_of entry)
conn_back entry is fits =
    let node : entry.node < 2 ^ 64 = omega (arith, fits.node.1) in
    let conn : entry.conn < 2 ^ 64 = omega (arith, fits.conn) in
    ap (λ text. cut_at 46 text >>= conn_in_parts) (append_assoc (decimal entry.node) (codes ".") (decimal entry.conn))
    ∙ ap (λ parts. parts >>= conn_in_parts) (cut_first 46 (decimal entry.node) (decimal entry.conn) (decimal_lacks 46 entry.node (omega arith) node))
    ∙ rw (number_back 1 MOST_NODES entry.node node fits.node, number_back 1 MOST_CONNECTIONS entry.conn conn (is.conn, fits.conn)) refl

-- an entry that is printed is four words and those of its op
entry_spaced : (entry : Entry) → EntryFits entry
    → words_of (entry_text entry) ≡ conn_text (conn_of entry) ∷ decimal entry.pid ∷ decimal entry.cred.uid ∷ decimal entry.cred.gid ∷ words_of (op_text entry.op)
unfolding entry_text
entry_spaced entry fits =
    four_spaced (conn_text (conn_of entry)) (decimal entry.pid) (decimal entry.cred.uid) (decimal entry.cred.gid) (op_text entry.op)
    (conn_word entry fits) (u32_word entry.pid fits.pid) (u32_word entry.cred.uid fits.uid) (u32_word entry.cred.gid fits.gid)

-- the four words are read as who makes that entry
caller_back : (entry : Entry) → IsEntry entry → EntryFits entry
    → caller_of (conn_text (conn_of entry)) (decimal entry.pid) (decimal entry.cred.uid) (decimal entry.cred.gid)
    ≡ Some (record { conn = conn_of entry; pid = entry.pid; cred = entry.cred })
caller_back entry is fits = rw (conn_back entry is fits, u32_back entry.pid fits.pid, u32_back entry.cred.uid fits.uid, u32_back entry.cred.gid fits.gid) refl

-- an entry that is printed is read as that entry
pub entry_back : (entry : Entry) → IsEntry entry → EntryFits entry → SendsBytes entry.op → entry_of (words_of (entry_text entry)) ≡ Some entry
entry_back entry is fits bytes =
    ap entry_of (entry_spaced entry fits)
    ∙ ap (λ caller. caller >>= λ c. option_map (λ op. entry_by c op) (enterable_op (words_of (op_text entry.op)))) (caller_back entry is fits)
    ∙ ap (λ op. option_map (λ o. entry_by (record { conn = conn_of entry; pid = entry.pid; cred = entry.cred }) o) op) (op_back entry.op is.op fits.op bytes)
