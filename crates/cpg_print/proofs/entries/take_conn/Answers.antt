use Rattle.std.proofs.Common.{◌≡◌, ℕ, ◌+◌, ◌-◌, List, length, take, drop, sym, ap, ◌∙◌, arith}
use Rattle.std.specs.Prelude.{option_map}
use Rattle.cpg_text.specs.Lines.{words_of}
use Rattle.cpg_print.specs.Entries.{first_conn}
use Rattle.cpg_text.specs.Numbers.{first_number}
use Rattle.cpg_text.specs.Words.{◌>>=◌}
use Rattle.cpg_print.proofs.FirstConns.{conn_after, conn_there, after_none, after_limits, after_conn}
use Rattle.cpg_print.proofs.entries.take_conn.Goals as goal
use Rattle.cpg_print.proofs.entries.take_conn.Goals.{After-take_number}

-- the words behind the dot
abbrev left : After-take_number → List (List ℕ)
left c =
    let line = c.args.line.now in
    let dot = c.first_digits-node.result.1 in
    words_of (take (length line - (dot + 1)) (drop (dot + 1) line))

-- what the first connection of the line is by them
there : (c : After-take_number) → first_conn (words_of c.args.line.now) ≡ (first_number (left c) >>= conn_after c.first_digits-node.result.0)
there c =
    conn_there c.args.line.now c.first_digits-node.result.0 c.first_digits-node.result.1 (omega (arith, c.if-dot-eq0.false)) (omega (arith, c.if-line-dot-lt2.false))
    c.first_digits-node.ensures.digits c.first_digits-node.ensures.value c.if-line-dot-ne46.false (sym c.is_ascii_digit.ensures.value ∙ c.if-not-is_ascii_digit.false)

pub returns-in_err-conn : goal.returns-in_err-conn
returns-in_err-conn c =
    let read = (goal.at.returns-in_err-conn c).After-take_number in
    ap (option_map (λ found. (found.0, words_of found.1.now))) c.from_residual.ensures
    ∙ after_none c.first_digits-node.result.0 (left read) (first_conn (words_of c.args.line.now)) (there read) c.in_err-conn.ensures

pub returns-in_err-conn-2 : goal.returns-in_err-conn-2
returns-in_err-conn-2 c =
    let read = (goal.at.returns-in_err-conn-2 c).After-take_number in
    ap (option_map (λ found. (found.0, words_of found.1.now))) c.from_residual-in_err-conn-2.ensures
    ∙ after_limits c.first_digits-node.result.0 c.in_ok-conn.conn (left read) _ (first_conn (words_of c.args.line.now)) (there read) c.in_ok-conn.ensures (sym c.in_err-conn-2.was ∙ c.conn_in_limits.ensures)

pub returns : goal.returns
returns c =
    let read = (goal.at.returns c).After-take_number in
    after_conn c.first_digits-node.result.0 c.in_ok-conn.conn (left read) _ (first_conn (words_of c.args.line.now)) c.in_ok-conn-2.conn (there read) c.in_ok-conn.ensures
    (sym c.in_ok-conn-2.was ∙ c.conn_in_limits.ensures)
