use Rattle.std.proofs.Common.{◌≡◌, ◌++◌, ◌∙◌, ℕ, List, OnOk, subst}
use Rattle.byteorder.specs.Endian.{big_bytes}
use Rattle.cpg_wire.specs.Spelling.{extent_bytes, wants_bytes}
use Rattle.cpg_wire.proofs.Put.{behind}
use Rattle.cpg_wire.proofs.encoding.put_token.Goals as goal

pub returns : goal.returns
returns g c =
    let written = g.B.BufMut.written in
    let token = c.args.token.now in
    subst (λ (l : List ℕ). OnOk c.put_wants.result (written c.put_wants.new.out ≡ l))
    (behind (written c.put_u64.new.out) (extent_bytes token) (written c.put_extent.new.out) (wants_bytes token) c.in_ok-put_extent.ensures
    ∙ behind (written c.args.out.now) (big_bytes 8 token.hop) (written c.put_u64.new.out) (extent_bytes token ++ wants_bytes token) c.in_ok-put_u64.ensures)
    c.put_wants.ensures
