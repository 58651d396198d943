use Rattle.std.proofs.Common.{◌≡◌, ◌++◌, ◌∙◌, ℕ, List, OnOk, subst}
use Rattle.byteorder.specs.Endian.{big_bytes}
use Rattle.cpg_wire.specs.declared.codes.Version.TheVariants.{Two}
use Rattle.cpg_wire.specs.Spelling.{cred_bytes, op_bytes, sender_bytes}
use Rattle.cpg_wire.proofs.Put.{behind}
use Rattle.cpg_wire.proofs.encoding.put_packet.Goals as goal

pub returns : goal.returns
returns g c =
    let written = g.B.BufMut.written in
    let packet = c.args.packet.now in
    let op = op_bytes Two packet.entry.op in
    let cred = cred_bytes packet.entry.cred in
    let sender = sender_bytes packet.entry in
    subst (λ (l : List ℕ). OnOk c.put_op.result (written c.put_op.new.out ≡ l))
    (behind (written c.put_sender.new.out) cred (written c.put_cred.new.out) op c.in_ok-put_cred.ensures
    ∙ behind (written c.put_u32.new.out) sender (written c.put_sender.new.out) (cred ++ op) c.in_ok-put_sender.ensures
    ∙ behind (written c.args.out.now) (big_bytes 4 packet.place) (written c.put_u32.new.out) (sender ++ (cred ++ op)) c.in_ok-put_u32.ensures)
    c.put_op.ensures
