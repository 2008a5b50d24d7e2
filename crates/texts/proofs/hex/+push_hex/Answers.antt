use Rattle.std.proofs.Common.{append_assoc, arith, rules}
use Rattle.texts.proofs.HexSteps.{hex_more}
use Rattle.texts.proofs.hex.+push_hex.Goals as goal

pub returns : goal.returns
returns t c =
    let h = hex_more c.args.digits c.args.w (omega arith) in
    let e = c.in_ok-push_hex.ensures in
    search (rules, append_assoc)
