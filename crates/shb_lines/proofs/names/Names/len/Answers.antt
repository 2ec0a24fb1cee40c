use Rattle.std.proofs.Common.{ap, arith, length}
use Rattle.shb_lines.proofs.text.KeptNames.{length-names_between}
use Rattle.shb_lines.proofs.names.Names.len.Goals as goal

pub returns : goal.returns
returns c =
    let names = c.self.inside in
    omega (arith, c.len.ensures, names.ends.ok.0, length-names_between names.bytes.items 0 names.ends.items, ap length c.self.view_is)
