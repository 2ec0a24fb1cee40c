use Rattle.std.proofs.Common.{◌+◌, drop, ap, ◌∙◌}
use Rattle.shb_lines.specs.text.Lines.{LinesState}
use Rattle.shb_lines.proofs.text.LinesRead.{part_after}
use Rattle.shb_lines.proofs.lines.Lines.take_line.Goals as goal

pub returns-clause-held : goal.returns-clause-held
returns-clause-held c =
    part_after c.self.inside.bytes.items c.self.inside.next (c.args.len + 1) c.self.inside.end
    ∙ ap (λ (s : LinesState). drop (c.args.len + 1) s.held) c.self.view_is
