-- What stands after the index that the search finds.
use Rattle.std.proofs.Common.{◌+◌, ap, arith, drop, sym, ◌∙◌}
use Rattle.std.proofs.Math.ListN.{drop_of_length-le}
use Rattle.shb_lines.proofs.text.Bytes.{position-found, position-none}
use Rattle.shb_lines.proofs.trace.after_byte.Goals as goal

pub returns-in-Some : goal.returns-in-Some
returns-in-Some c =
    c.split_at.ensures.back ∙ ap (λ n. drop (n + 1) c.args.bytes.now) (sym (position-found c.args.byte c.args.bytes.now c.in-Some.at c.in-Some.ensures))

pub returns-in-None : goal.returns-in-None
returns-in-None c =
    let bytes = c.args.bytes.now in
    c.split_at-in-None.ensures.back ∙ drop_of_length-le bytes (omega arith)
    ∙ sym (drop_of_length-le bytes (omega (arith, position-none c.args.byte bytes c.in-None.ensures)))
