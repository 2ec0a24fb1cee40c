-- The numbers are read one after another.
use Rattle.std.proofs.Common.{◌++◌, arith, codes, refl, sym}
use Rattle.shb_reading.proofs.Words.{decimal}
use Rattle.shb_reading.proofs.Peeling.{peel, race_first}
use Rattle.shb_reading.proofs.grammar.race_in.Goals as goal

pub returns-in_err-first : goal.returns-in_err-first
returns-in_err-first c = rw c.from_residual-in_err-first.ensures (λ i j p q e.
    let first = race_first c.args.line.now c.args.number c.in_ok-numbers.numbers.now i j (omega (arith, c.ranges.number.fits)) c.in_ok-numbers.ensures e in
    c.in_err-first.ensures i _ p (record { text_is = first; ends = refl }))

pub returns-in_err-second : goal.returns-in_err-second
returns-in_err-second c = rw c.from_residual-in_err-second.ensures (λ i j p q e.
    let first = race_first c.args.line.now c.args.number c.in_ok-numbers.numbers.now i j (omega (arith, c.ranges.number.fits)) c.in_ok-numbers.ensures e in
    let second = peel (codes ": ") c.in_ok-numbers.numbers.now c.in_ok-first.first i c.in_ok-first.after_first.now (codes " " ++ decimal j) c.in_ok-first.ensures.0 p c.in_ok-first.ensures.1 refl first in
    c.in_err-second.ensures j q (sym second.1))
