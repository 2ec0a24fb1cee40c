use Rattle.std.proofs.Common.{rules, ◌≡◌, length, ◌∙◌}
use Rattle.shb.proofs.Fronts.{take-missing, take-full}
use Rattle.shb.proofs.beginning.Front.add.Goals as goal

pub returns-then-not-is_full : goal.returns-then-not-is_full
returns-then-not-is_full c =
    let appended = rw c.write-taken.ensures.count at c.write-taken.ensures.bytes in
    appended ∙ take-missing 10 c.args.self.now.bytes.items c.args.bytes.now c.is_full.ensures.fits

pub returns-else-not-is_full : goal.returns-else-not-is_full
returns-else-not-is_full c =
    let full : length c.args.self.now.bytes.items ≡ 10 = search rules in
    take-full 10 c.args.self.now.bytes.items c.args.bytes.now full
