use Rattle.std.proofs.Common.{◌<◌, subst, sym}
use Rattle.std.specs.Prelude.{IfSome, not}
use Rattle.shb_replay.proofs.Words.{TellsLack, slice_get_read}
use Rattle.shb_replay.proofs.OrderReasons.{lacks_true}
use Rattle.shb_replay.proofs.walked.Walked.lacks.Goals as goal

pub returns-in-Some : goal.returns-in-Some
returns-in-Some c = λ s p n flags.
    let stands = c.args.self.now.stands in
    let low : c.in-Some.e < stands.len = subst (λ event. IfSome event (λ e. e < stands.len)) c.in-Some.is c.requires in
    let at = slice_get_read stands.items stands.len c.in-Some.e c.index.result.now stands.ok.0 low c.index.ensures in
    subst (λ event. TellsLack s p event (not c.index.result.now)) (sym c.in-Some.is) (lacks_true s p c.in-Some.e n stands.items c.index.result.now flags at)
