use Rattle.std.proofs.Common.{◌≡◌, subst, refl}
use Rattle.std.specs.Prelude.{All, IfSome, true}
use Rattle.shb_stamps.specs.Listed.{is_listed}
use Rattle.shb_lists.specs.declared.by_event.ListedAccess.{ListedAccess}
use Rattle.shb_lists.proofs.GivenLemmas.{whole_asked}
use Rattle.shb_lists.proofs.list.whole_turn.Goals as goal

pub returns-in-Some : goal.returns-in-Some
returns-in-Some c trace can =
    let one = subst (λ o. IfSome o (λ ordered. (ordered.trace ≡ trace) × All (λ (access : ListedAccess). is_listed ordered.events access.event ≡ true) c.args.list.now)) c.in-Some.is can in
    whole_asked trace c.args.list.now _ refl one.0 one.1
