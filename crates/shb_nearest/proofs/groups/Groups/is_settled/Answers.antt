use Rattle.std.proofs.Common.{subst}
use Rattle.shb_nearest.proofs.Words.{IsPair, Sites}
use Rattle.shb_nearest.proofs.groups.Groups.is_settled.Goals as goal

pub returns-in-Some : goal.returns-in-Some
returns-in-Some c is = record { sites = c.in-Some.sites; sites_are = c.in-Some.is; pair = subst (λ (s : Sites). IsPair s.all.items c.args.access.spot.location c.args.second) c.deref.ensures (c.are_paired.ensures is) }
