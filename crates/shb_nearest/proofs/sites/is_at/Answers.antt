use Rattle.shb_nearest.proofs.Words.{eqb-true}
use Rattle.shb_nearest.proofs.Members.{read_at}
use Rattle.std.proofs.Common.{refl}
use Rattle.shb_nearest.proofs.sites.is_at.Goals as goal

pub returns-in-Some : goal.returns-in-Some
returns-in-Some c is = record {
  site = c.in-Some.site.now;
  there = read_at c.args.all.now c.args.all.now c.args.number c.in-Some.site.now refl c.in-Some.ensures.lookup.3.0 c.in-Some.ensures.lookup.1;
  location_is = eqb-true c.in-Some.site.now.location c.args.location is;
}
