use Rattle.shb_nearest.proofs.Words.{ltb-true}
use Rattle.shb_nearest.proofs.Members.{read_at}
use Rattle.shb_nearest.proofs.sites.Sites.is_old.Goals as goal

pub returns-in-Some : goal.returns-in-Some
returns-in-Some c is = (
  c.in-Some.site.now,
  read_at c.args.self.now.all.items c.deref.result.now c.args.number c.in-Some.site.now c.deref.ensures.value c.in-Some.ensures.lookup.3.0 c.in-Some.ensures.lookup.1,
  ltb-true c.in-Some.site.now.newest c.args.since is,
)
