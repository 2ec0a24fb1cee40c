use Rattle.std.proofs.Common.{arith, refl}
use Rattle.shb_nearest.proofs.SiteLemmas.{came_new}
use Rattle.shb_nearest.proofs.sites.Sites.take.Goals as goal

pub returns-clause-site : goal.returns-clause-site
returns-clause-site c =
    let items = c.in_ok-push.ensures.items in
    let len = c.len.ensures in
    let least = c.min-number.ensures in
    came_new c.args.self.now.all.items c.push.new.self.items c.min-number.result c.args.location c.args.event _ items (λ few. let long = c.in_ok-push.ensures.len in omega (arith, few, long, len, least)) refl refl c.new.ensures
