use Rattle.std.proofs.Common.{List, subst}
use Rattle.shb_nearest.proofs.Words.{IsSite, Site}
use Rattle.shb_nearest.proofs.sites.Sites.number.Goals as goal

pub returns-then-found : goal.returns-then-found
returns-then-found c = subst (λ (l : List Site). IsSite l c.args.location c.in-Some.number.now) c.as_slice.ensures.value (c.is_at-found.ensures c.if-found.true)
