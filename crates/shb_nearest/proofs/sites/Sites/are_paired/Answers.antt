use Rattle.std.proofs.Common.{List, subst, sym, ◌∙◌}
use Rattle.shb_nearest.proofs.Words.{IsSite, Site}
use Rattle.shb_nearest.proofs.Members.{read_at}
use Rattle.shb_nearest.proofs.sites.Sites.are_paired.Goals as goal

pub returns-then-own-second : goal.returns-then-own-second
returns-then-own-second c is = record {
  later = c.args.self.now.own;
  site = c.in-Some.own.now;
  there = read_at c.args.self.now.all.items c.deref.result.now c.args.self.now.own c.in-Some.own.now c.deref.ensures.value c.in-Some.ensures.lookup.3.0 c.in-Some.ensures.lookup.1;
  location_is = c.if-own-second.true;
  earlier = c.args.number;
  earlier_is = subst (λ (l : List Site). IsSite l c.args.first c.args.number) c.as_slice.ensures.value (c.is_at-found.ensures c.if-not-found.false);
  paired = sym c.contains.ensures ∙ is;
}
