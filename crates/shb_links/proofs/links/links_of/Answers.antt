-- The local times and the tables of threads are those of all events.
use Rattle.std.proofs.Common.{◌≡◌, ℕ, length, subst, arith}
use Rattle.shb_links.proofs.Words.{ForksThread, HasLocals, IsLatestTable, OfThread}
use Rattle.shb_links.proofs.Tables.{forks_whole, last_whole}
use Rattle.shb_links.proofs.links.links_of.Goals as goal

pub invariant_of-result : goal.invariant_of-result
invariant_of-result c =
    let trace = c.args.disciplined.now in
    let all : c.loop-e.e ≡ length trace.events.now = omega arith in
    let found = c.loop-e.found in
    record {
      times = subst (λ (n : ℕ). HasLocals trace.events.now n found.locals.items) all c.loop-e.invariant.locals;
      forked = forks_whole trace.events.now trace.sizes found.forks.items trace.within (subst (λ (n : ℕ). IsLatestTable (ForksThread trace.events.now) n trace.sizes.threads found.forks.items) all c.loop-e.invariant.forks);
      ended = last_whole trace.events.now trace.sizes found.last.items trace.within (subst (λ (n : ℕ). IsLatestTable (OfThread trace.events.now) n trace.sizes.threads found.last.items) all c.loop-e.invariant.last);
      sharing = c.in_ok-shared_variables.ensures;
    }
