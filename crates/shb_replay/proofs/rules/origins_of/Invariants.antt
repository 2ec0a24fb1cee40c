use Rattle.shb_replay.proofs.Words.{HasOrigins, IsLatestTable, ReleasesLock, WritesVariable}
use Rattle.shb_replay.proofs.rules.origins_of.Given as goal

abbrev pub invariant-loop-e : goal.invariant-loop-e
invariant-loop-e l = record {
  releases : IsLatestTable (ReleasesLock l.linked.events.now) l.e l.linked.sizes.locks l.releases.items;
  writes : IsLatestTable (WritesVariable l.linked.events.now) l.e l.linked.sizes.variables l.writes.items;
  origins : HasOrigins l.linked.events.now l.e l.origins.items;
}
