-- An edit that makes these false is refused at once.
use Rattle.shb_pairs.proofs.Words.{BelowPred, Conflict, Event, Race, common_steps, race_iff_schedulable}
use Rattle.std.proofs.Common.{ℕ, ◌<◌, Bool, List, arith}
use Rattle.std.specs.Prelude.{◌↔◌, IsTrue, not}
use Rattle.shb_pairs.proofs.job.is_race.Goals as goal

unordered_is_race : (trace : List Event) (i j : ℕ) (below : Bool) → i < j → Conflict trace i j → IsTrue below ↔ BelowPred trace i j → IsTrue (not below) ↔ Race trace i j
unordered_is_race trace i j below h also third = grind (arith, common_steps)

through : {A B C : Type 0} → A ↔ B → B ↔ C → A ↔ C
through ab bc = ((λ a. bc.0 (ab.0 a)), (λ c. ab.1 (bc.1 c)))

pub returns-then-conflicting-clause-schedulable : goal.returns-then-conflicting-clause-schedulable
returns-then-conflicting-clause-schedulable g c = through (unordered_is_race c.args.disciplined.now.events.now c.args.first c.args.second c.is_below_pred.result c.requires.earlier (c.events_conflict_at-conflicting.ensures.0 c.if-conflicting.true) c.is_below_pred.ensures) (race_iff_schedulable c.args.disciplined.now.events.now c.args.disciplined.now.meets c.args.first c.args.second c.requires.earlier)
