-- The entries of a thread that race are those above what is known of it.
use Rattle.std.proofs.Common.{ℕ, refl, subst}
use Rattle.std.proofs.lemmas.Option.{get_or_from_slice_get, slice_get-get_or}
use Rattle.shb_lines.specs.events.Reach.{is_race}
use Rattle.shb_counts.specs.Windows.{IsWindow, is_between}
use Rattle.shb_counts.specs.declared.accesses.Entry.{Entry}
use Rattle.shb_counts.proofs.RacingLemmas.{group_rises, late_here, none_races, window_races}
use Rattle.shb_counts.proofs.finder.Finder.window_of.Goals as goal

pub returns-then-entry-access : goal.returns-then-entry-access
returns-then-entry-access c entry at =
    none_races c.args.self.now.order.now.trace c.requires.conflicting.0 c.args.access c.args.entries.now c.requires.conflicting.1 c.requires.conflicting.2 c.args.at.from entry (record { start = c.args.at.from; end = c.args.at.from }) at
    (late_here c.args.entries.now c.args.at.from c.args.access.event entry _ at c.if-entry-access.true) refl refl

pub window_in-requires : goal.window_in-requires
window_in-requires c =
    group_rises c.args.self.now.order.now.trace c.requires.conflicting.0 c.args.access c.args.entries.now c.requires.conflicting.1 c.requires.conflicting.2 c.args.at.from _ c.end_of.result (slice_get-get_or c.args.entries.now c.args.at.from _ c.requires.more) c.end_of.ensures.end

pub returns : goal.returns
returns c entry at =
    let trace = c.args.self.now.order.now.trace in
    let window = c.window_in.result in
    subst (λ (f : Entry). IsWindow (λ entry. is_race trace entry.event c.args.access.event) c.args.entries.now c.args.at.from f.end window) (get_or_from_slice_get c.args.entries.now c.args.at.from entry _ at)
    (window_races trace c.requires.conflicting.0 c.args.access c.args.entries.now c.requires.conflicting.1 c.requires.conflicting.2 c.args.at.from c.below_of-below.result _ window (slice_get-get_or c.args.entries.now c.args.at.from _ c.requires.more) c.below_of-below.ensures
    (subst (λ (n : ℕ). IsWindow (is_between c.args.access.event c.below_of-below.result) c.args.entries.now c.args.at.from n window) c.end_of.ensures.end c.window_in.ensures))
