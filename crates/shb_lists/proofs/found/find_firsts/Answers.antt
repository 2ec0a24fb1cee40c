use Rattle.std.proofs.Common.{ℕ, List, Some, map, subst, sym, ap, flat_map, ◌∙◌, ◌++◌}
use Rattle.std.specs.Prelude.{slice_range}
use Rattle.std.proofs.lemmas.Option.{slice_get-get_or}
use Rattle.std.proofs.lemmas.List.Sorted.{IsNonDecreasingBy-from_sort}
use Rattle.shb_counts.specs.Accesses.{AreEntries, IsAccess}
use Rattle.shb_counts.specs.Windows.{AreWindows}
use Rattle.shb_counts.specs.declared.accesses.Access.{Access}
use Rattle.shb_counts.specs.declared.accesses.Entry.{Entry}
use Rattle.shb_counts.specs.declared.finder.Window.{Window}
use Rattle.shb_lists.proofs.FoundLemmas.{windows_sorted}
use Rattle.shb_lists.proofs.found.find_firsts.Goals as goal

pub look-requires-clause-conflicting : goal.look-requires-clause-conflicting
look-requires-clause-conflicting c =
    let trace = c.args.finder.now.order.now.trace in
    let numbers = c.requires.kept.1 in
    let x = c.args.access.variable in
    let entries = c.against-entries.result.now in
    let there = slice_get-get_or c.args.accesses.now.by_variable.items c.args.access.variable c.index.result.now (c.requires.kept.2.each_variable c.args.access.variable c.args.access.event c.requires.kept.3.of_trace.variable) ∙ ap Some (sym c.index.ensures) in
    let are = c.against-entries.ensures.entries trace numbers x (c.requires.kept.2.entries x c.index.result.now c.requires.kept.3.opened there) in
    subst (λ (a : Access). (ns : List ℕ) × IsAccess trace ns a × AreEntries trace ns a.variable a.writes entries) (sym c.access.ensures) (numbers, c.requires.kept.3.of_trace, are)

pub returns-clause-found : goal.returns-clause-found
returns-clause-found c =
    let trace = c.args.finder.now.order.now.trace in
    let numbers = c.requires.kept.1 in
    let access = c.args.access in
    let entries = c.against-entries.result.now in
    let there = slice_get-get_or c.args.accesses.now.by_variable.items c.args.access.variable c.index.result.now (c.requires.kept.2.each_variable c.args.access.variable c.args.access.event c.requires.kept.3.of_trace.variable) ∙ ap Some (sym c.index.ensures) in
    let are = c.against-entries.ensures.entries trace numbers access.variable (c.requires.kept.2.entries access.variable c.index.result.now c.requires.kept.3.opened there) in
    let own = c.requires.kept.3.of_trace in
    let windows = c.look.new.self.windows.items in
    let have : AreWindows trace access.event entries windows = subst (λ (a : Access). AreWindows trace a.event entries windows) c.access.ensures c.in_ok-look.ensures.windows in
    let added = c.in_ok-add_windows.ensures ∙ ap (λ (ws : List Window). c.clear.new.self.items ++ flat_map (λ (window : Window). map (λ (entry : Entry). entry.event) (slice_range entries window.start window.end)) ws) c.as_slice.ensures.value in
    windows_sorted trace numbers access.variable access.event access.writes entries are own.variable own.writes windows c.clear.new.self.items c.add_windows.new.found.items c.sort_unstable.new.self.items
    have c.clear.ensures.items added c.sort_unstable.ensures.permutation (IsNonDecreasingBy-from_sort (λ (n : ℕ). n) c.sort_unstable.new.self.items c.sort_unstable.ensures.sorted)
