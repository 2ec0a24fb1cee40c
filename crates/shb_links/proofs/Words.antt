-- The words and lemmas of the crates below, and this crate's words, as its proofs say them.
pub use Rattle.shb_lines.proofs.events.Counts.{count_gap, count_mono, count_more_no, count_more_yes, counted_before, take_more_past}
pub use Rattle.shb_lines.proofs.events.Events.{event_of_op, event_of_thread, is_of_true, op_is, thread_is}
pub use Rattle.shb_lines.proofs.events.Items.{op_known, op_within_at, thread_item, thread_within}
pub use Rattle.shb_lines.proofs.events.Listed.{Decided, number_more_no, number_more_yes, number_none, number_same, some_below}
pub use Rattle.shb_lines.proofs.events.Prefix.{is_of_thread}
pub use Rattle.shb_lines.specs.declared.event.Event.{Event}
pub use Rattle.shb_lines.specs.declared.event.Op.{Op}
pub use Rattle.shb_lines.specs.declared.event.Op.TheVariants.{Acquire, Fork, Read, Release}
pub use Rattle.shb_lines.specs.declared.event.Sizes.{Sizes}
pub use Rattle.shb_lines.specs.events.Discipline.{IsDisciplined, MayCome, MayDo, acquires, is_acquire, is_of, is_release, local_time, only, op_is_acquire, op_is_release, other_than, releases}
pub use Rattle.shb_lines.specs.events.Events.{op_at, thread_at, variable_of}
pub use Rattle.shb_lines.specs.events.Order.{IsNumberOf, IsPred, LastWrite, by_fork, in_thread}
pub use Rattle.shb_lines.specs.events.Sizes.{IsOpWithin, IsWithin}
pub use Rattle.shb_links.specs.Latest.{ForksThread, IsLatestBefore, IsLatestTable, Latest, OfThread, WritesVariable}
pub use Rattle.shb_links.specs.Links.{Exactly, HasLocals, IsLocal}
pub use Rattle.shb_links.specs.Sharing.{AreOwners, HasShared, IsOwner, IsShared, IsSole, is_several}
pub use Rattle.shb_links.specs.declared.sharing.Owner.{Owner}
pub use Rattle.std.proofs.Math.ListN.{length-set, set}
pub use Rattle.std.proofs.lemmas.Bool.{cases_Bool, cases_eq, cases_lt, eqb-true, ne_eqb}
pub use Rattle.std.proofs.lemmas.Grind.{common_steps}
pub use Rattle.std.proofs.lemmas.List.{get_or-map, get_or_past, get_or_read, length-map, length-take}
pub use Rattle.std.proofs.lemmas.Option.{slice_get_cases, slice_get_within}
