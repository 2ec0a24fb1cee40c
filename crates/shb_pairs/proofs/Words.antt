-- The words and lemmas of the crates below, and this crate's words, as its proofs say them.
pub use Rattle.shb_lines.proofs.events.Decide.{race_iff_schedulable, schedule_of_race}
pub use Rattle.shb_lines.proofs.events.Increasing.{contains_head, increasing_equal}
pub use Rattle.shb_lines.proofs.events.Reach.{numbers_listed, reflect_below_pred, reflect_race}
pub use Rattle.shb_lines.specs.declared.event.Event.{Event}
pub use Rattle.shb_lines.specs.events.Order.{BelowPred}
pub use Rattle.shb_lines.specs.events.Race.{Conflict, IsRaceList, Race, ends, variable_at}
pub use Rattle.shb_lines.specs.events.Reach.{is_below_pred, is_race}
pub use Rattle.shb_lines.specs.events.Sizes.{IsNumberedByAccess}
pub use Rattle.shb_pairs.specs.Races.{AreRacesOfPiece, HasAccesses, first_pieces, joined, listed_accesses, numbered_piece, piece_at, pieces_below, pieces_in}
pub use Rattle.shb_pairs.specs.declared.accesses.Piece.{Piece}
pub use Rattle.shb_stamps.proofs.Accesses.{access_from_test, key_no, next_variable, numbers_all, numbers_few, numbers_more_no, numbers_more_yes, test_from_access, variable_within, variables_few}
pub use Rattle.shb_stamps.proofs.Listing.{all_is_race_list, all_races, numbers_below, piece_rises, race_contained, race_parts, races_on, races_on_parts}
pub use Rattle.shb_stamps.specs.Accesses.{accesses_at, accesses_in, races_with, variables_in}
pub use Rattle.shb_stamps.specs.Open.{OpenTrace, is_open}
pub use Rattle.std.proofs.Math.Nat.{le-max_left, le-max_right, max-le, min_comm}
pub use Rattle.std.proofs.lemmas.Bool.{cases_Bool, cases_eq, cases_lt}
pub use Rattle.std.proofs.lemmas.Grind.{common_steps, flat_map-append}
pub use Rattle.std.proofs.lemmas.List.{append-nil, append_assoc, get_or-drop, get_or-set_other, get_or-set_same, get_or-take, get_or_append_left, get_or_push, length-drop, length-set, length-take-le, length_push, map_more, map_push, take-append-le, take_all, take_at, take_min, take_more}
pub use Rattle.std.proofs.lemmas.List.Elements.{All-append, All-nil, All-push, Contains-get_or, filter-append, filter_more}
pub use Rattle.std.specs.Int.{div_ceil}
