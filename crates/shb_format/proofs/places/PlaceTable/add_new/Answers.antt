-- Numbers that have no place are put last.
use Rattle.std.proofs.Common.{◌≡◌, ◌∙◌, ap, false, is_some, List}
use Rattle.shb_format.proofs.Words.{Keyed, counted_of, with_new}
use Rattle.shb_format.proofs.KeyedLemmas.{put_new}
use Rattle.shb_format.proofs.places.PlaceTable.add_new.Goals as goal

pub returns-in_ok-insert : goal.returns-in_ok-insert
returns-in_ok-insert c =
    let entries : List Keyed = c.self.inside.table.entries in
    let test = c.if-not-contains_key.true in
    let is = c.contains_key.ensures in
    let none : is_some (counted_of entries c.args.key) ≡ false = cc in
    c.in_ok-insert.ensures.entries ∙ put_new c.args.key c.args.counted entries none ∙ ap (λ (l : List Keyed). with_new l c.args.key c.args.counted) c.self.view_is
