-- There are few names, so a number has room in 32 bits.
use Rattle.std.proofs.Common.{ap, arith, length}
use Rattle.std.proofs.lemmas.Option.{slice_get_within}
use Rattle.shb_lines.proofs.text.NameLemmas.{length-with_name_le}
use Rattle.shb_lines.proofs.owned_names.OwnedNames.number_of.Goals as goal

pub overflow_cast-result : goal.overflow_cast-result
overflow_cast-result c =
    let inside = c.self.inside in
    let found = c.in_ok-number in
    omega (
      arith,
      c.requires.room,
      slice_get_within c.looked_up.new.names found.number c.args.name.now found.ensures.number,
      ap length (found.ensures.names inside.keys c.hash_of-hash.ensures c.self.invariant),
      length-with_name_le inside.names c.args.name.now,
      ap length c.self.view_is,
    )
