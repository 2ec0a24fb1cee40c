-- The count, and the lines of the places.
use Rattle.shb_format.proofs.Words.{HoldsBack-end, Writes-both, common_steps}
use Rattle.std.proofs.Common.{arith}
use Rattle.shb_format.proofs.writing.PlaceText.{section_is}
use Rattle.shb_format.proofs.writing.place_writer.place_lines.Goals as goal

pub returns-clause-written : goal.returns-clause-written
returns-clause-written g c = grind (arith, common_steps, c.as_slice-2.ensures, Writes-both, c.write_all.ensures.ok, c.write_all.ensures.err, section_is, c.len.ensures, c.new-held.ensures, c.push_labelled.ensures.text, c.push_byte.ensures, HoldsBack-end, c.as_slice.ensures, c.in_ok-put_places.ensures.put)
