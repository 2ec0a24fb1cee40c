use Rattle.std.proofs.Common.{◌≡◌, map, take}
use Rattle.shb_lists.specs.Found.{races_of}
use Rattle.shb_lists.specs.Listed.{pair_in}
use Rattle.shb_lists.proofs.found.find_races.Given as goal

abbrev pub invariant-loop-access : goal.invariant-loop-access
invariant-loop-access l = record {
  order : l.finder.order.now ≡ l.fn.order;
  races : map pair_in l.races.items ≡ races_of l.fn.order.trace (take l.access-index l.list);
}
