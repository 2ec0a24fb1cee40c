use Rattle.std.proofs.Common.{rules}
use Rattle.shb_nearest.proofs.Words.{answers_always}
use Rattle.shb_nearest.proofs.FinalLemmas.{key_of, sorted_order}
use Rattle.shb_nearest.proofs.search.in_order.Goals as goal

pub returns : goal.returns
returns c = sorted_order c.args.races.items c.sort_unstable_by_key.new.self.items c.sort_unstable_by_key.ensures.permutation (c.sort_unstable_by_key.ensures.sorted key_of (answers_always _ _ _ (λ f a r g h. search rules)))
