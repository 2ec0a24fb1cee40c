use Rattle.shb_stamps.proofs.Words.{BelowPred, IsRowFor, common_steps, thread_at}
use Rattle.std.proofs.Common.{◌≡◌, ℕ, Some, arith, subst, sym}
use Rattle.shb_stamps.proofs.ListedLemmas.{rising_above, listed_more, listed_push}
use Rattle.shb_stamps.proofs.listed_rows.KeptRows.note_listed.Goals as goal

pub keep-requires-clause-few : goal.keep-requires-clause-few
keep-requires-clause-few c = grind (arith, common_steps, rising_above, c.requires.rising, c.requires.in_range, c.requires.kept.few, c.requires.of_trace)

pub returns : goal.returns
returns c = record {
  few = (let few = c.requires.kept.few in let more = c.in_ok-number.ensures.few in omega (arith, few, more));
  before = listed_push c.args.linked.now.events.now c.args.events.now c.keep.new.rows.list c.args.at c.in_ok-number.number c.args.self.now.before.items c.push.new.self.items
      (λ e t at of_e. subst (λ (m : ℕ). IsRowFor c.args.linked.now.events.now c.keep.new.rows.list t (λ k. BelowPred c.args.linked.now.events.now k m) c.in_ok-number.number) at
      (c.in_ok-number.ensures.row t (subst (λ (m : ℕ). thread_at c.args.linked.now.events.now m ≡ Some t) (sym at) of_e)))
      c.in_ok-push.ensures.items
      (listed_more c.args.linked.now.events.now c.args.events.now c.args.self.now.rows.list c.keep.new.rows.list c.args.at c.args.self.now.before.items c.in_ok-number.ensures.more c.requires.kept.before);
}
