-- Each place is the next one.
use Rattle.std.proofs.Common.{ℕ, List, [], ◌∷◌, ◌+◌, ◌-◌, ◌++◌, arith, sym, subst}
use Rattle.shb_reading.proofs.Words.{Form, IsBadFrom, bytes_from, place_forms}
use Rattle.shb_reading.proofs.EntryLemmas.{places_more, places_left, bad_weaker}
use Rattle.shb_reading.proofs.entries.read_place_entries.Goals as goal

pub returns-in_err-entry-clause-bad : goal.returns-in_err-entry-clause-bad
returns-in_err-entry-clause-bad c = λ forms.
    let loop = c.loop-number in
    let text : List ℕ = c.args.text.now in
    let others : List Form = place_forms (loop.number + 1 + 1) (c.args.count - (loop.number + 1)) ++ forms in
    bad_weaker c.from_residual.result c.in_err-entry.field-0.0 _ _ c.from_residual.ensures.1
    (λ n b. loop.invariant.passes forms n (subst (λ (f : List Form). IsBadFrom f loop.at.lines (bytes_from text loop.at) n) (sym (places_left loop.number c.args.count forms c.loop-number-test.true)) b))
    (c.in_err-entry.ensures.bad others)

pub loop-number-preserved : goal.loop-number-preserved
loop-number-preserved c =
    let loop = c.loop-number in
    let text : List ℕ = c.args.text.now in
    let before = loop.invariant.read in
    let entry = c.in_ok-entry.entry in record {
      within = omega arith;
      at = c.in_ok-entry.ensures.at;
      read = record {
        all = before.all ++ entry ∷ [];
        holds = places_more text c.args.at.now loop.at c.read_place.new.at loop.number before.all entry before.holds c.in_ok-entry.ensures.read;
        kept_is = c.in_ok-add_place.ensures before.all (let count = before.holds.count_is in omega (arith, count)) before.kept_is;
      };
      passes = λ forms n b.
          loop.invariant.passes forms n (subst (λ (f : List Form). IsBadFrom f loop.at.lines (bytes_from text loop.at) n) (sym (places_left loop.number c.args.count forms c.loop-number-test.true))
          (c.in_ok-entry.ensures.passes (place_forms (loop.number + 1 + 1) (c.args.count - (loop.number + 1)) ++ forms) n b));
    }
