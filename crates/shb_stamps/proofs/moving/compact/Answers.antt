use Rattle.std.proofs.Common.{◌≡◌, ◌∙◌, arith, ap, length, get_or, subst, List, ℕ}
use Rattle.shb_stamps.proofs.Words.{AreAlike, AreMarked, IsMovedStamp, IsNewNumber, Stamp, empty_stamp, length-replicate}
use Rattle.shb_stamps.proofs.MovedLemmas.{first_moved, marked_chain, marked_further, numbers_moved, stamps_moved}
use Rattle.shb_stamps.proofs.moving.compact.Goals as goal

pub returns : goal.returns
returns c = λ some low.
    let named = marked_chain _ _ _ c.mark_stamps.ensures.marked c.mark_stamps-2.ensures.marked in
    let all = marked_chain _ _ _ c.mark_numbers.ensures.marked named in
    let one = c.mark.ensures.marked.as_many in
    let zeros = ap length c.in_ok-marks.ensures ∙ length-replicate {A = ℕ} c.max.result 0 in
    let counted = c.count.ensures low in
    let most = c.max.ensures in
    let long : length c.mark_stamps-2.new.marks.items ≡ length c.args.rows.now.list = (let many = all.as_many in omega (arith, one, many, zeros, counted, most, some)) in
    let done = c.in_ok-take_marked.ensures in
    record {
      few = (let few = done.few in omega (arith, few, long));
      first = first_moved _ _ _ _ done long some (all.more 0 (c.mark.ensures.own (omega (arith, zeros, most))));
      numbers = numbers_moved _ _ _ _ done long _ _
          (marked_further _ _ _ _ (subst (λ (xs : List ℕ). AreMarked c.mark_numbers.new.marks.items (λ x. get_or xs x 0) (length xs)) c.as_slice.ensures.value c.mark_numbers.ensures.each) named)
          (subst (λ (moved : List ℕ). AreAlike 0 (IsNewNumber moved) c.args.current.now.items c.renumber.new.numbers.items) c.as_slice-4.ensures.value c.renumber.ensures);
      releases = stamps_moved _ _ _ _ done long _ _
          (marked_further _ _ _ _ (subst (λ (xs : List Stamp). AreMarked c.mark_stamps.new.marks.items (λ x. (get_or xs x empty_stamp).row) (length xs)) c.as_slice-2.ensures.value c.mark_stamps.ensures.each) c.mark_stamps-2.ensures.marked)
          (subst (λ (moved : List ℕ). AreAlike empty_stamp (IsMovedStamp (IsNewNumber moved)) c.args.locks.now.items c.renumber_stamps.new.stamps.items) c.as_slice-5.ensures.value c.renumber_stamps.ensures);
      writes = stamps_moved _ _ _ _ done long _ _
          (subst (λ (xs : List Stamp). AreMarked c.mark_stamps-2.new.marks.items (λ x. (get_or xs x empty_stamp).row) (length xs)) c.as_slice-3.ensures.value c.mark_stamps-2.ensures.each)
          (subst (λ (moved : List ℕ). AreAlike empty_stamp (IsMovedStamp (IsNewNumber moved)) c.args.variables.now.items c.renumber_stamps-2.new.stamps.items) c.as_slice-6.ensures.value c.renumber_stamps-2.ensures);
    }
