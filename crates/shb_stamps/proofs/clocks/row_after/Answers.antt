use Rattle.std.proofs.Common.{List, [], ◌∷◌, ◌++◌, ℕ, inl, inr, refl, ap, subst, sym, arith, ◌≡◌, ◌∙◌, length, get_or}
use Rattle.shb_stamps.proofs.Words.{IsPut, cases_Bool, length_push}
use Rattle.shb_stamps.proofs.Stamping.{more_push, more_same, row_pushed}
use Rattle.shb_stamps.proofs.clocks.row_after.Goals as goal

pub returns-then-told : goal.returns-then-told
returns-then-told c = record {
  more = more_same c.args.rows.now.list;
  few = omega arith;
  knew = λ known. refl;
  learned = λ unknown. absurd (unknown (c.is_known-told.ensures.0 c.if-told.true));
  renames = λ renames. absurd (let f : ⊥ = cc in f);
}

pub returns-then-shared : goal.returns-then-shared
returns-then-shared c =
    let found = c.is_joined-shared.ensures c.if-shared.true in
    record {
      more = more_same c.args.rows.now.list;
      few = omega arith;
      knew = λ known. absurd (let passing = c.is_known-told.ensures.1 known in let fails_it = c.if-told.false in (let f : ⊥ = cc in f));
      learned = λ unknown few low. (
        low,
        record {
          clock = get_or c.args.rows.now.list c.args.source.row [];
          clock_is = record { there = found.0; others = λ k ne. refl };
          each = inl (λ t. (let le = found.1 t in omega (arith, le)));
        },
      );
      renames = λ renames. absurd (let f : ⊥ = cc in f);
    }

pub returns : goal.returns
returns c =
    let rows_are : c.push.new.self.list ≡ c.args.rows.now.list ++ c.join.new.clock.items ∷ [] = c.in_ok-row.ensures.rows ∙ ap (λ (row : List ℕ). c.args.rows.now.list ++ row ∷ []) c.as_slice.ensures.value in
    record {
      more = more_push c.args.rows.now.list c.push.new.self.list c.join.new.clock.items rows_are;
      few = (let size = ap length rows_are ∙ length_push c.args.rows.now.list c.join.new.clock.items in omega (arith, size));
      knew = λ known. absurd (let passing = c.is_known-told.ensures.1 known in let fails_it = c.if-told.false in (let f : ⊥ = cc in f));
      learned = λ unknown few low.
          let pushed = row_pushed c.args.rows.now.list c.push.new.self.list c.join.new.clock.items c.in_ok-row.row rows_are (c.in_ok-row.ensures.number few) in (
            pushed.0,
            record {
              clock = c.set_clock.new.clock.items;
              clock_is = c.in_ok-set_clock.ensures;
              each = elim (cases_Bool c.covers-covered.result) [
                | inl is ↦ inr (c.covers-covered.ensures is, pushed.1 ∙ c.in_ok-renames.ensures.covered is)
                | inr isnt ↦ inl (λ t. (let same = ap (λ (xs : List ℕ). get_or xs t 0) pushed.1 in let greater = c.in_ok-renames.ensures.raised isnt t in omega (arith, same, greater)))
              ];
            },
          );
      renames = λ renames few.
          let pushed = row_pushed c.args.rows.now.list c.push.new.self.list c.join.new.clock.items c.in_ok-row.row rows_are (c.in_ok-row.ensures.number few) in
          (pushed.0, subst (IsPut 0 c.args.source.thread c.args.source.time (get_or c.args.rows.now.list c.args.source.row [])) (sym (pushed.1 ∙ c.in_ok-renames.ensures.same renames)) c.in_ok-set_clock.ensures);
    }
