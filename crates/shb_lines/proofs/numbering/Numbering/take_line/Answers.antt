-- Each return answers the lowest fault of the line, or what it gives.
use Rattle.std.proofs.Common.{◌≡◌, ◌+◌, ◌<◌, ◌≤◌, ℕ, Ok, Some, ap, arith, false, length, nat_lt, sym, true, ◌∙◌}
use Rattle.std.proofs.lemmas.Bool.Decides.{nat_tests}
use Rattle.std.specs.Str.Lines.{strip_carriage_return}
use Rattle.shb_lines.specs.text.Meaning.{meaning}
use Rattle.shb_lines.specs.text.Numbers.{Tables}
use Rattle.shb_lines.specs.text.Reading.{meaning_of, named}
use Rattle.shb_lines.proofs.text.FaultLemmas.{accepted, refused, too_many_events, too_many_threads}
use Rattle.shb_lines.proofs.text.NumberingLemmas.{numbered_after, threads_with, within_after}
use Rattle.shb_lines.proofs.numbering.Numbering.take_line.Goals as goal

-- what the test of the threads says of their count
more_threads : (most n m : ℕ) → n ≡ m → nat_lt most m ≡ true → most < n
more_threads most n m e h = grind (arith, nat_tests)

few_threads : (most n m : ℕ) → n ≡ m → nat_lt most m ≡ false → n ≤ most
few_threads most n m e h = grind (arith, nat_tests)

pub returns-in-Err-clause-found : goal.returns-in-Err-clause-found
returns-in-Err-clause-found c = λ before raw h line short.
    refused c.args.limits.now ⊥ before raw (λ x. x) short c.in-Err.fault (ap meaning (sym line) ∙ sym c.in-Err.ensures.meaning)

pub returns-then-self-limits-clause-found : goal.returns-then-self-limits-clause-found
returns-then-self-limits-clause-found c = λ before raw h line short.
    let gives : meaning (strip_carriage_return raw) ≡ Ok (Some (named c.in-Ok-Some.found)) = ap meaning (sym line) ∙ sym c.in-Ok-Some.ensures.meaning ∙ ap (λ o. meaning_of (Ok o)) c.in-Ok-Some.field-0-is in
    too_many_events c.args.limits.now ⊥ before raw (λ x. x) short (named c.in-Ok-Some.found) gives (omega (arith, h.count_is, c.if-self-limits.true))

pub returns-then-has_too_many_threads-clause-found : goal.returns-then-has_too_many_threads-clause-found
returns-then-has_too_many_threads-clause-found c = λ before raw h line short.
    let event = named c.in-Ok-Some.found in
    let gives : meaning (strip_carriage_return raw) ≡ Ok (Some event) = ap meaning (sym line) ∙ sym c.in-Ok-Some.ensures.meaning ∙ ap (λ o. meaning_of (Ok o)) c.in-Ok-Some.field-0-is in
    too_many_threads c.args.limits.now ⊥ before raw (λ x. x) short event gives (omega (arith, h.count_is, c.if-self-limits.false))
    (more_threads _ _ _ (threads_with before c.args.self.now event h) (sym c.has_too_many_threads.ensures ∙ c.if-has_too_many_threads.true))

pub returns-clause-found : goal.returns-clause-found
returns-clause-found c = λ before raw h line short.
    let limits = c.args.limits.now in
    let old = c.args.self.now in
    let new = c.step_of.new.self in
    let event = named c.in-Ok-Some.found in
    let gives : meaning (strip_carriage_return raw) ≡ Ok (Some event) = ap meaning (sym line) ∙ sym c.in-Ok-Some.ensures.meaning ∙ ap (λ o. meaning_of (Ok o)) c.in-Ok-Some.field-0-is in
    let few : length before + 1 ≤ limits.events = omega (arith, h.count_is, c.if-self-limits.false) in
    record {
      named = event;
      meaning_is = gives;
      faultless = accepted limits ⊥ before raw (λ x. x) short event gives few (few_threads _ _ _ (threads_with before old event h) (sym c.has_too_many_threads.ensures ∙ c.if-has_too_many_threads.false));
      step_is = c.in_ok-step.ensures.step;
      numbered = numbered_after before old _ event h c.in_ok-step.ensures.tables (omega (arith, c.in_ok-step.ensures.events));
    }

pub returns-clause-within : goal.returns-clause-within
returns-clause-within c =
    within_after c.args.limits.now c.args.self.now _ (named c.in-Ok-Some.found) c.requires.within c.in_ok-step.ensures.tables (omega (arith, c.in_ok-step.ensures.events))
    (omega (arith, c.in_ok-step.ensures.events, c.if-self-limits.false))
    (few_threads _ _ _ (ap (λ (t : Tables). length t.threads) c.in_ok-step.ensures.tables) (sym c.has_too_many_threads.ensures ∙ c.if-has_too_many_threads.false)) c.in_ok-step.ensures.last
