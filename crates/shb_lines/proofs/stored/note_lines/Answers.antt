-- An entry for the next event changes no event before it.
use Rattle.std.proofs.Common.{ap, ◌∙◌}
use Rattle.shb_lines.specs.text.Stored.{events_in}
use Rattle.shb_lines.proofs.text.StoredEvents.{push_skipped}
use Rattle.shb_lines.proofs.stored.note_lines.Goals as goal

pub returns-in_ok-push-clause-earlier : goal.returns-in_ok-push-clause-earlier
returns-in_ok-push-clause-earlier c = λ stored below.
    ap (λ skipped. events_in skipped stored) c.in_ok-push.ensures.items ∙ push_skipped c.args.skipped.now.items (record { event = c.args.k; lines = c.args.lines }) stored below
