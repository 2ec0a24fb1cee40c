-- What is held is what was held at first and what the source gave.
use Rattle.std.proofs.Common.{◌≡◌, ◌+◌, ◌-◌, ◌==◌, ◌≤◌, ℕ, length}
use Rattle.std.specs.List.{position_or_len}
use Rattle.shb_lines.specs.text.Lines.{Gives}
use Rattle.shb_lines.proofs.lines.Lines.next.Given as goal

abbrev pub invariant-loop-self : goal.invariant-loop-self
invariant-loop-self g l = record {
  held : (n : ℕ) × Gives (g.S.Source.remaining l.fn.source) (g.S.Source.remaining l.source) (g.S.Source.given_count l.fn.source) (g.S.Source.given_count l.source) l.fn.self.held l.self.held n;
  len : l.len ≡ position_or_len (λ b. b == 10) l.self.held;
  within : l.len ≤ length l.self.held;
  counted : g.S.Source.failure_count l.source ≡ g.S.Source.failure_count l.fn.source;
}

abbrev pub decreases-loop-self : goal.decreases-loop-self
decreases-loop-self g l = l.limit + 1 - length l.self.held
