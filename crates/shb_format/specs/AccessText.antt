-- An access as the texts that its line is made of.
use Rattle.std.specs.Prelude.{◌≡◌, ℕ, Bool, true, false, List}
use Rattle.std.specs.Option.{option_copied}
use Rattle.shb_lines.specs.declared.event.Kind.{Kind}
use Rattle.shb_lines.specs.declared.event.Kind.TheVariants as kinds
use Rattle.shb_lines.specs.text.TraceData.{TraceData, call_line}
use Rattle.shb_format.specs.declared.writing.access_writer.AccessText.{AccessText}
use Rattle.shb_format.specs.Report.{line_of_event}

-- what an access does
abbrev pub access_kind : Bool → Kind
access_kind true = kinds.Write
access_kind false = kinds.Read

-- the line of an access, made of the texts that it holds
abbrev pub access_line : AccessText → List ℕ
access_line access = call_line access.thread.now (access_kind access.writes) access.variable.now (option_copied access.location)

-- the event of an access has this line in a trace
abbrev pub HasLineOf : TraceData → AccessText → Type 0
HasLineOf trace access = line_of_event trace access.event ≡ access_line access
