-- What the program says of each fault.
use Rattle.std.specs.Prelude.{ℕ, List, codes}
use Rattle.shb_lines.specs.declared.fault.Fault.{Fault}
use Rattle.shb_lines.specs.declared.fault.Fault.TheVariants as faults

abbrev pub message_of : Fault → List ℕ
message_of faults.TextTooLong = codes "the text is longer than 1073741824 bytes"
message_of faults.LineTooLong = codes "the line is longer than 4096 bytes"
message_of faults.MissingField = codes "the line has no operation field"
message_of faults.EmptyThread = codes "the thread name is empty"
message_of faults.UnknownOperation = codes "the operation is not known"
message_of faults.BadOperand = codes "the operand is not a name in parentheses"
message_of faults.TooManyEvents = codes "there are more than 4194304 events"
message_of faults.TooManyThreads = codes "there are more than 1024 threads"
message_of faults.AfterJoin = codes "the thread was joined before"
message_of faults.LockHeld = codes "the lock is held by another thread"
message_of faults.NotHeld = codes "the lock is not held by this thread"
message_of faults.ForkSelf = codes "a thread cannot fork itself"
message_of faults.ForkStarted = codes "the forked thread has started already"
message_of faults.ForkTwice = codes "the thread was forked before"
message_of faults.ForkJoined = codes "the forked thread was joined before"
message_of faults.JoinSelf = codes "a thread cannot join itself"
