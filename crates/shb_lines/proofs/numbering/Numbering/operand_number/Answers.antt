-- A name is numbered in the table of its kind.
use Rattle.std.proofs.lemmas.Result.{on_ok_weaker}
use Rattle.shb_lines.specs.text.Numbering.{tables_of}
use Rattle.shb_lines.proofs.text.Operands.{lock_operation, lock_tables, mark_operation, mark_tables, thread_operation, thread_tables, variable_operation, variable_tables}
use Rattle.shb_lines.proofs.numbering.Numbering.operand_number.Goals as goal

pub returns-in-Read-clause-tables : goal.returns-in-Read-clause-tables
returns-in-Read-clause-tables c = on_ok_weaker c.number_of.result (variable_tables (tables_of c.args.self.now) c.args.kind c.args.name.now _ c.in-Read.is) c.number_of.ensures.names

pub returns-in-Read-clause-operation : goal.returns-in-Read-clause-operation
returns-in-Read-clause-operation c = variable_operation (record (tables_of c.args.self.now) { variables = c.number_of.new.self }) c.args.kind c.args.name.now c.number_of.result c.in-Read.is c.number_of.ensures.number

pub returns-in-Acquire-clause-tables : goal.returns-in-Acquire-clause-tables
returns-in-Acquire-clause-tables c = on_ok_weaker c.number_of-in-Acquire.result (lock_tables (tables_of c.args.self.now) c.args.kind c.args.name.now _ c.in-Acquire.is) c.number_of-in-Acquire.ensures.names

pub returns-in-Acquire-clause-operation : goal.returns-in-Acquire-clause-operation
returns-in-Acquire-clause-operation c = lock_operation (record (tables_of c.args.self.now) { locks = c.number_of-in-Acquire.new.self }) c.args.kind c.args.name.now c.number_of-in-Acquire.result c.in-Acquire.is c.number_of-in-Acquire.ensures.number

pub returns-in-Fork-clause-tables : goal.returns-in-Fork-clause-tables
returns-in-Fork-clause-tables c = on_ok_weaker c.number_of-in-Fork.result (thread_tables (tables_of c.args.self.now) c.args.kind c.args.name.now _ c.in-Fork.is) c.number_of-in-Fork.ensures.names

pub returns-in-Fork-clause-operation : goal.returns-in-Fork-clause-operation
returns-in-Fork-clause-operation c = thread_operation (record (tables_of c.args.self.now) { threads = c.number_of-in-Fork.new.self }) c.args.kind c.args.name.now c.number_of-in-Fork.result c.in-Fork.is c.number_of-in-Fork.ensures.number

pub returns-in-BeginMark-clause-tables : goal.returns-in-BeginMark-clause-tables
returns-in-BeginMark-clause-tables c = mark_tables (tables_of c.args.self.now) c.args.kind c.args.name.now c.in-BeginMark.is

pub returns-in-BeginMark-clause-operation : goal.returns-in-BeginMark-clause-operation
returns-in-BeginMark-clause-operation c = mark_operation (tables_of c.args.self.now) c.args.kind c.args.name.now c.in-BeginMark.is
