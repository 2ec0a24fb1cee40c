use Rattle.shb_check.proofs.verdicts.read_trace.Goals as goal

pub returns-clause-reading : goal.returns-clause-reading
returns-clause-reading g c = rw c.standard.ensures at c.parse.ensures.reading

pub returns-clause-taken : goal.returns-clause-taken
returns-clause-taken g c = rw c.standard.ensures at c.parse.ensures.taken

pub returns-clause-given : goal.returns-clause-given
returns-clause-given g c = rw c.standard.ensures at c.parse.ensures.given
