use Rattle.std.proofs.Common.{List, refl, subst}
use Rattle.shb_nearest.proofs.Words.{Entry, IsEntryAt}
use Rattle.shb_nearest.proofs.Chains.{newest_replaced, newest_waits, second_replaced, stay_second, stay_written}
use Rattle.shb_nearest.proofs.log.replace.Goals as goal

pub returns-then-again-clause-own : goal.returns-then-again-clause-own
returns-then-again-clause-own c trace spots x w own again =
    let old = c.args.entries.now.items in
    let last = c.in-Some.last in
    let is = subst (λ (l : List Entry). IsEntryAt l c.args.newest last) c.as_slice.ensures.value c.in-Some.ensures in
    newest_replaced trace spots x c.args.late.event old c.write.new.entries.items c.args.newest c.args.late last refl own is (c.is_instead-again.ensures c.if-again.true) c.write.ensures.written w.late w.chain w.are

pub returns-then-again-clause-others : goal.returns-then-again-clause-others
returns-then-again-clause-others c trace spots x w again =
    let old = c.args.entries.now.items in
    let last = c.in-Some.last in
    let is = subst (λ (l : List Entry). IsEntryAt l c.args.newest last) c.as_slice.ensures.value c.in-Some.ensures in
    stay_written trace spots x old c.write.new.entries.items c.args.newest last (record { late = c.args.late; before = last.before }) is (newest_waits trace spots x c.args.late.event old c.args.newest w.late last is w.chain w.are) c.write.ensures.written

pub returns-then-again-2-clause-own : goal.returns-then-again-2-clause-own
returns-then-again-2-clause-own c trace spots x w own again =
    let old = c.args.entries.now.items in
    let last = c.in-Some.last in
    let second = c.in-Some-entry_at.second in
    let is = subst (λ (l : List Entry). IsEntryAt l c.args.newest last) c.as_slice.ensures.value c.in-Some.ensures in
    let before = subst (λ (l : List Entry). IsEntryAt l last.before second) c.as_slice-2.ensures.value c.in-Some-entry_at.ensures in
    second_replaced trace spots x c.args.late.event old c.write-then-again-2.new.entries.items c.write-then-again-2-2.new.entries.items c.args.newest c.args.late last second refl own is before (c.is_instead-again-2.ensures again)
    c.write-then-again-2.ensures.written c.write-then-again-2-2.ensures.written w.late w.chain w.are

pub returns-then-again-2-clause-others : goal.returns-then-again-2-clause-others
returns-then-again-2-clause-others c trace spots x w again =
    let old = c.args.entries.now.items in
    let last = c.in-Some.last in
    let second = c.in-Some-entry_at.second in
    let is = subst (λ (l : List Entry). IsEntryAt l c.args.newest last) c.as_slice.ensures.value c.in-Some.ensures in
    let before = subst (λ (l : List Entry). IsEntryAt l last.before second) c.as_slice-2.ensures.value c.in-Some-entry_at.ensures in
    stay_second trace spots x c.args.late.event old c.write-then-again-2.new.entries.items c.write-then-again-2-2.new.entries.items c.args.newest c.args.late last second is before
    c.write-then-again-2.ensures.written c.write-then-again-2-2.ensures.written w.late w.chain w.are
