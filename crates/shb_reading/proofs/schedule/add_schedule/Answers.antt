-- A schedule's line says how many numbers it has, and has them.
use Rattle.shb_reading.proofs.Listing.{no_colon, no_numbers, schedule_by}
use Rattle.shb_reading.proofs.schedule.add_schedule.Goals as goal

pub returns-in_default-after_label : goal.returns-in_default-after_label
returns-in_default-after_label g c = no_colon c.args.line.now c.in-Some.count c.in-Some.after_count.now c.in-Some.ensures.0 c.in-Some.ensures.1 c.in_default-after_label.ensures

pub returns-in_default-2 : goal.returns-in_default-2
returns-in_default-2 g c =
    no_numbers c.args.line.now c.in-Some.count c.in-Some.after_count.now c.in-Some.ensures.0 c.in-Some.ensures.1 c.in-Some-after_label.text.now c.in-Some-after_label.ensures (rw c.in_default-2.is at c.in_ok-read.ensures)

pub returns : goal.returns
returns g c =
    schedule_by c.args.line.now c.in-Some.count c.in-Some.after_count.now c.in-Some.ensures.0 c.in-Some.ensures.1 c.in-Some-after_label.text.now c.in-Some-after_label.ensures
    (g.K.Keeping.kept c.args.keeping.now) (g.K.Keeping.most_kept c.args.keeping.now) _ _ _ (rw c.in-Some-2.is at c.in_ok-read.ensures)
