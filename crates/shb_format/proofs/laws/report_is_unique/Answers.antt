use Rattle.shb_format.proofs.Words.{AllRaces}
use Rattle.shb_format.proofs.Blocks.{IsReportOn-unique, one_race_list}
use Rattle.shb_format.proofs.laws.report_is_unique.Goals as goal

pub returns : goal.returns
returns c with_schedules trace bytes others = IsReportOn-unique AllRaces with_schedules trace bytes others (one_race_list trace)
