use Rattle.shb_judging.proofs.WrittenGood.{all_are_races, written_good}
use Rattle.shb_judging.proofs.Words.{AllRaces}
use Rattle.shb_judging.proofs.laws.written_report_is_good.Goals as goal

pub returns : goal.returns
returns c = λ trace bytes. written_good AllRaces trace bytes (all_are_races trace)
