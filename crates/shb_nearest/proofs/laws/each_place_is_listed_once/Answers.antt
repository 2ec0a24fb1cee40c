use Rattle.shb_nearest.proofs.NearestLaws.{listed_once, listed_races, place_listed}
use Rattle.shb_nearest.proofs.laws.each_place_is_listed_once.Goals as goal

pub returns-clause-races : goal.returns-clause-races
returns-clause-races g c = listed_races

pub returns-clause-once : goal.returns-clause-once
returns-clause-once g c = listed_once

pub returns-clause-listed : goal.returns-clause-listed
returns-clause-listed g c events location races apart are k l race = place_listed events location races are apart k l race
