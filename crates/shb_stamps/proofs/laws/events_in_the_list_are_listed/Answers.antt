use Rattle.shb_stamps.proofs.ListedLemmas.{contains_listed, listed_contains}
use Rattle.shb_stamps.proofs.laws.events_in_the_list_are_listed.Goals as goal

pub returns : goal.returns
returns c events e = (listed_contains events e, contains_listed events e)
