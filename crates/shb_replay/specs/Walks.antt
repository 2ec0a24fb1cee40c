-- What is known at an index of a list: which events stand earlier, and what the trace asks of an event.
use Rattle.std.specs.Prelude.{◌≡◌, ℕ, ◌<◌, ◌≤◌, Bool, true, false, List, Option, Some, slice_get, slice_index_or, length, None}
use Rattle.shb_lines.specs.declared.event.Event.{Event}
use Rattle.shb_lines.specs.declared.event.Sizes.{Sizes}
use Rattle.shb_lines.specs.declared.event.Op.TheVariants.{Read, Write, Acquire, Join}
use Rattle.shb_lines.specs.events.Events.{op_at}
use Rattle.shb_lines.specs.events.Order.{IsPred}
use Rattle.shb_lines.specs.events.Schedule.{IsNext}
use Rattle.shb_links.specs.Latest.{Latest, ReleasesLock, WritesVariable}
use Rattle.shb_links.specs.Links.{Exactly}
use Rattle.shb_replay.specs.declared.rules.Rules.{Rules}
use Rattle.shb_replay.specs.declared.walked.Walked.{Walked}
use Rattle.shb_replay.specs.declared.broken.Why.{Why}
use Rattle.shb_replay.specs.declared.broken.Broken.{Broken}
use Rattle.shb_replay.specs.Reasons.{number_of, StandsEarlier, IsLatestWrite, IsBroken, IsUnbroken}

-- the predecessors of the first n events
pub record HasPreds (trace : List Event) (n : ℕ) (preds : List (Option ℕ)) : Type 0 where
  pub as_long : length preds ≡ n
  pub each : (e : ℕ) → e < n → Exactly (λ p. IsPred trace p e) (slice_index_or preds e None)

-- where e acquires a lock, the latest earlier release of the lock; where it reads a variable, the latest earlier write of the variable
pub record IsOrigin (trace : List Event) (e : ℕ) (origin : Option ℕ) : Type 0 where
  pub releases : (l : ℕ) → op_at trace e ≡ Some (Acquire l) → Latest (ReleasesLock trace l) e origin
  pub writes : (x : ℕ) → op_at trace e ≡ Some (Read x) → Latest (WritesVariable trace x) e origin

-- those of the first n events
pub record HasOrigins (trace : List Event) (n : ℕ) (origins : List (Option ℕ)) : Type 0 where
  pub as_long : length origins ≡ n
  pub each : (e : ℕ) → e < n → IsOrigin trace e (slice_index_or origins e None)

-- what must stand before each event
pub record AreRules (rules : Rules) : Type 0 where
  pub preds : HasPreds rules.linked.events.now (length rules.linked.events.now) rules.preds.items
  pub origins : HasOrigins rules.linked.events.now (length rules.linked.events.now) rules.origins.items

-- the flag tells whether the fact holds
abbrev pub Tells : Bool → Type 0 → Type 0
Tells true P = P
Tells false P = ¬ P

-- whether there is such an event that doesn't stand at an index before p
abbrev pub TellsLack : List ℕ → ℕ → Option ℕ → Bool → Type 0
TellsLack s p event true = (e : ℕ) × (event ≡ Some e) × ¬ StandsEarlier s p e
TellsLack s p event false = (e : ℕ) → event ≡ Some e → StandsEarlier s p e

-- of the reasons with these numbers that hold the one of lowest number, or None where none of them holds
abbrev pub IsLowestIn : ℕ → ℕ → (Why → Type 0) → Option Why → Type 0
IsLowestIn low high Has None = (why : Why) → low ≤ number_of why → number_of why ≤ high → ¬ Has why
IsLowestIn low high Has (Some why) = Has why × (low ≤ number_of why) × ((other : Why) → low ≤ number_of other → Has other → number_of why ≤ number_of other)

-- there are as many flags as the size, and each tells whether the fact holds of its number
pub record AreFlags (P : ℕ → Type 0) (size : ℕ) (flags : List Bool) : Type 0 where
  pub as_long : length flags ≡ size
  pub each : (k : ℕ) (flag : Bool) → slice_get flags k ≡ Some flag → Tells flag (P k)

-- a join of thread t stands at an index before p
pub record JoinStands (trace : List Event) (s : List ℕ) (p t : ℕ) : Type 0 where
  pub event : ℕ
  pub joins : op_at trace event ≡ Some (Join t)
  pub stands : StandsEarlier s p event

-- of each variable the latest write at an index before p, if there is one
pub record AreLatestWrites (trace : List Event) (s : List ℕ) (p size : ℕ) (writes : List (Option ℕ)) : Type 0 where
  pub as_long : length writes ≡ size
  pub each : (x : ℕ) → x < size → Exactly (IsLatestWrite trace s p x) (slice_index_or writes x None)

-- what stands at indices before p
pub record IsWalked (trace : List Event) (sizes : Sizes) (s : List ℕ) (p : ℕ) (walked : Walked) : Type 0 where
  pub stands : AreFlags (StandsEarlier s p) (length trace) walked.stands.items
  pub joined : AreFlags (JoinStands trace s p) sizes.threads walked.joined.items
  pub writes : AreLatestWrites trace s p sizes.variables walked.writes.items

-- nothing stands
abbrev pub IsBlank : List Event → Sizes → Walked → Type 0
IsBlank trace sizes walked = (s : List ℕ) → IsWalked trace sizes s 0 walked

-- some event at an index from m on and before p has the property
pub record IsBetween (s : List ℕ) (m p : ℕ) (P : ℕ → Type 0) : Type 0 where
  pub index : ℕ
  pub from : m ≤ index
  pub below : index < p
  pub event : ℕ
  pub at : slice_get s index ≡ Some event
  pub holds : P event

-- there are as many flags as the size, and those that are set have the property
pub record AreFlagsOnly (P : ℕ → Type 0) (size : ℕ) (flags : List Bool) : Type 0 where
  pub as_long : length flags ≡ size
  pub each : (k : ℕ) → slice_get flags k ≡ Some true → P k

-- there are as many writes as the size, and those that are there have the property
pub record AreWritesOnly (P : ℕ → Type 0) (size : ℕ) (writes : List (Option ℕ)) : Type 0 where
  pub as_long : length writes ≡ size
  pub each : (x w : ℕ) → x < size → slice_index_or writes x None ≡ Some w → P x

-- what is still known comes from indices from m on and before p
pub record IsLeft (trace : List Event) (sizes : Sizes) (s : List ℕ) (m p : ℕ) (walked : Walked) : Type 0 where
  pub stands : AreFlagsOnly (λ a. IsBetween s m p (λ b. b ≡ a)) (length trace) walked.stands.items
  pub joined : AreFlagsOnly (λ t. IsBetween s m p (λ b. op_at trace b ≡ Some (Join t))) sizes.threads walked.joined.items
  pub writes : AreWritesOnly (λ x. IsBetween s m p (λ b. op_at trace b ≡ Some (Write x))) sizes.variables walked.writes.items

-- how many indices of the list were walked for an answer
abbrev pub walked_to : List ℕ → Option Broken → ℕ
walked_to s (Some broken) = broken.at
walked_to s None = length s

-- where and why the list is no schedule of (i, j), or that it is one as far as its indices and the two accesses tell
abbrev pub IsAnswer : List Event → List ℕ → ℕ → ℕ → Option Broken → Type 0
IsAnswer trace s i j (Some broken) = IsBroken trace s i j broken.at broken.why
IsAnswer trace s i j None = IsUnbroken trace s (length s) × IsNext trace s i × IsNext trace s j
