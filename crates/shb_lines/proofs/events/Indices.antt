-- Members and indices of a list of positions.
use Rattle.std.proofs.lemmas.Grind.{common_steps}
use Rattle.std.proofs.Common.{◌≡◌, ℕ, ◌<◌, List, Some, arith}
use Rattle.std.specs.Prelude.{slice_get, Contains}
use Rattle.std.specs.List.Sorted.{IsStrictlyIncreasing}
use Rattle.std.proofs.lemmas.Option.{slice_get_within, get_or_from_slice_get, slice_get-get_or}
use Rattle.std.proofs.lemmas.List.Kept.{AllPairs-from_increasing}
use Rattle.std.proofs.lemmas.Bool.{cases_lt}
use Rattle.shb_lines.specs.events.Schedule.{StandsBefore}

pub index_of : (s : List ℕ) (a : ℕ) → Contains s a → (p : ℕ) × (slice_get s p ≡ Some a)
index_of s a h = (h.0, rw h.2 at (slice_get-get_or s h.0 a h.1))

pub contains_at : (s : List ℕ) (p a : ℕ) → slice_get s p ≡ Some a → Contains s a
contains_at s p a h = (p, slice_get_within s p a h, get_or_from_slice_get s p a a h)

pub contains_first : (s : List ℕ) (a b : ℕ) → StandsBefore s a b → Contains s a
contains_first s a b h = contains_at s h.index a h.first

-- in a strictly increasing list, earlier indices hold smaller positions
pub smaller_before : (s : List ℕ) (p q a b : ℕ) → IsStrictlyIncreasing s → p < q → slice_get s p ≡ Some a → slice_get s q ≡ Some b → a < b
smaller_before s p q a b rising lt at_p at_q =
    let below = AllPairs-from_increasing s rising p q a lt (slice_get_within s q b at_q) in
    let ea = get_or_from_slice_get s p a a at_p in
    let eb = get_or_from_slice_get s q b a at_q in
    omega (arith, below, ea, eb)

pub increasing_indices : (s : List ℕ) (p q a b : ℕ) → IsStrictlyIncreasing s → slice_get s p ≡ Some a → slice_get s q ≡ Some b → a < b → p < q
increasing_indices s p q a b rising at_p at_q lt = grind (arith, common_steps, cases_lt, smaller_before)

pub stands_in_order : (s : List ℕ) (a b : ℕ) → IsStrictlyIncreasing s → Contains s a → Contains s b → a < b → StandsBefore s a b
stands_in_order s a b rising ha hb lt =
    let pa = index_of s a ha in
    let pb = index_of s b hb in
    record {
      index = pa.0;
      later_index = pb.0;
      before = increasing_indices s pa.0 pb.0 a b rising pa.1 pb.1 lt;
      first = pa.1;
      second = pb.1;
    }

pub smaller_stands_before : (s : List ℕ) (a b : ℕ) → IsStrictlyIncreasing s → StandsBefore s a b → a < b
smaller_stands_before s a b rising h = smaller_before s h.index h.later_index a b rising h.before h.first h.second
