-- The table of local times, an event at a time, and what its getter answers.
use Rattle.shb_links.proofs.Words.{Event, HasLocals, IsLocal, Read, common_steps, get_or_read, local_time, thread_at, thread_item}
use Rattle.std.proofs.Common.{◌≡◌, ℕ, ◌<◌, List, Some, length, get_or, arith, subst, sym}
use Rattle.shb_links.proofs.LocalTimes.{time_is_number}

-- what a getter answers, where the links are seen as the trace
pub local_answer : (trace seen : List Event) (locals : List ℕ) (x e t : ℕ) → trace ≡ seen → HasLocals trace (length trace) locals → e < length seen → x ≡ get_or locals e x → thread_at seen e ≡ Some t → x ≡ local_time seen t e
local_answer trace seen locals x e t same has lt is of_e = grind (arith, common_steps, get_or_read)

pub local_number : (trace seen : List Event) (locals : List ℕ) (x e : ℕ) → trace ≡ seen → HasLocals trace (length trace) locals → e < length seen → x ≡ get_or locals e x → IsLocal seen e x
local_number trace seen locals x e same has lt is =
    let d : Event = record { thread = 0; op = Read 0; line = 0 } in
    let of_e = thread_item seen e d lt in
    subst (λ (n : ℕ). IsLocal seen e n) (sym (local_answer trace seen locals x e (get_or seen e d).thread same has lt is of_e)) (time_is_number seen e (get_or seen e d).thread lt of_e)
