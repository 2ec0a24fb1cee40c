-- Workers of passes and seats.
use Rattle.std.proofs.Common.{◌≡◌, ℕ, ◌+◌, take, sym, List, [], ◌∷◌, ◌++◌, All, Some, false, ap, ◌∙◌, arith, length, length-append, replicate}
use Rattle.std.proofs.lemmas.List.{length-replicate}
use Rattle.std.proofs.Math.Seq.{take-append_seam}
use Rattle.std.proofs.lemmas.List.Elements.{All-push, All-pop, All-same}
use Rattle.shb_fan.specs.declared.shares.Ring.{Ring}
use Rattle.shb_fan.specs.declared.shares.Seat.{Seat}
use Rattle.shb_fan.specs.declared.crew.Worker.{Worker}
use Rattle.shb_fan.specs.Numbers.{times}
use Rattle.shb_fan.specs.Passes.{TicketSource, PassState, fresh}
use Rattle.shb_fan.specs.Seated.{IsNewSeat, IsSeatOf, claimed_of}
use Rattle.shb_fan.specs.Streamed.{AreBack, HasWorked, CanBegin, IsIdle, IsNew}
use Rattle.shb_fan.proofs.Accounts.{accounts_none, balanced_none, balanced_more}

-- what is written back to a list of that length
pub take_written : (A : Type 0) (n : ℕ) (written rest : List A) → length written ≡ n → take n (written ++ rest) ≡ written
take_written A n written rest long = ap (λ (m : ℕ). take m (written ++ rest)) (sym long) ∙ take-append_seam written rest

module _ {T M J : Type 0} (value : J → ℕ → M) (count : J → ℕ) (z : TicketSource) (ring : Ring T M J) where
  pub one_made : (workers longer : List (Worker T M)) (worker : Worker T M) → longer ≡ workers ++ worker ∷ [] → worker.pass ≡ fresh z → IsNewSeat value count ring worker.seat
      → All (IsNew value count z ring) workers → All (IsNew value count z ring) longer
  one_made workers longer worker is pass seat all = All-same (IsNew value count z ring) longer (workers ++ worker ∷ []) is (All-push (IsNew value count z ring) workers worker all (pass, seat))

  -- a new worker may begin
  pub new_begins : (worker : Worker T M) → IsNew value count z ring worker → CanBegin value count z ring worker
  new_begins worker h =
      let running : worker.pass.halted ≡ false = ap (λ (p : PassState). p.halted) h.0 in
      let idle : IsIdle value count z ring worker = (ap (λ (p : PassState). p.source) h.0, h.1.0, h.1.1) in
      let drawn : worker.pass.drawn ≡ [] = ap (λ (p : PassState). p.drawn) h.0 in (
        (idle, accounts_none _ _ _ drawn h.1.2 running),
        (running, ap (λ (p : PassState). p.seen) h.0),
        λ k. let a = ap (times k) drawn in let b = ap (times k) h.1.2 in omega (arith, a, b),
      )

  -- the last of new workers and the others
  pub new_last : (workers rest : List (Worker T M)) (worker : Worker T M) → workers ≡ rest ++ worker ∷ [] → All (IsNew value count z ring) workers
      → All (CanBegin value count z ring) rest × CanBegin value count z ring worker
  new_last workers rest worker cut all =
      let both = All-pop (IsNew value count z ring) workers rest (Some worker) cut all in
      ((λ k d inside. new_begins _ (both.0 k d inside)), new_begins worker both.1)

  abbrev IsHome : Seat T M → Type 0
  IsHome s = IsSeatOf value count ring s × (claimed_of s ≡ [])

  pub back_none : (passes : List PassState) (seats : List (Seat T M)) → passes ≡ [] → All (IsNewSeat value count ring) seats → AreBack value count z ring passes seats
  back_none passes seats empty all = record {
    our_passes = λ k d inside. absurd (let long = ap length empty in omega (arith, long, inside));
    our_seats = λ k d inside. let s = all k d inside in (s.0, s.1);
    balanced = balanced_none passes seats empty (λ k d inside. (all k d inside).2);
  }

  pub back_more : (passes more : List PassState) (seats others : List (Seat T M)) (worker : Worker T M) → AreBack value count z ring passes seats → HasWorked value count z ring worker
      → more ≡ passes ++ worker.pass ∷ [] → others ≡ seats ++ worker.seat ∷ [] → AreBack value count z ring more others
  back_more passes more seats others worker back worked longer wider = record {
    our_passes = All-same (λ (q : PassState). q.source ≡ z) more (passes ++ worker.pass ∷ []) longer (All-push (λ (q : PassState). q.source ≡ z) passes worker.pass back.our_passes worked.0.0);
    our_seats = All-same IsHome others (seats ++ worker.seat ∷ []) wider (All-push IsHome seats worker.seat back.our_seats (worked.0.1, worked.0.2));
    balanced = balanced_more passes more seats others worker.pass worker.seat back.balanced worked.1 longer wider;
  }

-- ---- how many passes and seats there are in `stream`

-- the passes that the tickets made, of so many threads
module _ (z : TicketSource) (threads : ℕ) (passes : List PassState) (made : passes ≡ replicate threads (fresh z)) where
  pub one_each : length passes ≡ threads
  one_each = ap length made ∙ length-replicate threads (fresh z)

  -- the workers but the caller's own
  pub but_one : {A : Type 0} (workers rest : List A) (own : A) → workers ≡ rest ++ own ∷ [] → length workers ≡ length passes → length rest + 1 ≡ threads
  but_one workers rest own cut same = let one = one_each in let long = ap length cut ∙ length-append rest (own ∷ []) in omega (arith, one, long, same)

-- what is lent to the workers comes back as long as it was
module _ (A : Type 0) (n : ℕ) (lent rest written more : List A) (long : n ≡ length rest) (is : lent ≡ rest) (same : length written ≡ length lent) where
  pub comes_back : take n (written ++ more) ≡ written
  comes_back = take_written A n written more (let back = ap length is in omega (arith, long, back, same))

  pub as_many : length (take n (written ++ more)) ≡ length rest
  as_many = let back = ap length is in let count = ap length comes_back in omega (arith, count, back, same)

pub passes_whole : (threads taken rest passes end : ℕ) → taken ≡ rest → rest + 1 ≡ threads → passes ≡ threads → end ≡ taken → end + 1 ≡ passes
passes_whole threads taken rest passes end back cut is came = omega (arith, back, cut, is, came)
