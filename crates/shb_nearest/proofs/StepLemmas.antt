-- The next event of a stream, and what is known after it.
use Rattle.std.proofs.Common.{◌≡◌, ℕ, Bool, true, false, List, [], ◌∷◌, ◌++◌, Some, length, refl, sym, ap, subst, ◌∙◌}
use Rattle.std.specs.Prelude.{slice_get}
use Rattle.shb_nearest.proofs.Words.{Event, FoundAccess, IsNextAccess, IsNextEvent, Op, Spot, StreamClocks, access_op, op_at, op_is, thread_is, variable_of}
use Rattle.shb_lines.specs.events.Tests.{is_write}
use Rattle.shb_nearest.proofs.ClassLemmas.{access_kind}

pub last_at : {X : Type 0} (xs : List X) (x : X) (n : ℕ) → length xs ≡ n → slice_get (xs ++ x ∷ []) n ≡ Some x
last_at {X} xs x n is = subst (λ (m : ℕ). slice_get (xs ++ x ∷ []) m ≡ Some x) is (go xs)
  where
    go : (ys : List X) → slice_get (ys ++ x ∷ []) (length ys) ≡ Some x
    go [] = refl
    go (y ∷ ys) = go ys

write_of : (writes : Bool) (x : ℕ) → is_write (access_op writes x) ≡ writes
write_of true x = refl
write_of false x = refl

module _ (past : List Event) (e : Event) (spots : List Spot) (clocks : StreamClocks) (op : Op) (access : FoundAccess) (next : IsNextEvent past e spots clocks op access) where
  event_here : slice_get (past ++ e ∷ []) access.event ≡ Some e
  event_here = last_at past e access.event (sym next.event_is)

  pub next_op : op_at (past ++ e ∷ []) access.event ≡ Some op
  next_op = op_is (past ++ e ∷ []) access.event e event_here ∙ ap (λ (o : Op). Some o) next.same_op

  pub next_access : (x : ℕ) → variable_of op ≡ Some x → IsNextAccess past e spots x clocks access
  next_access x of_x = record {
    disciplined = next.disciplined;
    streamed = next.streamed;
    event_is = next.event_is;
    thread_is = next.same_thread;
    own = record {
      thread_is = thread_is (past ++ e ∷ []) access.event e event_here ∙ ap (λ (t : ℕ). Some t) next.same_thread;
      op_is = (let k = access_kind op x of_x in
          let w : access.writes ≡ k.0 = next.writes_is ∙ (ap is_write k.1 ∙ write_of k.0 x) in
          next_op ∙ (ap (λ (o : Op). Some o) k.1 ∙ ap (λ (v : Bool). Some (access_op v x)) (sym w)));
      spot_is = next.spot_is;
    };
  }
