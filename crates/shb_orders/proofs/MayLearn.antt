-- Which events are those by which a thread may learn.
use Rattle.std.proofs.Common.{◌≡◌, ◌≢◌, ℕ, ◌<◌, Bool, List, Option, Some, None, arith, subst, sym, ◌∙◌}
use Rattle.std.specs.Prelude.{◌↔◌, IsTrue}
use Rattle.std.specs.Option.{is_some}
use Rattle.shb_orders.proofs.Words.{Acquire, Event, IsLearning, Join, LastWrite, Read, acquires, first, joins, local_time, op_at, reads, thread_at, time_at, time_rises}
use Rattle.shb_lines.specs.declared.event.Op.{Op}
use Rattle.shb_links.specs.Links.{Exactly}
use Rattle.shb_orders.proofs.Times.{time_first}

module _ (trace : List Event) (e u : ℕ) (of_e : thread_at trace e ≡ Some u) where
  pub first_from_time : local_time trace u e ≡ 1 → IsLearning trace e
  first_from_time one = first u of_e (λ k lt of_k. (let rises = time_rises trace u k e of_e lt in let own = time_at trace u k of_k in omega (arith, one, rises, own)))

  first_time : (t : ℕ) → thread_at trace e ≡ Some t → ((k : ℕ) → k < e → thread_at trace k ≢ Some t) → local_time trace u e ≡ 1
  first_time t of_t none = let s : Some t ≡ Some u = sym of_t ∙ of_e in let same : t ≡ u = cc in subst (λ (x : ℕ). local_time trace x e ≡ 1) same (time_first trace t e of_t none)

  pub learning_read : (x : ℕ) → op_at trace e ≡ Some (Read x) → (local_time trace u e ≡ 1 → ⊥) → IsLearning trace e → (w : ℕ) × LastWrite trace w e
  learning_read x is later (first t of_t none) = absurd (later (first_time t of_t none))
  learning_read x is later (acquires l h) = absurd (let f : ⊥ = cc in f)
  learning_read x is later (joins v h) = absurd (let f : ⊥ = cc in f)
  learning_read x is later (reads w last) = (w, last)

  pub read_test : (seen : List Event) (x : ℕ) (o : Option ℕ) (b : Bool) → seen ≡ trace → op_at trace e ≡ Some (Read x) → (local_time trace u e ≡ 1 → ⊥) → Exactly (λ w. LastWrite seen w e) o → b ≡ is_some o → IsTrue b ↔ IsLearning trace e
  read_test seen x (Some w) b same is later exact test = ((λ h. reads w (subst (λ (tr : List Event). LastWrite tr w e) same exact)), (λ l. test))
  read_test seen x None b same is later exact test = ((λ h. absurd (let f : ⊥ = cc in f)), (λ l. absurd (let found = learning_read x is later l in exact found.0 (subst (λ (tr : List Event). LastWrite tr found.0 e) (sym same) found.1))))

  pub learning_other : (op : Op) → op_at trace e ≡ Some op → ((l : ℕ) → op ≡ Acquire l → ⊥) → ((v : ℕ) → op ≡ Join v → ⊥) → ((x : ℕ) → op ≡ Read x → ⊥) → (local_time trace u e ≡ 1 → ⊥) → IsLearning trace e → ⊥
  learning_other op is no_acquire no_join no_read later (first t of_t none) = later (first_time t of_t none)
  learning_other op is no_acquire no_join no_read later (acquires l h) = no_acquire l (let s : Some op ≡ Some (Acquire l) = sym is ∙ h in cc)
  learning_other op is no_acquire no_join no_read later (joins v h) = no_join v (let s : Some op ≡ Some (Join v) = sym is ∙ h in cc)
  learning_other op is no_acquire no_join no_read later (reads w last) = no_read last.variable (let h = last.reads in let s : Some op ≡ Some (Read last.variable) = sym is ∙ h in cc)
