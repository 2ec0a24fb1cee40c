-- What the number of a name does to the tables, by the kind of its operation.
use Rattle.std.proofs.Common.{◌≡◌, ◌⊎◌, ℕ, List, Some, Result, Ok, Err, IfOk, inl, inr, ap, refl, slice_get, subst, sym}
use Rattle.shb_lines.specs.declared.event.Kind.{Kind}
use Rattle.shb_lines.specs.declared.event.Kind.TheVariants as kinds
use Rattle.shb_lines.specs.text.Numbering.{with_operand}
use Rattle.shb_lines.specs.text.Text.{with_name}
use Rattle.shb_lines.specs.text.Numbers.{IsOperation, Tables, op_for}

-- what numbers a name in its table changes the table of its kind, and gives the operation its number
module _ (tables : Tables) (kind : Kind) (name : List ℕ) where
  pub variable_tables : (after : List (List ℕ)) → (kind ≡ kinds.Read) ⊎ (kind ≡ kinds.Write) → after ≡ with_name tables.variables name → record tables { variables = after } ≡ with_operand tables kind name
  variable_tables after (inl e) same = subst (λ (k : Kind). record tables { variables = after } ≡ with_operand tables k name) (sym e) (ap (λ names. record tables { variables = names }) same)
  variable_tables after (inr e) same = subst (λ (k : Kind). record tables { variables = after } ≡ with_operand tables k name) (sym e) (ap (λ names. record tables { variables = names }) same)

  pub lock_tables : (after : List (List ℕ)) → (kind ≡ kinds.Acquire) ⊎ (kind ≡ kinds.Release) → after ≡ with_name tables.locks name → record tables { locks = after } ≡ with_operand tables kind name
  lock_tables after (inl e) same = subst (λ (k : Kind). record tables { locks = after } ≡ with_operand tables k name) (sym e) (ap (λ names. record tables { locks = names }) same)
  lock_tables after (inr e) same = subst (λ (k : Kind). record tables { locks = after } ≡ with_operand tables k name) (sym e) (ap (λ names. record tables { locks = names }) same)

  pub thread_tables : (after : List (List ℕ)) → (kind ≡ kinds.Fork) ⊎ (kind ≡ kinds.Join) → after ≡ with_name tables.threads name → record tables { threads = after } ≡ with_operand tables kind name
  thread_tables after (inl e) same = subst (λ (k : Kind). record tables { threads = after } ≡ with_operand tables k name) (sym e) (ap (λ names. record tables { threads = names }) same)
  thread_tables after (inr e) same = subst (λ (k : Kind). record tables { threads = after } ≡ with_operand tables k name) (sym e) (ap (λ names. record tables { threads = names }) same)

  pub variable_operation : {E : Type 0} (result : Result ℕ E) → (kind ≡ kinds.Read) ⊎ (kind ≡ kinds.Write) → IfOk result (λ number. slice_get tables.variables number ≡ Some name)
      → IfOk result (λ number. IsOperation tables (op_for kind number) kind name)
  variable_operation (Err error) h at = tt
  variable_operation (Ok number) (inl e) at = subst (λ (k : Kind). IsOperation tables (op_for k number) k name) (sym e) (refl, at)
  variable_operation (Ok number) (inr e) at = subst (λ (k : Kind). IsOperation tables (op_for k number) k name) (sym e) (refl, at)

  pub lock_operation : {E : Type 0} (result : Result ℕ E) → (kind ≡ kinds.Acquire) ⊎ (kind ≡ kinds.Release) → IfOk result (λ number. slice_get tables.locks number ≡ Some name)
      → IfOk result (λ number. IsOperation tables (op_for kind number) kind name)
  lock_operation (Err error) h at = tt
  lock_operation (Ok number) (inl e) at = subst (λ (k : Kind). IsOperation tables (op_for k number) k name) (sym e) (refl, at)
  lock_operation (Ok number) (inr e) at = subst (λ (k : Kind). IsOperation tables (op_for k number) k name) (sym e) (refl, at)

  pub thread_operation : {E : Type 0} (result : Result ℕ E) → (kind ≡ kinds.Fork) ⊎ (kind ≡ kinds.Join) → IfOk result (λ number. slice_get tables.threads number ≡ Some name)
      → IfOk result (λ number. IsOperation tables (op_for kind number) kind name)
  thread_operation (Err error) h at = tt
  thread_operation (Ok number) (inl e) at = subst (λ (k : Kind). IsOperation tables (op_for k number) k name) (sym e) (refl, at)
  thread_operation (Ok number) (inr e) at = subst (λ (k : Kind). IsOperation tables (op_for k number) k name) (sym e) (refl, at)

  -- a mark has no name
  pub mark_tables : (kind ≡ kinds.BeginMark) ⊎ (kind ≡ kinds.EndMark) → tables ≡ with_operand tables kind name
  mark_tables (inl e) = subst (λ (k : Kind). tables ≡ with_operand tables k name) (sym e) refl
  mark_tables (inr e) = subst (λ (k : Kind). tables ≡ with_operand tables k name) (sym e) refl

  pub mark_operation : (kind ≡ kinds.BeginMark) ⊎ (kind ≡ kinds.EndMark) → IsOperation tables (op_for kind 0) kind name
  mark_operation (inl e) = subst (λ (k : Kind). IsOperation tables (op_for k 0) k name) (sym e) refl
  mark_operation (inr e) = subst (λ (k : Kind). IsOperation tables (op_for k 0) k name) (sym e) refl
