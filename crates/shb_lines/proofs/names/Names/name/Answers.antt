-- A name stands between the end of the one before it and its own.
use Rattle.std.proofs.Common.{ℕ, List, Some, get_or, slice_get, ap, arith, length, sym, ◌∙◌, ◌∷◌}
use Rattle.shb_lines.specs.text.Stored.{part}
use Rattle.shb_lines.proofs.text.KeptNames.{ends_order, length-names_between, name_between}
use Rattle.shb_lines.proofs.names.Names.name.Goals as goal

pub start_of-start-requires : goal.start_of-start-requires
start_of-start-requires c =
    let names = c.self.inside in
    omega (arith, c.requires, ap length c.self.view_is, length-names_between names.bytes.items 0 names.ends.items, ap length c.as_slice.ensures.value)

pub index-requires : goal.index-requires
index-requires c =
    let names = c.self.inside in
    omega (arith, c.requires, ap length c.self.view_is, length-names_between names.bytes.items 0 names.ends.items)

pub bytes_between-requires-clause-order : goal.bytes_between-requires-clause-order
bytes_between-requires-clause-order c =
    let names = c.self.inside in
    let order = ends_order (length names.bytes.items) 0 names.ends.items c.args.number c.index.result.now c.self.invariant (omega (arith, c.requires, ap length c.self.view_is, length-names_between names.bytes.items 0 names.ends.items)) in
    omega (arith, order.0, c.index.ensures, c.start_of-start.ensures ∙ ap (λ (ends : List ℕ). get_or (0 ∷ ends) c.args.number 0) c.as_slice.ensures.value)

pub bytes_between-requires-clause-within : goal.bytes_between-requires-clause-within
bytes_between-requires-clause-within c =
    let names = c.self.inside in
    let order = ends_order (length names.bytes.items) 0 names.ends.items c.args.number c.index.result.now c.self.invariant (omega (arith, c.requires, ap length c.self.view_is, length-names_between names.bytes.items 0 names.ends.items)) in
    omega (arith, order.1, c.index.ensures, ap length c.as_slice-2.ensures.value)

pub returns : goal.returns
returns c =
    let names = c.self.inside in
    let start = c.start_of-start.ensures ∙ ap (λ (ends : List ℕ). get_or (0 ∷ ends) c.args.number 0) c.as_slice.ensures.value in
    ap (λ (ns : List (List ℕ)). slice_get ns c.args.number) (sym c.self.view_is)
    ∙ name_between names.bytes.items 0 names.ends.items c.args.number c.index.result.now (omega (arith, c.requires, ap length c.self.view_is, length-names_between names.bytes.items 0 names.ends.items))
    ∙ ap Some (sym (c.bytes_between.ensures ∙ ap (λ (b : List ℕ). part b c.start_of-start.result c.index.result.now) c.as_slice-2.ensures.value
    ∙ ap (λ n. part names.bytes.items n c.index.result.now) start ∙ ap (part names.bytes.items (get_or (0 ∷ names.ends.items) c.args.number 0)) c.index.ensures))
