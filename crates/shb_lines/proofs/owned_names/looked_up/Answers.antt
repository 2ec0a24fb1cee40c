-- A name that is new is put last.
use Rattle.std.proofs.Common.{◌≡◌, ◌++◌, ◌∷◌, [], ap, false, is_some, nat_eq, slice_get, subst, sym, ◌∙◌}
use Rattle.std.specs.List.{list_any}
use Rattle.std.specs.Str.{bytes_eq}
use Rattle.indexmap.specs.IndexSet.{insert_key}
use Rattle.shb_lines.specs.text.Hashing.{AreHashed}
use Rattle.shb_lines.proofs.text.OwnedLemmas.{found_any, hashed_more, name_last, new_hash, with_name-new}
use Rattle.shb_lines.proofs.owned_names.looked_up.Goals.{then-not-is_new+in_default, else-not-is_new}
use Rattle.shb_lines.proofs.owned_names.looked_up.Goals as goal

pub returns-clause-hashed : goal.returns-clause-hashed
returns-clause-hashed c keys is all =
    let hashes = c.args.hashes.now.keys in
    subst (AreHashed keys c.insert_full.new.self.keys) (sym c.in_ok-push.ensures.ok)
    (hashed_more keys hashes c.args.names.now c.args.name.now all c.insert_full.new.self.keys (c.in_ok-first.ensures.keys ∙ ap (insert_key nat_eq hashes) is))

pub returns-clause-names : goal.returns-clause-names
returns-clause-names c keys is all =
    let names = c.args.names.now in
    let name = c.args.name.now in
    let lacks : list_any (bytes_eq name) names ≡ false = elim c.if-not-is_new.branch [
      | then-not-is_new+in_default w ↦ sym (found_any names name w.found.result w.found.ensures.some w.found.ensures.none) ∙ ap is_some w.in_default.is
      | else-not-is_new w ↦ new_hash keys c.args.hashes.now.keys names name all c.args.hash is (sym w.if-not-is_new.false ∙ c.in_ok-first.ensures.added)
    ] in
    c.in_ok-push.ensures.ok ∙ sym (with_name-new names name lacks)

pub returns-clause-number : goal.returns-clause-number
returns-clause-number c =
    ap (λ names. slice_get names c.len-number.result) c.in_ok-push.ensures.ok ∙ ap (slice_get (c.args.names.now ++ c.args.name.now ∷ [])) c.len-number.ensures.len ∙ name_last c.args.names.now c.args.name.now
