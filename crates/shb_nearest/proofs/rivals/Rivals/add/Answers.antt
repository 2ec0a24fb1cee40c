use Rattle.std.proofs.Common.{List, [], ◌∷◌, ◌++◌, ◌∙◌, ◌≡◌, ap, arith, refl, subst, sym}
use Rattle.std.specs.Prelude.{slice_set}
use Rattle.shb_nearest.proofs.Words.{FoundAccess, HasAdded, set-get_or, slice_get_read}
use Rattle.shb_nearest.specs.declared.rivals.Rivals.{Rivals}
use Rattle.shb_nearest.proofs.AddedLemmas.{added_known, added_push, added_set}
use Rattle.shb_nearest.proofs.rivals.Rivals.add.Goals as goal
use Rattle.shb_nearest.proofs.rivals.Rivals.add.Goals.{in-Some+else-known-location, in_default}

pub returns-then-known-access : goal.returns-then-known-access
returns-then-known-access c groups second =
    let found = c.args.self.now.found in
    added_set groups second found.items c.args.access c.item_or-index.result c.in-Some.known.now (slice_get_read found.items found.len c.item_or-index.result c.in-Some.known.now found.ok.0 (c.in-Some.ensures.variant.0 refl) c.in-Some.ensures.value) c.if-known-location.true c.if-known-access.true

pub returns-else-known-access : goal.returns-else-known-access
returns-else-known-access c groups second =
    let found = c.args.self.now.found in
    let index = c.item_or-index.result in
    let known = c.in-Some.known.now in
    let same : slice_set found.items index known ≡ found.items = ap (λ (a : FoundAccess). slice_set found.items index a) c.in-Some.ensures.value ∙ set-get_or found.items index known in
    subst (λ (l : List FoundAccess). HasAdded groups second found.items l (c.args.access ∷ [])) (sym same)
    (added_known groups second found.items c.args.access index known (slice_get_read found.items found.len index known found.ok.0 (c.in-Some.ensures.variant.0 refl) c.in-Some.ensures.value) c.if-known-location.true (omega (arith, c.if-known-access.false)))

pub returns : goal.returns
returns c groups second =
    let found = c.args.self.now.found.items in
    let index = c.item_or-index.result in
    let same : c.match-get_mut.self.found.items ≡ found = elim c.match-get_mut.branch [
      | in-Some+else-known-location w ↦ ap (λ (r : Rivals). r.found.items) w.self-is ∙ (ap (λ (a : FoundAccess). slice_set found index a) w.in-Some.ensures.value ∙ set-get_or found index w.in-Some.known.now)
      | in_default w ↦ ap (λ (r : Rivals). r.found.items) w.self-is
    ] in
    added_push groups second found c.args.access c.push.new.self.items (c.in_ok-push.ensures.items ∙ ap (λ (l : List FoundAccess). l ++ c.args.access ∷ []) same)
