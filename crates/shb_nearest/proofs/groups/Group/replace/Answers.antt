use Rattle.std.proofs.Common.{List, [], ◌∷◌, ◌++◌, ◌≡◌, ◌∙◌, Some, ap, inr, length, refl, subst, sym}
use Rattle.std.specs.Prelude.{slice_get}
use Rattle.shb_nearest.proofs.Words.{KeptAccess, slice_get_read, slice_get_within}
use Rattle.shb_nearest.proofs.GroupLemmas.{kept_without}
use Rattle.shb_nearest.proofs.Members.{member_at}
use Rattle.shb_nearest.proofs.groups.Group.replace.Goals as goal

pub returns-clause-kept : goal.returns-clause-kept
returns-clause-kept c =
    let found = c.in-Some.ensures in
    let there = subst (λ (l : List KeptAccess). slice_get l c.in-Some.at ≡ Some found.0) c.as_slice.ensures found.1 in
    kept_without c.args.access c.args.self.now _ refl refl c.in-Some.at found.0 there found.2 (c.in_ok-push-2.ensures.ok ∙ ap (λ (l : List KeptAccess). l ++ c.args.access ∷ []) c.remove-before.ensures.items)

pub returns-clause-before : goal.returns-clause-before
returns-clause-before c =
    let found = c.in-Some.ensures in
    let items = c.args.self.now.kept.items in
    let there = subst (λ (l : List KeptAccess). slice_get l c.in-Some.at ≡ Some found.0) c.as_slice.ensures found.1 in
    let gone = slice_get_read items (length items) c.in-Some.at c.remove-before.result refl (slice_get_within items c.in-Some.at found.0 there) c.remove-before.ensures.value in
    let same : found.0 ≡ c.remove-before.result = (let s : Some found.0 ≡ Some c.remove-before.result = sym there ∙ gone in cc) in
    inr (found.0, member_at items c.in-Some.at found.0 there, found.2, ap (λ (a : KeptAccess). a.event) same)
