use Rattle.std.proofs.Common.{arith, refl}
use Rattle.shb_nearest.proofs.Words.{slice_get_within}
use Rattle.shb_nearest.proofs.Members.{read_at}
use Rattle.shb_nearest.proofs.SiteLemmas.{came_again}
use Rattle.shb_nearest.proofs.sites.come_again.Goals as goal

pub returns-in-Some : goal.returns-in-Some
returns-in-Some c location is =
    let all = c.args.all.now.items in
    let number = c.args.number in
    let most = c.max-site.ensures in
    came_again all number c.args.event location c.max-site.result c.in-Some.site.now (read_at all all number c.in-Some.site.now refl (slice_get_within all number is.site is.there) c.in-Some.ensures.value) is (omega (arith, most)) (omega (arith, most))

pub returns-in_default : goal.returns-in_default
returns-in_default c location is = absurd (let lt = slice_get_within c.args.all.now.items c.args.number is.site is.there in let long = c.args.all.now.ok.0 in let f = c.in_default.ensures.variant.1 (omega (arith, lt, long)) in (let n : ⊥ = cc in n))
