use Rattle.std.proofs.Common.{◌<◌, ◌^◌, arith, ℕ, ◌≡◌, ◌*◌, ◌/◌, ◌∙◌, ap, drop, length, length-drop, length-take, refl, sym}
use Rattle.shb_stamps.proofs.Words.{take_all}
use Rattle.shb_stamps.proofs.ChunkLemmas.{longer_by, longer_still, part_inside, part_more, part_row}
use Rattle.shb_stamps.proofs.row_list.add_cells.Goals as goal

pub shared-requires-clause-long : goal.shared-requires-clause-long
shared-requires-clause-long c =
    let short = ap length c.piece.ensures ∙ length-take 64 (drop (64 * c.loop-k.k) c.args.row.now) in
    let left = length-drop (64 * c.loop-k.k) c.args.row.now in
    let low = c.loop-k-test.true in
    let less = c.saturating_sub-count.ensures in
    let long = c.len.ensures in
    omega (arith, short, left, low, less, long)

pub returns-in_err-push-clause-longer : goal.returns-in_err-push-clause-longer
returns-in_err-push-clause-longer c = (
  longer_still _ _ _ c.loop-k.invariant.longer c.shared.ensures.longer,
  longer_by _ _ c.loop-k.invariant.numbers (c.in_err-push.ensures.items ∙ c.loop-k.invariant.cells_are),
)

pub loop-k-preserved : goal.loop-k-preserved
loop-k-preserved c = part_more _ _ c.args.row.now c.loop-k.chunks.items c.loop-k.cells.items c.loop-k.k c.shared.new.chunks.items c.push.new.self.items c.piece.result.now c.in_ok-chunk.chunk c.loop-k.invariant c.shared.ensures.chunks c.shared.ensures.few c.shared.ensures.longer c.piece.ensures c.in_ok-chunk.ensures.number c.in_ok-push.ensures.items

-- where the entries after the chunks are
module _ (c : goal.In_ok-extend_from_slice) where
  abbrev count : ℕ
  count = c.saturating_sub-count.result / 64

  at_end : c.loop-k.k ≡ count
  at_end = let past = c.loop-k-test.false in let within = c.loop-k.auto.k-end in omega (arith, past, within)

  few : count < 2 ^ 32
  few = let numbers = c.if-numbers.false in let sum = c.saturating_add-numbers.ensures in omega (arith, numbers, sum)

  some : 0 < count
  some = let less = c.saturating_sub-count.ensures in let long = c.len.ensures in let size = c.len-2.ensures in let over = c.if-len-le-CHUNK.false in omega (arith, less, long, size, over)

  rest_is : c.piece-rest.result.now ≡ drop (64 * c.loop-k.k) c.args.row.now
  rest_is =
      let left = length-drop (64 * count) c.args.row.now in
      let less = c.saturating_sub-count.ensures in
      let long = c.len.ensures in
      c.piece-rest.ensures ∙ (take_all 64 (drop (64 * count) c.args.row.now) (omega (arith, left, less, long)) ∙ ap (λ (k : ℕ). drop (64 * k) c.args.row.now) (sym at_end))

pub returns-clause-inside : goal.returns-clause-inside
returns-clause-inside c = part_inside _ _ c.args.row.now c.loop-k.chunks.items c.loop-k.cells.items c.loop-k.k _ c.loop-k.invariant (at_end c) (some c) (few c) c.piece-rest.result.now _ c.len-start.result _ c.len-first.result (rest_is c) c.in_ok-extend_from_slice.ensures.items (omega (arith, c.len-start.ensures)) refl

pub returns-clause-row : goal.returns-clause-row
returns-clause-row c = part_row _ _ c.args.row.now c.loop-k.chunks.items c.loop-k.cells.items c.loop-k.k _ c.loop-k.invariant (at_end c) (some c) (few c) c.piece-rest.result.now _ c.len-start.result _ c.len-first.result (rest_is c) c.in_ok-extend_from_slice.ensures.items (omega (arith, c.len-start.ensures)) refl
