use Rattle.std.proofs.Common.{arith, ◌%◌, [], ◌∷◌, ◌≡◌, ◌∙◌, ap, sym, length, slice_index, ℕ}
use Rattle.wire_net.specs.Net.{Cell, cell_at}
use Rattle.wire_net.specs.HandNet.{hand_net, hand-at, length-hand_from}
use Rattle.wire_net.proofs.tests.HandNetNet.feeder.Goals as goal

pub bounds-self-cell : goal.bounds-self-cell
bounds-self-cell c = omega (arith, c.args.self.now.bases.ok.0, c.requires.in_net, c.args.self.now.firsts, length-hand_from (length c.args.self.now.bases.items) 0 c.args.self.now.bases.items c.args.self.now.first.now c.args.self.now.second.now)

pub bounds-self-cell-else-index-eq0 : goal.bounds-self-cell-else-index-eq0
bounds-self-cell-else-index-eq0 c = omega (arith, c.args.self.now.bases.ok.0, c.requires.in_net, c.args.self.now.seconds, length-hand_from (length c.args.self.now.bases.items) 0 c.args.self.now.bases.items c.args.self.now.first.now c.args.self.now.second.now)

pub nonzero_rem-result : goal.nonzero_rem-result
nonzero_rem-result c = omega (arith, c.len-count.ensures, c.args.self.now.bases.ok.0, c.requires.in_net, length-hand_from (length c.args.self.now.bases.items) 0 c.args.self.now.bases.items c.args.self.now.first.now c.args.self.now.second.now)

pub nonzero_rem-result-else-index-eq0 : goal.nonzero_rem-result-else-index-eq0
nonzero_rem-result-else-index-eq0 c = omega (arith, c.len-count.ensures, c.args.self.now.bases.ok.0, c.requires.in_net, length-hand_from (length c.args.self.now.bases.items) 0 c.args.self.now.bases.items c.args.self.now.first.now c.args.self.now.second.now)

pub returns-then-index-eq0 : goal.returns-then-index-eq0
returns-then-index-eq0 c =
    let n : ℕ = length c.args.self.now.bases.items in
    let same : c.len-count.result ≡ n = omega (arith, c.len-count.ensures, c.args.self.now.bases.ok.0) in
    let first : c.args.index ≡ 0 = c.if-index-eq0.true in
    ap (λ (m : ℕ). (slice_index c.args.self.now.first.now c.args.cell) % m) same
    ∙ sym (ap (λ (x : Cell). slice_index x.feeders c.args.index) (hand-at c.args.self.now.bases.items c.args.self.now.first.now c.args.self.now.second.now c.args.cell c.requires.in_net)
    ∙ ap (λ (k : ℕ). slice_index ((slice_index c.args.self.now.first.now c.args.cell) % n ∷ (slice_index c.args.self.now.second.now c.args.cell) % n ∷ []) k) first)

pub returns-else-index-eq0 : goal.returns-else-index-eq0
returns-else-index-eq0 c =
    let n : ℕ = length c.args.self.now.bases.items in
    let same : c.len-count.result ≡ n = omega (arith, c.len-count.ensures, c.args.self.now.bases.ok.0) in
    let two : length (cell_at (hand_net c.args.self.now.bases.items c.args.self.now.first.now c.args.self.now.second.now) c.args.cell).feeders ≡ 2 = ap (λ (x : Cell). length x.feeders) (hand-at c.args.self.now.bases.items c.args.self.now.first.now c.args.self.now.second.now c.args.cell c.requires.in_net) in
    let second : c.args.index ≡ 1 = omega (arith, c.requires.in_cell, two, c.if-index-eq0.false) in
    ap (λ (m : ℕ). (slice_index c.args.self.now.second.now c.args.cell) % m) same
    ∙ sym (ap (λ (x : Cell). slice_index x.feeders c.args.index) (hand-at c.args.self.now.bases.items c.args.self.now.first.now c.args.self.now.second.now c.args.cell c.requires.in_net)
    ∙ ap (λ (k : ℕ). slice_index ((slice_index c.args.self.now.first.now c.args.cell) % n ∷ (slice_index c.args.self.now.second.now c.args.cell) % n ∷ []) k) second)
