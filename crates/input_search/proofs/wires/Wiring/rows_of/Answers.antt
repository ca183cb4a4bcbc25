use Rattle.std.proofs.Common.{◌≡◌, ◌≢◌, ℕ, ◌+◌, ◌-◌, ◌<◌, get_or, length, sym, ◌∙◌, arith}
use Rattle.std.proofs.lemmas.List.{get_or_default}
use Rattle.input_search.proofs.wires.Wiring.rows_of.Goals as goal

pub returns-else-slot-eq0-clause-rows : goal.returns-else-slot-eq0-clause-rows
returns-else-slot-eq0-clause-rows c =
    let slot : ℕ = c.index-slot.result.now in
    let some : c.index-slot.result.now ≢ 0 = c.if-slot-eq0.false in
    let within : c.args.number < length c.args.self.now.slots.items = omega (arith, c.requires.wiring.size, c.requires.number) in
    let is : c.index-slot.result.now ≡ get_or c.args.self.now.slots.items c.args.number 0 = c.index-slot.ensures ∙ get_or_default c.args.self.now.slots.items c.args.number slot 0 within in
    let one : c.index-slot.result.now ≡ (c.index-slot.result.now - 1) + 1 = omega (arith, some) in
    c.requires.wiring.found c.args.number (c.index-slot.result.now - 1) (sym is ∙ one)
