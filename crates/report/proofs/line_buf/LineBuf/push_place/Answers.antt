use Rattle.std.proofs.Common.{◌≡◌, arith, to_z, of_z, w32}
use Rattle.std.proofs.lemmas.Int.{ints}
use Rattle.report.specs.PlaceText.{place_text}
use Rattle.report.proofs.Appended.{Appends-then}
use Rattle.report.proofs.line_buf.LineBuf.push_place.Goals as goal

pub returns-clause-text : goal.returns-clause-text
unfolding place_text
returns-clause-text c =
    let x : to_z w32 (of_z w32 c.args.pos.x) ≡ c.args.pos.x = grind (arith, ints) in
    let y : to_z w32 (of_z w32 c.args.pos.y) ≡ c.args.pos.y = grind (arith, ints) in
    let z : to_z w32 (of_z w32 c.args.pos.z) ≡ c.args.pos.z = grind (arith, ints) in
    let texts = Appends-then (Appends-then (Appends-then (Appends-then c.push_signed.ensures.text c.push.ensures) c.push_signed-2.ensures.text) c.push-2.ensures) c.push_signed-3.ensures.text in
    rw (x, y, z) at texts
