use Rattle.std.proofs.Common.{◌≡◌, length, ◌++◌, take, refl, sym, ◌∙◌, ap, subst, arith, length-append, length-take}
use Rattle.std.proofs.lemmas.Grind.{common_steps}
use Rattle.rp_io.specs.Reads.{ReadsAt, IsFront}
use Rattle.rp_io.proofs.Counts.{told_still}
use Rattle.rp_io.proofs.Fronts.{front_more, front_whole, front_longer}
use Rattle.rp_io.proofs.whole.read_whole.Goals as goal

pub pieces-init : goal.pieces-init
pieces-init g c = record {
  files = refl;
  asked = λ other apart. refl;
  told = refl;
  later = omega arith;
  stays = λ fits. fits;
  room = omega (arith, ap length c.as_mut_slice-chunk.ensures.value, c.in_ok-room.ensures);
  within = omega (arith, ap length c.new-bytes.ensures.items);
  front = λ whole is. (whole, ap (λ l. l ++ whole) (sym c.new-bytes.ensures.items));
}

pub returns-then-count-eq0-clause-whole : goal.returns-then-count-eq0-clause-whole
returns-then-count-eq0-clause-whole g c =
    let here : c.len-at.result ≡ length c.pieces.bytes.items = omega arith in
    let told = ap (λ f. f c.args.name.now) c.pieces.invariant.files in
    let reads = subst (λ t. ReadsAt t c.len-at.result c.in_ok-count.count c.ask.new.into) told c.in_ok-count.ensures.bytes in
    front_whole _ c.pieces.bytes.items c.ask.new.into c.len-at.result c.in_ok-count.count here c.pieces.invariant.front reads c.if-count-eq0.true

pub returns-then-len-count-clause-long : goal.returns-then-len-count-clause-long
returns-then-len-count-clause-long g c _ =
    let here : c.len-at.result ≡ length c.pieces.bytes.items = omega arith in
    let told = ap (λ f. f c.args.name.now) c.pieces.invariant.files in
    let reads = subst (λ t. ReadsAt t c.len-at.result c.in_ok-count.count c.ask.new.into) told c.in_ok-count.ensures.bytes in
    front_longer _ c.pieces.bytes.items c.ask.new.into c.len-at.result c.in_ok-count.count c.args.limit here c.pieces.invariant.front reads (omega (arith, c.in_ok-count.ensures.bound)) (omega (arith, c.if-len-count.true))

pub pieces-preserved : goal.pieces-preserved
pieces-preserved g c =
    let here : c.len-at.result ≡ length c.pieces.bytes.items = omega arith in
    let told = ap (λ f. f c.args.name.now) c.pieces.invariant.files in
    let reads = subst (λ t. ReadsAt t c.len-at.result c.in_ok-count.count c.ask.new.into) told c.in_ok-count.ensures.bytes in
    let more = front_more _ c.pieces.bytes.items c.ask.new.into c.len-at.result c.in_ok-count.count here c.pieces.invariant.front reads in
    let items : c.extend_from_slice.new.self.items ≡ c.pieces.bytes.items ++ take c.in_ok-count.count c.ask.new.into = grind (arith, common_steps) in
    record {
      files = c.in_ok-count.ensures.files ∙ c.pieces.invariant.files;
      asked = λ other apart. c.in_ok-count.ensures.asked.others other apart ∙ c.pieces.invariant.asked other apart;
      told = told_still (g.I.Inputs.asked c.pieces.inputs c.args.name.now) (g.I.Inputs.asked c.ask.new.inputs c.args.name.now) c.in_ok-count.ensures.asked.rose ∙ c.pieces.invariant.told;
      later = omega (arith, c.pieces.invariant.later, c.in_ok-count.ensures.later);
      stays = λ fits. c.in_ok-count.ensures.stays (c.pieces.invariant.stays fits);
      room = omega arith;
      within = omega (arith, ap length items, length-append c.pieces.bytes.items (take c.in_ok-count.count c.ask.new.into), length-take c.in_ok-count.count c.ask.new.into);
      front = subst (IsFront (g.I.Inputs.file c.args.inputs.now c.args.name.now)) (sym items) more;
    }
