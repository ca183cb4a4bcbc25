use Rattle.std.proofs.Common.{refl, ap, inl, inr}
use Rattle.power_rules.specs.Standing.{is_something, stands_inside}
use Rattle.power_rules.proofs.components.readings.Goals as goal

pub read_power-requires : goal.read_power-requires
read_power-requires g c = stands_inside c.args.build.now c.args.pos _ c.in-Torch.ensures.value refl

pub read_power-requires-in-WallTorch : goal.read_power-requires-in-WallTorch
read_power-requires-in-WallTorch g c = stands_inside c.args.build.now c.args.pos _ c.in-WallTorch.ensures.value refl

pub read_around-requires : goal.read_around-requires
read_around-requires g c = stands_inside c.args.build.now c.args.pos _ c.at.ensures.value
    (elim c.in-Lamp.is [
      | inl lamp ↦ ap is_something lamp.1
      | inr other ↦ elim other [ inl trapdoor ↦ ap is_something trapdoor.3 | inr note ↦ ap is_something note.1 ]
    ])

pub input-requires : goal.input-requires
input-requires g c = stands_inside c.args.build.now c.args.pos _ c.in-Repeater.ensures.value refl

pub lock_power-requires : goal.lock_power-requires
lock_power-requires g c = stands_inside c.args.build.now c.args.pos _ c.in-Repeater.ensures.value refl

pub measured-requires : goal.measured-requires
measured-requires g c = stands_inside c.args.build.now c.args.pos _ c.in-Comparator.ensures.value refl

pub lateral_power-requires : goal.lateral_power-requires
lateral_power-requires g c = stands_inside c.args.build.now c.args.pos _ c.in-Comparator.ensures.value refl
