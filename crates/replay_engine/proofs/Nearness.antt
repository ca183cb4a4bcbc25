-- Being within two steps goes both ways, and all that is within two steps is listed.
use Rattle.std.proofs.Common.{◌≡◌, ℕ, ◌<◌, length, refl, sym, ap, ◌∙◌, subst, arith, pos, ◌+ℤ◌, ◌-ℤ◌, ℤ, lit<}
use Rattle.std.specs.Prelude.{slice_index_or}
use Rattle.std.proofs.lemmas.Int.{ints}
use Rattle.block_table.specs.declared.Side.{Side}
use Rattle.block_table.specs.declared.Side.TheVariants.{Down, Up, North, South, West, East}
use Rattle.block_table.specs.Facts.{opposite}
use Rattle.circuit.specs.declared.Pos.{Pos}
use Rattle.build.specs.Place.{beside}
use Rattle.replay_engine.specs.Near.{IsNearby, nearby}
use Rattle.replay_engine.specs.Near.IsNearby.{Itself, OneStep, TwoSteps}

up-down : (a : ℤ) → (a +ℤ pos 1) -ℤ pos 1 ≡ a
up-down a = omega (arith, ints)

down-up : (a : ℤ) → (a -ℤ pos 1) +ℤ pos 1 ≡ a
down-up a = omega (arith, ints)

-- a step and the step back
pub step_back : (s : Side) (p : Pos) → beside (opposite s) (beside s p) ≡ p
step_back Down p = λ i. record { x = p.x; y = down-up p.y i; z = p.z }
step_back Up p = λ i. record { x = p.x; y = up-down p.y i; z = p.z }
step_back North p = λ i. record { x = p.x; y = p.y; z = down-up p.z i }
step_back South p = λ i. record { x = p.x; y = p.y; z = up-down p.z i }
step_back West p = λ i. record { x = down-up p.x i; y = p.y; z = p.z }
step_back East p = λ i. record { x = up-down p.x i; y = p.y; z = p.z }

pub near_back : (p q : Pos) → IsNearby p q → IsNearby q p
near_back p q Itself = Itself
near_back p q (OneStep s) = subst (IsNearby (beside s p)) (step_back s p) (OneStep (opposite s))
near_back p q (TwoSteps s t) =
    subst (IsNearby (beside t (beside s p))) (ap (beside (opposite s)) (step_back t (beside s p)) ∙ step_back s p) (TwoSteps (opposite t) (opposite s))

pub length-nearby : (p : Pos) → length (nearby p) ≡ 25
unfolding nearby
length-nearby p = refl

pub near_listed : (p q : Pos) → IsNearby p q → (k : ℕ) × (k < 25) × (slice_index_or (nearby p) k q ≡ q)
unfolding nearby
near_listed p q Itself = (0, lit< tt, refl)
near_listed p q (OneStep Down) = (1, lit< tt, refl)
near_listed p q (OneStep Up) = (2, lit< tt, refl)
near_listed p q (OneStep North) = (3, lit< tt, refl)
near_listed p q (OneStep South) = (4, lit< tt, refl)
near_listed p q (OneStep West) = (5, lit< tt, refl)
near_listed p q (OneStep East) = (6, lit< tt, refl)
near_listed p q (TwoSteps Down Down) = (7, lit< tt, refl)
near_listed p q (TwoSteps Down Up) = (0, lit< tt, sym (step_back Down p))
near_listed p q (TwoSteps Down North) = (13, lit< tt, refl)
near_listed p q (TwoSteps Down South) = (14, lit< tt, refl)
near_listed p q (TwoSteps Down West) = (15, lit< tt, refl)
near_listed p q (TwoSteps Down East) = (16, lit< tt, refl)
near_listed p q (TwoSteps Up Down) = (0, lit< tt, sym (step_back Up p))
near_listed p q (TwoSteps Up Up) = (8, lit< tt, refl)
near_listed p q (TwoSteps Up North) = (17, lit< tt, refl)
near_listed p q (TwoSteps Up South) = (18, lit< tt, refl)
near_listed p q (TwoSteps Up West) = (19, lit< tt, refl)
near_listed p q (TwoSteps Up East) = (20, lit< tt, refl)
near_listed p q (TwoSteps North Down) = (13, lit< tt, refl)
near_listed p q (TwoSteps North Up) = (17, lit< tt, refl)
near_listed p q (TwoSteps North North) = (9, lit< tt, refl)
near_listed p q (TwoSteps North South) = (0, lit< tt, sym (step_back North p))
near_listed p q (TwoSteps North West) = (21, lit< tt, refl)
near_listed p q (TwoSteps North East) = (22, lit< tt, refl)
near_listed p q (TwoSteps South Down) = (14, lit< tt, refl)
near_listed p q (TwoSteps South Up) = (18, lit< tt, refl)
near_listed p q (TwoSteps South North) = (0, lit< tt, sym (step_back South p))
near_listed p q (TwoSteps South South) = (10, lit< tt, refl)
near_listed p q (TwoSteps South West) = (23, lit< tt, refl)
near_listed p q (TwoSteps South East) = (24, lit< tt, refl)
near_listed p q (TwoSteps West Down) = (15, lit< tt, refl)
near_listed p q (TwoSteps West Up) = (19, lit< tt, refl)
near_listed p q (TwoSteps West North) = (21, lit< tt, refl)
near_listed p q (TwoSteps West South) = (23, lit< tt, refl)
near_listed p q (TwoSteps West West) = (11, lit< tt, refl)
near_listed p q (TwoSteps West East) = (0, lit< tt, sym (step_back West p))
near_listed p q (TwoSteps East Down) = (16, lit< tt, refl)
near_listed p q (TwoSteps East Up) = (20, lit< tt, refl)
near_listed p q (TwoSteps East North) = (22, lit< tt, refl)
near_listed p q (TwoSteps East South) = (24, lit< tt, refl)
near_listed p q (TwoSteps East West) = (0, lit< tt, sym (step_back East p))
near_listed p q (TwoSteps East East) = (12, lit< tt, refl)
