-- Each round of the passes has one end, and so have all rounds together.
use Rattle.std.proofs.Common.{◌≡◌, Bool, List}
use Rattle.circuit.specs.declared.Pos.{Pos}
use Rattle.build.specs.Plan.{Plan, IsWhole}
use Rattle.graph.specs.Graph.{Nodes}
use Rattle.graph.specs.Steps.{Clamps, Dedups, Unreaches, Folds, Prunes}
use Rattle.pass_frame.specs.Rounds.{Exhausts, InTurn, TurnWhen, Rounds}
use Rattle.pass_frame.proofs.FrameSteps.{KeepsSound}
use Rattle.pass_frame.proofs.Turns.{HasOneEnd, exhausts_sound, in_turn_sound, in_turn_one, turn_when_sound, turn_when_one, rounds_sound, rounds_one}
use Rattle.clamp_dedup.specs.ClampLaws.{clamp_keeps_sound}
use Rattle.clamp_dedup.specs.DedupLaws.{dedup_keeps_sound}
use Rattle.clamp_dedup.proofs.ClampEnd.{clamped_one}
use Rattle.clamp_dedup.proofs.DedupEnd.{deduped_one}
use Rattle.unreach.specs.UnreachLaws.{unreach_keeps_sound}
use Rattle.unreach.proofs.OneEnd.{unreached_one}
use Rattle.constant_fold.specs.FoldLaws.{fold_keeps_sound}
use Rattle.constant_fold.proofs.OneEnd.{folded_one}
use Rattle.coalesce.specs.Sweeps.{SweepsOnce}
use Rattle.coalesce.proofs.SweepSteps.{sweep_one, sweep_sound}
use Rattle.prune.specs.PruneLaws.{prune_sound}
use Rattle.prune.proofs.OneEnd.{pruned_one}
use Rattle.input_search.specs.Raw.{raw}
use Rattle.input_search.proofs.SoundRaw.{raw_sound}
use Rattle.compiler.specs.declared.Keep.{Keep}
use Rattle.compiler.specs.Compiled.{prunes, Round, Compiled}

module _ (pruning : Bool) where
  abbrev Last : Nodes → Nodes → Type 0
  Last = TurnWhen pruning (Exhausts Prunes)

  abbrev FromCoalesce : Nodes → Nodes → Type 0
  FromCoalesce = InTurn (Rounds SweepsOnce) Last

  abbrev FromFold : Nodes → Nodes → Type 0
  FromFold = InTurn (Exhausts Folds) FromCoalesce

  abbrev FromUnreach : Nodes → Nodes → Type 0
  FromUnreach = InTurn (Exhausts Unreaches) FromFold

  abbrev FromDedup : Nodes → Nodes → Type 0
  FromDedup = InTurn (Exhausts Dedups) FromUnreach

  sweeps_sound : KeepsSound (Rounds SweepsOnce)
  sweeps_sound = rounds_sound SweepsOnce sweep_sound

  round_sound : KeepsSound (Round pruning)
  round_sound = in_turn_sound (Exhausts Clamps) FromDedup (exhausts_sound Clamps clamp_keeps_sound)
      (in_turn_sound (Exhausts Dedups) FromUnreach (exhausts_sound Dedups dedup_keeps_sound)
      (in_turn_sound (Exhausts Unreaches) FromFold (exhausts_sound Unreaches unreach_keeps_sound)
      (in_turn_sound (Exhausts Folds) FromCoalesce (exhausts_sound Folds fold_keeps_sound)
      (in_turn_sound (Rounds SweepsOnce) Last sweeps_sound (turn_when_sound pruning (Exhausts Prunes) (exhausts_sound Prunes prune_sound))))))

  round_one : HasOneEnd (Round pruning)
  round_one = in_turn_one (Exhausts Clamps) FromDedup (exhausts_sound Clamps clamp_keeps_sound) (λ old a b sound. clamped_one old a b)
      (in_turn_one (Exhausts Dedups) FromUnreach (exhausts_sound Dedups dedup_keeps_sound) (λ old a b sound. deduped_one old a b)
      (in_turn_one (Exhausts Unreaches) FromFold (exhausts_sound Unreaches unreach_keeps_sound) (λ old a b sound. unreached_one old a b)
      (in_turn_one (Exhausts Folds) FromCoalesce (exhausts_sound Folds fold_keeps_sound) (λ old a b sound. folded_one old a b)
      (in_turn_one (Rounds SweepsOnce) Last sweeps_sound (rounds_one SweepsOnce sweep_sound (λ old a b sound. sweep_one)) (turn_when_one pruning (Exhausts Prunes) (λ old a b sound. pruned_one old a b sound))))))

pub one_graph : (b : Plan) → IsWhole b → (marks : List Pos) (keep : Keep) (g h : Nodes) → Compiled b marks keep g → Compiled b marks keep h → g ≡ h
one_graph b whole marks keep g h c d =
    rounds_one (Round (prunes keep)) (round_sound (prunes keep)) (round_one (prunes keep)) (raw b marks) g h (raw_sound b whole marks) c.rounds d.rounds
