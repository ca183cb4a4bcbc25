-- A run that was written is one of the world.
use Rattle.std.proofs.Common.{◌≡◌, ℕ, List, [], ap, subst, ◌∙◌, Option}
use Rattle.circuit.specs.declared.Pos.{Pos}
use Rattle.rp_io.specs.Causes.{appended, WrotePrefix}
use Rattle.circuit.specs.Circuit.{State}
use Rattle.circuit.specs.Taken.{EachActTaken}
use Rattle.build.specs.Plan.{Plan}
use Rattle.report.specs.Trailers.{world_trailer}
use Rattle.power_rules.specs.World.{world_circuit}
use Rattle.world_engine.specs.Running.{Running}
use Rattle.script.specs.Acts.{Meaning}
use Rattle.script.specs.Clickable.{takes_click, is_wire_at}
use Rattle.script.specs.Fit.{IsFit}
use Rattle.player.specs.Moments.{world_text}
use Rattle.player.specs.Played.{header_of, WroteRun, WroteRunPrefix}
use Rattle.player.specs.AnyRun.{WroteText, WroteTextPrefix}
use Rattle.player.proofs.Going.{plain_text}
use Rattle.player.proofs.Scripts.{acts_taken}

module _ (build : Plan) (script : Meaning) (before now : Option (List ℕ)) where
  -- the text of a run of this world, under this header, or a prefix of one
  abbrev Whole : Plan → List Pos → List ℕ → ℕ → ℕ → State Pos → Type 0
  Whole plan marks header spent spent_after last =
      WroteText (world_circuit plan marks) (λ p. 0) (λ fires. []) header script.acts (λ count. world_trailer) (λ count. Unit {0}) before now spent spent_after last

  abbrev Part : Plan → List Pos → List ℕ → ℕ → ℕ → Type 0
  Part plan marks header spent spent_after = WroteTextPrefix (world_circuit plan marks) (λ p. 0) (λ fires. []) header script.acts (λ count. world_trailer) before now spent spent_after

  whole_run : (spent spent_after : ℕ) (last : State Pos) → Whole build script.marks (header_of build script.marks) spent spent_after last → WroteRun build script before now
  unfolding world_text
  whole_run spent spent_after last text = record {
    views = text.runs.views;
    shown = (text.runs.events, record { order = text.runs.order; last = last; plays = text.runs.plays; count = text.runs.count });
    wrote = text.wrote ∙ ap (appended before) (plain_text (header_of build script.marks) script.acts text.runs.order text.runs.views last world_trailer text.runs.plays);
  }

  part_run : (spent spent_after : ℕ) → Part build script.marks (header_of build script.marks) spent spent_after → WroteRunPrefix build script before now
  unfolding world_text
  part_run spent spent_after text = record {
    views = text.views;
    shown = (text.events, record { order = text.order; last = text.last; plays = text.plays; count = text.count });
    wrote = subst (λ (bytes : List ℕ). WrotePrefix before now bytes) (plain_text (header_of build script.marks) script.acts text.order text.views text.last world_trailer text.plays) text.wrote;
  }

  module _ (world : Running) (header : List ℕ) (here : world.plan ≡ build) (marked : world.marks ≡ script.marks) (is_header : header ≡ header_of build script.marks) where
    pub run_of_world : (spent spent_after : ℕ) (last : State Pos) →
        WroteText (world_circuit world.plan world.marks) (λ p. 0) (λ fires. []) header script.acts (λ count. world_trailer) (λ count. Unit {0}) before now spent spent_after last → WroteRun build script before now
    run_of_world spent spent_after last text = whole_run spent spent_after last
        (subst (λ (bytes : List ℕ). Whole build script.marks bytes spent spent_after last) is_header
        (subst (λ (marks : List Pos). Whole build marks header spent spent_after last) marked
        (subst (λ (plan : Plan). Whole plan world.marks header spent spent_after last) here text)))

    pub part_of_world : (spent spent_after : ℕ) →
        WroteTextPrefix (world_circuit world.plan world.marks) (λ p. 0) (λ fires. []) header script.acts (λ count. world_trailer) before now spent spent_after → WroteRunPrefix build script before now
    part_of_world spent spent_after text = part_run spent spent_after
        (subst (λ (bytes : List ℕ). Part build script.marks bytes spent spent_after) is_header
        (subst (λ (marks : List Pos). Part build marks header spent spent_after) marked
        (subst (λ (plan : Plan). Part plan world.marks header spent spent_after) here text)))

-- the clicks of a script are taken in the world of its build
pub script_taken : (build : Plan) (script : Meaning) (marks : List Pos) → IsFit (takes_click build) (is_wire_at build) script → EachActTaken (world_circuit build marks) script.acts
script_taken build script marks fit = acts_taken build marks script.acts fit.clicks
