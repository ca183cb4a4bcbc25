-- How the writing of a run of a graph goes on.
use Rattle.std.proofs.Common.{◌≡◌, ℕ, zero, suc, ◌+◌, ◌≤◌, Bool, true, false, IsTrue, List, [], ◌∷◌, ◌++◌, length, refl, sym, ap, subst, ◌∙◌, arith, Option}
use Rattle.std.specs.List.{flat_map}
use Rattle.std.proofs.lemmas.List.Sums.{sum_by-cons}
use Rattle.circuit.specs.declared.Act.{Act}
use Rattle.circuit.specs.declared.Act.TheVariants.{Click as ClickAct, Ticks as TicksAct}
use Rattle.circuit.specs.declared.Step.{Step}
use Rattle.circuit.specs.declared.Step.TheVariants.{Click as ClickAt, Tick as OneTick}
use Rattle.circuit.specs.Circuit.{State, start, view}
use Rattle.circuit.specs.Shows.{clicks_in, fires_in, steps_of, ticks}
use Rattle.circuit.specs.Taken.{EachActTaken}
use Rattle.circuit.proofs.Runs.{run_exists, taken-steps_of}
use Rattle.rp_io.specs.Causes.{appended, WrotePrefix}
use Rattle.graph.specs.Graph.{Nodes, node_count, link_count}
use Rattle.graph.specs.GraphCircuit.{graph_circuit}
use Rattle.graph.proofs.ListedSteps.{graph_is_listed}
use Rattle.graph_machine.specs.Outgoing.{reads_of}
use Rattle.report.specs.declared.Counts.{Counts}
use Rattle.report.specs.Trailers.{run_trailer}
use Rattle.script.specs.Acts.{ticks_of, ticks_in}
use Rattle.player.specs.Played.{StepTo, NotesStep, ShowsCounted, RanGraph, WroteGraphRun, WroteGraphRunPrefix, with_events}
use Rattle.player.specs.Noted.{fires_noted, node_lines}
use Rattle.player.specs.AnyRun.{StepsOn, RunsTo, WroteText, WroteTextPrefix, noted_of}
use Rattle.player.proofs.Going.{events_of, cost_of, last_of_plays, plain_text}

-- ---- how many steps there are

length-ticks : (n : ℕ) (steps : List Step) → length (ticks n steps) ≡ n + length steps
length-ticks zero steps = omega arith
length-ticks (suc n) steps = omega (arith, length-ticks n steps)

pub length-steps_of : (acts : List Act) → length (steps_of acts) ≤ length acts + ticks_in acts
length-steps_of [] = omega arith
length-steps_of (ClickAct place click ∷ acts) = omega (arith, length-steps_of acts, sum_by-cons ticks_of (ClickAct place click) acts)
length-steps_of (TicksAct n ∷ acts) = omega (arith, length-ticks n (steps_of acts), length-steps_of acts, sum_by-cons ticks_of (TicksAct n) acts)

-- ---- a step of the machine is a step of the circuit

module _ (g : Nodes) (noting : Bool) (s next : State ℕ) (e1 e2 r1 r2 : ℕ) (noted : List ℕ) where
  abbrev pub step_of : (step : Step) → NotesStep g noting step s next e1 e2 r1 r2 noted → StepTo (graph_circuit g) step s next
  step_of (ClickAt pos click) t = t.0.clicks
  step_of OneTick t = (t.0, t.1.ticks)

  step_events : (step : Step) (t : NotesStep g noting step s next e1 e2 r1 r2 noted) → e2 ≡ e1 + events_of (graph_circuit g) step s next (step_of step t)
  step_events (ClickAt pos click) t = t.1
  step_events OneTick t = t.1.events

  step_reads : (step : Step) (t : NotesStep g noting step s next e1 e2 r1 r2 noted) → r2 ≤ r1 + cost_of (graph_circuit g) (reads_of g) step s next (step_of step t)
  step_reads (ClickAt pos click) t = t.0.reads
  step_reads OneTick t = t.1.reads

-- what is noted of the step
step_notes : (noting : Bool) (g : Nodes) (step : Step) (s next : State ℕ) (e1 e2 r1 r2 : ℕ) (noted : List ℕ) (t : NotesStep g noting step s next e1 e2 r1 r2 noted) →
    fires_noted noting g noted ≡ noted_of (graph_circuit g) (fires_noted noting g) step s next (step_of g noting s next e1 e2 r1 r2 noted step t)
step_notes true g (ClickAt pos click) s next e1 e2 r1 r2 noted t = ap (flat_map (node_lines g)) t.2
step_notes false g (ClickAt pos click) s next e1 e2 r1 r2 noted t = refl
step_notes true g OneTick s next e1 e2 r1 r2 noted t = ap (flat_map (node_lines g)) (t.2 refl)
step_notes false g OneTick s next e1 e2 r1 r2 noted t = refl

pub steps_on : (g : Nodes) (noting : Bool) (step : Step) (s next : State ℕ) (e1 e2 r1 r2 : ℕ) (noted : List ℕ) → NotesStep g noting step s next e1 e2 r1 r2 noted →
    StepsOn (graph_circuit g) (reads_of g) (fires_noted noting g) step s next (λ count. count ≡ e1) (λ count. count ≡ e2) r1 r2 (fires_noted noting g noted)
steps_on g noting step s next e1 e2 r1 r2 noted t = record {
  to = step_of g noting s next e1 e2 r1 r2 noted step t;
  events = λ count right. ap (λ (n : ℕ). n + events_of (graph_circuit g) step s next (step_of g noting s next e1 e2 r1 r2 noted step t)) right ∙ sym (step_events g noting s next e1 e2 r1 r2 noted step t);
  reads = step_reads g noting s next e1 e2 r1 r2 noted step t;
  notes = step_notes noting g step s next e1 e2 r1 r2 noted t;
}

-- ---- a run that was written is one of the graph

module _ (g : Nodes) (counts : Counts) (acts : List Act) (nodes : counts.nodes ≡ node_count g) (links : counts.links ≡ link_count g) where
  abbrev end_of : ℕ → List ℕ
  end_of events = run_trailer (with_events counts events)

  pub ran : (events reads reads_after : ℕ) (last : State ℕ) (values : List ℕ) → values ≡ view (graph_circuit g) last →
      RunsTo (graph_circuit g) (reads_of g) acts (λ count. count ≡ events) reads reads_after last → RanGraph g acts (with_events counts events) values last reads reads_after
  ran events reads reads_after last values seen runs = subst (λ (count : ℕ). RanGraph g acts (with_events counts count) values last reads reads_after) runs.right (record {
    views = runs.views;
    run = record { shown = record { order = runs.order; last = last; plays = runs.plays; count = runs.count }; nodes = nodes; links = links };
    values = seen ∙ sym (last_of_plays runs.plays);
    ends = refl;
    reads = runs.spends;
  })

  pub whole_text : (noting : Bool) (header : List ℕ) (before now : Option (List ℕ)) (events reads reads_after : ℕ) (last : State ℕ) →
      WroteText (graph_circuit g) (reads_of g) (fires_noted noting g) header acts end_of (λ count. count ≡ events) before now reads reads_after last →
      WroteGraphRun noting g header acts (with_events counts events) before now reads reads_after
  whole_text true header before now events reads reads_after last text = subst (λ (count : ℕ). WroteGraphRun true g header acts (with_events counts count) before now reads reads_after) text.runs.right (record {
    views = text.runs.views;
    run = record { shown = record { order = text.runs.order; last = last; plays = text.runs.plays; count = text.runs.count }; nodes = nodes; links = links };
    wrote = text.wrote;
    reads = text.runs.spends;
  })
  whole_text false header before now events reads reads_after last text = subst (λ (count : ℕ). WroteGraphRun false g header acts (with_events counts count) before now reads reads_after) text.runs.right (record {
    views = text.runs.views;
    run = record { shown = record { order = text.runs.order; last = last; plays = text.runs.plays; count = text.runs.count }; nodes = nodes; links = links };
    wrote = text.wrote ∙ ap (appended before) (plain_text header acts text.runs.order text.runs.views last (end_of text.runs.events) text.runs.plays);
    reads = text.runs.spends;
  })

  pub part_text : (noting : Bool) (header : List ℕ) (before now : Option (List ℕ)) (reads reads_after : ℕ) →
      WroteTextPrefix (graph_circuit g) (reads_of g) (fires_noted noting g) header acts end_of before now reads reads_after → WroteGraphRunPrefix noting g header acts before now reads reads_after
  part_text true header before now reads reads_after text = record {
    views = text.views;
    counts = with_events counts text.events;
    run = record { shown = record { order = text.order; last = text.last; plays = text.plays; count = text.count }; nodes = nodes; links = links };
    wrote = text.wrote;
    reads = text.spends;
  }
  part_text false header before now reads reads_after text = record {
    views = text.views;
    counts = with_events counts text.events;
    run = record { shown = record { order = text.order; last = text.last; plays = text.plays; count = text.count }; nodes = nodes; links = links };
    wrote = subst (λ (bytes : List ℕ). WrotePrefix before now bytes) (plain_text header acts text.order text.views text.last (end_of text.events) text.plays) text.wrote;
    reads = text.spends;
  }

-- ---- some run

-- views of a run, with its counts
pub record SomeRun (g : Nodes) (acts : List Act) : Type 0 where
  pub views : List (List ℕ)
  pub counts : Counts
  pub run : ShowsCounted g acts views counts

-- a graph has a run by acts whose clicks it takes
pub some_run : (g : Nodes) (acts : List Act) → EachActTaken (graph_circuit g) acts → SomeRun g acts
some_run g acts taken =
    let run = run_exists (graph_is_listed g) (steps_of acts) (taken-steps_of (graph_circuit g) acts taken) (start (graph_circuit g)) in
    record {
      views = view (graph_circuit g) (start (graph_circuit g)) ∷ run.1;
      counts = record { nodes = node_count g; links = link_count g; events = clicks_in acts + fires_in run.0 };
      run = record {
        shown = record { order = run.0; last = run.2; plays = record { rest = run.1; at_start = refl; run = run.3 }; count = refl };
        nodes = refl;
        links = refl;
      };
    }
