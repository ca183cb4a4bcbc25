-- What the commands of the compiler write.
use Rattle.std.proofs.Common.{◌≡◌, ℕ, ◌+◌, ◌≤◌, Ok, Err, Bool, true, false, List, [], ◌∷◌, ◌++◌, map, Option, refl, sym, ap, subst, ◌∙◌}
use Rattle.std.specs.List.{flat_map}
use Rattle.std.proofs.lemmas.Grind.{flat_map-append}
use Rattle.circuit.specs.declared.Act.{Act}
use Rattle.circuit.specs.declared.Step.{Step}
use Rattle.circuit.specs.Circuit.{State, start, view}
use Rattle.circuit.specs.Shows.{Run, Ended, Clicked, Ticked, Plays, steps_of}
use Rattle.circuit.specs.Taken.{EachActTaken}
use Rattle.rp_io.specs.Causes.{Rose, Wrote, WrotePrefix}
use Rattle.rp_io.proofs.Written.{prefix_more}
use Rattle.build.specs.Plan.{Plan, IsWhole}
use Rattle.build.specs.Outputs.{outputs}
use Rattle.graph.specs.Graph.{Nodes}
use Rattle.graph.specs.GraphCircuit.{graph_circuit}
use Rattle.report.specs.declared.Cause.TheVariants.{Start, Tick}
use Rattle.report.specs.declared.Counts.{Counts}
use Rattle.report.specs.BenchText.{bench_text}
use Rattle.report.specs.FireLine.{fire_line}
use Rattle.report.specs.Header.{header}
use Rattle.report.specs.RunLines.{step_lines, run_lines}
use Rattle.report.specs.Trailers.{run_trailer}
use Rattle.report.specs.ViewLine.{view_line, cause_of}
use Rattle.script.specs.Acts.{Meaning}
use Rattle.script.specs.Clickable.{takes_click, is_wire_at}
use Rattle.script.specs.Fit.{IsFit}
use Rattle.generator.specs.Made.{made_build, made_script}
use Rattle.compiler.specs.declared.Keep.{Keep}
use Rattle.compiler.specs.declared.Keep.TheVariants.{Prune, All}
use Rattle.compiler.specs.Compiled.{Compiled}
use Rattle.compiler.specs.PlaceOrder.{expand, places_under}
use Rattle.compiler.proofs.CompiledLaws.{compiled_shows, compiled_takes}
use Rattle.compiler.proofs.PlacedLaws.{compiled_in_places}
use Rattle.player.specs.declared.PlayRefusal.TheVariants.{WriteFault}
use Rattle.player.specs.Ending.{EndsWriting}
use Rattle.player.specs.Noted.{node_lines}
use Rattle.player.specs.Played.{ShowsCounted, graph_run_text, last_view}
use Rattle.player.proofs.GraphRuns.{some_run}
use Rattle.player.proofs.Scripts.{acts_taken}
use Rattle.redpile_top.specs.declared.form.NodeChoice.{NodeChoice}
use Rattle.redpile_top.specs.declared.form.NodeChoice.TheVariants.{Pruned, Kept, KeptInOrder}
use Rattle.redpile_top.specs.Written.{front_of, keep_of, is_ordered, ordered_text, RunsCompiled, RunsInOrder, WroteBehind, WroteBehindPrefix, WroteRunOf, WroteRunPrefixOf, HasSummary}

-- ---- how a call ends

module _ {T : Type 0} (Did : T → Type 0) (Began Untouched : Type 0) (faults_before faults_now : ℕ) where
  -- all was written
  pub ended_whole : (x : T) → Did x → faults_before ≤ faults_now → EndsWriting Did Began Untouched faults_before faults_now (Ok x)
  ended_whole x did later = record { done = did; front = λ e. absurd (cc); fault = λ e. absurd (cc); nothing = λ e. absurd (cc); later = later }

  -- the sink failed
  pub ended_front : Began → Rose faults_before faults_now → faults_before ≤ faults_now → EndsWriting Did Began Untouched faults_before faults_now (Err WriteFault)
  ended_front began rose later = record { done = tt; front = λ e. began; fault = λ e. rose; nothing = λ e. absurd (cc); later = later }

-- a compiled graph takes the clicks of a script that fits its build
pub graph_takes : (b : Plan) → IsWhole b → (script : Meaning) (keep : Keep) (g : Nodes) → Compiled b script.marks keep g → IsFit (takes_click b) (is_wire_at b) script → EachActTaken (graph_circuit g) script.acts
graph_takes b whole script keep g compiled fit = compiled_takes b whole script.marks keep g compiled script.acts (acts_taken b script.marks script.acts fit.clicks)

-- what a compiled graph shows, the world shows
pub runs_compiled : (b : Plan) → IsWhole b → (script : Meaning) (keep : Keep) (g : Nodes) → Compiled b script.marks keep g → (views : List (List ℕ)) (counts : Counts) → ShowsCounted g script.acts views counts →
    RunsCompiled keep b script g views counts
runs_compiled b whole script keep g compiled views counts run =
    record { compiled = compiled; run = run; shown = compiled_shows b whole script.marks keep g compiled script.acts views counts.events run.shown }

-- ---- the fire lines of nodes are those of their places

fired_lines : (g : Nodes) (keys : List ℕ) → flat_map (node_lines g) keys ≡ flat_map fire_line (expand g keys)
fired_lines g [] = refl
fired_lines g (key ∷ keys) = ap (λ (l : List ℕ). node_lines g key ++ l) (fired_lines g keys) ∙ sym (flat_map-append fire_line (places_under g key) (expand g keys))

ordered_steps : (g : Nodes) {s last : State ℕ} {steps : List Step} {order : List (List ℕ)} {views : List (List ℕ)} (time : ℕ) → Run (graph_circuit g) s steps order views last →
    step_lines (flat_map (node_lines g)) time steps order views ≡ step_lines (flat_map fire_line) time steps (map (expand g) order) views
ordered_steps g time Ended = refl
ordered_steps g time (Clicked {next} {pos} {click} clicks run) = ap (λ (lines : List ℕ). view_line time (cause_of click) (view (graph_circuit g) next) ++ lines) (ordered_steps g time run)
ordered_steps g time (Ticked {next} {fires} {steps} {order} {views} tick run) =
    ap (λ (fired : List ℕ). fired ++ (view_line (time + 1) Tick (view (graph_circuit g) next) ++ step_lines (flat_map (node_lines g)) (time + 1) steps order views)) (fired_lines g fires)
    ∙ ap (λ (lines : List ℕ). flat_map fire_line (expand g fires) ++ (view_line (time + 1) Tick (view (graph_circuit g) next) ++ lines)) (ordered_steps g (time + 1) run)

ordered_lines : (g : Nodes) (acts : List Act) (order views : List (List ℕ)) (last : State ℕ) → Plays (graph_circuit g) acts order views last →
    run_lines (flat_map (node_lines g)) (steps_of acts) order views ≡ run_lines (flat_map fire_line) (steps_of acts) (map (expand g) order) views
ordered_lines g acts order views last plays =
    ap (λ (some : List (List ℕ)). run_lines (flat_map (node_lines g)) (steps_of acts) order some) plays.at_start
    ∙ ap (λ (lines : List ℕ). view_line 0 Start (view (graph_circuit g) (start (graph_circuit g))) ++ lines) (ordered_steps g 0 plays.run)
    ∙ ap (λ (some : List (List ℕ)). run_lines (flat_map fire_line) (steps_of acts) (map (expand g) order) some) (sym plays.at_start)

-- ---- a run behind a front

-- the front stands whole, and of the run nothing yet
pub began_front : (front : List ℕ) (in_order : Bool) (g : Nodes) (head : List ℕ) (acts : List Act) (before now : Option (List ℕ)) → EachActTaken (graph_circuit g) acts → WrotePrefix before now front → WroteBehindPrefix front in_order g head acts before now
began_front front in_order g head acts before now taken wrote =
    let some = some_run g acts taken in
    record {
      views = some.views;
      counts = some.counts;
      run = some.run;
      wrote = prefix_more before now front (graph_run_text in_order g head acts some.run.shown.order some.views some.counts) wrote;
    }

module _ (with_graph : Bool) (b : Plan) (whole : IsWhole b) (script : Meaning) (g : Nodes) (front head : List ℕ) (is_front : front ≡ front_of with_graph g) (is_header : head ≡ header (outputs b script.marks)) (before now : Option (List ℕ)) where
  -- the texts with the front and the header that they are
  here : (in_order : Bool) (order views : List (List ℕ)) (counts : Counts) →
      front ++ graph_run_text in_order g head script.acts order views counts ≡ front_of with_graph g ++ graph_run_text in_order g (header (outputs b script.marks)) script.acts order views counts
  here in_order order views counts =
      ap (λ (bytes : List ℕ). bytes ++ graph_run_text in_order g head script.acts order views counts) is_front
      ∙ ap (λ (bytes : List ℕ). front_of with_graph g ++ graph_run_text in_order g bytes script.acts order views counts) is_header

  runs_in_order : Compiled b script.marks All g → (views : List (List ℕ)) (counts : Counts) (run : ShowsCounted g script.acts views counts) → RunsInOrder b script g (map (expand g) run.shown.order) views counts
  runs_in_order compiled views counts run =
      let placed = (compiled_in_places b whole script.marks g compiled).plays script.acts run.shown.order views run.shown.last run.shown.plays in
      record {
        runs = record { compiled = compiled; run = run; shown = compiled_shows b whole script.marks All g compiled script.acts views counts.events run.shown };
        fired = refl;
        replays = (placed.0, placed.1);
      }

  in_places : (views : List (List ℕ)) (counts : Counts) (run : ShowsCounted g script.acts views counts) →
      front ++ graph_run_text true g head script.acts run.shown.order views counts ≡ ordered_text with_graph b script g (map (expand g) run.shown.order) views counts
  in_places views counts run =
      here true run.shown.order views counts
      ∙ ap (λ (lines : List ℕ). front_of with_graph g ++ (header (outputs b script.marks) ++ (lines ++ run_trailer counts))) (ordered_lines g script.acts run.shown.order views run.shown.last run.shown.plays)

  pub wrote_run : (nodes : NodeChoice) → Compiled b script.marks (keep_of nodes) g → WroteBehind front (is_ordered nodes) g head script.acts before now → WroteRunOf nodes with_graph b script before now
  wrote_run Pruned compiled done = record {
    graph = g;
    views = done.views;
    counts = done.counts;
    runs = runs_compiled b whole script Prune g compiled done.views done.counts done.run;
    wrote = subst (λ (bytes : List ℕ). Wrote before now bytes) (here false done.run.shown.order done.views done.counts) done.wrote;
  }
  wrote_run Kept compiled done = record {
    graph = g;
    views = done.views;
    counts = done.counts;
    runs = runs_compiled b whole script All g compiled done.views done.counts done.run;
    wrote = subst (λ (bytes : List ℕ). Wrote before now bytes) (here false done.run.shown.order done.views done.counts) done.wrote;
  }
  wrote_run KeptInOrder compiled done = record {
    graph = g;
    order = map (expand g) done.run.shown.order;
    views = done.views;
    counts = done.counts;
    runs = runs_in_order compiled done.views done.counts done.run;
    wrote = subst (λ (bytes : List ℕ). Wrote before now bytes) (in_places done.views done.counts done.run) done.wrote;
  }

  pub began_run : (nodes : NodeChoice) → Compiled b script.marks (keep_of nodes) g → WroteBehindPrefix front (is_ordered nodes) g head script.acts before now → WroteRunPrefixOf nodes with_graph b script before now
  began_run Pruned compiled part = record {
    graph = g;
    views = part.views;
    counts = part.counts;
    runs = runs_compiled b whole script Prune g compiled part.views part.counts part.run;
    wrote = subst (λ (bytes : List ℕ). WrotePrefix before now bytes) (here false part.run.shown.order part.views part.counts) part.wrote;
  }
  began_run Kept compiled part = record {
    graph = g;
    views = part.views;
    counts = part.counts;
    runs = runs_compiled b whole script All g compiled part.views part.counts part.run;
    wrote = subst (λ (bytes : List ℕ). WrotePrefix before now bytes) (here false part.run.shown.order part.views part.counts) part.wrote;
  }
  began_run KeptInOrder compiled part = record {
    graph = g;
    order = map (expand g) part.run.shown.order;
    views = part.views;
    counts = part.counts;
    runs = runs_in_order compiled part.views part.counts part.run;
    wrote = subst (λ (bytes : List ℕ). WrotePrefix before now bytes) (in_places part.views part.counts part.run) part.wrote;
  }

-- the summary of a made build
pub summary_of : (units : ℕ) (b : Plan) (script : Meaning) → b ≡ made_build units → script ≡ made_script units → IsWhole b → (g : Nodes) → Compiled b script.marks Prune g → (views : List (List ℕ)) (counts : Counts) → ShowsCounted g script.acts views counts →
    (bytes : List ℕ) → bytes ≡ bench_text units (outputs b script.marks) (last_view views) counts → HasSummary units bytes
summary_of units b script is_build is_script whole g compiled views counts run bytes is = record {
  graph = g;
  views = views;
  counts = counts;
  runs = subst (λ (made : Meaning). RunsCompiled Prune (made_build units) made g views counts) is_script
      (subst (λ (plan : Plan). RunsCompiled Prune plan script g views counts) is_build (runs_compiled b whole script Prune g compiled views counts run));
  is = is ∙ ap (λ (plan : Plan). bench_text units (outputs plan script.marks) (last_view views) counts) is_build
      ∙ ap (λ (made : Meaning). bench_text units (outputs (made_build units) made.marks) (last_view views) counts) is_script;
}
