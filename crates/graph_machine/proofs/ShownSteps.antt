-- What is shown.
use Rattle.std.proofs.Common.{◌≡◌, ℕ, ◌<◌, ◌≤◌, All, List, length, get_or, map, Option, Some, None, sym, ap, ◌∙◌, subst, arith}
use Rattle.std.proofs.Math.Path.{fun_ext}
use Rattle.std.proofs.lemmas.List.{get_or-map, length-map, ext_get_or}
use Rattle.cell_queue.proofs.HeldSteps.{same_default}
use Rattle.circuit.specs.declared.Cell.{Cell}
use Rattle.circuit.specs.declared.Component.{Component}
use Rattle.circuit.specs.declared.Component.TheVariants.{Wire as WirePart, Comparator as ComparatorPart, Weighted as WeightedPart}
use Rattle.circuit.specs.declared.Readings.{Readings}
use Rattle.circuit.specs.Bounds.{BoundedAt, IsBounded}
use Rattle.circuit.specs.Circuit.{outs, seen_at, seen, view}
use Rattle.circuit.proofs.Bounded.{outs_le}
use Rattle.graph.specs.Graph.{node_at}
use Rattle.graph.specs.GraphCircuit.{role_at, graph_circuit}
use Rattle.graph.proofs.BoundSteps.{graph_is_bounded}
use Rattle.cell_queue.specs.Held.{Holding, cell_of}
use Rattle.graph_machine.specs.Wired.{Wired, given}
use Rattle.graph_machine.specs.Playing.{held_state, reads_in, IsPlaying}
use Rattle.graph_machine.specs.Shown.{seen_in}
use Rattle.graph_machine.specs.Screens.{Screened, AreFaced}

-- ---- what they show

seen_small : (role : Option Component) (reads : ℕ → Readings) (key : ℕ) (cell : Cell) → (reads key).back ≤ 15 → BoundedAt role cell → seen_at role reads key cell ≤ 15
seen_small None reads key cell h b = omega arith
seen_small (Some WirePart) reads key cell h b = h
seen_small (Some (ComparatorPart subtract)) reads key cell h b = b
seen_small (Some WeightedPart) reads key cell h b = b
seen_small (Some _) reads key cell h b = omega (arith, b)

module _ (w : Wired) (h : Holding) (playing : IsPlaying w h) where
  reads_are : reads_in w ≡ (graph_circuit w.nodes).readings (outs (graph_circuit w.nodes) (held_state h))
  reads_are = ap (graph_circuit w.nodes).readings (fun_ext playing.gives)

  pub seen_le : (key : ℕ) → seen_in w h key ≤ 15
  seen_le key = seen_small (role_at (node_at w.nodes key)) (reads_in w) key (cell_of h.cells key)
      (bounds.back (given w.outs) (λ k. subst (λ n. n ≤ 15) (sym (playing.gives k)) (outs_le (graph_circuit w.nodes) bounds (held_state h) playing.bounded k)) key) (playing.bounded.each key)
    where
      bounds : IsBounded (graph_circuit w.nodes)
      bounds = graph_is_bounded w.nodes playing.sound

  pub seen_is : (key : ℕ) → seen_in w h key ≡ seen (graph_circuit w.nodes) (held_state h) key
  seen_is key = ap (λ (r : ℕ → Readings). seen_at (role_at (node_at w.nodes key)) r key (cell_of h.cells key)) reads_are

  pub view_is : (shown : List ℕ) → shown ≡ (graph_circuit w.nodes).shown → map (seen_in w h) shown ≡ view (graph_circuit w.nodes) (held_state h)
  view_is shown keys = ap (λ (f : ℕ → ℕ). map f shown) (fun_ext seen_is) ∙ ap (map (seen (graph_circuit w.nodes) (held_state h))) keys

-- ---- what a screen shows

screen-map : (w : Wired) (h : Holding) (s : Screened) → length s.shown ≡ length s.keys → AreFaced w h.cells s → s.shown ≡ map (seen_in w h) s.keys
screen-map w h s whole faced = ext_get_or 0 s.shown (map (seen_in w h) s.keys) (whole ∙ sym (length-map s.keys (seen_in w h)))
    (λ i inside. let below : i < length s.keys = omega (arith, whole) in faced.each i below ∙ sym (get_or-map (seen_in w h) s.keys i 0 0 below))

module _ (w : Wired) (h : Holding) (playing : IsPlaying w h) (s : Screened) (keys : s.keys ≡ (graph_circuit w.nodes).shown) (whole : length s.shown ≡ length s.keys) (faced : AreFaced w h.cells s) where
  pub screen-view : s.shown ≡ view (graph_circuit w.nodes) (held_state h)
  screen-view = screen-map w h s whole faced ∙ view_is w h playing s.keys keys

  pub screen_small : All (λ value. value ≤ 15) s.shown
  screen_small k d inside =
      let below : k < length s.keys = omega (arith, whole) in
      subst (λ n. n ≤ 15) (same_default s.shown k 0 d inside) (subst (λ n. n ≤ 15) (sym (faced.each k below)) (seen_le w h playing (get_or s.keys k 0)))
