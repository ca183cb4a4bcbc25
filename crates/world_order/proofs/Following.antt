-- A text of an order goes on, behind what is written of a run, as a run goes on from there.
use Rattle.std.proofs.Common.{◌≡◌, ℕ, suc, ◌+◌, ◌<◌, ◌^◌, List, [], ◌∷◌, ◌++◌, length, Some, refl, sym, ◌∙◌, ap, ap₂, subst, arith}
use Rattle.std.specs.List.{flat_map}
use Rattle.std.specs.Prelude.{is_some}
use Rattle.std.proofs.lemmas.List.{append_assoc, append_cancel_left}
use Rattle.circuit.specs.declared.Click.{Click}
use Rattle.circuit.specs.declared.Component.{Component}
use Rattle.circuit.specs.declared.Pos.{Pos}
use Rattle.circuit.specs.declared.Step.{Step}
use Rattle.circuit.specs.Component.{clicked}
use Rattle.circuit.specs.Circuit.{Circuit, State, Clicks, Each, IsDue, later, fire, fire_all, set_value, view}
use Rattle.circuit.specs.Shows.{Run, Ended, Clicked, Ticked}
use Rattle.circuit.proofs.Keys.{each_as}
use Rattle.block_table.specs.declared.Block.{Block}
use Rattle.block_table.specs.declared.Block.TheVariants.{Air}
use Rattle.build.specs.Plan.{Plan, IsWhole, natural}
use Rattle.build.specs.Places.{IsInside, inside, in_box-not_outside}
use Rattle.build.specs.Marks.{is_marked}
use Rattle.build.specs.Roles.{role_at, role_of}
use Rattle.power_rules.specs.World.{world_circuit}
use Rattle.report.specs.declared.Cause.TheVariants.{Tick}
use Rattle.report.specs.FireLine.{fire_line}
use Rattle.report.specs.ViewLine.{view_line, cause_of}
use Rattle.world_order.specs.Begun.{Begins}
use Rattle.world_order.specs.OrderText.{steps_text}
use Rattle.world_order.specs.BadLine.{HasNumbers}
use Rattle.world_order.proofs.Texts.{same_fires, view_no_fire}

-- what has a component stands in the box, and has three small numbers
component_numbers : (b : Plan) → IsWhole b → (marks : List Pos) (p : Pos) (component : Component) → role_at b marks p ≡ Some component → HasNumbers p
unfolding role_at
component_numbers b w marks p component there =
    let i : IsInside b p = inside b p (in_box-not_outside b b.blocks Air (λ (k : Block). is_some (role_of (is_marked marks p) k)) p refl (ap is_some there)) in
    let x : natural p.x < b.width = i.x_below in
    let y : natural p.y < b.height = i.y_below in
    let z : natural p.z < b.depth = i.z_below in
    let wx : b.width < 65536 = w.narrow in
    let wy : b.height < 65536 = w.low in
    let wz : b.depth < 65536 = w.shallow in
    record {
      x = natural p.x;
      y = natural p.y;
      z = natural p.z;
      small_x = omega arith;
      small_y = omega arith;
      small_z = omega arith;
      is = λ j. record { x = sym i.x_is j; y = sym i.y_is j; z = sym i.z_is j };
    }

pub due_numbers : (b : Plan) → IsWhole b → (marks : List Pos) (s : State Pos) (keys : List Pos) → Each (IsDue (world_circuit b marks) s) keys → Each HasNumbers keys
due_numbers b w marks s keys due = each_as (IsDue (world_circuit b marks) s) HasNumbers (λ k d. component_numbers b w marks k d.component d.there) keys due

pub begun_numbers : (b : Plan) → IsWhole b → (marks : List Pos) (s : State Pos) (keys : List Pos) → Begins (world_circuit b marks) s keys → Each HasNumbers keys
begun_numbers b w marks s [] begun = tt
begun_numbers b w marks s (key ∷ keys) begun =
    (component_numbers b w marks key begun.0.due.component begun.0.due.there, begun_numbers b w marks (fire (world_circuit b marks) s key) keys begun.1)

-- ---- a run is determined

pub world_click : (b : Plan) (marks : List Pos) (place : Pos) (click : Click) (s t next after : State Pos) → s ≡ t → Clicks (world_circuit b marks) place click s next → Clicks (world_circuit b marks) place click t after → next ≡ after
world_click b marks place click s t next after same x y =
    let key : x.key ≡ y.key = x.place ∙ sym y.place in
    let both : Some x.component ≡ Some y.component = sym x.there ∙ ap (role_at b marks) key ∙ y.there in
    let component : x.component ≡ y.component = cc in
    let taken : Some x.value ≡ Some y.value = sym x.takes ∙ (λ i. clicked (component i) click ((same i).cells (key i)).value) ∙ y.takes in
    let value : x.value ≡ y.value = cc in
    x.after ∙ (λ i. set_value (world_circuit b marks) (same i) (key i) (value i)) ∙ sym y.after

pub time-fire_all : {K : Type 0} (C : Circuit K) (s : State K) (keys : List K) → (fire_all C s keys).time ≡ s.time
time-fire_all C s [] = refl
time-fire_all C s (key ∷ keys) = time-fire_all C (fire C s key) keys

-- ---- what follows

-- what is left of a run and of its text
pub record Follows (b : Plan) (marks : List Pos) (mid last : State Pos) (left : List Step) (order all : List (List Pos)) (A B : List ℕ) : Type 0 where
  pub more : List (List Pos)
  pub shows : List (List ℕ)
  pub run : Run (world_circuit b marks) mid left more shows last
  pub text : A ≡ steps_text mid.time left more shows ++ B
  pub lists : all ≡ order ++ more
  pub early : mid.time + length left < 2 ^ 63

pub follow : (b : Plan) → IsWhole b → (marks : List Pos) → {s mid : State Pos} {done : List Step} {order : List (List Pos)} {views : List (List ℕ)} → Run (world_circuit b marks) s done order views mid →
    {t last : State Pos} {left : List Step} {all : List (List Pos)} {shows : List (List ℕ)} → s ≡ t → Run (world_circuit b marks) t (done ++ left) all shows last →
    s.time + length (done ++ left) < 2 ^ 63 → (A B : List ℕ) → steps_text s.time done order views ++ A ≡ steps_text s.time (done ++ left) all shows ++ B →
    Follows b marks mid last left order all A B
follow b w marks Ended {last} {left} {all} {shows} same run early A B e =
    record { more = all; shows = shows; run = subst (λ x. Run (world_circuit b marks) x left all shows last) (sym same) run; text = e; lists = refl; early = early }
follow b w marks {s} (Clicked {next} {pos = place} {click} {steps = done} {order} {views} hit run) {t} {last} {left} same (Clicked {next = after} {order = all} {views = shows} other_hit other) early A B e =
    let alike : next ≡ after = world_click b marks place click s t next after same hit other_hit in
    let time : next.time ≡ s.time = ap (λ (x : State Pos). x.time) hit.after in
    let line : List ℕ = view_line s.time (cause_of click) (view (world_circuit b marks) next) in
    let there : line ≡ view_line s.time (cause_of click) (view (world_circuit b marks) after) = ap (λ x. view_line s.time (cause_of click) (view (world_circuit b marks) x)) alike in
    let rest = append_cancel_left line (steps_text s.time done order views ++ A) (steps_text s.time (done ++ left) all shows ++ B)
    (sym (append_assoc line (steps_text s.time done order views) A) ∙ e
    ∙ append_assoc (view_line s.time (cause_of click) (view (world_circuit b marks) after)) (steps_text s.time (done ++ left) all shows) B
    ∙ ap (λ l. l ++ (steps_text s.time (done ++ left) all shows ++ B)) (sym there)) in
    follow b w marks run {left = left} alike other (let x : s.time + suc (length (done ++ left)) < 2 ^ 63 = early in omega arith) A B
    (subst (λ n. steps_text n done order views ++ A ≡ steps_text n (done ++ left) all shows ++ B) (sym time) rest)
follow b w marks {s} (Ticked {next} {fires} {steps = done} {order} {views} tick run) {t} {last} {left} same (Ticked {next = after} {fires = others} {order = all} {views = shows} other_tick other) early A B e =
    let now : s.time + 1 < 2 ^ 64 = (let x : s.time + suc (length (done ++ left)) < 2 ^ 63 = early in omega arith) in
    let line : State Pos → List ℕ = λ x. view_line (s.time + 1) Tick (view (world_circuit b marks) x) in
    let S1 : List ℕ = steps_text (s.time + 1) done order views in
    let S2 : List ℕ = steps_text (s.time + 1) (done ++ left) all shows in
    let apart = same_fires fires others (due_numbers b w marks (later s) fires tick.order.due) (due_numbers b w marks (later t) others other_tick.order.due)
    (line next ++ (S1 ++ A)) (line after ++ (S2 ++ B))
    (view_no_fire (s.time + 1) Tick (view (world_circuit b marks) next) (S1 ++ A) now) (view_no_fire (s.time + 1) Tick (view (world_circuit b marks) after) (S2 ++ B) now)
    (ap (λ x. flat_map fire_line fires ++ x) (sym (append_assoc (line next) S1 A)) ∙ sym (append_assoc (flat_map fire_line fires) (line next ++ S1) A) ∙ e
    ∙ append_assoc (flat_map fire_line others) (line after ++ S2) B ∙ ap (λ x. flat_map fire_line others ++ x) (append_assoc (line after) S2 B)) in
    let fires_same : fires ≡ others = apart.0 in
    let alike : next ≡ after = tick.after ∙ (λ i. fire_all (world_circuit b marks) (later (same i)) (fires_same i)) ∙ sym other_tick.after in
    let time : next.time ≡ s.time + 1 = ap (λ (x : State Pos). x.time) tick.after ∙ time-fire_all (world_circuit b marks) (later s) fires in
    let rest = append_cancel_left (line next) (S1 ++ A) (S2 ++ B) (apart.1 ∙ ap (λ x. line x ++ (S2 ++ B)) (sym alike)) in
    let r = follow b w marks run {left = left} alike other (let x : s.time + suc (length (done ++ left)) < 2 ^ 63 = early in omega (arith, time)) A B
    (subst (λ n. steps_text n done order views ++ A ≡ steps_text n (done ++ left) all shows ++ B) (sym time) rest) in
    record { more = r.more; shows = r.shows; run = r.run; text = r.text; lists = ap₂ (λ one rest. one ∷ rest) (sym fires_same) r.lists; early = r.early }
