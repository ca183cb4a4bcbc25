-- What a refusal tells of the files that were read.
use Rattle.std.proofs.Common.{◌≡◌, ◌≤◌, ◌<◌, List, ℕ, length, Option, Some, None, Result, Err, refl, sym, ap, subst, ◌∙◌}
use Rattle.circuit.specs.declared.Pos.{Pos}
use Rattle.build.specs.Plan.{Plan}
use Rattle.schematic.specs.File.{Refusal, file, IsFirstRefusal, Refuses as RefusesBuild}
use Rattle.script.specs.declared.ScriptRefusal.{ScriptRefusal}
use Rattle.script.specs.declared.ScriptRefusal.TheVariants.{Line, NoMemory as NoMemoryOfScript}
use Rattle.script.specs.Acts.{Meaning}
use Rattle.script.specs.Scripts.{script_of, Refuses}
use Rattle.report.specs.declared.Fault.{Fault}
use Rattle.report.specs.declared.GraphRefusal.{GraphRefusal}
use Rattle.report.specs.declared.OrderKind.{OrderKind}
use Rattle.graph.specs.Graph.{Nodes}
use Rattle.graph_file.specs.GraphFile.{IsGraphFile, RefusesBytes}
use Rattle.world_order.specs.BadLine.{IsBadLine}
use Rattle.world_order.specs.OrderText.{IsOrder}
use Rattle.world_order.specs.declared.OrderRefusal.{OrderRefusal}
use Rattle.world_order.specs.declared.OrderRefusal.TheVariants.{At, NoMemory as NoMemoryOfOrder}
use Rattle.redpile_top.specs.Files.{IsBuild, IsGraph, OnTold, Tests, tests_of}
use Rattle.redpile_top.specs.Ends.{Accepted, BuildCause, GraphCause, ScriptCause, CheckFaults, Ends, ButForWrites, OnWriteFault, IsBuildOf, fault_of_order}

pub build_told : (b : Option (List ℕ)) (read : List ℕ) (told : Option Refusal) → ((bytes : List ℕ) → b ≡ Some bytes → read ≡ bytes) → ((bytes : List ℕ) → b ≡ Some bytes → length bytes ≤ 67108864) →
    RefusesBuild read told → BuildCause b told
build_told b read None same within h = tt
build_told b read (Some r) same within h = λ bytes is. (within bytes is, subst (λ (bs : List ℕ). IsFirstRefusal bs r) (same bytes is) h)

pub script_told : {T : Type 0} (IsGood : T → Type 0) (tests : T → Tests) (s : Option (List ℕ)) (target : T) (read : List ℕ) (refusal : ScriptRefusal) → IsGood target → ((bytes : List ℕ) → s ≡ Some bytes → read ≡ bytes) →
    ((bytes : List ℕ) → s ≡ Some bytes → length bytes ≤ 1048576) → Refuses (script_of (tests target).takes (tests target).wire read) refusal → ScriptCause IsGood tests s refusal
script_told IsGood tests s target read (Line line kind) good same within h =
    record {
      target = target;
      good = good;
      holds = λ bytes is. (within bytes is, subst (λ (bs : List ℕ). script_of (tests target).takes (tests target).wire bs ≡ Err (Line line kind)) (same bytes is) h);
    }
script_told IsGood tests s target read NoMemoryOfScript good same within h = tt

pub graph_told : (g : Option (List ℕ)) (read : List ℕ) (refusal : GraphRefusal) → ((bytes : List ℕ) → g ≡ Some bytes → read ≡ bytes) → ((bytes : List ℕ) → g ≡ Some bytes → length bytes ≤ 268435456) → RefusesBytes read refusal → GraphCause g refusal
graph_told g read refusal same within h = λ bytes is. (within bytes is, subst (λ (bs : List ℕ). RefusesBytes bs refusal) (same bytes is) h)

same_file : (name : List ℕ) (now old : List ℕ → Option (List ℕ)) (bytes : List ℕ) → now ≡ old → old name ≡ Some bytes → now name ≡ Some bytes
same_file name now old bytes e h = ap (λ (f : List ℕ → Option (List ℕ)). f name) e ∙ h

-- what was read of a file whose bytes other reads didn't change
pub read_later : (name : List ℕ) (now old : List ℕ → Option (List ℕ)) (read : List ℕ) → now ≡ old → ((bytes : List ℕ) → now name ≡ Some bytes → read ≡ bytes) → (bytes : List ℕ) → old name ≡ Some bytes → read ≡ bytes
read_later name now old read e h bytes is = h bytes (same_file name now old bytes e is)

pub longer_later : (name : List ℕ) (now old : List ℕ → Option (List ℕ)) (limit : ℕ) → now ≡ old → ((bytes : List ℕ) → now name ≡ Some bytes → limit < length bytes) → (bytes : List ℕ) → old name ≡ Some bytes → limit < length bytes
longer_later name now old limit e h bytes is = h bytes (same_file name now old bytes e is)

pub within_read : (told : Option (List ℕ)) (read : List ℕ) (limit : ℕ) → length read ≤ limit → ((bytes : List ℕ) → told ≡ Some bytes → read ≡ bytes) → (bytes : List ℕ) → told ≡ Some bytes → length bytes ≤ limit
within_read told read limit h same bytes is = subst (λ (bs : List ℕ). length bs ≤ limit) (same bytes is) h

pub good_build : (b : Option (List ℕ)) (read : List ℕ) (build : Plan) → ((bytes : List ℕ) → b ≡ Some bytes → read ≡ bytes) → length read ≤ 67108864 → file read build → OnTold b (IsBuild build)
good_build b read build same within is = λ bytes told.
    record {
      within = subst (λ (bs : List ℕ). length bs ≤ 67108864) (same bytes told) within;
      is = subst (λ (bs : List ℕ). file bs build) (same bytes told) is;
    }

pub good_graph : (g : Option (List ℕ)) (read : List ℕ) (graph : Nodes) → ((bytes : List ℕ) → g ≡ Some bytes → read ≡ bytes) → length read ≤ 268435456 → IsGraphFile read graph → OnTold g (IsGraph graph)
good_graph g read graph same within is = λ bytes told.
    record {
      within = subst (λ (bs : List ℕ). length bs ≤ 268435456) (same bytes told) within;
      is = subst (λ (bs : List ℕ). IsGraphFile bs graph) (same bytes told) is;
    }

abbrev refused : {T : Type 0} → OrderRefusal → Result T OrderRefusal
refused refusal = Err refusal

-- a refusal of an order is a fault with its cause
order_told : {T : Type 0} (b s o : Option (List ℕ)) (reading writing : Type 0) (build : Plan) (script : Meaning) → Accepted (IsBuildOf b) tests_of s build script → (read : List ℕ) →
    ((bytes : List ℕ) → o ≡ Some bytes → read ≡ bytes) → ((bytes : List ℕ) → o ≡ Some bytes → length bytes ≤ 268435456) → (refusal : OrderRefusal) →
    ((line tick : ℕ) (kind : OrderKind) → refused {T = T} refusal ≡ Err (At line tick kind) → IsBadLine build script read line tick kind) →
    ((line tick : ℕ) (kind : OrderKind) → refused {T = T} refusal ≡ Err (At line tick kind) → (order : List (List Pos)) → IsOrder build script read order → ⊥) →
    CheckFaults b s o reading writing (fault_of_order refusal)
order_told b s o reading writing build script accepted read same within (At line tick kind) bad none =
    record {
      build = build;
      script = script;
      accepted = accepted;
      holds = λ bytes is. record {
        within = within bytes is;
        bad = subst (λ (bs : List ℕ). IsBadLine build script bs line tick kind) (same bytes is) (bad line tick kind refl);
        none = λ order. subst (λ (bs : List ℕ). IsOrder build script bs order → ⊥) (same bytes is) (none line tick kind refl order);
      };
    }
order_told b s o reading writing build script accepted read same within NoMemoryOfOrder bad none = tt

order_nothing : (refusal : OrderRefusal) (P : Type 0) → P → ButForWrites (Err (fault_of_order refusal)) P
order_nothing (At line tick kind) P p = p
order_nothing NoMemoryOfOrder P p = p

order_front : (refusal : OrderRefusal) (P : Type 0) → OnWriteFault (Err (fault_of_order refusal)) P
order_front (At line tick kind) P = tt
order_front NoMemoryOfOrder P = tt

-- so a refused order ends a call, with its sink untouched
pub order_ends : {T : Type 0} (b s o : Option (List ℕ)) (reading writing untouched did began : Type 0) (build : Plan) (script : Meaning) → Accepted (IsBuildOf b) tests_of s build script → (read : List ℕ) →
    ((bytes : List ℕ) → o ≡ Some bytes → read ≡ bytes) → ((bytes : List ℕ) → o ≡ Some bytes → length bytes ≤ 268435456) → (refusal : OrderRefusal) →
    ((line tick : ℕ) (kind : OrderKind) → refused {T = T} refusal ≡ Err (At line tick kind) → IsBadLine build script read line tick kind) →
    ((line tick : ℕ) (kind : OrderKind) → refused {T = T} refusal ≡ Err (At line tick kind) → (order : List (List Pos)) → IsOrder build script read order → ⊥) →
    untouched → (fault : Fault) → fault ≡ fault_of_order refusal → Ends (CheckFaults b s o reading writing) untouched did began (Err fault)
order_ends b s o reading writing untouched did began build script accepted read same within refusal bad none u fault is =
    subst (λ (f : Fault). Ends (CheckFaults b s o reading writing) untouched did began (Err f)) (sym is)
    (record {
      done = tt;
      front = order_front refusal began;
      caused = order_told b s o reading writing build script accepted read same within refusal bad none;
      nothing = order_nothing refusal untouched u;
    })
