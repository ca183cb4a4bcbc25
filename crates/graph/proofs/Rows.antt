-- Worked rows, computed.
use Rattle.std.proofs.Common.{◌≡◌, ◌⊎◌, ℕ, zero, suc, true, false, List, [], ◌∷◌, Option, Some, None, refl, sym, ap, ◌∙◌, subst, arith, lit≤, lit<, inl, inr}
use Rattle.std.specs.Prelude.{pos, codes, slice_get}
use Rattle.std.specs.Fmt.{digits}
use Rattle.circuit.specs.declared.Component.TheVariants.{Comparator as ComparatorPart}
use Rattle.circuit.specs.Circuit.{Circuit, State, set_value, later, fire_all, start, view}
use Rattle.graph.specs.declared.Kind.{Kind}
use Rattle.graph.specs.declared.Kind.TheVariants.{Lever, Torch, Repeater, Comparator, Lamp, Wire, Constant}
use Rattle.graph.specs.declared.Group.TheVariants.{Back, Side}
use Rattle.graph.specs.declared.Link.{Link}
use Rattle.graph.specs.Graph.{Node, Nodes, node_at, HasLink}
use Rattle.graph.specs.GraphCircuit.{graph_circuit}
use Rattle.graph.specs.GraphText.{graph_text}
use Rattle.graph.specs.Measure.{measure}
use Rattle.graph.specs.Steps.{Clamps, Dedups, Folds, Coalesces, Reaches, Itself, Along, can_go, Prunes}

abbrev lone : Kind → ℕ → ℕ → ℕ → List Link → Option Node
lone kind x y state links = Some (record { pos = record { x = pos x; y = pos y; z = pos 0 }; kind = kind; state = state; first = false; due = 0; priority = 0; links = links; also = [] })

abbrev back : ℕ → ℕ → Link
back from weight = record { from = from; group = Back; weight = weight }

-- a lever, and two wires that are looked at, one of them too far away
abbrev wire_length : Nodes
wire_length = lone Lever 0 1 0 [] ∷ lone Wire 15 1 0 (back 0 14 ∷ []) ∷ lone Wire 16 1 0 (back 0 15 ∷ []) ∷ []

wire_length-text : graph_text wire_length ≡ codes "graph 3 2\nnode 0 lever 0 1 0 0\nnode 1 wire 15 1 0 0\nnode 2 wire 16 1 0 0\nlink 0 1 back 14\nlink 0 2 back 15\n"
unfolding digits
wire_length-text = refl

wire_length-shows : view (graph_circuit wire_length) (set_value (graph_circuit wire_length) (start (graph_circuit wire_length)) 0 1) ≡ 1 ∷ 0 ∷ []
wire_length-shows = refl

clamped : Nodes
clamped = lone Lever 0 1 0 [] ∷ lone Wire 15 1 0 (back 0 14 ∷ []) ∷ lone Wire 16 1 0 [] ∷ []

wire_length-clamps : Clamps wire_length clamped
unfolding clamped
wire_length-clamps = record { key = 2; index = 0; link = back 0 15; linked = record { node = _; there = refl; at_index = refl }; heavy = lit≤ tt; after = refl }

measure-wire_length : measure wire_length ≡ 8
measure-wire_length = refl

-- a lever locks a repeater by its side
abbrev two_repeaters : Nodes
two_repeaters = lone Lever 0 0 1 [] ∷ lone (Repeater 2) 1 0 0 (back 0 3 ∷ []) ∷ lone (Repeater 1) 2 0 0 (back 1 0 ∷ record { from = 0; group = Side; weight = 2 } ∷ []) ∷ lone Lamp 3 0 0 (back 2 0 ∷ []) ∷ []

two_repeaters-text : graph_text two_repeaters ≡ codes "graph 4 4\nnode 0 lever 0 0 0 1\nnode 1 repeater 1 0 0 0 delay 2\nnode 2 repeater 2 0 0 0 delay 1\nnode 3 lamp 3 0 0 0\nlink 0 1 back 3\nlink 1 2 back 0\nlink 0 2 side 2\nlink 2 3 back 0\n"
unfolding digits
two_repeaters-text = refl

-- two torches on one lever, each with a lamp below it; the lamps are before the torches in the order of places
abbrev two_torches : Nodes
two_torches = lone Lamp 0 0 1 (back 2 0 ∷ []) ∷ lone Lamp 2 0 1 (back 3 0 ∷ []) ∷ lone Torch 0 1 1 (back 4 0 ∷ []) ∷ lone Torch 2 1 1 (back 4 0 ∷ []) ∷ lone Lever 1 2 0 [] ∷ []

abbrev twins : Circuit ℕ
twins = graph_circuit two_torches

abbrev tick_with : Circuit ℕ → State ℕ → List ℕ → State ℕ
tick_with C s keys = fire_all C (later s) keys

dark : view twins (tick_with twins (tick_with twins (tick_with twins (set_value twins (start twins) 4 1) (2 ∷ 3 ∷ [])) []) (0 ∷ 1 ∷ [])) ≡ 0 ∷ 0 ∷ []
dark = refl

-- a comparator at its goal, which reads only the strength of a block
abbrev reads_five : Nodes
reads_five = lone (Comparator false (Some 5) None) 1 0 5 [] ∷ lone Lamp 2 0 1 (back 0 0 ∷ []) ∷ []

folded_five : Nodes
folded_five = lone Constant 1 0 5 [] ∷ lone Lamp 2 0 1 (back 0 0 ∷ []) ∷ []

reads_five-folds : Folds reads_five folded_five
unfolding folded_five
reads_five-folds = record {
  key = 0;
  node = _;
  component = ComparatorPart false;
  there = refl;
  can = refl;
  role = refl;
  idle = refl;
  sources = λ index link e. absurd (cc);
  rests = inl refl;
  after = refl;
}

reads_five-text : graph_text reads_five ≡ codes "graph 2 1\nnode 0 comparator 1 0 0 5 compare direct 5\nnode 1 lamp 2 0 0 1\nlink 0 1 back 0\n"
unfolding digits
reads_five-text = refl

-- the later of two equal links goes
abbrev two_ways : Nodes
two_ways = lone Lever 0 0 0 [] ∷ lone Lamp 1 0 0 (back 0 2 ∷ back 0 2 ∷ []) ∷ []

one_way : Nodes
one_way = lone Lever 0 0 0 [] ∷ lone Lamp 1 0 0 (back 0 2 ∷ []) ∷ []

two_ways-dedups : Dedups two_ways one_way
unfolding one_way
two_ways-dedups = record {
  key = 1;
  index = 1;
  other = 0;
  link = back 0 2;
  better = back 0 2;
  linked = record { node = _; there = refl; at_index = refl };
  beside = record { node = _; there = refl; at_index = refl };
  from = refl;
  group = refl;
  worse = inr (refl, lit< tt);
  after = refl;
}

-- of the torches that always do the same the first takes the part of the second
one_torch : Nodes
one_torch = lone Lamp 0 0 1 (back 2 0 ∷ []) ∷ lone Lamp 2 0 1 (back 2 0 ∷ []) ∷ stands_for_two ∷ None ∷ lone Lever 1 2 0 [] ∷ []
  where
    stands_for_two : Option Node
    stands_for_two = Some (record {
      pos = record { x = pos 0; y = pos 1; z = pos 0 };
      kind = Torch;
      state = 1;
      first = false;
      due = 0;
      priority = 0;
      links = back 4 0 ∷ [];
      also = record { x = pos 2; y = pos 1; z = pos 0 } ∷ [];
    })

only_link : (one link : Link) (index : ℕ) → slice_get (one ∷ []) index ≡ Some link → one ≡ link
only_link one link zero at = cc
only_link one link (suc index) at = absurd (cc)

links_of : (node : Node) (links : List Link) (other : Node) (index : ℕ) (link : Link) → node.links ≡ links → Some node ≡ Some other → slice_get other.links index ≡ Some link → slice_get links index ≡ Some link
links_of node links other index link e there at = let same : node ≡ other = cc in ap (λ xs. slice_get xs index) (sym e ∙ ap (λ (n : Node). n.links) same) ∙ at

all_back : (key index : ℕ) (link : Link) → HasLink two_torches key index link → link.group ≡ Back
all_back zero index link has = ap (λ (l : Link). l.group) (sym (only_link (back 2 0) link index (links_of _ (back 2 0 ∷ []) has.node index link refl has.there has.at_index)))
all_back (suc zero) index link has = ap (λ (l : Link). l.group) (sym (only_link (back 3 0) link index (links_of _ (back 3 0 ∷ []) has.node index link refl has.there has.at_index)))
all_back (suc (suc zero)) index link has = ap (λ (l : Link). l.group) (sym (only_link (back 4 0) link index (links_of _ (back 4 0 ∷ []) has.node index link refl has.there has.at_index)))
all_back (suc (suc (suc zero))) index link has = ap (λ (l : Link). l.group) (sym (only_link (back 4 0) link index (links_of _ (back 4 0 ∷ []) has.node index link refl has.there has.at_index)))
all_back (suc (suc (suc (suc zero)))) index link has = (let no : slice_get [] index ≡ Some link = links_of _ [] has.node index link refl has.there has.at_index in absurd (cc))
all_back (suc (suc (suc (suc (suc key))))) index link has = (let no : None ≡ Some has.node = has.there in absurd (cc))

two_torches-coalesces : Coalesces two_torches one_torch
unfolding one_torch
two_torches-coalesces = record {
  keep = 2;
  gone = 3;
  earlier = lit< tt;
  twins = record {
    a = _;
    b = _;
    link_a = back 4 0;
    link_b = back 4 0;
    there_a = refl;
    there_b = refl;
    can = refl;
    kind = refl;
    first = refl;
    state = refl;
    due = refl;
    priority = refl;
    links_a = refl;
    links_b = refl;
    back_a = refl;
    back_b = refl;
    source = refl;
    not_a = λ e. absurd (cc);
    not_b = λ e. absurd (cc);
    light_a = lit< tt;
    light_b = lit< tt;
    alike = inl refl;
    one_group = λ key i j l m has_l has_m from_l from_m. all_back key i l has_l ∙ sym (all_back key j m has_m);
  };
  after = refl;
}

-- a clock of a repeater and a torch that nobody sees, beside a lever and a lamp
abbrev with_clock : Nodes
with_clock = lone (Repeater 1) 0 0 0 (back 1 0 ∷ []) ∷ lone Torch 1 0 1 (back 0 0 ∷ []) ∷ lone Lever 2 0 0 [] ∷ lone Lamp 3 0 0 (back 2 0 ∷ []) ∷ []

without_clock : Nodes
without_clock = None ∷ None ∷ lone Lever 2 0 0 [] ∷ lone Lamp 3 0 0 (back 2 0 ∷ []) ∷ []

-- the repeater reaches the torch and itself, and nothing else
in_clock : (key : ℕ) → Reaches with_clock 0 key → (key ≡ 0) ⊎ (key ≡ 1)
in_clock _ Itself = inl refl
in_clock _ (Along {key = zero} reaches has) = inl refl
in_clock _ (Along {key = suc zero} reaches has) = inr refl
in_clock _ (Along {key = suc (suc zero)} {index = index} {link = link} reaches has) =
    (let no : slice_get [] index ≡ Some link = links_of _ [] has.node index link refl has.there has.at_index in absurd (cc))
in_clock _ (Along {key = suc (suc (suc zero))} {index = index} {link = link} reaches has) =
    let from : 2 ≡ link.from = ap (λ (l : Link). l.from) (only_link (back 2 0) link index (links_of _ (back 2 0 ∷ []) has.node index link refl has.there has.at_index)) in
    elim (in_clock link.from reaches) [ inl e ↦ absurd (omega arith) | inr e ↦ absurd (omega arith) ]
in_clock _ (Along {key = suc (suc (suc (suc key)))} reaches has) = (let no : None ≡ Some has.node = has.there in absurd (cc))

kind_goes : (one node : Node) → can_go one.kind ≡ true → Some one ≡ Some node → can_go node.kind ≡ true
kind_goes one node goes same = let e : one ≡ node = cc in subst (λ (n : Node). can_go n.kind ≡ true) e goes

with_clock-prunes : Prunes with_clock without_clock
unfolding without_clock
with_clock-prunes = record {
  key = 0;
  keys = 0 ∷ 1 ∷ [];
  lives = refl;
  reached = λ key. (
    (λ among. elim among [
      | inl e ↦ subst (Reaches with_clock 0) (sym e) Itself
      | inr more ↦ elim more [
        | inl e ↦ subst (Reaches with_clock 0) (sym e) (Along {index = 0} {link = back 0 0} Itself (record { node = _; there = refl; at_index = refl }))
        | inr nothing ↦ absurd nothing
      ]
    ]),
    (λ reaches. elim (in_clock key reaches) [ inl e ↦ inl e | inr e ↦ inr (inl e) ]),
  );
  unseen = λ key node among there. elim among [
    | inl e ↦ kind_goes _ node refl (subst (λ k. node_at with_clock k ≡ Some node) e there)
    | inr more ↦ elim more [ inl e ↦ kind_goes _ node refl (subst (λ k. node_at with_clock k ≡ Some node) e there) | inr nothing ↦ absurd nothing ]
  ];
  after = refl;
}
