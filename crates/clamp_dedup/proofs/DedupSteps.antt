-- Going over the links of a node, with the least weights of those that are still to come.
use Rattle.std.proofs.Common.{◌≡◌, ◌≢◌, ℕ, zero, suc, ◌+◌, ◌-◌, ◌*◌, ◌<◌, ◌≤◌, true, false, take, List, [], ◌∷◌, Option, Some, None, refl, sym, ap, ◌∙◌, subst, arith, set, length, get_or, ◌⊎◌, inl, inr}
use Rattle.std.specs.Prelude.{remove, slice_get, min, nat_lt, IsSome}
use Rattle.std.specs.List.{list_any}
use Rattle.std.proofs.lemmas.Bool.{cases_eq, cases_Bool, eq-eqb, ltb-true, ltb-false, false≢true}
use Rattle.std.proofs.lemmas.List.{get_or-set_other, get_or-set_same, length-set}
use Rattle.graph.specs.declared.Group.{Group}
use Rattle.graph.specs.declared.Group.TheVariants.{Back, Side}
use Rattle.graph.specs.declared.Link.{Link}
use Rattle.graph.specs.Items.{keys_of}
use Rattle.graph.specs.Graph.{Node, Nodes, node_at, Lives, HasLink}
use Rattle.graph.specs.Edits.{drop_link}
use Rattle.graph.specs.Sound.{IsSound}
use Rattle.graph.specs.LinkAt.{links_of}
use Rattle.graph.specs.Links.{is_group}
use Rattle.graph.specs.Steps.{Dedups}
use Rattle.graph.proofs.LinkSteps.{has_link, within_links, beyond_links, slice_get-before, slice_get-behind}
use Rattle.graph.proofs.LinkDrops.{left_was_there}
use Rattle.pass_frame.specs.Frame.{IsDone}
use Rattle.pass_frame.proofs.Sweeps.{index_of_key}
use Rattle.clamp_dedup.specs.Single.{is_beside, AreSingle, IsSingle}
use Rattle.clamp_dedup.specs.Weights.{group_number, slot_of, weight_in, lesser, IsEmpty, HasSlots, HasSlotsFor, HoldsLeast}
use Rattle.clamp_dedup.proofs.NonePasses.{none_passes}

-- a slot belongs to one source and one group
pub slot-apart : (a b : Link) → slot_of a ≡ slot_of b → (a.from ≡ b.from) × (a.group ≡ b.group)
slot-apart a b e = by_groups a.group b.group e
  where
    by_groups : (g h : Group) → 2 * a.from + group_number g ≡ 2 * b.from + group_number h → (a.from ≡ b.from) × (g ≡ h)
    by_groups Back Back e = (omega arith, refl)
    by_groups Side Side e = (omega arith, refl)
    by_groups Back Side e = absurd (omega arith)
    by_groups Side Back e = absurd (omega arith)

-- what a slot holds after a write
weight_in-same : (slots : List (Option ℕ)) (slot : ℕ) (entry : Option ℕ) → slot < length slots → weight_in (set slots slot entry) slot ≡ entry
weight_in-same slots slot entry h = get_or-set_same slots slot entry None h

weight_in-other : (slots : List (Option ℕ)) (slot other : ℕ) (entry : Option ℕ) → other ≢ slot → weight_in (set slots slot entry) other ≡ weight_in slots other
weight_in-other slots slot other entry n = get_or-set_other slots slot other entry None n

-- The first links are noted.
pub record Noted (links : List Link) (count : ℕ) (slots : List (Option ℕ)) : Type 0 where
  pub least : (index : ℕ) (link : Link) → index < count → slice_get links index ≡ Some link → (weight : ℕ) × (weight_in slots (slot_of link) ≡ Some weight) × (weight ≤ link.weight)
  pub found : (slot weight : ℕ) → weight_in slots slot ≡ Some weight → (index : ℕ) × (link : Link) × (slice_get links index ≡ Some link) × (slot_of link ≡ slot) × (link.weight ≡ weight)

pub none_noted : (links : List Link) (slots : List (Option ℕ)) → IsEmpty slots → Noted links 0 slots
none_noted links slots empty = record {
  least = λ index link h e. absurd (omega arith);
  found = λ slot weight e. let bad : None ≡ Some weight = sym (empty slot) ∙ e in absurd (cc);
}

pub one_noted : (links : List Link) (count : ℕ) (slots : List (Option ℕ)) (link : Link) → Noted links count slots → slice_get links count ≡ Some link → slot_of link < length slots →
    Noted links (count + 1) (set slots (slot_of link) (lesser (weight_in slots (slot_of link)) link.weight))
one_noted links count slots link noted here room = by_entry (weight_in slots (slot_of link)) refl
  where
    by_entry : (entry : Option ℕ) → weight_in slots (slot_of link) ≡ entry → Noted links (count + 1) (set slots (slot_of link) (lesser entry link.weight))
    by_entry None was = record {
      least = λ index other h e. elim (cases_eq (slot_of other) (slot_of link)) [
        | inl same ↦ elim (cases_eq index count) [
          | inl now ↦
              (let both : Some other ≡ Some link = sym e ∙ ap (slice_get links) now ∙ here in
              let is : other ≡ link = cc in (
                link.weight,
                ap (weight_in (set slots (slot_of link) (Some link.weight))) same ∙ weight_in-same slots (slot_of link) (Some link.weight) room,
                omega (arith, ap (λ (l : Link). l.weight) is),
              ))
          | inr n ↦
              (let had = noted.least index other (omega arith) e in
              let bad : None ≡ Some had.0 = sym was ∙ ap (weight_in slots) (sym same) ∙ had.1 in absurd (cc))
        ]
        | inr n ↦ (let had = noted.least index other (earlier index other e n h) e in (had.0, weight_in-other slots (slot_of link) (slot_of other) (Some link.weight) n ∙ had.1, had.2))
      ];
      found = λ slot weight e. elim (cases_eq slot (slot_of link)) [
        | inl same ↦
            (let both : Some link.weight ≡ Some weight = sym (weight_in-same slots (slot_of link) (Some link.weight) room) ∙ ap (weight_in (set slots (slot_of link) (Some link.weight))) (sym same) ∙ e in
            (count, link, here, sym same, cc))
        | inr n ↦ noted.found slot weight (sym (weight_in-other slots (slot_of link) slot (Some link.weight) n) ∙ e)
      ];
    }
      where
        earlier : (index : ℕ) (other : Link) → slice_get links index ≡ Some other → slot_of other ≢ slot_of link → index < count + 1 → index < count
        earlier index other e n h = elim (cases_eq index count) [
          | inl now ↦ (let both : Some other ≡ Some link = sym e ∙ ap (slice_get links) now ∙ here in let is : other ≡ link = cc in absurd (n (ap slot_of is)))
          | inr d ↦ omega arith
        ]
    by_entry (Some old) was = record {
      least = λ index other h e. elim (cases_eq (slot_of other) (slot_of link)) [
        | inl same ↦ (
          min old link.weight,
          ap (weight_in (set slots (slot_of link) (Some (min old link.weight)))) same ∙ weight_in-same slots (slot_of link) (Some (min old link.weight)) room,
          below index other h e same,
        )
        | inr n ↦ (let had = noted.least index other (earlier index other e n h) e in (had.0, weight_in-other slots (slot_of link) (slot_of other) (Some (min old link.weight)) n ∙ had.1, had.2))
      ];
      found = λ slot weight e. elim (cases_eq slot (slot_of link)) [
        | inl same ↦
            (let both : Some (min old link.weight) ≡ Some weight =
            sym (weight_in-same slots (slot_of link) (Some (min old link.weight)) room) ∙ ap (weight_in (set slots (slot_of link) (Some (min old link.weight)))) (sym same) ∙ e in
            let is : min old link.weight ≡ weight = cc in
            either slot weight same is)
        | inr n ↦ noted.found slot weight (sym (weight_in-other slots (slot_of link) slot (Some (min old link.weight)) n) ∙ e)
      ];
    }
      where
        earlier : (index : ℕ) (other : Link) → slice_get links index ≡ Some other → slot_of other ≢ slot_of link → index < count + 1 → index < count
        earlier index other e n h = elim (cases_eq index count) [
          | inl now ↦ (let both : Some other ≡ Some link = sym e ∙ ap (slice_get links) now ∙ here in let is : other ≡ link = cc in absurd (n (ap slot_of is)))
          | inr d ↦ omega arith
        ]

        below : (index : ℕ) (other : Link) → index < count + 1 → slice_get links index ≡ Some other → slot_of other ≡ slot_of link → min old link.weight ≤ other.weight
        below index other h e same = elim (cases_eq index count) [
          | inl now ↦ (let both : Some other ≡ Some link = sym e ∙ ap (slice_get links) now ∙ here in let is : other ≡ link = cc in omega (arith, ap (λ (l : Link). l.weight) is))
          | inr d ↦
              (let had = noted.least index other (omega arith) e in
              let both : Some had.0 ≡ Some old = sym had.1 ∙ ap (weight_in slots) same ∙ was in
              let is : had.0 ≡ old = cc in omega (arith, is, had.2))
        ]

        either : (slot weight : ℕ) → slot ≡ slot_of link → min old link.weight ≡ weight → (index : ℕ) × (l : Link) × (slice_get links index ≡ Some l) × (slot_of l ≡ slot) × (l.weight ≡ weight)
        either slot weight same is = elim (cases_eq (min old link.weight) old) [
          | inl low ↦ (let had = noted.found (slot_of link) old was in (had.0, had.1, had.2, had.3 ∙ sym same, omega (arith, had.4, low, is)))
          | inr n ↦ (count, link, here, sym same, omega arith)
        ]

pub all_noted : (links : List Link) (count : ℕ) (slots : List (Option ℕ)) → Noted links count slots → length links ≤ count → HoldsLeast links slots
all_noted links count slots noted end = record { least = λ index link e. noted.least index link (omega (arith, within_links links index link e)) e; found = noted.found }

-- The links before the index stay, and come from different sources or groups. A slot holds the least weight of its links from the index on, one of which
-- weighs so much, until the first such link was reached. Then it holds nothing, and that link stands before the index.
pub record Rest (links : List Link) (index : ℕ) (slots : List (Option ℕ)) : Type 0 where
  pub ahead : (slot weight : ℕ) → weight_in slots slot ≡ Some weight → (i : ℕ) × (link : Link) × (index ≤ i) × (slice_get links i ≡ Some link) × (slot_of link ≡ slot) × (link.weight ≡ weight)
  pub least : (i : ℕ) (link : Link) (weight : ℕ) → index ≤ i → slice_get links i ≡ Some link → weight_in slots (slot_of link) ≡ Some weight → weight ≤ link.weight
  pub behind : (i : ℕ) (link : Link) → index ≤ i → slice_get links i ≡ Some link → weight_in slots (slot_of link) ≡ None →
      (j : ℕ) × (kept : Link) × (j < index) × (slice_get links j ≡ Some kept) × (slot_of kept ≡ slot_of link) × (kept.weight ≤ link.weight)
  pub taken : (j : ℕ) (kept : Link) → j < index → slice_get links j ≡ Some kept → weight_in slots (slot_of kept) ≡ None
  pub apart : (i j : ℕ) (a b : Link) → i < j → j < index → slice_get links i ≡ Some a → slice_get links j ≡ Some b → slot_of a ≢ slot_of b
  pub room : HasSlotsFor slots links

pub rest_begins : (links : List Link) (slots : List (Option ℕ)) → HoldsLeast links slots → HasSlotsFor slots links → Rest links 0 slots
rest_begins links slots holds room = record {
  ahead = λ slot weight e. let f = holds.found slot weight e in (f.0, f.1, omega arith, f.2, f.3, f.4);
  least = λ i link weight h e w.
      let l = holds.least i link e in
      let both : Some l.0 ≡ Some weight = sym l.1 ∙ w in
      let is : l.0 ≡ weight = cc in omega (arith, is, l.2);
  behind = λ i link h e none. let l = holds.least i link e in let bad : None ≡ Some l.0 = sym none ∙ l.1 in absurd (cc);
  taken = λ j kept h e. absurd (omega arith);
  apart = λ i j a b h less e f. absurd (omega arith);
  room = room;
}

-- The first link of the least weight stays.
pub rest_keeps : (links : List Link) (index : ℕ) (slots : List (Option ℕ)) (link : Link) → Rest links index slots → slice_get links index ≡ Some link → weight_in slots (slot_of link) ≡ Some link.weight →
    Rest links (index + 1) (set slots (slot_of link) None)
rest_keeps links index slots link rest here is = record {
  ahead = λ slot weight e. elim (cases_eq slot (slot_of link)) [
    | inl same ↦ (let bad : None ≡ Some weight = sym now_none ∙ ap (weight_in after) (sym same) ∙ e in absurd (cc))
    | inr n ↦ (let f = rest.ahead slot weight (sym (stays slot n) ∙ e) in (f.0, f.1, later f.0 f.1 slot f.2 f.3 f.4 n, f.3, f.4, f.5))
  ];
  least = λ i other weight h e w. elim (cases_eq (slot_of other) (slot_of link)) [
    | inl same ↦ (let bad : None ≡ Some weight = sym now_none ∙ ap (weight_in after) (sym same) ∙ w in absurd (cc))
    | inr n ↦ rest.least i other weight (omega arith) e (sym (stays (slot_of other) n) ∙ w)
  ];
  behind = λ i other h e none. elim (cases_eq (slot_of other) (slot_of link)) [
    | inl same ↦ (index, link, omega arith, here, sym same, rest.least i other link.weight (omega arith) e (ap (weight_in slots) same ∙ is))
    | inr n ↦ (let b = rest.behind i other (omega arith) e (sym (stays (slot_of other) n) ∙ none) in (b.0, b.1, omega (arith, b.2), b.3, b.4, b.5))
  ];
  taken = λ j kept h e. elim (cases_eq (slot_of kept) (slot_of link)) [
    | inl same ↦ ap (weight_in after) same ∙ now_none
    | inr n ↦ stays (slot_of kept) n ∙ rest.taken j kept (before j kept e n h) e
  ];
  apart = λ i j a b less h e f. elim (cases_eq j index) [
    | inl now ↦ (λ same.
        let both : Some b ≡ Some link = sym f ∙ ap (slice_get links) now ∙ here in
        let b_is : b ≡ link = cc in
        let bad : None ≡ Some link.weight = sym (rest.taken i a (omega arith) e) ∙ ap (weight_in slots) (same ∙ ap slot_of b_is) ∙ is in absurd (cc))
    | inr n ↦ rest.apart i j a b less (omega arith) e f
  ];
  room = λ i other e. subst (λ n. slot_of other < n) (sym (length-set slots (slot_of link) None)) (rest.room i other e);
}
  where
    after : List (Option ℕ)
    after = set slots (slot_of link) None

    now_none : weight_in after (slot_of link) ≡ None
    now_none = weight_in-same slots (slot_of link) None (rest.room index link here)

    stays : (slot : ℕ) → slot ≢ slot_of link → weight_in after slot ≡ weight_in slots slot
    stays slot n = weight_in-other slots (slot_of link) slot None n

    later : (i : ℕ) (other : Link) (slot : ℕ) → index ≤ i → slice_get links i ≡ Some other → slot_of other ≡ slot → slot ≢ slot_of link → index + 1 ≤ i
    later i other slot h e s n = elim (cases_eq i index) [
      | inl now ↦ (let both : Some other ≡ Some link = sym e ∙ ap (slice_get links) now ∙ here in let o : other ≡ link = cc in absurd (n (sym s ∙ ap slot_of o)))
      | inr d ↦ omega arith
    ]

    before : (j : ℕ) (kept : Link) → slice_get links j ≡ Some kept → slot_of kept ≢ slot_of link → j < index + 1 → j < index
    before j kept e n h = elim (cases_eq j index) [
      | inl now ↦ (let both : Some kept ≡ Some link = sym e ∙ ap (slice_get links) now ∙ here in let o : kept ≡ link = cc in absurd (n (ap slot_of o)))
      | inr d ↦ omega arith
    ]

-- Another link goes: one beside it is lighter, or as light and stands before it.
pub record HasBetter (links : List Link) (index : ℕ) (link : Link) : Type 0 where
  pub other : ℕ
  pub better : Link
  pub at_index : slice_get links other ≡ Some better
  pub slot : slot_of better ≡ slot_of link
  pub worse : (better.weight < link.weight) ⊎ ((better.weight ≡ link.weight) × (other < index))

pub rest_better : (links : List Link) (index : ℕ) (slots : List (Option ℕ)) (link : Link) → Rest links index slots → slice_get links index ≡ Some link → weight_in slots (slot_of link) ≢ Some link.weight →
    HasBetter links index link
rest_better links index slots link rest here n = by_entry (weight_in slots (slot_of link)) refl
  where
    order : (a b : ℕ) → a ≤ b → (a < b) ⊎ (a ≡ b)
    order a b h = elim (cases_eq a b) [ inl e ↦ inr e | inr d ↦ inl (omega arith) ]

    by_entry : (entry : Option ℕ) → weight_in slots (slot_of link) ≡ entry → HasBetter links index link
    by_entry None none =
        let b = rest.behind index link (omega arith) here none in
        record { other = b.0; better = b.1; at_index = b.3; slot = b.4; worse = elim (order b.1.weight link.weight b.5) [ inl less ↦ inl less | inr e ↦ inr (e, b.2) ] }
    by_entry (Some weight) some =
        let a = rest.ahead (slot_of link) weight some in
        let low = rest.least index link weight (omega arith) here some in
        let differ : weight ≢ link.weight = λ e. n (some ∙ ap (λ (w : ℕ). Some w) e) in
        record { other = a.0; better = a.1; at_index = a.3; slot = a.4; worse = inl (omega (arith, a.5, low, differ)) }

pub rest_drops : (links : List Link) (index : ℕ) (slots : List (Option ℕ)) (link : Link) → Rest links index slots → slice_get links index ≡ Some link → weight_in slots (slot_of link) ≢ Some link.weight →
    Rest (remove links index) index slots
rest_drops links index slots link rest here n = record {
  ahead = λ slot weight e.
      let f = rest.ahead slot weight e in
      let later : index < f.0 = after f.0 f.1 slot weight f.2 f.3 f.4 f.5 e in
      (f.0 - 1, f.1, omega (arith, later), slice_get-behind links index (f.0 - 1) (omega (arith, later)) ∙ ap (slice_get links) (omega (arith, later)) ∙ f.3, f.4, f.5);
  least = λ i other weight h e w. rest.least (suc i) other weight (omega arith) (sym (slice_get-behind links index i h) ∙ e) w;
  behind = λ i other h e none.
      let b = rest.behind (suc i) other (omega arith) (sym (slice_get-behind links index i h) ∙ e) none in
      (b.0, b.1, b.2, slice_get-before links index b.0 b.2 ∙ b.3, b.4, b.5);
  taken = λ j kept h e. rest.taken j kept h (sym (slice_get-before links index j h) ∙ e);
  apart = λ i j a b less h e f. rest.apart i j a b less h (sym (slice_get-before links index i (omega arith)) ∙ e) (sym (slice_get-before links index j h) ∙ f);
  room = λ i other e. let was = left_was_there links index i other e in rest.room was.0 other was.1;
}
  where
    after : (i : ℕ) (other : Link) (slot weight : ℕ) → index ≤ i → slice_get links i ≡ Some other → slot_of other ≡ slot → other.weight ≡ weight → weight_in slots slot ≡ Some weight → index < i
    after i other slot weight h e s w held = elim (cases_eq i index) [
      | inl now ↦
          (let both : Some other ≡ Some link = sym e ∙ ap (slice_get links) now ∙ here in
          let o : other ≡ link = cc in
          absurd (n (ap (weight_in slots) (sym (ap slot_of o)) ∙ ap (weight_in slots) s ∙ held ∙ ap (λ (x : ℕ). Some x) (sym w ∙ ap (λ (l : Link). l.weight) o))))
      | inr d ↦ omega arith
    ]

-- At the end nothing is noted any more, and no two links are left of one source and group.
pub rest_empty : (links : List Link) (index : ℕ) (slots : List (Option ℕ)) → Rest links index slots → slice_get links index ≡ None → IsEmpty slots
rest_empty links index slots rest end slot = by_entry (weight_in slots slot) refl
  where
    by_entry : (entry : Option ℕ) → weight_in slots slot ≡ entry → weight_in slots slot ≡ None
    by_entry None e = e
    by_entry (Some weight) e =
        let a = rest.ahead slot weight e in
        absurd (omega (arith, a.2, within_links links a.0 a.1 a.3, beyond_links links index end))

pub rest_single : (links : List Link) (index : ℕ) (slots : List (Option ℕ)) → Rest links index slots → slice_get links index ≡ None →
    (i j : ℕ) (a b : Link) → slice_get links i ≡ Some a → slice_get links j ≡ Some b → a.from ≡ b.from → a.group ≡ b.group → i ≡ j
rest_single links index slots rest end i j a b e f from group =
    let within_i : i < index = omega (arith, within_links links i a e, beyond_links links index end) in
    let within_j : j < index = omega (arith, within_links links j b f, beyond_links links index end) in
    let same : slot_of a ≡ slot_of b = λ k. 2 * from k + group_number (group k) in
    elim (cases_eq i j) [
      | inl is ↦ is
      | inr n ↦ elim (order i j n) [
        | inl less ↦ absurd (rest.apart i j a b less within_j e f same)
        | inr less ↦ absurd (rest.apart j i b a less within_i f e (sym same))
      ]
    ]
  where
    order : (i j : ℕ) → i ≢ j → (i < j) ⊎ (j < i)
    order i j n = elim (cases_Bool (nat_lt i j)) [ inl h ↦ inl (ltb-true i j h) | inr h ↦ (let le = ltb-false i j h in inr (omega arith)) ]

-- Of the first links no two come from one source in one group.
abbrev pub SingleBelow : List Link → ℕ → Type 0
SingleBelow links count = (i j : ℕ) (a b : Link) → i < count → j < count → slice_get links i ≡ Some a → slice_get links j ≡ Some b → a.from ≡ b.from → a.group ≡ b.group → i ≡ j

slice_get-take : (links : List Link) (count index : ℕ) → index < count → slice_get (take count links) index ≡ slice_get links index
slice_get-take links zero index h = absurd (omega arith)
slice_get-take [] (suc count) index h = refl
slice_get-take (l ∷ links) (suc count) zero h = refl
slice_get-take (l ∷ links) (suc count) (suc index) h = slice_get-take links count index (omega arith)

pub single_next : (links : List Link) (count : ℕ) (link : Link) → SingleBelow links count → slice_get links count ≡ Some link → list_any (is_beside link) (take count links) ≡ false → SingleBelow links (count + 1)
single_next links count link before here none i j a b h k e f from group = elim (cases_eq i count) [
  | inl i_now ↦ elim (cases_eq j count) [
    | inl j_now ↦ i_now ∙ sym j_now
    | inr m ↦ absurd (differ a b j (same i a e i_now) (omega arith) f from group)
  ]
  | inr n ↦ elim (cases_eq j count) [
    | inl j_now ↦ absurd (differ b a i (same j b f j_now) (omega arith) e (sym from) (sym group))
    | inr m ↦ before i j a b (omega arith) (omega arith) e f from group
  ]
]
  where
    same : (index : ℕ) (one : Link) → slice_get links index ≡ Some one → index ≡ count → link ≡ one
    same index one at now = let both : Some link ≡ Some one = sym here ∙ ap (slice_get links) (sym now) ∙ at in cc

    same_group : (group : Group) → is_group group group ≡ true
    same_group Back = refl
    same_group Side = refl

    differ : (one other : Link) (index : ℕ) → link ≡ one → index < count → slice_get links index ≡ Some other → one.from ≡ other.from → one.group ≡ other.group → ⊥
    differ one other index is h at source groups =
        false≢true (sym (none_passes (is_beside link) (take count links) index other none (slice_get-take links count index h ∙ at))
        ∙ rw (eq-eqb link.from other.from (ap (λ (l : Link). l.from) is ∙ source)) (subst (λ g. is_group link.group g ≡ true) (ap (λ (l : Link). l.group) is ∙ groups) (same_group link.group)))

pub single_all : (links : List Link) (count : ℕ) → SingleBelow links count → length links ≤ count → AreSingle links
single_all links count below end i j a b e f = below i j a b (omega (arith, within_links links i a e)) (omega (arith, within_links links j b f)) e f

-- When Dedup has nothing more to do.
pub dedups_done : (g : Nodes) → ((key : ℕ) (node : Node) → node_at g key ≡ Some node → IsSingle (Some node)) → IsDone Dedups g
dedups_done g h new step =
    let both : Some step.beside.node ≡ Some step.linked.node = sym step.beside.there ∙ step.linked.there in
    let same : step.beside.node ≡ step.linked.node = cc in
    let beside : slice_get step.linked.node.links step.other ≡ Some step.better = subst (λ (node : Node). slice_get node.links step.other ≡ Some step.better) same step.beside.at_index in
    let one : step.index ≡ step.other = h step.key step.linked.node step.linked.there step.index step.other step.link step.better step.linked.at_index beside step.from step.group in
    elim step.worse [
      | inl less ↦
          (let links : Some step.link ≡ Some step.better = sym step.linked.at_index ∙ ap (slice_get step.linked.node.links) one ∙ beside in
          let is : step.link ≡ step.better = cc in
          let weight : step.link.weight ≡ step.better.weight = ap (λ (link : Link). link.weight) is in absurd (omega arith))
      | inr equal ↦ (let earlier = equal.1 in absurd (omega arith))
    ]

-- there is a slot for each link into a node of a sound graph
pub slots_for_all : (g : Nodes) (keys : List ℕ) (slots : List (Option ℕ)) → keys ≡ keys_of g → HasSlots slots keys → (k : ℕ) → Lives g k → 2 * k + 1 < length slots
slots_for_all g keys slots e room k lives = by_entry (node_at g k) refl lives
  where
    by_entry : (entry : Option Node) → node_at g k ≡ entry → IsSome entry → 2 * k + 1 < length slots
    by_entry None there h = absurd (false≢true h)
    by_entry (Some node) there h =
        let i = index_of_key g k node there in
        let inside : i.0 < length keys = omega (arith, i.1, ap (λ ks. length ks) e) in
        let here : get_or keys i.0 0 ≡ k = ap (λ ks. get_or ks i.0 0) e ∙ i.2 in
        subst (λ n. 2 * n + 1 < length slots) here (room i.0 inside)

pub slots_for_links : (g : Nodes) (key : ℕ) (slots : List (Option ℕ)) → IsSound g → ((k : ℕ) → Lives g k → 2 * k + 1 < length slots) → HasSlotsFor slots (links_of (node_at g key))
slots_for_links g key slots sound room index link e =
    let h = has_link g key index link e in
    let lives : Lives g link.from = ((sound.each key h.node h.there).links index link h.at_index).1 in
    omega (arith, room link.from lives, number_le link.group)
  where
    number_le : (group : Group) → group_number group ≤ 1
    number_le Back = omega arith
    number_le Side = omega arith

-- a link that was read at its index
pub link_read : (links : List Link) (index : ℕ) (link : Link) → index < length links → link ≡ get_or links index link → slice_get links index ≡ Some link
link_read links index link h e = at_default links index link h ∙ ap (λ (l : Link). Some l) (sym e)
  where
    at_default : (links : List Link) (index : ℕ) (d : Link) → index < length links → slice_get links index ≡ Some (get_or links index d)
    at_default [] index d h = absurd (omega arith)
    at_default (l ∷ links) zero d h = refl
    at_default (l ∷ links) (suc index) d h = at_default links index d (omega arith)

-- the step that drops the link
pub dedup_step : (old new : Nodes) (key index : ℕ) (links : List Link) (slots : List (Option ℕ)) (link : Link) → ((i : ℕ) (one : Link) → slice_get links i ≡ Some one → HasLink old key i one) →
    Rest links index slots → slice_get links index ≡ Some link → weight_in slots (slot_of link) ≢ Some link.weight → new ≡ drop_link old key index → Dedups old new
dedup_step old new key index links slots link has rest here n e =
    let b = rest_better links index slots link rest here n in
    let same = slot-apart b.better link b.slot in
    record {
      key = key;
      index = index;
      other = b.other;
      link = link;
      better = b.better;
      linked = has index link here;
      beside = has b.other b.better b.at_index;
      from = sym same.0;
      group = sym same.1;
      worse = b.worse;
      after = e;
    }
