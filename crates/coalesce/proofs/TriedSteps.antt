-- Pairs that are tried one after another, and what is known of the graph meanwhile.
use Rattle.std.proofs.Common.{◌≡◌, ◌≢◌, ℕ, ◌+◌, ◌*◌, ◌<◌, ◌≤◌, Bool, true, false, ◌||◌, List, [], ◌∷◌, Option, Some, None, Ok, Err, Result, refl, sym, ap, ◌∙◌, subst, arith, length, map, get_or, inl, inr, ◌⊎◌}
use Rattle.std.specs.Prelude.{slice_get, ◌==◌, if◌then◌else◌, Vec}
use Rattle.std.specs.declared.alloc.Global.{Global}
use Rattle.std.specs.HashMap.{HashMap}
use Rattle.std.specs.BTreeSet.{BTreeSet, btree_set_len}
use Rattle.std.specs.Result.{IsErr}
use Rattle.std.proofs.lemmas.Bool.{cases_eq, ne_eqb, eq-eqb, lt-ltb}
use Rattle.std.proofs.lemmas.Nat.{mul-le}
use Rattle.node_arena.specs.Items.{keys_of}
use Rattle.rp_text.specs.declared.NoMemory.{NoMemory}
use Rattle.circuit.specs.Circuit.{Among}
use Rattle.graph.specs.declared.Group.TheVariants.{Back}
use Rattle.graph.specs.declared.Kind.{Kind}
use Rattle.graph.specs.declared.Link.{Link}
use Rattle.graph.specs.Graph.{Node, Nodes, node_at, HasLink}
use Rattle.graph.specs.Measure.{measure}
use Rattle.graph.specs.Edits.{renamed_link, merge}
use Rattle.graph.specs.Steps.{is_full_or_none, asks_for_any, can_fold, AreTwins, Coalesces}
use Rattle.pass_frame.specs.Frame.{Reaches, Stays, Goes, Ran, IsDone}
use Rattle.pass_frame.specs.Took.{Took}
use Rattle.pass_frame.proofs.FrameSteps.{went_reaches}
use Rattle.pass_frame.proofs.Sweeps.{took_then, took_reaches}
use Rattle.coalesce.specs.declared.looks.Look.{Look}
use Rattle.coalesce.specs.FanOuts.{targets_of, AreFanOuts, Keeps}
use Rattle.coalesce.specs.Looks.{counted_weight, look_by, look_in, look_at, members, KeepsMembers, IsGrouped}
use Rattle.coalesce.specs.MergedGraph.{at_gone, blind_at}
use Rattle.coalesce.specs.MergedSound.{was_there, IsLike, slice_get-map, measure_merged}
use Rattle.coalesce.specs.MergeKeeps.{twins_before, size_merged, first_of}
use Rattle.coalesce.specs.Pairs.{only_link, full_at}
use Rattle.coalesce.specs.Tried.{TriedPair, TriedTwins, IsKnown}
use Rattle.coalesce.specs.Waiting.{Waits, AreFew, TakesOut, TwinsWait, OthersWait}
use Rattle.coalesce.proofs.FanSteps.{among_at, each_more, key_listed, item_at}
use Rattle.coalesce.proofs.PairSteps.{only_is}

-- a light Back link that stands alone is the only one
pub only_one : (links : List Link) (link : Link) → links ≡ link ∷ [] → link.group ≡ Back → link.weight < 15 → only_link links ≡ Some link
only_one links link e b light = rw (e, b, lt-ltb link.weight 15 light) refl

look_by-here : (g : Nodes) (node : Node) (link : Link) → node.links ≡ link ∷ [] → link.group ≡ Back → link.weight < 15 → can_fold node.kind ≡ true →
    look_in g (Some node) ≡ Some (record { source = link.from; weight = counted_weight g node.kind link; kind = node.kind; state = node.state; first = node.first; due = node.due; priority = node.priority })
look_by-here g node link links back light can = ap (look_by g node) (only_one node.links link links back light) ∙ rw can refl

-- what the weights count for is the same
counted_alike : (g : Nodes) (kind other : Kind) (a b : Link) → kind ≡ other → b.from ≡ a.from →
    (a.weight ≡ b.weight) ⊎ ((asks_for_any kind ≡ true) × ((source : Node) × (node_at g a.from ≡ Some source) × (is_full_or_none source.kind source.state ≡ true))) → counted_weight g kind a ≡ counted_weight g other b
counted_alike g kind other a b k s (inl e) = rw (← k, s, e) refl
counted_alike g kind other a b k s (inr any) =
    let full : full_at (node_at g a.from) ≡ true = ap full_at any.1.1 ∙ any.1.2 in
    let full_b : full_at (node_at g b.from) ≡ true = ap (λ f. full_at (node_at g f)) s ∙ full in
    let asks : asks_for_any other ≡ true = ap asks_for_any (sym k) ∙ any.0 in
    rw (full, full_b, any.0, asks) refl

-- Twins have one look.
pub twins_look : (g : Nodes) (a b : ℕ) → AreTwins g a b → (look : Look) × (look_at g a ≡ Some look) × (look_at g b ≡ Some look)
twins_look g a b w = (
  look,
  ap (look_in g) w.there_a ∙ look_by-here g w.a w.link_a w.links_a w.back_a w.light_a w.can,
  ap (look_in g) w.there_b ∙ look_by-here g w.b w.link_b w.links_b w.back_b w.light_b (ap can_fold (sym w.kind) ∙ w.can) ∙ same,
)
  where
    look : Look
    look = record { source = w.link_a.from; weight = counted_weight g w.a.kind w.link_a; kind = w.a.kind; state = w.a.state; first = w.a.first; due = w.a.due; priority = w.a.priority }

    same : Some (record { source = w.link_b.from; weight = counted_weight g w.b.kind w.link_b; kind = w.b.kind; state = w.b.state; first = w.b.first; due = w.b.due; priority = w.b.priority }) ≡ Some look
    same = rw (sym (counted_alike g w.a.kind w.b.kind w.link_a w.link_b w.kind w.source w.alike), w.source, ← w.kind, ← w.state, ← w.first, ← w.due, ← w.priority) refl

-- The lists stay right where the kept node gets the targets of the one that goes.
pub fans_merged : (g : Nodes) (keep gone : ℕ) (old new : List (Vec ℕ Global)) → AreFanOuts g old → Keeps old new → ((key : ℕ) → Among (targets_of old gone) key → Among (targets_of new keep) key) →
    AreFanOuts (merge g keep gone) new
fans_merged g keep gone old new fans keeps joined = λ from. record { all = λ key index link has e. subst (λ f. Among (targets_of new f) key) e (into key index link has) }
  where
    source : (from key : ℕ) → Among (targets_of old from) key → Among (targets_of new (if from == gone then keep else from)) key
    source from key a = elim (cases_eq from gone) [
      | inl e ↦ rw (eq-eqb from gone e) (joined key (subst (λ f. Among (targets_of old f) key) e a))
      | inr n ↦ rw (ne_eqb from gone n) (keeps from key a)
    ]

    into : (key index : ℕ) (link : Link) → HasLink (merge g keep gone) key index link → Among (targets_of new link.from) key
    into key index link has =
        let was = was_there g keep gone key has.node has.there in
        let l = slice_get-map (renamed_link keep gone) was.1.links index link (subst (λ (links : List Link). slice_get links index ≡ Some link) was.3.links has.at_index) in
        subst (λ (x : Link). Among (targets_of new x.from) key) (sym l.2)
        (source l.0.from key ((fans l.0.from).all key index l.0 (record { node = was.1; there = was.2; at_index = l.1 }) refl))

-- Nodes that differ in their places alone have one look, where the source of their link gives all or nothing in both graphs or in none.
looks_alike : (g h : Nodes) (x y : Node) → x.kind ≡ y.kind → x.state ≡ y.state → x.first ≡ y.first → x.due ≡ y.due → x.priority ≡ y.priority → (link : Link) → only_link x.links ≡ Some link → x.links ≡ y.links →
    full_at (node_at g link.from) ≡ full_at (node_at h link.from) → look_in g (Some x) ≡ look_in h (Some y)
looks_alike g h x y k s f d p link only links full =
    let other : only_link y.links ≡ Some link = ap only_link (sym links) ∙ only in
    ap (look_by g x) only ∙ rw (k, s, f, d, p, full) refl ∙ sym (ap (look_by h y) other)

has_link : (g : Nodes) (node : Node) (look : Look) (found : Option Link) → look_by g node found ≡ Some look → (link : Link) × (found ≡ Some link) × (link.from ≡ look.source)
has_link g node look None e = absurd (let none : None ≡ Some look = e in cc)
has_link g node look (Some link) e = (link, refl, from (can_fold node.kind) refl)
  where
    from : (can : Bool) → can_fold node.kind ≡ can → link.from ≡ look.source
    from true c = (let here : Some (record { source = link.from; weight = counted_weight g node.kind link; kind = node.kind; state = node.state; first = node.first; due = node.due; priority = node.priority }) ≡ Some look = rw c at e in ap (λ (l : Option Look). source_or l) here)
      where
        source_or : Option Look → ℕ
        source_or None = 0
        source_or (Some l) = l.source
    from false c = absurd (let none : None ≡ Some look = rw c at e in cc)

-- a node with a look reads its source
pub look_reads : (g : Nodes) (key : ℕ) (node : Node) (look : Look) → node_at g key ≡ Some node → look_at g key ≡ Some look →
    (link : Link) × (only_link node.links ≡ Some link) × (link.from ≡ look.source) × HasLink g key 0 link
look_reads g key node look there e =
    let found = has_link g node look (only_link node.links) (sym (ap (look_in g) there) ∙ e) in
    (found.0, found.1, found.2, record { node = node; there = there; at_index = ap (λ links. slice_get links 0) (only_is node.links found.0 found.1).0 })

-- Each node stays a member of its look, where those that read the node that goes are put among those of their new look.
grouped_merged : {S : Type 0} (g : Nodes) (keep gone : ℕ) (fans : List (Vec ℕ Global)) (old new : HashMap Look (Vec ℕ Global) S) → AreFanOuts g fans → ((key : ℕ) → IsGrouped g old key) → KeepsMembers old new →
    ((key : ℕ) → Among (targets_of fans gone) key → IsGrouped (merge g keep gone) new key) → (key : ℕ) → IsGrouped (merge g keep gone) new key
grouped_merged g keep gone fans old new fan grouped keeps added key look e = by_entry (node_at (merge g keep gone) key) refl
  where
    none : node_at (merge g keep gone) key ≡ None → Among (members new look) key
    none there = absurd (let no : None ≡ Some look = sym (ap (look_in (merge g keep gone)) there) ∙ e in cc)

    some : (node : Node) → node_at (merge g keep gone) key ≡ Some node → Among (members new look) key
    some node there = elim (cases_eq was_link.0.from gone) [
      | inl from ↦ added key ((fan gone).all key 0 was_link.0 (record { node = was.1; there = was.2; at_index = was_link.1 }) from) look e
      | inr apart ↦ keeps look key (grouped key look (ap (look_in g) was.2 ∙ old_look apart ∙ sym (ap (look_in (merge g keep gone)) there) ∙ e))
    ]
      where
        reads : (link : Link) × (only_link node.links ≡ Some link) × (link.from ≡ look.source) × HasLink (merge g keep gone) key 0 link
        reads = look_reads (merge g keep gone) key node look there e

        was : (key ≢ gone) × (old : Node) × (node_at g key ≡ Some old) × IsLike node old (map (renamed_link keep gone) old.links)
        was = was_there g keep gone key node there

        is : (node.links ≡ reads.0 ∷ []) × (reads.0.group ≡ Back) × (reads.0.weight < 15)
        is = only_is node.links reads.0 reads.1

        was_link : (l : Link) × (slice_get was.1.links 0 ≡ Some l) × (reads.0 ≡ renamed_link keep gone l)
        was_link = slice_get-map (renamed_link keep gone) was.1.links 0 reads.0 (ap (λ links. slice_get links 0) (sym was.3.links ∙ is.0))

        old_look : was_link.0.from ≢ gone → look_in g (Some was.1) ≡ look_in (merge g keep gone) (Some node)
        old_look apart =
            let own : reads.0 ≡ was_link.0 = was_link.2 ∙ rw (ne_eqb was_link.0.from gone apart) refl in
            let from : reads.0.from ≢ gone = λ h. apart (ap (λ (l : Link). l.from) (sym own) ∙ h) in
            let links : was.1.links ≡ node.links = one_name_back was.1.links reads.0 (sym was.3.links ∙ is.0) was_link.1 own ∙ sym is.0 in
            looks_alike g (merge g keep gone) was.1 node (sym was.3.kind) (sym was.3.state) first (sym was.3.due) (sym was.3.priority) reads.0 (ap only_link links ∙ reads.1) links
            (sym (blind_at full_at (record { links = λ node links. refl; also = λ node other. refl }) g keep gone reads.0.from from))
          where
            first : was.1.first ≡ node.first
            first =
                let here : Some was.1.first ≡ Some node.first =
                sym (ap first_of was.2) ∙ sym (blind_at first_of (record { links = λ node links. refl; also = λ node other. refl }) g keep gone key was.0) ∙ ap first_of there in
                cc

            one_name_back : (links : List Link) (link : Link) → map (renamed_link keep gone) links ≡ link ∷ [] → slice_get links 0 ≡ Some was_link.0 → link ≡ was_link.0 → links ≡ link ∷ []
            one_name_back [] link f at same = absurd (cc)
            one_name_back (l ∷ []) link f at same = (let here : l ≡ was_link.0 = cc in ap (λ (x : Link). x ∷ []) (here ∙ sym same))
            one_name_back (l ∷ m ∷ links) link f at same = absurd (cc)

    by_entry : (entry : Option Node) → node_at (merge g keep gone) key ≡ entry → Among (members new look) key
    by_entry None there = none there
    by_entry (Some node) there = some node there

-- So what was known of the graph, and what was told of the readers of the node that goes, is known of the merged graph.
pub known_merged : {S : Type 0} (g : Nodes) (keep gone : ℕ) (fans new_fans : List (Vec ℕ Global)) (groups new_groups : HashMap Look (Vec ℕ Global) S) → IsKnown g fans groups → Keeps fans new_fans →
    ((key : ℕ) → Among (targets_of fans gone) key → Among (targets_of new_fans keep) key) → KeepsMembers groups new_groups → ((key : ℕ) → Among (targets_of fans gone) key → IsGrouped (merge g keep gone) new_groups key) →
    IsKnown (merge g keep gone) new_fans new_groups
known_merged g keep gone fans new_fans groups new_groups known keeps joined members_stay added = record {
  fans = fans_merged g keep gone fans new_fans known.fans keeps joined;
  grouped = grouped_merged g keep gone fans groups new_groups known.fans known.grouped members_stay added;
}

-- after want of memory all that counts is what was reached
pub pair_err : (keep gone : ℕ) (old new : Nodes) (r : Result Bool NoMemory) → IsErr r → Reaches Coalesces old new → TriedPair keep gone old r new
pair_err keep gone old new (Ok false) e h = absurd (cc)
pair_err keep gone old new (Ok true) e h = absurd (cc)
pair_err keep gone old new (Err no_memory) e h = h

pub twins_err : (old new : Nodes) (r : Result Bool NoMemory) → IsErr r → Reaches Coalesces old new → TriedTwins old r new
twins_err old new (Ok took) e h = absurd (cc)
twins_err old new (Err no_memory) e h = h

pub coalesced : (keep gone : ℕ) (old new : Nodes) → keep < gone → AreTwins old keep gone → new ≡ merge old keep gone → Coalesces old new
coalesced keep gone old new less twins after = record { keep = keep; gone = gone; earlier = less; twins = twins; after = after }

-- one pair more was tried
pub took_pair : (keep gone : ℕ) (old mid new : Nodes) (took more : Bool) → keep < gone → Took Coalesces old took mid → TriedPair keep gone mid (Ok more) new → Took Coalesces old (took || more) new
took_pair keep gone old mid new took false less t p = took_then Coalesces old mid new took false t p.1
took_pair keep gone old mid new took true less t p = took_then Coalesces old mid new took true t (new, coalesced keep gone mid new less p.0 p.1, Stays)

took_on : (old mid new : Nodes) (took : Bool) → Took Coalesces old took mid → Reaches Coalesces mid new → Reaches Coalesces old new
took_on old mid new false t r = went_reaches Coalesces old mid new false t r
took_on old mid new true t r = went_reaches Coalesces old mid new true t r

pair_reaches : (keep gone : ℕ) (old new : Nodes) (r : Result Bool NoMemory) → keep < gone → TriedPair keep gone old r new → Reaches Coalesces old new
pair_reaches keep gone old new (Ok false) less p = subst (Reaches Coalesces old) (sym p.1) Stays
pair_reaches keep gone old new (Ok true) less p = Goes (coalesced keep gone old new less p.0 p.1) Stays
pair_reaches keep gone old new (Err no_memory) less p = p

pub pair_reached : (keep gone : ℕ) (old mid new : Nodes) (took : Bool) (r : Result Bool NoMemory) → keep < gone → Took Coalesces old took mid → TriedPair keep gone mid r new → Reaches Coalesces old new
pair_reached keep gone old mid new took r less t p = took_on old mid new took t (pair_reaches keep gone mid new r less p)

twins_reach : (old new : Nodes) (r : Result Bool NoMemory) → TriedTwins old r new → Reaches Coalesces old new
twins_reach old new (Ok took) t = took_reaches Coalesces old new took t
twins_reach old new (Err no_memory) t = t

pub twins_reached : (old mid new : Nodes) (took : Bool) (r : Result Bool NoMemory) → Took Coalesces old took mid → TriedTwins mid r new → Reaches Coalesces old new
twins_reached old mid new took r t p = took_on old mid new took t (twins_reach mid new r p)

-- Where the turn of a node has come: the lower of two twins waits, or reads the node, which took one, or is the node, and was before its turn a twin of one that is still to be tried.
abbrev pub Left : Nodes → Nodes → BTreeSet ℕ → ℕ → Bool → List ℕ → ℕ → Type 0
Left old g numbers keep took later index = (a b : ℕ) → a < b → (w : AreTwins g a b) →
    Waits numbers a ⊎ (((took ≡ true) × (w.link_a.from ≡ keep)) ⊎ ((a ≡ keep) × AreTwins old keep b × ((i : ℕ) → i < index → get_or later i 0 ≢ b)))

pub left_first : (g : Nodes) (numbers : BTreeSet ℕ) (keep : ℕ) (later : List ℕ) → OthersWait g numbers keep → Left g g numbers keep false later 0
left_first g numbers keep later wait a b less w = elim (wait a b less w) [
  | inl e ↦ inr (inr (e, subst (λ k. AreTwins g k b) e w, λ i h. absurd (omega (arith, h))))
  | inr h ↦ inl h
]

pub gone_apart : (keep gone : ℕ) (g : Nodes) (a b : ℕ) → AreTwins (merge g keep gone) a b → b ≢ gone
gone_apart keep gone g a b w e = let no : Some w.b ≡ None = sym w.there_b ∙ ap (node_at (merge g keep gone)) e ∙ at_gone g keep gone in absurd (cc)

pub one_more_tried : (later : List ℕ) (index x b : ℕ) → index < length later → x ≡ get_or later index x → b ≢ x → ((i : ℕ) → i < index → get_or later i 0 ≢ b) → (i : ℕ) → i < index + 1 → get_or later i 0 ≢ b
one_more_tried later index x b less here apart before = each_more (λ k. k ≢ b) later index x less here before (λ e. apart (sym e))

pub left_next : (old g h : Nodes) (numbers : BTreeSet ℕ) (keep : ℕ) (took more : Bool) (later : List ℕ) (index x : ℕ) → index < length later → x ≡ get_or later index x →
    TriedPair keep x g (Ok more) h → Left old g numbers keep took later index → Left old h numbers keep (took || more) later (index + 1)
left_next old g h numbers keep took false later index x inside here tried left = subst (λ (f : Nodes). Left old f numbers keep (took || false) later (index + 1)) (sym tried.1) still
  where
    still : Left old g numbers keep (took || false) later (index + 1)
    still a b less w = elim (left a b less w) [
      | inl waits ↦ inl waits
      | inr other ↦ elim other [
        | inl reads ↦ inr (inl (ap (λ t. t || false) reads.0, reads.1))
        | inr own ↦ inr (inr (own.0, own.1, one_more_tried later index x b inside here (λ e. tried.0 (subst (λ k. AreTwins g k x) own.0 (subst (AreTwins g a) e w))) own.2))
      ]
    ]
left_next old g h numbers keep took true later index x inside here tried left = subst (λ (f : Nodes). Left old f numbers keep (took || true) later (index + 1)) (sym tried.1) merged
  where
    true_or : (t : Bool) → (t || true) ≡ true
    true_or true = refl
    true_or false = refl

    merged : Left old (merge g keep x) numbers keep (took || true) later (index + 1)
    merged a b less w = elim (cases_eq w.link_a.from keep) [
      | inl e ↦ inr (inl (true_or took, e))
      | inr n ↦ (let before = twins_before g keep x a b tried.0 w n in elim (left a b less before.0) [
        | inl waits ↦ inl waits
        | inr other ↦ elim other [
          | inl reads ↦ absurd (n (ap (λ (l : Link). l.from) (sym before.1) ∙ reads.1))
          | inr own ↦ inr (inr (own.0, own.1, one_more_tried later index x b inside here (gone_apart keep x g a b w) own.2))
        ]
      ])
    ]

-- At the end of its turn no twin is left of the node, and those that read it wait.
pub twins_wait : {S : Type 0} (old g : Nodes) (numbers new : BTreeSet ℕ) (keep : ℕ) (took : Bool) (later : List ℕ) (index : ℕ) (lists : List (Vec ℕ Global)) (groups : HashMap Look (Vec ℕ Global) S) →
    Left old g numbers keep took later index → length later ≤ index → ((b : ℕ) → keep < b → AreTwins old keep b → Among later b) → IsKnown g lists groups → ((key : ℕ) → Waits numbers key → Waits new key) →
    (took ≡ true → (key : ℕ) (look : Look) → Among (targets_of lists keep) key → look_at g key ≡ Some look → Waits new key) → TwinsWait g new
twins_wait old g numbers new keep took later index lists groups left end all known keeps readers a b less w = elim (left a b less w) [
  | inl waits ↦ keeps a waits
  | inr other ↦ elim other [
    | inl reads ↦
        (let look = twins_look g a b w in
        readers reads.0 a look.0 ((known.fans keep).all a 0 w.link_a (record { node = w.a; there = w.there_a; at_index = ap (λ links. slice_get links 0) w.links_a }) reads.1) look.1)
    | inr own ↦
        (let place = among_at later b (all b (subst (λ k. k < b) own.0 less) own.1) in absurd (own.2 place.0 (omega (arith, end, place.1)) place.2))
  ]
]

-- without a look the node has no twin
pub lookless : (g : Nodes) (numbers : BTreeSet ℕ) (keep : ℕ) → look_at g keep ≡ None → OthersWait g numbers keep → TwinsWait g numbers
lookless g numbers keep none wait a b less w = elim (wait a b less w) [
  | inl e ↦ (let look = twins_look g a b w in let no : None ≡ Some look.0 = sym none ∙ ap (look_at g) (sym e) ∙ look.1 in absurd (cc))
  | inr h ↦ h
]

-- a twin of the node is a member of its look
pub twin_member : {S : Type 0} (g : Nodes) (keep gone : ℕ) (look : Look) (lists : List (Vec ℕ Global)) (groups : HashMap Look (Vec ℕ Global) S) → IsKnown g lists groups → look_at g keep ≡ Some look →
    AreTwins g keep gone → Among (members groups look) gone
twin_member g keep gone look lists groups known e w =
    let twins = twins_look g keep gone w in
    let same : Some look ≡ Some twins.0 = sym e ∙ twins.1 in
    known.grouped gone look (twins.2 ∙ sym same)

reaches_size : {a b : Nodes} → Reaches Coalesces a b → length b ≡ length a
reaches_size Stays = refl
reaches_size {a} {b} (Goes {mid = m} step r) = reaches_size r ∙ ap (λ (g : Nodes). length g) step.after ∙ size_merged a step.keep step.gone

pub few_still : (old new : Nodes) (numbers : BTreeSet ℕ) → Reaches Coalesces old new → AreFew old numbers → AreFew new numbers
few_still old new numbers r few =
    let size : length new ≡ length old = reaches_size r in
    record { below = λ key waits. omega (arith, few.below key waits, size); few = omega (arith, few.few, size) }

step_falls : (old new : Nodes) → Coalesces old new → measure new < measure old
step_falls old new step = subst (λ g. measure g < measure old) (sym step.after) (measure_merged old step.keep step.gone step.twins.b (λ e. absurd (omega (arith, step.earlier))) step.twins.there_b)

reaches_falls : {a b : Nodes} → Reaches Coalesces a b → measure b ≤ measure a
reaches_falls Stays = omega arith
reaches_falls {a} (Goes {mid = m} step r) = omega (arith, step_falls a m step, reaches_falls r)

-- what is left to do: steps, each after as many turns as there are nodes, and the turns of those that wait
abbrev pub left_to_do : Nodes → BTreeSet ℕ → ℕ
left_to_do g numbers = measure g * (length g + 1) + btree_set_len numbers

less_to_do : (m n size waiting rest : ℕ) → m < n → waiting ≤ size → m * (size + 1) + waiting < n * (size + 1) + rest
less_to_do m n size waiting rest less few =
    let one : (m + 1) * (size + 1) ≤ n * (size + 1) = mul-le (m + 1) (size + 1) n (size + 1) (omega (arith, less)) (omega arith) in
    let more : (m + 1) * (size + 1) ≡ m * (size + 1) + (size + 1) = grind arith in
    omega (arith, one, more, few)

-- Each turn leaves less to do: the node waits no more, or there is a step less.
pub turn_falls : (old new : Nodes) (waiting mid left : BTreeSet ℕ) (number : ℕ) (took : Bool) → TakesOut waiting mid number → TriedTwins old (Ok took) new → (took ≡ false → left ≡ mid) → AreFew new left →
    left_to_do new left < left_to_do old waiting
turn_falls old new waiting mid left number false out tried rest few =
    subst (λ (g : Nodes). left_to_do g left < left_to_do old waiting) (sym tried)
    (subst (λ numbers. left_to_do old numbers < left_to_do old waiting) (sym (rest refl)) (omega (arith, out.one_less)))
turn_falls old new waiting mid left number true out tried rest few =
    let size : length new ≡ length old = reaches_size tried.2 ∙ ap (λ (g : Nodes). length g) tried.1.after ∙ size_merged old tried.1.keep tried.1.gone in
    let less : measure new < measure old = omega (arith, step_falls old tried.0 tried.1, reaches_falls tried.2) in
    let done : measure new * (length old + 1) + btree_set_len left < measure old * (length old + 1) + btree_set_len waiting =
    less_to_do (measure new) (measure old) (length old) (btree_set_len left) (btree_set_len waiting) less (omega (arith, few.few, size)) in
    subst (λ n. measure new * (n + 1) + btree_set_len left < left_to_do old waiting) (sym size) done

pub took_turn : (old mid new : Nodes) (took more : Bool) → Took Coalesces old took mid → TriedTwins mid (Ok more) new → Took Coalesces old (took || more) new
took_turn old mid new took more t p = took_then Coalesces old mid new took more t p

-- where none waits no step is left
pub none_left : (g : Nodes) (numbers : BTreeSet ℕ) → TwinsWait g numbers → ((key : ℕ) → Waits numbers key → ⊥) → IsDone Coalesces g
none_left g numbers wait none new step = none step.keep (wait step.keep step.gone step.earlier step.twins)

pub ran_err : (old new : Nodes) (r : Result Bool NoMemory) → IsErr r → Reaches Coalesces old new → Ran Coalesces old r new
ran_err old new (Ok false) e h = absurd (cc)
ran_err old new (Ok true) e h = absurd (cc)
ran_err old new (Err no_memory) e h = h

-- all but the node whose turn has come wait still
pub others_wait : (g : Nodes) (old new : BTreeSet ℕ) (number keep : ℕ) → number ≡ keep → TwinsWait g old → TakesOut old new number → OthersWait g new keep
others_wait g old new number keep e wait out a b less w = elim (out.others a (wait a b less w)) [
  | inl same ↦ inl (same ∙ e)
  | inr waits ↦ inr waits
]

-- at first all wait that have a look
pub all_wait : (g : Nodes) (numbers : BTreeSet ℕ) (keys : List ℕ) → keys ≡ keys_of g → ((key : ℕ) (look : Look) → Among keys key → look_at g key ≡ Some look → Waits numbers key) → TwinsWait g numbers
all_wait g numbers keys e all a b less w =
    let look = twins_look g a b w in
    all a look.0 (subst (λ (xs : List ℕ). Among xs a) (sym e) (key_listed g a w.a w.there_a)) look.1

-- what is told of the members of each look, one after another, is known of all nodes
pub known_first : {S : Type 0} (g : Nodes) (keys : List ℕ) (lists : List (Vec ℕ Global)) (groups : HashMap Look (Vec ℕ Global) S) → keys ≡ keys_of g → AreFanOuts g lists →
    ((key : ℕ) → Among keys key → IsGrouped g groups key) → IsKnown g lists groups
known_first g keys lists groups e fans all = record { fans = fans; grouped = λ key look here. by_entry key (node_at g key) refl look here }
  where
    by_entry : (key : ℕ) (entry : Option Node) → node_at g key ≡ entry → (look : Look) → look_at g key ≡ Some look → Among (members groups look) key
    by_entry key None there look here = absurd (let no : None ≡ Some look = sym (ap (look_in g) there) ∙ here in cc)
    by_entry key (Some node) there look here = all key (subst (λ (xs : List ℕ). Among xs key) (sym e) (key_listed g key node there)) look here

-- what stands at an index of a list of higher nodes is higher
pub stands_above : (keep : ℕ) (later items : List ℕ) (index x : ℕ) → items ≡ later → ((i : ℕ) → i < length later → keep < get_or later i 0) → index < length items → x ≡ get_or items index x → keep < x
stands_above keep later items index x e above inside here =
    let less : index < length later = omega (arith, inside, ap (λ xs. length xs) e) in
    let same : x ≡ get_or later index 0 = item_at items index x inside here ∙ ap (λ xs. get_or xs index 0) e in
    omega (arith, above index less, same)
