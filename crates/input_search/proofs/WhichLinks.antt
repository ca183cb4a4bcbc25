-- The links of a wire are those from the components at a distance of at most 15.
use Rattle.std.proofs.Common.{◌≡◌, ℕ, zero, suc, ◌<◌, ◌≤◌, true, true≢false, map, filter, sym, ◌∙◌, ap, subst, arith, inl, inr}
use Rattle.std.specs.Prelude.{◌↔◌, not, Contains}
use Rattle.std.proofs.lemmas.Bool.{and_parts, cases_lt}
use Rattle.circuit.specs.declared.Pos.{Pos}
use Rattle.circuit.specs.Circuit.{Among}
use Rattle.build.specs.Plan.{Plan, in_box, places}
use Rattle.input_search.specs.Links.{From, at_weight, among, direct_places, sources_in, links_below, wire_links}
use Rattle.input_search.specs.Distances.{IsDistance}
use Rattle.wiring.proofs.Lists.{From_map, among-append, among-filter, among-map, among-map_back, among-Contains, Contains-among}
use Rattle.wiring.proofs.ReadLaws.{direct_places-source}
use Rattle.input_search.proofs.Distances.{in-among, source-inside, IsLinked, HasLink, is_new, links-linked, linked-links}

inside-read : (b : Plan) (v s : Pos) → Among (direct_places b v) s → in_box b s ≡ true
inside-read b v s h = source-inside b s (direct_places-source b v s h)

-- a node that has a link at a lesser distance gets no other
linked-not_new : (b : Plan) (w s : Pos) (n m : ℕ) → IsLinked b w s m → m < n → among (map (λ l. l.place) (links_below b w n)) s ≡ true
linked-not_new b w s n m l h =
    let r : HasLink (links_below b w n) s m = linked-links b w s m (inside-read b l.wire s l.read) l n h in
    in-among (map (λ l. l.place) (links_below b w n)) s
    (subst (λ (x : Pos). Among (map (λ l. l.place) (links_below b w n)) x) r.place (among-map_back (λ (l : From). l.place) (links_below b w n) r.link r.is_in))

links-least : (b : Plan) (w : Pos) (k : ℕ) (l : From) → Among (links_below b w k) l → (m : ℕ) → IsLinked b w l.place m → l.weight ≤ m
unfolding links_below
links-least b w zero l h m i = absurd h
links-least b w (suc n) l h m i = elim (among-append (links_below b w n) (map (at_weight n) (filter (is_new (sources_in b w n) (links_below b w n)) (places b))) l h) [
  | inl k ↦ links-least b w n l k m i
  | inr k ↦ elim (cases_lt m n) [
    | inr ge ↦ (let r : From_map (at_weight n) (filter (is_new (sources_in b w n) (links_below b w n)) (places b)) l = among-map (at_weight n) (filter (is_new (sources_in b w n) (links_below b w n)) (places b)) l k in
        let e : n ≡ l.weight = ap (λ (x : From). x.weight) r.is in omega arith)
    | inl lt ↦ absurd (old (among-map (at_weight n) (filter (is_new (sources_in b w n) (links_below b w n)) (places b)) l k) lt)
  ]
]
  where
    old : From_map (at_weight n) (filter (is_new (sources_in b w n) (links_below b w n)) (places b)) l → m < n → ⊥
    old r lt =
        let f : Among (places b) r.it × (is_new (sources_in b w n) (links_below b w n) r.it ≡ true) = among-filter (is_new (sources_in b w n) (links_below b w n)) (places b) r.it r.is_in in
        let j : IsLinked b w r.it m = subst (λ (x : From). IsLinked b w x.place m) (sym r.is) i in
        let t : among (map (λ l. l.place) (links_below b w n)) r.it ≡ true = linked-not_new b w r.it n m j lt in
        let g : not (among (map (λ l. l.place) (links_below b w n)) r.it) ≡ true = (and_parts (among (sources_in b w n) r.it) (not (among (map (λ l. l.place) (links_below b w n)) r.it)) f.1).1 in
        true≢false (sym (sym (ap not t) ∙ g))

distance-linked : (b : Plan) (w s : Pos) (n : ℕ) → IsDistance b w s n → IsLinked b w s n
distance-linked b w s n d = record { wire = d.wire; steps = d.steps; read = Contains-among (direct_places b d.wire) s d.read }

weight-same : (l : From) (s : Pos) (n : ℕ) → l.place ≡ s → l.weight ≡ n → l ≡ at_weight n s
weight-same l s n e f = whole l.place s l.weight n e f
  where
    whole : (p q : Pos) (i j : ℕ) → p ≡ q → i ≡ j → ◌≡◌ {A = From} (record { place = p; weight = i }) (record { place = q; weight = j })
    whole p q i j e f = cc

pub wire_links-exact : (b : Plan) (w s : Pos) (n : ℕ) → Contains (wire_links b w) (at_weight n s) ↔ ((n ≤ 15) × IsDistance b w s n)
unfolding wire_links
wire_links-exact b w s n = (to, from)
  where
    to : Contains (links_below b w 16) (at_weight n s) → (n ≤ 15) × IsDistance b w s n
    to c =
        let i : Among (links_below b w 16) (at_weight n s) = Contains-among (links_below b w 16) (at_weight n s) c in
        let r : (n < 16) × IsLinked b w s n = links-linked b w 16 (at_weight n s) i in
        let l : IsLinked b w s n = r.1 in (
          omega (arith, r.0),
          record {
            wire = l.wire;
            steps = l.steps;
            read = among-Contains (direct_places b l.wire) s l.read;
            least = λ m v path d. links-least b w 16 (at_weight n s) i m (record { wire = v; steps = path; read = Contains-among (direct_places b v) s d });
          },
        )

    from : (n ≤ 15) × IsDistance b w s n → Contains (links_below b w 16) (at_weight n s)
    from p =
        let d : IsDistance b w s n = p.1 in
        let l : IsLinked b w s n = distance-linked b w s n d in
        let small : n < 16 = omega (arith, p.0) in
        let r : HasLink (links_below b w 16) s n = linked-links b w s n (inside-read b l.wire s l.read) l 16 small in
        let k : IsLinked b w r.link.place r.link.weight = (links-linked b w 16 r.link r.is_in).1 in
        let j : IsLinked b w s r.link.weight = subst (λ (x : Pos). IsLinked b w x r.link.weight) r.place k in
        let least : n ≤ r.link.weight = d.least r.link.weight j.wire j.steps (among-Contains (direct_places b j.wire) s j.read) in
        among-Contains (links_below b w 16) (at_weight n s)
        (subst (λ (x : From). Among (links_below b w 16) x) (weight-same r.link s n r.place (omega (arith, r.light, least))) r.is_in)
