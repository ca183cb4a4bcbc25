-- Wires around one that has no source near have none near either.
use Rattle.std.proofs.Common.{◌≡◌, ℕ, suc, ◌+◌, ◌<◌, ◌≤◌, List, [], ◌∷◌, refl, sym, subst, arith, inl}
use Rattle.circuit.specs.declared.Pos.{Pos}
use Rattle.circuit.specs.Circuit.{Among}
use Rattle.build.specs.Plan.{Plan}
use Rattle.input_search.specs.Links.{From, wires_in, links_below, wire_links}
use Rattle.input_search.specs.Distances.{Steps, Here, Onward}
use Rattle.wiring.proofs.ReadLaws.{direct_places-source}
use Rattle.input_search.proofs.Distances.{IsLinked, HasLink, links-linked, linked-links, source-inside, wires_in-steps}

-- a way, and a way from its end
joined : {b : Plan} {w u v : Pos} {d m : ℕ} → Steps b w u d → Steps b u v m → Steps b w v (m + d)
joined {b = b} {w = w} {u = u} {d = d} path Here = let e : 0 + d ≡ d = omega arith in subst (Steps b w u) (sym e) path
joined {b = b} {w = w} {d = d} path (Onward {u = next} {n = n} more c) = let e : suc (n + d) ≡ suc n + d = omega arith in subst (Steps b w next) e (Onward (joined path more) c)

no_link : (A : Type 0) (s : Pos) (n : ℕ) (links : List From) → links ≡ [] → HasLink links s n → A
no_link A s n links e has = absurd (subst (λ (ls : List From). Among ls has.link) e has.is_in)

-- a list in which nothing stands
nothing : (links : List From) → ((l : From) → Among links l → ⊥) → links ≡ []
nothing [] h = refl
nothing (l ∷ links) h = absurd (h l (inl refl))

-- What w reaches in d steps has no link where w has none from what is nearer than d + 16 steps.
pub far_links : (b : Plan) (w u : Pos) (steps d : ℕ) → links_below b w (16 + steps) ≡ [] → d ≤ steps → Among (wires_in b w d) u → wire_links b u ≡ []
unfolding wire_links
far_links b w u steps d none few reached = nothing (links_below b u 16) (λ l h. from l (links-linked b u 16 l h))
  where
    from : (l : From) → (l.weight < 16) × IsLinked b u l.place l.weight → ⊥
    from l (near, linked) =
        no_link ⊥ l.place (l.weight + d) (links_below b w (16 + steps)) none
        (linked-links b w l.place (l.weight + d) (source-inside b l.place (direct_places-source b linked.wire l.place linked.read))
        (record { wire = linked.wire; steps = joined (wires_in-steps b w d u reached) linked.steps; read = linked.read }) (16 + steps) (omega arith))
