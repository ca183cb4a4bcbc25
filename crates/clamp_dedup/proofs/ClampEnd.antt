-- Where nothing is left to clamp, just the light links are left.
use Rattle.std.proofs.Common.{◌≡◌, ◌≤◌, Bool, false, sym, ap, ◌∙◌, arith, inl, inr, refl}
use Rattle.std.specs.Prelude.{nat_lt}
use Rattle.std.proofs.lemmas.Bool.{cases_Bool, cases_lt, false≢true, lt-ltb, ltb-true}
use Rattle.graph.specs.declared.Link.{Link}
use Rattle.graph.specs.Edits.{drop_link}
use Rattle.graph.specs.Graph.{Nodes}
use Rattle.graph.specs.Steps.{Clamps}
use Rattle.pass_frame.specs.Frame.{Reaches, Stays, Goes, IsDone}
use Rattle.pass_frame.specs.Rounds.{Exhausts}
use Rattle.pass_frame.proofs.LinksLeft.{with_passing, passing_dropped, passing_all}

abbrev is_light : Link → Bool
is_light link = nat_lt link.weight 15

heavy_fails : (link : Link) → 15 ≤ link.weight → is_light link ≡ false
heavy_fails link heavy = elim (cases_Bool (is_light link)) [
  | inl h ↦ (let light = ltb-true link.weight 15 h in absurd (omega (arith, light, heavy)))
  | inr h ↦ h
]

light_along : {old new : Nodes} → Reaches Clamps old new → with_passing is_light new ≡ with_passing is_light old
light_along Stays = refl
light_along {old} (Goes {mid = mid} step r) =
    light_along r ∙ ap (with_passing is_light) step.after ∙ passing_dropped is_light old step.key step.index step.link step.linked (heavy_fails step.link step.heavy)

light_end : (g : Nodes) → IsDone Clamps g → with_passing is_light g ≡ g
light_end g done = passing_all is_light g (λ key index link has. elim (cases_Bool (is_light link)) [
  | inl h ↦ h
  | inr h ↦ absurd (done (drop_link g key index) (record { key = key; index = index; link = link; linked = has; heavy = not_light link h; after = refl }))
])
  where
    not_light : (link : Link) → is_light link ≡ false → 15 ≤ link.weight
    not_light link h = elim (cases_lt link.weight 15) [ inl l ↦ absurd (false≢true (sym h ∙ lt-ltb link.weight 15 l)) | inr l ↦ l ]

pub clamped_one : (old one other : Nodes) → Exhausts Clamps old one → Exhausts Clamps old other → one ≡ other
clamped_one old one other a b = sym (light_end one a.rests) ∙ light_along a.reaches ∙ sym (light_along b.reaches) ∙ light_end other b.rests
