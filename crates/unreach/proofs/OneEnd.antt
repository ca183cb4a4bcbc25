-- Where nothing is left to drop, just the links are left that weigh less than their source may give.
use Rattle.std.proofs.Common.{◌≡◌, ◌≤◌, Bool, false, sym, ap, ◌∙◌, arith, inl, inr, refl, subst}
use Rattle.std.specs.Prelude.{nat_lt}
use Rattle.std.proofs.lemmas.Bool.{cases_Bool, cases_lt, false≢true, lt-ltb, ltb-true}
use Rattle.graph.specs.declared.Link.{Link}
use Rattle.graph.specs.Edits.{drop_link}
use Rattle.graph.specs.Graph.{Nodes, node_at}
use Rattle.graph.specs.Steps.{bound_at, Unreaches}
use Rattle.graph.proofs.Bounds.{bound_at-dropped}
use Rattle.pass_frame.specs.Frame.{Reaches, Stays, Goes, IsDone}
use Rattle.pass_frame.specs.Rounds.{Exhausts}
use Rattle.pass_frame.proofs.LinksLeft.{with_passing, passing_dropped, passing_all}
use Rattle.unreach.specs.Reached.{SameBounds}
use Rattle.unreach.proofs.UnreachSteps.{same_bounds_then}

-- the link weighs less than its source may give at first
abbrev reaches : Nodes → Link → Bool
reaches g link = nat_lt link.weight (bound_at g (node_at g link.from))

spent_fails : (old g : Nodes) (link : Link) → SameBounds old g → bound_at g (node_at g link.from) ≤ link.weight → reaches old link ≡ false
spent_fails old g link same spent = elim (cases_Bool (reaches old link)) [
  | inl h ↦ (let light = ltb-true link.weight (bound_at old (node_at old link.from)) h in absurd (omega (arith, light, spent, same link.from)))
  | inr h ↦ h
]

same_bounds : (old mid new : Nodes) → SameBounds old mid → Unreaches mid new → SameBounds old new
same_bounds old mid new same step = same_bounds_then old mid new same (subst (SameBounds mid) (sym step.after) (bound_at-dropped mid step.key step.index step.link step.linked step.heavy))

bounds_along : (old mid new : Nodes) → SameBounds old mid → Reaches Unreaches mid new → SameBounds old new
bounds_along old mid _ same Stays = same
bounds_along old mid new same (Goes {mid = next} step r) = bounds_along old next new (same_bounds old mid next same step) r

left_along : (old mid new : Nodes) → SameBounds old mid → Reaches Unreaches mid new → with_passing (reaches old) new ≡ with_passing (reaches old) mid
left_along old mid _ same Stays = refl
left_along old mid new same (Goes {mid = next} step r) =
    left_along old next new (same_bounds old mid next same step) r ∙ ap (with_passing (reaches old)) step.after
    ∙ passing_dropped (reaches old) mid step.key step.index step.link step.linked (spent_fails old mid step.link same step.heavy)

left_end : (old g : Nodes) → SameBounds old g → IsDone Unreaches g → with_passing (reaches old) g ≡ g
left_end old g same done = passing_all (reaches old) g (λ key index link has. elim (cases_Bool (reaches old link)) [
  | inl h ↦ h
  | inr h ↦ absurd (done (drop_link g key index) (record { key = key; index = index; link = link; linked = has; heavy = spent link h; after = refl }))
])
  where
    spent : (link : Link) → reaches old link ≡ false → bound_at g (node_at g link.from) ≤ link.weight
    spent link h = elim (cases_lt link.weight (bound_at old (node_at old link.from))) [
      | inl l ↦ absurd (false≢true (sym h ∙ lt-ltb link.weight (bound_at old (node_at old link.from)) l))
      | inr l ↦ omega (arith, l, same link.from)
    ]

pub unreached_one : (old one other : Nodes) → Exhausts Unreaches old one → Exhausts Unreaches old other → one ≡ other
unreached_one old one other a b =
    sym (left_end old one (bounds_along old old one (λ key. refl) a.reaches) a.rests) ∙ left_along old old one (λ key. refl) a.reaches
    ∙ sym (left_along old old other (λ key. refl) b.reaches) ∙ left_end old other (bounds_along old old other (λ key. refl) b.reaches) b.rests
