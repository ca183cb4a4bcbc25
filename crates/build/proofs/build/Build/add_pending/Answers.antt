use Rattle.std.proofs.Common.{◌≡◌, true, false, sym, ap, subst, ◌∙◌}
use Rattle.std.proofs.lemmas.Bool.{and_from}
use Rattle.build.specs.Plan.{Plan, IsWhole, is_ticking, is_timely, is_pending, block_at}
use Rattle.build.proofs.EditedFields.{with_ticks, pending_fields}
use Rattle.build.proofs.WholeEdits.{whole_with_pending}
use Rattle.build.proofs.build.Build.add_pending.Goals as goal
use Rattle.build.proofs.build.Build.add_pending.Goals.{in-Ok, in-Err}

pub invariant_of-self : goal.invariant_of-self
invariant_of-self c = elim c.match-push.branch [
  | in-Ok w ↦
      let now : Plan = c.args.self.now in
      let ticking : is_ticking (block_at now c.args.tick.pos) ≡ true = ap is_ticking (sym c.at.ensures.value) ∙ sym c.is_ticking.ensures ∙ c.if-not-is_ticking.false in
      let timely : is_timely c.args.tick ≡ true = sym c.is_timely.ensures ∙ c.if-not-is_timely.false in
      let apart : is_pending now.pending c.args.tick.pos ≡ false =
      sym (ap (λ (b : Plan). is_pending b.pending c.args.tick.pos) c.self.view_is)
      ∙ sym c.contains.ensures ∙ c.if-contains.false in
      subst IsWhole (sym (pending_fields c.self.inside _ now c.args.tick c.self.view_is w.in-Ok.ensures.ok))
      (whole_with_pending now c.args.tick (subst IsWhole c.self.view_is c.self.invariant) (and_from (is_ticking (block_at now c.args.tick.pos)) (is_timely c.args.tick) ticking timely) apart)
  | in-Err w ↦ subst IsWhole (ap (with_ticks c.self.inside) (sym w.in-Err.ensures.err)) c.self.invariant
]

pub returns-clause-ok : goal.returns-clause-ok
returns-clause-ok c = elim c.match-push.branch [
  | in-Ok w ↦ rw w.result-is (pending_fields c.self.inside _ c.args.self.now c.args.tick c.self.view_is w.in-Ok.ensures.ok)
  | in-Err w ↦ rw w.result-is tt
]
