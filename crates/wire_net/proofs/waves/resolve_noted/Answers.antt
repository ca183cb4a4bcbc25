use Rattle.std.proofs.Common.{inl, inr, ◌∙◌}
use Rattle.wire_net.specs.Noted.{InSome}
use Rattle.wire_net.proofs.Notes.{notes_then}
use Rattle.wire_net.proofs.waves.resolve_noted.Goals as goal

pub returns-clause-noted : goal.returns-clause-noted
returns-clause-noted g c =
    let rose = notes_then c.fall.new.powers c.start_rise.new.powers c.rise.new.powers (InSome c.clear-2.new.self.lists) (InSome c.start_rise.new.levels.lists) (InSome c.rise.new.levels.lists) c.start_rise.ensures.noted c.rise.ensures.noted in
    λ e. elim (rose.each e) [
      | inr h ↦ inr (inr h)
      | inl s ↦ elim (c.fall.ensures.noted.each e) [
        | inl t ↦ inl (s ∙ t)
        | inr h ↦ inr (inl h)
      ]
    ]
