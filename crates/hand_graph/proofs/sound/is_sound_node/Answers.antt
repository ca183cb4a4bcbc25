-- Each part of the node is sound.
use Rattle.std.proofs.Common.{List, refl, ap, ◌∙◌}
use Rattle.std.specs.Prelude.{slice_get}
use Rattle.graph.specs.declared.Link.{Link}
use Rattle.hand_graph.proofs.sound.is_sound_node.Goals as goal

pub returns : goal.returns
returns c = λ t. rw (← c.node.view_is)
    (record {
      state = c.if-not-fits.ensures refl;
      kind = c.if-not-is_in_range.ensures refl;
      due = c.if-not-tick_fits.ensures.due refl;
      priority = c.if-not-tick_fits.ensures.priority refl;
      waiting = c.if-not-tick_fits.ensures.waiting refl;
      idle = c.if-not-tick_fits.ensures.idle refl;
      links = λ index link e. c.links_are_sound.ensures t index link (ap (λ (links : List Link). slice_get links index) c.deref.ensures ∙ e);
    })
