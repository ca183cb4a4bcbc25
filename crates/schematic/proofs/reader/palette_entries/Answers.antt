use Rattle.std.proofs.Common.{sym, ap, ◌∙◌}
use Rattle.schematic.specs.declared.FieldName.TheVariants.{Palette}
use Rattle.schematic.specs.Fields.{held}
use Rattle.schematic.specs.Presence.{wrong_kind_with, is_palette}
use Rattle.schematic.proofs.Firsts.{fields_second, fields_third, fields_fourth, fields_none}
use Rattle.schematic.proofs.reader.palette_entries.Goals as goal

pub returns-in-Some-wrong_kind-clause-err : goal.returns-in-Some-wrong_kind-clause-err
returns-in-Some-wrong_kind-clause-err c =
    let right = c.is_palette.ensures ∙ ap is_palette (c.held-palette.ensures ∙ ap (held Palette) c.holder.ensures) in
    fields_second _ c.in-Some-wrong_kind.field c.in_default.ensures (c.in-Some-wrong_kind.ensures ∙ ap (wrong_kind_with _) right)

pub returns-then-not-has_right_version-clause-err : goal.returns-then-not-has_right_version-clause-err
returns-then-not-has_right_version-clause-err c =
    let right = c.is_palette.ensures ∙ ap is_palette (c.held-palette.ensures ∙ ap (held Palette) c.holder.ensures) in
    fields_third _ c.in_default.ensures (c.in_default-wrong_kind.ensures ∙ ap (wrong_kind_with _) right) (sym c.has_right_version.ensures ∙ c.if-not-has_right_version.true)

pub returns-then-is_too_large-clause-err : goal.returns-then-is_too_large-clause-err
returns-then-is_too_large-clause-err c =
    let right = c.is_palette.ensures ∙ ap is_palette (c.held-palette.ensures ∙ ap (held Palette) c.holder.ensures) in
    fields_fourth _ c.in_default.ensures (c.in_default-wrong_kind.ensures ∙ ap (wrong_kind_with _) right) (sym c.has_right_version.ensures ∙ c.if-not-has_right_version.false) (sym c.is_too_large.ensures ∙ c.if-is_too_large.true)

pub returns-clause-sound : goal.returns-clause-sound
returns-clause-sound c =
    let right = c.is_palette.ensures ∙ ap is_palette (c.held-palette.ensures ∙ ap (held Palette) c.holder.ensures) in
    fields_none _ c.in_default.ensures (c.in_default-wrong_kind.ensures ∙ ap (wrong_kind_with _) right) (sym c.has_right_version.ensures ∙ c.if-not-has_right_version.false) (sym c.is_too_large.ensures ∙ c.if-is_too_large.false)
