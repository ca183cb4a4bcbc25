use Rattle.std.proofs.Common.{◌≡◌, ◌<◌, List, [], ◌∷◌, ◌++◌, length, set, map, ap, sym, ◌∙◌, arith}
use Rattle.std.proofs.lemmas.List.{map-set, get_or-map, length-map}
use Rattle.graph_machine.specs.declared.links.OutLink.{OutLink}
use Rattle.graph_machine.specs.Counted.{row}
use Rattle.graph_machine.proofs.links.Rows.add.Goals as goal

pub returns : goal.returns
returns c =
    let rows : List (List OutLink) = map (λ row. row.items) c.self.inside.rows.items in
    let inside : c.args.from < length c.self.inside.rows.items =
    omega (arith, c.requires, ap (λ (l : List (List OutLink)). length l) c.self.view_is, length-map c.self.inside.rows.items (λ row. row.items)) in
    let here : c.index_mut.result.now.items ≡ row rows c.args.from = ap (λ row. row.items) c.index_mut.ensures.value ∙ sym (get_or-map (λ row. row.items) c.self.inside.rows.items c.args.from c.index_mut.result.now [] inside) in
    record {
      ok = map-set (λ row. row.items) c.self.inside.rows.items c.args.from c.push.new.self ∙ ap (set rows c.args.from) (c.in_ok-push.ensures.items ∙ ap (λ l. l ++ c.args.link ∷ []) here)
          ∙ ap (λ (l : List (List OutLink)). set l c.args.from (row l c.args.from ++ c.args.link ∷ [])) c.self.view_is;
    }
