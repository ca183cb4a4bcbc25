-- The list of one look has one node more.
use Rattle.std.proofs.Common.{ℕ, ap, ◌∙◌, sym, subst}
use Rattle.std.specs.Prelude.{Vec}
use Rattle.std.specs.declared.alloc.Global.{Global}
use Rattle.coalesce.specs.FanOuts.{items_of}
use Rattle.circuit.specs.Circuit.{Among}
use Rattle.coalesce.proofs.FanSteps.{among_more, among_last}
use Rattle.coalesce.proofs.LookSteps.{put_keeps, taken_items}
use Rattle.coalesce.proofs.looks.Groups.put.Goals as goal

pub returns-clause-keeps : goal.returns-clause-keeps
returns-clause-keeps c = put_keeps c.args.look c.args.self.now.lists c.remove.new.self c.insert.new.self c.unwrap_or-list.result c.push.new.self c.remove.ensures.updates c.in_ok-insert.ensures.updates
    (ap (λ (list : Vec ℕ Global). list.items) c.unwrap_or-list.ensures ∙ taken_items c.remove.result c.new.result c.new.ensures.items ∙ ap items_of c.remove.ensures.value) (λ key a. subst (λ xs. Among xs key) (sym c.in_ok-push.ensures.items) (among_more c.unwrap_or-list.result.items c.args.key key a))

pub returns-clause-added : goal.returns-clause-added
returns-clause-added c = subst (λ xs. Among xs c.args.key) (sym (ap items_of c.in_ok-insert.ensures.updates.1 ∙ c.in_ok-push.ensures.items)) (among_last c.unwrap_or-list.result.items c.args.key)
