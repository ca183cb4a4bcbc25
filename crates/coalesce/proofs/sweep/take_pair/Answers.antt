-- The pair was taken, or want of memory ended it before or after.
use Rattle.std.proofs.Common.{◌≡◌, true, sym, ap, subst, rules}
use Rattle.circuit.specs.Circuit.{Among}
use Rattle.graph.specs.Graph.{Graph, Nodes}
use Rattle.graph.specs.Steps.{Coalesces}
use Rattle.pass_frame.specs.Frame.{Reaches, Stays, Goes}
use Rattle.coalesce.specs.Looks.{IsGrouped}
use Rattle.coalesce.specs.Tried.{IsKnown}
use Rattle.coalesce.proofs.TriedSteps.{pair_err, coalesced, known_merged}
use Rattle.coalesce.proofs.sweep.take_pair.Goals as goal

pub returns-in_err-merge_among-clause-tried : goal.returns-in_err-merge_among-clause-tried
returns-in_err-merge_among-clause-tried c =
    pair_err c.args.keep c.args.gone c.args.graph.now.nodes c.merge_among.new.self.nodes c.from_residual.result c.from_residual.ensures.0
    (subst (Reaches Coalesces c.args.graph.now.nodes) (sym (ap (λ (graph : Graph). graph.nodes) c.in_err-merge_among.ensures.err)) Stays)

pub returns-in_err-add_all-clause-tried : goal.returns-in_err-add_all-clause-tried
returns-in_err-add_all-clause-tried c =
    let answer : c.are_twins.result ≡ true = search rules in
    pair_err c.args.keep c.args.gone c.args.graph.now.nodes c.merge_among.new.self.nodes c.from_residual-in_err-add_all.result c.from_residual-in_err-add_all.ensures.0
    (Goes (coalesced c.args.keep c.args.gone c.args.graph.now.nodes c.merge_among.new.self.nodes c.requires.earlier (c.are_twins.ensures.0 answer) c.in_ok-merge_among.ensures.nodes) Stays)

pub returns-in_err-join-clause-tried : goal.returns-in_err-join-clause-tried
returns-in_err-join-clause-tried c =
    let answer : c.are_twins.result ≡ true = search rules in
    pair_err c.args.keep c.args.gone c.args.graph.now.nodes c.merge_among.new.self.nodes c.from_residual-in_err-join.result c.from_residual-in_err-join.ensures.0
    (Goes (coalesced c.args.keep c.args.gone c.args.graph.now.nodes c.merge_among.new.self.nodes c.requires.earlier (c.are_twins.ensures.0 answer) c.in_ok-merge_among.ensures.nodes) Stays)

pub returns-clause-tried : goal.returns-clause-tried
returns-clause-tried c =
    let answer : c.are_twins.result ≡ true = search rules in
    (c.are_twins.ensures.0 answer, c.in_ok-merge_among.ensures.nodes)

pub returns-clause-known : goal.returns-clause-known
returns-clause-known c =
    subst (λ (g : Nodes). IsKnown g c.join.new.self.lists.items c.add_all.new.self.lists) (sym c.in_ok-merge_among.ensures.nodes)
    (known_merged c.args.graph.now.nodes c.args.keep c.args.gone c.args.known.now.fans.lists.items c.join.new.self.lists.items c.args.known.now.groups.lists c.add_all.new.self.lists c.requires.known
    c.in_ok-join.ensures.keeps c.in_ok-join.ensures.joined c.in_ok-add_all.ensures.keeps
    (λ key a. subst (λ (g : Nodes). IsGrouped g c.add_all.new.self.lists key) c.in_ok-merge_among.ensures.nodes (c.in_ok-add_all.ensures.all key (subst (λ keys. Among keys key) (sym c.targets-3.ensures) a))))
