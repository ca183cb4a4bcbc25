use Rattle.std.proofs.Common.{◌≡◌, ◌∷◌, ◌++◌, [], refl, subst, rules, map, reverse}
use Rattle.nbt.specs.Plain.{plain_tree}
use Rattle.nbt.specs.Reading.{plain_open, stack_of, IsNext}
use Rattle.nbt.specs.declared.open.Piece.{Piece}
use Rattle.nbt.proofs.Growing.{moves-tree, moves-open, moves-end, stack-push}
use Rattle.nbt.proofs.reader.step.Goals as goal

pub returns-in_ok-top-in-Tree-clause-ok : goal.returns-in_ok-top-in-Tree-clause-ok
returns-in_ok-top-in-Tree-clause-ok c =
    let top = c.args.top in
    let outer = c.args.outer.now.items in
    let s = c.args.bytes.now in
    let rest = c.in_ok-piece.rest.now in
    let next = subst (λ (p : Piece). IsNext (stack_of top outer) s p rest) c.in-Tree.is c.in_ok-piece.ensures.ok in
    moves-tree (plain_open top) (map plain_open (reverse outer)) (stack_of c.in_ok-top-in-Tree.top outer) (plain_open c.in_ok-top-in-Tree.top) c.in-Tree.name.items.items s rest (plain_tree c.in-Tree.tree)
    refl c.in_ok-top-in-Tree.ensures c.requires next

pub returns-in_ok-push-in-Open-clause-ok : goal.returns-in_ok-push-in-Open-clause-ok
returns-in_ok-push-in-Open-clause-ok c =
    let top = c.args.top in
    let outer = c.args.outer.now.items in
    let more = c.push.new.self.items in
    let s = c.args.bytes.now in
    let rest = c.in_ok-piece.rest.now in
    let inner = c.in-Open.inner in
    let next = subst (λ (p : Piece). IsNext (stack_of top outer) s p rest) c.in-Open.is c.in_ok-piece.ensures.ok in
    let pushed : more ≡ outer ++ top ∷ [] = search rules in
    moves-open (plain_open top) (plain_open inner) (map plain_open (reverse outer)) (stack_of inner more) s rest (stack-push inner top outer more pushed) c.requires next

pub returns-in_ok-top-in-Some-clause-ok : goal.returns-in_ok-top-in-Some-clause-ok
returns-in_ok-top-in-Some-clause-ok c =
    let top = c.args.top in
    let outer = c.args.outer.now.items in
    let left = c.pop.new.self.items in
    let s = c.args.bytes.now in
    let rest = c.in_ok-piece.rest.now in
    let holder = c.in-Some.holder in
    let end = subst (λ (p : Piece). IsNext (stack_of top outer) s p rest) c.in-End.is c.in_ok-piece.ensures.ok in
    moves-end (plain_open top) (plain_open holder) (plain_open c.in_ok-top-in-Some.top) (map plain_open (reverse left)) (stack_of top outer) (stack_of c.in_ok-top-in-Some.top left)
    c.close-name.result.0.items.items s rest (plain_tree c.close-name.result.1) (stack-push top holder left outer c.in-Some.ensures.items) refl c.in_ok-top-in-Some.ensures
    c.close-name.ensures.name c.close-name.ensures.tree c.requires end
