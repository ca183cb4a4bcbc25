use Rattle.std.proofs.Common.{◌≡◌, List, ◌++◌, sym, subst, ap, ◌∙◌}
use Rattle.std.specs.Prelude.{All}
use Rattle.std.proofs.lemmas.Result.{on_ok_weaker}
use Rattle.circuit.specs.declared.Pos.{Pos}
use Rattle.build.specs.Plan.{Plan, block_at}
use Rattle.wiring.specs.declared.Tap.{Tap}
use Rattle.input_search.specs.Links.{From, through}
use Rattle.input_search.specs.WireTaps.{IsWireTap}
use Rattle.wiring.specs.Readers.{reader_taps}
use Rattle.input_search.proofs.ReaderTaps.{readers_wired, back_through}
use Rattle.input_search.proofs.readers.push_back_links.Goals as goal

pub push_through-requires-clause-taps : goal.push_through-requires-clause-taps
push_through-requires-clause-taps c =
    let b : Plan = c.args.build.now in
    let p : Pos = c.args.reader in
    let is : c.push_reader_taps.new.taps.items ≡ reader_taps b p (block_at b p) = c.in_ok-push_reader_taps.ensures ∙ ap (λ (taps : List Tap). taps ++ reader_taps b p (block_at b p)) c.clear.ensures.items in
    let Wired : List Tap → Type 0 = All (IsWireTap b) in
    subst Wired (sym (c.deref.ensures.value ∙ is)) (readers_wired b p)

pub returns-clause-links : goal.returns-clause-links
returns-clause-links c =
    let b : Plan = c.args.build.now in
    let p : Pos = c.args.reader in
    let is : c.push_reader_taps.new.taps.items ≡ reader_taps b p (block_at b p) = c.in_ok-push_reader_taps.ensures ∙ ap (λ (taps : List Tap). taps ++ reader_taps b p (block_at b p)) c.clear.ensures.items in
    on_ok_weaker c.push_through.result
    (λ e. e ∙ ap (λ (links : List From). c.args.links.now.items ++ links) (ap (through b) (c.deref.ensures.value ∙ is) ∙ back_through b p (block_at b p))) c.push_through.ensures.links
