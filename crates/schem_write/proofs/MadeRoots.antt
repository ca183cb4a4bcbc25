-- The roots that the code makes, part by part.
use Rattle.std.proofs.Common.{◌≡◌, pos, List, [], ◌∷◌, ◌++◌, ℕ, sym, ap, ◌∙◌, subst}
use Rattle.std.specs.Prelude.{codes, FitsSigned}
use Rattle.std.specs.Int.{w32}
use Rattle.std.proofs.lemmas.List.{append_assoc}
use Rattle.nbt.specs.Plain.{PlainTree, PlainField, PlainRoot, compound, fields_of}
use Rattle.nbt.specs.Spelling.{spelling, CanBeSpelled}
use Rattle.build.specs.declared.Pending.{Pending}
use Rattle.build.specs.Plan.{Plan, IsWhole}
use Rattle.schematic.specs.File.{file}
use Rattle.schem_write.specs.declared.Layout.TheVariants.{Second, Third}
use Rattle.schem_write.specs.Written.{head, body, metadata, root_with, root_of, main_of, root3_of, written, written3}
use Rattle.schem_write.proofs.SpellableRoots.{root-spelled, root3-spelled}
use Rattle.schem_write.proofs.ReadRoots.{written-file, written3-file}

-- The fields of a root, and what is known of the build.
pub record Made (b : Plan) (whole : PlainRoot) (root : PlainRoot) : Type 0 where
  pub same : root ≡ whole
  pub whole_build : IsWhole b
  pub fits : FitsSigned w32 b.data_version

pub made : (b : Plan) (none first second third : List PlainField) (ticks : List Pending) → none ≡ [] → first ≡ none ++ head (pos 2) b → second ≡ first ++ body Second (codes "BlockData") b → third ≡ second ++ metadata ticks → ticks ≡ b.pending →
    IsWhole b → FitsSigned w32 b.data_version → Made b (root_of b) (root_with (codes "Schematic") third)
unfolding root_of
made b none first second third ticks z f s t p w d =
    let start : first ≡ head (pos 2) b = f ∙ ap (λ fs. fs ++ head (pos 2) b) z in
    let all : third ≡ head (pos 2) b ++ (body Second (codes "BlockData") b ++ metadata b.pending) =
    t ∙ ap (λ ts. second ++ metadata ts) p ∙ ap (λ fs. fs ++ metadata b.pending) (s ∙ ap (λ fs. fs ++ body Second (codes "BlockData") b) start)
    ∙ append_assoc (head (pos 2) b) (body Second (codes "BlockData") b) (metadata b.pending) in
    record { same = ap (root_with (codes "Schematic")) all; whole_build = w; fits = d }

pub made3 : (b : Plan) (none blocks first second third fields : List PlainField) (tree main : PlainTree) (ticks : List Pending) → none ≡ [] → blocks ≡ none ++ body Third (codes "Data") b → first ≡ none ++ head (pos 3) b →
    tree ≡ compound (fields_of blocks) → second ≡ first ++ (codes "Blocks", tree) ∷ [] → third ≡ second ++ metadata ticks → ticks ≡ b.pending → main ≡ compound (fields_of third) → fields ≡ none ++ (codes "Schematic", main) ∷ [] →
    IsWhole b → FitsSigned w32 b.data_version → Made b (root3_of b) (root_with [] fields)
unfolding root3_of
made3 b none blocks first second third fields tree main ticks z k f c s t p m e w d =
    let inner : tree ≡ compound (fields_of (body Third (codes "Data") b)) = c ∙ ap (λ fs. compound (fields_of fs)) (k ∙ ap (λ fs. fs ++ body Third (codes "Data") b) z) in
    let start : first ≡ head (pos 3) b = f ∙ ap (λ fs. fs ++ head (pos 3) b) z in
    let all : third ≡ main_of b =
    t ∙ ap (λ ts. second ++ metadata ts) p
    ∙ ap (λ fs. fs ++ metadata b.pending) (s ∙ ap (λ fs. fs ++ (codes "Blocks", tree) ∷ []) start ∙ ap (λ u. head (pos 3) b ++ (codes "Blocks", u) ∷ []) inner)
    ∙ append_assoc (head (pos 3) b) ((codes "Blocks", compound (fields_of (body Third (codes "Data") b))) ∷ []) (metadata b.pending) in
    record { same = ap (root_with []) (e ∙ ap (λ fs. fs ++ (codes "Schematic", main) ∷ []) z ∙ ap (λ u. (codes "Schematic", u) ∷ []) (m ∙ ap (λ fs. compound (fields_of fs)) all)); whole_build = w; fits = d }

pub made-spelled : (b : Plan) (root : PlainRoot) → Made b (root_of b) root → CanBeSpelled root
made-spelled b root m = subst CanBeSpelled (sym m.same) (root-spelled b m.whole_build m.fits)

pub made3-spelled : (b : Plan) (root : PlainRoot) → Made b (root3_of b) root → CanBeSpelled root
made3-spelled b root m = subst CanBeSpelled (sym m.same) (root3-spelled b m.whole_build m.fits)

pub made-bytes : (b : Plan) (root : PlainRoot) (bytes : List ℕ) → Made b (root_of b) root → bytes ≡ spelling root → bytes ≡ written b
unfolding written
made-bytes b root bytes m h = h ∙ ap spelling m.same

pub made3-bytes : (b : Plan) (root : PlainRoot) (bytes : List ℕ) → Made b (root3_of b) root → bytes ≡ spelling root → bytes ≡ written3 b
unfolding written3
made3-bytes b root bytes m h = h ∙ ap spelling m.same

pub made-file : (b : Plan) (root : PlainRoot) (bytes : List ℕ) → Made b (root_of b) root → bytes ≡ spelling root → file bytes b
made-file b root bytes m h = subst (λ (bs : List ℕ). file bs b) (sym (made-bytes b root bytes m h)) (written-file b m.whole_build m.fits)

pub made3-file : (b : Plan) (root : PlainRoot) (bytes : List ℕ) → Made b (root3_of b) root → bytes ≡ spelling root → file bytes b
made3-file b root bytes m h = subst (λ (bs : List ℕ). file bs b) (sym (made3-bytes b root bytes m h)) (written3-file b m.whole_build m.fits)
