-- The cells of a build, one after another.
use Rattle.std.proofs.Common.{◌≡◌, ℕ, ◌+◌, ◌<◌, ◌≤◌, List, [], ◌∷◌, ◌++◌, map, take, length, refl, sym, ap, ◌∙◌, subst, arith, Option, Some}
use Rattle.std.proofs.Math.ListN.{get_or}
use Rattle.std.specs.Option.{option_map}
use Rattle.std.proofs.lemmas.List.{take_more, take_all, map-append, length-map, length-take}
use Rattle.block_table.specs.declared.Block.{Block}
use Rattle.block_table.specs.declared.Block.TheVariants.{Air}
use Rattle.block_table.specs.WrittenText.{state_text}
use Rattle.circuit.specs.declared.Pos.{Pos}
use Rattle.build.specs.Plan.{Plan, IsWhole, volume, place_of, block_at}
use Rattle.build.specs.Places.{entry-place}
use Rattle.build.proofs.FoundPlaces.{FoundBelow, found_one_more}
use Rattle.schem_write.specs.PaletteTexts.{first_ones, number_in, with_text, palette_of, cells_of}
use Rattle.std.specs.Prelude.{Vec}
use Rattle.std.specs.declared.alloc.Global.{Global}
use Rattle.schem_write.specs.Code.{texts_of}
use Rattle.schem_write.specs.Varint.{varint}
use Rattle.schem_write.proofs.FirstOnes.{first_ones-more, cells-more, cells_by, length-first_ones}

-- the texts of the cells before one
abbrev pub texts_before : Plan → ℕ → List (List ℕ)
texts_before b i = map state_text (take i b.blocks)

texts-more : (b : Plan) (i : ℕ) → IsWhole b → i < volume b → texts_before b (i + 1) ≡ texts_before b i ++ state_text (block_at b (place_of b i)) ∷ []
texts-more b i w h =
    ap (map state_text) (take_more b.blocks i Air (omega (arith, w.blocks, h)))
    ∙ map-append state_text (take i b.blocks) (get_or b.blocks i Air ∷ [])
    ∙ ap (λ (x : Block). texts_before b i ++ state_text x ∷ []) (sym (entry-place b b.blocks Air i h))

texts-all : (b : Plan) (i : ℕ) → IsWhole b → volume b ≤ i → texts_before b i ≡ map state_text b.blocks
texts-all b i w h = ap (map state_text) (take_all i b.blocks (omega (arith, w.blocks, h)))

-- The palette and the bytes of the cells before one.
pub record Before (b : Plan) (palette : List (List ℕ)) (cells : List ℕ) (i : ℕ) : Type 0 where
  pub texts : palette ≡ first_ones (texts_before b i)
  pub bytes : cells ≡ cells_by (first_ones (texts_before b i)) (texts_before b i)

pub before-none : (b : Plan) → Before b [] [] 0
before-none b = record { texts = refl; bytes = refl }

pub before-more : (b : Plan) (palette palette' : List (List ℕ)) (cells cells' : List ℕ) (i number : ℕ) (text : List ℕ) → IsWhole b → i < volume b →
    text ≡ state_text (block_at b (place_of b i)) → number ≡ number_in palette text → palette' ≡ with_text palette text → cells' ≡ cells ++ varint number →
    Before b palette cells i → Before b palette' cells' (i + 1)
before-more b palette palette' cells cells' i number text w h t n p c before =
    let old : List (List ℕ) = texts_before b i in
    let more : texts_before b (i + 1) ≡ old ++ text ∷ [] = texts-more b i w h ∙ ap (λ x. old ++ x ∷ []) (sym t) in
    record {
      texts = p ∙ ap (λ ps. with_text ps text) before.texts ∙ sym (first_ones-more old text) ∙ sym (ap first_ones more);
      bytes = c ∙ ap (λ bs. bs ++ varint number) before.bytes ∙ ap (λ m. cells_by (first_ones old) old ++ varint m) (n ∙ ap (λ ps. number_in ps text) before.texts)
          ∙ sym (cells-more old text) ∙ sym (ap (λ ts. cells_by (first_ones ts) ts) more);
    }

pub all-texts : (b : Plan) (palette : List (List ℕ)) (cells : List ℕ) (i : ℕ) → IsWhole b → volume b ≤ i → Before b palette cells i → palette ≡ palette_of b.blocks
unfolding palette_of
all-texts b palette cells i w h before = before.texts ∙ ap first_ones (texts-all b i w h)

pub all-cells : (b : Plan) (palette : List (List ℕ)) (cells : List ℕ) (i : ℕ) → IsWhole b → volume b ≤ i → Before b palette cells i → cells ≡ cells_of b.blocks
unfolding palette_of cells_of
all-cells b palette cells i w h before = before.bytes ∙ ap (λ ts. cells_by (first_ones ts) ts) (texts-all b i w h)

pub few-texts : (b : Plan) (keys : List (Vec ℕ Global)) (cells : List ℕ) (i : ℕ) → IsWhole b → Before b (texts_of keys) cells i → length keys ≤ 16777216
few-texts b keys cells i w before =
    let texts : length keys ≡ length (first_ones (texts_before b i)) = sym (length-map keys (λ (text : Vec ℕ Global). text.items)) ∙ ap length before.texts in
    omega (arith, texts, length-first_ones (texts_before b i), length-map (take i b.blocks) state_text, length-take_le i b.blocks, w.blocks, w.small)
  where
    length-take_le : {A : Type 0} (n : ℕ) (xs : List A) → length (take n xs) ≤ length xs
    length-take_le n xs = omega (arith, length-take n xs)

-- ---- what is found place by place, in plain form

pub found-tree : {X Y : Type 0} (g : X → Y) (f : Pos → Option Y) (b : Plan) (i : ℕ) (found next : List X) (one : X) → i < volume b → option_map g (Some one) ≡ f (place_of b i) → next ≡ found ++ one ∷ [] →
    FoundBelow f b (map g found) i → FoundBelow f b (map g next) (i + 1)
found-tree g f b i found next one h some e before =
    subst (λ ys. FoundBelow f b ys (i + 1)) (sym (ap (map g) e ∙ map-append g found (one ∷ []))) (found_one_more f b i (map g found) (g one) h (sym some) before)
