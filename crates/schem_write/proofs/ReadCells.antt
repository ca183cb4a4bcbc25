-- The palette and the cells that are written, read back.
use Rattle.std.proofs.Common.{◌≡◌, ◌≢◌, ℕ, suc, ◌+◌, ◌-◌, ◌^◌, ◌<◌, ◌≤◌, ℤ, pos, List, [], ◌∷◌, ◌++◌, map, length, Bool, true, false, Option, Some, None, refl, sym, ap, ◌∙◌, subst, arith, inl, inr}
use Rattle.std.specs.Prelude.{not, filter, find, is_some, ⊤}
use Rattle.std.specs.List.{AllByRecursion, list_any}
use Rattle.std.specs.Str.{bytes_eq}
use Rattle.std.specs.Ordering.{int_eq}
use Rattle.std.proofs.Math.ListN.{get_or}
use Rattle.std.proofs.lemmas.Bool.{cases_Bool, false≢true}
use Rattle.std.proofs.lemmas.Bool.Decides.{Decides-int_eq}
use Rattle.std.proofs.lemmas.List.{length-map}
use Rattle.nbt.specs.Plain.{PlainField, int, fields_of}
use Rattle.block_table.specs.declared.Block.{Block}
use Rattle.block_table.specs.declared.Block.TheVariants.{Air}
use Rattle.block_table.specs.BlockText.{block_of}
use Rattle.block_table.specs.WrittenText.{state_text, is_listed}
use Rattle.block_table.proofs.BlockSteps.{state_text-back}
use Rattle.build.specs.Plan.{Plan, IsWhole, place_of}
use Rattle.build.specs.Places.{entry-place}
use Rattle.schematic.specs.Palette.{last_ones, pairs_of, same_name, entries_of, number_of, has_number, clash, unknown_text, block_or_air, block_numbered}
use Rattle.schematic.specs.Cells.{varints, value_of, fault_from, cells_fault, blocks_of}
use Rattle.schematic.proofs.Varints.{fault_next, blocks_next}
use Rattle.schem_write.specs.Varint.{varint}
use Rattle.schem_write.specs.PaletteTexts.{first_ones, palette_of, cells_of, number_in, numbered_from}
use Rattle.schem_write.proofs.Shortest.{varint-first}
use Rattle.schem_write.proofs.FirstOnes.{text_one, text_itself, cells_by, has-first_ones, length-first_ones}
use Rattle.schem_write.proofs.Spellable.{all-first_ones}
use Rattle.schem_write.proofs.SpellableRoots.{number_in-le}

abbrev has : List ℕ → List (List ℕ) → Bool
has t texts = list_any (bytes_eq t) texts

-- ---- no text stands twice

abbrev IsSingle : List (List ℕ) → Type 0
IsSingle [] = ⊤
IsSingle (t ∷ ts) = (has t ts ≡ false) × IsSingle ts

none-kept : (t : List ℕ) (p : List ℕ → Bool) (ts : List (List ℕ)) → has t ts ≡ false → has t (filter p ts) ≡ false
none-kept t p [] h = refl
none-kept t p (s ∷ ts) h = elim (cases_Bool (bytes_eq t s)) [
  | inl e ↦ absurd (let k : true ≡ false = rw e at h in cc)
  | inr e ↦ (let rest : has t ts ≡ false = rw e at h in
      elim (cases_Bool (p s)) [ inl k ↦ rw (k, e) (none-kept t p ts rest) | inr k ↦ rw k (none-kept t p ts rest) ])
]

single-kept : (p : List ℕ → Bool) (ts : List (List ℕ)) → IsSingle ts → IsSingle (filter p ts)
single-kept p [] h = tt
single-kept p (t ∷ ts) h = elim (cases_Bool (p t)) [
  | inl e ↦ rw e (none-kept t p ts h.0, single-kept p ts h.1)
  | inr e ↦ rw e (single-kept p ts h.1)
]

taken-out : (t : List ℕ) (ts : List (List ℕ)) → has t (filter (λ other. not (bytes_eq other t)) ts) ≡ false
taken-out t [] = refl
taken-out t (s ∷ ts) = elim (cases_Bool (bytes_eq s t)) [
  | inl e ↦ rw e (taken-out t ts)
  | inr e ↦ (let back : bytes_eq t s ≡ false = other e in rw (e, back) (taken-out t ts))
]
  where
    other : bytes_eq s t ≡ false → bytes_eq t s ≡ false
    other e = elim (cases_Bool (bytes_eq t s)) [
      | inl k ↦ absurd (false≢true (sym e ∙ ap (bytes_eq s) (text_one t s k) ∙ text_itself s))
      | inr k ↦ k
    ]

single-first_ones : (ts : List (List ℕ)) → IsSingle (first_ones ts)
single-first_ones [] = tt
single-first_ones (t ∷ ts) = (taken-out t (first_ones ts), single-kept (λ other. not (bytes_eq other t)) (first_ones ts) (single-first_ones ts))

-- ---- the entries

pairs-back : (fs : List PlainField) → pairs_of (fields_of fs) ≡ fs
pairs-back [] = refl
pairs-back (f ∷ fs) = ap (λ gs. f ∷ gs) (pairs-back fs)

no-name : (f : PlainField) (n : ℕ) (ts : List (List ℕ)) → has f.0 ts ≡ false → list_any (same_name f) (numbered_from n ts) ≡ false
no-name f n [] h = refl
no-name f n (t ∷ ts) h = elim (cases_Bool (bytes_eq f.0 t)) [
  | inl e ↦ absurd (let k : true ≡ false = rw e at h in cc)
  | inr e ↦ rw e (no-name f (n + 1) ts (rw e at h))
]

all-last : (n : ℕ) (ts : List (List ℕ)) → IsSingle ts → last_ones same_name (numbered_from n ts) ≡ numbered_from n ts
all-last n [] h = refl
all-last n (t ∷ ts) h = rw (no-name (t, int (pos n)) (n + 1) ts h.0) (ap (λ fs. (t, int (pos n)) ∷ fs) (all-last (n + 1) ts h.1))

pub entries-back : (blocks : List Block) → entries_of (fields_of (numbered_from 0 (palette_of blocks))) ≡ numbered_from 0 (palette_of blocks)
unfolding entries_of palette_of
entries-back blocks =
    let ts : List (List ℕ) = first_ones (map state_text blocks) in
    ap (last_ones same_name) (pairs-back (numbered_from 0 ts)) ∙ all-last 0 ts (single-first_ones (map state_text blocks))

apart : (m n : ℕ) → m ≢ n → int_eq (pos m) (pos n) ≡ false
apart m n h = elim (cases_Bool (int_eq (pos m) (pos n))) [
  | inl e ↦ (let same : pos m ≡ pos n = (Decides-int_eq (pos m) (pos n)).0 e in let one : m ≡ n = cc in absurd (h one))
  | inr e ↦ e
]

no-number : (f : PlainField) (k n : ℕ) (ts : List (List ℕ)) → number_of f ≡ pos k → k < n → list_any (λ (other : PlainField). has_number (number_of other) f) (numbered_from n ts) ≡ false
no-number f k n [] e h = refl
no-number f k n (t ∷ ts) e h = rw (ap (int_eq (pos n)) e ∙ apart n k (λ q. absurd (omega (arith, q)))) (no-number f k (n + 1) ts e (omega arith))

no-clash : (n : ℕ) (ts : List (List ℕ)) → clash (numbered_from n ts) ≡ false
no-clash n [] = refl
no-clash n (t ∷ ts) = rw (no-number (t, int (pos n)) n (n + 1) ts refl (omega arith)) (no-clash (n + 1) ts)

pub palette-apart : (blocks : List Block) → clash (numbered_from 0 (palette_of blocks)) ≡ false
palette-apart blocks = no-clash 0 (palette_of blocks)

abbrev IsKnown : List ℕ → Type 0
IsKnown t = is_some (block_of t) ≡ true

abbrev IsListed : Block → Type 0
IsListed b = is_listed b ≡ true

all-known : (blocks : List Block) → AllByRecursion IsListed blocks → AllByRecursion IsKnown (map state_text blocks)
all-known [] h = tt
all-known (b ∷ blocks) h = (ap is_some (state_text-back b h.0), all-known blocks h.1)

none-unknown : (n : ℕ) (ts : List (List ℕ)) → AllByRecursion IsKnown ts → unknown_text (numbered_from n ts) ≡ None
none-unknown n [] h = refl
none-unknown n (t ∷ ts) h = rw h.0 (none-unknown (n + 1) ts h.1)

pub palette-known : (blocks : List Block) → AllByRecursion IsListed blocks → unknown_text (numbered_from 0 (palette_of blocks)) ≡ None
unfolding palette_of
palette-known blocks h = none-unknown 0 (first_ones (map state_text blocks)) (all-first_ones IsKnown (map state_text blocks) (all-known blocks h))

all-from_index : {A : Type 0} (P : A → Type 0) (xs : List A) (d : A) → ((i : ℕ) → i < length xs → P (get_or xs i d)) → AllByRecursion P xs
all-from_index P [] d h = tt
all-from_index P (x ∷ xs) d h = (h 0 (omega arith), all-from_index P xs d (λ i l. h (suc i) (omega arith)))

pub blocks-listed : (b : Plan) → IsWhole b → AllByRecursion IsListed b.blocks
blocks-listed b w = all-from_index IsListed b.blocks Air (λ i h. ap is_listed (sym (entry-place b b.blocks Air i (omega (arith, w.blocks, h)))) ∙ w.listed (place_of b i))

-- ---- the cells

find-number : (k : ℕ) (ts : List (List ℕ)) (t : List ℕ) → has t ts ≡ true → find (has_number (pos (k + number_in ts t))) (numbered_from k ts) ≡ Some (t, int (pos (k + number_in ts t)))
find-number k [] t h = absurd (cc)
find-number k (s ∷ ts) t h = elim (cases_Bool (bytes_eq t s)) [
  | inl e ↦ here (text_one t s e) e
  | inr e ↦ (let later : has t ts ≡ true = rw e at h in there e (find-number (k + 1) ts t later))
]
  where
    here : t ≡ s → bytes_eq t s ≡ true → find (has_number (pos (k + number_in (s ∷ ts) t))) (numbered_from k (s ∷ ts)) ≡ Some (t, int (pos (k + number_in (s ∷ ts) t)))
    here q e =
        let at : k + number_in (s ∷ ts) t ≡ k = rw e (omega arith) in
        let yes : int_eq (pos k) (pos k) ≡ true = (Decides-int_eq (pos k) (pos k)).1 refl in
        rw at (rw yes (ap (λ u. Some (u, int (pos k))) (sym q)))

    there : bytes_eq t s ≡ false → find (has_number (pos ((k + 1) + number_in ts t))) (numbered_from (k + 1) ts) ≡ Some (t, int (pos ((k + 1) + number_in ts t))) →
        find (has_number (pos (k + number_in (s ∷ ts) t))) (numbered_from k (s ∷ ts)) ≡ Some (t, int (pos (k + number_in (s ∷ ts) t)))
    there e rest =
        let at : k + number_in (s ∷ ts) t ≡ (k + 1) + number_in ts t = rw e (omega arith) in
        let no : int_eq (pos ((k + 1) + number_in ts t)) (pos k) ≡ false = apart ((k + 1) + number_in ts t) k (λ q. absurd (omega (arith, q))) in
        subst (λ (m : ℕ). find (has_number (pos m)) (numbered_from k (s ∷ ts)) ≡ Some (t, int (pos m))) (sym at) (rw no rest)

numbered-back : (ts : List (List ℕ)) (block : Block) → is_listed block ≡ true → has (state_text block) ts ≡ true → block_numbered (numbered_from 0 ts) (pos (number_in ts (state_text block))) ≡ Some block
numbered-back ts block h there =
    let t : List ℕ = state_text block in
    let start : 0 + number_in ts t ≡ number_in ts t = omega arith in
    let found : find (has_number (pos (number_in ts t))) (numbered_from 0 ts) ≡ Some (t, int (pos (number_in ts t))) =
    subst (λ (n : ℕ). find (has_number (pos n)) (numbered_from 0 ts) ≡ Some (t, int (pos n))) start (find-number 0 ts t there) in
    rw (found, state_text-back block h) refl

-- the bytes of some cells, where the palette has their texts
no-fault : (ts : List (List ℕ)) (place : ℕ) (blocks : List Block) → length ts < 2 ^ 35 → AllByRecursion IsListed blocks → ((d : List ℕ) → has d (map state_text blocks) ≡ true → has d ts ≡ true) →
    fault_from (block_numbered (numbered_from 0 ts)) place (length blocks) (varints (cells_by ts (map state_text blocks))) ≡ None
no-fault ts place [] l h c = refl
no-fault ts place (b ∷ blocks) l h c =
    let t : List ℕ = state_text b in
    let n : ℕ = number_in ts t in
    let f : ℤ → Option Block = block_numbered (numbered_from 0 ts) in
    let behind : List ℕ = cells_by ts (map state_text blocks) in
    let there : has t ts ≡ true = c t (rw (text_itself t) refl) in
    fault_next f place (length blocks) n (varint n ++ behind) behind b (varint-first n behind (omega (arith, number_in-le ts t))) (numbered-back ts b h.0 there)
    ∙ no-fault ts (place + (length (varint n ++ behind) - length behind)) blocks l h.1 (λ d e. c d (more d e))
  where
    more : (d : List ℕ) → has d (map state_text blocks) ≡ true → has d (map state_text (b ∷ blocks)) ≡ true
    more d e = elim (cases_Bool (bytes_eq d (state_text b))) [ inl k ↦ rw k refl | inr k ↦ rw (k, e) refl ]

all-back : (ts : List (List ℕ)) (blocks : List Block) → length ts < 2 ^ 35 → AllByRecursion IsListed blocks → ((d : List ℕ) → has d (map state_text blocks) ≡ true → has d ts ≡ true) →
    map (λ v. block_or_air (block_numbered (numbered_from 0 ts) (pos (value_of v)))) (varints (cells_by ts (map state_text blocks))) ≡ blocks
all-back ts [] l h c = refl
all-back ts (b ∷ blocks) l h c =
    let t : List ℕ = state_text b in
    let n : ℕ = number_in ts t in
    let f : ℤ → Option Block = block_numbered (numbered_from 0 ts) in
    let behind : List ℕ = cells_by ts (map state_text blocks) in
    let there : has t ts ≡ true = c t (rw (text_itself t) refl) in
    blocks_next f n (varint n ++ behind) behind b (varint-first n behind (omega (arith, number_in-le ts t))) (numbered-back ts b h.0 there)
    ∙ ap (λ bs. b ∷ bs) (all-back ts blocks l h.1 (λ d e. c d (more d e)))
  where
    more : (d : List ℕ) → has d (map state_text blocks) ≡ true → has d (map state_text (b ∷ blocks)) ≡ true
    more d e = elim (cases_Bool (bytes_eq d (state_text b))) [ inl k ↦ rw k refl | inr k ↦ rw (k, e) refl ]

few : (blocks : List Block) → length blocks ≤ 2 ^ 24 → length (first_ones (map state_text blocks)) < 2 ^ 35
few blocks h = omega (arith, length-first_ones (map state_text blocks), length-map blocks state_text)

pub cells-right : (blocks : List Block) → length blocks ≤ 2 ^ 24 → AllByRecursion IsListed blocks → cells_fault (block_numbered (numbered_from 0 (palette_of blocks))) (length blocks) (cells_of blocks) ≡ None
unfolding cells_fault palette_of cells_of
cells-right blocks l h =
    no-fault (first_ones (map state_text blocks)) 0 blocks (few blocks l) h (λ d e. has-first_ones d (map state_text blocks) ∙ e)

pub cells-back : (blocks : List Block) → length blocks ≤ 2 ^ 24 → AllByRecursion IsListed blocks → blocks_of (block_numbered (numbered_from 0 (palette_of blocks))) (cells_of blocks) ≡ blocks
unfolding blocks_of palette_of cells_of
cells-back blocks l h =
    all-back (first_ones (map state_text blocks)) blocks (few blocks l) h (λ d e. has-first_ones d (map state_text blocks) ∙ e)
