-- Links with a gap between those that were kept and those that are still to be judged.
use Rattle.std.proofs.Common.{◌≡◌, ℕ, zero, suc, ◌+◌, ◌<◌, ◌≤◌, List, [], ◌∷◌, Option, Some, None, refl, sym, ap, ◌∙◌, subst, arith, set, take, drop, length}
use Rattle.std.specs.Prelude.{remove, slice_get}
use Rattle.std.proofs.lemmas.List.{length-take-le, length-drop, length-append, length-set}
use Rattle.graph.specs.declared.Link.{Link}
use Rattle.graph.specs.Links.{in_groups}
use Rattle.graph.specs.Sieving.{Sieve, without_gap}
use Rattle.graph.proofs.GroupSteps.{in_groups-remove}
use Rattle.graph.proofs.LinkSteps.{beyond_links}

-- the link behind those that were kept
pub gap_link : (links : List Link) (kept judged : ℕ) → kept ≤ judged → judged ≤ length links → slice_get (without_gap links kept judged) kept ≡ slice_get links judged
gap_link links zero zero k j = refl
gap_link [] zero (suc judged) k j = absurd (omega arith)
gap_link (l ∷ links) zero (suc judged) k j = gap_link links zero judged (omega arith) (omega arith)
gap_link links (suc kept) zero k j = absurd (omega arith)
gap_link [] (suc kept) (suc judged) k j = absurd (omega arith)
gap_link (l ∷ links) (suc kept) (suc judged) k j = gap_link links kept judged (omega arith) (omega arith)

behind_gap : (links : List Link) (judged : ℕ) (link : Link) → slice_get links judged ≡ Some link → drop judged links ≡ link ∷ drop (suc judged) links
behind_gap [] judged link e = absurd (cc)
behind_gap (l ∷ links) zero link e = let same : l ≡ link = cc in ap (λ (x : Link). x ∷ links) same
behind_gap (l ∷ links) (suc judged) link e = behind_gap links judged link e

-- one that is kept goes to the end of those that were kept
pub gap_keep : (links : List Link) (kept judged : ℕ) (link : Link) → kept ≤ judged → slice_get links judged ≡ Some link → without_gap (set links kept link) (suc kept) (suc judged) ≡ without_gap links kept judged
gap_keep [] kept judged link k e = absurd (cc)
gap_keep (l ∷ links) zero zero link k e = let same : l ≡ link = cc in ap (λ (x : Link). x ∷ links) (sym same)
gap_keep (l ∷ links) zero (suc judged) link k e = sym (behind_gap links judged link e)
gap_keep (l ∷ links) (suc kept) zero link k e = absurd (omega arith)
gap_keep (l ∷ links) (suc kept) (suc judged) link k e = ap (λ xs. l ∷ xs) (gap_keep links kept judged link (omega arith) e)

-- one that is dropped is left out
pub gap_discard : (links : List Link) (kept judged : ℕ) → kept ≤ judged → judged < length links → without_gap links kept (suc judged) ≡ remove (without_gap links kept judged) kept
gap_discard [] kept judged k j = absurd (omega arith)
gap_discard (l ∷ links) zero zero k j = refl
gap_discard (l ∷ links) zero (suc judged) k j = gap_discard links zero judged (omega arith) (omega arith)
gap_discard (l ∷ links) (suc kept) zero k j = absurd (omega arith)
gap_discard (l ∷ links) (suc kept) (suc judged) k j = ap (λ xs. l ∷ xs) (gap_discard links kept judged (omega arith) (omega arith))

pub gap_length : (links : List Link) (kept judged : ℕ) → kept ≤ judged → judged ≤ length links → length (without_gap links kept judged) + judged ≡ kept + length links
gap_length links kept judged k j = rw (length-append (take kept links) (drop judged links), length-take-le kept links (omega arith), length-drop judged links) (omega arith)

abbrev walk : List Link → ℕ → Sieve
walk items index = record { items = items; index = index }

one_more : (n : ℕ) → n + 1 ≡ suc n
one_more n = omega arith

-- a walk in which a link is left to be judged
pub one_left : (s : Sieve) (links : List Link) (kept judged : ℕ) → walk (without_gap links kept judged) kept ≡ s → kept ≤ judged → judged ≤ length links → s.index < length s.items → judged < length links
one_left s links kept judged e k j h =
    let here : kept < length (without_gap links kept judged) = subst (λ (one : Sieve). one.index < length one.items) (sym e) h in
    omega (arith, here, gap_length links kept judged k j)

-- after it was dropped
pub discarded : (s : Sieve) (links : List Link) (kept judged : ℕ) → walk (without_gap links kept judged) kept ≡ s → kept ≤ judged → judged < length links →
    walk (without_gap links kept (judged + 1)) kept ≡ walk (remove s.items s.index) s.index
discarded s links kept judged e k j =
    ap (λ (items : List Link). walk items kept) (ap (without_gap links kept) (one_more judged) ∙ gap_discard links kept judged k j)
    ∙ ap (λ (one : Sieve). walk (remove one.items one.index) one.index) e

pub stored_discarded : (links : List Link) (kept judged : ℕ) → in_groups (without_gap links kept judged) ≡ without_gap links kept judged → kept ≤ judged → judged < length links →
    in_groups (without_gap links kept (judged + 1)) ≡ without_gap links kept (judged + 1)
stored_discarded links kept judged groups k j =
    subst (λ (items : List Link). in_groups items ≡ items) (sym (ap (without_gap links kept) (one_more judged) ∙ gap_discard links kept judged k j)) (in_groups-remove (without_gap links kept judged) kept groups)

-- after it was kept
kept_on : (links new : List Link) (kept judged : ℕ) → ((link : Link) → slice_get links judged ≡ Some link → new ≡ set links kept link) → kept ≤ judged → judged < length links →
    (without_gap new (kept + 1) (judged + 1) ≡ without_gap links kept judged) × (length new ≡ length links)
kept_on links new kept judged h k j = by_link (slice_get links judged) refl
  where
    by_link : (found : Option Link) → slice_get links judged ≡ found → (without_gap new (kept + 1) (judged + 1) ≡ without_gap links kept judged) × (length new ≡ length links)
    by_link None none = absurd (omega (arith, beyond_links links judged none))
    by_link (Some link) here = (
      (λ i. without_gap (h link here i) (one_more kept i) (one_more judged i)) ∙ gap_keep links kept judged link k here,
      ap (λ (xs : List Link). length xs) (h link here) ∙ length-set links kept link,
    )

pub was_kept : (s : Sieve) (links new : List Link) (kept judged : ℕ) → walk (without_gap links kept judged) kept ≡ s →
    ((link : Link) → slice_get links judged ≡ Some link → new ≡ set links kept link) → kept ≤ judged → judged < length links →
    walk (without_gap new (kept + 1) (judged + 1)) (kept + 1) ≡ walk s.items (s.index + 1)
was_kept s links new kept judged e h k j =
    ap (λ (items : List Link). walk items (kept + 1)) (kept_on links new kept judged h k j).0 ∙ ap (λ (one : Sieve). walk one.items (one.index + 1)) e

pub stored_kept : (links new : List Link) (kept judged : ℕ) → ((link : Link) → slice_get links judged ≡ Some link → new ≡ set links kept link) → kept ≤ judged → judged < length links →
    in_groups (without_gap links kept judged) ≡ without_gap links kept judged →
    (in_groups (without_gap new (kept + 1) (judged + 1)) ≡ without_gap new (kept + 1) (judged + 1)) × (length new ≡ length links)
stored_kept links new kept judged h k j groups =
    let e = kept_on links new kept judged h k j in
    (subst (λ (items : List Link). in_groups items ≡ items) (sym e.0) groups, e.1)
