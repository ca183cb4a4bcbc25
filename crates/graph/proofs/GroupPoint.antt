-- Where the Side links of a node begin.
use Rattle.std.proofs.Common.{◌≡◌, ℕ, zero, suc, ◌≤◌, ◌<◌, true, false, List, [], ◌∷◌, ◌++◌, sym, ap, ◌∙◌, arith, length, inl, inr, subst}
use Rattle.std.specs.Prelude.{filter, count_by}
use Rattle.std.proofs.lemmas.List.Sums.{length-filter}
use Rattle.std.proofs.lemmas.Bool.{cases_Bool, false≢true}
use Rattle.std.specs.List.{slice_index_or}
use Rattle.std.specs.List.Sorted.{IsPartitionPoint, IsPartitionedBy}
use Rattle.graph.specs.declared.Group.TheVariants.{Back, Side}
use Rattle.graph.specs.declared.Link.{Link}
use Rattle.graph.specs.Links.{of_group, in_groups}
use Rattle.graph.proofs.GroupSteps.{side_is_not_back}

-- no link of the list is one of the back
abbrev HasNoBack : List Link → Type 0
HasNoBack links = (j : ℕ) (d : Link) → j < length links → of_group Back (slice_index_or links j d) ≡ false

first_alone : (link : Link) (links : List Link) → of_group Back link ≡ false → HasNoBack links → HasNoBack (link ∷ links)
first_alone link links h none zero d lt = h
first_alone link links h none (suc j) d lt = none j d (omega arith)

side_links_alone : (links : List Link) → HasNoBack (filter (of_group Side) links)
side_links_alone [] = λ j d lt. absurd (omega arith)
side_links_alone (link ∷ links) = elim (cases_Bool (of_group Side link)) [
  | inl h ↦ rw h (first_alone link (filter (of_group Side) links) (side_is_not_back link.group h) (side_links_alone links))
  | inr h ↦ rw h (side_links_alone links)
]

one_more : (link : Link) (links : List Link) → of_group Back link ≡ true → IsPartitionedBy (of_group Back) links → IsPartitionedBy (of_group Back) (link ∷ links)
one_more link links h parted zero j d le lt e = h
one_more link links h parted (suc i) zero d le lt e = absurd (omega arith)
one_more link links h parted (suc i) (suc j) d le lt e = parted i j d (omega arith) (omega arith) e

back_first : (links others : List Link) → HasNoBack others → IsPartitionedBy (of_group Back) (filter (of_group Back) links ++ others)
back_first [] others none = λ i j d le lt e. absurd (false≢true (sym (none j d lt) ∙ e))
back_first (link ∷ links) others none = elim (cases_Bool (of_group Back link)) [
  | inl h ↦ rw h (one_more link (filter (of_group Back) links ++ others) h (back_first links others none))
  | inr h ↦ rw h (back_first links others none)
]

pub groups_parted : (links : List Link) → in_groups links ≡ links → IsPartitionedBy (of_group Back) links
groups_parted links h = subst (IsPartitionedBy (of_group Back)) h (back_first links (filter (of_group Side) links) (side_links_alone links))

abbrev Parts : List Link → ℕ → Type 0
Parts links i = IsPartitionPoint (λ link. of_group Back link ≡ true) (λ link. of_group Back link ≡ false) links i

first_left : (link : Link) (links : List Link) → Parts (link ∷ links) 0 → Parts links 0
first_left link links parts = (λ k d low high. absurd (omega arith), λ k d low high. parts.1 (suc k) d (omega arith) (omega arith))

first_right : (link : Link) (links : List Link) (i : ℕ) → Parts (link ∷ links) (suc i) → Parts links i
first_right link links i parts = (λ k d low high. parts.0 (suc k) d (omega arith) (omega arith), λ k d low high. parts.1 (suc k) d (omega arith) (omega arith))

point_filters : (links : List Link) (i : ℕ) → i ≤ length links → Parts links i → i ≡ length (filter (of_group Back) links)
point_filters [] i le parts = omega arith
point_filters (link ∷ links) zero le parts =
    let h : of_group Back link ≡ false = parts.1 0 link (omega arith) (omega arith) in
    rw h (point_filters links zero (omega arith) (first_left link links parts))
point_filters (link ∷ links) (suc i) le parts =
    let h : of_group Back link ≡ true = parts.0 0 link (omega arith) (omega arith) in
    rw h (ap suc (point_filters links i (omega arith) (first_right link links i parts)))

-- so many links stand before that point
pub point_counts : (links : List Link) (i : ℕ) → i ≤ length links → Parts links i → i ≡ count_by (of_group Back) links
point_counts links i le parts = point_filters links i le parts ∙ length-filter (of_group Back) links
