-- Links in their groups.
use Rattle.std.proofs.Common.{◌≡◌, ℕ, zero, suc, ◌≤◌, Bool, true, false, List, [], ◌∷◌, ◌++◌, refl, sym, ap, ap₂, ◌∙◌, arith, map, length, take, drop, append_assoc, length-append, cond, inl, inr, subst}
use Rattle.std.specs.Prelude.{filter, remove, insert, count_by, not}
use Rattle.std.proofs.lemmas.Bool.{cases_Bool, false≢true}
use Rattle.std.proofs.lemmas.List.Filters.{length-filter_both}
use Rattle.std.proofs.lemmas.List.{append-nil, map-append, length-take, length-drop}
use Rattle.std.proofs.lemmas.List.Elements.{filter-append}
use Rattle.std.proofs.lemmas.List.Sums.{length-filter}
use Rattle.graph.specs.declared.Group.{Group}
use Rattle.graph.specs.declared.Group.TheVariants.{Back, Side}
use Rattle.graph.specs.declared.Link.{Link}
use Rattle.graph.specs.Edits.{renamed_link}
use Rattle.graph.specs.Links.{is_group, of_group, in_groups}

-- a link put between two lists
take_front : (xs ys : List Link) → take (length xs) (xs ++ ys) ≡ xs
take_front [] ys = refl
take_front (x ∷ xs) ys = ap (λ zs. x ∷ zs) (take_front xs ys)

drop_front : (xs ys : List Link) → drop (length xs) (xs ++ ys) ≡ ys
drop_front [] ys = refl
drop_front (x ∷ xs) ys = drop_front xs ys

insert_between : (xs ys : List Link) (link : Link) → insert (xs ++ ys) (length xs) link ≡ xs ++ link ∷ ys
insert_between xs ys link = ap₂ (λ front back. front ++ link ∷ back) (take_front xs ys) (drop_front xs ys)

-- what a group has of one link
one : (group other : Group) (link : Link) → link.group ≡ other → filter (of_group group) (link ∷ []) ≡ cond (is_group group other) (link ∷ []) []
one group other link e = ap (λ g. cond (is_group group g) (link ∷ []) []) e

-- what the groups are with one link more
groups_more : (links : List Link) (link : Link) (group : Group) → link.group ≡ group →
    in_groups (links ++ link ∷ []) ≡ (filter (of_group Back) links ++ cond (is_group Back group) (link ∷ []) []) ++ (filter (of_group Side) links ++ cond (is_group Side group) (link ∷ []) [])
groups_more links link group e =
    ap₂ (λ xs ys. xs ++ ys)
    (filter-append (of_group Back) links (link ∷ []) ∙ ap (λ ys. filter (of_group Back) links ++ ys) (one Back group link e))
    (filter-append (of_group Side) links (link ∷ []) ∙ ap (λ ys. filter (of_group Side) links ++ ys) (one Side group link e))

-- a Back link goes in behind the Back links
pub insert_back : (links : List Link) (link : Link) → in_groups links ≡ links → link.group ≡ Back → insert links (count_by (of_group Back) links) link ≡ in_groups (links ++ link ∷ [])
insert_back links link h b =
    let b_links : List Link = filter (of_group Back) links in
    let s_links : List Link = filter (of_group Side) links in
    ap₂ (λ n xs. insert xs n link) (sym (length-filter (of_group Back) links)) (sym h) ∙ insert_between b_links s_links link
    ∙ ap (λ ys. b_links ++ link ∷ ys) (sym (append-nil s_links)) ∙ sym (append_assoc b_links (link ∷ []) (s_links ++ [])) ∙ sym (groups_more links link Back b)

-- a Side link goes in behind all
pub insert_side : (links : List Link) (link : Link) → in_groups links ≡ links → link.group ≡ Side → insert links (length links) link ≡ in_groups (links ++ link ∷ [])
insert_side links link h s =
    let b_links : List Link = filter (of_group Back) links in
    let s_links : List Link = filter (of_group Side) links in
    ap (λ xs. insert xs (length links) link) (sym (append-nil links)) ∙ insert_between links [] link ∙ ap (λ xs. xs ++ link ∷ []) (sym h)
    ∙ append_assoc b_links s_links (link ∷ []) ∙ ap (λ xs. xs ++ (s_links ++ link ∷ [])) (sym (append-nil b_links)) ∙ sym (groups_more links link Side s)

-- putting in groups once is enough
filter_again : (p : Link → Bool) (links : List Link) → filter p (filter p links) ≡ filter p links
filter_again p [] = refl
filter_again p (link ∷ links) = elim (cases_Bool (p link)) [
  | inl h ↦ rw (h, h) (ap (λ xs. link ∷ xs) (filter_again p links))
  | inr h ↦ rw h (filter_again p links)
]

-- what passes one test fails the other
filter_apart : (p q : Link → Bool) → ((link : Link) → p link ≡ true → q link ≡ false) → (links : List Link) → filter q (filter p links) ≡ []
filter_apart p q apart [] = refl
filter_apart p q apart (link ∷ links) = elim (cases_Bool (p link)) [
  | inl h ↦ rw (h, apart link h) (filter_apart p q apart links)
  | inr h ↦ rw h (filter_apart p q apart links)
]

back_is_not_side : (group : Group) → is_group Back group ≡ true → is_group Side group ≡ false
back_is_not_side Back h = refl
back_is_not_side Side h = absurd (cc)

pub side_is_not_back : (group : Group) → is_group Side group ≡ true → is_group Back group ≡ false
side_is_not_back Side h = refl
side_is_not_back Back h = absurd (cc)

pub in_groups-twice : (links : List Link) → in_groups (in_groups links) ≡ in_groups links
in_groups-twice links =
    let b_links : List Link = filter (of_group Back) links in
    let s_links : List Link = filter (of_group Side) links in
    ap₂ (λ xs ys. xs ++ ys)
    (filter-append (of_group Back) b_links s_links ∙ ap₂ (λ xs ys. xs ++ ys) (filter_again (of_group Back) links) (filter_apart (of_group Side) (of_group Back) (λ link. side_is_not_back link.group) links) ∙ append-nil b_links)
    (filter-append (of_group Side) b_links s_links ∙ ap₂ (λ xs ys. xs ++ ys) (filter_apart (of_group Back) (of_group Side) (λ link. back_is_not_side link.group) links) (filter_again (of_group Side) links))

-- as many links as before
pub length-in_groups : (links : List Link) → length (in_groups links) ≡ length links
length-in_groups links = length-append (filter (of_group Back) links) (filter (of_group Side) links) ∙ length-filter_both (of_group Back) (of_group Side) (λ link. other link.group) links
  where
    other : (group : Group) → is_group Side group ≡ not (is_group Back group)
    other Back = refl
    other Side = refl

other_group : (link : Link) → of_group Side link ≡ not (of_group Back link)
other_group link = by_group link.group
  where
    by_group : (group : Group) → is_group Side group ≡ not (is_group Back group)
    by_group Back = refl
    by_group Side = refl

-- where no Back link is, all are Side links
sides_alone : (links : List Link) → filter (of_group Back) links ≡ [] → filter (of_group Side) links ≡ links
sides_alone [] h = refl
sides_alone (link ∷ links) h = elim (cases_Bool (of_group Back link)) [
  | inl b ↦ (let e : link ∷ filter (of_group Back) links ≡ [] = rw b at h in absurd (cc))
  | inr b ↦ (let e : filter (of_group Back) links ≡ [] = rw b at h in rw (other_group link, b) (ap (λ xs. link ∷ xs) (sides_alone links e)))
]

-- what is first among those that pass passes
filter_head : (p : Link → Bool) (links : List Link) (first : Link) (more : List Link) → filter p links ≡ first ∷ more → p first ≡ true
filter_head p [] first more h = absurd (cc)
filter_head p (link ∷ links) first more h = elim (cases_Bool (p link)) [
  | inl b ↦ (let e : link ∷ filter p links ≡ first ∷ more = rw b at h in let same : link ≡ first = cc in subst (λ l. p l ≡ true) same b)
  | inr b ↦ (let e : filter p links ≡ first ∷ more = rw b at h in filter_head p links first more e)
]

-- where none passes, none of the rest does
none_left : (p : Link → Bool) (links : List Link) (index : ℕ) → filter p links ≡ [] → filter p (remove links index) ≡ []
none_left p [] zero h = refl
none_left p [] (suc index) h = refl
none_left p (link ∷ links) zero h = elim (cases_Bool (p link)) [
  | inl b ↦ (let e : link ∷ filter p links ≡ [] = rw b at h in absurd (cc))
  | inr b ↦ rw b at h
]
none_left p (link ∷ links) (suc index) h = elim (cases_Bool (p link)) [
  | inl b ↦ (let e : link ∷ filter p links ≡ [] = rw b at h in absurd (cc))
  | inr b ↦ (let e : filter p links ≡ [] = rw b at h in rw b (none_left p links index e))
]

-- in a list in its groups that begins with a Side link no Back link is
no_back : (link : Link) (links : List Link) (found : List Link) → of_group Back link ≡ false → found ≡ filter (of_group Back) links → found ++ link ∷ filter (of_group Side) links ≡ link ∷ links → found ≡ []
no_back link links [] b e h = refl
no_back link links (first ∷ more) b e h =
    let same : first ≡ link = cc in
    absurd (false≢true (sym b ∙ subst (λ l. of_group Back l ≡ true) same (filter_head (of_group Back) links first more (sym e))))

-- dropping a link keeps the groups
pub in_groups-remove : (links : List Link) (index : ℕ) → in_groups links ≡ links → in_groups (remove links index) ≡ remove links index
in_groups-remove [] zero h = refl
in_groups-remove [] (suc index) h = refl
in_groups-remove (link ∷ links) zero h = elim (cases_Bool (of_group Back link)) [
  | inl b ↦ (let e : link ∷ in_groups links ≡ link ∷ links = rw (other_group link, b) at h in cc)
  | inr b ↦ (
      let e : filter (of_group Back) links ++ link ∷ filter (of_group Side) links ≡ link ∷ links = rw (other_group link, b) at h in
      let none : filter (of_group Back) links ≡ [] = no_back link links (filter (of_group Back) links) b refl e in
      ap₂ (λ xs ys. xs ++ ys) none (sides_alone links none))
]
in_groups-remove (link ∷ links) (suc index) h = elim (cases_Bool (of_group Back link)) [
  | inl b ↦ (
      let e : link ∷ in_groups links ≡ link ∷ links = rw (other_group link, b) at h in
      let rest : in_groups links ≡ links = cc in
      rw (other_group link, b) (ap (λ xs. link ∷ xs) (in_groups-remove links index rest)))
  | inr b ↦ (
      let e : filter (of_group Back) links ++ link ∷ filter (of_group Side) links ≡ link ∷ links = rw (other_group link, b) at h in
      let none : filter (of_group Back) links ≡ [] = no_back link links (filter (of_group Back) links) b refl e in
      let left : filter (of_group Back) (remove links index) ≡ [] = none_left (of_group Back) links index none in
      rw (other_group link, b) (ap₂ (λ xs ys. xs ++ link ∷ ys) left (sides_alone (remove links index) left)))
]

-- a new source keeps the groups
pub in_groups-renamed : (keep gone : ℕ) (links : List Link) → in_groups (map (renamed_link keep gone) links) ≡ map (renamed_link keep gone) (in_groups links)
in_groups-renamed keep gone links =
    ap₂ (λ xs ys. xs ++ ys) (of_one Back links) (of_one Side links) ∙ sym (map-append (renamed_link keep gone) (filter (of_group Back) links) (filter (of_group Side) links))
  where
    of_one : (group : Group) (links : List Link) → filter (of_group group) (map (renamed_link keep gone) links) ≡ map (renamed_link keep gone) (filter (of_group group) links)
    of_one group [] = refl
    of_one group (link ∷ links) = one_more (of_group group link) (of_one group links)
      where
        one_more : (b : Bool) → filter (of_group group) (map (renamed_link keep gone) links) ≡ map (renamed_link keep gone) (filter (of_group group) links) →
            cond b (renamed_link keep gone link ∷ filter (of_group group) (map (renamed_link keep gone) links)) (filter (of_group group) (map (renamed_link keep gone) links))
            ≡ map (renamed_link keep gone) (cond b (link ∷ filter (of_group group) links) (filter (of_group group) links))
        one_more true h = ap (λ xs. renamed_link keep gone link ∷ xs) h
        one_more false h = h

-- and makes the list no longer
pub length-remove_le : (links : List Link) (index : ℕ) → length (remove links index) ≤ length links
length-remove_le links index = rw (length-append (take index links) (drop (suc index) links), length-take index links, length-drop (suc index) links) (omega arith)
