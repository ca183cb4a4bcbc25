-- Rows of links one behind another: where each stands, and one row more.
use Rattle.std.proofs.Common.{◌≡◌, ℕ, zero, suc, ◌+◌, ◌-◌, ◌<◌, ◌≤◌, ◌^◌, List, [], ◌∷◌, ◌++◌, length, length-append, length-take, length-drop, get_or, take, drop, refl, sym, subst, ap, ◌∙◌, arith, inl, inr}
use Rattle.std.proofs.Math.Seq.{get_or-append_seam, drop-append_seam}
use Rattle.std.proofs.lemmas.Bool.{cases_lt}
use Rattle.std.proofs.lemmas.List.{get_or-drop, get_or-take, get_or_append_left, take_all, take-append-le, drop-append-le}
use Rattle.graph_machine.specs.declared.links.OutLink.{OutLink}
use Rattle.graph_machine.specs.Counted.{row}
use Rattle.graph_machine.specs.Packed.{part, rows_from, start_at, IsPacked}

next_start : (start end : ℕ) (ends : List ℕ) (from : ℕ) → start_at end ends from ≡ start_at start (end ∷ ends) (suc from)
next_start start end ends zero = refl
next_start start end ends (suc from) = refl

pub length-rows : (start : ℕ) (ends : List ℕ) (links : List OutLink) → length (rows_from start ends links) ≡ length ends
length-rows start [] links = refl
length-rows start (end ∷ ends) links = ap suc (length-rows end ends links)

row_from : (start : ℕ) (ends : List ℕ) (links : List OutLink) (from : ℕ) → from < length ends → row (rows_from start ends links) from ≡ part links (start_at start ends from) (get_or ends from 0)
row_from start [] links from inside = absurd (omega arith)
row_from start (end ∷ ends) links zero inside = refl
row_from start (end ∷ ends) links (suc from) inside = row_from end ends links from (omega arith) ∙ ap (λ s. part links s (get_or ends from 0)) (next_start start end ends from)

length-part : (links : List OutLink) (start end : ℕ) → end ≤ length links → length (part links start end) ≡ end - start
length-part links start end within = omega (arith, length-take (end - start) (drop start links), length-drop start links, within)

-- ---- the links of a node

module _ (ends : List ℕ) (links : List OutLink) (packed : IsPacked ends links) (from : ℕ) (inside : from < length ends) where
  pub length-row : length (row (rows_from 0 ends links) from) ≡ get_or ends from 0 - start_at 0 ends from
  length-row = ap (λ l. length l) (row_from 0 ends links from inside) ∙ length-part links (start_at 0 ends from) (get_or ends from 0) (packed.within from inside)

  pub link_inside : (index : ℕ) → index < length (row (rows_from 0 ends links) from) → start_at 0 ends from + index < length links
  link_inside index below = omega (arith, below, length-row, packed.rising from inside, packed.within from inside)

  pub link_is : (index : ℕ) (d : OutLink) → index < length (row (rows_from 0 ends links) from) → get_or (row (rows_from 0 ends links) from) index d ≡ get_or links (start_at 0 ends from + index) d
  link_is index d below = ap (λ l. get_or l index d) (row_from 0 ends links from inside)
      ∙ get_or-take (get_or ends from 0 - start_at 0 ends from) (drop (start_at 0 ends from) links) index d (omega (arith, below, length-row)) ∙ get_or-drop (start_at 0 ends from) links index d

-- ---- one row more

pub packed_none : IsPacked [] []
packed_none = record { rising = λ from inside. absurd (omega arith); within = λ from inside. absurd (omega arith); few = omega arith }

part_stays : (links more : List OutLink) (start end : ℕ) → start ≤ length links → end ≤ length links → part (links ++ more) start end ≡ part links start end
part_stays links more start end low high = ap (take (end - start)) (drop-append-le start links more low) ∙ take-append-le (end - start) (drop start links) more (omega (arith, length-drop start links, low, high))

pub rows-push : (start : ℕ) (ends : List ℕ) (links more : List OutLink) (end : ℕ) → end ≡ length (links ++ more) → start ≤ length links → ((from : ℕ) → from < length ends → get_or ends from 0 ≤ length links) → start_at start ends (length ends) ≡ length links →
    rows_from start (ends ++ end ∷ []) (links ++ more) ≡ rows_from start ends links ++ more ∷ []
rows-push start [] links more end is low within last = ap (λ l. l ∷ []) whole
  where
    rest : drop start (links ++ more) ≡ more
    rest = ap (λ n. drop n (links ++ more)) last ∙ drop-append_seam links more

    whole : part (links ++ more) start end ≡ more
    whole = ap (take (end - start)) rest ∙ take_all (end - start) more (omega (arith, is, last, length-append links more))
rows-push start (first ∷ ends) links more end is low within last =
    let high : first ≤ length links = within 0 (omega arith) in
    let rest = rows-push first ends links more end is high (λ from below. within (suc from) (omega arith)) (next_start start first ends (length ends) ∙ last) in
    λ i. part_stays links more start first low high i ∷ rest i

module _ (ends : List ℕ) (links more : List OutLink) (end : ℕ) (packed : IsPacked ends links) (last : start_at 0 ends (length ends) ≡ length links) (is : end ≡ length (links ++ more)) where
  long : length (ends ++ end ∷ []) ≡ length ends + 1
  long = length-append ends (end ∷ [])

  longer : length links ≤ end
  longer = omega (arith, is, length-append links more)

  at_old : (from : ℕ) → from < length ends → get_or (ends ++ end ∷ []) from 0 ≡ get_or ends from 0
  at_old from below = get_or_append_left ends (end ∷ []) 0 from below

  at_end : get_or (ends ++ end ∷ []) (length ends) 0 ≡ end
  at_end = get_or-append_seam ends end [] 0

  start_old : (from : ℕ) → from ≤ length ends → start_at 0 (ends ++ end ∷ []) from ≡ start_at 0 ends from
  start_old zero below = refl
  start_old (suc from) below = at_old from (omega arith)

  pub packed_more : length (links ++ more) ≤ 2 ^ 31 → IsPacked (ends ++ end ∷ []) (links ++ more)
  packed_more few = record {
    rising = λ from below. elim (cases_lt from (length ends)) [
      | inl old ↦ omega (arith, start_old from (omega (arith, old)), at_old from old, packed.rising from old)
      | inr new ↦
          (let here : from ≡ length ends = omega (arith, below, long, new) in
          let starts : start_at 0 (ends ++ end ∷ []) from ≡ length links = start_old from (omega (arith, here)) ∙ ap (start_at 0 ends) here ∙ last in
          let finishes : get_or (ends ++ end ∷ []) from 0 ≡ end = ap (λ k. get_or (ends ++ end ∷ []) k 0) here ∙ at_end in
          omega (arith, starts, finishes, longer))
    ];
    within = λ from below. elim (cases_lt from (length ends)) [
      | inl old ↦ omega (arith, at_old from old, packed.within from old, longer, is)
      | inr new ↦
          (let here : from ≡ length ends = omega (arith, below, long, new) in
          let finishes : get_or (ends ++ end ∷ []) from 0 ≡ end = ap (λ k. get_or (ends ++ end ∷ []) k 0) here ∙ at_end in
          omega (arith, finishes, is))
    ];
    few = few;
  }

  pub last_more : start_at 0 (ends ++ end ∷ []) (length (ends ++ end ∷ [])) ≡ length (links ++ more)
  last_more = let next : length (ends ++ end ∷ []) ≡ suc (length ends) = omega (arith, long) in ap (start_at 0 (ends ++ end ∷ [])) next ∙ at_end ∙ is

-- what holds after one row more
pub record PackedMore (ends : List ℕ) (links : List OutLink) (rows : List (List OutLink)) : Type 0 where
  pub packed : IsPacked ends links
  pub last : start_at 0 ends (length ends) ≡ length links
  pub rows_are : rows_from 0 ends links ≡ rows

pub packed_step : (ends next_ends : List ℕ) (links more next_links : List OutLink) (end : ℕ) → IsPacked ends links → start_at 0 ends (length ends) ≡ length links → next_ends ≡ ends ++ end ∷ [] → next_links ≡ links ++ more →
    end ≡ length next_links → length next_links ≤ 2 ^ 31 → PackedMore next_ends next_links (rows_from 0 ends links ++ more ∷ [])
packed_step ends next_ends links more next_links end packed last put added is few =
    let here : end ≡ length (links ++ more) = is ∙ ap (λ l. length l) added in
    let base : PackedMore (ends ++ end ∷ []) (links ++ more) (rows_from 0 ends links ++ more ∷ []) = record {
      packed = packed_more ends links more end packed last here (subst (λ l. length l ≤ 2147483648) added few);
      last = last_more ends links more end packed last here;
      rows_are = rows-push 0 ends links more end here (omega arith) packed.within last;
    } in
    subst (λ l. PackedMore next_ends l (rows_from 0 ends links ++ more ∷ [])) (sym added) (subst (λ e. PackedMore e (links ++ more) (rows_from 0 ends links ++ more ∷ [])) (sym put) base)

-- ---- the calls

module _ (ends : List ℕ) (links : List OutLink) (rows : List (List OutLink)) (from start : ℕ) (packed : IsPacked ends links) (view : rows_from 0 ends links ≡ rows) (inside : from < length rows) (starts : start ≡ start_at 0 ends from) where
  pub inside_ends : from < length ends
  inside_ends = omega (arith, inside, ap (λ l. length l) view, length-rows 0 ends links)

  row_is : row (rows_from 0 ends links) from ≡ row rows from
  row_is = ap (λ l. row l from) view

  pub count_is : (end : ℕ) → end ≡ get_or ends from 0 → (start ≤ end) × (end ≤ 2 ^ 31) × (end - start ≡ length (row rows from))
  count_is end finishes = (
    omega (arith, starts, finishes, packed.rising from inside_ends),
    omega (arith, finishes, packed.within from inside_ends, packed.few),
    omega (arith, starts, finishes, length-row ends links packed from inside_ends, ap (λ l. length l) row_is),
  )

  module _ (index : ℕ) (below : index < length (row rows from)) where
    below_row : index < length (row (rows_from 0 ends links) from)
    below_row = omega (arith, below, ap (λ l. length l) row_is)

    pub place_inside : (start + index < length links) × (length links ≤ 2 ^ 31)
    place_inside = (omega (arith, starts, link_inside ends links packed from inside_ends index below_row), packed.few)

    pub link_there : (d : OutLink) → get_or links (start + index) d ≡ get_or (row rows from) index d
    link_there d = ap (λ s. get_or links (s + index) d) starts ∙ sym (link_is ends links packed from inside_ends index d below_row) ∙ ap (λ l. get_or l index d) row_is
