-- What stands behind the last view: a line of counts or none, `end`, and nothing.
use Rattle.std.proofs.Common.{◌≡◌, ℕ, ◌+◌, ◌-◌, ◌<◌, ◌≤◌, not, true, false, List, [], ◌∷◌, ◌++◌, length, take, drop, length-append, length-drop, refl, sym, ◌∙◌, ap, ap₂, arith}
use Rattle.std.specs.Prelude.{codes}
use Rattle.std.specs.List.{list_all}
use Rattle.std.proofs.lemmas.Bool.{ne_eqb}
use Rattle.std.proofs.lemmas.List.{append_assoc, take_all}
use Rattle.report.specs.declared.OrderKind.TheVariants.{Trailing}
use Rattle.report.specs.Trailers.{world_trailer}
use Rattle.world_order.specs.declared.front.Bad.{Bad}
use Rattle.world_order.specs.declared.front.Front.{Front}
use Rattle.world_order.specs.BadLine.{StartsWith, begins_with}
use Rattle.world_order.specs.LineForms.{IsFirstLine}
use Rattle.world_order.specs.OrderText.{is_break, IsCounts, NoLine, OneLine}
use Rattle.world_order.specs.Reading.{IsFront, IsNoLine, IsBadEnd, Other, Behind, More, ReadsCounts, ReadsEnd, ReadsOn}
use Rattle.world_order.proofs.Expecting.{starts_from}
use Rattle.world_order.proofs.Pieces.{reads_on, reads_none, reads_long, rest_of}
use Rattle.world_order.proofs.Texts.{Lacks, head_same, tail_same}

-- a word that the body of a line begins with
body_after : (c : ℕ) (word : List ℕ) → Lacks c word → (body more rest : List ℕ) → Lacks c body → body ++ (c ∷ more) ≡ word ++ rest → (r : List ℕ) × (body ≡ word ++ r) × Lacks c r
body_after c [] w body more rest b e = (body, refl, b)
body_after c (x ∷ word) w [] more rest b e = absurd (w.0 (sym (head_same c x more (word ++ rest) e)))
body_after c (x ∷ word) w (y ∷ body) more rest b e =
    let r = body_after c word w.1 body more rest b.1 (tail_same y x (body ++ (c ∷ more)) (word ++ rest) e) in
    (r.0, ap₂ (λ one more. one ∷ more) (head_same y x (body ++ (c ∷ more)) (word ++ rest) e) r.1, r.2)

no_break : (r : List ℕ) → Lacks 10 r → list_all (λ b. not (is_break b)) r ≡ true
no_break [] h = refl
no_break (x ∷ r) h = rw (ne_eqb x 10 h.0) (no_break r h.1)

nodes_lack : Lacks 10 (codes "nodes ")
nodes_lack = (λ e. cc, (λ e. cc, (λ e. cc, (λ e. cc, (λ e. cc, (λ e. cc, tt))))))

pub counts_read : (text : List ℕ) (from to : Front) (len : ℕ) → IsFront text from → begins_with (codes "nodes ") (take (length text - from.at) (drop from.at text)) ≡ true →
    IsFirstLine (take (length text - from.at) (drop from.at text)) len → to ≡ record { at = from.at + len; tick = from.tick; fires = from.fires } → ReadsCounts text from to
counts_read text from to len f begins line e = record {
  counts = counts;
  counted = OneLine b.0 (no_break b.0 b.2);
  none = λ h. absurd (cc);
  reads = reads_on text from to counts line.more 0 0 f (sym (rest_of from.at text) ∙ whole) (ap (λ (x : Front). x.at) e ∙ ap (λ n. from.at + n) long)
      (omega (arith, ap (λ (x : Front). x.tick) e)) (omega (arith, ap (λ (x : Front). x.fires) e)) (omega arith);
}
  where
    rest : List ℕ
    rest = take (length text - from.at) (drop from.at text)

    s : StartsWith rest (codes "nodes ")
    s = starts_from (codes "nodes ") rest begins

    b : (r : List ℕ) × (line.body ≡ codes "nodes " ++ r) × Lacks 10 r
    b = body_after 10 (codes "nodes ") nodes_lack line.body line.more s.0 line.unbroken (sym line.is ∙ s.1)

    counts : List ℕ
    counts = codes "nodes " ++ (b.0 ++ codes "\n")

    same : line.body ++ (10 ∷ []) ≡ counts
    same = ap (λ x. x ++ (10 ∷ [])) b.1

    whole : rest ≡ counts ++ line.more
    whole = line.is ∙ sym (append_assoc line.body (10 ∷ []) line.more) ∙ ap (λ x. x ++ line.more) same

    long : len ≡ length counts
    long = line.long ∙ sym (length-append line.body (10 ∷ [])) ∙ ap (λ (x : List ℕ). length x) same

pub counts_none : (text : List ℕ) (from : Front) → IsFront text from → begins_with (codes "nodes ") (take (length text - from.at) (drop from.at text)) ≡ false → ReadsCounts text from from
counts_none text from f none = record {
  counts = [];
  counted = NoLine;
  none = λ h. ap (begins_with (codes "nodes ")) (sym (rest_of from.at text)) ∙ none;
  reads = reads_none text from f;
}

-- another line than `end` stands behind the counts
pub end_wrong : (text : List ℕ) (from mid : Front) (bad : Bad) → IsFront text from → ReadsCounts text from mid → IsNoLine text mid world_trailer bad → IsBadEnd text from bad
end_wrong text from mid bad f r n = go r.counts r.counted r.none r.reads
  where
    go : (counts : List ℕ) → IsCounts counts → (counts ≡ [] → begins_with (codes "nodes ") (drop from.at text) ≡ false) → ReadsOn text from mid counts 0 0 → IsBadEnd text from bad
    go counts NoLine none reads =
        let same : mid.at ≡ from.at = omega (arith, reads_long text from mid [] 0 0 f reads) in
        Other (none refl) (record { here = record { at = n.here.at ∙ same; tick = omega (arith, n.here.tick, reads.tick); within = n.here.within }; is = n.is })
    go counts (OneLine q lacks) none reads =
        Behind (codes "nodes " ++ (q ++ codes "\n")) (OneLine q lacks) (λ h. cc) (ap (λ k. take k text) n.here.at ∙ reads.front) n.here.within (omega (arith, n.here.tick, reads.tick)) n.is

both_read : (text : List ℕ) (from mid last : Front) (counts : List ℕ) → ReadsOn text from mid counts 0 0 → ReadsOn text mid last world_trailer 0 0 → take last.at text ≡ take from.at text ++ (counts ++ world_trailer)
both_read text from mid last counts one two = two.front ∙ ap (λ x. x ++ world_trailer) one.front ∙ append_assoc (take from.at text) counts world_trailer

pub end_more : (text : List ℕ) (from mid last : Front) (bad : Bad) → ReadsCounts text from mid → ReadsOn text mid last world_trailer 0 0 → last.at < length text →
    bad ≡ record { at = last.at; tick = last.tick; kind = Trailing } → IsBadEnd text from bad
end_more text from mid last bad r t l e =
    let at : bad.at ≡ last.at = ap (λ (x : Bad). x.at) e in
    More r.counts r.counted (ap (λ k. take k text) at ∙ both_read text from mid last r.counts r.reads t) (omega (arith, at, l)) (ap (λ (x : Bad). x.tick) e ∙ (let same : last.tick ≡ from.tick = omega (arith, r.reads.tick, t.tick) in same))
    (ap (λ (x : Bad). x.kind) e) (λ none. let long : length (drop bad.at text) ≡ 0 = ap (λ (x : List ℕ). length x) none in omega (arith, long, length-drop bad.at text, at, l))

pub end_whole : (text : List ℕ) (from mid last : Front) → ReadsCounts text from mid → ReadsOn text mid last world_trailer 0 0 → length text ≤ last.at → ReadsEnd text from
end_whole text from mid last r t l = record { counts = r.counts; counted = r.counted; is = sym (take_all last.at text l) ∙ both_read text from mid last r.counts r.reads t }
