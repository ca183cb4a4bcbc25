-- Turns that have one outcome.
use Rattle.std.proofs.Common.{◌≡◌, Bool, true, false, sym, ◌∙◌, subst, refl}
use Rattle.graph.specs.Graph.{Nodes}
use Rattle.graph.specs.Sound.{IsSound}
use Rattle.pass_frame.specs.Frame.{Reaches, Stays, Goes}
use Rattle.pass_frame.specs.Rounds.{InTurn, TurnWhen, Rounds, Exhausts}
use Rattle.pass_frame.proofs.FrameSteps.{KeepsSound, reaches_sound}

-- two turns from one sound graph end in the same
abbrev pub HasOneEnd : (Nodes → Nodes → Type 0) → Type 0
HasOneEnd turn = (old a b : Nodes) → IsSound old → turn old a → turn old b → a ≡ b

pub exhausts_sound : (P : Nodes → Nodes → Type 0) → KeepsSound P → KeepsSound (Exhausts P)
exhausts_sound P k old new s e = reaches_sound P k s e.reaches

pub in_turn_sound : (P Q : Nodes → Nodes → Type 0) → KeepsSound P → KeepsSound Q → KeepsSound (InTurn P Q)
in_turn_sound P Q p q old new s t = q t.0 new (p old t.0 s t.1) t.2

pub in_turn_one : (P Q : Nodes → Nodes → Type 0) → KeepsSound P → HasOneEnd P → HasOneEnd Q → HasOneEnd (InTurn P Q)
in_turn_one P Q k p q old a b s t u =
    let same : t.0 ≡ u.0 = p old t.0 u.0 s t.1 u.1 in
    q u.0 a b (k old u.0 s u.1) (subst (λ m. Q m a) same t.2) u.2

pub turn_when_sound : (on : Bool) (P : Nodes → Nodes → Type 0) → KeepsSound P → KeepsSound (TurnWhen on P)
turn_when_sound true P k old new s t = k old new s t
turn_when_sound false P k old new s t = subst IsSound (sym t) s

pub turn_when_one : (on : Bool) (P : Nodes → Nodes → Type 0) → HasOneEnd P → HasOneEnd (TurnWhen on P)
turn_when_one true P p old a b s t u = p old a b s t u
turn_when_one false P p old a b s t u = t ∙ sym u

pub rounds_sound : (P : Nodes → Nodes → Type 0) → KeepsSound P → KeepsSound (Rounds P)
rounds_sound P k old new s r = reaches_sound P k s r.turns

-- where a turn changes nothing, no more turns do
stays_there : (P : Nodes → Nodes → Type 0) → HasOneEnd P → {a b : Nodes} → IsSound a → P a a → Reaches P a b → a ≡ b
stays_there P p s rests Stays = refl
stays_there P p {a} {b} s rests (Goes {mid = m} h r) =
    let same : a ≡ m = p a a m s rests h in
    same ∙ stays_there P p (subst IsSound same s) (subst (λ n. P n n) same rests) r

pub rounds_one : (P : Nodes → Nodes → Type 0) → KeepsSound P → HasOneEnd P → HasOneEnd (Rounds P)
rounds_one P k p old a b s t u = meet s t.turns t.rests u.turns u.rests
  where
    meet : {old a b : Nodes} → IsSound old → Reaches P old a → P a a → Reaches P old b → P b b → a ≡ b
    meet s Stays ra rb qb = stays_there P p s ra rb
    meet s (Goes h ra) qa Stays qb = sym (stays_there P p s qb (Goes h ra))
    meet {old} {a} {b} s (Goes {mid = m} h ra) qa (Goes {mid = n} i rb) qb =
        let same : m ≡ n = p old m n s h i in
        meet (k old n s i) (subst (λ x. Reaches P x a) same ra) qa rb qb
