-- A score is moved by any number of semitones in one way, or it can't be moved that far.
use mathlib.Core.Logic.Dec.{and as both}
use Rattle.std.proofs.Common.{◌≡◌, ◌≢◌, ◌∙◌, refl, sym, ap, true}
use Rattle.std.proofs.Math.Bool.{Bool-discrete}
use Rattle.std.proofs.Math.Decide.{map_dec}
use Rattle.std.specs.Prelude.{ℤ, pos, zero, IfSome, MatchOption, Option, Some, None}
use Rattle.std.specs.List.{list_all}
use Rattle.mus_units.specs.declared.key.Key.{Key}
use Rattle.mus_score.specs.declared.score.Score.{Score}
use Rattle.mus_score.specs.GoodScore.{IsGoodScore}
use Rattle.law_one_outcome.proofs.Draws.{decided}
use Rattle.mus_transpose.specs.Moved.{CanMove, IsMoved, move_from, moved_score, on_circle, voice_may}
use Rattle.mus_transpose.proofs.MovedGood.{all_in_reach, moved_good, voices_decide}

can_move : (d : Score) (key : Key) (by : ℤ) → Dec (CanMove d key by)
can_move d key by =
    let voices = (moved_score d key by).voices in
    map_dec (λ h. record { header = h.0; voices = h.1.0; reach = h.1.1 }) (λ can. (can.header, (can.voices, can.reach)))
    (both (Bool-discrete (on_circle key) true)
    (both (Bool-discrete (list_all (voice_may (move_from key by)) d.voices) true)
    (decided (all_in_reach voices) (voices_decide voices))))

-- the result is a good score too
abbrev HasMoved : Score → Key → ℤ → Type 0
HasMoved d key by = (r : Option Score) × IsMoved d key by r × IfSome r (λ t. IsGoodScore t)

moved_if : (d : Score) (key : Key) (by : ℤ) → by ≢ pos 0 → IsGoodScore d → Dec (CanMove d key by) → HasMoved d key by
moved_if d key by far good (yes can) = (
  Some (moved_score d key by),
  record { same = λ e. absurd (far e); higher = λ n. (can, refl) },
  moved_good (move_from key by) d good can.reach,
)
moved_if d key by far good (no cant) = (None, record { same = λ e. absurd (far e); higher = λ n. cant }, tt)

has_moved : (d : Score) (key : Key) (by : ℤ) → IsGoodScore d → HasMoved d key by
has_moved d key (pos zero) good =
    (Some d, record { same = λ e. refl; higher = λ n. absurd (n refl) }, good)
has_moved d key by good = moved_if d key by (λ e. cc) good (can_move d key by)

-- ---- in one way
one_of : (can : Type 0) (m : Score) (r q : Option Score)
    → MatchOption r (can → ⊥) (λ t. can × (t ≡ m)) → MatchOption q (can → ⊥) (λ t. can × (t ≡ m)) → r ≡ q
one_of can m None None a b = refl
one_of can m None (Some u) a b = absurd (a b.0)
one_of can m (Some t) None a b = absurd (b a.0)
one_of can m (Some t) (Some u) a b = ap Some (a.1 ∙ sym b.1)

pub moved_once : (w : Score) (key : Key) (by : ℤ) (r q : Option Score) → IsMoved w key by r → IsMoved w key by q → r ≡ q
moved_once w key (pos zero) r q a b = a.same refl ∙ sym (b.same refl)
moved_once w key by r q a b =
    one_of (CanMove w key by) (moved_score w key by) r q (a.higher (λ e. cc)) (b.higher (λ e. cc))

pub one_moved : (d : Score) (key : Key) (by : ℤ) → IsGoodScore d
    → (moved : Option Score)
    × IsMoved d key by moved
    × ((other : Option Score) → IsMoved d key by other → moved ≡ other)
    × IfSome moved (λ s. IsGoodScore s)
one_moved d key by good =
    let m = has_moved d key by good in (m.0, m.1, (λ other is. moved_once d key by m.0 other m.1 is), m.2)
