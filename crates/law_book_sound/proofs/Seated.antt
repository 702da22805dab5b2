-- If no plan of staves counts for a tune, each voice of the score that is set has a staff of its own.
use Rattle.std.proofs.Common.{◌≡◌, refl, sym, subst, zero, suc, Bool, List, [], ◌∷◌, map, Option, Some, None}
use Rattle.std.proofs.lemmas.List.Elements.{All-cons, All-head, All-nil, All-tail}
use Rattle.std.proofs.lemmas.Option.{none-some, same_Some}
use Rattle.std.specs.Prelude.{All, ℤ, pos, negsuc, Ok}
use Rattle.mus_units.specs.declared.key.Key.{Key}
use Rattle.mus_score.specs.declared.score.Score.{Score}
use Rattle.mus_score.specs.declared.score.Seat.{Seat}
use Rattle.mus_score.specs.declared.score.Voice.{Voice}
use Rattle.mus_transpose.specs.Moved.{IsMoved, move_from, voice_by}
use Rattle.mus_transpose.specs.declared.moves.Move.{Move}
use Rattle.abc_lines.specs.declared.book.Line.{Line}
use Rattle.abc_lines.specs.declared.book.TuneText.{TuneText}
use Rattle.abc_fields.specs.declared.defaults.Defaults.{Defaults}
use Rattle.abc_fields.specs.declared.header.Header.{Header}
use Rattle.abc_score.specs.Build.{IsScoreOf}
use Rattle.abc_score.specs.Score.{most_measures, score_with, voice_by_header}
use Rattle.abc_score.specs.Voices.{voices_read}
use Rattle.set_tune.specs.Setting.{HasScore, IsScoreDrawn}
use Rattle.set_tune.specs.Terms.{Manner}
use Rattle.set_tune.proofs.Laid.{same_Ok}
use Rattle.law_book_sound.specs.Sounds.{AreAlone, HasNoPlan}

abbrev IsAlone : Voice → Type 0
IsAlone v = v.seat ≡ Seat.Alone

-- the voices of a score as it is written
made_alone : {X : Type 0} (f : X → Voice) → ((x : X) → IsAlone (f x)) → (xs : List X) → All IsAlone (map f xs)
made_alone f alone [] = All-nil IsAlone
made_alone f alone (x ∷ xs) = All-cons IsAlone (f x) (map f xs) (alone x) (made_alone f alone xs)

written_alone : (header : Header) (tune : TuneText) (flow : Bool) (score : Score)
    → IsScoreOf header tune flow score → AreAlone score
unfolding score_with voice_by_header
written_alone header tune flow score is =
    let voices = voices_read header is.items in
    subst AreAlone (sym is.value)
    (made_alone (voice_by_header header (most_measures voices)) (λ v. refl) voices)

-- without a plan the score that is drawn is the written one
drawn_alone : (staves : Option Line) (written drawn : Score)
    → staves ≡ None → IsScoreDrawn staves written (Ok drawn) → AreAlone written → AreAlone drawn
drawn_alone None written drawn none is alone = subst AreAlone (sym (same_Ok drawn written is)) alone
drawn_alone (Some line) written drawn none is alone = absurd (none-some line (sym none))

-- a moved score has the seats of the one that is moved
moved_voices : (m : Move) (voices : List Voice) → All IsAlone voices → All IsAlone (map (voice_by m) voices)
moved_voices m [] alone = All-nil IsAlone
moved_voices m (v ∷ voices) alone =
    All-cons IsAlone (voice_by m v) (map (voice_by m) voices) (All-head IsAlone v voices alone)
    (moved_voices m voices (All-tail IsAlone v voices alone))

moved_alone : (s t : Score) (key : Key) (by : ℤ) → IsMoved s key by (Some t) → AreAlone s → AreAlone t
moved_alone s t key (pos zero) is alone = subst AreAlone (sym (same_Some t s (is.same refl))) alone
moved_alone s t key (pos (suc n)) is alone =
    subst AreAlone (sym (is.higher (λ e. cc)).1) (moved_voices (move_from key (pos (suc n))) s.voices alone)
moved_alone s t key (negsuc n) is alone =
    subst AreAlone (sym (is.higher (λ e. cc)).1) (moved_voices (move_from key (negsuc n)) s.voices alone)

pub each_alone : (tune : TuneText) (defaults : Defaults) (manner : Manner) (header : Header) (score : Score)
    → HasScore tune defaults manner header score → HasNoPlan header → AreAlone score
each_alone tune defaults manner header score has none =
    moved_alone has.drawn score header.key manner.by has.moved
    (drawn_alone header.staves has.written has.drawn none has.draws
    (written_alone header tune manner.flow has.written has.is.value))
