-- What the heads of a voice sound, in order, as a listener hears it; and the law that they are heard like that.
use Rattle.std.specs.Prelude.{◌≡◌, List, map, flat_map, []}
use Rattle.mus_units.specs.declared.key.Spread.{Spread}
use Rattle.mus_score.specs.declared.score.Measure.{Measure}
use Rattle.mus_score.specs.declared.score.Voice.{Voice}
use Rattle.mus_score.specs.GoodScore.{IsGoodVoice}
use Rattle.mus_drawn.specs.{declared.sounds.Sound.Sound, Drawn.standing_of, Sounds.event_sounds, Sounds.seen_in}
use Rattle.ps_heard.specs.declared.column.Heard.{Heard}
use Rattle.ps_heard.specs.Hearing.{heard_of}
use Rattle.law_voice_sound.specs.Clear.{IsClearVoice}
use Rattle.law_voice_sound.specs.Columns.{heard_voice}

abbrev pub heard_sound : Sound → Heard
heard_sound x = record { pitch = x.pitch; alter = x.alter }

-- the number of the voice doesn't matter
abbrev pub voice_heard : Spread → Voice → List Heard
voice_heard spread v = map heard_sound (event_sounds 0 spread [] (seen_in (standing_of v) v.measures))

-- however the measures of a clear voice are divided into systems
abbrev pub ClearVoicesAreHeard : Type 0
ClearVoicesAreHeard =
    (spread : Spread) (v : Voice) (systems : List (List Measure))
    → flat_map (λ (ms : List Measure). ms) systems ≡ v.measures → IsGoodVoice v → IsClearVoice v
    → heard_of spread (heard_voice v systems) ≡ voice_heard spread v
