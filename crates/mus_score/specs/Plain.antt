-- A plain score: only notes and rests, with no grace, tuplet, decoration, mention, ending, slur mark, tied head or
-- word.
use Rattle.std.specs.Prelude.{◌==◌, ◌&&◌, not, List, length, Bool, false}
use Rattle.std.specs.List.{list_all}
use Rattle.std.specs.Option.{is_none}
use Rattle.mus_score.specs.declared.score.Event.{Event}
use Rattle.mus_score.specs.declared.score.Music.{Music}
use Rattle.mus_score.specs.declared.score.Music.TheOpen.{Music-F}
use Rattle.mus_score.specs.declared.score.Music.TheFolds.{fold-Music}
use Rattle.mus_score.specs.declared.score.Score.{Score}

abbrev pub is_plain_event : Event → Bool
is_plain_event e =
    length e.decos == 0
    && length e.mentions == 0
    && is_none e.ending
    && e.begins == 0
    && e.ends == 0
    && list_all (λ h. not h.tied) e.heads
    && list_all is_none e.words

abbrev pub plain_step : Music-F Bool → Bool
plain_step (Music-F.Note e) = is_plain_event e
plain_step (Music-F.Rest e) = is_plain_event e
plain_step (Music-F.Grace body slash) = false
plain_step (Music-F.Tuplet p q body) = false

abbrev pub is_plain_node : Music → Bool
is_plain_node = fold-Music Bool plain_step

abbrev pub is_plain_body : List Music → Bool
is_plain_body body = list_all is_plain_node body

abbrev pub is_plain_score : Score → Bool
is_plain_score s = list_all (λ v. list_all (λ m. is_plain_body m.body) v.measures) s.voices
