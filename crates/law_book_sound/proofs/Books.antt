-- A sheet that shows a book sounds, for clear tunes without a plan of staves, and for those whose voices have a staff
-- each, as their scores do.
use Rattle.std.proofs.Common.{refl, sym, ap, ◌∙◌, subst, ℕ, ◌≤◌, List, [], ◌∷◌, ◌++◌, length, map}
use Rattle.std.proofs.lemmas.List.Elements.{All-head, All-tail}
use Rattle.std.specs.Prelude.{All, Result, Ok, Err}
use Rattle.std.specs.List.{AllZip}
use Rattle.abc_lines.specs.declared.fault.Fault.{Fault}
use Rattle.abc_fields.specs.declared.paper.Paper.{Paper}
use Rattle.abc_fields.specs.Papers.{body_width}
use Rattle.lay_tune.specs.Systems.{gaps_between}
use Rattle.set_tune.specs.declared.tune.SetTune.{SetTune}
use Rattle.set_book.specs.declared.outcome.Outcome.{Outcome}
use Rattle.set_pages.specs.Read.{ReadBlock, ShowsOutcome, ShowsResult, begun, items_of_blocks}
use Rattle.set_pages.specs.Sheet.{IsSetResult, IsSetUnder}
use Rattle.ps_heard.specs.Tunes.{staves_heard, systems_till, tunes_of}
use Rattle.law_voice_sound.specs.Clear.{IsClearScore}
use Rattle.law_book_sound.specs.Sounds.{AreAlone, BooksAreHeard, IsHeardAs, SoundsOutcome, SoundsResult, SoundsTune}
use Rattle.law_book_sound.proofs.Seated.{each_alone}
use Rattle.law_book_sound.proofs.Staves.{staves_sound}
use Rattle.law_book_sound.proofs.Tunes.{begun_once, begun_one, begun_ordinals, parts_tunes, systems_read, title_before}
use Rattle.law_book_sound.proofs.Tunes.{tunes_of_blocks}

result_sounds : (paper : Paper) (ordinal : ℕ) (r : Result SetTune Fault) (part : List ReadBlock)
    → IsSetResult paper r → ShowsResult paper ordinal r part → SoundsResult ordinal r (tunes_of_blocks part)
result_sounds paper ordinal (Ok t) part set shows =
    let s = t.score in
    let laid = set.3.laid in
    let legal = laid.layout.least.legal in
    let blocks = shows.title ++ shows.systems in
    let read = systems_read paper s (gaps_between s.voices) 0 t.breaking.breaks t.systems t.placed t.heights
    shows.systems legal.rises legal.ends laid.layout.systems shows.shown in
    let none =
    title_before tunes_of (λ row base items. refl) t.title.rows shows.title shows.systems shows.titled ∙ read.tunes in
    let systems =
    title_before systems_till (λ row base items. refl) t.title.rows shows.title shows.systems shows.titled in
    let heard : IsClearScore s → AreAlone s → 1 ≤ s.measures → IsHeardAs s (tunes_of_blocks (begun ordinal blocks)) =
    λ clear alone measures.
    let some = read.some measures in
    let sound = staves_sound s (body_width paper) t.breaking.breaks (systems_till (items_of_blocks shows.systems))
    laid.score.good alone clear legal.rises legal.ends read.systems some in (
      record { ordinal = ordinal; systems = systems_till (items_of_blocks blocks) },
      begun_one ordinal blocks none (subst (λ l. 1 ≤ length l) (sym systems) some),
      ap (staves_heard s.spread) systems ∙ sound,
    ) in
    subst (λ part. SoundsTune ordinal t (tunes_of_blocks part)) (sym shows.parted) (record {
      once = begun_once ordinal blocks none;
      ordinals = begun_ordinals ordinal blocks none;
      clear = λ clear plain measures. heard clear (each_alone set.0 set.1 set.2 t.header s laid.score plain) measures;
      alone = heard;
    })
result_sounds paper ordinal (Err fault) part set shows = ap (λ blocks. tunes_of_blocks blocks) shows

tunes_sound : (paper : Paper) (outcomes : List Outcome) (parts : List (List ReadBlock))
    → All (IsSetUnder paper) outcomes → AllZip (ShowsOutcome paper) outcomes parts
    → AllZip SoundsOutcome outcomes (map tunes_of_blocks parts)
tunes_sound paper [] [] set shows = tt
tunes_sound paper (o ∷ outcomes) (part ∷ parts) set shows =
    let here = All-head (IsSetUnder paper) o outcomes set in (
      result_sounds paper o.ordinal o.result part here.result shows.0,
      tunes_sound paper outcomes parts (All-tail (IsSetUnder paper) o outcomes set) shows.1,
    )
tunes_sound paper _ _ set shows = absurd shows

pub books_are_heard : BooksAreHeard
books_are_heard paper outcomes sheet parts set shows = record {
  parts = map tunes_of_blocks parts;
  whole = ap tunes_of shows.whole ∙ parts_tunes paper outcomes parts shows.tunes;
  tunes = tunes_sound paper outcomes parts set shows.tunes;
}
