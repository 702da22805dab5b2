-- What a listener hears of the pages of a book: its tunes one after another, and for each staff of a tune what its
-- voice sounds.
use Rattle.std.specs.Prelude.{◌≡◌, ℕ, ◌≤◌, List, [], ◌∷◌, All, map, flat_map, length, None, Result, Ok, Err}
use Rattle.std.specs.List.{AllByRecursion, AllZip}
use Rattle.abc_lines.specs.declared.fault.Fault.{Fault}
use Rattle.abc_fields.specs.declared.header.Header.{Header}
use Rattle.abc_fields.specs.declared.paper.Paper.{Paper}
use Rattle.mus_score.specs.declared.score.Score.{Score}
use Rattle.mus_score.specs.declared.score.Seat.{Seat}
use Rattle.set_tune.specs.declared.tune.SetTune.{SetTune}
use Rattle.set_book.specs.declared.outcome.Outcome.{Outcome}
use Rattle.set_pages.specs.Read.{ReadBlock, ShowsBook}
use Rattle.set_pages.specs.Sheet.{IsSetUnder}
use Rattle.ps_text.specs.declared.sheet.Sheet.{Sheet}
use Rattle.ps_heard.specs.declared.tunes.SheetTune.{SheetTune}
use Rattle.ps_heard.specs.Tunes.{items_of, staves_heard, tunes_of}
use Rattle.law_voice_sound.specs.Clear.{IsClearScore}
use Rattle.law_voice_sound.specs.Sounds.{voice_heard}

-- no plan of staves counts: neither the tune's header nor the file's has a `%%score`
abbrev pub HasNoPlan : Header → Type 0
HasNoPlan header = header.staves ≡ None

-- each voice has a staff of its own
abbrev pub AreAlone : Score → Type 0
AreAlone s = All (λ v. v.seat ≡ Seat.Alone) s.voices

-- what is heard of a tune, with its own spread, is staff by staff what the voices of its score sound
abbrev pub Sounds : Score → SheetTune → Type 0
Sounds s part = staves_heard s.spread part.systems ≡ map (voice_heard s.spread) s.voices

-- the tune is heard once, as its score sounds
abbrev pub IsHeardAs : Score → List SheetTune → Type 0
IsHeardAs s parts = (part : SheetTune) × (parts ≡ part ∷ []) × Sounds s part

-- A tune without a fault is heard at most once, under its ordinal. A clear one that has a measure, and for which no
-- plan of staves counts, is heard as its score sounds; so is one with a plan by which each voice has a staff of its
-- own. Nothing is claimed about how others sound.
pub record SoundsTune (ordinal : ℕ) (t : SetTune) (parts : List SheetTune) : Type 0 where
  pub once : length parts ≤ 1
  pub ordinals : AllByRecursion (λ part. part.ordinal ≡ ordinal) parts
  pub clear : IsClearScore t.score → HasNoPlan t.header → 1 ≤ t.score.measures → IsHeardAs t.score parts
  pub alone : IsClearScore t.score → AreAlone t.score → 1 ≤ t.score.measures → IsHeardAs t.score parts

-- a tune with a fault isn't heard
abbrev pub SoundsResult : ℕ → Result SetTune Fault → List SheetTune → Type 0
SoundsResult ordinal (Ok t) parts = SoundsTune ordinal t parts
SoundsResult ordinal (Err fault) parts = parts ≡ []

abbrev pub SoundsOutcome : Outcome → List SheetTune → Type 0
SoundsOutcome o parts = SoundsResult o.ordinal o.result parts

-- the tunes of a sheet are those of the outcomes, in order
pub record SoundsBook (outcomes : List Outcome) (sheet : Sheet) : Type 0 where
  pub parts : List (List SheetTune)
  pub whole : tunes_of (items_of sheet) ≡ flat_map (λ (part : List SheetTune). part) parts
  pub tunes : AllZip SoundsOutcome outcomes parts

-- a sheet that shows a book sounds, for clear tunes without a plan of staves, and for those whose voices have a staff
-- each, as their scores do
abbrev pub BooksAreHeard : Type 0
BooksAreHeard =
    (paper : Paper) (outcomes : List Outcome) (sheet : Sheet) (parts : List (List ReadBlock))
    → All (IsSetUnder paper) outcomes → ShowsBook paper outcomes sheet parts → SoundsBook outcomes sheet
