-- A tune that is set, and the one fault of a tune that isn't.
use Rattle.std.specs.Prelude.{◌≡◌, ◌⊎◌, ⊤, ℕ, ℤ, List, Bool, Option, Some, None, Result, Ok, Err}
use Rattle.abc_lines.specs.declared.book.Line.{Line}
use Rattle.abc_lines.specs.declared.book.TuneText.{TuneText}
use Rattle.abc_lines.specs.declared.fault.Fault.{Fault}
use Rattle.abc_lines.specs.declared.fault.FaultKind.{FaultKind}
use Rattle.abc_lines.specs.declared.fault.TuneError.{TuneError}
use Rattle.abc_fields.specs.declared.defaults.Defaults.{Defaults}
use Rattle.abc_fields.specs.declared.header.Header.{Header}
use Rattle.abc_fields.specs.Headers.{IsHeaderOf, first_line_number, header_fault}
use Rattle.abc_fields.specs.Papers.{body_height, body_width}
use Rattle.abc_score.specs.Build.{IsFaultOf, IsScoreOf}
use Rattle.mus_score.specs.declared.score.Score.{Score}
use Rattle.mus_score.specs.GoodScore.{IsGoodScore}
use Rattle.lay_breaks.specs.declared.costs.Span.{Span}
use Rattle.lay_pages.specs.Filling.{first_tall}
use Rattle.lay_pages.specs.Titles.{title_block_of}
use Rattle.lay_tune.specs.declared.layout.Layout.{Layout}
use Rattle.lay_tune.specs.Layout.{IsLayout, IsNoWay}
use Rattle.lay_shared.specs.declared.plan.Plan.{Plan}
use Rattle.lay_shared.specs.Alike.{DoShare}
use Rattle.lay_shared.specs.Drawn.{drawn_of}
use Rattle.lay_shared.specs.Plans.{SpellsPlan, score_ids}
use Rattle.mus_units.specs.declared.key.Key.{Key}
use Rattle.mus_transpose.specs.Moved.{IsMoved}
use Rattle.mus_drawn.specs.Sounds.{sounds_of}
use Rattle.law_transposition.specs.Higher.{AreHigher}
use Rattle.set_tune.specs.Staves.{KeepStavesApart}
use Rattle.set_tune.specs.Terms.{Manner, Terms}
use Rattle.set_tune.specs.declared.tune.SetTune.{SetTune}
use Rattle.set_tune.specs.Blocks.{blocks_of}

-- The header of the tune, which has no fault.
pub record HasHeader (tune : TuneText) (defaults : Defaults) (header : Header) : Type 0 where
  pub value : IsHeaderOf tune defaults header
  pub clear : header_fault tune ≡ None

-- The header, and the score that the tune calls for under it, neither of which has a fault.
pub record IsWritten (tune : TuneText) (defaults : Defaults) (flow : Bool) (header : Header)
    (score : Score) : Type 0 where
  pub read : HasHeader tune defaults header
  pub value : IsScoreOf header tune flow score
  pub good : IsGoodScore score

-- a fault of the line that says how voices share staves is reported at that line, in column 1
abbrev pub share_fault : Line → FaultKind → Fault
share_fault line kind = record { kind = kind; line = line.number; column = 1 }

-- the line spells no plan of the written score's staves, or two voices of one staff differ
abbrev pub IsUnshared : Line → Score → Fault → Type 0
IsUnshared line written fault =
    (((plan : Plan) → SpellsPlan (score_ids written) line.text plan → ⊥)
    × (fault ≡ share_fault line FaultKind.BadScore))
    ⊎ ((plan : Plan)
    × SpellsPlan (score_ids written) line.text plan
    × (DoShare written plan → ⊥)
    × (fault ≡ share_fault line FaultKind.BadShare))

-- The result for the written score and that line, if there is one: the score that is drawn, or a fault. Without a
-- line the score that is drawn is the written one.
abbrev pub IsScoreDrawn : Option Line → Score → Result Score Fault → Type 0
IsScoreDrawn None written drawn = drawn ≡ Ok written
IsScoreDrawn (Some line) written (Ok drawn) =
    (plan : Plan)
    × SpellsPlan (score_ids written) line.text plan
    × DoShare written plan
    × (drawn ≡ drawn_of written plan)
IsScoreDrawn (Some line) written (Err fault) = IsUnshared line written fault

-- The header, and the score that is set: the drawn one, moved, so that each head sounds higher by the manner's number
-- of semitones.
pub record HasScore (tune : TuneText) (defaults : Defaults) (manner : Manner) (header : Header)
    (score : Score) : Type 0 where
  pub written : Score
  pub is : IsWritten tune defaults manner.flow header written
  pub drawn : Score
  pub draws : IsScoreDrawn header.staves written (Ok drawn)
  pub moved : IsMoved drawn header.key manner.by (Some score)
  pub sounds : AreHigher manner.by (sounds_of drawn) (sounds_of score)
  pub good : IsGoodScore score

-- The voices of the tune can't share staves as its line says.
pub record CantDraw (tune : TuneText) (defaults : Defaults) (manner : Manner) (fault : Fault) : Type 0 where
  pub header : Header
  pub written : Score
  pub is : IsWritten tune defaults manner.flow header written
  pub draws : IsScoreDrawn header.staves written (Err fault)

-- The score of the tune can't be moved that far.
pub record CantMove (tune : TuneText) (defaults : Defaults) (manner : Manner) : Type 0 where
  pub header : Header
  pub written : Score
  pub is : IsWritten tune defaults manner.flow header written
  pub drawn : Score
  pub draws : IsScoreDrawn header.staves written (Ok drawn)
  pub moved : IsMoved drawn header.key manner.by None

-- the parts of a tune that are its layout
abbrev pub layout_of : SetTune → Layout
layout_of t =
    record { breaking = t.breaking; systems = t.systems; placed = t.placed; spans = t.spans; heights = t.heights }

abbrev pub IsLaidOut : ℕ → SetTune → Type 0
IsLaidOut width t = IsLayout t.score width (layout_of t)

-- a header and a score laid out under a title block
pub record IsLaid (width : ℕ) (header : Header) (score : Score) (t : SetTune) : Type 0 where
  pub head : t.header ≡ header
  pub music : t.score ≡ score
  pub title : t.title ≡ title_block_of width header.titles header.composers header.tempo
  pub layout : IsLaidOut width t

-- The tune up to its layout and its title block, whatever the height of the page.
pub record IsLaidTune (tune : TuneText) (terms : Terms) (t : SetTune) : Type 0 where
  pub score : HasScore tune terms.defaults terms.manner t.header t.score
  pub title : t.title ≡ title_block_of (body_width terms.paper) t.header.titles t.header.composers t.header.tempo
  pub layout : IsLaidOut (body_width terms.paper) t
  -- staves are at least 500 apart
  pub apart : KeepStavesApart t.systems t.heights

-- A tune that is set: none of its groups of blocks is higher than the page.
pub record IsSetTune (tune : TuneText) (terms : Terms) (t : SetTune) : Type 0 where
  pub laid : IsLaidTune tune terms t
  pub fits : first_tall (body_height terms.paper) (blocks_of t.title t.heights) ≡ None

-- a fault of the move or of the layout is reported at the first line of the tune, in column 1
abbrev pub layout_fault : TuneText → FaultKind → Fault
layout_fault tune kind = record { kind = kind; line = first_line_number tune.lines; column = 1 }

-- The one fault of a tune, by stages: of its header; if that has none, of its body or its score; if the score has
-- none, that its voices can't share staves as they should; if they can, that it can't be moved; if it can, that no
-- breaking is legal; and if one is, that a group of blocks is higher than the page.
pub data IsFaultOfTune (tune : TuneText) (terms : Terms) : Fault → Type 0 where
  of_header : (fault : Fault) → header_fault tune ≡ Some fault → IsFaultOfTune tune terms fault
  of_score : (header : Header) (fault : Fault)
      → HasHeader tune terms.defaults header → IsFaultOf header tune (TuneError.Fault fault)
      → IsFaultOfTune tune terms fault
  of_share : (fault : Fault) → CantDraw tune terms.defaults terms.manner fault → IsFaultOfTune tune terms fault
  of_move : CantMove tune terms.defaults terms.manner → IsFaultOfTune tune terms (layout_fault tune FaultKind.BadMove)
  no_way : (header : Header) (score : Score) (reached : ℕ) (spans : List Span)
      → HasScore tune terms.defaults terms.manner header score
      → IsNoWay score (body_width terms.paper) reached spans
      → IsFaultOfTune tune terms (layout_fault tune (FaultKind.NoWay reached))
  too_tall : (t : SetTune) (block : ℕ)
      → IsLaidTune tune terms t
      → first_tall (body_height terms.paper) (blocks_of t.title t.heights) ≡ Some block
      → IsFaultOfTune tune terms (layout_fault tune (FaultKind.TooTall block))

-- The same for the stages up to the score; out of memory says nothing.
abbrev pub IsScoreRefusal : TuneText → Defaults → TuneError → Type 0
IsScoreRefusal tune defaults TuneError.Memory = ⊤
IsScoreRefusal tune defaults (TuneError.Fault fault) =
    (header_fault tune ≡ Some fault)
    ⊎ ((header : Header) × HasHeader tune defaults header × IsFaultOf header tune (TuneError.Fault fault))

-- why the written score isn't drawn
abbrev pub IsDrawRefusal : Option Line → Score → TuneError → Type 0
IsDrawRefusal staves written TuneError.Memory = ⊤
IsDrawRefusal staves written (TuneError.Fault fault) = IsScoreDrawn staves written (Err fault)

-- why the drawn score isn't moved
abbrev pub IsMoveRefusal : TuneText → Score → Key → ℤ → TuneError → Type 0
IsMoveRefusal tune drawn key by TuneError.Memory = ⊤
IsMoveRefusal tune drawn key by (TuneError.Fault fault) =
    IsMoved drawn key by None × (fault ≡ layout_fault tune FaultKind.BadMove)

-- why there is no score to lay out
abbrev pub IsMovedRefusal : TuneText → Defaults → Manner → TuneError → Type 0
IsMovedRefusal tune defaults manner TuneError.Memory = ⊤
IsMovedRefusal tune defaults manner (TuneError.Fault fault) =
    IsScoreRefusal tune defaults (TuneError.Fault fault)
    ⊎ (CantDraw tune defaults manner fault
    ⊎ (CantMove tune defaults manner × (fault ≡ layout_fault tune FaultKind.BadMove)))

-- why the score isn't laid out
abbrev pub IsLayoutRefusal : TuneText → ℕ → Score → TuneError → Type 0
IsLayoutRefusal tune width score TuneError.Memory = ⊤
IsLayoutRefusal tune width score (TuneError.Fault fault) =
    (reached : ℕ)
    × (spans : List Span)
    × IsNoWay score width reached spans
    × (fault ≡ layout_fault tune (FaultKind.NoWay reached))

-- why a laid-out tune isn't set
abbrev pub IsTallRefusal : TuneText → ℕ → SetTune → TuneError → Type 0
IsTallRefusal tune high t TuneError.Memory = ⊤
IsTallRefusal tune high t (TuneError.Fault fault) =
    (block : ℕ)
    × (first_tall high (blocks_of t.title t.heights) ≡ Some block)
    × (fault ≡ layout_fault tune (FaultKind.TooTall block))

-- out of memory says nothing
abbrev pub IsRefusal : TuneText → Terms → TuneError → Type 0
IsRefusal tune terms TuneError.Memory = ⊤
IsRefusal tune terms (TuneError.Fault fault) = IsFaultOfTune tune terms fault
