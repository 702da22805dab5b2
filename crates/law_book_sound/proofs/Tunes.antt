-- The tunes of the items of a book: one for each part that has an item, and in it the systems of its breaking as they
-- are read.
use Rattle.std.proofs.Common.{◌≡◌, refl, sym, ap, ◌∙◌, subst, ℕ, ◌≤◌, ◌<◌, ℤ, ◌-ℤ◌, List, [], ◌∷◌, ◌++◌, length}
use Rattle.std.proofs.Common.{map, flat_map, arith}
use Rattle.std.specs.Prelude.{⊤, Result, Ok, Err}
use Rattle.std.specs.List.{AllByRecursion, AllZip}
use Rattle.abc_lines.specs.declared.fault.Fault.{Fault}
use Rattle.abc_fields.specs.declared.paper.Paper.{Paper}
use Rattle.abc_fields.specs.Papers.{body_width}
use Rattle.mus_score.specs.declared.score.Score.{Score}
use Rattle.mus_laid.specs.declared.laid.SystemMarks.{SystemMarks}
use Rattle.lay_springs.specs.declared.margin.Placed.{Placed}
use Rattle.lay_breaks.specs.Breaking.{RisesFrom, last_from}
use Rattle.lay_pages.specs.declared.stacking.Heights.{Heights}
use Rattle.lay_pages.specs.declared.titles.TitleRow.{TitleRow}
use Rattle.lay_tune.specs.Systems.{EachSpan, IsSetSystem}
use Rattle.ps_text.specs.declared.sheet.Item.{Item}
use Rattle.ps_text.specs.declared.sheet.Staff.{Staff}
use Rattle.set_tune.specs.declared.tune.SetTune.{SetTune}
use Rattle.set_book.specs.declared.outcome.Outcome.{Outcome}
use Rattle.set_staves.specs.Marks.{HasColumns, ShowsCall}
use Rattle.set_pages.specs.Read.{ReadBlock, ShowSystems, ShowsOutcome, ShowsResult, ShowsRow, ShowsTitle, begun}
use Rattle.set_pages.specs.Read.{items_of_blocks}
use Rattle.ps_heard.specs.declared.tunes.SheetTune.{SheetTune}
use Rattle.ps_heard.specs.Tunes.{systems_till, tunes_of}
use Rattle.lay_tune.proofs.Open.{past_last}

-- ---- items one after another
till_join : (items more : List Item) → systems_till more ≡ [] → systems_till (items ++ more) ≡ systems_till items
till_join [] more none = none
till_join (Item.Tune ordinal ∷ items) more none = refl
till_join (Item.Title x y size text ∷ items) more none = till_join items more none
till_join (Item.System a b staves ∷ items) more none = ap (λ systems. staves ∷ systems) (till_join items more none)

tunes_join : (items more : List Item)
    → systems_till more ≡ [] → tunes_of (items ++ more) ≡ tunes_of items ++ tunes_of more
tunes_join [] more none = refl
tunes_join (Item.Tune ordinal ∷ items) more none =
    ap (λ systems. record { ordinal = ordinal; systems = systems } ∷ tunes_of (items ++ more))
    (till_join items more none)
    ∙ ap (λ parts. record { ordinal = ordinal; systems = systems_till items } ∷ parts) (tunes_join items more none)
tunes_join (Item.Title x y size text ∷ items) more none = tunes_join items more none
tunes_join (Item.System a b staves ∷ items) more none = tunes_join items more none

-- ---- the part of a tune begins with the tune, if it has an item
abbrev pub tunes_of_blocks : List ReadBlock → List SheetTune
tunes_of_blocks blocks = tunes_of (items_of_blocks blocks)

begun_opens : (ordinal : ℕ) (blocks : List ReadBlock) → systems_till (items_of_blocks (begun ordinal blocks)) ≡ []
begun_opens ordinal [] = refl
begun_opens ordinal (b ∷ blocks) = refl

result_opens : (paper : Paper) (ordinal : ℕ) (r : Result SetTune Fault) (part : List ReadBlock)
    → ShowsResult paper ordinal r part → systems_till (items_of_blocks part) ≡ []
result_opens paper ordinal (Ok t) part shows =
    ap (λ blocks. systems_till (items_of_blocks blocks)) shows.parted
    ∙ begun_opens ordinal (shows.title ++ shows.systems)
result_opens paper ordinal (Err fault) part shows = ap (λ blocks. systems_till (items_of_blocks blocks)) shows

parts_open : (paper : Paper) (outcomes : List Outcome) (parts : List (List ReadBlock))
    → AllZip (ShowsOutcome paper) outcomes parts → systems_till (flat_map items_of_blocks parts) ≡ []
parts_open paper [] [] shows = refl
parts_open paper (o ∷ outcomes) (part ∷ parts) shows =
    till_join (items_of_blocks part) (flat_map items_of_blocks parts) (parts_open paper outcomes parts shows.1)
    ∙ result_opens paper o.ordinal o.result part shows.0
parts_open paper _ _ shows = absurd shows

pub parts_tunes : (paper : Paper) (outcomes : List Outcome) (parts : List (List ReadBlock))
    → AllZip (ShowsOutcome paper) outcomes parts
    → tunes_of (flat_map items_of_blocks parts)
    ≡ flat_map (λ (part : List SheetTune). part) (map tunes_of_blocks parts)
parts_tunes paper [] [] shows = refl
parts_tunes paper (o ∷ outcomes) (part ∷ parts) shows =
    tunes_join (items_of_blocks part) (flat_map items_of_blocks parts) (parts_open paper outcomes parts shows.1)
    ∙ ap (λ more. tunes_of_blocks part ++ more) (parts_tunes paper outcomes parts shows.1)
parts_tunes paper _ _ shows = absurd shows

-- it is at most one tune, and exactly one if it has a system
pub begun_once : (ordinal : ℕ) (blocks : List ReadBlock)
    → tunes_of_blocks blocks ≡ [] → length (tunes_of_blocks (begun ordinal blocks)) ≤ 1
begun_once ordinal [] none = omega arith
begun_once ordinal (b ∷ blocks) none = omega (arith, ap length none)

pub begun_ordinals : (ordinal : ℕ) (blocks : List ReadBlock)
    → tunes_of_blocks blocks ≡ []
    → AllByRecursion (λ part. part.ordinal ≡ ordinal) (tunes_of_blocks (begun ordinal blocks))
begun_ordinals ordinal [] none = tt
begun_ordinals ordinal (b ∷ blocks) none =
    (refl, subst (AllByRecursion (λ part. part.ordinal ≡ ordinal)) (sym none) tt)

pub begun_one : (ordinal : ℕ) (blocks : List ReadBlock)
    → tunes_of_blocks blocks ≡ [] → 1 ≤ length (systems_till (items_of_blocks blocks))
    → tunes_of_blocks (begun ordinal blocks)
    ≡ record { ordinal = ordinal; systems = systems_till (items_of_blocks blocks) } ∷ []
begun_one ordinal [] none some = absurd (omega (arith, some))
begun_one ordinal (b ∷ blocks) none some =
    ap (λ parts. record { ordinal = ordinal; systems = systems_till (items_of_blocks (b ∷ blocks)) } ∷ parts) none

-- ---- a reader that skips titles reads the same after the rows of a title block
module _ {X : Type 0} (read : List Item → X)
    (passes : (row : TitleRow) (base : ℤ) (items : List Item)
    → read (Item.Title row.x base row.size row.text ∷ items) ≡ read items) where
  rows_before : (top : ℤ) (rows : List TitleRow) (items more : List Item)
      → AllZip (ShowsRow top) rows items → read (items ++ more) ≡ read more
  rows_before top [] [] more shows = refl
  rows_before top (row ∷ rows) (item ∷ items) more shows =
      ap (λ item. read (item ∷ items ++ more)) shows.0.title
      ∙ passes row (top -ℤ row.down) (items ++ more)
      ∙ rows_before top rows items more shows.1
  rows_before top _ _ more shows = absurd shows

  pub title_before : (rows : List TitleRow) (blocks more : List ReadBlock)
      → ShowsTitle rows blocks → read (items_of_blocks (blocks ++ more)) ≡ read (items_of_blocks more)
  title_before [] [] more shows = refl
  title_before (row ∷ rows) (b ∷ []) more shows =
      rows_before b.spot.top (row ∷ rows) b.items (items_of_blocks more) shows
  title_before _ _ more shows = absurd shows

-- ---- the staves of measures a to b - 1, which are set and shown
pub record AreReadAt (s : Score) (width a b : ℕ) (staves : List Staff) : Type 0 where
  pub marks : SystemMarks
  pub placed : Placed
  pub order : a < b
  pub within : b ≤ s.measures
  pub set : IsSetSystem s width a b marks placed
  pub symbols : ShowsCall staves marks.staves
  pub columns : HasColumns staves placed.at

-- for each span of a breaking, the first of which begins at bar a
abbrev pub AreRead : Score → ℕ → ℕ → List ℕ → List (List Staff) → Type 0
AreRead s width a [] [] = ⊤
AreRead s width a (b ∷ breaks) (staves ∷ systems) = AreReadAt s width a b staves × AreRead s width b breaks systems
AreRead s width a _ _ = ⊥

pub record IsRead (s : Score) (width a : ℕ) (breaks : List ℕ) (items : List Item) : Type 0 where
  pub systems : AreRead s width a breaks (systems_till items)
  pub tunes : tunes_of items ≡ []
  pub some : a < s.measures → 1 ≤ length (systems_till items)

pub systems_read : (paper : Paper) (s : Score) (gaps : List ℕ) (a : ℕ) (breaks : List ℕ) (systems : List SystemMarks)
    (placed : List Placed) (heights : List Heights) (blocks : List ReadBlock)
    → RisesFrom a breaks → last_from a breaks ≡ s.measures
    → EachSpan (IsSetSystem s (body_width paper)) a breaks systems placed
    → ShowSystems paper gaps a breaks systems placed heights blocks
    → IsRead s (body_width paper) a breaks (items_of_blocks blocks)
systems_read paper s gaps a [] [] [] [] [] rises ends set shows =
    record { systems = tt; tunes = refl; some = λ order. absurd (omega (arith, ends, order)) }
systems_read paper s gaps a (b ∷ breaks) (m ∷ systems) (p ∷ placed) (h ∷ heights) (block ∷ blocks) rises ends set
    shows =
    let more = systems_read paper s gaps b breaks systems placed heights blocks rises.1 ends set.1 shows.1 in
    let within : b ≤ s.measures = omega (arith, ends, past_last b breaks rises.1) in
    let here : AreReadAt s (body_width paper) a b shows.0.staves = record {
      marks = m;
      placed = p;
      order = rises.0;
      within = within;
      set = set.0;
      symbols = shows.0.symbols;
      columns = shows.0.columns;
    } in
    subst (λ items. IsRead s (body_width paper) a (b ∷ breaks) (items ++ items_of_blocks blocks))
    (sym shows.0.measures)
    (record { systems = (here, more.systems); tunes = more.tunes; some = λ order. omega arith })
systems_read paper s gaps a _ _ _ _ _ rises ends set shows = absurd shows
