use Rattle.std.proofs.Common.{◌≡◌, map, length, sym, ap, ◌∙◌, subst, arith}
use Rattle.std.proofs.lemmas.List.{take_at}
use Rattle.std.specs.List.{All}
use Rattle.lay_reaches.specs.Columns.{columns_of, CoverMarks, IsSmall, IsUncut, StandsWhereDue}
use Rattle.lay_reaches.specs.Lanes.{gaps_of}
use Rattle.lay_reaches.specs.Widened.{bare_columns, widened_by_staves}
use Rattle.lay_reaches.proofs.Covering.{columns_cover}
use Rattle.lay_reaches.proofs.Facts.{columns_keys, columns_long, columns_small, columns_stand, columns_uncut}
use Rattle.lay_reaches.proofs.Widening.{bare_long, columns_are, columns_many}
use Rattle.lay_reaches.proofs.system.columns_in.Goals as goal

pub returns-clause-value : goal.returns-clause-value
returns-clause-value c =
    let keys = c.args.keys.now in
    let lengths = c.args.lengths.now in
    let staves = c.args.staves.now in
    let verses = c.args.verses.now in
    let bare = c.deref_mut.ensures.value ∙ c.columns.view_is ∙ c.in_ok-columns.ensures in
    let lanes = ap (λ n. bare_columns keys lengths n) c.in_ok-lanes_of.ensures in
    let now : c.widen_by_staves.new.columns ≡ columns_of keys staves lengths verses =
    c.in_ok-widen_by_staves.ensures
    ∙ ap (λ t. widened_by_staves t 0 staves verses) (bare ∙ lanes)
    ∙ columns_are lengths keys staves verses c.requires.counts in
    let old = ap length bare in
    let many = bare_long lengths c.in_ok-lanes_of.field-0 keys in
    let new = ap length now in
    let as_many = columns_many lengths staves verses 0 keys in
    let len = c.deref_mut.ensures.len in
    take_at c.widen_by_staves.new.columns _ c.columns.inside.items.len (grind (arith, old, many, new, as_many, len))
    ∙ now

pub returns-clause-keys : goal.returns-clause-keys
returns-clause-keys c =
    subst (λ r. map (λ d. d.key) r ≡ c.args.keys.now) (sym (returns-clause-value c))
    (columns_keys c.args.staves.now c.args.lengths.now c.args.verses.now 0 c.args.keys.now)

pub returns-clause-lanes : goal.returns-clause-lanes
returns-clause-lanes c =
    subst (λ r. All (λ d. length d.reaches ≡ length (gaps_of c.args.verses.now)) r) (sym (returns-clause-value c))
    (columns_long c.args.staves.now c.args.lengths.now c.args.verses.now c.args.keys.now c.requires.counts)

pub returns-clause-covers : goal.returns-clause-covers
returns-clause-covers c =
    subst (λ r. CoverMarks c.args.staves.now c.args.verses.now r) (sym (returns-clause-value c))
    (columns_cover c.args.staves.now c.args.lengths.now c.args.verses.now c.args.keys.now)

pub returns-clause-stands : goal.returns-clause-stands
returns-clause-stands c =
    subst (λ r. All (StandsWhereDue c.args.verses.now) r) (sym (returns-clause-value c))
    (columns_stand c.args.staves.now c.args.lengths.now c.args.verses.now c.args.keys.now c.requires.counts)

pub returns-clause-small : goal.returns-clause-small
returns-clause-small c =
    subst (λ r. All IsSmall r) (sym (returns-clause-value c))
    (columns_small c.args.staves.now c.args.lengths.now c.args.verses.now c.args.keys.now)

pub returns-clause-uncut : goal.returns-clause-uncut
returns-clause-uncut c =
    subst (λ r. All IsUncut r) (sym (returns-clause-value c))
    (columns_uncut c.args.staves.now c.args.lengths.now c.args.verses.now c.args.keys.now)
