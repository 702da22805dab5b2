use Rattle.std.proofs.Common.{◌≡◌, ◌∙◌, ◌++◌, flat_map, map, rules, subst, sym, ap}
use Rattle.std.specs.Prelude.{IfOk}
use Rattle.mus_laid.specs.Ranked.{bridge_at}
use Rattle.mus_bridges.specs.Ends.{over, voice_ended}
use Rattle.mus_slots.specs.Staff.{place_outside, staff_columns}
use Rattle.mus_slots.specs.Voice.{slots_of_voices}
use Rattle.mus_marks.specs.Staff.{verses_on}
use Rattle.mus_marks.proofs.Drawing.{place_there, silent_columns, word_columns}
use Rattle.mus_marks.proofs.Ending.{silent_ended, verses_ended, with_words_ended}
use Rattle.mus_marks.proofs.staves.columns_on.Goals as goal

pub returns-then-is_silent_staff : goal.returns-then-is_silent_staff
returns-then-is_silent_staff c =
    let frame = c.args.frame.now in
    let ends = c.args.ends.now in
    let vs = c.args.voices.now in
    let ended = over (voice_ended frame.a) ends vs in
    let voices = slots_of_voices 0 frame.lengths.now frame.a frame.b ended in
    subst (λ t. IfOk c.by_columns.result (λ r. r ≡ t))
    (silent_columns frame.keys.now frame.lengths.now frame.a frame.b frame.ranked.rise ended c.requires.ordered
    c.in_ok-parts.parts
    (silent_ended frame.a frame.b ends vs ∙ sym c.is_silent_staff.ensures ∙ c.if-is_silent_staff.true)
    c.in_ok-parts.ensures
    ∙ ap (λ n. staff_columns frame.keys.now n voices) (verses_ended frame.a ends vs))
    c.by_columns.ensures

pub returns : goal.returns
returns c =
    let frame = c.args.frame.now in
    let keys = frame.keys.now in
    let ends = c.args.ends.now in
    let vs = c.args.voices.now in
    let ended = over (voice_ended frame.a) ends vs in
    let voices = slots_of_voices 0 frame.lengths.now frame.a frame.b ended in
    let bare = c.in_ok-parts.parts in
    let place = c.in_ok-place.place in
    let verses = c.verses_on-verses.ensures ∙ sym (verses_ended frame.a ends vs) in
    let same : c.as_slice.result.now ≡ bare = search rules in
    let between = map (bridge_at keys) c.args.bridges.now in
    subst (λ t. IfOk c.by_columns-2.result (λ r. r ≡ t))
    (word_columns keys frame.lengths.now frame.a frame.b frame.ranked.rise ended c.requires.ordered bare
    c.in_ok-parts-2.parts place c.in_ok-parts.ensures
    (place_there keys frame.lengths.now frame.a frame.b ended bare c.args.bridges.now place c.in_ok-parts.ensures
    c.requires.bridges
    (c.in_ok-place.ensures
    ∙ ap (λ n. place_outside n (flat_map (λ part. part) c.as_slice.result.now ++ between)) verses
    ∙ ap (λ parts. place_outside (verses_on ended) (flat_map (λ part. part) parts ++ between)) same))
    (c.in_ok-parts-2.ensures
    ∙ with_words_ended keys frame.lengths.now frame.a frame.b 0 (map (λ k. place) keys) bare ends vs)
    ∙ ap (λ n. staff_columns keys n voices) (verses_ended frame.a ends vs))
    c.by_columns-2.ensures
