use Rattle.std.proofs.Common.{◌≡◌, ◌∙◌, ap, length, map, rules, subst, sym}
use Rattle.std.specs.List.{All}
use Rattle.std.proofs.lemmas.List.{take_at}
use Rattle.abc_items.specs.Voices.{starts_of, unnamed_of}
use Rattle.abc_score.specs.Steps.{with_items}
use Rattle.abc_score.specs.Voices.{AreDistinctIds, IsGoodRead, read_ids, voice_before, voices_read}
use Rattle.abc_score.proofs.Ids.{apart_read}
use Rattle.abc_score.proofs.Moving.{IsShort, before_apart, reads_good, voices_are_read}
use Rattle.abc_score.proofs.voices.read_voices.Goals as goal

pub move_steps-requires : goal.move_steps-requires
move_steps-requires c =
    let header = c.args.header.now in let items = c.args.items in
    let begun : c.deref_mut.result.now ≡ map (voice_before header items) (starts_of header items) = search rules in
    subst (λ vs. AreDistinctIds (read_ids vs)) (sym begun)
    (subst AreDistinctIds (sym (before_apart header items (starts_of header items)))
    (apart_read header items c.requires.header))

read : (c : goal.In_ok-check_lengths) → c.move_steps.new.voices ≡ voices_read c.args.header.now c.args.items
read c =
    let header = c.args.header.now in let items = c.args.items in let starts = starts_of header items in
    let begun : c.deref_mut.result.now ≡ map (voice_before header items) starts = search rules in
    let unnamed : c.in_ok-unnamed.unnamed ≡ unnamed_of header = search rules in
    c.in_ok-move_steps.ensures
    ∙ ap (map (with_items c.in_ok-unnamed.unnamed items)) begun
    ∙ ap (λ id. map (with_items id items) (map (voice_before header items) starts)) unnamed
    ∙ voices_are_read header items starts

pub returns-clause-value : goal.returns-clause-value
returns-clause-value c =
    take_at c.move_steps.new.voices _ c.in_ok-voices.voices.len
    (c.move_steps.auto.voices ∙ (ap (λ vs. length vs) c.deref_mut.ensures.value ∙ sym c.in_ok-voices.voices.ok.0))
    ∙ read c

pub returns-clause-good : goal.returns-clause-good
returns-clause-good c =
    let header = c.args.header.now in let items = c.args.items in
    let whole = returns-clause-value c in
    let short : All IsShort (voices_read header items) =
    subst (All IsShort) (c.deref.ensures.value ∙ whole) c.in_ok-check_lengths.ensures in
    subst (All IsGoodRead) (sym whole)
    (reads_good header items (starts_of header items) c.requires.header c.requires.items c.requires.rise short)
