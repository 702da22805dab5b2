use Rattle.std.proofs.Common.{rules, ◌≡◌, ◌^◌, arith, ap, sym, ◌∙◌, Some, length, take, drop, ◌-◌, ◌+◌, ◌≤◌, ◌∷◌, ◌||◌}
use Rattle.std.proofs.Common.{eqb-true}
use Rattle.abc_notes.proofs.CrossLaws.{brace_upto, passing-begins, passing-found, closing-following, rest-following}
use Rattle.abc_notes.proofs.CrossLaws.{passing-small, passing-size}
use Rattle.abc_notes.proofs.CrossLaws.{passing-next, passing-ends, chord-within, clear-none, item-brace, item-at}
use Rattle.abc_notes.proofs.CrossLaws.{length_shorter, brace_fits}
use Rattle.abc_notes.proofs.CrossLaws.{past_is, chord-brace}
use Rattle.abc_notes.proofs.InnerLaws.{found_inner, none_inner, inner_less}
use Rattle.abc_notes.proofs.PartLaws.{all_within}
use Rattle.abc_notes.proofs.GraceLaws.{found_part, none_part, part_less, seeking-begins, seeking-next, seeking-ends}
use Rattle.abc_notes.proofs.GraceLaws.{brace_within}
use Rattle.abc_notes.{specs.{Items.is_inner_note, Graces.is_in_grace}, proofs.CutLaws.none_left}
use Rattle.abc_notes.proofs.grace.+braces.Goals as goal

pub brace_at-parts-init : goal.brace_at-parts-init
brace_at-parts-init t c = seeking-begins c.args.bang c.args.bytes.now

pub brace_at-brace_in_part-requires : goal.brace_at-brace_in_part-requires
brace_at-brace_in_part-requires t c =
    let found = found_part c.args.bang c.parts.rest.now c.in-Some.ensures.read in
    let at = item-at c.args.bang c.in-Some.part found in
    (omega (arith, c.decreases, c.parts.invariant.within), (omega (arith, c.requires, c.parts.invariant.within), at))

pub brace_at-parts-smaller : goal.brace_at-parts-smaller
brace_at-parts-smaller t c = part_less c.args.bang (found_part c.args.bang c.parts.rest.now c.in-Some.ensures.read)

pub brace_at-parts-preserved : goal.brace_at-parts-preserved
brace_at-parts-preserved t c =
    let found = found_part c.args.bang c.parts.rest.now c.in-Some.ensures.read in
    let brace = c.brace_in_part.ensures ∙ item-brace c.args.bang c.in-Some.part found in
    seeking-next c.args.bang c.in-Some.following.now found.part c.parts.invariant found.at
    (rw brace at c.later_or-last.ensures)

pub brace_at-returns-clause-read : goal.brace_at-returns-clause-read
brace_at-returns-clause-read t c =
    let none = none_part c.args.bang c.parts.rest.now c.in_default.ensures.read in
    (rw c.brace_here.ensures at c.later_or.ensures) ∙ seeking-ends c.args.bang c.parts.invariant none

pub brace_at-returns-clause-within : goal.brace_at-returns-clause-within
brace_at-returns-clause-within t c =
    all_within (λ x. x.now) _ c.later_or.result (brace_at-returns-clause-read t c)
    (brace_within c.args.bang c.args.bytes.now)

pub brace_after_chords-parts-init : goal.brace_after_chords-parts-init
brace_after_chords-parts-init t c = passing-begins c.args.bang c.args.inside.now

pub brace_after_chords-brace_between-requires : goal.brace_after_chords-brace_between-requires
brace_after_chords-brace_between-requires t c =
    let stage = c.parts.invariant in let small = passing-small c.args.bang stage (2 ^ 30) c.requires.small in (
      omega (arith, c.decreases, passing-size c.args.bang stage),
      (small, closing-following c.args.bang stage c.bracket_in_name-closing.ensures),
    )

pub brace_after_chords-parts-smaller : goal.brace_after_chords-parts-smaller
brace_after_chords-parts-smaller t c =
    inner_less c.args.bang (found_inner c.args.bang c.parts.rest.now c.in-Some.ensures)

pub brace_after_chords-parts-preserved : goal.brace_after_chords-parts-preserved
brace_after_chords-parts-preserved t c =
    let stage = c.parts.invariant in let f = found_inner c.args.bang c.parts.rest.now c.in-Some.ensures in
    let head =
    c.either-head.ensures ∙ ap (λ b. c.parts.head || b) (c.is_inner_note.ensures ∙ ap is_inner_note f.says) in
    let bracket = rw c.bracket_in_name-closing.ensures at c.later_or-bracket.ensures in
    let found = (rw c.brace_between.ensures at c.later_or-last.ensures)
    ∙ passing-found c.args.bang stage c.bracket_in_name-closing.ensures in
    passing-next c.args.bang stage f.at head bracket
    (found ∙ ap (brace_upto c.args.bang c.args.inside.now) (sym c.later_or-bracket.ensures))

pub brace_after_chords-brace_between-requires-2 : goal.brace_after_chords-brace_between-requires-2
brace_after_chords-brace_between-requires-2 t c =
    let stage = c.parts.invariant in let small = passing-small c.args.bang stage (2 ^ 30) c.requires.small in
    (omega (arith, c.decreases, passing-size c.args.bang stage), (small, rest-following c.args.bang stage))

pub brace_after_chords-returns-clause-read : goal.brace_after_chords-returns-clause-read
brace_after_chords-returns-clause-read t c =
    let none = none_inner c.args.bang c.parts.rest.now c.in_default.ensures in
    (rw c.brace_between-2.ensures at c.later_or.ensures)
    ∙ passing-ends c.args.bang c.parts.invariant none c.requires.good

pub brace_after_chords-returns-clause-within : goal.brace_after_chords-returns-clause-within
brace_after_chords-returns-clause-within t c =
    all_within (λ x. x.now) _ c.later_or.result (brace_after_chords-returns-clause-read t c)
    (chord-within c.args.bang c.args.inside.now)

pub brace_past-overflow_sub-chord : goal.brace_past-overflow_sub-chord
brace_past-overflow_sub-chord t c =
    let first : c.split_at.result.0.now ≡ c.in_ok-following.field-0-0.now ∷ c.in_ok-following.following.now =
    search rules in
    let fits =
    brace_fits c.args.bang c.in_ok-following.following.now c.length_from.ensures c.in_ok-brace.ensures.read in
    omega (arith, ap length first, fits)

pub brace_past-returns : goal.brace_past-returns
brace_past-returns t c =
    let first : c.split_at.result.0.now ≡ c.in_ok-following.field-0-0.now ∷ c.in_ok-following.following.now =
    search rules in
    let prefix : c.split_at.result.0.now ≡ take (length c.args.bracket.now - length c.args.closing.now)
    c.args.bracket.now = search rules in
    let n = length c.split_at.result.0.now - length c.in_ok-brace.brace.now in
    let following : c.split_at-2.result.1.now ≡ drop n c.args.bracket.now = search rules in
    ap Some following
    ∙ past_is c.args.bang c.args.closing.now c.requires.following prefix first c.length_from.ensures
    c.in_ok-brace.ensures.read

pub brace_in_chord-returns-then-is_empty-clause-read : goal.brace_in_chord-returns-then-is_empty-clause-read
brace_in_chord-returns-then-is_empty-clause-read t c =
    let none = eqb-true (length c.braced.result.1.now) 0 (sym c.is_empty.ensures ∙ c.if-is_empty.true) in
    sym (clear-none c.args.bang c.args.inside.now
    (none_left is_in_grace c.args.inside.now _ _ c.braced.ensures.read none))

pub brace_past-brace_at-requires : goal.brace_past-brace_at-requires
brace_past-brace_at-requires t c =
    let first : c.split_at.result.0.now ≡ c.in_ok-following.field-0-0.now ∷ c.in_ok-following.following.now =
    search rules in
    let fits : length c.split_at.result.0.now ≤ length c.args.bracket.now = search rules in
    let shorter = length_shorter c.in_ok-following.following.now c.length_from.ensures in (
      omega (arith, c.decreases, ap length first, fits, shorter),
      omega (arith, c.requires.small, ap length first, fits, shorter),
    )

pub brace_in_part-returns-in_ok-brace-in-Chord : goal.brace_in_part-returns-in_ok-brace-in-Chord
brace_in_part-returns-in_ok-brace-in-Chord t c =
    let n = length c.in-Chord.inside.now + 1 - length c.in_ok-brace-in-Chord.brace.now in
    let following : c.split_at.result.1.now ≡ drop n c.args.bytes.now = search rules in
    ap Some following
    ∙ chord-brace c.args.bang c.args.bytes.now c.in-Chord.is c.requires.chord c.in_ok-brace-in-Chord.ensures.read
