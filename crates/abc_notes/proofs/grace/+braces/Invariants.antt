use Rattle.std.proofs.Common.{◌+◌, ◌*◌, length, option_map}
use Rattle.abc_notes.proofs.{GraceLaws.SeekingBrace, CrossLaws.Passing, CrossLaws.size_of}
use Rattle.abc_notes.proofs.grace.+braces.Given as goal

abbrev pub decreases-brace_at : goal.decreases-brace_at
decreases-brace_at l = 4 * length l.bytes.now + 3

abbrev pub decreases-brace_after_chords : goal.decreases-brace_after_chords
decreases-brace_after_chords l = 4 * length l.inside.now + 4

abbrev pub decreases-brace_between : goal.decreases-brace_between
decreases-brace_between l = 4 * size_of (option_map (λ x. x.now) l.bracket) + 1

abbrev pub decreases-brace_past : goal.decreases-brace_past
decreases-brace_past l = 4 * length l.bracket.now

abbrev pub decreases-brace_in_chord : goal.decreases-brace_in_chord
decreases-brace_in_chord l = 4 * length l.inside.now + 5

abbrev pub decreases-brace_in_part : goal.decreases-brace_in_part
decreases-brace_in_part l = 4 * length l.bytes.now + 2

abbrev pub invariant-brace_at-parts : goal.invariant-brace_at-parts
invariant-brace_at-parts l = SeekingBrace l.bang l.bytes (option_map (λ x. x.now) l.last) l.rest

abbrev pub decreases-brace_at-parts : goal.decreases-brace_at-parts
decreases-brace_at-parts l = length l.rest

abbrev pub invariant-brace_after_chords-parts : goal.invariant-brace_after_chords-parts
invariant-brace_after_chords-parts l =
    Passing l.bang l.head l.inside (option_map (λ x. x.now) l.bracket) (option_map (λ x. x.now) l.last) l.rest

abbrev pub decreases-brace_after_chords-parts : goal.decreases-brace_after_chords-parts
decreases-brace_after_chords-parts l = length l.rest
