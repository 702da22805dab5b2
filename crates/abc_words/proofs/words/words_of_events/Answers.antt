use Rattle.std.proofs.Common.{◌≡◌, ◌∙◌, ap, map, length, slice_index_or, None, arith}
use Rattle.std.proofs.lemmas.List.FromFn.{length-map-range_with_len}
use Rattle.std.specs.List.{range_with_len}
use Rattle.abc_words.specs.Verses.{verse_count}
use Rattle.abc_words.specs.Words.{event_words, music_rows, words_of_events}
use Rattle.abc_words.proofs.OwnLaws.{no_words_elsewhere, own_words}
use Rattle.abc_words.proofs.Places.{made_more}
use Rattle.abc_words.proofs.WordLaws.{all_long, at_event, verse_places}
use Rattle.abc_words.proofs.words.words_of_events.Goals as goal

pub loop-event-preserved : goal.loop-event-preserved
loop-event-preserved c =
    let verses = c.args.verses in let count = c.args.count in
    let rows = music_rows verses c.args.notes.now in
    made_more (event_words rows (verse_count verses)) c.loop-event.event c.loop-event.words c.push.new.self
    c.in_ok-words_at.field-0
    (at_event rows (verse_count verses) count c.loop-event.event c.in_ok-all.all c.in_ok-words_at.field-0
    c.loop-event-test.true
    (c.in_ok-all.ensures
    ∙ (ap (λ rs. map (verse_places rs count) (range_with_len 0 c.in_ok-number.number))
    (c.as_slice.ensures.value ∙ c.in_ok-rows.ensures)
    ∙ ap (λ n. map (verse_places rows count) (range_with_len 0 n)) c.in_ok-number.ensures.value))
    (c.in_ok-words_at.ensures
    ∙ ap (map (λ ws. slice_index_or ws c.loop-event.event None)) c.as_slice-in-loop-event.ensures))
    c.loop-event.invariant c.in_ok-push.ensures.ok

pub returns-clause-len : goal.returns-clause-len
returns-clause-len c =
    let end : c.loop-event.event ≡ c.args.count = omega arith in
    ap length c.loop-event.invariant
    ∙ (length-map-range_with_len (event_words (music_rows c.args.verses c.args.notes.now) (verse_count c.args.verses)) 0
    c.loop-event.event
    ∙ end)

pub returns-clause-verses : goal.returns-clause-verses
returns-clause-verses c =
    all_long (music_rows c.args.verses c.args.notes.now) (verse_count c.args.verses) c.loop-event.event
    c.loop-event.words c.loop-event.invariant

are : (c : goal.After-drop-rows-2)
    → c.loop-event.words ≡ words_of_events c.args.verses c.args.notes.now c.args.count
are c =
    let end : c.loop-event.event ≡ c.args.count = omega arith in
    c.loop-event.invariant
    ∙ ap (λ n.
    map (event_words (music_rows c.args.verses c.args.notes.now) (verse_count c.args.verses)) (range_with_len 0 n))
    end

pub returns-clause-own : goal.returns-clause-own
returns-clause-own c apart i verse d inside less within =
    own_words c.args.verses c.args.notes.now c.args.count i verse d c.loop-event.words (are c) apart inside less within

pub returns-clause-others : goal.returns-clause-others
returns-clause-others c event verse free less within =
    no_words_elsewhere c.args.verses c.args.notes.now c.args.count event verse c.loop-event.words (are c) free less
    within
