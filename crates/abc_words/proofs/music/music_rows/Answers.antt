use Rattle.abc_words.proofs.WordLaws.{rows_made}
use Rattle.abc_words.proofs.music.music_rows.Goals as goal

pub returns : goal.returns
returns c =
    rows_made c.args.verses c.args.notes.now c.rows.result
    c.in_ok-rows.rows.items c.put_texts.new.rows.items c.put_notes.new.rows.items
    c.rows.ensures
    c.in_ok-rows.ensures.len c.in_ok-put_texts.ensures.len c.in_ok-put_notes.ensures.len
    c.in_ok-rows.ensures.empty c.in_ok-put_texts.ensures.rows
    (rw (← c.as_slice.ensures) c.in_ok-put_notes.ensures.rows)
