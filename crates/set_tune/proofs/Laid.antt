-- What the setting of a tune relies on: a score with measures has a voice, a tune has few titles, and few blocks with
-- good heights.
use Rattle.std.proofs.Common.{◌≡◌, ℕ, ℤ, pos, negsuc, zero, suc, ◌+◌, ◌<◌, ◌≤◌, ◌^◌, Bool, List, [], ◌∷◌, ◌++◌, length}
use Rattle.std.proofs.Common.{map, take, Option, Some, None, Result, Ok, Err, sym, subst, refl, arith}
use Rattle.std.proofs.lemmas.List.{length-append, length-map}
use Rattle.std.proofs.lemmas.List.Sums.{sum_by-cons}
use Rattle.std.proofs.lemmas.List.Elements.{All-cons, All-nil}
use Rattle.std.proofs.lemmas.Slice.Zip.{AllZip-long}
use Rattle.std.proofs.lemmas.Option.{same_Some}
use Rattle.std.specs.List.{cons_option, All, AllZip, filter_map}
use Rattle.abc_lines.specs.declared.book.Line.{Line}
use Rattle.abc_lines.specs.declared.book.TuneText.{TuneText}
use Rattle.abc_lines.specs.declared.fault.Fault.{Fault}
use Rattle.abc_lines.specs.declared.fault.FaultKind.{FaultKind}
use Rattle.abc_lines.specs.Good.{IsGoodTune, size_of}
use Rattle.abc_field.specs.declared.field.Field.{Field}
use Rattle.abc_field.specs.Fields.{field_of}
use Rattle.abc_fields.specs.declared.defaults.Defaults.{Defaults}
use Rattle.abc_fields.specs.declared.header.Header.{Header}
use Rattle.abc_fields.specs.Headers.{IsHeaderBy, IsHeaderOf, composer_in, fields_of, key_place, put_field, title_in}
use Rattle.abc_score.specs.declared.voices.ReadVoice.{ReadVoice}
use Rattle.abc_score.specs.Build.{IsScoreOf}
use Rattle.abc_score.specs.Score.{score_with}
use Rattle.abc_score.specs.Voices.{voices_read}
use Rattle.mus_units.specs.declared.key.Key.{Key}
use Rattle.mus_transpose.specs.Moved.{IsMoved, move_from, voice_by}
use Rattle.lay_shared.specs.Plans.{IsPlanFor, score_ids}
use Rattle.lay_shared.proofs.DrawnLaws.{drawn_heard}
use Rattle.lay_shared.proofs.PlanLaws.{spelled-plan}
use Rattle.mus_score.specs.declared.score.Score.{Score}
use Rattle.mus_score.specs.declared.score.Voice.{Voice}
use Rattle.mus_score.specs.GoodScore.{IsGoodScore}
use Rattle.mus_score.specs.Limits.{measure_limit}
use Rattle.mus_laid.specs.declared.laid.SystemMarks.{SystemMarks}
use Rattle.lay_breaks.specs.Breaking.{RisesFrom, last_from}
use Rattle.lay_pages.specs.declared.stacking.Heights.{Heights}
use Rattle.lay_pages.specs.declared.titles.TitleRow.{TitleRow}
use Rattle.lay_tune.{specs.Systems.{IsSetSystem, IsStack}, proofs.Rows.{span_count}}
use Rattle.set_tune.specs.declared.tune.SetTune.{SetTune}
use Rattle.set_tune.specs.Blocks.{HasGoodHeight, blocks_of, is_some_list, system_block, system_blocks, title_blocks}
use Rattle.set_tune.specs.Terms.{Manner}
use Rattle.set_tune.specs.Setting.{HasScore, IsScoreDrawn, IsLaidOut}

-- ---- voices
has_voice : (header : Header) (flow : Bool) (voices : List ReadVoice)
    → 0 < (score_with header flow voices).measures → 1 ≤ length (score_with header flow voices).voices
unfolding score_with
has_voice header flow [] h = absurd (omega (arith, h))
has_voice header flow (v ∷ vs) h = omega arith

-- a score with measures has a voice
pub heard : (header : Header) (tune : TuneText) (flow : Bool) (score : Score)
    → IsScoreOf header tune flow score → 0 < score.measures → 1 ≤ length score.voices
heard header tune flow score h some =
    subst (λ (s : Score). 1 ≤ length s.voices) (sym h.value)
    (has_voice header flow (voices_read header h.items) (subst (λ (s : Score). 0 < s.measures) h.value some))

abbrev pub drawn_as : Score → Result Score Fault
drawn_as s = Ok s

pub same_Ok : (s t : Score) → drawn_as s ≡ drawn_as t → s ≡ t
same_Ok s t e = cc

-- a moved score has as many voices and measures
abbrev IsLike : Score → Score → Type 0
IsLike s t = (length t.voices ≡ length s.voices) × (t.measures ≡ s.measures)

like_moved : (s t : Score) (key : Key) (by : ℤ) → IsMoved s key by (Some t) → IsLike s t
like_moved s t key (pos zero) is = subst (IsLike s) (sym (same_Some t s (is.same refl))) (refl, refl)
like_moved s t key (pos (suc n)) is =
    subst (IsLike s) (sym (is.higher (λ e. cc)).1) (length-map s.voices (voice_by (move_from key (pos (suc n)))), refl)
like_moved s t key (negsuc n) is =
    subst (IsLike s) (sym (is.higher (λ e. cc)).1) (length-map s.voices (voice_by (move_from key (negsuc n))), refl)

-- drawn too
heard_drawn : (staves : Option Line) (written drawn : Score)
    → IsScoreDrawn staves written (Ok drawn) → (0 < written.measures → 1 ≤ length written.voices) → 0 < drawn.measures
    → 1 ≤ length drawn.voices
heard_drawn None written drawn draws h some =
    let same = same_Ok drawn written draws in
    subst (λ (s : Score). 1 ≤ length s.voices) (sym same) (h (subst (λ (s : Score). 0 < s.measures) same some))
heard_drawn (Some line) written drawn (plan, spells, share, is) h some =
    let fits = subst (λ n. IsPlanFor n plan) (length-map written.voices (λ (v : Voice). v.id))
    (spelled-plan (score_ids written) line.text plan spells) in
    subst (λ (s : Score). 1 ≤ length s.voices) (sym is) (drawn_heard written plan fits)

-- moved too
pub heard_moved : (tune : TuneText) (defaults : Defaults) (manner : Manner) (header : Header) (score : Score)
    → HasScore tune defaults manner header score → 0 < score.measures → 1 ≤ length score.voices
heard_moved tune defaults manner header score has some =
    let like = like_moved has.drawn score header.key manner.by has.moved in let voices = like.0 in
    let first = heard_drawn header.staves has.written has.drawn has.draws
    (heard header tune manner.flow has.written has.is.value) (subst (λ n. 0 < n) like.1 some) in
    omega (arith, first, voices)

-- ---- titles and composers

-- what a field yields, if a field of another kind yields nothing, comes from a line that has a byte
given_first : (f : Field → Option (List ℕ))
    → f Field.Other ≡ None → (fs : List Field) (n : ℕ) → length (filter_map f fs) ≤ n
    → length (filter_map f (put_field (field_of []) fs)) ≤ n
unfolding field_of
given_first f none fs n h = subst (λ (o : Option (List ℕ)). length (cons_option o (filter_map f fs)) ≤ n) (sym none) h

cons_few : (o : Option (List ℕ)) (xs : List (List ℕ)) (n : ℕ) → length xs ≤ n → length (cons_option o xs) ≤ suc n
cons_few None xs n h = omega (arith, h)
cons_few (Some t) xs n h = omega (arith, h)

given_put : (f : Field → Option (List ℕ)) (r : Result Field FaultKind) (fs : List Field) (n : ℕ)
    → length (filter_map f fs) ≤ n → length (filter_map f (put_field r fs)) ≤ suc n
given_put f (Err kind) fs n h = omega (arith, h)
given_put f (Ok g) fs n h = cons_few (f g) (filter_map f fs) n h

given_few : (f : Field → Option (List ℕ))
    → f Field.Other ≡ None → (text : List ℕ) (fs : List Field) (n : ℕ) → length (filter_map f fs) ≤ n
    → length (filter_map f (put_field (field_of text) fs)) ≤ length text + n
given_few f none [] fs n h = omega (arith, given_first f none fs n h)
given_few f none (byte ∷ text) fs n h = omega (arith, given_put f (field_of (byte ∷ text)) fs n h)

size_cons : (line : Line) (lines : List Line) → size_of (line ∷ lines) ≡ length line.text + size_of lines
size_cons line lines = sum_by-cons (λ x. x) (length line.text) (map (λ (l : Line). length l.text) lines)

fields_few : (f : Field → Option (List ℕ))
    → f Field.Other ≡ None → (lines : List Line) → length (filter_map f (fields_of lines)) ≤ size_of lines
fields_few f none [] = omega arith
fields_few f none (line ∷ lines) =
    omega (
      arith,
      given_few f none line.text (fields_of lines) (size_of lines) (fields_few f none lines),
      size_cons line lines,
    )

size_within : (n : ℕ) (lines : List Line) → size_of (take n lines) ≤ size_of lines
size_within (suc n) (line ∷ lines) =
    omega (arith, size_within n lines, size_cons line (take n lines), size_cons line lines)
size_within n lines = omega arith

few_by : (f : Field → Option (List ℕ))
    → f Field.Other ≡ None → (tune : TuneText) (n : ℕ) → IsGoodTune tune
    → length (filter_map f (fields_of (take n tune.lines))) ≤ 2 ^ 32
few_by f none tune n good = omega (arith, fields_few f none (take n tune.lines), size_within n tune.lines, good.small)

titles_by : (tune : TuneText) (defaults : Defaults) (header : Header) (place : Option ℕ)
    → IsGoodTune tune → IsHeaderBy tune defaults header place
    → (length header.titles ≤ 2 ^ 32) × (length header.composers ≤ 2 ^ 32)
titles_by tune defaults header None good is = absurd is
titles_by tune defaults header (Some place) good is = (
  subst (λ (h : Header). length h.titles ≤ 2 ^ 32) (sym is) (few_by title_in refl tune (place + 1) good),
  subst (λ (h : Header). length h.composers ≤ 2 ^ 32) (sym is) (few_by composer_in refl tune (place + 1) good),
)

-- a good tune has few titles and composers
pub few_titles : (tune : TuneText) (defaults : Defaults) (header : Header)
    → IsGoodTune tune → IsHeaderOf tune defaults header
    → (length header.titles ≤ 2 ^ 32) × (length header.composers ≤ 2 ^ 32)
unfolding IsHeaderOf
few_titles tune defaults header good is = titles_by tune defaults header (key_place tune.lines) good is

-- ---- blocks

-- stacked systems have good heights
pub good_heights : (s : Score) (systems : List SystemMarks) (heights : List Heights)
    → AllZip (IsStack s) systems heights → All HasGoodHeight heights
good_heights s [] [] h = All-nil HasGoodHeight
good_heights s (m ∷ ms) (h ∷ hs) is =
    All-cons HasGoodHeight h hs (record { low = is.0.low; high = is.0.high }) (good_heights s ms hs is.1)
good_heights s _ _ is = absurd is

few_breaks : (a : ℕ) (breaks : List ℕ) → RisesFrom a breaks → a + length breaks ≤ last_from a breaks
few_breaks a [] h = omega arith
few_breaks a (b ∷ bs) h = omega (arith, h.0, few_breaks b bs h.1)

count_titles : (rows : List TitleRow) (height : ℕ) (keep : Bool) → length (title_blocks rows height keep) ≤ 1
count_titles [] height keep = omega arith
count_titles (row ∷ rows) height keep = omega arith

-- a tune that is laid out has a block for each system, at most one for each measure, and maybe one for its titles
pub few_blocks : (width : ℕ) (t : SetTune)
    → IsGoodScore t.score → IsLaidOut width t → length (blocks_of t.title t.heights) ≤ measure_limit + 1
unfolding blocks_of
few_blocks width t good laid =
    let titles = title_blocks t.title.rows t.title.height (is_some_list t.heights) in
    let together : length (titles ++ system_blocks t.heights) ≡ length titles + length (system_blocks t.heights) =
    length-append titles (system_blocks t.heights) in
    let mapped : length (system_blocks t.heights) ≡ length t.heights = length-map t.heights system_block in
    omega (
      arith,
      together,
      mapped,
      count_titles t.title.rows t.title.height (is_some_list t.heights),
      AllZip-long (IsStack t.score) t.systems t.heights laid.heights,
      (span_count (IsSetSystem t.score width) 0 t.breaking.breaks t.systems t.placed laid.systems).0,
      few_breaks 0 t.breaking.breaks laid.chosen.legal.rises,
      laid.chosen.legal.ends,
      good.few_measures,
    )
